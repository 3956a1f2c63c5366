use Rattle.std.proofs.Common.{rules, arith, subst, sym, ap, ◌∙◌, ◌≡◌, length, List, ℕ}
use Rattle.message_buffer.specs.Buffer.{bytes_of}
use Rattle.worker_board.specs.declared.Parcel.{Parcel}
use Rattle.deferred_calls.specs.Moves.{Answers, with_answer}
use Rattle.deferred_calls.proofs.DeskLemmas.{jobs, sound_answered, has_room, has_numbers, answers}
use Rattle.deferred_calls.proofs.OutLemmas.{answered_out}
use Rattle.deferred_calls.proofs.desk.Desk.answer.Goals as goal

pub forget-requires-clause-rises : goal.forget-requires-clause-rises
forget-requires-clause-rises g c = let d = c.self.inside in
    has_numbers g.D.Duty.answer d.jobs d.given d.waiting.items d.handled.items d.answered.items c.self.invariant.0

pub write_answer-done-requires : goal.write_answer-done-requires
write_answer-done-requires g c = let d = c.self.inside in let t = c.forget.ensures.taken in
    let fit : c.args.out.now ≡ g.D.Duty.answer c.into_job-job.result.parcel.req_type (bytes_of c.into_job-job.result.parcel.ask) = search rules in
    ap length fit
    ∙ has_room g.D.Duty.answer d.jobs d.given t.0 d.waiting.items d.handled.items d.answered.items
    c.into_job-job.result c.self.invariant.0 t.1

pub invariant_of-self : goal.invariant_of-self
invariant_of-self g c = let d = c.self.inside in
    let fit : c.args.out.now ≡ g.D.Duty.answer c.into_job-job.result.parcel.req_type (bytes_of c.into_job-job.result.parcel.ask) = search rules in (
      sound_answered g.D.Duty.answer d.jobs d.given d.waiting.items d.handled.items c.forget.new.handled.items
          d.answered.items c.put_last.new.queue.items c.into_job-job.result c.write_answer-done.result
          c.self.invariant.0 c.forget.ensures.taken c.put_last.ensures.items
          (c.write_answer-done.ensures.answer ∙ fit
          ∙ ap (λ (p : Parcel). g.D.Duty.answer p.req_type (bytes_of p.ask)) (sym c.write_answer-done.ensures.written)),
      search rules,
      omega (arith, c.self.invariant.2, c.forget.ensures.capacity),
      omega (arith, c.self.invariant.3, c.put_last.ensures.capacity),
    )

pub returns-clause-answers : goal.returns-clause-answers
returns-clause-answers g c = let d = c.self.inside in
    let fit : c.args.out.now ≡ g.D.Duty.answer c.into_job-job.result.parcel.req_type (bytes_of c.into_job-job.result.parcel.ask) = search rules in
    subst (λ m. Answers g.D.Duty.answer m c.args.self.now (jobs d.jobs d.given d.waiting.items c.forget.new.handled.items c.put_last.new.queue.items)) c.into_job-job.ensures
    (answers g.D.Duty.answer d.jobs d.given d.waiting.items d.handled.items c.forget.new.handled.items
    d.answered.items c.put_last.new.queue.items c.into_job-job.result c.write_answer-done.result c.args.self.now
    c.self.view_is c.forget.ensures.taken c.put_last.ensures.items
    (c.write_answer-done.ensures.written ∙ ap (λ (b : List ℕ). with_answer b c.into_job-job.result.parcel) fit))

pub returns-clause-out : goal.returns-clause-out
returns-clause-out g c = let d = c.self.inside in
    let fit : c.args.out.now ≡ g.D.Duty.answer c.into_job-job.result.parcel.req_type (bytes_of c.into_job-job.result.parcel.ask) = search rules in
    answered_out g.D.Duty.answer c.args.handle c.args.self.now (jobs d.jobs d.given d.waiting.items c.forget.new.handled.items c.put_last.new.queue.items)
    (subst (λ m. Answers g.D.Duty.answer m c.args.self.now (jobs d.jobs d.given d.waiting.items c.forget.new.handled.items c.put_last.new.queue.items)) c.into_job-job.ensures
    (answers g.D.Duty.answer d.jobs d.given d.waiting.items d.handled.items c.forget.new.handled.items
    d.answered.items c.put_last.new.queue.items c.into_job-job.result c.write_answer-done.result c.args.self.now
    c.self.view_is c.forget.ensures.taken c.put_last.ensures.items
    (c.write_answer-done.ensures.written ∙ ap (λ (b : List ℕ). with_answer b c.into_job-job.result.parcel) fit)))

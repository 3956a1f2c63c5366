use Rattle.std.proofs.Common.{rules, arith, subst}
use Rattle.deferred_calls.specs.Moves.{Answers}
use Rattle.deferred_calls.proofs.DeskLemmas.{jobs, sound_answered, has_room, has_numbers, answers}
use Rattle.deferred_calls.proofs.OutLemmas.{answered_out}
use Rattle.deferred_calls.proofs.desk.Desk.work_here.Goals as goal

pub forget-requires-clause-rises : goal.forget-requires-clause-rises
forget-requires-clause-rises g c = let d = c.self.inside in
    has_numbers g.D.Duty.answer d.jobs d.given d.waiting.items d.handled.items d.answered.items c.self.invariant.0

pub answer_job-done-requires : goal.answer_job-done-requires
answer_job-done-requires g c = let d = c.self.inside in let t = c.forget.ensures.taken in
    has_room g.D.Duty.answer d.jobs d.given t.0 d.waiting.items d.handled.items d.answered.items
    c.into_job-job.result c.self.invariant.0 t.1

pub invariant_of-self : goal.invariant_of-self
invariant_of-self g c = let d = c.self.inside in (
  sound_answered g.D.Duty.answer d.jobs d.given d.waiting.items d.handled.items c.forget.new.handled.items
      d.answered.items c.put_last.new.queue.items c.into_job-job.result c.answer_job-done.result
      c.self.invariant.0 c.forget.ensures.taken c.put_last.ensures.items c.answer_job-done.ensures.answer,
  search rules,
  omega (arith, c.self.invariant.2, c.forget.ensures.capacity),
  omega (arith, c.self.invariant.3, c.put_last.ensures.capacity),
)

pub returns-clause-answers : goal.returns-clause-answers
returns-clause-answers g c = let d = c.self.inside in
    subst (λ m. Answers g.D.Duty.answer m c.args.self.now (jobs d.jobs d.given d.waiting.items c.forget.new.handled.items c.put_last.new.queue.items)) c.into_job-job.ensures
    (answers g.D.Duty.answer d.jobs d.given d.waiting.items d.handled.items c.forget.new.handled.items
    d.answered.items c.put_last.new.queue.items c.into_job-job.result c.answer_job-done.result c.args.self.now
    c.self.view_is c.forget.ensures.taken c.put_last.ensures.items c.answer_job-done.ensures.answered)

pub returns-clause-out : goal.returns-clause-out
returns-clause-out g c = let d = c.self.inside in
    answered_out g.D.Duty.answer c.args.handle c.args.self.now (jobs d.jobs d.given d.waiting.items c.forget.new.handled.items c.put_last.new.queue.items)
    (subst (λ m. Answers g.D.Duty.answer m c.args.self.now (jobs d.jobs d.given d.waiting.items c.forget.new.handled.items c.put_last.new.queue.items)) c.into_job-job.ensures
    (answers g.D.Duty.answer d.jobs d.given d.waiting.items d.handled.items c.forget.new.handled.items
    d.answered.items c.put_last.new.queue.items c.into_job-job.result c.answer_job-done.result c.args.self.now
    c.self.view_is c.forget.ensures.taken c.put_last.ensures.items c.answer_job-done.ensures.answered))

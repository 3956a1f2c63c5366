use Rattle.std.proofs.Common.{◌∙◌, subst, sym, ap, arith, length}
use Rattle.std.specs.List.{AllByRecursion}
use Rattle.std.proofs.lemmas.List.{length-append}
use Rattle.worker_crew.specs.Jobs.{HasRoom, IsAnswered}
use Rattle.rpc_base.proofs.PlaceLemmas.{all-at}
use Rattle.worker_crew.proofs.LocalLemmas.{all-without, works}
use Rattle.worker_crew.proofs.local.LocalWorkers.work.Goals as goal
use Rattle.rpc_base.proofs.FirstLemmas.{all-push}

pub invariant_of-self-2 : goal.invariant_of-self-2
invariant_of-self-2 g c =
    let sound = c.self.invariant.0 in
    let pushed = ap length c.put_last.ensures.items ∙ length-append c.self.inside.worked.items _ in (
      record {
        few = omega (arith, sound.few, c.in-Some.ensures.fewer, pushed);
        room = subst (AllByRecursion (HasRoom g.D.Duty.answer)) (sym c.take_out.ensures.others)
            (all-without (HasRoom g.D.Duty.answer) c.self.inside.waiting.items c.args.j sound.room);
        answered = subst (AllByRecursion (IsAnswered g.D.Duty.answer)) (sym c.put_last.ensures.items)
            (all-push (IsAnswered g.D.Duty.answer) c.self.inside.worked.items _ sound.answered
            c.answer_job-worked.ensures.answer);
      },
      omega (arith, c.self.invariant.1, c.take_out.ensures.capacity),
      omega (arith, c.self.invariant.2, c.put_last.ensures.capacity),
    )

pub returns-clause-worked : goal.returns-clause-worked
returns-clause-worked g c =
    works g.D.Duty.answer c.args.j c.self.inside.jobs c.self.inside.given
    c.self.inside.waiting.items c.self.inside.worked.items
    c.take_out.new.waiting.items c.put_last.new.queue.items c.in-Some.job c.answer_job-worked.result c.args.self.now
    c.self.view_is (sym c.take_out.ensures.job ∙ c.in-Some.is) c.take_out.ensures.others
    c.put_last.ensures.items c.answer_job-worked.ensures.answered

pub answer_job-worked-requires : goal.answer_job-worked-requires
answer_job-worked-requires g c =
    all-at (HasRoom g.D.Duty.answer) c.self.inside.waiting.items c.args.j c.in-Some.job c.self.invariant.0.room
    (sym c.take_out.ensures.job ∙ c.in-Some.is)

use Rattle.std.proofs.Common.{ap, ◌++◌, subst, List}
use Rattle.worker_crew.specs.Crews.{AreOut, kept_by}
use Rattle.worker_crew.specs.Dispatching.{Dispatching}
use Rattle.worker_crew.specs.Hands.{HandName, name_of, knows, took}
use Rattle.worker_crew.proofs.OutLemmas.{came-ours, came-out, came-back, none-out, same-jobs-back}
use Rattle.worker_crew.proofs.crew.stopping.take_in_each.Goals as goal

pub retire-requires-clause-crew : goal.retire-requires-clause-crew
retire-requires-clause-crew g c = let came = c.in-Some.ensures.0 in
    came-ours (kept_by c.args.manner) (name_of c.in-Some.hand) c.loop-hand.invariant.0 came.0 came.1
    came.2 came.3

pub retire-requires-clause-out : goal.retire-requires-clause-out
retire-requires-clause-out g c = let came = c.in-Some.ensures.0 in
    came-out (kept_by c.args.manner) (name_of c.in-Some.hand) c.loop-hand.invariant.0 came.0 came.1
    came.2 came.3

pub loop-hand-preserved : goal.loop-hand-preserved
loop-hand-preserved g c = let came = c.in-Some.ensures.0 in (
  came-back (kept_by c.args.manner) (name_of c.in-Some.hand) c.loop-hand.invariant.0 came.0 came.1
      came.2 came.3 (ap (λ (s : Dispatching). s.board) c.retire.ensures.back) c.retire.ensures.out,
  same-jobs-back (knows c.in-Some.hand) (c.loop-hand.dispatcher.told ++ took c.in-Some.hand)
      c.loop-hand.invariant.1 c.retire.ensures.back,
)

pub returns-in-Alone-clause-out : goal.returns-in-Alone-clause-out
returns-in-Alone-clause-out g c = none-out
    (subst (λ (l : List HandName × List HandName). AreOut c.loop-hand.dispatcher.board
    c.loop-hand.dispatcher.view.out (l.0 ++ l.1))
    (λ i. (c.in_default.ensures.0 i, ap kept_by c.in-Alone.is i)) c.loop-hand.invariant.0)

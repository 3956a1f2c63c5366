use Rattle.std.proofs.Common.{rules, ap, ◌∙◌, ◌++◌, ◌∷◌, [], ◌≡◌, subst, List}
use mathlib.Core.List.{map-append}
use Rattle.std.proofs.lemmas.List.{nil_from_length}
use Rattle.worker_crew.specs.Crews.{AreOut, names}
use Rattle.worker_crew.specs.Dispatching.{Dispatching}
use Rattle.worker_crew.specs.Hands.{HandName, name_of, knows, took}
use Rattle.worker_crew.specs.declared.hand.Hand.{Hand}
use Rattle.worker_crew.proofs.OutLemmas.{is-ours, is-out, last-back, none-out, same-jobs-back}
use Rattle.worker_crew.proofs.crew.starting.retire_each.Goals as goal

last : {D : Type 0} (hs rest : List (Hand D)) (h : Hand D) → hs ≡ rest ++ h ∷ []
    → names hs ≡ names rest ++ name_of h ∷ []
last {D} hs rest h e =
    ap (λ (l : List (Hand D)). names l) e ∙ map-append (λ (x : Hand D). name_of x) rest (h ∷ [])

pub retire-requires-clause-crew : goal.retire-requires-clause-crew
retire-requires-clause-crew g c = is-ours (names c.pop.new.self.items) (name_of c.in-Some.hand) []
    (subst (λ (l : List HandName). AreOut c.loop-hand.dispatcher.board
    c.loop-hand.dispatcher.view.out l)
    (last c.loop-hand.hands.items c.pop.new.self.items c.in-Some.hand c.in-Some.ensures.items)
    c.loop-hand.invariant.0)

pub retire-requires-clause-out : goal.retire-requires-clause-out
retire-requires-clause-out g c = is-out (names c.pop.new.self.items) (name_of c.in-Some.hand) []
    (subst (λ (l : List HandName). AreOut c.loop-hand.dispatcher.board
    c.loop-hand.dispatcher.view.out l)
    (last c.loop-hand.hands.items c.pop.new.self.items c.in-Some.hand c.in-Some.ensures.items)
    c.loop-hand.invariant.0)

pub loop-hand-preserved : goal.loop-hand-preserved
loop-hand-preserved g c = (
  last-back (names c.pop.new.self.items) (name_of c.in-Some.hand) c.loop-hand.invariant.0
      (last c.loop-hand.hands.items c.pop.new.self.items c.in-Some.hand c.in-Some.ensures.items)
      (ap (λ (s : Dispatching). s.board) c.retire.ensures.back) c.retire.ensures.out,
  same-jobs-back (knows c.in-Some.hand) (c.loop-hand.dispatcher.told ++ took c.in-Some.hand)
      c.loop-hand.invariant.1 c.retire.ensures.back,
  ap (λ (s : Dispatching). s.view.used) c.retire.ensures.back ∙ c.loop-hand.invariant.2,
)

pub returns-clause-out : goal.returns-clause-out
returns-clause-out g c = none-out (subst (λ (l : List (Hand g.row.D.Denot)).
    AreOut c.loop-hand.dispatcher.board c.loop-hand.dispatcher.view.out (names l))
    (nil_from_length c.loop-hand.hands.items (search rules)) c.loop-hand.invariant.0)

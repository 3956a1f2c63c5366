use Rattle.std.proofs.Common.{refl}
use Rattle.std.proofs.lemmas.Bool.{false≢true}
use Rattle.session_store.proofs.FrontLemmas.{some-due}
use Rattle.session_store.proofs.store.Store.rests.Goals as goal

pub returns-in-Some : goal.returns-in-Some
returns-in-Some c =
    let due = rw c.in-Some.is at c.front.ensures.due in
    rw (← c.self.view_is)
    (λ no. absurd (false≢true no), λ empty. absurd (some-due c.args.now _ due empty))

pub returns-in-None : goal.returns-in-None
returns-in-None c =
    let none = rw c.in-None.is at c.front.ensures.none in
    rw (← c.self.view_is) (λ _. none, λ _. refl)

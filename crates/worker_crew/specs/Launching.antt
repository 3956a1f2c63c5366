-- What starting a hand on a thread gives.
use Rattle.std.specs.Prelude.{◌≡◌, Result, Ok, Err}
use Rattle.std.specs.declared.thread.PromisedHandle.{PromisedHandle}
use Rattle.worker_crew.specs.declared.hand.Hand.{Hand}
use Rattle.worker_crew.specs.declared.thread_spawner.SameHand.{SameHand}
use Rattle.worker_crew.specs.Hands.{HandName, name_of}

module _ {D : Type 0} where
  -- the name of the hand that a thread gives back
  abbrev pub child_name : PromisedHandle (Hand D) (SameHand D) → HandName
  child_name c = name_of c.promise.0.value

  -- the hand of this name is on a thread, or it came back
  abbrev pub Launched : HandName → Result (PromisedHandle (Hand D) (SameHand D)) (Hand D) → Type 0
  Launched n (Ok c) = child_name c ≡ n
  Launched n (Err h) = name_of h ≡ n

-- What is put in a place, as what is told of it.
use Rattle.std.proofs.Common.{◌≡◌, ◌&&◌, Bool, true, false, cond, Option, Some, None, refl}
use Rattle.lawful_history.specs.Told.{or_told}

pub put-or : {V : Type 0} (a : Bool) (v : V) (o : Option V) → cond a (Some v) o ≡ or_told (cond a (Some v) None) o
put-or true v o = refl
put-or false v o = refl

pub put-at : {V : Type 0} (a b c : Bool) (v : V) (o : Option V)
    → cond ((a && b) && c) (Some v) o ≡ or_told (cond a (cond (b && c) (Some v) None) None) o
put-at true true true v o = refl
put-at true true false v o = refl
put-at true false c v o = refl
put-at false b c v o = refl

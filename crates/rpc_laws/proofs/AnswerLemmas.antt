-- What a service answers to facts one after another.
use Rattle.std.proofs.Common.{◌≡◌, ℕ, List, [], ◌∷◌, ◌++◌, refl}
use Rattle.rpc_base.specs.declared.fact.Fact.{Fact}
use Rattle.rpc_outside.specs.Served.{Served}
use Rattle.rpc_outside.specs.declared.service.Mode.{Mode}
use Rattle.rpc_laws.specs.Service.{Serving, Answers, served_after, served_after_all}

pub served-append : (mode : ℕ → Mode) (served : Served) (x y : List Fact)
    → served_after_all mode served (x ++ y) ≡ served_after_all mode (served_after_all mode served x)
    y
served-append mode served [] y = refl
served-append mode served (f ∷ x) y = served-append mode (served_after mode f.event f.first served) x y

pub answers-append : (v : Serving) (served : Served) (x y : List Fact) → Answers v served x
    → Answers v (served_after_all v.mode served x) y → Answers v served (x ++ y)
answers-append v served [] y a b = b
answers-append v served (f ∷ x) y a b = (a.0, answers-append v (served_after v.mode f.event f.first served) x y a.1 b)

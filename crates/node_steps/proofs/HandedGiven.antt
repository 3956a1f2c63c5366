-- What a continuation was given, one call after another.
use Rattle.std.proofs.Common.{◌≡◌, Option, Some, None, List, [], ◌∷◌, ◌++◌, sym, subst, append_assoc}
use Rattle.std.proofs.Common.{append-nil}
use Rattle.std.specs.Prelude.{option_to_list}
use Rattle.client_core.specs.declared.outcome.Done.{Done}
use Rattle.node_steps.specs.Given.{Gave}

module _ {K : Type 0} (given : K → List Done → Type 0) where
  pub gave-none : (k : K) → Gave given k k []
  gave-none k = λ before h. subst (given k) (sym (append-nil before)) h

  pub gave-same : (from to : K) → to ≡ from → Gave given from to []
  gave-same from to same = rw same (gave-none from)

  pub gave-then : (j k l : K) (x y : List Done) → Gave given j k x → Gave given k l y
      → Gave given j l (x ++ y)
  gave-then j k l x y p q =
      λ before h. subst (given l) (append_assoc before x y) (q (before ++ x) (p before h))

  -- where at most one call is over
  pub gave-no : (o : Option Done) (k : K) → o ≡ None → Gave given k k (option_to_list o)
  gave-no None k e = gave-none k
  gave-no (Some d) k e = cc

  pub gave-one : (o : Option Done) (d : Done) (from to : K) → o ≡ Some d
      → Gave given from to (d ∷ []) → Gave given from to (option_to_list o)
  gave-one None d from to e gave = cc
  gave-one (Some x) d from to e gave =
      let same : x ≡ d = cc in
      subst (λ (y : Done). Gave given from to (y ∷ [])) (sym same) gave

-- What was handed in with calls is given back, step by step.
use Rattle.std.proofs.Common.{◌≡◌, ℕ, List, [], ◌∷◌, ◌++◌, refl, sym, subst}
use Rattle.client_core.specs.Handing.{Handed}
use Rattle.client_core.specs.declared.outcome.Done.{Done}
use Rattle.session_store.specs.Handing.{HandsBackAt}
use Rattle.node_steps.specs.Given.{Gave}
use Rattle.node_steps.proofs.HandedGiven.{gave-same, gave-then}
use Rattle.node_steps.specs.Handed.{GivesBackTo, HandBack}

module _ {K : Type 0} (given : K → List Done → Type 0) where
  pub gives-same : (old new : List (List Handed)) (from to : K) → new ≡ old → to ≡ from
      → GivesBackTo given old new from to
  gives-same old new from to same still = record {
    dones = [];
    back = same;
    gave = gave-same given from to still;
  }

  pub gives-none : (old : List (List Handed)) (from : K) → GivesBackTo given old old from from
  gives-none old from = gives-same old old from from refl refl

  -- one call is over
  pub gives-one : (i : ℕ) (d : Done) (old new : List (List Handed)) (from to : K)
      → HandsBackAt i d old new → Gave given from to (d ∷ [])
      → GivesBackTo given old new from to
  gives-one i d old new from to back gave = record {
    dones = d ∷ [];
    back = (
      new,
      subst (λ n. HandsBackAt n d old new) (sym back.back.of_session) back,
      refl,
    );
    gave = gave;
  }

  -- and then others
  more-back : (xs ys : List Done) (old mid new : List (List Handed)) → HandBack xs old mid
      → HandBack ys mid new → HandBack (xs ++ ys) old new
  more-back [] ys old mid new same back = rw same at back
  more-back (x ∷ xs) ys old mid new (then, one, rest) back =
      (then, one, more-back xs ys then mid new rest back)

  pub gives-more : (old mid new : List (List Handed)) (from by to : K)
      → GivesBackTo given old mid from by → GivesBackTo given mid new by to
      → GivesBackTo given old new from to
  gives-more old mid new from by to h k = record {
    dones = h.dones ++ k.dones;
    back = more-back h.dones k.dones old mid new h.back k.back;
    gave = gave-then given from by to h.dones k.dones h.gave k.gave;
  }

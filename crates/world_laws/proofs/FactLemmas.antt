-- The facts of one node: of a list of its own, of one that it has no part in, and of two lists joined.
use Rattle.std.proofs.Common.{◌≡◌, ℕ, zero, suc, Bool, true, false, List, [], ◌∷◌, ◌++◌, Some, None}
use Rattle.std.proofs.Common.{slice_get, refl, ap, ◌∙◌, eqb}
use Rattle.std.proofs.lemmas.Bool.{eqb-true, eqb-false}
use Rattle.std.proofs.lemmas.List.{append-nil}
use Rattle.std.proofs.lemmas.List.Elements.{filter-append}
use Rattle.std.specs.List.{slice_set}
use Rattle.rpc_base.specs.declared.fact.Fact.{Fact}
use Rattle.rpc_base.specs.declared.fact.Who.TheVariants.{Node}
use Rattle.rpc_laws.specs.AtMostOnce.{is_at}
use Rattle.world_laws.specs.NodeFacts.{facts_of}

-- all of these facts are of node n
abbrev pub AllAt : ℕ → List Fact → Type 0
AllAt n [] = Unit {0}
AllAt n (f ∷ x) = (f.who ≡ Node n) × AllAt n x

-- whether two numbers are the same
eqb-by : (n : ℕ) (b : Bool) → eqb n n ≡ b → eqb n n ≡ true
eqb-by n true e = e
eqb-by n false e = absurd (eqb-false n n e refl)

pub eqb-same : (n : ℕ) → eqb n n ≡ true
eqb-same n = eqb-by n _ refl

eqb-other : (n m : ℕ) (b : Bool) → eqb n m ≡ b → (n ≡ m → ⊥) → eqb n m ≡ false
eqb-other n m true e ne = absurd (ne (eqb-true n m e))
eqb-other n m false e ne = e

-- of two lists joined, of a list of the node's own, and of one of another node
pub facts-append : (n : ℕ) (h x : List Fact) → facts_of n (h ++ x) ≡ facts_of n h ++ facts_of n x
facts-append n h x = filter-append (λ (f : Fact). is_at n f.who) h x

pub facts-own : (n : ℕ) (x : List Fact) → AllAt n x → facts_of n x ≡ x
facts-own n [] a = refl
facts-own n (f ∷ x) a =
    let own : is_at n f.who ≡ true =
    ap (is_at n) a.0 ∙ eqb-same n in rw own
    (ap (λ (y : List Fact). f ∷ y) (facts-own n x a.1))

pub facts-other : (n m : ℕ) (x : List Fact) → (n ≡ m → ⊥) → AllAt n x → facts_of m x ≡ []
facts-other n m [] ne a = refl
facts-other n m (f ∷ x) ne a =
    let other : is_at m f.who ≡ false =
    ap (is_at m) a.0 ∙ eqb-other n m _ refl ne in rw other (facts-other n m x ne a.1)

-- what a node's own facts add
pub facts-grow : (n : ℕ) (h x : List Fact) → AllAt n x → facts_of n (h ++ x) ≡ facts_of n h ++ x
facts-grow n h x a = facts-append n h x ∙ ap (λ y. facts_of n h ++ y) (facts-own n x a)

-- the facts of others add none
pub facts-stay : (n : ℕ) (h x : List Fact) → facts_of n x ≡ [] → facts_of n (h ++ x) ≡ facts_of n h
facts-stay n h x e = facts-append n h x ∙ (ap (λ y. facts_of n h ++ y) e ∙ append-nil (facts_of n h))

module _ {A : Type 0} where
  -- what isn't there still isn't
  pub set-none : (xs : List A) (i j : ℕ) (y : A) → slice_get (slice_set xs i y) j ≡ None → slice_get xs j ≡ None
  set-none [] i j y h = refl
  set-none (z ∷ zs) zero zero y h = cc
  set-none (z ∷ zs) zero (suc j) y h = h
  set-none (z ∷ zs) (suc i) zero y h = cc
  set-none (z ∷ zs) (suc i) (suc j) y h = set-none zs i j y h

  pub add-none : (xs : List A) (y : A) (j : ℕ) → slice_get (xs ++ y ∷ []) j ≡ None → slice_get xs j ≡ None
  add-none [] y j h = refl
  add-none (x ∷ xs) y zero h = cc
  add-none (x ∷ xs) y (suc j) h = add-none xs y j h

  -- what is set to itself stays
  pub set-same : (xs : List A) (i : ℕ) (x : A) → slice_get xs i ≡ Some x → xs ≡ slice_set xs i x
  set-same [] i x h = cc
  set-same (z ∷ zs) zero x h = cc
  set-same (z ∷ zs) (suc i) x h = ap (λ ys. z ∷ ys) (set-same zs i x h)

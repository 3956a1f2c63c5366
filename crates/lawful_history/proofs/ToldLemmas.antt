-- What is told by the newest of some facts.
use Rattle.std.proofs.Common.{◌≡◌, ℕ, zero, suc, ◌<◌, List, [], ◌∷◌, ◌++◌, length, refl, sym, ap, ◌∙◌}
use Rattle.std.proofs.Common.{Option, Some, None, subst, arith, Contains}
use Rattle.std.specs.Prelude.{slice_index_or}
use Rattle.std.proofs.lemmas.List.Elements.{Contains-append_right}
use Rattle.rpc_laws.specs.Endpoints.{Lived}
use Rattle.lawful_history.specs.Told.{newest, or_told}

-- a fact in its place
pub record Stands (past : List Lived) (f : Lived) : Type 0 where
  pub later : List Lived
  pub earlier : List Lived
  pub parts : past ≡ later ++ f ∷ earlier

pub stands-in : (past : List Lived) (f : Lived) → Stands past f → Contains past f
stands-in past f s =
    subst (λ (z : List Lived). Contains z f) (sym s.parts)
    (Contains-append_right s.later (f ∷ s.earlier) f (0, omega arith, refl))

abbrev stands-later : (past : List Lived) (g f : Lived) → Stands past f → Stands (g ∷ past) f
stands-later past g f s =
    record { later = g ∷ s.later; earlier = s.earlier; parts = ap (λ (z : List Lived). g ∷ z) s.parts }

stands-at : (past : List Lived) (k : ℕ) (f : Lived) → k < length past → slice_index_or past k f ≡ f
    → Stands past f
stands-at [] k f lt e = absurd (omega arith)
stands-at (g ∷ past) zero f lt e =
    record { later = []; earlier = past; parts = ap (λ (z : Lived). z ∷ past) e }
stands-at (g ∷ past) (suc k) f lt e = stands-later past g f (stands-at past k f (omega arith) e)

pub in-stands : (past : List Lived) (f : Lived) → Contains past f → Stands past f
in-stands past f h = stands-at past h.0 f h.1 h.2

-- the fact that tells
pub record ToldBy {A : Type 0} (tell : List Lived → Lived → Option A) (past : List Lived) (a : A) : Type 0 where
  pub fact : Lived
  pub at : Stands past fact
  pub tells : tell at.earlier fact ≡ Some a

told-next : {A : Type 0} (tell : List Lived → Lived → Option A) (past : List Lived) (g : Lived) (a : A)
    → ToldBy tell past a → ToldBy tell (g ∷ past) a
told-next tell past g a t = record { fact = t.fact; at = stands-later past g t.fact t.at; tells = t.tells }

told-or : {A : Type 0} (tell : List Lived → Lived → Option A) (past : List Lived) (g : Lived) (a : A)
    (o : Option A) → tell past g ≡ o → (newest tell past ≡ Some a → ToldBy tell past a)
    → or_told o (newest tell past) ≡ Some a → ToldBy tell (g ∷ past) a
told-or tell past g a None is ih e = told-next tell past g a (ih e)
told-or tell past g a (Some b) is ih e =
    record { fact = g; at = record { later = []; earlier = past; parts = refl }; tells = is ∙ e }

pub told-in : {A : Type 0} (tell : List Lived → Lived → Option A) (past : List Lived) (a : A)
    → newest tell past ≡ Some a → ToldBy tell past a
told-in tell [] a e = cc
told-in tell (g ∷ past) a e = told-or tell past g a (tell past g) refl (told-in tell past a) e

-- where a fact tells something is told
pub record HasTold {A : Type 0} (tell : List Lived → Lived → Option A) (past : List Lived) : Type 0 where
  pub value : A
  pub is : newest tell past ≡ Some value

or-some : {A : Type 0} (tell : List Lived → Lived → Option A) (past : List Lived) (g : Lived) (o : Option A)
    → tell past g ≡ o → HasTold tell past → HasTold tell (g ∷ past)
or-some tell past g None e t = record { value = t.value; is = rw e t.is }
or-some tell past g (Some b) e t = record { value = b; is = rw e refl }

told-parts : {A : Type 0} (tell : List Lived → Lived → Option A) (later earlier : List Lived) (f : Lived) (a : A)
    → tell earlier f ≡ Some a → HasTold tell (later ++ f ∷ earlier)
told-parts tell [] earlier f a e = record { value = a; is = rw e refl }
told-parts tell (g ∷ later) earlier f a e =
    or-some tell (later ++ f ∷ earlier) g _ refl (told-parts tell later earlier f a e)

pub told-some : {A : Type 0} (tell : List Lived → Lived → Option A) (past : List Lived) (f : Lived) (a : A)
    → (s : Stands past f) → tell s.earlier f ≡ Some a → HasTold tell past
told-some tell past f a s e =
    subst (λ (z : List Lived). HasTold tell z) (sym s.parts) (told-parts tell s.later s.earlier f a e)

-- and it is that, where no fact tells another
pub told-one : {A : Type 0} (tell : List Lived → Lived → Option A) (past : List Lived) (f : Lived) (a : A)
    → (s : Stands past f) → tell s.earlier f ≡ Some a → ((b : A) → ToldBy tell past b → b ≡ a)
    → newest tell past ≡ Some a
told-one tell past f a s e one =
    let t = told-some tell past f a s e in
    t.is ∙ ap Some (one t.value (told-in tell past t.value t.is))

-- Where the slots' own buffers are, once the newest request of a slot goes on, begins or is given up.
use Rattle.std.proofs.Common.{◌≡◌, ◌≢◌, ℕ, ◌%◌, ◌<◌, ◌≤◌, Bool, true, false, not, cond, Option, Some}
use Rattle.std.proofs.Common.{None, List, [], ◌∷◌, ◌++◌, length, set, refl, sym, ◌∙◌, inl, inr, arith}
use Rattle.std.specs.Prelude.{count_by}
use Rattle.std.specs.List.{find}
use Rattle.std.proofs.lemmas.Bool.{cases_eq, cases_lt, eq-eqb, eqb-true, ne_eqb}
use Rattle.std.proofs.Math.Seq.{get_or-append_seam}
use Rattle.std.proofs.lemmas.List.{get_or_append_left, length-append, length-set}
use Rattle.message_buffer.specs.Buffer.{Buffer}
use Rattle.buffer_pool.proofs.PoolLemmas.{changed_other, changed_own}
use Rattle.rpc_base.specs.Tables.{at_first, without_first}
use Rattle.rpc_base.proofs.FindLemmas.{changed-holds, count-out, none-found, push-found, push-other}
use Rattle.rpc_base.proofs.FindLemmas.{this-changed, this-out}
use Rattle.rpc_base.proofs.TakingLemmas.{find-passes}
use Rattle.server_core.specs.Homes.{AreHome, HasOwn, brought, home_of, is_lent}
use Rattle.server_core.specs.Serving.{gone_on, one_left}
use Rattle.server_core.specs.Session.{is_in_slot}
use Rattle.server_core.specs.declared.slot.SlotRequest.{SlotRequest}
use Rattle.server_core.proofs.ChangedLemmas.{found-put}

-- what changes in one slot
pub home-changed : (homes after : List (Option Buffer)) (old new : List SlotRequest) (slot : ℕ)
    → length after ≡ length homes
    → HasOwn (not (is_lent (find (is_in_slot slot) new))) (home_of after slot)
    → ((i : ℕ) → i ≢ slot → find (is_in_slot i) new ≡ find (is_in_slot i) old)
    → ((i : ℕ) → i ≢ slot → home_of after i ≡ home_of homes i) → AreHome homes old
    → AreHome after new
home-changed homes after old new slot long own other kept home = record {
  all = long ∙ home.all;
  each = λ i below. elim (cases_eq i slot) [
    | inl here ↦ rw here own
    | inr away ↦ rw (other i away, kept i away) (home.each i below)
  ];
}

-- a request isn't in another slot than its own
elsewhere : (q : SlotRequest) (i slot : ℕ) → q.number % 8 ≡ slot → i ≢ slot → is_in_slot i q ≡ false
elsewhere q i slot own away = ne_eqb (q.number % 8) i (λ e. away (sym e ∙ own))

in-slot : (q : SlotRequest) (slot : ℕ) (xs : List SlotRequest) → find (is_in_slot slot) xs ≡ Some q
    → q.number % 8 ≡ slot
in-slot q slot xs found = eqb-true (q.number % 8) slot (find-passes (is_in_slot slot) xs q found)

-- it goes on as another
module _ (homes : List (Option Buffer)) (xs : List SlotRequest) (q d : SlotRequest)
    (found : find (is_in_slot (d.number % 8)) xs ≡ Some q) (home : AreHome homes xs) where
  abbrev slot : ℕ
  slot = d.number % 8

  own-gone : find (is_in_slot slot) (gone_on d xs) ≡ Some d
  own-gone = found-put (is_in_slot slot) d (eq-eqb slot slot refl) q xs found

  other-gone : (i : ℕ) → i ≢ slot → find (is_in_slot i) (gone_on d xs) ≡ find (is_in_slot i) xs
  other-gone i away =
      this-changed (is_in_slot slot) (is_in_slot i) q (λ x. d) xs
      (elsewhere q i slot (in-slot q slot xs found) away) (elsewhere d i slot refl away) found

  -- with its answer where it was
  pub home-replaced : is_lent (Some d) ≡ is_lent (Some q) → AreHome homes (gone_on d xs)
  home-replaced same =
      let before = rw found at (home.each slot (omega arith)) in
      home-changed homes homes xs (gone_on d xs) slot refl (rw (own-gone, same) before) other-gone
      (λ i away. refl) home

  -- with its answer in the slot's own buffer
  pub home-lent : is_lent (Some d) ≡ true → AreHome (set homes slot None) (gone_on d xs)
  home-lent lent =
      let out : home_of (set homes slot None) slot ≡ None =
      changed_own homes slot None None (omega (arith, home.all)) in
      home-changed homes (set homes slot None) xs (gone_on d xs) slot
      (length-set homes slot None) (rw (own-gone, lent, out) tt) other-gone
      (λ i away. changed_other homes slot i None None away) home

-- a reply to it left the queue
pub home-left : (homes : List (Option Buffer)) (xs : List SlotRequest) (t : SlotRequest → Bool)
    → AreHome homes xs → AreHome homes (at_first t one_left xs)
home-left homes xs t home = record {
  all = home.all;
  each = λ i below. changed-holds (λ o. HasOwn (not (is_lent o)) (home_of homes i)) t one_left
      (is_in_slot i) (λ x. refl) xs (λ x found passes own. own) (home.each i below);
}

-- it begins, behind all others
not-lent : (p : SlotRequest → Bool) (xs : List SlotRequest) (d : SlotRequest) → is_lent (Some d) ≡ false
    → is_lent (find p (xs ++ d ∷ [])) ≡ is_lent (find p xs)
not-lent p [] d none = last (p d)
  where
    last : (b : Bool) → is_lent (cond b (Some d) None) ≡ false
    last true = none
    last false = refl
not-lent p (x ∷ xs) d none = later (p x) (not-lent p xs d none)
  where
    later : (b : Bool) → is_lent (find p (xs ++ d ∷ [])) ≡ is_lent (find p xs)
        → is_lent (cond b (Some x) (find p (xs ++ d ∷ []))) ≡ is_lent (cond b (Some x) (find p xs))
    later true ih = refl
    later false ih = ih

pub home-pushed : (homes : List (Option Buffer)) (xs : List SlotRequest) (d : SlotRequest)
    → is_lent (Some d) ≡ false → AreHome homes xs → AreHome homes (xs ++ d ∷ [])
home-pushed homes xs d none home = record {
  all = home.all;
  each = λ i below. rw (not-lent (is_in_slot i) xs d none) (home.each i below);
}

-- the older one of its slot is taken out
module _ (homes : List (Option Buffer)) (xs : List SlotRequest) (slot : ℕ) (q : SlotRequest)
    (few : count_by (is_in_slot slot) xs ≤ 1) (found : find (is_in_slot slot) xs ≡ Some q)
    (home : AreHome homes xs) where
  own-out : find (is_in_slot slot) (without_first (is_in_slot slot) xs) ≡ None
  own-out = none-found (is_in_slot slot) (without_first (is_in_slot slot) xs)
      (count-out (is_in_slot slot) xs few)

  other-out : (i : ℕ) → i ≢ slot
      → find (is_in_slot i) (without_first (is_in_slot slot) xs) ≡ find (is_in_slot i) xs
  other-out i away =
      this-out (is_in_slot slot) (is_in_slot i) q xs
      (elsewhere q i slot (in-slot q slot xs found) away) found

  brought-other : (own : Option Buffer) (i : ℕ) → i ≢ slot
      → home_of (brought slot own homes) i ≡ home_of homes i
  brought-other None i away = refl
  brought-other (Some b) i away = changed_other homes slot i (Some b) None away

  brought-all : (own : Option Buffer) → length (brought slot own homes) ≡ length homes
  brought-all None = refl
  brought-all (Some b) = length-set homes slot (Some b)

  brought-own : (own : Option Buffer) (lent : Bool) → slot < length homes → HasOwn lent own
      → HasOwn (not lent) (home_of homes slot) → HasOwn true (home_of (brought slot own homes) slot)
  brought-own None true within own at = absurd own
  brought-own None false within own at = at
  brought-own (Some b) true within own at = rw (changed_own homes slot (Some b) None within) own
  brought-own (Some b) false within own at = absurd own

  -- and given up
  pub home-given : (own : Option Buffer) → slot < 8 → HasOwn (is_lent (Some q)) own
      → AreHome (brought slot own homes) (without_first (is_in_slot slot) xs)
  home-given own below had =
      let before = rw found at (home.each slot below) in
      home-changed homes (brought slot own homes) xs
      (without_first (is_in_slot slot) xs) slot (brought-all own) (rw own-out (brought-own own
      (is_lent (Some q)) (omega (arith, home.all, below)) had before)) other-out
      (brought-other own) home

  -- a request begins in its place, with its answer where that one's was
  pub home-begun : (d : SlotRequest) → d.number % 8 ≡ slot → is_lent (Some d) ≡ is_lent (Some q)
      → AreHome homes (without_first (is_in_slot slot) xs ++ d ∷ [])
  home-begun d own same =
      let rest = without_first (is_in_slot slot) xs in
      let last : find (is_in_slot slot) (rest ++ d ∷ []) ≡ Some d =
      push-found (is_in_slot slot) rest d own-out (eq-eqb (d.number % 8) slot own) in
      let before : slot < 8 → HasOwn (not (is_lent (Some q))) (home_of homes slot) =
      λ below. rw found at (home.each slot below) in
      home-changed homes homes xs (rest ++ d ∷ []) slot refl
      (rw (last, same) (before (omega (arith, own)))) (λ i away. push-other
      (is_in_slot i) rest d (elsewhere d i slot own away) ∙ other-out i away) (λ i away. refl) home

-- those of the first slots, all at home
abbrev pub AreAllHome : List (Option Buffer) → Type 0
AreAllHome homes = (i : ℕ) → i < length homes → HasOwn true (home_of homes i)

pub one-more-home : (homes : List (Option Buffer)) (o : Option Buffer) → AreAllHome homes
    → HasOwn true o → AreAllHome (homes ++ o ∷ [])
one-more-home homes o all one i within = elim (cases_lt i (length homes)) [
  | inl before ↦ rw (get_or_append_left homes (o ∷ []) None i before) (all i before)
  | inr past ↦
      let last : i ≡ length homes = omega (arith, within, past, length-append homes (o ∷ [])) in
      rw (last, get_or-append_seam homes o [] None) one
]

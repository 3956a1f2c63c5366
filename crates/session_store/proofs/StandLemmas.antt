-- The entries of the ring, each of its session, as one session changes and one entry comes or goes.
use Rattle.std.proofs.Common.{◌≡◌, ℕ, Bool, true, false, ◌||◌, eqb, Option, Some, None, List, []}
use Rattle.std.proofs.Common.{◌∷◌, ◌++◌, refl, sym, ap, subst, ◌∙◌, inl, inr}
use Rattle.std.specs.Prelude.{slice_get, slice_set, drop}
use Rattle.std.specs.List.{AllByRecursion, list_any}
use Rattle.std.proofs.lemmas.Bool.{and_parts, cases_eq, eqb-true}
use Rattle.rpc_base.specs.Owners.{same_owner}
use Rattle.rpc_base.specs.Taking.{TakenOut}
use Rattle.rpc_base.specs.declared.owner.Owner.{Owner}
use Rattle.rpc_base.specs.declared.owner.Owner.TheVariants.{Ask, Reply, Control}
use Rattle.rpc_base.proofs.PlaceLemmas.{set-here, set-other}
use Rattle.packet_rings.specs.Entries.{is_of}
use Rattle.packet_rings.specs.Values.{EntryValue}
use Rattle.client_core.specs.Posting.{IsPacketOf, call_of}
use Rattle.server_core.specs.Session.{Session as Serving}
use Rattle.session_ends.specs.declared.side.Side.{Side}
use Rattle.session_store.specs.Sides.{IsOf, IsOfOwner, is_end}
use Rattle.session_ends.specs.Sides.{IsOfSide}
use Rattle.session_ends.proofs.ListLemmas.{any-kept}

-- a client session changed, and its peer and its state didn't
module _ (sides : List Side) (servers : List Serving) (i : ℕ) (side later : Side)
    (there : slice_get sides i ≡ Some side) (peer : later.peer ≡ side.peer)
    (state : later.stage ≡ side.stage) where
  of-one : (e : EntryValue) (o : Owner)
      → (IsPacketOf (call_of side.session e) e → IsPacketOf (call_of later.session e) e)
      → IsOfOwner sides servers e o → IsOfOwner (slice_set sides i later) servers e o
  of-one e (Ask s r) packet h = elim (cases_eq s i) [
    | inl here ↦ (
        let was : IsOfSide e (Some side) = rw (here, there) at h in
        let now : IsOfSide e (Some later) = (was.0 ∙ sym peer, state ∙ was.1, packet was.2) in
        subst (IsOfSide e) (sym (ap (λ n. slice_get (slice_set sides i later) n) here
        ∙ set-here sides i side later there)) now)
    | inr other ↦ subst (IsOfSide e) (sym (set-other sides i s later other)) h
  ]
  of-one e (Reply t r) packet h = h
  of-one e Control packet h = h

  pub stands-one : (e : EntryValue)
      → (IsPacketOf (call_of side.session e) e → IsPacketOf (call_of later.session e) e)
      → IsOf sides servers e → IsOf (slice_set sides i later) servers e
  stands-one e packet h = of-one e e.owner packet h

  pub stands-all : ((e : EntryValue) → IsPacketOf (call_of side.session e) e → IsPacketOf (call_of later.session e) e)
      → (es : List EntryValue) → AllByRecursion (IsOf sides servers) es
      → AllByRecursion (IsOf (slice_set sides i later) servers) es
  stands-all packet [] all = tt
  stands-all packet (e ∷ es) all = (stands-one e (packet e) all.0, stands-all packet es all.1)

  -- none of the entries is the owner's
  but-cons : (o : Owner) (e : EntryValue) (es : List EntryValue) (b : Bool) → is_of o e ≡ b
      → (is_of o e ≡ false → IsPacketOf (call_of side.session e) e → IsPacketOf (call_of later.session e) e)
      → IsOf sides servers e
      → (list_any (is_of o) es ≡ false → AllByRecursion (IsOf (slice_set sides i later) servers) es)
      → (b || list_any (is_of o) es) ≡ false
      → AllByRecursion (IsOf (slice_set sides i later) servers) (e ∷ es)
  but-cons o e es true t packet was ih none = cc
  but-cons o e es false t packet was ih none = (stands-one e (packet t) was, ih none)

  pub stands-but : (o : Owner)
      → ((e : EntryValue) → is_of o e ≡ false → IsPacketOf (call_of side.session e) e
      → IsPacketOf (call_of later.session e) e)
      → (es : List EntryValue) → AllByRecursion (IsOf sides servers) es
      → list_any (is_of o) es ≡ false → AllByRecursion (IsOf (slice_set sides i later) servers) es
  stands-but o packet [] all none = tt
  stands-but o packet (e ∷ es) all none =
      but-cons o e es (is_of o e) refl (packet e) all.0 (stands-but o packet es all.1) none

-- a packet of a client session stands
pub stands-own : (sides : List Side) (servers : List Serving) (i r : ℕ) (side later : Side)
    (e : EntryValue) → slice_get sides i ≡ Some side → e.owner ≡ Ask i r → IsOfSide e (Some later)
    → IsOf (slice_set sides i later) servers e
stands-own sides servers i r side later e there own is =
    subst (IsOfOwner (slice_set sides i later) servers e) (sym own)
    (subst (IsOfSide e) (sym (set-here sides i side later there)) is)

-- the owner of a call's packets
pub owner-is : (o : Owner) (i r : ℕ) → same_owner o (Ask i r) ≡ true → o ≡ Ask i r
owner-is (Ask s q) i r t =
    let parts = and_parts (eqb s i) (eqb q r) t in
    ap (λ n. Ask n q) (eqb-true s i parts.0) ∙ ap (Ask i) (eqb-true q r parts.1)
owner-is (Reply s q) i r t = cc
owner-is Control i r t = cc

-- the session of a packet that stands
pub record OfSide (sides : List Side) (i : ℕ) (e : EntryValue) : Type 0 where
  pub side : Side
  pub at : slice_get sides i ≡ Some side
  pub is : IsOfSide e (Some side)

of-side-cases : (sides : List Side) (i : ℕ) (e : EntryValue) (o : Option Side)
    → slice_get sides i ≡ o → IsOfSide e o → OfSide sides i e
of-side-cases sides i e None at h = absurd h
of-side-cases sides i e (Some s) at h = record { side = s; at = at; is = h }

pub of-side : (sides : List Side) (servers : List Serving) (i r : ℕ) (e : EntryValue)
    → e.owner ≡ Ask i r → IsOf sides servers e → OfSide sides i e
of-side sides servers i r e own h =
    of-side-cases sides i e (slice_get sides i) refl (subst (IsOfOwner sides servers e) own h)

-- a server session changed, and its number and its peer didn't
module _ (sides : List Side) (servers : List Serving) (i : ℕ) (v w : Serving)
    (there : slice_get servers i ≡ Some v) (number : w.number ≡ v.number)
    (peer : w.peer ≡ v.peer) where
  of-end : (e : EntryValue) (o : Owner) → IsOfOwner sides servers e o
      → IsOfOwner sides (slice_set servers i w) e o
  of-end e (Ask s r) h = h
  of-end e (Reply t r) h = any-kept (is_end t e.peer) servers i v w there (rw (number, peer) refl) ∙ h
  of-end e Control h = h

  pub ends-all : (es : List EntryValue) → AllByRecursion (IsOf sides servers) es
      → AllByRecursion (IsOf sides (slice_set servers i w)) es
  ends-all [] all = tt
  ends-all (e ∷ es) all = (of-end e e.owner all.0, ends-all es all.1)

-- one entry is taken out
module _ {A : Type 0} (P : A → Type 0) where
  all-middle : (xs ys : List A) (x : A) → AllByRecursion P (xs ++ x ∷ ys)
      → P x × AllByRecursion P (xs ++ ys)
  all-middle [] ys x all = all
  all-middle (z ∷ zs) ys x all = let (one, more) = all-middle zs ys x all.1 in (one, (all.0, more))

  pub all-taken : (passes : A → Bool) (x : A) (old new : List A) → TakenOut passes x old new
      → AllByRecursion P old → P x × AllByRecursion P new
  all-taken passes x old new out all =
      let (one, more) = all-middle out.before out.after x (subst (λ xs. AllByRecursion P xs) out.was all) in
      (one, subst (λ xs. AllByRecursion P xs) (sym out.left) more)

-- that in front of all others
front-cases : {A : Type 0} (xs : List A) (x : A) → slice_get xs 0 ≡ Some x
    → TakenOut {A = A} (λ y. false) x xs (drop 1 xs)
front-cases [] x e = cc
front-cases (y ∷ ys) x e = let same : y ≡ x = cc in record { before = []; after = ys; was = ap (λ z. z ∷ ys) same; left = refl; first = refl }

pub front-taken : {A : Type 0} (xs : List A) (x : A) → slice_get xs 0 ≡ Some x
    → TakenOut {A = A} (λ y. false) x xs (drop 1 xs)
front-taken xs x e = front-cases xs x e

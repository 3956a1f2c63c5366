-- One session acts on the pool and the ring that it shares with others, and what holds of those holds then.
use Rattle.std.proofs.Common.{◌≡◌, ℕ, ◌+◌, ◌≤◌, Bool, true, false, ◌&&◌, Option, Some, None, List}
use Rattle.std.proofs.Common.{[], ◌∷◌, length, refl, sym, ap, ◌∙◌, inl, inr, arith}
use Rattle.std.specs.Prelude.{IfSome, map}
use Rattle.std.specs.List.{AllByRecursion}
use Rattle.std.proofs.lemmas.Bool.{cases_lt}
use Rattle.rpc_base.specs.declared.owner.Owner.TheVariants.{Ask, Reply}
use Rattle.rpc_base.proofs.FirstLemmas.{all-each}
use Rattle.buffer_pool.specs.Counting.{Counts}
use Rattle.buffer_pool.specs.Uses.{is_empty, refs_in}
use Rattle.buffer_pool.specs.Pool.{Pool, IsFull, buf_at, refs_of, use_at}
use Rattle.packet_rings.specs.Entries.{is_of}
use Rattle.packet_rings.specs.Mentions.{is_place}
use Rattle.packet_rings.specs.Rings.{Ring}
use Rattle.packet_rings.specs.Values.{EntryValue}
use Rattle.client_core.specs.KeepsPool.{names}
use Rattle.client_core.specs.Shown.{shown_active}
use Rattle.server_core.specs.declared.slot.SlotRequest.{SlotRequest}
use Rattle.server_core.specs.declared.slot.Stored.{Stored}
use Rattle.server_core.specs.Flushing.{HoldsReplies, is_reply_of, named_by}
use Rattle.server_core.specs.KeepsPool.{answer_names, names as slot_names}
use Rattle.server_core.specs.Session.{Session as Serving, answer_of}
use Rattle.server_core.specs.Shown.{shown as shown_server}
use Rattle.session_ends.specs.declared.side.Side.{Side}
use Rattle.session_ends.specs.declared.stage.Stage.{Stage}
use Rattle.session_ends.specs.declared.stage.Stage.TheVariants.{Connecting, Connected, Closing}
use Rattle.session_ends.specs.declared.stage.Stage.TheVariants.{Closed, Failed, Broken}
use Rattle.session_store.specs.Ends.{shown_end}
use Rattle.session_store.specs.Sides.{ServerHolds, ServerQueued, SideQueued, shown_side}
use Rattle.session_store.specs.Sides.{side_handed}
use Rattle.session_ends.specs.Sides.{ServerKept, SideKept}
use Rattle.session_store.proofs.BesideLemmas.{rest, rest-all, rest-count}
use Rattle.session_store.proofs.PlaceLemmas.{IsSame, calls-handed, calls-kept, calls-shown}
use Rattle.session_store.proofs.PlaceLemmas.{named-full, names-own, names-rest, served-full}
use Rattle.session_store.proofs.PlaceLemmas.{slots-kept, slots-shown}
use Rattle.buffer_pool.proofs.PlacesLemmas.{named-one}
use Rattle.server_core.proofs.HoldLemmas.{full-not-empty}

-- a session that named places so often names them so often then: none that another names, and the entries
-- beside its own are as they were
pub record Acts (mine : EntryValue → Bool) (before now : ℕ → ℕ) (pool after : Pool)
    (old new : Ring EntryValue) : Type 0 where
  pub leaves : (p : ℕ) → before p ≡ 0 → is_empty (use_at pool p) ≡ false
      → (now p ≡ 0) × (use_at after p ≡ use_at pool p) × (buf_at after p ≡ buf_at pool p)
  pub few : (p : ℕ) → now p ≤ 1
  pub counts : Counts after new.items
  pub beside : rest mine new.items ≡ rest mine old.items
  pub within : length new.items ≤ new.size
  pub size : new.size ≡ old.size

-- what is shown of a session where its places are as they were
side-shown-by : (pool after : Pool) (s : Side)
    → map (shown_active after) s.session.active ≡ map (shown_active pool) s.session.active
    → shown_side after s ≡ shown_side pool s
side-shown-by pool after s same = cases s.stage
  where
    cases : (stage : Stage)
        → shown_end stage after s.peer s.session ≡ shown_end stage pool s.peer s.session
    cases (Connecting n t) = rw same refl
    cases Connected = rw same refl
    cases (Closing n t) = rw same refl
    cases Closed = rw same refl
    cases Failed = rw same refl
    cases Broken = rw same refl

-- the replies to requests whose places are as they were
module _ (mine : EntryValue → Bool) (pool after : Pool) (n : ℕ) (old new : List EntryValue)
    (same : rest mine new ≡ rest mine old)
    (off : (e : EntryValue) (r : ℕ) → mine e ≡ true → is_of (Reply n r) e ≡ false) where
  none-named : (r p : ℕ) (e : EntryValue) → mine e ≡ true → (b : Bool) → is_of (Reply n r) e ≡ b
      → (b && is_place p e.place) ≡ false
  none-named r p e t true h = let no = off e r t in cc
  none-named r p e t false h = refl

  named-same : (r p : ℕ) → named_by (Reply n r) p new ≡ named_by (Reply n r) p old
  named-same r p = rest-count mine (λ e. is_of (Reply n r) e && is_place p e.place)
      (λ e t. none-named r p e t (is_of (Reply n r) e) refl) old new same

  answer-held : (r : ℕ) (a : Option Stored) → ((p : ℕ) → 1 ≤ answer_names p a → IsSame pool after p)
      → IfSome a (λ x. refs_of pool x.place ≡ named_by (Reply n r) x.place old)
      → IfSome a (λ x. refs_of after x.place ≡ named_by (Reply n r) x.place new)
  answer-held r None places all = tt
  answer-held r (Some a) places all =
      let here = places a.place (omega (arith, named-one a.place a.place refl)) in
      ap refs_in here.use_is ∙ all ∙ sym (named-same r a.place)

  request-held : (q : SlotRequest) (qs : List SlotRequest)
      → ((p : ℕ) → 1 ≤ slot_names p (q ∷ qs) → IsSame pool after p) → HoldsReplies n pool old q
      → HoldsReplies n after new q
  request-held q qs places held = record {
    each = rest-all mine _ (λ e t is. let no = off e q.number t in cc) old new same held.each;
    all = answer-held q.number (answer_of q.state)
        (λ p some. places p (names-own p q qs (omega (arith, some)))) held.all;
  }

  pub requests-held : (qs : List SlotRequest)
      → ((p : ℕ) → 1 ≤ slot_names p qs → IsSame pool after p)
      → AllByRecursion (HoldsReplies n pool old) qs → AllByRecursion (HoldsReplies n after new) qs
  requests-held [] places held = tt
  requests-held (q ∷ qs) places held =
      (request-held q qs places held.0, requests-held qs (λ p some. places p (names-rest p q qs some)) held.1)

module _ (mine : EntryValue → Bool) (before now : ℕ → ℕ) (pool after : Pool)
    (old new : Ring EntryValue) (h : Acts mine before now pool after old new) where
  same-place : (p : ℕ) → before p ≡ 0 → IsFull pool p → IsSame pool after p
  same-place p none full =
      let left = h.leaves p none (full-not-empty (use_at pool p) full) in
      record { use_is = left.1; buf_is = left.2 }

  -- another client session
  module _ (s : Side) (kept : SideKept pool s)
      (apart : (p : ℕ) → names p s.session.active + before p ≤ 1) where
    side-places : (p : ℕ) → 1 ≤ names p s.session.active → IsSame pool after p
    side-places p n = same-place p (omega (arith, apart p, n)) (named-full pool p s.session.active kept.kept n)

    pub side-kept : SideKept after s
    side-kept = record { kept = calls-kept pool after s.session.active side-places kept.kept; apart = kept.apart }

    pub side-shown : shown_side after s ≡ shown_side pool s
    side-shown = side-shown-by pool after s (calls-shown pool after s.session.active side-places)

    pub side-handed : side_handed after s ≡ side_handed pool s
    side-handed = rw (calls-handed pool after s.session.active side-places) refl

  pub side-queued : (s : Side)
      → ((e : EntryValue) (r : ℕ) → mine e ≡ true → is_of (Ask s.session.number r) e ≡ false)
      → SideQueued old.items s → SideQueued new.items s
  side-queued s off all =
      all-each _ _ s.session.active (λ c e. e
      ∙ sym (rest-count mine (is_of (Ask s.session.number c.request))
      (λ x t. off x c.request t) old.items new.items h.beside)) all

  -- another server session
  module _ (v : Serving) (kept : ServerKept pool v)
      (apart : (p : ℕ) → slot_names p v.slots + before p ≤ 1) where
    server-places : (p : ℕ) → 1 ≤ slot_names p v.slots → IsSame pool after p
    server-places p n = same-place p (omega (arith, apart p, n)) (served-full pool p v.slots kept.kept n)

    pub server-kept : ServerKept after v
    server-kept = record { kept = slots-kept pool after v.slots server-places kept.kept; apart = kept.apart }

    pub server-shown : shown_server after v ≡ shown_server pool v
    server-shown = rw (slots-shown pool after v.slots server-places) refl

    pub server-holds : ((e : EntryValue) → mine e ≡ true → is_reply_of v.number e.owner ≡ false)
        → ((e : EntryValue) (r : ℕ) → mine e ≡ true → is_of (Reply v.number r) e ≡ false)
        → ServerHolds pool old.items v → ServerHolds after new.items v
    server-holds away off held = record {
      own = rest-all mine _ (λ e t is. let no = away e t in cc) old.items new.items h.beside held.own;
      each = requests-held mine pool after v.number old.items new.items h.beside off v.slots server-places held.each;
    }

  pub server-queued : (v : Serving)
      → ((e : EntryValue) (r : ℕ) → mine e ≡ true → is_of (Reply v.number r) e ≡ false)
      → ServerQueued old.items v → ServerQueued new.items v
  server-queued v off all =
      all-each _ _ v.slots (λ q e. e ∙ sym (rest-count mine (is_of (Reply v.number q.number))
      (λ x t. off x q.number t) old.items new.items h.beside)) all

  -- no two sessions name a place then
  module _ (total later : ℕ → ℕ) (most : (p : ℕ) → total p ≤ 1)
      (sum : (p : ℕ) → later p + before p ≡ total p + now p) (own : (p : ℕ) → before p ≤ total p)
      (empty : (p : ℕ) → is_empty (use_at pool p) ≡ true → total p ≡ 0) where
    newly : (p : ℕ) (b : Bool) → is_empty (use_at pool p) ≡ b → before p ≡ 0 → 1 ≤ now p
        → total p ≡ 0
    newly p true t none some = empty p t
    newly p false t none some = let left = (h.leaves p none t).0 in absurd (omega (arith, left, some))

    pub apart-then : (p : ℕ) → later p ≤ 1
    apart-then p =
        elim (cases_lt 0 (now p)) [
          | inl some ↦ elim (cases_lt 0 (before p)) [
            | inl was ↦ omega (arith, sum p, most p, own p, h.few p, was)
            | inr none ↦ omega (
              arith,
              sum p,
              h.few p,
              newly p (is_empty (use_at pool p)) refl (omega (arith, none)) (omega (arith, some)),
            )
          ]
          | inr none ↦ omega (arith, sum p, most p, none)
        ]

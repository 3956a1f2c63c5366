-- The places have as many references as entries name them, before and after one is held, released, filled or emptied.
use Rattle.std.proofs.Common.{◌≡◌, ℕ, ◌+◌, Bool, Option, Some, None, List, [], ◌∷◌, ◌++◌}
use Rattle.std.proofs.Common.{get_or, refl, sym, ap, ◌∙◌, inl, inr, arith}
use Rattle.std.specs.Prelude.{IfSome}
use Rattle.std.proofs.lemmas.Bool.{cases_eq}
use Rattle.message_buffer.specs.Buffer.{Buffer}
use Rattle.packet_rings.specs.Mentions.{mentions}
use Rattle.packet_rings.specs.Values.{EntryValue}
use Rattle.packet_rings.proofs.MentionsLemmas.{mentions-append, mentions-none, mentions-other}
use Rattle.packet_rings.proofs.MentionsLemmas.{mentions-own, mentions-taken}
use Rattle.rpc_base.specs.Taking.{TakenOut}
use Rattle.buffer_pool.specs.Counting.{Counts}
use Rattle.buffer_pool.specs.Places.{IsHeld, MayHold, held_at, released_at}
use Rattle.buffer_pool.specs.Pool.{Pool, IsFull, emptied, filled, held, lowest_empty, refs_of}
use Rattle.buffer_pool.specs.Uses.{refs_in}
use Rattle.buffer_pool.specs.declared.usage.Use.TheVariants.{Empty}
use Rattle.buffer_pool.proofs.CountLemmas.{refs_emptied, refs_filled, refs_held_other, refs_released_other}
use Rattle.buffer_pool.proofs.PoolLemmas.{held_refs, released_refs}

-- one reference more, and one less
module _ (pool : Pool) (q : ℕ) where
  pub held-counted : (place : Option ℕ) (e : EntryValue) → e.place ≡ place
      → IfSome place (IsFull pool)
      → refs_of (held_at place pool) q ≡ refs_of pool q + mentions q (e ∷ [])
  held-counted None e is full = omega (arith, mentions-none q e is)
  held-counted (Some p) e is full = elim (cases_eq q p) [
    | inl same ↦ (let own = (held_refs pool p full).1 in let one = mentions-own p e is in rw same (omega (arith, own, one)))
    | inr other ↦ omega (arith, refs_held_other pool p q other, mentions-other q p e is (λ t. other (sym t)))
  ]

  pub released-counted : (place : Option ℕ) (e : EntryValue) → e.place ≡ place → IsHeld pool place
      → refs_of (released_at place pool) q + mentions q (e ∷ []) ≡ refs_of pool q
  released-counted None e is some = omega (arith, mentions-none q e is)
  released-counted (Some p) e is some = elim (cases_eq q p) [
    | inl same ↦ (let own = (released_refs pool p some).1 in let one = mentions-own p e is in rw same (omega (arith, own, one, some)))
    | inr other ↦ omega (arith, refs_released_other pool p q other, mentions-other q p e is (λ t. other (sym t)))
  ]

-- a place that may be held is full
pub may-full : (pool : Pool) (place : Option ℕ) → MayHold pool place → IfSome place (IsFull pool)
may-full pool None may = tt
may-full pool (Some p) may = may.0

module _ (pool : Pool) (es : List EntryValue) (counts : Counts pool es) where
  -- a reply is put behind the entries
  pub counts-held : (place : Option ℕ) (e : EntryValue) → e.place ≡ place → MayHold pool place
      → Counts (held_at place pool) (es ++ e ∷ [])
  counts-held place e is may =
      λ q. omega (
        arith,
        held-counted pool q place e is (may-full pool place may),
        counts q,
        mentions-append q es (e ∷ []),
      )

  pub counts-placed : (p : ℕ) (e : EntryValue) → e.place ≡ Some p → IsFull pool p
      → Counts (held p pool) (es ++ e ∷ [])
  counts-placed p e is full =
      λ q. omega (
        arith,
        held-counted pool q (Some p) e is full,
        counts q,
        mentions-append q es (e ∷ []),
      )

  pub counts-unplaced : (e : EntryValue) → e.place ≡ None → Counts pool (es ++ e ∷ [])
  counts-unplaced e is = λ q. omega (arith, counts q, mentions-append q es (e ∷ []), mentions-none q e is)

  -- one is taken out
  pub counts-released : (passes : EntryValue → Bool) (e : EntryValue) (new : List EntryValue)
      → TakenOut passes e es new → IsHeld pool e.place → Counts (released_at e.place pool) new
  counts-released passes e new out some =
      λ q. omega (
        arith,
        released-counted pool q e.place e refl some,
        counts q,
        mentions-taken q passes e es new out,
      )

  -- a place is filled or emptied
  pub counts-filled : (p : ℕ) (b : Buffer) → lowest_empty pool ≡ Some p → Counts (filled p b pool) es
  counts-filled p b lowest = λ q. refs_filled pool p q b lowest ∙ counts q

  pub counts-emptied : (p : ℕ) → IsFull pool p → refs_of pool p ≡ 0 → Counts (emptied p pool) es
  counts-emptied p full none = λ q. refs_emptied pool p q full none ∙ counts q

  -- the uses of the places are the same
  pub counts-uses : (new : Pool) → new.uses ≡ pool.uses → Counts new es
  counts-uses new same = λ q. ap (λ us. refs_in (get_or us q Empty)) same ∙ counts q

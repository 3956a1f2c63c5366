-- What a session's places are in the pool, before and after a call of the session.
use Rattle.server_core.specs.Session.{ask_of, answer_of}
use Rattle.std.proofs.Common.{◌≡◌, ◌≢◌, ℕ, ◌+◌, ◌-◌, ◌<◌, true, Option}
use Rattle.std.proofs.Common.{Some, None, List, [], ◌∷◌, get_or, length, set, refl, sym, ap, ◌∙◌}
use Rattle.std.proofs.Common.{inl, inr, arith}
use Rattle.std.proofs.lemmas.Bool.{cases_lt}
use Rattle.std.proofs.lemmas.List.{get_or_past, get_or-set_same, set-set}
use Rattle.std.specs.Prelude.{IfSome, map, option_map}
use Rattle.std.specs.List.{AllByRecursion}
use Rattle.std.proofs.lemmas.List.Sums.{sum_by-cons}
use Rattle.message_buffer.specs.Buffer.{Buffer}
use Rattle.buffer_pool.specs.declared.usage.Use.{Use}
use Rattle.buffer_pool.specs.declared.usage.Use.TheVariants.{Empty, Full}
use Rattle.buffer_pool.specs.Uses.{is_empty, is_full, refs_in}
use Rattle.buffer_pool.specs.Pool.{Pool, IsFull, buf_at, changed, emptied, filled, held, refs_of, released, use_at}
use Rattle.buffer_pool.proofs.PoolLemmas.{changed_other}
use Rattle.server_core.specs.declared.slot.Stored.{Stored}
use Rattle.server_core.specs.declared.slot.SlotRequest.{SlotRequest}
use Rattle.server_core.specs.KeepsPool.{IsAsked, IsKept, IsStored, KeepsPool, answer_names}
use Rattle.server_core.specs.KeepsPool.{ask_names, names, own_names}
use Rattle.server_core.specs.Replies.{IsHeld, released_at}
use Rattle.server_core.specs.Shown.{answer_in, ask_in, shown_request}
use Rattle.buffer_pool.proofs.PlacesLemmas.{full-empty, full-cases, unnamed-cases, unnamed-one}

-- one place of a pool changed, and each other is as it was
pub record ChangesOne (p : ℕ) (pool new : Pool) : Type 0 where
  pub other_uses : (q : ℕ) → q ≢ p → use_at new q ≡ use_at pool q
  pub other_bufs : (q : ℕ) → q ≢ p → buf_at new q ≡ buf_at pool q

pub one-held : (p : ℕ) (pool : Pool) → ChangesOne p pool (held p pool)
one-held p pool = record { other_uses = λ q n. changed_other pool.uses p q _ Empty n; other_bufs = λ q n. refl }

pub one-filled : (p : ℕ) (b : Buffer) (pool : Pool) → ChangesOne p pool (filled p b pool)
one-filled p b pool =
    record {
      other_uses = λ q n. changed_other pool.uses p q _ Empty n;
      other_bufs = λ q n. changed_other pool.bufs p q _ None n;
    }

pub one-emptied : (p : ℕ) (pool : Pool) → ChangesOne p pool (emptied p pool)
one-emptied p pool =
    record {
      other_uses = λ q n. changed_other pool.uses p q _ Empty n;
      other_bufs = λ q n. changed_other pool.bufs p q _ None n;
    }

pub one-changed : (p : ℕ) (b : Buffer) (pool : Pool) → ChangesOne p pool (changed p b pool)
one-changed p b pool = record { other_uses = λ q n. refl; other_bufs = λ q n. changed_other pool.bufs p q _ None n }

-- a place that has a buffer, and then another
set-there : (bufs : List (Option Buffer)) (p : ℕ) (a b : Buffer) → get_or bufs p None ≡ Some a
    → get_or (set bufs p (Some b)) p None ≡ Some b
set-there bufs p a b was = elim (cases_lt p (length bufs)) [
  | inl within ↦ get_or-set_same bufs p (Some b) None within
  | inr past ↦ (let clash : None ≡ Some a = sym (get_or_past bufs p None past) ∙ was in cc)
]

pub changed-there : (p : ℕ) (a b : Buffer) (pool : Pool) → buf_at pool p ≡ Some a
    → buf_at (changed p b pool) p ≡ Some b
changed-there p a b pool was = set-there pool.bufs p a b was

pub filled-there : (p : ℕ) (a b : Buffer) (pool : Pool) → buf_at (filled p a pool) p ≡ Some a
    → buf_at (filled p b pool) p ≡ Some b
filled-there p a b pool was =
    ap (λ bufs. get_or bufs p None) (sym (set-set pool.bufs p (Some a) (Some b)))
    ∙ set-there (set pool.bufs p (Some a)) p a b was

-- the last buffer is there from the first on
pub filled-changed : (p : ℕ) (a b : Buffer) (pool : Pool)
    → changed p b (filled p a pool) ≡ filled p b pool
filled-changed p a b pool =
    let whole : List (Option Buffer) → Pool =
    λ bufs. record { uses = set pool.uses p (Full 0); bufs = bufs } in
    ap whole (set-set pool.bufs p (Some a) (Some b))

pub changed-twice : (p : ℕ) (a b : Buffer) (pool : Pool)
    → changed p b (changed p a pool) ≡ changed p b pool
changed-twice p a b pool =
    let whole : List (Option Buffer) → Pool = λ bufs. record { uses = pool.uses; bufs = bufs } in
    ap whole (set-set pool.bufs p (Some a) (Some b))

-- how often requests name a place
pub names-cons : (p : ℕ) (q : SlotRequest) (qs : List SlotRequest) → names p (q ∷ qs) ≡ own_names p q + names p qs
names-cons p q qs = sum_by-cons (own_names p) q qs

pub ask-away : (a p : ℕ) → ask_names p (Some a) ≡ 0 → a ≢ p
ask-away a p e = unnamed-cases a p _ refl e

-- where a place that a request doesn't name changed, the request is kept and shown as before
module _ (p : ℕ) (pool new : Pool) (one : ChangesOne p pool new) where
  answer-off : (o : Option Stored) → answer_names p o ≡ 0 → IfSome o (IsStored pool) → IfSome o (IsStored new)
  answer-off None e kept = tt
  answer-off (Some a) e kept =
      let other = unnamed-cases a.place p _ refl e in
      record {
        full = ap is_full (one.other_uses a.place other) ∙ kept.full;
        size = rw (one.other_bufs a.place other) kept.size;
        own = rw (one.other_bufs a.place other) kept.own;
      }

  pub ask-off : (size : ℕ) (o : Option ℕ) → ask_names p o ≡ 0 → IfSome o (IsAsked pool size)
      → IfSome o (IsAsked new size)
  ask-off size None e kept = tt
  ask-off size (Some a) e kept =
      let other = ask-away a p e in
      record {
        full = ap is_full (one.other_uses a other) ∙ kept.full;
        size_is = rw (one.other_bufs a other) kept.size_is;
        unnamed = ap refs_in (one.other_uses a other) ∙ kept.unnamed;
      }

  pub kept-off : (q : SlotRequest) → own_names p q ≡ 0 → IsKept pool q → IsKept new q
  kept-off q e kept = record {
    ask = ask-off q.size (ask_of q.state) (omega (arith, e)) kept.ask;
    answer = answer-off (answer_of q.state) (omega (arith, e)) kept.answer;
  }

  shown-answer : (o : Option Stored) → answer_names p o ≡ 0
      → option_map (answer_in new) o ≡ option_map (answer_in pool) o
  shown-answer None e = refl
  shown-answer (Some a) e = rw (one.other_bufs a.place (unnamed-cases a.place p _ refl e)) refl

  pub shown-ask : (taken : ℕ) (o : Option ℕ) → ask_names p o ≡ 0 → ask_in new taken o ≡ ask_in pool taken o
  shown-ask taken None e = refl
  shown-ask taken (Some a) e = rw (one.other_bufs a (ask-away a p e)) refl

  pub shown-off : (q : SlotRequest) → own_names p q ≡ 0 → shown_request new q ≡ shown_request pool q
  shown-off q e =
      rw (
        shown-ask q.taken (ask_of q.state) (omega (arith, e)),
        shown-answer (answer_of q.state) (omega (arith, e)),
      ) refl

  all-off : (qs : List SlotRequest) → names p qs ≡ 0 → AllByRecursion (IsKept pool) qs
      → AllByRecursion (IsKept new) qs
  all-off [] e all = tt
  all-off (q ∷ qs) e all =
      let sum = names-cons p q qs in
      (kept-off q (omega (arith, sum, e)) all.0, all-off qs (omega (arith, sum, e)) all.1)

  pub keeps-off : (qs : List SlotRequest) → names p qs ≡ 0 → KeepsPool pool qs → KeepsPool new qs
  keeps-off qs e keeps = record { kept = all-off qs e keeps.kept; apart = keeps.apart }

  pub map-off : (qs : List SlotRequest) → names p qs ≡ 0 → map (shown_request new) qs ≡ map (shown_request pool) qs
  map-off [] e = refl
  map-off (q ∷ qs) e =
      let sum = names-cons p q qs in
      rw (shown-off q (omega (arith, sum, e)), map-off qs (omega (arith, sum, e))) refl

pub empty-other : (pool : Pool) (p q : ℕ) → IsFull pool q → is_empty (use_at pool p) ≡ true → q ≢ p
empty-other pool p q full empty = λ same. full-empty (use_at pool p) (rw same at full) empty

-- no request names an empty place
answer-empty : (pool : Pool) (p : ℕ) (o : Option Stored) → is_empty (use_at pool p) ≡ true
    → IfSome o (IsStored pool) → answer_names p o ≡ 0
answer-empty pool p None empty kept = refl
answer-empty pool p (Some a) empty kept = unnamed-one a.place p (empty-other pool p a.place kept.full empty)

pub ask-empty : (pool : Pool) (p size : ℕ) (o : Option ℕ) → is_empty (use_at pool p) ≡ true
    → IfSome o (IsAsked pool size) → ask_names p o ≡ 0
ask-empty pool p size None empty kept = refl
ask-empty pool p size (Some a) empty kept = unnamed-one a p (empty-other pool p a kept.full empty)

pub own-empty : (pool : Pool) (p : ℕ) (q : SlotRequest) → is_empty (use_at pool p) ≡ true
    → IsKept pool q → own_names p q ≡ 0
own-empty pool p q empty kept =
    omega (
      arith,
      ask-empty pool p q.size (ask_of q.state) empty kept.ask,
      answer-empty pool p (answer_of q.state) empty kept.answer,
    )

pub names-empty : (pool : Pool) (p : ℕ) (qs : List SlotRequest) → is_empty (use_at pool p) ≡ true
    → AllByRecursion (IsKept pool) qs → names p qs ≡ 0
names-empty pool p [] empty kept = refl
names-empty pool p (q ∷ qs) empty kept =
    omega (arith, names-cons p q qs, names-empty pool p qs empty kept.1, own-empty pool p q empty kept.0)

answer-used : (pool : Pool) (p : ℕ) (u : Use) (o : Option Stored) → is_full u ≡ true
    → IfSome o (IsStored pool)
    → IfSome o (IsStored (record { uses = set pool.uses p u; bufs = pool.bufs }))
answer-used pool p u None full kept = tt
answer-used pool p u (Some a) full kept =
    record {
      full = full-cases pool.uses p a.place u full kept.full;
      size = kept.size;
      own = kept.own;
    }

ask-used : (pool : Pool) (p size : ℕ) (u : Use) (o : Option ℕ) → is_full u ≡ true
    → 0 < refs_of pool p → IfSome o (IsAsked pool size)
    → IfSome o (IsAsked (record { uses = set pool.uses p u; bufs = pool.bufs }) size)
ask-used pool p size u None full some kept = tt
ask-used pool p size u (Some a) full some kept =
    let other : a ≢ p = λ same. let there : refs_of pool p ≡ 0 = rw (← same) kept.unnamed in absurd (omega (arith, there, some)) in
    record {
      full = full-cases pool.uses p a u full kept.full;
      size_is = kept.size_is;
      unnamed = ap refs_in (changed_other pool.uses p a u Empty other) ∙ kept.unnamed;
    }

kept-used : (pool : Pool) (p : ℕ) (u : Use) (q : SlotRequest) → is_full u ≡ true
    → 0 < refs_of pool p → IsKept pool q
    → IsKept (record { uses = set pool.uses p u; bufs = pool.bufs }) q
kept-used pool p u q full some kept =
    record {
      ask = ask-used pool p q.size u (ask_of q.state) full some kept.ask;
      answer = answer-used pool p u (answer_of q.state) full kept.answer;
    }

all-released : (pool : Pool) (p : ℕ) (qs : List SlotRequest) → 0 < refs_of pool p
    → AllByRecursion (IsKept pool) qs → AllByRecursion (IsKept (released p pool)) qs
all-released pool p [] some all = tt
all-released pool p (q ∷ qs) some all =
    (kept-used pool p (Full (refs_of pool p - 1)) q refl some all.0, all-released pool p qs some all.1)

-- releasing keeps the pool, and changes no bytes
pub keeps-released : (pool : Pool) (place : Option ℕ) (qs : List SlotRequest) → IsHeld pool place
    → KeepsPool pool qs → KeepsPool (released_at place pool) qs
keeps-released pool None qs some keeps = keeps
keeps-released pool (Some p) qs some keeps =
    record { kept = all-released pool p qs some keeps.kept; apart = keeps.apart }

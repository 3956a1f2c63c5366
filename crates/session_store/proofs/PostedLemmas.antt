-- What a session's posting and its beginning do to its calls, to its credits and to the pool.
use Rattle.std.proofs.Common.{◌≡◌, ◌≢◌, ℕ, ◌+◌, ◌%◌, ◌≤◌, ◌<◌, Bool, true, false, cond, ltb, Option}
use Rattle.std.proofs.Common.{Some, None, List, [], ◌∷◌, length, refl, sym, ap, ◌∙◌, arith}
use Rattle.std.specs.Prelude.{IfSome, option_map, count_by, is_none, is_some, ◌==◌}
use Rattle.std.specs.List.{find, position_or_len}
use Rattle.std.proofs.lemmas.Bool.{eqb-false}
use Rattle.std.proofs.lemmas.List.{length-append}
use Rattle.rpc_base.specs.Tables.{at_first}
use Rattle.rpc_base.proofs.BasicLemmas.{found-at}
use Rattle.rpc_base.proofs.FirstLemmas.{counted-cons, found-holds}
use Rattle.buffer_pool.specs.Places.{IsHeld, held_at, released_at}
use Rattle.buffer_pool.specs.Pool.{Pool, IsFull, filled, spare_of}
use Rattle.buffer_pool.proofs.CountLemmas.{spare_filled, spare_held, spare_released}
use Rattle.packet_header.specs.Parts.{packet_count}
use Rattle.packet_rings.specs.Values.{EntryValue}
use Rattle.credit_book.specs.Credits.{charged}
use Rattle.session_slots.specs.Slots.{lowest_free}
use Rattle.client_core.specs.declared.call.ActiveCall.{ActiveCall}
use Rattle.client_core.specs.KeepsPool.{IsKept, KeepsPool}
use Rattle.client_core.specs.Posting.{Starts, after_posting, entry_of, next_call, next_entry}
use Rattle.client_core.specs.Posting.{one_posted, posted, started}
use Rattle.client_core.specs.Session.{IsSession, Session, call_in, can_post}
use Rattle.client_core.proofs.CallsLemmas.{length-at_first}
use Rattle.client_core.proofs.SessionLemmas.{free-at}

-- places of a pool in which one is held or given up
pub spare-held : (pool : Pool) (place : Option ℕ) → IfSome place (IsFull pool)
    → spare_of (held_at place pool) ≡ spare_of pool
spare-held pool None full = refl
spare-held pool (Some p) full = spare_held pool p full

pub spare-released : (pool : Pool) (place : Option ℕ) → IsHeld pool place
    → spare_of (released_at place pool) ≡ spare_of pool
spare-released pool None some = refl
spare-released pool (Some p) some = spare_released pool p some

-- which call posts
pub record PostsCall (peer : ℕ) (s : Session) (e : EntryValue) : Type 0 where
  pub call : ActiveCall
  pub next : next_call s ≡ Some call
  pub found : find can_post s.active ≡ Some call
  pub free : 0 < s.credits.free
  pub entry : e ≡ entry_of s.number peer call

module _ (peer : ℕ) (s : Session) (e : EntryValue) where
  posts-free : (b : Bool) (o : Option ActiveCall) → (s.credits.free == 0) ≡ b
      → find can_post s.active ≡ o → Some e ≡ option_map (entry_of s.number peer) (cond b None o)
      → PostsCall peer s e
  posts-free true o t f h = cc
  posts-free false None t f h = cc
  posts-free false (Some c) t f h =
      let some : s.credits.free ≢ 0 = eqb-false s.credits.free 0 t in
      record {
        call = c;
        next = rw (t, f) refl;
        found = f;
        free = omega (arith, some);
        entry = some-same e (entry_of s.number peer c) h;
      }
    where
      some-same : (x y : EntryValue) → Some x ≡ Some y → x ≡ y
      some-same x y h = cc

  pub posts-call : Some e ≡ next_entry peer s → PostsCall peer s e
  posts-call h = posts-free (s.credits.free == 0) (find can_post s.active) refl refl h

-- one packet was posted
module _ (pool after : Pool) (peer : ℕ) (s new : Session) (e : EntryValue)
    (keeps : KeepsPool pool s.active) (is : Some e ≡ next_entry peer s) (changed : new ≡ posted s)
    (effect : after ≡ held_at e.place pool) where
  poster : PostsCall peer s e
  poster = posts-call peer s e is

  after-post : new ≡ record s {
    credits = charged (poster.call.request % 8) s.credits;
    active = at_first can_post one_posted s.active;
  }
  after-post = changed ∙ ap (λ o. after_posting o s) poster.next

  pub posted-free : new.credits.free + 1 ≡ s.credits.free
  posted-free = let free = poster.free in omega (arith, ap (λ (x : Session). x.credits.free) after-post, free)

  pub posted-length : length new.active ≡ length s.active
  posted-length = ap (λ (x : Session). length x.active) after-post ∙ length-at_first can_post one_posted s.active

  pub posted-number : new.number ≡ s.number
  posted-number = ap (λ (x : Session). x.number) after-post

  posted-full : IfSome e.place (IsFull pool)
  posted-full = rw (ap (λ (x : EntryValue). x.place) poster.entry)
      (place-full (ltb poster.call.posted (packet_count poster.call.len)))
    where
      place-full : (b : Bool) → IfSome (cond b (Some poster.call.ask) None) (IsFull pool)
      place-full true = (found-holds can_post (IsKept pool) s.active poster.call keeps.kept poster.found).ask
      place-full false = tt

  pub posted-spare : spare_of after ≡ spare_of pool
  posted-spare = ap (λ (x : Pool). spare_of x) effect ∙ spare-held pool e.place posted-full

-- a free slot
module _ {A : Type 0} where
  count-most : (xs : List (Option A)) → count_by is_some xs ≤ length xs
  count-most [] = omega arith
  count-most (None ∷ xs) = omega (arith, counted-cons is_some None xs false refl, count-most xs)
  count-most (Some x ∷ xs) = omega (arith, counted-cons is_some (Some x) xs true refl, count-most xs)

  some-free : (xs : List (Option A)) → position_or_len is_none xs < length xs
      → count_by is_some xs < length xs
  some-free [] h = absurd (omega (arith, h))
  some-free (None ∷ xs) h = omega (arith, counted-cons is_some None xs false refl, count-most xs)
  some-free (Some x ∷ xs) h =
      omega (arith, counted-cons is_some (Some x) xs true refl, some-free xs (omega (arith, h)))

pub free-slot : (s : Session) (i : ℕ) → IsSession s → lowest_free s.slots ≡ Some i
    → length s.active < 8
free-slot s i sound e =
    let (same, within) = found-at (position_or_len is_none s.slots.slots) (length s.slots.slots) i _ refl e in
    omega (arith, sound.count, sound.sound.slots, some-free s.slots.slots within)

-- no active call has it
no-call : (o : Option ActiveCall) → {B : Type 0} (f : ActiveCall → B) → None ≡ option_map f o
    → o ≡ None
no-call None f e = refl
no-call (Some c) f e = cc

pub slot-empty : (s : Session) (i : ℕ) → IsSession s → lowest_free s.slots ≡ Some i
    → call_in i s.active ≡ None
slot-empty s i sound e =
    let (within, none) = free-at s.slots.slots i e in
    no-call (call_in i s.active) _ (sym none ∙ sound.slots i (omega (arith, within, sound.sound.slots)))

module _ (pool after : Pool) (s new : Session) (b : ℕ × ℕ)
    (h : Starts b.0 b.1 s new pool after) where
  abbrev middle : Pool
  middle = filled h.ask h.waiting.req pool

  pub begun-spare : spare_of after + 2 ≡ spare_of pool
  begun-spare = omega (
    arith,
    ap (λ (x : Pool). spare_of x) h.pool,
    spare_filled middle h.answer h.waiting.resp h.answer_place,
    spare_filled pool h.ask
        h.waiting.req h.ask_place,
  )

  pub begun-length : length new.active ≡ length s.active + 1
  begun-length = ap (λ (x : Session). length x.active) h.session
      ∙ length-append s.active (started h.waiting b.1 h.ask h.answer ∷ [])

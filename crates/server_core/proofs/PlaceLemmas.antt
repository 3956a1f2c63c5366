-- A request beside the others of its session: what becomes of its places.
use Rattle.rpc_base.proofs.FirstLemmas.{all-left, all-push, found-holds}
use Rattle.server_core.specs.Session.{ask_of, answer_of}
use Rattle.std.proofs.Common.{◌≡◌, ◌≢◌, ℕ, ◌+◌, ◌<◌, ◌≤◌, Bool, true, false, cond}
use Rattle.std.proofs.Common.{Option, Some, None, List, [], ◌∷◌, ◌++◌, length, take, drop}
use Rattle.std.proofs.Common.{refl, sym, ap, ◌∙◌, inl, inr, arith}
use Rattle.std.specs.Prelude.{IfSome, map}
use Rattle.std.specs.List.{AllByRecursion, find}
use Rattle.std.proofs.lemmas.Bool.{cases_eq}
use Rattle.std.proofs.lemmas.List.{length-append, length-take-le, length-drop}
use Rattle.std.proofs.lemmas.List.Sums.{sum_by-append}
use Rattle.message_buffer.specs.Buffer.{Buffer, overwritten, written}
use Rattle.buffer_pool.specs.declared.usage.Use.TheVariants.{Empty, Full}
use Rattle.buffer_pool.specs.Uses.{is_empty, is_full, refs_in}
use Rattle.buffer_pool.specs.Pool.{Pool, buf_at, changed, emptied, filled, held, lowest_empty}
use Rattle.buffer_pool.proofs.PoolLemmas.{changed_own, held_refs}
use Rattle.rpc_base.specs.Tables.{at_first, without_first}
use Rattle.server_core.specs.declared.slot.Stored.{Stored}
use Rattle.server_core.specs.declared.slot.SlotRequest.{SlotRequest}
use Rattle.server_core.specs.Homes.{HasOwn}
use Rattle.server_core.specs.KeepsPool.{IsAsked, IsKept, IsStored, KeepsPool, answer_names}
use Rattle.server_core.specs.KeepsPool.{ask_names, names, own_names}
use Rattle.server_core.specs.Serving.{without_answer, without_ask, without_buffers}
use Rattle.server_core.specs.Shown.{shown_request}
use Rattle.server_core.proofs.PoolLemmas.{ask-away, ask-empty, ask-off, keeps-off, map-off}
use Rattle.server_core.proofs.PoolLemmas.{names-cons, names-empty, one-changed, one-emptied}
use Rattle.server_core.proofs.PoolLemmas.{one-filled, one-held}
use Rattle.rpc_base.proofs.TablesLemmas.{position-at}
use Rattle.buffer_pool.proofs.PlacesLemmas.{lowest-empty, buffer-within, unnamed-one, named-one}
use Rattle.message_buffer.specs.Messages.{HasSize}
use Rattle.rpc_base.proofs.ChangedLemmas.{sum-changed, sum-without}

pub lowest-within : (pool : Pool) (p : ℕ) → lowest_empty pool ≡ Some p → p < length pool.uses
lowest-within pool p e = (position-at is_empty pool.uses p Empty e).0

-- a request that isn't among the others, each with its places
pub record IsBeside (pool : Pool) (q : SlotRequest) (rest : List SlotRequest) : Type 0 where
  pub own : IsKept pool q
  pub others : KeepsPool pool rest
  pub apart : (p : ℕ) → own_names p q + names p rest ≤ 1

-- the request that a test finds, taken out
pub taken-out : (pool : Pool) (test : SlotRequest → Bool) (slots : List SlotRequest)
    (q : SlotRequest) → find test slots ≡ Some q → KeepsPool pool slots
    → IsBeside pool q (without_first test slots)
taken-out pool test slots q e keeps = record {
  own = found-holds test (IsKept pool) slots q keeps.kept e;
  others = record {
    kept = all-left test (IsKept pool) slots keeps.kept;
    apart = λ p. omega (arith, sum-without test q (own_names p) slots e, keeps.apart p);
  };
  apart = λ p. omega (arith, sum-without test q (own_names p) slots e, keeps.apart p);
}

-- put back where it was, as another
module _ (test : SlotRequest → Bool) (q d : SlotRequest) where
  back-cons : (P : SlotRequest → Type 0) (y : SlotRequest) (ys : List SlotRequest) (b : Bool) → P d
      → (find test ys ≡ Some q → AllByRecursion P (without_first test ys)
      → AllByRecursion P (at_first test (λ x. d) ys)) → cond b (Some y) (find test ys) ≡ Some q
      → AllByRecursion P (cond b ys (y ∷ without_first test ys))
      → AllByRecursion P (cond b (d ∷ ys) (y ∷ at_first test (λ x. d) ys))
  back-cons P y ys true new ih e all = (new, all)
  back-cons P y ys false new ih e all = (all.0, ih e all.1)

  pub all-back : (P : SlotRequest → Type 0) (slots : List SlotRequest) → P d
      → find test slots ≡ Some q → AllByRecursion P (without_first test slots)
      → AllByRecursion P (at_first test (λ x. d) slots)
  all-back P [] new e all = cc
  all-back P (y ∷ ys) new e all = back-cons P y ys (test y) new (all-back P ys new) e all

  pub put-back : (pool : Pool) (slots : List SlotRequest) → find test slots ≡ Some q
      → IsBeside pool d (without_first test slots) → KeepsPool pool (at_first test (λ x. d) slots)
  put-back pool slots e beside = record {
    kept = all-back (IsKept pool) slots beside.own e beside.others.kept;
    apart = λ p. omega (
      arith,
      sum-changed test q (own_names p) (λ x. d) slots e,
      sum-without test q (own_names p) slots e,
      beside.apart p,
    );
  }

-- put behind the others
pub put-behind : (pool : Pool) (d : SlotRequest) (rest : List SlotRequest) → IsBeside pool d rest
    → KeepsPool pool (rest ++ d ∷ [])
put-behind pool d rest beside = record {
  kept = all-push (IsKept pool) rest d beside.others.kept beside.own;
  apart = λ p. omega (arith, sum_by-append (own_names p) rest (d ∷ []), names-cons p d [], beside.apart p);
}

-- a request's own places are no one else's
ask-named : (p : ℕ) (q : SlotRequest) → ask_of q.state ≡ Some p → ask_names p (ask_of q.state) ≡ 1
ask-named p q is = ap (ask_names p) is ∙ named-one p p refl

pub ask-apart : (pool : Pool) (q : SlotRequest) (p : ℕ) (rest : List SlotRequest)
    → IsBeside pool q rest → ask_of q.state ≡ Some p → names p rest ≡ 0
ask-apart pool q p rest beside is = omega (arith, beside.apart p, ask-named p q is)

answer-named : (p : ℕ) (q : SlotRequest) (a : Stored) → answer_of q.state ≡ Some a → a.place ≡ p
    → answer_names p (answer_of q.state) ≡ 1
answer-named p q a is same = ap (answer_names p) is ∙ named-one a.place p same

pub answer-apart : (pool : Pool) (q : SlotRequest) (a : Stored) (rest : List SlotRequest)
    → IsBeside pool q rest → answer_of q.state ≡ Some a → (names a.place rest ≡ 0)
    × (ask_names a.place (ask_of q.state) ≡ 0)
answer-apart pool q a rest beside is =
    let named = answer-named a.place q a is refl in
    (omega (arith, beside.apart a.place, named), omega (arith, beside.apart a.place, named))

pub both-apart : (pool : Pool) (q : SlotRequest) (p : ℕ) (a : Stored) (rest : List SlotRequest)
    → IsBeside pool q rest → ask_of q.state ≡ Some p → answer_of q.state ≡ Some a → p ≢ a.place
both-apart pool q p a rest beside asked is =
    ask-away p a.place (ap (ask_names a.place) (sym asked) ∙ (answer-apart pool q a rest beside is).1)

-- a request with the same places, size and answer
pub beside-as : (pool : Pool) (q d : SlotRequest) (rest : List SlotRequest)
    → ask_of d.state ≡ (ask_of q.state) → d.size ≡ q.size → answer_of d.state ≡ (answer_of q.state)
    → IsBeside pool q rest → IsBeside pool d rest
beside-as pool q d rest ask size answer beside = record {
  own = record {
    ask = rw (ask, size) beside.own.ask;
    answer = rw answer beside.own.answer;
  };
  others = beside.others;
  apart = λ p. rw (ask, answer) (beside.apart p);
}

-- its bytes are put in the lowest empty place
pub beside-asked : (pool : Pool) (p : ℕ) (b : Buffer) (d : SlotRequest) (rest : List SlotRequest)
    → KeepsPool pool rest → lowest_empty pool ≡ Some p → buf_at (filled p b pool) p ≡ Some b
    → ask_of d.state ≡ Some p → answer_of d.state ≡ None → HasSize d.size (Some b)
    → IsBeside (filled p b pool) d rest
beside-asked pool p b d rest keeps lowest there ask none size =
    let free = names-empty pool p rest (lowest-empty pool p lowest) keeps.kept in
    let own = changed_own pool.uses p (Full 0) Empty (lowest-within pool p lowest) in
    record {
      own = record {
        ask = rw ask (record { full = ap is_full own; size_is = rw there size; unnamed = ap refs_in own });
        answer = rw none tt;
      };
      others = keeps-off p pool (filled p b pool) (one-filled p b pool) rest free keeps;
      apart = λ r. rw (ask, none) (elim (cases_eq p r) [
        | inl here ↦ omega (arith, named-one p r here, rw here at free)
        | inr away ↦ omega (arith, unnamed-one p r away, keeps.apart r)
      ]);
    }

-- its answer is put in the lowest empty place
pub beside-answered : (pool : Pool) (p : ℕ) (b : Buffer) (q d : SlotRequest) (a : Stored)
    (rest : List SlotRequest) → IsBeside pool q rest → answer_of q.state ≡ None
    → lowest_empty pool ≡ Some p → buf_at (filled p b pool) p ≡ Some b
    → ask_of d.state ≡ (ask_of q.state) → d.size ≡ q.size → answer_of d.state ≡ Some a → a.place ≡ p
    → HasSize a.size (Some b) → (a.own ≡ true → HasOwn true (Some b))
    → IsBeside (filled p b pool) d rest
beside-answered pool p b q d a rest beside none lowest there ask size answer place fits mine =
    let empty = lowest-empty pool p lowest in
    let free = names-empty pool p rest empty beside.others.kept in
    let other = ask-empty pool p q.size (ask_of q.state) empty beside.own.ask in
    let own = changed_own pool.uses p (Full 0) Empty (lowest-within pool p lowest) in
    let one = one-filled p b pool in
    record {
      own = record {
        ask = rw (ask, size) (ask-off p pool (filled p b pool) one q.size (ask_of q.state) other beside.own.ask);
        answer = rw answer (record {
          full = rw place (ap is_full own);
          size = rw (place, there) fits;
          own = rw (place, there) mine;
        });
      };
      others = keeps-off p pool (filled p b pool) one rest free beside.others;
      apart = λ r. rw (ask, answer, place) (elim (cases_eq p r) [
        | inl here ↦ omega (arith, named-one p r here, rw here at free, rw here at other)
        | inr away ↦ omega (arith, unnamed-one p r away, beside.apart r)
      ]);
    }

-- its answer is held
pub beside-held : (pool : Pool) (q : SlotRequest) (a : Stored) (rest : List SlotRequest)
    → IsBeside pool q rest → answer_of q.state ≡ Some a → IsBeside (held a.place pool) q rest
beside-held pool q a rest beside is =
    let (free, other) = answer-apart pool q a rest beside is in
    let one = one-held a.place pool in
    let stored : IsStored pool a = rw is at beside.own.answer in
    record {
      own = record {
        ask = ask-off a.place pool (held a.place pool) one q.size (ask_of q.state) other beside.own.ask;
        answer = rw is (record {
          full = (held_refs pool a.place stored.full).0;
          size = stored.size;
          own = stored.own;
        });
      };
      others = keeps-off a.place pool (held a.place pool) one rest free beside.others;
      apart = beside.apart;
    }

-- a part of it is written
overwritten-length : (at : ℕ) (from store : List ℕ) → at + length from ≤ length store
    → length (overwritten at from store) ≡ length store
overwritten-length at from store within =
    let front = length-take-le at store (omega (arith, within)) in
    let back = length-drop (at + length from) store in
    omega (
      arith,
      length-append (take at store) (from ++ drop (at + length from) store),
      length-append from (drop (at + length from) store),
      front,
      back,
      within,
    )

answer-written : (pool : Pool) (p : ℕ) (b : Buffer) (o : Option Stored)
    → ((a : Stored) → o ≡ Some a → p ≢ a.place) → IfSome o (IsStored pool)
    → IfSome o (IsStored (changed p b pool))
answer-written pool p b None other kept = tt
answer-written pool p b (Some a) other kept = record {
  full = kept.full;
  size = rw ((one-changed p b pool).other_bufs a.place (λ same. other a refl (sym same))) kept.size;
  own = rw ((one-changed p b pool).other_bufs a.place (λ same. other a refl (sym same))) kept.own;
}

pub beside-written : (pool : Pool) (at : ℕ) (body : List ℕ) (b : Buffer) (q : SlotRequest) (p : ℕ)
    (rest : List SlotRequest) → IsBeside pool q rest → ask_of q.state ≡ Some p
    → buf_at pool p ≡ Some b → at + length body ≤ b.len
    → IsBeside (changed p (written at body b) pool) q rest
beside-written pool at body b q p rest beside is there within =
    let one = one-changed p (written at body b) pool in
    let own = changed_own pool.bufs p (Some (written at body b)) None (buffer-within pool.bufs p b there) in
    let asked : IsAsked pool q.size p = rw is at beside.own.ask in
    let size : HasSize q.size (Some b) = rw there at asked.size_is in
    let same = overwritten-length at body b.store (omega (arith, size.0, size.1, within)) in
    record {
      own = record {
        ask = rw is (record {
          full = asked.full;
          size_is = rw own (size.0, omega (arith, same, size.1));
          unnamed = asked.unnamed;
        });
        answer = answer-written pool p (written at body b) (answer_of q.state)
            (λ a e. both-apart pool q p a rest beside is e) beside.own.answer;
      };
      others = keeps-off p pool (changed p (written at body b) pool) one rest
          (ask-apart pool q p rest beside is) beside.others;
      apart = beside.apart;
    }

-- it is given up, and its places are empty
module _ (pool : Pool) (q : SlotRequest) (rest : List SlotRequest) (beside : IsBeside pool q rest) where
  asked-up : (o : Option ℕ) → ask_of q.state ≡ o → KeepsPool (without_ask o pool) rest
  asked-up None e = beside.others
  asked-up (Some p) e =
      keeps-off p pool (emptied p pool) (one-emptied p pool) rest (ask-apart pool q p rest beside e)
      beside.others

  asked-same : (o : Option ℕ) → ask_of q.state ≡ o
      → map (shown_request (without_ask o pool)) rest ≡ map (shown_request pool) rest
  asked-same None e = refl
  asked-same (Some p) e = map-off p pool (emptied p pool) (one-emptied p pool) rest (ask-apart pool q p rest beside e)

  abbrev unasked : Pool
  unasked = without_ask (ask_of q.state) pool

  answer-up : (o : Option Stored) → ((a : Stored) → o ≡ Some a → names a.place rest ≡ 0)
      → KeepsPool (without_answer o unasked) rest
  answer-up None free = asked-up (ask_of q.state) refl
  answer-up (Some a) free =
      keeps-off a.place unasked (emptied a.place unasked)
      (one-emptied a.place unasked) rest (free a refl) (asked-up (ask_of q.state) refl)

  answer-same : (o : Option Stored) → ((a : Stored) → o ≡ Some a → names a.place rest ≡ 0)
      → map (shown_request (without_answer o unasked)) rest ≡ map (shown_request pool) rest
  answer-same None free = asked-same (ask_of q.state) refl
  answer-same (Some a) free =
      map-off a.place unasked (emptied a.place unasked)
      (one-emptied a.place unasked) rest (free a refl) ∙ asked-same (ask_of q.state) refl

  pub gone-keeps : KeepsPool (without_buffers q pool) rest
  gone-keeps = answer-up (answer_of q.state) (λ a is. (answer-apart pool q a rest beside is).0)

  pub gone-same : map (shown_request (without_buffers q pool)) rest ≡ map (shown_request pool) rest
  gone-same = answer-same (answer_of q.state) (λ a is. (answer-apart pool q a rest beside is).0)

-- its bytes leave the pool, and it goes on without them
pub beside-given : (pool : Pool) (q d : SlotRequest) (p : ℕ) (rest : List SlotRequest)
    → IsBeside pool q rest → ask_of q.state ≡ Some p → answer_of q.state ≡ None
    → ask_of d.state ≡ None → answer_of d.state ≡ None → IsBeside (emptied p pool) d rest
beside-given pool q d p rest beside is none asked answer = record {
  own = record { ask = rw asked tt; answer = rw answer tt };
  others = keeps-off p pool (emptied p pool) (one-emptied p pool) rest
      (ask-apart pool q p rest beside is) beside.others;
  apart = λ r. rw (asked, answer) (omega (arith, beside.others.apart r));
}

-- The pool once a part of an answer is written, and once a call's buffers are taken out.
use Rattle.std.proofs.Common.{◌≡◌, ◌≢◌, ℕ, ◌+◌, ◌-◌, ◌*◌, ◌≤◌, Bool, true, false, cond, eqb}
use Rattle.std.proofs.Common.{Option, Some, None, List, [], ◌∷◌, ◌++◌, length, set, take}
use Rattle.std.proofs.Common.{drop, refl, sym, ap, ◌∙◌, arith, length-append, length-drop}
use Rattle.std.specs.List.{find}
use Rattle.std.proofs.lemmas.Bool.{eqb-true}
use Rattle.std.proofs.lemmas.List.{length-take-le, set-set, set_comm}
use Rattle.packet_header.specs.Parts.{packet_count}
use Rattle.packet_header.specs.declared.packet.MessageHeader.{MessageHeader}
use Rattle.message_buffer.specs.Buffer.{Buffer, capacity_of, overwritten}
use Rattle.buffer_pool.specs.declared.usage.Use.TheVariants.{Empty}
use Rattle.buffer_pool.specs.Uses.{is_full, refs_in}
use Rattle.buffer_pool.specs.Pool.{Pool, buf_at, changed, emptied, refs_of}
use Rattle.buffer_pool.proofs.PoolLemmas.{changed_other, changed_own}
use Rattle.rpc_base.specs.Tables.{at_first, without_first}
use Rattle.rpc_laws.specs.Calls.{is_response}
use Rattle.rpc_laws.specs.ClientTable.{is_same_size}
use Rattle.client_core.specs.declared.call.ActiveCall.{ActiveCall}
use Rattle.client_core.specs.KeepsPool.{HasRoom, IsKept, IsTold, KeepsPool, names}
use Rattle.client_core.specs.Replies.{IsPart, answered, is_request, replied, rewritten_at, sized}
use Rattle.client_core.specs.Replies.{with_part, without_buffers}
use Rattle.rpc_base.proofs.ChangedLemmas.{all-changed, sum-changed, sum-without}
use Rattle.client_core.proofs.PlacesLemmas.{names-answer, names-ask, names-without, others-all}
use Rattle.client_core.proofs.PlacesLemmas.{two-places, unnamed-all}
use Rattle.rpc_base.proofs.FirstLemmas.{found-holds, all-left}
use Rattle.buffer_pool.proofs.PlacesLemmas.{buffer-within}

-- overwriting within a list leaves its length
pub length-overwritten : (at : ℕ) (from bytes : List ℕ) → at + length from ≤ length bytes
    → length (overwritten at from bytes) ≡ length bytes
length-overwritten at from bytes within =
    omega (
      arith,
      length-append (take at bytes) (from ++ drop (at + length from) bytes),
      length-append from (drop (at + length from) bytes),
      length-take-le at bytes (omega arith),
      length-drop (at + length from) bytes,
    )

-- a buffer with a part of an answer
sized-len : (told : Option ℕ) (s room : ℕ) (b : Buffer) → capacity_of b ≡ room
    → IsTold room b.len told → is_same_size told s ≡ true → s ≤ room → ((sized told s b).len ≡ s)
    × (capacity_of (sized told s b) ≡ room)
sized-len None s room b cap told same fits = (refl, cap)
sized-len (Some t) s room b cap told same fits = let is : t ≡ s = eqb-true t s same in (told.0 ∙ is, cap)

pub part-room : (c : ActiveCall) (h : MessageHeader) (body : List ℕ) (b : Buffer)
    → HasRoom c.room c.size (Some b) → IsPart c h (length body)
    → ((with_part c h body b).len ≡ h.size) × (capacity_of (with_part c h body b) ≡ c.room)
part-room c h body b has part =
    let k = sized-len c.size h.size c.room b has.0 has.1 part.same part.fits in
    let within : 1024 * (h.number + 1 - packet_count c.len)
    + length body ≤ capacity_of (sized c.size h.size b) =
    omega (arith, part.within, part.fits, k.1) in (
      k.0,
      length-overwritten (1024 * (h.number + 1 - packet_count c.len)) body
          (sized c.size h.size b).store within ∙ k.1,
    )

told-kept : (c : ActiveCall) (h : MessageHeader) (len room : ℕ) → len ≡ h.size
    → is_same_size c.size h.size ≡ true → h.size ≤ room → IsTold room len c.size
told-kept c h len room is same fits = told-by c.size h.size len room is same fits
  where
    told-by : (told : Option ℕ) (s len room : ℕ) → len ≡ s → is_same_size told s ≡ true → s ≤ room
        → IsTold room len told
    told-by None s len room is same fits = tt
    told-by (Some t) s len room is same fits = let e : t ≡ s = eqb-true t s same in (is ∙ sym e, omega (arith, fits, e))

-- a call keeps its places where the buffer of another place changes
kept-changed : (pool : Pool) (p : ℕ) (b : Buffer) (x : ActiveCall) → x.ask ≢ p → x.answer ≢ p
    → IsKept pool x → IsKept (changed p b pool) x
kept-changed pool p b x ask answer kept = record {
  ask = kept.ask;
  answer = kept.answer;
  size = rw (changed_other pool.bufs p x.ask (Some b) None ask) kept.size;
  room = rw (changed_other pool.bufs p x.answer (Some b) None answer) kept.room;
  unnamed = kept.unnamed;
}

-- what is kept of the call that a part is written for
module _ (pool : Pool) (c : ActiveCall) (h : MessageHeader) (body : List ℕ) (kept : IsKept pool c)
    (apart : c.ask ≢ c.answer) where
  -- the buffer for the answer is there
  pub none-kept : buf_at pool c.answer ≡ None → ⊥
  none-kept e = rw e at kept.room

  pub room-some : (b : Buffer) → buf_at pool c.answer ≡ Some b → HasRoom c.room c.size (Some b)
  room-some b e = rw e at kept.room

  -- with its new part, for a call that differs in its counts and in what is told of the answer
  kept-part : (d : ActiveCall) (b : Buffer) → buf_at pool c.answer ≡ Some b
      → IsPart c h (length body) → d.ask ≡ c.ask → d.answer ≡ c.answer → d.len ≡ c.len
      → d.room ≡ c.room → IsTold c.room h.size d.size
      → IsKept (changed c.answer (with_part c h body b) pool) d
  kept-part d b e part ask answer len room told =
      let k = part-room c h body b (room-some b e) part in
      let within = buffer-within pool.bufs c.answer b e in
      let own = changed_own pool.bufs c.answer (Some (with_part c h body b)) None within in
      record {
        ask = rw ask kept.ask;
        answer = rw answer kept.answer;
        size = rw (
          ask,
          len,
          changed_other pool.bufs c.answer c.ask (Some (with_part c h body b))
              None apart,
        ) kept.size;
        room = rw (answer, room, own) (k.1, rw k.0 told);
        unnamed = rw answer kept.unnamed;
      }

-- a call with the same places, sizes and room is kept as well
kept-as : (pool : Pool) (c d : ActiveCall) → d.ask ≡ c.ask → d.answer ≡ c.answer → d.len ≡ c.len
    → d.room ≡ c.room → d.size ≡ c.size → IsKept pool c → IsKept pool d
kept-as pool c d ask answer len room size kept = record {
  ask = rw ask kept.ask;
  answer = rw answer kept.answer;
  size = rw (ask, len) kept.size;
  room = rw (answer, room, size) kept.room;
  unnamed = rw answer kept.unnamed;
}

-- the names of a call that is changed
names-changed : (test : ActiveCall → Bool) (c d : ActiveCall) (calls : List ActiveCall) (p : ℕ)
    → d.ask ≡ c.ask → d.answer ≡ c.answer → find test calls ≡ Some c
    → names p (at_first test (λ x. d) calls) ≡ names p calls
names-changed test c d calls p ask answer e =
    let one = ap (λ a. cond {A = ℕ} (eqb a p) 1 0) ask in
    let two = ap (λ a. cond {A = ℕ} (eqb a p) 1 0) answer in
    omega (
      arith,
      sum-changed test c (λ x. cond (eqb x.ask p) 1 0 + cond (eqb x.answer p) 1 0)
          (λ x. d) calls e,
      one,
      two,
    )

-- the pool keeps the calls where one of them is replaced by another with the same places
pub keeps-replaced : (pool : Pool) (test : ActiveCall → Bool) (c d : ActiveCall)
    (calls : List ActiveCall) → d.ask ≡ c.ask → d.answer ≡ c.answer → d.len ≡ c.len
    → d.room ≡ c.room → d.size ≡ c.size → find test calls ≡ Some c → KeepsPool pool calls
    → KeepsPool pool (at_first test (λ x. d) calls)
keeps-replaced pool test c d calls ask answer len room size e keeps = record {
  kept = all-changed test c (IsKept pool) (λ x. d) calls keeps.kept
      (kept-as pool c d ask answer len room size
      (found-holds test (IsKept pool) calls c keeps.kept e)) e;
  apart = λ p. omega (arith, names-changed test c d calls p ask answer e, keeps.apart p);
}

-- and a part of its answer is written
module _ (pool : Pool) (test : ActiveCall → Bool) (c d : ActiveCall) (h : MessageHeader)
    (body : List ℕ) (calls : List ActiveCall) (e : find test calls ≡ Some c)
    (keeps : KeepsPool pool calls) (ask : d.ask ≡ c.ask) (answer : d.answer ≡ c.answer)
    (len : d.len ≡ c.len) (room : d.room ≡ c.room) where
  part-cases : (o : Option Buffer) → buf_at pool c.answer ≡ o → IsPart c h (length body)
      → IsTold c.room h.size d.size
      → KeepsPool (rewritten_at c.answer (with_part c h body) o pool) (at_first test (λ x. d) calls)
  part-cases None is part told =
      absurd (none-kept pool c h body (found-holds test (IsKept pool) calls c keeps.kept e)
      (two-places test c calls e (keeps.apart c.ask)) is)
  part-cases (Some b) is part told = record {
    kept = others-all c.answer (IsKept pool) (IsKept (changed c.answer (with_part c h body b) pool))
        (λ x one two k. kept-changed pool c.answer (with_part c h body b) x one two k) test (λ x. d)
        c (names-answer c) (kept-part pool c h body
        (found-holds test (IsKept pool) calls c keeps.kept e)
        (two-places test c calls e (keeps.apart c.ask)) d b is part ask answer len room told) calls
        (keeps.apart c.answer) keeps.kept e;
    apart = λ p. omega (arith, names-changed test c d calls p ask answer e, keeps.apart p);
  }

  answered-cases : (k : Bool) → is_response h.kind ≡ k → (k ≡ true → IsPart c h (length body))
      → (k ≡ true → IsTold c.room h.size d.size) → (k ≡ false → d.size ≡ c.size)
      → KeepsPool (cond k (rewritten_at c.answer (with_part c h body) (buf_at pool c.answer) pool)
      pool) (at_first test (λ x. d) calls)
  answered-cases true t part told same = part-cases (buf_at pool c.answer) refl (part refl) (told refl)
  answered-cases false t part told same =
      keeps-replaced pool test c d calls ask answer len room (same refl) e keeps

  pub keeps-answered : (is_response h.kind ≡ true → IsPart c h (length body))
      → (is_response h.kind ≡ true → IsTold c.room h.size d.size)
      → (is_response h.kind ≡ false → d.size ≡ c.size)
      → KeepsPool (answered c h body pool) (at_first test (λ x. d) calls)
  keeps-answered part told same = answered-cases (is_response h.kind) refl part told same

-- a taken reply keeps the pool
told-size : (k : Bool) (size : Option ℕ) (s room : ℕ) → k ≡ true → s ≤ room → IsTold room s (cond k (Some s) size)
told-size true size s room e fits = (refl, fits)
told-size false size s room e fits = cc

same-size : (k : Bool) (size : Option ℕ) (s : ℕ) → k ≡ false → cond k (Some s) size ≡ size
same-size true size s e = cc
same-size false size s e = refl

pub keeps-replied : (pool : Pool) (now : ℕ) (c : ActiveCall) (h : MessageHeader) (body : List ℕ)
    (calls : List ActiveCall) → find (is_request c.request) calls ≡ Some c → KeepsPool pool calls
    → (is_response h.kind ≡ true → IsPart c h (length body))
    → KeepsPool (answered c h body pool) (at_first (is_request c.request)
    (λ x. replied now h c) calls)
keeps-replied pool now c h body calls e keeps part =
    keeps-answered pool (is_request c.request) c (replied now h c) h body calls e keeps refl refl
    refl refl part (λ r. told-size (is_response h.kind) c.size h.size c.room r (part r).fits)
    (λ r. same-size (is_response h.kind) c.size h.size r)

-- and so does the last one, whose call is taken out afterwards
self-cons : (test : ActiveCall → Bool) (c y : ActiveCall) (ys : List ActiveCall) (b : Bool)
    → (find test ys ≡ Some c → at_first test (λ x. c) ys ≡ ys)
    → cond b (Some y) (find test ys) ≡ Some c
    → cond b (c ∷ ys) (y ∷ at_first test (λ x. c) ys) ≡ y ∷ ys
self-cons test c y ys true ih e = let same : y ≡ c = cc in rw same refl
self-cons test c y ys false ih e = ap (λ zs. y ∷ zs) (ih e)

pub self-first : (test : ActiveCall → Bool) (c : ActiveCall) (ys : List ActiveCall)
    → find test ys ≡ Some c → at_first test (λ x. c) ys ≡ ys
self-first test c [] e = cc
self-first test c (y ∷ ys) e = self-cons test c y ys (test y) (self-first test c ys) e

pub keeps-written : (pool : Pool) (c : ActiveCall) (h : MessageHeader) (body : List ℕ)
    (calls : List ActiveCall) → find (is_request c.request) calls ≡ Some c → KeepsPool pool calls
    → (is_response h.kind ≡ true → IsPart c h (length body))
    → KeepsPool (answered c h body pool) calls
keeps-written pool c h body calls e keeps part =
    rw (self-first (is_request c.request) c calls e) at (keeps-answered pool (is_request c.request) c c h body calls e keeps refl refl refl refl part (λ r. let p = part r in told-kept c h h.size c.room refl p.same p.fits) (λ r. refl))

-- the places of a call that is over are empty, and no other call's changed
kept-emptied : (pool : Pool) (p : ℕ) (x : ActiveCall) → x.ask ≢ p → x.answer ≢ p → IsKept pool x
    → IsKept (emptied p pool) x
kept-emptied pool p x ask answer kept = record {
  ask = ap is_full (changed_other pool.uses p x.ask Empty Empty ask) ∙ kept.ask;
  answer = ap is_full (changed_other pool.uses p x.answer Empty Empty answer) ∙ kept.answer;
  size = rw (changed_other pool.bufs p x.ask None None ask) kept.size;
  room = rw (changed_other pool.bufs p x.answer None None answer) kept.room;
  unnamed = ap refs_in (changed_other pool.uses p x.answer Empty Empty answer) ∙ kept.unnamed;
}

pub keeps-without : (pool : Pool) (test : ActiveCall → Bool) (c : ActiveCall)
    (calls : List ActiveCall) → find test calls ≡ Some c → KeepsPool pool calls
    → KeepsPool (without_buffers c pool) (without_first test calls)
keeps-without pool test c calls e keeps =
    let rest = all-left test (IsKept pool) calls keeps.kept in
    let one = unnamed-all c.ask (IsKept pool) (IsKept (emptied c.ask pool))
    (λ x a b k. kept-emptied pool c.ask x a b k) (without_first test calls)
    (names-without c.ask test c calls e (names-ask c) (keeps.apart c.ask)) rest in
    record {
      kept = unnamed-all c.answer (IsKept (emptied c.ask pool)) (IsKept (without_buffers c pool))
          (λ x a b k. kept-emptied (emptied c.ask pool) c.answer x a b k) (without_first test calls)
          (names-without c.answer test c calls e (names-answer c) (keeps.apart c.answer)) one;
      apart = λ p. omega (
        arith,
        sum-without test c
            (λ x. cond (eqb x.ask p) 1 0 + cond (eqb x.answer p) 1 0) calls e,
        keeps.apart p,
      );
    }

-- writing changes no count, and what was written goes with the buffers
refs-cases : (k : Bool) (pool : Pool) (c : ActiveCall) (h : MessageHeader) (body : List ℕ) (p : ℕ)
    (o : Option Buffer) → refs_of (cond k (rewritten_at c.answer (with_part c h body) o pool) pool)
    p ≡ refs_of pool p
refs-cases true pool c h body p None = refl
refs-cases true pool c h body p (Some b) = refl
refs-cases false pool c h body p o = refl

pub answered-refs : (pool : Pool) (c : ActiveCall) (h : MessageHeader) (body : List ℕ) (p : ℕ)
    → refs_of (answered c h body pool) p ≡ refs_of pool p
answered-refs pool c h body p = refs-cases (is_response h.kind) pool c h body p (buf_at pool c.answer)

gone-bufs : (bufs : List (Option Buffer)) (a k : ℕ) (b : Option Buffer) → a ≢ k
    → set (set (set bufs a b) k None) a None ≡ set (set bufs k None) a None
gone-bufs bufs a k b apart = rw (set_comm bufs a k b None apart, set-set (set bufs k None) a b None) refl

gone-cases : (k : Bool) (pool : Pool) (c : ActiveCall) (h : MessageHeader) (body : List ℕ)
    (o : Option Buffer) → c.ask ≢ c.answer
    → without_buffers c (cond k (rewritten_at c.answer (with_part c h body) o pool) pool)
    ≡ without_buffers c pool
gone-cases true pool c h body None apart = refl
gone-cases true pool c h body (Some b) apart =
    rw (gone-bufs pool.bufs c.answer c.ask (Some (with_part c h body b)) (λ e. apart (sym e))) refl
gone-cases false pool c h body o apart = refl

pub answered-gone : (pool : Pool) (c : ActiveCall) (h : MessageHeader) (body : List ℕ)
    → c.ask ≢ c.answer → without_buffers c (answered c h body pool) ≡ without_buffers c pool
answered-gone pool c h body apart = gone-cases (is_response h.kind) pool c h body (buf_at pool c.answer) apart

-- Taking a reply is the step Took of what is shown.
use Rattle.std.proofs.Common.{◌≡◌, ◌≢◌, ℕ, ◌+◌, ◌-◌, ◌*◌, ◌%◌, ◌<◌, ◌≤◌, Bool, true, false, cond}
use Rattle.std.proofs.Common.{Option, Some, None, List, [], ◌∷◌, ◌++◌, length, get_or, take, refl}
use Rattle.std.proofs.Common.{ap, ◌∙◌, arith}
use Rattle.std.specs.Prelude.{map, option_map}
use Rattle.std.specs.List.{AllByRecursion, find}
use Rattle.std.proofs.lemmas.Bool.{eq-eqb}
use Rattle.std.proofs.lemmas.List.Sums.{sum_by-set}
use Rattle.packet_header.specs.Parts.{packet_count, part_size}
use Rattle.packet_header.specs.declared.packet.MessageHeader.{MessageHeader}
use Rattle.message_buffer.specs.Buffer.{Buffer, bytes_of}
use Rattle.buffer_pool.specs.Pool.{Pool, buf_at, changed}
use Rattle.buffer_pool.proofs.PoolLemmas.{changed_other, changed_own}
use Rattle.credit_book.specs.Credits.{Credits, given_back, limit_of, rolled}
use Rattle.rpc_base.specs.Tables.{at_first}
use Rattle.rpc_laws.specs.Calls.{is_active, is_response, moved, took_reply}
use Rattle.client_core.specs.declared.call.ActiveCall.{ActiveCall}
use Rattle.client_core.specs.KeepsPool.{IsKept, KeepsPool}
use Rattle.client_core.specs.Replies.{IsPart, IsTaken, after_reply, answered, call_as, is_request}
use Rattle.client_core.specs.Replies.{replied, rewritten_at, with_part}
use Rattle.client_core.specs.Session.{IsInTurn, IsSession, Session}
use Rattle.client_core.specs.Shown.{shown, shown_active, shown_waiting, took}
use Rattle.client_core.proofs.AnswerLemmas.{none-kept, room-some}
use Rattle.client_core.proofs.CallLemmas.{credit-below, is-answer}
use Rattle.rpc_base.proofs.ChangedLemmas.{same-change}
use Rattle.client_core.proofs.OneCallLemmas.{own-turn, own-unanswered}
use Rattle.client_core.proofs.PartLemmas.{with-next}
use Rattle.client_core.proofs.ShownLemmas.{found-shown}
use Rattle.client_core.proofs.PlacesLemmas.{names-answer, shown-changed, two-places}
use Rattle.rpc_base.proofs.FirstLemmas.{found-holds}
use Rattle.message_buffer.specs.Messages.{message_in}
use Rattle.buffer_pool.proofs.PlacesLemmas.{buffer-within}

-- no part of an answer is taken before the last packet of the request is answered
first-part : (c : ActiveCall) → IsInTurn c → c.got < c.posted → c.size ≡ None → c.got + 1 - packet_count c.len ≡ 0
first-part c turn more none =
    let most : c.posted ≤ packet_count c.len = rw none at turn.known in
    omega (arith, most, more)

-- what is shown of the call
module _ (pool : Pool) (now : ℕ) (c : ActiveCall) (h : MessageHeader) (body : List ℕ)
    (kept : IsKept pool c) (apart : c.ask ≢ c.answer) (turn : IsInTurn c)
    (taken : IsTaken c h (length body)) where
  pub part-shown : (b : Buffer) → buf_at pool c.answer ≡ Some b → IsPart c h (length body)
      → length body ≡ part_size h.size (c.got + 1 - packet_count c.len)
      → take (1024 * (c.got + 1 + 1 - packet_count c.len)) (bytes_of (with_part c h body b))
      ≡ take (1024 * (c.got + 1 - packet_count c.len)) (bytes_of b) ++ body
  part-shown b is part long =
      let e = with-next c h body b (room-some pool c h body kept apart b is) part
      (rw taken.next long) (λ none. rw taken.next (first-part c turn taken.posted none)) in
      let two : 1024 * (c.got + 1 + 1 - packet_count c.len)
      ≡ 1024 * (h.number + 2 - packet_count c.len) = omega (arith, taken.next) in
      let one : 1024 * (h.number + 1 - packet_count c.len)
      ≡ 1024 * (c.got + 1 - packet_count c.len) = omega (arith, taken.next) in
      ap (λ n. take n (bytes_of (with_part c h body b))) two ∙ e ∙ ap (λ n. take n (bytes_of b) ++ body) one

  -- with the part of an answer
  answer-shown : (b : Buffer) → buf_at pool c.answer ≡ Some b → IsPart c h (length body)
      → length body ≡ part_size h.size (c.got + 1 - packet_count c.len)
      → shown_active (changed c.answer (with_part c h body b) pool)
      (record c { got = c.got + 1; rolls = 0; mark = now; size = Some h.size })
      ≡ record (shown_active pool c) {
        progress = Some
            (record {
              request = c.request;
              got = c.got + 1;
              posted = c.posted;
              rolls = 0;
              mark = now;
              answer = Some h.size;
              parts =
                  take (1024 * (c.got + 1 - packet_count c.len)) (bytes_of b) ++ body;
            });
      }
  answer-shown b is part long =
      let own = changed_own pool.bufs c.answer (Some (with_part c h body b)) None
      (buffer-within pool.bufs c.answer b is) in
      let other = changed_other pool.bufs c.answer c.ask (Some (with_part c h body b)) None apart in
      rw (own, other, part-shown b is part long) refl

  -- before the last packet of the request a CR brings none
  credit-shown : c.got + 1 < packet_count c.len
      → take (1024 * (c.got + 1 + 1 - packet_count c.len)) (message_in (buf_at pool c.answer))
      ≡ take (1024 * (c.got + 1 - packet_count c.len)) (message_in (buf_at pool c.answer))
  credit-shown below =
      let none : 1024 * (c.got + 1 + 1 - packet_count c.len)
      ≡ 1024 * (c.got + 1 - packet_count c.len) = omega (arith, below) in
      ap (λ n. take n (message_in (buf_at pool c.answer))) none

  taken-cases : (k : Bool) (o : Option Buffer) → is_response h.kind ≡ k → buf_at pool c.answer ≡ o
      → (k ≡ true → IsPart c h (length body))
      → shown_active (cond k (rewritten_at c.answer (with_part c h body) o pool) pool)
      (record c { got = c.got + 1; rolls = 0; mark = now; size = cond k (Some h.size) c.size })
      ≡ moved (λ p. record (cond k (record p {
        got = p.got + 1;
        answer = Some h.size;
        parts = p.parts ++ body;
      }) (record p { got = p.got + 1 })) { rolls = 0; mark = now })
      (shown_active pool c)
  taken-cases true None e is part = absurd (none-kept pool c h body kept apart is)
  taken-cases true (Some b) e is part =
      rw is (answer-shown b is (part refl) (is-answer c h (length body) taken e).long)
  taken-cases false o e is part = rw (credit-shown (credit-below c h (length body) taken e)) refl

  pub taken-shown : (is_response h.kind ≡ true → IsPart c h (length body))
      → shown_active (answered c h body pool) (replied now h c)
      ≡ moved (took_reply now (Some h) body) (shown_active pool c)
  taken-shown part = taken-cases (is_response h.kind) (buf_at pool c.answer) refl refl part

  -- and of the others
  other-cases : (k : Bool) (o : Option Buffer) (x : ActiveCall) → x.ask ≢ c.answer
      → x.answer ≢ c.answer
      → shown_active (cond k (rewritten_at c.answer (with_part c h body) o pool) pool) x
      ≡ shown_active pool x
  other-cases true None x ask answer = refl
  other-cases true (Some b) x ask answer =
      rw (
        changed_other pool.bufs c.answer x.ask (Some (with_part c h body b)) None ask,
        changed_other pool.bufs c.answer x.answer (Some (with_part c h body b)) None answer,
      ) refl
  other-cases false o x ask answer = refl

-- the calls that wait stand behind
front-cons : {A : Type 0} (p : A → Bool) (f : A → A) (x y : A) (xs ys : List A) (b : Bool)
    → (find p xs ≡ Some x → at_first p f (xs ++ ys) ≡ at_first p f xs ++ ys)
    → cond b (Some y) (find p xs) ≡ Some x
    → cond b (f y ∷ (xs ++ ys)) (y ∷ at_first p f (xs ++ ys))
    ≡ cond b (f y ∷ xs) (y ∷ at_first p f xs) ++ ys
front-cons p f x y xs ys true ih e = refl
front-cons p f x y xs ys false ih e = ap (λ zs. y ∷ zs) (ih e)

pub at_first-front : {A : Type 0} (p : A → Bool) (f : A → A) (x : A) (xs ys : List A)
    → find p xs ≡ Some x → at_first p f (xs ++ ys) ≡ at_first p f xs ++ ys
at_first-front p f x [] ys e = cc
at_first-front p f x (y ∷ xs) ys e = front-cons p f x y xs ys (p y) (at_first-front p f x xs ys) e

-- the limit stays
pub limit-given : (b : Credits) (slot : ℕ) → slot < length b.unanswered
    → 0 < get_or b.unanswered slot 0 → limit_of (given_back slot b) ≡ limit_of b
limit-given b slot within some =
    omega (arith, sum_by-set (λ x. x) b.unanswered slot (get_or b.unanswered slot 0 - 1) 0 within, some)

pub limit-rolled : (b : Credits) (slot : ℕ) → slot < length b.unanswered → limit_of (rolled slot b) ≡ limit_of b
limit-rolled b slot within = omega (arith, sum_by-set (λ x. x) b.unanswered slot 0 0 within)

-- the active calls, one of which took the reply
module _ (pool : Pool) (now : ℕ) (c : ActiveCall) (h : MessageHeader) (body : List ℕ) (s : Session)
    (sound : IsSession s) (keeps : KeepsPool pool s.active) (e : call_as c.request s ≡ Some c)
    (taken : IsTaken c h (length body)) where
  own-kept : IsKept pool c
  own-kept = found-holds (is_request c.request) (IsKept pool) s.active c keeps.kept e

  own-apart : c.ask ≢ c.answer
  own-apart = two-places (is_request c.request) c s.active e (keeps.apart c.ask)

  pub calls-taken : (is_response h.kind ≡ true → IsPart c h (length body))
      → map (shown_active (answered c h body pool))
      (at_first (is_request c.request) (λ x. replied now h c) s.active)
      ≡ at_first (is_active c.request) (moved (took_reply now (Some h) body))
      (map (shown_active pool) s.active)
  calls-taken part =
      shown-changed c.answer (shown_active pool) (shown_active (answered c h body pool))
      (λ x ask answer. other-cases pool now c h body own-kept own-apart
      (own-turn s (is_request c.request) c sound e) taken (is_response h.kind)
      (buf_at pool c.answer) x ask answer) (is_request c.request) (is_active c.request)
      (λ x. replied now h c) (moved (took_reply now (Some h) body)) c (λ x. refl)
      (names-answer c) (taken-shown pool now c h body own-kept own-apart
      (own-turn s (is_request c.request) c sound e) taken part) s.active (keeps.apart c.answer)
      e

  found-active : find (is_active c.request) (map (shown_active pool) s.active) ≡ Some (shown_active pool c)
  found-active = found-shown (shown_active pool) (is_active c.request)
      (is_request c.request) s.active (all-refl s.active) ∙ ap (option_map (shown_active pool)) e
    where
      all-refl : (xs : List ActiveCall)
          → AllByRecursion (λ x. is_active c.request (shown_active pool x) ≡ is_request c.request x)
          xs
      all-refl [] = tt
      all-refl (x ∷ xs) = (refl, all-refl xs)

  -- the step Took, where the call goes on
  pub taken-step : (peer : ℕ) → h.session ≡ s.number → h.request ≡ c.request
      → (is_response h.kind ≡ true → IsPart c h (length body))
      → took now h body (shown pool peer s) ≡ shown (answered c h body pool) peer
      (after_reply now h c s) ∷ []
  taken-step peer own of_call part =
      let slot : c.request % 8 < length s.credits.unanswered = omega (arith, sound.balanced.slots) in
      let some : 0 < get_or s.credits.unanswered (c.request % 8) 0 =
      omega (arith, own-unanswered s (is_request c.request) c sound e, taken.posted) in
      let front = at_first-front (is_active c.request) (moved (took_reply now (Some h) body))
      (shown_active pool c) (map (shown_active pool) s.active)
      (map shown_waiting s.slots.waiting) found-active in
      rw (
        eq-eqb s.number s.number refl,
        of_call,
        front,
        ← calls-taken part,
        limit-given s.credits (c.request % 8) slot some,
        same-change (is_request c.request) c
            (replied now h) s.active e,
      ) refl

-- The end of a call is the step Done of what is shown, after the Took of its last reply or by itself.
use Rattle.std.proofs.Common.{◌≡◌, ◌≢◌, ℕ, ◌+◌, ◌%◌, ◌<◌, Bool, true, false, cond, Option, Some}
use Rattle.std.proofs.Common.{None, List, [], ◌∷◌, ◌++◌, length, get_or, refl, sym, ap, ◌∙◌, arith}
use Rattle.std.specs.Prelude.{◌||◌, map, option_map}
use Rattle.std.specs.List.{AllByRecursion, find, list_any}
use Rattle.std.specs.Option.{option_or}
use Rattle.std.proofs.lemmas.Bool.{eq-eqb}
use Rattle.std.proofs.lemmas.List.Folds.{find-append}
use Rattle.packet_header.specs.declared.packet.MessageHeader.{MessageHeader}
use Rattle.buffer_pool.specs.Pool.{Pool, emptied}
use Rattle.buffer_pool.proofs.PoolLemmas.{changed_other}
use Rattle.rpc_base.specs.Tables.{at_first, without_first}
use Rattle.rpc_laws.specs.declared.rows.EndRow.{EndRow}
use Rattle.rpc_laws.specs.declared.rows.EndRow.TheVariants.{GoesOn, EndsOk, EndsTooSmall}
use Rattle.rpc_laws.specs.declared.tables.Call.{Call}
use Rattle.rpc_laws.specs.declared.tables.Client.{Client}
use Rattle.rpc_laws.specs.Calls.{is_active, is_call, moved, took_reply}
use Rattle.rpc_laws.specs.Sessions.{clients_after, ends, has_call}
use Rattle.client_core.specs.declared.call.ActiveCall.{ActiveCall}
use Rattle.client_core.specs.declared.outcome.Done.{Done}
use Rattle.client_core.specs.declared.outcome.Outcome.{Outcome}
use Rattle.client_core.specs.declared.outcome.Outcome.TheVariants.{Ok, TooSmall, PeerLost}
use Rattle.client_core.specs.declared.outcome.Reply.{Reply}
use Rattle.client_core.specs.declared.outcome.Reply.TheVariants.{Took, Ended, Dropped}
use Rattle.client_core.specs.KeepsPool.{IsKept, KeepsPool}
use Rattle.client_core.specs.Replies.{EndsBy, IsTaken, Replies, call_as, end_of, is_request}
use Rattle.client_core.specs.Replies.{reply_row, row_told, without_buffers, without_call}
use Rattle.client_core.specs.Session.{IsInTurn, IsSession, Session}
use Rattle.client_core.specs.Shown.{IsAlone, IsAloneAfter, after_outcome, end_event, shown}
use Rattle.client_core.specs.Shown.{shown_active, shown_waiting, took}
use Rattle.client_core.specs.Timeouts.{is_numbered}
use Rattle.client_core.proofs.CallLemmas.{ends-last, goes-not-small, ok-not-goes, part-of, small-not-goes}
use Rattle.rpc_base.proofs.ChangedLemmas.{same-without}
use Rattle.client_core.proofs.OneCallLemmas.{by-request, own-request, own-turn, own-unanswered}
use Rattle.client_core.proofs.OutcomeLemmas.{active-found, takes-call}
use Rattle.client_core.proofs.PlacesLemmas.{map-without, names-answer, names-ask, names-without, unnamed-map}
use Rattle.client_core.proofs.ShownLemmas.{found-shown}
use Rattle.client_core.proofs.TakenLemmas.{limit-rolled, taken-step}
use Rattle.rpc_base.proofs.FirstLemmas.{found-holds, found-own}

-- a call that is taken out after it was changed is taken out as it was
module _ {A : Type 0} (p q : A → Bool) (f : A → A) (x : A) (same : (y : A) → q (f y) ≡ q y) where
  after-cons : (y : A) (ys : List A) (a b : Bool) → p y ≡ a → q y ≡ b → p x ≡ true → q x ≡ true
      → (find p ys ≡ Some x → find q ys ≡ Some x
      → without_first q (at_first p f ys) ≡ without_first q ys)
      → cond a (Some y) (find p ys) ≡ Some x → cond b (Some y) (find q ys) ≡ Some x
      → without_first q (cond a (f y ∷ ys) (y ∷ at_first p f ys))
      ≡ cond b ys (y ∷ without_first q ys)
  after-cons y ys true true t u px qx ih e g = rw (same y, u) refl
  after-cons y ys true false t u px qx ih e g = let is : y ≡ x = cc in let k : q y ≡ true = ap q is ∙ qx in cc
  after-cons y ys false true t u px qx ih e g = let is : y ≡ x = cc in let k : p y ≡ true = ap p is ∙ px in cc
  after-cons y ys false false t u px qx ih e g = rw u (ap (λ zs. y ∷ zs) (ih e g))

  pub without-after : (ys : List A) → p x ≡ true → q x ≡ true → find p ys ≡ Some x
      → find q ys ≡ Some x → without_first q (at_first p f ys) ≡ without_first q ys
  without-after [] px qx e g = refl
  without-after (y ∷ ys) px qx e g = after-cons y ys (p y) (q y) refl refl px qx (without-after ys px qx) e g

  any-cons : (y : A) (ys : List A) (b : Bool) → list_any q (at_first p f ys) ≡ list_any q ys
      → list_any q (cond b (f y ∷ ys) (y ∷ at_first p f ys)) ≡ (q y || list_any q ys)
  any-cons y ys true ih = rw (same y) refl
  any-cons y ys false ih = ap (λ b. q y || b) ih

  pub any-after : (ys : List A) → list_any q (at_first p f ys) ≡ list_any q ys
  any-after [] = refl
  any-after (y ∷ ys) = any-cons y ys (p y) (any-after ys)

-- what is found is there
found-cons : (b c : Bool) {A : Type 0} (y x : A) (o : Option A) → (o ≡ Some x → c ≡ true)
    → cond b (Some y) o ≡ Some x → (b || c) ≡ true
found-cons true c y x o ih e = refl
found-cons false c y x o ih e = ih e

pub any-found : {A : Type 0} (p : A → Bool) (x : A) (xs : List A) → find p xs ≡ Some x → list_any p xs ≡ true
any-found p x [] e = cc
any-found p x (y ∷ ys) e = found-cons (p y) (list_any p ys) y x (find p ys) (any-found p x ys) e

without-front-cons : {A : Type 0} (p : A → Bool) (x y : A) (xs ys : List A) (b : Bool)
    → (find p xs ≡ Some x → without_first p (xs ++ ys) ≡ without_first p xs ++ ys)
    → cond b (Some y) (find p xs) ≡ Some x
    → cond b (xs ++ ys) (y ∷ without_first p (xs ++ ys)) ≡ cond b xs (y ∷ without_first p xs) ++ ys
without-front-cons p x y xs ys true ih e = refl
without-front-cons p x y xs ys false ih e = ap (λ zs. y ∷ zs) (ih e)

pub without-front : {A : Type 0} (p : A → Bool) (x : A) (xs ys : List A) → find p xs ≡ Some x
    → without_first p (xs ++ ys) ≡ without_first p xs ++ ys
without-front p x [] ys e = cc
without-front p x (y ∷ xs) ys e = without-front-cons p x y xs ys (p y) (without-front p x xs ys) e

-- a Done event takes the call out of the first session that has it
pub end-event : (clock n : ℕ) (o : Outcome) (xs : List Client)
    → clients_after clock (end_event n o) [] None [] xs ≡ at_first (has_call n) (ends n) xs
end-event clock n Ok xs = refl
end-event clock n (TooSmall size) xs = refl
end-event clock n PeerLost xs = refl

pub ends-one : (n : ℕ) (x : Client) → has_call n x ≡ true → at_first (has_call n) (ends n) (x ∷ []) ≡ ends n x ∷ []
ends-one n x e = rw e refl

-- the calls that are left
module _ (pool : Pool) (c : ActiveCall) (s : Session) (sound : IsSession s)
    (keeps : KeepsPool pool s.active) (e : call_as c.request s ≡ Some c)
    (alone : IsAlone c.call s) where
  numbered : find (is_numbered c.call) s.active ≡ Some c
  numbered = found-own (is_request c.request) (is_numbered c.call) s.active c alone e (eq-eqb c.call c.call refl)

  all-numbered : (xs : List ActiveCall)
      → AllByRecursion (λ x. is_call c.call (shown_active pool x) ≡ is_numbered c.call x) xs
  all-numbered [] = tt
  all-numbered (x ∷ xs) = (refl, all-numbered xs)

  number-front : find (is_call c.call) (map (shown_active pool) s.active) ≡ Some (shown_active pool c)
  number-front = found-shown (shown_active pool) (is_call c.call)
      (is_numbered c.call) s.active (all-numbered s.active)
      ∙ ap (option_map (shown_active pool)) numbered

  pub number-found : find (is_call c.call) (map (shown_active pool) s.active
      ++ map shown_waiting s.slots.waiting) ≡ Some (shown_active pool c)
  number-found =
      find-append (is_call c.call) (map (shown_active pool) s.active)
      (map shown_waiting s.slots.waiting)
      ∙ ap (λ o. option_or o (find (is_call c.call) (map shown_waiting s.slots.waiting)))
      number-front

  request-found : find (is_active c.request) (map (shown_active pool) s.active
      ++ map shown_waiting s.slots.waiting) ≡ Some (shown_active pool c)
  request-found = active-found pool c.request s ∙ ap (option_map (shown_active pool)) e

  number-own : is_call c.call (shown_active pool c) ≡ true
  number-own = eq-eqb c.call c.call refl

  request-own : is_active c.request (shown_active pool c) ≡ true
  request-own = eq-eqb c.request c.request refl

  left-same : map (shown_active (without_buffers c pool))
      (without_first (is_request c.request) s.active)
      ≡ map (shown_active pool) (without_first (is_request c.request) s.active)
  left-same =
      let ask = names-without c.ask (is_request c.request) c s.active e (names-ask c) (keeps.apart c.ask) in
      let answer = names-without c.answer (is_request c.request) c s.active e (names-answer c)
      (keeps.apart c.answer) in
      unnamed-map c.answer (shown_active (emptied c.ask pool))
      (shown_active (without_buffers c pool))
      (λ x a b. gone (emptied c.ask pool) c.answer x a b)
      (without_first (is_request c.request) s.active) answer
      ∙ unnamed-map c.ask (shown_active pool) (shown_active (emptied c.ask pool))
      (λ x a b. gone pool c.ask x a b) (without_first (is_request c.request) s.active) ask
    where
      gone : (q : Pool) (p : ℕ) (x : ActiveCall) → x.ask ≢ p → x.answer ≢ p
          → shown_active (emptied p q) x ≡ shown_active q x
      gone q p x ask answer =
          rw (
            changed_other q.bufs p x.ask None None ask,
            changed_other q.bufs p x.answer None None answer,
          ) refl

  pub calls-left : without_first (is_call c.call)
      (map (shown_active pool) s.active ++ map shown_waiting s.slots.waiting)
      ≡ map (shown_active (without_buffers c pool)) (without_first (is_request c.request) s.active)
      ++ map shown_waiting s.slots.waiting
  calls-left =
      let front : find (is_active c.request) (map (shown_active pool) s.active)
      ≡ Some (shown_active pool c) =
      found-shown (shown_active pool) (is_active c.request)
      (is_request c.request) s.active (all-asked s.active)
      ∙ ap (option_map (shown_active pool)) e in
      same-without (is_call c.call) (shown_active pool c) (is_active c.request)
      (map (shown_active pool) s.active ++ map shown_waiting s.slots.waiting) number-own
      request-own number-found request-found
      ∙ without-front (is_active c.request) (shown_active pool c)
      (map (shown_active pool) s.active) (map shown_waiting s.slots.waiting) front
      ∙ ap (λ xs. xs ++ map shown_waiting s.slots.waiting)
      (sym (map-without (shown_active pool) (is_request c.request) (is_active c.request)
      (λ x. refl) s.active) ∙ sym left-same)
    where
      all-asked : (xs : List ActiveCall)
          → AllByRecursion (λ x. is_active c.request (shown_active pool x) ≡ is_request c.request x)
          xs
      all-asked [] = tt
      all-asked (x ∷ xs) = (refl, all-asked xs)

  -- after the Took of a reply whose credit is the last of the call
  pub last-step : (now peer : ℕ) (h : MessageHeader) (body : List ℕ) (o : Outcome)
      → h.session ≡ s.number → h.request ≡ c.request → c.posted ≡ c.got + 1
      → clients_after now (end_event c.call o) [] None [] (took now h body (shown pool peer s))
      ≡ shown (without_buffers c pool) peer (without_call c s) ∷ []
  last-step now peer h body o own of_call last =
      let F : Call → Call = moved (took_reply now (Some h) body) in
      let xs : List Call = map (shown_active pool) s.active ++ map shown_waiting s.slots.waiting in
      let slot : c.request % 8 < length s.credits.unanswered = omega (arith, sound.balanced.slots) in
      let one : get_or s.credits.unanswered (c.request % 8) 0 ≡ 1 =
      omega (arith, own-unanswered s (is_request c.request) c sound e, last) in
      let there : list_any (is_call c.call) (at_first (is_active c.request) F xs) ≡ true =
      any-after (is_active c.request) (is_call c.call) F (shown_active pool c)
      (λ y. refl) xs ∙ any-found (is_call c.call) (shown_active pool c) xs number-found in
      let left = without-after (is_active c.request) (is_call c.call) F (shown_active pool c)
      (λ y. refl) xs request-own number-own request-found number-found ∙ calls-left in
      end-event now c.call o (took now h body (shown pool peer s))
      ∙ rw (eq-eqb s.number s.number refl, of_call)
      (ends-one c.call _ there ∙ rw (left, limit-rolled s.credits (c.request % 8) slot, one)
      refl)

-- the step of a reply, whatever its outcome
last-of : (pool : Pool) (r : EndRow) (h : MessageHeader) (body : List ℕ) (c : ActiveCall)
    (session : ℕ) (d : Done) → IsInTurn c → IsTaken c h (length body) → end_of h c ≡ r
    → EndsBy r session h body c pool d → c.posted ≡ c.got + 1
last-of pool GoesOn h body c session d turn taken is by = absurd by
last-of pool EndsOk h body c session d turn taken is by =
    ends-last c h (length body) turn taken (ok-not-goes (end_of h c) is)
last-of pool (EndsTooSmall size) h body c session d turn taken is by =
    ends-last c h (length body) turn taken (small-not-goes (end_of h c) size is)

done-call : (r : EndRow) (session : ℕ) (h : MessageHeader) (body : List ℕ) (c : ActiveCall)
    (pool : Pool) (d : Done) → EndsBy r session h body c pool d → d.call ≡ c.call
done-call GoesOn session h body c pool d by = absurd by
done-call EndsOk session h body c pool d by = by.call
done-call (EndsTooSmall size) session h body c pool d by = by.call

module _ (w : Bool) (now peer : ℕ) (pool after : Pool) (h : MessageHeader) (body : List ℕ)
    (s new : Session) (sound : IsSession s) (keeps : KeepsPool pool s.active)
    (own : h.session ≡ s.number) where
  pub outcome-step : (r : Reply) → row_told r ≡ reply_row w h (length body) (call_as h.request s)
      → Replies r now h body s new pool after → IsAloneAfter r s
      → after_outcome now r h body (shown pool peer s) ≡ shown after peer new ∷ []
  outcome-step Took row (c, went) alone =
      let taken = takes-call w h (length body) (call_as h.request s) c went.found row in
      let of_call : h.request ≡ c.request = sym (own-request h.request s c sound went.found) in
      let found = by-request s (is_request h.request) c sound went.found in
      let kept = found-holds (is_request h.request) (IsKept pool) s.active c keeps.kept went.found in
      let part = part-of pool c h (length body) kept
      (own-turn s (is_request h.request) c sound went.found) taken
      (goes-not-small (end_of h c) h.size went.stands) in
      rw (went.session, went.pool) (taken-step pool now c h body s sound keeps found taken peer own of_call part)
  outcome-step (Ended d) row (c, went) alone =
      let taken = takes-call w h (length body) (call_as h.request s) c went.found row in
      let of_call : h.request ≡ c.request = sym (own-request h.request s c sound went.found) in
      let found = by-request s (is_request h.request) c sound went.found in
      let turn = own-turn s (is_request h.request) c sound went.found in
      let call = done-call (end_of h c) s.number h body c pool d went.ends in
      let last = last-of pool (end_of h c) h body c s.number d turn taken refl went.ends in
      rw (went.session, went.pool, call) (last-step pool c s sound keeps found (rw call at alone)
      now peer h body d.outcome own of_call last)
  outcome-step (Dropped why) row same alone = rw (same.0, same.1) refl

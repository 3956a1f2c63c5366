-- That what holds of every session holds where one of its calls is changed or is over.
use Rattle.std.proofs.Common.{◌≡◌, ◌≢◌, ℕ, ◌+◌, ◌-◌, ◌%◌, ◌<◌, ◌≤◌, Bool, true, false, cond, Option}
use Rattle.std.proofs.Common.{Some, None, List, [], ◌∷◌, length, get_or, set, refl, sym, ap, ◌∙◌}
use Rattle.std.proofs.Common.{inl, inr, arith, eqb}
use Rattle.std.specs.Prelude.{◌&&◌, ◌==◌, IsSome, is_some, option_and_then, option_map, count_by}
use Rattle.std.specs.List.{find, list_any}
use Rattle.std.proofs.lemmas.Bool.{cases_eq, eq-eqb, eqb-true, ne_eqb}
use Rattle.std.proofs.lemmas.List.{get_or-set_same, get_or-set_other}
use Rattle.std.proofs.lemmas.List.Sums.{sum_by-set}
use Rattle.rpc_base.specs.Least.{bearer, least, least_number}
use Rattle.rpc_base.specs.Tables.{at_first, without_first}
use Rattle.rpc_base.proofs.LeastLemmas.{least-none}
use Rattle.credit_book.specs.Credits.{Credits, IsBalanced}
use Rattle.session_slots.specs.declared.active.Active.{Active as Begun}
use Rattle.session_slots.specs.Slots.{IsActive, IsSound, call_if, ended}
use Rattle.client_core.specs.declared.call.ActiveCall.{ActiveCall}
use Rattle.client_core.specs.Session.{Session, IsInTurn, IsSession, begun_as, call_in, is_in_slot, unanswered_in}
use Rattle.client_core.specs.declared.active.Active.{Active}
use Rattle.client_core.specs.Timeouts.{call_numbered, is_numbered}
use Rattle.client_core.specs.Watching.{call_number, is_after, next_told, told}
use Rattle.client_core.specs.Replies.{call_as, is_request}
use Rattle.client_core.proofs.CallsLemmas.{count-missing, found-other, length-at_first}
use Rattle.rpc_base.proofs.ChangedLemmas.{all-changed, length-without, other-without, own-without}
use Rattle.rpc_base.proofs.ChangedLemmas.{sum-changed, sum-without}
use Rattle.rpc_base.proofs.FirstLemmas.{found-holds, some-counted, found-own, count-fewer, found-changed, all-left}
use Rattle.rpc_base.proofs.TakingLemmas.{find-passes}

-- the call that is found under a test of its own stands in its slot
module _ (s : Session) (p : ActiveCall → Bool) (c : ActiveCall) (h : IsSession s) (e : find p s.active ≡ Some c) where
  in-own : is_in_slot (c.request % 8) c ≡ true
  in-own = eq-eqb (c.request % 8) (c.request % 8) refl

  in-other : (i : ℕ) → i ≢ c.request % 8 → is_in_slot i c ≡ false
  in-other i apart = ne_eqb (c.request % 8) i (λ g. apart (sym g))

  pub own-call : call_in (c.request % 8) s.active ≡ Some c
  own-call = found-own p (is_in_slot (c.request % 8)) s.active c (h.apart (c.request % 8)) e in-own

  pub own-unanswered : get_or s.credits.unanswered (c.request % 8) 0 ≡ c.posted - c.got
  own-unanswered = h.unanswered (c.request % 8) (omega arith) ∙ ap unanswered_in own-call

  pub own-turn : IsInTurn c
  own-turn = found-holds p IsInTurn s.active c h.in_turn e

  -- the call has become another with the same number, and the slot's unanswered packets are its own
  module _ (d : ActiveCall) (same : d.request ≡ c.request) (named : d.call ≡ c.call)
      (turn : IsInTurn d) (credits : Credits) (balanced : IsBalanced credits) (n : ℕ)
      (counts : credits.unanswered ≡ set s.credits.unanswered (c.request % 8) n)
      (own : n ≡ d.posted - d.got) where
    new-own : is_in_slot (c.request % 8) d ≡ true
    new-own = eq-eqb (d.request % 8) (c.request % 8) (ap (λ r. r % 8) same)

    new-other : (i : ℕ) → i ≢ c.request % 8 → is_in_slot i d ≡ false
    new-other i apart = ne_eqb (d.request % 8) i (λ g. apart (sym g ∙ ap (λ r. r % 8) same))

    there : call_in (c.request % 8) (at_first p (λ x. d) s.active) ≡ Some d
    there = found-changed p (λ x. d) (is_in_slot (c.request % 8)) c s.active new-own e own-call

    elsewhere : (i : ℕ) → i ≢ c.request % 8 → call_in i (at_first p (λ x. d) s.active) ≡ call_in i s.active
    elsewhere i apart = found-other p (λ x. d) (is_in_slot i) c s.active (new-other i apart) (in-other i apart) e

    slots-kept : (i : ℕ) → i < 8
        → get_or s.slots.slots i None ≡ option_map begun_as
        (call_in i (at_first p (λ x. d) s.active))
    slots-kept i below = elim (cases_eq i (c.request % 8)) [
      | inl here ↦ rw here (
          let alike : begun_as d ≡ begun_as c = cc in
          h.slots (c.request % 8) (omega arith) ∙ ap (option_map begun_as) own-call
          ∙ sym (ap Some alike) ∙ sym (ap (option_map begun_as) there))
      | inr apart ↦ h.slots i below ∙ sym (ap (option_map begun_as) (elsewhere i apart))
    ]

    counts-kept : (i : ℕ) → count_by (is_in_slot i) (at_first p (λ x. d) s.active) ≤ 1
    counts-kept i =
        let slot : is_in_slot i d ≡ is_in_slot i c = ap (λ r. eqb (r % 8) i) same in
        let alike : cond {A = ℕ} (is_in_slot i d) 1 0 ≡ cond {A = ℕ} (is_in_slot i c) 1 0 =
        ap (λ b. cond {A = ℕ} b 1 0) slot in
        omega (arith, sum-changed p c (λ x. cond (is_in_slot i x) 1 0) (λ x. d) s.active e, alike, h.apart i)

    unanswered-kept : (i : ℕ) → i < 8
        → get_or credits.unanswered i 0 ≡ unanswered_in (call_in i (at_first p (λ x. d) s.active))
    unanswered-kept i below = elim (cases_eq i (c.request % 8)) [
      | inl here ↦ rw (here, counts) (
          let within : c.request % 8 < length s.credits.unanswered = omega (arith, h.balanced.slots) in
          get_or-set_same s.credits.unanswered (c.request % 8) n 0 within ∙ own ∙ sym (ap unanswered_in there))
      | inr apart ↦ rw counts (get_or-set_other s.credits.unanswered (c.request % 8) i n 0 apart
          ∙ h.unanswered i below ∙ sym (ap unanswered_in (elsewhere i apart)))
    ]

    pub changed-session : IsSession (record s { credits = credits; active = at_first p (λ x. d) s.active })
    changed-session = record {
      number = h.number;
      server = h.server;
      life = h.life;
      balanced = balanced;
      sound = h.sound;
      count = length-at_first p (λ x. d) s.active ∙ h.count;
      slots = slots-kept;
      apart = counts-kept;
      unanswered = unanswered-kept;
      in_turn = all-changed p c IsInTurn (λ x. d) s.active h.in_turn turn e;
      messages = h.messages;
    }

  -- the call is over
  module _ (credits : Credits) (balanced : IsBalanced credits)
      (counts : credits.unanswered ≡ set s.credits.unanswered (c.request % 8) 0)
      (sound : IsSound (ended c.request s.slots)) where
    gone : call_in (c.request % 8) (without_first p s.active) ≡ None
    gone = own-without p c (is_in_slot (c.request % 8)) s.active (h.apart (c.request % 8)) in-own e

    others : (i : ℕ) → i ≢ c.request % 8 → call_in i (without_first p s.active) ≡ call_in i s.active
    others i apart = other-without p c (is_in_slot i) s.active (in-other i apart) e

    slot-within : c.request % 8 < length s.slots.slots
    slot-within = omega (arith, h.sound.slots)

    slots-left : (i : ℕ) → i < 8
        → get_or (set s.slots.slots (c.request % 8) None) i None
        ≡ option_map begun_as (call_in i (without_first p s.active))
    slots-left i below = elim (cases_eq i (c.request % 8)) [
      | inl here ↦ rw here (get_or-set_same s.slots.slots (c.request % 8) None None slot-within
          ∙ sym (ap (option_map begun_as) gone))
      | inr apart ↦ get_or-set_other s.slots.slots (c.request % 8) i None None apart
          ∙ h.slots i below ∙ sym (ap (option_map begun_as) (others i apart))
    ]

    busy : count_by is_some (set s.slots.slots (c.request % 8) None) + 1 ≡ count_by is_some s.slots.slots
    busy =
        let one = sum_by-set (λ x. cond (is_some x) 1 0) s.slots.slots (c.request % 8) None None slot-within in
        let was : cond {A = ℕ} (is_some (get_or s.slots.slots (c.request % 8) None)) 1 0 ≡ 1 =
        ap (λ o. cond {A = ℕ} (is_some o) 1 0)
        (h.slots (c.request % 8) (omega arith) ∙ ap (option_map begun_as) own-call) in
        omega (arith, one, was)

    unanswered-left : (i : ℕ) → i < 8
        → get_or credits.unanswered i 0 ≡ unanswered_in (call_in i (without_first p s.active))
    unanswered-left i below = elim (cases_eq i (c.request % 8)) [
      | inl here ↦ rw (here, counts) (
          let within : c.request % 8 < length s.credits.unanswered = omega (arith, h.balanced.slots) in
          get_or-set_same s.credits.unanswered (c.request % 8) 0 0 within ∙ sym (ap unanswered_in gone))
      | inr apart ↦ rw counts (get_or-set_other s.credits.unanswered (c.request % 8) i 0 0 apart
          ∙ h.unanswered i below ∙ sym (ap unanswered_in (others i apart)))
    ]

    pub ended-session : IsSession (record s {
      credits = credits;
      slots = ended c.request s.slots;
      active = without_first p s.active;
    })
    ended-session = record {
      number = h.number;
      server = h.server;
      life = h.life;
      balanced = balanced;
      sound = sound;
      count = omega (arith, length-without p c s.active e, busy, h.count);
      slots = slots-left;
      apart = λ i. omega (arith, sum-without p c (λ x. cond (is_in_slot i x) 1 0) s.active e, h.apart i);
      unanswered = unanswered-left;
      in_turn = all-left p IsInTurn s.active h.in_turn;
      messages = h.messages;
    }

-- a call that some test finds is found by its request
request-slot : (r : ℕ) (x : ActiveCall) → is_request r x ≡ true → is_in_slot (r % 8) x ≡ true
request-slot r x passes = eq-eqb (x.request % 8) (r % 8) (ap (λ n. n % 8) (eqb-true x.request r passes))

pub by-request : (s : Session) (p : ActiveCall → Bool) (c : ActiveCall) → IsSession s
    → find p s.active ≡ Some c → call_as c.request s ≡ Some c
by-request s p c h e =
    let fewer = count-fewer (is_request c.request) (is_in_slot (c.request % 8)) (request-slot c.request) s.active in
    found-own p (is_request c.request) s.active c (omega (arith, fewer, h.apart (c.request % 8))) e
    (eq-eqb c.request c.request refl)

pub own-request : (r : ℕ) (s : Session) (c : ActiveCall) → IsSession s → call_as r s ≡ Some c → c.request ≡ r
own-request r s c h e = eqb-true c.request r (find-passes (is_request r) s.active c e)

-- it is active in its slot
slot-active : (r call : ℕ) (o : Option Begun) → o ≡ Some (record { request = r; call = call })
    → IsSome (option_and_then (call_if r) o)
slot-active r call o e = rw (e, eq-eqb r r refl) refl

pub is-active : (s : Session) (c : ActiveCall) → IsSession s → call_as c.request s ≡ Some c
    → IsActive c.request s.slots
is-active s c h e =
    slot-active c.request c.call (get_or s.slots.slots (c.request % 8) None)
    (h.slots (c.request % 8) (omega arith)
    ∙ ap (option_map begun_as) (own-call s (is_request c.request) c h e))

-- the element of least number is found by a test
bearer-found : {A : Type 0} (passes : A → Bool) (number : A → ℕ) (xs : List A) (o : Option ℕ)
    (x : A) → bearer passes number xs o ≡ Some x → (q : A → Bool) × (find q xs ≡ Some x)
bearer-found passes number xs None x e = cc
bearer-found passes number xs (Some n) x e = (λ y. passes y && eqb (number y) n, e)

pub least-found : {A : Type 0} (passes : A → Bool) (number : A → ℕ) (xs : List A) (x : A)
    → least passes number xs ≡ Some x → (q : A → Bool) × (find q xs ≡ Some x)
least-found passes number xs x e = bearer-found passes number xs (least_number passes number xs) x e

-- there is none exactly where there is no element
none-any : {A : Type 0} (xs : List A) → list_any (λ x. true) xs ≡ false → xs ≡ []
none-any [] e = refl
none-any (x ∷ xs) e = cc

pub least-none-of : {A : Type 0} (number : A → ℕ) (xs : List A) → least (λ x. true) number xs ≡ None → xs ≡ []
least-none-of number xs e = none-any xs ((least-none (λ x. true) number xs).0 (rw e refl))

-- what some test finds is found by its number
number-missing : (n : ℕ) (xs : List ActiveCall) (o : Option ActiveCall)
    → find (is_numbered n) xs ≡ o → 1 ≤ count_by (is_numbered n) xs
    → IsSome (find (is_numbered n) xs)
number-missing n xs None e some = absurd (omega (arith, count-missing (is_numbered n) xs e, some))
number-missing n xs (Some c) e some = rw e refl

pub number-there : (q : ActiveCall → Bool) (c : ActiveCall) (xs : List ActiveCall)
    → find q xs ≡ Some c → IsSome (find (is_numbered c.call) xs)
number-there q c xs e =
    number-missing c.call xs _ refl (some-counted q (is_numbered c.call) xs c e (eq-eqb c.call c.call refl))

-- the call that is told next is found by its number
next-by : (after : Option ℕ) (s : Session) (a : Active) (o : Option ℕ)
    → least_number (is_after after) call_number s.active ≡ o
    → option_map told (bearer (is_after after) call_number s.active o) ≡ Some a
    → IsSome (call_numbered a.call s)
next-by after s a None e is = cc
next-by after s a (Some n) e is =
    bearer-by s a (λ c. is_after after c && call_number c == n)
    (find (λ c. is_after after c && call_number c == n) s.active) refl is
  where
    bearer-by : (s : Session) (a : Active) (q : ActiveCall → Bool) (o : Option ActiveCall)
        → find q s.active ≡ o → option_map told o ≡ Some a → IsSome (call_numbered a.call s)
    bearer-by s a q None found is = cc
    bearer-by s a q (Some c) found is =
        let same : a.call ≡ c.call = cc in
        rw same (number-there q c s.active found)

pub next-there : (after : Option ℕ) (s : Session) (a : Active) → next_told after s ≡ Some a
    → IsSome (call_numbered a.call s)
next-there after s a is = next-by after s a _ refl is

-- That what holds of every session holds after each of its calls.
use Rattle.std.proofs.Common.{◌≡◌, ◌≢◌, ℕ, ◌+◌, ◌-◌, ◌%◌, ◌<◌, ◌≤◌, Bool, true, false, cond, Option}
use Rattle.std.proofs.Common.{Some, None, List, [], ◌∷◌, ◌++◌, length, get_or, set, refl, sym, ap}
use Rattle.std.proofs.Common.{◌∙◌, inl, inr, arith, eqb, ltb-true}
use Rattle.std.specs.Prelude.{◌⊎◌, ◌↔◌, IsNone, is_none, is_some, position, option_map, count_by}
use Rattle.std.specs.List.{AllByRecursion, list_any, find}
use Rattle.std.proofs.lemmas.Bool.{and_parts, cases_eq, eq-eqb, eqb-false, eqb-true, ne_eqb}
use Rattle.std.proofs.lemmas.List.{get_or-set_same, get_or-set_other, length-set, length-append}
use Rattle.std.proofs.lemmas.List.Folds.{find-append}
use Rattle.std.proofs.lemmas.List.Sums.{sum_by-set, sum_by-append, count_by-le-length}
use Rattle.rpc_base.specs.Tables.{at_first}
use Rattle.rpc_base.specs.declared.owner.Owner.TheVariants.{Ask}
use Rattle.credit_book.specs.Credits.{IsBalanced, charged}
use Rattle.session_slots.specs.declared.active.Active.{Active as Begun}
use Rattle.session_slots.specs.declared.waiting.Waiting.{Waiting}
use Rattle.session_slots.specs.Slots.{Slots, Begins, IsSound, begun, lowest_free}
use Rattle.client_core.specs.declared.call.ActiveCall.{ActiveCall}
use Rattle.client_core.specs.Session.{Session, IsInTurn, IsSession, begun_as, call_in, can_post}
use Rattle.client_core.specs.Session.{is_in_slot, known_of, unanswered_in}
use Rattle.client_core.specs.Posting.{IsPacketOf, entry_of, is_owner, marked, next_entry, one_left}
use Rattle.client_core.specs.Posting.{one_posted, started}
use Rattle.client_core.proofs.CallsLemmas.{all-front, all-rest, count-missing, found-other}
use Rattle.client_core.proofs.CallsLemmas.{length-at_first, none-found, shows-at_first}
use Rattle.client_core.proofs.CallsLemmas.{sum-at_first}
use Rattle.rpc_base.proofs.FirstLemmas.{all-push, found-holds, found-own, count-fewer, all-kept, found-changed}
use Rattle.rpc_base.proofs.TablesLemmas.{position-at}
use Rattle.rpc_base.proofs.BasicLemmas.{or-none, none-is}
use Rattle.packet_header.specs.Parts.{IsMessage}

-- what doesn't read a call's mark
mark-cases : {B : Type 0} (g : ActiveCall → B) (now : ℕ) (c : ActiveCall) (b : Bool)
    → g (record c { mark = now }) ≡ g c → g (cond b (record c { mark = now }) c) ≡ g c
mark-cases g now c true same = same
mark-cases g now c false same = refl

mark-same : {B : Type 0} (g : ActiveCall → B) (number now : ℕ) (c : ActiveCall)
    → g (record (one_left c) { mark = now }) ≡ g (one_left c) → g (one_left c) ≡ g c
    → g (marked number now c) ≡ g c
mark-same g number now c same left = mark-cases g now (one_left c) _ same ∙ left

mark-turn : (now : ℕ) (c : ActiveCall) (b : Bool) → IsInTurn c → IsInTurn (cond b (record c { mark = now }) c)
mark-turn now c true turn =
    record {
      len = turn.len;
      size = turn.size;
      answered = turn.answered;
      known = turn.known;
      queued = turn.queued;
      rolls = turn.rolls;
    }
mark-turn now c false turn = turn

left-turn : (c : ActiveCall) → IsInTurn c → IsInTurn (one_left c)
left-turn c turn = record {
  len = turn.len;
  size = turn.size;
  answered = turn.answered;
  known = turn.known;
  queued = omega (arith, turn.queued);
  rolls = turn.rolls;
}

-- a packet is queued no more
pub left-session : (s : Session) (p : ActiveCall → Bool) → IsSession s
    → IsSession (record s { active = at_first p one_left s.active })
left-session s p h = record {
  number = h.number;
  server = h.server;
  life = h.life;
  balanced = h.balanced;
  sound = h.sound;
  count = length-at_first p one_left s.active ∙ h.count;
  slots = λ i below. h.slots i below ∙ sym (shows-at_first p one_left (option_map begun_as)
      (is_in_slot i) s.active (λ x. refl) (λ x. refl));
  apart = λ i. omega (
    arith,
    h.apart i,
    sum-at_first p one_left (λ x. cond (is_in_slot i x) 1 0)
        s.active (λ x. refl),
  );
  unanswered = λ i below. h.unanswered i below
      ∙ sym (shows-at_first p one_left unanswered_in (is_in_slot i) s.active (λ x. refl)
      (λ x. refl));
  in_turn = all-kept p one_left IsInTurn s.active (λ x turn passes. left-turn x turn) h.in_turn;
  messages = h.messages;
}

pub marked-session : (s : Session) (p : ActiveCall → Bool) (number now : ℕ) → IsSession s
    → IsSession (record s { active = at_first p (marked number now) s.active })
marked-session s p number now h = record {
  number = h.number;
  server = h.server;
  life = h.life;
  balanced = h.balanced;
  sound = h.sound;
  count = length-at_first p (marked number now) s.active ∙ h.count;
  slots = λ i below. h.slots i below ∙ sym (shows-at_first p (marked number now)
      (option_map begun_as) (is_in_slot i) s.active
      (λ x. mark-same (is_in_slot i) number now x refl refl)
      (λ x. mark-same (λ c. option_map begun_as (Some c)) number now x refl refl));
  apart = λ i. omega (
    arith,
    h.apart i,
    sum-at_first p (marked number now)
        (λ x. cond (is_in_slot i x) 1 0) s.active
        (λ x. mark-same (λ c. cond {A = ℕ} (is_in_slot i c) 1 0) number now x refl refl),
  );
  unanswered = λ i below. h.unanswered i below
      ∙ sym (shows-at_first p (marked number now) unanswered_in (is_in_slot i) s.active
      (λ x. mark-same (is_in_slot i) number now x refl refl)
      (λ x. mark-same (λ c. unanswered_in (Some c)) number now x refl refl));
  in_turn = all-kept p (marked number now) IsInTurn s.active
      (λ x turn passes. mark-turn now (one_left x) _ (left-turn x turn)) h.in_turn;
  messages = h.messages;
}

posted-turn : (c : ActiveCall) → IsInTurn c → can_post c ≡ true → IsInTurn (one_posted c)
posted-turn c turn more =
    record {
      len = turn.len;
      size = turn.size;
      answered = omega (arith, turn.answered);
      known = omega (arith, ltb-true c.posted (known_of c) more);
      queued =
          omega (arith, turn.queued);
      rolls = turn.rolls;
    }

-- the slot of a call is its own
own-slot : (s : Session) (c : ActiveCall) → IsSession s → find can_post s.active ≡ Some c
    → call_in (c.request % 8) s.active ≡ Some c
own-slot s c h e = found-own can_post (is_in_slot (c.request % 8)) s.active c
    (h.apart (c.request % 8)) e (eq-eqb (c.request % 8) (c.request % 8) refl)

posted-there : (s : Session) (c : ActiveCall) → IsSession s → find can_post s.active ≡ Some c
    → get_or (set s.credits.unanswered (c.request % 8)
    (get_or s.credits.unanswered (c.request % 8) 0 + 1)) (c.request % 8) 0
    ≡ unanswered_in (call_in (c.request % 8) (at_first can_post one_posted s.active))
posted-there s c h e =
    let slot : ℕ = c.request % 8 in
    let own = own-slot s c h e in
    let within : slot < length s.credits.unanswered = omega (arith, h.balanced.slots) in
    let turn = found-holds can_post IsInTurn s.active c h.in_turn e in
    let before : get_or s.credits.unanswered slot 0 ≡ c.posted - c.got =
    h.unanswered slot (omega arith) ∙ ap unanswered_in own in
    let more : get_or s.credits.unanswered slot 0 + 1 ≡ c.posted + 1 - c.got = omega (arith, before, turn.answered) in
    get_or-set_same s.credits.unanswered slot (get_or s.credits.unanswered slot 0 + 1) 0 within
    ∙ more ∙ sym (ap unanswered_in (found-changed can_post one_posted (is_in_slot slot) c
    s.active (eq-eqb slot slot refl) e own))

posted-elsewhere : (s : Session) (c : ActiveCall) (i : ℕ) → IsSession s
    → find can_post s.active ≡ Some c → i < 8 → i ≢ c.request % 8
    → get_or (set s.credits.unanswered (c.request % 8)
    (get_or s.credits.unanswered (c.request % 8) 0 + 1)) i 0
    ≡ unanswered_in (call_in i (at_first can_post one_posted s.active))
posted-elsewhere s c i h e below apart =
    let other : is_in_slot i c ≡ false = ne_eqb (c.request % 8) i (λ g. apart (sym g)) in
    get_or-set_other s.credits.unanswered (c.request % 8) i _ 0 apart ∙ h.unanswered i below
    ∙ sym (ap unanswered_in (found-other can_post one_posted (is_in_slot i) c s.active other
    other e))

pub posted-session : (s : Session) (c : ActiveCall) → IsSession s → find can_post s.active ≡ Some c
    → IsBalanced (charged (c.request % 8) s.credits)
    → IsSession (record s {
      credits = charged (c.request % 8) s.credits;
      active = at_first can_post one_posted s.active;
    })
posted-session s c h e balanced = record {
  number = h.number;
  server = h.server;
  life = h.life;
  balanced = balanced;
  sound = h.sound;
  count = length-at_first can_post one_posted s.active ∙ h.count;
  slots = λ i below. h.slots i below ∙ sym (shows-at_first can_post one_posted (option_map begun_as)
      (is_in_slot i) s.active (λ x. refl) (λ x. refl));
  apart = λ i. omega (
    arith,
    h.apart i,
    sum-at_first can_post one_posted
        (λ x. cond (is_in_slot i x) 1 0) s.active (λ x. refl),
  );
  unanswered = λ i below. elim (cases_eq i (c.request % 8)) [
    | inl same ↦ rw same (posted-there s c h e)
    | inr apart ↦ posted-elsewhere s c i h e below
        apart
  ];
  in_turn = all-kept can_post one_posted IsInTurn s.active posted-turn h.in_turn;
  messages = h.messages;
}

-- a call that begins is in turn
pub started-turn : (old new : Slots) (request : ℕ) (w : Waiting) (c : ActiveCall) (ask answer : ℕ)
    → Begins request w old new → AllByRecursion (λ x. IsMessage x.req.len) old.waiting
    → c ≡ started w request ask answer → IsInTurn c
started-turn old new request w c ask answer begins messages is =
    rw is (record {
      len = all-front (λ x. IsMessage x.req.len) old.waiting w messages begins.oldest;
      size = tt;
      answered = omega arith;
      known = omega arith;
      queued = omega arith;
      rolls =
          omega arith;
    })

pub free-at : (xs : List (Option Begun)) (i : ℕ) → position is_none xs ≡ Some i → (i < length xs)
    × (get_or xs i None ≡ None)
free-at xs i e = let (within, passes) = position-at is_none xs i None e in (within, none-is _ passes)

unmapped : {A B : Type 0} (f : A → B) (o : Option A) → None ≡ option_map f o → o ≡ None
unmapped f None e = refl
unmapped f (Some x) e = cc

module _ (s : Session) (r call : ℕ) (c : ActiveCall) (h : IsSession s) (same : c.request ≡ r)
    (named : c.call ≡ call) (free : lowest_free s.slots ≡ Some (r % 8)) where
  slot-free : call_in (r % 8) s.active ≡ None
  slot-free = unmapped begun_as _ (sym (free-at s.slots.slots (r % 8) free).1 ∙ h.slots (r % 8) (omega arith))

  in-own : is_in_slot (r % 8) c ≡ true
  in-own = eq-eqb (c.request % 8) (r % 8) (ap (λ n. n % 8) same)

  in-other : (i : ℕ) → i ≢ r % 8 → is_in_slot i c ≡ false
  in-other i apart = ne_eqb (c.request % 8) i (λ g. apart (sym g ∙ ap (λ n. n % 8) same))

  -- the slot has the new call, and each other one what it had
  own-call : call_in (r % 8) (s.active ++ c ∷ []) ≡ Some c
  own-call = rw (find-append (is_in_slot (r % 8)) s.active (c ∷ []), slot-free, in-own) refl

  other-call : (i : ℕ) → i ≢ r % 8 → call_in i (s.active ++ c ∷ []) ≡ call_in i s.active
  other-call i apart =
      rw (find-append (is_in_slot i) s.active (c ∷ []), in-other i apart)
      (or-none (call_in i s.active))

  counts : (i : ℕ) → count_by (is_in_slot i) (s.active ++ c ∷ [])
      ≡ count_by (is_in_slot i) s.active + cond (is_in_slot i c) 1 0
  counts i = omega (arith, sum_by-append (λ x. cond (is_in_slot i x) 1 0) s.active (c ∷ []))

  own-apart : count_by (is_in_slot (r % 8)) (s.active ++ c ∷ []) ≤ 1
  own-apart = let one = counts (r % 8) ∙ ap (λ b. count_by (is_in_slot (r % 8)) s.active + cond b 1 0) in-own in
      omega (arith, one, count-missing (is_in_slot (r % 8)) s.active slot-free)

  other-apart : (i : ℕ) → i ≢ r % 8 → count_by (is_in_slot i) (s.active ++ c ∷ []) ≤ 1
  other-apart i apart = let none = counts i ∙ ap (λ b. count_by (is_in_slot i) s.active + cond b 1 0) (in-other i apart) in
      omega (arith, none, h.apart i)

  own-slots : get_or (set s.slots.slots (r % 8) (Some (record { request = r; call = call })))
      (r % 8) None ≡ option_map begun_as (call_in (r % 8) (s.active ++ c ∷ []))
  own-slots =
      let entry : begun_as c ≡ record { request = r; call = call } = cc in
      get_or-set_same s.slots.slots (r % 8) (Some (record { request = r; call = call })) None
      (free-at s.slots.slots (r % 8) free).0 ∙ sym (ap Some entry)
      ∙ sym (ap (option_map begun_as) own-call)

  other-slots : (i : ℕ) → i < 8 → i ≢ r % 8
      → get_or (set s.slots.slots (r % 8) (Some (record { request = r; call = call }))) i None
      ≡ option_map begun_as (call_in i (s.active ++ c ∷ []))
  other-slots i below apart =
      get_or-set_other s.slots.slots (r % 8) i _ None apart ∙ h.slots i below
      ∙ sym (ap (option_map begun_as) (other-call i apart))

  -- one slot more is busy
  busy-more : count_by is_some (set s.slots.slots (r % 8)
      (Some (record { request = r; call = call }))) ≡ count_by is_some s.slots.slots + 1
  busy-more =
      let (within, none) = free-at s.slots.slots (r % 8) free in
      let one = sum_by-set (λ x. cond (is_some x) 1 0) s.slots.slots (r % 8)
      (Some (record { request = r; call = call })) None within in
      let zero_there : cond {A = ℕ} (is_some (get_or s.slots.slots (r % 8) None)) 1 0 ≡ 0 =
      ap (λ o. cond {A = ℕ} (is_some o) 1 0) none in
      omega (arith, one, zero_there)

  pub few-active : length s.active < 8
  few-active =
      let most = count_by-le-length is_some (set s.slots.slots (r % 8)
      (Some (record { request = r; call = call }))) in
      omega (
        arith,
        busy-more,
        most,
        length-set s.slots.slots (r % 8)
            (Some (record { request = r; call = call })),
        h.sound.slots,
        h.count,
      )

  pub begun-session : IsInTurn c → c.posted ≡ 0 → IsSound (begun r call s.slots)
      → IsSession (record s { slots = begun r call s.slots; active = s.active ++ c ∷ [] })
  begun-session turn new sound = record {
    number = h.number;
    server = h.server;
    life = h.life;
    balanced = h.balanced;
    sound = sound;
    count = omega (arith, length-append s.active (c ∷ []), h.count, busy-more);
    slots = λ i below. elim (cases_eq i (r % 8))
        [ inl here ↦ rw here own-slots | inr apart ↦ other-slots i below apart ];
    apart = λ i. elim (cases_eq i (r % 8)) [ inl here ↦ rw here own-apart | inr apart ↦ other-apart i apart ];
    unanswered = λ i below. elim (cases_eq i (r % 8)) [
      | inl here ↦ rw here (h.unanswered (r % 8) (omega arith) ∙ ap unanswered_in slot-free
          ∙ omega (arith, new, ap unanswered_in own-call))
      | inr apart ↦ h.unanswered i below
          ∙ sym (ap unanswered_in (other-call i apart))
    ];
    in_turn = all-push IsInTurn s.active c h.in_turn turn;
    messages = all-rest (λ w. IsMessage w.req.len) s.slots.waiting h.messages;
  }

-- a call is its owner's
pub own-owner : (session : ℕ) (c : ActiveCall) → is_owner session (Ask session c.request) c ≡ true
own-owner session c = rw (eq-eqb session session refl, eq-eqb c.request c.request refl) refl

-- a call that posts is the only one of its owner
pub owner-slot : (session r : ℕ) (x : ActiveCall) → is_owner session (Ask session r) x ≡ true
    → is_in_slot (r % 8) x ≡ true
owner-slot session r x passes =
    let same : x.request ≡ r = eqb-true x.request r (and_parts _ _ passes).1 in
    eq-eqb (x.request % 8) (r % 8) (ap (λ n. n % 8) same)

pub owner-call : (s : Session) (c : ActiveCall) → IsSession s → find can_post s.active ≡ Some c
    → find (is_owner s.number (Ask s.number c.request)) s.active ≡ Some c
owner-call s c h e =
    let fewer = count-fewer (is_owner s.number (Ask s.number c.request))
    (is_in_slot (c.request % 8)) (owner-slot s.number c.request) s.active in
    found-own can_post (is_owner s.number (Ask s.number c.request)) s.active c
    (omega (arith, fewer, h.apart (c.request % 8))) e (own-owner s.number c)

request-slot : (r : ℕ) (x : ActiveCall) → eqb x.request r ≡ true → is_in_slot (r % 8) x ≡ true
request-slot r x passes = eq-eqb (x.request % 8) (r % 8) (ap (λ n. n % 8) (eqb-true x.request r passes))

pub request-call : (s : Session) (c : ActiveCall) → IsSession s → find can_post s.active ≡ Some c
    → find (λ x. eqb x.request c.request) s.active ≡ Some c
request-call s c h e =
    let fewer = count-fewer (λ x. eqb x.request c.request) (is_in_slot (c.request % 8))
    (request-slot c.request) s.active in
    found-own can_post (λ x. eqb x.request c.request) s.active c
    (omega (arith, fewer, h.apart (c.request % 8))) e (eq-eqb c.request c.request refl)

-- the entry of a call that posts is a packet of that call
pub entry-stands : (s : Session) (peer : ℕ) (c : ActiveCall) → IsSession s
    → find can_post s.active ≡ Some c
    → IsPacketOf (find (is_owner s.number (entry_of s.number peer c).owner)
    (at_first can_post one_posted s.active)) (entry_of s.number peer c)
entry-stands s peer c h e =
    rw (found-changed can_post one_posted (is_owner s.number (Ask s.number c.request)) c s.active
    (own-owner s.number c) e (owner-call s c h e)) (omega arith, refl)

-- nothing is posted exactly where no credit is free or no call may post
none-cases : (free number peer : ℕ) (o : Option ActiveCall) (any b : Bool) → eqb free 0 ≡ b
    → IsNone o ↔ (any ≡ false)
    → IsNone (option_map (entry_of number peer) (cond b None o)) ↔ ((free ≡ 0) ⊎ (any ≡ false))
none-cases free number peer o any true t same = (λ e. inl (eqb-true free 0 t), λ e. refl)
none-cases free number peer None any false t same = (λ e. inr (same.0 refl), λ e. refl)
none-cases free number peer (Some c) any false t same = (
  λ e. cc,
  λ e. elim e [
    | inl zero_free ↦ absurd (eqb-false free 0 t zero_free)
    | inr none ↦
        same.1 none
  ],
)

pub nothing-posted : (s : Session) (peer : ℕ)
    → IsNone (next_entry peer s) ↔ ((s.credits.free ≡ 0) ⊎ (list_any can_post s.active ≡ false))
nothing-posted s peer =
    none-cases s.credits.free s.number peer (find can_post s.active)
    (list_any can_post s.active) _ refl (none-found can_post s.active)

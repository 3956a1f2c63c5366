-- A request that begins in the lowest free slot: what it does to the other requests, to the numbers
-- given, and to what holds of every table.
use Rattle.std.proofs.Common.{◌≡◌, ◌≢◌, ◌⊎◌, ◌↔◌, ℕ, ◌+◌, ◌*◌, ◌/◌, ◌%◌, ◌<◌}
use Rattle.std.proofs.Common.{Option, Some, None, List, length, get_or, set, sym, ◌∙◌}
use Rattle.std.proofs.Common.{ap, refl, inl, inr, ⊎_elim, arith}
use Rattle.std.specs.Prelude.{is_none, position, option_and_then}
use Rattle.std.specs.List.{position_or_len}
use Rattle.std.proofs.lemmas.Bool.{cases_eq, cases_lt}
use Rattle.std.proofs.lemmas.Bool.Decides.{nat_tests}
use Rattle.std.proofs.lemmas.List.{get_or-set_same, get_or-set_other, length-set}
use Rattle.std.proofs.lemmas.List.Sums.{passes_at_first, sum_by-set}
use Rattle.session_slots.specs.declared.active.Active.{Active}
use Rattle.session_slots.specs.declared.waiting.Waiting.{Waiting}
use Rattle.session_slots.specs.Slots.{Slots, Activates, IsLastTurn, IsNewNumber, IsSound, call_if, lowest_free}
use Rattle.rpc_base.proofs.BasicLemmas.{none-is, found-at}

-- the lowest free slot is one of them, and is free
free_at : (xs : List (Option Active)) (i : ℕ) → position is_none xs ≡ Some i → (i < length xs)
    × (get_or xs i None ≡ None)
free_at xs i e =
    let (same, within) = found-at (position_or_len is_none xs) (length xs) i _ refl e in
    (rw same within, rw same (none-is _ (passes_at_first is_none xs None within)))

-- a slot has the call of its own request, and of no other
own : (r call : ℕ) → call_if r (record { request = r; call = call }) ≡ Some call
own r call = grind (arith, nat_tests)

other : (q r call : ℕ) → q ≢ r → call_if q (record { request = r; call = call }) ≡ None
other q r call differs = grind (arith, nat_tests)

-- what slot i shows of request q, once r began in the free slot `slot`
shown_there : (q r call i slot : ℕ) (xs : List (Option Active)) → slot < length xs
    → get_or xs slot None ≡ None → q ≢ r → i ≡ slot
    → option_and_then (call_if q) (get_or (set xs slot (Some (record { request = r; call = call })))
    i None) ≡ option_and_then (call_if q) (get_or xs i None)
shown_there q r call i slot xs h free differs same =
    rw same (rw (get_or-set_same xs slot (Some (record { request = r; call = call })) None h, free)
    (other q r call differs))

shown : (q r call i slot : ℕ) (xs : List (Option Active)) → slot < length xs
    → get_or xs slot None ≡ None → q ≢ r
    → option_and_then (call_if q) (get_or (set xs slot (Some (record { request = r; call = call })))
    i None) ≡ option_and_then (call_if q) (get_or xs i None)
shown q r call i slot xs h free differs =
    ⊎_elim (shown_there q r call i slot xs h free differs)
    (λ apart. ap (option_and_then (call_if q))
    (get_or-set_other xs slot i (Some (record { request = r; call = call })) None apart))
    (cases_eq i slot)

-- the request becomes active and no other changes; `fields` is the old table as its fields show it
pub activates : (r call slot : ℕ) (fields old new : Slots) → fields ≡ old
    → (slot < length fields.slots → slot ≡ r % 8) → lowest_free old ≡ Some slot
    → new.slots ≡ set fields.slots slot (Some (record { request = r; call = call }))
    → Activates r call old new
activates r call slot fields old new same e first s =
    let lowest : lowest_free fields ≡ Some slot = rw same first in
    let (within, free) = free_at fields.slots slot lowest in
    let here : slot ≡ r % 8 = e within in
    rw (sym same) (record {
      before = rw (sym here, free) refl;
      after = rw (
        sym here,
        s,
        get_or-set_same fields.slots slot
            (Some (record { request = r; call = call })) None within,
      ) (own r call);
      others = λ q differs. rw s (shown q r call (q % 8) slot fields.slots within free differs);
    })

-- the lowest free slot is one of the eight
pub lowest_within : (slot : ℕ) (fields old : Slots) → fields ≡ old → IsSound fields
    → lowest_free old ≡ Some slot → slot < 8
lowest_within slot fields old same sound first =
    let lowest : lowest_free fields ≡ Some slot = rw same first in
    let within = (free_at fields.slots slot lowest).0 in
    omega (arith, within, sound.slots)

-- a slot after one more turn of one of them
last_turn_there : (i slot turn call : ℕ) (turns : List ℕ) (slots : List (Option Active))
    → slot < length turns → slot < length slots → i ≡ slot
    → IsLastTurn i (get_or (set turns slot (turn + 1)) i 0)
    (get_or (set slots slot (Some (record { request = slot + 8 * turn; call = call }))) i None)
last_turn_there i slot turn call turns slots h k same =
    rw same (rw (
      get_or-set_same turns slot (turn + 1) 0 h,
      get_or-set_same slots slot (Some (record { request = slot + 8 * turn; call = call })) None
          k,
    ) (omega arith))

last_turn_elsewhere : (i slot turn : ℕ) (x : Option Active) (turns : List ℕ)
    (slots : List (Option Active)) → IsLastTurn i (get_or turns i 0) (get_or slots i None)
    → i ≢ slot → IsLastTurn i (get_or (set turns slot turn) i 0) (get_or (set slots slot x) i None)
last_turn_elsewhere i slot turn x turns slots was apart =
    rw (get_or-set_other turns slot i turn 0 apart, get_or-set_other slots slot i x None apart) was

-- what holds of every table holds after the beginning
pub begun_sound : (r call slot : ℕ) (rest : List Waiting) (t : Slots) → IsSound t → slot < 8
    → r ≡ slot + 8 * get_or t.turns slot 0 → length rest + 1 ≡ length t.waiting
    → IsSound (record {
      slots = set t.slots slot (Some (record { request = r; call = call }));
      turns = set t.turns slot (get_or t.turns slot 0 + 1);
      waiting = rest;
      taken = t.taken;
    })
begun_sound r call slot rest t sound within number one_less =
    let summed = sum_by-set (λ x. x) t.turns slot (get_or t.turns slot 0 + 1) 0 (omega (arith, sound.turns)) in
    record {
      slots = simp length-set sound.slots;
      turns = simp length-set sound.turns;
      newest = λ i h. rw number (⊎_elim (last_turn_there i slot (get_or t.turns slot 0) call t.turns
          t.slots (omega (arith, sound.turns)) (omega (arith, sound.slots)))
          (last_turn_elsewhere i slot (get_or t.turns slot 0 + 1)
          (Some (record { request = slot + 8 * get_or t.turns slot 0; call = call })) t.turns
          t.slots (sound.newest i h)) (cases_eq i slot));
      counted = omega (arith, summed, sound.counted);
      within = sound.within;
    }

-- whether q was given, once the slot of r had one more turn, which is r's
given_there : (q r slot turn : ℕ) → q % 8 ≡ slot → r ≡ slot + 8 * turn
    → (q / 8 < turn + 1) ↔ ((q / 8 < turn) ⊎ (q ≡ r))
given_there q r slot turn e number = (
  λ h. ⊎_elim (λ before. inl before) (λ past. inr (omega arith)) (cases_lt (q / 8) turn),
  λ h. ⊎_elim (λ before. omega arith) (λ same. omega arith) h,
)

given_elsewhere : (q r slot turn n : ℕ) → q % 8 ≢ slot → slot < 8 → r ≡ slot + 8 * turn
    → (q / 8 < n) ↔ ((q / 8 < n) ⊎ (q ≡ r))
given_elsewhere q r slot turn n apart within number =
    (λ h. inl h, λ h. ⊎_elim (λ before. before) (λ same. absurd (apart (omega arith))) h)

-- the numbers given now are those before and r
given_now : (q r slot : ℕ) (turns : List ℕ) → slot < length turns → slot < 8
    → r ≡ slot + 8 * get_or turns slot 0
    → (q / 8 < get_or (set turns slot (get_or turns slot 0 + 1)) (q % 8) 0) ↔
    ((q / 8 < get_or turns (q % 8) 0) ⊎ (q ≡ r))
given_now q r slot turns h within number =
    ⊎_elim (λ same. rw same (rw (get_or-set_same turns slot (get_or turns slot 0 + 1) 0 h)
    (given_there q r slot (get_or turns slot 0) same number)))
    (λ apart. rw (get_or-set_other turns slot (q % 8) (get_or turns slot 0 + 1) 0 apart)
    (given_elsewhere q r slot (get_or turns slot 0) _ apart within number))
    (cases_eq (q % 8) slot)

-- the number is new, and greater than those of its slot
pub new_number : (r slot : ℕ) (fields old new : Slots) → fields ≡ old → IsSound fields → slot < 8
    → r ≡ slot + 8 * get_or fields.turns slot 0
    → new.turns ≡ set fields.turns slot (get_or fields.turns slot 0 + 1) → IsNewNumber r old new
new_number r slot fields old new same sound within number turned =
    let here : r % 8 ≡ slot = omega arith in
    rw (sym same) (record {
      unused = rw here (λ h. omega arith);
      greatest = λ q given same_slot. let h = rw (same_slot ∙ here) at given in omega arith;
      given = λ q. rw turned (given_now q r slot fields.turns (omega (arith, sound.turns)) within number);
    })

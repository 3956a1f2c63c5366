-- A request begins: what is kept and shown of its session, and the reply to its first packet.
use Rattle.rpc_base.proofs.FirstLemmas.{all-left, all-push, count-fewer, found-own}
use Rattle.std.proofs.Common.{◌≡◌, ◌≢◌, ℕ, ◌&&◌, ◌+◌, ◌%◌, ◌<◌, ◌≤◌, Bool, true, false, not, cond}
use Rattle.std.proofs.Common.{ltb, ltb-true, Option, Some, None, List, [], ◌∷◌, ◌++◌, refl, sym, ap}
use Rattle.std.proofs.Common.{◌∙◌, arith}
use Rattle.std.specs.Prelude.{IfSome, map, option_map}
use Rattle.std.specs.List.{find}
use Rattle.std.specs.Option.{option_or}
use Rattle.std.proofs.lemmas.Bool.{and_parts, eq-eqb, eqb-true}
use Rattle.std.proofs.lemmas.List.{map-append}
use Rattle.std.proofs.lemmas.List.Folds.{find-append}
use Rattle.message_buffer.specs.Buffer.{Buffer, bytes_of, capacity_of}
use Rattle.buffer_pool.specs.Pool.{Pool, buf_at, filled, lowest_empty, refs_of}
use Rattle.packet_header.specs.Parts.{packet_count, IsMessage}
use Rattle.packet_header.specs.declared.packet.MessageHeader.{MessageHeader}
use Rattle.rpc_base.specs.declared.owner.Owner.TheVariants.{Reply}
use Rattle.rpc_base.specs.Tables.{without_first}
use Rattle.rpc_laws.specs.declared.tables.Served.{Served}
use Rattle.rpc_outside.specs.declared.service.Mode.{Mode}
use Rattle.rpc_outside.specs.declared.service.Mode.TheVariants.{Unserved}
use Rattle.rpc_laws.specs.declared.tables.Server.{Server}
use Rattle.rpc_laws.specs.Requests.{given as given_served, in_slot_of}
use Rattle.server_core.specs.declared.slot.SlotRequest.{SlotRequest}
use Rattle.server_core.specs.declared.slot.Stored.{Stored}
use Rattle.server_core.specs.KeepsPool.{KeepsPool}
use Rattle.rpc_laws.specs.ServerTable.{is_worked_on}
use Rattle.server_core.specs.Rows.{as_newest}
use Rattle.server_core.specs.Replies.{IsHeld, IsReplyTo, entry_at, has_reply, is_owner, place_of, request_of}
use Rattle.server_core.specs.Serving.{begun, first_given, first_taken, given_up, with_slots}
use Rattle.server_core.specs.Session.{IsInTurn, IsSession, Session, answer_of, is_at_work, is_in_slot, newest}
use Rattle.server_core.specs.Shown.{shown, shown_request, way_of}
use Rattle.server_core.specs.Steps.{AreServed, IsReply, begun_with, first_shown}
use Rattle.server_core.proofs.ChangedLemmas.{map-without, none-counted}
use Rattle.server_core.proofs.GivenLemmas.{given-keeps, given-same}
use Rattle.server_core.proofs.PlaceLemmas.{IsBeside, beside-asked, put-behind}
use Rattle.server_core.proofs.PoolLemmas.{map-off, names-empty, one-filled}
use Rattle.server_core.proofs.SlotLemmas.{none-left}
use Rattle.buffer_pool.proofs.PlacesLemmas.{lowest-empty}

-- the replies of a request are found by their owner
owner-slot : (n r : ℕ) (x : SlotRequest) → is_owner n (Reply n r) x ≡ true → is_in_slot (r % 8) x ≡ true
owner-slot n r x passes =
    eq-eqb (x.number % 8) (r % 8) (ap (λ k. k % 8) (eqb-true x.number r (and_parts _ _ passes).1))

by-owner : (s : Session) (d : SlotRequest) → IsSession s → newest d.number s ≡ Some d
    → find (is_owner s.number (Reply s.number d.number)) s.slots ≡ Some d
by-owner s d h found =
    let fewer = count-fewer (is_owner s.number (Reply s.number d.number))
    (is_in_slot (d.number % 8)) (owner-slot s.number d.number) s.slots in
    let own : is_owner s.number (Reply s.number d.number) d ≡ true =
    rw (eq-eqb s.number s.number refl, eq-eqb d.number d.number refl) refl in
    found-own (is_in_slot (d.number % 8)) (is_owner s.number (Reply s.number d.number)) s.slots d
    (omega (arith, fewer, h.apart (d.number % 8))) found own

held-cases : (pool : Pool) (o : Option Stored) (b : Bool) → IfSome o (λ a. 0 < refs_of pool a.place)
    → IsHeld pool (cond b None (option_map (λ a. a.place) o))
held-cases pool o true some = tt
held-cases pool None false some = tt
held-cases pool (Some a) false some = some

-- the entry of the reply to a packet that was taken stands for it
pub reply-stands : (s : Session) (d : SlotRequest) (k : ℕ) → IsSession s
    → newest d.number s ≡ Some d → k < d.taken → is_worked_on (as_newest d) k ≡ false
    → IsReplyTo (request_of s (entry_at s.number s.peer k d)) (entry_at s.number s.peer k d)
reply-stands s d k h found below idle =
    rw (by-owner s d h found) (record { taken = below; there = idle; place_is = refl })

-- no worker has it
and-false : (a b : Bool) → b ≡ false → (a && b) ≡ false
and-false true b e = e
and-false false b e = refl

pub idle-reply : (d : SlotRequest) (k : ℕ) → is_at_work d.state ≡ false → is_worked_on (as_newest d) k ≡ false
idle-reply d k idle = and-false _ (is_at_work d.state) idle

-- the reply to a packet that was taken
pub is-reply : (pool : Pool) (s : Session) (d : SlotRequest) (k : ℕ) → IsSession s
    → newest d.number s ≡ Some d → k < d.taken → is_worked_on (as_newest d) k ≡ false
    → IsHeld pool (place_of d k) → IsReply d.number k s pool (entry_at s.number s.peer k d)
is-reply pool s d k h found below idle some = record {
  owner = refl;
  number = refl;
  peer = refl;
  stands = reply-stands s d k h found below idle;
  is_held = some;
}

reply-parts : (a b : Bool) → (a && not b) ≡ true → (a ≡ true) × (b ≡ false)
reply-parts true true e = cc
reply-parts true false e = (refl, refl)
reply-parts false b e = cc

pub with-reply : (q : SlotRequest) (k : ℕ) → has_reply q k ≡ true → (k < q.taken)
    × (is_worked_on (as_newest q) k ≡ false)
with-reply q k e =
    let parts = reply-parts (ltb k q.taken) (is_worked_on (as_newest q) k) e in
    (ltb-true k q.taken parts.0, parts.1)

-- a credit return needs no reference
pub return-held : (pool : Pool) (d : SlotRequest) (k : ℕ) → ltb (k + 1) (packet_count d.size) ≡ true
    → IsHeld pool (place_of d k)
return-held pool d k early = rw early tt

pub answer-held : (pool : Pool) (d : SlotRequest) (a : Stored) (k : ℕ) → answer_of d.state ≡ Some a
    → 0 < refs_of pool a.place → IsHeld pool (place_of d k)
answer-held pool d a k is some = held-cases pool (answer_of d.state) _ (rw is some)

-- the newest request of a slot, once one begins there
or-none : {A : Type 0} (o : Option A) (y : A) → o ≡ None → option_or o (Some y) ≡ Some y
or-none None y e = refl
or-none (Some x) y e = cc

pub begun-newest : (s : Session) (d : SlotRequest) → IsSession s
    → newest d.number (with_slots (begun d s.slots) s) ≡ Some d
begun-newest s d h =
    let none = none-counted (is_in_slot (d.number % 8))
    (without_first (is_in_slot (d.number % 8)) s.slots) (none-left s h (d.number % 8)) in
    let last : find (is_in_slot (d.number % 8)) (d ∷ []) ≡ Some d =
    rw (eq-eqb (d.number % 8) (d.number % 8) refl) refl in
    find-append (is_in_slot (d.number % 8)) (without_first (is_in_slot (d.number % 8)) s.slots)
    (d ∷ []) ∙ ap (λ o. option_or (find (is_in_slot (d.number % 8))
    (without_first (is_in_slot (d.number % 8)) s.slots)) o) last ∙ or-none _ d none

-- it is in turn
pub first-turn : (h : MessageHeader) (p : ℕ) → IsMessage h.size → 1 < packet_count h.size → IsInTurn (first_taken h p)
first-turn h p size many = record { size = size; some = omega arith; come = many; few = λ none. omega arith }

pub given-turn : (h : MessageHeader) → IsMessage h.size → packet_count h.size ≡ 1 → IsInTurn (first_given h)
given-turn h size one = record { size = size; some = omega arith; come = sym one; few = λ none. omega arith }

-- a request begins, and the older one of its slot is given up
module _ (pool : Pool) (s : Session) (head : MessageHeader) (keeps : KeepsPool pool s.slots) where
  abbrev rest : List SlotRequest
  rest = without_first (is_in_slot (head.request % 8)) s.slots

  abbrev given : Pool
  given = given_up (newest head.request s) pool

  given-kept : KeepsPool given rest
  given-kept = given-keeps (is_in_slot (head.request % 8)) pool s.slots keeps

  pub shown-behind : (after : Pool) (d : SlotRequest) (x : Served) → d.number ≡ head.request
      → map (shown_request after) rest ≡ map (shown_request pool) rest → shown_request after d ≡ x
      → shown after (with_slots (begun d s.slots) s) ≡ begun_with x (shown pool s)
  shown-behind after d x number same is =
      let gone = map-without (shown_request pool) (is_in_slot (head.request % 8))
      (in_slot_of head.request) (λ y. refl) s.slots in
      let all = map-append (shown_request after) (without_first (is_in_slot (head.request % 8)) s.slots) (d ∷ []) in
      let own : x.number ≡ head.request = ap (λ y. y.number) (sym is) ∙ number in
      let at : without_first (is_in_slot (d.number % 8)) s.slots ≡ rest =
      ap (λ n. without_first (is_in_slot (n % 8)) s.slots) number in
      let there_too : without_first (in_slot_of head.request) (shown pool s).slots
      ≡ without_first (in_slot_of x.number) (shown pool s).slots =
      ap (λ n. without_first (in_slot_of n) (shown pool s).slots) (sym own) in
      let slots : map (shown_request after) (begun d s.slots)
      ≡ without_first (in_slot_of x.number) (shown pool s).slots ++ x ∷ [] =
      ap (λ ys. map (shown_request after) (ys ++ d ∷ [])) at ∙ all
      ∙ ap (λ ys. ys ++ shown_request after d ∷ []) (same ∙ gone ∙ there_too)
      ∙ ap (λ y. without_first (in_slot_of x.number) (shown pool s).slots ++ y ∷ []) is in
      let whole : List Served → Server = λ ys. record { way = way_of s; credits = s.credits; slots = ys } in
      ap whole slots

  -- one of its only packet goes to a worker
  pub given-keeps-pool : KeepsPool given (begun (first_given head) s.slots)
  given-keeps-pool = put-behind given (first_given head) rest (record {
    own = record { ask = tt; answer = tt };
    others = given-kept;
    apart = λ r. omega (arith, given-kept.apart r);
  })

  pub given-shows : shown given (with_slots (begun (first_given head) s.slots) s)
      ≡ begun_with (given_served (first_shown head [] None)) (shown pool s)
  given-shows = shown-behind given (first_given head)
      (given_served (first_shown head [] None)) refl
      (given-same (is_in_slot (head.request % 8)) pool s.slots keeps) refl

  -- its bytes go to the lowest empty place
  module _ (p : ℕ) (b : Buffer) (lowest : lowest_empty given ≡ Some p)
      (there : buf_at (filled p b given) p ≡ Some b) (len : b.len ≡ head.size)
      (room : b.len ≤ capacity_of b) where
    asked-beside : IsBeside (filled p b given) (first_taken head p) rest
    asked-beside = beside-asked given p b (first_taken head p) rest given-kept lowest there refl
        refl (len, omega (arith, room, len))

    asked-same : map (shown_request (filled p b given)) rest ≡ map (shown_request pool) rest
    asked-same = map-off p given (filled p b given)
        (one-filled p b given) rest (names-empty given p rest (lowest-empty given p lowest)
        given-kept.kept) ∙ given-same (is_in_slot (head.request % 8)) pool s.slots keeps

    pub first-keeps : KeepsPool (filled p b given) (begun (first_taken head p) s.slots)
    first-keeps = put-behind (filled p b given) (first_taken head p) rest asked-beside

    pub first-shows : shown (filled p b given) (with_slots (begun (first_taken head p) s.slots) s)
        ≡ begun_with (first_shown head (bytes_of b) None) (shown pool s)
    first-shows = shown-behind (filled p b given) (first_taken head p)
        (first_shown head (bytes_of b) None) refl asked-same (rw there refl)

-- all requests are of types that are served
pub begun-served : (mode_of : ℕ → Mode) (slots : List SlotRequest) (d : SlotRequest)
    → mode_of d.req_type ≢ Unserved → AreServed mode_of slots → AreServed mode_of (begun d slots)
begun-served mode_of slots d new all =
    all-push (λ x. mode_of x.req_type ≢ Unserved)
    (without_first (is_in_slot (d.number % 8)) slots) d
    (all-left (is_in_slot (d.number % 8)) (λ x. mode_of x.req_type ≢ Unserved) slots all) new

-- the reply to a packet that was taken before
pub is-reply-of : (pool : Pool) (s : Session) (q : SlotRequest) (r k : ℕ) → IsSession s
    → newest r s ≡ Some q → q.number ≡ r → k < q.taken → is_worked_on (as_newest q) k ≡ false
    → IsHeld pool (place_of q k) → IsReply r k s pool (entry_at s.number s.peer k q)
is-reply-of pool s q r k h found same below idle some =
    let own = is-reply pool s q k h (ap (λ n. newest n s) same ∙ found) below idle some in
    record {
      owner = ap (λ n. Reply s.number n) same;
      number = refl;
      peer = refl;
      stands = own.stands;
      is_held = some;
    }

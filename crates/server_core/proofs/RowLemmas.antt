-- The server table reads the same of a slot's request as of what is shown of it.
use Rattle.std.proofs.Common.{◌≡◌, ℕ, ◌%◌, Bool, false, Option, Some, None, length, refl, ap}
use Rattle.std.specs.Prelude.{IfSome, option_map}
use Rattle.std.proofs.lemmas.Bool.{eq-eqb}
use Rattle.buffer_pool.specs.Pool.{Pool, buf_at}
use Rattle.packet_header.specs.declared.packet.MessageHeader.{MessageHeader}
use Rattle.rpc_laws.specs.Requests.{in_slot_of}
use Rattle.rpc_outside.specs.declared.service.Mode.{Mode}
use Rattle.rpc_laws.specs.ServerTable.{newest_of, server_row}
use Rattle.server_core.specs.declared.slot.Stored.{Stored}
use Rattle.server_core.specs.declared.slot.SlotRequest.{SlotRequest}
use Rattle.server_core.specs.KeepsPool.{IsKept, IsStored, KeepsPool}
use Rattle.server_core.specs.Rows.{as_newest, row_of}
use Rattle.server_core.specs.Session.{Session, answer_of, is_in_slot, newest}
use Rattle.server_core.specs.Shown.{answer_in, shown, shown_request}
use Rattle.server_core.proofs.ListLemmas.{found-shown}
use Rattle.rpc_base.proofs.FirstLemmas.{found-holds}
use Rattle.message_buffer.proofs.MessageLemmas.{message-length}

answer-same : (pool : Pool) (o : Option Stored) → IfSome o (IsStored pool)
    → option_map length (option_map (answer_in pool) o) ≡ option_map (λ (a : Stored). a.size) o
answer-same pool None kept = refl
answer-same pool (Some a) kept = ap Some (message-length (buf_at pool a.place) a.size kept.size)

pub request-same : (pool : Pool) (q : SlotRequest) → IsKept pool q → newest_of (shown_request pool q) ≡ as_newest q
request-same pool q kept = rw (answer-same pool (answer_of q.state) kept.answer) refl

slot-same : (pool : Pool) (o : Option SlotRequest) → IfSome o (IsKept pool)
    → option_map newest_of (option_map (shown_request pool) o) ≡ option_map as_newest o
slot-same pool None kept = refl
slot-same pool (Some q) kept = ap Some (request-same pool q kept)

newest-kept : (pool : Pool) (r : ℕ) (s : Session) (o : Option SlotRequest) → KeepsPool pool s.slots
    → newest r s ≡ o → IfSome o (IsKept pool)
newest-kept pool r s None keeps e = tt
newest-kept pool r s (Some q) keeps e = found-holds _ (IsKept pool) s.slots q keeps.kept e

pub row-shown : (pool : Pool) (mode : Mode) (full : Bool) (h : MessageHeader) (s : Session)
    → KeepsPool pool s.slots
    → server_row mode full false (Some (shown pool s)) s.peer h ≡ row_of mode full h s
row-shown pool mode full h s keeps =
    let found = found-shown (shown_request pool) (in_slot_of h.request) (is_in_slot (h.request % 8))
    (λ q. refl) s.slots in
    let same = slot-same pool (newest h.request s) (newest-kept pool h.request s (newest h.request s) keeps refl) in
    rw (eq-eqb s.peer s.peer refl, found, same) refl

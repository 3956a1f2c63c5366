-- The words of the line of an event tell the event.
use Rattle.std.proofs.Common.{◌≡◌, ℕ, List, ◌∷◌, Some, refl, arith}
use Rattle.rpc_base.specs.declared.event.Event.{Event}
use Rattle.rpc_base.specs.declared.event.Event.TheVariants.{Made, Opened, PairedClient}
use Rattle.rpc_base.specs.declared.event.Event.TheVariants.{PairedServer, NconnectRing}
use Rattle.rpc_base.specs.declared.event.Event.TheVariants.{NconnectNumbers, Accepted}
use Rattle.rpc_base.specs.declared.event.Event.TheVariants.{Declined, Starved, Connected}
use Rattle.rpc_base.specs.declared.event.Event.TheVariants.{FailedNoRoom, FailedNoAnswer}
use Rattle.rpc_base.specs.declared.event.Event.TheVariants.{Closing, NcloseState}
use Rattle.rpc_base.specs.declared.event.Event.TheVariants.{NcloseBusy, ClosedHeard}
use Rattle.rpc_base.specs.declared.event.Event.TheVariants.{ClosedUnheard, Ended, Broken}
use Rattle.rpc_base.specs.declared.event.Event.TheVariants.{Rated, Nrate, Asked}
use Rattle.rpc_base.specs.declared.event.Event.TheVariants.{NcallTooLarge, NcallState}
use Rattle.rpc_base.specs.declared.event.Event.TheVariants.{Begun, Posted, Flushed, Sent}
use Rattle.rpc_base.specs.declared.event.Event.TheVariants.{Unsent, Arrived, Overflowed}
use Rattle.rpc_base.specs.declared.event.Event.TheVariants.{Bad, Heard, Took, Again}
use Rattle.rpc_base.specs.declared.event.Event.TheVariants.{Dropped, Given, Worked, Ran}
use Rattle.rpc_base.specs.declared.event.Event.TheVariants.{Rolled, DoneOk, DoneTooSmall}
use Rattle.rpc_base.specs.declared.event.Event.TheVariants.{DonePeerLost, Polled, Missed}
use Rattle.rpc_base.specs.declared.event.Event.TheVariants.{Carried, Lost, Repeated, Ticked, Restarted}
use Rattle.rpc_base.specs.declared.owner.Owner.TheVariants.{Ask, Reply, Control}
use Rattle.report_text.proofs.EventWords.{event_words}
use Rattle.report_reader.specs.Telling.{made_in, opened_in, paired_client_in}
use Rattle.report_reader.specs.Telling.{paired_server_in, nconnect_ring_in, accepted_in}
use Rattle.report_reader.specs.Telling.{declined_in, starved_in, connected_in}
use Rattle.report_reader.specs.Telling.{failed_no_room_in, failed_no_answer_in, closing_in}
use Rattle.report_reader.specs.Telling.{nclose_state_in, nclose_busy_in, closed_heard_in}
use Rattle.report_reader.specs.Telling.{closed_unheard_in, ended_in, broken_in, rated_in}
use Rattle.report_reader.specs.Telling.{nrate_in, asked_in, ncall_too_large_in}
use Rattle.report_reader.specs.Telling.{ncall_state_in, begun_in, posted_in, flushed_in}
use Rattle.report_reader.specs.Telling.{sent_in, unsent_in, arrived_in, overflowed_in}
use Rattle.report_reader.specs.Telling.{bad_in, took_in, again_in, dropped_in, given_in}
use Rattle.report_reader.specs.Telling.{worked_in, ran_in, rolled_in, done_ok_in}
use Rattle.report_reader.specs.Telling.{done_too_small_in, done_peer_lost_in, polled_in}
use Rattle.report_reader.specs.Telling.{missed_in, carried_in, lost_in, repeated_in}
use Rattle.report_reader.specs.Telling.{restarted_in, ticked_in, paired_line, nconnect_line, failed_line}
use Rattle.report_reader.specs.Telling.{nclose_line, closed_line, ncall_line, done_line}
use Rattle.report_reader.specs.Telling.{names_1, names_2, names_3, names_4, name_of}
use Rattle.report_reader.specs.Telling.{event_by, event_in}
use Rattle.report_reader.specs.Words.{owner_at, is_word}
use Rattle.report_reader.specs.Ranges.{EventInRange}
use Rattle.report_reader.proofs.NumberLemmas.{num-back, state-back, reason-back, not-busy}
use Rattle.report_reader.proofs.NumberLemmas.{not-toolarge}

pub told-back : (w : List ℕ) (event : Event) (first second : List ℕ) → EventInRange event
    → event_in (w ∷ event_words event first second) ≡ Some event
unfolding event_in event_by name_of names_1 names_2 names_3 names_4 is_word owner_at made_in restarted_in opened_in paired_client_in paired_server_in nconnect_ring_in accepted_in declined_in starved_in connected_in failed_no_room_in failed_no_answer_in closing_in nclose_state_in nclose_busy_in closed_heard_in closed_unheard_in ended_in broken_in rated_in nrate_in asked_in ncall_too_large_in ncall_state_in begun_in posted_in flushed_in sent_in unsent_in arrived_in overflowed_in bad_in took_in again_in dropped_in given_in worked_in ran_in rolled_in done_ok_in done_too_small_in done_peer_lost_in polled_in missed_in carried_in lost_in repeated_in ticked_in paired_line nconnect_line failed_line nclose_line closed_line ncall_line done_line
told-back w (Made ring) first second h = rw (num-back 4294967295 ring (h) (omega arith)) refl
told-back w (Restarted life) first second h = rw (num-back 4294967295 life (h) (omega arith)) refl
told-back w (Opened session peer credits) first second h =
    rw (
      num-back 65535 session (h.0) (omega arith),
      num-back 255 peer (h.1) (omega arith),
      num-back 65535 credits (h.2) (omega arith),
    ) refl
told-back w (PairedClient session peer server credits life) first second h =
    rw (
      num-back 65535 session (h.0) (omega arith),
      num-back 255 peer (h.1) (omega arith),
      num-back 65535 server (h.2) (omega arith),
      num-back 65535 credits (h.3) (omega arith),
      num-back 4294967295 life (h.4) (omega arith),
    ) refl
told-back w (PairedServer session peer client credits life) first second h =
    rw (
      num-back 65535 session (h.0) (omega arith),
      num-back 255 peer (h.1) (omega arith),
      num-back 65535 client (h.2) (omega arith),
      num-back 65535 credits (h.3) (omega arith),
      num-back 4294967295 life (h.4) (omega arith),
    ) refl
told-back w (NconnectRing shares credits ring) first second h =
    rw (
      num-back 4294967295 shares (h.0) (omega arith),
      num-back 4294967295 credits (h.1) (omega arith),
      num-back 4294967295 ring (h.2) (omega arith),
    ) refl
told-back w NconnectNumbers first second h = refl
told-back w (Accepted session peer client credits life) first second h =
    rw (
      num-back 65535 session (h.0) (omega arith),
      num-back 255 peer (h.1) (omega arith),
      num-back 65535 client (h.2) (omega arith),
      num-back 65535 credits (h.3) (omega arith),
      num-back 4294967295 life (h.4) (omega arith),
    ) refl
told-back w (Declined peer client credits) first second h =
    rw (
      num-back 255 peer (h.0) (omega arith),
      num-back 65535 client (h.1) (omega arith),
      num-back 65535 credits (h.2) (omega arith),
    ) refl
told-back w (Starved peer client credits) first second h =
    rw (
      num-back 255 peer (h.0) (omega arith),
      num-back 65535 client (h.1) (omega arith),
      num-back 65535 credits (h.2) (omega arith),
    ) refl
told-back w (Connected session server life) first second h =
    rw (
      num-back 65535 session (h.0) (omega arith),
      num-back 65535 server (h.1) (omega arith),
      num-back 4294967295 life (h.2) (omega arith),
    ) refl
told-back w (FailedNoRoom session) first second h =
    rw (num-back 65535 session (h) (omega arith)) refl
told-back w (FailedNoAnswer session) first second h =
    rw (num-back 65535 session (h) (omega arith)) refl
told-back w (Closing session) first second h = rw (num-back 65535 session (h) (omega arith)) refl
told-back w (NcloseState session state) first second h =
    rw (not-busy state, num-back 65535 session (h) (omega arith), state-back state) refl
told-back w (NcloseBusy session calls) first second h =
    rw (
      num-back 65535 session (h.0) (omega arith),
      num-back 18446744073709551615 calls (h.1) (omega arith),
    ) refl
told-back w (ClosedHeard session) first second h =
    rw (num-back 65535 session (h) (omega arith)) refl
told-back w (ClosedUnheard session) first second h =
    rw (num-back 65535 session (h) (omega arith)) refl
told-back w (Ended session) first second h = rw (num-back 65535 session (h) (omega arith)) refl
told-back w (Broken session) first second h = rw (num-back 65535 session (h) (omega arith)) refl
told-back w (Rated session rate) first second h =
    rw (
      num-back 65535 session (h.0) (omega arith),
      num-back 4294967295 rate (h.1) (omega arith),
    ) refl
told-back w (Nrate session state) first second h =
    rw (num-back 65535 session (h) (omega arith), state-back state) refl
told-back w (Asked call session req_type room) first second h =
    rw (
      num-back 18446744073709551615 call (h.0) (omega arith),
      num-back 65535 session (h.1) (omega arith),
      num-back 255 req_type (h.2) (omega arith),
      num-back 4294967295 room (h.3) (omega arith),
    ) refl
told-back w (NcallTooLarge session len) first second h =
    rw (
      num-back 65535 session (h.0) (omega arith),
      num-back 4294967295 len (h.1) (omega arith),
    ) refl
told-back w (NcallState session state) first second h =
    rw (not-toolarge state, num-back 65535 session (h) (omega arith), state-back state) refl
told-back w (Begun call request) first second h =
    rw (
      num-back 18446744073709551615 call (h.0) (omega arith),
      num-back 281474976710655 request (h.1) (omega arith),
    ) refl
told-back w (Posted (Ask s r) number) first second h =
    rw (
      num-back 65535 s (h.0.0) (omega arith),
      num-back 281474976710655 r (h.0.1) (omega arith),
      num-back 65535 number (h.1) (omega arith),
    ) refl
told-back w (Posted (Reply s r) number) first second h =
    rw (
      num-back 65535 s (h.0.0) (omega arith),
      num-back 281474976710655 r (h.0.1) (omega arith),
      num-back 65535 number (h.1) (omega arith),
    ) refl
told-back w (Posted Control number) first second h =
    rw (num-back 65535 number (h.1) (omega arith)) refl
told-back w (Flushed (Ask s r) number) first second h =
    rw (
      num-back 65535 s (h.0.0) (omega arith),
      num-back 281474976710655 r (h.0.1) (omega arith),
      num-back 65535 number (h.1) (omega arith),
    ) refl
told-back w (Flushed (Reply s r) number) first second h =
    rw (
      num-back 65535 s (h.0.0) (omega arith),
      num-back 281474976710655 r (h.0.1) (omega arith),
      num-back 65535 number (h.1) (omega arith),
    ) refl
told-back w (Flushed Control number) first second h =
    rw (num-back 65535 number (h.1) (omega arith)) refl
told-back w (Sent peer (Ask s r) number) first second h =
    rw (
      num-back 255 peer (h.0) (omega arith),
      num-back 65535 s (h.1.0) (omega arith),
      num-back 281474976710655 r (h.1.1) (omega arith),
      num-back 65535 number (h.2) (omega arith),
    ) refl
told-back w (Sent peer (Reply s r) number) first second h =
    rw (
      num-back 255 peer (h.0) (omega arith),
      num-back 65535 s (h.1.0) (omega arith),
      num-back 281474976710655 r (h.1.1) (omega arith),
      num-back 65535 number (h.2) (omega arith),
    ) refl
told-back w (Sent peer Control number) first second h =
    rw (num-back 255 peer (h.0) (omega arith), num-back 65535 number (h.2) (omega arith)) refl
told-back w (Unsent peer) first second h = rw (num-back 255 peer (h) (omega arith)) refl
told-back w (Arrived peer) first second h = rw (num-back 255 peer (h) (omega arith)) refl
told-back w (Overflowed peer) first second h = rw (num-back 255 peer (h) (omega arith)) refl
told-back w (Bad peer) first second h = rw (num-back 255 peer (h) (omega arith)) refl
told-back w Heard first second h = refl
told-back w (Took (Ask s r) number) first second h =
    rw (
      num-back 65535 s (h.0.0) (omega arith),
      num-back 281474976710655 r (h.0.1) (omega arith),
      num-back 65535 number (h.1) (omega arith),
    ) refl
told-back w (Took (Reply s r) number) first second h =
    rw (
      num-back 65535 s (h.0.0) (omega arith),
      num-back 281474976710655 r (h.0.1) (omega arith),
      num-back 65535 number (h.1) (omega arith),
    ) refl
told-back w (Took Control number) first second h =
    rw (num-back 65535 number (h.1) (omega arith)) refl
told-back w (Again (Ask s r) number) first second h =
    rw (
      num-back 65535 s (h.0.0) (omega arith),
      num-back 281474976710655 r (h.0.1) (omega arith),
      num-back 65535 number (h.1) (omega arith),
    ) refl
told-back w (Again (Reply s r) number) first second h =
    rw (
      num-back 65535 s (h.0.0) (omega arith),
      num-back 281474976710655 r (h.0.1) (omega arith),
      num-back 65535 number (h.1) (omega arith),
    ) refl
told-back w (Again Control number) first second h =
    rw (num-back 65535 number (h.1) (omega arith)) refl
told-back w (Dropped reason) first second h = rw (reason-back reason) refl
told-back w (Given session request) first second h =
    rw (
      num-back 65535 session (h.0) (omega arith),
      num-back 281474976710655 request (h.1) (omega arith),
    ) refl
told-back w (Worked session request) first second h =
    rw (
      num-back 65535 session (h.0) (omega arith),
      num-back 281474976710655 request (h.1) (omega arith),
    ) refl
told-back w (Ran session request req_type) first second h =
    rw (
      num-back 65535 session (h.0) (omega arith),
      num-back 281474976710655 request (h.1) (omega arith),
      num-back 255 req_type (h.2) (omega arith),
    ) refl
told-back w (Rolled call posted got) first second h =
    rw (
      num-back 18446744073709551615 call (h.0) (omega arith),
      num-back 65535 posted (h.1) (omega arith),
      num-back 65535 got (h.2) (omega arith),
    ) refl
told-back w (DoneOk call) first second h =
    rw (num-back 18446744073709551615 call (h) (omega arith)) refl
told-back w (DoneTooSmall call size) first second h =
    rw (
      num-back 18446744073709551615 call (h.0) (omega arith),
      num-back 4294967295 size (h.1) (omega arith),
    ) refl
told-back w (DonePeerLost call) first second h =
    rw (num-back 18446744073709551615 call (h) (omega arith)) refl
told-back w (Polled now) first second h =
    rw (num-back 18446744073709551615 now (h) (omega arith)) refl
told-back w (Missed number) first second h = rw (num-back 4294967295 number (h) (omega arith)) refl
told-back w (Carried copy) first second h = rw (num-back 4294967295 copy (h) (omega arith)) refl
told-back w (Lost copy) first second h = rw (num-back 4294967295 copy (h) (omega arith)) refl
told-back w (Repeated copy) first second h = rw (num-back 4294967295 copy (h) (omega arith)) refl
told-back w (Ticked by) first second h = rw (num-back 4294967295 by (h) (omega arith)) refl

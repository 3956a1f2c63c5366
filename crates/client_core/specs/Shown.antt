-- A session as the definitions over histories have it: with the bytes that its places hold.
use Rattle.std.specs.Prelude.{ℕ, ◌+◌, ◌-◌, ◌*◌, ◌≤◌, List, [], ◌∷◌, ◌++◌, count_by, map, take}
use Rattle.std.specs.Prelude.{Option, Some, None, option_map}
use Rattle.rpc_base.specs.declared.limits.TheConstants.{PART_BYTES}
use Rattle.rpc_base.specs.declared.event.Event.{Event}
use Rattle.rpc_base.specs.declared.event.Event.TheVariants.{Asked, Begun, DoneOk, DonePeerLost}
use Rattle.rpc_base.specs.declared.event.Event.TheVariants.{DoneTooSmall, PairedClient, Posted}
use Rattle.rpc_base.specs.declared.event.Event.TheVariants.{Rolled, Sent, Took}
use Rattle.rpc_base.specs.declared.fact.Fact.{Fact}
use Rattle.rpc_base.specs.declared.owner.Owner.TheVariants.{Ask}
use Rattle.rpc_base.specs.declared.state.SessionState.TheVariants.{Connected}
use Rattle.packet_header.specs.Parts.{packet_count}
use Rattle.packet_header.specs.declared.packet.MessageHeader.{MessageHeader}
use Rattle.message_buffer.specs.Buffer.{Buffer, bytes_of, capacity_of}
use Rattle.buffer_pool.specs.Pool.{Pool, buf_at}
use Rattle.packet_rings.specs.Values.{EntryValue}
use Rattle.credit_book.specs.Credits.{limit_of}
use Rattle.rpc_laws.specs.declared.tables.Asking.{Asking}
use Rattle.rpc_laws.specs.declared.tables.Call.{Call}
use Rattle.rpc_laws.specs.declared.tables.Client.{Client}
use Rattle.rpc_laws.specs.declared.tables.Outgoing.{Outgoing}
use Rattle.rpc_laws.specs.declared.tables.Way.{Way}
use Rattle.rpc_laws.specs.Facts.{with_bytes}
use Rattle.rpc_laws.specs.Sessions.{breaks, clients_after}
use Rattle.rpc_laws.specs.Packets.{client_packet}
use Rattle.session_slots.specs.declared.waiting.Waiting.{Waiting}
use Rattle.client_core.specs.declared.call.ActiveCall.{ActiveCall}
use Rattle.client_core.specs.declared.outcome.Done.{Done}
use Rattle.client_core.specs.declared.outcome.Outcome.{Outcome}
use Rattle.client_core.specs.declared.outcome.Outcome.TheVariants.{Ok, TooSmall, PeerLost}
use Rattle.client_core.specs.declared.outcome.Reply.{Reply}
use Rattle.client_core.specs.declared.outcome.Reply.TheVariants.{Took as TookReply, Ended, Dropped}
use Rattle.client_core.specs.Session.{Session}
use Rattle.client_core.specs.Posting.{call_of}
use Rattle.client_core.specs.Timeouts.{is_numbered}
use Rattle.message_buffer.specs.Messages.{message_in}

-- what never changes of the session
abbrev pub way_of : ℕ → Session → Way
way_of peer s = record { number = s.number; peer = peer; other = s.server; life = s.life }

-- what never changes of a call
abbrev pub asking_of : Pool → ActiveCall → Asking
asking_of pool c =
    record {
      number = c.call;
      req_type = c.req_type;
      room = c.room;
      ask = message_in
          (buf_at pool c.ask);
    }

-- the bytes of the answer taken so far: the parts of the replies from that to the last request
-- packet on
abbrev pub parts_of : Pool → ActiveCall → List ℕ
parts_of pool c =
    take (PART_BYTES * (c.got + 1 - packet_count c.len)) (message_in (buf_at pool c.answer))

-- an active call
abbrev pub shown_active : Pool → ActiveCall → Call
shown_active pool c = record {
  what = asking_of pool c;
  progress =
      Some (record {
        request = c.request;
        got = c.got;
        posted = c.posted;
        rolls = c.rolls;
        mark = c.mark;
        answer = c.size;
        parts = parts_of pool c;
      });
}

-- a call that waits
abbrev pub shown_waiting : Waiting → Call
shown_waiting w = record {
  what =
      record {
        number = w.call;
        req_type = w.req_type;
        room = capacity_of w.resp;
        ask = bytes_of
            w.req;
      };
  progress = None;
}

-- the whole session while it is connected: the active calls, oldest first, and then those that wait
abbrev pub shown : Pool → ℕ → Session → Client
shown pool peer s = record {
  way = way_of peer s;
  state = Connected;
  limit = limit_of s.credits;
  free = s.credits.free;
  sends = 0;
  sent_at = 0;
  asked = s.slots.taken;
  turns = s.slots.turns;
  calls = map (shown_active pool) s.active ++ map shown_waiting s.slots.waiting;
}

-- the packet that an entry stands for
abbrev pub packet_of : Pool → Session → EntryValue → Option Outgoing
packet_of pool s e =
    option_map (λ c. client_packet (way_of e.peer s) (asking_of pool c) c.request e.number)
    (call_of s e)

-- the fact of a posting, by its entry, and that of a beginning
abbrev pub posted_event : EntryValue → Event
posted_event e = Posted e.owner e.number

abbrev pub begun_event : ℕ × ℕ → Event
begun_event b = Begun b.0 b.1

abbrev pub sent_event : EntryValue → Event
sent_event e = Sent e.peer e.owner e.number

abbrev pub rolled_event : ActiveCall → Event
rolled_event c = Rolled c.call c.posted c.got

-- the session once an event happened at it, at this clock
abbrev pub stepped : ℕ → Event → Client → List Client
stepped clock event x = clients_after clock event [] None [] (x ∷ [])

-- the reply to a call was taken
abbrev pub took : ℕ → MessageHeader → List ℕ → Client → List Client
took clock h body x =
    clients_after clock (Took (Ask x.way.number h.request) h.number) [] (Some h) body (x ∷ [])

-- the event that a call is over, by how it ended
abbrev pub end_event : ℕ → Outcome → Event
end_event call Ok = DoneOk call
end_event call (TooSmall size) = DoneTooSmall call size
end_event call PeerLost = DonePeerLost call

abbrev pub done_event : Done → Event
done_event d = end_event d.call d.outcome

-- and its fact, which has the answer where the call ended well
abbrev pub end_bytes : Outcome → Buffer → List ℕ
end_bytes Ok resp = bytes_of resp
end_bytes (TooSmall size) resp = []
end_bytes PeerLost resp = []

abbrev pub done_fact : ℕ → Done → Fact
done_fact me d = with_bytes me (done_event d) (end_bytes d.outcome d.resp)

-- the facts that follow the Took of a reply
abbrev pub ending_facts : ℕ → Reply → List Fact
ending_facts me TookReply = []
ending_facts me (Ended d) = done_fact me d ∷ []
ending_facts me (Dropped why) = []

-- the session once a reply was handled
abbrev pub after_outcome : ℕ → Reply → MessageHeader → List ℕ → Client → List Client
after_outcome clock TookReply h body x = took clock h body x
after_outcome clock (Ended d) h body x =
    clients_after clock (done_event d) [] None [] (took clock h body x)
after_outcome clock (Dropped why) h body x = x ∷ []

-- no two active calls have this number
abbrev pub IsAlone : ℕ → Session → Type 0
IsAlone number s = count_by (is_numbered number) s.active ≤ 1

-- where a reply ends a call, no other active call has its number
abbrev pub IsAloneAfter : Reply → Session → Type 0
IsAloneAfter TookReply s = Unit {0}
IsAloneAfter (Ended d) s = IsAlone d.call s
IsAloneAfter (Dropped why) s = Unit {0}

-- the session with its peer lost
abbrev pub shown_broken : Pool → ℕ → Session → Client
shown_broken pool peer s = breaks (shown pool peer s)

-- a call is asked on the session
abbrev pub asked : ℕ → Waiting → Client → List Client
asked clock w x =
    clients_after clock (Asked w.call x.way.number w.req_type (capacity_of w.resp)) (bytes_of w.req)
    None [] (x ∷ [])

-- the session is opened, to a server of this life
abbrev pub paired : (clock number server peer credits life : ℕ) → List Client
paired clock number server peer credits life =
    clients_after clock (PairedClient number peer server credits life) [] None [] []

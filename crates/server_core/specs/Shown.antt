-- A session as the definitions over histories have it: with the bytes that its places hold.
use Rattle.std.specs.Prelude.{ℕ, ◌*◌, List, [], map, take, Option, Some, None, option_map}
use Rattle.rpc_base.specs.declared.limits.TheConstants.{PART_BYTES}
use Rattle.rpc_base.specs.declared.event.Event.TheVariants.{PairedServer}
use Rattle.buffer_pool.specs.Pool.{Pool, buf_at}
use Rattle.rpc_laws.specs.declared.tables.Served.{Served}
use Rattle.rpc_laws.specs.declared.tables.Server.{Server}
use Rattle.rpc_laws.specs.declared.tables.Way.{Way}
use Rattle.rpc_laws.specs.Requests.{servers_after}
use Rattle.server_core.specs.declared.slot.Stored.{Stored}
use Rattle.server_core.specs.declared.slot.SlotRequest.{SlotRequest}
use Rattle.server_core.specs.Session.{Session, answer_of, ask_of, is_at_work}
use Rattle.message_buffer.specs.Messages.{message_in}

-- what never changes of the session
abbrev pub way_of : Session → Way
way_of s = record { number = s.number; peer = s.peer; other = s.client; life = s.life }

-- the bytes of an answer
abbrev pub answer_in : Pool → Stored → List ℕ
answer_in pool a = message_in (buf_at pool a.place)

-- the bytes of a request's first packets, none where they went with a job
abbrev pub ask_in : Pool → ℕ → Option ℕ → List ℕ
ask_in pool taken None = []
ask_in pool taken (Some p) = take (PART_BYTES * taken) (message_in (buf_at pool p))

-- a request: its bytes are those of the packets taken so far
abbrev pub shown_request : Pool → SlotRequest → Served
shown_request pool q = record {
  number = q.number;
  req_type = q.req_type;
  size = q.size;
  taken = q.taken;
  ask = ask_in pool q.taken (ask_of q.state);
  working = is_at_work q.state;
  answer = option_map (answer_in pool) (answer_of q.state);
}

-- the whole session
abbrev pub shown : Pool → Session → Server
shown pool s =
    record { way = way_of s; credits = s.credits; slots = map (shown_request pool) s.slots }

-- the session is opened, to a client of this life
abbrev pub paired : (number client peer credits life : ℕ) → List Server
paired number client peer credits life =
    servers_after (PairedServer number peer client credits life) [] None [] []

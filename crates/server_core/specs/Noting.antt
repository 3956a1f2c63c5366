-- The facts that a Request or RFR leaves.
use Rattle.std.specs.Prelude.{◌≡◌, ◌≢◌, ℕ, List, [], ◌∷◌, ◌++◌, Some}
use Rattle.packet_header.specs.declared.packet.MessageHeader.{MessageHeader}
use Rattle.packet_rings.specs.Values.{EntryValue}
use Rattle.rpc_base.specs.declared.event.Event.TheVariants.{Posted, Took as TookEvent}
use Rattle.rpc_base.specs.declared.event.Event.TheVariants.{Again as AgainEvent}
use Rattle.rpc_base.specs.declared.event.Event.TheVariants.{Dropped as DroppedEvent}
use Rattle.rpc_base.specs.declared.event.Event.TheVariants.{Given as GivenEvent, Ran as RanEvent}
use Rattle.rpc_base.specs.declared.fact.Fact.{Fact}
use Rattle.rpc_base.specs.declared.fact.Who.{Who}
use Rattle.rpc_base.specs.declared.fact.Who.TheVariants.{Node}
use Rattle.rpc_base.specs.declared.owner.Owner.TheVariants.{Reply}
use Rattle.rpc_base.specs.declared.state.DropReason.TheVariants.{NoMemory}
use Rattle.rpc_laws.specs.declared.rows.ServerRow.{ServerRow}
use Rattle.rpc_laws.specs.declared.tables.Server.{Server}
use Rattle.rpc_laws.specs.ServerTable.{served_facts}
use Rattle.rpc_outside.specs.Recording.{Grew, Log}
use Rattle.rpc_outside.specs.declared.service.Mode.{Mode}
use Rattle.rpc_outside.specs.declared.service.Service as Service
use Rattle.server_core.specs.declared.step.Step.{Step}
use Rattle.server_core.specs.declared.step.Step.TheVariants.{Took, Again, Ran, Give, Dropped}
use Rattle.server_core.specs.Flushing.{bare, flushes, queued_of}
use Rattle.server_core.specs.Scene.{Scene}
use Rattle.server_core.specs.Session.{Session, newest}
use Rattle.server_core.specs.Steps.{IfRan, IsAnswer, Steps, asked_with}

-- the facts of a handler that ran after the packet. session is the session's number, ask all that
-- was taken of the request with the packet, and answer what its handler answered
abbrev pub ran_facts : Who → (session : ℕ) → MessageHeader → (ask answer : List ℕ) → List Fact
ran_facts who session h ask answer =
    bare who (TookEvent (Reply session h.request) h.number) ∷
    record {
      who = who;
      event = RanEvent session h.request h.req_type;
      first = ask;
      second = answer;
    } ∷ []

-- the facts of a step before its last ones, which come once a handler ran, and the last ones
abbrev pub first_facts : Who → (session : ℕ) → MessageHeader → (ask answer : List ℕ) → Step →
    List Fact
first_facts who session h ask answer (Took reply) = []
first_facts who session h ask answer (Again reply) = []
first_facts who session h ask answer (Ran reply) = ran_facts who session h ask answer
first_facts who session h ask answer (Give parcel) = []
first_facts who session h ask answer (Dropped why) = []

abbrev pub last_facts : Who → (session : ℕ) → MessageHeader → Step → List Fact
last_facts who session h (Took reply) =
    bare who (TookEvent (Reply session h.request) h.number) ∷
    bare who (Posted (Reply session h.request) h.number) ∷ []
last_facts who session h (Again reply) =
    bare who (AgainEvent (Reply session h.request) h.number) ∷
    bare who (Posted (Reply session h.request) h.number) ∷ []
last_facts who session h (Ran reply) = bare who (Posted (Reply session h.request) h.number) ∷ []
last_facts who session h (Give parcel) =
    bare who (TookEvent (Reply session h.request) h.number) ∷
    bare who (GivenEvent session h.request) ∷ []
last_facts who session h (Dropped why) = bare who (DroppedEvent why) ∷ []

-- all of them, in order
abbrev pub step_facts : Who → (session : ℕ) → MessageHeader → (ask answer : List ℕ) → Step →
    List Fact
step_facts who session h ask answer step =
    first_facts who session h ask answer step ++ last_facts who session h step

-- and those of the packet: where a request begins, the replies to the older one of its slot are
-- flushed first
abbrev pub packet_facts : Who → Session → List EntryValue → ServerRow → MessageHeader →
    (ask answer : List ℕ) → Step → List Fact
packet_facts who s entries row h ask answer step =
    flushes row step who s.number (newest h.request s) entries ++
    step_facts who s.number h ask answer step

-- they are the facts of the server rule at a node, unless memory was wanting
abbrev pub IsByRule : Mode → Session → List EntryValue → ServerRow → MessageHeader →
    (body : List ℕ) → Server → Step → Type 0
IsByRule mode s entries row h body v step =
    (me : ℕ) → (answer : List ℕ) → step ≢ Dropped NoMemory →
    packet_facts (Node me) s entries row h (asked_with h body v) answer step
    ≡ served_facts mode me answer (queued_of entries) (Some v) h body row

-- those that are noted while the packet is handled: of the replies that are flushed, and of a
-- handler that runs
abbrev pub early_facts : Who → Session → List EntryValue → ServerRow → MessageHeader →
    (ask answer : List ℕ) → Step → List Fact
early_facts who s entries row h ask answer step =
    flushes row step who s.number (newest h.request s) entries ++
    first_facts who s.number h ask answer step

-- what a packet makes of the session, what is noted, and that the answer of a handler that ran is
-- the service's
pub record Handled {V R : Type 0} (v : Service.Ghosts V) (log : R → Log)
    (noted : (answer : List ℕ) → List Fact) (h : MessageHeader) (body : List ℕ) (step : Step)
    (before after : Scene Server V R) : Type 0 where
  pub answer : List ℕ
  pub steps : Steps step answer h body before.state after.state
  pub by_service : IfRan step (IsAnswer v.answer (v.stands before.service)
      (v.stands after.service) h.req_type (asked_with h body before.state) answer)
  pub grew : Grew (log before.recorder) (log after.recorder) (noted answer)

-- The facts by which the packet at the front of the ring is handled.
use Rattle.std.specs.Prelude.{ℕ, ◌≡◌, ◌==◌, ◌&&◌, Bool, false, Option, IfSome, IsNone, List, length}
use Rattle.std.specs.List.{find}
use Rattle.std.specs.Str.{bytes_eq}
use Rattle.packet_header.specs.declared.packet.MessageHeader.{MessageHeader}
use Rattle.rpc_base.specs.declared.event.Event.{Event}
use Rattle.rpc_base.specs.declared.event.Event.TheVariants.{DoneOk}
use Rattle.rpc_base.specs.declared.fact.Fact.{Fact}
use Rattle.rpc_laws.specs.declared.rows.ServerRow.{ServerRow}
use Rattle.rpc_laws.specs.declared.tables.Job.{Job}
use Rattle.rpc_laws.specs.declared.tables.Lists.{Lists}
use Rattle.rpc_laws.specs.PollOrder.{asks_facts, handled}
use Rattle.rpc_laws.specs.Requests.{is_server}
use Rattle.rpc_laws.specs.ServerTable.{served_facts}
use Rattle.rpc_outside.specs.declared.service.Mode.{Mode}
use Rattle.rpc_outside.specs.PlainAnswer.{plain_mode}
use Rattle.rule_facts.specs.Fronts.{Starts}
use Rattle.rule_facts.specs.Tells.{is_node}

-- a request as its handler gets it
abbrev pub asked_by : MessageHeader → (ask : List ℕ) → Job
asked_by h ask =
    record { session = h.session; request = h.request; req_type = h.req_type; ask = ask }

-- whether an event tells that a call ended with its answer
abbrev pub tells_done_ok : (call : ℕ) → Event → Bool
tells_done_ok call (DoneOk c) = c == call
tells_done_ok call _ = false

-- and a fact of this node, with the bytes of the answer
abbrev pub says_done_ok : (me call : ℕ) → (answer : List ℕ) → Fact → Bool
says_done_ok me call answer f =
    is_node me f.who
    && (tells_done_ok call f.event && (bytes_eq f.first answer && (length f.second == 0)))

-- what a node has no table of: whether memory for a buffer is wanting, and what the handler answers
pub record Untold : Type 0 where
  pub lacks : Bool
  pub answer : List ℕ

-- the facts begin with n facts, which are those of a rule in such a case
pub record FrontsAt (X : Untold → List Fact) (facts : List Fact) (n : ℕ) : Type 0 where
  pub case : Untold
  pub long : n ≡ length (X case)
  pub starts : Starts (X case) facts

-- the answer is how many of the facts are those of a rule in some case; it is None where they begin
-- with those of none
pub record SomeFronts (X : Untold → List Fact) (facts : List Fact)
    (answer : Option ℕ) : Type 0 where
  pub some : IfSome answer (FrontsAt X facts)
  pub only : IsNone answer → (case : Untold) → Starts (X case) facts → ⊥

-- the facts of a row of the server rule
abbrev pub row_facts : Mode → Lists → MessageHeader → List ℕ → ServerRow → Untold → List Fact
row_facts mode s h body row case =
    served_facts mode s.me case.answer s.queued (find (is_server h.session) s.servers) h body row

-- those of a Request or RFR, at a node of the plain service
abbrev pub asked_facts : Lists → (peer : ℕ) → MessageHeader → List ℕ → Untold → List Fact
asked_facts s peer h body case = asks_facts plain_mode case.lacks case.answer s peer h body

-- and those of any packet
abbrev pub handled_facts : Lists → (peer : ℕ) → MessageHeader → List ℕ → Untold → List Fact
handled_facts s peer h body case = handled plain_mode case.lacks case.answer s peer h body

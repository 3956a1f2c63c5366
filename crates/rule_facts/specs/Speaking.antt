-- A control packet that is handed to the link, and the answer to one that is handled.
use Rattle.std.specs.Prelude.{ℕ, ◌≡◌, ◌==◌, ◌&&◌, ◌++◌, Bool, false, List, length}
use Rattle.packet_header.specs.declared.packet.ControlHeader.{ControlHeader}
use Rattle.rpc_base.specs.declared.event.Event.{Event}
use Rattle.rpc_base.specs.declared.event.Event.TheVariants.{Sent, Unsent}
use Rattle.rpc_base.specs.declared.fact.Fact.{Fact}
use Rattle.rpc_base.specs.declared.owner.Owner.TheVariants.{Control}
use Rattle.rpc_base.specs.Owners.{same_owner}
use Rattle.rpc_laws.specs.declared.rows.ControlRow.{ControlRow}
use Rattle.rpc_laws.specs.declared.tables.Lists.{Lists}
use Rattle.rpc_laws.specs.declared.tables.Timed.{Timed}
use Rattle.rpc_laws.specs.ControlSteps.{AnswersControl, Speaks, SpeaksIf}
use Rattle.rpc_laws.specs.ControlTable.{control_facts, control_reply}
use Rattle.rpc_laws.specs.NodeLists.{after_all}
use Rattle.rule_facts.specs.Fronts.{Starts}
use Rattle.node_rules.specs.SingleFacts.{at_clock}
use Rattle.rule_facts.specs.Tells.{is_node}

-- whether an event tells that a control packet was handed to the link for this peer
abbrev pub tells_handed : (peer : ℕ) → Event → Bool
tells_handed peer (Sent p o k) = (p == peer) && (same_owner o Control && (k == 0))
tells_handed peer (Unsent p) = p == peer
tells_handed peer _ = false

-- and a fact of this node, whose first bytes are the packet's header
abbrev pub says_handed : (me peer : ℕ) → Fact → Bool
says_handed me peer f = is_node me f.who && (tells_handed peer f.event && (length f.second == 0))

-- no front of these facts hands this packet to the link
abbrev pub SpeakNone : (me peer : ℕ) → ControlHeader → List Fact → Type 0
SpeakNone me peer h facts = (x : List Fact) → Starts x facts → Speaks me peer h x → ⊥

-- these facts are the answer of a node with these lists to a control packet, at any clock
abbrev pub Answer : Lists → (peer : ℕ) → ControlHeader → List Fact → Type 0
Answer s peer h x =
    (clock : ℕ) → AnswersControl peer h (at_clock clock s) x (at_clock clock (after_all clock s x))

-- no front of these facts is, at any clock
abbrev pub AnswerNone : Lists → (peer : ℕ) → ControlHeader → List Fact → Type 0
AnswerNone s peer h facts =
    (clock : ℕ) → (x : List Fact) → (t : Timed) → Starts x facts
    → AnswersControl peer h (at_clock clock s) x t → ⊥

-- these facts are those of a row, with its answer
pub record RowAnswer (s : Lists) (peer : ℕ) (h : ControlHeader) (row : ControlRow) (x : List Fact)
    : Type 0 where
  pub said : List Fact
  pub speaks : SpeaksIf s.me peer (control_reply s.life h row) said
  pub facts : x ≡ control_facts s peer h row ++ said

-- no front of these facts is
abbrev pub RowAnswerNone : Lists → (peer : ℕ) → ControlHeader → ControlRow → List Fact → Type 0
RowAnswerNone s peer h row facts =
    (x : List Fact) → Starts x facts → RowAnswer s peer h row x → ⊥

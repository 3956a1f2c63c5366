-- What a control packet does at a node, and how one is handed to the link.
use Rattle.std.specs.Prelude.{◌≡◌, ℕ, ◌++◌, Bool, false, Option, option_map, List, []}
use Rattle.std.specs.Prelude.{◌∷◌, Result, Ok, Err}
use Rattle.memory_count.specs.Faults.{HasRisenBy}
use Rattle.packet_header.specs.Header.{AreBytes, Spells}
use Rattle.packet_header.specs.declared.packet.ControlHeader.{ControlHeader}
use Rattle.packet_header.specs.declared.packet.Packet.TheVariants.{Control as ControlPacket}
use Rattle.rpc_base.specs.declared.fact.Fact.{Fact}
use Rattle.rpc_laws.specs.declared.rows.ControlRow.{ControlRow}
use Rattle.rpc_laws.specs.declared.tables.Timed.{Timed}
use Rattle.rpc_laws.specs.ControlSteps.{control_fact}
use Rattle.rpc_laws.specs.ControlTable.{control_facts, control_reply, control_row}
use Rattle.rpc_laws.specs.Steps.{Goes}
use Rattle.rpc_outside.specs.Linking.{Carried}
use Rattle.rpc_outside.specs.Recording.{Grew, Log}
use Rattle.node_steps.specs.Changes.{Change}
use Rattle.node_steps.specs.Lacks.{lacks_in}
use Rattle.node_steps.specs.Notes.{sent_of}

-- what a row says of a control packet of this peer is done
pub record Acts (row : ControlRow) (peer : ℕ) (h : ControlHeader) (s : Timed) (x : List Fact)
    (t : Timed) : Type 0 where
  pub facts : x ≡ control_facts s.lists peer h row
  pub goes : Goes s x t

-- a control packet of this peer is handled by this row: its facts, and the packet that answers it
pub record ControlsBy (row : ControlRow) (peer : ℕ) (h : ControlHeader)
    (reply : Option ControlHeader) (s : Timed) (x : List Fact) (t : Timed) : Type 0 where
  pub facts : x ≡ control_facts s.lists peer h row
  pub answer : reply ≡ control_reply s.lists.life h row
  pub goes : Goes s x t

-- by that of the control rule, where memory for a server session is wanting, which was refused
-- then, or not
pub record Controls (peer : ℕ) (h : ControlHeader) (reply : Option ControlHeader)
    (memory : Change ℕ) (s : Timed) (x : List Fact) (t : Timed) : Type 0 where
  pub lacks : Bool
  pub by : ControlsBy (control_row lacks peer h s.lists) peer h reply s x t
  pub wants : HasRisenBy (lacks_in x) memory.old memory.new

-- whether a link took what it was handed
abbrev pub was_taken : {E : Type 0} → Result Bool E → Bool
was_taken (Ok taken) = taken
was_taken (Err fault) = false

-- a control packet was handed to the link: it is noted whether the link took it, and the link,
-- where it tells what it sent, took just this datagram
pub record Spoke {R L : Type 0} (log : R → Log) (sent : L → Option (List Carried)) (me peer : ℕ)
    (h : ControlHeader) (taken : Bool) (rec : Change R) (link : Change L) : Type 0 where
  pub head : List ℕ
  pub bytes : AreBytes head
  pub spells : Spells (ControlPacket h) head
  pub grew : Grew (log rec.old) (log rec.new) (control_fact taken me peer head ∷ [])
  pub took : sent link.new
      ≡ option_map (λ ds. ds ++ sent_of (control_fact taken me peer head ∷ [])) (sent link.old)

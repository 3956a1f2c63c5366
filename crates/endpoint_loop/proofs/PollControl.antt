-- What the control packets of an inbox note: events for which a test is false, and one Heard each.
use Rattle.std.proofs.Common.{◌≡◌, ℕ, Bool, false, Option, Some, None, List}
use Rattle.std.proofs.Common.{[], ◌∷◌}
use Rattle.std.specs.Prelude.{flat_map}
use Rattle.std.specs.List.{find}
use Rattle.packet_header.specs.declared.packet.ControlHeader.{ControlHeader}
use Rattle.rpc_base.specs.declared.event.Event.{Event}
use Rattle.rpc_base.specs.declared.event.Event.TheVariants.{Accepted, ClosedHeard, Declined}
use Rattle.rpc_base.specs.declared.event.Event.TheVariants.{Connected as IsConnected, Ended}
use Rattle.rpc_base.specs.declared.event.Event.TheVariants.{FailedNoRoom, Flushed, Heard, Sent}
use Rattle.rpc_base.specs.declared.event.Event.TheVariants.{Starved, Unsent}
use Rattle.rpc_base.specs.declared.fact.Fact.{Fact}
use Rattle.rpc_base.specs.declared.owner.Owner.{Owner}
use Rattle.rpc_laws.specs.declared.rows.ControlRow.{ControlRow}
use Rattle.rpc_laws.specs.declared.rows.ControlRow.TheVariants.{Accepts, Closes, Connects, Declines}
use Rattle.rpc_laws.specs.declared.rows.ControlRow.TheVariants.{Ends, Fails, Starves}
use Rattle.rpc_laws.specs.declared.tables.Lists.{Lists}
use Rattle.rpc_laws.specs.declared.tables.Queued.{Queued}
use Rattle.rpc_laws.specs.declared.tables.Server.{Server}
use Rattle.rpc_laws.specs.ControlSteps.{AnswersControl, EndsAllOutdated, EndsOutdated, Hears}
use Rattle.rpc_laws.specs.ControlSteps.{HearsAll, SpeaksIf, TakesControl}
use Rattle.rpc_laws.specs.ControlTable.{control_facts, control_reply, control_row, named_end}
use Rattle.rpc_laws.specs.ControlTable.{session_end, session_flushes}
use Rattle.rpc_laws.specs.Requests.{in_slot_of}
use Rattle.rpc_laws.specs.ServerTable.{flushes}
use Rattle.rpc_laws.specs.Steps.{Then}
use Rattle.node_steps.proofs.NoteStill.{AllStill, Stills, said-still, still-append, still-chain}
use Rattle.node_steps.proofs.NoteStill.{still-then}
use Rattle.node_steps.proofs.NoteCounts.{flushes-none}

-- what is noted after a Heard
module _ (q : Event → Bool) (flushed : (o : Owner) (k : ℕ) → q (Flushed o k) ≡ false)
    (ended : (t : ℕ) → q (Ended t) ≡ false)
    (declined : (p s c : ℕ) → q (Declined p s c) ≡ false)
    (starved : (p s c : ℕ) → q (Starved p s c) ≡ false)
    (accepted : (t p s c l : ℕ) → q (Accepted t p s c l) ≡ false)
    (connected : (s t l : ℕ) → q (IsConnected s t l) ≡ false)
    (failed : (s : ℕ) → q (FailedNoRoom s) ≡ false)
    (closed : (s : ℕ) → q (ClosedHeard s) ≡ false)
    (sent : (p : ℕ) (o : Owner) (k : ℕ) → q (Sent p o k) ≡ false)
    (unsent : (p : ℕ) → q (Unsent p) ≡ false) where
  slots-still : (me : ℕ) (queued : List Queued) (v : Server) (slots : List ℕ)
      → AllStill q (flat_map (λ slot. flushes me queued v.way.number
      (find (in_slot_of slot) v.slots)) slots)
  slots-still me queued v [] = tt
  slots-still me queued v (slot ∷ slots) =
      still-append q _ _ (flushes-none q flushed me queued v.way.number
      (find (in_slot_of slot) v.slots)) (slots-still me queued v slots)

  end-still : (me : ℕ) (queued : List Queued) (o : Option Server)
      → AllStill q (session_end me queued o)
  end-still me queued None = tt
  end-still me queued (Some v) =
      still-append q (session_flushes me queued v) _ (slots-still me queued v
      (0 ∷ 1 ∷ 2 ∷ 3 ∷ 4 ∷ 5 ∷ 6 ∷ 7 ∷ [])) (ended v.way.number, tt)

  control-still : (s : Lists) (peer : ℕ) (h : ControlHeader) (row : ControlRow)
      → AllStill q (control_facts s peer h row)
  control-still s peer h Declines = (declined peer h.client h.credits, tt)
  control-still s peer h Starves = (starved peer h.client h.credits, tt)
  control-still s peer h (Accepts t) = (accepted t peer h.client h.credits h.from_life, tt)
  control-still s peer h Ends =
      end-still s.me s.queued (named_end peer h.client h.from_life h.server s.servers)
  control-still s peer h (Connects t) = (connected h.client t h.from_life, tt)
  control-still s peer h Fails = (failed h.client, tt)
  control-still s peer h Closes = (closed h.client, tt)
  control-still s peer h _ = tt

  speaks-still : (me peer : ℕ) (o : Option ControlHeader) (x : List Fact) → SpeaksIf me peer o x
      → AllStill q x
  speaks-still me peer None x h = rw h tt
  speaks-still me peer (Some k) x h = rw h.facts (said-still q sent unsent me h.taken peer h.head)

  -- the end of what a packet outdates
  ends-still : (peer : ℕ) (h : ControlHeader) → Stills q (EndsAllOutdated peer h)
  ends-still peer h s x t k =
      still-chain q (EndsOutdated peer h)
      (λ s x t e. rw e.facts (end-still s.lists.me s.lists.queued (Some e.server))) s x t k.steps

  -- its row, and its answer
  answers-still : (peer : ℕ) (h : ControlHeader) → Stills q (AnswersControl peer h)
  answers-still peer h s x t k =
      let row = control_row k.lacks peer h s.lists in
      rw k.facts (still-append q (control_facts s.lists peer h row) k.said
      (control-still s.lists peer h row)
      (speaks-still s.lists.me peer (control_reply s.lists.life h row) k.said k.speaks))

  pub hears-still : q Heard ≡ false → Stills q HearsAll
  hears-still heard s x t all =
      still-chain q Hears (λ s x t h.
      still-then q TakesControl
      (Then (EndsAllOutdated h.front.peer h.header) (AnswersControl h.front.peer h.header))
      (λ s x t k. rw k.facts (heard, tt))
      (still-then q (EndsAllOutdated h.front.peer h.header)
      (AnswersControl h.front.peer h.header) (ends-still h.front.peer h.header)
      (answers-still h.front.peer h.header)) s x t h.steps) s x t all.steps

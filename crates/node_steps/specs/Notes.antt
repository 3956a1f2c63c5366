-- What a step of an endpoint notes, by any recorder.
use Rattle.std.specs.Prelude.{◌≡◌, ℕ, Bool, true, false, Option, None, option_map, List, [], ◌∷◌}
use Rattle.std.specs.Prelude.{◌++◌, count_by, map}
use Rattle.std.specs.List.{filter}
use Rattle.rpc_base.specs.declared.event.Event.{Event}
use Rattle.rpc_base.specs.declared.event.Event.TheVariants.{Asked as AskedEvent, Sent}
use Rattle.rpc_base.specs.declared.event.Event.TheVariants.{DoneOk, DoneTooSmall, DonePeerLost}
use Rattle.client_core.specs.Shown.{done_fact}
use Rattle.client_core.specs.declared.outcome.Done.{Done}
use Rattle.rpc_base.specs.declared.fact.Fact.{Fact}
use Rattle.rpc_laws.specs.declared.tables.Lists.{Lists}
use Rattle.rpc_laws.specs.declared.tables.Timed.{Timed}
use Rattle.rpc_laws.specs.Steps.{Rel, NotesNext}
use Rattle.rpc_outside.specs.Linking.{Carried}
use Rattle.node_steps.specs.Given.{Gave}
use Rattle.node_steps.specs.Seen.{Asks, asking}
use Rattle.rpc_outside.specs.Recording.{Grew, Log}

-- there are facts by which the recorder grew, and by which P leads from the old node to the new
-- one, whatever the jobs that are out ask
pub record Makes {R : Type 0} (log : R → Log) (P : Rel) (old new : Timed) (before now : R)
    : Type 0 where
  pub noted : List Fact
  pub grew : Grew (log before) (log now) noted
  pub step : (asks : Asks) → P (asking asks old) noted (asking asks new)

-- whether there was a next event: then it was noted, and otherwise nothing changed
abbrev pub NotesOne : {R : Type 0} → (R → Log) → (Lists → Option Event) → Bool → Timed → Timed → R
    → R → Type 0
NotesOne log next true old new before now =
    Makes log (NotesNext next) old new before now
NotesOne log next false old new before now =
    (next old.lists ≡ None) × (new ≡ old) × (now ≡ before)

-- the datagrams of the Sent facts
abbrev pub sent_by : Event → (first second : List ℕ) → List Carried
sent_by (Sent peer owner k) first second = (peer, first ++ second) ∷ []
sent_by _ first second = []

abbrev pub sent_of : List Fact → List Carried
sent_of [] = []
sent_of (f ∷ fs) = sent_by f.event f.first f.second ++ sent_of fs

-- and the link, where it tells what it sent, sent exactly the datagrams of the Sent facts
pub record MakesSent {R L : Type 0} (log : R → Log) (sent : L → Option (List Carried)) (P : Rel)
    (old new : Timed) (before now : R) (from to : L) : Type 0 where
  pub makes : Makes log P old new before now
  pub took : sent to ≡ option_map (λ ds. ds ++ sent_of makes.noted) (sent from)

-- nothing was sent, and nothing noted
pub record SendsNone {R L : Type 0} (sent : L → Option (List Carried)) (old new : Timed)
    (before now : R) (from to : L) : Type 0 where
  pub node : new ≡ old
  pub recorder : now ≡ before
  pub link : sent to ≡ sent from

-- the same where something is known of what the jobs ask
pub record MakesWhere {R : Type 0} (log : R → Log) (Asked : Asks → Type 0) (P : Rel)
    (old new : Timed) (before now : R) : Type 0 where
  pub noted : List Fact
  pub grew : Grew (log before) (log now) noted
  pub step : (asks : Asks) → Asked asks → P (asking asks old) noted (asking asks new)

abbrev pub is_end_event : Event → Bool
is_end_event (DoneOk call) = true
is_end_event (DoneTooSmall call size) = true
is_end_event (DonePeerLost call) = true
is_end_event _ = false

-- the end of a call
abbrev pub is_end : Fact → Bool
is_end f = is_end_event f.event

-- a call was asked, and how many were
abbrev pub is_asked : Event → Bool
is_asked (AskedEvent call session req_type room) = true
is_asked _ = false

abbrev pub asked_in : List Fact → ℕ
asked_in x = count_by (λ f. is_asked f.event) x

-- calls ended: those that the continuation was given are those whose ends were noted, in order
pub record MakesEnds {R K : Type 0} (log : R → Log) (given : K → List Done → Type 0) (P : Rel)
    (old new : Timed) (before now : R) (from to : K) : Type 0 where
  pub makes : Makes log P old new before now
  pub dones : List Done
  pub ends : filter is_end makes.noted ≡ map (done_fact old.lists.me) dones
  pub gave : Gave given from to dones

-- The numbers of a fact of a history fit 64 bits; the bytes of a fact stand in its line where they
-- are read.
use Rattle.std.proofs.Common.{◌≡◌, ℕ, List, [], ◌∷◌, Some, sym, ap, arith}
use Rattle.rpc_base.specs.declared.event.Event.{Event}
use Rattle.rpc_base.specs.declared.event.Event.TheVariants.{Made, Opened, PairedClient}
use Rattle.rpc_base.specs.declared.event.Event.TheVariants.{PairedServer, NconnectRing}
use Rattle.rpc_base.specs.declared.event.Event.TheVariants.{NconnectNumbers, Accepted}
use Rattle.rpc_base.specs.declared.event.Event.TheVariants.{Declined, Starved, Connected}
use Rattle.rpc_base.specs.declared.event.Event.TheVariants.{FailedNoRoom, FailedNoAnswer}
use Rattle.rpc_base.specs.declared.event.Event.TheVariants.{Closing, NcloseState}
use Rattle.rpc_base.specs.declared.event.Event.TheVariants.{NcloseBusy, ClosedHeard}
use Rattle.rpc_base.specs.declared.event.Event.TheVariants.{ClosedUnheard, Ended, Broken}
use Rattle.rpc_base.specs.declared.event.Event.TheVariants.{Rated, Nrate, Asked}
use Rattle.rpc_base.specs.declared.event.Event.TheVariants.{NcallTooLarge, NcallState}
use Rattle.rpc_base.specs.declared.event.Event.TheVariants.{Begun, Posted, Flushed, Sent}
use Rattle.rpc_base.specs.declared.event.Event.TheVariants.{Unsent, Arrived, Overflowed}
use Rattle.rpc_base.specs.declared.event.Event.TheVariants.{Bad, Heard, Took, Again}
use Rattle.rpc_base.specs.declared.event.Event.TheVariants.{Dropped, Given, Worked, Ran}
use Rattle.rpc_base.specs.declared.event.Event.TheVariants.{Rolled, DoneOk, DoneTooSmall}
use Rattle.rpc_base.specs.declared.event.Event.TheVariants.{DonePeerLost, Polled, Missed}
use Rattle.rpc_base.specs.declared.event.Event.TheVariants.{Carried, Lost, Repeated, Ticked, Restarted}
use Rattle.rpc_base.specs.declared.owner.Owner.{Owner}
use Rattle.rpc_base.specs.declared.owner.Owner.TheVariants.{Ask, Reply, Control}
use Rattle.report_text.proofs.EventWords.{event_words}
use Rattle.report_text.specs.Ranges.{EventFits, OwnerFits}
use Rattle.report_text.specs.Shape.{tail_of}
use Rattle.report_text.specs.Told.{NoOthers}
use Rattle.report_reader.specs.Facts.{first_by, first_in, second_by, second_in, place_of}
use Rattle.report_reader.specs.Ranges.{AreOctets, EventInRange, OwnerInRange}
use Rattle.report_reader.proofs.OctetLemmas.{octets-back}

owner-fits : (owner : Owner) → OwnerInRange owner → OwnerFits owner
owner-fits (Ask s r) h = (omega (arith, h.0), omega (arith, h.1))
owner-fits (Reply s r) h = (omega (arith, h.0), omega (arith, h.1))
owner-fits Control h = tt

pub event-fits : (event : Event) → EventInRange event → EventFits event
event-fits (Made ring) h = omega (arith, h)
event-fits (Restarted life) h = omega (arith, h)
event-fits (Opened session peer credits) h =
    (omega (arith, h.0), omega (arith, h.1), omega (arith, h.2))
event-fits (PairedClient session peer server credits life) h =
    (omega (arith, h.0), omega (arith, h.1), omega (arith, h.2), omega (arith, h.3), omega (arith, h.4))
event-fits (PairedServer session peer client credits life) h =
    (omega (arith, h.0), omega (arith, h.1), omega (arith, h.2), omega (arith, h.3), omega (arith, h.4))
event-fits (NconnectRing shares credits ring) h =
    (omega (arith, h.0), omega (arith, h.1), omega (arith, h.2))
event-fits NconnectNumbers h = tt
event-fits (Accepted session peer client credits life) h =
    (omega (arith, h.0), omega (arith, h.1), omega (arith, h.2), omega (arith, h.3), omega (arith, h.4))
event-fits (Declined peer client credits) h =
    (omega (arith, h.0), omega (arith, h.1), omega (arith, h.2))
event-fits (Starved peer client credits) h =
    (omega (arith, h.0), omega (arith, h.1), omega (arith, h.2))
event-fits (Connected session server life) h =
    (omega (arith, h.0), omega (arith, h.1), omega (arith, h.2))
event-fits (FailedNoRoom session) h = omega (arith, h)
event-fits (FailedNoAnswer session) h = omega (arith, h)
event-fits (Closing session) h = omega (arith, h)
event-fits (NcloseState session state) h = omega (arith, h)
event-fits (NcloseBusy session calls) h = (omega (arith, h.0), omega (arith, h.1))
event-fits (ClosedHeard session) h = omega (arith, h)
event-fits (ClosedUnheard session) h = omega (arith, h)
event-fits (Ended session) h = omega (arith, h)
event-fits (Broken session) h = omega (arith, h)
event-fits (Rated session rate) h = (omega (arith, h.0), omega (arith, h.1))
event-fits (Nrate session state) h = omega (arith, h)
event-fits (Asked call session req_type room) h =
    (omega (arith, h.0), omega (arith, h.1), omega (arith, h.2), omega (arith, h.3))
event-fits (NcallTooLarge session len) h = (omega (arith, h.0), omega (arith, h.1))
event-fits (NcallState session state) h = omega (arith, h)
event-fits (Begun call request) h = (omega (arith, h.0), omega (arith, h.1))
event-fits (Posted owner number) h = (owner-fits owner h.0, omega (arith, h.1))
event-fits (Flushed owner number) h = (owner-fits owner h.0, omega (arith, h.1))
event-fits (Sent peer owner number) h =
    (omega (arith, h.0), owner-fits owner h.1, omega (arith, h.2))
event-fits (Unsent peer) h = omega (arith, h)
event-fits (Arrived peer) h = omega (arith, h)
event-fits (Overflowed peer) h = omega (arith, h)
event-fits (Bad peer) h = omega (arith, h)
event-fits Heard h = tt
event-fits (Took owner number) h = (owner-fits owner h.0, omega (arith, h.1))
event-fits (Again owner number) h = (owner-fits owner h.0, omega (arith, h.1))
event-fits (Dropped reason) h = tt
event-fits (Given session request) h = (omega (arith, h.0), omega (arith, h.1))
event-fits (Worked session request) h = (omega (arith, h.0), omega (arith, h.1))
event-fits (Ran session request req_type) h =
    (omega (arith, h.0), omega (arith, h.1), omega (arith, h.2))
event-fits (Rolled call posted got) h = (omega (arith, h.0), omega (arith, h.1), omega (arith, h.2))
event-fits (DoneOk call) h = omega (arith, h)
event-fits (DoneTooSmall call size) h = (omega (arith, h.0), omega (arith, h.1))
event-fits (DonePeerLost call) h = omega (arith, h)
event-fits (Polled now) h = omega (arith, h)
event-fits (Missed number) h = omega (arith, h)
event-fits (Carried copy) h = omega (arith, h)
event-fits (Lost copy) h = omega (arith, h)
event-fits (Repeated copy) h = omega (arith, h)
event-fits (Ticked by) h = omega (arith, h)

no-bytes : (first second : List ℕ) → (first ≡ []) × (second ≡ [])
    → (Some [] ≡ Some first) × (Some [] ≡ Some second)
no-bytes first second h =
    (ap (λ (x : List ℕ). Some x) (sym h.0), ap (λ (x : List ℕ). Some x) (sym h.1))

pub bytes-back : (w : List ℕ) (event : Event) (first second : List ℕ) → AreOctets first
    → AreOctets second → NoOthers (tail_of event) first second
    → (first_by (tail_of event) (place_of event) (w ∷ event_words event first second) ≡ Some first)
    × (second_by (tail_of event) (place_of event) (w ∷ event_words event first second) ≡ Some second)
unfolding first_in second_in
bytes-back w (Made ring) first second a b none = no-bytes first second none
bytes-back w (Restarted life) first second a b none = no-bytes first second none
bytes-back w (Opened session peer credits) first second a b none = no-bytes first second none
bytes-back w (PairedClient session peer server credits life) first second a b none =
    no-bytes first second none
bytes-back w (PairedServer session peer client credits life) first second a b none =
    no-bytes first second none
bytes-back w (NconnectRing shares credits ring) first second a b none = no-bytes first second none
bytes-back w NconnectNumbers first second a b none = no-bytes first second none
bytes-back w (Accepted session peer client credits life) first second a b none =
    no-bytes first second none
bytes-back w (Declined peer client credits) first second a b none = no-bytes first second none
bytes-back w (Starved peer client credits) first second a b none = no-bytes first second none
bytes-back w (Connected session server life) first second a b none = no-bytes first second none
bytes-back w (FailedNoRoom session) first second a b none = no-bytes first second none
bytes-back w (FailedNoAnswer session) first second a b none = no-bytes first second none
bytes-back w (Closing session) first second a b none = no-bytes first second none
bytes-back w (NcloseState session state) first second a b none = no-bytes first second none
bytes-back w (NcloseBusy session calls) first second a b none = no-bytes first second none
bytes-back w (ClosedHeard session) first second a b none = no-bytes first second none
bytes-back w (ClosedUnheard session) first second a b none = no-bytes first second none
bytes-back w (Ended session) first second a b none = no-bytes first second none
bytes-back w (Broken session) first second a b none = no-bytes first second none
bytes-back w (Rated session rate) first second a b none = no-bytes first second none
bytes-back w (Nrate session state) first second a b none = no-bytes first second none
bytes-back w (Asked call session req_type room) first second a b none =
    (octets-back first a, ap (λ (x : List ℕ). Some x) (sym none))
bytes-back w (NcallTooLarge session len) first second a b none = no-bytes first second none
bytes-back w (NcallState session state) first second a b none = no-bytes first second none
bytes-back w (Begun call request) first second a b none = no-bytes first second none
bytes-back w (Posted (Ask s r) number) first second a b none = no-bytes first second none
bytes-back w (Posted (Reply s r) number) first second a b none = no-bytes first second none
bytes-back w (Posted Control number) first second a b none = no-bytes first second none
bytes-back w (Flushed (Ask s r) number) first second a b none = no-bytes first second none
bytes-back w (Flushed (Reply s r) number) first second a b none = no-bytes first second none
bytes-back w (Flushed Control number) first second a b none = no-bytes first second none
bytes-back w (Sent peer (Ask s r) number) first second a b none =
    (octets-back first a, octets-back second b)
bytes-back w (Sent peer (Reply s r) number) first second a b none =
    (octets-back first a, octets-back second b)
bytes-back w (Sent peer Control number) first second a b none =
    (octets-back first a, octets-back second b)
bytes-back w (Unsent peer) first second a b none =
    (octets-back first a, ap (λ (x : List ℕ). Some x) (sym none))
bytes-back w (Arrived peer) first second a b none =
    (octets-back first a, ap (λ (x : List ℕ). Some x) (sym none))
bytes-back w (Overflowed peer) first second a b none =
    (octets-back first a, ap (λ (x : List ℕ). Some x) (sym none))
bytes-back w (Bad peer) first second a b none =
    (octets-back first a, ap (λ (x : List ℕ). Some x) (sym none))
bytes-back w Heard first second a b none = no-bytes first second none
bytes-back w (Took (Ask s r) number) first second a b none = no-bytes first second none
bytes-back w (Took (Reply s r) number) first second a b none = no-bytes first second none
bytes-back w (Took Control number) first second a b none = no-bytes first second none
bytes-back w (Again (Ask s r) number) first second a b none = no-bytes first second none
bytes-back w (Again (Reply s r) number) first second a b none = no-bytes first second none
bytes-back w (Again Control number) first second a b none = no-bytes first second none
bytes-back w (Dropped reason) first second a b none = no-bytes first second none
bytes-back w (Given session request) first second a b none = no-bytes first second none
bytes-back w (Worked session request) first second a b none = no-bytes first second none
bytes-back w (Ran session request req_type) first second a b none =
    (octets-back first a, octets-back second b)
bytes-back w (Rolled call posted got) first second a b none = no-bytes first second none
bytes-back w (DoneOk call) first second a b none =
    (octets-back first a, ap (λ (x : List ℕ). Some x) (sym none))
bytes-back w (DoneTooSmall call size) first second a b none = no-bytes first second none
bytes-back w (DonePeerLost call) first second a b none = no-bytes first second none
bytes-back w (Polled now) first second a b none = no-bytes first second none
bytes-back w (Missed number) first second a b none = no-bytes first second none
bytes-back w (Carried copy) first second a b none = no-bytes first second none
bytes-back w (Lost copy) first second a b none = no-bytes first second none
bytes-back w (Repeated copy) first second a b none = no-bytes first second none
bytes-back w (Ticked by) first second a b none = no-bytes first second none

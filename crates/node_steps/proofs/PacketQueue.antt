-- What a packet that is taken does to the queue and notes, by its row.
use Rattle.std.proofs.Common.{◌≡◌, ◌≢◌, ℕ, ◌≤◌, Bool, true, false, ◌&&◌, cond, Option, Some, List}
use Rattle.std.proofs.Common.{[], ◌∷◌, ◌++◌, refl, sym, ap, ◌∙◌, arith}
use Rattle.std.specs.List.{AllByRecursion, find}
use Rattle.packet_header.specs.declared.packet.MessageHeader.{MessageHeader}
use Rattle.rpc_base.specs.declared.event.Event.TheVariants.{Dropped as DroppedEvent, Given, Posted}
use Rattle.rpc_base.specs.declared.event.Event.TheVariants.{Ran as RanEvent, Took as TookEvent}
use Rattle.rpc_base.specs.declared.fact.Fact.{Fact}
use Rattle.rpc_base.specs.declared.owner.Owner.TheVariants.{Reply}
use Rattle.rpc_base.specs.declared.state.DropReason.{DropReason}
use Rattle.rpc_base.specs.declared.state.DropReason.TheVariants.{NoMemory}
use Rattle.rpc_laws.specs.declared.rows.ServerRow.{ServerRow}
use Rattle.rpc_laws.specs.declared.rows.ServerRow.TheVariants.{Drops, Begins, Takes, Repeats}
use Rattle.rpc_laws.specs.declared.tables.Lists.{Lists}
use Rattle.rpc_laws.specs.declared.tables.Queued.{Queued}
use Rattle.rpc_laws.specs.declared.tables.Served.{Served as ServedRequest}
use Rattle.rpc_laws.specs.declared.tables.Server.{Server}
use Rattle.rpc_laws.specs.Facts.{plain, with_two}
use Rattle.rpc_laws.specs.NodeLists.{after_all}
use Rattle.rpc_laws.specs.Queues.{replies}
use Rattle.rpc_laws.specs.Requests.{in_slot_of}
use Rattle.rpc_laws.specs.ServerTable.{flushes, is_last, is_rfr, makes_job, served_facts}
use Rattle.rpc_laws.specs.ServerTable.{took_facts, whole_ask}
use Rattle.rpc_laws.specs.Service.{Answers, Serving, is_mode_background, served_after_all}
use Rattle.rpc_outside.specs.Served.{Served}
use Rattle.rpc_outside.specs.declared.service.Mode.{Mode}
use Rattle.rpc_outside.specs.declared.service.Mode.TheVariants.{Unserved}
use Rattle.node_laws.specs.Valid.{SoundServer, is_due, left_in}
use Rattle.server_core.specs.Flushing.{has_begun}
use Rattle.server_core.specs.Steps.{IsStepOf}
use Rattle.server_core.specs.declared.step.Step.{Step}
use Rattle.server_core.specs.declared.step.Step.TheVariants.{Took, Again, Ran, Give, Dropped}
use Rattle.packet_rings.specs.Values.{EntryValue}
use Rattle.worker_board.specs.declared.Parcel.{Parcel}
use Rattle.session_store.specs.Serving.{handled_facts, row_at, without_owned}
use Rattle.node_steps.specs.Fits.{IsSendable}
use Rattle.node_steps.proofs.PacketRows.{HasTaken, has-begun, has-gone-on, left-begun}
use Rattle.node_steps.proofs.PacketRows.{left-next}
use Rattle.node_steps.proofs.PacketRows.{served-next, taken-first, taken-next, whole-first}
use Rattle.node_steps.specs.Lacks.{is_lack}
use Rattle.node_steps.proofs.NoteCounts.{flushes-none}
use Rattle.node_steps.proofs.NoteStill.{AllStill}
use Rattle.node_steps.proofs.PacketFlushes.{fewer-left, flushed-after, flushes-quiet}
use Rattle.node_steps.proofs.PacketFlushes.{flushes-serve, ready-left}

-- whether a step takes a packet
abbrev pub takes_it : Step → Bool
takes_it (Took reply) = true
takes_it (Again reply) = false
takes_it (Ran reply) = true
takes_it (Give parcel) = true
takes_it (Dropped why) = false

-- older are the facts of the replies that are flushed, and queue what they leave
pub record TakenBy (mode_of : ℕ → Mode) (full : Bool) (me : ℕ) (answer : List ℕ)
    (queued : List Queued) (v : Server) (h : MessageHeader) (body : List ℕ) (row : ServerRow)
    (step : Step) : Type 0 where
  pub older : List Fact
  pub queue : List Queued
  pub flushed : (clock : ℕ) (s : Lists) → s.queued ≡ queued
      → after_all clock s older ≡ record s { queued = queue }
  pub ready : AllByRecursion IsSendable queued → AllByRecursion IsSendable queue
  pub fewer : replies queue ≤ replies queued
  pub calm : AllStill is_lack older
  pub quiet : (p : Serving) (served : Served) (fs : List Fact) → Answers p served fs
      → Answers p served (older ++ fs)
  pub serves : (p : Serving) (served : Served) (fs : List Fact)
      → served_after_all p.mode served (older ++ fs) ≡ served_after_all p.mode served fs
  pub begun : cond (has_begun row step)
      (without_owned v.way.number (find (in_slot_of h.request) v.slots) queued) queued ≡ queue
  pub ruled : served_facts (mode_of h.req_type) me answer queued (Some v) h body row
      ≡ older ++ took_facts (mode_of h.req_type) me answer h (whole_ask (Some v) h.request body)
  pub request : HasTaken v h body
  pub free : (makes_job (mode_of h.req_type) h && full) ≡ false
  pub left : is_last h ≡ true → 1 ≤ left_in is_due h.request v.slots
  pub served : AllByRecursion (λ (q : ServedRequest). mode_of q.req_type ≢ Unserved) v.slots
      → is_rfr h.kind ≡ false → mode_of h.req_type ≢ Unserved

begins-it : (step : Step) → takes_it step ≡ true → has_begun Begins step ≡ true
begins-it (Took reply) t = refl
begins-it (Again reply) t = cc
begins-it (Ran reply) t = refl
begins-it (Give parcel) t = refl
begins-it (Dropped why) t = cc

module _ (mode_of : ℕ → Mode) (full : Bool) (me : ℕ) (answer : List ℕ) (queued : List Queued)
    (v : Server) (sound : SoundServer v) (h : MessageHeader) (body : List ℕ) where
  abbrev mode : Mode
  mode = mode_of h.req_type

  abbrev Taken : ServerRow → Step → Type 0
  Taken row step = TakenBy mode_of full me answer queued v h body row step

  abbrev slot : Option ServedRequest
  slot = find (in_slot_of h.request) v.slots

  taken-begins : (step : Step) → takes_it step ≡ true → row_at mode full false h v ≡ Begins
      → Taken Begins step
  taken-begins step t e =
      let begun = has-begun mode full v h e in
      record {
        older = flushes me queued v.way.number slot;
        queue = without_owned v.way.number slot queued;
        flushed = λ clock s is. flushed-after v.way.number clock me s slot queued is;
        ready = λ all. ready-left v.way.number slot queued all;
        fewer = fewer-left v.way.number slot queued;
        calm = flushes-none is_lack (λ o k. refl) me queued v.way.number slot;
        quiet = λ p served fs a. flushes-quiet v.way.number me p served slot queued fs a;
        serves = λ p served fs. flushes-serve v.way.number me p served slot queued fs;
        begun = rw (begins-it step t) refl;
        ruled = ap (λ (b : List ℕ). flushes me queued v.way.number slot
            ++ took_facts mode me answer h b)
            (sym (whole-first mode full v sound h body begun.newer));
        request = taken-first mode full v sound h body begun;
        free = begun.free;
        left = λ last. left-begun mode full v sound h body begun;
        served = λ all f. begun.served;
      }

  taken-takes : (step : Step) → row_at mode full false h v ≡ Takes → Taken Takes step
  taken-takes step e =
      let on = has-gone-on mode full v h e in
      record {
        older = [];
        queue = queued;
        flushed = λ clock s is. ap (λ (qs : List Queued). record s { queued = qs }) is;
        ready = λ all. all;
        fewer = omega arith;
        calm = tt;
        quiet = λ p served fs a. a;
        serves = λ p served fs. refl;
        begun = refl;
        ruled = refl;
        request = taken-next mode full v sound h body on;
        free = on.free;
        left = λ last. left-next mode full v sound h body on last;
        served = λ all f. served-next mode full v sound h body mode_of all on f;
      }

  no-drop : (step : Step) (why : DropReason) → step ≡ Dropped why → takes_it step ≡ true → ⊥
  no-drop step why e t = let clash : false ≡ true = ap takes_it (sym e) ∙ t in cc

  no-repeat : (step : Step) → IsStepOf mode h Repeats step → takes_it step ≡ true → ⊥
  no-repeat (Took reply) is t = is
  no-repeat (Again reply) is t = cc
  no-repeat (Ran reply) is t = is
  no-repeat (Give parcel) is t = is
  no-repeat (Dropped why) is t = is

  taken-row : (row : ServerRow) (step : Step) → takes_it step ≡ true
      → row_at mode full false h v ≡ row → IsStepOf mode h row step → Taken row step
  taken-row (Drops why) step t e is = absurd (no-drop step why is t)
  taken-row Begins step t e is = taken-begins step t e
  taken-row Takes step t e is = taken-takes step e
  taken-row Repeats step t e is = absurd (no-repeat step is t)

  pub taken-by : (step : Step) → takes_it step ≡ true
      → IsStepOf mode h (row_at mode full false h v) step
      → Taken (row_at mode full false h v) step
  taken-by step t is = taken-row (row_at mode full false h v) step t refl is

-- what the packet was, by the step
module _ (mode : Mode) (h : MessageHeader) where
  pub step-took : (row : ServerRow) (reply : Option EntryValue)
      → IsStepOf mode h row (Took reply) → is_last h ≡ false
  step-took (Drops why) reply is = cc
  step-took Begins reply is = is
  step-took Takes reply is = is
  step-took Repeats reply is = absurd is

  pub step-ran : (row : ServerRow) (reply : EntryValue) → IsStepOf mode h row (Ran reply)
      → (is_last h ≡ true) × (makes_job mode h ≡ false)
  step-ran (Drops why) reply is = cc
  step-ran Begins reply is = is
  step-ran Takes reply is = is
  step-ran Repeats reply is = absurd is

  pub step-give : (row : ServerRow) (parcel : Parcel) → IsStepOf mode h row (Give parcel)
      → makes_job mode h ≡ true
  step-give (Drops why) parcel is = cc
  step-give Begins parcel is = is
  step-give Takes parcel is = is
  step-give Repeats parcel is = absurd is

  pub step-again : (row : ServerRow) (reply : EntryValue) → IsStepOf mode h row (Again reply)
      → row ≡ Repeats
  step-again (Drops why) reply is = cc
  step-again Begins reply is = absurd is
  step-again Takes reply is = absurd is
  step-again Repeats reply is = refl

  -- a job is that of a last packet, of a type for workers
  parts-by : (last back : Bool) → (last && back) ≡ true → (last ≡ true) × (back ≡ true)
  parts-by true true e = (refl, refl)
  parts-by true false e = cc
  parts-by false back e = cc

  pub job-parts : makes_job mode h ≡ true → (is_last h ≡ true) × (is_mode_background mode ≡ true)
  job-parts e = parts-by (is_last h) (is_mode_background mode) e

  front-by : (last back : Bool) → last ≡ true → (last && back) ≡ false → back ≡ false
  front-by true back t e = e
  front-by false back t e = cc

  pub no-job : is_last h ≡ true → makes_job mode h ≡ false → is_mode_background mode ≡ false
  no-job last none = front-by (is_last h) (is_mode_background mode) last none

  module _ (me : ℕ) (answer ask : List ℕ) where
    abbrev took : Fact
    took = plain me (TookEvent (Reply h.session h.request) h.number)

    abbrev posted : Fact
    posted = plain me (Posted (Reply h.session h.request) h.number)

    pub facts-took : is_last h ≡ false → took_facts mode me answer h ask ≡ took ∷ posted ∷ []
    facts-took last = rw last refl

    pub facts-ran : is_last h ≡ true → makes_job mode h ≡ false → took_facts mode me answer h ask
        ≡ took ∷ with_two me (RanEvent h.session h.request h.req_type) ask answer ∷ posted ∷ []
    facts-ran last none = rw (none, last) refl

    pub facts-give : makes_job mode h ≡ true → took_facts mode me answer h ask
        ≡ took ∷ plain me (Given h.session h.request) ∷ []
    facts-give job = rw job refl

-- a packet that is dropped, maybe for want of memory
module _ (mode : Mode) (full : Bool) (h : MessageHeader) (v : Server) (why : DropReason) where
  drops-by : (row : ServerRow) → row_at mode full false h v ≡ row
      → IsStepOf mode h row (Dropped why)
      → (why ≡ NoMemory → row_at mode full true h v ≡ Drops NoMemory)
      → (lacks : Bool) × (row_at mode full lacks h v ≡ Drops why)
  drops-by (Drops w) e is lacking =
      let same : why ≡ w = cc in (false, e ∙ ap (λ x. Drops x) (sym same))
  drops-by Begins e is lacking = (true, lacking is.0 ∙ ap (λ x. Drops x) (sym is.0))
  drops-by Takes e is lacking = (true, lacking is.0 ∙ ap (λ x. Drops x) (sym is.0))
  drops-by Repeats e is lacking = absurd is

  pub drops-with : IsStepOf mode h (row_at mode full false h v) (Dropped why)
      → (Dropped why ≡ Dropped NoMemory → row_at mode full true h v ≡ Drops NoMemory)
      → (lacks : Bool) × (row_at mode full lacks h v ≡ Drops why)
  drops-with is lacking =
      drops-by (row_at mode full false h v) refl is
      (λ e. lacking (ap (λ x. Dropped x) e))

module _ (mode : Mode) (me : ℕ) (answer : List ℕ) (queued : List Queued) (v : Server)
    (h : MessageHeader) (body : List ℕ) where
  by-why : (why : DropReason) (ruled : List Fact) → ruled ≡ plain me (DroppedEvent why) ∷ []
      → handled_facts me ruled (Dropped why) ≡ plain me (DroppedEvent why) ∷ []
  by-why NoMemory ruled e = refl
  by-why why ruled e = e

  wanted : (why : DropReason) (ruled : List Fact) → why ≡ NoMemory
      → handled_facts me ruled (Dropped why) ≡ plain me (DroppedEvent why) ∷ []
  wanted why ruled e = rw e refl

  pub facts-dropped : (row : ServerRow) (why : DropReason) → IsStepOf mode h row (Dropped why)
      → handled_facts me (served_facts mode me answer queued (Some v) h body row) (Dropped why)
      ≡ plain me (DroppedEvent why) ∷ []
  facts-dropped (Drops w) why is =
      let same : why ≡ w = cc in
      by-why why (plain me (DroppedEvent w) ∷ [])
      (ap (λ x. plain me (DroppedEvent x) ∷ []) (sym same))
  facts-dropped Begins why is = wanted why _ is.0
  facts-dropped Takes why is = wanted why _ is.0
  facts-dropped Repeats why is = absurd is

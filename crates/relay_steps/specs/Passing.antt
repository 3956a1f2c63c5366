-- Jobs of an endpoint over a desk that are asked of another server, one after another.
use Rattle.std.specs.Prelude.{◌≡◌, ◌⊎◌, ℕ, ◌+◌, ◌-◌, List, [], ◌∷◌, ◌++◌, Some}
use Rattle.client_core.specs.Handing.{Handed}
use Rattle.deferred_calls.specs.Desks.{Jobs}
use Rattle.deferred_calls.specs.Moves.{Answers, HandsOut}
use Rattle.deferred_calls.specs.declared.job.Numbered.{Numbered}
use Rattle.desk_laws.specs.Staying.{desk_members, with_desk}
use Rattle.endpoint_loop.specs.Endpoints.{Running}
use Rattle.endpoint_loop.specs.Stands.{StandsFor}
use Rattle.node_steps.specs.Notes.{sent_of}
use Rattle.message_buffer.specs.Buffer.{Buffer, bytes_of}
use Rattle.relay_steps.specs.declared.passing.TheConstants.{BACKGROUND, OTHER_SERVER}
use Rattle.relays.specs.Relaying.{Relaying}
use Rattle.rpc_base.specs.declared.event.Event.{Event}
use Rattle.rpc_base.specs.declared.event.Event.TheVariants.{Asked, NcallState, NcallTooLarge}
use Rattle.rpc_base.specs.declared.fact.Fact.{Fact}
use Rattle.rpc_base.specs.declared.limits.Limits.{Limits}
use Rattle.rpc_base.specs.declared.state.SessionState.{SessionState}
use Rattle.rpc_laws.specs.Facts.{plain, with_bytes}
use Rattle.rpc_outside.specs.Recording.{Grew, Log}
use Rattle.rpc_outside.specs.declared.service.Service as Service
use Rattle.session_store.specs.Handing.{HandsInAt}

-- an endpoint over a desk, and the jobs of it that were asked
pub record Relayed (V : Type 0) : Type 0 where
  pub endpoint : Running V Jobs
  pub relays : Relaying

abbrev pub relayed : {V : Type 0} → Running V Jobs → Relaying → Relayed V
relayed e r = record { endpoint = e; relays = r }

-- the call of a job: on the session with the other server, of the job's type less 128, with its
-- bytes, and with room for its answer
abbrev pub nested_event : (call : ℕ) → Numbered → Event
nested_event call n = Asked call OTHER_SERVER (n.parcel.req_type - BACKGROUND) n.parcel.out.len

abbrev pub nested_fact : (me call : ℕ) → Numbered → Fact
nested_fact me call n = with_bytes me (nested_event call n) (bytes_of n.parcel.ask)

-- a call on that session was refused
abbrev pub IsRefusal : (me : ℕ) → Fact → Type 0
IsRefusal me f =
    ((state : SessionState) × (f ≡ plain me (NcallState OTHER_SERVER state)))
    ⊎ ((len : ℕ) × (f ≡ plain me (NcallTooLarge OTHER_SERVER len)))

-- what is handed in with it: the job's number is its tag
abbrev pub nested_handed : (call : ℕ) → Numbered → Buffer → Handed
nested_handed call n req =
    record { call = call; tag = n.number; req = Some req; room = n.parcel.out.len }

-- an endpoint over a desk goes on by these facts, in the life that it had, and sends nothing: for
-- whatever it stood, it stands for that and these facts after it
pub record StandsAfter {V : Type 0} (service : Service.Ghosts V) (answer : ℕ → List ℕ → List ℕ)
    (x : List Fact) (old new : Running V Jobs) : Type 0 where
  pub stands : (limits : Limits) → (g : List Fact)
      → StandsFor service (desk_members answer) limits g old
      → StandsFor service (desk_members answer) limits (g ++ x) new
  pub me : new.timed.lists.me ≡ old.timed.lists.me
  pub life : new.timed.lists.life ≡ old.timed.lists.life
  pub silent : sent_of x ≡ []

-- the call of a job was asked: the fact is its Asked, and it was handed in
pub record AsksNested {V : Type 0} (n : Numbered) (f : Fact) (old new : Running V Jobs) : Type 0
  where
    pub asked : f ≡ nested_fact old.timed.lists.me old.timed.lists.asked n
    pub me : new.timed.lists.me ≡ old.timed.lists.me
    pub req : Buffer
    pub hands_in : HandsInAt OTHER_SERVER (nested_handed old.timed.lists.asked n req) old.handed
        new.handed

-- a job was asked, and its handle is kept; the desk stays as it is
pub record GoesOut {V : Type 0} (n : Numbered) (f : Fact) (old new : Relayed V) : Type 0 where
  pub asks : AsksNested n f old.endpoint new.endpoint
  pub desk : new.endpoint.workers ≡ old.endpoint.workers
  pub kept : new.relays ≡ record old.relays { asked = old.relays.asked ++ n ∷ [] }

-- its call was refused, and it was answered here and counted so
pub record StaysHere {V : Type 0} (answer : ℕ → List ℕ → List ℕ) (n : Numbered) (f : Fact)
    (old new : Relayed V) : Type 0 where
  pub refusal : IsRefusal old.endpoint.timed.lists.me f
  pub endpoint : new.endpoint ≡ with_desk old.endpoint new.endpoint.workers
  pub answers : Answers answer n old.endpoint.workers new.endpoint.workers
  pub counted : new.relays ≡ record old.relays { here = old.relays.here + 1 }

-- one or the other, by this fact
abbrev pub PassesBy : {V : Type 0} → (ℕ → List ℕ → List ℕ) → Numbered → Fact
    → (old new : Relayed V) → Type 0
PassesBy answer n f old new = GoesOut n f old new ⊎ StaysHere answer n f old new

-- a job whose handle is out is passed on, and the recorder grew by the fact of that
pub record PassesOn {V R : Type 0} (log : R → Log) (service : Service.Ghosts V)
    (answer : ℕ → List ℕ → List ℕ) (n : Numbered) (old new : Relayed V) (before now : R) : Type 0
  where
    pub fact : Fact
    pub passes : PassesBy answer n fact old new
    pub grew : Grew (log before) (log now) (fact ∷ [])
    pub stands : StandsAfter service answer (fact ∷ []) old.endpoint new.endpoint

-- with another desk
abbrev pub at_desk : {V : Type 0} → Relayed V → Jobs → Relayed V
at_desk s desk = record s { endpoint = with_desk s.endpoint desk }

-- these jobs got their handles and were passed on, one after another, each by its fact
pub data Passes {V : Type 0} (answer : ℕ → List ℕ → List ℕ) (s : Relayed V)
    : List Numbered → List Fact → Relayed V → Type 0 where
  none : Passes answer s [] [] s
  more : {ns : List Numbered} {x : List Fact} {t : Relayed V} → Passes answer s ns x t
      → (n : Numbered) → (f : Fact) → (desk : Jobs) → (u : Relayed V)
      → HandsOut (Some n) t.endpoint.workers desk → PassesBy answer n f (at_desk t desk) u
      → Passes answer s (ns ++ n ∷ []) (x ++ f ∷ []) u

-- the first jobs that waited were passed on, and the recorder grew by the facts of that
pub record PassesSome {V R : Type 0} (log : R → Log) (service : Service.Ghosts V)
    (answer : ℕ → List ℕ → List ℕ) (old new : Relayed V) (before now : R) : Type 0 where
  pub jobs : List Numbered
  pub facts : List Fact
  pub passes : Passes answer old jobs facts new
  pub waited : old.endpoint.workers.waiting ≡ jobs ++ new.endpoint.workers.waiting
  pub grew : Grew (log before) (log now) facts
  pub stands : StandsAfter service answer facts old.endpoint new.endpoint

-- and these are all
pub record PassesAll {V R : Type 0} (log : R → Log) (service : Service.Ghosts V)
    (answer : ℕ → List ℕ → List ℕ) (old new : Relayed V) (before now : R) : Type 0 where
  pub some : PassesSome log service answer old new before now
  pub none_waits : new.endpoint.workers.waiting ≡ []

-- some jobs were passed on, and then, where not all were, one more handle is out
pub record GoesPast {V R : Type 0} (log : R → Log) (service : Service.Ghosts V)
    (answer : ℕ → List ℕ → List ℕ) (old new : Running V Jobs) (before now : R) : Type 0 where
  pub noted : List Fact
  pub grew : Grew (log before) (log now) noted
  pub stands : StandsAfter service answer noted old new

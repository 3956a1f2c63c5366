-- What the timers do: queued packets are taken out, calls are rolled back, and sessions break.
use Rattle.std.specs.Prelude.{ℕ, ◌≡◌, ◌<◌, ◌++◌, Option, Some, None, IfSome, List, [], ◌∷◌}
use Rattle.std.specs.Prelude.{flat_map, map, option_and_then, option_map, slice_get, slice_set}
use Rattle.rpc_base.specs.declared.event.Event.TheVariants.{Broken, DonePeerLost, Rolled}
use Rattle.rpc_base.specs.declared.fact.Fact.{Fact}
use Rattle.rpc_base.specs.declared.owner.Owner.{Owner}
use Rattle.rpc_base.specs.declared.owner.Owner.TheVariants.{Ask}
use Rattle.rpc_base.specs.declared.state.SessionState.TheVariants.{Broken as IsBroken}
use Rattle.client_core.specs.Shown.{done_fact}
use Rattle.client_core.specs.declared.active.Active.{Active}
use Rattle.client_core.specs.declared.outcome.Done.{Done}
use Rattle.rpc_laws.specs.declared.tables.Call.{Call}
use Rattle.rpc_laws.specs.declared.tables.Client.{Client}
use Rattle.rpc_laws.specs.declared.tables.Timed.{Timed}
use Rattle.rpc_laws.specs.Facts.{plain}
use Rattle.rpc_laws.specs.GoBackN.{flushes_of}
use Rattle.rpc_laws.specs.Queues.{flush_facts}
use Rattle.rpc_laws.specs.Steps.{Goes, Rel}
use Rattle.rpc_outside.specs.Recording.{Grew, Log}
use Rattle.rpc_outside.specs.declared.link.Link as Link
use Rattle.session_store.specs.Changes.{calls_in}
use Rattle.session_store.specs.Ends.{next_above, progress_of}
use Rattle.node_steps.specs.Changes.{Change}
use Rattle.node_steps.specs.Given.{Gave}
use Rattle.node_steps.specs.Notes.{MakesEnds}
use Rattle.node_steps.specs.Links.{LinkTook}
use Rattle.node_steps.specs.declared.told.Asking.{Asking}

-- what is noted can be told of the node as it was
pub record Notes (what : Timed → List Fact) (s : Timed) (x : List Fact) (t : Timed) : Type 0 where
  pub facts : x ≡ what s
  pub goes : Goes s x t

-- the queued packets of an owner are taken out
abbrev pub flushing : Owner → Timed → List Fact
flushing owner s = flush_facts s.lists.me s.lists.queued owner

-- some of them are, and then the others are those that are still queued
pub record FlushesSome (owner : Owner) (s : Timed) (x : List Fact) (t : Timed) : Type 0 where
  pub facts : x ++ flush_facts s.lists.me t.lists.queued owner ≡ flushing owner s
  pub goes : Goes s x t

-- the calls of session i
abbrev pub calls_at : ℕ → Timed → List Call
calls_at i s = calls_in (slice_get s.lists.clients i)

-- the queued packets of all its calls are taken out, call by call
abbrev pub flushing_all : ℕ → Timed → List Fact
flushing_all i s =
    flat_map (λ c. flushes_of s.lists.me i s.lists.queued c.progress) (calls_at i s)

-- a call is rolled back of which no packet is queued
abbrev pub rolling : Active → Timed → List Fact
rolling a s = plain s.lists.me (Rolled a.call a.posted a.got) ∷ []

-- and first its packets are taken out
abbrev pub rolling_back : ℕ → Active → Timed → List Fact
rolling_back i a s = flushing (Ask i a.request) s ++ rolling a s

-- the end of a call whose peer is lost
abbrev pub lost : ℕ → Call → Fact
lost me c = plain me (DonePeerLost c.what.number)

-- session i breaks, of which no packet is queued: each of its calls ends
abbrev pub breaking : ℕ → Timed → List Fact
breaking i s = plain s.lists.me (Broken i) ∷ map (lost s.lists.me) (calls_at i s)

-- the active call of this number in session i has rolled back fewer than eight times
abbrev pub HasFewRolls : (i number : ℕ) → List Client → Type 0
HasFewRolls i number clients =
    IfSome (slice_get clients i) (λ x. IfSome (progress_of number x) (λ p. p.rolls < 8))

-- a session that lost its peer, with the calls that it has left
abbrev pub broken_with : Client → List Call → Client
broken_with x left = record x { state = IsBroken; free = 0; calls = left }

-- session i has lost its peer, and its first calls, those that are not left, have ended: what was
-- noted, and what the continuation was given
pub record HasLost {R K : Type 0} (log : R → Log) (given : K → List Done → Type 0) (me i : ℕ)
    (left : List Call) (clients : Change (List Client)) (rec : Change R) (k : Change K)
    : Type 0 where
  pub client : Client
  pub place : slice_get clients.old i ≡ Some client
  pub over : List Call
  pub calls : client.calls ≡ over ++ left
  pub changed : clients.new ≡ slice_set clients.old i (broken_with client left)
  pub grew : Grew (log rec.old) (log rec.new) (plain me (Broken i) ∷ map (lost me) over)
  pub dones : List Done
  pub ends : map (lost me) over ≡ map (done_fact me) dones
  pub gave : Gave given k.old k.new dones

-- the first call of session i has ended
pub record EndsOne {R K : Type 0} (log : R → Log) (given : K → List Done → Type 0) (me i : ℕ)
    (clients : Change (List Client)) (rec : Change R) (k : Change K) : Type 0 where
  pub client : Client
  pub place : slice_get clients.old i ≡ Some client
  pub first : Call
  pub left : List Call
  pub calls : client.calls ≡ first ∷ left
  pub changed : clients.new ≡ slice_set clients.old i (record client { calls = left })
  pub grew : Grew (log rec.old) (log rec.new) (lost me first ∷ [])
  pub done : Done
  pub end : lost me first ≡ done_fact me done
  pub gave : Gave given k.old k.new (done ∷ [])

-- session i breaks: its packets are taken out, and then its calls end
abbrev pub breaking_off : ℕ → Timed → List Fact
breaking_off i s = flushing_all i s ++ breaking i s

-- the first active call of session i above a number
abbrev pub number_at : Option ℕ → ℕ → Timed → Option ℕ
number_at after i s =
    option_map (λ c. c.what.number) (option_and_then (next_above after)
    (slice_get s.lists.clients i))

-- what was next is told, and it was looked at; or there is none
abbrev pub LooksAt : {R K : Type 0} → (R → Log) → (K → List Done → Type 0)
    → (next : Timed → Option ℕ) → (looks : ℕ → Rel) → Option ℕ → Change Timed → Change R → Change K
    → Type 0
LooksAt log given next looks None node rec k =
    (next node.old ≡ None) × (node.new ≡ node.old) × (rec.new ≡ rec.old) × (k.new ≡ k.old)
LooksAt log given next looks (Some n) node rec k =
    (next node.old ≡ Some n)
    × MakesEnds log given (looks n) node.old node.new rec.old rec.new k.old k.new

-- calls ended, and the link was handed control packets
pub record MakesTimes {R K L : Type 0} (log : R → Log) (given : K → List Done → Type 0)
    (net : Link.Ghosts L) (P : Rel) (told : Asking) (node : Change Timed) (rec : Change R)
    (k : Change K) (wire : Change L) : Type 0 where
  pub ends : MakesEnds log given P node.old node.new rec.old rec.new k.old k.new
  pub link : LinkTook net told ends.makes.noted wire.old wire.new

-- What is due is done next: each fact of a node leaves something to be done at once, or does it.
use Rattle.rpc_laws.specs.Requests.{is_server}
use Rattle.std.proofs.Common.{◌≡◌, ◌⊎◌, ◌<◌, ◌%◌, ◌-◌, ◌==◌, ℕ, Bool, true, false, List, [], ◌∷◌, ◌++◌}
use Rattle.std.proofs.Common.{length}
use Rattle.std.proofs.Common.{Option, Some, None, slice_get, refl, subst}
use Rattle.std.specs.List.{find, AllByRecursion}
use Rattle.packet_header.specs.Parts.{packet_count}
use Rattle.packet_header.specs.declared.packet.MessageHeader.{MessageHeader}
use Rattle.packet_header.specs.declared.packet.Kind.TheVariants.{Request}
use Rattle.rpc_base.specs.declared.event.Event.{Event}
use Rattle.rpc_base.specs.declared.event.Event.TheVariants.{Posted, Flushed, Arrived, Took}
use Rattle.rpc_base.specs.declared.event.Event.TheVariants.{Again, Overflowed, Bad, Given, Ran}
use Rattle.rpc_base.specs.declared.event.Event.TheVariants.{Rolled}
use Rattle.rpc_base.specs.declared.event.Event.TheVariants.{Broken, Carried}
use Rattle.rpc_base.specs.declared.fact.Fact.{Fact}
use Rattle.rpc_base.specs.declared.fact.Who.TheVariants.{Node}
use Rattle.rpc_base.specs.declared.owner.Owner.TheVariants.{Ask, Reply, Control}
use Rattle.rpc_laws.specs.declared.tables.Call.{Call}
use Rattle.rpc_laws.specs.declared.tables.Client.{Client}
use Rattle.rpc_laws.specs.declared.tables.InFlight.{InFlight}
use Rattle.rpc_laws.specs.declared.tables.Lists.{Lists}
use Rattle.rpc_laws.specs.declared.tables.Progress.{Progress}
use Rattle.rpc_laws.specs.declared.tables.Timed.{Timed}
use Rattle.rpc_laws.specs.Calls.{is_call}
use Rattle.rpc_laws.specs.Front.{front_header, is_message}
use Rattle.rpc_laws.specs.NodeLists.{after, after_all}
use Rattle.rpc_laws.specs.Steps.{Rel}
use Rattle.end_laws.specs.Moments.{hand_noted}
use Rattle.end_laws.proofs.Allowed.{IsOut, IsWhole, MayLeave, MayOutdate}
use Rattle.end_laws.proofs.QueueLemmas.{RightNode}
use Rattle.end_laws.proofs.Walks.{Walked}
use Rattle.ring_laws.proofs.ServerReach.{NoneOut}

-- what the latest fact leaves to be done: nothing; the reply to a packet that node n took; the delivery of the
-- copy in hand; or, where packets of a session were flushed, the rollback of their one request, or the end of
-- the session
pub data Due : Type 0 where
  nothing : Due
  reply : (n t r k : ℕ) → Due
  delivery : Due
  flushed : (n s : ℕ) → Option ℕ → Due

-- whether such a flush is of request r
abbrev pub covers : Option ℕ → ℕ → Bool
covers None r = true
covers (Some request) r = request == r

-- facts that leave nothing to be done
abbrev pub is_alone : Event → Bool
is_alone (Posted (Reply t r) k) = false
is_alone (Posted Control k) = false
is_alone (Took (Reply t r) k) = false
is_alone (Took Control k) = false
is_alone (Again owner k) = false
is_alone (Given t r) = false
is_alone (Ran t r y) = false
is_alone (Arrived peer) = false
is_alone (Overflowed peer) = false
is_alone (Bad peer) = false
is_alone (Flushed owner k) = false
is_alone (Rolled c posted got) = false
is_alone (Broken s) = false
is_alone (Carried i) = false
is_alone _ = true

-- the front of the ring is the first packet of a newer request of this slot
pub record IsOlder (l : Lists) (t r : ℕ) : Type 0 where
  pub header : MessageHeader
  pub reads : front_header l.ring ≡ Some header
  pub for_us : header.to_life ≡ l.life
  pub kind : header.kind ≡ Request
  pub session : header.session ≡ t
  pub slot : (r % 8) ≡ (header.request % 8)
  pub newer : r < header.request

-- call c of a session is request r
pub record IsCallFor (l : Lists) (s c r : ℕ) : Type 0 where
  pub place : ℕ
  pub client : Client
  pub found : slice_get l.clients place ≡ Some client
  pub number : client.way.number ≡ s
  pub call : Call
  pub is_there : find (is_call c) client.calls ≡ Some call
  pub progress : Progress
  pub is_progress : call.progress ≡ Some progress
  pub request : progress.request ≡ r

-- a run of flushes may go on for these packets, or end
abbrev pub Goes : Due → (n s : ℕ) → Option ℕ → Type 0
Goes nothing n s o = Unit {0}
Goes (flushed m t p) n s o = (m ≡ n) × (t ≡ s) × (p ≡ o)
Goes (reply m t r k) n s o = ⊥
Goes delivery n s o = ⊥

-- one fact of a node: from what was due to what is
pub data Step (hand : Option InFlight) (l : Lists) (first : List ℕ) : Due → Event → Due → Type 0 where
  alone : (e : Event) → is_alone e ≡ true → Step hand l first nothing e nothing
  older : (t r k : ℕ) → IsOlder l t r → Step hand l first nothing (Flushed (Reply t r) k) nothing
  leaves : (t r k : ℕ) → MayLeave hand l t ⊎ MayOutdate hand l t
      → Step hand l first nothing (Flushed (Reply t r) k) nothing
  takes : (t r k : ℕ) → Step hand l first nothing (Took (Reply t r) k) (reply l.me t r k)
  repeats : (t r k : ℕ) → Step hand l first nothing (Again (Reply t r) k) (reply l.me t r k)
  posts : (t r k : ℕ) → Step hand l first (reply l.me t r k) (Posted (Reply t r) k) nothing
  gives : (t r k : ℕ) → (w : IsWhole l t r) → packet_count (length w.request.ask) - 1 ≡ k
      → Step hand l first (reply l.me t r k) (Given t r) nothing
  serves : (t r y k : ℕ) → NoneOut l t r → packet_count (length first) - 1 ≡ k
      → Step hand l first (reply l.me t r k) (Ran t r y) (reply l.me t r k)
  finishes : (t r y : ℕ) → IsOut l t r first
      → Step hand l first nothing (Ran t r y) (reply l.me t r (packet_count (length first) - 1))
  is_done : (t r y : ℕ) → IsOut l t r first → find (is_server t) l.servers ≡ None
      → Step hand l first nothing (Ran t r y) nothing
  arrives : (peer : ℕ) → Step hand l first delivery (Arrived peer) nothing
  overflows : (peer : ℕ) → Step hand l first delivery (Overflowed peer) nothing
  is_bad : (peer : ℕ) → (copy : InFlight) → hand ≡ Some copy → is_message copy.bytes ≡ false
      → Step hand l first delivery (Bad peer) nothing
  flushes : (d : Due) → (s r k : ℕ) → (o : Option ℕ) → Goes d l.me s o → covers o r ≡ true
      → Step hand l first d (Flushed (Ask s r) k) (flushed l.me s o)
  rolls : (d : Due) → (s r c posted got : ℕ) → Goes d l.me s (Some r) → IsCallFor l s c r
      → Step hand l first d (Rolled c posted got) nothing
  breaks : (d : Due) → (s : ℕ) → Goes d l.me s None → Step hand l first d (Broken s) nothing

-- the facts of one node, one after another
abbrev pub StepsFrom : Option InFlight → Due → ℕ → Lists → List Fact → Due → Type 0
StepsFrom hand d clock l [] e = d ≡ e
StepsFrom hand d clock l (f ∷ x) e =
    (u : Due) × (f.who ≡ Node l.me) × Step hand l f.first d f.event u
    × StepsFrom (hand_noted l.me f.event l.inbox hand) u clock (after clock l f) x e

pub steps-append : (hand : Option InFlight) (d : Due) (clock : ℕ) (l : Lists) (x y : List Fact)
    (u e : Due) → StepsFrom hand d clock l x u
    → ((other : Option InFlight) → StepsFrom other u clock (after_all clock l x) y e)
    → StepsFrom hand d clock l (x ++ y) e
steps-append hand d clock l [] y u e h k = rw h (k hand)
steps-append hand d clock l (f ∷ x) y u e h k = (
  h.0,
  h.1,
  h.2,
  steps-append (hand_noted l.me f.event l.inbox hand) h.0 clock
      (after clock l f) x y u e h.3 k,
)

-- facts that are alone
abbrev pub IsAlone : ℕ → Fact → Type 0
IsAlone me f = (f.who ≡ Node me) × (is_alone f.event ≡ true)

pub steps-alone : (hand : Option InFlight) (clock : ℕ) (l : Lists) (x : List Fact)
    → AllByRecursion (IsAlone l.me) x → StepsFrom hand nothing clock l x nothing
steps-alone hand clock l [] a = refl
steps-alone hand clock l (f ∷ x) a = (
  nothing,
  a.0.0,
  alone f.event a.0.1,
  steps-alone (hand_noted l.me f.event l.inbox hand) clock (after clock l f) x a.1,
)

pub one-alone : (hand : Option InFlight) (clock : ℕ) (l : Lists) (f : Fact) → f.who ≡ Node l.me
    → is_alone f.event ≡ true → StepsFrom hand nothing clock l (f ∷ []) nothing
one-alone hand clock l f who is = (nothing, who, alone f.event is, refl)

-- nothing is due before and after
abbrev pub Orders : Option InFlight → Timed → List Fact → Type 0
Orders hand s x = StepsFrom hand nothing s.clock s.lists x nothing

abbrev pub Orderly : Rel → Type 0
Orderly P = (hand : Option InFlight) (s : Timed) (x : List Fact) (t : Timed) → RightNode s.lists
    → P s x t → Orders hand s x

pub orders-append : (hand : Option InFlight) (s t : Timed) (x y : List Fact)
    → Walked RightNode hand s x t → Orders hand s x → ((other : Option InFlight) → Orders other t y)
    → Orders hand s (x ++ y)
orders-append hand s t x y w h k =
    steps-append hand nothing s.clock s.lists x y nothing nothing h
    (λ other. subst (λ c. StepsFrom other nothing c (after_all s.clock s.lists x) y nothing) w.clock
    (subst (λ l. StepsFrom other nothing t.clock l y nothing) w.lists (k other)))

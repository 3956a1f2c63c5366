-- What session control says of the two ends of a session is so: a reply that connects names a
-- session that was made for it, and a client session doesn't come back to what it let go.
use Rattle.std.specs.Prelude.{ℕ, ◌≡◌, true, Some, List, ◌++◌, slice_get, Contains}
use Rattle.std.specs.List.{AllByRecursion}
use Rattle.packet_header.specs.declared.packet.ControlHeader.{ControlHeader}
use Rattle.packet_header.specs.declared.packet.ControlKind.TheVariants.{ConnectReply}
use Rattle.packet_header.specs.declared.packet.ControlKind.TheVariants.{DisconnectRequest}
use Rattle.rpc_base.specs.declared.event.Event.TheVariants.{PairedServer, Accepted, Sent}
use Rattle.rpc_base.specs.declared.fact.Fact.{Fact}
use Rattle.rpc_base.specs.declared.owner.Owner.TheVariants.{Control}
use Rattle.rpc_base.specs.declared.state.SessionState.TheVariants.{Connecting}
use Rattle.rpc_laws.specs.declared.tables.Client.{Client}
use Rattle.rpc_laws.specs.declared.tables.Lists.{Lists}
use Rattle.rpc_laws.specs.Endpoints.{Endpoint, Lived, noted, noted_two}
use Rattle.rpc_laws.specs.Front.{control_of}
use Rattle.rpc_laws.specs.Sessions.{is_connected, is_with}
use Rattle.end_laws.specs.Genuine.{Travels}
use Rattle.end_laws.specs.Moments.{Moment, Always, first_moment}

-- endpoint m made server session t for session s of endpoint n, with so many credits: by pairing,
-- or it accepted it
pub data IsMade (past : List Lived) (m : Endpoint) (t : ℕ) (n : Endpoint) (s credits : ℕ)
    : Type 0 where
  paired : Contains past (noted m (PairedServer t n.node s credits n.life))
      → IsMade past m t n s credits
  accepted : Contains past (noted m (Accepted t n.node s credits n.life))
      → IsMade past m t n s credits

-- a control packet names a server session that its sender made, in the life that it tells, for its
-- receiver's client session in the life that it goes to, with the credits that it tells
pub record NamesMade (past : List Lived) (from to : ℕ) (h : ControlHeader) : Type 0 where
  pub server : ℕ
  pub names : h.server ≡ Some server
  pub life : ℕ
  pub goes_to : h.to_life ≡ Some life
  pub made : IsMade past (record { node = from; life = h.from_life }) server
      (record { node = to; life = life }) h.client h.credits

-- so does each connect reply with status 0
abbrev pub ConnectsMade : List Lived → (from to : ℕ) → List ℕ → Type 0
ConnectsMade past from to bytes =
    (h : ControlHeader) → control_of bytes ≡ Some h → h.kind ≡ ConnectReply → h.status ≡ 0
    → NamesMade past from to h

-- a client session isn't connected with server session t in this life of its node, and won't be
pub record IsLetGo (x : Client) (t life : ℕ) : Type 0 where
  pub opens : x.state ≡ Connecting → ⊥
  pub apart : is_connected x.state ≡ true → is_with t life x.way ≡ true → ⊥

-- so it is of each client session of node n for which the node, in its present life, sent a request
-- to disconnect server session t
abbrev pub LetsGo : List Lived → ℕ → Lists → Type 0
LetsGo past n l =
    (peer number : ℕ) (head body : List ℕ)
    → Contains past
    (noted_two (record { node = n; life = l.life }) (Sent peer Control number) head body)
    → (h : ControlHeader) → control_of (head ++ body) ≡ Some h → h.kind ≡ DisconnectRequest
    → (t life : ℕ) → h.server ≡ Some t → h.to_life ≡ Some life
    → AllByRecursion (λ x. x.way.number ≡ h.client → IsLetGo x t life) l.clients

-- both ends of each session agree so far
pub record Agree (w : Moment) : Type 0 where
  pub replies : Travels (ConnectsMade w.past) w
  pub let_go : (n : ℕ) (l : Lists) → slice_get w.nodes n ≡ Some l → LetsGo w.past n l

-- so they do at each moment
abbrev pub AllAgree : List Fact → Type 0
AllAgree h = Always Agree first_moment h

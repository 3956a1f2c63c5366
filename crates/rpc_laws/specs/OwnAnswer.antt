-- A handler runs on the bytes of a call, and a call ends with its own handler's answer.
use Rattle.std.specs.Prelude.{ℕ, ◌≡◌, ◌<◌, List, [], ◌∷◌, ◌++◌, length, if◌then◌else◌, Contains}
use Rattle.rpc_base.specs.declared.event.Event.{Event}
use Rattle.rpc_base.specs.declared.event.Event.TheVariants.{PairedClient, PairedServer, Opened}
use Rattle.rpc_base.specs.declared.event.Event.TheVariants.{Accepted, Connected, Asked, Begun, Ran}
use Rattle.rpc_base.specs.declared.event.Event.TheVariants.{Restarted}
use Rattle.rpc_base.specs.declared.event.Event.TheVariants.{DoneOk, DoneTooSmall}
use Rattle.rpc_base.specs.declared.fact.Fact.{Fact}
use Rattle.rpc_base.specs.declared.fact.Who.{Who}
use Rattle.rpc_base.specs.declared.fact.Who.TheVariants.{Node, Net}
use Rattle.rpc_outside.specs.declared.service.Mode.{Mode}
use Rattle.rpc_outside.specs.Served.{Served}
use Rattle.rpc_laws.specs.AtMostOnce.{is_at}
use Rattle.rpc_laws.specs.Endpoints.{Endpoint, Lived, noted, noted_two, noted_with, present, told}
use Rattle.rpc_laws.specs.Service.{Serving, runs_inline, plain_serving}

-- client session s of endpoint n is connected with t of endpoint m: by pairing, or it was opened to
-- m's node and then connected
pub data IsClientEnd (past : List Lived) (n : Endpoint) (s : ℕ) (m : Endpoint) (t : ℕ)
    : Type 0 where
  paired : (limit : ℕ) → Contains past (noted n (PairedClient s m.node t limit m.life))
      → IsClientEnd past n s m t
  connected : (limit : ℕ) → Contains past (noted n (Opened s m.node limit))
      → Contains past (noted n (Connected s t m.life)) → IsClientEnd past n s m t

-- server session t of endpoint m is for s of endpoint n: by pairing, or it was accepted
pub data IsServerEnd (past : List Lived) (n : Endpoint) (s : ℕ) (m : Endpoint) (t : ℕ)
    : Type 0 where
  paired : (credits : ℕ) → Contains past (noted m (PairedServer t n.node s credits n.life))
      → IsServerEnd past n s m t
  accepted : (credits : ℕ) → Contains past (noted m (Accepted t n.node s credits n.life))
      → IsServerEnd past n s m t

-- (n, s) and (m, t) are ends of one session, by the facts so far
pub record AreEnds (past : List Lived) (n : Endpoint) (s : ℕ) (m : Endpoint) (t : ℕ)
    : Type 0 where
  pub client : IsClientEnd past n s m t
  pub server : IsServerEnd past n s m t

-- request r of server session t of endpoint m is call c of endpoint n, of this type, room and bytes
pub record IsCallOf (past : List Lived) (n : Endpoint) (c : ℕ) (m : Endpoint)
    (t r req_type room : ℕ) (ask : List ℕ) : Type 0 where
  pub session : ℕ
  pub ends : AreEnds past n session m t
  pub asked : Contains past (noted_with n (Asked c session req_type room) ask)
  pub begun : Contains past (noted n (Begun c r))

-- the handler ran for call c of endpoint n, which had been asked and begun before that, and
-- answered with these bytes; the facts stand with the newest first
pub record IsAnswerTo (past : List Lived) (n : Endpoint) (c room : ℕ) (answer : List ℕ)
    : Type 0 where
  pub node : Endpoint
  pub session : ℕ
  pub request : ℕ
  pub req_type : ℕ
  pub ask : List ℕ
  pub later : List Lived
  pub earlier : List Lived
  pub ran : past ≡ later ++ noted_two node (Ran session request req_type) ask answer ∷ earlier
  pub call : IsCallOf earlier n c node session request req_type room ask

-- what a fact serves, by a service of these modes: a Ran of an Inline type serves its bytes
abbrev pub ran_inline : (ℕ → Mode) → Event → List ℕ → Served
ran_inline mode (Ran t r req_type) ask =
    if runs_inline mode req_type then (req_type, ask) ∷ [] else []
ran_inline mode _ ask = []

-- what was served in the present life, before a fact of the node
abbrev pub still_served : Event → Served → Served
still_served (Restarted life) served = []
still_served _ served = served

abbrev pub served_with : (ℕ → Mode) → Event → List ℕ → Served → Served
served_with mode e ask served = still_served e served ++ ran_inline mode e ask

-- the types and the bytes of what ran inline at node m so far in its present life, in order; the
-- facts stand with the newest first
abbrev pub served_by : (ℕ → Mode) → (m : ℕ) → List Lived → Served
served_by mode m [] = []
served_by mode m (f ∷ past) =
    if is_at m f.fact.who then served_with mode f.fact.event f.fact.first (served_by mode m past)
    else served_by mode m past

-- a call that begins was asked before
pub record OwnBegin (past : List Lived) (n : Endpoint) (c : ℕ) : Type 0 where
  pub session : ℕ
  pub req_type : ℕ
  pub room : ℕ
  pub ask : List ℕ
  pub asked : Contains past (noted_with n (Asked c session req_type room) ask)

-- a Ran is of a call, on its own bytes, and its answer is the service's after what it served so far
pub record OwnRun (v : Serving) (past : List Lived) (m : Endpoint) (t r req_type : ℕ)
    (ask answer : List ℕ) : Type 0 where
  pub node : Endpoint
  pub call : ℕ
  pub room : ℕ
  pub own : IsCallOf past node call m t r req_type room ask
  pub right : answer ≡ v.answer (served_by v.mode m.node past) req_type ask

-- a call that ended Ok has its handler's answer
pub record OwnEnd (past : List Lived) (n : Endpoint) (c : ℕ) (answer : List ℕ) : Type 0 where
  pub room : ℕ
  pub own : IsAnswerTo past n c room answer

-- a call that ended TooSmall has an answer of that size, above its room
pub record OwnSize (past : List Lived) (n : Endpoint) (c size : ℕ) : Type 0 where
  pub room : ℕ
  pub answer : List ℕ
  pub own : IsAnswerTo past n c room answer
  pub sized : length answer ≡ size
  pub above : room < size

abbrev pub OwnEvent : Serving → List Lived → Endpoint → Event → List ℕ → List ℕ → Type 0
OwnEvent v past n (Begun c r) first second = OwnBegin past n c
OwnEvent v past n (Ran t r req_type) first second = OwnRun v past n t r req_type first second
OwnEvent v past n (DoneOk c) first second = OwnEnd past n c first
OwnEvent v past n (DoneTooSmall c size) first second = OwnSize past n c size
OwnEvent v past n _ first second = Unit {0}

abbrev pub OwnAt : (ℕ → Serving) → List Lived → Who → Event → List ℕ → List ℕ → Type 0
OwnAt services past (Node n) e first second =
    OwnEvent (services n) past (present n past) e first second
OwnAt services past Net e first second = Unit {0}

-- a claim at each fact, about the facts before it, the newest first
abbrev pub AtEach : (List Lived → Fact → Type 0) → List Lived → List Fact → Type 0
AtEach P past [] = Unit {0}
AtEach P past (f ∷ h) = P past f × AtEach P (told past f ∷ past) h

-- of nodes each with a service of its own
abbrev pub OwnBy : (ℕ → Serving) → List Fact → Type 0
OwnBy services h = AtEach (λ past f. OwnAt services past f.who f.event f.first f.second) [] h

-- of nodes with the plain service
abbrev pub Own : List Fact → Type 0
Own h = OwnBy (λ n. plain_serving) h

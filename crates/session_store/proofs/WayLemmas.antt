-- Whose other end a server session is stays as it is as long as the session lives, and so does the
-- order of the sessions by it.
use Rattle.std.proofs.Common.{◌≡◌, ℕ, Option, Some, None, List, [], ◌∷◌, refl, sym, ap, subst, ◌∙◌}
use Rattle.std.specs.Prelude.{map, slice_get, slice_set}
use Rattle.rpc_base.specs.Tables.{at_first}
use Rattle.buffer_pool.specs.Pool.{Pool}
use Rattle.packet_header.specs.declared.packet.MessageHeader.{MessageHeader}
use Rattle.packet_rings.specs.Values.{EntryValue}
use Rattle.rpc_laws.specs.Requests.{answered, given, is_request, is_server, took_packet}
use Rattle.rpc_laws.specs.declared.tables.Server.{Server}
use Rattle.rpc_laws.specs.declared.tables.Way.{Way}
use Rattle.node_laws.proofs.ImageLemmas.{map-hidden}
use Rattle.server_core.specs.Session.{Session as Serving}
use Rattle.server_core.specs.Shown.{way_of}
use Rattle.server_core.specs.Steps.{Steps, took as took_server}
use Rattle.server_core.specs.declared.step.Step.{Step}
use Rattle.server_core.specs.declared.step.Step.TheVariants.{Took as TookStep, Again, Ran, Give}
use Rattle.server_core.specs.declared.step.Step.TheVariants.{Dropped as DroppedStep}
use Rattle.session_store.specs.Effects.{ServerFinishes}
use Rattle.session_ends.specs.Effects.{ServerGone}
use Rattle.session_ends.specs.EndOrder.{EndOrder}
use Rattle.session_ends.proofs.ListLemmas.{map-kept}

pub ends-kept : (ends : List ℕ) (servers now : List Serving)
    → map way_of now ≡ map way_of servers → EndOrder ends (map way_of servers)
    → EndOrder ends (map way_of now)
ends-kept ends servers now same order = subst (λ ws. EndOrder ends ws) (sym same) order

pub step-ways : (i : ℕ) (servers now : List Serving) (v w : Serving) → slice_get servers i ≡ Some v
    → now ≡ slice_set servers i w → way_of w ≡ way_of v → map way_of now ≡ map way_of servers
step-ways i servers now v w at changed same =
    ap (map way_of) changed ∙ map-kept way_of servers i v w at same

one-way : (w : Server) (v : Way) → w.way ∷ [] ≡ v ∷ [] → w.way ≡ v
one-way w v e = cc

packet-way : (h : MessageHeader) (body : List ℕ) (v : Server)
    → map (λ (x : Server). x.way) (took_server h body v) ≡ v.way ∷ []
packet-way h body v =
    map-hidden (λ (x : Server). x.way) (is_server v.way.number)
    (λ x. record x { slots = took_packet h.request (Some h) body x.slots }) (λ x. refl) (v ∷ [])

-- the answer to a packet
pub steps-way : (step : Step) (answer : List ℕ) (h : MessageHeader) (body : List ℕ) (v w : Server)
    → Steps step answer h body v w → w.way ≡ v.way
steps-way (TookStep reply) answer h body v w e =
    one-way w v.way (ap (map (λ (x : Server). x.way)) (sym e) ∙ packet-way h body v)
steps-way (Again reply) answer h body v w e = ap (λ (x : Server). x.way) e
steps-way (Ran reply) answer h body v w e =
    one-way w v.way (ap (map (λ (x : Server). x.way)) (sym e)
    ∙ map-hidden (λ (x : Server). x.way) (is_server v.way.number)
    (λ x. record x { slots = at_first (is_request h.request) (answered answer) x.slots })
    (λ x. refl) (took_server h body v) ∙ packet-way h body v)
steps-way (Give parcel) answer h body v w e =
    one-way w v.way (ap (map (λ (x : Server). x.way)) (sym e)
    ∙ map-hidden (λ (x : Server). x.way) (is_server v.way.number)
    (λ x. record x { slots = at_first (is_request h.request) given x.slots })
    (λ x. refl) (took_server h body v) ∙ packet-way h body v)
steps-way (DroppedStep why) answer h body v w e = ap (λ (x : Server). x.way) e

-- the end of a job
pub finished-ways : (i r : ℕ) (bytes : List ℕ) (o : Option EntryValue) (servers now : List Serving)
    (pool after : Pool) → ServerFinishes i r bytes o servers now pool after
    → map way_of now ≡ map way_of servers
finished-ways i r bytes None servers now pool after h =
    step-ways i servers now h.server h.later h.at h.changed (ap way_of h.step.left.session)
finished-ways i r bytes (Some e) servers now pool after h =
    step-ways i servers now h.server h.later h.at h.changed
    (ap (λ (x : Server). x.way) h.step.finished.shown_is)

-- a reply that leaves the queue
pub gone-ways : (number : ℕ) (e : EntryValue) (servers now : List Serving) (pool after : Pool)
    → ServerGone number e servers now pool after → map way_of now ≡ map way_of servers
gone-ways number e servers now pool after h =
    step-ways h.place servers now h.server h.later h.at h.changed
    (ap (λ (x : Server). x.way) h.step.same)

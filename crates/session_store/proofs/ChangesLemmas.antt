-- What a call leaves of a store, by what it leaves of its parts.
use Rattle.std.proofs.Common.{◌≡◌, ℕ, ◌+◌, List, Option, None, Some, refl, ap, subst, ◌∙◌}
use Rattle.std.specs.Prelude.{map}
use Rattle.buffer_pool.specs.Places.{held_at, released_at}
use Rattle.buffer_pool.specs.Pool.{Pool, spare_of}
use Rattle.client_core.specs.Handing.{Handed}
use Rattle.pacing_wheel.specs.Wheel.{Wheel}
use Rattle.packet_rings.specs.Rings.{Ring}
use Rattle.packet_rings.specs.Values.{EntryValue}
use Rattle.rpc_laws.specs.declared.tables.Client.{Client}
use Rattle.rpc_laws.specs.declared.tables.Queued.{Queued}
use Rattle.server_core.specs.Session.{Session as Serving}
use Rattle.server_core.specs.Shown.{shown as shown_server}
use Rattle.session_ends.specs.declared.side.Side.{Side}
use Rattle.session_store.specs.Leaving.{ChangesCalls, ChangesClients, ChangesQueue}
use Rattle.session_ends.specs.Joined.{queue_of}
use Rattle.session_store.specs.Joined.{shown_with}
use Rattle.session_store.specs.Sides.{Shown, places_in, served_places, shown_side, side_handed}

-- references are no part of what is seen of server sessions
pub servers-held : (pool : Pool) (servers : List Serving) (o : Option ℕ)
    → map (shown_server (held_at o pool)) servers ≡ map (shown_server pool) servers
servers-held pool servers None = refl
servers-held pool servers (Some p) = refl

pub servers-released : (pool : Pool) (servers : List Serving) (o : Option ℕ)
    → map (shown_server (released_at o pool)) servers ≡ map (shown_server pool) servers
servers-released pool servers None = refl
servers-released pool servers (Some p) = refl

module _ (pool after : Pool) (sides later : List Side) (servers now : List Serving)
    (tx next : Ring EntryValue) (paced put : Wheel) (seen : Shown)
    (view : shown_with pool sides servers tx paced ≡ seen)
    (Step : List Client → List Client → Type 0)
    (clients : Step seen.clients (map (shown_side after) later))
    (same : map (shown_server after) now ≡ map (shown_server pool) servers)
    (places : spare_of after + places_in later + served_places now
    ≡ spare_of pool + places_in sides + served_places servers) where
  pub changes-clients : map (side_handed after) later ≡ map (side_handed pool) sides
      → queue_of next put ≡ queue_of tx paced → next.size ≡ tx.size
      → ChangesClients Step seen (shown_with after later now next put)
  changes-clients handed queue size = record {
    clients = clients;
    servers = same ∙ ap (λ (v : Shown). v.servers) view;
    queued = queue ∙ ap (λ (v : Shown). v.queued) view;
    size = size ∙ ap (λ (v : Shown). v.size) view;
    places = places ∙ ap (λ (v : Shown). v.places) view;
    handed = handed ∙ ap (λ (v : Shown). v.handed) view;
  }

  pub changes-calls : (Hands : List (List Handed) → List (List Handed) → Type 0)
      → Hands (map (side_handed pool) sides) (map (side_handed after) later)
      → queue_of next put ≡ queue_of tx paced → next.size ≡ tx.size
      → ChangesCalls Step Hands seen (shown_with after later now next put)
  changes-calls Hands handed queue size = record {
    clients = clients;
    servers = same ∙ ap (λ (v : Shown). v.servers) view;
    queued = queue ∙ ap (λ (v : Shown). v.queued) view;
    size = size ∙ ap (λ (v : Shown). v.size) view;
    places = places ∙ ap (λ (v : Shown). v.places) view;
    handed = subst (λ (v : Shown). Hands v.handed (map (side_handed after) later)) view handed;
  }

  pub changes-queue : (change : List Queued → List Queued)
      → map (side_handed after) later ≡ map (side_handed pool) sides
      → queue_of next put ≡ change (queue_of tx paced) → next.size ≡ tx.size
      → ChangesQueue Step change seen (shown_with after later now next put)
  changes-queue change handed queue size = record {
    clients = clients;
    servers = same ∙ ap (λ (v : Shown). v.servers) view;
    queued = queue ∙ ap (λ (v : Shown). change v.queued) view;
    size = size ∙ ap (λ (v : Shown). v.size) view;
    places = places ∙ ap (λ (v : Shown). v.places) view;
    handed = handed ∙ ap (λ (v : Shown). v.handed) view;
  }

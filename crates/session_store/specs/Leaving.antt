-- What a call changes of a store, and that it leaves all else as it was.
use Rattle.std.specs.Prelude.{ℕ, ◌≡◌, ◌++◌, ◌∷◌, [], List, IfSome, None, OnErr, OnOk, Option}
use Rattle.std.specs.Prelude.{Result}
use Rattle.std.specs.Prelude.{slice_get}
use Rattle.packet_rings.specs.Values.{EntryValue}
use Rattle.rpc_base.specs.Tables.{without_first}
use Rattle.client_core.specs.Handing.{Handed}
use Rattle.rpc_laws.specs.declared.tables.Client.{Client}
use Rattle.rpc_laws.specs.Requests.{is_server}
use Rattle.rpc_laws.specs.declared.tables.Queued.{Queued}
use Rattle.rpc_laws.specs.declared.tables.Server.{Server}
use Rattle.session_store.specs.Changes.{ChangesAt, FinishesAt}
use Rattle.session_store.specs.Joined.{put_listed}
use Rattle.session_store.specs.Sides.{Shown}

-- the client sessions changed so, and nothing else
pub record ChangesClients (Step : List Client → List Client → Type 0) (old new : Shown)
    : Type 0 where
  pub clients : Step old.clients new.clients
  pub servers : new.servers ≡ old.servers
  pub queued : new.queued ≡ old.queued
  pub size : new.size ≡ old.size
  pub places : new.places ≡ old.places
  pub handed : new.handed ≡ old.handed

-- and with them what was handed in with their calls
pub record ChangesCalls (Step : List Client → List Client → Type 0)
    (Hands : List (List Handed) → List (List Handed) → Type 0) (old new : Shown) : Type 0 where
  pub clients : Step old.clients new.clients
  pub servers : new.servers ≡ old.servers
  pub queued : new.queued ≡ old.queued
  pub size : new.size ≡ old.size
  pub places : new.places ≡ old.places
  pub handed : Hands old.handed new.handed

-- or with them the queue
pub record ChangesQueue (Step : List Client → List Client → Type 0)
    (queue : List Queued → List Queued) (old new : Shown) : Type 0 where
  pub clients : Step old.clients new.clients
  pub servers : new.servers ≡ old.servers
  pub queued : new.queued ≡ queue old.queued
  pub size : new.size ≡ old.size
  pub places : new.places ≡ old.places
  pub handed : new.handed ≡ old.handed

-- session i became f of what it was, and nothing else changed
abbrev pub ChangesClient : (i : ℕ) → (Client → Client) → (old new : Shown) → Type 0
ChangesClient i f old new = ChangesClients (ChangesAt i f) old new

-- the queue changed so, and nothing else
abbrev pub ChangesQueued : (List Queued → List Queued) → (old new : Shown) → Type 0
ChangesQueued queue old new = ChangesQueue (λ xs ys. ys ≡ xs) queue old new

-- a client session was made, unless memory was wanting: then nothing changed
pub record MakesClient {A B : Type 0} (client : Client) (result : Result A B) (old new : Shown)
    : Type 0 where
  pub clients : OnOk result (new.clients ≡ old.clients ++ client ∷ [])
  pub servers : new.servers ≡ old.servers
  pub queued : new.queued ≡ old.queued
  pub size : new.size ≡ old.size
  pub handed : OnOk result (new.handed ≡ old.handed ++ [] ∷ [])
  pub places : new.places ≡ old.places
  pub unchanged : OnErr result (new ≡ old)

-- a server session was
pub record MakesServer {A B : Type 0} (server : Server) (result : Result A B) (old new : Shown)
    : Type 0 where
  pub servers : OnOk result (new.servers ≡ old.servers ++ server ∷ [])
  pub clients : new.clients ≡ old.clients
  pub queued : new.queued ≡ old.queued
  pub size : new.size ≡ old.size
  pub handed : new.handed ≡ old.handed
  pub places : new.places ≡ old.places
  pub unchanged : OnErr result (new ≡ old)

-- the server session at place i ended
pub record EndsServer (i : ℕ) (old new : Shown) : Type 0 where
  pub servers : IfSome (slice_get old.servers i)
      (λ v. new.servers ≡ without_first (is_server v.way.number) old.servers)
  pub clients : new.clients ≡ old.clients
  pub queued : new.queued ≡ old.queued
  pub size : new.size ≡ old.size
  pub places : new.places ≡ old.places
  pub handed : new.handed ≡ old.handed

-- the job of request r of the server session at place i is finished, with this answer
pub record FinishesServer (i r : ℕ) (bytes : List ℕ) (reply : Option EntryValue) (old new : Shown)
    : Type 0 where
  pub servers : FinishesAt i r bytes reply old.servers new.servers
  pub clients : new.clients ≡ old.clients
  pub queued : new.queued ≡ put_listed None reply old.queued
  pub size : new.size ≡ old.size
  pub handed : new.handed ≡ old.handed
  pub places : new.places ≡ old.places

-- A call that asks a fan's bytes, of what an endpoint does by itself.
use Rattle.std.proofs.Common.{◌≡◌, ℕ, List, refl}
use Rattle.client_core.specs.Handing.{Handed}
use Rattle.message_buffer.specs.Buffer.{Buffer, bytes_of}
use Rattle.rpc_outside.specs.Recording.{Log}
use Rattle.rpc_outside.specs.declared.service.Service as Service
use Rattle.worker_crew.specs.declared.workers.Workers as Workers
use Rattle.session_store.specs.Handing.{HandsInAt}
use Rattle.endpoint_loop.specs.Endpoints.{Running}
use Rattle.endpoint_loop.specs.Stands.{GoesOn}
use Rattle.endpoint_loop.proofs.StandingLaw.{goes-nowhere}
use Rattle.fan_calls.specs.Asking.{HandsInBytes, handed_with}

-- an endpoint that isn't asked goes on
pub goes_silently : {R V W : Type 0} (log : R → Log) (service : Service.Ghosts V)
    (workers : Workers.Ghosts W) (a : Running V W) (f : R) → GoesOn log service workers a a f f
goes_silently log service workers a f = goes-nowhere log service workers a a f f refl refl

-- a buffer of the bytes is handed in
pub hands_in : (bytes : List ℕ) (session call tag room : ℕ) (old new : List (List Handed))
    (req : Buffer) → bytes_of req ≡ bytes
    → HandsInAt session (handed_with req call tag room) old new
    → HandsInBytes bytes session call tag room old new
hands_in bytes session call tag room old new req same hands = (req, same, hands)

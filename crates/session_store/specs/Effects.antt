-- The packet of an entry, what a waiting call asks, and a server session that changed at its place.
use Rattle.std.specs.Prelude.{◌≡◌, ℕ, Option, Some, List, slice_get, slice_set}
use Rattle.rpc_base.specs.declared.owner.Owner.{Owner}
use Rattle.rpc_base.specs.declared.owner.Owner.TheVariants.{Ask, Reply as OfReply, Control}
use Rattle.buffer_pool.specs.Pool.{Pool}
use Rattle.rpc_laws.specs.declared.tables.Asking.{Asking}
use Rattle.session_slots.specs.declared.waiting.Waiting.{Waiting}
use Rattle.message_buffer.specs.Buffer.{bytes_of, capacity_of}
use Rattle.packet_rings.specs.Values.{EntryValue}
use Rattle.server_core.specs.Finishing.{Finishes}
use Rattle.server_core.specs.Session.{Session as Serving}

-- the request of a client packet's owner, and the packet of an entry
abbrev pub request_in : Owner → ℕ
request_in (Ask s r) = r
request_in (OfReply t r) = r
request_in Control = 0

abbrev pub packet_of_entry : EntryValue → ℕ × ℕ
packet_of_entry e = (request_in e.owner, e.number)

-- what a waiting call asks
abbrev pub asking_in : Waiting → Asking
asking_in w = record {
  number = w.call;
  req_type = w.req_type;
  room = capacity_of w.resp;
  ask = bytes_of w.req;
}

-- the server session at a place changed
pub record ServerStep (i : ℕ) (Step : Serving → Serving → Type 0) (old new : List Serving)
    : Type 0 where
  pub server : Serving
  pub at : slice_get old i ≡ Some server
  pub later : Serving
  pub step : Step server later
  pub changed : new ≡ slice_set old i later

-- a job of that at place i is finished
abbrev pub ServerFinishes : (i r : ℕ) → List ℕ → Option EntryValue → List Serving → List Serving
    → Pool → Pool → Type 0
ServerFinishes i r bytes o old new before after =
    ServerStep i (λ v w. Finishes r bytes o v w before after) old new

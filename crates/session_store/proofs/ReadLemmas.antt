-- What is read of a client session, as it is seen.
use Rattle.std.proofs.Common.{◌≡◌, ℕ, Some, List, sym, ap, ◌∙◌}
use Rattle.std.specs.Prelude.{IfSome, slice_get}
use Rattle.rpc_base.proofs.PlaceLemmas.{get-map}
use Rattle.buffer_pool.specs.Pool.{Pool}
use Rattle.packet_rings.specs.Rings.{Ring}
use Rattle.packet_rings.specs.Values.{EntryValue}
use Rattle.rpc_laws.specs.declared.tables.Client.{Client}
use Rattle.server_core.specs.Session.{Session as Serving}
use Rattle.session_ends.specs.declared.side.Side.{Side}
use Rattle.session_store.specs.Sides.{Shown, shown_of, shown_side}

module _ (pool : Pool) (sides : List Side) (servers : List Serving) (tx : Ring EntryValue)
    (seen : Shown) (view : shown_of pool sides servers tx ≡ seen) (i : ℕ) (s : Side)
    (at : slice_get sides i ≡ Some s) where
  pub client-at : slice_get seen.clients i ≡ Some (shown_side pool s)
  client-at = ap (λ (v : Shown). slice_get v.clients i) (sym view) ∙ get-map (shown_side pool) sides i s at

  pub read-at : (P : Client → Type 0) → P (shown_side pool s) → IfSome (slice_get seen.clients i) P
  read-at P h = rw client-at h

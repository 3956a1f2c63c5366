-- What is sent of a session's own requests leaves all of it but how many were sent and when.
use Rattle.std.proofs.Common.{◌≡◌, ◌+◌, ℕ, Bool, true, false, cond, refl}
use Rattle.packet_header.specs.declared.packet.ControlHeader.{ControlHeader}
use Rattle.rpc_laws.specs.declared.tables.Client.{Client}
use Rattle.rpc_laws.specs.Sessions.{is_request_of, requests}

pub told-same : {A : Type 0} (f : Client → A) (clock : ℕ) (c : ControlHeader) (x : Client)
    → f (record x { sends = x.sends + 1; sent_at = clock }) ≡ f x → f (requests clock c x) ≡ f x
told-same f clock c x e = by (is_request_of c.kind c.server c.to_life x.state x.way)
  where
    by : (b : Bool) → f (cond b (record x { sends = x.sends + 1; sent_at = clock }) x) ≡ f x
    by true = e
    by false = refl

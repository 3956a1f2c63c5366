-- How many requests of its own a client session sent.
use Rattle.std.specs.Prelude.{◌≡◌}
use Rattle.rpc_laws.specs.declared.tables.Client.{Client}
use Rattle.session_store.specs.declared.store.control.OwnRequests.{OwnRequests}

-- so many, the last at this clock
pub record CountsRequests (q : OwnRequests) (x : Client) : Type 0 where
  pub sends : q.sends ≡ x.sends
  pub sent_at : q.sent_at ≡ x.sent_at

-- Where calls stand in a node's lists.
use Rattle.std.specs.Prelude.{ℕ, ◌≡◌, Bool, Some, List}
use Rattle.std.specs.List.{find}
use Rattle.rpc_laws.specs.declared.tables.Call.{Call}
use Rattle.rpc_laws.specs.declared.tables.Client.{Client}
use Rattle.rpc_laws.specs.declared.tables.Progress.{Progress}
use Rattle.rpc_laws.specs.Sessions.{is_client}

-- a call of a session
pub record Place (clients : List Client) (session : ℕ) (x : Client) (c : Call) : Type 0 where
  pub test : Call → Bool
  pub client : find (is_client session) clients ≡ Some x
  pub call : find test x.calls ≡ Some c

-- one that is active
pub record Active (clients : List Client) (session : ℕ) (x : Client) (c : Call) (p : Progress) : Type 0 where
  pub place : Place clients session x c
  pub active : c.progress ≡ Some p

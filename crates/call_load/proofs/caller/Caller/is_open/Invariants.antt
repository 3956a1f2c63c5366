use Rattle.std.proofs.Common.{◌≡◌, ◌<◌, ℕ}
use Rattle.std.specs.List.{find}
use Rattle.rpc_base.specs.declared.state.SessionState.TheVariants.{Connected}
use Rattle.rpc_laws.specs.Groups.{state_of}
use Rattle.rpc_laws.specs.Sessions.{is_client}
use Rattle.call_load.proofs.caller.Caller.is_open.Given as goal

abbrev pub invariant-sessions : goal.invariant-sessions
invariant-sessions l =
    (k : ℕ) → k < l.number
    → state_of (find (is_client k) l.self.endpoint.timed.lists.clients) ≡ Connected

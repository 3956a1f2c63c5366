-- What a call of an application notes: no handler ran by it, and no job was worked.
use Rattle.std.proofs.Common.{ℕ, List}
use Rattle.rpc_base.specs.declared.fact.Fact.{Fact}
use Rattle.rpc_laws.specs.declared.tables.Timed.{Timed}
use Rattle.rpc_outside.specs.declared.service.Mode.{Mode}
use Rattle.node_laws.specs.NodeRun.{asks, connects, disconnects, sets_rate}
use Rattle.end_laws.specs.JointRun.{AloneGroup}
use Rattle.endpoint_loop.proofs.StandingSessions.{connect-still, disconnect-still}
use Rattle.endpoint_loop.proofs.StandingLaw.{ask-still, is_labour, rate-still}
use Rattle.node_steps.proofs.NoteStill.{Stills}
use Rattle.turn_laws.specs.Endpoints.{Call, CallDoes, MayCall, ask, connect, disconnect, set_rate}

pub call-still : (call : Call) → Stills is_labour (CallDoes call)
call-still (ask session req_type bytes room) = ask-still session req_type bytes room
call-still (connect peer credits rate) = connect-still peer credits rate
call-still (disconnect session) = disconnect-still session
call-still (set_rate session rate) = rate-still session rate

-- and a node makes it by itself
pub call-alone : (mode : ℕ → Mode) (call : Call) → MayCall call → (s : Timed) (x : List Fact)
    (t : Timed)
    → CallDoes call s x t → AloneGroup mode s x t
call-alone mode (ask session req_type bytes room) may s x t h =
    record { group = asks session req_type bytes room h; alone = tt }
call-alone mode (connect peer credits rate) may s x t h =
    record { group = connects peer credits rate may h; alone = tt }
call-alone mode (disconnect session) may s x t h =
    record { group = disconnects session h; alone = tt }
call-alone mode (set_rate session rate) may s x t h =
    record { group = sets_rate session rate h; alone = tt }

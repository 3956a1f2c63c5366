-- A server session ends once the replies to the requests of its slots are flushed, and no others of it are queued.
use Rattle.node_laws.proofs.EndedSessionLaws.{ended_sessions}
use Rattle.node_laws.proofs.laws.ended_sessions_are_not_queued.Goals as goal

pub returns : goal.returns
returns c = ended_sessions

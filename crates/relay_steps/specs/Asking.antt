-- The call of one job is asked, or refused.
use Rattle.std.specs.Prelude.{ℕ, List, [], ◌∷◌}
use Rattle.deferred_calls.specs.Desks.{Jobs}
use Rattle.deferred_calls.specs.declared.job.Numbered.{Numbered}
use Rattle.endpoint_loop.specs.Endpoints.{Leaves, Running}
use Rattle.relay_steps.specs.Passing.{AsksNested, IsRefusal, StandsAfter}
use Rattle.rpc_base.specs.declared.fact.Fact.{Fact}
use Rattle.rpc_outside.specs.Recording.{Grew, Log}
use Rattle.rpc_outside.specs.declared.service.Service as Service

-- it was asked, and the recorder grew by the fact of that
pub record AsksOne {V R : Type 0} (log : R → Log) (service : Service.Ghosts V)
    (answer : ℕ → List ℕ → List ℕ) (n : Numbered) (old new : Running V Jobs) (before now : R)
    : Type 0 where
  pub fact : Fact
  pub asks : AsksNested n fact old new
  pub leaves : Leaves old new
  pub grew : Grew (log before) (log now) (fact ∷ [])
  pub stands : StandsAfter service answer (fact ∷ []) old new

-- it was refused, which leaves the endpoint as it is
pub record RefusesOne {V R : Type 0} (log : R → Log) (service : Service.Ghosts V)
    (answer : ℕ → List ℕ → List ℕ) (e : Running V Jobs) (before now : R) : Type 0 where
  pub fact : Fact
  pub refusal : IsRefusal e.timed.lists.me fact
  pub grew : Grew (log before) (log now) (fact ∷ [])
  pub stands : StandsAfter service answer (fact ∷ []) e e

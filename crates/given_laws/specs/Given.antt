-- Whose jobs are given in a poll.
use Rattle.std.specs.Prelude.{ℕ, List, [], ◌∷◌, ◌++◌, map}
use Rattle.rpc_base.specs.declared.event.Event.{Event}
use Rattle.rpc_base.specs.declared.event.Event.TheVariants.{Given}
use Rattle.rpc_base.specs.declared.fact.Fact.{Fact}
use Rattle.rpc_laws.specs.declared.tables.Job.{Job}
use Rattle.worker_board.specs.declared.Parcel.{Parcel}

-- the session and the request of the job that an event gives
abbrev pub given_by : Event → List (ℕ × ℕ)
given_by (Given session request) = (session, request) ∷ []
given_by _ = []

-- of those that facts give, in order
abbrev pub given_in : List Fact → List (ℕ × ℕ)
given_in [] = []
given_in (f ∷ x) = given_by f.event ++ given_in x

abbrev pub name_of : Parcel → ℕ × ℕ
name_of p = (p.session, p.request)

abbrev pub job_name : Job → ℕ × ℕ
job_name job = (job.session, job.request)

-- Background jobs of a node: given and finished. That a job was worked changes none of them.
use Rattle.std.specs.Prelude.{ℕ, ◌+◌, ◌==◌, ◌&&◌, ◌||◌, nat_le, Bool, List, [], ◌++◌, length}
use Rattle.std.specs.Prelude.{option_map, option_to_list}
use Rattle.rpc_base.specs.Tables.{without_first}
use Rattle.rpc_base.specs.declared.event.Event.{Event}
use Rattle.rpc_base.specs.declared.event.Event.TheVariants.{Given, Ran}
use Rattle.rpc_base.specs.declared.limits.TheConstants.{MOST_GIVEN}
use Rattle.rpc_laws.specs.declared.tables.Job.{Job}
use Rattle.rpc_laws.specs.declared.tables.Jobs.{Jobs}
use Rattle.rpc_laws.specs.declared.tables.Served.{Served}
use Rattle.rpc_laws.specs.declared.tables.Server.{Server}
use Rattle.rpc_laws.specs.Requests.{request_of}

-- the job that a request of session t becomes: its bytes go with it
abbrev pub job_of : ℕ → Served → Job
job_of t q = record { session = t; request = q.number; req_type = q.req_type; ask = q.ask }

-- request r of session t becomes a job, where it is there
abbrev pub new_job : ℕ → ℕ → List Server → List Job
new_job t r servers = option_to_list (option_map (job_of t) (request_of t r servers))

-- whether a job is that of request r of session t
abbrev pub is_job : ℕ → ℕ → Job → Bool
is_job t r job = job.session == t && job.request == r

-- none was given; so many may be out at one time
abbrev pub no_jobs : ℕ → Jobs
no_jobs limit = record { limit = limit; given = 0; out = [] }

-- a job is out from Given to its Ran; the servers are those before the fact
abbrev pub jobs_after : Event → List Server → Jobs → Jobs
jobs_after (Given t r) servers jobs =
    record jobs { given = jobs.given + 1; out = jobs.out ++ new_job t r servers }
jobs_after (Ran t r y) servers jobs = record jobs { out = without_first (is_job t r) jobs.out }
jobs_after _ servers jobs = jobs

-- how many jobs a node takes that aren't finished, where nothing else is said
abbrev pub usual_jobs : ℕ
usual_jobs = 64

-- the jobs are full: as many as the limit were given and aren't finished, or 2^61 were given in the
-- node's life
abbrev pub are_full : Jobs → Bool
are_full jobs = nat_le jobs.limit (length jobs.out) || nat_le MOST_GIVEN jobs.given

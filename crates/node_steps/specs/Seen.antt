-- A node as the definitions over histories have it.
use Rattle.std.specs.Prelude.{ℕ, List, [], map}
use Rattle.packet_rings.specs.Rings.{Ring}
use Rattle.packet_rings.specs.Values.{DatagramValue}
use Rattle.rpc_base.specs.declared.limits.Limits.{Limits}
use Rattle.rpc_laws.specs.declared.tables.Arrival.{Arrival}
use Rattle.rpc_laws.specs.declared.tables.Counted.{Counted}
use Rattle.rpc_laws.specs.declared.tables.Job.{Job}
use Rattle.rpc_laws.specs.declared.tables.Jobs.{Jobs}
use Rattle.rpc_laws.specs.declared.tables.Pace.{Pace}
use Rattle.rpc_laws.specs.declared.tables.Timed.{Timed}
use Rattle.session_store.specs.Sides.{Shown}
use Rattle.node_steps.specs.declared.jobs.JobName.{JobName}

abbrev pub arrival_of : DatagramValue → Arrival
arrival_of d = record { peer = d.peer; bytes = d.bytes }

-- the jobs that are out, of which a node knows whose they are
abbrev pub unasked : JobName → Job
unasked n =
    record { session = n.session; request = n.request; req_type = n.req_type; ask = [] }

abbrev pub jobs_in : (limit given : ℕ) → List JobName → Jobs
jobs_in limit given names = record { limit = limit; given = given; out = map unasked names }

-- what each job that is out asks, by its session and request: the workers have the bytes
abbrev pub Asks : Type 0
Asks = ℕ → ℕ → List ℕ

abbrev pub with_ask : Asks → Job → Job
with_ask asks job = record job { ask = asks job.session job.request }

abbrev pub asking_jobs : Asks → Jobs → Jobs
asking_jobs asks jobs = record jobs { out = map (with_ask asks) jobs.out }

-- a node whose jobs ask so
abbrev pub asking : Asks → Timed → Timed
asking asks s =
    record s { lists = record s.lists { jobs = asking_jobs asks s.lists.jobs } }

-- what a node has beside its sessions and rings: its life, the greatest known lives of its peers,
-- what it counts, and the control packets of its inbox
pub record Tallies : Type 0 where
  pub life : ℕ
  pub known : List ℕ
  pub asked : ℕ
  pub server_numbers : ℕ
  pub inbox : List Arrival
  pub counts : Counted

-- a node of this number, with these limits, by what it keeps
abbrev pub seen_node : (me : ℕ) → Limits → Tallies → List Pace → Jobs → (clock : ℕ)
    → Ring DatagramValue → Shown → Timed
seen_node me limits tallies paces jobs clock rx s = record {
  lists = record {
    me = me;
    life = tallies.life;
    room = rx.size;
    timeout = limits.timeout;
    asked = tallies.asked;
    server_numbers = tallies.server_numbers;
    known = tallies.known;
    counts = tallies.counts;
    ring = map arrival_of rx.items;
    inbox = tallies.inbox;
    queued = s.queued;
    paces = paces;
    clients = s.clients;
    servers = s.servers;
    jobs = jobs;
  };
  clock = clock;
}

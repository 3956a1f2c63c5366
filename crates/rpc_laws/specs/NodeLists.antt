-- The lists and tables of a node after its facts, each by its own function of a fact.
use Rattle.std.specs.Prelude.{ℕ, ◌+◌, ◌-◌, ◌^◌, min, List, [], ◌∷◌}
use Rattle.rpc_base.specs.declared.event.Event.{Event}
use Rattle.rpc_base.specs.declared.event.Event.TheVariants.{Asked, Dropped, Given, Overflowed, Ran}
use Rattle.rpc_base.specs.declared.fact.Fact.{Fact}
use Rattle.rpc_base.specs.declared.limits.Limits.{Limits}
use Rattle.rpc_laws.specs.declared.tables.Counted.{Counted}
use Rattle.rpc_laws.specs.declared.tables.Lists.{Lists}
use Rattle.rpc_laws.specs.declared.tables.Timed.{Timed}
use Rattle.rpc_laws.specs.Front.{front_header, front_body}
use Rattle.rpc_laws.specs.Jobs.{jobs_after, no_jobs}
use Rattle.rpc_laws.specs.Lives.{known_after, no_lives}
use Rattle.rpc_laws.specs.Pacing.{due_of, paces_after}
use Rattle.rpc_laws.specs.Queues.{ring_after, inbox_after, queued_after}
use Rattle.rpc_laws.specs.Sessions.{clients_after}
use Rattle.rpc_laws.specs.Requests.{servers_after, server_numbers_after}

-- how many calls were accepted
abbrev pub asked_after : Event → ℕ → ℕ
asked_after (Asked c s y room) n = n + 1
asked_after _ n = n

-- one more; counts stop at 2^64 - 1
abbrev pub one_more : ℕ → ℕ
one_more n = min (n + 1) (2 ^ 64 - 1)

-- how many facts of four kinds were noted
abbrev pub counts_after : Event → Counted → Counted
counts_after (Ran t r y) c = record c { ran = one_more c.ran }
counts_after (Given t r) c = record c { given = one_more c.given }
counts_after (Dropped why) c = record c { dropped = one_more c.dropped }
counts_after (Overflowed peer) c = record c { overflowed = one_more c.overflowed }
counts_after _ c = c

-- a fact that happened at this clock
abbrev pub after : ℕ → Lists → Fact → Lists
after clock s f = record {
  me = s.me;
  life = s.life;
  room = s.room;
  timeout = s.timeout;
  asked = asked_after f.event s.asked;
  server_numbers = server_numbers_after f.event s.server_numbers;
  known = known_after f.event f.first s.known;
  counts = counts_after f.event s.counts;
  ring = ring_after f.event f.first s.ring;
  inbox = inbox_after f.event f.first s.inbox;
  queued = queued_after f.event (due_of clock f.event s.paces) s.queued;
  paces = paces_after clock f.event s.clients s.paces;
  clients = clients_after clock f.event f.first (front_header s.ring) (front_body s.ring) s.clients;
  servers = servers_after f.event f.second (front_header s.ring) (front_body s.ring) s.servers;
  jobs = jobs_after f.event s.servers s.jobs;
}

abbrev pub after_all : ℕ → Lists → List Fact → Lists
after_all clock s [] = s
after_all clock s (f ∷ fs) = after_all clock (after clock s f) fs

abbrev pub no_counts : Counted
no_counts = record { ran = 0; given = 0; dropped = 0; overflowed = 0 }

-- a node as it is made with these limits, in some life: its lists are empty
abbrev pub new_lists : (me life : ℕ) → Limits → Lists
new_lists me life limits = record {
  me = me;
  life = life;
  room = limits.ring;
  timeout = limits.timeout;
  asked = 0;
  server_numbers = 0;
  known = no_lives;
  counts = no_counts;
  ring = [];
  inbox = [];
  queued = [];
  paces = [];
  clients = [];
  servers = [];
  jobs = no_jobs limits.jobs;
}

abbrev pub new_node : (me life : ℕ) → Limits → Timed
new_node me life limits = record { lists = new_lists me life limits; clock = 0 }

-- the limits that a node was made with
abbrev pub limits_of : Lists → Limits
limits_of s = record { ring = s.room; jobs = s.jobs.limit; timeout = s.timeout }

-- a node as it is restarted: it has the same limits and the next life, and its lists are empty
abbrev pub restarted_lists : Lists → Lists
restarted_lists s = new_lists s.me (s.life + 1) (limits_of s)

abbrev pub restarted : Timed → Timed
restarted s = record { lists = restarted_lists s.lists; clock = 0 }

-- A client session as it is made, how far a call has come as it begins, and the two halves of a
-- fact's change of a node's lists: the tables that look at others, and those that stand alone.
use Rattle.std.specs.Prelude.{ℕ, [], None}
use Rattle.rpc_base.specs.declared.fact.Fact.{Fact}
use Rattle.rpc_base.specs.declared.state.SessionState.{SessionState}
use Rattle.rpc_laws.specs.declared.tables.Client.{Client}
use Rattle.rpc_laws.specs.declared.tables.Progress.{Progress}
use Rattle.rpc_laws.specs.declared.tables.Way.{Way}
use Rattle.rpc_laws.specs.Sessions.{no_turns}
use Rattle.rpc_laws.specs.declared.tables.Lists.{Lists}
use Rattle.rpc_laws.specs.NodeLists.{after}

-- the queue, the paces, the sessions and the jobs are those after the fact
abbrev pub sessions_changed : (clock : ℕ) → Fact → Lists → Lists
sessions_changed clock f s = record s {
  queued = (after clock s f).queued;
  paces = (after clock s f).paces;
  clients = (after clock s f).clients;
  servers = (after clock s f).servers;
  jobs = (after clock s f).jobs;
}

-- the ring, the inbox, the lives that are known and the counts are
abbrev pub others_changed : Fact → Lists → Lists
others_changed f s = record s {
  ring = (after 0 s f).ring;
  inbox = (after 0 s f).inbox;
  asked = (after 0 s f).asked;
  server_numbers = (after 0 s f).server_numbers;
  known = (after 0 s f).known;
  counts = (after 0 s f).counts;
}

-- of a call that begins as r
abbrev pub no_progress : (r : ℕ) → Progress
no_progress r = record {
  request = r;
  got = 0;
  posted = 0;
  rolls = 0;
  mark = 0;
  answer = None;
  parts = [];
}

-- all its credits are free, and it has no call
abbrev pub new_client : Way → SessionState → (credits : ℕ) → Client
new_client way state credits = record {
  way = way;
  state = state;
  limit = credits;
  free = credits;
  sends = 0;
  sent_at = 0;
  asked = 0;
  turns = no_turns;
  calls = [];
}

-- Worked rows: a request of a Background type, computed by the definitions alone.
use Rattle.std.proofs.Common.{◌≡◌, ℕ, true, false, Some, None, List, [], ◌∷◌, ◌++◌, refl}
use Rattle.std.specs.Prelude.{count_by, slice_get}
use Rattle.std.specs.List.{list_any}
use Rattle.packet_header.specs.Reading.{decoded, kind_of, message_read, message_fault, message_at}
use Rattle.packet_header.specs.declared.packet.Kind.TheVariants.{Request}
use Rattle.packet_header.specs.declared.packet.MessageHeader.{MessageHeader}
use Rattle.rpc_base.specs.declared.event.Event.TheVariants.{PairedServer, Posted, Flushed, Arrived}
use Rattle.rpc_base.specs.declared.event.Event.TheVariants.{Took, Again, Dropped, Given, Worked}
use Rattle.rpc_base.specs.declared.event.Event.TheVariants.{Ran}
use Rattle.rpc_base.specs.declared.fact.Fact.{Fact}
use Rattle.rpc_base.specs.declared.owner.Owner.TheVariants.{Reply}
use Rattle.rpc_base.specs.declared.state.DropReason.TheVariants.{Working, JobsFull}
use Rattle.rpc_laws.specs.declared.rows.ServerRow.TheVariants.{Drops, Begins}
use Rattle.rpc_laws.specs.declared.tables.Job.{Job}
use Rattle.rpc_laws.specs.declared.tables.Jobs.{Jobs}
use Rattle.rpc_laws.specs.declared.tables.Lists.{Lists}
use Rattle.rpc_laws.specs.declared.tables.Queued.{Queued}
use Rattle.rpc_laws.specs.declared.tables.Server.{Server}
use Rattle.rpc_outside.specs.PlainAnswer.{plain_mode}
use Rattle.rpc_outside.specs.declared.service.Mode.TheVariants.{Background}
use Rattle.rpc_laws.specs.Facts.{plain, with_bytes, with_two}
use Rattle.rpc_laws.specs.Jobs.{jobs_after, no_jobs}
use Rattle.rpc_laws.specs.Lives.{first_life}
use Rattle.rpc_laws.specs.NodeLists.{new_lists}
use Rattle.rpc_laws.specs.PollOrder.{asks_facts, finished_facts}
use Rattle.rpc_laws.specs.Requests.{servers_after, server_end}
use Rattle.rpc_laws.specs.ServerTable.{server_row}
use Rattle.rpc_laws.specs.UsualLimits.{with_ring}
use Rattle.node_laws.specs.CallHistory.{latest_first}
use Rattle.node_laws.specs.EndedCalls.{queued_by}
use Rattle.node_laws.specs.OlderRequests.{takes_request, posts_reply}
use Rattle.node_laws.specs.RequestHistory.{takes_newer, gives_request, answer_by, ring_by, ask_by, is_listed}

-- the request: two bytes of type 130, which a worker reverses
abbrev asking : (request : ℕ) → MessageHeader
asking r =
    record {
      kind = Request;
      req_type = 130;
      size = 2;
      session = 0;
      number = 0;
      request = r;
      to_life = 1;
    }

-- node 4 with these sessions, jobs and queued packets
abbrev node : List Server → Jobs → List Queued → Lists
node servers jobs queued =
    record (new_lists 4 first_life (with_ring 32)) {
      servers = servers;
      jobs = jobs;
      queued = queued;
    }

-- a session of two credits
abbrev paired : List Server
paired = server_end 0 7 3 2 1 ∷ []

-- the request begins, and is given to a worker, unless the jobs are full
row-begins : server_row Background false false (slice_get paired 0) 7 (asking 0) ≡ Begins
row-begins = refl

row-jobs-full : server_row Background true false (slice_get paired 0) 7 (asking 0) ≡ Drops JobsFull
row-jobs-full = refl

row-gives : asks_facts plain_mode false [] (node paired (no_jobs 64) []) 7 (asking 0) (97 ∷ 98 ∷ [])
    ≡ plain 4 (Took (Reply 0 0) 0) ∷ plain 4 (Given 0 0) ∷ []
row-gives = refl

abbrev took : List Server
took = servers_after (Took (Reply 0 0) 0) [] (Some (asking 0)) (97 ∷ 98 ∷ []) paired

abbrev given : List Server
given = servers_after (Given 0 0) [] None [] took

-- its bytes go with the job
abbrev job : Job
job = record { session = 0; request = 0; req_type = 130; ask = 97 ∷ 98 ∷ [] }

abbrev out : Jobs
out = record { limit = 64; given = 1; out = job ∷ [] }

row-given : jobs_after (Given 0 0) took (no_jobs 64) ≡ out
row-given = refl

row-slot : given ≡ record (server_end 0 7 3 2 1) {
  slots = record {
    number = 0;
    req_type = 130;
    size = 2;
    taken = 1;
    ask = [];
    working = true;
    answer = None;
  } ∷ [];
} ∷ []
row-slot = refl

-- meanwhile a repeat of its last packet is dropped, and so is a newer request of its slot
row-repeat-working : asks_facts plain_mode false [] (node given out []) 7 (asking 0) (97 ∷ 98 ∷ [])
    ≡ plain 4 (Dropped Working) ∷ []
row-repeat-working = refl

row-newer-working : asks_facts plain_mode false [] (node given out []) 7 (asking 8) (97 ∷ 98 ∷ [])
    ≡ plain 4 (Dropped Working) ∷ []
row-newer-working = refl

-- that the job is worked changes nothing at its node
row-worked : jobs_after (Worked 0 0) given out ≡ out
row-worked = refl

-- it is finished: the answer is there, and its first part is posted
row-finishes : finished_facts (98 ∷ 97 ∷ []) (node given out []) job
    ≡ with_two 4 (Ran 0 0 130) (97 ∷ 98 ∷ []) (98 ∷ 97 ∷ []) ∷ plain 4 (Posted (Reply 0 0) 0) ∷ []
row-finishes = refl

abbrev ran : List Server
ran = servers_after (Ran 0 0 130) (98 ∷ 97 ∷ []) None [] given

row-ran : jobs_after (Ran 0 0 130) given out ≡ record { limit = 64; given = 1; out = [] }
row-ran = refl

row-repeats : asks_facts plain_mode false [] (node ran (no_jobs 64) []) 7 (asking 0) (97 ∷ 98 ∷ [])
    ≡ plain 4 (Again (Reply 0 0) 0) ∷ plain 4 (Posted (Reply 0 0) 0) ∷ []
row-repeats = refl

-- a newer request of its slot first flushes the reply that is queued, and takes its place
row-newer : asks_facts plain_mode false [] (node ran (no_jobs 64)
    (record { owner = Reply 0 0; number = 0; due = None } ∷ [])) 7 (asking 8) (97 ∷ 98 ∷ [])
    ≡ plain 4 (Flushed (Reply 0 0) 0) ∷ plain 4 (Took (Reply 0 8) 0) ∷ plain 4 (Given 0 8) ∷ []
row-newer = refl

abbrev newer : List Server
newer = servers_after (Took (Reply 0 8) 0) [] (Some (asking 8)) (97 ∷ 98 ∷ []) ran

row-listed : is_listed 0 (slice_get ran 0) ≡ true
row-listed = refl

row-not-listed : is_listed 0 (slice_get newer 0) ≡ false
row-not-listed = refl

row-newer-listed : is_listed 8 (slice_get newer 0) ≡ true
row-newer-listed = refl

-- the facts: the datagram, its header of 20 bytes and its body, arrives, and is taken
abbrev taken_facts : List Fact
taken_facts =
    plain 4 (PairedServer 0 7 3 2 1) ∷ with_bytes 4 (Arrived 7)
    (226 ∷ 0 ∷ 130 ∷ 0 ∷ 0 ∷ 2 ∷ 0 ∷ 0 ∷ 0 ∷ 0 ∷ 0 ∷ 0 ∷ 0 ∷ 0 ∷ 0 ∷ 0 ∷ 0 ∷ 0 ∷ 0 ∷ 1 ∷ 97 ∷ 98 ∷ [])
    ∷ plain 4 (Took (Reply 0 0) 0) ∷ []

abbrev ran_facts : List Fact
ran_facts =
    taken_facts ++ plain 4 (Given 0 0) ∷ plain 4 (Worked 0 0)
    ∷ with_two 4 (Ran 0 0 130) (97 ∷ 98 ∷ []) (98 ∷ 97 ∷ []) ∷ plain 4 (Posted (Reply 0 0) 0)
    ∷ []

abbrev newer_facts : List Fact
newer_facts = ran_facts ++ plain 4 (Flushed (Reply 0 0) 0) ∷ plain 4 (Took (Reply 0 8) 0) ∷ []

-- what they tell of it before it is given
row-tells-bytes : ask_by 0 0 (latest_first [] taken_facts) ≡ 97 ∷ 98 ∷ []
unfolding decoded kind_of message_read message_fault message_at
row-tells-bytes = refl

row-tells-ring : ring_by (latest_first [] taken_facts) ≡ []
unfolding decoded kind_of message_read message_fault message_at
row-tells-ring = refl

row-tells-no-answer : answer_by 0 0 (latest_first [] taken_facts) ≡ None
row-tells-no-answer = refl

-- and once it ran
row-tells-taken : count_by (λ f. takes_request 0 0 f.event) (latest_first [] ran_facts) ≡ 1
row-tells-taken = refl

row-tells-given : list_any (λ f. gives_request 0 0 f.event) (latest_first [] ran_facts) ≡ true
row-tells-given = refl

row-tells-answer : answer_by 0 0 (latest_first [] ran_facts) ≡ Some (98 ∷ 97 ∷ [])
row-tells-answer = refl

row-tells-queued : queued_by (latest_first [] ran_facts) ≡ record { owner = Reply 0 0; number = 0; due = None } ∷ []
row-tells-queued = refl

-- the newer one
row-tells-newer : list_any (λ f. takes_newer 0 0 f.event) (latest_first [] newer_facts) ≡ true
row-tells-newer = refl

row-tells-flushed : queued_by (latest_first [] newer_facts) ≡ []
row-tells-flushed = refl

row-other-slot : list_any (λ f. takes_newer 0 1 f.event) (latest_first [] newer_facts) ≡ false
row-other-slot = refl

row-not-newer : list_any (λ f. takes_newer 0 8 f.event) (latest_first [] newer_facts) ≡ false
row-not-newer = refl

-- a later reply to the older one would show
row-posts : list_any (λ f. posts_reply 0 0 f.event) (plain 4 (Posted (Reply 0 0) 1) ∷ []) ≡ true
row-posts = refl

row-posts-other : list_any (λ f. posts_reply 0 0 f.event) (plain 4 (Posted (Reply 0 8) 0) ∷ []) ≡ false
row-posts-other = refl

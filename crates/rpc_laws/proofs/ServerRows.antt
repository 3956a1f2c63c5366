-- Worked rows of a server session, computed by the definitions alone: a repeated tally, a late copy of an older
-- number, a background job with a greater number over it, a fill of three packets, full jobs, and want of memory.
use Rattle.std.proofs.Common.{◌≡◌, ℕ, Bool, true, false, Option, Some, None, List, [], ◌∷◌, replicate, refl}
use Rattle.std.specs.Prelude.{length}
use Rattle.packet_header.specs.declared.packet.Kind.TheVariants.{Request, Rfr}
use Rattle.packet_header.specs.declared.packet.MessageHeader.{MessageHeader}
use Rattle.rpc_base.specs.declared.event.Event.TheVariants.{Posted, Again, Flushed, Given, Worked, Ran, Took}
use Rattle.rpc_base.specs.declared.owner.Owner.TheVariants.{Reply}
use Rattle.rpc_base.specs.declared.state.DropReason.TheVariants.{Old, NotFirst, Working, Unserved}
use Rattle.rpc_base.specs.declared.state.DropReason.TheVariants.{JobsFull, NoMemory, Beyond}
use Rattle.rpc_laws.specs.declared.rows.ServerRow.{ServerRow}
use Rattle.rpc_laws.specs.declared.rows.ServerRow.TheVariants.{Drops, Begins, Takes, Repeats}
use Rattle.rpc_laws.specs.declared.tables.Jobs.{Jobs}
use Rattle.rpc_laws.specs.declared.tables.Served.{Served}
use Rattle.rpc_laws.specs.declared.tables.Server.{Server}
use Rattle.rpc_laws.specs.Facts.{plain, with_two}
use Rattle.rpc_laws.specs.Jobs.{are_full, jobs_after, no_jobs}
use Rattle.rpc_laws.specs.Requests.{servers_after}
use Rattle.rpc_laws.specs.ServerTable.{server_row, served_facts}
use Rattle.rpc_laws.specs.Service.{answer_with, plain_serving, Answers}
use Rattle.rpc_outside.specs.PlainAnswer.{plain_mode}

-- session 0 of client 7, who has it as 3, with these requests
abbrev at : List Served → Server
at slots = record { way = record { number = 0; peer = 7; other = 3; life = 1 }; credits = 2; slots = slots }

-- a request of one packet, of this type, size and number
abbrev first : (req_type size request : ℕ) → MessageHeader
first req_type size request =
    record {
      kind = Request;
      req_type = req_type;
      size = size;
      session = 0;
      number = 0;
      request = request;
      to_life = 1;
    }

-- a request for part k of the answer to request 0
abbrev more : ℕ → MessageHeader
more k = record { kind = Rfr; req_type = 0; size = 0; session = 0; number = k; request = 0; to_life = 1 }

-- what the rule says of such a packet from client 7, where the service is the plain one
abbrev by_plain : (full lacks : Bool) → Option Server → MessageHeader → ServerRow
by_plain full lacks v h = server_row (plain_mode h.req_type) full lacks v 7 h

-- the tally 7, and the same number as the only tally of a node before
abbrev seven : List ℕ
seven = 0 ∷ 0 ∷ 0 ∷ 0 ∷ 0 ∷ 0 ∷ 0 ∷ 7 ∷ []

abbrev fourteen : List ℕ
fourteen = 0 ∷ 0 ∷ 0 ∷ 0 ∷ 0 ∷ 0 ∷ 0 ∷ 14 ∷ []

-- request 0, a tally, once it was answered
abbrev tallied : Served
tallied = record { number = 0; req_type = 3; size = 8; taken = 1; ask = []; working = false; answer = Some seven }

-- it runs once: a second packet of it is answered again
row-begins : by_plain false false (Some (at [])) (first 3 8 0) ≡ Begins
row-begins = refl

row-runs : served_facts (plain_mode 3) 1 seven [] (Some (at [])) (first 3 8 0) seven Begins
    ≡ plain 1 (Took (Reply 0 0) 0) ∷ with_two 1 (Ran 0 0 3) seven seven
    ∷ plain 1 (Posted (Reply 0 0) 0) ∷ []
row-runs = refl

row-stands : servers_after (Ran 0 0 3) seven None []
    (servers_after (Took (Reply 0 0) 0) [] (Some (first 3 8 0)) seven (at [] ∷ []))
    ≡ at (tallied ∷ []) ∷ []
row-stands = refl

row-repeats : by_plain false false (Some (at (tallied ∷ []))) (first 3 8 0) ≡ Repeats
row-repeats = refl

row-again : served_facts (plain_mode 3) 1 [] [] (Some (at (tallied ∷ [])))
    (first 3 8 0) seven Repeats ≡ plain 1 (Again (Reply 0 0) 0) ∷ plain 1 (Posted (Reply 0 0) 0)
    ∷ []
row-again = refl

-- the next tally of the node is answered with the sum
row-sum : Answers plain_serving [] (with_two 1 (Ran 0 0 3) seven seven
    ∷ with_two 1 (Ran 0 8 3) seven fourteen ∷ [])
    ≡ ((seven ≡ seven) × ((fourteen ≡ fourteen) × Unit {0}))
row-sum = refl

-- a greater number of the slot begins over it, and flushes its reply; then a copy of the older one is late
row-over : served_facts (plain_mode 1) 1 (9 ∷ [])
    (record { owner = Reply 0 0; number = 0; due = None } ∷ []) (Some (at (tallied ∷ [])))
    (first 1 1 8) (9 ∷ []) Begins ≡ plain 1 (Flushed (Reply 0 0) 0) ∷ plain 1 (Took (Reply 0 8) 0)
    ∷ with_two 1 (Ran 0 8 1) (9 ∷ []) (9 ∷ []) ∷ plain 1 (Posted (Reply 0 8) 0) ∷ []
row-over = refl

row-late : by_plain false false (Some (at (record {
  number = 8;
  req_type = 1;
  size = 1;
  taken = 1;
  ask = 9 ∷ [];
  working = false;
  answer = Some (9 ∷ []);
} ∷ []))) (first 3 8 0) ≡ Drops Old
row-late = refl

-- a type that isn't served, and a request that begins with a request for a response
row-unserved : by_plain false false (Some (at [])) (first 9 0 0) ≡ Drops Unserved
row-unserved = refl

row-not-first : by_plain false false (Some (at [])) (more 1) ≡ Drops NotFirst
row-not-first = refl

-- a background reverse of two bytes is given
row-given : served_facts (plain_mode 130) 1 [] [] (Some (at [])) (first 130 2 0)
    (97 ∷ 98 ∷ []) Begins ≡ plain 1 (Took (Reply 0 0) 0) ∷ plain 1 (Given 0 0) ∷ []
row-given = refl

-- before that, and after it: its bytes went with the job
abbrev asked : Served
asked = record { number = 0; req_type = 130; size = 2; taken = 1; ask = 97 ∷ 98 ∷ []; working = false; answer = None }

abbrev worked_on : Served
worked_on = record { number = 0; req_type = 130; size = 2; taken = 1; ask = []; working = true; answer = None }

abbrev one_job : Jobs
one_job = record {
  limit = 64;
  given = 1;
  out = record { session = 0; request = 0; req_type = 130; ask = 97 ∷ 98 ∷ [] } ∷ [];
}

row-waits : jobs_after (Given 0 0) (at (asked ∷ []) ∷ []) (no_jobs 64) ≡ one_job
row-waits = refl

row-gone : servers_after (Given 0 0) [] None [] (at (asked ∷ []) ∷ []) ≡ at (worked_on ∷ []) ∷ []
row-gone = refl

-- while a worker has it, its packet and a greater number of its slot are dropped
row-works : by_plain false false (Some (at (worked_on ∷ []))) (first 130 2 0) ≡ Drops Working
row-works = refl

row-too-early : by_plain false false (Some (at (worked_on ∷ []))) (first 130 2 8) ≡ Drops Working
row-too-early = refl

-- that it is worked changes nothing; once it is finished it is over
row-is-worked : jobs_after (Worked 0 0) [] one_job ≡ one_job
row-is-worked = refl

row-is-over : jobs_after (Ran 0 0 130) [] one_job ≡ record { limit = 64; given = 1; out = [] }
row-is-over = refl

row-reversed : answer_with 0 130 (97 ∷ 98 ∷ []) ≡ 98 ∷ 97 ∷ []
row-reversed = refl

-- jobs are full from the limit on: then a request that would make one doesn't begin, but one of more packets does
row-few : are_full (record {
  limit = 64;
  given = 64;
  out = replicate 63 (record { session = 0; request = 0; req_type = 129; ask = [] });
}) ≡ false
row-few = refl

row-many : are_full (record {
  limit = 64;
  given = 64;
  out = replicate 64 (record { session = 0; request = 0; req_type = 129; ask = [] });
}) ≡ true
row-many = refl

row-full : by_plain true false (Some (at [])) (first 130 2 0) ≡ Drops JobsFull
row-full = refl

row-long : by_plain true false (Some (at [])) (first 130 1025 0) ≡ Begins
row-long = refl

-- where memory is wanting neither begins, and a request of a type that isn't served is dropped for that
row-lacks : by_plain false true (Some (at [])) (first 130 1025 0) ≡ Drops NoMemory
row-lacks = refl

row-lacks-full : by_plain true true (Some (at [])) (first 130 2 0) ≡ Drops JobsFull
row-lacks-full = refl

-- a fill of 3,000 bytes has three packets: two requests for a response are taken, and no third
row-length : length (answer_with 0 4 (0 ∷ 0 ∷ 11 ∷ 184 ∷ [])) ≡ 3000
row-length = refl

abbrev filled : ℕ → Served
filled taken = record {
  number = 0;
  req_type = 4;
  size = 4;
  taken = taken;
  ask = 0 ∷ 0 ∷ 11 ∷ 184 ∷ [];
  working = false;
  answer =
      Some (answer_with 0 4 (0 ∷ 0 ∷ 11 ∷ 184 ∷ []));
}

row-second : by_plain false false (Some (at (filled 1 ∷ []))) (more 1) ≡ Takes
row-second = refl

row-third : by_plain false false (Some (at (filled 2 ∷ []))) (more 2) ≡ Takes
row-third = refl

row-no-fourth : by_plain false false (Some (at (filled 3 ∷ []))) (more 3) ≡ Drops Beyond
row-no-fourth = refl

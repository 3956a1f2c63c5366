-- Jobs of a request: each working of one, and each run of a handler, takes one of what may still come.
use Rattle.std.proofs.Common.{◌≡◌, ℕ, ◌+◌, ◌≤◌, true, ◌&&◌, cond, Option, List, [], ◌∷◌, ◌++◌, refl}
use Rattle.std.proofs.Common.{◌⊎◌, inl, inr, arith}
use Rattle.std.specs.Prelude.{◌==◌}
use Rattle.std.proofs.lemmas.Bool.{and_parts, eqb-true}
use Rattle.std.proofs.lemmas.List.Sums.{sum_by_push}
use Rattle.packet_header.specs.declared.packet.MessageHeader.{MessageHeader}
use Rattle.rpc_base.specs.Tables.{without_first}
use Rattle.rpc_base.specs.declared.event.Event.{Event}
use Rattle.rpc_base.specs.declared.event.Event.TheVariants.{Given, Ran}
use Rattle.rpc_base.specs.declared.fact.Fact.{Fact}
use Rattle.rpc_laws.specs.declared.tables.Job.{Job}
use Rattle.rpc_laws.specs.declared.tables.Lists.{Lists}
use Rattle.rpc_laws.specs.AtMostOnce.{runs_request}
use Rattle.rpc_laws.specs.Front.{front_header, front_body}
use Rattle.rpc_laws.specs.Jobs.{job_of, new_job, is_job, jobs_after}
use Rattle.rpc_laws.specs.NodeLists.{after}
use Rattle.rpc_laws.specs.Requests.{is_request, given, answered, servers_after, server_numbers_after}
use Rattle.node_laws.proofs.Allowed.{Allowed, MayGive, MayFinish}
use Rattle.node_laws.proofs.ServantLemmas.{left-after, worked-spends}
use Rattle.node_laws.proofs.LeftLemmas.{given-due, answered-due, falls-due}
use Rattle.rpc_base.proofs.FirstLemmas.{sum-fewer, sum-left}
use Rattle.node_laws.specs.Valid.{is_due, to_give, jobs_of, to_run, Valid}
use Rattle.rpc_base.proofs.TakingLemmas.{find-passes}

-- whether a job is of a request, by the number that it was found by
job-counted : (t r n k : ℕ) (job : Job) → is_job n k job ≡ true
    → ◌≡◌ {A = ℕ} (cond (is_job t r job) 1 0) (cond (n == t && k == r) 1 0)
job-counted t r n k job e =
    let parts = and_parts (job.session == n) (job.request == k) e in
    let session : job.session ≡ n = eqb-true job.session n parts.0 in
    let request : job.request ≡ k = eqb-true job.request k parts.1 in
    rw (session, request) refl

-- a request that is given is one job more
given-by : (t r n k : ℕ) (s : Lists) (a : MayGive s n k) → new_job n k s.servers ≡ job_of n a.served ∷ []
given-by t r n k s a = rw (a.found, a.is_served) refl

pub given-counted : (t r n k : ℕ) (s : Lists) (a : MayGive s n k)
    → jobs_of t r (s.jobs.out ++ new_job n k s.servers)
    ≡ jobs_of t r s.jobs.out + cond (n == t && k == r) 1 0
given-counted t r n k s a =
    let number : a.served.number ≡ k =
    eqb-true a.served.number k (find-passes (is_request k) a.server.slots a.served
    a.is_served) in
    let push = sum_by_push (λ job. cond (is_job t r job) 1 0) s.jobs.out (job_of n a.served) in
    let one : ◌≡◌ {A = ℕ} (cond (n == t && a.served.number == r) 1 0)
    (cond (n == t && k == r) 1 0) = rw number refl in
    rw (given-by t r n k s a) (omega arith)

module _ (t r : ℕ) (s : Lists) (valid : Valid s) where
  -- a job that is finished is out no more
  pub out-of-jobs : (n k : ℕ) (a : MayFinish s n k)
      → jobs_of t r (without_first (is_job n k) s.jobs.out) + cond (n == t && k == r) 1 0
      ≡ jobs_of t r s.jobs.out
  out-of-jobs n k a =
      let left = sum-left (is_job n k) (λ job. cond (is_job t r job) 1 0) s.jobs.out a.job a.found in
      let one = job-counted t r n k a.job (find-passes (is_job n k) s.jobs.out a.job a.found) in
      omega arith

  -- what may still run, after a fact with this answer
  module _ (answer : List ℕ) (head : Option MessageHeader) (body : List ℕ) where
    ran-by : (n k y : ℕ) → MayGive s n k ⊎ MayFinish s n k
        → cond (n == t && k == r) 1 0 + (to_give t r s.server_numbers
        (servers_after (Ran n k y) answer head body s.servers)
        + jobs_of t r (without_first (is_job n k) s.jobs.out)) ≤ to_run t r s
    ran-by n k y (inl a) =
        let spent = worked-spends t r s valid (answered answer) (λ q. refl) (answered-due answer) n k a in
        let fewer = sum-fewer (is_job n k) (λ job. cond (is_job t r job) 1 0) s.jobs.out in
        omega arith
    ran-by n k y (inr a) =
        let less = left-after is_due falls-due t r (Ran n k y) answer head body s valid (inr a) in
        let out = out-of-jobs n k a in
        omega arith

    run-by : (e : Event) → Allowed s e
        → cond (runs_request t r e) 1 0 + (to_give t r (server_numbers_after e s.server_numbers)
        (servers_after e answer head body s.servers)
        + jobs_of t r (jobs_after e s.servers s.jobs).out) ≤ to_run t r s
    run-by (Given n k) a =
        let spent = worked-spends t r s valid given (λ q. refl) given-due n k a in
        let more = given-counted t r n k s a in
        omega arith
    run-by (Ran n k y) a = ran-by n k y a
    run-by e a = let less = left-after is_due falls-due t r e answer head body s valid a in omega arith

  pub run-spends : (clock : ℕ) (f : Fact) → Allowed s f.event
      → cond (runs_request t r f.event) 1 0 + to_run t r (after clock s f) ≤ to_run t r s
  run-spends clock f a = run-by f.second (front_header s.ring) (front_body s.ring) f.event a

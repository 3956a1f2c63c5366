-- The jobs of a node stay those of calls that began.
use Rattle.std.proofs.Common.{Some}
use Rattle.std.proofs.Common.{subst}
use Rattle.std.proofs.Common.{◌≡◌, ◌≤◌, ◌*◌, ℕ, Bool, false, cond, List, [], length, take, Option}
use Rattle.std.proofs.Common.{refl, ap, ◌∙◌, arith}
use Rattle.std.specs.List.{AllByRecursion}
use Rattle.packet_header.specs.Parts.{packet_count}
use Rattle.packet_header.proofs.PartsLemmas.{front-whole}
use Rattle.rpc_base.specs.declared.event.Event.{Event}
use Rattle.rpc_base.specs.declared.event.Event.TheVariants.{Given, Ran}
use Rattle.rpc_laws.specs.declared.tables.InFlight.{InFlight}
use Rattle.rpc_laws.specs.declared.tables.Jobs.{Jobs}
use Rattle.rpc_laws.specs.declared.tables.Lists.{Lists}
use Rattle.rpc_laws.specs.Jobs.{is_job, job_of, jobs_after}
use Rattle.rpc_laws.specs.Requests.{is_request}
use Rattle.end_laws.specs.TwoEnds.{is_away, peer_of}
use Rattle.end_laws.proofs.Allowed.{IsWhole, May}
use Rattle.end_laws.proofs.JobLemmas.{new-is}
use Rattle.end_laws.proofs.Known.{Known, GoodServed, GoodServer, GoodJob, GoodNode}
use Rattle.end_laws.proofs.ListLemmas.{all-add, all-without, all-found}
use Rattle.end_laws.proofs.ServerLemmas.{server-at}
use Rattle.rpc_laws.specs.Endpoints.{Endpoint}

-- the bytes of a whole request that no worker has, and that has no answer, are those of its call
pub whole-ask : (k : Known) (n : Endpoint) (l : Lists) (t r : ℕ) → (w : IsWhole l t r)
    → (g : GoodServed k n w.server.way w.request) → w.request.ask ≡ g.start.what.ask
whole-ask k n l t r w g =
    let q = w.request in
    let here : is_away q ≡ false = rw (w.idle, w.unanswered) refl in
    let whole = w.whole in
    let count : packet_count (length g.start.what.ask) ≤ q.taken = (let size : packet_count q.size ≡ packet_count (length g.start.what.ask) = ap packet_count g.size in omega arith) in
    g.ask ∙ (ap (λ (b : Bool). cond b [] (take (1024 * q.taken) g.start.what.ask)) here
    ∙ front-whole g.start.what.ask q.taken count)

-- what is known of a whole request
pub record WholeGood (k : Known) (n : Endpoint) (l : Lists) (t r : ℕ) (w : IsWhole l t r) : Type 0 where
  pub server : GoodServer k n w.server
  pub number : w.server.way.number ≡ t
  pub served : GoodServed k n w.server.way w.request

pub whole-good : (k : Known) (n : Endpoint) (l : Lists) (t r : ℕ) → (w : IsWhole l t r) → GoodNode k n l
    → WholeGood k n l t r w
whole-good k n l t r w g =
    let v = w.server in
    let at = server-at k n l.servers t v g.servers w.found in
    let server = at.0 in
    record {
      server = server;
      number = at.1;
      served = all-found (GoodServed k n v.way) (is_request r) v.slots
          w.request server.slots w.is_there;
    }

given-job : (k : Known) (n : Endpoint) (l : Lists) (t r : ℕ) → (w : IsWhole l t r) → GoodNode k n l
    → GoodJob k n (job_of t w.request)
given-job k n l t r w g =
    let h = whole-good k n l t r w g in
    let v = w.server in
    record {
      end = record { home = peer_of v.way; client = v.way.other; credits = v.credits };
      is_end = subst (λ (s : ℕ). k.ends n s 0 ≡ Some
          (record { home = peer_of v.way; client = v.way.other; credits = v.credits }))
          h.number h.server.session.end;
      start = h.served.start;
      begun = h.served.begun;
      way_is = h.served.way_is ∙ ap (λ (s : ℕ).
          record { number = v.way.other; peer = n.node; other = s; life = n.life }) h.number;
      req_type = h.served.req_type;
      own = whole-ask k n l t r w h.served;
    }

abbrev pub GoodJobs : Known → Endpoint → Jobs → Type 0
GoodJobs k n jobs = AllByRecursion (GoodJob k n) jobs.out

given-jobs : (k : Known) (n : Endpoint) (l : Lists) (t r : ℕ) → IsWhole l t r → GoodNode k n l
    → GoodJobs k n (jobs_after (Given t r) l.servers l.jobs)
given-jobs k n l t r w g =
    rw (new-is l t r w) (all-add (GoodJob k n) l.jobs.out (job_of t w.request) g.jobs (given-job k n l t r w g))

pub jobs-good : (k : Known) (n : Endpoint) (hand : Option InFlight) (l : Lists) (e : Event)
    (first second : List ℕ) → May hand l e first second → GoodNode k n l
    → GoodJobs k n (jobs_after e l.servers l.jobs)
jobs-good k n hand l (Given t r) first second m g = given-jobs k n l t r m.has g
jobs-good k n hand l (Ran t r y) first second m g = all-without (GoodJob k n) (is_job t r) l.jobs.out g.jobs
jobs-good k n hand l _ first second m g = g.jobs

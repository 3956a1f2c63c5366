-- The jobs that are out, as a request is served.
use Rattle.std.proofs.Common.{◌≡◌, ℕ, ◌+◌, ◌<◌, ◌≤◌, Bool, true, false, ◌||◌, cond}
use Rattle.std.proofs.Common.{Some, List, [], ◌∷◌, ◌++◌, length, refl, sym, ap, ◌∙◌, arith}
use Rattle.std.specs.Prelude.{map, nat_le}
use Rattle.std.specs.List.{find, list_any}
use Rattle.std.proofs.lemmas.Bool.{leb-false}
use Rattle.std.proofs.lemmas.List.{length-map, map-append}
use Rattle.message_buffer.specs.Buffer.{bytes_of}
use Rattle.rpc_base.specs.Tables.{without_first}
use Rattle.rpc_base.specs.declared.limits.TheConstants.{MOST_GIVEN}
use Rattle.rpc_base.proofs.BasicLemmas.{or-false}
use Rattle.rpc_base.proofs.FirstLemmas.{counted-cons, counted-none}
use Rattle.rpc_laws.specs.declared.tables.Job.{Job}
use Rattle.rpc_laws.specs.declared.tables.Jobs.{Jobs}
use Rattle.rpc_laws.specs.declared.tables.Lists.{Lists}
use Rattle.rpc_laws.specs.declared.tables.Served.{Served}
use Rattle.rpc_laws.specs.declared.tables.Server.{Server}
use Rattle.rpc_laws.specs.Jobs.{are_full, is_job, new_job}
use Rattle.rpc_laws.specs.Requests.{is_request, is_server}
use Rattle.node_laws.specs.Kept.{Kept}
use Rattle.node_laws.specs.Valid.{is_due, jobs_of, left_in, left_on, to_come}
use Rattle.worker_board.specs.declared.Parcel.{Parcel}
use Rattle.node_steps.specs.declared.jobs.JobName.{JobName}
use Rattle.node_steps.specs.Seen.{Asks, asking_jobs, jobs_in, unasked, with_ask}
use Rattle.node_steps.specs.Requests.{job_named}

-- where no job of a request is out, none is taken out
module _ (t r : ℕ) (asks : Asks) where
  out-cons : (j : Job) (js : List Job) (b : Bool) → is_job t r j ≡ b
      → (b || list_any (is_job t r) js) ≡ false
      → (list_any (is_job t r) js ≡ false
      → without_first (is_job t r) (map (with_ask asks) js) ≡ map (with_ask asks) js)
      → cond b (map (with_ask asks) js)
      (with_ask asks j ∷ without_first (is_job t r) (map (with_ask asks) js))
      ≡ with_ask asks j ∷ map (with_ask asks) js
  out-cons j js true e none ih = cc
  out-cons j js false e none ih = ap (λ ks. with_ask asks j ∷ ks) (ih none)

  none-asked : (js : List Job) → list_any (is_job t r) js ≡ false
      → without_first (is_job t r) (map (with_ask asks) js) ≡ map (with_ask asks) js
  none-asked [] none = refl
  none-asked (j ∷ js) none = out-cons j js (is_job t r j) refl none (none-asked js)

  pub none-out : (jobs : Jobs) → jobs_of t r jobs.out ≡ 0
      → asking_jobs asks jobs
      ≡ record (asking_jobs asks jobs) {
        out = without_first (is_job t r) (asking_jobs asks jobs).out;
      }
  none-out jobs none =
      ap (λ (ks : List Job). record jobs { out = ks })
      (sym (none-asked jobs.out (counted-none (is_job t r) jobs.out none)))

-- the same of jobs of which is known only whose they are
module _ (t r : ℕ) where
  bare-cons : (j : Job) (js : List Job) (b : Bool) → (b || list_any (is_job t r) js) ≡ false
      → (list_any (is_job t r) js ≡ false → without_first (is_job t r) js ≡ js)
      → cond b js (j ∷ without_first (is_job t r) js) ≡ j ∷ js
  bare-cons j js true none ih = cc
  bare-cons j js false none ih = ap (λ ks. j ∷ ks) (ih none)

  bare-none : (js : List Job) → list_any (is_job t r) js ≡ false
      → without_first (is_job t r) js ≡ js
  bare-none [] none = refl
  bare-none (j ∷ js) none = bare-cons j js (is_job t r j) none (bare-none js)

  pub none-bare : (jobs : Jobs) → jobs_of t r jobs.out ≡ 0
      → jobs ≡ record jobs { out = without_first (is_job t r) jobs.out }
  none-bare jobs none =
      ap (λ (ks : List Job). record jobs { out = ks })
      (sym (bare-none jobs.out (counted-none (is_job t r) jobs.out none)))

-- a request that may still run has no job
pub no-jobs : (s : Lists) (t r : ℕ) (v : Server) → Kept s → find (is_server t) s.servers ≡ Some v
    → 1 ≤ left_in is_due r v.slots → jobs_of t r s.jobs.out ≡ 0
no-jobs s t r v kept found left =
    let own : left_on is_due r (to_come s.server_numbers t) (find (is_server t) s.servers)
    ≡ left_in is_due r v.slots = rw found refl in
    omega (arith, kept.valid.runs t r, own, left)

-- what is kept depends on no job's bytes
pub kept-jobs : (s : Lists) (js : Jobs) → ((t r : ℕ) → jobs_of t r js.out ≤ jobs_of t r s.jobs.out)
    → Kept s → Kept (record s { jobs = js })
kept-jobs s js few k = record {
  valid = record {
    numbered = k.valid.numbered;
    alone = k.valid.alone;
    once = k.valid.once;
    sound = k.valid.sound;
    idle = k.valid.idle;
    served = k.valid.served;
    runs = λ t r. omega (arith, few t r, k.valid.runs t r);
    works = λ t r. omega (arith, few t r, k.valid.works t r);
    shared = k.valid.shared;
  };
  asked = k.asked;
  few = k.few;
  reads = k.reads;
  eight = k.eight;
  windows = k.windows;
  live = k.live;
  once = k.once;
}

pub same-named : (t r : ℕ) (js : List Job) (x y : Job) → x.session ≡ y.session
    → x.request ≡ y.request → jobs_of t r (js ++ x ∷ []) ≤ jobs_of t r (js ++ y ∷ [])
same-named t r [] x y session request =
    let same : is_job t r x ≡ is_job t r y = rw (session, request) refl in
    omega (
      arith,
      counted-cons (is_job t r) x [] (is_job t r y) same,
      counted-cons (is_job t r) y [] (is_job t r y) refl,
    )
same-named t r (j ∷ js) x y session request =
    omega (
      arith,
      same-named t r js x y session request,
      counted-cons (is_job t r) j (js ++ x ∷ []) (is_job t r j) refl,
      counted-cons (is_job t r) j (js ++ y ∷ []) (is_job t r j) refl,
    )

-- the job of a request
pub the-job : (t r : ℕ) (servers : List Server) (v : Server) (q : Served)
    → find (is_server t) servers ≡ Some v → find (is_request r) v.slots ≡ Some q
    → new_job t r servers
    ≡ record { session = t; request = q.number; req_type = q.req_type; ask = q.ask } ∷ []
the-job t r servers v q server request = rw (server, request) refl

-- what the jobs ask, with one that is given
pub asking-one : (limit given : ℕ) (names : List JobName) (p : Parcel) (asks : Asks)
    (ms : List JobName) → map unasked ms ≡ map unasked names ++ job_named p ∷ []
    → asks p.session p.request ≡ bytes_of p.ask → asking_jobs asks (jobs_in limit (given + 1) ms)
    ≡ record (asking_jobs asks (jobs_in limit given names)) {
      given = given + 1;
      out = (asking_jobs asks (jobs_in limit given names)).out
          ++ record {
            session = p.session;
            request = p.request;
            req_type = p.req_type;
            ask = bytes_of p.ask;
          } ∷ [];
    }
asking-one limit given names p asks ms named asked =
    ap (λ (js : List Job). record { limit = limit; given = given + 1; out = js })
    (ap (map (with_ask asks)) named
    ∙ map-append (with_ask asks) (map unasked names) (job_named p ∷ [])
    ∙ ap (λ (b : List ℕ). map (with_ask asks) (map unasked names)
    ++ record {
      session = p.session;
      request = p.request;
      req_type = p.req_type;
      ask = b;
    } ∷ []) asked)

-- where the jobs aren't full, there is room for a name, and for a count
pub has-job-room : (limit given capacity : ℕ) (names : List JobName) (full : Bool)
    → full ≡ are_full (jobs_in limit given names) → full ≡ false → limit ≤ capacity
    → (length names < capacity) × (given < MOST_GIVEN)
has-job-room limit given capacity names full is none within =
    let parts = or-false (nat_le limit (length (map unasked names))) (nat_le MOST_GIVEN given)
    (sym is ∙ none) in
    let one = leb-false limit (length (map unasked names)) parts.0 in
    let two = leb-false MOST_GIVEN given parts.1 in
    (omega (arith, one, within, length-map names unasked), two)

-- A job that comes back from the workers, of a node whose jobs they have.
use Rattle.std.proofs.Common.{◌≡◌, ℕ, ◌≤◌, ◌<◌, ◌&&◌, ◌||◌, Bool, true, false, cond, Option}
use Rattle.std.proofs.Common.{Some, None, List, [], ◌∷◌, ◌++◌, length, refl, sym, ap, ap₂, subst}
use Rattle.std.proofs.Common.{◌∙◌}
use Rattle.std.proofs.Common.{append-nil, append_assoc, IsPermutation, arith}
use Rattle.std.specs.Prelude.{◌==◌, count_by, map, option_map, sum_by}
use Rattle.std.specs.List.{find, list_any}
use Rattle.std.proofs.lemmas.Bool.{and_parts, eq-eqb, eqb-true}
use Rattle.std.proofs.lemmas.List.Sorted.{length_permutation, sum_by-IsPermutation}
use Rattle.std.proofs.lemmas.List.Sums.{sum_by-cons}
use Rattle.rpc_outside.specs.Recording.{Log}
use Rattle.message_buffer.specs.Buffer.{bytes_of}
use Rattle.packet_header.specs.Parts.{IsMessage}
use Rattle.rpc_base.specs.Tables.{without_first}
use Rattle.rpc_base.specs.declared.fact.Fact.{Fact}
use Rattle.rpc_base.proofs.FirstLemmas.{all-both, all-left, counted-none, found-holds, sum-left}
use Rattle.rpc_base.proofs.TakingLemmas.{find-passes}
use Rattle.rpc_laws.specs.declared.tables.Job.{Job}
use Rattle.rpc_laws.specs.declared.tables.Jobs.{Jobs}
use Rattle.rpc_laws.specs.declared.tables.Timed.{Timed}
use Rattle.rpc_laws.specs.Jobs.{is_job}
use Rattle.rpc_laws.specs.PollOrder.{finished_facts}
use Rattle.rpc_laws.specs.Queues.{replies}
use Rattle.node_laws.specs.Kept.{Kept}
use Rattle.server_core.proofs.FlushLemmas.{grew-none, grew-then}
use Rattle.worker_board.specs.declared.Parcel.{Parcel}
use Rattle.worker_crew.specs.Jobs.{IsAnswered, Job as CrewJob, TakesFirst, job_of}
use Rattle.worker_crew.specs.declared.workers.Finished.{Finished}
use Rattle.worker_crew.specs.declared.workers.Workers as Workers
use Rattle.node_steps.specs.Jobs.{jobs_left}
use Rattle.node_steps.specs.Jobs.{Agree, AsksOf, FinishesBy, FinishesTaken, FinishesThese}
use Rattle.node_steps.specs.Jobs.{MakesFinished, CanFinish, asked_job}
use Rattle.node_steps.specs.Notes.{MakesWhere}
use Rattle.node_steps.specs.Seen.{Asks, asking, with_ask}
use Rattle.node_steps.specs.Requests.{FinishesWith}
use Rattle.node_steps.specs.Changes.{◌⟶◌}
use Rattle.node_steps.specs.Handed.{Holding, timed_of}
use Rattle.node_steps.specs.Steps.{StepsJobs}
use Rattle.node_steps.proofs.JobsSteps.{find-shown, whose-job}

-- whether two jobs are the same
abbrev same_bytes : List ℕ → List ℕ → Bool
same_bytes [] [] = true
same_bytes [] (b ∷ bs) = false
same_bytes (a ∷ xs) [] = false
same_bytes (a ∷ xs) (b ∷ bs) = a == b && same_bytes xs bs

bytes-own : (xs : List ℕ) → same_bytes xs xs ≡ true
bytes-own [] = refl
bytes-own (a ∷ xs) = rw (eq-eqb a a refl) (bytes-own xs)

bytes-are : (xs ys : List ℕ) → same_bytes xs ys ≡ true → xs ≡ ys
bytes-are [] [] e = refl
bytes-are [] (b ∷ ys) e = cc
bytes-are (a ∷ xs) [] e = cc
bytes-are (a ∷ xs) (b ∷ ys) e =
    let parts = and_parts (a == b) (same_bytes xs ys) e in
    ap₂ (λ (z : ℕ) (zs : List ℕ). z ∷ zs) (eqb-true a b parts.0) (bytes-are xs ys parts.1)

abbrev same_job : CrewJob → CrewJob → Bool
same_job x y =
    x.session == y.session && (x.request == y.request && (x.req_type == y.req_type && same_bytes
    x.ask y.ask))

job-own : (x : CrewJob) → same_job x x ≡ true
job-own x =
    rw (
      eq-eqb x.session x.session refl,
      eq-eqb x.request x.request refl,
      eq-eqb x.req_type x.req_type refl,
      bytes-own x.ask,
    ) refl

built : (s r y : ℕ) (ask : List ℕ) (x : CrewJob) → x.session ≡ s → x.request ≡ r → x.req_type ≡ y
    → x.ask ≡ ask → x ≡ record { session = s; request = r; req_type = y; ask = ask }
built s r y ask x a b c d = rw (← a, ← b, ← c, ← d) refl

job-is : (x y : CrewJob) → same_job x y ≡ true → x ≡ y
job-is x y e =
    let one = and_parts (x.session == y.session) _ e in
    let two = and_parts (x.request == y.request) _ one.1 in
    let three = and_parts (x.req_type == y.req_type) (same_bytes x.ask y.ask) two.1 in
    built y.session y.request y.req_type y.ask x (eqb-true x.session y.session one.0)
    (eqb-true x.request y.request two.0)
    (eqb-true x.req_type y.req_type three.0) (bytes-are x.ask y.ask three.1)

-- a job that is counted wherever another is
yes-counted : (b : Bool) → 1 ≤ cond {A = ℕ} b 1 0 → b ≡ true
yes-counted true h = refl
yes-counted false h = absurd (omega (arith, h))

pub by-counts : (x y : CrewJob) → ((count : CrewJob → ℕ) → count x ≤ count y) → x ≡ y
by-counts x y counts =
    let most : cond {A = ℕ} (same_job x x) 1 0 ≤ cond (same_job x y) 1 0 = counts (λ z. cond
    (same_job x z) 1 0) in
    let one : cond {A = ℕ} (same_job x x) 1 0 ≡ 1 = ap (λ (b : Bool). cond {A = ℕ} b 1 0) (job-own
    x) in
    job-is x y (yes-counted (same_job x y) (omega (arith, most, one)))

-- sums of what none of a list passes
module _ {A : Type 0} (p : A → Bool) (f : A → ℕ) where
  none-cons : (x : A) (xs : List A) (b : Bool) → p x ≡ b → (b || list_any p xs) ≡ false
      → (list_any p xs ≡ false → sum_by (λ y. cond (p y) (f y) 0) xs ≡ 0)
      → sum_by (λ y. cond (p y) (f y) 0) (x ∷ xs) ≡ 0
  none-cons x xs true t e ih = cc
  none-cons x xs false t e ih =
      let first : cond {A = ℕ} (p x) (f x) 0 ≡ 0 = ap (λ (b : Bool). cond {A = ℕ} b (f x) 0) t in
      omega (arith, sum_by-cons (λ (y : A). cond (p y) (f y) 0) x xs, first, ih e)

  pub none-sum : (xs : List A) → list_any p xs ≡ false → sum_by (λ y. cond (p y) (f y) 0) xs ≡ 0
  none-sum [] e = refl
  none-sum (x ∷ xs) e = none-cons x xs (p x) refl e (none-sum xs)

-- none that passes, where none is found
pub none-any : {A : Type 0} (p : A → Bool) (xs : List A) → find p xs ≡ None → list_any p xs ≡ false
none-any {A} p [] e = refl
none-any {A} p (x ∷ xs) e = by (p x) e (none-any p xs)
  where
    by : (b : Bool) → cond b (Some x) (find p xs) ≡ None
        → (find p xs ≡ None → list_any p xs ≡ false) → (b || list_any p xs) ≡ false
    by true h ih = cc
    by false h ih = ih h

abbrev is_crew : (t r : ℕ) → CrewJob → Bool
is_crew t r job = job.session == t && job.request == r

-- the job of a node that came back, which the workers have
pub record Held (asks : Asks) (out : List Job) (p : Parcel) : Type 0 where
  pub job : Job
  pub found : find (is_job p.session p.request) out ≡ Some job
  pub same : asked_job asks job ≡ job_of p

module _ (answer : ℕ → List ℕ → List ℕ) (asks : Asks) (out later : List CrewJob) (s : Timed)
    (p : Parcel) (alone : count_by (is_job p.session p.request) s.lists.jobs.out ≤ 1)
    (agree : Agree answer asks out s) (taken : IsPermutation out (job_of p ∷ later)) where
  abbrev jobs : List Job
  jobs = s.lists.jobs.out

  abbrev is : Job → Bool
  is = is_job p.session p.request

  own : is_crew p.session p.request (job_of p) ≡ true
  own = rw (eq-eqb p.session p.session refl, eq-eqb p.request p.request refl) refl

  -- the jobs of this request are counted with the parcel's
  at-least : (count : CrewJob → ℕ)
      → count (job_of p) ≤ sum_by (λ job. cond (is job) (count (asked_job asks job)) 0) jobs
  at-least count =
      let whole = agree.same (λ x. cond (is_crew p.session p.request x) (count x) 0) in
      let moved = sum_by-IsPermutation (λ (x : CrewJob). cond (is_crew p.session p.request x)
      (count x) 0)
      out (job_of p ∷ later) taken in
      let first = sum_by-cons (λ (x : CrewJob). cond (is_crew p.session p.request x) (count x) 0)
      (job_of p) later in
      let one : cond {A = ℕ} (is_crew p.session p.request (job_of p)) (count (job_of p)) 0
      ≡ count (job_of p) =
      ap (λ (b : Bool). cond {A = ℕ} b (count (job_of p)) 0) own in
      omega (arith, whole, moved, first, one)

  pub held : Held asks jobs p
  held = by (find is jobs) refl
    where
      by : (o : Option Job) → find is jobs ≡ o → Held asks jobs p
      by None e =
          let some = at-least (λ x. 1) in
          let none = none-sum is (λ (job : Job). 1) jobs (none-any is jobs e) in
          absurd (omega (arith, some, none))
      by (Some job) e =
          let less = sum-left is (λ (k : Job). cond (is k) 1 0) jobs job e in
          let passes : cond {A = ℕ} (is job) 1 0 ≡ 1 =
          ap (λ (b : Bool). cond {A = ℕ} b 1 0) (find-passes is jobs job e) in
          let none : list_any is (without_first is jobs) ≡ false =
          counted-none is (without_first is jobs) (omega (arith, less, passes, alone)) in
          record {
            job = job;
            found = e;
            same = sym (by-counts (job_of p) (asked_job asks job) (λ count.
                let some = at-least count in
                let one = sum-left is (λ (k : Job). cond (is k) (count (asked_job asks k)) 0) jobs
                job e in
                let rest = none-sum is (λ (k : Job). count (asked_job asks k)) (without_first is
                jobs) none in
                let here : cond {A = ℕ} (is job) (count (asked_job asks job)) 0
                ≡ count (asked_job asks job) =
                ap (λ (b : Bool). cond {A = ℕ} b (count (asked_job asks job)) 0)
                (find-passes is jobs job e) in
                omega (arith, some, one, rest, here)));
          }

  -- without it the workers have the others
  others-same : (count : CrewJob → ℕ)
      → sum_by (λ job. count (asked_job asks job)) (without_first is jobs) ≡ sum_by count later
  others-same count =
      let less = sum-left is (λ (k : Job). count (asked_job asks k)) jobs held.job held.found in
      let whole = agree.same count in
      let moved = sum_by-IsPermutation count out (job_of p ∷ later) taken in
      let first = sum_by-cons count (job_of p) later in
      let one : count (asked_job asks held.job) ≡ count (job_of p) = ap count held.same in
      omega (arith, less, whole, moved, first, one)

  own-ready : CanFinish answer asks held.job
  own-ready = found-holds is (CanFinish answer asks) jobs held.job agree.ready held.found

  -- what it asks are the parcel's bytes
  pub own-bytes : AsksOf p asks
  own-bytes =
      let own = whose-job p.session p.request held.job (find-passes is jobs held.job held.found) in
      ap₂ (λ (a b : ℕ). asks a b) (sym own.0) (sym own.1) ∙ ap (λ (x : CrewJob). x.ask) held.same

  module _ (right : IsAnswered answer p) where
    -- its answer is no longer than a message
    pub own-message : IsMessage (length (bytes_of p.out))
    own-message =
        let type : held.job.req_type ≡ p.req_type = ap (λ (x : CrewJob). x.req_type) held.same in
        let ask : asks held.job.session held.job.request ≡ bytes_of p.ask = ap (λ (x : CrewJob).
        x.ask) held.same in
        subst (λ (n : ℕ). IsMessage n) (ap length (ap₂ answer type ask ∙ sym right))
        own-ready

    module _ (room : replies s.lists.queued < s.lists.room) (t : Timed) (x : List Fact)
        (jobs-left : t.lists.jobs ≡ record s.lists.jobs { out = without_first is jobs })
        (step : FinishesWith p.session p.request (bytes_of p.out) (asking asks s) x (asking asks t))
      where
        job-asked : step.job ≡ with_ask asks held.job
        job-asked =
            let there : find is (map (with_ask asks) jobs) ≡ Some (with_ask asks held.job) =
            find-shown (with_ask asks) is jobs ∙ ap (option_map (with_ask asks)) held.found in
            let both : Some step.job ≡ Some (with_ask asks held.job) = sym step.is_out ∙ there in
            cc

        answer-is : answer step.job.req_type step.job.ask ≡ bytes_of p.out
        answer-is =
            let type : step.job.req_type ≡ p.req_type =
            ap (λ (j : Job). j.req_type) job-asked ∙ ap (λ (x : CrewJob). x.req_type) held.same in
            let ask : step.job.ask ≡ bytes_of p.ask =
            ap (λ (j : Job). j.ask) job-asked ∙ ap (λ (x : CrewJob). x.ask) held.same in
            ap₂ answer type ask ∙ sym right

        finishes-by : FinishesBy answer p.session p.request (asking asks s) x (asking asks t)
        finishes-by = record {
          room = room;
          job = step.job;
          is_out = step.is_out;
          facts = step.facts
              ∙ ap (λ (bytes : List ℕ). finished_facts bytes (asking asks s).lists step.job) (sym
              answer-is);
          goes = step.goes;
        }

        agree-left : Agree answer asks later t
        agree-left = record {
          same = λ count.
              ap (λ (js : Jobs). sum_by (λ job. count (asked_job asks job)) js.out) jobs-left ∙
              others-same count;
          ready = rw jobs-left (all-left is (CanFinish answer asks) jobs agree.ready);
        }

        pub one-taken : (worked rest : Option (List Parcel))
            → worked ≡ option_map (λ ps. p ∷ ps) rest
            → FinishesTaken answer later worked rest asks s x t
        one-taken worked rest first = record {
          parcels = p ∷ [];
          answered = (right, tt);
          finishes = record {
            between = asking asks t;
            front = x;
            back = [];
            joined = sym (append-nil x);
            first = finishes-by;
            second = (refl, refl);
          };
          first = first;
          left = jobs-left;
          agree = agree-left;
        }

-- what was taken first stays first
taken-none : (worked rest : Option (List Parcel)) → TakesFirst worked rest None
    → worked ≡ option_map (λ ps. [] ++ ps) rest
taken-none None rest h = rw h refl
taken-none (Some []) rest h = rw h.1 refl
taken-none (Some (p ∷ ps)) rest h =
    let first : Finished = record { parcel = p; worked = true } in
    let clash : None ≡ Some first = h.0 in
    cc

taken-one : (worked rest : Option (List Parcel)) (f : Finished) → TakesFirst worked rest (Some f)
    → worked ≡ option_map (λ ps. f.parcel ∷ ps) rest
taken-one None rest f h = rw h refl
taken-one (Some []) rest f h = let clash : Some f ≡ None = h.0 in cc
taken-one (Some (p ∷ ps)) rest f h =
    let both : Some f ≡ Some (record { parcel = p; worked = true }) = h.0 in
    let same : f ≡ record { parcel = p; worked = true } = cc in
    rw (same, h.1) refl

taken-then : (a b : List Parcel) (o : Option (List Parcel))
    → option_map (λ ps. a ++ ps) (option_map (λ ps. b ++ ps) o) ≡ option_map (λ ps. (a ++ b) ++ ps)
    o
taken-then a b None = refl
taken-then a b (Some ps) = ap Some (sym (append_assoc a b ps))

-- one after another
these-then : (answer : ℕ → List ℕ → List ℕ) (a b : List Parcel) (s t u : Timed) (x y : List Fact)
    → FinishesThese answer a s x t → FinishesThese answer b t y u
    → FinishesThese answer (a ++ b) s (x ++ y) u
these-then answer [] b s t u x y h k = rw h.0 (subst (λ (z : Timed). FinishesThese answer b z y u)
    h.1 k)
these-then answer (p ∷ a) b s t u x y h k = record {
  between = h.between;
  front = h.front;
  back = h.back ++ y;
  joined = rw h.joined (append_assoc h.front h.back y);
  first = h.first;
  second = these-then answer a b h.between t u h.back y h.second k;
}

-- the jobs that are left
jobs-then : (a b : List Parcel) (out : List Job)
    → jobs_left b (jobs_left a out) ≡ jobs_left (a ++ b) out
jobs-then [] b out = refl
jobs-then (p ∷ a) b out = jobs-then a b (without_first (is_job p.session p.request) out)

left-then : (a b : List Parcel) (x y z : Jobs) → y ≡ record x { out = jobs_left a x.out }
    → z ≡ record y { out = jobs_left b y.out } → z ≡ record x { out = jobs_left (a ++ b) x.out }
left-then a b x y z one two =
    two ∙ ap (λ (js : Jobs). record js { out = jobs_left b js.out }) one
    ∙ ap (λ (out : List Job). record x { out = out }) (jobs-then a b x.out)

module _ {R : Type 0} (log : R → Log)
    (answer : ℕ → List ℕ → List ℕ) where
  pub finished-none : (out later : List CrewJob) (worked rest : Option (List Parcel)) (a : Timed)
      (f : R) → later ≡ out → TakesFirst worked rest None
      → MakesFinished log answer (out ⟶ later) (worked ⟶ rest) (a ⟶ a) (f ⟶ f)
  finished-none out later worked rest a f same first = record {
    noted = [];
    grew = grew-none log f;
    step = λ asks agree. record {
      parcels = [];
      answered = tt;
      finishes = (refl, refl);
      first = taken-none worked rest first;
      left = refl;
      agree = rw same agree;
    };
  }

  pub finished-still : (out : List CrewJob) (worked : Option (List Parcel)) (a : Timed) (f : R)
      → MakesFinished log answer (out ⟶ out) (worked ⟶ worked) (a ⟶ a) (f ⟶ f)
  finished-still out worked a f = record {
    noted = [];
    grew = grew-none log f;
    step = λ asks agree. record {
      parcels = [];
      answered = tt;
      finishes = (refl, refl);
      first = same worked;
      left = refl;
      agree = agree;
    };
  }
    where
      same : (o : Option (List Parcel)) → o ≡ option_map (λ ps. [] ++ ps) o
      same None = refl
      same (Some ps) = refl

  pub finished-then : (k l m : List CrewJob) (u v w : Option (List Parcel)) (a b c : Timed)
      (f g h : R) → MakesFinished log answer (k ⟶ l) (u ⟶ v) (a ⟶ b) (f ⟶ g)
      → MakesFinished log answer (l ⟶ m) (v ⟶ w) (b ⟶ c) (g ⟶ h)
      → MakesFinished log answer (k ⟶ m) (u ⟶ w) (a ⟶ c) (f ⟶ h)
  finished-then k l m u v w a b c f g h p q = record {
    noted = p.noted ++ q.noted;
    grew = grew-then log f g h p.noted q.noted p.grew q.grew;
    step = λ asks agree.
        let one = p.step asks agree in
        let two = q.step asks one.agree in
        record {
          parcels = one.parcels ++ two.parcels;
          answered = all-both (IsAnswered answer) one.parcels two.parcels one.answered
              two.answered;
          finishes = these-then answer one.parcels two.parcels (asking asks a) (asking asks b)
              (asking asks c) p.noted q.noted one.finishes two.finishes;
          first = one.first ∙ ap (option_map (λ ps. one.parcels ++ ps)) two.first
              ∙ taken-then one.parcels two.parcels w;
          left = left-then one.parcels two.parcels a.lists.jobs b.lists.jobs c.lists.jobs one.left
              two.left;
          agree = two.agree;
        };
  }

  -- a turn of a node: what came back is the job of a parcel, with its answer
  module _ (out later : List CrewJob) (worked rest : Option (List Parcel)) (f : Finished) (a :
      Timed)
      (kept : Kept a.lists) (taken : IsPermutation out (job_of f.parcel ∷ later))
      (right : IsAnswered answer f.parcel) (first : TakesFirst worked rest (Some f)) where
    alone : count_by (is_job f.parcel.session f.parcel.request) a.lists.jobs.out ≤ 1
    alone = omega (arith, kept.valid.runs f.parcel.session f.parcel.request)

    pub finished-long : (before : R) → (IsMessage (length (bytes_of f.parcel.out)) → ⊥)
        → MakesFinished log answer (out ⟶ later) (worked ⟶ rest) (a ⟶ a) (before ⟶ before)
    finished-long before long = record {
      noted = [];
      grew = grew-none log before;
      step = λ asks agree.
          absurd (long (own-message answer asks out later a f.parcel alone agree taken right));
    }

    finished-missing : (b : Timed) (before now : R) → b ≡ a → now ≡ before
        → find (is_job f.parcel.session f.parcel.request) a.lists.jobs.out ≡ None
        → MakesFinished log answer (out ⟶ later) (worked ⟶ rest) (a ⟶ b) (before ⟶ now)
    finished-missing b before now same none missing = record {
      noted = [];
      grew = rw none (grew-none log before);
      step = λ asks agree.
          let there = (held answer asks out later a f.parcel alone agree taken).found in
          let clash : None ≡ Some (held answer asks out later a f.parcel alone agree taken).job =
          sym missing ∙ there in
          cc;
    }

    pub finished-turn : (b : Timed) (before now : R) (went : Bool)
        → replies a.lists.queued < a.lists.room
        → (went ≡ true → MakesWhere log (AsksOf f.parcel)
        (FinishesWith f.parcel.session f.parcel.request (bytes_of f.parcel.out)) a b before now)
        → (went ≡ true → b.lists.jobs ≡ record a.lists.jobs {
          out = without_first (is_job f.parcel.session f.parcel.request) a.lists.jobs.out;
        })
        → (went ≡ false → (b ≡ a) × (now ≡ before)
        × (find (is_job f.parcel.session f.parcel.request) a.lists.jobs.out ≡ None))
        → MakesFinished log answer (out ⟶ later) (worked ⟶ rest) (a ⟶ b) (before ⟶ now)
    finished-turn b before now true room done names none =
        let made = done refl in
        record {
          noted = made.noted;
          grew = made.grew;
          step = λ asks agree.
              one-taken answer asks out later a f.parcel alone agree taken right room b made.noted
              (names refl) (made.step asks (own-bytes answer asks out later a f.parcel alone agree
              taken))
              worked rest (taken-one worked rest f first);
        }
    finished-turn b before now false room done names none =
        let same = none refl in finished-missing b before now same.0 same.1 same.2

pub one-less : (out later : List CrewJob) (x : CrewJob) → IsPermutation out (x ∷ later)
    → length later < length out
one-less out later x taken = omega (arith, length_permutation out (x ∷ later) taken)

-- jobs come back one after another
module _ {R W : Type 0} (log : R → Log) (w : Workers.Ghosts W) where
  pub steps-jobs-none : (a : Holding) (f : R) (x : W)
      → StepsJobs log w (a ⟶ a) (f ⟶ f) (x ⟶ x)
  steps-jobs-none a f x = record {
    makes = finished-still log w.answer (w.out x) (w.worked x) (timed_of a) f;
    rest = record {
      clients = refl;
      served = λ mode served. served;
      background = λ mode all. all;
      handed = refl;
    };
    waiting = refl;
    given = refl;
    limit = refl;
    looks = omega arith;
    team = refl;
  }

  pub steps-jobs-then : (a b c : Holding) (f g h : R) (x y z : W)
      → StepsJobs log w (a ⟶ b) (f ⟶ g) (x ⟶ y) → StepsJobs log w (b ⟶ c) (g ⟶ h) (y ⟶ z)
      → StepsJobs log w (a ⟶ c) (f ⟶ h) (x ⟶ z)
  steps-jobs-then a b c f g h x y z p q = record {
    makes = finished-then log w.answer (w.out x) (w.out y) (w.out z) (w.worked x) (w.worked y)
        (w.worked z) (timed_of a) (timed_of b) (timed_of c) f g h p.makes q.makes;
    rest = record {
      clients = q.rest.clients ∙ p.rest.clients;
      served = λ mode served. q.rest.served mode (p.rest.served mode served);
      background = λ mode all. q.rest.background mode (p.rest.background mode all);
      handed = q.rest.handed ∙ p.rest.handed;
    };
    waiting = q.waiting ∙ p.waiting;
    given = q.given ∙ p.given;
    limit = q.limit ∙ p.limit;
    looks = omega (arith, p.looks, q.looks);
    team = q.team ∙ p.team;
  }

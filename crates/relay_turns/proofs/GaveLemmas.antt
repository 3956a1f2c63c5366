-- What a turn of the endpoint gives its desk: the jobs of its Given facts, with what these ask.
use Rattle.std.proofs.Common.{◌≡◌, ℕ, ◌+◌, ◌≤◌, Bool, true, false, cond, Option, Some, List, []}
use Rattle.std.proofs.Common.{◌∷◌, ◌++◌, length, map, refl, sym, ap, ap₂, subst, ◌∙◌, arith}
use Rattle.std.proofs.Common.{append_assoc, length-append, ltb}
use Rattle.std.specs.Prelude.{count_by, ◌&&◌, sum, sum_by}
use Rattle.std.specs.Option.{option_or}
use Rattle.std.specs.List.{find}
use Rattle.std.proofs.lemmas.List.{length-map, map-append}
use Rattle.std.proofs.lemmas.List.Folds.{find-append}
use Rattle.std.proofs.lemmas.Bool.{eq-eqb}
use Rattle.std.proofs.lemmas.List.Sums.{sum-map, sum_by-append, sum_by-cons}
use Rattle.std.proofs.lemmas.Simd.{map-map}
use Rattle.deferred_calls.specs.Desks.{hands_of, Jobs, open_of, out_of}
use Rattle.desk_laws.specs.Staying.{desk_members}
use Rattle.endpoint_loop.specs.Endpoints.{asked_in as ask_in, asks_of, crew_of, is_job_of, Running}
use Rattle.endpoint_loop.specs.Polls.{is_stopped, PollsWith}
use Rattle.endpoint_loop.specs.Stands.{StandsFor}
use Rattle.endpoint_loop.specs.Turns.{DeliversAll}
use Rattle.endpoint_loop.specs.declared.endpoint.poll.Turn.{Turn}
use Rattle.node_steps.specs.Changes.{Change}
use Rattle.node_steps.specs.Jobs.{jobs_left}
use Rattle.node_steps.specs.Requests.{job_named}
use Rattle.node_steps.specs.Seen.{with_ask}
use Rattle.given_laws.proofs.GivenLemmas.{counts-given, given-append, keeps-limit, polls-given}
use Rattle.given_laws.specs.Given.{given_by, given_in, name_of}
use Rattle.node_laws.proofs.Allowed.{Leads}
use Rattle.node_laws.proofs.RunLaws.{run_leads, run_valid}
use Rattle.relay_turns.specs.Turning.{AreOut, job_out}
use Rattle.relays.specs.Relaying.{GoesOn}
use Rattle.rpc_base.proofs.ChangedLemmas.{none-counted}
use Rattle.rpc_base.specs.declared.event.Event.TheVariants.{Arrived, Bad, Overflowed}
use Rattle.rpc_base.specs.declared.fact.Fact.{Fact}
use Rattle.rpc_base.specs.declared.limits.Limits.{Limits}
use Rattle.rpc_laws.specs.Deliveries.{inbox_room}
use Rattle.rpc_laws.specs.Front.{is_control, is_message}
use Rattle.rpc_laws.specs.Jobs.{is_job}
use Rattle.rpc_laws.specs.NodeLists.{after, new_lists}
use Rattle.rpc_laws.specs.Service.{rules_of}
use Rattle.rpc_laws.specs.declared.tables.Job.{Job}
use Rattle.rpc_laws.specs.declared.tables.Lists.{Lists}
use Rattle.rpc_laws.specs.declared.tables.Timed.{Timed}
use Rattle.rpc_outside.specs.Linking.{Carried}
use Rattle.rpc_outside.specs.declared.service.Service as Service
use Rattle.rpc_turns.proofs.TurnLemmas.{between-stands}
use Rattle.rpc_turns.specs.Moments.{Moment, Outside, Rested}
use Rattle.rpc_turns.specs.Queue.{KeepsAll}
use Rattle.rpc_turns.specs.Turns.{Stands, TakesTurn}
use Rattle.rpc_turns.specs.declared.ended.Ended.{Ended}
use Rattle.worker_board.specs.declared.Parcel.{Parcel}
use Rattle.worker_crew.specs.Jobs.{Job as CrewJob, job_of}

-- how many jobs lists count as given, and how many may be out, by the facts that lead to them
leads-given : (s : Lists) (g : List Fact) (t : Lists) → Leads s g t
    → t.jobs.given ≡ s.jobs.given + length (given_in g)
leads-given s [] t h = let same = ap (λ (l : Lists). l.jobs.given) h in omega (arith, same)
leads-given s (f ∷ g) t h =
    let one : (after h.0 s f).jobs.given ≡ s.jobs.given + length (given_by f.event ++ []) =
    counts-given h.0 s (f ∷ []) in
    let rest : t.jobs.given ≡ (after h.0 s f).jobs.given + length (given_in g) =
    leads-given (after h.0 s f) g t h.2 in
    omega (
      arith,
      one,
      rest,
      length-append (given_by f.event) (given_in g),
      length-append {A = ℕ × ℕ} (given_by f.event) [],
    )

leads-limit : (s : Lists) (g : List Fact) (t : Lists) → Leads s g t → t.jobs.limit ≡ s.jobs.limit
leads-limit s [] t h = ap (λ (l : Lists). l.jobs.limit) h
leads-limit s (f ∷ g) t h =
    leads-limit (after h.0 s f) g t h.2 ∙ keeps-limit h.0 s (f ∷ [])

-- a desk by what its endpoint stands for
module _ {V : Type 0} (service : Service.Ghosts V) (answer : ℕ → List ℕ → List ℕ) (limits : Limits)
    (g : List Fact) (e : Running V Jobs) (s : StandsFor service (desk_members answer) limits g e)
  where
    desk-given : e.workers.given ≡ length (given_in g)
    desk-given =
        let staff : e.workers.given ≡ e.timed.lists.jobs.given = s.staffed.given_is in
        let led : e.timed.lists.jobs.given ≡ 0 + length (given_in g) =
        leads-given (new_lists e.timed.lists.me e.timed.lists.life limits) g _ (run_leads s.run) in
        omega (arith, staff, led)

    desk-limit : e.workers.limit ≡ limits.jobs
    desk-limit = s.staffed.limit_is
        ∙ leads-limit (new_lists e.timed.lists.me e.timed.lists.life limits) g _ (run_leads s.run)

    -- no request has two jobs at the workers
    alone-out : (t r : ℕ) → count_by (is_job_of t r) (out_of e.workers) ≤ 1
    alone-out t r =
        let told_once = (run_valid s.run).runs t r in
        let same = s.staffed.agree.same (λ x. cond (is_job_of t r x) 1 0) in
        let one : Job → ℕ = λ j. cond (is_job t r j) 1 0 in
        let asked : Job → Job = with_ask (asks_of (out_of e.workers)) in
        let as_asked : sum_by one (map asked e.timed.lists.jobs.out)
        ≡ sum_by one e.timed.lists.jobs.out =
        sym (sum-map one (map asked e.timed.lists.jobs.out))
        ∙ (ap sum (map-map one asked e.timed.lists.jobs.out)
        ∙ sum-map one e.timed.lists.jobs.out) in
        omega (arith, told_once, same, as_asked)

-- a delivery gives no job
arrived-gives : (b : Bool) (peer : ℕ) → given_by (cond b (Arrived peer) (Overflowed peer)) ≡ []
arrived-gives true peer = refl
arrived-gives false peer = refl

delivery-gives : (a b c d : Bool) (peer : ℕ)
    → given_by (cond a (cond c (Arrived peer) (Overflowed peer))
    (cond b (cond d (Arrived peer) (Overflowed peer)) (Bad peer))) ≡ []
delivery-gives true b c d peer = arrived-gives c peer
delivery-gives false true c d peer = arrived-gives d peer
delivery-gives false false c d peer = refl

none-delivered : (came : List Carried) (s : Timed) (x : List Fact) (t : Timed)
    → DeliversAll came s x t → given_in x ≡ []
none-delivered [] s x t h = ap given_in h.0
none-delivered (d ∷ ds) s x t h =
    ap given_in h.joined ∙ (given-append h.front h.back
    ∙ ap₂ (λ (a b : List (ℕ × ℕ)). a ++ b) first (none-delivered ds h.between h.back t h.second))
  where
    first : given_in h.front ≡ []
    first = ap given_in h.first.facts
        ∙ ap (λ (l : List (ℕ × ℕ)). l ++ [])
        (delivery-gives (is_message d.1) (is_control d.1) (ltb (length s.lists.ring) s.lists.room)
        (ltb (length s.lists.inbox) inbox_room) d.0)

-- what the workers have of a job is what it asks, where it is the only one of its request
abbrev one_if : (CrewJob → Bool) → CrewJob → ℕ
one_if q x = cond (q x) 1 0

alone-found : (q : CrewJob → Bool) (front back : List CrewJob) (x : CrewJob) → q x ≡ true
    → count_by q (front ++ x ∷ back) ≤ 1 → find q (front ++ x ∷ back) ≡ Some x
alone-found q front back x is once =
    find-append q front (x ∷ back)
    ∙ (ap (λ (o : Option CrewJob). option_or o (find q (x ∷ back)))
    (none-counted q x q front none)
    ∙ ap (λ (b : Bool). cond b (Some x) (find q back)) is)
  where
    here : one_if q x ≡ 1
    here = ap (λ (b : Bool). cond {A = ℕ} b 1 0) is

    none : count_by q front ≡ 0
    none = omega (
      arith,
      once,
      sum_by-append (one_if q) front (x ∷ back),
      sum_by-cons (one_if q) x back,
      here,
    )

own-asked : (out front : List CrewJob) (gave : List Parcel) (back : List CrewJob)
    → out ≡ front ++ (map job_of gave ++ back)
    → ((t r : ℕ) → count_by (is_job_of t r) out ≤ 1)
    → map (with_ask (asks_of out)) (map job_named gave) ≡ map job_out gave
own-asked out front [] back same once = refl
own-asked out front (p ∷ ps) back same once =
    ap₂ (λ (j : Job) (js : List Job). j ∷ js) own
    (own-asked out (front ++ job_of p ∷ []) ps back
    (same ∙ sym (append_assoc front (job_of p ∷ []) (map job_of ps ++ back))) once)
  where
    q : CrewJob → Bool
    q = is_job_of p.session p.request

    found : find q out ≡ Some (job_of p)
    found =
        ap (find q) same
        ∙ alone-found q front (map job_of ps ++ back) (job_of p)
        (ap₂ (λ (a b : Bool). a && b) (eq-eqb p.session p.session refl)
        (eq-eqb p.request p.request refl))
        (subst (λ (l : List CrewJob). count_by q l ≤ 1) same (once p.session p.request))

    own : with_ask (asks_of out) (job_named p) ≡ job_out p
    own = ap (λ (o : Option CrewJob). with_ask (λ t r. ask_in o) (job_named p)) found

-- a turn of an endpoint over a desk
module _ {V L C R : Type 0} (service : Service.Ghosts V) (answer : ℕ → List ℕ → List ℕ)
    (o : Outside L C R) (turn : Option Turn) (old new : Moment (Rested V Jobs) L C R)
    (from to : Ended) (memory : Change ℕ)
    (h : TakesTurn service (desk_members answer) o KeepsAll turn old new from to memory)
    (limits : Limits)
    (past : List Fact)
    (s : Stands service (desk_members answer) limits past old.run.endpoint) where
  abbrev desk : Jobs
  desk = old.run.endpoint.workers

  abbrev mid : Running V Jobs
  mid = new.run.endpoint

  abbrev first : List Fact
  first = h.turns.takes.delivers.noted

  abbrev second : List Fact
  second = h.turns.polls.noted

  midst : Stands service (desk_members answer) limits (past ++ first) h.turns.between
  midst = between-stands service (desk_members answer) o KeepsAll turn old new from to memory h limits
      past s

  same-desk : h.turns.between.workers ≡ desk
  same-desk = h.turns.takes.leaves.workers

  abbrev At : Timed → List Fact → Timed → Type 0
  At = PollsWith (rules_of service) answer (is_stopped h.turns.polled) h.now
      (crew_of (desk_members answer) h.turns.between.workers)
      (crew_of (desk_members answer) mid.workers)

  pub polls : At h.turns.between.timed second mid.timed
  polls = (h.turns.polls.does midst.runs.staffed).0

  pub given-of : given_in (first ++ second) ≡ map name_of polls.gave
  given-of =
      given-append first second
      ∙ (ap (λ (l : List (ℕ × ℕ)). l ++ given_in second)
      (none-delivered h.turns.came _ first _
      (h.turns.takes.delivers.step (asks_of (out_of desk))))
      ∙ polls-given (rules_of service) answer (is_stopped h.turns.polled) h.now
      (crew_of (desk_members answer) h.turns.between.workers)
      (crew_of (desk_members answer) mid.workers) h.turns.between.timed second mid.timed
      (run_valid midst.runs.run) polls)

  -- the jobs that aren't answered
  more-open : open_of mid.workers ≡ open_of desk ++ polls.gave
  more-open =
      let told : Some (open_of mid.workers) ≡ Some (open_of h.turns.between.workers ++ polls.gave) =
      polls.waits in
      let same : open_of mid.workers ≡ open_of h.turns.between.workers ++ polls.gave = cc in
      same ∙ ap (λ (d : Jobs). open_of d ++ polls.gave) same-desk

  pub took : desk.answered ≡ polls.parcels ++ mid.workers.answered
  took =
      let told : Some h.turns.between.workers.answered
      ≡ Some (polls.parcels ++ mid.workers.answered) = polls.first in
      let same : h.turns.between.workers.answered
      ≡ polls.parcels ++ mid.workers.answered = cc in
      ap (λ (d : Jobs). d.answered) (sym same-desk) ∙ same

  module _ (then_stands : Stands service (desk_members answer) limits
      (past ++ (first ++ second)) mid)
    where
      pub goes-of : Some (hands_of mid.workers) ≡ Some (hands_of desk)
          → GoesOn polls.gave desk mid.workers
      goes-of team = record {
        left = more-open;
        hands = cc;
        given =
            let before = desk-given service answer limits past old.run.endpoint s.runs in
            let after : mid.workers.given ≡ length (given_in (past ++ (first ++ second))) =
            desk-given service answer limits (past ++ (first ++ second)) mid then_stands.runs in
            omega (
              arith,
              before,
              after,
              ap length (given-append past (first ++ second)),
              length-append (given_in past) (given_in (first ++ second)),
              ap length given-of,
              length-map polls.gave name_of,
            );
        limit = desk-limit service answer limits (past ++ (first ++ second)) mid then_stands.runs
            ∙ sym (desk-limit service answer limits past old.run.endpoint s.runs);
      }

      pub out-of : AreOut polls.gave mid
      out-of = record {
        others = map (with_ask (asks_of (out_of mid.workers)))
            (jobs_left polls.parcels h.turns.between.timed.lists.jobs.out);
        out = ap (map (with_ask (asks_of (out_of mid.workers)))) polls.jobs
            ∙ (map-append (with_ask (asks_of (out_of mid.workers)))
            (jobs_left polls.parcels h.turns.between.timed.lists.jobs.out)
            (map job_named polls.gave)
            ∙ ap (λ (l : List Job). map (with_ask (asks_of (out_of mid.workers)))
            (jobs_left polls.parcels h.turns.between.timed.lists.jobs.out) ++ l)
            (own-asked (out_of mid.workers) (map job_of (open_of desk)) polls.gave
            (map job_of mid.workers.answered) in-order
            (alone-out service answer limits (past ++ (first ++ second)) mid then_stands.runs)));
      }
        where
          in-order : out_of mid.workers
              ≡ map job_of (open_of desk)
              ++ (map job_of polls.gave ++ map job_of mid.workers.answered)
          in-order =
              ap (λ (l : List Parcel). map job_of (l ++ mid.workers.answered)) more-open
              ∙ (ap (map job_of) (append_assoc (open_of desk) polls.gave mid.workers.answered)
              ∙ (map-append job_of (open_of desk) (polls.gave ++ mid.workers.answered)
              ∙ ap (λ (l : List CrewJob). map job_of (open_of desk) ++ l)
              (map-append job_of polls.gave mid.workers.answered)))

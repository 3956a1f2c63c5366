-- A poll of an endpoint, as what a script did.
use Rattle.std.proofs.Common.{◌≡◌, ℕ, ◌≤◌, ◌⊎◌, inl, inr, Bool, true, false, Some}
use Rattle.std.proofs.Common.{List, [], ◌∷◌, ◌++◌, map, length, refl, sym, ap, ap₂, subst, ◌∙◌, arith}
use Rattle.std.proofs.Common.{append-nil, append_assoc}
use Rattle.std.specs.Prelude.{option_map, slice_get, slice_set}
use Rattle.std.proofs.lemmas.List.{map-append}
use Rattle.std.proofs.lemmas.Simd.{map-map}
use Rattle.end_laws.proofs.OwnFacts.{poll-own}
use Rattle.node_steps.specs.Jobs.{FinishesThese, NoneBack, jobs_left}
use Rattle.node_steps.specs.Notes.{sent_by, sent_of}
use Rattle.endpoint_loop.specs.Polls.{FinishesBack, PollsWith as EndPolls, SendsUntil}
use Rattle.endpoint_loop.specs.Endpoints.{crew_of}
use Rattle.node_steps.specs.Seen.{Asks, with_ask}
use Rattle.node_steps.specs.Requests.{job_named}
use Rattle.node_laws.specs.Kept.{Kept}
use Rattle.network_model.specs.Sending.{copy_from}
use Rattle.rpc_base.specs.declared.event.Event.{Event}
use Rattle.rpc_base.specs.declared.event.Event.TheVariants.{Sent}
use Rattle.rpc_base.specs.declared.fact.Fact.{Fact}
use Rattle.rpc_laws.proofs.PollLemmas.{poll-within}
use Rattle.rpc_laws.specs.declared.tables.InFlight.{InFlight}
use Rattle.rpc_laws.specs.declared.tables.Job.{Job}
use Rattle.rpc_laws.specs.InFlight.{flight_after, flight_after_all, flight_after_node}
use Rattle.rpc_laws.specs.declared.tables.Timed.{Timed}
use Rattle.rpc_laws.specs.declared.tables.WorkedJob.{WorkedJob}
use Rattle.rpc_base.specs.Tables.{without_first}
use Rattle.rpc_laws.specs.ControlSteps.{HearsAll, TimesAll}
use Rattle.rpc_laws.specs.Jobs.{is_job}
use Rattle.rpc_outside.specs.declared.service.Mode.{Mode}
use Rattle.rpc_laws.specs.PollOrder.{Closes, HandlesAll, PollBy, PostsAll, SendsAll, raised}
use Rattle.rpc_laws.specs.Queues.{replies}
use Rattle.rpc_laws.specs.Service.{plain_serving}
use Rattle.rpc_laws.specs.Steps.{Rel, Then}
use Rattle.rpc_laws.specs.Working.{FinishesEach, FinishesWorked, worked_after_all}
use Rattle.memory_count.specs.Faults.{HasRisen}
use Rattle.rpc_outside.specs.Linking.{Carried}
use Rattle.rpc_outside.specs.PlainAnswer.{background_answer, plain_mode}
use Rattle.sim_script.specs.FollowsScript.{AtNode, PollsNode}
use Rattle.rpc_world.specs.Answered.{End, Play, ServesAll, Whole, stage_of, told_end}
use Rattle.rpc_world.specs.Before.{AllPlay, IsPlaying, local_members}
use Rattle.rpc_world.specs.Performed.{Performed}
use Rattle.rpc_world.proofs.EndLemmas.{staffed-has, valid-told}
use Rattle.rpc_world.proofs.PlainLemmas.{AllOf, all-owned, plainly-served}
use Rattle.rpc_world.proofs.StepLemmas.{NodeStep, performed-as, stepped_play}
use Rattle.work_laws.proofs.NameLemmas.{out-names}
use Rattle.work_laws.proofs.PollLaws.{polls-known}
use Rattle.work_laws.specs.Known.{FinishesFirst, job_name, left_names, worked_as}
use Rattle.work_laws.specs.Laws.{PollsKnown, PollsWith}
use Rattle.worker_board.specs.declared.Parcel.{Parcel}

-- an endpoint of the world has its jobs, where the world was taken apart
pub plays-at : (m : ℕ) (z s : Play) (e : End) → z ≡ s → AllPlay s → slice_get z.ends m ≡ Some e
    → IsPlaying s.worked m e
plays-at m z s e view all at = all.each m e (ap (λ (y : Play). slice_get y.ends m) (sym view) ∙ at)

-- a link that is never busy doesn't stop the sending, where it doesn't fail
pub never-busy : (b : Bool) → (b ≡ true → HasRisen 0 0) → b ≡ false
never-busy true h = let risen = h refl in absurd (omega (arith, risen.rose))
never-busy false h = refl

-- a link by which nothing was sent before
pub sent-all : (a b x : List Carried) → Some b ≡ option_map (λ ds. ds ++ x) (Some a) → a ≡ []
    → b ≡ x
sent-all a b x h none =
    let same : b ≡ a ++ x = cc in same ∙ ap (λ ds. ds ++ x) none

-- what a node sends stands behind what was in flight
sent-one : (n : ℕ) (e : Event) (first second : List ℕ) (f : List InFlight)
    → flight_after_node n e first second f ≡ f ++ map (copy_from n) (sent_by e first second)
sent-one n (Sent peer owner k) first second f = refl
sent-one n _ first second f = sym (append-nil f)

pub sent-flight : (n : ℕ) (x : List Fact) (f : List InFlight) → AllOf n x
    → flight_after_all f x ≡ f ++ map (copy_from n) (sent_of x)
sent-flight n [] f own = sym (append-nil f)
sent-flight n (g ∷ x) f own =
    let one : flight_after f g
    ≡ f ++ map (copy_from n) (sent_by g.event g.first g.second) =
    ap (λ who. flight_after f (record g { who = who })) own.0 ∙ sent-one n g.event g.first g.second f in
    sent-flight n x (flight_after f g) own.1
    ∙ ap (λ c. c ++ map (copy_from n) (sent_of x)) one
    ∙ append_assoc f (map (copy_from n) (sent_by g.event g.first g.second))
    (map (copy_from n) (sent_of x))
    ∙ ap (λ c. f ++ c) (sym (map-append (copy_from n) (sent_by g.event g.first g.second) (sent_of x)))

-- the jobs that came back
finishes-each : (answer : ℕ → List ℕ → List ℕ) (me : ℕ) (ps : List Parcel) (s : Timed) (x : List Fact) (t : Timed)
    → FinishesThese answer ps s x t → FinishesEach (map (worked_as me) ps) s x t
finishes-each answer me [] s x t h = h
finishes-each answer me (p ∷ ps) s x t h = record {
  between = h.between;
  front = h.front;
  back = h.back;
  joined = h.joined;
  first = record {
    room = h.first.room;
    job = h.first.job;
    is_out = h.first.is_out;
    answer = answer h.first.job.req_type h.first.job.ask;
    facts = h.first.facts;
    goes = h.first.goes;
  };
  second = finishes-each answer me ps h.between h.back t h.second;
}

over-as : (ps : List Parcel) (out before now : ℕ) (room : Type 0) → room ⊎ NoneBack (Some ps) out before now
    → (ps ≡ []) ⊎ room
over-as ps out before now room (inl o) = inr o
over-as ps out before now room (inr h) = inl h.0

left-names : (ps : List Parcel) (out : List Job) → map job_name (jobs_left ps out) ≡ left_names ps (map job_name out)
left-names [] out = refl
left-names (p ∷ ps) out =
    left-names ps (without_first (is_job p.session p.request) out)
    ∙ ap (left_names ps) (out-names p.session p.request out)

asked-names : (asks : Asks) (out : List Job) → map job_name (map (with_ask asks) out) ≡ map job_name out
asked-names asks out = map-map job_name (with_ask asks) out

then-as : (P Q R S : Rel) (s : Timed) (x : List Fact) (t : Timed)
    → ((s : Timed) (x : List Fact) (t : Timed) → P s x t → Q s x t)
    → ((s : Timed) (x : List Fact) (t : Timed) → R s x t → S s x t) → Then P R s x t → Then Q S s x t
then-as P Q R S s x t f g h = record {
  between = h.between;
  front = h.front;
  back = h.back;
  joined = h.joined;
  first = f s h.front h.between h.first;
  second = g h.between h.back t h.second;
}

same : (P : Rel) (s : Timed) (x : List Fact) (t : Timed) → P s x t → P s x t
same P s x t h = h

poll-as : (P Q R S : Rel) (mode : ℕ → Mode) (now : ℕ) (s : Timed) (x : List Fact) (t : Timed)
    → ((s : Timed) (x : List Fact) (t : Timed) → P s x t → Q s x t)
    → ((s : Timed) (x : List Fact) (t : Timed) → R s x t → S s x t)
    → PollBy P R mode now s x t → PollBy Q S mode now s x t
poll-as P Q R S mode now s x t f g h =
    then-as P Q _ _ (raised now s) x t f (λ a y b k. then-as HearsAll HearsAll _ _ a y b (same HearsAll)
    (λ a y b k. then-as (HandlesAll mode) (HandlesAll mode) _ _ a y b (same (HandlesAll mode))
    (λ a y b k. then-as TimesAll TimesAll _ _ a y b (same TimesAll)
    (λ a y b k. then-as PostsAll PostsAll _ _ a y b (same PostsAll)
    (λ a y b k. then-as R S Closes Closes a y b g (same Closes) k) k) k) k) k) h

sends-as : (b : Bool) (s : Timed) (x : List Fact) (t : Timed) → b ≡ false → SendsUntil b s x t → SendsAll s x t
sends-as true s x t e h = cc
sends-as false s x t e h = h

module _ (n now : ℕ) (worked : List WorkedJob) (e new : End) (x : List Fact) (stopped : Bool)
    (k : Kept e.timed.lists) (goes_on : stopped ≡ false)
    (p : EndPolls plain_serving background_answer stopped now (crew_of local_members e.workers) (crew_of local_members new.workers)
    e.timed x new.timed)
    (plays : IsPlaying worked n e) where
  with-parcels : PollsWith plain_mode now p.parcels p.gave e.workers new.workers (told_end e) x (told_end new)
  with-parcels = record {
    back = cc (p.first);
    given = cc (p.waits);
    polls = poll-as (FinishesBack background_answer p.parcels (crew_of local_members e.workers) (crew_of local_members new.workers))
        (FinishesFirst (map (worked_as (told_end e).lists.me) p.parcels) (new.workers.worked ≡ []))
        (SendsUntil stopped) SendsAll plain_mode now (told_end e) x (told_end new)
        (λ s y t h. record {
          finishes = finishes-each background_answer (told_end e).lists.me p.parcels s y t h.finishes;
          over = over-as new.workers.worked (length t.lists.jobs.out) 0 0
              (t.lists.room ≤ replies t.lists.queued) h.over;
        }) (λ s y t h. sends-as stopped s y t goes_on h) p.polls;
    names = asked-names _ new.timed.lists.jobs.out
        ∙ (ap (map job_name) p.jobs
        ∙ (map-append job_name (jobs_left p.parcels e.timed.lists.jobs.out) (map job_named p.gave)
        ∙ ap₂ (λ (a b : List (ℕ × ℕ)). a ++ b)
        (left-names p.parcels e.timed.lists.jobs.out
        ∙ ap (left_names p.parcels) (sym (asked-names _ e.timed.lists.jobs.out)))
        (map-map job_name job_named p.gave)));
  }

  known : PollsKnown plain_mode now worked new.workers (told_end e) x (told_end new)
  known =
      polls-known plain_mode now worked e.workers new.workers p.parcels p.gave (told_end e) x (told_end new)
      (valid-told e k) plays.knows (staffed-has e plays.staffed) with-parcels

  pub mine : AllOf n x
  mine =
      let o = poll-own false plain_mode now (told_end e) x (told_end new) (λ e. cc)
      (poll-within worked plain_mode now (told_end e) x (told_end new) known.polls) in
      subst (λ m. AllOf m x) plays.me (all-owned e.timed.lists.me x o.facts)

  still-me : new.timed.lists.me ≡ e.timed.lists.me
  still-me =
      (poll-own false plain_mode now (told_end e) x (told_end new) (λ e. cc)
      (poll-within worked plain_mode now (told_end e) x (told_end new) known.polls)).me

  pub poll-step : ServesAll e.service new.service x → Whole x
      → NodeStep (PollBy (FinishesWorked worked) SendsAll plain_mode now) n worked e new x
  poll-step serves whole = record {
    step = known.polls;
    own = mine;
    plain = λ a at. plainly-served n e.service new.service x a at mine serves whole;
    plays = record { me = still-me ∙ plays.me; staffed = p.staffed; knows = known.knows };
  }

-- what was sent is in flight, as the facts tell
pub landed : (z t : Play) (n : ℕ) (new : End) (f : List InFlight) (x : List Fact)
    → t ≡ record {
      ends = slice_set z.ends n new;
      flight = f;
      worked = worked_after_all z.worked x;
      clock = z.clock;
    } → f ≡ flight_after_all z.flight x → t ≡ stepped_play z n new x
landed z t n new f x is same =
    is ∙ ap (λ (g : List InFlight). record {
      ends = slice_set z.ends n new;
      flight = g;
      worked = worked_after_all z.worked x;
      clock = z.clock;
    }) same

-- the poll that the world asks for
pub at-polls : (n now : ℕ) (s t : Play) (f g : List Fact) → now ≡ s.clock
    → Performed (AtNode (PollBy (FinishesWorked s.worked) SendsAll plain_mode now) n) s t f g
    → Performed (PollsNode n) s t f g
at-polls n now s t f g is p =
    performed-as (AtNode (PollBy (FinishesWorked s.worked) SendsAll plain_mode now) n) (PollsNode n) s t f g
    (λ x h. subst (λ (k : ℕ). AtNode (PollBy (FinishesWorked s.worked) SendsAll plain_mode k) n (stage_of s) x
    (stage_of t)) is h) p

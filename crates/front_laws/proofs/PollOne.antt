-- Of the fronts of some facts at most one is a poll's, and it leaves one state: finishing ends before the first
-- fact that is no Ran, and sending before the Polled.
use Rattle.std.proofs.Common.{◌≡◌, ℕ, Bool, true, false, List, [], ◌∷◌, ◌++◌, Some, refl, sym}
use Rattle.std.proofs.Common.{ap, ap₂, ◌∙◌, subst, ◌==◌}
use Rattle.std.specs.List.{find}
use Rattle.std.proofs.lemmas.Bool.{and_parts, eqb-true}
use Rattle.rpc_base.specs.declared.event.Event.{Event}
use Rattle.rpc_base.specs.declared.event.Event.TheVariants.{Polled, Ran, Sent}
use Rattle.rpc_base.specs.declared.fact.Fact.{Fact}
use Rattle.rpc_base.proofs.TakingLemmas.{find-passes}
use Rattle.rpc_laws.specs.declared.tables.Job.{Job}
use Rattle.rpc_laws.specs.declared.tables.Lists.{Lists}
use Rattle.rpc_laws.specs.declared.tables.Timed.{Timed}
use Rattle.rpc_laws.specs.ControlSteps.{HearsAll, TimesAll}
use Rattle.rpc_laws.specs.Facts.{plain, with_two}
use Rattle.rpc_laws.specs.Jobs.{is_job}
use Rattle.rpc_laws.specs.PollOrder.{Closes, finished_facts, FinishesOne, FinishesSome, HandlesAll}
use Rattle.rpc_laws.specs.PollOrder.{PostsAll, Sends, SendsSome}
use Rattle.rpc_laws.specs.Steps.{Rel, Then}
use Rattle.rpc_outside.specs.declared.service.Mode.{Mode}
use Rattle.front_laws.proofs.FirstFacts.{closes-later, handles-later, hears-later, is_ran}
use Rattle.front_laws.proofs.FirstFacts.{posts-later, RunsLater, sends-later, then-later, times-later}
use Rattle.front_laws.proofs.OneWayLemmas.{goes-one, OneWay, then-one}
use Rattle.front_laws.proofs.PhaseLemmas.{one-front, posts-one, times-one}
use Rattle.front_laws.proofs.RingOneLemmas.{handles-all-one}
use Rattle.front_laws.proofs.RowOneLemmas.{hears-all-one, some-same}
use Rattle.front_laws.proofs.StopLemmas.{AllFollow, Begins, stop-one}

-- what comes after the jobs, of which each poll has the last
abbrev pub Closing : Rel
Closing = Then SendsSome Closes

abbrev pub AfterRing : Rel
AfterRing = Then TimesAll (Then PostsAll Closing)

abbrev pub AfterJobs : (ℕ → Mode) → Rel
AfterJobs mode = Then HearsAll (Then (HandlesAll mode) AfterRing)

-- the seven steps of a poll, once its clock is known
abbrev pub Seven : (ℕ → Mode) → Rel
Seven mode = Then FinishesSome (AfterJobs mode)

-- sending
is_sent : Event → Bool
is_sent (Sent peer owner number) = true
is_sent _ = false

sends-one : OneWay Sends
sends-one s x y r q t u h k e =
    goes-one s x y t u h.goes k.goes (one-front _ _ x y r q h.facts k.facts e)

sends-begin : Begins is_sent Sends
unfolding is_sent
sends-begin s x t h = rw h.facts refl

closes-follow : AllFollow is_sent Closes
unfolding is_sent
closes-follow s x t h = record {
  other = rw h.facts refl;
  some = λ e. absurd (no-empty (sym h.facts ∙ e));
}
  where
    no-empty : plain s.lists.me (Polled s.clock) ∷ [] ≡ [] → ⊥
    no-empty e = cc

closes-one : OneWay Closes
closes-one s x y r q t u h k e = goes-one s x y t u h.goes k.goes (h.facts ∙ sym k.facts)

pub closing-one : OneWay Closing
closing-one = stop-one is_sent Sends Closes sends-one sends-begin closes-one closes-follow

-- each of these notes something: its Polled
abbrev NotesSome : Rel → Type 0
NotesSome P = (s : Timed) (x : List Fact) (t : Timed) → P s x t → x ≡ [] → ⊥

back-some : (x y : List Fact) → (y ≡ [] → ⊥) → x ++ y ≡ [] → ⊥
back-some [] y n e = n e
back-some (f ∷ x) y n e = cc

then-some : (P Q : Rel) → NotesSome Q → NotesSome (Then P Q)
then-some P Q q s x t h e =
    back-some h.front h.back (q h.between h.back t h.second) (sym h.joined ∙ e)

closes-some : NotesSome Closes
closes-some s x t h e = (closes-follow s x t h).some e

-- finishing
find-number : (t r : ℕ) (jobs : List Job) (job : Job) → find (is_job t r) jobs ≡ Some job
    → (job.session ≡ t) × (job.request ≡ r)
find-number t r jobs job is =
    let parts = and_parts (job.session == t) (job.request == r) (find-passes (is_job t r) jobs job is) in
    (eqb-true job.session t parts.0, eqb-true job.request r parts.1)

record SameRan (a b : Job) (y z : List ℕ) : Type 0 where
  session : a.session ≡ b.session
  request : a.request ≡ b.request
  answer : y ≡ z

ran-event : (t r y u p z : ℕ) (a b : Job) (v w : List ℕ) → Ran t r y ≡ Ran u p z → a.session ≡ t → a.request ≡ r
    → b.session ≡ u → b.request ≡ p → v ≡ w → SameRan a b v w
ran-event t r y u p z a b v w e f g h k same = record { session = cc; request = cc; answer = same }

ran-same : (s : Lists) (a b : Job) (y z : List ℕ) (r q : List Fact)
    → finished_facts y s a ++ r ≡ finished_facts z s b ++ q → SameRan a b y z
ran-same s a b y z r q e = heads cc
  where
    heads : with_two s.me (Ran a.session a.request a.req_type) a.ask y
        ≡ with_two s.me (Ran b.session b.request b.req_type) b.ask z → SameRan a b y z
    heads f =
        ran-event a.session a.request a.req_type b.session b.request b.req_type a b y z
        (ap (λ (g : Fact). g.event) f) refl refl refl refl (ap (λ (g : Fact). g.second) f)

-- a job that is found, and the answer to it
record FinishesAs (session request : ℕ) (s : Lists) (x : List Fact) : Type 0 where
  job : Job
  is_out : find (is_job session request) s.jobs.out ≡ Some job
  answer : List ℕ
  facts : x ≡ finished_facts answer s job

as-one : (session request other number : ℕ) (s : Lists) (x y r q : List Fact) → FinishesAs session request s x
    → FinishesAs other number s y → x ++ r ≡ y ++ q → x ≡ y
as-one session request other number s x y r q a b e =
    let both : finished_facts a.answer s a.job ++ r ≡ finished_facts b.answer s b.job ++ q =
    ap (λ (z : List Fact). z ++ r) (sym a.facts) ∙ (e ∙ ap (λ (z : List Fact). z ++ q) b.facts) in
    let same = ran-same s a.job b.job a.answer b.answer r q both in
    let one = find-number session request s.jobs.out a.job a.is_out in
    let two = find-number other number s.jobs.out b.job b.is_out in
    let session_is : session ≡ other = sym one.0 ∙ (same.session ∙ two.0) in
    let request_is : request ≡ number = sym one.1 ∙ (same.request ∙ two.1) in
    let found : find (is_job other number) s.jobs.out ≡ Some a.job =
    subst (λ (i : ℕ). find (is_job i number) s.jobs.out ≡ Some a.job) session_is
    (subst (λ (i : ℕ). find (is_job session i) s.jobs.out ≡ Some a.job) request_is a.is_out) in
    let job : a.job ≡ b.job = some-same (find (is_job other number) s.jobs.out) a.job b.job found b.is_out in
    a.facts ∙ (ap₂ (λ (z : List ℕ) (j : Job). finished_facts z s j) same.answer job ∙ sym b.facts)

finishes-one : OneWay FinishesOne
finishes-one s x y r q t u h k e =
    let f = h.finishes in
    let g = k.finishes in
    let one : FinishesAs h.session h.request s.lists x =
    record { job = f.job; is_out = f.is_out; answer = f.answer; facts = f.facts } in
    let two : FinishesAs k.session k.request s.lists y =
    record { job = g.job; is_out = g.is_out; answer = g.answer; facts = g.facts } in
    goes-one s x y t u f.goes g.goes (as-one h.session h.request k.session k.request s.lists x y r q one two e)

finishes-begin : Begins is_ran FinishesOne
finishes-begin s x t h = rw h.finishes.facts refl

-- what comes after the jobs
closing-later : RunsLater Closing
closing-later = then-later SendsSome Closes sends-later closes-later

ring-later : RunsLater AfterRing
ring-later =
    then-later TimesAll (Then PostsAll Closing) times-later (then-later PostsAll Closing posts-later closing-later)

pub jobs-later : (mode : ℕ → Mode) → RunsLater (AfterJobs mode)
jobs-later mode =
    then-later HearsAll (Then (HandlesAll mode) AfterRing) hears-later
    (then-later (HandlesAll mode) AfterRing (handles-later mode) ring-later)

ring-some : NotesSome AfterRing
ring-some =
    then-some TimesAll (Then PostsAll Closing)
    (then-some PostsAll Closing (then-some SendsSome Closes closes-some))

jobs-some : (mode : ℕ → Mode) → NotesSome (AfterJobs mode)
jobs-some mode =
    then-some HearsAll (Then (HandlesAll mode) AfterRing) (then-some (HandlesAll mode) AfterRing ring-some)

jobs-follow : (mode : ℕ → Mode) → AllFollow is_ran (AfterJobs mode)
jobs-follow mode s x t h = record { other = jobs-later mode s x t h; some = jobs-some mode s x t h }

pub ring-one : OneWay AfterRing
ring-one =
    then-one TimesAll (Then PostsAll Closing) times-one (then-one PostsAll Closing posts-one closing-one)

pub jobs-one : (mode : ℕ → Mode) → OneWay (AfterJobs mode)
jobs-one mode =
    then-one HearsAll (Then (HandlesAll mode) AfterRing) hears-all-one
    (then-one (HandlesAll mode) AfterRing (handles-all-one mode) ring-one)

-- a poll from a known clock on
pub seven-one : (mode : ℕ → Mode) → OneWay (Seven mode)
seven-one mode =
    stop-one is_ran FinishesOne (AfterJobs mode) finishes-one finishes-begin (jobs-one mode) (jobs-follow mode)

-- Jobs that are finished one after another.
use Rattle.std.proofs.Common.{◌≡◌, ◌+◌, ℕ, true, Some, None, List, []}
use Rattle.std.proofs.Common.{◌∷◌, ◌++◌, length, take, drop, refl, sym, ap, ap₂, ◌∙◌, subst, arith, slice_get, min, ◌==◌}
use Rattle.std.specs.List.{find}
use Rattle.std.proofs.lemmas.Bool.{and_parts, eqb-true}
use Rattle.std.proofs.lemmas.List.{take_min}
use Rattle.rpc_base.specs.declared.event.Event.TheVariants.{Ran}
use Rattle.rpc_base.specs.declared.fact.Fact.{Fact}
use Rattle.rpc_base.proofs.TakingLemmas.{find-passes}
use Rattle.rpc_laws.specs.declared.tables.Job.{Job}
use Rattle.rpc_laws.specs.declared.tables.Lists.{Lists}
use Rattle.rpc_laws.specs.declared.tables.Timed.{Timed}
use Rattle.rpc_laws.specs.Facts.{with_two}
use Rattle.rpc_laws.specs.Jobs.{is_job}
use Rattle.rpc_laws.specs.NodeLists.{after, after_all}
use Rattle.rpc_laws.specs.PollOrder.{answer_posted, awaited, finished_facts, FinishesOne}
use Rattle.rpc_laws.proofs.RunLemmas.{after_all-append}
use Rattle.front_laws.proofs.OneWayLemmas.{goes-one, OneWay}
use Rattle.front_laws.proofs.RowOneLemmas.{some-same}
use Rattle.rule_facts.specs.Finishing.{Finish, FinishNone}
use Rattle.node_rules.specs.SingleFacts.{at_clock}
use Rattle.poll_steps.specs.Steps.{AreSteps, begins_with, is_ran, IsStep, Stops}
use Rattle.poll_steps.proofs.ChainLemmas.{Leads, leads-more, leads-stuck, take-plus}
use Rattle.poll_steps.proofs.PostLemmas.{drop-at}
use Rattle.poll_steps.proofs.SendLemmas.{goes-on}

-- one fact more was applied
pub applied-more : (clock : ℕ) (s : Lists) (facts : List Fact) (n : ℕ) (f : Fact) (old new : Lists)
    → slice_get facts n ≡ Some f → old ≡ after_all clock s (take n facts) → new ≡ after clock old f
    → new ≡ after_all clock s (take (n + 1) facts)
applied-more clock s facts n f old new at so e =
    let one : take 1 (drop n facts) ≡ f ∷ [] = ap (take 1) (drop-at facts n f at) in
    let longer : take (n + 1) facts ≡ take n facts ++ f ∷ [] =
    take-plus n 1 facts ∙ ap (λ (z : List Fact). take n facts ++ z) one in
    e ∙ (ap (λ (z : Lists). after clock z f) so
    ∙ (sym (after_all-append clock s (take n facts) (f ∷ []))
    ∙ ap (after_all clock s) (sym longer)))

-- what the numbers of a job are
find-number : (t r : ℕ) (jobs : List Job) (job : Job) → find (is_job t r) jobs ≡ Some job
    → (job.session ≡ t) × (job.request ≡ r)
find-number t r jobs job is =
    let parts = and_parts (job.session == t) (job.request == r) (find-passes (is_job t r) jobs job is) in
    (eqb-true job.session t parts.0, eqb-true job.request r parts.1)

-- the first fact of a job that is finished tells the job and its answer
record FirstRan (s : Lists) (x : List Fact) : Type 0 where
  first : Fact
  job : Job
  out : find (is_job job.session job.request) s.jobs.out ≡ Some job
  is : first ≡ with_two s.me (Ran job.session job.request job.req_type) job.ask first.second
  facts : x ≡ finished_facts first.second s job
  whole : x ≡ first ∷ answer_posted s.me job (awaited job s.servers)

first-ran : (s : Timed) (x : List Fact) (t : Timed) → FinishesOne s x t → FirstRan s.lists x
first-ran s x t h =
    let k = h.finishes in
    let job : Job = k.job in
    let numbers = find-number h.session h.request s.lists.jobs.out job k.is_out in
    let out : find (is_job job.session job.request) s.lists.jobs.out ≡ Some job =
    subst (λ (i : ℕ). find (is_job i job.request) s.lists.jobs.out ≡ Some job) (sym numbers.0)
    (subst (λ (i : ℕ). find (is_job h.session i) s.lists.jobs.out ≡ Some job) (sym numbers.1) k.is_out) in
    record {
      first = with_two s.lists.me (Ran job.session job.request job.req_type) job.ask k.answer;
      job = job;
      out = out;
      is = refl;
      facts = k.facts;
      whole = k.facts;
    }

ran-numbers : (t r y u p z : ℕ) → Ran t r y ≡ Ran u p z → (t ≡ u) × (r ≡ p)
ran-numbers t r y u p z e = (cc, cc)

pub finishes-one : OneWay FinishesOne
finishes-one s x y r q t u h k e =
    let a = first-ran s x t h in
    let b = first-ran s y u k in
    let f : Fact = a.first in
    let g : Fact = b.first in
    let one : Job = a.job in
    let two : Job = b.job in
    let more : List Fact = answer_posted s.lists.me one (awaited one s.lists.servers) in
    let others : List Fact = answer_posted s.lists.me two (awaited two s.lists.servers) in
    let both : f ∷ (more ++ r) ≡ g ∷ (others ++ q) =
    ap (λ (z : List Fact). z ++ r) (sym a.whole) ∙ (e ∙ ap (λ (z : List Fact). z ++ q) b.whole) in
    let same : f ≡ g = cc in
    let events : Ran one.session one.request one.req_type ≡ Ran two.session two.request two.req_type =
    sym (ap (λ (d : Fact). d.event) a.is)
    ∙ (ap (λ (d : Fact). d.event) same ∙ ap (λ (d : Fact). d.event) b.is) in
    let numbers = ran-numbers one.session one.request one.req_type two.session two.request two.req_type events in
    let found : find (is_job two.session two.request) s.lists.jobs.out ≡ Some one =
    subst (λ (i : ℕ). find (is_job i two.request) s.lists.jobs.out ≡ Some one) numbers.0
    (subst (λ (i : ℕ). find (is_job one.session i) s.lists.jobs.out ≡ Some one) numbers.1 a.out) in
    let job : one ≡ two =
    some-same (find (is_job two.session two.request) s.lists.jobs.out) one two found b.out in
    let answer : f.second ≡ g.second = ap (λ (d : Fact). d.second) same in
    goes-one s x y t u h.finishes.goes k.finishes.goes
    (a.facts ∙ (ap₂ (λ (z : List ℕ) (j : Job). finished_facts z s.lists j) answer job ∙ sym b.facts))

-- what the rule tells, of no more facts than there are
pub finished-some : (clock : ℕ) (s new : Lists) (facts : List Fact) (n m : ℕ) → Finish s (take n facts)
    → m ≡ min n (length facts) → new ≡ after_all clock s (take m facts)
    → IsStep FinishesOne (at_clock clock s) facts (at_clock clock new) (Some m)
finished-some clock s new facts n m h e is =
    let same : take m facts ≡ take n facts = ap (λ (k : ℕ). take k facts) e ∙ take_min n facts in
    let left : new ≡ after_all clock s (take n facts) = is ∙ ap (after_all clock s) same in
    record {
      some = (omega (arith, e), rw (same, left) (h clock));
      only = λ no. cc;
    }

pub finished-none : (clock : ℕ) (s : Lists) (facts : List Fact) (v : Timed) → FinishNone s facts
    → IsStep FinishesOne (at_clock clock s) facts v None
finished-none clock s facts v h = record { some = tt; only = λ no. h clock }

pub finishes-more : (s : Timed) (facts : List Fact) (n m : ℕ) (t u : Timed)
    → Leads FinishesOne (Stops is_ran) s facts n t → IsStep FinishesOne t (drop n facts) u (Some m)
    → begins_with is_ran (drop n facts) ≡ true → Leads FinishesOne (Stops is_ran) s facts (n + m) u
finishes-more s facts n m t u h k kind =
    leads-more FinishesOne (Stops is_ran) finishes-one s facts n m t u h k.some.0 k.some.1
    (goes-on is_ran t (drop n facts) kind)

pub finishes-stuck : (s : Timed) (facts : List Fact) (n : ℕ) (t u v : Timed)
    → Leads FinishesOne (Stops is_ran) s facts n t → IsStep FinishesOne t (drop n facts) u None
    → begins_with is_ran (drop n facts) ≡ true → AreSteps FinishesOne (Stops is_ran) s facts v None
finishes-stuck s facts n t u v h k kind =
    leads-stuck FinishesOne (Stops is_ran) s facts n t v h (goes-on is_ran t (drop n facts) kind) (k.only refl)

-- A front of some facts finishes a job exactly where it is what its job notes.
use Rattle.std.proofs.Common.{◌≡◌, ◌<◌, ℕ, true, ◌&&◌, Option, Some, None, List, [], ◌∷◌}
use Rattle.std.proofs.Common.{◌++◌, drop, length, take, refl, sym, ap, ◌∙◌, subst, slice_get}
use Rattle.std.specs.Prelude.{◌==◌, IfSome, IsNone}
use Rattle.std.specs.List.{find, position}
use Rattle.std.proofs.lemmas.Bool.{and_parts, eqb-true}
use Rattle.rpc_base.specs.declared.event.Event.{Event}
use Rattle.rpc_base.specs.declared.event.Event.TheVariants.{Ran}
use Rattle.rpc_base.specs.declared.fact.Fact.{Fact}
use Rattle.rpc_base.proofs.TablesLemmas.{find-found, find-missing}
use Rattle.rpc_base.proofs.TakingLemmas.{find-passes}
use Rattle.rpc_laws.specs.declared.tables.Job.{Job}
use Rattle.rpc_laws.specs.declared.tables.Lists.{Lists}
use Rattle.rpc_laws.specs.declared.tables.Timed.{Timed}
use Rattle.rpc_laws.specs.Facts.{with_two}
use Rattle.rpc_laws.specs.Jobs.{is_job}
use Rattle.rpc_laws.specs.PollOrder.{answer_posted, awaited, finished_facts, FinishesOne}
use Rattle.rpc_laws.specs.Queues.{replies}
use Rattle.rpc_base.specs.declared.fact.Who.{Who}
use Rattle.std.proofs.Math.Seq.{take-append_seam}
use Rattle.rpc_base.specs.declared.fact.Who.TheVariants.{Node}
use Rattle.std.specs.Str.{bytes_eq}
use Rattle.std.proofs.lemmas.Slice.Eq.{bytes_eq-Decides}
use Rattle.rule_facts.proofs.SaysLemmas.{own-node}
use Rattle.rule_facts.specs.Finishing.{Finish, FinishNone, place_of_ran, says_ran, tells_ran}
use Rattle.rule_facts.specs.Tells.{is_node}
use Rattle.rule_facts.specs.Fronts.{Fronts, Starts, told_answer}
use Rattle.node_rules.specs.SingleFacts.{at_clock}

finish-job : (s : Lists) (t r i : ℕ) (job : Job) (x : List Fact) (answer : List ℕ)
    → position (is_job t r) s.jobs.out ≡ Some i → slice_get s.jobs.out i ≡ Some job
    → replies s.queued < s.room → x ≡ finished_facts answer s job → Finish s x
finish-job s t r i job x answer at is room e clock = record {
  session = t;
  request = r;
  finishes = record {
    room = room;
    job = job;
    is_out = find-found (is_job t r) s.jobs.out i at ∙ is;
    answer = answer;
    facts = e;
    goes = refl;
  };
}

finish-by : (s : Lists) (e : Event) (i : ℕ) (job : Job) (x : List Fact) (answer : List ℕ)
    → place_of_ran s.jobs.out e ≡ Some i → slice_get s.jobs.out i ≡ Some job
    → replies s.queued < s.room → x ≡ finished_facts answer s job → Finish s x
finish-by s (Ran t r y) i job x answer at is room e = finish-job s t r i job x answer at is room e
finish-by s _ i job x answer at is room e = cc

-- what is in front is what the job notes
pub finish-some : (s : Lists) (e : Event) (i n : ℕ) (job : Job) (facts : List Fact) (answer : List ℕ)
    → place_of_ran s.jobs.out e ≡ Some i → slice_get s.jobs.out i ≡ Some job
    → replies s.queued < s.room → Fronts (finished_facts answer s job) facts (Some n)
    → Finish s (take n facts)
finish-some s e i n job facts answer at is room h =
    let x : List Fact = finished_facts answer s job in
    let begins : Starts x facts = h.some.1 in
    let long : n ≡ length x = h.some.0 in
    finish-by s e i job (take n facts) answer at is room
    (rw (long, begins.parted) (take-append_seam x begins.rest))

-- a job that is found by its numbers has them
own-numbers : (s : Lists) (t r : ℕ) (job : Job) → find (is_job t r) s.jobs.out ≡ Some job
    → find (is_job job.session job.request) s.jobs.out ≡ Some job
own-numbers s t r job e =
    let parts = and_parts (job.session == t) (job.request == r) (find-passes (is_job t r) s.jobs.out job e) in
    let one : job.session ≡ t = eqb-true job.session t parts.0 in
    let two : job.request ≡ r = eqb-true job.request r parts.1 in
    subst (λ (k : ℕ). find (is_job k job.request) s.jobs.out ≡ Some job) (sym one)
    (subst (λ (k : ℕ). find (is_job t k) s.jobs.out ≡ Some job) (sym two) e)

-- what the first fact is where a front finishes a job
record Told (s : Lists) (f : Fact) (job : Job) (answer : List ℕ) : Type 0 where
  out : find (is_job job.session job.request) s.jobs.out ≡ Some job
  is : f ≡ with_two s.me (Ran job.session job.request job.req_type) job.ask answer

told-by : (s : Lists) (f : Fact) (gs : List Fact) (clock : ℕ) (x : List Fact) (t : Timed)
    (begins : Starts x (f ∷ gs)) (h : FinishesOne (at_clock clock s) x t)
    → Told s f h.finishes.job h.finishes.answer
told-by s f gs clock x t begins h =
    let job : Job = h.finishes.job in
    let ran : Fact = with_two s.me (Ran job.session job.request job.req_type) job.ask h.finishes.answer in
    let more : List Fact = answer_posted s.me job (awaited job s.servers) in
    let whole : f ∷ gs ≡ ran ∷ (more ++ begins.rest) =
    begins.parted ∙ ap (λ (y : List Fact). y ++ begins.rest) h.finishes.facts in
    let same : f ≡ ran = cc in
    record { out = own-numbers s h.session h.request h.finishes.job h.finishes.is_out; is = same }

-- no job is out that the first fact names
pub finish-unknown : (s : Lists) (f : Fact) (gs facts : List Fact) → facts ≡ f ∷ gs
    → place_of_ran s.jobs.out f.event ≡ None → FinishNone s facts
finish-unknown s f gs facts e none clock x t begins h =
    let starts : Starts x (f ∷ gs) = record { rest = begins.rest; parted = sym e ∙ begins.parted } in
    let told = told-by s f gs clock x t starts h in
    let j : Job = h.finishes.job in
    let nowhere : position (is_job j.session j.request) s.jobs.out ≡ None =
    sym (ap (λ (g : Fact). place_of_ran s.jobs.out g.event) told.is) ∙ none in
    let missing : find (is_job j.session j.request) s.jobs.out ≡ None =
    find-missing (is_job j.session j.request) s.jobs.out nowhere in
    let clash : None ≡ Some j = sym missing ∙ told.out in
    cc

-- the facts aren't those of the job that it names
pub finish-other : (s : Lists) (f : Fact) (gs facts : List Fact) (i : ℕ) (job : Job) → facts ≡ f ∷ gs
    → place_of_ran s.jobs.out f.event ≡ Some i → slice_get s.jobs.out i ≡ Some job
    → Fronts (finished_facts (told_answer facts) s job) facts None → FinishNone s facts
finish-other s f gs facts i job e at is fronts clock x t begins h =
    let starts : Starts x (f ∷ gs) = record { rest = begins.rest; parted = sym e ∙ begins.parted } in
    let told = told-by s f gs clock x t starts h in
    let j : Job = h.finishes.job in
    let place : position (is_job j.session j.request) s.jobs.out ≡ Some i =
    sym (ap (λ (g : Fact). place_of_ran s.jobs.out g.event) told.is) ∙ at in
    let found : Some j ≡ Some job =
    sym told.out ∙ (find-found (is_job j.session j.request) s.jobs.out i place ∙ is) in
    let same : j ≡ job = cc in
    let answer : told_answer facts ≡ h.finishes.answer =
    ap told_answer e ∙ ap (λ (g : Fact). g.second) told.is in
    let own : x ≡ finished_facts (told_answer facts) s job =
    h.finishes.facts ∙ (ap (λ (k : Job). finished_facts h.finishes.answer s k) same
    ∙ ap (λ (a : List ℕ). finished_facts a s job) (sym answer)) in
    fronts.only refl (record {
      rest = begins.rest;
      parted = begins.parted ∙ ap (λ (y : List Fact). y ++ begins.rest) own;
    })

ran-event : (job : Job) (x : Event) → tells_ran job x ≡ true
    → x ≡ Ran job.session job.request job.req_type
ran-event job (Ran t r y) e =
    let p = and_parts (t == job.session) ((r == job.request) && (y == job.req_type)) e in
    let q = and_parts (r == job.request) (y == job.req_type) p.1 in
    let one : t ≡ job.session = eqb-true t job.session p.0 in
    let two : r ≡ job.request = eqb-true r job.request q.0 in
    let three : y ≡ job.req_type = eqb-true y job.req_type q.1 in
    rw (one, two, three) refl
ran-event job _ e = cc

-- a fact that passes the tests of a job's Ran is that of its handler
pub says-ran : (me : ℕ) (job : Job) (f : Fact) → says_ran me job f ≡ true
    → f ≡ with_two me (Ran job.session job.request job.req_type) job.ask f.second
says-ran me job f h =
    let p = and_parts (is_node me f.who) (tells_ran job f.event && bytes_eq f.first job.ask) h in
    let q = and_parts (tells_ran job f.event) (bytes_eq f.first job.ask) p.1 in
    let first : f.first ≡ job.ask = (bytes_eq-Decides f.first job.ask).0 q.1 in
    let own : f ≡ record f { who = Node me } = ap (λ (w : Who). record f { who = w }) (own-node me f.who p.0) in
    let ran : f ≡ record f { who = Node me; event = Ran job.session job.request job.req_type } =
    own ∙ ap (λ (d : Event). record f { who = Node me; event = d }) (ran-event job f.event q.0) in
    ran ∙ ap (λ (xs : List ℕ). with_two me (Ran job.session job.request job.req_type) xs f.second) first

-- a list is its first element and the others
pub parted-at : (facts : List Fact) (f : Fact) → slice_get facts 0 ≡ Some f → facts ≡ f ∷ drop 1 facts
parted-at [] f e = cc
parted-at (g ∷ gs) f e = let same : g ≡ f = cc in ap (λ (h : Fact). h ∷ gs) same

-- the answer says how many facts finish the job, or that none do
pub record Finished (s : Lists) (facts : List Fact) (o : Option ℕ) : Type 0 where
  pub some : IfSome o (λ n. Finish s (take n facts))
  pub only : IsNone o → FinishNone s facts

pub finished-by : (s : Lists) (f : Fact) (i : ℕ) (job : Job) (facts : List Fact) (o : Option ℕ)
    → slice_get facts 0 ≡ Some f → place_of_ran s.jobs.out f.event ≡ Some i
    → slice_get s.jobs.out i ≡ Some job → replies s.queued < s.room
    → Fronts (finished_facts (told_answer facts) s job) facts o → Finished s facts o
finished-by s f i job facts (Some n) first at is room h = record {
  some = finish-some s f.event i n job facts (told_answer facts) at is room h;
  only = λ none. cc;
}
finished-by s f i job facts None first at is room h = record {
  some = tt;
  only = λ none. finish-other s f (drop 1 facts) facts i job (parted-at facts f first) at is h;
}

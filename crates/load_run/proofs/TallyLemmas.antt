-- How the ends of calls are counted.
use Rattle.std.proofs.Common.{◌≡◌, ◌≢◌, ◌⊎◌, inl, inr, ℕ, ◌+◌, Bool, true, false, cond, List}
use Rattle.std.proofs.Common.{[], ◌∷◌, ◌++◌}
use Rattle.std.proofs.Common.{map, min, refl, sym, ap, subst, ◌∙◌, arith, append_assoc, append-nil}
use Rattle.std.specs.List.{filter}
use Rattle.std.proofs.lemmas.List.Sums.{sum_by-append, sum_by-cons}
use Rattle.client_core.specs.Shown.{done_event, done_fact, end_bytes, end_event}
use Rattle.client_core.specs.declared.outcome.Done.{Done}
use Rattle.client_core.specs.declared.outcome.Outcome.{Outcome}
use Rattle.client_core.specs.declared.outcome.Outcome.TheVariants.{Ok, TooSmall, PeerLost}
use Rattle.node_steps.specs.Notes.{is_end, is_end_event}
use Rattle.load_plan.specs.Calls.{Calls, is_right}
use Rattle.load_run.specs.declared.ledger.Ledger.{Ledger}
use Rattle.load_run.specs.declared.tally.Ending.{Ending}
use Rattle.load_run.specs.declared.tally.Ending.TheVariants.{Right, Small, Lost, Wrong}
use Rattle.load_run.specs.Tallies.{Counts, Tallies, endings, ends_so, tally_at}
use Rattle.rpc_base.proofs.BasicLemmas.{not-true}
use Rattle.rpc_base.specs.declared.event.Event.{Event}
use Rattle.rpc_base.specs.declared.event.Event.TheVariants.{DoneOk, DoneTooSmall, DonePeerLost}
use Rattle.rpc_base.specs.declared.fact.Fact.{Fact}
use Rattle.memory_count.specs.Faults.{end_of_count, one_more}

same-or : (a b : Ending) → (a ≡ b) ⊎ (a ≢ b)
same-or Right Right = inl refl
same-or Small Small = inl refl
same-or Lost Lost = inl refl
same-or Wrong Wrong = inl refl
same-or _ _ = inr (λ e. cc)

-- a call ends in one way alone
only-one : (c : Calls) (call : ℕ) (outcome : Outcome) (bytes : List ℕ) (a b : Ending) → a ≢ b
    → ends_so c b (end_event call outcome) bytes ≡ true
    → ends_so c a (end_event call outcome) bytes ≡ false
only-one c call Ok bytes Right Right other h = absurd (other refl)
only-one c call Ok bytes Right Wrong other h = not-true (is_right c call bytes) h
only-one c call Ok bytes Wrong Right other h = rw h refl
only-one c call Ok bytes Wrong Wrong other h = absurd (other refl)
only-one c call Ok bytes Small b other h = refl
only-one c call Ok bytes Lost b other h = refl
only-one c call Ok bytes a Small other h = cc
only-one c call Ok bytes a Lost other h = cc
only-one c call (TooSmall size) bytes Small Small other h = absurd (other refl)
only-one c call (TooSmall size) bytes Small _ other h = cc
only-one c call (TooSmall size) bytes _ b other h = refl
only-one c call PeerLost bytes Lost Lost other h = absurd (other refl)
only-one c call PeerLost bytes Lost _ other h = cc
only-one c call PeerLost bytes _ b other h = refl

pub endings-append : (c : Calls) (e : Ending) (x y : List Fact)
    → endings c e (x ++ y) ≡ endings c e x + endings c e y
endings-append c e x y =
    sum_by-append (λ (f : Fact). cond (ends_so c e f.event f.first) 1 0) x y

endings-cons : (c : Calls) (e : Ending) (f : Fact) (x : List Fact)
    → endings c e (f ∷ x) ≡ cond (ends_so c e f.event f.first) 1 0 + endings c e x
endings-cons c e f x =
    sum_by-cons (λ (g : Fact). cond (ends_so c e g.event g.first) 1 0) f x

-- a count that stops at its end, and one more or none more
counted : (b : Bool) (n t : ℕ) → t ≡ min n end_of_count
    → cond b (one_more t) t ≡ min (n + (0 + cond b 1 0)) end_of_count
counted true n t h = omega (arith, h)
counted false n t h = omega (arith, h)

-- one more call is counted
pub counts-one : (from to : Ledger) (d : Done) (ending : Ending) → to.plan ≡ from.plan
    → ends_so from.plan ending (done_event d) (end_bytes d.outcome d.resp) ≡ true
    → tally_at ending to.tally ≡ one_more (tally_at ending from.tally)
    → ((e : Ending) → e ≢ ending → tally_at e to.tally ≡ tally_at e from.tally)
    → Counts (done_fact 0 d ∷ []) from to
counts-one from to d ending plan so own others = record {
  plan = plan;
  tally = λ past h e. by past h e (same-or e ending);
}
  where
    more : (past : List Fact) → Tallies from.plan from.tally past → (e : Ending) (b : Bool)
        → ends_so from.plan e (done_event d) (end_bytes d.outcome d.resp) ≡ b
        → tally_at e to.tally ≡ cond b (one_more (tally_at e from.tally)) (tally_at e from.tally)
        → tally_at e to.tally ≡ min (endings from.plan e (past ++ done_fact 0 d ∷ [])) end_of_count
    more past h e b is now =
        let all = counted b (endings from.plan e past) (tally_at e from.tally) (h e) in
        rw (endings-append from.plan e past (done_fact 0 d ∷ []), is) (now ∙ all)

    by : (past : List Fact) → Tallies from.plan from.tally past → (e : Ending)
        → (e ≡ ending) ⊎ (e ≢ ending)
        → tally_at e to.tally ≡ min (endings from.plan e (past ++ done_fact 0 d ∷ [])) end_of_count
    by past h e (inl same) =
        more past h e true
        (subst (λ (a : Ending). ends_so from.plan a (done_event d)
        (end_bytes d.outcome d.resp) ≡ true)
        (sym same) so)
        (subst (λ (a : Ending). tally_at a to.tally ≡ one_more (tally_at a from.tally))
        (sym same) own)
    by past h e (inr other) =
        more past h e false
        (only-one from.plan d.call d.outcome (end_bytes d.outcome d.resp) e ending other so)
        (others e other)

pub counts-none : (l : Ledger) → Counts [] l l
counts-none l = record {
  plan = refl;
  tally = λ past h. subst (λ (z : List Fact). Tallies l.plan l.tally z) (sym (append-nil past)) h;
}

pub counts-then : (x y : List Fact) (a b c : Ledger) → Counts x a b → Counts y b c
    → Counts (x ++ y) a c
counts-then x y a b c p q = record {
  plan = q.plan ∙ p.plan;
  tally = λ past h.
      subst (λ (z : List Fact). Tallies a.plan c.tally z) (append_assoc past x y)
      (subst (λ (k : Calls). Tallies k c.tally ((past ++ x) ++ y)) p.plan
      (q.tally (past ++ x)
      (subst (λ (k : Calls). Tallies k b.tally (past ++ x)) (sym p.plan) (p.tally past h))));
}

-- facts of which as many end calls in each way
pub counts-as : (x y : List Fact) (a b : Ledger)
    → ((c : Calls) (e : Ending) → endings c e x ≡ endings c e y) → Counts x a b → Counts y a b
counts-as x y a b same p = record {
  plan = p.plan;
  tally = λ past h e.
      p.tally past h e
      ∙ ap (λ n. min n end_of_count)
      (endings-append a.plan e past x ∙ ap (λ n. endings a.plan e past + n) (same a.plan e)
      ∙ sym (endings-append a.plan e past y));
}

-- what ends no call
unended : (c : Calls) (e : Ending) (event : Event) (bytes : List ℕ) → is_end_event event ≡ false
    → ends_so c e event bytes ≡ false
unended c e (DoneOk call) bytes h = cc
unended c e (DoneTooSmall call size) bytes h = cc
unended c e (DonePeerLost call) bytes h = cc
unended c Right _ bytes h = refl
unended c Small _ bytes h = refl
unended c Lost _ bytes h = refl
unended c Wrong _ bytes h = refl

ended-if : (c : Calls) (e : Ending) (f : Fact) (x y : List Fact) (b : Bool) → is_end f ≡ b
    → endings c e y ≡ endings c e x → endings c e (cond b (f ∷ y) y) ≡ endings c e (f ∷ x)
ended-if c e f x y true is same =
    endings-cons c e f y ∙ ap (λ n. cond (ends_so c e f.event f.first) 1 0 + n) same
    ∙ sym (endings-cons c e f x)
ended-if c e f x y false is same =
    let none = unended c e f.event f.first is in
    let all : endings c e (f ∷ x) ≡ 0 + endings c e x =
    endings-cons c e f x ∙ ap (λ b. cond b 1 0 + endings c e x) none in
    let back : endings c e x ≡ endings c e (f ∷ x) = omega (arith, all) in
    same ∙ back

pub endings-ends : (c : Calls) (e : Ending) (x : List Fact)
    → endings c e (filter is_end x) ≡ endings c e x
endings-ends c e [] = refl
endings-ends c e (f ∷ x) =
    ended-if c e f x (filter is_end x) (is_end f) refl (endings-ends c e x)

-- whoever notes them
pub endings-who : (c : Calls) (e : Ending) (me : ℕ) (ds : List Done)
    → endings c e (map (done_fact 0) ds) ≡ endings c e (map (done_fact me) ds)
endings-who c e me [] = refl
endings-who c e me (d ∷ ds) =
    endings-cons c e (done_fact 0 d) (map (done_fact 0) ds)
    ∙ ap (λ n. cond (ends_so c e (done_event d) (end_bytes d.outcome d.resp)) 1 0 + n)
    (endings-who c e me ds)
    ∙ sym (endings-cons c e (done_fact me d) (map (done_fact me) ds))

-- the calls that are over are those whose ends were noted
pub counts-noted : (me : ℕ) (ds : List Done) (x : List Fact) (a b : Ledger)
    → filter is_end x ≡ map (done_fact me) ds → Counts (map (done_fact 0) ds) a b → Counts x a b
counts-noted me ds x a b ends p =
    counts-as (map (done_fact 0) ds) x a b
    (λ c e. endings-who c e me ds ∙ sym (ap (endings c e) ends) ∙ endings-ends c e x) p

-- where no call ended, nothing is counted
pub counts-silent : (x : List Fact) (l : Ledger) → filter is_end x ≡ [] → Counts x l l
counts-silent x l none = counts-noted 0 [] x l l none (counts-none l)

-- at first no call is over
pub tallies-none : (c : Calls) → Tallies c (record { ok = 0; small = 0; lost = 0; wrong = 0 }) []
tallies-none c Right = refl
tallies-none c Small = refl
tallies-none c Lost = refl
tallies-none c Wrong = refl

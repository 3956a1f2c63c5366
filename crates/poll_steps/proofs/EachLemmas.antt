-- A step for each of some numbers, one after another, and what is noted by a session's own request.
use Rattle.std.proofs.Common.{◌≡◌, ◌≤◌, ◌+◌, ◌-◌, ℕ, zero, suc, Option, Some, None, List, [], ◌∷◌}
use Rattle.std.proofs.Common.{◌++◌, length}
use Rattle.std.proofs.Common.{take, drop, refl, sym, ap, ◌∙◌, subst, arith, slice_get, min, Bool}
use Rattle.std.proofs.Common.{true, false, cond}
use Rattle.std.specs.Prelude.{map}
use Rattle.std.specs.List.{find, list_all}
use Rattle.std.proofs.Math.Seq.{take-append_seam}
use Rattle.std.proofs.lemmas.Bool.{and_parts}
use Rattle.std.proofs.lemmas.List.{take_min}
use Rattle.rpc_base.specs.declared.fact.Fact.{Fact}
use Rattle.rpc_laws.specs.declared.rows.TimerRow.{TimerRow}
use Rattle.rpc_laws.specs.declared.rows.TimerRow.TheVariants.{Waits, RollsBack, Breaks}
use Rattle.rpc_laws.specs.declared.tables.Call.{Call}
use Rattle.rpc_laws.specs.declared.tables.Client.{Client}
use Rattle.rpc_laws.specs.declared.tables.Lists.{Lists}
use Rattle.rpc_laws.specs.declared.tables.Progress.{Progress}
use Rattle.rpc_laws.specs.declared.tables.Queued.{Queued}
use Rattle.rpc_laws.specs.declared.tables.Timed.{Timed}
use Rattle.rpc_laws.specs.Calls.{is_call}
use Rattle.rpc_laws.specs.ControlSteps.{Retries, RetriesOf, TimesAll, TimesSession}
use Rattle.rpc_laws.specs.GoBackN.{call_facts, client_facts, Each, numbers_in, progress_facts}
use Rattle.rpc_laws.specs.GoBackN.{row_facts, row_of}
use Rattle.rpc_laws.specs.GoBackN.{Watches, WatchesSession}
use Rattle.rpc_laws.specs.NodeLists.{after_all}
use Rattle.rpc_laws.specs.Steps.{Rel, Then, Visits}
use Rattle.front_laws.proofs.OneWayLemmas.{OneWay, then-one}
use Rattle.front_laws.proofs.PhaseLemmas.{retries-one, session-one, watches-one}
use Rattle.rule_facts.specs.Fronts.{Fronts, Starts}
use Rattle.rule_facts.specs.Retrying.{IsFront}
use Rattle.node_rules.specs.SingleFacts.{at_clock}
use Rattle.rule_facts.specs.Watching.{call_waits, client_waits, is_waits, progress_waits}
use Rattle.poll_steps.specs.Steps.{IsStep, NoFront}
use Rattle.poll_steps.proofs.ChainLemmas.{drop-plus, take-plus, within-plus}
use Rattle.poll_steps.proofs.PostLemmas.{then-first, then-none}
use Rattle.poll_steps.proofs.StepLemmas.{from-rest, step-told}

-- the first n of the facts lead from s to t, and with Rest behind them they are Whole, which is
-- only so with Rest
-- behind them
pub record Onward (Rest Whole : Rel) (s : Timed) (facts : List Fact) (n : ℕ)
    (t : Timed) : Type 0 where
  pub within : n ≤ length facts
  pub found : (m : ℕ) (u : Timed) → m ≤ length (drop n facts) → Rest t (take m (drop n facts)) u
      → Whole s (take (n + m) facts) u
  pub lost : NoFront Rest t (drop n facts) → NoFront Whole s facts

pub onward-start : (P : Rel) (s : Timed) (facts : List Fact) → Onward P P s facts 0 s
onward-start P s facts = record {
  within = omega arith;
  found = λ m u few h.
      let same : 0 + m ≡ m = omega arith in subst (λ (k : ℕ). P s (take k facts) u) (sym same) h;
  lost = λ none. none;
}

-- one step more
pub onward-more : (P Q Whole : Rel) → OneWay P
    → (s : Timed) (facts : List Fact) (n m : ℕ) (t u : Timed) (o : Option ℕ)
    → Onward (Then P Q) Whole s facts n t → IsStep P t (take (length facts - n) (drop n facts)) u o
    → o ≡ Some m
    → Onward Q Whole s facts (n + m) u
onward-more P Q Whole one s facts n m t u o h k e =
    let step : IsStep P t (drop n facts) u (Some m) = from-rest P facts n t u o (Some m) k e in
    let left : drop (n + m) facts ≡ drop m (drop n facts) = drop-plus n m facts in
    record {
      within = within-plus n m facts h.within step.some.0;
      found = λ i w few q.
          let rest : Q u (take i (drop m (drop n facts))) w =
          subst (λ (z : List Fact). Q u (take i z) w) left q in
          let long : i ≤ length (drop m (drop n facts)) =
          subst (λ (z : List Fact). i ≤ length z) left few in
          let both : Then P Q t (take (m + i) (drop n facts)) w =
          record {
            between = u;
            front = take m (drop n facts);
            back = take i (drop m (drop n facts));
            joined = take-plus m i (drop n facts);
            first = step.some.1;
            second = rest;
          } in
          let sum : n + (m + i) ≡ n + m + i = omega arith in
          subst (λ (k : ℕ). Whole s (take k facts) w) sum
          (h.found (m + i) w (within-plus m i (drop n facts) step.some.0 long) both);
      lost = λ none.
          let stuck : NoFront Q u (drop m (drop n facts)) =
          subst (λ (z : List Fact). NoFront Q u z) left none in
          h.lost ((then-none P Q one t (drop n facts) m u u u step
          (record { some = tt; only = λ no. stuck })).only refl);
    }

-- no front of what is left is the next one
pub onward-lost : (P Q Whole : Rel) (s : Timed) (facts : List Fact) (n : ℕ) (t u v : Timed)
    (o : Option ℕ)
    → Onward (Then P Q) Whole s facts n t → IsStep P t (take (length facts - n) (drop n facts)) u o
    → o ≡ None
    → IsStep Whole s facts v None
onward-lost P Q Whole s facts n t u v o h k e = record {
  some = tt;
  only = λ no.
      h.lost ((then-first P Q t (drop n facts) u u (from-rest P facts n t u o None k e)).only refl);
}

-- nothing is left to do
pub onward-over : (P : ℕ → Rel) (Whole : Rel) (s : Timed) (facts : List Fact) (n : ℕ) (t : Timed)
    → Onward (Each P []) Whole s facts n t → IsStep Whole s facts t (Some n)
onward-over P Whole s facts n t h =
    let same : n + 0 ≡ n = omega arith in
    record {
      some = (
        h.within,
        subst (λ (k : ℕ). Whole s (take k facts) t) same (h.found 0 t (omega arith) (refl, refl)),
      );
      only = λ no. cc;
    }

-- what a session does about its own request
pub retries-step : (timeout i clock : ℕ) (s new : Lists) (facts : List Fact) (n : ℕ)
    → IsFront (RetriesOf clock timeout s.me s.life (slice_get s.clients i)) facts (Some n)
    → new ≡ after_all clock s (take n facts)
    → IsStep (Retries timeout i) (at_clock clock s) facts (at_clock clock new) (Some n)
retries-step timeout i clock s new facts n h is = record {
  some = (h.some.0, record { facts = h.some.1; goes = ap (at_clock clock) is });
  only = λ no. cc;
}

pub retries-none : (timeout i clock : ℕ) (s : Lists) (facts : List Fact) (v : Timed)
    → IsFront (RetriesOf clock timeout s.me s.life (slice_get s.clients i)) facts None
    → IsStep (Retries timeout i) (at_clock clock s) facts v None
retries-none timeout i clock s facts v h =
    record { some = tt; only = λ no x u begins k. h.only no x begins k.facts }

-- what a call gives
pub watches-step : (timeout i number clock : ℕ) (s new : Lists) (facts : List Fact) (n m : ℕ)
    (o : Option ℕ)
    → Fronts (client_facts clock timeout s.me s.queued number (slice_get s.clients i)) facts o
    → o ≡ Some n
    → m ≡ min n (length facts) → new ≡ after_all clock s (take m facts)
    → IsStep (Watches timeout i number) (at_clock clock s) facts (at_clock clock new) (Some m)
watches-step timeout i number clock s new facts n m o h e least is =
    let given : List Fact =
    client_facts clock timeout s.me s.queued number (slice_get s.clients i) in
    let told : Fronts given facts (Some n) = subst (λ (a : Option ℕ). Fronts given facts a) e h in
    let begins : Starts given facts = told.some.1 in
    let long : n ≡ length given = told.some.0 in
    let taken : take n facts ≡ given =
    ap (λ (k : ℕ). take k facts) long
    ∙ (ap (λ (z : List Fact). take (length given) z) begins.parted ∙ take-append_seam given begins.rest)
    in
    let same : take m facts ≡ take n facts =
    ap (λ (k : ℕ). take k facts) least ∙ take_min n facts in
    step-told (Watches timeout i number) clock s new facts n m
    (record { facts = taken; goes = refl }) least
    (is ∙ ap (after_all clock s) same)

pub watches-none : (timeout i number clock : ℕ) (s : Lists) (facts : List Fact) (v : Timed)
    (o : Option ℕ)
    → Fronts (client_facts clock timeout s.me s.queued number (slice_get s.clients i)) facts o
    → o ≡ None
    → IsStep (Watches timeout i number) (at_clock clock s) facts v None
watches-none timeout i number clock s facts v o h e = record {
  some = tt;
  only = λ no x u begins k.
      h.only (rw e refl)
      (record {
        rest = begins.rest;
        parted = begins.parted ∙ ap (λ (z : List Fact). z ++ begins.rest) k.facts;
      });
}

-- where no call of a session gives anything nothing is noted
waits-row : (me : ℕ) (queued : List Queued) (x : Client) (number : ℕ) (p : Progress)
    (row : TimerRow)
    → is_waits row ≡ true → row_facts me queued x number p row ≡ []
waits-row me queued x number p Waits e = refl
waits-row me queued x number p RollsBack e = cc
waits-row me queued x number p Breaks e = cc

waits-progress : (clock timeout me : ℕ) (queued : List Queued) (x : Client) (number : ℕ)
    (p : Option Progress)
    → progress_waits clock timeout x.way.number queued p ≡ true
    → progress_facts clock timeout me queued x number p ≡ []
waits-progress clock timeout me queued x number None e = refl
waits-progress clock timeout me queued x number (Some p) e =
    waits-row me queued x number p (row_of clock timeout x.way.number queued p) e

waits-call : (clock timeout me : ℕ) (queued : List Queued) (x : Client) (calls : List Call)
    (test : Call → Bool)
    → list_all (call_waits clock timeout x.way.number queued) calls ≡ true
    → call_facts clock timeout me queued x (find test calls) ≡ []
waits-call clock timeout me queued x [] test e = refl
waits-call clock timeout me queued x (c ∷ calls) test e =
    let parts = and_parts (call_waits clock timeout x.way.number queued c)
    (list_all (call_waits clock timeout x.way.number queued) calls) e in
    by (test c) (waits-progress clock timeout me queued x c.what.number c.progress parts.0)
    (waits-call clock timeout me queued x calls test parts.1)
  where
    by : (b : Bool) → call_facts clock timeout me queued x (Some c) ≡ []
        → call_facts clock timeout me queued x (find test calls) ≡ []
        → call_facts clock timeout me queued x (cond b (Some c) (find test calls)) ≡ []
    by true one rest = one
    by false one rest = rest

waits-client : (clock timeout me : ℕ) (queued : List Queued) (number : ℕ) (x : Option Client)
    → client_waits clock timeout queued x ≡ true
    → client_facts clock timeout me queued number x ≡ []
waits-client clock timeout me queued number None e = refl
waits-client clock timeout me queued number (Some x) e =
    waits-call clock timeout me queued x x.calls (is_call number) e

waits-each : (timeout i clock : ℕ) (s : Lists) (numbers : List ℕ)
    → client_waits clock timeout s.queued (slice_get s.clients i) ≡ true
    → Each (Watches timeout i) numbers (at_clock clock s) [] (at_clock clock s)
waits-each timeout i clock s [] e = (refl, refl)
waits-each timeout i clock s (n ∷ numbers) e = record {
  between = at_clock clock s;
  front = [];
  back = [];
  joined = refl;
  first = record {
    facts = sym (waits-client clock timeout s.me s.queued n (slice_get s.clients i) e);
    goes = refl;
  };
  second = waits-each timeout i clock s numbers e;
}

pub quiet-step : (timeout i clock : ℕ) (s : Lists) (facts : List Fact)
    → client_waits clock timeout s.queued (slice_get s.clients i) ≡ true
    → IsStep (WatchesSession timeout i) (at_clock clock s) facts (at_clock clock s) (Some 0)
quiet-step timeout i clock s facts e = record {
  some = (omega arith, waits-each timeout i clock s (numbers_in (slice_get s.clients i)) e);
  only = λ no. cc;
}

-- the number at a place, and those behind it
pub drop-number : (numbers : List ℕ) (k n : ℕ) → slice_get numbers k ≡ Some n
    → drop k numbers ≡ n ∷ drop (suc k) numbers
drop-number [] k n e = cc
drop-number (m ∷ numbers) zero n e = let same : m ≡ n = cc in ap (λ (z : ℕ). z ∷ numbers) same
drop-number (m ∷ numbers) (suc k) n e = drop-number numbers k n e

-- the calls of a session, of which the first so many were looked at
pub each-more : (timeout i : ℕ) (numbers : List ℕ) (k number : ℕ) (s : Timed) (facts : List Fact)
    (n m : ℕ) (t u : Timed)
    (o : Option ℕ) → slice_get numbers k ≡ Some number
    → Onward (Each (Watches timeout i) (drop k numbers))
    (Each (Watches timeout i) numbers) s facts n t
    → IsStep (Watches timeout i number) t (take (length facts - n) (drop n facts)) u o → o ≡ Some m
    → Onward (Each (Watches timeout i) (drop (k + 1) numbers))
    (Each (Watches timeout i) numbers) s facts (n + m) u
each-more timeout i numbers k number s facts n m t u o at h step e =
    let next : suc k ≡ k + 1 = omega arith in
    let here : Onward (Each (Watches timeout i) (number ∷ drop (suc k) numbers))
    (Each (Watches timeout i) numbers) s
    facts n t =
    subst (λ (z : List ℕ). Onward (Each (Watches timeout i) z) (Each (Watches timeout i) numbers) s
    facts n t)
    (drop-number numbers k number at) h in
    subst
    (λ (j : ℕ). Onward (Each (Watches timeout i) (drop j numbers))
    (Each (Watches timeout i) numbers) s facts (n + m) u)
    next
    (onward-more (Watches timeout i number) (Each (Watches timeout i) (drop (suc k) numbers))
    (Each (Watches timeout i) numbers) (watches-one timeout i number) s facts n m t u o here step e)

pub each-lost : (timeout i : ℕ) (numbers : List ℕ) (k number : ℕ) (s : Timed) (facts : List Fact)
    (n : ℕ)
    (t u v : Timed) (o : Option ℕ) → slice_get numbers k ≡ Some number
    → Onward (Each (Watches timeout i) (drop k numbers))
    (Each (Watches timeout i) numbers) s facts n t
    → IsStep (Watches timeout i number) t (take (length facts - n) (drop n facts)) u o → o ≡ None
    → IsStep (Each (Watches timeout i) numbers) s facts v None
each-lost timeout i numbers k number s facts n t u v o at h step e =
    let here : Onward (Each (Watches timeout i) (number ∷ drop (suc k) numbers))
    (Each (Watches timeout i) numbers) s
    facts n t =
    subst (λ (z : List ℕ). Onward (Each (Watches timeout i) z) (Each (Watches timeout i) numbers) s
    facts n t)
    (drop-number numbers k number at) h in
    onward-lost (Watches timeout i number) (Each (Watches timeout i) (drop (suc k) numbers))
    (Each (Watches timeout i) numbers) s facts n t u v o here step e

drop-all : (numbers : List ℕ) (k : ℕ) → k ≡ length numbers → drop k numbers ≡ []
drop-all numbers k e = ap (λ (j : ℕ). drop j numbers) e ∙ all numbers
  where
    all : (numbers : List ℕ) → drop (length numbers) numbers ≡ []
    all [] = refl
    all (m ∷ numbers) = all numbers

pub each-over : (timeout i : ℕ) (numbers : List ℕ) (k : ℕ) (s : Timed) (facts : List Fact) (n : ℕ)
    (t : Timed)
    → k ≡ length numbers
    → Onward (Each (Watches timeout i) (drop k numbers))
    (Each (Watches timeout i) numbers) s facts n t
    → IsStep (Each (Watches timeout i) numbers) s facts t (Some n)
each-over timeout i numbers k s facts n t e h =
    onward-over (Watches timeout i) (Each (Watches timeout i) numbers) s facts n t
    (subst (λ (z : List ℕ). Onward (Each (Watches timeout i) z) (Each (Watches timeout i) numbers) s
    facts n t)
    (drop-all numbers k e) h)

-- the calls that are left give nothing
pub each-quiet : (timeout i clock : ℕ) (numbers : List ℕ) (k : ℕ) (s : Timed) (facts : List Fact)
    (n : ℕ) (new : Lists)
    → Onward (Each (Watches timeout i) (drop k numbers)) (Each (Watches timeout i) numbers) s facts
    n (at_clock clock new)
    → client_waits clock timeout new.queued (slice_get new.clients i) ≡ true
    → IsStep (Each (Watches timeout i) numbers) s facts (at_clock clock new) (Some n)
each-quiet timeout i clock numbers k s facts n new h quiet =
    let same : n + 0 ≡ n = omega arith in
    let rest = waits-each timeout i clock new (drop k numbers) quiet in
    record {
      some = (
        h.within,
        subst (λ (j : ℕ). Each (Watches timeout i) numbers s (take j facts) (at_clock clock new))
            same (h.found 0 (at_clock clock new) (omega arith) rest),
      );
      only = λ no. cc;
    }

-- one number more of a list that is being made
pub numbers-more : (calls : List Call) (i : ℕ) (c : Call) (old new : List ℕ)
    → slice_get calls i ≡ Some c
    → old ≡ map (λ d. d.what.number) (take i calls) → new ≡ old ++ c.what.number ∷ []
    → new ≡ map (λ d. d.what.number) (take (i + 1) calls)
numbers-more calls i c old new at before now =
    let next : i + 1 ≡ suc i = omega arith in
    now ∙ (ap (λ (z : List ℕ). z ++ c.what.number ∷ []) before
    ∙ (sym (more calls i at) ∙ ap (λ (k : ℕ). map (λ (d : Call). d.what.number) (take k calls))
    (sym next)))
  where
    more : (calls : List Call) (i : ℕ) → slice_get calls i ≡ Some c
        → map (λ (d : Call). d.what.number) (take (suc i) calls)
        ≡ map (λ (d : Call). d.what.number) (take i calls) ++ c.what.number ∷ []
    more [] i e = cc
    more (d ∷ calls) zero e = let same : d ≡ c = cc in ap (λ (z : Call). z.what.number ∷ []) same
    more (d ∷ calls) (suc i) e = ap (λ (z : List ℕ). d.what.number ∷ z) (more calls i e)

pub numbers-all : (calls : List Call) (n : ℕ) (numbers : List ℕ) → n ≡ length calls
    → numbers ≡ map (λ d. d.what.number) (take n calls) → numbers ≡ map (λ d. d.what.number) calls
numbers-all calls n numbers e h =
    h ∙ ap (λ (z : List Call). map (λ (d : Call). d.what.number) z)
    (ap (λ (k : ℕ). take k calls) e ∙ all calls)
  where
    all : (calls : List Call) → take (length calls) calls ≡ calls
    all [] = refl
    all (d ∷ calls) = ap (λ (z : List Call). d ∷ z) (all calls)

-- the calls of a session are those that it has
pub session-step : (timeout i : ℕ) (s : Timed) (numbers : List ℕ) (facts : List Fact) (t : Timed)
    (o : Option ℕ)
    → numbers ≡ numbers_in (slice_get s.lists.clients i)
    → IsStep (Each (Watches timeout i) numbers) s facts t o
    → IsStep (WatchesSession timeout i) s facts t o
session-step timeout i s numbers facts t o e h =
    let own : IsStep (Each (Watches timeout i) (numbers_in (slice_get s.lists.clients i))) s facts t
    o =
    subst (λ (z : List ℕ). IsStep (Each (Watches timeout i) z) s facts t o) e h in
    record { some = own.some; only = own.only }

-- a session, with its calls
pub times-session-one : (timeout i : ℕ) → OneWay (TimesSession timeout i)
times-session-one timeout i =
    then-one (Retries timeout i) (WatchesSession timeout i) (retries-one timeout i)
    (session-one timeout i)

pub times-step : (s : Timed) (facts : List Fact) (t : Timed) (o : Option ℕ)
    → IsStep (Visits (TimesSession s.lists.timeout) (length s.lists.clients)) s facts t o
    → IsStep TimesAll s facts t o
times-step s facts t o h = record { some = h.some; only = h.only }

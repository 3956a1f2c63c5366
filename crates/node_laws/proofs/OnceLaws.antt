-- At most once, of every run: what an event takes isn't there a second time.
use Rattle.std.proofs.Common.{◌≡◌, ℕ, ◌+◌, ◌≤◌, Bool, true, false, ◌&&◌, cond, leb, List, [], ◌∷◌, arith}
use Rattle.std.specs.Prelude.{count_by}
use Rattle.std.proofs.lemmas.List.Sums.{sum_by-cons}
use Rattle.rpc_base.specs.declared.event.Event.{Event}
use Rattle.rpc_base.specs.declared.fact.Fact.{Fact}
use Rattle.rpc_base.specs.declared.limits.Limits.{Limits}
use Rattle.rpc_base.proofs.BasicLemmas.{at-most-one}
use Rattle.rpc_laws.specs.declared.tables.Lists.{Lists}
use Rattle.rpc_laws.specs.AtMostOnce.{is_at, runs_request, works_request, begins_call, ends_call, times, Once}
use Rattle.rpc_laws.specs.Front.{front_header, front_body}
use Rattle.rpc_laws.specs.NodeLists.{after, new_lists}
use Rattle.node_laws.specs.Laws.{HappensAtMostOnce}
use Rattle.node_laws.proofs.Allowed.{Allowed, Leads}
use Rattle.node_laws.proofs.BeginLemmas.{begin-spends}
use Rattle.node_laws.proofs.EndLemmas.{end-spends}
use Rattle.node_laws.proofs.JobLemmas.{run-spends}
use Rattle.node_laws.proofs.RunLaws.{run_leads}
use Rattle.node_laws.proofs.SpendLemmas.{to_begin, to_end}
use Rattle.node_laws.specs.Valid.{to_run, Valid}
use Rattle.node_laws.proofs.ValidLemmas.{valid_after, valid_new}

-- an event that passes the test takes one
pub record Spends (test : Event → Bool) (left : Lists → ℕ) : Type 0 where
  pub each : (clock : ℕ) (s : Lists) (f : Fact) → Valid s → left s ≤ 1 → Allowed s f.event
      → cond (test f.event) 1 0 + left (after clock s f) ≤ left s

both-less : (a b : Bool) → cond (a && b) 1 0 ≤ cond b 1 0
both-less true b = omega arith
both-less false true = omega arith
both-less false false = omega arith

times-le : (test : Event → Bool) (left : Lists → ℕ) → Spends test left
    → (n : ℕ) (s : Lists) (g : List Fact) (t : Lists) → Valid s → left s ≤ 1 → Leads s g t
    → times n test g ≤ left s
times-le test left each n s [] t v h l = omega arith
times-le test left each n s (f ∷ g) t v h l =
    let next = after l.0 s f in
    let spent = each.each l.0 s f v h l.1 in
    let few : left next ≤ 1 = omega arith in
    let rest = times-le test left each n next g t (valid_after l.0 s f v l.1) few l.2 in
    let own = both-less (is_at n f.who) (test f.event) in
    let cons : times n test (f ∷ g) ≡ cond (is_at n f.who && test f.event) 1 0 + times n test g =
    sum_by-cons (λ e. cond (is_at n e.who && test e.event) 1 0) f g in
    omega arith

begun-spends : (c : ℕ) → Spends (begins_call c) (to_begin c)
begun-spends c = record {
  each = λ clock s f v h a. begin-spends c clock f.event f.first
      (front_header s.ring) (front_body s.ring) s v h a;
}

done-spends : (c : ℕ) → Spends (ends_call c) (to_end c)
done-spends c = record {
  each = λ clock s f v h a. end-spends c clock f.event f.first
      (front_header s.ring) (front_body s.ring) s v h a;
}

ran-spends : (t r : ℕ) → Spends (runs_request t r) (to_run t r)
ran-spends t r = record { each = λ clock s f v h a. run-spends t r s v clock f a }

at-most : (a b : ℕ) → a ≤ b → b ≤ 1 → a ≤ 1
at-most a b h k = omega arith

-- an event of one node is one of all
times-few : (n : ℕ) (test : Event → Bool) (g : List Fact) → times n test g ≤ count_by (λ f. test f.event) g
times-few n test [] = omega arith
times-few n test (f ∷ g) =
    let rest = times-few n test g in
    let cons = sum_by-cons (λ (e : Fact). cond {A = ℕ} (is_at n e.who && test e.event) 1 0) f g in
    let all = sum_by-cons (λ (e : Fact). cond {A = ℕ} (test e.event) 1 0) f g in
    let own = both-less (is_at n f.who) (test f.event) in
    omega arith

module _ (me life : ℕ) (limits : Limits) (g : List Fact) (t : Lists) (l : Leads (new_lists me life limits) g t) where
  once-of : (test : Event → Bool) (left : Lists → ℕ) → Spends test left
      → left (new_lists me life limits) ≤ 1 → (n : ℕ) → times n test g ≤ 1
  once-of test left each h n =
      at-most (times n test g) (left (new_lists me life limits))
      (times-le test left each n (new_lists me life limits) g t (valid_new me life limits) h l) h

  run-once : ((n r : ℕ) → count_by (λ f. works_request n r f.event) g ≤ 1) → Once g
  run-once worked = record {
    ran = λ m n r.
        once-of (runs_request n r) (to_run n r) (ran-spends n r)
        (let one = at-most-one (leb 0 n) in omega arith) m;
    worked = λ m n r. at-most (times m (works_request n r) g)
        (count_by (λ f. works_request n r f.event) g) (times-few m (works_request n r) g)
        (worked n r);
    begun = λ n c. once-of (begins_call c) (to_begin c) (begun-spends c) (at-most-one (leb 0 c)) n;
    done = λ n c. once-of (ends_call c) (to_end c) (done-spends c) (at-most-one (leb 0 c)) n;
  }

pub once : HappensAtMostOnce
once p me life limits g t r = run-once me life limits g t.lists (run_leads r) r.worked_once

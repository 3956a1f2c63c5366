-- How often a job may still be worked: where it may still be given, or is out and wasn't worked.
use Rattle.std.proofs.Common.{◌≡◌, ◌+◌, ◌≤◌, ◌==◌, ◌&&◌, ◌||◌, ℕ, Bool, true, false, cond, List, []}
use Rattle.std.proofs.Common.{◌∷◌, ◌++◌, not, refl, ap, ◌∙◌, subst, arith, eq-eqb}
use Rattle.std.specs.Prelude.{count_by}
use Rattle.std.specs.List.{filter, list_any, AllByRecursion}
use Rattle.std.proofs.lemmas.Bool.{and_parts, eqb-true}
use Rattle.std.proofs.lemmas.List.Sums.{sum_by-cons, sum_by-append}
use Rattle.node_laws.proofs.Allowed.{Allowed, AllAllowed, allowed-of}
use Rattle.node_laws.proofs.JobLemmas.{run-spends}
use Rattle.node_laws.proofs.LeftLemmas.{falls-due}
use Rattle.node_laws.proofs.ServantLemmas.{left-after}
use Rattle.rpc_base.proofs.FirstLemmas.{sum-fewer}
use Rattle.node_laws.proofs.ValidLemmas.{valid_after}
use Rattle.node_laws.specs.Valid.{is_due, jobs_of, to_give, Valid}
use Rattle.rpc_base.specs.Tables.{without_first}
use Rattle.rpc_base.specs.declared.event.Event.{Event}
use Rattle.rpc_base.specs.declared.event.Event.TheVariants.{Given, Ran, Restarted, Worked}
use Rattle.rpc_base.specs.declared.fact.Fact.{Fact}
use Rattle.rpc_base.specs.declared.fact.Who.{Who}
use Rattle.rpc_base.specs.declared.fact.Who.TheVariants.{Node}
use Rattle.rpc_laws.specs.declared.tables.Job.{Job}
use Rattle.rpc_laws.specs.declared.tables.Lists.{Lists}
use Rattle.rpc_laws.specs.declared.tables.WorkedJob.{WorkedJob}
use Rattle.rpc_laws.specs.AtMostOnce.{works_request}
use Rattle.rpc_laws.specs.Facts.{with_two}
use Rattle.rpc_laws.specs.Front.{front_body, front_header}
use Rattle.rpc_laws.specs.Jobs.{is_job}
use Rattle.rpc_laws.specs.NodeLists.{after, after_all}
use Rattle.rpc_laws.specs.Working.{is_worked, worked_after, worked_after_all, worked_after_node, worked_at}
use Rattle.end_laws.proofs.OwnFacts.{AllOwn, is_work}
use Rattle.rpc_base.proofs.BasicLemmas.{and-false, not-false}

abbrev pub to_work : List WorkedJob → (t r : ℕ) → Lists → ℕ
to_work worked t r l =
    to_give t r l.server_numbers l.servers + cond (list_any (is_worked l.me t r) worked) 0 (jobs_of t r l.jobs.out)

-- so many times a request's job was worked
abbrev pub times_worked : (t r : ℕ) → List Fact → ℕ
times_worked t r x = count_by (λ f. works_request t r f.event) x

pub worked-append : (t r : ℕ) (x y : List Fact) → times_worked t r (x ++ y) ≡ times_worked t r x + times_worked t r y
worked-append t r x y = sum_by-append (λ f. cond (works_request t r f.event) 1 0) x y

pub worked-cons : (t r : ℕ) (f : Fact) (x : List Fact)
    → times_worked t r (f ∷ x) ≡ cond (works_request t r f.event) 1 0 + times_worked t r x
worked-cons t r f x = sum_by-cons (λ f. cond (works_request t r f.event) 1 0) f x

-- whether one of some elements passes, of which one is added or one taken out
module _ {A : Type 0} (p : A → Bool) where
  pub any-added : (xs : List A) (y : A) → p y ≡ true → list_any p (xs ++ y ∷ []) ≡ true
  any-added [] y e = rw e refl
  any-added (x ∷ xs) y e = rw (any-added xs y e) (by (p x))
    where
      by : (b : Bool) → (b || true) ≡ true
      by true = refl
      by false = refl

  pub any-same : (xs : List A) (y : A) → p y ≡ false → list_any p (xs ++ y ∷ []) ≡ list_any p xs
  any-same [] y e = rw e refl
  any-same (x ∷ xs) y e = ap (λ (b : Bool). p x || b) (any-same xs y e)

  out-by : (q : A → Bool) (x : A) (xs : List A) (b : Bool) → q x ≡ b → (q x ≡ true → p x ≡ false)
      → list_any p (without_first q xs) ≡ list_any p xs
      → list_any p (cond b xs (x ∷ without_first q xs)) ≡ (p x || list_any p xs)
  out-by q x xs true e apart ih = rw (apart e) refl
  out-by q x xs false e apart ih = ap (λ (b : Bool). p x || b) ih

  pub any-out : (q : A → Bool) (xs : List A) → ((x : A) → q x ≡ true → p x ≡ false)
      → list_any p (without_first q xs) ≡ list_any p xs
  any-out q [] apart = refl
  any-out q (x ∷ xs) apart = out-by q x xs (q x) refl (apart x) (any-out q xs apart)

  kept-by : (q : A → Bool) (x : A) (xs : List A) (b : Bool) → q x ≡ b → (q x ≡ false → p x ≡ false)
      → list_any p (filter q xs) ≡ list_any p xs
      → list_any p (cond b (x ∷ filter q xs) (filter q xs)) ≡ (p x || list_any p xs)
  kept-by q x xs true e apart ih = ap (λ (b : Bool). p x || b) ih
  kept-by q x xs false e apart ih = rw (apart e) ih

  pub any-kept : (q : A → Bool) (xs : List A) → ((x : A) → q x ≡ false → p x ≡ false)
      → list_any p (filter q xs) ≡ list_any p xs
  any-kept q [] apart = refl
  any-kept q (x ∷ xs) apart = kept-by q x xs (q x) refl (apart x) (any-kept q xs apart)

-- entries of another request, and of another node
other-request : (me t r n k : ℕ) → (n == t && k == r) ≡ false → (w : WorkedJob)
    → is_worked me n k w ≡ true → is_worked me t r w ≡ false
other-request me t r n k other w e =
    let parts = and_parts (w.node == me) (w.session == n && w.request == k) e in
    let own = and_parts (w.session == n) (w.request == k) parts.1 in
    rw (eqb-true w.session n own.0, eqb-true w.request k own.1, other) (and-false (w.node == me))

differs : (a b : ℕ) → (a ≡ b → ⊥) → (a == b) ≡ false
differs a b ne = by (a == b) refl
  where
    by : (c : Bool) → (a == b) ≡ c → c ≡ false
    by true e = absurd (ne (eqb-true a b e))
    by false e = refl

other-node : (n j t r : ℕ) → (n ≡ j → ⊥) → (s k : ℕ) (w : WorkedJob) → is_worked n s k w ≡ true
    → is_worked j t r w ≡ false
other-node n j t r ne s k w e =
    let parts = and_parts (w.node == n) (w.session == s && w.request == k) e in
    rw (eqb-true w.node n parts.0, differs n j ne) refl

-- what one node notes changes nothing of another one's
others-by : (n j t r : ℕ) → (n ≡ j → ⊥) → (e : Event) (worked : List WorkedJob)
    → list_any (is_worked j t r) (worked_after_node n e worked) ≡ list_any (is_worked j t r) worked
others-by n j t r ne (Worked s k) worked =
    any-same (is_worked j t r) worked (record { node = n; session = s; request = k })
    (rw (differs n j ne) refl)
others-by n j t r ne (Ran s k y) worked =
    any-out (is_worked j t r) (is_worked n s k) worked (other-node n j t r ne s k)
others-by n j t r ne (Restarted life) worked =
    any-kept (is_worked j t r) (λ w. not (w.node == n)) worked
    (λ w e. rw (eqb-true w.node n (not-false (w.node == n) e), differs n j ne) refl)
others-by n j t r ne _ worked = refl

abbrev pub AllNode : ℕ → List Fact → Type 0
AllNode n x = AllByRecursion (λ f. f.who ≡ Node n) x

pub others-same : (n j t r : ℕ) → (n ≡ j → ⊥) → (x : List Fact) (worked : List WorkedJob)
    → AllNode n x → list_any (is_worked j t r) (worked_after_all worked x)
    ≡ list_any (is_worked j t r) worked
others-same n j t r ne [] worked a = refl
others-same n j t r ne (f ∷ x) worked a =
    let one : worked_after worked f ≡ worked_after_node n f.event worked =
    ap (λ (p : Who). worked_at p f.event worked) a.0 in
    others-same n j t r ne x (worked_after worked f) a.1
    ∙ (ap (list_any (is_worked j t r)) one ∙ others-by n j t r ne f.event worked)

-- a job that is worked is out, and wasn't worked
abbrev pub MayWork : List WorkedJob → Lists → Event → Type 0
MayWork worked l (Worked n k) = (list_any (is_worked l.me n k) worked ≡ false) × (1 ≤ jobs_of n k l.jobs.out)
MayWork worked l (Restarted life) = ⊥
MayWork worked l _ = Unit {0}

pub idle-may : (worked : List WorkedJob) (l : Lists) (e : Event) → is_work e ≡ false → MayWork worked l e
idle-may worked l (Worked n k) h = absurd (cc)
idle-may worked l (Restarted life) h = absurd (cc)
idle-may worked l _ h = tt

cond-le : (b : Bool) (m : ℕ) → cond b 0 m ≤ m
cond-le true m = omega arith
cond-le false m = omega arith

abbrev noted : Lists → Event → List ℕ → List ℕ → Fact
noted l e first second = with_two l.me e first second

module _ (worked : List WorkedJob) (t r clock : ℕ) (l : Lists) (v : Valid l) where
  given-work : (n k : ℕ) (first second : List ℕ) → Allowed l (Given n k) → (b : Bool)
      → to_give t r l.server_numbers (after clock l (noted l (Given n k) first second)).servers
      + cond b 0 (jobs_of t r (after clock l (noted l (Given n k) first second)).jobs.out) ≤ to_give
      t r l.server_numbers l.servers + cond b 0 (jobs_of t r l.jobs.out)
  given-work n k first second a true = let less = left-after is_due falls-due t r (Given n k) second (front_header l.ring) (front_body l.ring) l v a in omega arith
  given-work n k first second a false = let spent = run-spends t r l v clock (noted l (Given n k) first second) a in omega arith

  ran-work : (n k y : ℕ) (first second : List ℕ) → Allowed l (Ran n k y) → (same : Bool)
      → (n == t && k == r) ≡ same
      → to_give t r l.server_numbers (after clock l (noted l (Ran n k y) first second)).servers
      + cond (list_any (is_worked l.me t r) (without_first (is_worked l.me n k) worked)) 0
      (jobs_of t r (without_first (is_job n k) l.jobs.out)) ≤ to_work worked t r l
  ran-work n k y first second a true e =
      let spent = run-spends t r l v clock (noted l (Ran n k y) first second) a in
      let few = v.runs t r in
      let one : cond {A = ℕ} (n == t && k == r) 1 0 ≡ 1 = ap {B = ℕ} (λ (b : Bool). cond b 1 0) e in
      let le = cond-le (list_any (is_worked l.me t r) (without_first (is_worked l.me n k) worked))
      (jobs_of t r (without_first (is_job n k) l.jobs.out)) in
      omega arith
  ran-work n k y first second a false e =
      rw (any-out (is_worked l.me t r) (is_worked l.me n k) worked (other-request l.me t r n k e))
      (by (list_any (is_worked l.me t r) worked))
    where
      by : (b : Bool) → to_give t r l.server_numbers
          (after clock l (noted l (Ran n k y) first second)).servers
          + cond b 0 (jobs_of t r (without_first (is_job n k) l.jobs.out)) ≤ to_give t r
          l.server_numbers l.servers + cond b 0 (jobs_of t r l.jobs.out)
      by true = let less = left-after is_due falls-due t r (Ran n k y) second (front_header l.ring) (front_body l.ring) l v a in omega arith
      by false =
          let less = left-after is_due falls-due t r (Ran n k y) second (front_header l.ring)
          (front_body l.ring) l v a in
          let fewer = sum-fewer (is_job n k) (λ (job : Job). cond (is_job t r job) 1 0) l.jobs.out in
          omega arith

  worked-work : (n k : ℕ) → MayWork worked l (Worked n k) → (same : Bool)
      → (n == t && k == r) ≡ same
      → cond (n == t && k == r) 1 0 + (to_give t r l.server_numbers l.servers
      + cond (list_any (is_worked l.me t r) (worked
      ++ record { node = l.me; session = n; request = k } ∷ [])) 0 (jobs_of t r l.jobs.out))
      ≤ to_work worked t r l
  worked-work n k m true e =
      let parts = and_parts (n == t) (k == r) e in
      let session = eqb-true n t parts.0 in
      let request = eqb-true k r parts.1 in
      let here : is_worked l.me t r (record { node = l.me; session = n; request = k }) ≡ true =
      rw (eq-eqb l.me l.me refl, e) refl in
      let now = any-added (is_worked l.me t r) worked (record { node = l.me; session = n; request = k }) here in
      let was : list_any (is_worked l.me t r) worked ≡ false =
      subst (λ (x : ℕ). list_any (is_worked l.me x r) worked ≡ false) session
      (subst (λ (x : ℕ). list_any (is_worked l.me n x) worked ≡ false) request m.0) in
      let some : 1 ≤ jobs_of t r l.jobs.out =
      subst (λ (x : ℕ). 1 ≤ jobs_of x r l.jobs.out) session
      (subst (λ (x : ℕ). 1 ≤ jobs_of n x l.jobs.out) request m.1) in
      rw (e, now, was) (omega arith)
  worked-work n k m false e =
      let here : is_worked l.me t r (record { node = l.me; session = n; request = k }) ≡ false =
      rw e (and-false (l.me == l.me)) in
      rw (
        e,
        any-same (is_worked l.me t r) worked (record { node = l.me; session = n; request = k })
            here,
      ) (omega arith)

  -- each working of a job takes one, and no fact adds one
  work-spends : (e : Event) (first second : List ℕ) → Allowed l e → MayWork worked l e
      → cond (works_request t r e) 1 0 + to_work (worked_after_node l.me e worked) t r
      (after clock l (noted l e first second)) ≤ to_work worked t r l
  work-spends (Given n k) first second a m = let k = given-work n k first second a (list_any (is_worked l.me t r) worked) in omega arith
  work-spends (Ran n k y) first second a m = let k = ran-work n k y first second a (n == t && k == r) refl in omega arith
  work-spends (Worked n k) first second a m = worked-work n k m (n == t && k == r) refl
  work-spends (Restarted life) first second a m = absurd m
  work-spends e first second a m =
      let less = left-after is_due falls-due t r e second (front_header l.ring)
      (front_body l.ring) l v a in omega arith

-- facts of a node
abbrev pub AllMay : List WorkedJob → ℕ → Lists → List Fact → Type 0
AllMay worked clock l [] = Unit {0}
AllMay worked clock l (f ∷ x) = MayWork worked l f.event × AllMay (worked_after worked f) clock (after clock l f) x

pub works-spend : (worked : List WorkedJob) (t r clock : ℕ) (l : Lists) (x : List Fact) → Valid l
    → AllNode l.me x → AllAllowed clock l x → AllMay worked clock l x
    → times_worked t r x + to_work (worked_after_all worked x) t r (after_all clock l x) ≤ to_work
    worked t r l
works-spend worked t r clock l [] v own a m = omega arith
works-spend worked t r clock l (f ∷ x) v own a m =
    let allowed = allowed-of l f.event f.first f.second a.0 in
    let step = work-spends worked t r clock l v f.event f.first f.second allowed m.0 in
    let same : to_work (worked_after worked f) t r (after clock l f)
    ≡ to_work (worked_after_node l.me f.event worked) t r (after clock l f) =
    ap (λ (p : Who). to_work (worked_at p f.event worked) t r (after clock l f)) own.0 in
    let rest = works-spend (worked_after worked f) t r clock (after clock l f) x
    (valid_after clock l f v allowed) own.1 a.1 m.1 in
    let cons = worked-cons t r f x in
    omega arith

-- facts with no work
pub own-node : (n : ℕ) (x : List Fact) → AllOwn false n x → AllNode n x
own-node n [] a = tt
own-node n (f ∷ x) a = (a.0.who, own-node n x a.1)

pub own-may : (worked : List WorkedJob) (clock n : ℕ) (l : Lists) (x : List Fact) → AllOwn false n x
    → AllMay worked clock l x
own-may worked clock n l [] a = tt
own-may worked clock n l (f ∷ x) a =
    (idle-may worked l f.event a.0.idle, own-may (worked_after worked f) clock n (after clock l f) x a.1)

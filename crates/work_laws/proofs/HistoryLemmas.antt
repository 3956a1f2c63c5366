-- What facts do to the world's list of worked jobs.
use Rattle.std.proofs.Common.{◌≡◌, ℕ, ◌≤◌, Bool, true, false, not, ◌&&◌, List, [], ◌∷◌}
use Rattle.std.proofs.Common.{◌++◌, map, refl, sym, ap, ◌∙◌, arith, eq-eqb, append-nil}
use Rattle.std.specs.Prelude.{◌==◌, count_by}
use Rattle.std.specs.List.{list_any, AllByRecursion}
use Rattle.std.proofs.lemmas.Bool.{and_parts, eqb-true}
use Rattle.std.proofs.lemmas.List.Elements.{filter-append}
use Rattle.end_laws.proofs.OwnFacts.{AllOwn, is_work}
use Rattle.rpc_base.proofs.BasicLemmas.{and-false, unless-true}
use Rattle.rpc_base.proofs.FirstLemmas.{counted-cons}
use Rattle.rpc_base.proofs.TakingLemmas.{filter-without_first}
use Rattle.rpc_base.specs.declared.event.Event.{Event}
use Rattle.rpc_base.specs.declared.event.Event.TheVariants.{Ran, Restarted, Worked}
use Rattle.rpc_base.specs.declared.fact.Fact.{Fact}
use Rattle.rpc_base.specs.declared.fact.Who.{Who}
use Rattle.rpc_base.specs.declared.fact.Who.TheVariants.{Net, Node}
use Rattle.rpc_laws.specs.AtMostOnce.{is_at, runs_request}
use Rattle.rpc_laws.specs.Facts.{plain}
use Rattle.rpc_laws.specs.declared.tables.Job.{Job}
use Rattle.rpc_laws.specs.declared.tables.Lists.{Lists}
use Rattle.rpc_laws.specs.declared.tables.WorkedJob.{WorkedJob}
use Rattle.rpc_laws.specs.Working.{is_worked, waiting_of, worked_after, worked_after_all}
use Rattle.rpc_laws.specs.Working.{worked_after_node, worked_at, worked_of}
use Rattle.work_laws.proofs.FilterLemmas.{any-filtered, filter-none, filter-same, filter-twice, map-any, map-filtered}
use Rattle.work_laws.proofs.FilterLemmas.{none-first}
use Rattle.work_laws.proofs.NameLemmas.{unworked}
use Rattle.work_laws.specs.Known.{changes_work, is_name, job_name, worked_name}

-- a job was worked exactly where its name is among those of the node's worked jobs
pub any-worked : (me t r : ℕ) (worked : List WorkedJob)
    → list_any (is_worked me t r) worked
    ≡ list_any (is_name (t, r)) (map worked_name (worked_of me worked))
any-worked me t r worked =
    any-filtered (λ (w : WorkedJob). w.node == me)
    (λ (w : WorkedJob). w.session == t && w.request == r) worked
    ∙ sym (map-any worked_name (is_name (t, r)) (worked_of me worked))

-- the jobs that wait, by their names
pub waiting-names : (worked : List WorkedJob) (l : Lists)
    → map job_name (waiting_of worked l)
    ≡ unworked (map worked_name (worked_of l.me worked)) (map job_name l.jobs.out)
waiting-names worked l =
    ap (map job_name) (filter-same
    (λ (job : Job). not (list_any (is_worked l.me job.session job.request) worked))
    (λ (job : Job). not (list_any (is_name (job_name job)) (map worked_name (worked_of l.me worked))))
    (λ job. ap not (any-worked l.me job.session job.request worked)) l.jobs.out)
    ∙ map-filtered job_name
    (λ n. not (list_any (is_name n) (map worked_name (worked_of l.me worked)))) l.jobs.out

pub worked-append : (worked : List WorkedJob) (x y : List Fact)
    → worked_after_all worked (x ++ y) ≡ worked_after_all (worked_after_all worked x) y
worked-append worked [] y = refl
worked-append worked (f ∷ x) y = worked-append (worked_after worked f) x y

-- facts that work nothing
idle-node : (n : ℕ) (e : Event) (worked : List WorkedJob) → changes_work e ≡ false
    → worked_after_node n e worked ≡ worked
idle-node n (Worked t r) worked h = cc
idle-node n (Ran t r y) worked h = cc
idle-node n (Restarted life) worked h = cc
idle-node n _ worked h = refl

idle-at : (who : Who) (e : Event) (worked : List WorkedJob) → changes_work e ≡ false
    → worked_at who e worked ≡ worked
idle-at Net e worked h = refl
idle-at (Node n) e worked h = idle-node n e worked h

pub idle-all : (x : List Fact) (worked : List WorkedJob)
    → AllByRecursion (λ (f : Fact). changes_work f.event ≡ false) x → worked_after_all worked x ≡ worked
idle-all [] worked h = refl
idle-all (f ∷ x) worked h =
    ap (λ (w : List WorkedJob). worked_after_all w x) (idle-at f.who f.event worked h.0) ∙ idle-all x worked h.1

-- a node that is restarted has none
none-own : (b : Bool) → (not b && b) ≡ false
none-own true = refl
none-own false = refl

pub restart-worked : (me life : ℕ) (worked : List WorkedJob)
    → worked_of me (worked_after_all worked (plain me (Restarted life) ∷ [])) ≡ []
restart-worked me life worked =
    filter-twice (λ (w : WorkedJob). w.node == me) (λ (w : WorkedJob). not (w.node == me)) worked
    ∙ filter-none (λ (w : WorkedJob). not (w.node == me) && w.node == me) (λ w. none-own (w.node == me)) worked

-- those of another node stay
still-there : (k n me : ℕ) (b : Bool) → (k == me) ≡ b → (n == me) ≡ false → (not (k == n) && b) ≡ b
still-there k n me false e h = and-false (not (k == n))
still-there k n me true e h =
    let own : (k == n) ≡ true → (n == me) ≡ true = λ same. ap (λ (i : ℕ). i == me) (sym (eqb-true k n same)) ∙ e in
    rw (unless-true (k == n) (λ same. let here = own same in cc)) refl

-- facts that aren't of a node change nothing of it
other-node : (me n : ℕ) (e : Event) (worked : List WorkedJob) → (n == me) ≡ false
    → worked_of me (worked_after_node n e worked) ≡ worked_of me worked
other-node me n (Worked t r) worked h =
    filter-append (λ (w : WorkedJob). w.node == me) worked
    (record { node = n; session = t; request = r } ∷ []) ∙ rw h (append-nil (worked_of me worked))
other-node me n (Ran t r y) worked h =
    filter-without_first (is_worked n t r) (λ (w : WorkedJob). w.node == me) worked
    (λ w e. let parts = and_parts (w.node == n) (w.session == t && w.request == r) e in
    ap (λ (k : ℕ). k == me) (eqb-true w.node n parts.0) ∙ h)
other-node me n (Restarted life) worked h =
    filter-twice (λ (w : WorkedJob). w.node == me) (λ (w : WorkedJob). not (w.node == n)) worked
    ∙ filter-same (λ (w : WorkedJob). not (w.node == n) && w.node == me) (λ (w : WorkedJob). w.node == me)
    (λ w. still-there w.node n me (w.node == me) refl h) worked
other-node me n _ worked h = refl

other-at : (me : ℕ) (who : Who) (e : Event) (worked : List WorkedJob) → is_at me who ≡ false
    → worked_of me (worked_at who e worked) ≡ worked_of me worked
other-at me Net e worked h = refl
other-at me (Node n) e worked h = other-node me n e worked h

pub others-all : (me : ℕ) (x : List Fact) (worked : List WorkedJob)
    → AllByRecursion (λ (f : Fact). is_at me f.who ≡ false) x
    → worked_of me (worked_after_all worked x) ≡ worked_of me worked
others-all me [] worked h = refl
others-all me (f ∷ x) worked h =
    others-all me x (worked_after worked f) h.1 ∙ other-at me f.who f.event worked h.0

-- facts of a node that run the handler for no job that was worked
abbrev pub Unrun : ℕ → List WorkedJob → List Fact → Type 0
Unrun me worked x =
    (t r : ℕ) → 1 ≤ count_by (λ (f : Fact). runs_request t r f.event) x
    → list_any (is_worked me t r) worked ≡ false

unrun-node : (me : ℕ) (e : Event) (worked : List WorkedJob) → is_work e ≡ false
    → ((t r : ℕ) → runs_request t r e ≡ true → list_any (is_worked me t r) worked ≡ false)
    → worked_after_node me e worked ≡ worked
unrun-node me (Worked t r) worked idle h = cc
unrun-node me (Ran t r y) worked idle h =
    none-first (is_worked me t r) worked (h t r (rw (eq-eqb t t refl, eq-eqb r r refl) refl))
unrun-node me (Restarted life) worked idle h = cc
unrun-node me _ worked idle h = refl

pub unrun-all : (me : ℕ) (x : List Fact) (worked : List WorkedJob) → AllOwn false me x
    → Unrun me worked x → worked_after_all worked x ≡ worked
unrun-all me [] worked own h = refl
unrun-all me (f ∷ x) worked own h =
    let here : worked_after_node me f.event worked ≡ worked =
    unrun-node me f.event worked own.0.idle
    (λ t r e. h t r (omega (arith, counted-cons (λ (g : Fact). runs_request t r g.event) f x true e))) in
    let one : worked_after worked f ≡ worked =
    ap (λ (p : Who). worked_at p f.event worked) own.0.who ∙ here in
    ap (λ (w : List WorkedJob). worked_after_all w x) one
    ∙ unrun-all me x worked own.1
    (λ t r some. h t r (omega (
      arith,
      some,
      counted-cons (λ (g : Fact). runs_request t r g.event) f x (runs_request t r f.event) refl,
    )))

pub not-at : (n me : ℕ) (who : Who) → is_at n who ≡ true → (n ≡ me → ⊥) → is_at me who ≡ false
not-at n me Net e ne = cc
not-at n me (Node k) e ne =
    unless-true (k == me) (λ same. ne (sym (eqb-true k n e) ∙ eqb-true k me same))

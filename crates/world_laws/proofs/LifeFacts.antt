-- The facts of one life among those of a node: those of a run, and none of a life that isn't there.
use Rattle.std.proofs.Common.{◌≡◌, ◌<◌, ◌≤◌, ◌+◌, ◌==◌, ◌&&◌, not, ℕ, Bool, true, false, cond}
use Rattle.std.proofs.Common.{List, [], ◌∷◌, ◌++◌, refl, sym, ap, ◌∙◌, subst, arith}
use Rattle.std.specs.List.{AllByRecursion}
use Rattle.std.proofs.lemmas.Bool.{eqb-true, eq-eqb}
use Rattle.std.proofs.lemmas.List.{append-nil}
use Rattle.end_laws.proofs.ListLemmas.{all-append}
use Rattle.node_laws.proofs.Allowed.{Leads}
use Rattle.node_laws.proofs.RunLaws.{run_leads}
use Rattle.node_laws.specs.NodeRun.{Group, LifeRun, NodeRun, lives_on, restarts}
use Rattle.rpc_base.specs.declared.event.Event.TheVariants.{Made, Restarted}
use Rattle.rpc_base.specs.declared.fact.Fact.{Fact}
use Rattle.rpc_base.specs.declared.fact.Who.TheVariants.{Node}
use Rattle.rpc_base.specs.declared.limits.Limits.{Limits}
use Rattle.rpc_base.proofs.BasicLemmas.{and-false}
use Rattle.rpc_outside.specs.declared.service.Mode.{Mode}
use Rattle.rpc_laws.specs.declared.tables.Lists.{Lists}
use Rattle.rpc_laws.specs.declared.tables.Timed.{Timed}
use Rattle.rpc_laws.specs.AtMostOnce.{is_at}
use Rattle.rpc_laws.specs.Endpoints.{Endpoint, begins_life, facts_by, facts_from, life_after}
use Rattle.rpc_laws.specs.Facts.{plain}
use Rattle.rpc_laws.specs.Lives.{first_life}
use Rattle.rpc_laws.specs.NodeLists.{after, new_lists, new_node}
use Rattle.rpc_laws.specs.Service.{Serving, plain_serving}
use Rattle.rpc_laws.specs.Steps.{Chain, none, more}
use Rattle.rpc_laws.specs.UsualLimits.{with_ring}
use Rattle.world_laws.specs.NodeFacts.{facts_of, IsRun, ring_of, Runs}
use Rattle.world_laws.proofs.FactLemmas.{AllAt}
use Rattle.world_laws.proofs.JointNodes.{group-keeps}

abbrev pub end_of : ℕ → ℕ → Endpoint
end_of n k = record { node = n; life = k }

apart : (a b : ℕ) → (a ≡ b → ⊥) → (a == b) ≡ false
apart a b ne = by (a == b) refl
  where
    by : (c : Bool) → (a == b) ≡ c → c ≡ false
    by true e = absurd (ne (eqb-true a b e))
    by false e = refl

-- facts of other nodes are none of them
own-by : (now : ℕ) (e : Endpoint) (f : Fact) (h : List Fact) (b : Bool) → is_at e.node f.who ≡ b
    → ((m : ℕ) → facts_from m e h ≡ facts_from m e (facts_of e.node h))
    → facts_from now e (f ∷ h) ≡ facts_from now e (cond b (f ∷ facts_of e.node h) (facts_of e.node h))
own-by now e f h true at ih =
    let c = is_at e.node f.who && (now == e.life && not (begins_life f.event)) in
    let next = life_after e.node f now in
    ap (λ (z : List Fact). cond c (f ∷ z) (facts_from next e h)) (ih now)
    ∙ ap (λ (z : List Fact). cond c (f ∷ facts_from now e (facts_of e.node h)) z) (ih next)
own-by now e f h false at ih = rw at (ih now)

pub from-own : (now : ℕ) (e : Endpoint) (h : List Fact) → facts_from now e h ≡ facts_from now e (facts_of e.node h)
from-own now e [] = refl
from-own now e (f ∷ h) = own-by now e f h (is_at e.node f.who) refl (λ m. from-own m e h)

-- facts of node n by which no life begins
abbrev AllPart : ℕ → List Fact → Type 0
AllPart n x = AllByRecursion (λ f. (f.who ≡ Node n) × (begins_life f.event ≡ false)) x

all-part : (n : ℕ) (x : List Fact) → AllAt n x → AllByRecursion (λ f. begins_life f.event ≡ false) x
    → AllPart n x
all-part n [] a b = tt
all-part n (f ∷ x) a b = ((a.0, b.0), all-part n x a.1 b.1)

-- so are those of a life
chain-part : (mode : ℕ → Mode) (n : ℕ) (s : Timed) → s.lists.me ≡ n → {x : List Fact} {t : Timed}
    → Chain (Group mode) s x t → AllPart n x × (t.lists.me ≡ n)
chain-part mode n s me none = (tt, me)
chain-part mode n s me (more {x = front} {t = between} c y u g) =
    let before = chain-part mode n s me c in
    let k = group-keeps mode between y u g in
    let at : AllAt n y = subst (λ (i : ℕ). AllAt i y) before.1 k.at in
    (all-append _ front y before.0 (all-part n y at k.begun), k.me ∙ before.1)

run-part : (v : Serving) (n life : ℕ) (limits : Limits) (g : List Fact) (t : Timed)
    → LifeRun v n life limits g t → AllPart n g
run-part v n life limits g t r = (chain-part v.mode n (new_node n life limits) refl r.steps).0

-- and the life stays
leads-life : (s : Lists) (g : List Fact) (t : Lists) → Leads s g t → t.life ≡ s.life
leads-life s [] t e = ap (λ (u : Lists). u.life) e
leads-life s (f ∷ g) t l = leads-life (after l.0 s f) g t l.2

life-is : (v : Serving) (n life : ℕ) (limits : Limits) (g : List Fact) (t : Timed)
    → LifeRun v n life limits g t → t.lists.life ≡ life
life-is v n life limits g t r = leads-life (new_lists n life limits) g t.lists (run_leads r)

-- those of a life are all of its own, or none
from-part : (n k now : ℕ) (part rest : List Fact) (b : Bool) → AllPart n part → (now == k) ≡ b
    → facts_from now (end_of n k) (part ++ rest)
    ≡ cond b (part ++ facts_from now (end_of n k) rest) (facts_from now (end_of n k) rest)
from-part n k now [] rest true all same = refl
from-part n k now [] rest false all same = refl
from-part n k now (f ∷ part) rest true all same =
    let at : is_at n f.who ≡ true = ap (is_at n) all.0.0 ∙ eq-eqb n n refl in
    rw (at, all.0.1, same) (ap (λ (y : List Fact). f ∷ y) (from-part n k now part rest true all.1 same))
from-part n k now (f ∷ part) rest false all same =
    let at : is_at n f.who ≡ true = ap (is_at n) all.0.0 ∙ eq-eqb n n refl in
    rw (at, all.0.1, same) (from-part n k now part rest false all.1 same)

from-restart : (n k now m : ℕ) (rest : List Fact)
    → facts_from now (end_of n k) (plain n (Restarted m) ∷ rest) ≡ facts_from (now + 1) (end_of n k) rest
from-restart n k now m rest = rw (eq-eqb n n refl, and-false (now == k)) refl

module _ (v : Serving) (n : ℕ) (limits : Limits) where
  -- a life that is over has none
  later-none : (m : ℕ) (g : List Fact) (t : Timed) (k : ℕ) → k < m → NodeRun v n limits m g t
      → facts_from m (end_of n k) g ≡ []
  later-none _ _ _ k lt (lives_on life g t r) =
      sym (ap (facts_from life (end_of n k)) (append-nil g))
      ∙ from-part n k life g [] false (run-part v n life limits g t r) (apart life k (λ e. omega arith))
  later-none _ _ _ k lt (restarts life part rest s t r later) =
      let less : k < life + 1 = omega arith in
      from-part n k life part (plain n (Restarted (life + 1)) ∷ rest) false
      (run-part v n life limits part s r) (apart life k (λ e. omega arith))
      ∙ (from-restart n k life (life + 1) rest ∙ later-none (life + 1) rest t k less later)

  pub life-least : (m : ℕ) (g : List Fact) (t : Timed) → NodeRun v n limits m g t → m ≤ t.lists.life
  life-least _ _ _ (lives_on life g t r) = let same = life-is v n life limits g t r in omega arith
  life-least _ _ _ (restarts life part rest s t r later) =
      let least = life-least (life + 1) rest t later in omega arith

  -- a claim of no facts, and of those of one life, is one of what a history has of that life
  of-lives : (P : List Fact → Type 0) (k m : ℕ) (g : List Fact) (t : Timed) → P []
      → ((x : List Fact) (u : Timed) → LifeRun v n k limits x u → P x) → NodeRun v n limits m g t
      → P (facts_from m (end_of n k) g)
  of-lives P k _ _ _ nothing each (lives_on life g t r) = by (life == k) refl
    where
      by : (b : Bool) → (life == k) ≡ b → P (facts_from life (end_of n k) g)
      by true e =
          subst P (sym (sym (ap (facts_from life (end_of n k)) (append-nil g))
          ∙ (from-part n k life g [] true (run-part v n life limits g t r) e ∙ append-nil g)))
          (each g t (subst (λ (i : ℕ). LifeRun v n i limits g t) (eqb-true life k e) r))
      by false e =
          subst P (sym (sym (ap (facts_from life (end_of n k)) (append-nil g))
          ∙ from-part n k life g [] false (run-part v n life limits g t r) e)) nothing
  of-lives P k _ _ _ nothing each (restarts life part rest s t r later) =
      by (life == k) refl (of-lives P k (life + 1) rest t nothing each later)
    where
      by : (b : Bool) → (life == k) ≡ b → P (facts_from (life + 1) (end_of n k) rest)
          → P (facts_from life (end_of n k) (part ++ plain n (Restarted (life + 1)) ∷ rest))
      by true e ih =
          let same : life ≡ k = eqb-true life k e in
          let less : k < life + 1 = omega arith in
          subst P (sym (from-part n k life part (plain n (Restarted (life + 1)) ∷ rest) true
          (run-part v n life limits part s r) e
          ∙ (ap (λ (y : List Fact). part ++ y) (from-restart n k life (life + 1) rest
          ∙ later-none (life + 1) rest t k less later) ∙ append-nil part)))
          (each part s (subst (λ (i : ℕ). LifeRun v n i limits part s) same r))
      by false e ih =
          subst P (sym (from-part n k life part (plain n (Restarted (life + 1)) ∷ rest) false
          (run-part v n life limits part s r) e
          ∙ from-restart n k life (life + 1) rest)) ih

  -- and so is one of the life at the end
  of-last : (P : List Fact → Type 0) (m : ℕ) (g : List Fact) (t : Timed)
      → ((life : ℕ) (x : List Fact) → LifeRun v n life limits x t → P x) → NodeRun v n limits m g t
      → P (facts_from m (end_of n t.lists.life) g)
  of-last P _ _ _ each (lives_on life g t r) =
      let e = eq-eqb life t.lists.life (sym (life-is v n life limits g t r)) in
      subst P (sym (sym (ap (facts_from life (end_of n t.lists.life)) (append-nil g))
      ∙ (from-part n t.lists.life life g [] true (run-part v n life limits g t r) e ∙ append-nil g)))
      (each life g r)
  of-last P _ _ _ each (restarts life part rest s t r later) =
      let least = life-least (life + 1) rest t later in
      subst P (sym (from-part n t.lists.life life part (plain n (Restarted (life + 1)) ∷ rest) false
      (run-part v n life limits part s r) (apart life t.lists.life (λ e. omega arith))
      ∙ from-restart n t.lists.life life (life + 1) rest))
      (of-last P (life + 1) rest t each later)

-- the Made is of the first life
from-made : (n k ring : ℕ) (g : List Fact) (b : Bool) → (first_life == k) ≡ b
    → facts_from first_life (end_of n k) (plain n (Made ring) ∷ g)
    ≡ cond b (plain n (Made ring) ∷ facts_from first_life (end_of n k) g) (facts_from first_life (end_of n k) g)
from-made n k ring g true e = rw (eq-eqb n n refl, e) refl
from-made n k ring g false e = rw (eq-eqb n n refl, e) refl

with-made : (P : List Fact → Type 0) (n k ring : ℕ) (g : List Fact)
    → ((x : List Fact) → P x → P (plain n (Made ring) ∷ x)) → P (facts_from first_life (end_of n k) g)
    → P (facts_from first_life (end_of n k) (plain n (Made ring) ∷ g))
with-made P n k ring g grows p = by (first_life == k) refl
  where
    by : (b : Bool) → (first_life == k) ≡ b
        → P (facts_from first_life (end_of n k) (plain n (Made ring) ∷ g))
    by true e = subst P (sym (from-made n k ring g true e)) (grows (facts_from first_life (end_of n k) g) p)
    by false e = subst P (sym (from-made n k ring g false e)) p

-- of every life of a node, whatever its service and its limits
pub of-made : (P : List Fact → Type 0) → P [] → (v : Serving) (limits : Limits) (n k ring : ℕ)
    → ((x : List Fact) (u : Timed) → LifeRun v n k limits x u → P x)
    → ((x : List Fact) → P x → P (plain n (Made ring) ∷ x))
    → (facts later : List Fact) (t : Timed) → facts ≡ plain n (Made ring) ∷ later
    → NodeRun v n limits first_life later t → P (facts_from first_life (end_of n k) facts)
of-made P nothing v limits n k ring each grows facts later t made run =
    subst (λ (x : List Fact). P (facts_from first_life (end_of n k) x)) (sym made)
    (with-made P n k ring later grows (of-lives v n limits P k first_life later t nothing each run))

-- of every life of a node of a script
pub of-node : (P : ℕ → List Fact → Type 0) → ((ring : ℕ) → P ring []) → (n k : ℕ)
    → ((ring : ℕ) (x : List Fact) (u : Timed) → LifeRun plain_serving n k (with_ring ring) x u → P ring x)
    → ((ring : ℕ) (x : List Fact) → P ring x → P ring (plain n (Made ring) ∷ x))
    → (h : List Fact) → Runs n (facts_of n h) → P (ring_of (facts_of n h)) (facts_by (end_of n k) h)
of-node P nothing n k each grows h node =
    subst (P (ring_of (facts_of n h))) (sym (from-own first_life (end_of n k) h)) (by (facts_of n h) node)
  where
    by : (facts : List Fact) → Runs n facts → P (ring_of facts) (facts_from first_life (end_of n k) facts)
    by facts (Runs.nowhere e) =
        subst (λ (x : List Fact). P (ring_of x) (facts_from first_life (end_of n k) x)) (sym e) (nothing 0)
    by facts (Runs.runs t r) =
        subst (λ (i : ℕ). P i (facts_from first_life (end_of n k) facts)) (sym (ap ring_of r.made))
        (of-made (P r.ring) (nothing r.ring) plain_serving (with_ring r.ring) n k r.ring (each r.ring)
        (grows r.ring) facts r.later t r.made r.run)

-- of the life at the end
pub of-end : (P : List Fact → Type 0) (n : ℕ) (t : Timed)
    → ((life : ℕ) (limits : Limits) (x : List Fact) → LifeRun plain_serving n life limits x t → P x)
    → ((ring : ℕ) (x : List Fact) → P x → P (plain n (Made ring) ∷ x))
    → (h : List Fact) → IsRun n (facts_of n h) t → P (facts_by (end_of n t.lists.life) h)
of-end P n t each grows h r =
    let e = end_of n t.lists.life in
    let inner = of-last plain_serving n (with_ring r.ring) P first_life r.later t
    (λ life x. each life (with_ring r.ring) x) r.run in
    let whole : P (facts_from first_life e (plain n (Made r.ring) ∷ r.later)) =
    with-made P n t.lists.life r.ring r.later (grows r.ring) inner in
    subst P (sym (from-own first_life e h ∙ ap (facts_from first_life e) r.made)) whole

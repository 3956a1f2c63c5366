-- Whole fronts of lawful histories are lawful.
use Rattle.std.proofs.Common.{◌≡◌, ℕ, Bool, true, false, cond, List, [], ◌∷◌, ◌++◌, refl, sym, ap, ◌∙◌, subst}
use Rattle.std.specs.List.{AllByRecursion}
use Rattle.front_laws.proofs.RunFronts.{run-front}
use Rattle.front_laws.specs.Whole.{ends_open, is_open, open_after}
use Rattle.lawful_history.proofs.LawfulLemmas.{lawful-by}
use Rattle.lawful_history.specs.Laws.{WholeFrontsAreLawful}
use Rattle.report_text.specs.Told.{IsTold}
use Rattle.rpc_base.specs.declared.event.Event.TheVariants.{Made}
use Rattle.rpc_base.specs.declared.fact.Fact.{Fact}
use Rattle.rpc_laws.specs.AtMostOnce.{is_at}
use Rattle.rpc_laws.specs.Endpoints.{Lived, told}
use Rattle.rpc_laws.specs.Facts.{plain}
use Rattle.rpc_laws.specs.Lives.{first_life}
use Rattle.rpc_laws.specs.OwnAnswer.{AtEach}
use Rattle.rpc_laws.specs.Service.{plain_serving}
use Rattle.rpc_laws.specs.UsualLimits.{with_ring}
use Rattle.node_laws.specs.NodeRun.{NodeRun}
use Rattle.world_laws.proofs.FactLemmas.{facts-append}
use Rattle.world_laws.specs.NodeFacts.{facts_of, nowhere, Runs, runs}

pub all-front : (P : Fact → Type 0) (x y : List Fact) → AllByRecursion P (x ++ y) → AllByRecursion P x
all-front P [] y a = tt
all-front P (f ∷ x) y a = (a.0, all-front P x y a.1)

pub each-front : (P : List Lived → Fact → Type 0) (past : List Lived) (x y : List Fact) → AtEach P past (x ++ y)
    → AtEach P past x
each-front P past [] y a = tt
each-front P past (f ∷ x) y a = (a.0, each-front P (told past f ∷ past) x y a.1)

-- whether a node is in the midst of a poll is told by its own facts
pub open-own : (n : ℕ) (busy : Bool) (h : List Fact) → is_open n busy h ≡ ends_open busy (facts_of n h)
open-own n busy [] = refl
open-own n busy (f ∷ h) =
    by (is_at n f.who) (open-own n (open_after f.event busy) h) (open-own n busy h)
  where
    by : (b : Bool) → is_open n (open_after f.event busy) h ≡ ends_open (open_after f.event busy) (facts_of n h)
        → is_open n busy h ≡ ends_open busy (facts_of n h)
        → is_open n (cond b (open_after f.event busy) busy) h
        ≡ ends_open busy (cond b (f ∷ facts_of n h) (facts_of n h))
    by true e g = e
    by false e g = g

-- a node's part of a whole front is a run where all of it is
pub runs-front : (n : ℕ) (g x : List Fact) → Runs n (g ++ x) → ends_open false g ≡ false → Runs n g
runs-front n [] x r shut = nowhere refl
runs-front n (f ∷ g) x (nowhere e) shut = absurd (no-empty e)
  where
    no-empty : f ∷ g ++ x ≡ [] → ⊥
    no-empty e = cc
runs-front n (f ∷ g) x (runs t r) shut =
    let head : f ≡ plain n (Made r.ring) = first r.made in
    let tail : g ++ x ≡ r.later = rest r.made in
    let run : NodeRun plain_serving n (with_ring r.ring) first_life (g ++ x) t =
    subst (λ (z : List Fact). NodeRun plain_serving n (with_ring r.ring) first_life z t) (sym tail) r.run in
    let closed : ends_open false g ≡ false =
    subst (λ (z : Fact). ends_open (open_after z.event false) g ≡ false) head shut in
    let p = run-front plain_serving n first_life (with_ring r.ring) g x t run closed in
    runs p.left (record { ring = r.ring; later = g; made = ap (λ (z : Fact). z ∷ g) head; run = p.run })
  where
    first : f ∷ g ++ x ≡ plain n (Made r.ring) ∷ r.later → f ≡ plain n (Made r.ring)
    first e = cc

    rest : f ∷ g ++ x ≡ plain n (Made r.ring) ∷ r.later → g ++ x ≡ r.later
    rest e = cc

pub lawful-front : WholeFrontsAreLawful
lawful-front p x l whole =
    lawful-by p
    (λ n. runs-front n (facts_of n p) (facts_of n x)
    (subst (λ (z : List Fact). Runs n z) (facts-append n p x) (l.nodes n))
    (sym (open-own n false p) ∙ whole n))
    (all-front _ p x l.net) (each-front _ [] p x l.own) (each-front _ [] p x l.fits) (all-front IsTold p x l.told)

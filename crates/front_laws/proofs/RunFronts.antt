-- A run of a node goes down to its whole fronts, in each of its lives.
use Rattle.std.proofs.Common.{◌≡◌, ◌≤◌, ◌+◌, ℕ, Bool, cond, true, false, List, [], ◌∷◌, ◌++◌, refl, sym, ap, ◌∙◌, subst, arith}
use Rattle.std.proofs.Common.{append-nil}
use Rattle.std.specs.Prelude.{count_by}
use Rattle.std.proofs.lemmas.List.Sums.{sum_by-cons}
use Rattle.rpc_base.specs.declared.event.Event.TheVariants.{Restarted}
use Rattle.rpc_base.specs.declared.fact.Fact.{Fact}
use Rattle.rpc_base.specs.declared.limits.Limits.{Limits}
use Rattle.rpc_laws.specs.declared.tables.Timed.{Timed}
use Rattle.rpc_laws.specs.AtMostOnce.{works_request}
use Rattle.rpc_laws.specs.Facts.{plain}
use Rattle.rpc_laws.specs.NodeLists.{new_node}
use Rattle.rpc_laws.specs.Service.{Answers, Serving, served_after}
use Rattle.rpc_outside.specs.Served.{Served}
use Rattle.node_laws.specs.NodeRun.{LifeRun, lives_on, NodeRun, restarts}
use Rattle.node_laws.proofs.ValidLemmas.{valid_new}
use Rattle.front_laws.specs.Laws.{IsFront, LivesAreCut, RunsAreCut}
use Rattle.front_laws.specs.Whole.{ends_open}
use Rattle.front_laws.proofs.CutLemmas.{cut, early, late, open-append, two-ways, TwoWays}

pub count-front : {A : Type 0} (p : A → Bool) (x y : List A) → count_by p x ≤ count_by p (x ++ y)
count-front p [] y = omega arith
count-front p (a ∷ x) y =
    let rest = count-front p x y in
    let one = sum_by-cons (λ z. cond (p z) 1 0) a x in
    let two = sum_by-cons (λ z. cond (p z) 1 0) a (x ++ y) in
    omega arith

pub answers-front : (v : Serving) (served : Served) (x y : List Fact) → Answers v served (x ++ y) → Answers v served x
answers-front v served [] y a = tt
answers-front v served (f ∷ x) y a =
    (a.0, answers-front v (served_after v.mode f.event f.first served) x y a.1)

-- a life of g and x, of which g ends outside of a poll, is a life of g and then groups of x
pub life-front : LivesAreCut
life-front v me life limits g x t r whole =
    let s = cut v.mode (new_node me life limits) g x (valid_new me life limits) r.steps refl whole in
    record {
      between = s.between;
      run = record {
        steps = s.first;
        worked_once = λ session request.
            let few = r.worked_once session request in
            let front = count-front (λ f. works_request session request f.event) g x in
            omega arith;
        answers = answers-front v [] g x r.answers;
      };
      rest = s.second;
    }

-- so it is of a run: the front ends in its first life, or goes on in a later one
module _ (v : Serving) (me : ℕ) (limits : Limits) where
  of-life : (life : ℕ) (z g x : List Fact) (t : Timed) → LifeRun v me life limits z t → z ≡ g ++ x
      → ends_open false g ≡ false → IsFront v me life limits g
  of-life life z g x t r e whole =
      let parts = life-front v me life limits g x t
      (subst (λ (y : List Fact). LifeRun v me life limits y t) e r) whole in
      record { left = parts.between; run = lives_on life g parts.between parts.run }

  -- a fact that begins a life leaves no poll open
  shut : (life : ℕ) (b : Bool) (k : List Fact) → ends_open b (plain me (Restarted life) ∷ k) ≡ ends_open false k
  shut life true k = refl
  shut life false k = refl

  of-parts : (life : ℕ) (part rest g x : List Fact) (s : Timed) → LifeRun v me life limits part s
      → ((k : List Fact) → rest ≡ k ++ x → ends_open false k ≡ false → IsFront v me (life + 1) limits k)
      → TwoWays part (plain me (Restarted (life + 1)) ∷ rest) g x → ends_open false g ≡ false
      → IsFront v me life limits g
  of-parts life part rest g x s r later (late k e f) whole = of-life life part g k s r e whole
  of-parts life part rest g x s r later (early [] e f) whole =
      of-life life part g [] s r (sym (e ∙ append-nil part) ∙ sym (append-nil g)) whole
  of-parts life part rest g x s r later (early (f ∷ k) e h) whole =
      let same : plain me (Restarted (life + 1)) ≡ f = cc in
      let tail : rest ≡ k ++ x = cc in
      let next = plain me (Restarted (life + 1)) in
      let is : g ≡ part ++ next ∷ k = e ∙ ap (λ (w : Fact). part ++ w ∷ k) (sym same) in
      let outside : ends_open false k ≡ false =
      sym (ap (ends_open false) is ∙ (open-append false part (next ∷ k)
      ∙ shut (life + 1) (ends_open false part) k)) ∙ whole in
      let last = later k tail outside in
      record {
        left = last.left;
        run = subst (λ (y : List Fact). NodeRun v me limits life y last.left) (sym is)
            (restarts life part k s last.left r last.run);
      }

  front-of : (life : ℕ) (z g x : List Fact) (t : Timed) → NodeRun v me limits life z t → z ≡ g ++ x
      → ends_open false g ≡ false → IsFront v me life limits g
  front-of life z g x t (lives_on w y u r) e whole = of-life life z g x t r e whole
  front-of life z g x t (restarts w part rest s u r next) e whole =
      of-parts life part rest g x s r (λ k h outside. front-of (life + 1) rest k x t next h outside)
      (two-ways part (plain me (Restarted (life + 1)) ∷ rest) g x e) whole

pub run-front : RunsAreCut
run-front v me life limits g x t r whole = front-of v me limits life (g ++ x) g x t r refl whole

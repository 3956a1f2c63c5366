-- What comes over a wire is a copy that is repeated, and then carried.
use Rattle.std.proofs.Common.{◌≡◌, ◌<◌, ◌≤◌, ℕ, zero, suc, List, [], ◌∷◌, ◌++◌, length, Option, Some}
use Rattle.std.proofs.Common.{slice_get, refl, sym, ap, ◌∙◌, subst, append-nil, arith}
use Rattle.std.specs.Prelude.{option_to_list, count_by}
use Rattle.std.specs.List.{remove, slice_set}
use Rattle.std.proofs.lemmas.List.Elements.{filter-append}
use Rattle.rpc_base.specs.declared.event.Event.{Event}
use Rattle.rpc_base.specs.declared.event.Event.TheVariants.{Repeated, Carried}
use Rattle.rpc_base.specs.declared.fact.Fact.{Fact}
use Rattle.rpc_laws.specs.declared.tables.InFlight.{InFlight}
use Rattle.rpc_laws.specs.AtMostOnce.{is_at, works_request}
use Rattle.rpc_laws.specs.Facts.{of_net}
use Rattle.rpc_laws.specs.InFlight.{flight_after_net}
use Rattle.rpc_laws.specs.Service.{Answers}
use Rattle.end_laws.specs.JointRun.{Party, Joint, JointSteps, JointRun, at_node}
use Rattle.end_laws.specs.JointRun as joint
use Rattle.end_laws.specs.WireRun.{HearsCopy, WireStep, WireSteps, WireRun, IsJoined, makes, acts, pairs, hears, none, more}
use Rattle.end_laws.proofs.ListLemmas.{add-last}

module _ {A : Type 0} where
  remove-last : (xs : List A) (y : A) → remove (xs ++ y ∷ []) (length xs) ≡ xs
  remove-last [] y = refl
  remove-last (x ∷ xs) y = ap (λ ys. x ∷ ys) (remove-last xs y)

  in-range : (xs : List A) (i : ℕ) (y : A) → slice_get xs i ≡ Some y → i < length xs
  in-range [] i y h = cc
  in-range (x ∷ xs) zero y h = omega arith
  in-range (x ∷ xs) (suc i) y h = let k = in-range xs i y h in omega arith

-- these facts without some of the network
pub data Without : List Fact → List Fact → Type 0 where
  none_left : Without [] []
  kept : {h : List Fact} {g : List Fact} (f : Fact) → Without h g → Without (f ∷ h) (f ∷ g)
  left_out : {h : List Fact} {g : List Fact} (e : Event) → Without h g → Without (of_net e ∷ h) g

without-same : (x : List Fact) → Without x x
without-same [] = none_left
without-same (f ∷ x) = kept f (without-same x)

without-append : {h : List Fact} {g : List Fact} {x : List Fact} {y : List Fact} → Without h g
    → Without x y → Without (h ++ x) (g ++ y)
without-append none_left w = w
without-append (kept f v) w = kept f (without-append v w)
without-append (left_out e v) w = left_out e (without-append v w)

-- the facts of the nodes are those of the wires
pub record Joined (parties : ℕ → Party) (g : List Fact) (t : Joint) : Type 0 where
  pub history : List Fact
  pub steps : JointSteps parties history t
  pub same : (n : ℕ) → at_node n history ≡ at_node n g
  pub without : Without history g

at-append : (n : ℕ) (h x : List Fact) → at_node n (h ++ x) ≡ at_node n h ++ at_node n x
at-append n h x = filter-append (λ (f : Fact). is_at n f.who) h x

same-append : (n : ℕ) (h g x : List Fact) → at_node n h ≡ at_node n g → at_node n (h ++ x) ≡ at_node n (g ++ x)
same-append n h g x e = at-append n h x ∙ (ap (λ y. y ++ at_node n x) e ∙ sym (at-append n g x))

one-step : (parties : ℕ → Party) (g : List Fact) (s : Joint) (x : List Fact) (t : Joint) → Joined parties g s
    → joint.JointStep parties s x t → Joined parties (g ++ x) t
one-step parties g s x t j h = record {
  history = j.history ++ x;
  steps = joint.more j.steps x t h;
  same = λ n. same-append n j.history g x (j.same n);
  without = without-append j.without (without-same x);
}

hears-step : (parties : ℕ → Party) (g : List Fact) (s : Joint) (x : List Fact) (t : Joint) → Joined parties g s
    → HearsCopy s x t → Joined parties (g ++ x) t
hears-step parties g s x t j h =
    let i = h.number in
    let last = length s.flight in
    let twice : List Fact = of_net (Repeated i) ∷ [] in
    let two : Joint = record { nodes = s.nodes; flight = s.flight ++ h.copy ∷ [] } in
    let grown : flight_after_net (Repeated i) s.flight ≡ s.flight ++ h.copy ∷ [] =
    ap (λ (o : Option InFlight). s.flight ++ option_to_list o) h.is_copy in
    let first : joint.JointStep parties s twice two = joint.of_network (record {
      event = Repeated i;
      may = in-range s.flight i h.copy h.is_copy;
      facts = refl;
      left = ap (λ (f : List InFlight). record { nodes = s.nodes; flight = f }) (sym grown);
    }) in
    let carried : List Fact = of_net (Carried last) ∷ x in
    let second : joint.JointStep parties two carried t = joint.carries (record {
      number = last;
      copy = h.copy;
      is_copy = add-last s.flight h.copy;
      before = h.before;
      now = h.now;
      is_node = h.is_node;
      delivered = x;
      delivers = h.delivers;
      facts = refl;
      left = h.left ∙ ap (λ (f : List InFlight). record { nodes = slice_set s.nodes h.copy.to h.now; flight = f })
          (sym (remove-last s.flight h.copy));
    }) in
    record {
      history = (j.history ++ twice) ++ carried;
      steps = joint.more (joint.more j.steps twice two first) carried t second;
      without = subst (Without ((j.history ++ twice) ++ carried)) (ap (λ y. y ++ x) (append-nil g))
          (without-append (without-append j.without (left_out (Repeated i) none_left))
          (left_out (Carried last) (without-same x)));
      same = λ n.
          at-append n (j.history ++ twice) carried
          ∙ (ap (λ (y : List Fact). y ++ at_node n x) (at-append n j.history twice ∙ append-nil (at_node n j.history) ∙ j.same n)
          ∙ sym (at-append n g x));
    }

step-joins : (parties : ℕ → Party) (g : List Fact) (s : Joint) (x : List Fact) (t : Joint) → Joined parties g s
    → WireStep parties s x t → Joined parties (g ++ x) t
step-joins parties g s x t j (makes h) = one-step parties g s x t j (joint.makes h)
step-joins parties g s x t j (acts h) = one-step parties g s x t j (joint.acts h)
step-joins parties g s x t j (pairs h) = one-step parties g s x t j (joint.pairs h)
step-joins parties g s x t j (hears h) = hears-step parties g s x t j h

pub steps-join : (parties : ℕ → Party) {g : List Fact} {t : Joint} → WireSteps parties g t → Joined parties g t
steps-join parties none =
    record { history = []; steps = joint.none; same = λ n. refl; without = none_left }
steps-join parties (more {x = x} {t = t} c y u h) = step-joins parties x t y u (steps-join parties c) h

pub joined-run : (parties : ℕ → Party) (g : List Fact) (t : Joint) → WireRun parties g t
    → (j : Joined parties g t) → JointRun parties j.history t
joined-run parties g t run j = record {
  steps = j.steps;
  worked_once = λ n s r.
      subst (λ (y : List Fact). count_by (λ f. works_request s r f.event) y ≤ 1) (sym (j.same n)) (run.worked_once n s r);
  answers = λ n. subst (Answers (parties n).serving []) (sym (j.same n)) (run.answers n);
}

pub wires-join : (parties : ℕ → Party) (g : List Fact) (t : Joint) → WireRun parties g t → IsJoined parties g t
wires-join parties g t run =
    let j = steps-join parties run.steps in
    record { history = j.history; run = joined-run parties g t run j; same = j.same }

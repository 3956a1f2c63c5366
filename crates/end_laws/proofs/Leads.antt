-- A stage whose nodes, flight and clock are those of a moment, and the steps of one node there.
use Rattle.std.proofs.Common.{◌≡◌, ◌≤◌, ◌+◌, ◌&&◌, ℕ, Bool, true, false, zero, suc, cond, List, [], ◌∷◌, ◌++◌, length, Some, slice_get}
use Rattle.std.proofs.Common.{refl, sym, ap, ◌∙◌, subst}
use Rattle.std.specs.List.{slice_set}
use Rattle.rpc_base.specs.declared.event.Event.{Event}
use Rattle.rpc_base.specs.declared.event.Event.TheVariants.{Restarted}
use Rattle.rpc_base.specs.declared.fact.Fact.{Fact}
use Rattle.rpc_base.proofs.PlaceLemmas.{set-here, set-other}
use Rattle.network_model.specs.declared.stage.Stage.{Stage}
use Rattle.rpc_laws.specs.declared.tables.Lists.{Lists}
use Rattle.rpc_laws.specs.declared.tables.Timed.{Timed}
use Rattle.rpc_laws.specs.AtMostOnce.{is_at}
use Rattle.rpc_laws.specs.Endpoints.{Lived, begins_life, life_by, told}
use Rattle.rpc_laws.specs.InFlight.{flight_after_all}
use Rattle.rpc_laws.specs.Lives.{first_life}
use Rattle.rpc_laws.specs.NodeLists.{after, after_all}
use Rattle.rpc_laws.specs.Working.{worked_after_all}
use Rattle.node_laws.specs.Valid.{Valid}
use Rattle.node_laws.proofs.Allowed.{AllAllowed as AllLawful, allowed-of}
use Rattle.node_laws.proofs.LeadsLemmas.{valid_after_all}
use Rattle.end_laws.specs.Moments.{Moment}
use Rattle.end_laws.specs.Moments.{hand_noted}
use Rattle.end_laws.proofs.Allowed.{WalksFrom}
use Rattle.end_laws.proofs.Courses.{latest, AtNode, Course, over, at_node, course-append, noted_at, moved-node}
use Rattle.end_laws.proofs.Courses.{is_made, may-unmade}
use Rattle.end_laws.proofs.ListLemmas.{Placed, set-placed, length-slice_set}
use Rattle.end_laws.proofs.QueueLemmas.{RightNode}

-- a fact that begins no life leaves those of all nodes
pub life-kept : (n : ℕ) (f : Lived) (past : List Lived) → begins_life f.fact.event ≡ false
    → life_by n (f ∷ past) ≡ life_by n past
life-kept n f past h = by (is_at n f.fact.who) (begins_life f.fact.event) h
  where
    by : (a b : Bool) → b ≡ false → cond (a && b) (life_by n past + 1) (life_by n past) ≡ life_by n past
    by true true e = cc
    by true false e = refl
    by false b e = refl

pub unbegun : (e : Event) → is_made e ≡ false → begins_life e ≡ false
unbegun (Restarted life) h = cc
unbegun _ h = refl

-- a node as the moment has it
pub record NodeFits (clock : ℕ) (nodes : List Lists) (past : List Lived) (n : ℕ) (t : Timed) : Type 0 where
  pub is_node : slice_get nodes n ≡ Some t.lists
  pub me : t.lists.me ≡ n
  pub life : t.lists.life ≡ life_by n past
  pub late : t.clock ≤ clock
  pub right : RightNode t.lists
  pub valid : Valid t.lists

pub record Fits (s : Stage) (w : Moment) : Type 0 where
  pub clock : w.clock ≡ s.clock
  pub flight : w.flight ≡ s.flight
  pub size : length w.nodes ≡ length s.nodes
  pub nodes : Placed (NodeFits s.clock w.nodes w.past) s.nodes
  pub unborn : (n : ℕ) → length s.nodes ≤ n → life_by n w.past ≡ first_life

-- these facts lead from a moment to one that fits
pub record Leads (w : Moment) (x : List Fact) (t : Stage) : Type 0 where
  pub end : Moment
  pub course : Course false w x end
  pub fits : Fits t end

-- so each such step does
abbrev pub Leading : (Stage → List Fact → Stage → Type 0) → Type 0
Leading P = (s : Stage) (w : Moment) (x : List Fact) (t : Stage) → Fits s w → P s x t → Leads w x t

pub leads-none : (s t : Stage) (w : Moment) (x : List Fact) → Fits s w → x ≡ [] → t ≡ s → Leads w x t
leads-none s t w x f e g = rw (e, g) (record { end = w; course = over w; fits = f })

pub leads-append : (s : Stage) (w : Moment) (x y : List Fact) (t : Stage) → (l : Leads w x s)
    → Leads l.end y t → Leads w (x ++ y) t
leads-append s w x y t l k =
    record {
      end = k.end;
      course = course-append w x l.end y k.end l.course k.course;
      fits = k.fits;
    }

-- the facts of a node from its lists on
pub record NodeCourse (free : Bool) (w : Moment) (n : ℕ) (l : Lists) (x : List Fact) : Type 0 where
  pub end : Moment
  pub course : Course free w x end
  pub nodes : end.nodes ≡ slice_set w.nodes n (after_all w.clock l x)
  pub flight : end.flight ≡ flight_after_all w.flight x
  pub clock : end.clock ≡ w.clock
  pub lives : (j : ℕ) → life_by j end.past ≡ life_by j w.past

set-same : {A : Type 0} (xs : List A) (i : ℕ) (x : A) → slice_get xs i ≡ Some x → xs ≡ slice_set xs i x
set-same [] i x h = cc
set-same (z ∷ zs) zero x h = cc
set-same (z ∷ zs) (suc i) x h = ap (λ ys. z ∷ ys) (set-same zs i x h)

pub set-twice : {A : Type 0} (xs : List A) (i : ℕ) (x y : A) → slice_set (slice_set xs i x) i y ≡ slice_set xs i y
set-twice [] i x y = refl
set-twice (z ∷ zs) zero x y = refl
set-twice (z ∷ zs) (suc i) x y = ap (λ ys. z ∷ ys) (set-twice zs i x y)

pub node-course : {free : Bool} (w : Moment) (n : ℕ) (l : Lists) (x : List Fact) → slice_get w.nodes n ≡ Some l
    → l.me ≡ n → l.life ≡ life_by n w.past → WalksFrom w.hand (latest w.past) w.clock l x → AllLawful w.clock l x
    → NodeCourse free w n l x
node-course w n l [] is me life h v =
    record {
      end = w;
      course = over w;
      nodes = set-same w.nodes n l is;
      flight = refl;
      clock = refl;
      lives = λ j. refl;
    }
node-course {free} w n l (f ∷ x) is me life h v =
    let a : AtNode w n l f =
    record {
      is_node = is;
      me = me;
      life = life;
      allowed = h.0;
      lawful = allowed-of l f.event f.first f.second v.0;
      linked = h.1;
    } in
    let e = moved-node w n l f a in
    let walks : WalksFrom (hand_noted n f.event l.inbox w.hand) (Some f) w.clock
    (after w.clock l f) x =
    subst (λ (m : ℕ). WalksFrom (hand_noted m f.event l.inbox w.hand) (Some f) w.clock
    (after w.clock l f) x) me h.2 in
    let kept : (j : ℕ) → life_by j (told w.past f ∷ w.past) ≡ life_by j w.past =
    λ j. life-kept j (told w.past f) w.past
    (unbegun f.event (may-unmade w.hand l f.event f.first f.second h.0.may)) in
    let rest = node-course {free = free} (noted_at w n l f) n (after w.clock l f) x
    (set-here w.nodes n l (after w.clock l f) is) me (life ∙ sym (kept n)) walks v.1 in
    record {
      end = rest.end;
      course = at_node w n l f x rest.end a (subst (λ (v : Moment). Course free v x rest.end) (sym e) rest.course);
      nodes = rest.nodes ∙ set-twice w.nodes n (after w.clock l f) (after_all w.clock (after w.clock l f) x);
      flight = rest.flight;
      clock = rest.clock;
      lives = λ j. rest.lives j ∙ kept j;
    }

-- a step of one node, whose facts are those of its lists
pub record NodeStep (s : Stage) (w : Moment) (n : ℕ) (before now : Timed) (x : List Fact) : Type 0 where
  pub is_node : slice_get s.nodes n ≡ Some before
  pub walks : WalksFrom w.hand (latest w.past) s.clock before.lists x
  pub lawful : AllLawful s.clock before.lists x
  pub lists : now.lists ≡ after_all s.clock before.lists x
  pub late : now.clock ≤ s.clock
  pub right : RightNode now.lists

pub me-after : (clock : ℕ) (l : Lists) (x : List Fact) → (after_all clock l x).me ≡ l.me
me-after clock l [] = refl
me-after clock l (f ∷ x) = me-after clock (after clock l f) x

pub life-stays : (clock : ℕ) (l : Lists) (x : List Fact) → (after_all clock l x).life ≡ l.life
life-stays clock l [] = refl
life-stays clock l (f ∷ x) = life-stays clock (after clock l f) x

pub step-leads : (s : Stage) (w : Moment) (n : ℕ) (before now : Timed) (x : List Fact) (t : Stage)
    → Fits s w → NodeStep s w n before now x
    → t ≡ record {
      nodes = slice_set s.nodes n now;
      flight = flight_after_all s.flight x;
      worked = worked_after_all s.worked x;
      clock = s.clock;
    } → Leads w x t
step-leads s w n before now x t f h left =
    let fit = f.nodes n before h.is_node in
    let walks : WalksFrom w.hand (latest w.past) w.clock before.lists x = rw (f.clock) h.walks in
    let lawful : AllLawful w.clock before.lists x = rw (f.clock) h.lawful in
    let c = node-course {free = false} w n before.lists x fit.is_node fit.me fit.life walks lawful in
    let lists : after_all w.clock before.lists x ≡ now.lists =
    ap (λ (k : ℕ). after_all k before.lists x) f.clock ∙ sym h.lists in
    let ends : c.end.nodes ≡ slice_set w.nodes n now.lists =
    c.nodes ∙ ap (λ (l : Lists). slice_set w.nodes n l) lists in
    let here : NodeFits s.clock (slice_set w.nodes n now.lists) c.end.past n now = record {
      is_node = set-here w.nodes n before.lists now.lists fit.is_node;
      me = ap (λ (l : Lists). l.me) h.lists ∙ (me-after s.clock before.lists x ∙ fit.me);
      life = ap (λ (l : Lists). l.life) h.lists
          ∙ (life-stays s.clock before.lists x ∙ (fit.life ∙ sym (c.lives n)));
      late = h.late;
      right = h.right;
      valid = rw (h.lists) (valid_after_all s.clock before.lists x fit.valid h.lawful);
    } in
    let others : (j : ℕ) (z : Timed) → (j ≡ n → ⊥) → slice_get s.nodes j ≡ Some z → NodeFits s.clock (slice_set w.nodes n now.lists) c.end.past j z = λ j z ne is. let k = f.nodes j z is in record { is_node = set-other w.nodes n j now.lists ne ∙ k.is_node; me = k.me; life = k.life ∙ sym (c.lives j); late = k.late; right = k.right; valid = k.valid } in
    let placed : Placed (NodeFits s.clock (slice_set w.nodes n now.lists) c.end.past)
    (slice_set s.nodes n now) =
    set-placed (NodeFits s.clock (slice_set w.nodes n now.lists) c.end.past) s.nodes n before now
    h.is_node here others in
    rw left (record {
      end = c.end;
      course = c.course;
      fits = record {
        clock = c.clock ∙ f.clock;
        flight = c.flight ∙ ap (λ k. flight_after_all k x) f.flight;
        size = ap length ends ∙ (length-slice_set w.nodes n now.lists
            ∙ (f.size ∙ sym (length-slice_set s.nodes n now)));
        nodes = subst (λ (ns : List Lists). Placed (NodeFits s.clock ns c.end.past) (slice_set s.nodes n now)) (sym ends) placed;
        unborn = λ j le. c.lives j ∙ f.unborn j (subst (λ (k : ℕ). k ≤ j) (length-slice_set s.nodes n now) le);
      };
    })

-- a step that leaves the node
pub step-stays : (s : Stage) (w : Moment) (n : ℕ) (before : Timed) (x : List Fact) (t : Stage)
    → Fits s w → NodeStep s w n before before x → flight_after_all s.flight x ≡ s.flight
    → worked_after_all s.worked x ≡ s.worked → t ≡ s → Leads w x t
step-stays s w n before x t f h flight worked e =
    let whole : s ≡ record {
      nodes = slice_set s.nodes n before;
      flight = flight_after_all s.flight x;
      worked = worked_after_all s.worked x;
      clock =
          s.clock;
    } = rw (flight, worked) (ap
    (λ (ns : List Timed). record {
      nodes = ns;
      flight = s.flight;
      worked = s.worked;
      clock = s.clock;
    }) (set-same s.nodes n before h.is_node)) in
    step-leads s w n before before x t f h (e ∙ whole)

-- The lives of a run, cut where one begins.
use Rattle.std.proofs.Common.{◌≡◌, ◌+◌, ℕ, true, false, List, [], ◌∷◌, ◌++◌}
use Rattle.std.proofs.Common.{refl, sym, ap, ◌∙◌, subst, append-nil, true≢false}
use Rattle.rpc_base.specs.declared.event.Event.{Event}
use Rattle.rpc_base.specs.declared.event.Event.TheVariants.{Made, Polled, Restarted}
use Rattle.rpc_base.specs.declared.fact.Fact.{Fact}
use Rattle.rpc_base.specs.declared.limits.Limits.{Limits}
use Rattle.rpc_laws.specs.declared.tables.Timed.{Timed}
use Rattle.rpc_laws.specs.Endpoints.{begins_life}
use Rattle.rpc_laws.specs.Facts.{plain}
use Rattle.rpc_laws.specs.Lives.{first_life}
use Rattle.rpc_laws.specs.NodeLists.{after, new_node}
use Rattle.rpc_laws.specs.Service.{plain_serving, Serving}
use Rattle.rpc_laws.specs.Steps.{Chain, more, none}
use Rattle.rpc_laws.specs.UsualLimits.{with_ring}
use Rattle.rpc_outside.specs.declared.service.Mode.{Mode}
use Rattle.node_laws.specs.NodeRun.{Group, LifeRun, lives_on, NodeRun, restarts}
use Rattle.front_laws.specs.Laws.{NoneBegins}
use Rattle.front_laws.specs.Told.{left_at, left_by, told_clock}
use Rattle.front_laws.specs.Whole.{ends_poll, is_polls}
use Rattle.front_laws.proofs.CutLemmas.{early, late, two-ways, TwoWays}
use Rattle.front_laws.proofs.PollFacts.{AllPolls, poll-ending}
use Rattle.front_laws.proofs.ToldLemmas.{alone, group-kind, Kind, life-told, poll, two}
use Rattle.world_laws.specs.NodeFacts.{made_ring, nowhere, Runs, runs}

-- no life begins in the facts of one
pub quiet-append : (x y : List Fact) → NoneBegins x → NoneBegins y → NoneBegins (x ++ y)
quiet-append [] y a b = b
quiet-append (f ∷ x) y a b = (a.0, quiet-append x y a.1 b)

not-ending : (e : Event) → ends_poll e ≡ false → begins_life e ≡ false
not-ending (Restarted life) h = cc
not-ending _ h = refl

not-polls : (e : Event) → is_polls e ≡ true → begins_life e ≡ false
not-polls (Restarted life) h = cc
not-polls _ h = refl

polls-quiet : (n : ℕ) (x : List Fact) → AllPolls n x → NoneBegins x
polls-quiet n [] a = tt
polls-quiet n (f ∷ x) a = (not-polls f.event a.0.1, polls-quiet n x a.1)

kind-quiet : (mode : ℕ → Mode) (s : Timed) (x : List Fact) (t : Timed) → Kind mode s x t → NoneBegins x
kind-quiet mode s x t (alone f q e goes) =
    subst (λ (y : List Fact). NoneBegins y) (sym e) (not-ending f.event q.polled, tt)
kind-quiet mode s x t (two f g q r e goes) =
    subst (λ (y : List Fact). NoneBegins y) (sym e)
    (not-ending f.event q.polled, (not-ending g.event r.polled, tt))
kind-quiet mode s x t (poll now h) =
    let e = poll-ending mode now s.lists.me s x t refl h in
    subst (λ (y : List Fact). NoneBegins y) (sym e.joined)
    (quiet-append e.front (plain s.lists.me (Polled t.clock) ∷ []) (polls-quiet s.lists.me e.front e.all) (refl, tt))

pub chain-quiet : (mode : ℕ → Mode) (s : Timed) {x : List Fact} {t : Timed} → Chain (Group mode) s x t
    → NoneBegins x
chain-quiet mode s none = tt
chain-quiet mode s (more {x} {t} c y u p) =
    quiet-append x y (chain-quiet mode s c) (kind-quiet mode t y u (group-kind mode t y u p))

-- a fact among others
quiet-at : (k x : List Fact) (f : Fact) → NoneBegins (k ++ f ∷ x) → begins_life f.event ≡ true → ⊥
quiet-at [] x f a e = true≢false (sym e ∙ a.0)
quiet-at (g ∷ k) x f a e = quiet-at k x f a.1 e

-- a node keeps its number, its life and its ring in a life
pub record Stays (s t : Timed) : Type 0 where
  pub me : t.lists.me ≡ s.lists.me
  pub life : t.lists.life ≡ s.lists.life
  pub room : t.lists.room ≡ s.lists.room

stays-at : (now : ℕ) (s : Timed) (f : Fact) → begins_life f.event ≡ false
    → left_at now s f ≡ record { lists = after now s.lists f; clock = now }
stays-at now s f e = rw e refl

left-stays : (s : Timed) (x : List Fact) → NoneBegins x → Stays s (left_by s x)
left-stays s [] a = record { me = refl; life = refl; room = refl }
left-stays s (f ∷ x) a =
    let now = told_clock s.clock (f ∷ x) in
    let t : Timed = record { lists = after now s.lists f; clock = now } in
    let rest = left-stays t x a.1 in
    let same : left_by t x ≡ left_by s (f ∷ x) = ap (λ (w : Timed). left_by w x) (sym (stays-at now s f a.0)) in
    subst (λ (w : Timed). Stays s w) same (record { me = rest.me; life = rest.life; room = rest.room })

module _ (v : Serving) (me : ℕ) (limits : Limits) where
  pub life-quiet : (life : ℕ) (x : List Fact) (t : Timed) → LifeRun v me life limits x t → NoneBegins x
  life-quiet life x t r = chain-quiet v.mode (new_node me life limits) r.steps

  pub life-stays : (life : ℕ) (x : List Fact) (t : Timed) → LifeRun v me life limits x t
      → Stays (new_node me life limits) t
  life-stays life x t r =
      subst (λ (w : Timed). Stays (new_node me life limits) w) (life-told v me life limits x t r)
      (left-stays (new_node me life limits) x (life-quiet life x t r))

  -- a run that begins with facts of one life
  pub record Within (life : ℕ) (y : List Fact) : Type 0 where
    pub rest : List Fact
    pub end : Timed
    pub run : LifeRun v me life limits (y ++ rest) end

  within-parts : (life : ℕ) (part rest y x : List Fact) (s : Timed) → LifeRun v me life limits part s
      → TwoWays part (plain me (Restarted (life + 1)) ∷ rest) y x → NoneBegins y → Within life y
  within-parts life part rest y x s r (early [] e h) a =
      record {
        rest = [];
        end = s;
        run = subst (λ (z : List Fact). LifeRun v me life limits z s)
            (sym (append-nil part) ∙ (sym e ∙ sym (append-nil y))) r;
      }
  within-parts life part rest y x s r (early (f ∷ k) e h) a =
      let same : plain me (Restarted (life + 1)) ≡ f = cc in
      absurd (quiet-at part k f (subst (λ (z : List Fact). NoneBegins z) e a)
      (ap (λ (w : Fact). begins_life w.event) (sym same)))
  within-parts life part rest y x s r (late k e h) a =
      record { rest = k; end = s; run = subst (λ (z : List Fact). LifeRun v me life limits z s) e r }

  within-of : (life : ℕ) (w y x : List Fact) (t : Timed) → NodeRun v me limits life w t → w ≡ y ++ x
      → NoneBegins y → Within life y
  within-of life w y x t (lives_on n z u r) e a =
      record { rest = x; end = t; run = subst (λ (z : List Fact). LifeRun v me life limits z t) e r }
  within-of life w y x t (restarts n part rest s u r next) e a =
      within-parts life part rest y x s r (two-ways part (plain me (Restarted (life + 1)) ∷ rest) y x e) a

  pub within : (life : ℕ) (y x : List Fact) (t : Timed) → NodeRun v me limits life (y ++ x) t → NoneBegins y
      → Within life y
  within life y x t r a = within-of life (y ++ x) y x t r refl a

  -- a run whose first life ends with a fact
  pub record Ended (life : ℕ) (y : List Fact) (f : Fact) (x : List Fact) (t : Timed) : Type 0 where
    pub restart : f ≡ plain me (Restarted (life + 1))
    pub end : Timed
    pub run : LifeRun v me life limits y end
    pub rest : NodeRun v me limits (life + 1) x t

  ended-here : (life : ℕ) (part rest y x : List Fact) (f : Fact) (s t : Timed)
      → LifeRun v me life limits part s → NodeRun v me limits (life + 1) rest t → part ≡ y
      → plain me (Restarted (life + 1)) ∷ rest ≡ f ∷ x → Ended life y f x t
  ended-here life part rest y x f s t r next e h =
      let tail : rest ≡ x = cc in
      record {
        restart = cc;
        end = s;
        run = subst (λ (z : List Fact). LifeRun v me life limits z s) e r;
        rest = subst (λ (z : List Fact). NodeRun v me limits (life + 1) z t) tail next;
      }

  ended-parts : (life : ℕ) (part rest y x : List Fact) (f : Fact) (s t : Timed)
      → LifeRun v me life limits part s → NodeRun v me limits (life + 1) rest t
      → TwoWays part (plain me (Restarted (life + 1)) ∷ rest) y (f ∷ x) → NoneBegins y
      → begins_life f.event ≡ true → Ended life y f x t
  ended-parts life part rest y x f s t r next (early [] e h) a b =
      ended-here life part rest y x f s t r next (sym (e ∙ append-nil part)) h
  ended-parts life part rest y x f s t r next (early (g ∷ k) e h) a b =
      let same : plain me (Restarted (life + 1)) ≡ g = cc in
      absurd (quiet-at part k g (subst (λ (z : List Fact). NoneBegins z) e a)
      (ap (λ (w : Fact). begins_life w.event) (sym same)))
  ended-parts life part rest y x f s t r next (late [] e h) a b =
      ended-here life part rest y x f s t r next (e ∙ append-nil y) (sym h)
  ended-parts life part rest y x f s t r next (late (g ∷ k) e h) a b =
      let same : f ≡ g = cc in
      absurd (quiet-at y k g (subst (λ (z : List Fact). NoneBegins z) e (life-quiet life part s r))
      (ap (λ (w : Fact). begins_life w.event) (sym same) ∙ b))

  ended-of : (life : ℕ) (w y x : List Fact) (f : Fact) (t : Timed) → NodeRun v me limits life w t
      → w ≡ y ++ f ∷ x → NoneBegins y → begins_life f.event ≡ true → Ended life y f x t
  ended-of life w y x f t (lives_on n z u r) e a b =
      absurd (quiet-at y x f (subst (λ (k : List Fact). NoneBegins k) e (life-quiet life w t r)) b)
  ended-of life w y x f t (restarts n part rest s u r next) e a b =
      ended-parts life part rest y x f s t r next
      (two-ways part (plain me (Restarted (life + 1)) ∷ rest) y (f ∷ x) e) a b

  pub ended : (life : ℕ) (y x : List Fact) (f : Fact) (t : Timed) → NodeRun v me limits life (y ++ f ∷ x) t
      → NoneBegins y → begins_life f.event ≡ true → Ended life y f x t
  ended life y x f t r a b = ended-of life (y ++ f ∷ x) y x f t r refl a b

-- the run of a node whose facts are its Made and others
pub run-of : (me ring : ℕ) (x : List Fact) → Runs me (plain me (Made ring) ∷ x)
    → (t : Timed) × NodeRun plain_serving me (with_ring ring) first_life x t
run-of me ring x (nowhere e) = absurd (empty e)
  where
    empty : plain me (Made ring) ∷ x ≡ [] → ⊥
    empty e = cc
run-of me ring x (runs t r) =
    let made = r.made in
    let head : plain me (Made ring) ≡ plain me (Made r.ring) = cc in
    let tail : x ≡ r.later = cc in
    let same : ring ≡ r.ring = ap (λ (f : Fact). made_ring f.event) head in (
      t,
      subst (λ (z : List Fact). NodeRun plain_serving me (with_ring ring) first_life z t) (sym tail)
          (subst (λ (k : ℕ). NodeRun plain_serving me (with_ring k) first_life r.later t) (sym same) r.run),
    )

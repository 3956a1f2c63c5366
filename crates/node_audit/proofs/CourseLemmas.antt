-- The course of a node, a fact later.
use Rattle.std.proofs.Common.{◌≡◌, ◌≤◌, ◌+◌, ◌==◌, ℕ, Bool, true, false, List, [], ◌∷◌, ◌++◌, arith}
use Rattle.std.proofs.Common.{refl, sym, ap, ◌∙◌, subst, append-nil, append_assoc, true≢false, eq-eqb, eqb-true}
use Rattle.std.specs.Prelude.{◌↔◌, Result, Ok, Err, IfOk}
use Rattle.rpc_base.specs.declared.event.Event.TheVariants.{Made, Restarted}
use Rattle.rpc_base.specs.declared.fact.Fact.{Fact}
use Rattle.rpc_laws.specs.declared.tables.Timed.{Timed}
use Rattle.rpc_laws.specs.AtMostOnce.{works_request}
use Rattle.rpc_laws.specs.Endpoints.{begins_life}
use Rattle.rpc_laws.specs.Facts.{plain}
use Rattle.rpc_laws.specs.Lives.{first_life}
use Rattle.rpc_laws.specs.NodeLists.{new_node}
use Rattle.rpc_laws.specs.Service.{plain_serving}
use Rattle.rpc_laws.specs.Steps.{Chain, none}
use Rattle.rpc_laws.specs.UsualLimits.{with_ring}
use Rattle.rpc_outside.specs.PlainAnswer.{plain_mode}
use Rattle.node_laws.specs.NodeRun.{Group, LifeRun, lives_on, restarts}
use Rattle.front_laws.specs.Laws.{NoneBegins}
use Rattle.front_laws.specs.Whole.{ends_open}
use Rattle.front_laws.proofs.CutLemmas.{open-append}
use Rattle.front_laws.proofs.GroupLemmas.{run-shut}
use Rattle.front_laws.proofs.RunFronts.{answers-front, count-front}
use Rattle.front_laws.proofs.ToldLemmas.{chain-shut}
use Rattle.world_laws.specs.NodeFacts.{nowhere, Runs, runs}
use Rattle.node_audit.specs.declared.course.Course.{Course}
use Rattle.node_audit.specs.Course.{IsBroken, IsGoing, KeepsCourse, LeadsTo, RunsFrom}
use Rattle.node_audit.specs.Groups.{GoesOn, IsNew, KeepsGroups, left}
use Rattle.node_audit.specs.Handled.{IsHandled, KeepsHandled}
use Rattle.node_audit.proofs.GroupsLemmas.{new-next}
use Rattle.node_audit.proofs.LifeLemmas.{ended, life-stays, quiet-append, run-of, within}

-- at its beginning nothing was handled
nothing-handled : IsHandled []
nothing-handled = record { once = λ t r. nothing; answers = tt }
  where
    nothing : 0 ≤ 1
    nothing = omega arith

-- what was handled in a life was in its fronts
handled-front : (me life ring : ℕ) (x y : List Fact) (t : Timed)
    → LifeRun plain_serving me life (with_ring ring) (x ++ y) t → IsHandled x
handled-front me life ring x y t r = record {
  once = λ session request.
      let few = r.worked_once session request in
      let front = count-front (λ (f : Fact). works_request session request f.event) x y in
      omega arith;
  answers = answers-front plain_serving [] x y r.answers;
}

-- a restart to the life that follows
pub restart-is : (f : Fact) (me next life : ℕ) (b : Bool) → f.event ≡ Restarted next → f ≡ plain me f.event
    → b ≡ (next == life + 1) → (b ≡ true) ↔ (f ≡ plain me (Restarted (life + 1)))
restart-is f me next life b e own is = (
  λ h. own ∙ ap (plain me) (e ∙ ap Restarted (eqb-true next (life + 1) (sym is ∙ h))),
  λ h. let same : Restarted next ≡ Restarted (life + 1) = sym e ∙ ap (λ (w : Fact). w.event) h in
      let n : next ≡ life + 1 = cc in
      is ∙ eq-eqb next (life + 1) n,
)

-- the first fact of a node
pub made-first : (c : Course) (me ring : ℕ) (f : Fact) → f ≡ plain me (Made ring)
    → IsNew c.groups me first_life ring → KeepsHandled c.handled [] → KeepsCourse c me (f ∷ [])
made-first c me ring f e new handled = record {
  ring = ring;
  life = first_life;
  past = [];
  present = [];
  facts = ap (λ (g : Fact). g ∷ []) e;
  leads = λ x t. (λ r. r, λ r. r);
  one = tt;
  groups = new-next me first_life ring c.groups new;
  handled = handled;
  right = nothing-handled;
}

pub not-made : (me : ℕ) (f : Fact) → ((ring : ℕ) → f ≡ plain me (Made ring) → ⊥) → IsBroken me (f ∷ [])
not-made me f h x (nowhere e) = absurd (empty e)
  where
    empty : f ∷ x ≡ [] → ⊥
    empty e = cc
not-made me f h x (runs t r) = h r.ring (head r.made)
  where
    head : {y z : List Fact} {g : Fact} → f ∷ y ≡ g ∷ z → f ≡ g
    head e = cc

module _ (c : Course) (me : ℕ) (g : List Fact) (f : Fact) (k : KeepsCourse c me g) where
  -- the facts, one later
  facts-then : (x : List Fact) → g ++ f ∷ x ≡ plain me (Made k.ring) ∷ k.past ++ (k.present ++ f ∷ x)
  facts-then x =
      ap (λ (y : List Fact). y ++ f ∷ x) k.facts
      ∙ ap (λ (y : List Fact). plain me (Made k.ring) ∷ y) (append_assoc k.past k.present (f ∷ x))

  -- a run that goes on with them
  run-then : (x : List Fact) → Runs me ((g ++ f ∷ []) ++ x)
      → (t : Timed) × RunsFrom me k.life k.ring (k.present ++ f ∷ x) t
  run-then x r =
      let all : (g ++ f ∷ []) ++ x ≡ plain me (Made k.ring) ∷ k.past ++ (k.present ++ f ∷ x) =
      append_assoc g (f ∷ []) x ∙ facts-then x in
      let run = run-of me k.ring (k.past ++ (k.present ++ f ∷ x)) (subst (λ (y : List Fact). Runs me y) all r) in
      (run.0, (k.leads (k.present ++ f ∷ x) run.0).0 run.1)

  -- the life of a fact that begins none
  module _ (e : begins_life f.event ≡ false) where
    one-then : NoneBegins (k.present ++ f ∷ [])
    one-then = quiet-append k.present (f ∷ []) k.one (e, tt)

    pub goes-then : (d : Course) (r : Bool) → KeepsHandled d.handled (k.present ++ f ∷ [])
        → IsHandled (k.present ++ f ∷ []) → GoesOn r d.groups me k.life k.ring (k.present ++ f ∷ [])
        → IsGoing r d me (g ++ f ∷ [])
    goes-then d true handled right groups = record {
      ring = k.ring;
      life = k.life;
      past = k.past;
      present = k.present ++ f ∷ [];
      facts = facts-then [];
      leads = k.leads;
      one = one-then;
      groups = groups;
      handled = handled;
      right = right;
    }
    goes-then d false handled right groups = λ x r.
        let run = run-then x r in
        let life = within plain_serving me (with_ring k.ring) k.life (k.present ++ f ∷ []) x run.0
        (subst (λ (y : List Fact). RunsFrom me k.life k.ring y run.0) (sym (append_assoc k.present (f ∷ []) x)) run.1)
        one-then in
        groups life.rest life.end life.run.steps

    pub not-handled : (IsHandled (k.present ++ f ∷ []) → ⊥) → IsBroken me (g ++ f ∷ [])
    not-handled h x r =
        let run = run-then x r in
        let life = within plain_serving me (with_ring k.ring) k.life (k.present ++ f ∷ []) x run.0
        (subst (λ (y : List Fact). RunsFrom me k.life k.ring y run.0) (sym (append_assoc k.present (f ∷ []) x)) run.1)
        one-then in
        h (handled-front me k.life k.ring (k.present ++ f ∷ []) life.rest life.end life.run)

  -- outside of a poll the present life is one
  all-done : c.groups.pending ≡ [] → k.present ≡ k.groups.done
  all-done e =
      k.groups.facts ∙ (ap (λ (y : List Fact). k.groups.done ++ y) e ∙ append-nil k.groups.done)

  pub life-done : c.groups.pending ≡ []
      → LifeRun plain_serving me k.life (with_ring k.ring) k.present (left c.groups)
  life-done e = record {
    steps = subst (λ (y : List Fact). Chain (Group plain_mode) (new_node me k.life (with_ring k.ring)) y (left c.groups))
        (sym (all-done e)) k.groups.groups;
    worked_once = k.right.once;
    answers = k.right.answers;
  }

  -- and its facts end there
  pub shut-none : ends_open false k.present ≡ false → c.groups.pending ≡ []
  shut-none shut =
      let outside = chain-shut plain_mode (new_node me k.life (with_ring k.ring)) k.groups.groups in
      let inside : ends_open false c.groups.pending ≡ false =
      sym (ap (ends_open false) k.groups.facts
      ∙ (open-append false k.groups.done c.groups.pending
      ∙ ap (λ (b : Bool). ends_open b c.groups.pending) outside)) ∙ shut in
      k.groups.in_poll c.groups.pending [] (sym (append-nil c.groups.pending)) inside

  -- a fact that begins a life
  module _ (e : begins_life f.event ≡ true) where
    leads-then : f ≡ plain me (Restarted (k.life + 1)) → c.groups.pending ≡ []
        → LeadsTo me (k.life + 1) k.ring (k.past ++ (k.present ++ f ∷ []))
    leads-then same shut x t = (forth, back)
      where
        all : (k.past ++ (k.present ++ f ∷ [])) ++ x ≡ k.past ++ (k.present ++ f ∷ x)
        all =
            append_assoc k.past (k.present ++ f ∷ []) x
            ∙ ap (λ (y : List Fact). k.past ++ y) (append_assoc k.present (f ∷ []) x)

        forth : RunsFrom me first_life k.ring ((k.past ++ (k.present ++ f ∷ [])) ++ x) t
            → RunsFrom me (k.life + 1) k.ring x t
        forth r =
            let run = (k.leads (k.present ++ f ∷ x) t).0
            (subst (λ (y : List Fact). RunsFrom me first_life k.ring y t) all r) in
            (ended plain_serving me (with_ring k.ring) k.life k.present x f t run k.one e).rest

        back : RunsFrom me (k.life + 1) k.ring x t
            → RunsFrom me first_life k.ring ((k.past ++ (k.present ++ f ∷ [])) ++ x) t
        back r =
            let run : RunsFrom me k.life k.ring (k.present ++ f ∷ x) t =
            subst (λ (w : Fact). RunsFrom me k.life k.ring (k.present ++ w ∷ x) t) (sym same)
            (restarts k.life k.present x (left c.groups) t (life-done shut) r) in
            subst (λ (y : List Fact). RunsFrom me first_life k.ring y t) (sym all)
            ((k.leads (k.present ++ f ∷ x) t).1 run)

    pub restart-then : (d : Course) → f ≡ plain me (Restarted (k.life + 1)) → c.groups.pending ≡ []
        → IsNew d.groups me (k.life + 1) k.ring → KeepsHandled d.handled [] → KeepsCourse d me (g ++ f ∷ [])
    restart-then d same shut new handled = record {
      ring = k.ring;
      life = k.life + 1;
      past = k.past ++ (k.present ++ f ∷ []);
      present = [];
      facts = facts-then []
          ∙ ap (λ (y : List Fact). plain me (Made k.ring) ∷ y)
          (sym (append-nil (k.past ++ (k.present ++ f ∷ []))));
      leads = leads-then same shut;
      one = tt;
      groups = new-next me (k.life + 1) k.ring d.groups new;
      handled = handled;
      right = nothing-handled;
    }

    -- no other fact begins one
    pub no-restart : (f ≡ plain me (Restarted (k.life + 1)) → c.groups.pending ≡ [] → ⊥)
        → IsBroken me (g ++ f ∷ [])
    no-restart h x r =
        let run = run-then x r in
        let end = ended plain_serving me (with_ring k.ring) k.life k.present x f run.0 run.1 k.one e in
        h end.restart (shut-none (chain-shut plain_mode (new_node me k.life (with_ring k.ring)) end.run.steps))

-- what the lists tell of the node, outside of a poll
module _ (c : Course) (me : ℕ) (g : List Fact) (k : KeepsCourse c me g) where
  past-shut : ends_open false k.past ≡ false
  past-shut =
      let run : RunsFrom me k.life k.ring [] (new_node me k.life (with_ring k.ring)) =
      lives_on k.life [] (new_node me k.life (with_ring k.ring))
      (record { steps = none; worked_once = nothing-handled.once; answers = tt }) in
      let all = (k.leads [] (new_node me k.life (with_ring k.ring))).1 run in
      ap (ends_open false) (sym (append-nil k.past)) ∙ run-shut plain_serving me (with_ring k.ring) all

  pub runs-now : ends_open false g ≡ false → Runs me g
  runs-now shut =
      let inside : ends_open false k.present ≡ false =
      sym (ap (ends_open false) k.facts
      ∙ (open-append false k.past k.present ∙ ap (λ (b : Bool). ends_open b k.present) past-shut)) ∙ shut in
      let over = shut-none c me g (plain me (Made 0)) k inside in
      let life = lives_on k.life k.present (left c.groups) (life-done c me g (plain me (Made 0)) k over) in
      runs (left c.groups) (record {
        ring = k.ring;
        later = k.past ++ k.present;
        made = k.facts;
        run = (k.leads k.present (left c.groups)).1 life;
      })

pub broken-now : (me : ℕ) (g : List Fact) → IsBroken me g → Runs me g → ⊥
broken-now me g h r = h [] (subst (λ (y : List Fact). Runs me y) (sym (append-nil g)) r)

-- its number, its life and its ring stand in its lists
module _ (c : Course) (t : ℕ × ℕ × ℕ) (f : Fact)
    (is_t : t ≡ (c.groups.lists.me, c.groups.lists.life, c.groups.lists.room))
    (shut : c.groups.pending ≡ []) (next : ℕ) (e : f.event ≡ Restarted next) where
  begins-so : begins_life f.event ≡ true
  begins-so = ap begins_life e

  me-is : (me : ℕ) (g : List Fact) → KeepsCourse c me g → t.0 ≡ me
  me-is me g k =
      let s = life-stays plain_serving me (with_ring k.ring) k.life k.present (left c.groups)
      (life-done c me g f k shut) in
      ap (λ (u : ℕ × ℕ × ℕ). u.0) is_t ∙ s.me

  life-is : (me : ℕ) (g : List Fact) → (k : KeepsCourse c me g) → t.1 ≡ k.life
  life-is me g k =
      let s = life-stays plain_serving me (with_ring k.ring) k.life k.present (left c.groups)
      (life-done c me g f k shut) in
      ap (λ (u : ℕ × ℕ × ℕ). u.1) is_t ∙ s.life

  ring-is : (me : ℕ) (g : List Fact) → (k : KeepsCourse c me g) → t.2 ≡ k.ring
  ring-is me g k =
      let s = life-stays plain_serving me (with_ring k.ring) k.life k.present (left c.groups)
      (life-done c me g f k shut) in
      ap (λ (u : ℕ × ℕ × ℕ). u.2) is_t ∙ s.room

  pub restart-not : (f ≡ plain t.0 (Restarted (t.1 + 1)) → ⊥) → (me : ℕ) (g : List Fact) → KeepsCourse c me g
      → IsBroken me (g ++ f ∷ [])
  restart-not h me g k =
      no-restart c me g f k begins-so
      (λ same none. h (rw (me-is me g k, life-is me g k) same))

  pub restart-all : (d : Course) → f ≡ plain t.0 (Restarted (t.1 + 1)) → IsNew d.groups t.0 next t.2
      → KeepsHandled d.handled [] → (me : ℕ) (g : List Fact) → KeepsCourse c me g
      → KeepsCourse d me (g ++ f ∷ [])
  restart-all d same new handled me g k =
      let event : Restarted next ≡ Restarted (t.1 + 1) = sym e ∙ ap (λ (w : Fact). w.event) same in
      let number : next ≡ t.1 + 1 = cc in
      let life : next ≡ k.life + 1 = number ∙ ap (λ (n : ℕ). n + 1) (life-is me g k) in
      let begun : IsNew d.groups me (k.life + 1) k.ring =
      subst (λ (n : ℕ). IsNew d.groups me n k.ring) life
      (subst (λ (n : ℕ). IsNew d.groups me next n) (ring-is me g k)
      (subst (λ (n : ℕ). IsNew d.groups n next t.2) (me-is me g k) new)) in
      let told : f ≡ plain me (Restarted (k.life + 1)) =
      same
      ∙ (ap (λ (n : ℕ). plain n (Restarted (t.1 + 1))) (me-is me g k)
      ∙ ap (λ (n : ℕ). plain me (Restarted (n + 1))) (life-is me g k)) in
      restart-then c me g f k begins-so d told shut begun handled

-- a restart in the midst of a poll
pub restart-open : (c : Course) (f : Fact) (next : ℕ) → f.event ≡ Restarted next
    → (c.groups.pending ≡ [] → ⊥) → (me : ℕ) (g : List Fact) → KeepsCourse c me g
    → IsBroken me (g ++ f ∷ [])
restart-open c f next e h me g k =
    no-restart c me g f k (ap begins_life e) (λ same none. h none)

-- a fact of the present life
pub not-all : (c : Course) (f : Fact) (b : Bool) → begins_life f.event ≡ false
    → ((x : List Fact) → KeepsHandled c.handled x → IsHandled x → (b ≡ true) ↔ IsHandled (x ++ f ∷ []))
    → b ≡ false → (me : ℕ) (g : List Fact) → KeepsCourse c me g → IsBroken me (g ++ f ∷ [])
not-all c f b e keeps fails me g k =
    not-handled c me g f k e
    (λ h. true≢false (sym ((keeps k.present k.handled k.right).1 h) ∙ fails))

pub goes-all : {E : Type 0} (r : Result Bool E) (c d : Course) (f : Fact) (b : Bool)
    → begins_life f.event ≡ false
    → ((x : List Fact) → KeepsHandled c.handled x → IsHandled x → (b ≡ true) ↔ IsHandled (x ++ f ∷ []))
    → b ≡ true
    → ((x : List Fact) → KeepsHandled c.handled x → KeepsHandled d.handled (x ++ f ∷ []))
    → IfOk r (λ (k : Bool). (me life ring : ℕ) (x : List Fact) → KeepsGroups c.groups me life ring x
    → GoesOn k d.groups me life ring (x ++ f ∷ []))
    → IfOk r (λ (k : Bool). (me : ℕ) (g : List Fact) → KeepsCourse c me g → IsGoing k d me (g ++ f ∷ []))
goes-all (Err error) c d f b e keeps holds noted groups = tt
goes-all (Ok r) c d f b e keeps holds noted groups = λ me g k.
    goes-then c me g f k e d r (noted k.present k.handled) ((keeps k.present k.handled k.right).0 holds)
    (groups me k.life k.ring k.present k.groups)

-- no run begins with more facts either
pub broken-more : (me : ℕ) (g : List Fact) (f : Fact) → IsBroken me g → IsBroken me (g ++ f ∷ [])
broken-more me g f h x r = h (f ∷ x) (subst (λ (y : List Fact). Runs me y) (append_assoc g (f ∷ []) x) r)

-- what is told where a node stands
pub runs-broken : (me : ℕ) (g : List Fact) → IsBroken me g
    → ((false ≡ true → Runs me g) × (Runs me g → false ≡ true))
runs-broken me g h = (λ e. absurd (true≢false (sym e)), λ r. absurd (broken-now me g h r))

pub runs-unmade : (me : ℕ) (g : List Fact) → g ≡ []
    → ((true ≡ true → Runs me g) × (Runs me g → true ≡ true))
runs-unmade me g e = (λ h. nowhere e, λ r. refl)

pub runs-goes : (c : Course) (me : ℕ) (g : List Fact) → KeepsCourse c me g → ends_open false g ≡ false
    → ((true ≡ true → Runs me g) × (Runs me g → true ≡ true))
runs-goes c me g k shut = (λ h. runs-now c me g k shut, λ r. refl)

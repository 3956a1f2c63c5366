-- A step of one node, as what a script did.
use Rattle.std.proofs.Common.{◌≡◌, ℕ, zero, suc, ◌<◌, Bool, true, false, cond, not, ◌==◌, Option}
use Rattle.std.proofs.Common.{Some, List, [], ◌∷◌, ◌++◌}
use Rattle.std.proofs.Common.{◌≤◌, append_assoc, length, length-append, drop, subst, sym, ap, ◌∙◌, arith, inl, inr}
use Rattle.std.specs.Prelude.{option_map}
use Rattle.std.specs.List.{AllByRecursion, filter, slice_get, slice_set}
use Rattle.std.proofs.Math.Seq.{drop-append_seam}
use Rattle.std.proofs.lemmas.Bool.{cases_eq}
use Rattle.std.proofs.lemmas.Option.{slice_get-map}
use Rattle.rpc_world.specs.Logged.{log_of}
use Rattle.end_laws.proofs.ListLemmas.{all-without, length-slice_set}
use Rattle.ring_laws.proofs.Frames.{map-set}
use Rattle.network_model.specs.declared.stage.Stage.{Stage}
use Rattle.rpc_base.specs.declared.event.Event.{Event}
use Rattle.rpc_base.specs.declared.event.Event.TheVariants.{Ran, Restarted, Worked}
use Rattle.rpc_base.specs.declared.fact.Fact.{Fact}
use Rattle.rpc_base.proofs.PlaceLemmas.{set-here, set-other}
use Rattle.rpc_laws.specs.declared.tables.Timed.{Timed}
use Rattle.rpc_laws.specs.declared.tables.WorkedJob.{WorkedJob}
use Rattle.rpc_laws.specs.InFlight.{flight_after_all}
use Rattle.rpc_laws.specs.Steps.{Rel}
use Rattle.rpc_laws.specs.Working.{is_worked, worked_after, worked_after_all, worked_after_node}
use Rattle.rpc_outside.specs.Recording.{Grew, Log}
use Rattle.rpc_outside.specs.declared.memory.recorder.MemRecorder.{MemRecorder}
use Rattle.sim_script.specs.FollowsScript.{AtNode}
use Rattle.world_laws.proofs.FactLemmas.{set-same}
use Rattle.work_laws.proofs.StayLaws.{node-at, others-knows}
use Rattle.rpc_world.specs.Answered.{End, Plainly, Play, Quiet, Whole, stage_of, told_end, totals_of}
use Rattle.rpc_world.specs.Before.{AllPlay, IsPlaying}
use Rattle.rpc_world.specs.Peers.{CopiesAmong, PeersAmong}
use Rattle.rpc_world.specs.Performed.{Performed}
use Rattle.rpc_world.proofs.PeerLemmas.{sent-copies}
use Rattle.rpc_world.proofs.PeerSteps.{Named, Names}
use Rattle.rpc_world.proofs.PlainLemmas.{AllOf, plainly-quiet}

-- what a recorder in memory shows
abbrev pub keeping : List Fact → Bool → Log
keeping facts whole = record { facts = Some facts; whole = whole }

-- what a recorder kept that is whole
pub grew-facts : (old new : List Fact) (was whole : Bool) (x : List Fact)
    → Grew (keeping old was) (keeping new whole) x → whole ≡ true → new ≡ old ++ x
grew-facts old new was whole x g w = cc (g.told w)

-- what stood there before is there still
pub grew-since : (old new : List Fact) (was whole : Bool) (x : List Fact) (from : ℕ)
    → Grew (keeping old was) (keeping new whole) x → from ≡ length old → whole ≡ true
    → from ≤ length new
grew-since old new was whole x from g is w =
    omega (arith, is, ap length (grew-facts old new was whole x g w), length-append old x)

-- a recorder that grew twice
pub grew-both : (r q u : MemRecorder) (x y : List Fact) → Grew (log_of r) (log_of q) x
    → Grew (log_of q) (log_of u) y → Grew (log_of r) (log_of u) (x ++ y)
grew-both r q u x y g h = record {
  since = λ w. g.since (h.since w);
  told = λ w. h.told w ∙ ap (λ (fs : List Fact). Some (fs ++ y))
      (grew-facts r.facts.items q.facts.items (r.memory == 0) (q.memory == 0) x g (h.since w))
      ∙ ap Some (append_assoc r.facts.items x y);
}

-- the facts since a step began
pub since : (f x g : List Fact) (from : ℕ) → g ≡ f ++ x → from ≡ length f → drop from g ≡ x
since f x g from e is = rw (is, e) (drop-append_seam f x)

-- each worked job is of a node that is there
abbrev pub AreTheirs : ℕ → List WorkedJob → Type 0
AreTheirs n worked = AllByRecursion (λ w. w.node < n) worked

theirs-more : (n : ℕ) (worked : List WorkedJob) (w : WorkedJob) → w.node < n → AreTheirs n worked
    → AreTheirs n (worked ++ w ∷ [])
theirs-more n [] w h all = (h, tt)
theirs-more n (v ∷ worked) w h all = (all.0, theirs-more n worked w h all.1)

kept-by : (n : ℕ) (w : WorkedJob) (rest : List WorkedJob) (b : Bool) → w.node < n → AreTheirs n rest
    → AreTheirs n (cond b (w ∷ rest) rest)
kept-by n w rest true less all = (less, all)
kept-by n w rest false less all = all

theirs-left : (n : ℕ) (p : WorkedJob → Bool) (worked : List WorkedJob) → AreTheirs n worked
    → AreTheirs n (filter p worked)
theirs-left n p [] all = tt
theirs-left n p (w ∷ worked) all =
    kept-by n w (filter p worked) (p w) all.0 (theirs-left n p worked all.1)

theirs-event : (n m : ℕ) (e : Event) (worked : List WorkedJob) → m < n → AreTheirs n worked
    → AreTheirs n (worked_after_node m e worked)
theirs-event n m (Worked t r) worked less all =
    theirs-more n worked (record { node = m; session = t; request = r }) less all
theirs-event n m (Ran t r y) worked less all =
    all-without (λ (w : WorkedJob). w.node < n) (is_worked m t r) worked all
theirs-event n m (Restarted life) worked less all =
    theirs-left n (λ (w : WorkedJob). not (w.node == m)) worked all
theirs-event n m _ worked less all = all

pub theirs-all : (n m : ℕ) (x : List Fact) (worked : List WorkedJob) → m < n → AllOf m x
    → AreTheirs n worked → AreTheirs n (worked_after_all worked x)
theirs-all n m [] worked less own all = all
theirs-all n m (f ∷ x) worked less own all =
    theirs-all n m x (worked_after worked f) less own.1
    (rw own.0 (theirs-event n m f.event worked less all))

-- a step of node n, whose endpoint plays on
pub record NodeStep (P : Rel) (n : ℕ) (worked : List WorkedJob) (e new : End) (x : List Fact) : Type 0 where
  pub step : P (told_end e) x (told_end new)
  pub own : AllOf n x
  pub plain : (a : List ℕ) → slice_get a n ≡ Some e.service → Plainly x a (slice_set a n new.service)
  pub plays : IsPlaying (worked_after_all worked x) n new

-- nothing runs in its event loop, and nothing is wanting
pub quiet-plain : (n : ℕ) (e new : End) (x : List Fact) → new.service ≡ e.service → AllOf n x → Quiet x
    → Whole x → (a : List ℕ) → slice_get a n ≡ Some e.service → Plainly x a (slice_set a n new.service)
quiet-plain n e new x same own quiet whole a at =
    let still : a ≡ slice_set a n new.service =
    set-same a n e.service at ∙ ap (slice_set a n) (sym same) in
    subst (λ (b : List ℕ). Plainly x a b) still (plainly-quiet n x a own quiet whole)

pub place-in : {A : Type 0} (xs : List A) (i : ℕ) (x : A) → slice_get xs i ≡ Some x → i < length xs
place-in [] i x h = cc
place-in (y ∷ ys) zero x h = omega arith
place-in (y ∷ ys) (suc i) x h = let less = place-in ys i x h in omega (arith, less)

some-one : {A : Type 0} (x y : A) (o : Option A) → o ≡ Some x → o ≡ Some y → x ≡ y
some-one x y o p q = cc

-- the world with another endpoint in place n, once these facts happened there
abbrev pub stepped_play : Play → ℕ → End → List Fact → Play
stepped_play s n new x = record {
  ends = slice_set s.ends n new;
  flight = flight_after_all s.flight x;
  worked = worked_after_all s.worked x;
  clock = s.clock;
}

module _ (n : ℕ) (s : Play) (e new : End) (x : List Fact) (at : slice_get s.ends n ≡ Some e)
    (own : AllOf n x) (plays : IsPlaying s.worked n e → IsPlaying (worked_after_all s.worked x) n new)
    (names : PeersAmong (length s.ends) e.timed.lists → Named (length s.ends) x (told_end new)) where
  each-plays : AllPlay s → (m : ℕ) (y : End) → slice_get (slice_set s.ends n new) m ≡ Some y
      → IsPlaying (worked_after_all s.worked x) m y
  each-plays all m y here = elim (cases_eq m n) [
    | inl same ↦
        let found : slice_get (slice_set s.ends n new) n ≡ Some y =
        subst (λ k. slice_get (slice_set s.ends n new) k ≡ Some y) same here in
        let is : new ≡ y = some-one new y (slice_get (slice_set s.ends n new) n) (set-here s.ends n e new at) found in
        subst (λ k. IsPlaying (worked_after_all s.worked x) k y) (sym same)
        (subst (λ (z : End). IsPlaying (worked_after_all s.worked x) n z) is (plays (all.each n e at)))
    | inr apart ↦
        let p = all.each m y (sym (set-other s.ends n m new apart) ∙ here) in
        record {
          me = p.me;
          staffed = p.staffed;
          knows = others-knows n x s.worked (told_end y) y.workers (node-at n x own)
              (λ q. apart (sym (q ∙ p.me))) p.knows;
        }
  ]

  each-among : AllPlay s → (m : ℕ) (y : End) → slice_get (slice_set s.ends n new) m ≡ Some y
      → PeersAmong (length s.ends) y.timed.lists
  each-among all m y here = elim (cases_eq m n) [
    | inl same ↦
        let found : slice_get (slice_set s.ends n new) n ≡ Some y =
        subst (λ k. slice_get (slice_set s.ends n new) k ≡ Some y) same here in
        let is : new ≡ y = some-one new y (slice_get (slice_set s.ends n new) n) (set-here s.ends n e new at) found in
        subst (λ (z : End). PeersAmong (length s.ends) z.timed.lists) is (names (all.peers n e at)).peers
    | inr apart ↦ all.peers m y (sym (set-other s.ends n m new apart) ∙ here)
  ]

  pub steps-play : AllPlay s → AllPlay (stepped_play s n new x)
  steps-play all = record {
    each = each-plays all;
    theirs = subst (λ k. AreTheirs k (worked_after_all s.worked x)) (sym (length-slice_set s.ends n new))
        (theirs-all (length s.ends) n x s.worked (place-in s.ends n e at) own all.theirs);
    peers = λ m y here. subst (λ k. PeersAmong k y.timed.lists) (sym (length-slice_set s.ends n new))
        (each-among all m y here);
    copies = subst (λ k. CopiesAmong k (flight_after_all s.flight x)) (sym (length-slice_set s.ends n new))
        (sent-copies (length s.ends) n x s.flight (place-in s.ends n e at) own
        (names (all.peers n e at)).names all.copies);
  }

pub at-node : (P : Rel) (n : ℕ) (s : Play) (e new : End) (x f g : List Fact)
    → Names (length s.ends) P → AllPlay s → slice_get s.ends n ≡ Some e → (IsPlaying s.worked n e → NodeStep P n s.worked e new x)
    → g ≡ f ++ x → Performed (AtNode P n) s (stepped_play s n new x) f g
at-node P n s e new x f g names all at step grew =
    let done = step (all.each n e at) in
    record {
      group = x;
      grew = grew;
      does = record {
        before = told_end e;
        now = told_end new;
        is_node = slice_get-map told_end s.ends n ∙ ap (λ o. option_map told_end o) at;
        step = done.step;
        left = ap (λ (ns : List Timed). record {
          nodes = ns;
          flight = flight_after_all s.flight x;
          worked = worked_after_all s.worked x;
          clock = s.clock;
        }) (map-set told_end s.ends n new);
      };
      plain = subst (λ (b : List ℕ). Plainly x (totals_of s) b)
          (sym (map-set (λ (y : End). y.service) s.ends n new))
          (done.plain (totals_of s) (slice_get-map (λ (y : End). y.service) s.ends n
          ∙ ap (λ o. option_map (λ (y : End). y.service) o) at));
      keeps = λ a. steps-play n s e new x at done.own (λ p. (step p).plays)
          (λ i. names (told_end e) x (told_end new) i done.step) a;
    }

-- so it is where the world was taken apart and put together again
pub stepped : (P : Rel) (n : ℕ) (s z : Play) (e new : End) (x f g : List Fact) (from : ℕ) (t : Play)
    → z ≡ s → Names (length s.ends) P → AllPlay s → slice_get z.ends n ≡ Some e
    → (IsPlaying s.worked n e → NodeStep P n s.worked e new x) → g ≡ f ++ x → from ≡ length f
    → t ≡ stepped_play z n new (drop from g) → Performed (AtNode P n) s t f g
stepped P n s z e new x f g from t view names all at step grew is_from is =
    let back = since f x g from grew is_from in
    let same : stepped_play s n new x ≡ t =
    ap (λ (y : Play). stepped_play y n new x) (sym view) ∙ (ap (stepped_play z n new) (sym back) ∙ sym is) in
    subst (λ (u : Play). Performed (AtNode P n) s u f g) same
    (at-node P n s e new x f g names all (ap (λ (y : Play). slice_get y.ends n) (sym view) ∙ at) step grew)

-- the same group, as another relation has it
pub performed-as : (P Q : Stage → List Fact → Stage → Type 0) (s t : Play) (f g : List Fact)
    → ((x : List Fact) → P (stage_of s) x (stage_of t) → Q (stage_of s) x (stage_of t))
    → Performed P s t f g → Performed Q s t f g
performed-as P Q s t f g h p = record {
  group = p.group;
  grew = p.grew;
  does = h p.group p.does;
  plain = p.plain;
  keeps = p.keeps;
}

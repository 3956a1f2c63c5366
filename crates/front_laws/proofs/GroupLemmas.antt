-- The next group of a run, by its facts.
use Rattle.std.proofs.Common.{◌≡◌, ◌⊎◌, ◌+◌, inl, inr, ℕ, Bool, true, false, List, [], ◌∷◌, ◌++◌}
use Rattle.std.proofs.Common.{refl, sym, ap, ◌∙◌, subst, append-nil, true≢false}
use Rattle.std.specs.List.{AllByRecursion}
use Rattle.rpc_base.specs.declared.event.Event.{Event}
use Rattle.rpc_base.specs.declared.event.Event.TheVariants.{Polled, Restarted}
use Rattle.rpc_base.specs.declared.fact.Fact.{Fact}
use Rattle.rpc_base.specs.declared.limits.Limits.{Limits}
use Rattle.rpc_laws.specs.declared.tables.Timed.{Timed}
use Rattle.rpc_laws.specs.Facts.{plain}
use Rattle.rpc_laws.specs.NodeLists.{new_node}
use Rattle.rpc_laws.specs.Endpoints.{begins_life}
use Rattle.rpc_laws.specs.Service.{Serving}
use Rattle.rpc_laws.specs.Steps.{Chain, more, none}
use Rattle.rpc_outside.specs.declared.service.Mode.{Mode}
use Rattle.node_laws.specs.NodeRun.{Group, LifeRun, lives_on, NodeRun, restarts}
use Rattle.node_laws.specs.Valid.{Valid}
use Rattle.node_laws.proofs.ValidLemmas.{valid_new}
use Rattle.front_laws.specs.Laws.{IsOneGroup, NoneBegins, OneFrontIsAPoll, OneGroupIsNext}
use Rattle.front_laws.specs.Told.{left_by}
use Rattle.front_laws.specs.Whole.{ends_open, ends_poll, is_polls, open_after}
use Rattle.front_laws.proofs.CutLemmas.{chain-valid, open-append, two-ways, TwoWays, early, late}
use Rattle.front_laws.proofs.PollFacts.{AllPolls, poll-ending}
use Rattle.front_laws.proofs.RunFronts.{life-front, run-front}
use Rattle.front_laws.proofs.ToldLemmas.{chain-shut, chain-told, group-kind, IsQuiet, kind-some, life-told, poll-told}
use Rattle.front_laws.proofs.ToldLemmas.{run-told, told-next}

-- the facts of one group, in a chain of groups, are one
one-by : (mode : ℕ → Mode) (s : Timed) (z : List Fact) {w : List Fact} {t : Timed} → Valid s.lists
    → IsOneGroup z → w ≡ z → Chain (Group mode) s w t → Group mode s z t
one-by mode s z v one e none = absurd (one.some (sym e))
one-by mode s z v one e (more {x} {t} c y u p) =
    parts (one.alone x y (sym e) (chain-shut mode s c))
  where
    parts : (x ≡ []) ⊎ (y ≡ []) → Group mode s z u
    parts (inl nothing) =
        let start : t ≡ s = sym (chain-told mode s v c) ∙ ap (left_by s) nothing in
        let facts : y ≡ z = sym (ap (λ (k : List Fact). k ++ y) nothing) ∙ e in
        subst (λ (k : List Fact). Group mode s k u) facts (subst (λ (k : Timed). Group mode k y u) start p)
    parts (inr nothing) = absurd (kind-some mode t y u (group-kind mode t y u p) nothing)

pub one-group : (mode : ℕ → Mode) (s : Timed) (z : List Fact) (t : Timed) → Valid s.lists → IsOneGroup z
    → Chain (Group mode) s z t → Group mode s z t
one-group mode s z t v one c = one-by mode s z v one refl c

-- the last facts of a run, which are those of one group of a life, are a group
module _ (v : Serving) (me : ℕ) (limits : Limits) where
  -- of a life that leaves the node as s before them
  life-last : (life : ℕ) (z g y : List Fact) (s t : Timed) → LifeRun v me life limits z t → z ≡ g ++ y
      → left_by (new_node me life limits) g ≡ s → ends_open false g ≡ false → IsOneGroup y
      → Group v.mode s y t
  life-last life z g y s t r e told whole one =
      let parts = life-front v me life limits g y t
      (subst (λ (w : List Fact). LifeRun v me life limits w t) e r) whole in
      let valid = chain-valid v.mode (new_node me life limits) (valid_new me life limits) parts.run.steps in
      let group = one-group v.mode parts.between y t valid one parts.rest in
      let same : parts.between ≡ s = sym (life-told v me life limits g parts.between parts.run) ∙ told in
      subst (λ (w : Timed). Group v.mode w y t) same group

  -- a restart is none of them
  quiet-next : (n : ℕ) (k y rest : List Fact) → NoneBegins y → y ≡ k ++ plain me (Restarted n) ∷ rest → ⊥
  quiet-next n [] [] rest a e = cc
  quiet-next n [] (f ∷ y) rest a e =
      let same : f ≡ plain me (Restarted n) = cc in
      true≢false (sym (ap (λ (w : Fact). begins_life w.event) same) ∙ a.0)
  quiet-next n (h ∷ k) [] rest a e = cc
  quiet-next n (h ∷ k) (f ∷ y) rest a e =
      let tail : y ≡ k ++ plain me (Restarted n) ∷ rest = cc in quiet-next n k y rest a.1 tail

  shut-next : (n : ℕ) (b : Bool) (k : List Fact) → ends_open b (plain me (Restarted n) ∷ k) ≡ ends_open false k
  shut-next n true k = refl
  shut-next n false k = refl

  parts-last : (life : ℕ) (part rest g y : List Fact) (a s t : Timed) → LifeRun v me life limits part a
      → ((k : List Fact) → rest ≡ k ++ y → left_by (new_node me (life + 1) limits) k ≡ s
      → ends_open false k ≡ false → Group v.mode s y t)
      → TwoWays part (plain me (Restarted (life + 1)) ∷ rest) g y
      → left_by (new_node me life limits) g ≡ s → ends_open false g ≡ false → NoneBegins y
      → Group v.mode s y t
  parts-last life part rest g y a s t r later (late k e f) told whole quiet =
      absurd (quiet-next (life + 1) k y rest quiet f)
  parts-last life part rest g y a s t r later (early [] e f) told whole quiet =
      absurd (quiet-next (life + 1) [] y rest quiet (sym f))
  parts-last life part rest g y a s t r later (early (f ∷ k) e h) told whole quiet =
      let same : plain me (Restarted (life + 1)) ≡ f = cc in
      let tail : rest ≡ k ++ y = cc in
      let next = plain me (Restarted (life + 1)) in
      let is : g ≡ part ++ next ∷ k = e ∙ ap (λ (w : Fact). part ++ w ∷ k) (sym same) in
      later k tail (sym (ap (left_by (new_node me life limits)) is ∙ told-next v me life limits part k a r) ∙ told)
      (sym (ap (ends_open false) is ∙ (open-append false part (next ∷ k)
      ∙ shut-next (life + 1) (ends_open false part) k)) ∙ whole)

  run-last : (life : ℕ) (z g y : List Fact) (s t : Timed) → NodeRun v me limits life z t → z ≡ g ++ y
      → left_by (new_node me life limits) g ≡ s → ends_open false g ≡ false → IsOneGroup y → NoneBegins y
      → Group v.mode s y t
  run-last life z g y s t (lives_on w x u r) e told whole one quiet = life-last life z g y s t r e told whole one
  run-last life z g y s t (restarts w part rest a u r next) e told whole one quiet =
      parts-last life part rest g y a s t r
      (λ k f was outside. run-last (life + 1) rest k y s t next f was outside one quiet)
      (two-ways part (plain me (Restarted (life + 1)) ∷ rest) g y e) told whole quiet

-- a run ends outside of a poll
pub run-shut : (v : Serving) (me : ℕ) (limits : Limits) {life : ℕ} {g : List Fact} {t : Timed}
    → NodeRun v me limits life g t → ends_open false g ≡ false
run-shut v me limits (lives_on life g t r) = chain-shut v.mode (new_node me life limits) r.steps
run-shut v me limits (restarts life part rest s t r next) =
    open-append false part (plain me (Restarted (life + 1)) ∷ rest)
    ∙ (shut-next v me limits (life + 1) (ends_open false part) rest ∙ run-shut v me limits next)

pub group-next : OneGroupIsNext
group-next v me life limits g y x s t r h one quiet =
    let outside = run-shut v me limits r in
    let both : ends_open false (g ++ y) ≡ false =
    open-append false g y ∙ (ap (λ (b : Bool). ends_open b y) outside ∙ one.shut) in
    let front = run-front v me life limits (g ++ y) x t h both in
    record {
      after = front.left;
      group = run-last v me limits life (g ++ y) g y s front.left front.run refl
          (run-told v me life limits g s r) outside one quiet;
      run = front.run;
    }

-- one event that no poll makes is a group
alone-by : (f : Fact) (a b : List Fact) → f ∷ [] ≡ a ++ b → (a ≡ []) ⊎ (b ≡ [])
alone-by f [] b e = inl refl
alone-by f (g ∷ []) b e = let rest : [] ≡ b = cc in inr (sym rest)
alone-by f (g ∷ h ∷ a) b e = absurd (longer e)
  where
    longer : f ∷ [] ≡ g ∷ h ∷ a ++ b → ⊥
    longer e = cc

pub one-quiet : (f : Fact) → IsQuiet f.event → IsOneGroup (f ∷ [])
one-quiet f q = record {
  some = λ e. absurd (no-empty e);
  shut = rw (q.polls) refl;
  alone = λ a b e shut. alone-by f a b e;
}
  where
    no-empty : f ∷ [] ≡ [] → ⊥
    no-empty e = cc

-- so is a Polled with events of a poll before it
abbrev pub AreOpen : List Fact → Type 0
AreOpen x = AllByRecursion (λ f. is_polls f.event ≡ true) x

opens : (e : Event) (busy : Bool) → is_polls e ≡ true → open_after e busy ≡ true
opens e busy p = rw p refl

open-stays : (x : List Fact) → AreOpen x → ends_open true x ≡ true
open-stays [] a = refl
open-stays (f ∷ x) a = ap (λ (b : Bool). ends_open b x) (opens f.event true a.0) ∙ open-stays x a.1

open-front : (x y : List Fact) → AreOpen (x ++ y) → AreOpen x
open-front [] y a = tt
open-front (f ∷ x) y a = (a.0, open-front x y a.1)

open-shut : (x : List Fact) → AreOpen x → ends_open false x ≡ false → x ≡ []
open-shut [] a e = refl
open-shut (f ∷ x) a e =
    absurd (true≢false (sym (ap (λ (b : Bool). ends_open b x) (opens f.event false a.0) ∙ open-stays x a.1) ∙ e))

-- a list that ends with a fact, in two parts
last-parts : (f : Fact) (x a b : List Fact) → x ++ f ∷ [] ≡ a ++ b → (b ≡ []) ⊎ ((k : List Fact) × (x ≡ a ++ k))
last-parts f x a b e = by (two-ways x (f ∷ []) a b e)
  where
    by : TwoWays x (f ∷ []) a b → (b ≡ []) ⊎ ((k : List Fact) × (x ≡ a ++ k))
    by (late k g h) = inr (k, g)
    by (early [] g h) = inr ([], sym (append-nil a ∙ (g ∙ append-nil x)))
    by (early (w ∷ k) g h) = inl (nothing w k h)
      where
        nothing : (w : Fact) (k : List Fact) → f ∷ [] ≡ (w ∷ k) ++ b → b ≡ []
        nothing w [] e = let rest : [] ≡ b = cc in sym rest
        nothing w (c ∷ k) e = absurd (longer e)
          where
            longer : f ∷ [] ≡ w ∷ c ∷ k ++ b → ⊥
            longer e = cc

polled-shut : (b : Bool) (f : Fact) → is_polls f.event ≡ false → ends_poll f.event ≡ true
    → ends_open b (f ∷ []) ≡ false
polled-shut true f p q = rw (p, q) refl
polled-shut false f p q = rw p refl

pub one-poll : (x : List Fact) (f : Fact) → AreOpen x → is_polls f.event ≡ false → ends_poll f.event ≡ true
    → IsOneGroup (x ++ f ∷ [])
one-poll x f a p q = record {
  some = λ e. longer x e;
  shut = open-append false x (f ∷ []) ∙ polled-shut (ends_open false x) f p q;
  alone = λ c d e shut. by c d shut (last-parts f x c d e);
}
  where
    longer : (y : List Fact) → y ++ f ∷ [] ≡ [] → ⊥
    longer [] e = cc
    longer (g ∷ y) e = cc

    by : (c d : List Fact) → ends_open false c ≡ false → (d ≡ []) ⊎ ((k : List Fact) × (x ≡ c ++ k))
        → (c ≡ []) ⊎ (d ≡ [])
    by c d shut (inl e) = inr e
    by c d shut (inr k) =
        inl (open-shut c (open-front c k.0 (subst (λ (z : List Fact). AreOpen z) k.1 a)) shut)

-- two polls in front of the same facts
polled-first : (n c d : ℕ) (x y r q : List Fact) → AllPolls n x → AllPolls n y
    → (x ++ plain n (Polled c) ∷ []) ++ r ≡ (y ++ plain n (Polled d) ∷ []) ++ q
    → x ++ plain n (Polled c) ∷ [] ≡ y ++ plain n (Polled d) ∷ []
polled-first n c d [] [] r q a b e =
    let same : plain n (Polled c) ≡ plain n (Polled d) = cc in ap (λ (f : Fact). f ∷ []) same
polled-first n c d [] (g ∷ y) r q a b e = absurd (no-polls g b.0.1 cc)
  where
    no-polls : (g : Fact) → is_polls g.event ≡ true → plain n (Polled c) ≡ g → ⊥
    no-polls g p h = true≢false (sym p ∙ ap (λ (f : Fact). is_polls f.event) (sym h))
polled-first n c d (f ∷ x) [] r q a b e = absurd (no-polls f a.0.1 cc)
  where
    no-polls : (f : Fact) → is_polls f.event ≡ true → f ≡ plain n (Polled d) → ⊥
    no-polls f p h = true≢false (sym p ∙ ap (λ (f : Fact). is_polls f.event) h)
polled-first n c d (f ∷ x) (g ∷ y) r q a b e =
    let head : f ≡ g = cc in
    let tail : (x ++ plain n (Polled c) ∷ []) ++ r ≡ (y ++ plain n (Polled d) ∷ []) ++ q = cc in
    let rest = polled-first n c d x y r q a.1 b.1 tail in
    ap (λ (w : Fact). w ∷ x ++ plain n (Polled c) ∷ []) head ∙ ap (λ (z : List Fact). g ∷ z) rest

pub polls-one : OneFrontIsAPoll
polls-one mode now other s x y r q t u v h k e =
    let a = poll-ending mode now s.lists.me s x t refl h in
    let b = poll-ending mode other s.lists.me s y u refl k in
    let both = ap (λ (z : List Fact). z ++ r) (sym a.joined) ∙ (e ∙ ap (λ (z : List Fact). z ++ q) b.joined) in
    let facts : x ≡ y =
    a.joined ∙ (polled-first s.lists.me t.clock u.clock a.front b.front r q a.all b.all both ∙ sym b.joined) in
    record {
      facts = facts;
      left = sym (poll-told mode now s x t v h) ∙ (ap (left_by s) facts ∙ poll-told mode other s y u v k);
    }

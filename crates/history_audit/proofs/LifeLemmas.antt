-- The life of a node by its own facts, and what a restart in a run tells.
use Rattle.std.proofs.Common.{◌≡◌, ℕ, ◌+◌, ◌&&◌, Bool, true, false, cond, List, [], ◌∷◌, ◌++◌, refl, sym, ap, ◌∙◌}
use Rattle.std.proofs.Common.{append-nil, subst, true≢false}
use Rattle.std.specs.List.{AllByRecursion}
use Rattle.call_book.proofs.EachLemmas.{far-next}
use Rattle.call_book.specs.SoFar.{so_far, so_far_from}
use Rattle.end_laws.proofs.ListLemmas.{all-append}
use Rattle.front_laws.proofs.CutLemmas.{early, late, two-ways, TwoWays}
use Rattle.node_laws.specs.NodeRun.{Group, lives_on, NodeRun, restarts}
use Rattle.rpc_base.specs.declared.event.Event.TheVariants.{Made, Restarted}
use Rattle.rpc_base.specs.declared.fact.Fact.{Fact}
use Rattle.rpc_base.specs.declared.limits.Limits.{Limits}
use Rattle.rpc_laws.specs.declared.tables.Timed.{Timed}
use Rattle.rpc_laws.specs.AtMostOnce.{is_at}
use Rattle.rpc_laws.specs.Endpoints.{begins_life, life_by, Lived, told}
use Rattle.rpc_laws.specs.Facts.{plain}
use Rattle.rpc_laws.specs.Lives.{first_life}
use Rattle.rpc_laws.specs.NodeLists.{new_node}
use Rattle.rpc_laws.specs.Service.{plain_serving, Serving}
use Rattle.rpc_laws.specs.Steps.{Chain, more, none}
use Rattle.rpc_laws.specs.UsualLimits.{with_ring}
use Rattle.rpc_outside.specs.declared.service.Mode.{Mode}
use Rattle.world_laws.proofs.JointNodes.{group-keeps}
use Rattle.world_laws.specs.NodeFacts.{facts_of, nowhere, Runs, runs}

-- the life after some facts of one node
abbrev pub life_of : ℕ → List Fact → ℕ
life_of life [] = life
life_of life (f ∷ g) = life_of (cond (begins_life f.event) (life + 1) life) g

pub far-life : (n : ℕ) (past : List Lived) (h : List Fact)
    → life_by n (so_far_from past h) ≡ life_of (life_by n past) (facts_of n h)
far-life n past [] = refl
far-life n past (f ∷ h) = far-life n (told past f ∷ past) h ∙ by (is_at n f.who)
  where
    by : (b : Bool) → life_of (cond (b && begins_life f.event) (life_by n past + 1) (life_by n past)) (facts_of n h)
        ≡ life_of (life_by n past) (cond b (f ∷ facts_of n h) (facts_of n h))
    by true = refl
    by false = refl

-- no life begins
abbrev NoneBegins : List Fact → Type 0
NoneBegins g = AllByRecursion (λ f. begins_life f.event ≡ false) g

chain-begins : (mode : ℕ → Mode) (s : Timed) {x : List Fact} {t : Timed} → Chain (Group mode) s x t → NoneBegins x
chain-begins mode s none = tt
chain-begins mode s (more {x = front} {t = between} c y u g) =
    all-append (λ (f : Fact). begins_life f.event ≡ false) front y (chain-begins mode s c)
    (group-keeps mode between y u g).begun

life-same : (life : ℕ) (g : List Fact) → NoneBegins g → life_of life g ≡ life
life-same life [] a = refl
life-same life (f ∷ g) a = rw a.0 (life-same life g a.1)

life-append : (life : ℕ) (a b : List Fact) → life_of life (a ++ b) ≡ life_of (life_of life a) b
life-append life [] b = refl
life-append life (f ∷ a) b = life-append (cond (begins_life f.event) (life + 1) life) a b

last-begins : (g : List Fact) (f : Fact) (k : ℕ) → NoneBegins (g ++ f ∷ []) → f.event ≡ Restarted k → ⊥
last-begins [] f k a is = true≢false (sym (ap begins_life is) ∙ a.0)
last-begins (h ∷ g) f k a is = last-begins g f k a.1 is

module _ (v : Serving) (n : ℕ) (limits : Limits) where
  same-life : (life k : ℕ) (part g : List Fact) (f : Fact) → NoneBegins part → g ≡ part
      → plain n (Restarted (life + 1)) ≡ f → f.event ≡ Restarted k → k ≡ life_of life g + 1
  same-life life k part g f all e same is =
      let here : k ≡ life + 1 = number (ap (λ (w : Fact). w.event) same ∙ is) in
      let before : life_of life g ≡ life = ap (life_of life) e ∙ life-same life part all in
      here ∙ ap (λ (i : ℕ). i + 1) (sym before)
    where
      number : Restarted (life + 1) ≡ Restarted k → k ≡ life + 1
      number e = cc

  by-ways : (life k : ℕ) (part rest g : List Fact) (f : Fact) → NoneBegins part → f.event ≡ Restarted k
      → ((y : List Fact) → rest ≡ y ++ f ∷ [] → k ≡ life_of (life + 1) y + 1)
      → TwoWays part (plain n (Restarted (life + 1)) ∷ rest) g (f ∷ []) → k ≡ life_of life g + 1
  by-ways life k part rest g f all is later (early [] e h) =
      let same : plain n (Restarted (life + 1)) ≡ f = cc in
      same-life life k part g f all (e ∙ append-nil part) same is
  by-ways life k part rest g f all is later (early (m ∷ y) e h) =
      let same : plain n (Restarted (life + 1)) ≡ m = cc in
      let tail : rest ≡ y ++ f ∷ [] = cc in
      let was : life_of life part ≡ life = life-same life part all in
      let on : life_of life g ≡ life_of (life + 1) y =
      ap (life_of life) e ∙ life-append life part (m ∷ y)
      ∙ ap (λ (i : ℕ). life_of i (m ∷ y)) was
      ∙ ap (λ (w : Fact). life_of life (w ∷ y)) (sym same) in
      later y tail ∙ ap (λ (i : ℕ). i + 1) (sym on)
  by-ways life k part rest g f all is later (late [] e h) =
      let same : plain n (Restarted (life + 1)) ≡ f = cc in
      same-life life k part g f all (sym (e ∙ append-nil g)) same is
  by-ways life k part rest g f all is later (late (m ∷ []) e h) = absurd (cc)
  by-ways life k part rest g f all is later (late (m ∷ w ∷ y) e h) = absurd (cc)

  -- a restart that is last in a run tells the next life
  last-life : (life k : ℕ) (z g : List Fact) (f : Fact) (t : Timed) → NodeRun v n limits life z t
      → z ≡ g ++ f ∷ [] → f.event ≡ Restarted k → k ≡ life_of life g + 1
  last-life life k z g f t (lives_on w y u r) e is =
      let all : NoneBegins z = chain-begins v.mode (new_node n life limits) r.steps in
      absurd (last-begins g f k (subst NoneBegins e all) is)
  last-life life k z g f t (restarts w part rest s u r next) e is =
      by-ways life k part rest g f (chain-begins v.mode (new_node n life limits) r.steps) is
      (λ y h. last-life (life + 1) k rest y f t next h is)
      (two-ways part (plain n (Restarted (life + 1)) ∷ rest) g (f ∷ []) e)

no-last : (g : List Fact) (f : Fact) → g ++ f ∷ [] ≡ [] → ⊥
no-last [] f e = cc
no-last (h ∷ g) f e = cc

not-made : (n ring k : ℕ) (f : Fact) (later : List Fact) → f ∷ [] ≡ plain n (Made ring) ∷ later
    → f.event ≡ Restarted k → ⊥
not-made n ring k f later e is =
    let same : f ≡ plain n (Made ring) = cc in
    no-event (sym (ap (λ (w : Fact). w.event) same) ∙ is)
  where
    no-event : Made ring ≡ Restarted k → ⊥
    no-event e = cc

-- a restart that is last among a node's facts
pub runs-life : (n k : ℕ) (g : List Fact) (f : Fact) → Runs n (g ++ f ∷ []) → f.event ≡ Restarted k
    → k ≡ life_of first_life g + 1
runs-life n k g f (nowhere e) is = absurd (no-last g f e)
runs-life n k [] f (runs t r) is = absurd (not-made n r.ring k f r.later r.made is)
runs-life n k (m ∷ g) f (runs t r) is =
    let made : m ≡ plain n (Made r.ring) = first r.made in
    let later : r.later ≡ g ++ f ∷ [] = sym (rest r.made) in
    last-life plain_serving n (with_ring r.ring) first_life k r.later g f t r.run later is
    ∙ ap (λ (w : Fact). life_of first_life (w ∷ g) + 1) (sym made)
  where
    first : m ∷ (g ++ f ∷ []) ≡ plain n (Made r.ring) ∷ r.later → m ≡ plain n (Made r.ring)
    first e = cc

    rest : m ∷ (g ++ f ∷ []) ≡ plain n (Made r.ring) ∷ r.later → g ++ f ∷ [] ≡ r.later
    rest e = cc

-- the life of the node of the next fact
pub life-next : (n : ℕ) (h : List Fact) (f : Fact)
    → life_by n (so_far (h ++ f ∷ [])) ≡ cond (is_at n f.who && begins_life f.event) (life_by n (so_far h) + 1)
    (life_by n (so_far h))
life-next n h f = ap (life_by n) (far-next [] h f)

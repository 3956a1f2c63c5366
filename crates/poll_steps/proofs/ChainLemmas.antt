-- Steps that are done one after another, up to where the node and the facts behind them tell that they end.
use Rattle.std.proofs.Common.{◌≡◌, ◌≤◌, ◌+◌, ◌⊎◌, inl, inr, ℕ, zero, suc, Some, None, List, [], ◌∷◌}
use Rattle.std.proofs.Common.{◌++◌, length, take, drop, refl, sym, ap, ◌∙◌, subst, arith, append_assoc, append-nil}
use Rattle.std.proofs.lemmas.List.{length-drop, take-append-drop}
use Rattle.rpc_base.specs.declared.fact.Fact.{Fact}
use Rattle.rpc_laws.specs.declared.tables.Timed.{Timed}
use Rattle.rpc_laws.specs.Steps.{Chain, more, none, Rel, Then}
use Rattle.front_laws.specs.Laws.{Same}
use Rattle.front_laws.proofs.OneWayLemmas.{back-same, OneWay}
use Rattle.poll_steps.specs.Steps.{AreSteps, EndsAt, NoFront}

pub take-plus : (n m : ℕ) (xs : List Fact) → take (n + m) xs ≡ take n xs ++ take m (drop n xs)
take-plus zero m xs = let same : 0 + m ≡ m = omega arith in ap (λ (k : ℕ). take k xs) same
take-plus (suc n) m [] = nothing (suc n + m) m
  where
    nothing : (k m : ℕ) → take {A = Fact} k [] ≡ take {A = Fact} m []
    nothing zero zero = refl
    nothing zero (suc m) = refl
    nothing (suc k) zero = refl
    nothing (suc k) (suc m) = refl
take-plus (suc n) m (x ∷ xs) =
    let next : suc n + m ≡ suc (n + m) = omega arith in
    ap (λ (k : ℕ). take k (x ∷ xs)) next ∙ ap (λ (ys : List Fact). x ∷ ys) (take-plus n m xs)

pub drop-plus : (n m : ℕ) (xs : List Fact) → drop (n + m) xs ≡ drop m (drop n xs)
drop-plus zero m xs = let same : 0 + m ≡ m = omega arith in ap (λ (k : ℕ). drop k xs) same
drop-plus (suc n) m [] = nothing (suc n + m) m
  where
    nothing : (k m : ℕ) → drop {A = Fact} k [] ≡ drop {A = Fact} m []
    nothing zero zero = refl
    nothing zero (suc m) = refl
    nothing (suc k) zero = refl
    nothing (suc k) (suc m) = refl
drop-plus (suc n) m (x ∷ xs) =
    let next : suc n + m ≡ suc (n + m) = omega arith in
    ap (λ (k : ℕ). drop k (x ∷ xs)) next ∙ drop-plus n m xs

pub within-plus : (n m : ℕ) (xs : List Fact) → n ≤ length xs → m ≤ length (drop n xs) → n + m ≤ length xs
within-plus n m xs a b = let long = length-drop n xs in omega (arith, a, b, long)

-- a chain is nothing, or a step and a chain
pub chain-first : (P : Rel) (s : Timed) {x : List Fact} {t : Timed} → Chain P s x t
    → ((x ≡ []) × (t ≡ s)) ⊎ Then P (Chain P) s x t
chain-first P s none = inl (refl, refl)
chain-first P s (more {x} {t} c y u h) = longer (chain-first P s c)
  where
    longer : ((x ≡ []) × (t ≡ s)) ⊎ Then P (Chain P) s x t
        → ((x ++ y ≡ []) × (u ≡ s)) ⊎ Then P (Chain P) s (x ++ y) u
    longer (inl nothing) = inr (record {
      between = u;
      front = y;
      back = [];
      joined = ap (λ (z : List Fact). z ++ y) nothing.0 ∙ sym (append-nil y);
      first = subst (λ (w : Timed). P w y u) nothing.1 h;
      second = none;
    })
    longer (inr k) = inr (record {
      between = k.between;
      front = k.front;
      back = k.back ++ y;
      joined = ap (λ (z : List Fact). z ++ y) k.joined ∙ append_assoc k.front k.back y;
      first = k.first;
      second = more k.second y u h;
    })

-- what is left of a chain behind the steps that were found
pub record Left (P : Rel) (facts rest : List Fact) (t u : Timed) : Type 0 where
  pub last : List Fact
  pub parted : facts ≡ last ++ rest
  pub steps : Chain P t last u

-- the first n of the facts are steps that lead from s to t, and each chain that ends well goes through there
pub record Leads (P : Rel) (Over : Timed → List Fact → Type 0) (s : Timed) (facts : List Fact) (n : ℕ)
    (t : Timed) : Type 0 where
  pub within : n ≤ length facts
  pub steps : Chain P s (take n facts) t
  pub through : (x : List Fact) (u : Timed) → (e : EndsAt P Over s facts x u) → Left P (drop n facts) e.rest t u

pub leads-none : (P : Rel) (Over : Timed → List Fact → Type 0) (s : Timed) (facts : List Fact)
    → Leads P Over s facts 0 s
leads-none P Over s facts = record {
  within = omega arith;
  steps = none;
  through = λ x u e. record { last = x; parted = e.parted; steps = e.steps };
}

left-more : (P : Rel) (Over : Timed → List Fact → Type 0) → OneWay P → (facts rest : List Fact) (m : ℕ)
    (t u w : Timed) → P t (take m facts) u → (Over t facts → ⊥) → Over w rest → Left P facts rest t w
    → Left P (drop m facts) rest u w
left-more P Over one facts rest m t u w p on over left = by (chain-first P t left.steps)
  where
    by : ((left.last ≡ []) × (w ≡ t)) ⊎ Then P (Chain P) t left.last w → Left P (drop m facts) rest u w
    by (inl nothing) =
        let same : facts ≡ rest = left.parted ∙ ap (λ (z : List Fact). z ++ rest) nothing.0 in
        absurd (on (subst (λ (z : List Fact). Over t z) (sym same)
        (subst (λ (z : Timed). Over z rest) nothing.1 over)))
    by (inr k) =
        let whole : facts ≡ k.front ++ (k.back ++ rest) =
        left.parted ∙ (ap (λ (z : List Fact). z ++ rest) k.joined ∙ append_assoc k.front k.back rest) in
        let both : k.front ++ (k.back ++ rest) ≡ take m facts ++ drop m facts =
        sym whole ∙ sym (take-append-drop m facts) in
        let same : Same k.front (take m facts) k.between u =
        one t k.front (take m facts) (k.back ++ rest) (drop m facts) k.between u k.first p both in
        record {
          last = k.back;
          parted = sym (back-same k.front (take m facts) (k.back ++ rest) (drop m facts) same.facts both);
          steps = subst (λ (z : Timed). Chain P z k.back w) same.left k.second;
        }

-- one step more, where the chain isn't at its end
pub leads-more : (P : Rel) (Over : Timed → List Fact → Type 0) → OneWay P → (s : Timed) (facts : List Fact)
    (n m : ℕ) (t u : Timed) → Leads P Over s facts n t → m ≤ length (drop n facts) → P t (take m (drop n facts)) u
    → (Over t (drop n facts) → ⊥) → Leads P Over s facts (n + m) u
leads-more P Over one s facts n m t u h some p on = record {
  within = within-plus n m facts h.within some;
  steps =
      subst (λ (z : List Fact). Chain P s z u) (sym (take-plus n m facts))
      (more h.steps (take m (drop n facts)) u p);
  through = λ x w e.
      subst (λ (z : List Fact). Left P z e.rest u w) (sym (drop-plus n m facts))
      (left-more P Over one (drop n facts) e.rest m t u w p on e.over (h.through x w e));
}

-- it ends here
pub leads-over : (P : Rel) (Over : Timed → List Fact → Type 0) (s : Timed) (facts : List Fact) (n : ℕ) (t : Timed)
    → Leads P Over s facts n t → Over t (drop n facts) → AreSteps P Over s facts t (Some n)
leads-over P Over s facts n t h over = record {
  some = (
    h.within,
    record { rest = drop n facts; parted = sym (take-append-drop n facts); steps = h.steps; over = over },
  );
  only = λ no. cc;
}

-- it ends nowhere: not here, and no front of the facts is a step
pub leads-stuck : (P : Rel) (Over : Timed → List Fact → Type 0) (s : Timed) (facts : List Fact) (n : ℕ)
    (t v : Timed) → Leads P Over s facts n t → (Over t (drop n facts) → ⊥) → NoFront P t (drop n facts)
    → AreSteps P Over s facts v None
leads-stuck P Over s facts n t v h on stuck = record {
  some = tt;
  only = λ no x u e. ends x u e (chain-first P t (h.through x u e).steps);
}
  where
    ends : (x : List Fact) (u : Timed) (e : EndsAt P Over s facts x u)
        → (((h.through x u e).last ≡ []) × (u ≡ t)) ⊎ Then P (Chain P) t (h.through x u e).last u → ⊥
    ends x u e (inl nothing) =
        let left = h.through x u e in
        let same : drop n facts ≡ e.rest = left.parted ∙ ap (λ (z : List Fact). z ++ e.rest) nothing.0 in
        on (subst (λ (z : List Fact). Over t z) (sym same) (subst (λ (z : Timed). Over z e.rest) nothing.1 e.over))
    ends x u e (inr k) =
        let left = h.through x u e in
        stuck k.front k.between
        (record {
          rest = k.back ++ e.rest;
          parted =
              left.parted
              ∙ (ap (λ (z : List Fact). z ++ e.rest) k.joined ∙ append_assoc k.front k.back e.rest);
        })
        k.first

-- The facts of the calls of a session, one call after another.
use Rattle.std.proofs.Common.{◌≡◌, ◌+◌, ◌<◌, ◌≤◌, ℕ, zero, suc, Some, None, List, [], ◌∷◌}
use Rattle.std.proofs.Common.{◌++◌, append_assoc}
use Rattle.std.proofs.Common.{append-nil, drop, length, refl, slice_get, sym, ap, ◌∙◌, subst, take}
use Rattle.std.proofs.Common.{arith, get_or}
use Rattle.std.specs.Prelude.{flat_map, map}
use Rattle.rpc_base.specs.declared.fact.Fact.{Fact}
use Rattle.rpc_laws.specs.declared.tables.Call.{Call}
use Rattle.rule_facts.specs.Fronts.{Fronts}
use Rattle.rule_facts.proofs.FrontLemmas.{fronts-both, fronts-first, fronts-next, fronts-second}
use Rattle.rule_facts.proofs.FrontLemmas.{fronts-short}
use Rattle.rule_facts.proofs.FrontLemmas.{fronts-stop}

parted-at : (calls : List Call) (i : ℕ) (c : Call) → slice_get calls i ≡ Some c
    → calls ≡ take i calls ++ c ∷ drop (suc i) calls
parted-at [] i c e = cc
parted-at (d ∷ calls) zero c e = let same : d ≡ c = cc in ap (λ (z : Call). z ∷ calls) same
parted-at (d ∷ calls) (suc i) c e = ap (λ (z : List Call). d ∷ z) (parted-at calls i c e)

taken-at : (calls : List Call) (i : ℕ) (c : Call) → slice_get calls i ≡ Some c
    → take (i + 1) calls ≡ take i calls ++ c ∷ []
taken-at calls i c e =
    let next : i + 1 ≡ suc i = omega arith in
    ap (λ (k : ℕ). take k calls) next ∙ by calls i e
  where
    by : (calls : List Call) (i : ℕ) → slice_get calls i ≡ Some c
        → take (suc i) calls ≡ take i calls ++ c ∷ []
    by [] i e = cc
    by (d ∷ calls) zero e = let same : d ≡ c = cc in ap (λ (z : Call). z ∷ []) same
    by (d ∷ calls) (suc i) e = ap (λ (z : List Call). d ∷ z) (by calls i e)

pub taken-all : (calls : List Call) (n : ℕ) → n ≡ length calls → take n calls ≡ calls
taken-all calls n e = ap (λ (k : ℕ). take k calls) e ∙ all calls
  where
    all : (calls : List Call) → take (length calls) calls ≡ calls
    all [] = refl
    all (d ∷ calls) = ap (λ (z : List Call). d ∷ z) (all calls)

-- some facts of each call
module _ (F : Call → List Fact) where
  flat-joined : (xs ys : List Call) → flat_map F (xs ++ ys) ≡ flat_map F xs ++ flat_map F ys
  flat-joined [] ys = refl
  flat-joined (x ∷ xs) ys =
      ap (λ (z : List Fact). F x ++ z) (flat-joined xs ys)
      ∙ sym (append_assoc (F x) (flat_map F xs) (flat_map F ys))

  pub calls-next : (calls : List Call) (i : ℕ) (c : Call) (facts : List Fact) (n m : ℕ)
      → slice_get calls i ≡ Some c
      → Fronts (flat_map F (take i calls)) facts (Some n) → Fronts (F c) (drop n facts) (Some m)
      → Fronts (flat_map F (take (i + 1) calls)) facts (Some (n + m))
  calls-next calls i c facts n m at h k =
      let more : flat_map F (take (i + 1) calls) ≡ flat_map F (take i calls) ++ F c =
      ap (flat_map F) (taken-at calls i c at) ∙ (flat-joined (take i calls) (c ∷ [])
      ∙ ap (λ (z : List Fact). flat_map F (take i calls) ++ z) (append-nil (F c))) in
      subst (λ (z : List Fact). Fronts z facts (Some (n + m))) (sym more)
      (fronts-both (flat_map F (take i calls)) (F c) facts n m h k)

  -- the facts aren't those of the next one
  pub calls-stop : (calls : List Call) (i : ℕ) (c : Call) (facts : List Fact) (n : ℕ)
      → slice_get calls i ≡ Some c
      → Fronts (flat_map F (take i calls)) facts (Some n) → Fronts (F c) (drop n facts) None
      → Fronts (flat_map F calls) facts None
  calls-stop calls i c facts n at h k =
      let front : List Fact = flat_map F (take i calls) in
      let rest : List Fact = flat_map F (drop (suc i) calls) in
      let whole : flat_map F calls ≡ (front ++ F c) ++ rest =
      ap (flat_map F) (parted-at calls i c at)
      ∙ (flat-joined (take i calls) (c ∷ drop (suc i) calls)
      ∙ sym (append_assoc front (F c) rest)) in
      subst (λ (z : List Fact). Fronts z facts None) (sym whole)
      (fronts-first (front ++ F c) rest facts (fronts-second front (F c) facts n h k))

-- one fact of each call
module _ (F : Call → Fact) where
  map-joined : (xs ys : List Call) → map F (xs ++ ys) ≡ map F xs ++ map F ys
  map-joined [] ys = refl
  map-joined (x ∷ xs) ys = ap (λ (z : List Fact). F x ∷ z) (map-joined xs ys)

  pub each-next : (calls : List Call) (i : ℕ) (c : Call) (facts : List Fact) (g : Fact)
      → slice_get calls i ≡ Some c
      → Fronts (map F (take i calls)) facts (Some i) → i < length facts → g ≡ get_or facts i g
      → g ≡ F c
      → Fronts (map F (take (i + 1) calls)) facts (Some (i + 1))
  each-next calls i c facts g at h some is same =
      let more : map F (take (i + 1) calls) ≡ map F (take i calls) ++ F c ∷ [] =
      ap (map F) (taken-at calls i c at) ∙ map-joined (take i calls) (c ∷ []) in
      subst (λ (z : List Fact). Fronts z facts (Some (i + 1))) (sym more)
      (fronts-next (map F (take i calls)) facts (F c) g i h some is same)

  each-parted : (calls : List Call) (i : ℕ) (c : Call) → slice_get calls i ≡ Some c
      → map F calls ≡ map F (take i calls) ++ F c ∷ map F (drop (suc i) calls)
  each-parted calls i c at =
      ap (map F) (parted-at calls i c at) ∙ map-joined (take i calls) (c ∷ drop (suc i) calls)

  pub each-stop : (calls : List Call) (i : ℕ) (c : Call) (facts : List Fact) (g : Fact)
      → slice_get calls i ≡ Some c
      → Fronts (map F (take i calls)) facts (Some i) → i < length facts → g ≡ get_or facts i g
      → (g ≡ F c → ⊥)
      → Fronts (map F calls) facts None
  each-stop calls i c facts g at h some is differs =
      subst (λ (z : List Fact). Fronts z facts None) (sym (each-parted calls i c at))
      (fronts-stop (map F (take i calls)) (map F (drop (suc i) calls)) facts (F c) g i h some is
      differs)

  pub each-short : (calls : List Call) (i : ℕ) (c : Call) (facts : List Fact)
      → slice_get calls i ≡ Some c
      → Fronts (map F (take i calls)) facts (Some i) → length facts ≤ i
      → Fronts (map F calls) facts None
  each-short calls i c facts at h few =
      subst (λ (z : List Fact). Fronts z facts None) (sym (each-parted calls i c at))
      (fronts-short (map F (take i calls)) (map F (drop (suc i) calls)) facts (F c) i h few)

-- A walk over lists by due times, which ends once it has seen as many entries as there are.
use Rattle.std.proofs.Common.{◌≡◌, ◌<◌, ◌≤◌, ℕ, zero, suc, ◌+◌, Bool, true, false, leb, leb-true, leb-false}
use Rattle.std.proofs.Common.{Option, Some, None, List, [], ◌∷◌, length, refl, ap, drop, ◌∙◌, arith}
use Rattle.rpc_base.specs.Least.{smaller}
use Rattle.rpc_base.proofs.LeastLemmas.{lesser}
use Rattle.pacing_wheel.specs.declared.pacer.Paced.{Paced}
use Rattle.pacing_wheel.specs.Wheel.{behind, earlier, together}
use Rattle.pacing_wheel.specs.Chains.{list_at}
use Rattle.pacing_wheel.proofs.MergeLemmas.{length-merged}

-- one place more
step : (ls : List (List Paced)) (k : ℕ) → k < length ls → behind k ls ≡ length (list_at ls k) + behind (suc k) ls
step [] k h = absurd (omega (arith, h))
step (l ∷ ls) zero h = length-merged l (together ls)
step (l ∷ ls) (suc k) h = step ls k (omega (arith, h))

pub behind-step : (ls : List (List Paced)) (k : ℕ) → k < length ls
    → behind k ls ≡ length (list_at ls k) + behind (k + 1) ls
behind-step ls k h =
    let next : suc k ≡ k + 1 = omega arith in
    step ls k h ∙ ap (λ m. length (list_at ls k) + behind m ls) next

-- further behind there are no more
pub behind-fewer : (ls : List (List Paced)) (i j : ℕ) → i ≤ j → behind j ls ≤ behind i ls
behind-fewer [] zero zero h = omega arith
behind-fewer [] zero (suc j) h = omega arith
behind-fewer [] (suc i) zero h = absurd (omega (arith, h))
behind-fewer [] (suc i) (suc j) h = omega arith
behind-fewer (l ∷ ls) zero zero h = omega arith
behind-fewer (l ∷ ls) zero (suc j) h =
    let rest = behind-fewer ls zero j (omega arith) in
    omega (arith, rest, length-merged l (together ls))
behind-fewer (l ∷ ls) (suc i) zero h = absurd (omega (arith, h))
behind-fewer (l ∷ ls) (suc i) (suc j) h = behind-fewer ls i j (omega (arith, h))

-- where there are as many, they are the same
pub behind-same : (ls : List (List Paced)) (i j : ℕ) → i ≤ j → behind i ls ≤ behind j ls
    → together (drop i ls) ≡ together (drop j ls)
behind-same [] zero zero h few = refl
behind-same [] zero (suc j) h few = refl
behind-same [] (suc i) zero h few = refl
behind-same [] (suc i) (suc j) h few = refl
behind-same (l ∷ ls) zero zero h few = refl
behind-same (l ∷ ls) zero (suc j) h few =
    by l (behind-fewer ls zero j (omega arith)) (behind-same ls zero j (omega arith)) few
  where
    by : (l : List Paced) → behind j ls ≤ behind zero ls
        → (behind zero ls ≤ behind j ls → together ls ≡ together (drop j ls))
        → behind zero (l ∷ ls) ≤ behind j ls → together (l ∷ ls) ≡ together (drop j ls)
    by [] fewer ih few = ih few
    by (p ∷ ps) fewer ih few =
        absurd (omega (arith, few, fewer, length-merged (p ∷ ps) (together ls)))
behind-same (l ∷ ls) (suc i) zero h few = absurd (omega (arith, h))
behind-same (l ∷ ls) (suc i) (suc j) h few = behind-same ls i j (omega (arith, h)) few

-- a walk ends at `to`, or once it has seen all entries before that
pub record Walked (ls : List (List Paced)) (from place to left unseen : ℕ) : Type 0 where
  pub order : place ≤ to
  pub enough : behind from ls ≤ left + behind to ls
  pub counted : unseen + behind from ls ≡ left + behind place ls

pub walked-to : {ls : List (List Paced)} {from place to left unseen : ℕ} → Walked ls from place to left unseen
    → to ≤ place → together (drop place ls) ≡ together (drop to ls)
walked-to {ls} {from} {place} {to} w end =
    let same : place ≡ to = omega (arith, w.order, end) in ap (λ k. together (drop k ls)) same

pub walked-all : {ls : List (List Paced)} {from place to left unseen : ℕ} → Walked ls from place to left unseen
    → unseen ≤ 0 → together (drop place ls) ≡ together (drop to ls)
walked-all {ls} {from} {place} {to} {left} {unseen} w none =
    behind-same ls place to w.order (omega (arith, w.enough, w.counted, none))

-- what the place has wasn't seen
pub walked-some : {ls : List (List Paced)} {from place to left unseen : ℕ} → Walked ls from place to left unseen
    → place < to → place < length ls → length (list_at ls place) ≤ unseen
walked-some {ls} {from} {place} {to} w on in_it =
    omega (arith, behind-step ls place in_it, behind-fewer ls (place + 1) to (omega (arith, on)), w.enough, w.counted)

-- the least of three
smaller-least : (m n : ℕ) (r : Option ℕ) → smaller (smaller m (Some n)) r ≡ smaller m (Some (smaller n r))
smaller-least m n None = refl
smaller-least m n (Some k) = by (leb m n) refl (leb m k) refl (leb n k) refl
  where
    by : (a : Bool) → leb m n ≡ a → (b : Bool) → leb m k ≡ b → (c : Bool) → leb n k ≡ c
        → smaller (smaller m (Some n)) (Some k) ≡ smaller m (Some (smaller n (Some k)))
    by true ha true hb true hc = rw (hc, ha, hb) refl
    by true ha true hb false hc = rw (hc, ha, hb) refl
    by true ha false hb true hc =
        absurd (omega (arith, leb-true m n ha, leb-false m k hb, leb-true n k hc))
    by true ha false hb false hc = rw (hc, ha, hb) refl
    by false ha true hb true hc = rw (hc, ha, hc) refl
    by false ha true hb false hc =
        absurd (omega (arith, leb-false m n ha, leb-true m k hb, leb-false n k hc))
    by false ha false hb true hc = rw (hc, ha, hc) refl
    by false ha false hb false hc = rw (hc, ha, hc, hb) refl

pub lesser-then : (a b c : Option ℕ) → lesser (lesser a b) c ≡ lesser a (lesser b c)
lesser-then None b c = refl
lesser-then (Some m) None c = refl
lesser-then (Some m) (Some n) c = ap Some (smaller-least m n c)

pub lesser-none : (a : Option ℕ) → lesser a None ≡ a
lesser-none None = refl
lesser-none (Some n) = refl

-- the earliest of three
pub earlier-then : (a b c : Option Paced) → earlier (earlier a b) c ≡ earlier a (earlier b c)
earlier-then None b c = refl
earlier-then (Some o) None c = refl
earlier-then (Some o) (Some p) None = by (leb o.due p.due) refl
  where
    by : (a : Bool) → leb o.due p.due ≡ a
        → earlier (earlier (Some o) (Some p)) None ≡ earlier (Some o) (earlier (Some p) None)
    by true t = rw t refl
    by false t = rw t refl
earlier-then (Some o) (Some p) (Some q) = by (leb o.due p.due) refl (leb o.due q.due) refl (leb p.due q.due) refl
  where
    by : (a : Bool) → leb o.due p.due ≡ a → (b : Bool) → leb o.due q.due ≡ b → (c : Bool) → leb p.due q.due ≡ c
        → earlier (earlier (Some o) (Some p)) (Some q) ≡ earlier (Some o) (earlier (Some p) (Some q))
    by true ha true hb true hc = rw (hc, ha, hb) refl
    by true ha true hb false hc = rw (hc, ha, hb) refl
    by true ha false hb true hc =
        absurd (omega (arith, leb-true o.due p.due ha, leb-false o.due q.due hb, leb-true p.due q.due hc))
    by true ha false hb false hc = rw (hc, ha, hb) refl
    by false ha true hb true hc = rw (hc, ha, hc) refl
    by false ha true hb false hc =
        absurd (omega (arith, leb-false o.due p.due ha, leb-true o.due q.due hb, leb-false p.due q.due hc))
    by false ha false hb true hc = rw (hc, ha, hc) refl
    by false ha false hb false hc = rw (hc, ha, hc, hb) refl

pub earlier-none : (a : Option Paced) → earlier a None ≡ a
earlier-none None = refl
earlier-none (Some o) = refl

pub drop-all : (ls : List (List Paced)) → drop (length ls) ls ≡ []
drop-all [] = refl
drop-all (l ∷ ls) = drop-all ls

-- What a chain is after a link was written.
use Rattle.std.proofs.Common.{◌≡◌, ◌≢◌, ℕ, zero, suc, ◌+◌, ◌<◌, List, [], ◌∷◌, ◌++◌, length, set, refl, ap, ◌∙◌}
use Rattle.std.proofs.Common.{arith, subst}
use Rattle.rpc_base.proofs.TotalsLemmas.{only-same}
use Rattle.rpc_base.specs.Totals.{only}
use Rattle.pacing_wheel.specs.declared.chains.Link.{Link}
use Rattle.pacing_wheel.specs.Chains.{chain_at, items_at, last_or, link_at, times}

pub link-here : (links : List Link) (k : ℕ) (x : Link) → k < length links → link_at (set links k x) k ≡ x
link-here [] k x h = absurd (omega (arith, h))
link-here (l ∷ ls) zero x h = refl
link-here (l ∷ ls) (suc k) x h = link-here ls k x (omega (arith, h))

pub link-else : (links : List Link) (j k : ℕ) (x : Link) → k ≢ j → link_at (set links j x) k ≡ link_at links k
link-else [] j k x n = refl
link-else (l ∷ ls) zero zero x n = absurd (n refl)
link-else (l ∷ ls) zero (suc k) x n = refl
link-else (l ∷ ls) (suc j) zero x n = refl
link-else (l ∷ ls) (suc j) (suc k) x n = link-else ls j k x (λ e. n (ap suc e))

apart : (j i : ℕ) (rest : ℕ) → only j i + rest ≡ 0 → i ≢ j
apart j i rest h e = omega (arith, only-same j i e, h)

-- a chain that hasn't the place stays
pub frame : (links : List Link) (j : ℕ) (x : Link) (n i : ℕ) → times j (chain_at links n i) ≡ 0
    → chain_at (set links j x) n i ≡ chain_at links n i
frame links j x zero i h = refl
frame links j x (suc n) i h =
    let same : link_at (set links j x) i ≡ link_at links i =
    link-else links j i x (apart j i (times j (chain_at links n (link_at links i).next)) h) in
    ap (λ (l : Link). i ∷ chain_at (set links j x) n l.next) same
    ∙ ap (λ ks. i ∷ ks) (frame links j x n (link_at links i).next (omega (arith, h)))

pub frame-items : (links : List Link) (j : ℕ) (x : Link) (ks : List ℕ) → times j ks ≡ 0
    → items_at (set links j x) ks ≡ items_at links ks
frame-items links j x [] h = refl
frame-items links j x (k ∷ ks) h =
    let same : link_at (set links j x) k ≡ link_at links k = link-else links j k x (apart j k (times j ks) h) in
    ap (λ (l : Link). l.item ∷ items_at (set links j x) ks) same
    ∙ ap (λ ys. (link_at links k).item ∷ ys) (frame-items links j x ks (omega (arith, h)))

pub last-in : (d : ℕ) (k : ℕ) (ks : List ℕ) → 0 < times (last_or d (k ∷ ks)) (k ∷ ks)
last-in d k [] = omega (arith, only-same k k refl)
last-in d k (m ∷ ks) = omega (arith, last-in k m ks)

-- the last link of a chain is written: one place more follows
pub extend : (links : List Link) (l : ℕ) (x : Link) (k n i : ℕ) → l < length links
    → last_or 0 (chain_at links (suc n) i) ≡ l → times l (chain_at links (suc n) i) ≡ 1 → x.next ≡ k
    → chain_at (set links l x) (suc (suc n)) i ≡ chain_at links (suc n) i ++ k ∷ []
extend links l x k zero i h last one is =
    ap (λ (y : Link). i ∷ y.next ∷ []) (ap (link_at (set links l x)) last ∙ link-here links l x h)
    ∙ ap (λ m. i ∷ m ∷ []) is
extend links l x k (suc n) i h last one is =
    let j = (link_at links i).next in
    let rest : 0 < times l (chain_at links (suc n) j) =
    subst (λ m. 0 < times m (chain_at links (suc n) j)) last (last-in i j (chain_at links n (link_at links j).next)) in
    let here : only l i ≡ 0 = omega (arith, rest, one) in
    let same : link_at (set links l x) i ≡ link_at links i = link-else links l i x (λ e. omega (arith, only-same l i e, here)) in
    ap (λ (y : Link). i ∷ chain_at (set links l x) (suc (suc n)) y.next) same
    ∙ ap (λ ks. i ∷ ks) (extend links l x k n j h last (omega (arith, here, one)) is)

-- the items of a longer chain
pub items-append : (links : List Link) (ks : List ℕ) (k : ℕ)
    → items_at links (ks ++ k ∷ []) ≡ items_at links ks ++ (link_at links k).item ∷ []
items-append links [] k = refl
items-append links (m ∷ ks) k = ap (λ ys. (link_at links m).item ∷ ys) (items-append links ks k)

pub times-append : (j : ℕ) (ks : List ℕ) (k : ℕ) → times j (ks ++ k ∷ []) ≡ times j ks + only j k
times-append j [] k = omega arith
times-append j (m ∷ ks) k = omega (arith, times-append j ks k)

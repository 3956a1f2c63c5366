-- What a push makes of the lists.
use Rattle.std.proofs.Common.{◌≡◌, ℕ, zero, suc, ◌+◌, ◌-◌, ◌<◌, ◌≤◌, List, [], ◌∷◌, ◌++◌, length, set, sym, refl, ap, ◌∙◌}
use Rattle.std.proofs.Common.{arith, get_or, subst}
use Rattle.std.proofs.lemmas.Bool.Decides.{nat_tests}
use mathlib.Core.Logic.{dite}
use native.Mathlib.Decide.{ℕ_discrete}
use Rattle.std.specs.List.{AllByRecursion}
use Rattle.rpc_base.specs.Totals.{only}
use Rattle.pacing_wheel.specs.declared.pacer.Paced.{Paced}
use Rattle.pacing_wheel.specs.declared.chains.Link.{Link}
use Rattle.pacing_wheel.specs.declared.chains.Ends.{Ends}
use Rattle.pacing_wheel.specs.Chains.{chain_at, chain_of, in_chains, items_at, last_or, lens, link_at, lists_in, Tied, table, times, with_last, EndsAt}
use Rattle.pacing_wheel.proofs.ChainLemmas.{frame, frame-items, extend, items-append, times-append, link-here, link-else, last-in}

-- a link that no chain has is written: all stays
chain-stays : (links : List Link) (j : ℕ) (x : Link) (e : Ends) → times j (chain_of links e) ≡ 0
    → chain_of (set links j x) e ≡ chain_of links e
chain-stays links j x e h = frame links j x e.len e.first h

items-stay : (links : List Link) (j : ℕ) (x : Link) (e : Ends) → times j (chain_of links e) ≡ 0
    → items_at (set links j x) (chain_of (set links j x) e) ≡ items_at links (chain_of links e)
items-stay links j x e h =
    ap (items_at (set links j x)) (chain-stays links j x e h) ∙ frame-items links j x (chain_of links e) h

pub lists-stay : (links : List Link) (j : ℕ) (x : Link) (es : List Ends) → in_chains j links es ≡ 0
    → lists_in (set links j x) es ≡ lists_in links es
lists-stay links j x [] h = refl
lists-stay links j x (e ∷ es) h =
    ap (λ l. l ∷ lists_in (set links j x) es) (items-stay links j x e (omega (arith, h)))
    ∙ ap (λ ls. items_at links (chain_of links e) ∷ ls) (lists-stay links j x es (omega (arith, h)))

pub counts-stay : (links : List Link) (j : ℕ) (x : Link) (es : List Ends) (m : ℕ) → in_chains j links es ≡ 0
    → in_chains m (set links j x) es ≡ in_chains m links es
counts-stay links j x [] m h = refl
counts-stay links j x (e ∷ es) m h = omega (
  arith,
  ap (times m) (chain-stays links j x e (omega (arith, h))),
  counts-stay links j x es m (omega (arith, h)),
)

pub ends-stay : (links : List Link) (j : ℕ) (x : Link) (es : List Ends) → in_chains j links es ≡ 0
    → AllByRecursion (EndsAt links) es → AllByRecursion (EndsAt (set links j x)) es
ends-stay links j x [] h all = tt
ends-stay links j x (e ∷ es) h all = (
  (λ some. ap (last_or 0) (chain-stays links j x e (omega (arith, h))) ∙ all.0 some),
  ends-stay links j x es (omega (arith, h)) all.1,
)

-- 1. into an empty list

module _ (links : List Link) (k : ℕ) (x : Link) (b : Ends) (fits : k < length links) (first : b.first ≡ k)
    (one : b.len ≡ 1) (end : b.last ≡ k) where
  new-chain : chain_of (set links k x) b ≡ k ∷ []
  new-chain = ap (λ n. chain_at (set links k x) n b.first) one ∙ ap (λ i. i ∷ []) first

  pub lists-begun : (es : List Ends) (p : ℕ) (d : Ends) → in_chains k links es ≡ 0 → p < length es
      → (get_or es p d).len ≡ 0
      → lists_in (set links k x) (set es p b) ≡ with_last p x.item (lists_in links es)
  lists-begun [] p d none h empty = absurd (omega (arith, h))
  lists-begun (e ∷ es) zero d none h empty =
      ap (λ ks. items_at (set links k x) ks ∷ lists_in (set links k x) es) new-chain
      ∙ (ap (λ (l : Link). (l.item ∷ []) ∷ lists_in (set links k x) es) (link-here links k x fits)
      ∙ (ap (λ ls. (x.item ∷ []) ∷ ls) (lists-stay links k x es (omega (arith, none)))
      ∙ ap (λ n. (items_at links (chain_at links n e.first) ++ x.item ∷ []) ∷ lists_in links es) (sym empty)))
  lists-begun (e ∷ es) (suc p) d none h empty =
      ap (λ l. l ∷ lists_in (set links k x) (set es p b)) (items-stay links k x e (omega (arith, none)))
      ∙ ap (λ ls. items_at links (chain_of links e) ∷ ls) (lists-begun es p d (omega (arith, none)) (omega (arith, h)) empty)

  pub counts-begun : (es : List Ends) (p : ℕ) (d : Ends) (m : ℕ) → in_chains k links es ≡ 0 → p < length es
      → (get_or es p d).len ≡ 0
      → in_chains m (set links k x) (set es p b) ≡ in_chains m links es + only m k
  counts-begun [] p d m none h empty = absurd (omega (arith, h))
  counts-begun (e ∷ es) zero d m none h empty = omega (
    arith,
    ap (times m) new-chain,
    counts-stay links k x es m (omega (arith, none)),
    ap (λ n. times m (chain_at links n e.first)) empty,
  )
  counts-begun (e ∷ es) (suc p) d m none h empty = omega (
    arith,
    ap (times m) (chain-stays links k x e (omega (arith, none))),
    counts-begun es p d m (omega (arith, none)) (omega (arith, h)) empty,
  )

  pub ends-begun : (es : List Ends) (p : ℕ) → in_chains k links es ≡ 0 → AllByRecursion (EndsAt links) es
      → AllByRecursion (EndsAt (set links k x)) (set es p b)
  ends-begun [] p none all = tt
  ends-begun (e ∷ es) zero none all =
      ((λ some. ap (last_or 0) new-chain ∙ sym end), ends-stay links k x es (omega (arith, none)) all.1)
  ends-begun (e ∷ es) (suc p) none all = (
    (λ some. ap (last_or 0) (chain-stays links k x e (omega (arith, none))) ∙ all.0 some),
    ends-begun es p (omega (arith, none)) all.1,
  )

-- 2. behind others: the link of the last is written once more, with the same item
item-kept : (links : List Link) (l : ℕ) (y : Link) → l < length links → y.item ≡ (link_at links l).item → (m : ℕ)
    → (link_at (set links l y) m).item ≡ (link_at links m).item
item-kept links l y fits same m = dite (ℕ_discrete m l)
    (λ e. ap (λ n. (link_at (set links l y) n).item) e ∙ (ap (λ (z : Link). z.item) (link-here links l y fits)
    ∙ (same ∙ ap (λ n. (link_at links n).item) (sym e))))
    (λ n. ap (λ (z : Link). z.item) (link-else links l m y n))

pub items-kept : (links : List Link) (l : ℕ) (y : Link) → l < length links → y.item ≡ (link_at links l).item
    → (ks : List ℕ) → items_at (set links l y) ks ≡ items_at links ks
items-kept links l y fits same [] = refl
items-kept links l y fits same (m ∷ ks) =
    ap (λ i. i ∷ items_at (set links l y) ks) (item-kept links l y fits same m)
    ∙ ap (λ ys. (link_at links m).item ∷ ys) (items-kept links l y fits same ks)

before : (m : ℕ) → 0 < m → (n : ℕ) × (m ≡ suc n)
before zero h = absurd (omega (arith, h))
before (suc n) h = (n, refl)

last-there : (links : List Link) (e : Ends) → 0 < e.len
    → 0 < times (last_or 0 (chain_of links e)) (chain_of links e)
last-there links e h = let t = before e.len h in
    subst (λ n. 0 < times (last_or 0 (chain_at links n e.first)) (chain_at links n e.first)) (sym t.1)
    (last-in 0 e.first (chain_at links t.0 (link_at links e.first).next))

later-in : (links : List Link) (m : ℕ) (es : List Ends) (p : ℕ) (d : Ends) → p < length es
    → 0 < times m (chain_of links (get_or es p d)) → 0 < in_chains m links es
later-in links m [] p d h there = absurd (omega (arith, h))
later-in links m (e ∷ es) zero d h there = omega (arith, there)
later-in links m (e ∷ es) (suc p) d h there = omega (arith, later-in links m es p d (omega (arith, h)) there)

module _ (links : List Link) (k l : ℕ) (x y : Link) (b : Ends) (fits : k < length links)
    (inside : l < length (set links k x)) (kept : y.item ≡ (link_at (set links k x) l).item)
    (goes : y.next ≡ k) (end : b.last ≡ k) where
  abbrev then_links : List Link
  then_links = set (set links k x) l y

  long-chain : (e : Ends) (n : ℕ) → e.len ≡ suc n → times k (chain_of links e) ≡ 0
      → last_or 0 (chain_of links e) ≡ l → times l (chain_of links e) ≡ 1
      → chain_at then_links (suc e.len) e.first ≡ chain_of links e ++ k ∷ []
  long-chain e n is none last one =
      let stays = chain-stays links k x e none in
      let eq : chain_at (set links k x) (suc n) e.first ≡ chain_of links e =
      ap (λ m. chain_at (set links k x) m e.first) (sym is) ∙ stays in
      ap (λ m. chain_at then_links (suc m) e.first) is
      ∙ (extend (set links k x) l y k n e.first inside (ap (last_or 0) eq ∙ last) (ap (times l) eq ∙ one) goes
      ∙ ap (λ ks. ks ++ k ∷ []) eq)

  grown : (e : Ends) → 0 < e.len → b.first ≡ e.first → b.len ≡ suc e.len → times k (chain_of links e) ≡ 0
      → last_or 0 (chain_of links e) ≡ l → times l (chain_of links e) ≡ 1
      → chain_of then_links b ≡ chain_of links e ++ k ∷ []
  grown e some first len none last one = let t = before e.len some in
      ap (λ n. chain_at then_links n b.first) len ∙ (ap (chain_at then_links (suc e.len)) first
      ∙ long-chain e t.0 t.1 none last one)

  grown-items : (e : Ends) → 0 < e.len → b.first ≡ e.first → b.len ≡ suc e.len → times k (chain_of links e) ≡ 0
      → last_or 0 (chain_of links e) ≡ l → times l (chain_of links e) ≡ 1
      → items_at then_links (chain_of then_links b) ≡ items_at links (chain_of links e) ++ x.item ∷ []
  grown-items e some first len none last one =
      ap (items_at then_links) (grown e some first len none last one)
      ∙ (items-kept (set links k x) l y inside kept (chain_of links e ++ k ∷ [])
      ∙ (items-append (set links k x) (chain_of links e) k
      ∙ (ap (λ ys. ys ++ (link_at (set links k x) k).item ∷ []) (frame-items links k x (chain_of links e) none)
      ∙ ap (λ (z : Link). items_at links (chain_of links e) ++ z.item ∷ []) (link-here links k x fits))))

  rest-lists : (es : List Ends) → in_chains k links es ≡ 0 → in_chains l links es ≡ 0
      → lists_in then_links es ≡ lists_in links es
  rest-lists es none nol =
      lists-stay (set links k x) l y es (counts-stay links k x es l none ∙ nol) ∙ lists-stay links k x es none

  rest-counts : (es : List Ends) (m : ℕ) → in_chains k links es ≡ 0 → in_chains l links es ≡ 0
      → in_chains m then_links es ≡ in_chains m links es
  rest-counts es m none nol =
      counts-stay (set links k x) l y es m (counts-stay links k x es l none ∙ nol) ∙ counts-stay links k x es m none

  rest-items : (e : Ends) → times k (chain_of links e) ≡ 0 → times l (chain_of links e) ≡ 0
      → items_at then_links (chain_of then_links e) ≡ items_at links (chain_of links e)
  rest-items e none nol =
      items-stay (set links k x) l y e (ap (times l) (chain-stays links k x e none) ∙ nol)
      ∙ items-stay links k x e none

  pub lists-longer : (es : List Ends) (p : ℕ) (d : Ends) → in_chains k links es ≡ 0 → in_chains l links es ≤ 1
      → p < length es → 0 < (get_or es p d).len → b.first ≡ (get_or es p d).first
      → b.len ≡ suc (get_or es p d).len → last_or 0 (chain_of links (get_or es p d)) ≡ l
      → lists_in then_links (set es p b) ≡ with_last p x.item (lists_in links es)
  lists-longer [] p d none one h some first len last = absurd (omega (arith, h))
  lists-longer (e ∷ es) zero d none one h some first len last =
      let there : 0 < times l (chain_of links e) = subst (λ m. 0 < times m (chain_of links e)) last (last-there links e some) in
      ap (λ ys. ys ∷ lists_in then_links es)
      (grown-items e some first len (omega (arith, none)) last (omega (arith, one, there)))
      ∙ ap (λ ls. (items_at links (chain_of links e) ++ x.item ∷ []) ∷ ls)
      (rest-lists es (omega (arith, none)) (omega (arith, one, there)))
  lists-longer (e ∷ es) (suc p) d none one h some first len last =
      let there = later-in links l es p d (omega (arith, h))
      (subst (λ m. 0 < times m (chain_of links (get_or es p d))) last (last-there links (get_or es p d) some)) in
      ap (λ ys. ys ∷ lists_in then_links (set es p b))
      (rest-items e (omega (arith, none)) (omega (arith, one, there)))
      ∙ ap (λ ls. items_at links (chain_of links e) ∷ ls)
      (lists-longer es p d (omega (arith, none)) (omega (arith, one)) (omega (arith, h)) some first len last)

  pub counts-longer : (es : List Ends) (p : ℕ) (d : Ends) (m : ℕ) → in_chains k links es ≡ 0
      → in_chains l links es ≤ 1 → p < length es → 0 < (get_or es p d).len → b.first ≡ (get_or es p d).first
      → b.len ≡ suc (get_or es p d).len → last_or 0 (chain_of links (get_or es p d)) ≡ l
      → in_chains m then_links (set es p b) ≡ in_chains m links es + only m k
  counts-longer [] p d m none one h some first len last = absurd (omega (arith, h))
  counts-longer (e ∷ es) zero d m none one h some first len last =
      let there : 0 < times l (chain_of links e) = subst (λ n. 0 < times n (chain_of links e)) last (last-there links e some) in
      omega (
        arith,
        ap (times m) (grown e some first len (omega (arith, none)) last (omega (arith, one, there))),
        times-append m (chain_of links e) k,
        rest-counts es m (omega (arith, none)) (omega (arith, one, there)),
      )
  counts-longer (e ∷ es) (suc p) d m none one h some first len last =
      let there = later-in links l es p d (omega (arith, h))
      (subst (λ n. 0 < times n (chain_of links (get_or es p d))) last (last-there links (get_or es p d) some)) in
      omega (
        arith,
        ap (times m) (chain-stays (set links k x) l y e
            (ap (times l) (chain-stays links k x e (omega (arith, none))) ∙ omega (arith, one, there))),
        ap (times m) (chain-stays links k x e (omega (arith, none))),
        counts-longer es p d m (omega (arith, none)) (omega (arith, one)) (omega (arith, h)) some first len last,
      )

  pub ends-longer : (es : List Ends) (p : ℕ) (d : Ends) → in_chains k links es ≡ 0
      → in_chains l links es ≤ 1 → p < length es → 0 < (get_or es p d).len → b.first ≡ (get_or es p d).first
      → b.len ≡ suc (get_or es p d).len → last_or 0 (chain_of links (get_or es p d)) ≡ l
      → AllByRecursion (EndsAt links) es → AllByRecursion (EndsAt then_links) (set es p b)
  ends-longer [] p d none one h some first len last all = absurd (omega (arith, h))
  ends-longer (e ∷ es) zero d none one h some first len last all =
      let there : 0 < times l (chain_of links e) = subst (λ n. 0 < times n (chain_of links e)) last (last-there links e some) in (
        (λ _. ap (last_or 0) (grown e some first len (omega (arith, none)) last (omega (arith, one, there)))
            ∙ (last-append 0 (chain_of links e) k ∙ sym end)),
        ends-stay (set links k x) l y es (counts-stay links k x es l (omega (arith, none)) ∙ omega (arith, one, there))
            (ends-stay links k x es (omega (arith, none)) all.1),
      )
    where
      last-append : (d : ℕ) (ks : List ℕ) (m : ℕ) → last_or d (ks ++ m ∷ []) ≡ m
      last-append d [] m = refl
      last-append d (n ∷ ks) m = last-append n ks m
  ends-longer (e ∷ es) (suc p) d none one h some first len last all =
      let there = later-in links l es p d (omega (arith, h))
      (subst (λ n. 0 < times n (chain_of links (get_or es p d))) last (last-there links (get_or es p d) some)) in (
        (λ full. ap (last_or 0) (chain-stays (set links k x) l y e
            (ap (times l) (chain-stays links k x e (omega (arith, none))) ∙ omega (arith, one, there)))
            ∙ (ap (last_or 0) (chain-stays links k x e (omega (arith, none))) ∙ all.0 full)),
        ends-longer es p d (omega (arith, none)) (omega (arith, one)) (omega (arith, h)) some first len last all.1,
      )

-- 3. all of it

pub lens-set : (es : List Ends) (p : ℕ) (b d : Ends) → p < length es
    → lens (set es p b) + (get_or es p d).len ≡ lens es + b.len
lens-set [] p b d h = absurd (omega (arith, h))
lens-set (e ∷ es) zero b d h = omega arith
lens-set (e ∷ es) (suc p) b d h = omega (arith, lens-set es p b d (omega (arith, h)))

pub length-set : {A : Type 0} (xs : List A) (i : ℕ) (a : A) → length (set xs i a) ≡ length xs
length-set [] i a = refl
length-set (x ∷ xs) zero a = refl
length-set (x ∷ xs) (suc i) a = ap suc (length-set xs i a)

pub length-end : (ks : List ℕ) (k : ℕ) → length (ks ++ k ∷ []) ≡ suc (length ks)
length-end [] k = refl
length-end (m ∷ ks) k = ap suc (length-end ks k)

pub top-free : (links : List Link) (es : List Ends) (rest : List ℕ) (k : ℕ) → Tied links es (rest ++ k ∷ [])
    → (in_chains k links es ≡ 0) × (k < length links)
top-free links es rest k t = let one = times-append k rest k in (
  omega (arith, t.once k, one, only-one k),
  t.inside k (omega (arith, one, only-one k)),
)
  where
    only-one : (n : ℕ) → only n n ≡ 1
    only-one n = grind (arith, nat_tests)

pub tied-begun : (links : List Link) (es : List Ends) (rest : List ℕ) (k p : ℕ) (x : Link) (b d : Ends)
    → Tied links es (rest ++ k ∷ []) → b.first ≡ k → b.len ≡ 1 → b.last ≡ k → p < length es
    → (get_or es p d).len ≡ 0 → Tied (set links k x) (set es p b) rest
tied-begun links es rest k p x b d t first one end h empty =
    let top = top-free links es rest k t in record {
      once = λ m. omega (
        arith,
        counts-begun links k x b top.1 first one end es p d m top.0 h empty,
        times-append m rest k,
        t.once m,
      );
      inside = λ m some. let low = t.inside m (omega (
        arith,
        some,
        counts-begun links k x b top.1 first one end es p d m top.0 h empty,
        times-append m rest k,
      )) in omega (arith, low, length-set links k x);
      ends = ends-begun links k x b top.1 first one end es p top.0 t.ends;
      count = omega (arith, lens-set es p b d h, t.count, empty, one, length-end rest k, length-set links k x);
      few = omega (arith, t.few, length-set links k x);
    }

pub tied-longer : (links : List Link) (es : List Ends) (rest : List ℕ) (k l p : ℕ) (x y : Link) (b d : Ends)
    → Tied links es (rest ++ k ∷ []) → l < length (set links k x) → y.item ≡ (link_at (set links k x) l).item
    → y.next ≡ k → b.last ≡ k → p < length es → 0 < (get_or es p d).len → b.first ≡ (get_or es p d).first
    → b.len ≡ suc (get_or es p d).len → last_or 0 (chain_of links (get_or es p d)) ≡ l
    → in_chains l links es ≤ 1
    → Tied (set (set links k x) l y) (set es p b) rest
tied-longer links es rest k l p x y b d t inside kept goes end h some first len last one =
    let top = top-free links es rest k t in record {
      once = λ m. omega (
        arith,
        counts-longer links k l x y b top.1 inside kept goes end es p d m top.0 one h some first len last,
        times-append m rest k,
        t.once m,
      );
      inside = λ m full. let low = t.inside m (omega (
        arith,
        full,
        counts-longer links k l x y b top.1 inside kept goes end es p d m top.0 one h some first len last,
        times-append m rest k,
      )) in omega (arith, low, length-set links k x, length-set (set links k x) l y);
      ends = ends-longer links k l x y b top.1 inside kept goes end es p d top.0 one h some first len last t.ends;
      count = omega (arith, lens-set es p b d h, t.count, len, length-end rest k, length-set links k x, length-set (set links k x) l y);
      few = omega (arith, t.few, length-set links k x, length-set (set links k x) l y);
    }

pub lists-length : (links : List Link) (es : List Ends) → length (lists_in links es) ≡ length es
lists-length links [] = refl
lists-length links (e ∷ es) = ap suc (lists-length links es)

pub lens-at : (es : List Ends) (p : ℕ) (d : Ends) → p < length es → (get_or es p d).len ≤ lens es
lens-at [] p d h = absurd (omega (arith, h))
lens-at (e ∷ es) zero d h = omega arith
lens-at (e ∷ es) (suc p) d h = omega (arith, lens-at es p d (omega (arith, h)))

pub ends-at : (links : List Link) (es : List Ends) (p : ℕ) (d : Ends) → p < length es
    → AllByRecursion (EndsAt links) es → EndsAt links (get_or es p d)
ends-at links [] p d h all = absurd (omega (arith, h))
ends-at links (e ∷ es) zero d h all = all.0
ends-at links (e ∷ es) (suc p) d h all = ends-at links es p d (omega (arith, h)) all.1

pub get-same : {A : Type 0} (xs : List A) (i : ℕ) (c d : A) → i < length xs → get_or xs i c ≡ get_or xs i d
get-same [] i c d h = absurd (omega (arith, h))
get-same (x ∷ xs) zero c d h = refl
get-same (x ∷ xs) (suc i) c d h = get-same xs i c d (omega (arith, h))

-- what is known of the chain that is made longer
pub record Known (links : List Link) (es : List Ends) (p : ℕ) (e : Ends) : Type 0 where
  pub there : last_or 0 (chain_of links (get_or es p e)) ≡ e.last
  pub last : last_or 0 (chain_of links e) ≡ e.last
  pub low : e.last < length links
  pub one : in_chains e.last links es ≤ 1
  pub few : e.len + 1 < 4294967296

pub known : (links : List Link) (es : List Ends) (rest : List ℕ) (k p : ℕ) (e : Ends)
    → Tied links es (rest ++ k ∷ []) → p < length es → e ≡ get_or es p e → 0 < e.len → Known links es p e
known links es rest k p e t h is some =
    let last : last_or 0 (chain_of links e) ≡ e.last =
    subst (λ (z : Ends). 0 < z.len → last_or 0 (chain_of links z) ≡ z.last) (sym is) (ends-at links es p e h t.ends) some in
    let there : 0 < times e.last (chain_of links e) = subst (λ m. 0 < times m (chain_of links e)) last (last-there links e some) in
    let among = later-in links e.last es p e h (subst (λ (z : Ends). 0 < times e.last (chain_of links z)) is there) in
    record {
      there = subst (λ (z : Ends). last_or 0 (chain_of links z) ≡ e.last) is last;
      last = last;
      low = t.inside e.last (omega (arith, among));
      one = omega (arith, t.once e.last);
      few = omega (arith, lens-at es p e h, ap (λ (z : Ends). z.len) is, t.count, t.few, length-end rest k);
    }

pub same-table : (a b : List (List Paced)) (m n : ℕ) → a ≡ b → m ≡ n → table a m ≡ table b n
same-table a b m n e f = ap (λ x. table x m) e ∙ ap (table b) f

pub one-less : (rest free : List ℕ) (k : ℕ) → free ≡ rest ++ k ∷ [] → length rest ≡ length free - 1
one-less rest free k e = omega (arith, ap length e, length-end rest k)

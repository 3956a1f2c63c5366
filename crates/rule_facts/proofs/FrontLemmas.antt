-- Facts of a rule in front of those that follow.
use Rattle.std.proofs.Common.{◌≡◌, ◌<◌, ◌≤◌, ℕ, ◌+◌, ◌-◌, Some, None, List, [], ◌∷◌}
use Rattle.std.proofs.Common.{◌++◌, append_assoc, length, take, drop, refl, sym, ap, ◌∙◌, arith, get_or}
use Rattle.std.proofs.Common.{append-nil, length-drop, subst, suc, take-append-drop, zero}
use Rattle.std.specs.Prelude.{flat_map}
use Rattle.std.proofs.Math.Seq.{take-append_seam}
use Rattle.std.proofs.lemmas.List.{drop_at, length-append, take_more}
use Rattle.rpc_base.specs.declared.fact.Fact.{Fact}
use Rattle.rule_facts.specs.Fronts.{Fronts, Starts}

-- none stands in front of nothing
pub fronts-empty : (x : Fact) (xs facts : List Fact) → facts ≡ [] → Fronts (x ∷ xs) facts None
fronts-empty x xs facts e = record {
  some = tt;
  only = λ n h. let both : [] ≡ x ∷ (xs ++ h.rest) = sym e ∙ h.parted in cc;
}

-- no facts always stand in front
pub fronts-nothing : (facts : List Fact) → Fronts [] facts (Some 0)
fronts-nothing facts = record { some = (refl, record { rest = facts; parted = refl }); only = λ n h. cc }

-- the first fact isn't the one
pub fronts-other : (x f : Fact) (xs rest facts : List Fact) → facts ≡ f ∷ rest → (f ≡ x → ⊥)
    → Fronts (x ∷ xs) facts None
fronts-other x f xs rest facts e differs = record {
  some = tt;
  only = λ n h.
      let both : f ∷ rest ≡ x ∷ (xs ++ h.rest) = sym e ∙ h.parted in
      let same : f ≡ x = cc in differs same;
}

-- it is, and so are the others
pub fronts-more : (x f : Fact) (xs rest facts : List Fact) (n : ℕ) → facts ≡ f ∷ rest → f ≡ x
    → Fronts xs rest (Some n) → Fronts (x ∷ xs) facts (Some (n + 1))
fronts-more x f xs rest facts n e same h =
    let begins : Starts xs rest = h.some.1 in
    let long : n ≡ length xs = h.some.0 in
    record {
      some = (
        ap (λ (k : ℕ). k + 1) long ∙ (omega arith),
        record {
          rest = begins.rest;
          parted = e ∙ (ap (λ (g : Fact). g ∷ rest) same ∙ ap (λ (gs : List Fact). x ∷ gs) begins.parted);
        },
      );
      only = λ none k. cc;
    }

-- the others aren't
pub fronts-fewer : (x f : Fact) (xs rest facts : List Fact) → facts ≡ f ∷ rest
    → Fronts xs rest None → Fronts (x ∷ xs) facts None
fronts-fewer x f xs rest facts e h = record {
  some = tt;
  only = λ none k.
      let both : f ∷ rest ≡ x ∷ (xs ++ k.rest) = sym e ∙ k.parted in
      let tails : rest ≡ xs ++ k.rest = cc in
      h.only refl (record { rest = k.rest; parted = tails });
}

-- one fact, by its test
pub fronts-one : (x f : Fact) (rest facts : List Fact) → facts ≡ f ∷ rest → f ≡ x
    → Fronts (x ∷ []) facts (Some 1)
fronts-one x f rest facts e same = record {
  some = (refl, record { rest = rest; parted = e ∙ ap (λ (g : Fact). g ∷ rest) same });
  only = λ none k. cc;
}

take-length : (xs : List Fact) → take (length xs) xs ≡ xs
take-length [] = refl
take-length (x ∷ xs) = ap (λ (ys : List Fact). x ∷ ys) (take-length xs)

take-whole : (n : ℕ) (xs : List Fact) → n ≡ length xs → take n xs ≡ xs
take-whole n xs e = rw e (take-length xs)

-- facts of which the first is read
pub parted-first : (facts : List Fact) (f : Fact) → 0 < length facts → f ≡ get_or facts 0 f
    → facts ≡ f ∷ take (length facts - 1) (drop 1 facts)
parted-first [] f some e = absurd (omega (arith, some))
parted-first (g ∷ gs) f some e =
    let same : f ≡ g = e in
    let whole : take (length (g ∷ gs) - 1) gs ≡ gs = take-whole (length (g ∷ gs) - 1) gs (omega arith) in
    rw whole (ap (λ (h : Fact). h ∷ gs) (sym same))

-- one fact more, which is the next one
place-of : (x rest : List Fact) (g : Fact) → get_or (x ++ rest) (length x) g ≡ get_or rest 0 g
place-of [] rest g = refl
place-of (f ∷ x) rest g = place-of x rest g

first-of : (rest : List Fact) (g : Fact) → 0 < length rest → g ≡ get_or rest 0 g → rest ≡ g ∷ drop 1 rest
first-of [] g some e = absurd (omega (arith, some))
first-of (f ∷ rest) g some e = ap (λ (h : Fact). h ∷ rest) (sym e)

long-parts : (x rest facts : List Fact) → facts ≡ x ++ rest → length facts ≡ length x + length rest
long-parts x rest facts e = ap length e ∙ length-append x rest

-- what is left of the facts behind those in front
pub record Behind (x facts : List Fact) (g : Fact) : Type 0 where
  pub rest : List Fact
  pub parted : facts ≡ x ++ (g ∷ rest)

pub fronts-behind : (x facts : List Fact) (g : Fact) (n : ℕ) → Fronts x facts (Some n) → n < length facts
    → g ≡ get_or facts n g → Behind x facts g
fronts-behind x facts g n h some e =
    let begins : Starts x facts = h.some.1 in
    let long : n ≡ length x = h.some.0 in
    let sum = long-parts x begins.rest facts begins.parted in
    let at : g ≡ get_or begins.rest 0 g =
    e ∙ (ap (λ (k : ℕ). get_or facts k g) long ∙ (ap (λ (z : List Fact). get_or z (length x) g) begins.parted
    ∙ place-of x begins.rest g)) in
    let left = first-of begins.rest g (omega (arith, some, long, sum)) at in
    record { rest = drop 1 begins.rest; parted = begins.parted ∙ ap (λ (z : List Fact). x ++ z) left }

pub fronts-next : (x facts : List Fact) (f g : Fact) (n : ℕ) → Fronts x facts (Some n) → n < length facts
    → g ≡ get_or facts n g → g ≡ f → Fronts (x ++ f ∷ []) facts (Some (n + 1))
fronts-next x facts f g n h some e same =
    let b = fronts-behind x facts g n h some e in
    let long : n ≡ length x = h.some.0 in
    record {
      some = (
        ap (λ (k : ℕ). k + 1) long ∙ sym (length-append x (f ∷ [])),
        record {
          rest = b.rest;
          parted = b.parted ∙ (ap (λ (z : Fact). x ++ (z ∷ b.rest)) same ∙ sym (append_assoc x (f ∷ []) b.rest));
        },
      );
      only = λ none k. cc;
    }

-- the next one is another
same-tails : (x a b : List Fact) → x ++ a ≡ x ++ b → a ≡ b
same-tails [] a b e = e
same-tails (f ∷ x) a b e = let tails : x ++ a ≡ x ++ b = cc in same-tails x a b tails

pub fronts-stop : (x more facts : List Fact) (f g : Fact) (n : ℕ) → Fronts x facts (Some n) → n < length facts
    → g ≡ get_or facts n g → (g ≡ f → ⊥) → Fronts (x ++ f ∷ more) facts None
fronts-stop x more facts f g n h some e differs =
    let b = fronts-behind x facts g n h some e in
    record {
      some = tt;
      only = λ none k.
          let both : x ++ (g ∷ b.rest) ≡ x ++ (f ∷ (more ++ k.rest)) =
          sym b.parted ∙ (k.parted ∙ append_assoc x (f ∷ more) k.rest) in
          let tails : g ∷ b.rest ≡ f ∷ (more ++ k.rest) = same-tails x _ _ both in
          let same : g ≡ f = cc in
          differs same;
    }

-- there is no next one
pub fronts-short : (x more facts : List Fact) (f : Fact) (n : ℕ) → Fronts x facts (Some n) → length facts ≤ n
    → Fronts (x ++ f ∷ more) facts None
fronts-short x more facts f n h few = record {
  some = tt;
  only = λ none k.
      let long : n ≡ length x = h.some.0 in
      let sum = long-parts (x ++ f ∷ more) k.rest facts k.parted in
      let front = length-append x (f ∷ more) in
      omega (arith, few, long, sum, front);
}

-- facts of two rules, one behind the other
pub fronts-both : (x y facts : List Fact) (n m : ℕ) → Fronts x facts (Some n) → Fronts y (drop n facts) (Some m)
    → Fronts (x ++ y) facts (Some (n + m))
fronts-both x y facts n m h k =
    let begins : Starts x facts = h.some.1 in
    let long : n ≡ length x = h.some.0 in
    let more : Starts y (drop n facts) = k.some.1 in
    let size : m ≡ length y = k.some.0 in
    let left : drop n facts ≡ begins.rest =
    ap (λ (z : List Fact). drop n z) begins.parted ∙ drop_at x begins.rest n (sym long) in
    record {
      some = (
        omega (arith, long, size, length-append x y),
        record {
          rest = more.rest;
          parted = begins.parted ∙ (ap (λ (z : List Fact). x ++ z) (sym left ∙ more.parted)
              ∙ sym (append_assoc x y more.rest));
        },
      );
      only = λ none z. cc;
    }

pub fronts-second : (x y facts : List Fact) (n : ℕ) → Fronts x facts (Some n) → Fronts y (drop n facts) None
    → Fronts (x ++ y) facts None
fronts-second x y facts n h k =
    let begins : Starts x facts = h.some.1 in
    let long : n ≡ length x = h.some.0 in
    let left : drop n facts ≡ begins.rest =
    ap (λ (z : List Fact). drop n z) begins.parted ∙ drop_at x begins.rest n (sym long) in
    record {
      some = tt;
      only = λ none z.
          let both : x ++ begins.rest ≡ x ++ (y ++ z.rest) =
          sym begins.parted ∙ (z.parted ∙ append_assoc x y z.rest) in
          k.only refl (record { rest = z.rest; parted = left ∙ same-tails x _ _ both });
    }

pub fronts-first : (x y facts : List Fact) → Fronts x facts None → Fronts (x ++ y) facts None
fronts-first x y facts h = record {
  some = tt;
  only = λ none z. h.only refl (record { rest = y ++ z.rest; parted = z.parted ∙ append_assoc x y z.rest });
}

-- facts in front are no more than the facts
pub fronts-within : (x facts : List Fact) (n : ℕ) → Fronts x facts (Some n) → n ≤ length facts
fronts-within x facts n h =
    let begins : Starts x facts = h.some.1 in
    let long : n ≡ length x = h.some.0 in
    let sum = long-parts x begins.rest facts begins.parted in
    omega (arith, long, sum)

-- the facts of each of some numbers
module _ (F : ℕ → List Fact) where
  flat-append : (xs ys : List ℕ) → flat_map F (xs ++ ys) ≡ flat_map F xs ++ flat_map F ys
  flat-append [] ys = refl
  flat-append (x ∷ xs) ys =
      ap (λ (z : List Fact). F x ++ z) (flat-append xs ys) ∙ sym (append_assoc (F x) (flat_map F xs) (flat_map F ys))

  flat-one : (xs : List ℕ) (k : ℕ) → flat_map F (xs ++ k ∷ []) ≡ flat_map F xs ++ F k
  flat-one xs k = flat-append xs (k ∷ []) ∙ ap (λ (z : List Fact). flat_map F xs ++ z) (append-nil (F k))

  flat-more : (xs : List ℕ) (i k : ℕ) → i < length xs → k ≡ get_or xs i 0
      → flat_map F (take (i + 1) xs) ≡ flat_map F (take i xs) ++ F k
  flat-more xs i k lt e =
      ap (flat_map F) (take_more xs i 0 lt ∙ ap (λ (j : ℕ). take i xs ++ j ∷ []) (sym e)) ∙ flat-one (take i xs) k

  flat-split : (xs : List ℕ) (i k : ℕ) → i < length xs → k ≡ get_or xs i 0
      → flat_map F xs ≡ (flat_map F (take i xs) ++ F k) ++ flat_map F (drop (i + 1) xs)
  flat-split xs i k lt e =
      ap (flat_map F) (sym (take-append-drop (i + 1) xs))
      ∙ (flat-append (take (i + 1) xs) (drop (i + 1) xs)
      ∙ ap (λ (z : List Fact). z ++ flat_map F (drop (i + 1) xs)) (flat-more xs i k lt e))

  -- one number more
  pub flats-next : (xs : List ℕ) (i k : ℕ) (facts : List Fact) (n m : ℕ) → i < length xs → k ≡ get_or xs i 0
      → Fronts (flat_map F (take i xs)) facts (Some n) → Fronts (F k) (drop n facts) (Some m)
      → Fronts (flat_map F (take (i + 1) xs)) facts (Some (n + m))
  flats-next xs i k facts n m lt e h g =
      subst (λ (z : List Fact). Fronts z facts (Some (n + m))) (sym (flat-more xs i k lt e))
      (fronts-both (flat_map F (take i xs)) (F k) facts n m h g)

  -- the facts aren't those of the next one
  pub flats-stop : (xs : List ℕ) (i k : ℕ) (facts : List Fact) (n : ℕ) → i < length xs → k ≡ get_or xs i 0
      → Fronts (flat_map F (take i xs)) facts (Some n) → Fronts (F k) (drop n facts) None
      → Fronts (flat_map F xs) facts None
  flats-stop xs i k facts n lt e h g =
      subst (λ (z : List Fact). Fronts z facts None) (sym (flat-split xs i k lt e))
      (fronts-first (flat_map F (take i xs) ++ F k) (flat_map F (drop (i + 1) xs)) facts
      (fronts-second (flat_map F (take i xs)) (F k) facts n h g))

-- the slots of a session
abbrev pub slots : List ℕ
slots = 0 ∷ 1 ∷ 2 ∷ 3 ∷ 4 ∷ 5 ∷ 6 ∷ 7 ∷ []

pub slot-at : (i : ℕ) → i < 8 → i ≡ get_or slots i 0
slot-at zero lt = refl
slot-at (suc zero) lt = refl
slot-at (suc (suc zero)) lt = refl
slot-at (suc (suc (suc zero))) lt = refl
slot-at (suc (suc (suc (suc zero)))) lt = refl
slot-at (suc (suc (suc (suc (suc zero))))) lt = refl
slot-at (suc (suc (suc (suc (suc (suc zero)))))) lt = refl
slot-at (suc (suc (suc (suc (suc (suc (suc zero))))))) lt = refl
slot-at (suc (suc (suc (suc (suc (suc (suc (suc i)))))))) lt = absurd (omega (arith, lt))

-- the facts from a place on, as a slice of them
pub rest-is : (facts : List Fact) (n : ℕ) → n ≤ length facts → take (length facts - n) (drop n facts) ≡ drop n facts
rest-is facts n few = take-whole (length facts - n) (drop n facts) (sym (length-drop n facts))

-- the facts that stand in front, taken
pub front-taken : (x facts : List Fact) (n : ℕ) → Fronts x facts (Some n) → take n facts ≡ x
front-taken x facts n h =
    let begins : Starts x facts = h.some.1 in
    let long : n ≡ length x = h.some.0 in
    rw (long, begins.parted) (take-append_seam x begins.rest)

take-none : (k : ℕ) → ◌≡◌ {A = List Fact} (take k []) []
take-none zero = refl
take-none (suc k) = refl

pub take_more_drop : (facts : List Fact) (n m : ℕ) → take (n + m) facts ≡ take n facts ++ take m (drop n facts)
take_more_drop facts zero m =
    let e : 0 + m ≡ m = omega arith in ap (λ (k : ℕ). take k facts) e
take_more_drop [] (suc n) m = take-none (suc n + m) ∙ sym (take-none m)
take_more_drop (f ∷ facts) (suc n) m =
    let e : suc n + m ≡ suc (n + m) = omega arith in
    ap (λ (k : ℕ). take k (f ∷ facts)) e ∙ ap (λ (z : List Fact). f ∷ z) (take_more_drop facts n m)

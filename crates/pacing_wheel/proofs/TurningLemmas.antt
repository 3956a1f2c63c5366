-- A list is turned round once, and one entry doesn't come back.
use Rattle.std.proofs.Common.{◌≡◌, ℕ, zero, suc, ◌+◌, ◌-◌, ◌<◌, Bool, true, false, not, ◌&&◌, cond, Some}
use Rattle.std.proofs.Common.{List, [], ◌∷◌, ◌++◌, length, refl, sym, ap, drop, set, ◌∙◌, arith}
use Rattle.std.specs.Prelude.{slice_get, is_some}
use Rattle.std.specs.List.{find}
use Rattle.rpc_base.specs.Tables.{without_first}
use Rattle.pacing_wheel.specs.declared.pacer.Paced.{Paced}
use Rattle.pacing_wheel.specs.Chains.{list_at, table, with_last, Table}
use Rattle.pacing_wheel.proofs.PushLemmas.{same-table}

-- lists of which one is written
set-own : (ls : List (List Paced)) (p : ℕ) → set ls p (list_at ls p) ≡ ls
set-own [] p = refl
set-own (l ∷ ls) zero = refl
set-own (l ∷ ls) (suc p) = ap (λ x. l ∷ x) (set-own ls p)

set-again : (ls : List (List Paced)) (p : ℕ) (a b : List Paced) → set (set ls p a) p b ≡ set ls p b
set-again [] p a b = refl
set-again (l ∷ ls) zero a b = refl
set-again (l ∷ ls) (suc p) a b = ap (λ x. l ∷ x) (set-again ls p a b)

pub at-set : (ls : List (List Paced)) (p : ℕ) (a : List Paced) → p < length ls → list_at (set ls p a) p ≡ a
at-set [] p a h = absurd (omega (arith, h))
at-set (l ∷ ls) zero a h = refl
at-set (l ∷ ls) (suc p) a h = at-set ls p a (omega (arith, h))

last-set : (ls : List (List Paced)) (p : ℕ) (x : Paced) (a : List Paced)
    → with_last p x (set ls p a) ≡ set ls p (a ++ x ∷ [])
last-set [] p x a = refl
last-set (l ∷ ls) zero x a = refl
last-set (l ∷ ls) (suc p) x a = ap (λ y. l ∷ y) (last-set ls p x a)

pub some-inside : (ls : List (List Paced)) (p : ℕ) → 0 < length (list_at ls p) → p < length ls
some-inside [] p h = absurd (omega (arith, h))
some-inside (l ∷ ls) zero h = omega arith
some-inside (l ∷ ls) (suc p) h = omega (arith, some-inside ls p h)

append-none : (xs : List Paced) → xs ++ [] ≡ xs
append-none [] = refl
append-none (x ∷ xs) = ap (λ l. x ∷ l) (append-none xs)

append-three : (xs ys zs : List Paced) → (xs ++ ys) ++ zs ≡ xs ++ (ys ++ zs)
append-three [] ys zs = refl
append-three (x ∷ xs) ys zs = ap (λ l. x ∷ l) (append-three xs ys zs)

module _ (test : Paced → Bool) (place : ℕ) where
  -- the entries that still stand where they stood, and those that came behind them
  pub record Turned (was now : Table) (left : ℕ) (dropped : Bool) : Type 0 where
    pub rest : List Paced
    pub kept : List Paced
    pub is : now ≡ table (set was.lists place (rest ++ kept)) (was.spare + cond dropped 1 0)
    pub len : length rest ≡ left
    pub whole : kept ++ cond dropped rest (without_first test rest) ≡ without_first test (list_at was.lists place)
    pub found : dropped ≡ false → is_some (find test rest) ≡ true
    pub inside : place < length was.lists

  some-found : (xs : List Paced) → is_some (find test xs) ≡ true → 0 < length xs
  some-found [] h = cc
  some-found (x ∷ xs) h = omega arith

  pub turn-begun : (was : Table) → is_some (find test (list_at was.lists place)) ≡ true
      → Turned was was (length (list_at was.lists place)) false
  turn-begun was some = record {
    rest = list_at was.lists place;
    kept = [];
    is = same-table was.lists (set was.lists place (list_at was.lists place ++ [])) was.spare (was.spare + 0)
        (sym (ap (set was.lists place) (append-none (list_at was.lists place)) ∙ set-own was.lists place)) (omega arith);
    len = refl;
    whole = refl;
    found = λ _. some;
    inside = some-inside was.lists place (some-found (list_at was.lists place) some);
  }

  pub still-there : (was now : Table) (left : ℕ) (dropped : Bool) → Turned was now left dropped → 0 < left
      → 0 < length (list_at now.lists place)
  still-there was now left dropped t some = omega (
    arith,
    some,
    t.len,
    ap (λ (n : Table). length (list_at n.lists place)) t.is,
    ap length (at-set was.lists place (t.rest ++ t.kept) t.inside),
    longer t.rest t.kept,
  )
    where
      longer : (xs ys : List Paced) → length (xs ++ ys) ≡ length xs + length ys
      longer [] ys = let same : length ys ≡ 0 + length ys = omega arith in same
      longer (x ∷ xs) ys = omega (arith, longer xs ys)

  -- the first of the rest, and the others of it
  record Split (was now : Table) (left : ℕ) (dropped : Bool) (t : Turned was now left dropped) (item : Paced) : Type 0 where
    pub others : List Paced
    pub is : t.rest ≡ item ∷ others

  split : (was now : Table) (left : ℕ) (dropped : Bool) (t : Turned was now left dropped) (item : Paced) → 0 < left
      → slice_get (list_at now.lists place) 0 ≡ Some item → Split was now left dropped t item
  split was now left dropped t item some first = by t.rest refl
    where
      here : slice_get (t.rest ++ t.kept) 0 ≡ Some item
      here = ap (λ l. slice_get l 0) (sym (at-set was.lists place (t.rest ++ t.kept) t.inside))
          ∙ (ap (λ (n : Table). slice_get (list_at n.lists place) 0) (sym t.is) ∙ first)

      by : (r : List Paced) → t.rest ≡ r → Split was now left dropped t item
      by [] e = absurd (omega (arith, some, t.len, ap length e))
      by (x ∷ xs) e =
          let h : Some x ≡ Some item = ap (λ r. slice_get (r ++ t.kept) 0) (sym e) ∙ here in
          let same : x ≡ item = cc in
          record { others = xs; is = e ∙ ap (λ y. y ∷ xs) same }

  one-before : (b : Bool) (rest others : List Paced) (item : Paced) → rest ≡ item ∷ others
      → (b ≡ false → test item ≡ false)
      → item ∷ cond b others (without_first test others) ≡ cond b rest (without_first test rest)
  one-before true rest others item is miss = sym is
  one-before false rest others item is miss = rw (is, miss refl) refl

  module _ (was now popped : Table) (left : ℕ) (dropped : Bool) (t : Turned was now left dropped) (item : Paced)
      (some : 0 < left) (first : slice_get (list_at now.lists place) 0 ≡ Some item)
      (out : popped ≡ table (set now.lists place (drop 1 (list_at now.lists place))) (now.spare + 1)) where
    s : Split was now left dropped t item
    s = split was now left dropped t item some first

    lists-out : popped.lists ≡ set was.lists place (s.others ++ t.kept)
    lists-out = ap (λ (n : Table). n.lists) out
        ∙ (ap (λ (n : Table). set n.lists place (drop 1 (list_at n.lists place))) t.is
        ∙ (set-again was.lists place (t.rest ++ t.kept) (drop 1 (list_at (set was.lists place (t.rest ++ t.kept)) place))
        ∙ (ap (λ l. set was.lists place (drop 1 l)) (at-set was.lists place (t.rest ++ t.kept) t.inside)
        ∙ ap (λ r. set was.lists place (drop 1 (r ++ t.kept))) s.is)))

    spare-out : popped.spare ≡ was.spare + cond dropped 1 0 + 1
    spare-out = ap (λ (n : Table). n.spare) out ∙ ap (λ (n : Table). n.spare + 1) t.is

    shorter : length s.others ≡ left - 1
    shorter = omega (arith, t.len, ap length s.is)

    pub one-dropped : dropped ≡ false → test item ≡ true → Turned was popped (left - 1) true
    one-dropped not hit = record {
      rest = s.others;
      kept = t.kept;
      is = same-table popped.lists (set was.lists place (s.others ++ t.kept)) popped.spare (was.spare + 1) lists-out
          (spare-out ∙ omega (arith, ap {B = ℕ} (λ b. cond b 1 0) not));
      len = shorter;
      whole = sym (ap {B = List Paced} (λ b. t.kept ++ cond b t.rest (without_first test t.rest)) not
          ∙ (ap (λ r. t.kept ++ without_first test r) s.is
          ∙ ap {B = List Paced} (λ b. t.kept ++ cond b s.others (item ∷ without_first test s.others)) hit)) ∙ t.whole;
      found = λ no-more. cc;
      inside = t.inside;
    }

    pub one-kept : (pushed : Table) → pushed ≡ table (with_last place item popped.lists) (popped.spare - 1)
        → (dropped ≡ false → test item ≡ false) → Turned was pushed (left - 1) dropped
    one-kept pushed in-again miss = record {
      rest = s.others;
      kept = t.kept ++ item ∷ [];
      is = in-again ∙ same-table (with_last place item popped.lists) (set was.lists place (s.others ++ (t.kept ++ item ∷ [])))
          (popped.spare - 1) (was.spare + cond dropped 1 0)
          (ap (with_last place item) lists-out ∙ (last-set was.lists place item (s.others ++ t.kept)
          ∙ ap (set was.lists place) (append-three s.others t.kept (item ∷ []))))
          (omega (arith, spare-out));
      len = shorter;
      whole = append-three t.kept (item ∷ []) (cond dropped s.others (without_first test s.others))
          ∙ (ap (λ l. t.kept ++ l) (one-before dropped t.rest s.others item s.is miss) ∙ t.whole);
      found = λ not. fewer (miss not) (ap (λ r. is_some (find test r)) (sym s.is) ∙ t.found not);
      inside = t.inside;
    }
      where
        fewer : test item ≡ false → is_some (find test (item ∷ s.others)) ≡ true → is_some (find test s.others) ≡ true
        fewer m h = rw m at h

    -- one of both
    pub turned-on : (leaves : Bool) → leaves ≡ (not dropped && test item)
        → (leaves ≡ true → Turned was popped (left - 1) true)
        × (leaves ≡ false → (pushed : Table) → pushed ≡ table (with_last place item popped.lists) (popped.spare - 1)
        → Turned was pushed (left - 1) dropped)
    turned-on leaves is = (
      (λ yes. one-dropped (apart dropped (test item) (sym is ∙ yes)).0 (apart dropped (test item) (sym is ∙ yes)).1),
      (λ no pushed back. one-kept pushed back (stays dropped (test item) (sym is ∙ no))),
    )
      where
        apart : (a b : Bool) → (not a && b) ≡ true → (a ≡ false) × (b ≡ true)
        apart true b h = cc
        apart false b h = (refl, h)

        stays : (a b : Bool) → (not a && b) ≡ false → a ≡ false → b ≡ false
        stays true b h e = cc
        stays false b h e = h

  pub turn-ended : (was now : Table) (dropped : Bool) → Turned was now 0 dropped
      → now ≡ table (set was.lists place (without_first test (list_at was.lists place))) (was.spare + 1)
  turn-ended was now dropped t = by t.rest refl dropped refl
    where
      by : (r : List Paced) → t.rest ≡ r → (b : Bool) → dropped ≡ b
          → now ≡ table (set was.lists place (without_first test (list_at was.lists place))) (was.spare + 1)
      by (x ∷ xs) e b d = absurd (omega (arith, t.len, ap length e))
      by [] e false d = let h = ap (λ r. is_some (find test r)) (sym e) ∙ t.found d in cc
      by [] e true d = t.is ∙ same-table (set was.lists place (t.rest ++ t.kept))
          (set was.lists place (without_first test (list_at was.lists place))) (was.spare + cond dropped 1 0) (was.spare + 1)
          (ap (set was.lists place) (ap (λ r. r ++ t.kept) e ∙ (sym (append-none t.kept)
          ∙ (sym (rw (d, e) refl) ∙ t.whole)))) (rw d refl)

-- Lists of which one element changes, by its place and by a test.
use Rattle.std.proofs.Common.{◌≡◌, ℕ, zero, suc, Bool, true, false, ◌⊎◌, inl, inr, cond, List, []}
use Rattle.std.proofs.Common.{◌∷◌, ◌++◌, Option, Some, length, slice_get, refl, sym, ap, ◌∙◌, arith}
use Rattle.std.proofs.Common.{eqb}
use Rattle.std.specs.List.{slice_set, find, AllByRecursion}
use Rattle.std.proofs.lemmas.Bool.{eqb-true, eqb-false}
use Rattle.rpc_base.specs.Tables.{at_first, without_first}
use Rattle.rpc_base.proofs.BasicLemmas.{false-true}
use Rattle.rpc_base.proofs.PlaceLemmas.{set-here, set-other}

module _ {A : Type 0} where
  pub length-slice_set : (xs : List A) (i : ℕ) (y : A) → length (slice_set xs i y) ≡ length xs
  length-slice_set [] i y = refl
  length-slice_set (z ∷ zs) zero y = refl
  length-slice_set (z ∷ zs) (suc i) y = ap suc (length-slice_set zs i y)

  -- a claim of each element and its place
  abbrev pub Placed : (ℕ → A → Type 0) → List A → Type 0
  Placed P xs = (j : ℕ) (z : A) → slice_get xs j ≡ Some z → P j z

  some-same : (a b : A) → Some a ≡ Some b → a ≡ b
  some-same a b e = cc

  set-case : (P : ℕ → A → Type 0) (xs : List A) (i : ℕ) (x y : A) → slice_get xs i ≡ Some x → P i y
      → ((j : ℕ) (z : A) → (j ≡ i → ⊥) → slice_get xs j ≡ Some z → P j z)
      → (j : ℕ) (z : A) (b : Bool) → eqb j i ≡ b → slice_get (slice_set xs i y) j ≡ Some z → P j z
  set-case P xs i x y is here others j z true t h =
      let e = eqb-true j i t in
      let same : y ≡ z = some-same y z (sym (set-here xs i x y is)
      ∙ (sym (ap (slice_get (slice_set xs i y)) e) ∙ h)) in
      rw (e, ← same) here
  set-case P xs i x y is here others j z false t h =
      others j z (eqb-false j i t) (sym (set-other xs i j y (eqb-false j i t)) ∙ h)

  pub set-placed : (P : ℕ → A → Type 0) (xs : List A) (i : ℕ) (x y : A) → slice_get xs i ≡ Some x
      → P i y → ((j : ℕ) (z : A) → (j ≡ i → ⊥) → slice_get xs j ≡ Some z → P j z)
      → Placed P (slice_set xs i y)
  set-placed P xs i x y is here others j z h = set-case P xs i x y is here others j z (eqb j i) refl h

  pub add-placed : (P : ℕ → A → Type 0) (xs : List A) (y : A) → P (length xs) y → Placed P xs
      → Placed P (xs ++ y ∷ [])
  add-placed P [] y here others zero z h = let same : y ≡ z = some-same y z h in rw (← same) here
  add-placed P [] y here others (suc j) z h = cc
  add-placed P (x ∷ xs) y here others zero z h = others zero z h
  add-placed P (x ∷ xs) y here others (suc j) z h = add-placed (λ k. P (suc k)) xs y here (λ k. others (suc k)) j z h

  pub add-last : (xs : List A) (y : A) → slice_get (xs ++ y ∷ []) (length xs) ≡ Some y
  add-last [] y = refl
  add-last (x ∷ xs) y = add-last xs y

  -- what stood at a place still does, where one more is added
  pub add-keeps : (xs : List A) (y : A) (j : ℕ) (z : A) → slice_get xs j ≡ Some z
      → slice_get (xs ++ y ∷ []) j ≡ Some z
  add-keeps [] y j z h = cc
  add-keeps (x ∷ xs) y zero z h = h
  add-keeps (x ∷ xs) y (suc j) z h = add-keeps xs y j z h

  first-each-cons : (p : A → Bool) (f : A → A) (P Q : ℕ → A → Type 0) (x : A) (xs : List A)
      (b : Bool) → p x ≡ b → ((i : ℕ) (z : A) → P i z → p z ≡ true → Q i (f z))
      → ((i : ℕ) (z : A) → P i z → Q i z) → Placed P (x ∷ xs)
      → Placed (λ k. Q (suc k)) (at_first p f xs)
      → Placed Q (cond b (f x ∷ xs) (x ∷ at_first p f xs))
  first-each-cons p f P Q x xs true t change keep each ih zero z h = let same : f x ≡ z = some-same (f x) z h in rw (← same) (change 0 x (each 0 x refl) t)
  first-each-cons p f P Q x xs true t change keep each ih (suc j) z h = keep (suc j) z (each (suc j) z h)
  first-each-cons p f P Q x xs false t change keep each ih zero z h = keep 0 z (each 0 z h)
  first-each-cons p f P Q x xs false t change keep each ih (suc j) z h = ih j z h

  -- a claim of each, where the first that passes changes
  pub first-each : (p : A → Bool) (f : A → A) (P Q : ℕ → A → Type 0) (xs : List A)
      → ((i : ℕ) (z : A) → P i z → p z ≡ true → Q i (f z)) → ((i : ℕ) (z : A) → P i z → Q i z)
      → Placed P xs → Placed Q (at_first p f xs)
  first-each p f P Q [] change keep each = λ j z h. cc
  first-each p f P Q (x ∷ xs) change keep each =
      first-each-cons p f P Q x xs (p x) refl change keep each
      (first-each p f (λ k. P (suc k)) (λ k. Q (suc k)) xs (λ i. change (suc i)) (λ i. keep (suc i))
      (λ i. each (suc i)))

  set-first-cons : (p : A → Bool) (f : A → A) (z : A) (zs : List A) (j : ℕ) (x : A) (b : Bool)
      → p z ≡ b → ((k : ℕ) → slice_get zs k ≡ Some x
      → ((i : ℕ) (y : A) → slice_get zs i ≡ Some y → p y ≡ true → i ≡ k)
      → at_first p f zs ≡ slice_set zs k (f x)) → slice_get (z ∷ zs) j ≡ Some x → p x ≡ true
      → ((i : ℕ) (y : A) → slice_get (z ∷ zs) i ≡ Some y → p y ≡ true → i ≡ j)
      → cond b (f z ∷ zs) (z ∷ at_first p f zs) ≡ slice_set (z ∷ zs) j (f x)
  set-first-cons p f z zs zero x true t ih is passes one = let same : z ≡ x = some-same z x is in ap (λ (y : A). f y ∷ zs) same
  set-first-cons p f z zs (suc j) x true t ih is passes one = let e = one 0 z refl t in absurd (omega arith)
  set-first-cons p f z zs zero x false t ih is passes one = let same : z ≡ x = some-same z x is in false-true (sym t ∙ (ap p same ∙ passes))
  set-first-cons p f z zs (suc j) x false t ih is passes one =
      ap (λ ys. z ∷ ys) (ih j is (λ i y at h. let e = one (suc i) y at h in omega arith))

  -- the one element that passes
  pub set-first : (p : A → Bool) (f : A → A) (xs : List A) (j : ℕ) (x : A) → slice_get xs j ≡ Some x
      → p x ≡ true → ((i : ℕ) (y : A) → slice_get xs i ≡ Some y → p y ≡ true → i ≡ j)
      → at_first p f xs ≡ slice_set xs j (f x)
  set-first p f [] j x is passes one = cc
  set-first p f (z ∷ zs) j x is passes one =
      set-first-cons p f z zs j x (p z) refl (λ k is one. set-first p f zs k x is passes one) is
      passes one

  find-at-cons : (p : A → Bool) (z : A) (zs : List A) (x : A) (b : Bool) → p z ≡ b
      → cond b (Some z) (find p zs) ≡ Some x
      → (find p zs ≡ Some x → (i : ℕ) × (slice_get zs i ≡ Some x) × (p x ≡ true)) → (i : ℕ)
      × (slice_get (z ∷ zs) i ≡ Some x) × (p x ≡ true)
  find-at-cons p z zs x true t h ih = let same : z ≡ x = some-same z x h in (0, h, ap p (sym same) ∙ t)
  find-at-cons p z zs x false t h ih = let r = ih h in (suc r.0, r.1, r.2)

  -- what is found stands somewhere, and passes
  pub find-at : (p : A → Bool) (xs : List A) (x : A) → find p xs ≡ Some x → (i : ℕ)
      × (slice_get xs i ≡ Some x) × (p x ≡ true)
  find-at p [] x h = cc
  find-at p (z ∷ zs) x h = find-at-cons p z zs x (p z) refl h (find-at p zs x)

  find-first-cons : (p : A → Bool) (f : A → A) (z : A) (zs : List A) (x : A) (b : Bool) → p z ≡ b
      → cond b (Some z) (find p zs) ≡ Some x → p (f x) ≡ true
      → (find p zs ≡ Some x → find p (at_first p f zs) ≡ Some (f x))
      → find p (cond b (f z ∷ zs) (z ∷ at_first p f zs)) ≡ Some (f x)
  find-first-cons p f z zs x true t h passes ih = let same : x ≡ z = sym (some-same z x h) in let k : p (f z) ≡ true = ap (λ y. p (f y)) (sym same) ∙ passes in rw (k, same) refl
  find-first-cons p f z zs x false t h passes ih = rw t (ih h)

  -- the changed element is found again
  pub find-first : (p : A → Bool) (f : A → A) (xs : List A) (x : A) → find p xs ≡ Some x
      → p (f x) ≡ true → find p (at_first p f xs) ≡ Some (f x)
  find-first p f [] x h passes = cc
  find-first p f (z ∷ zs) x h passes =
      find-first-cons p f z zs x (p z) refl h passes (λ e. find-first p f zs x e passes)

  pub all-map : (P Q : A → Type 0) (xs : List A) → ((x : A) → P x → Q x) → AllByRecursion P xs → AllByRecursion Q xs
  all-map P Q [] f h = tt
  all-map P Q (x ∷ xs) f h = (f x h.0, all-map P Q xs f h.1)

  pub all-both : (P Q : A → Type 0) (xs : List A) → AllByRecursion P xs → AllByRecursion Q xs
      → AllByRecursion (λ x. P x × Q x) xs
  all-both P Q [] h k = tt
  all-both P Q (x ∷ xs) h k = ((h.0, k.0), all-both P Q xs h.1 k.1)

  all-first-step : (P Q : A → Type 0) (p : A → Bool) (f : A → A) (z : A) (zs : List A) (b : Bool)
      → p z ≡ b → ((x : A) → P x → Q x)
      → ((x : A) → cond b (Some z) (find p zs) ≡ Some x → P x → Q (f x)) → P z → AllByRecursion Q zs
      → (((x : A) → find p zs ≡ Some x → P x → Q (f x)) → AllByRecursion Q (at_first p f zs))
      → AllByRecursion Q (cond b (f z ∷ zs) (z ∷ at_first p f zs))
  all-first-step P Q p f z zs true t keep change here rest ih = (change z refl here, rest)
  all-first-step P Q p f z zs false t keep change here rest ih = (keep z here, ih change)

  -- a claim of all elements, where the one that is found changes
  pub all-first : (P Q : A → Type 0) (p : A → Bool) (f : A → A) (xs : List A)
      → ((x : A) → P x → Q x) → ((x : A) → find p xs ≡ Some x → P x → Q (f x)) → AllByRecursion P xs
      → AllByRecursion Q (at_first p f xs)
  all-first P Q p f [] keep change h = tt
  all-first P Q p f (z ∷ zs) keep change h =
      all-first-step P Q p f z zs (p z) refl keep change h.0 (all-map P Q zs keep h.1)
      (λ g. all-first P Q p f zs keep g h.1)

  all-found-cons : (P : A → Type 0) (p : A → Bool) (z : A) (zs : List A) (x : A) (b : Bool)
      → cond b (Some z) (find p zs) ≡ Some x → P z → (find p zs ≡ Some x → P x) → P x
  all-found-cons P p z zs x true h here ih = let same : z ≡ x = some-same z x h in rw (← same) here
  all-found-cons P p z zs x false h here ih = ih h

  pub all-found : (P : A → Type 0) (p : A → Bool) (xs : List A) (x : A) → AllByRecursion P xs
      → find p xs ≡ Some x → P x
  all-found P p [] x h f = cc
  all-found P p (z ∷ zs) x h f = all-found-cons P p z zs x (p z) f h.0 (all-found P p zs x h.1)

  pub all-append : (P : A → Type 0) (xs ys : List A) → AllByRecursion P xs → AllByRecursion P ys
      → AllByRecursion P (xs ++ ys)
  all-append P [] ys h k = k
  all-append P (x ∷ xs) ys h k = (h.0, all-append P xs ys h.1 k)

  pub all-front : (P : A → Type 0) (xs ys : List A) → AllByRecursion P (xs ++ ys) → AllByRecursion P xs
  all-front P [] ys h = tt
  all-front P (x ∷ xs) ys h = (h.0, all-front P xs ys h.1)

  pub all-back : (P : A → Type 0) (xs ys : List A) → AllByRecursion P (xs ++ ys) → AllByRecursion P ys
  all-back P [] ys h = h
  all-back P (x ∷ xs) ys h = all-back P xs ys h.1

  pub all-add : (P : A → Type 0) (xs : List A) (y : A) → AllByRecursion P xs → P y → AllByRecursion P (xs ++ y ∷ [])
  all-add P [] y h k = (k, tt)
  all-add P (x ∷ xs) y h k = (h.0, all-add P xs y h.1 k)

  all-without-cons : (P : A → Type 0) (p : A → Bool) (z : A) (zs : List A) (b : Bool) → P z
      → AllByRecursion P zs → AllByRecursion P (without_first p zs)
      → AllByRecursion P (cond b zs (z ∷ without_first p zs))
  all-without-cons P p z zs true here rest ih = rest
  all-without-cons P p z zs false here rest ih = (here, ih)

  pub all-without : (P : A → Type 0) (p : A → Bool) (xs : List A) → AllByRecursion P xs
      → AllByRecursion P (without_first p xs)
  all-without P p [] h = tt
  all-without P p (z ∷ zs) h = all-without-cons P p z zs (p z) h.0 h.1 (all-without P p zs h.1)

  -- what is found, where the first that passes another test changes
  pub record Changed (p : A → Bool) (f : A → A) (xs : List A) (v : A) (found : Option A) : Type 0 where
    pub is : found ≡ Some (f v)
    pub passes : p v ≡ true
    pub first : find p xs ≡ Some v

  find-after-cons : (p q : A → Bool) (f : A → A) (z : A) (zs : List A) (v : A) (a b : Bool)
      → p z ≡ a → q z ≡ b → q (f z) ≡ q z → cond b (Some z) (find q zs) ≡ Some v
      → (find q zs ≡ Some v → (find q (at_first p f zs) ≡ Some v)
      ⊎ Changed p f zs v (find q (at_first p f zs)))
      → (find q (cond a (f z ∷ zs) (z ∷ at_first p f zs)) ≡ Some v)
      ⊎ Changed p f (z ∷ zs) v (find q (cond a (f z ∷ zs) (z ∷ at_first p f zs)))
  find-after-cons p q f z zs v true true s t keep h ih =
      let same : z ≡ v = some-same z v h in
      let qf : q (f z) ≡ true = keep ∙ t in
      inr (record {
        is = rw qf (ap (λ y. Some (f y)) same);
        passes = ap p (sym same) ∙ s;
        first = rw s (ap Some same);
      })
  find-after-cons p q f z zs v true false s t keep h ih =
      let qf : q (f z) ≡ false = keep ∙ t in
      inl (rw qf h)
  find-after-cons p q f z zs v false true s t keep h ih = inl (rw t h)
  find-after-cons p q f z zs v false false s t keep h ih =
      elim (ih h) [
        | inl e ↦ inl (rw t e)
        | inr c ↦ inr
            (record { is = rw t (c.is); passes = c.passes; first = rw s (c.first) })
      ]

  pub find-after : (p q : A → Bool) (f : A → A) (xs : List A) (v : A) → ((x : A) → q (f x) ≡ q x)
      → find q xs ≡ Some v → (find q (at_first p f xs) ≡ Some v)
      ⊎ Changed p f xs v (find q (at_first p f xs))
  find-after p q f [] v keep h = cc
  find-after p q f (z ∷ zs) v keep h =
      find-after-cons p q f z zs v (p z) (q z) refl refl (keep z) h (find-after p q f zs v keep)

  find-without-cons : (p q : A → Bool) (z : A) (zs : List A) (v : A) (a b : Bool) → p z ≡ a
      → q z ≡ b → cond b (Some z) (find q zs) ≡ Some v → p v ≡ false
      → (find q zs ≡ Some v → find q (without_first p zs) ≡ Some v)
      → find q (cond a zs (z ∷ without_first p zs)) ≡ Some v
  find-without-cons p q z zs v true true s t h other ih = let same : z ≡ v = some-same z v h in false-true (sym other ∙ (ap p (sym same) ∙ s))
  find-without-cons p q z zs v true false s t h other ih = h
  find-without-cons p q z zs v false true s t h other ih = rw t h
  find-without-cons p q z zs v false false s t h other ih = rw t (ih h)

  -- what is found isn't taken out
  pub find-without : (p q : A → Bool) (xs : List A) (v : A) → find q xs ≡ Some v → p v ≡ false
      → find q (without_first p xs) ≡ Some v
  find-without p q [] v h other = cc
  find-without p q (z ∷ zs) v h other =
      find-without-cons p q z zs v (p z) (q z) refl refl h other
      (λ e. find-without p q zs v e other)

  find-add-cons : (q : A → Bool) (z : A) (zs : List A) (y v : A) (b : Bool)
      → cond b (Some z) (find q zs) ≡ Some v → (find q zs ≡ Some v → find q (zs ++ y ∷ []) ≡ Some v)
      → cond b (Some z) (find q (zs ++ y ∷ [])) ≡ Some v
  find-add-cons q z zs y v true h ih = h
  find-add-cons q z zs y v false h ih = ih h

  pub find-add : (q : A → Bool) (xs : List A) (y v : A) → find q xs ≡ Some v → find q (xs ++ y ∷ []) ≡ Some v
  find-add q [] y v h = cc
  find-add q (z ∷ zs) y v h = find-add-cons q z zs y v (q z) h (find-add q zs y v)

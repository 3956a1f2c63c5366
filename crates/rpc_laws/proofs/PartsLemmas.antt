-- Lists of two parts, one behind the other: what is found, changed or taken out stands in one.
use Rattle.std.proofs.Common.{◌≡◌, ◌<◌, ◌≤◌, ◌+◌, ◌-◌, ℕ, zero, suc, Bool, true, false, not, cond}
use Rattle.std.proofs.Common.{ltb, eqb, eq-eqb, ne_eqb, Option, Some, None, List, [], ◌∷◌, ◌++◌}
use Rattle.std.proofs.Common.{length}
use Rattle.std.proofs.Common.{get_or, refl, sym, ap, ◌∙◌, arith, length-append}
use Rattle.std.specs.List.{list_any, slice_get, slice_set, position, position_or_len, remove}
use Rattle.std.specs.Option.{is_some}
use Rattle.std.proofs.lemmas.Bool.{lt-ltb, le-ltb}
use Rattle.std.proofs.lemmas.List.{set-append_left}
use Rattle.std.proofs.lemmas.List.Edits.{remove-append_left, remove-append_right}
use Rattle.std.proofs.lemmas.List.Folds.{prefix_len-append}
use Rattle.std.proofs.lemmas.Option.{slice_get-get_or}
use Rattle.rpc_base.specs.Tables.{at_first, without_first}
use Rattle.rpc_base.proofs.TablesLemmas.{any-found, any-missing, at_first-found}
use Rattle.rpc_base.proofs.TablesLemmas.{without_first-found, without_first-missing}
use Rattle.rpc_base.proofs.BasicLemmas.{found-below, found-none}

-- a place by its number
told : (n m : ℕ) → n < m → cond (ltb n m) (Some n) None ≡ Some n
told n m h = rw (lt-ltb n m h) refl

untold : (n m : ℕ) → m ≤ n → cond (ltb n m) (Some n) None ≡ None
untold n m h = rw (le-ltb n m h) refl

apart : (n m k : ℕ) → n < m → cond (eqb n m) (m + k) n ≡ n
apart n m k h = rw (ne_eqb n m (λ e. omega arith)) refl

joined : (n m k : ℕ) → n ≡ m → cond (eqb n m) (m + k) n ≡ m + k
joined n m k h = rw (eq-eqb n m h) refl

module _ {A : Type 0} (p : A → Bool) where
  parts : (xs ys : List A) → position_or_len p (xs ++ ys)
      ≡ cond (eqb (position_or_len p xs) (length xs)) (length xs + position_or_len p ys)
      (position_or_len p xs)
  parts xs ys = prefix_len-append (λ x. not (p x)) xs ys

  at-most : (y : A) (ys : List A) (b : Bool) → position_or_len p ys ≤ length ys
      → cond (not b) (1 + position_or_len p ys) 0 ≤ length (y ∷ ys)
  at-most y ys true h = omega arith
  at-most y ys false h = omega arith

  within : (xs : List A) → position_or_len p xs ≤ length xs
  within [] = omega arith
  within (y ∷ ys) = at-most y ys (p y) (within ys)

  pub position-within : (xs : List A) (i : ℕ) → position p xs ≡ Some i → i < length xs
  position-within xs i e = (found-below (position_or_len p xs) (length xs) i _ refl e).1

  -- it is found in the front part
  pub position-front : (xs ys : List A) (i : ℕ) → position p xs ≡ Some i
      → position p (xs ++ ys) ≡ Some i
  position-front xs ys i e =
      let (same, below) = found-below (position_or_len p xs) (length xs) i _ refl e in
      let here : position_or_len p xs < length xs = rw same at below in
      let is : position_or_len p (xs ++ ys) ≡ position_or_len p xs =
      parts xs ys ∙ apart _ _ (position_or_len p ys) here in
      let less : position_or_len p (xs ++ ys) < length (xs ++ ys) = omega
      (arith, length-append xs ys, is) in
      told _ _ less ∙ ap (λ (n : ℕ). Some n) (is ∙ sym same)

  past : (xs ys : List A) → position p xs ≡ None
      → position_or_len p (xs ++ ys) ≡ length xs + position_or_len p ys
  past xs ys e =
      let none = found-none (position_or_len p xs) (length xs) _ refl e in
      let most = within xs in
      parts xs ys
      ∙ joined (position_or_len p xs) (length xs) (position_or_len p ys)
      (omega (arith, none, most))

  -- in the other
  pub position-behind : (xs ys : List A) (i : ℕ) → position p xs ≡ None → position p ys ≡ Some i
      → position p (xs ++ ys) ≡ Some (length xs + i)
  position-behind xs ys i e h =
      let (same, below) = found-below (position_or_len p ys) (length ys) i _ refl h in
      let is = past xs ys e in
      let less : position_or_len p (xs ++ ys) < length (xs ++ ys) = omega
      (arith, length-append xs ys, is, same, below) in
      told _ _ less ∙ ap (λ (n : ℕ). Some n) (is ∙ ap (λ (n : ℕ). length xs + n) (sym same))

  -- no place tells that there is none
  pub position-past : (xs : List A) → length xs ≤ position_or_len p xs → position p xs ≡ None
  position-past xs h = untold _ _ h

  -- in neither
  pub position-nowhere : (xs ys : List A) → position p xs ≡ None → position p ys ≡ None
      → position p (xs ++ ys) ≡ None
  position-nowhere xs ys e h =
      let none = found-none (position_or_len p ys) (length ys) _ refl h in
      let is = past xs ys e in
      untold _ _ (omega (arith, length-append xs ys, is, none))

  -- the same of a whole that the parts make
  pub place-front : (xs ys zs : List A) (i : ℕ) → xs ++ ys ≡ zs → Some i ≡ position p xs
      → Some i ≡ position p zs
  place-front xs ys zs i whole e = rw (← whole) (sym (position-front xs ys i (sym e)))

  pub place-behind : (xs ys zs : List A) (i n : ℕ) → xs ++ ys ≡ zs → None ≡ position p xs
      → Some i ≡ position p ys
      → n ≡ length xs → Some (n + i) ≡ position p zs
  place-behind xs ys zs i n whole e h len = rw (← whole, len)
      (sym (position-behind xs ys i (sym e) (sym h)))

  pub place-nowhere : (xs ys zs : List A) → xs ++ ys ≡ zs → None ≡ position p xs
      → None ≡ position p ys
      → None ≡ position p zs
  place-nowhere xs ys zs whole e h = rw (← whole) (sym (position-nowhere xs ys (sym e) (sym h)))

  -- whether one passes, by its place
  pub any-place : (xs : List A) (o : Option ℕ) → o ≡ position p xs → is_some o ≡ list_any p xs
  any-place xs None e = sym (any-missing p xs (sym e))
  any-place xs (Some i) e = sym (any-found p xs i (sym e))

module _ {A : Type 0} where
  -- what stands at a place
  pub get-front : (xs ys : List A) (i : ℕ) (x : A) → slice_get xs i ≡ Some x
      → slice_get (xs ++ ys) i ≡ Some x
  get-front [] ys i x e = cc
  get-front (y ∷ xs) ys zero x e = e
  get-front (y ∷ xs) ys (suc i) x e = get-front xs ys i x e

  pub get-behind : (xs ys : List A) (n i : ℕ) → n ≡ length xs + i
      → slice_get (xs ++ ys) n ≡ slice_get ys i
  get-behind [] ys n i e =
      let same : n ≡ i = omega arith in ap (λ (k : ℕ). slice_get ys k) same
  get-behind (y ∷ xs) ys n i e =
      let step : n ≡ suc (length xs + i) = omega arith in rw step (get-behind xs ys _ i refl)

  -- what was read there
  pub read-at : (xs : List A) (i : ℕ) (x : A) → i < length xs → x ≡ get_or xs i x
      → slice_get xs i ≡ Some x
  read-at xs i x below e = slice_get-get_or xs i x below ∙ ap (λ (y : A). Some y) (sym e)

  pub read-front : (xs ys zs : List A) (i : ℕ) (x : A) → xs ++ ys ≡ zs → i < length xs
      → x ≡ get_or xs i x
      → slice_get zs i ≡ Some x
  read-front xs ys zs i x whole below e = rw (← whole)
      (get-front xs ys i x (read-at xs i x below e))

  pub read-behind : (xs ys zs : List A) (i k : ℕ) (x : A) → xs ++ ys ≡ zs → i ≡ length xs + k
      → i < length zs
      → x ≡ get_or ys k x → slice_get zs i ≡ Some x
  read-behind xs ys zs i k x whole place below e =
      let all = ap length whole in
      let less : k < length ys = omega (arith, length-append xs ys, all, place, below) in
      rw (← whole) (get-behind xs ys i k place ∙ read-at ys k x less e)

-- the first that passes, which stands in the front part, is changed
pub changed-front : {A : Type 0} (p : A → Bool) (f : A → A) (xs ys zs : List A) (i : ℕ) (x : A)
    → xs ++ ys ≡ zs
    → position p zs ≡ Some i → i < length xs → slice_get xs i ≡ Some x
    → slice_set xs i (f x) ++ ys ≡ at_first p f zs
changed-front p f xs ys zs i x whole e below here =
    rw (← whole) (
    sym (set-append_left xs ys i (f x) below)
    ∙ sym (at_first-found p f (xs ++ ys) i x (ap (λ us. position p us) whole ∙ e)
    (get-front xs ys i x here))
    )

-- it is taken out, of either part
pub taken-front : {A : Type 0} (p : A → Bool) (xs ys zs : List A) (i : ℕ) → xs ++ ys ≡ zs
    → position p xs ≡ Some i
    → remove xs i ++ ys ≡ without_first p zs
taken-front p xs ys zs i whole e =
    rw (← whole) (sym (without_first-found p (xs ++ ys) i (position-front p xs ys i e)
    ∙ remove-append_left xs ys i (position-within p xs i e)))

behind-by : {A : Type 0} (p : A → Bool) (xs ys : List A) (o : Option ℕ) → position p xs ≡ None
    → position p ys ≡ o
    → xs ++ without_first p ys ≡ without_first p (xs ++ ys)
behind-by p xs ys None e h =
    ap (λ us. xs ++ us) (without_first-missing p ys h)
    ∙ sym (without_first-missing p (xs ++ ys) (position-nowhere p xs ys e h))
behind-by p xs ys (Some i) e h =
    let less : length xs + i - length xs ≡ i = omega arith in
    let past : length xs ≤ length xs + i = omega arith in
    ap (λ us. xs ++ us) (without_first-found p ys i h)
    ∙ sym (without_first-found p (xs ++ ys) (length xs + i) (position-behind p xs ys i e h)
    ∙ (remove-append_right xs ys (length xs) (length xs + i) refl past
    ∙ ap (λ (n : ℕ). xs ++ remove ys n) less))

pub taken-behind : {A : Type 0} (p : A → Bool) (xs ys zs : List A) → xs ++ ys ≡ zs
    → position p xs ≡ None
    → xs ++ without_first p ys ≡ without_first p zs
taken-behind p xs ys zs whole e = rw (← whole) (behind-by p xs ys (position p ys) e refl)

-- another element is set in the front part
pub set-front : {A : Type 0} (xs ys zs : List A) (i : ℕ) (x : A) → xs ++ ys ≡ zs → i < length xs
    → slice_set xs i x ++ ys ≡ slice_set zs i x
set-front xs ys zs i x whole below = rw (← whole) (sym (set-append_left xs ys i x below))

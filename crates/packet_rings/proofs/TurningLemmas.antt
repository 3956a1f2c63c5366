-- Turning a list: its first items stand at its end.
use Rattle.std.proofs.Common.{◌≡◌, ℕ, ◌+◌, ◌-◌, ◌<◌, ◌≤◌, Bool, true, false, cond, Some, None, List}
use Rattle.std.proofs.Common.{[], ◌∷◌, ◌++◌, length, take, drop, get_or, refl, sym, ◌∙◌, ap, arith}
use Rattle.std.proofs.Common.{ltb, lt-ltb, le-ltb}
use Rattle.std.specs.List.{find, position, position_or_len, remove, slice_get}
use Rattle.std.proofs.lemmas.List.{append_assoc, take_more, drop_more, length-drop, length-take, length-append}
use Rattle.std.proofs.lemmas.List.Folds.{find_at}
use Rattle.std.proofs.Math.Seq.{drop-length, take-length}
use Rattle.std.proofs.Math.Numerals.{add-one}
use Rattle.rpc_base.specs.Tables.{without_first}
use Rattle.rpc_base.proofs.TablesLemmas.{find-missing, without_first-found, without_first-missing}
use Rattle.circular_buffer.specs.Buffer.{Buffer, buffer}
use Rattle.circular_buffer.proofs.Places.{slice_get-drop}
use Rattle.rpc_base.proofs.TakingLemmas.{without_first-le}
use Rattle.packet_rings.specs.Entries.{option_is}

-- the item at i parts the list
pub record PartsAt {A : Type 0} (xs : List A) (i : ℕ) : Type 0 where
  pub item : A
  pub rest : drop i xs ≡ item ∷ drop (i + 1) xs
  pub more : take (i + 1) xs ≡ take i xs ++ item ∷ []

pub parted : {A : Type 0} (xs : List A) (i : ℕ) → i < length xs → PartsAt xs i
parted [] i h = absurd (omega arith)
parted (y ∷ ys) i h =
    record {
      item = get_or (y ∷ ys) i y;
      rest = drop_more (y ∷ ys) i y h;
      more = take_more (y ∷ ys) i y h;
    }

-- one more item moves to the end
pub turned-more : {A : Type 0} (xs : List A) (i : ℕ) → i < length xs
    → drop 1 (drop i xs ++ take i xs) ++ take 1 (drop i xs ++ take i xs)
    ≡ drop (i + 1) xs ++ take (i + 1) xs
turned-more xs i h =
    let p : PartsAt xs i = parted xs i h in
    rw (p.rest, p.more) (append_assoc (drop (i + 1) xs) (take i xs) (p.item ∷ []))

-- the same of a buffer
pub turn-step : {A : Type 0} (old now new : Buffer A) (i : ℕ)
    → now ≡ buffer (drop i old.items ++ take i old.items) old.capacity
    → new ≡ buffer (drop 1 now.items ++ take 1 now.items) now.capacity → i < length old.items
    → new ≡ buffer (drop (i + 1) old.items ++ take (i + 1) old.items) old.capacity
turn-step old now new i e f h =
    let g = rw e at f in
    g ∙ ap (λ xs. buffer xs old.capacity) (turned-more old.items i h)

-- the item in front of a turned list is the first that passes, or none of those that were turned past
pub passed-here : {A : Type 0} (p : A → Bool) (xs : List A) (i : ℕ) → i < length xs
    → option_is p (slice_get (drop i xs ++ take i xs) 0) ≡ true → position_or_len p (drop i xs) ≡ 0
passed-here p xs i h t =
    let q : PartsAt xs i = parted xs i h in
    let passes : p q.item ≡ true = rw q.rest at t in
    rw (q.rest, passes) refl

pub passed-later : {A : Type 0} (p : A → Bool) (xs : List A) (i : ℕ) → i < length xs
    → option_is p (slice_get (drop i xs ++ take i xs) 0) ≡ false
    → position_or_len p (drop i xs) ≡ 1 + position_or_len p (drop (i + 1) xs)
passed-later p xs i h t =
    let q : PartsAt xs i = parted xs i h in
    let passes : p q.item ≡ false = rw q.rest at t in
    rw (q.rest, passes) refl

-- a whole turn
pub turned-all : {A : Type 0} (xs : List A) (i : ℕ) → i ≡ length xs → drop i xs ++ take i xs ≡ xs
turned-all xs i e = rw (e, drop-length xs, take-length xs) refl

-- the item in front is taken out, and the rest turned on
append-taken : {A : Type 0} (xs ys : List A) → take (length xs) (xs ++ ys) ≡ xs
append-taken [] ys = refl
append-taken (x ∷ xs) ys = ap (λ zs. x ∷ zs) (append-taken xs ys)

append-dropped : {A : Type 0} (xs ys : List A) → drop (length xs) (xs ++ ys) ≡ ys
append-dropped [] ys = refl
append-dropped (x ∷ xs) ys = append-dropped xs ys

turn-rest : {A : Type 0} (xs ys : List A) → drop (length xs) (xs ++ ys) ++ take (length xs) (xs ++ ys) ≡ ys ++ xs
turn-rest xs ys = rw (append-dropped xs ys, append-taken xs ys) refl

pub turned-front : {A : Type 0} (xs : List A) (i : ℕ) → i < length xs
    → slice_get (drop i xs ++ take i xs) 0 ≡ slice_get (drop i xs) 0
turned-front xs i h = let p : PartsAt xs i = parted xs i h in rw p.rest refl

pub turned-removed : {A : Type 0} (xs : List A) (i k : ℕ) → i < length xs → k ≡ length xs - i - 1
    → drop k (drop 1 (drop i xs ++ take i xs)) ++ take k (drop 1 (drop i xs ++ take i xs))
    ≡ remove xs i
turned-removed xs i k h e =
    let p : PartsAt xs i = parted xs i h in
    let same : k ≡ length (drop (i + 1) xs) = omega (arith, length-drop (i + 1) xs) in
    rw (p.rest, same) (turn-rest (drop (i + 1) xs) (take i xs) ∙ ap (λ j. take i xs ++ drop j xs) (add-one i))

pub turned-length : {A : Type 0} (xs : List A) (i : ℕ) → i ≤ length xs → length (drop i xs ++ take i xs) ≡ length xs
turned-length xs i h = omega (arith, length-append (drop i xs) (take i xs), length-drop i xs, length-take i xs)

-- the first that passes stands where the turning stopped
pub find-turned : {A : Type 0} (p : A → Bool) (xs : List A) (i : ℕ) → i ≡ position_or_len p xs
    → i < length xs → slice_get (drop i xs ++ take i xs) 0 ≡ find p xs
find-turned p xs i e h =
    let q : PartsAt xs i = parted xs i h in
    let there : slice_get (drop i xs) 0 ≡ slice_get xs i = slice_get-drop i xs 0 i (omega arith) in
    turned-front xs i h ∙ there ∙ ap (λ k. slice_get xs k) e ∙ sym (find_at p xs)

position-at : (n m : ℕ) → n < m → cond (ltb n m) (Some n) None ≡ Some n
position-at n m h = rw (lt-ltb n m h) refl

pub without-turned : {A : Type 0} (p : A → Bool) (xs : List A) (i k : ℕ) → i ≡ position_or_len p xs
    → i < length xs → k ≡ length xs - i - 1
    → drop k (drop 1 (drop i xs ++ take i xs)) ++ take k (drop 1 (drop i xs ++ take i xs))
    ≡ without_first p xs
without-turned p xs i k e h f =
    let stands : position p xs ≡ Some (position_or_len p xs) =
    position-at (position_or_len p xs) (length xs) (omega arith) in
    turned-removed xs i k h f ∙ ap (λ j. remove xs j) e ∙ sym (without_first-found p xs (position_or_len p xs) stands)

-- where none passes, the list is as it was
position-past : (n m : ℕ) → m ≤ n → cond (ltb n m) (Some n) None ≡ None
position-past n m h = rw (le-ltb n m h) refl

pub find-none : {A : Type 0} (p : A → Bool) (xs : List A) (i : ℕ) → i ≡ position_or_len p xs
    → i ≡ length xs → find p xs ≡ None
find-none p xs i e h = find-missing p xs (position-past (position_or_len p xs) (length xs) (omega arith))

pub without-none : {A : Type 0} (p : A → Bool) (xs : List A) (i : ℕ) → i ≡ position_or_len p xs
    → i ≡ length xs → drop i xs ++ take i xs ≡ without_first p xs
without-none p xs i e h =
    turned-all xs i h ∙ sym (without_first-missing p xs
    (position-past (position_or_len p xs) (length xs) (omega arith)))

-- a buffer turned to the first that passes, which is then taken out
pub popped-items : {A : Type 0} (old now popped : Buffer A) (i : ℕ)
    → now ≡ buffer (drop i old.items ++ take i old.items) old.capacity
    → popped ≡ buffer (drop 1 now.items) now.capacity → i < length old.items
    → (length popped.items + 1 ≡ length old.items) × (popped.capacity ≡ old.capacity)
popped-items old now popped i e f h =
    let g = rw e at f in
    let turned = turned-length old.items i (omega arith) in
    let dropped = length-drop 1 (drop i old.items ++ take i old.items) in
    let items : length popped.items ≡ length (drop 1 (drop i old.items ++ take i old.items)) =
    ap (λ b. length b.items) g in
    (omega arith, ap (λ b. b.capacity) g)

pub taken-out : {A : Type 0} (p : A → Bool) (old now popped new : Buffer A) (i k : ℕ)
    → i ≡ position_or_len p old.items
    → now ≡ buffer (drop i old.items ++ take i old.items) old.capacity
    → popped ≡ buffer (drop 1 now.items) now.capacity
    → new ≡ buffer (drop k popped.items ++ take k popped.items) popped.capacity
    → i < length old.items → k ≡ length old.items - i - 1
    → new ≡ buffer (without_first p old.items) old.capacity
taken-out p old now popped new i k at e f g h l =
    let f' = rw e at f in
    let g' = rw f' at g in
    g' ∙ ap (λ xs. buffer xs old.capacity) (without-turned p old.items i k at h l)

-- the ring stays within its size
pub taken-within : {A : Type 0} (q : A → Bool) (old new : Buffer A)
    → new ≡ buffer (without_first q old.items) old.capacity → length old.items ≤ old.capacity
    → length new.items ≤ new.capacity
taken-within q old new l h = let items = without_first-le q old.items in rw l (omega arith)

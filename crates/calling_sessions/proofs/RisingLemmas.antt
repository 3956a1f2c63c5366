-- What an entry and a leaving do to numbers that rise.
use Rattle.std.proofs.Common.{◌≡◌, ◌≢◌, ℕ, zero, suc, ◌+◌, ◌-◌, ◌<◌, ◌≤◌, ◌⊎◌}
use Rattle.std.proofs.Common.{inl, inr, List, length, get_or}
use Rattle.std.proofs.Common.{refl, sym, ap, ◌∙◌, arith}
use Rattle.std.specs.Prelude.{Some, None, Result, Ok, Err}
use Rattle.std.specs.List.{Contains, insert, remove}
use Rattle.std.specs.Result.{MatchResult}
use Rattle.std.proofs.lemmas.Bool.{cases_lt, cases_eq}
use Rattle.std.proofs.lemmas.List.{get_or_default}
use Rattle.std.proofs.lemmas.List.Edits.{length-insert, get_or-insert_below, get_or-insert_at}
use Rattle.std.proofs.lemmas.List.Edits.{get_or-insert_above, length-remove, get_or-remove_below}
use Rattle.std.proofs.lemmas.List.Edits.{get_or-remove_above}
use Rattle.calling_sessions.specs.Rising.{AreBelow, Rises, IsNext, StandsAt}

pub stands : (xs : List ℕ) (n : ℕ) → Contains xs n → (k : ℕ) × (k < length xs) × (get_or xs k 0 ≡ n)
stands xs n h = (h.0, h.1, get_or_default xs h.0 0 n h.1 ∙ h.2)

pub contains : (xs : List ℕ) (n k : ℕ) → k < length xs → get_or xs k 0 ≡ n → Contains xs n
contains xs n k within is = (k, within, get_or_default xs k n 0 within ∙ is)

pub in-order : (xs : List ℕ) → Rises xs → (i j : ℕ) → i ≤ j → j < length xs
    → get_or xs i 0 ≤ get_or xs j 0
in-order xs up i j le within = elim (cases_lt i j) [
  | inl less ↦ (let h = up i j less within in omega (arith, h))
  | inr more ↦ (let same : i ≡ j = omega arith in rw same (omega arith))
]

-- what a search in numbers that rise says, by its cases
pub as-placed : (xs : List ℕ) (n : ℕ) (r : Result ℕ ℕ)
    → MatchResult r (λ i. (i < length xs) × (get_or xs i 0 ≡ n)) (λ i. (i ≤ length xs)
    × ((k : ℕ) → k < i → get_or xs k 0 < n) × ((k : ℕ) → i ≤ k → k < length xs → n < get_or xs k 0))
    → StandsAt n xs r
as-placed xs n (Ok p) h = h
as-placed xs n (Err p) h = h

module _ (xs : List ℕ) (p x : ℕ) (within : p ≤ length xs) where
  -- what stands at a place of the list with x at place p
  abbrev pub At : ℕ → Type 0
  At k = ((k < p) × (get_or (insert xs p x) k 0 ≡ get_or xs k 0))
      ⊎ (((k ≡ p) × (get_or (insert xs p x) k 0 ≡ x))
      ⊎ ((p < k) × (get_or (insert xs p x) k 0 ≡ get_or xs (k - 1) 0)))

  pub at-insert : (k : ℕ) → At k
  at-insert k = elim (cases_lt k p) [
    | inl below ↦ inl (below, get_or-insert_below xs p x 0 k below within)
    | inr more ↦ elim (cases_eq k p) [
      | inl same ↦ inr (inl (same, ap (λ n. get_or (insert xs p x) n 0) same ∙ get_or-insert_at xs p x 0 within))
      | inr other ↦ (
          let above : p < k = omega (arith, more, other) in
          let one : k ≡ (k - 1) + 1 = omega (arith, above) in
          inr (inr (
            above,
            ap (λ n. get_or (insert xs p x) n 0) one
                ∙ get_or-insert_above xs p x 0 (k - 1) (omega (arith, above)) within,
          )))
    ]
  ]

  pub rises-insert : Rises xs → ((k : ℕ) → k < p → get_or xs k 0 < x)
      → ((k : ℕ) → p ≤ k → k < length xs → x < get_or xs k 0) → Rises (insert xs p x)
  rises-insert up below above i j less inside =
      let long = length-insert xs p x within in
      elim (at-insert i) [
        | inl a ↦ elim (at-insert j) [
          | inl b ↦ omega (arith, a.1, b.1, up i j less (omega (arith, b.0, within)))
          | inr c ↦ elim c [
            | inl b ↦ omega (arith, a.1, b.1, below i a.0)
            | inr b ↦ omega (
              arith,
              a.1,
              b.1,
              below i a.0,
              above (j - 1) (omega (arith, b.0))
                  (omega (arith, long, inside, b.0)),
            )
          ]
        ]
        | inr d ↦ elim d [
          | inl a ↦ elim (at-insert j) [
            | inl b ↦ absurd (omega (arith, a.0, b.0, less))
            | inr c ↦ elim c [
              | inl b ↦ absurd (omega (arith, a.0, b.0, less))
              | inr b ↦ omega (arith, a.1, b.1, above (j - 1) (omega (arith, b.0)) (omega (arith, long, inside, b.0)))
            ]
          ]
          | inr a ↦ elim (at-insert j) [
            | inl b ↦ absurd (omega (arith, a.0, b.0, less))
            | inr c ↦ elim c [
              | inl b ↦ absurd (omega (arith, a.0, b.0, less))
              | inr b ↦ omega (
                arith,
                a.1,
                b.1,
                up (i - 1) (j - 1) (omega (arith, a.0, less))
                    (omega (arith, long, inside, b.0)),
              )
            ]
          ]
        ]
      ]

  pub below-insert : (bound : ℕ) → AreBelow bound xs → x < bound → AreBelow bound (insert xs p x)
  below-insert bound least low k inside =
      let long = length-insert xs p x within in
      elim (at-insert k) [
        | inl a ↦ omega (arith, a.1, least k (omega (arith, a.0, within)))
        | inr d ↦ elim d [
          | inl a ↦ omega (arith, a.1, low)
          | inr a ↦ omega (arith, a.1, least (k - 1) (omega (arith, long, inside, a.0)))
        ]
      ]

  pub insert-has : Contains (insert xs p x) x
  insert-has = contains (insert xs p x) x p (omega (arith, length-insert xs p x within, within))
      (get_or-insert_at xs p x 0 within)

  pub insert-keeps : (n : ℕ) → Contains xs n → Contains (insert xs p x) n
  insert-keeps n h = let s = stands xs n h in elim (cases_lt s.0 p) [
    | inl below ↦ contains (insert xs p x) n s.0 (omega (arith, length-insert xs p x within, s.1))
        (get_or-insert_below xs p x 0 s.0 below within ∙ s.2)
    | inr more ↦ contains (insert xs p x) n (s.0 + 1) (omega (arith, length-insert xs p x within, s.1))
        (get_or-insert_above xs p x 0 s.0 more within ∙ s.2)
  ]

  pub insert-alone : (n : ℕ) → n ≢ x → Contains (insert xs p x) n → Contains xs n
  insert-alone n other h = let s = stands (insert xs p x) n h in
      let long = length-insert xs p x within in
      elim (at-insert s.0) [
        | inl a ↦ contains xs n s.0 (omega (arith, a.0, within)) (sym a.1 ∙ s.2)
        | inr d ↦ elim d [
          | inl a ↦ absurd (other (sym s.2 ∙ a.1))
          | inr a ↦ contains xs n (s.0 - 1) (omega (arith, a.0, long, s.1)) (sym a.1 ∙ s.2)
        ]
      ]

module _ (xs : List ℕ) (p : ℕ) (within : p < length xs) where
  -- what stands at a place of the list without place p
  abbrev Left : ℕ → Type 0
  Left k = ((k < p) × (get_or (remove xs p) k 0 ≡ get_or xs k 0))
      ⊎ ((p ≤ k) × (get_or (remove xs p) k 0 ≡ get_or xs (k + 1) 0))

  left-at : (k : ℕ) → Left k
  left-at k = elim (cases_lt k p) [
    | inl below ↦ inl (below, get_or-remove_below xs p 0 k below within)
    | inr more ↦ inr (more, get_or-remove_above xs p 0 k more within)
  ]

  pub rises-remove : Rises xs → Rises (remove xs p)
  rises-remove up i j less inside =
      let long = length-remove xs p within in
      elim (left-at i) [
        | inl a ↦ elim (left-at j) [
          | inl b ↦ omega (arith, a.1, b.1, up i j less (omega (arith, b.0, within)))
          | inr b ↦ omega (arith, a.1, b.1, up i (j + 1) (omega (arith, less)) (omega (arith, long, inside)))
        ]
        | inr a ↦ elim (left-at j) [
          | inl b ↦ absurd (omega (arith, a.0, b.0, less))
          | inr b ↦ omega (arith, a.1, b.1, up (i + 1) (j + 1) (omega (arith, less)) (omega (arith, long, inside)))
        ]
      ]

  pub below-remove : (bound : ℕ) → AreBelow bound xs → AreBelow bound (remove xs p)
  below-remove bound least k inside =
      let long = length-remove xs p within in
      elim (left-at k) [
        | inl a ↦ omega (arith, a.1, least k (omega (arith, a.0, within)))
        | inr a ↦ omega (arith, a.1, least (k + 1) (omega (arith, long, inside)))
      ]

  pub remove-left : Rises xs → (n : ℕ) → Contains (remove xs p) n → n ≢ get_or xs p 0
  remove-left up n h = let s = stands (remove xs p) n h in
      let long = length-remove xs p within in
      λ same. elim (left-at s.0) [
        | inl a ↦ absurd (omega (arith, a.1, s.2, same, up s.0 p a.0 within))
        | inr a ↦ absurd (omega (arith, a.1, s.2, same, up p (s.0 + 1) (omega (arith, a.0)) (omega (arith, long, s.1))))
      ]

  pub remove-keeps : (n : ℕ) → n ≢ get_or xs p 0 → Contains xs n → Contains (remove xs p) n
  remove-keeps n other h = let s = stands xs n h in
      let long = length-remove xs p within in
      elim (cases_lt s.0 p) [
        | inl below ↦ contains (remove xs p) n s.0 (omega (arith, long, below, within))
            (get_or-remove_below xs p 0 s.0 below within ∙ s.2)
        | inr more ↦ elim (cases_eq s.0 p) [
          | inl same ↦ absurd (other (sym s.2 ∙ ap (λ k. get_or xs k 0) same))
          | inr apart ↦ (
              let above : p < s.0 = omega (arith, more, apart) in
              let one : (s.0 - 1) + 1 ≡ s.0 = omega (arith, above) in
              contains (remove xs p) n (s.0 - 1) (omega (arith, long, above, s.1))
              (get_or-remove_above xs p 0 (s.0 - 1) (omega (arith, above)) within
              ∙ ap (λ k. get_or xs k 0) one ∙ s.2))
        ]
      ]

  pub remove-alone : (n : ℕ) → Contains (remove xs p) n → Contains xs n
  remove-alone n h = let s = stands (remove xs p) n h in
      let long = length-remove xs p within in
      elim (left-at s.0) [
        | inl a ↦ contains xs n s.0 (omega (arith, a.0, within)) (sym a.1 ∙ s.2)
        | inr a ↦ contains xs n (s.0 + 1) (omega (arith, long, s.1)) (sym a.1 ∙ s.2)
      ]

-- each stands at a place that is no higher than it
pub place-below : (xs : List ℕ) → Rises xs → (k : ℕ) → k < length xs → k ≤ get_or xs k 0
place-below xs up zero inside = omega arith
place-below xs up (suc k) inside =
    let before = place-below xs up k (omega (arith, inside)) in
    let rise = up k (suc k) (omega arith) inside in omega (arith, before, rise)

-- one more number among numbers below a bound: they were fewer than the bound
pub has-room : (xs : List ℕ) (p x bound : ℕ) → Rises xs → p ≤ length xs
    → ((k : ℕ) → k < p → get_or xs k 0 < x) → ((k : ℕ) → p ≤ k → k < length xs → x < get_or xs k 0)
    → AreBelow bound xs → x < bound → length xs < bound
has-room xs p x bound up within below above least low =
    let last = place-below (insert xs p x) (rises-insert xs p x within up below above) (length xs)
    (omega (arith, length-insert xs p x within)) in
    elim (at-insert xs p x within (length xs)) [
      | inl a ↦ absurd (omega (arith, a.0, within))
      | inr d ↦ elim d [
        | inl a ↦ omega (arith, last, a.1, low)
        | inr a ↦ (
            let under = least (length xs - 1) (omega (arith, a.0)) in
            omega (arith, last, a.1, under))
      ]
    ]

-- a number that stands somewhere has no lower one behind it
pub found-order : (xs : List ℕ) (from p : ℕ) → Rises xs → p < length xs → get_or xs p 0 ≡ from
    → ((k : ℕ) → k < p → get_or xs k 0 < from)
    × ((k : ℕ) → p ≤ k → k < length xs → from ≤ get_or xs k 0)
found-order xs from p up inside is = (
  λ k less. (let h = up k p less inside in omega (arith, h, is)),
  λ k more within. (let h = in-order xs up p k more within in omega (arith, h, is)),
)

-- the numbers from a place on are those from a number on
pub next-there : (xs : List ℕ) (from p : ℕ) → Rises xs → p < length xs
    → ((k : ℕ) → k < p → get_or xs k 0 < from)
    → ((k : ℕ) → p ≤ k → k < length xs → from ≤ get_or xs k 0)
    → IsNext from xs (Some (get_or xs p 0))
next-there xs from p up inside below above = (
  contains xs (get_or xs p 0) p inside refl,
  above p (omega arith) inside,
  λ n h least. (let s = stands xs n h in elim (cases_lt s.0 p) [
    | inl less ↦ absurd (omega (arith, below s.0 less, s.2, least))
    | inr more ↦ (let order = in-order xs up p s.0 more s.1 in omega (arith, order, s.2))
  ]),
)

pub next-none : (xs : List ℕ) (from p : ℕ) → length xs ≤ p
    → ((k : ℕ) → k < p → get_or xs k 0 < from) → IsNext from xs None
next-none xs from p past below = λ n h. let s = stands xs n h in
    let less = below s.0 (omega (arith, s.1, past)) in omega (arith, less, s.2)

-- a number that stands at no place
pub unplaced : (xs : List ℕ) (x p : ℕ) → ((k : ℕ) → k < p → get_or xs k 0 < x)
    → ((k : ℕ) → p ≤ k → k < length xs → x < get_or xs k 0) → (n : ℕ) → Contains xs n → n ≢ x
unplaced xs x p below above n h = λ same. let s = stands xs n h in elim (cases_lt s.0 p) [
  | inl less ↦ absurd (omega (arith, below s.0 less, s.2, same))
  | inr more ↦ absurd (omega (arith, above s.0 more s.1, s.2, same))
]

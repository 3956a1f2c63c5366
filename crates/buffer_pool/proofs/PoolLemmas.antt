-- What a place tells after it, or another place, was changed; and which places have a buffer.
use Rattle.std.proofs.Common.{◌≡◌, ◌≢◌, ◌≤◌, ◌<◌, ◌+◌, ◌-◌, ◌∙◌, inl, inr, ℕ, zero, suc, true}
use Rattle.std.proofs.Common.{false, Option, Some, None, List, ◌∷◌, length, get_or, set, map}
use Rattle.std.proofs.Common.{replicate, refl, sym, ap, arith}
use Rattle.std.specs.Option.{is_some}
use Rattle.std.proofs.lemmas.Bool.{cases_lt}
use Rattle.std.proofs.lemmas.List.{length-set, length-replicate, map-set, set-get_or, get_or-map}
use Rattle.std.proofs.lemmas.List.{get_or_past, get_or-set_same, get_or-set_other}
use Rattle.message_buffer.specs.Buffer.{Buffer}
use Rattle.buffer_pool.specs.declared.usage.Use.{Use}
use Rattle.buffer_pool.specs.declared.usage.Use.TheVariants.{Empty, Full, Lent}
use Rattle.buffer_pool.specs.Uses.{is_full, refs_in}
use Rattle.buffer_pool.specs.Pool.{Pool, HoldsFull, IsFull, use_at, refs_of, emptied, held, released}

-- another place than the one that is changed, and this place itself
pub changed_other : {A : Type 0} (xs : List A) (p q : ℕ) (y d : A) → q ≢ p → get_or (set xs p y) q d ≡ get_or xs q d
changed_other xs p q y d n = get_or-set_other xs p q y d n

pub changed_own : {A : Type 0} (xs : List A) (p : ℕ) (y d : A) → p < length xs → get_or (set xs p y) p d ≡ y
changed_own xs p y d h = get_or-set_same xs p y d h

-- a full place is one of the pool's
full-inside : (uses : List Use) (p : ℕ) (u : Use) → u ≡ get_or uses p Empty → length uses ≤ p → is_full u ≡ true → ⊥
full-inside uses p u e past full =
    let none : u ≡ Empty = e ∙ get_or_past uses p Empty past in
    let clash : false ≡ true = ap is_full (sym none) ∙ full in
    cc

pub full_within : (uses : List Use) (p : ℕ) → is_full (get_or uses p Empty) ≡ true → p < length uses
full_within uses p full =
    elim (cases_lt p (length uses)) [
      | inl below ↦ below
      | inr past ↦ absurd
          (full-inside uses p (get_or uses p Empty) refl past full)
    ]

pub lent_within : (uses : List Use) (p : ℕ) → get_or uses p Empty ≡ Lent → p < length uses
lent_within uses p lent = elim (cases_lt p (length uses)) [ inl below ↦ below | inr past ↦ (let none : get_or uses p Empty ≡ Empty = get_or_past uses p Empty past in cc) ]

refs-full : (u : Use) → 0 < refs_in u → is_full u ≡ true
refs-full Empty h = absurd (omega arith)
refs-full (Full refs) h = refl
refs-full Lent h = absurd (omega arith)

-- a place with references is full
pub full_from_refs : (s : Pool) (p : ℕ) → 0 < refs_of s p → IsFull s p
full_from_refs s p h = refs-full (use_at s p) h

-- the count of a place after a reference to it came or went
pub held_refs : (s : Pool) (p : ℕ) → IsFull s p → (IsFull (held p s) p) × (refs_of (held p s) p ≡ refs_of s p + 1)
held_refs s p full =
    let own = changed_own s.uses p (Full (refs_of s p + 1)) Empty (full_within s.uses p full) in
    (ap is_full own, ap refs_in own)

pub released_refs : (s : Pool) (p : ℕ) → 0 < refs_of s p → (IsFull (released p s) p)
    × (refs_of (released p s) p ≡ refs_of s p - 1)
released_refs s p some =
    let own = changed_own s.uses p (Full (refs_of s p - 1)) Empty
    (full_within s.uses p (full_from_refs s p some)) in (ap is_full own, ap refs_in own)

-- where the buffers are
buf-mark : (uses : List Use) (bufs : List (Option Buffer)) (p : ℕ) → HoldsFull uses bufs
    → p < length uses → is_some (get_or bufs p None) ≡ is_full (get_or uses p Empty)
buf-mark uses bufs p holds h =
    sym (get_or-map is_some bufs p None false (omega (arith, holds.few)))
    ∙ ap (λ xs. get_or xs p false) (sym holds.agree) ∙ get_or-map is_full uses p Empty false h

pub buf_of_full : (uses : List Use) (bufs : List (Option Buffer)) (p : ℕ) → HoldsFull uses bufs
    → is_full (get_or uses p Empty) ≡ true → is_some (get_or bufs p None) ≡ true
buf_of_full uses bufs p holds full = buf-mark uses bufs p holds (full_within uses p full) ∙ full

none-from : (o : Option Buffer) → is_some o ≡ false → o ≡ None
none-from None e = refl
none-from (Some x) e = cc

pub no_buf_of_lent : (uses : List Use) (bufs : List (Option Buffer)) (p : ℕ) → HoldsFull uses bufs
    → get_or uses p Empty ≡ Lent → bufs ≡ set bufs p None
no_buf_of_lent uses bufs p holds lent =
    let none : get_or bufs p None ≡ None =
    none-from (get_or bufs p None) (buf-mark uses bufs p holds (lent_within uses p lent)
    ∙ ap is_full lent) in
    sym (set-get_or bufs p None) ∙ ap (λ o. set bufs p o) none

-- one place changes
pub HoldsFull-set : (uses : List Use) (bufs : List (Option Buffer)) (p : ℕ) (next : Use)
    (buf : Option Buffer) → HoldsFull uses bufs → is_full next ≡ is_some buf
    → HoldsFull (set uses p next) (set bufs p buf)
HoldsFull-set uses bufs p next buf holds e = record {
  agree = map-set is_full uses p next ∙ ap (λ xs. set xs p (is_full next)) holds.agree
      ∙ ap (λ b. set (map is_some bufs) p b) e ∙ sym (map-set is_some bufs p buf);
  few = length-set uses p next ∙ holds.few ∙ sym (length-set bufs p buf);
}

pub HoldsFull-use : (uses : List Use) (bufs : List (Option Buffer)) (p : ℕ) (next : Use)
    → HoldsFull uses bufs → p < length uses → is_full next ≡ is_full (get_or uses p Empty)
    → HoldsFull (set uses p next) bufs
HoldsFull-use uses bufs p next holds h e =
    let kept : is_full next ≡ get_or (map is_full uses) p false = e ∙ sym (get_or-map is_full uses p Empty false h) in
    record {
      agree = map-set is_full uses p next ∙ ap (λ b. set (map is_full uses) p b) kept
          ∙ set-get_or (map is_full uses) p false ∙ holds.agree;
      few = length-set uses p next ∙ holds.few;
    }

map-replicate : {A B : Type 0} (f : A → B) (n : ℕ) (x : A) → map f (replicate n x) ≡ replicate n (f x)
map-replicate f zero x = refl
map-replicate f (suc n) x = ap (λ ys. f x ∷ ys) (map-replicate f n x)

pub HoldsFull-new : (n : ℕ) → HoldsFull (replicate n Empty) (replicate n None)
HoldsFull-new n = record {
  agree = map-replicate is_full n Empty ∙ sym (map-replicate is_some n None);
  few = length-replicate n Empty ∙ sym (length-replicate n None);
}

-- what a place tells, by the pool's fields
pub same_use : (s t : Pool) (p q : ℕ) → s ≡ t → p ≡ q → use_at s p ≡ use_at t q
same_use s t p q e f = cc

pub buf_missing : (uses : List Use) (bufs : List (Option Buffer)) (p : ℕ) (o : Option Buffer)
    → HoldsFull uses bufs → is_full (get_or uses p Empty) ≡ true → o ≡ get_or bufs p o → o ≡ None
    → ⊥
buf_missing uses bufs p None holds full read e = let clash : false ≡ true = ap is_some read ∙ buf_of_full uses bufs p holds full in cc
buf_missing uses bufs p (Some x) holds full read e = cc

pub emptied_lent : (uses : List Use) (bufs : List (Option Buffer)) (p : ℕ) → HoldsFull uses bufs
    → get_or uses p Empty ≡ Lent
    → record { uses = set uses p Empty; bufs = bufs }
    ≡ emptied p (record { uses = uses; bufs = bufs })
emptied_lent uses bufs p holds lent = ap (λ xs. let s : Pool = record { uses = set uses p Empty; bufs = xs } in s) (no_buf_of_lent uses bufs p holds lent)

-- the buffer of a full place is written
pub HoldsFull-buf : (uses : List Use) (bufs : List (Option Buffer)) (p : ℕ) (buf : Buffer)
    → HoldsFull uses bufs → is_full (get_or uses p Empty) ≡ true
    → HoldsFull uses (set bufs p (Some buf))
HoldsFull-buf uses bufs p buf holds full =
    let within : p < length bufs = omega (arith, full_within uses p full, holds.few) in
    let kept : get_or (map is_some bufs) p false ≡ true =
    get_or-map is_some bufs p None false within ∙ buf_of_full uses bufs p holds full in
    record {
      agree = holds.agree ∙ sym (set-get_or (map is_some bufs) p false)
          ∙ ap (λ b. set (map is_some bufs) p b) kept ∙ sym (map-set is_some bufs p (Some buf));
      few = holds.few ∙ sym (length-set bufs p (Some buf));
    }

-- What is asked of the calls of a session, where those behind the last that began, which wait, all
-- answer alike.
use Rattle.std.proofs.Common.{◌≡◌, ◌<◌, ℕ, zero, suc, Bool, true, false, ◌||◌, ◌&&◌, Option, Some}
use Rattle.std.proofs.Common.{None, List, [], ◌∷◌, ◌++◌, length, refl, sym, ap, ◌∙◌, arith}
use Rattle.std.specs.List.{AllByRecursion, find, list_all, list_any, position, position_or_len}
use Rattle.std.specs.List.{slice_get}
use Rattle.std.proofs.lemmas.List.Folds.{find-append, list_all-append, list_any-append}
use Rattle.rpc_base.proofs.BasicLemmas.{or-none}
use Rattle.rpc_base.proofs.PlaceLemmas.{all-at}
use Rattle.rpc_laws.specs.declared.tables.Call.{Call}
use Rattle.rpc_laws.specs.declared.tables.Progress.{Progress}
use Rattle.rpc_laws.specs.BegunPart.{IsBegunAt, IsBegunPart, IsWaiting}
use Rattle.rpc_laws.proofs.PartsLemmas.{position-front, position-nowhere, position-past}

-- what began stands in front
below : (xs ys : List Call) (i : ℕ) (c : Call) (p : Progress) → AllByRecursion IsWaiting ys
    → slice_get (xs ++ ys) i ≡ Some c
    → c.progress ≡ Some p → i < length xs
below [] ys i c p waits there began = let waiting : IsWaiting c = all-at IsWaiting ys i c waits
    there in cc
below (x ∷ xs) ys zero c p waits there began = omega arith
below (x ∷ xs) ys
    (suc i) c p waits there began = let later = below xs ys i c p waits there began in omega arith

pub begun-below : (xs ys zs : List Call) (i : ℕ) → xs ++ ys ≡ zs → AllByRecursion IsWaiting ys
    → IsBegunAt i zs
    → i < length xs
begun-below xs ys zs i whole waits b =
    below xs ys i b.call b.progress waits (ap (λ us. slice_get us i) whole ∙ b.there) b.began

-- a test that no waiting call passes
module _ (p : Call → Bool) (fails : (c : Call) → c.progress ≡ None → p c ≡ false) where
  none-any : (xs : List Call) → AllByRecursion IsWaiting xs → list_any p xs ≡ false
  none-any [] waits = refl
  none-any (x ∷ xs) waits = rw (fails x waits.0) (none-any xs waits.1)

  none-find : (xs : List Call) → AllByRecursion IsWaiting xs → find p xs ≡ None
  none-find [] waits = refl
  none-find (x ∷ xs) waits = rw (fails x waits.0) (none-find xs waits.1)

  none-length : (xs : List Call) → AllByRecursion IsWaiting xs → position_or_len p xs ≡ length xs
  none-length [] waits = refl
  none-length (x ∷ xs) waits = rw (fails x waits.0) (omega (arith, none-length xs waits.1))

  none-position : (xs : List Call) → AllByRecursion IsWaiting xs → position p xs ≡ None
  none-position xs waits = position-past p xs (omega (arith, none-length xs waits))

  same-position : (xs ys : List Call) (o : Option ℕ) → position p xs ≡ o → position p ys ≡ None
      → o ≡ position p (xs ++ ys)
  same-position xs ys None e h = sym (position-nowhere p xs ys e h)
  same-position xs ys (Some i) e h = sym (position-front p xs ys i e)

  pub begun-position : (part calls : List Call) → IsBegunPart part calls
      → position p part ≡ position p calls
  begun-position part calls b =
      rw b.whole (same-position part b.rest (position p part) refl (none-position b.rest b.waits))

  pub begun-find : (part calls : List Call) → IsBegunPart part calls → find p part ≡ find p calls
  begun-find part calls b =
      rw (b.whole, find-append p part b.rest, none-find b.rest b.waits)
      (sym (or-none (find p part)))

  or-false : (b : Bool) → b ≡ (b || false)
  or-false true = refl
  or-false false = refl

  pub begun-any : (part calls : List Call) → IsBegunPart part calls
      → list_any p part ≡ list_any p calls
  begun-any part calls b =
      rw (b.whole, list_any-append p part b.rest, none-any b.rest b.waits)
      (or-false (list_any p part))

-- a test that each waiting call passes
module _ (p : Call → Bool) (passes : (c : Call) → c.progress ≡ None → p c ≡ true) where
  each-all : (xs : List Call) → AllByRecursion IsWaiting xs → list_all p xs ≡ true
  each-all [] waits = refl
  each-all (x ∷ xs) waits = rw (passes x waits.0) (each-all xs waits.1)

  and-true : (b : Bool) → b ≡ (b && true)
  and-true true = refl
  and-true false = refl

  pub begun-all : (part calls : List Call) → IsBegunPart part calls
      → list_all p part ≡ list_all p calls
  begun-all part calls b =
      rw (b.whole, list_all-append p part b.rest, each-all b.rest b.waits)
      (and-true (list_all p part))

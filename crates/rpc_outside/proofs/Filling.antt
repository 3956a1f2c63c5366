-- How long a fill is.
use Rattle.std.proofs.Common.{◌≡◌, ◌≤◌, ◌<◌, ◌+◌, ◌%◌, ◌^◌, ℕ, Bool, true, false, cond, List, []}
use Rattle.std.proofs.Common.{◌∷◌, length, refl, sym, ap, ◌∙◌, arith, eq-eqb, le-leb, nat_le}
use Rattle.std.proofs.Common.{append-nil, zero-add, mod-eq_of_lt, ◌≢◌, ne_eqb, ◌==◌, ◌&&◌}
use Rattle.std.proofs.lemmas.List.FromFn.{length-map-range_with_len}
use Rattle.std.specs.Prelude.{slice_index}
use Rattle.byteorder.specs.Numbers.{big_number-reads_back}
use Rattle.std.proofs.lemmas.Grind.{same_number_lists}
use Rattle.std.proofs.lemmas.List.FromFn.{get_or-map-range_with_len}
use Rattle.byteorder.specs.Endian.{big_number, big_bytes}
use Rattle.rpc_outside.specs.declared.service.Mode.TheVariants.{Inline, Background, Unserved}
use Rattle.rpc_outside.specs.PlainAnswer.{plain_mode, plain_answer, fill, counted, total_of}
use Rattle.rpc_outside.specs.PlainAnswer.{steady_answer, is_in_background}
use Rattle.rpc_outside.specs.Served.{Served}

pub fill-length : (ask : List ℕ) → length ask ≡ 4 → big_number 4 ask ≤ 1048576 → length (fill ask) ≡ big_number 4 ask
fill-length ask e h =
    rw (eq-eqb (length ask) 4 e, le-leb (big_number 4 ask) 1048576 h)
    (length-map-range_with_len (λ j. j % 256) 0 (big_number 4 ask))

count-length : (n : ℕ) → length (counted n) ≡ n
count-length n = length-map-range_with_len (λ j. j % 256) 0 n

-- bytes that count up are those
pub counts-up : (out : List ℕ) (n : ℕ) → length out ≡ n
    → ((k : ℕ) → k < n → slice_index out k ≡ k % 256) → out ≡ counted n
counts-up out n e h =
    same_number_lists out (counted n) (e ∙ sym (count-length n))
    (λ k l. let below : k < n = omega (arith, e) in h k below ∙ sym (get_or-map-range_with_len (λ j. j % 256) 0 n k k 0 below (omega arith)))

cond-counted : (b : Bool) (n : ℕ) → counted (length (cond b (counted n) [])) ≡ cond b (counted n) []
cond-counted true n = ap counted (count-length n)
cond-counted false n = refl

-- a fill is as many counted bytes as it is long
pub fill-counted : (ask : List ℕ) → counted (length (fill ask)) ≡ fill ask
fill-counted ask = cond-counted (length ask == 4 && nat_le (big_number 4 ask) 1048576) (big_number 4 ask)

inline-low : (t : ℕ) (b c : Bool)
    → cond (b && c) Inline (cond (is_in_background t) Background Unserved) ≡ Inline → c ≡ true
inline-low t true true h = refl
inline-low t true false h = absurd (outside (is_in_background t) h) where
  outside : (d : Bool) → cond d Background Unserved ≡ Inline → ⊥
  outside true e = cc
  outside false e = cc
inline-low t false c h = absurd (outside (is_in_background t) h) where
  outside : (d : Bool) → cond d Background Unserved ≡ Inline → ⊥
  outside true e = cc
  outside false e = cc

-- an inline type other than the tally is answered without the list
pub steady-inline : (served : Served) (t : ℕ) (ask : List ℕ) → t ≢ 3 → plain_mode t ≡ Inline
    → plain_answer served t ask ≡ steady_answer t ask
steady-inline served t ask other h = rw (ne_eqb t 3 other, inline-low t (nat_le 1 t) (nat_le t 4) h) refl

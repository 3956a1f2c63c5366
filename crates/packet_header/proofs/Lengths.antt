-- The test of a datagram's length, and the lengths that it stands for.
use Rattle.std.proofs.Common.{◌≡◌, ◌≤◌, ℕ, nat_le, ◌==◌, ◌&&◌, ◌||◌, true, false, ◌⊎◌, arith}
use Rattle.std.proofs.lemmas.Bool.Decides.{nat_tests}
use Rattle.packet_header.specs.declared.packet.Kind.{Kind}
use Rattle.packet_header.specs.declared.packet.Kind.TheVariants.{Request, Rfr, Cr, Response}
use Rattle.packet_header.specs.Header.{MessageLength}
use Rattle.packet_header.specs.Reading.{wanted, is_full_part}

one_length : (n w : ℕ) → (n == w || false) ≡ true → n ≡ w
one_length n w h = grind (arith, nat_tests)

length_one : (n w : ℕ) → n ≡ w → (n == w || false) ≡ true
length_one n w h = grind (arith, nat_tests)

two_lengths : (n w size : ℕ) → (n == w || (nat_le 1024 size && n == 1044)) ≡ true → (n ≡ w)
    ⊎ ((1024 ≤ size) × (n ≡ 1044))
two_lengths n w size h = grind (arith, nat_tests)

lengths_two : (n w size : ℕ) → (n ≡ w) ⊎ ((1024 ≤ size) × (n ≡ 1044))
    → (n == w || (nat_le 1024 size && n == 1044)) ≡ true
lengths_two n w size h = grind (arith, nat_tests)

pub tested-length : (kind : Kind) (size number n : ℕ)
    → (n == wanted kind size number || is_full_part kind size n) ≡ true
    → MessageLength kind size number n
tested-length Request size number n h = one_length n _ h
tested-length Rfr size number n h = one_length n _ h
tested-length Cr size number n h = one_length n _ h
tested-length Response size number n h = two_lengths n _ size h

pub length-tested : (kind : Kind) (size number n : ℕ) → MessageLength kind size number n
    → (n == wanted kind size number || is_full_part kind size n) ≡ true
length-tested Request size number n h = length_one n _ h
length-tested Rfr size number n h = length_one n _ h
length-tested Cr size number n h = length_one n _ h
length-tested Response size number n h = lengths_two n _ size h

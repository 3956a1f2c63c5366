-- Bytes in hexadecimal digits are read back.
use Rattle.std.proofs.Common.{◌≡◌, ℕ, ◌+◌, ◌*◌, ◌/◌, ◌%◌, ◌<◌, false}
use Rattle.std.proofs.Common.{List, [], ◌∷◌, Some, refl, ap, arith, tests, codes}
use Rattle.std.proofs.Common.{flat_map, ne_eqb}
use Rattle.std.proofs.lemmas.Bool.Decides.{nat_tests}
use Rattle.report_text.specs.Names.{hex_digit as digit_text, byte_text, bytes_text}
use Rattle.script_grammar.specs.Ask.{hex_digit, hex_byte, hex_bytes}
use Rattle.report_reader.specs.Facts.{octets_named}
use Rattle.report_reader.specs.Ranges.{AreOctets}
use Rattle.report_reader.specs.Words.{is_word}

digit-back : (n : ℕ) → n < 16 → hex_digit (digit_text n) ≡ Some n
unfolding hex_digit
digit-back n h = grind (arith, nat_tests)

byte-back : (b : ℕ) → b < 256 → hex_byte (digit_text (b / 16)) (digit_text (b % 16)) ≡ Some b
unfolding hex_byte
byte-back b h =
    let sum : 16 * (b / 16) + b % 16 ≡ b = omega arith in
    rw (digit-back (b / 16) (omega arith), digit-back (b % 16) (omega arith)) (ap (λ (n : ℕ). Some n) sum)

pairs-back : (bs : List ℕ) → AreOctets bs → hex_bytes (flat_map byte_text bs) ≡ Some bs
unfolding hex_bytes
pairs-back [] a = refl
pairs-back (b ∷ bs) a = rw (byte-back b a.0, pairs-back bs a.1) refl

not-dash : (b : ℕ) (rest : List ℕ) → is_word (digit_text (b / 16) ∷ rest) (codes "-") ≡ false
unfolding is_word
not-dash b rest = rw (ne_eqb (digit_text (b / 16)) 45 (grind (arith, tests))) refl

dash : octets_named (codes "-") ≡ Some []
unfolding octets_named is_word
dash = refl

pub octets-back : (bs : List ℕ) → AreOctets bs → octets_named (bytes_text bs) ≡ Some bs
unfolding octets_named
octets-back [] a = dash
octets-back (b ∷ bs) a =
    rw (not-dash b (digit_text (b % 16) ∷ flat_map byte_text bs)) (pairs-back (b ∷ bs) a)

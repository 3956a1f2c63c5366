-- Tests on numbers, and the facts that they stand for.
use Rattle.std.proofs.Common.{◌≡◌, ◌≤◌, ℕ, nat_le, ◌==◌, ◌&&◌, ◌||◌, not, Bool, true, false}
use Rattle.std.proofs.Common.{if◌then◌else◌, Option, Some, None, ◌⊎◌, refl, arith}
use Rattle.std.proofs.lemmas.Bool.Decides.{nat_tests}
use Rattle.packet_header.specs.declared.ranges.Span.{Span}
use Rattle.packet_header.specs.Ranges.{Within, within, lives, sessions}
use Rattle.packet_header.specs.Header.{IsLife, IsServer}
use Rattle.packet_header.specs.Reading.{is_life, is_server}

numbers_within : (low high n : ℕ) → (nat_le low n && nat_le n high) ≡ true → (low ≤ n) × (n ≤ high)
numbers_within low high n h = grind (arith, nat_tests)

within_numbers : (low high n : ℕ) → low ≤ n → n ≤ high → (nat_le low n && nat_le n high) ≡ true
within_numbers low high n g h = grind (arith, nat_tests)

pub within-holds : (s : Span) (n : ℕ) → within s n ≡ true → Within s n
within-holds s n h = numbers_within s.lowest s.highest n h

pub holds-within : (s : Span) (n : ℕ) → Within s n → within s n ≡ true
holds-within s n h = within_numbers s.lowest s.highest n h.0 h.1

pub server-holds : (b : Bool) (server : Option ℕ) → is_server b server ≡ true → IsServer b server
server-holds true (Some server) h = within-holds sessions server h
server-holds false None h = tt
server-holds true None h = absurd (cc)
server-holds false (Some server) h = absurd (cc)

pub holds-server : (b : Bool) (server : Option ℕ) → IsServer b server → is_server b server ≡ true
holds-server true (Some server) h = holds-within sessions server h
holds-server false None h = refl
holds-server true None h = absurd h
holds-server false (Some server) h = absurd h

pub life-holds : (b : Bool) (life : Option ℕ) → is_life b life ≡ true → IsLife b life
life-holds true (Some life) h = within-holds lives life h
life-holds false None h = tt
life-holds true None h = absurd (cc)
life-holds false (Some life) h = absurd (cc)

pub holds-life : (b : Bool) (life : Option ℕ) → IsLife b life → is_life b life ≡ true
holds-life true (Some life) h = holds-within lives life h
holds-life false None h = refl
holds-life true None h = absurd h
holds-life false (Some life) h = absurd h

pub either-holds : (n a : ℕ) → (n == 0 || n == a) ≡ true → (n ≡ 0) ⊎ (n ≡ a)
either-holds n a h = grind (arith, nat_tests)

pub holds-either : (n a : ℕ) → (n ≡ 0) ⊎ (n ≡ a) → (n == 0 || n == a) ≡ true
holds-either n a h = grind (arith, nat_tests)

-- a chain of tests that finds no fault has passed each
pub passed_five : (k0 k1 k2 k3 k4 : ℕ) (a b c d e : Bool)
    → (if not a then Some k0 else (if not b then Some k1
    else (if not c then Some k2 else (if not d then Some k3
    else (if not e then Some k4 else (None)))))) ≡ None → (a ≡ true) × (b ≡ true) × (c ≡ true)
    × (d ≡ true) × (e ≡ true)
passed_five k0 k1 k2 k3 k4 false b c d e h = absurd (cc)
passed_five k0 k1 k2 k3 k4 true false c d e h = absurd (cc)
passed_five k0 k1 k2 k3 k4 true true false d e h = absurd (cc)
passed_five k0 k1 k2 k3 k4 true true true false e h = absurd (cc)
passed_five k0 k1 k2 k3 k4 true true true true false h = absurd (cc)
passed_five k0 k1 k2 k3 k4 true true true true true h = (refl, refl, refl, refl, refl)

pub passed_seven : (k0 k1 k2 k3 k4 k5 k6 : ℕ) (a b c d e f g : Bool)
    → (if not a then Some k0 else (if not b then Some k1
    else (if not c then Some k2 else (if not d then Some k3
    else (if not e then Some k4 else (if not f then Some k5
    else (if not g then Some k6 else (None)))))))) ≡ None → (a ≡ true) × (b ≡ true) × (c ≡ true)
    × (d ≡ true) × (e ≡ true) × (f ≡ true) × (g ≡ true)
passed_seven k0 k1 k2 k3 k4 k5 k6 false b c d e f g h = absurd (cc)
passed_seven k0 k1 k2 k3 k4 k5 k6 true false c d e f g h = absurd (cc)
passed_seven k0 k1 k2 k3 k4 k5 k6 true true c d e f g h =
    let (third, fourth, fifth, sixth, seventh) = passed_five k2 k3 k4 k5 k6 c d e f g h in
    (refl, refl, third, fourth, fifth, sixth, seventh)

pub eqb_zero : (n : ℕ) → (n == 0) ≡ true → n ≡ 0
eqb_zero n h = grind (arith, nat_tests)

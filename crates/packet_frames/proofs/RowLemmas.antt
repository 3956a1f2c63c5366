-- What is read of a row of packets.
use Rattle.std.proofs.Common.{◌≡◌, ◌≤◌, ℕ, zero, suc, ◌+◌, ◌-◌, ◌*◌, Bool, true, false, ◌&&◌}
use Rattle.std.proofs.Common.{if◌then◌else◌, nat_le, List, [], ◌∷◌, ◌++◌, length, take, drop}
use Rattle.std.proofs.Common.{get_or}
use Rattle.std.proofs.Common.{refl, sym, ◌∙◌, ap, arith, length-append, length-drop, length-take}
use Rattle.std.proofs.Common.{append_assoc, append-nil, subst}
use Rattle.std.proofs.Math.Nat.{div-add-mod}
use Rattle.std.proofs.Math.Seq.{take-append_seam, drop-append_seam, take-length}
use Rattle.std.proofs.lemmas.Bool.{le-leb, leb-true}
use Rattle.std.proofs.lemmas.List.{drop-drop}
use Rattle.std.proofs.lemmas.List.Elements.{All-nil, All-cons, All-head, All-tail, All-push}
use Rattle.std.specs.List.{All}
use Rattle.packet_frames.specs.Frames.{item, items, first_packets, packets_of}
use Rattle.packet_frames.specs.declared.sizes.TheConstants.{FRAME_BYTE}

-- a packet isn't too long
abbrev pub IsShort : List ℕ → Type 0
IsShort p = length p ≤ 2048

drop-shorter : (n i : ℕ) (xs : List ℕ) → length xs ≤ n → length (drop i xs) ≤ n
drop-shorter n i xs h = omega (arith, length-drop i xs)

-- more than enough changes nothing
pub first_packets-enough : (n m : ℕ) (row : List ℕ) → length row ≤ n → length row ≤ m
    → first_packets n row ≡ first_packets m row
first_packets-enough zero zero row h k = refl
first_packets-enough zero (suc m) [] h k = refl
first_packets-enough zero (suc m) (x ∷ row) h k = absurd (omega arith)
first_packets-enough (suc n) zero [] h k = refl
first_packets-enough (suc n) zero (x ∷ row) h k = absurd (omega arith)
first_packets-enough (suc n) (suc m) [] h k = refl
first_packets-enough (suc n) (suc m) (x ∷ []) h k = refl
first_packets-enough (suc n) (suc m) (x ∷ y ∷ rest) h k =
    rw (first_packets-enough n m (drop (256 * x + y) rest)
    (drop-shorter n (256 * x + y) rest (omega arith))
    (drop-shorter m (256 * x + y) rest (omega arith))) refl

-- the first packet of a row that begins with its item
pub first_packets-item : (n : ℕ) (p rest : List ℕ) → IsShort p
    → first_packets (suc n) (item p ++ rest) ≡ p ∷ first_packets n rest
first_packets-item n p rest short =
    let whole : length p ≤ length (p ++ rest) = omega (arith, length-append p rest) in
    rw (div-add-mod (length p) 256) (rw (le-leb (length p) 2048 short)
    (rw (le-leb (length p) (length (p ++ rest)) whole) (rw (take-append_seam p rest)
    (rw (drop-append_seam p rest) refl))))

first_packets-none : (n : ℕ) → first_packets n [] ≡ []
first_packets-none zero = refl
first_packets-none (suc n) = refl

-- as many packets as there are, or more, are all of them
pub first_packets-items : (n : ℕ) (ps : List (List ℕ)) → All IsShort ps → length ps ≤ n
    → first_packets n (items ps) ≡ ps
first_packets-items n [] short h = first_packets-none n
first_packets-items zero (p ∷ ps) short h = absurd (omega arith)
first_packets-items (suc n) (p ∷ ps) short h =
    first_packets-item n p (items ps) (All-head IsShort p ps short)
    ∙ ap (λ qs. p ∷ qs)
    (first_packets-items n ps (All-tail IsShort p ps short) (omega arith))

-- a row has more bytes than packets
pub length_items : (ps : List (List ℕ)) → length ps ≤ length (items ps)
length_items [] = omega arith
length_items (p ∷ ps) =
    omega (arith, length_items ps, length-append (item p) (items ps))

-- the packets of a row that was written
pub packets_of-items : (ps : List (List ℕ)) → All IsShort ps → packets_of (items ps) ≡ ps
packets_of-items ps short = first_packets-items (length (items ps)) ps short (length_items ps)

short-take : (n : ℕ) (xs : List ℕ) → n ≤ 2048 → IsShort (take n xs)
short-take n xs h = omega (arith, length-take n xs)

-- the packets of a row whose first one was tested
short-more : (len n : ℕ) (rest : List ℕ) (ps : List (List ℕ)) (a b : Bool)
    → nat_le len 2048 ≡ a → All IsShort ps
    → All IsShort (if a && b then take len rest ∷ ps else [])
short-more len n rest ps false b e all = All-nil IsShort
short-more len n rest ps true false e all = All-nil IsShort
short-more len n rest ps true true e all =
    All-cons IsShort (take len rest) ps (short-take len rest (leb-true len 2048 e)) all

-- no packet that is read is too long
pub first_packets-short : (n : ℕ) (row : List ℕ) → All IsShort (first_packets n row)
first_packets-short zero row = All-nil IsShort
first_packets-short (suc n) [] = All-nil IsShort
first_packets-short (suc n) (x ∷ []) = All-nil IsShort
first_packets-short (suc n) (x ∷ y ∷ rest) =
    short-more (256 * x + y) n rest (first_packets n (drop (256 * x + y) rest))
    (nat_le (256 * x + y) 2048) (nat_le (256 * x + y) (length rest)) refl
    (first_packets-short n (drop (256 * x + y) rest))

-- the row with one packet more
pub items-push : (ps : List (List ℕ)) (p : List ℕ) → items ps ++ item p ≡ items (ps ++ p ∷ [])
items-push [] p = sym (append-nil (item p))
items-push (q ∷ ps) p =
    append_assoc (item q) (items ps) (item p) ∙ ap (λ row. item q ++ row) (items-push ps p)

-- one packet more behind the others
pub packets_of-push : (bytes p : List ℕ) (ps : List (List ℕ)) → All IsShort ps → IsShort p
    → bytes ≡ FRAME_BYTE ∷ items ps → packets_of (drop 1 (bytes ++ item p)) ≡ ps ++ p ∷ []
packets_of-push bytes p ps all short e =
    ap (λ bs. packets_of (drop 1 (bs ++ item p))) e ∙ (ap packets_of (items-push ps p)
    ∙ packets_of-items (ps ++ p ∷ []) (All-push IsShort ps p all short))

-- the first packet of a row, where a whole one stands there
pub packets_of_first : (row : List ℕ) (len : ℕ) → 2 ≤ length row
    → len ≡ 256 * get_or row 0 0 + get_or row 1 0 → len ≤ 2048 → 2 + len ≤ length row
    → packets_of row ≡ take len (drop 2 row) ∷ packets_of (drop (2 + len) row)
packets_of_first [] len two e short h = absurd (omega arith)
packets_of_first (x ∷ []) len two e short h = absurd (omega arith)
packets_of_first (x ∷ y ∷ rest) len two e short h =
    let within : len ≤ length rest = omega arith in
    let same : suc (suc len) ≡ 2 + len = omega arith in
    rw (sym e) (rw (le-leb len 2048 short) (rw (le-leb len (length rest) within)
    (ap (λ ps. take len rest ∷ ps)
    (first_packets-enough (suc (length rest)) (length (drop len rest)) (drop len rest)
    (drop-shorter (suc (length rest)) len rest (omega arith)) (omega arith)
    ∙ ap (λ k. packets_of (drop k (x ∷ y ∷ rest))) same))))

-- the packet at a place of a datagram
pub packets_at : (d : List ℕ) (at n : ℕ)
    → packets_of (drop at d) ≡ take n (drop 2 (drop at d)) ∷ packets_of (drop (2 + n) (drop at d))
    → packets_of (drop at d)
    ≡ take (at + 2 + n - (at + 2)) (drop (at + 2) d) ∷ packets_of (drop (at + 2 + n) d)
packets_at d at n e =
    let same : at + 2 + n - (at + 2) ≡ n = omega arith in
    let far : at + (2 + n) ≡ at + 2 + n = omega arith in
    rw same (e ∙ (ap (λ xs. take n xs ∷ packets_of (drop (2 + n) (drop at d))) (drop-drop 2 at d)
    ∙ ap (λ xs. take n (drop (at + 2) d) ∷ packets_of xs)
    (drop-drop (2 + n) at d ∙ ap (λ k. drop k d) far)))

-- the same, of the rest of the datagram as it is lent
pub packets_at_rest : (d : List ℕ) (at n : ℕ) (rest : List ℕ) → rest ≡ take (length d - at) (drop at d)
    → packets_of rest ≡ take n (drop 2 rest) ∷ packets_of (drop (2 + n) rest)
    → packets_of (drop at d)
    ≡ take (at + 2 + n - (at + 2)) (drop (at + 2) d) ∷ packets_of (drop (at + 2 + n) d)
packets_at_rest d at n rest is e =
    let whole : rest ≡ drop at d = is ∙ (ap (λ k. take k (drop at d)) (sym (length-drop at d))
    ∙ take-length (drop at d)) in
    packets_at d at n (subst (λ row. packets_of row
    ≡ take n (drop 2 row) ∷ packets_of (drop (2 + n) row)) whole e)

-- What a write to one part of a list leaves of the others, and the pieces of a list.
use Rattle.std.proofs.Common.{◌≡◌, ◌≤◌, ◌<◌, ◌+◌, ◌-◌, ◌*◌, ◌∙◌, inl, inr, Vec, ℕ, zero, suc, min}
use Rattle.std.proofs.Common.{List, ◌++◌, Some, length, take, drop, replicate, refl, sym, ap, subst}
use Rattle.std.proofs.Common.{arith}
use Rattle.std.specs.List.{slice_get, slice_set}
use Rattle.std.specs.Vec.{with_items}
use Rattle.std.proofs.lemmas.List.{append_assoc, take_all, take_at, take-append-le}
use Rattle.std.proofs.lemmas.List.{take-append-drop, take-take, drop-append-le, drop-take}
use Rattle.std.proofs.lemmas.List.{drop-drop, drop_at, length-take, length-drop, length-append}
use Rattle.std.proofs.lemmas.List.{take-replicate, drop-replicate, with_items_is}
use Rattle.std.proofs.lemmas.Slice.{drop-put_mid}
use Rattle.std.proofs.lemmas.Bool.{cases_lt}
use Rattle.std.proofs.lemmas.Bool.Decides.{nat_tests}
use Rattle.rpc_base.specs.declared.limits.TheConstants.{HEAD_BYTES}
use Rattle.packet_header.specs.Parts.{packet_count, part, part_size}
use Rattle.message_buffer.specs.Buffer.{overwritten, written, stamped}
use Rattle.message_buffer.specs.Block.{pieces, heads_in, data_in, buffer_in, block_size, head_start}

-- the list with the elements from a on replaced by ys, k of them
abbrev pub put : {X : Type 0} → ℕ → ℕ → List X → List X → List X
put a k xs ys = take a xs ++ (ys ++ drop k (drop a xs))

pub length-put : {X : Type 0} (a k : ℕ) (xs ys : List X) → length ys ≡ k → a + k ≤ length xs
    → length (put a k xs ys) ≡ length xs
length-put a k xs ys e h =
    omega (
      arith,
      length-append (take a xs) (ys ++ drop k (drop a xs)),
      length-append ys (drop k (drop a xs)),
      length-take a xs,
      length-drop k (drop a xs),
      length-drop a xs,
    )

-- a write behind the first n
pub drop-put : {X : Type 0} (n a k : ℕ) (xs ys : List X) → n + a ≤ length xs
    → drop n (put (n + a) k xs ys) ≡ put a k (drop n xs) ys
drop-put n a k xs ys h =
    let short : n ≤ length (take (n + a) xs) = omega (arith, length-take (n + a) xs) in
    drop-append-le n (take (n + a) xs) _ short ∙ rw (drop-take n a xs, drop-drop a n xs) refl

-- a write into the front
pub put-append : {X : Type 0} (a k : ℕ) (xs zs ys : List X) → a + k ≤ length xs
    → put a k (xs ++ zs) ys ≡ put a k xs ys ++ zs
put-append a k xs zs ys h =
    let first : a ≤ length xs = omega arith in
    let second : k ≤ length (drop a xs) = omega (arith, length-drop a xs) in
    rw (
      take-append-le a xs zs first,
      drop-append-le a xs zs first,
      drop-append-le k (drop a xs) zs second,
    )
    (sym (append_assoc (take a xs) (ys ++ drop k (drop a xs)) zs
    ∙ ap (λ rest. take a xs ++ rest) (append_assoc ys (drop k (drop a xs)) zs)))

pub take-put : {X : Type 0} (c a k : ℕ) (xs ys : List X) → length ys ≡ k → a + k ≤ c → c ≤ length xs
    → take c (put a k xs ys) ≡ put a k (take c xs) ys
take-put c a k xs ys e h g =
    let front : length (take c xs) ≡ c = omega (arith, length-take c xs) in
    let same : put a k (take c xs ++ drop c xs) ys ≡ put a k (take c xs) ys ++ drop c xs =
    put-append a k (take c xs) (drop c xs) ys (omega arith) in
    let long : length (put a k (take c xs) ys) ≡ c = omega (arith, length-put a k (take c xs) ys e (omega arith)) in
    ap (take c) (rw take-append-drop at same) ∙ take_at (put a k (take c xs) ys) (drop c xs) c long

-- what stands in front of the write, and behind it
pub take-put-before : {X : Type 0} (c a k : ℕ) (xs ys : List X) → c ≤ a → a ≤ length xs
    → take c (put a k xs ys) ≡ take c xs
take-put-before c a k xs ys h g =
    let short : c ≤ length (take a xs) = omega (arith, length-take a xs) in
    take-append-le c (take a xs) _ short ∙ take-take c a xs h

pub drop-put-past : {X : Type 0} (c a k : ℕ) (xs ys : List X) → length ys ≡ k → a + k ≤ c
    → a ≤ length xs → drop c (put a k xs ys) ≡ drop c xs
drop-put-past c a k xs ys e h g = drop-put_mid a k xs ys c h g e

-- a write into a `Vec`
pub items-put : {Z : Type 0} (v : Vec ℕ Z) (a k : ℕ) (ys : List ℕ) → length ys ≡ k
    → a + k ≤ length v.items → (with_items v (put a k v.items ys)).items ≡ put a k v.items ys
items-put v a k ys e h = with_items_is v (put a k v.items ys) (length-put a k v.items ys e h ∙ sym v.ok.0)

-- a write into the data
store-put : (block ys : List ℕ) (capacity at k : ℕ) → length ys ≡ k → at + k ≤ capacity
    → HEAD_BYTES + capacity ≤ length block
    → data_in (put (HEAD_BYTES + at) k block ys) capacity
    ≡ overwritten at ys (data_in block capacity)
store-put block ys capacity at k e h g =
    let rest : List ℕ = drop HEAD_BYTES block in
    let room : capacity ≤ length rest = omega (arith, length-drop HEAD_BYTES block) in
    let put_in : data_in (put (HEAD_BYTES + at) k block ys) capacity ≡ put at k (take capacity rest) ys =
    ap (take capacity) (drop-put HEAD_BYTES at k block ys (omega arith)) ∙ take-put capacity at k rest ys e h room in
    put_in ∙ rw (drop-drop k at (take capacity rest), e) refl

heads-put : (block ys : List ℕ) (capacity at k : ℕ) → length ys ≡ k → at + k ≤ capacity
    → HEAD_BYTES + capacity ≤ length block
    → heads_in (put (HEAD_BYTES + at) k block ys) capacity ≡ heads_in block capacity
heads-put block ys capacity at k e h g =
    rw (
      take-put-before HEAD_BYTES (HEAD_BYTES + at) k block ys (omega arith) (omega arith),
      drop-put-past (HEAD_BYTES + capacity) (HEAD_BYTES + at) k block ys e (omega arith)
          (omega arith),
    ) refl

pub buffer-written : (block ys : List ℕ) (capacity len at k : ℕ) → length ys ≡ k → at + k ≤ capacity
    → length block ≡ block_size capacity
    → buffer_in (put (HEAD_BYTES + at) k block ys) capacity len
    ≡ written at ys (buffer_in block capacity len)
buffer-written block ys capacity len at k e h g =
    let long : HEAD_BYTES + capacity ≤ length block = omega arith in
    rw (store-put block ys capacity at k e h long, heads-put block ys capacity at k e h long) refl

-- the pieces of a list
pub length-pieces : (width n : ℕ) (xs : List ℕ) → length (pieces width n xs) ≡ n
length-pieces width zero xs = refl
length-pieces width (suc n) xs = ap suc (length-pieces width n (drop width xs))

pub pieces-get : (n j : ℕ) (xs : List ℕ) → j < n
    → slice_get (pieces HEAD_BYTES n xs) j ≡ Some (take HEAD_BYTES (drop (HEAD_BYTES * j) xs))
pieces-get zero j xs h = absurd (omega arith)
pieces-get (suc n) zero xs h = refl
pieces-get (suc n) (suc j) xs h =
    let next : HEAD_BYTES * suc j ≡ HEAD_BYTES + HEAD_BYTES * j = omega arith in
    pieces-get n j (drop HEAD_BYTES xs) (omega arith) ∙ rw (drop-drop (HEAD_BYTES * j) HEAD_BYTES xs, next) refl

pub pieces-put : (n j a : ℕ) (xs ys : List ℕ) → a ≡ HEAD_BYTES * j → length ys ≡ HEAD_BYTES
    → HEAD_BYTES * n ≤ length xs → j < n
    → pieces HEAD_BYTES n (put a HEAD_BYTES xs ys) ≡ slice_set (pieces HEAD_BYTES n xs) j ys
pieces-put zero j a xs ys p e g h = absurd (omega arith)
pieces-put (suc n) zero a xs ys p e g h =
    let front : a ≡ 0 = omega arith in
    rw front (rw (take_at ys (drop HEAD_BYTES xs) HEAD_BYTES e, drop_at ys (drop HEAD_BYTES xs) HEAD_BYTES e) refl)
pieces-put (suc n) (suc j) a xs ys p e g h =
    let next : a ≡ HEAD_BYTES + HEAD_BYTES * j = omega arith in
    let long : HEAD_BYTES * n ≤ length (drop HEAD_BYTES xs) = omega (arith, length-drop HEAD_BYTES xs) in
    let tail : pieces HEAD_BYTES n (put (HEAD_BYTES * j) HEAD_BYTES (drop HEAD_BYTES xs) ys)
    ≡ slice_set (pieces HEAD_BYTES n (drop HEAD_BYTES xs)) j ys =
    pieces-put n j (HEAD_BYTES * j) (drop HEAD_BYTES xs) ys refl e long (omega arith) in
    rw (
      next,
      take-put-before HEAD_BYTES (HEAD_BYTES + HEAD_BYTES * j) HEAD_BYTES xs ys
          (omega arith) (omega arith),
      drop-put HEAD_BYTES (HEAD_BYTES * j) HEAD_BYTES xs ys
          (omega arith),
      tail,
    ) refl

-- where a header stands
start-behind : (capacity j : ℕ) → head_start capacity (suc j) ≡ capacity + HEAD_BYTES * suc j
start-behind capacity j = grind (arith, nat_tests)

pub heads-get : (block : List ℕ) (capacity k : ℕ) → k < packet_count capacity
    → slice_get (heads_in block capacity) k ≡ Some
    (take HEAD_BYTES (drop (head_start capacity k) block))
heads-get block capacity zero h = refl
heads-get block capacity (suc j) h =
    let at : (HEAD_BYTES + capacity) + HEAD_BYTES * j ≡ capacity + HEAD_BYTES * suc j = omega arith in
    pieces-get (packet_count capacity - 1) j (drop (HEAD_BYTES + capacity) block) (omega arith)
    ∙ rw (drop-drop (HEAD_BYTES * j) (HEAD_BYTES + capacity) block, at, start-behind capacity j)
    refl

zero_heads-all : (m capacity k : ℕ) → k < packet_count capacity → block_size capacity ≡ m
    → slice_get (heads_in (replicate m 0) capacity) k ≡ Some (replicate HEAD_BYTES 0)
zero_heads-all m capacity zero h e =
    heads-get (replicate m 0) capacity zero h
    ∙ ap Some (take-replicate HEAD_BYTES m 0 (omega arith))
zero_heads-all m capacity (suc j) h e =
    heads-get (replicate m 0) capacity (suc j) h
    ∙ rw (
      start-behind capacity j,
      drop-replicate {X = ℕ} (capacity + HEAD_BYTES * suc j) m 0,
      take-replicate {X = ℕ} HEAD_BYTES (m - (capacity + HEAD_BYTES * suc j)) 0 (omega arith),
    )
    refl

pub zero_heads-get : (block : List ℕ) (m capacity k : ℕ) → block ≡ replicate m 0
    → k < packet_count capacity → block_size capacity ≡ m
    → slice_get (heads_in block capacity) k ≡ Some (replicate HEAD_BYTES 0)
zero_heads-get block m capacity k zeros h e =
    subst (λ (b : List ℕ). slice_get (heads_in b capacity) k ≡ Some (replicate HEAD_BYTES 0))
    (sym zeros) (zero_heads-all m capacity k h e)

-- a header written
pub buffer-stamped : (block ys : List ℕ) (capacity len start index : ℕ)
    → start ≡ head_start capacity index → length ys ≡ HEAD_BYTES → index < packet_count capacity
    → length block ≡ block_size capacity
    → buffer_in (put start HEAD_BYTES block ys) capacity len
    ≡ stamped index ys (buffer_in block capacity len)
buffer-stamped block ys capacity len start zero s e h g =
    let front : start ≡ 0 = omega arith in
    let rest : drop HEAD_BYTES (ys ++ drop HEAD_BYTES block) ≡ drop HEAD_BYTES block =
    drop_at ys (drop HEAD_BYTES block) HEAD_BYTES e in
    let far : drop (HEAD_BYTES + capacity) (ys ++ drop HEAD_BYTES block)
    ≡ drop (HEAD_BYTES + capacity) block =
    drop-put-past (HEAD_BYTES + capacity) 0 HEAD_BYTES block ys e (omega arith)
    (omega arith) in
    rw front (rw (rest, far, take_at ys (drop HEAD_BYTES block) HEAD_BYTES e) refl)
buffer-stamped block ys capacity len start (suc j) s e h g =
    let at : start ≡ (HEAD_BYTES + capacity) + HEAD_BYTES * j = omega (arith, start-behind capacity j) in
    let near : take (HEAD_BYTES + capacity) (put start HEAD_BYTES block ys)
    ≡ take (HEAD_BYTES + capacity) block =
    take-put-before (HEAD_BYTES + capacity) start HEAD_BYTES block ys (omega arith)
    (omega arith) in
    let same_store : data_in (put start HEAD_BYTES block ys) capacity ≡ data_in block capacity =
    sym (drop-take HEAD_BYTES capacity _) ∙ ap (drop HEAD_BYTES) near
    ∙ drop-take HEAD_BYTES capacity block in
    let first : take HEAD_BYTES (put start HEAD_BYTES block ys) ≡ take HEAD_BYTES block =
    take-put-before HEAD_BYTES start HEAD_BYTES block ys (omega arith) (omega arith) in
    let behind : drop (HEAD_BYTES + capacity) (put start HEAD_BYTES block ys)
    ≡ put (HEAD_BYTES * j) HEAD_BYTES (drop (HEAD_BYTES + capacity) block) ys =
    rw at (drop-put (HEAD_BYTES + capacity)
    (HEAD_BYTES * j) HEAD_BYTES block ys (omega arith)) in
    let others : pieces HEAD_BYTES (packet_count capacity - 1)
    (put (HEAD_BYTES * j) HEAD_BYTES (drop (HEAD_BYTES + capacity) block) ys)
    ≡ slice_set (pieces HEAD_BYTES (packet_count capacity - 1)
    (drop (HEAD_BYTES + capacity) block)) j ys = pieces-put (packet_count capacity - 1) j
    (HEAD_BYTES * j) (drop (HEAD_BYTES + capacity) block) ys refl e
    (omega (arith, length-drop (HEAD_BYTES + capacity) block)) (omega arith) in
    rw (same_store, first, behind, others) refl

-- a part of the message
take-take-least : {X : Type 0} (m n : ℕ) (xs : List X) → take m (take n xs) ≡ take (min m n) xs
take-take-least m n xs = elim (cases_lt m n) [ inl below ↦ (let least : min m n ≡ m = omega arith in rw least (take-take m n xs (omega arith))) | inr above ↦ (let least : min m n ≡ n = omega arith in rw least (take_all m (take n xs) (omega (arith, length-take n xs)))) ]

pub part-in : (block : List ℕ) (capacity len k size : ℕ) → len ≤ capacity → k < packet_count len
    → size ≡ part_size len k
    → take size (drop (HEAD_BYTES + 1024 * k) block) ≡ part (take len (data_in block capacity)) k
part-in block capacity len k size h g e =
    let rest : List ℕ = drop HEAD_BYTES block in
    let whole : take len (take capacity rest) ≡ take (1024 * k + (len - 1024 * k)) rest = let same : 1024 * k + (len - 1024 * k) ≡ len = omega arith in rw same (take-take len capacity rest h) in
    let back : part (take len (take capacity rest)) k
    ≡ take 1024 (take (len - 1024 * k) (drop (1024 * k) rest)) =
    rw (whole, drop-take (1024 * k) (len - 1024 * k) rest) refl in
    rw (e, back, take-take-least 1024 (len - 1024 * k) (drop (1024 * k) rest))
    (ap (take (part_size len k)) (sym (drop-drop (1024 * k) HEAD_BYTES block)))

-- each header ends within the block
pub head_start-end : (capacity index : ℕ) → index < packet_count capacity
    → head_start capacity index + HEAD_BYTES ≤ block_size capacity
head_start-end capacity zero h = omega arith
head_start-end capacity (suc j) h = omega (arith, start-behind capacity j)

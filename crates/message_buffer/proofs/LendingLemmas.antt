-- What a `&mut` to the message leaves: the message is what was written, and all else stays.
use Rattle.std.proofs.Common.{◌≡◌, ◌≤◌, ◌<◌, ◌+◌, ◌-◌, ◌*◌, ◌∙◌, inl, inr, Vec, ℕ, zero, suc, List}
use Rattle.std.proofs.Common.{[], ◌∷◌, ◌++◌, length, take, drop, refl, sym, ap, arith}
use Rattle.std.specs.List.{concat}
use Rattle.std.specs.Vec.{with_items_from}
use Rattle.std.proofs.lemmas.List.{append-nil, take_at, take-append-drop, drop_all, drop-drop}
use Rattle.std.proofs.lemmas.List.{length-take, length-drop, length-append}
use Rattle.std.proofs.lemmas.Bool.{cases_lt}
use Rattle.std.proofs.lemmas.Bool.Decides.{nat_tests}
use Rattle.rpc_base.specs.declared.limits.TheConstants.{HEAD_BYTES}
use Rattle.packet_header.specs.Parts.{packet_count}
use Rattle.message_buffer.specs.Buffer.{Buffer, bytes_of, capacity_of, overwritten, written}
use Rattle.message_buffer.specs.Block.{pieces, buffer_in, block_size, FitsBlock}
use Rattle.message_buffer.specs.Lending.{block_of, overrun, rewritten}
use Rattle.message_buffer.proofs.BlockLemmas.{items-put, buffer-written}

concat-pieces : (n : ℕ) (xs : List ℕ) → length xs ≡ HEAD_BYTES * n → concat (pieces HEAD_BYTES n xs) ≡ xs
concat-pieces zero [] e = refl
concat-pieces zero (x ∷ xs) e = absurd (omega arith)
concat-pieces (suc n) xs e =
    rw (concat-pieces n (drop HEAD_BYTES xs) (omega (arith, length-drop HEAD_BYTES xs)))
    (take-append-drop HEAD_BYTES xs)

-- the order of the block
block-again : (block : List ℕ) (capacity len : ℕ) → length block ≡ block_size capacity
    → block_of (buffer_in block capacity len) ≡ block
block-again block capacity len e =
    let rest : List ℕ = drop HEAD_BYTES block in
    let others : concat (pieces HEAD_BYTES (packet_count capacity - 1)
    (drop (HEAD_BYTES + capacity) block))
    ≡ drop (HEAD_BYTES + capacity) block =
    concat-pieces (packet_count capacity - 1) (drop (HEAD_BYTES + capacity) block)
    (omega (arith, length-drop (HEAD_BYTES + capacity) block)) in
    let first : take HEAD_BYTES block ++ [] ≡ take HEAD_BYTES block = append-nil (take HEAD_BYTES block) in
    let data_and_heads : take capacity rest ++ drop (HEAD_BYTES + capacity) block ≡ rest =
    rw (← drop-drop capacity HEAD_BYTES block) (take-append-drop capacity rest) in
    rw (first, others, data_and_heads) (take-append-drop HEAD_BYTES block)

-- what is written over a `Vec`, and past its end
items-over : {Z : Type 0} (v : Vec ℕ Z) (ys : List ℕ) → HEAD_BYTES ≤ length v.items
    → (with_items_from v HEAD_BYTES ys).items
    ≡ take (length v.items) (overwritten HEAD_BYTES ys v.items)
items-over v ys h =
    let over : List ℕ = take HEAD_BYTES v.items ++ (ys ++ drop (length ys) (drop HEAD_BYTES v.items)) in
    let long : length v.items ≤ length over =
    omega (
      arith,
      length-append (take HEAD_BYTES v.items)
          (ys ++ drop (length ys) (drop HEAD_BYTES v.items)),
      length-append ys
          (drop (length ys) (drop HEAD_BYTES v.items)),
      length-take HEAD_BYTES v.items,
      length-drop (length ys) (drop HEAD_BYTES v.items),
      length-drop HEAD_BYTES v.items,
    ) in
    let none : over ++ drop (length over) v.items ≡ over =
    ap (λ rest. over ++ rest) (drop_all (length over) v.items long) ∙ append-nil over in
    let laid : over ≡ overwritten HEAD_BYTES ys v.items =
    ap (λ rest. take HEAD_BYTES v.items ++ (ys ++ rest))
    (drop-drop (length ys) HEAD_BYTES v.items) in
    ap (take v.len) (none ∙ laid) ∙ ap (λ n. take n (overwritten HEAD_BYTES ys v.items)) v.ok.0

-- the message fits, as each message does
pub rewritten-fits : (message : List ℕ) (b : Buffer) → length message ≤ capacity_of b
    → rewritten message b ≡ written 0 message b
rewritten-fits message b h = grind (arith, nat_tests)

pub rewritten-runs_over : (message : List ℕ) (b : Buffer) → capacity_of b < length message
    → rewritten message b ≡ overrun message b
rewritten-runs_over message b h = grind (arith, nat_tests)

-- what is written is the message
pub bytes-rewritten : (message : List ℕ) (b : Buffer) → length message ≡ b.len
    → b.len ≤ capacity_of b → bytes_of (rewritten message b) ≡ message
bytes-rewritten message b e h = ap bytes_of (rewritten-fits message b (omega arith)) ∙ take_at message _ b.len e

overrun-is : (message block : List ℕ) (capacity : ℕ) (b : Buffer) → block_of b ≡ block
    → capacity_of b ≡ capacity
    → overrun message b ≡ buffer_in (take (length block) (overwritten HEAD_BYTES message block))
    capacity b.len
overrun-is message block capacity b e h =
    ap (λ xs. buffer_in (take (length xs) (overwritten HEAD_BYTES message xs))
    (capacity_of b) b.len) e ∙ ap (λ n. buffer_in
    (take (length block) (overwritten HEAD_BYTES message block)) n b.len) h

-- a block whose message is written anew, behind its first header
pub buffer-rewritten : {Z : Type 0} (v : Vec ℕ Z) (capacity len : ℕ) (message : List ℕ)
    → FitsBlock v.items capacity len
    → buffer_in (with_items_from v HEAD_BYTES message).items capacity len
    ≡ rewritten message (buffer_in v.items capacity len)
buffer-rewritten v capacity len message fits =
    let b : Buffer = buffer_in v.items capacity len in
    let size : capacity_of b ≡ capacity =
    omega (
      arith,
      fits.size,
      length-take capacity (drop HEAD_BYTES v.items),
      length-drop HEAD_BYTES v.items,
    ) in
    elim (cases_lt capacity (length message)) [
      | inl over ↦ ap (λ xs. buffer_in xs capacity len)
          (items-over v message (omega (arith, fits.size)))
          ∙ sym (overrun-is message v.items capacity b (block-again v.items capacity len fits.size)
          size) ∙ sym (rewritten-runs_over message b (omega arith))
      | inr within ↦ ap (λ xs. buffer_in xs capacity len)
          (items-put v HEAD_BYTES (length message) message refl (omega (arith, fits.size)))
          ∙ buffer-written v.items message capacity len 0 (length message) refl (omega arith)
          fits.size ∙ sym (rewritten-fits message b (omega arith))
    ]

-- The next part of a message that is written to its buffer, and how long a message is.
use Rattle.std.proofs.Common.{◌≡◌, ℕ, ◌+◌, ◌-◌, ◌*◌, ◌≤◌, Option, Some, None, List, ◌++◌, length}
use Rattle.std.proofs.Common.{take, drop, ap, sym, ◌∙◌, inl, inr, arith, append_assoc}
use Rattle.std.specs.Prelude.{◌⊎◌}
use Rattle.std.proofs.lemmas.Bool.{cases_lt}
use Rattle.std.proofs.lemmas.List.{length-take, length-take-le, take-take, take_all, take_at, length-append}
use Rattle.packet_header.specs.Parts.{part_size}
use Rattle.message_buffer.specs.Buffer.{Buffer, overwritten}
use Rattle.message_buffer.specs.Messages.{HasSize, message_in}

-- bytes that are written at a place stand there
pub front-written : (at : ℕ) (body store : List ℕ) → at ≤ length store
    → take (at + length body) (overwritten at body store) ≡ take at store ++ body
front-written at body store within =
    let long : length (take at store ++ body) ≡ at + length body =
    omega (arith, length-append (take at store) body, length-take-le at store within) in
    rw (← append_assoc) (take_at (take at store ++ body) (drop (at + length body) store) (at + length body) long)

-- a part is full, or it is the last
pub record IsNext (at size n : ℕ) : Type 0 where
  pub within : at + n ≤ size
  pub full : (n ≡ 1024) ⊎ (at + n ≡ size)
  pub short : n ≤ 1024

-- the message up to the next part
pub next-part : (at size : ℕ) (body store : List ℕ) → IsNext at size (length body)
    → size ≤ length store
    → take (at + 1024) (take size (overwritten at body store)) ≡ take at store ++ body
next-part at size body store next room =
    let front = front-written at body store (omega (arith, next.within, room)) in
    elim next.full [
      | inl full ↦ (
          let less : at + 1024 ≤ size = omega (arith, next.within, full) in
          let same : at + 1024 ≡ at + length body = omega (arith, full) in
          take-take (at + 1024) size (overwritten at body store) less
          ∙ ap (λ n. take n (overwritten at body store)) same ∙ front)
      | inr last ↦ (
          let short : length (take size (overwritten at body store)) ≤ at + 1024 =
          omega (
            arith,
            next.within,
            last,
            next.short,
            length-taken size (overwritten at body store),
          ) in
          take_all (at + 1024) (take size (overwritten at body store)) short
          ∙ ap (λ n. take n (overwritten at body store)) (sym last) ∙ front)
    ]
  where
    length-taken : (n : ℕ) (xs : List ℕ) → length (take n xs) ≤ n
    length-taken n xs = omega (arith, length-take n xs)

-- a part of a message whose size is told, or of one whose first part this is
pub part-next : (size j n : ℕ) → 1024 * j + n ≤ size → n ≡ part_size size j → IsNext (1024 * j) size n
part-next size j n within long = elim (cases_lt 1024 (size - 1024 * j)) [
  | inl more ↦ record { within = within; full = inl (omega (arith, long, more)); short = omega (arith, long) }
  | inr last ↦ record { within = within; full = inr (omega (arith, long, last, within)); short = omega (arith, long) }
]

-- how long it is
pub size-within : (o : Option Buffer) (buf : Buffer) (size : ℕ) → HasSize size o → o ≡ Some buf → buf.len ≡ size
size-within None buf size h e = cc
size-within (Some b) buf size h e = let same : b ≡ buf = cc in rw same at h.0

pub message-length : (o : Option Buffer) (size : ℕ) → HasSize size o → length (message_in o) ≡ size
message-length None size h = absurd h
message-length (Some b) size h = length-take-le b.len b.store (omega (arith, h.0, h.1)) ∙ h.0

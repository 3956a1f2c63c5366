-- The bytes of an answer, once one more of its parts is written.
use Rattle.std.proofs.Common.{◌≡◌, ℕ, ◌+◌, ◌-◌, ◌*◌, ◌≤◌, true, Option, Some, None, List, ◌++◌}
use Rattle.std.proofs.Common.{length, take, refl, ◌∙◌, arith}
use Rattle.std.proofs.lemmas.Bool.{eqb-true}
use Rattle.std.proofs.lemmas.List.{length-take, take-take, take_all}
use Rattle.packet_header.specs.Parts.{packet_count, part_size}
use Rattle.packet_header.specs.declared.packet.MessageHeader.{MessageHeader}
use Rattle.message_buffer.specs.Buffer.{Buffer, bytes_of, overwritten}
use Rattle.rpc_laws.specs.Calls.{known_packets}
use Rattle.rpc_laws.specs.ClientTable.{is_same_size}
use Rattle.client_core.specs.declared.call.ActiveCall.{ActiveCall}
use Rattle.client_core.specs.KeepsPool.{HasRoom, IsTold}
use Rattle.client_core.specs.Replies.{IsPart, sized, with_part}
use Rattle.message_buffer.proofs.MessageLemmas.{next-part, part-next}

-- what was there before
front-same : (told : Option ℕ) (j len room size : ℕ) (store : List ℕ) → IsTold room len told
    → is_same_size told size ≡ true → (told ≡ None → j ≡ 0) → 1024 * j ≤ size
    → take (1024 * j) (take len store) ≡ take (1024 * j) store
front-same None j len room size store is same first within = rw (first refl) refl
front-same (Some t) j len room size store is same first within =
    let e : t ≡ size = eqb-true t size same in
    take-take (1024 * j) len store (omega (arith, is.0, e, within))

sized-store : (told : Option ℕ) (s : ℕ) (b : Buffer) → (sized told s b).store ≡ b.store
sized-store None s b = refl
sized-store (Some t) s b = refl

sized-size : (told : Option ℕ) (s room : ℕ) (b : Buffer) → IsTold room b.len told
    → is_same_size told s ≡ true → (sized told s b).len ≡ s
sized-size None s room b is same = refl
sized-size (Some t) s room b is same = is.0 ∙ eqb-true t s same

-- the answer's bytes up to and with the part that a reply brought
pub with-next : (c : ActiveCall) (h : MessageHeader) (body : List ℕ) (b : Buffer)
    → HasRoom c.room c.size (Some b) → IsPart c h (length body)
    → length body ≡ part_size h.size (h.number + 1 - packet_count c.len)
    → (c.size ≡ None → h.number + 1 - packet_count c.len ≡ 0)
    → take (1024 * (h.number + 2 - packet_count c.len)) (bytes_of (with_part c h body b))
    ≡ take (1024 * (h.number + 1 - packet_count c.len)) (bytes_of b) ++ body
with-next c h body b has part long first =
    let j : ℕ = h.number + 1 - packet_count c.len in
    let at : 1024 * (h.number + 2 - packet_count c.len)
    ≡ 1024 * (h.number + 1 - packet_count c.len) + 1024 = omega (arith, part.answers) in
    let room : h.size ≤ length b.store = omega (arith, part.fits, has.0) in
    let next = next-part (1024 * (h.number + 1 - packet_count c.len)) h.size body b.store
    (part-next h.size (h.number + 1 - packet_count c.len) (length body) part.within long)
    room in
    let front = front-same c.size (h.number + 1 - packet_count c.len) b.len c.room h.size b.store
    has.1 part.same first (omega (arith, part.within)) in
    rw (at, sized-size c.size h.size c.room b has.1 part.same, sized-store c.size h.size b, front) next

-- the whole answer, once its last part is there
pub whole-answer : (c : ActiveCall) (h : MessageHeader) (body : List ℕ) (b : Buffer)
    → HasRoom c.room c.size (Some b) → IsPart c h (length body)
    → h.number + 1 ≡ known_packets (packet_count c.len) (Some h.size)
    → take (1024 * (h.number + 2 - packet_count c.len)) (bytes_of (with_part c h body b))
    ≡ bytes_of (with_part c h body b)
whole-answer c h body b has part last =
    let len = sized-size c.size h.size c.room b has.1 part.same in
    take_all (1024 * (h.number + 2 - packet_count c.len)) (bytes_of (with_part c h body b))
    (omega (
      arith,
      length-take (sized c.size h.size b).len
          (overwritten (1024 * (h.number + 1 - packet_count c.len)) body
          (sized c.size h.size b).store),
      len,
      last,
      part.answers,
    ))

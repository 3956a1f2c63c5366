-- One packet more: what is read of the bytes then.
use Rattle.std.proofs.Common.{◌≤◌, [], ◌∷◌, ◌++◌, length, drop, ap, ◌∙◌, arith, length-append}
use Rattle.packet_frames.specs.Frames.{packets_of}
use Rattle.packet_frames.proofs.RowLemmas.{IsShort}
use Rattle.packet_frames.proofs.DatagramLemmas.{packets_after, frame_after, count_most}
use Rattle.packet_frames.proofs.frame.Frame.push.Goals as goal

pub overflow_add-self : goal.overflow_add-self
overflow_add-self c =
    let most : c.self.inside.count ≤ 65507 =
    count_most c.self.inside.bytes.items c.self.inside.count c.self.invariant.0
    c.self.invariant.1 c.self.invariant.2 in
    omega (arith, most)

pub invariant_of-self : goal.invariant_of-self
invariant_of-self c =
    let p = c.args.head.now ++ c.args.body.now in
    let old = c.self.inside.bytes.items in
    let new = c.put_item.new.row.items in
    let short : IsShort p =
    omega (arith, length-append c.args.head.now c.args.body.now, c.requires.packet) in
    let whole = frame_after old p new c.self.invariant.0 short c.put_item.ensures.put in
    let all = packets_after old p new c.self.invariant.0 short c.put_item.ensures.put in (
      whole,
      omega (
        arith,
        ap length all,
        length-append (packets_of (drop 1 old)) (p ∷ []),
        c.self.invariant.1,
      ),
      grind (arith, length-append),
      omega (
        arith,
        c.self.invariant.3,
        c.put_item.ensures.capacity,
      ),
    )

pub returns-clause-put : goal.returns-clause-put
returns-clause-put c =
    let p = c.args.head.now ++ c.args.body.now in
    let short : IsShort p =
    omega (arith, length-append c.args.head.now c.args.body.now, c.requires.packet) in
    let all = packets_after c.self.inside.bytes.items p c.put_item.new.row.items
    c.self.invariant.0 short c.put_item.ensures.put in
    λ _. all ∙ ap (λ ps. ps ++ p ∷ []) c.self.view_is

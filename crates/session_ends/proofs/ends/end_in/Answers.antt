use Rattle.std.proofs.Common.{◌≡◌, inl, inr, ◌∙◌, ◌<◌, arith, get_or, length}
use Rattle.std.proofs.lemmas.Grind.{get_or_default_zero}
use Rattle.session_ends.proofs.EndOrderLemmas.{no-end, the-end}
use Rattle.session_ends.proofs.ends.end_in.Goals as goal

pub returns-then-place-len : goal.returns-then-place-len
returns-then-place-len c =
    no-end c.args.ends.now.items c.args.servers.now.items c.args.peer c.args.client
    c.args.life c.place_in-place.result c.requires.order c.requires.rises (omega arith) (omega arith)
    (rw (← c.code_at-first.ensures) c.place_in-place.ensures.parts) (inl (omega (
      arith,
      c.if-place-len.true,
      c.len.ensures,
    )))

pub returns-then-number-ge-SPAN : goal.returns-then-number-ge-SPAN
returns-then-number-ge-SPAN c =
    no-end c.args.ends.now.items c.args.servers.now.items c.args.peer c.args.client
    c.args.life c.place_in-place.result c.requires.order c.requires.rises (omega arith) (omega arith)
    (rw (← c.code_at-first.ensures) c.place_in-place.ensures.parts) (inr (omega (
      arith,
      c.if-number-ge-SPAN.true,
      c.code_at-first.ensures,
      c.index.ensures,
      get_or_default_zero c.args.ends.now.items c.place_in-place.result c.index.result.now (omega (
        arith,
        c.place_in-place.ensures.within,
        c.if-place-len.false,
        c.len.ensures,
      )),
    )))

pub returns : goal.returns
returns c =
    let ends = c.args.ends.now.items in
    let place = c.place_in-place.result in
    let within : place < length ends = omega (
      arith,
      c.place_in-place.ensures.within,
      c.if-place-len.false,
      c.len.ensures,
    ) in
    let is : c.index.result.now ≡ get_or ends place 0 =
    c.index.ensures ∙ get_or_default_zero ends place c.index.result.now within in
    let from = c.place_in-place.ensures.parts.1 place 0 (omega arith) within in
    c.place_of.ensures ∙ the-end ends c.args.servers.now.items c.args.peer c.args.client
    c.args.life place c.requires.order c.requires.rises (omega arith) (omega arith)
    (rw (← c.code_at-first.ensures) c.place_in-place.ensures.parts) within _
    (omega (arith, is, from, c.code_at-first.ensures)) (omega (arith, c.if-number-ge-SPAN.false))

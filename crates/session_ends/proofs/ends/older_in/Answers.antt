use Rattle.std.proofs.Common.{inl, inr, arith}
use Rattle.std.proofs.lemmas.Grind.{get_or_default_zero}
use Rattle.session_ends.proofs.EndOrderLemmas.{none-older}
use Rattle.session_ends.proofs.ends.older_in.Goals as goal

pub returns-then-place-len : goal.returns-then-place-len
returns-then-place-len c =
    none-older c.args.ends.now.items c.args.servers.now.items c.args.peer c.args.life
    c.place_in-place.result c.requires.order (rw c.code_at.ensures at c.place_in-place.ensures.parts)
    (inl (omega (arith, c.if-place-len.true, c.len.ensures)))

pub returns-then-index-above : goal.returns-then-index-above
returns-then-index-above c =
    none-older c.args.ends.now.items c.args.servers.now.items c.args.peer c.args.life
    c.place_in-place.result c.requires.order (rw c.code_at.ensures at c.place_in-place.ensures.parts)
    (inr (omega (
      arith,
      c.if-index-above.true,
      c.code_at-above.ensures,
      c.index.ensures,
      get_or_default_zero c.args.ends.now.items c.place_in-place.result c.index.result.now (omega (
        arith,
        c.place_in-place.ensures.within,
        c.if-place-len.false,
        c.len.ensures,
      )),
    )))

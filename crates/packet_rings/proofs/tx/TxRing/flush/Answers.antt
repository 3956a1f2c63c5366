-- The clauses beside `taken` and `left` are laws of the list that these two name.
use Rattle.std.proofs.Common.{arith}
use Rattle.packet_rings.specs.Entries.{is_of, number_of}
use Rattle.rpc_base.proofs.LeastLemmas.{out-listed, out-lowest, out-taken, out-fewer}
use Rattle.packet_rings.proofs.RingsLemmas.{ring-out, ring-none, ring-others, ring-same}
use Rattle.packet_rings.proofs.MentionsLemmas.{mentions-out, replies-out}
use Rattle.packet_rings.proofs.tx.TxRing.flush.Goals as goal

pub returns-clause-none : goal.returns-clause-none
returns-clause-none c = ring-none _ _ _ _ _ c.self.view_is c.take_least-flushed.ensures.taken

pub returns-clause-unchanged : goal.returns-clause-unchanged
returns-clause-unchanged c = ring-same _ _ _ _ _ _ c.self.view_is c.take_least-flushed.ensures.taken
    c.take_least-flushed.ensures.left

pub returns-clause-listed : goal.returns-clause-listed
returns-clause-listed c =
    out-listed _ _ _ _ _ (ring-out _ _ _ _ _ _ c.self.view_is c.take_least-flushed.ensures.taken
    c.take_least-flushed.ensures.left)

pub returns-clause-lowest : goal.returns-clause-lowest
returns-clause-lowest c =
    out-lowest _ _ _ _ _ (ring-out _ _ _ _ _ _ c.self.view_is c.take_least-flushed.ensures.taken
    c.take_least-flushed.ensures.left)

pub returns-clause-nearest : goal.returns-clause-nearest
returns-clause-nearest c =
    out-taken _ _ _ _ _ (ring-out _ _ _ _ _ _ c.self.view_is c.take_least-flushed.ensures.taken
    c.take_least-flushed.ensures.left)

pub returns-clause-others : goal.returns-clause-others
returns-clause-others c = ring-others _ _ _ _ _ c.self.view_is c.take_least-flushed.ensures.left

pub returns-clause-fewer : goal.returns-clause-fewer
returns-clause-fewer c =
    out-fewer _ _ _ _ _ (ring-out _ _ _ _ _ _ c.self.view_is c.take_least-flushed.ensures.taken
    c.take_least-flushed.ensures.left)

pub returns-clause-places : goal.returns-clause-places
returns-clause-places c =
    mentions-out _ _ _ _ _ (ring-out _ _ _ _ _ _ c.self.view_is c.take_least-flushed.ensures.taken
    c.take_least-flushed.ensures.left)

pub overflow_sub-self : goal.overflow_sub-self
overflow_sub-self c =
    let counted = replies-out (is_of c.args.owner) number_of c.self.inside.entries.items
    c.take_least-flushed.result c.take_least-flushed.ensures.taken in
    omega (arith, counted, c.count_in.ensures, c.self.invariant.2)

pub invariant_of-self : goal.invariant_of-self
invariant_of-self c =
    let flushed = c.take_least-flushed.ensures in
    let counted = replies-out (is_of c.args.owner) number_of c.self.inside.entries.items
    c.take_least-flushed.result flushed.taken in (
      flushed.within,
      rw flushed.left c.self.invariant.1,
      rw flushed.left (omega (arith, counted, c.count_in.ensures, c.self.invariant.2)),
    )

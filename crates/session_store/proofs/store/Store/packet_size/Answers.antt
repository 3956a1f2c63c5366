use Rattle.std.proofs.Common.{◌≡◌, ap, ◌∙◌}
use Rattle.rpc_base.specs.declared.limits.TheConstants.{HEAD_BYTES}
use Rattle.rpc_laws.specs.Pacing.{packet_size}
use Rattle.std.proofs.Common.{Some, ◌+◌}
use Rattle.rpc_base.proofs.PlaceLemmas.{all-at}
use Rattle.packet_header.specs.Parts.{part_size}
use Rattle.session_ends.specs.Joined.{joined}
use Rattle.session_store.specs.Joined.{undue}
use Rattle.session_ends.specs.Sides.{SideKept}
use Rattle.session_store.proofs.FlushLemmas.{there-at}
use Rattle.session_store.proofs.ReadLemmas.{read-at}
use Rattle.session_store.proofs.SizeLemmas.{size-shown}
use Rattle.session_store.proofs.UndueLemmas.{flat}
use Rattle.session_store.proofs.store.Store.packet_size.Goals as goal

pub returns-clause-size : goal.returns-clause-size
returns-clause-size c =
    let s = c.self.inside in
    let x = c.index.result.now in
    let view = flat s.pool s.sides.items s.servers.items s.queue.tx s.queue.pacer c.args.self.now c.self.view_is in
    let at = there-at s.pool s.sides.items s.servers.items (joined s.queue.tx s.queue.pacer) c.self.invariant.0
    (undue c.args.self.now) view c.args.i x c.requires.known c.index.ensures in
    let size = size-shown s.pool x c.args.request c.args.number
    (all-at (SideKept s.pool) s.sides.items c.args.i x c.self.invariant.0.keeps at) in
    read-at s.pool s.sides.items s.servers.items (joined s.queue.tx s.queue.pacer) (undue c.args.self.now) view
    c.args.i x at (λ y. _ ≡ packet_size c.args.request c.args.number (Some y)) (c.datagram_size.ensures.size
    ∙ ap (λ n. HEAD_BYTES + part_size n c.args.number) c.bytes.ensures ∙ size)

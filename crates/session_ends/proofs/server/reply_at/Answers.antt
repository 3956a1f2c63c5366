use Rattle.std.proofs.Common.{sym, ◌∙◌}
use Rattle.rpc_base.proofs.PlaceLemmas.{all-at}
use Rattle.session_ends.specs.Sides.{ServerKept}
use Rattle.session_ends.proofs.SearchLemmas.{first-at, first-reply, first-spells, no-first}
use Rattle.session_ends.proofs.server.reply_at.Goals as goal

pub unreachable-requires : goal.unreachable-requires
unreachable-requires c =
    no-first c.args.session c.args.entry.now c.args.servers.now.items c.requires.there.stands
    (sym c.place_of.ensures ∙ c.in_default.is)

pub packet-requires : goal.packet-requires
packet-requires c =
    let first = sym c.place_of.ensures ∙ c.in-Some.is in
    record {
      keeps_pool = all-at (ServerKept c.args.pool.now) c.args.servers.now.items c.in-Some.place
          c.index.result.now c.requires.there.keeps (first-at c.args.session c.args.servers.now.items
          c.in-Some.place c.index.result.now first c.index.ensures);
      posted = first-reply c.args.session c.args.entry.now c.args.servers.now.items c.in-Some.place
          c.index.result.now first c.index.ensures c.requires.there.stands;
    }

pub returns-clause-spells : goal.returns-clause-spells
returns-clause-spells c =
    first-spells c.args.session c.args.pool.now c.args.entry.now c.packet.new.head
    c.packet.result.now c.args.servers.now.items c.in-Some.place c.index.result.now
    (sym c.place_of.ensures ∙ c.in-Some.is) c.index.ensures c.packet.ensures.spelled

use Rattle.std.proofs.Common.{refl, sym, ◌∙◌}
use Rattle.rpc_base.proofs.PlaceLemmas.{all-at}
use Rattle.session_ends.specs.Sides.{ServerKept}
use Rattle.session_ends.proofs.SearchLemmas.{first-at, no-first}
use Rattle.session_ends.proofs.server.reply_sent_at.Goals as goal

pub unreachable-requires : goal.unreachable-requires
unreachable-requires c =
    no-first c.args.session c.args.entry.now c.args.servers.now.items c.requires.there.stands
    (sym c.place_of.ensures ∙ c.in_default.is)

pub sent-requires : goal.sent-requires
sent-requires c =
    let first = sym c.place_of.ensures ∙ c.in-Some.is in
    record {
      keeps_pool = all-at (ServerKept c.args.pool.now) c.args.servers.now.items c.in-Some.place
          c.index_mut.result.now c.requires.there.keeps (first-at c.args.session
          c.args.servers.now.items c.in-Some.place c.index_mut.result.now first
          c.index_mut.ensures.value);
      held = c.requires.held;
    }

pub returns-clause-gone : goal.returns-clause-gone
returns-clause-gone c =
    let first = sym c.place_of.ensures ∙ c.in-Some.is in
    record {
      place = c.in-Some.place;
      first = first;
      server = c.index_mut.result.now;
      at = first-at c.args.session c.args.servers.now.items c.in-Some.place c.index_mut.result.now
          first c.index_mut.ensures.value;
      later = c.sent.new.self;
      step = c.sent.ensures;
      changed = refl;
    }

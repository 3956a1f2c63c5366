use Rattle.server_core.proofs.QueuedLemmas.{given-counted}
use Rattle.std.proofs.Common.{refl, ap, arith}
use Rattle.server_core.specs.Serving.{begun, first_given, given_up}
use Rattle.server_core.specs.contracts.session.ServerSession.{the_view}
use Rattle.server_core.proofs.BeginLemmas.{begun-newest, begun-served, given-keeps-pool, given-shows, given-turn}
use Rattle.server_core.proofs.GivenLemmas.{spare-given}
use Rattle.server_core.proofs.SlotLemmas.{begun-session, few-left}
use Rattle.server_core.proofs.OtherLemmas.{given-others}
use Rattle.server_core.proofs.SpareLemmas.{first-given-spare}
use Rattle.server_core.specs.Session.{newest}
use Rattle.server_core.proofs.HoldBeginLemmas.{begun-holds, given-leaves, listed}
use Rattle.server_core.proofs.CountLemmas.{given-refs}
use Rattle.std.proofs.Common.{◌%◌}
use Rattle.server_core.specs.Session.{is_in_slot}
use Rattle.server_core.proofs.session.ServerSession.begin_working.Goals as goal
use Rattle.std.proofs.Common.{◌+◌}
use Rattle.packet_rings.specs.Mentions.{mentions}
use Rattle.server_core.proofs.StaysLemmas.{replies-still}

pub push-requires-clause-few : goal.push-requires-clause-few
push-requires-clause-few c = rw (c.give_up.ensures.slots, c.slot.ensures)
    (few-left (the_view c.self.inside) c.self.invariant _ (omega arith))

pub invariant_of-self : goal.invariant_of-self
invariant_of-self c =
    rw (c.push.ensures, c.given.ensures, c.give_up.ensures.slots, c.slot.ensures)
    (begun-session (the_view c.self.inside)
    (first_given c.args.head.now) c.self.invariant
    (given-turn c.args.head.now c.requires.begins.size c.requires.one))

pub returns-clause-shown : goal.returns-clause-shown
returns-clause-shown c =
    let keeps = rw (← c.self.view_is) at c.requires.begins.keeps_pool in
    rw (
      c.push.ensures,
      c.given.ensures,
      c.give_up.ensures.slots,
      c.give_up.ensures.pool,
      c.slot.ensures,
      ← c.self.view_is,
    )
    (given-shows c.args.pool.now (the_view c.self.inside) c.args.head.now keeps)

pub returns-clause-awaited : goal.returns-clause-awaited
returns-clause-awaited c =
    let s = the_view c.self.inside in
    let head = c.args.head.now in
    let pool = c.args.pool.now in
    let keeps = rw (← c.self.view_is) at c.requires.begins.keeps_pool in
    let room = spare-given pool (newest head.request s) in
    rw (
      c.push.ensures,
      c.given.ensures,
      c.give_up.ensures.slots,
      c.give_up.ensures.pool,
      c.slot.ensures,
    )
    (record {
      own = record {
        keeps_pool = given-keeps-pool pool s head keeps;
        found = begun-newest s (first_given head) c.self.invariant;
      };
      turn = given-turn head c.requires.begins.size c.requires.one;
      working = refl;
      spare = omega (arith, room, c.requires.begins.spare);
    })

pub returns-clause-begins : goal.returns-clause-begins
returns-clause-begins c =
    let s = the_view c.self.inside in
    let head = c.args.head.now in
    let pool = c.args.pool.now in
    let d = first_given head in
    let after = given_up (newest head.request s) pool in
    let keeps = rw (← c.self.view_is) at c.requires.begins.keeps_pool in
    let unheld = rw (← c.self.view_is) at c.requires.begins.unheld in
    rw (
      c.push.ensures,
      c.given.ensures,
      c.give_up.ensures.slots,
      c.give_up.ensures.pool,
      c.slot.ensures,
      ← c.self.view_is,
    )
    (record {
      places = record {
        spare = first-given-spare pool s head keeps;
        others = given-others pool s head;
        keeps_pool = given-keeps-pool pool s head keeps;
      };
      replies = λ es. replies-still (record {
        holds = λ all. begun-holds pool s head.request c.self.invariant keeps d refl after
            (begun d (listed (newest head.request s))) (given-leaves pool s head) es all refl;
        queued = λ all counted. given-counted pool s head.request c.self.invariant keeps d refl pool
            es all counted refl;
        counts = λ p. ap (λ n. n + mentions p es)
            (given-refs (is_in_slot (head.request % 8)) pool s.slots p keeps unheld);
      });
      served = λ mode_of new all. begun-served mode_of s.slots d new all;
    })

pub give_up-requires-clause-apart : goal.give_up-requires-clause-apart
give_up-requires-clause-apart c = c.self.invariant.apart c.slot.result

use Rattle.std.proofs.Common.{◌%◌}
use Rattle.server_core.specs.Session.{IsInTurn, is_in_slot}
use Rattle.server_core.proofs.QueuedLemmas.{still-counted}
use Rattle.packet_header.proofs.PartsLemmas.{packet_count_most}
use Rattle.server_core.specs.Session.{answer_of, ask_of}
use Rattle.std.proofs.Common.{ap, refl, arith}
use Rattle.server_core.specs.Serving.{last_given}
use Rattle.server_core.specs.contracts.session.ServerSession.{the_view}
use Rattle.server_core.proofs.SlotLemmas.{gone-session}
use Rattle.server_core.proofs.TakeLemmas.{given-keeps, given-shows, given-turn, gone-newest, gone-served}
use Rattle.server_core.proofs.OtherLemmas.{last-given-others}
use Rattle.server_core.proofs.SpareLemmas.{last-given-spare, spare-emptied}
use Rattle.server_core.proofs.HoldStepLemmas.{given-holds}
use Rattle.server_core.proofs.session.ServerSession.take_working.Goals as goal
use Rattle.rpc_base.proofs.FirstLemmas.{found-holds}
use Rattle.std.proofs.Common.{◌+◌}
use Rattle.packet_rings.specs.Mentions.{mentions}
use Rattle.buffer_pool.proofs.CountLemmas.{refs_emptied}
use Rattle.server_core.proofs.StaysLemmas.{replies-still}

pub take-requires : goal.take-requires
take-requires c = c.requires.kept.full

pub unreachable-requires : goal.unreachable-requires
unreachable-requires c =
    absurd (omega (
      arith,
      c.requires.kept.unnamed,
      c.in_default.ensures.held.0,
      c.in_default.ensures.held.1,
    ))

pub invariant_of-self : goal.invariant_of-self
invariant_of-self c =
    let found = rw (← c.self.view_is) at c.requires.newest.found in
    rw (c.replace.ensures, c.last_given.ensures)
    (gone-session (the_view c.self.inside) c.args.request (last_given c.args.request)
    c.self.invariant (given-turn c.args.request c.requires.size c.requires.last
    ((found-holds (is_in_slot (c.args.request.number % 8)) IsInTurn c.self.inside.slots
    c.args.request c.self.invariant.in_turn found).few (ap answer_of c.requires.taking))) refl
    found)

pub returns-clause-shown : goal.returns-clause-shown
returns-clause-shown c =
    let found = rw (← c.self.view_is) at c.requires.newest.found in
    let keeps = rw (← c.self.view_is) at c.requires.newest.keeps_pool in
    rw (c.replace.ensures, c.last_given.ensures, c.in-Ok.ensures.taken.2, ← c.self.view_is)
    (given-shows c.args.pool.now (the_view c.self.inside) c.args.request c.self.invariant found
    keeps c.args.place (ap ask_of c.requires.taking) (ap answer_of c.requires.taking))

pub returns-clause-awaited : goal.returns-clause-awaited
returns-clause-awaited c =
    let s = the_view c.self.inside in
    let q = c.args.request in
    let pool = c.args.pool.now in
    let asked = ap ask_of c.requires.taking in
    let none = ap answer_of c.requires.taking in
    let found = rw (← c.self.view_is) at c.requires.newest.found in
    let keeps = rw (← c.self.view_is) at c.requires.newest.keeps_pool in
    let room = spare-emptied pool c.args.place c.requires.kept.full in
    rw (c.replace.ensures, c.last_given.ensures, c.in-Ok.ensures.taken.2) (record {
      own = record {
        keeps_pool = given-keeps pool s q c.self.invariant found keeps c.args.place asked none;
        found = gone-newest pool s q c.self.invariant found keeps (last_given q) refl;
      };
      turn = given-turn q c.requires.size c.requires.last
          ((found-holds (is_in_slot (q.number % 8)) IsInTurn s.slots q c.self.invariant.in_turn
          found).few none);
      working = refl;
      spare = omega (arith, room);
    })

pub last_given-requires : goal.last_given-requires
last_given-requires c = omega (arith, packet_count_most c.args.request.size c.requires.size, c.requires.last)

pub returns-clause-stays : goal.returns-clause-stays
returns-clause-stays c =
    let s = the_view c.self.inside in
    let q = c.args.request in
    let pool = c.args.pool.now in
    let asked = ap ask_of c.requires.taking in
    let none = ap answer_of c.requires.taking in
    let found = rw (← c.self.view_is) at c.requires.newest.found in
    let keeps = rw (← c.self.view_is) at c.requires.newest.keeps_pool in
    rw (c.replace.ensures, c.last_given.ensures, c.in-Ok.ensures.taken.2, ← c.self.view_is) (record {
      places = record {
        spare = last-given-spare pool s q q.number keeps found refl none c.args.place asked
            c.requires.kept.full;
        others = last-given-others pool s q q.number found refl none c.args.place asked;
        keeps_pool = given-keeps pool s q c.self.invariant found keeps c.args.place asked none;
      };
      replies = λ es. replies-still (record {
        holds = λ all. given-holds pool s q c.self.invariant found keeps es all c.args.place asked
            none c.requires.last;
        queued = λ all counted. still-counted s q c.self.invariant found (last_given q) refl es refl
            counted;
        counts = λ p. ap (λ n. n + mentions p es)
            (refs_emptied pool c.args.place p c.requires.kept.full c.requires.kept.unnamed);
      });
      served = λ mode_of all. gone-served pool s q c.self.invariant found keeps mode_of
          (last_given q) refl refl all;
    })

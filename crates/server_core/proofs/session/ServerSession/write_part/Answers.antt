use Rattle.server_core.specs.Session.{ask_of}
use Rattle.std.proofs.Common.{ap, refl}
use Rattle.server_core.specs.KeepsPool.{IsAsked}
use Rattle.server_core.proofs.TakeLemmas.{own-beside, part-bytes, part-fits, part-keeps, part-shows}
use Rattle.server_core.proofs.OtherLemmas.{part-others}
use Rattle.server_core.proofs.HoldStepLemmas.{uses-hold}
use Rattle.server_core.proofs.session.ServerSession.write_part.Goals as goal
use Rattle.server_core.proofs.StaysLemmas.{replies-still}

pub get_mut-requires-clause-full : goal.get_mut-requires-clause-full
get_mut-requires-clause-full c =
    let beside = own-beside c.args.pool.now c.args.self.now c.args.request.now c.requires.session
    c.requires.newest.found c.requires.newest.keeps_pool in
    let asked : IsAsked c.args.pool.now c.args.request.now.size c.args.place =
    rw (ap ask_of c.requires.taking) at beside.own.ask in
    asked.full

pub get_mut-requires-clause-free : goal.get_mut-requires-clause-free
get_mut-requires-clause-free c =
    let beside = own-beside c.args.pool.now c.args.self.now c.args.request.now c.requires.session
    c.requires.newest.found c.requires.newest.keeps_pool in
    let asked : IsAsked c.args.pool.now c.args.request.now.size c.args.place =
    rw (ap ask_of c.requires.taking) at beside.own.ask in
    asked.unnamed

pub write-requires : goal.write-requires
write-requires c =
    rw c.from-at.ensures (part-fits c.args.pool.now c.args.self.now c.args.request.now
    c.requires.session c.requires.newest.found c.requires.newest.keeps_pool c.args.body.now c.args.place
    c.get_mut.result.now (ap ask_of c.requires.taking) c.get_mut.ensures.buffer
    c.requires.within c.requires.long)

pub returns-clause-shown : goal.returns-clause-shown
returns-clause-shown c =
    rw (c.write.ensures, c.from-at.ensures) (part-shows c.args.pool.now c.args.self.now
    c.args.request.now c.requires.session c.requires.newest.found c.requires.newest.keeps_pool c.args.body.now
    c.args.place c.get_mut.result.now (ap ask_of c.requires.taking) c.get_mut.ensures.buffer
    c.requires.within c.requires.long)

pub returns-clause-bytes : goal.returns-clause-bytes
returns-clause-bytes c =
    rw (c.write.ensures, c.from-at.ensures) (part-bytes c.args.pool.now c.args.self.now
    c.args.request.now c.requires.session c.requires.newest.found c.requires.newest.keeps_pool c.args.body.now
    c.args.place c.get_mut.result.now (ap ask_of c.requires.taking) c.get_mut.ensures.buffer
    c.requires.within c.requires.long)

pub returns-clause-stays : goal.returns-clause-stays
returns-clause-stays c = record {
  places = record {
    spare = refl;
    others = part-others c.args.pool.now c.args.self.now c.args.request.now
        c.args.request.now.number c.requires.newest.found c.args.place (ap ask_of c.requires.taking)
        c.write.new.self;
    keeps_pool = rw (c.write.ensures, c.from-at.ensures) (part-keeps c.args.pool.now
        c.args.self.now c.args.request.now c.requires.session c.requires.newest.found
        c.requires.newest.keeps_pool c.args.body.now c.args.place c.get_mut.result.now
        (ap ask_of c.requires.taking) c.get_mut.ensures.buffer c.requires.within c.requires.long);
  };
  replies = λ es. replies-still (record {
    holds = λ all. uses-hold c.args.pool.now _ c.args.self.now c.requires.newest.keeps_pool refl es all;
    queued = λ all counted. counted;
    counts = λ p. refl;
  });
  served = λ mode_of all. all;
}

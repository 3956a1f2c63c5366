use Rattle.std.proofs.Common.{ap, refl}
use Rattle.std.specs.Prelude.{option_map}
use Rattle.node_steps.proofs.TimerLosses.{fewer-left, is-lost, lost-more, lost-over, lost-same}
use Rattle.node_steps.proofs.TimerLosses.{lost-start, none-lost, one-lost}
use Rattle.node_steps.proofs.HandedBack.{gives-one, gives-same}
use Rattle.node_steps.proofs.LeavesSteps.{leaves-lost-then}
use Rattle.node_control.proofs.timers.rollbacks.lose_session.Goals as goal

pub calls-init : goal.calls-init
calls-init g c =
    let h = c.lose_peer.ensures in
    record {
      lost = lost-start g.R.Recorder.log g.K.Continuation.given c.args.me c.args.i
          c.args.store.now.clients c.lose_peer.new.self.clients c.args.rec.now c.note.new.self
          c.args.k.now h.clients c.note.ensures;
      rest = record {
        servers = h.servers;
        queued = h.queued;
        size = h.size;
        places = h.places;
        handed = gives-same g.K.Continuation.given _ _ _ _ h.handed refl;
      };
    }

pub lose-requires-clause-lost : goal.lose-requires-clause-lost
lose-requires-clause-lost g c =
    is-lost g.R.Recorder.log g.K.Continuation.given c.args.me c.args.i
    c.calls.invariant.lost.0 c.args.store.now.clients c.calls.store.clients c.args.rec.now
    c.calls.rec c.args.k.now c.calls.k c.calls.invariant.lost.1

pub calls-smaller : goal.calls-smaller
calls-smaller g c =
    let i = c.calls.invariant in
    let h = rw c.in-Some.is at c.lose.ensures in
    let one = one-lost g.R.Recorder.log g.K.Continuation.given c.args.me c.args.i c.in-Some.done
    c.calls.store.clients c.lose.new.self.clients c.calls.rec c.note-in-Some.new.self c.calls.k
    c.done.new.self h.loses.clients h.ended_as c.note-in-Some.ensures c.done.ensures in
    fewer-left g.R.Recorder.log g.K.Continuation.given c.args.me c.args.i i.lost.0
    c.args.store.now.clients c.calls.store.clients c.args.rec.now c.calls.rec c.args.k.now
    c.calls.k i.lost.1 c.lose.new.self.clients c.note-in-Some.new.self c.done.new.self one

pub calls-preserved : goal.calls-preserved
calls-preserved g c =
    let i = c.calls.invariant in
    let h = rw c.in-Some.is at c.lose.ensures in
    let one = one-lost g.R.Recorder.log g.K.Continuation.given c.args.me c.args.i c.in-Some.done
    c.calls.store.clients c.lose.new.self.clients c.calls.rec c.note-in-Some.new.self c.calls.k
    c.done.new.self h.loses.clients h.ended_as c.note-in-Some.ensures c.done.ensures in
    record {
      lost = lost-more g.R.Recorder.log g.K.Continuation.given c.args.me c.args.i i.lost.0
          c.args.store.now.clients c.calls.store.clients c.args.rec.now c.calls.rec c.args.k.now
          c.calls.k i.lost.1 c.lose.new.self.clients c.note-in-Some.new.self c.done.new.self one;
      rest = leaves-lost-then g.K.Continuation.given _ _ _ _ _ _ i.rest (record {
        servers = h.loses.servers;
        queued = h.loses.queued;
        size = h.loses.size;
        places = h.loses.places;
        handed = gives-one g.K.Continuation.given c.args.i c.in-Some.done _ _ _ _ h.loses.handed
            c.done.ensures;
      });
    }

pub returns-clause-lost : goal.returns-clause-lost
returns-clause-lost g c =
    let i = c.calls.invariant in
    let none = none-lost g.R.Recorder.log g.K.Continuation.given c.args.me c.args.i _
    c.calls.store.clients c.lose.new.self.clients
    (ap (option_map (λ d. d.call)) c.in_default.is) c.lose.ensures.loses.clients in
    lost-same g.R.Recorder.log g.K.Continuation.given c.args.me c.args.i _ _ _
    _ _ _ _ _ _ none.1 refl refl
    (lost-over g.R.Recorder.log g.K.Continuation.given c.args.me c.args.i i.lost.0
    c.args.store.now.clients c.calls.store.clients c.args.rec.now c.calls.rec c.args.k.now
    c.calls.k i.lost.1 none.0)

pub returns-clause-rest : goal.returns-clause-rest
returns-clause-rest g c =
    let h = c.lose.ensures.loses in
    leaves-lost-then g.K.Continuation.given _ _ _ _ _ _ c.calls.invariant.rest (record {
      servers = h.servers;
      queued = h.queued;
      size = h.size;
      places = h.places;
      handed = gives-same g.K.Continuation.given _ _ _ _ (rw c.in_default.is at h.handed) refl;
    })

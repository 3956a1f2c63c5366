use Rattle.std.proofs.Common.{None, Some, refl, sym, ◌∙◌}
use Rattle.std.proofs.lemmas.Bool.{not-false, not-true}
use Rattle.rpc_laws.specs.Service.{rules_of}
use Rattle.node_steps.specs.Jobs.{staff_of}
use Rattle.node_steps.proofs.HandedBack.{gives-one, gives-same}
use Rattle.node_steps.proofs.HandedGiven.{gave-no, gave-one}
use Rattle.node_steps.proofs.PacketCrew.{handled-none, handled-some, has-room, leaves-handled}
use Rattle.node_steps.proofs.PacketSteps.{asks-kind, node-replies, node-requests, node-stale}
use Rattle.node_steps.proofs.PacketSteps.{replies-kind}
use Rattle.node_poll.proofs.packets.handle_front.Goals as goal

pub unreachable-requires : goal.unreachable-requires
unreachable-requires g c = c.front_head.ensures.there c.requires.front.some c.in_default.is

pub returns-then-is_stale-clause-handles : goal.returns-then-is_stale-clause-handles
returns-then-is_stale-clause-handles g c =
    let front = sym c.front_head.ensures.value ∙ c.in-Some.is in
    let made = node-stale g.R.Recorder.log g.K.Continuation.given (rules_of g.V.Service)
    (g.V.Service.stands c.args.service.now) c.in-Some.head _ _ _ _ front c.requires.front.room
    _ _ c.args.memory.now (not-true _ (sym c.is_stale.ensures ∙ c.if-is_stale.true))
    c.requires.front.some refl c.drop_front.ensures.drops c.drop_front.ensures.rest.jobs in
    handled-none g.R.Recorder.log g.K.Continuation.given (staff_of g.W.Workers)
    (rules_of g.V.Service) g.W.Workers.answer _ _ _ _ _ _ _ _ _ _ made

pub returns-then-is_stale-clause-rest : goal.returns-then-is_stale-clause-rest
returns-then-is_stale-clause-rest g c =
    let front = sym c.front_head.ensures.value ∙ c.in-Some.is in
    let made = node-stale g.R.Recorder.log g.K.Continuation.given (rules_of g.V.Service)
    (g.V.Service.stands c.args.service.now) c.in-Some.head _ _ _ _ front c.requires.front.room
    _ _ c.args.memory.now (not-true _ (sym c.is_stale.ensures ∙ c.if-is_stale.true))
    c.requires.front.some refl c.drop_front.ensures.drops c.drop_front.ensures.rest.jobs in
    leaves-handled g.V.Service g.W.Workers g.K.Continuation.given g.R.Recorder.log
    _ _ _ _ _ _ _ _ _ _ _ _ c.requires.front made
    (rw c.drop_front.ensures.rest.servers c.requires.front.serving.served)
    (gives-same g.K.Continuation.given _ _ _ _ c.drop_front.ensures.rest.handed refl) refl refl refl

pub returns-in_default-handle_request-clause-handles
    : goal.returns-in_default-handle_request-clause-handles
returns-in_default-handle_request-clause-handles g c =
    let front = sym c.front_head.ensures.value ∙ c.in-Some.is in
    let made = node-requests g.R.Recorder.log g.K.Continuation.given (rules_of g.V.Service)
    (g.V.Service.stands c.args.service.now) c.in-Some.head _ _ _ _ front c.requires.front.room
    (g.V.Service.stands c.handle_request.new.service) None _ _ _
    (not-false _ (sym c.is_stale.ensures ∙ c.if-is_stale.false))
    (asks-kind c.in-Some.head.kind c.in-Request.is) refl
    c.in_default-handle_request.ensures.serves in
    handled-none g.R.Recorder.log g.K.Continuation.given (staff_of g.W.Workers)
    (rules_of g.V.Service) g.W.Workers.answer _ _ _ _ _ _ _ _ _ _ made

pub returns-in_default-handle_request-clause-rest
    : goal.returns-in_default-handle_request-clause-rest
returns-in_default-handle_request-clause-rest g c =
    let front = sym c.front_head.ensures.value ∙ c.in-Some.is in
    let made = node-requests g.R.Recorder.log g.K.Continuation.given (rules_of g.V.Service)
    (g.V.Service.stands c.args.service.now) c.in-Some.head _ _ _ _ front c.requires.front.room
    (g.V.Service.stands c.handle_request.new.service) None _ _ _
    (not-false _ (sym c.is_stale.ensures ∙ c.if-is_stale.false))
    (asks-kind c.in-Some.head.kind c.in-Request.is) refl
    c.in_default-handle_request.ensures.serves in
    leaves-handled g.V.Service g.W.Workers g.K.Continuation.given g.R.Recorder.log
    _ _ _ _ _ _ _ _ _ _ _ _ c.requires.front made
    c.handle_request.ensures.served
    (gives-same g.K.Continuation.given _ _ _ _ c.handle_request.ensures.handed refl) refl refl refl

pub give-given-requires : goal.give-given-requires
give-given-requires g c = record {
  room = has-room g.W.Workers.answer (rules_of g.V.Service) _ c.in-Some-handle_request.parcel
      c.in-Some-handle_request.ensures.serves.parcel c.requires.front.serving.founded
      c.requires.works;
}

pub returns-in-Some-handle_request-clause-handles
    : goal.returns-in-Some-handle_request-clause-handles
returns-in-Some-handle_request-clause-handles g c =
    let front = sym c.front_head.ensures.value ∙ c.in-Some.is in
    let made = node-requests g.R.Recorder.log g.K.Continuation.given (rules_of g.V.Service)
    (g.V.Service.stands c.args.service.now) c.in-Some.head _ _ _ _ front c.requires.front.room
    (g.V.Service.stands c.handle_request.new.service) (Some c.in-Some-handle_request.parcel)
    _ _ _
    (not-false _ (sym c.is_stale.ensures ∙ c.if-is_stale.false))
    (asks-kind c.in-Some.head.kind c.in-Request.is) refl
    c.in-Some-handle_request.ensures.serves in
    let room = has-room g.W.Workers.answer (rules_of g.V.Service) _ c.in-Some-handle_request.parcel
    c.in-Some-handle_request.ensures.serves.parcel c.requires.front.serving.founded
    c.requires.works in
    let h = c.give-given.ensures in
    handled-some g.R.Recorder.log g.K.Continuation.given (staff_of g.W.Workers)
    (rules_of g.V.Service) g.W.Workers.answer _ _ c.in-Some-handle_request.parcel _ _ _ _ _ _ _ _ _
    made c.sound.ensures.kept room c.give-given.result (h.full, h.out, h.given, h.waits, h.limit)

pub returns-in-Some-handle_request-clause-rest : goal.returns-in-Some-handle_request-clause-rest
returns-in-Some-handle_request-clause-rest g c =
    let front = sym c.front_head.ensures.value ∙ c.in-Some.is in
    let made = node-requests g.R.Recorder.log g.K.Continuation.given (rules_of g.V.Service)
    (g.V.Service.stands c.args.service.now) c.in-Some.head _ _ _ _ front c.requires.front.room
    (g.V.Service.stands c.handle_request.new.service) (Some c.in-Some-handle_request.parcel)
    _ _ _
    (not-false _ (sym c.is_stale.ensures ∙ c.if-is_stale.false))
    (asks-kind c.in-Some.head.kind c.in-Request.is) refl
    c.in-Some-handle_request.ensures.serves in
    leaves-handled g.V.Service g.W.Workers g.K.Continuation.given g.R.Recorder.log
    _ _ _ _ _ _ _ _ _ _ _ _ c.requires.front made
    c.handle_request.ensures.served
    (gives-same g.K.Continuation.given _ _ _ _ c.handle_request.ensures.handed refl)
    c.give-given.ensures.worked c.give-given.ensures.looks c.give-given.ensures.team

pub returns-in_default-hear_reply-clause-handles : goal.returns-in_default-hear_reply-clause-handles
returns-in_default-hear_reply-clause-handles g c =
    let front = sym c.front_head.ensures.value ∙ c.in-Some.is in
    let made = node-replies g.R.Recorder.log g.K.Continuation.given (rules_of g.V.Service)
    (g.V.Service.stands c.args.service.now) c.in-Some.head _ _ _ _ front c.requires.front.room
    c.hear_reply.result _ _ c.args.memory.now
    (not-false _ (sym c.is_stale.ensures ∙ c.if-is_stale.false))
    (replies-kind c.in-Some.head.kind c.in-Cr.is) c.hear_reply.ensures.hears
    c.hear_reply.ensures.jobs
    (gave-no g.K.Continuation.given c.hear_reply.result c.args.k.now c.in_default-hear_reply.is) in
    handled-none g.R.Recorder.log g.K.Continuation.given (staff_of g.W.Workers)
    (rules_of g.V.Service) g.W.Workers.answer _ _ _ _ _ _ _ _ _ _ made

pub returns-in_default-hear_reply-clause-rest : goal.returns-in_default-hear_reply-clause-rest
returns-in_default-hear_reply-clause-rest g c =
    let front = sym c.front_head.ensures.value ∙ c.in-Some.is in
    let made = node-replies g.R.Recorder.log g.K.Continuation.given (rules_of g.V.Service)
    (g.V.Service.stands c.args.service.now) c.in-Some.head _ _ _ _ front c.requires.front.room
    c.hear_reply.result _ _ c.args.memory.now
    (not-false _ (sym c.is_stale.ensures ∙ c.if-is_stale.false))
    (replies-kind c.in-Some.head.kind c.in-Cr.is) c.hear_reply.ensures.hears
    c.hear_reply.ensures.jobs
    (gave-no g.K.Continuation.given c.hear_reply.result c.args.k.now c.in_default-hear_reply.is) in
    leaves-handled g.V.Service g.W.Workers g.K.Continuation.given g.R.Recorder.log
    _ _ _ _ _ _ _ _ _ _ _ _ c.requires.front made
    (rw c.hear_reply.ensures.servers c.requires.front.serving.served)
    (gives-same g.K.Continuation.given _ _ _ _
    (rw c.in_default-hear_reply.is at c.hear_reply.ensures.handed) refl) refl refl refl

pub returns-in-Some-hear_reply-clause-handles : goal.returns-in-Some-hear_reply-clause-handles
returns-in-Some-hear_reply-clause-handles g c =
    let front = sym c.front_head.ensures.value ∙ c.in-Some.is in
    let made = node-replies g.R.Recorder.log g.K.Continuation.given (rules_of g.V.Service)
    (g.V.Service.stands c.args.service.now) c.in-Some.head _ _ _ _ front c.requires.front.room
    c.hear_reply.result _ _ c.args.memory.now
    (not-false _ (sym c.is_stale.ensures ∙ c.if-is_stale.false))
    (replies-kind c.in-Some.head.kind c.in-Cr.is) c.hear_reply.ensures.hears
    c.hear_reply.ensures.jobs
    (gave-one g.K.Continuation.given c.hear_reply.result c.in-Some-hear_reply.done c.args.k.now
    c.done.new.self c.in-Some-hear_reply.is c.done.ensures) in
    handled-none g.R.Recorder.log g.K.Continuation.given (staff_of g.W.Workers)
    (rules_of g.V.Service) g.W.Workers.answer _ _ _ _ _ _ _ _ _ _ made

pub returns-in-Some-hear_reply-clause-rest : goal.returns-in-Some-hear_reply-clause-rest
returns-in-Some-hear_reply-clause-rest g c =
    let front = sym c.front_head.ensures.value ∙ c.in-Some.is in
    let made = node-replies g.R.Recorder.log g.K.Continuation.given (rules_of g.V.Service)
    (g.V.Service.stands c.args.service.now) c.in-Some.head _ _ _ _ front c.requires.front.room
    c.hear_reply.result _ _ c.args.memory.now
    (not-false _ (sym c.is_stale.ensures ∙ c.if-is_stale.false))
    (replies-kind c.in-Some.head.kind c.in-Cr.is) c.hear_reply.ensures.hears
    c.hear_reply.ensures.jobs
    (gave-one g.K.Continuation.given c.hear_reply.result c.in-Some-hear_reply.done c.args.k.now
    c.done.new.self c.in-Some-hear_reply.is c.done.ensures) in
    leaves-handled g.V.Service g.W.Workers g.K.Continuation.given g.R.Recorder.log
    _ _ _ _ _ _ _ _ _ _ _ _ c.requires.front made
    (rw c.hear_reply.ensures.servers c.requires.front.serving.served)
    (gives-one g.K.Continuation.given c.in-Some.head.session c.in-Some-hear_reply.done _ _ _ _
    (rw c.in-Some-hear_reply.is at c.hear_reply.ensures.handed) c.done.ensures) refl refl refl

-- the call is asked, or refused
use Rattle.std.proofs.Common.{◌≡◌, ◌∙◌, ℕ, Some, ap, length, subst, sym}
use Rattle.message_buffer.specs.Buffer.{capacity_of}
use Rattle.relay_steps.proofs.AskLemmas.{asked-one, refused-or}
use Rattle.session_store.specs.Handing.{HandsInAt}
use Rattle.relay_steps.proofs.passing.ask_with.Goals as goal

pub returns-in-Ok-clause-asked : goal.returns-in-Ok-clause-asked
returns-in-Ok-clause-asked g c =
    asked-one g.R.Recorder.log g.V.Service g.D.Duty.answer c.args.handle.now
    c.nested_type-req_type.result c.number-tag.result c.args.req c.args.resp c.args.endpoint.now
    c.ask.new.self c.args.rec.now c.ask.new.rec c.nested_type-req_type.ensures c.number-tag.ensures
    c.requires.asks c.requires.room
    (ap length (sym c.bytes-message.ensures.message) ∙ c.bytes-message.ensures.len)
    c.in-Ok.ensures.asks c.ask.ensures.leaves c.in-Ok.ensures.asked.1
    (subst (λ (k : ℕ). HandsInAt 0 (record {
      call = k;
      tag = c.number-tag.result;
      req = Some c.args.req;
      room = capacity_of c.args.resp;
    }) c.args.endpoint.now.handed c.ask.new.self.handed) c.in-Ok.ensures.asked.0
    c.in-Ok.ensures.handed)

pub returns-in-Err-clause-refused : goal.returns-in-Err-clause-refused
returns-in-Err-clause-refused g c = λ not.
    refused-or g.R.Recorder.log g.V.Service g.D.Duty.answer c.args.handle.now
    c.nested_type-req_type.result c.number-tag.result c.args.req c.args.resp c.args.endpoint.now
    c.ask.new.self c.args.rec.now c.ask.new.rec c.nested_type-req_type.ensures c.number-tag.ensures
    c.requires.asks c.requires.room
    (ap length (sym c.bytes-message.ensures.message) ∙ c.bytes-message.ensures.len)
    (c.in-Err.ensures.asks not) c.ask.ensures.leaves c.in-Err.refused.why not
    c.in-Err.ensures.asked.2 c.in-Err.ensures.unchanged

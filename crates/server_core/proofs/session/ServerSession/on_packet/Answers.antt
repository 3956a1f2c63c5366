use Rattle.std.proofs.Common.{◌≡◌, [], refl, sym, ap, ◌∙◌}
use Rattle.std.specs.Prelude.{option_map}
use Rattle.rpc_base.specs.declared.state.DropReason.TheVariants.{NoMemory}
use Rattle.rpc_laws.specs.declared.rows.ServerRow.TheVariants.{Drops, Begins, Takes, Repeats}
use Rattle.server_core.specs.Handling.{Handles}
use Rattle.server_core.specs.Noting.{early_facts}
use Rattle.server_core.specs.Rows.{as_newest}
use Rattle.server_core.specs.Scene.{at_desk, incoming}
use Rattle.server_core.specs.Session.{newest}
use Rattle.server_core.specs.Shown.{shown}
use Rattle.server_core.specs.declared.step.Step.TheVariants.{Again, Dropped}
use Rattle.server_core.specs.Steps.{asked_with}
use Rattle.memory_count.proofs.Risen.{none-risen}
use Rattle.server_core.proofs.FlushLemmas.{grew-none}
use Rattle.server_core.proofs.HandlingLemmas.{dropped-leaves, handles-by, handles-noted}
use Rattle.server_core.proofs.LackLemmas.{drop-risen, row-has}
use Rattle.server_core.proofs.StaysLemmas.{replies-still, same-places, same-replies}
use Rattle.server_core.proofs.TableLemmas.{row-begins}
use Rattle.server_core.proofs.session.ServerSession.on_packet.Goals as goal
use Rattle.server_core.proofs.session.ServerSession.on_packet.Goals.{in-Drops, in-Begins}
use Rattle.server_core.proofs.session.ServerSession.on_packet.Goals.{in-Takes, in-Repeats}

pub begin-step-requires-clause-ready : goal.begin-step-requires-clause-ready
begin-step-requires-clause-ready g c =
    let row = rw c.mode-mode.ensures at (sym c.in-Begins.ensures.row) in
    record {
      session = c.in-Begins.ensures.sound;
      keeps_pool = c.requires.ready.keeps_pool;
      spare = c.requires.ready.spare;
      queued = c.requires.ready.queued row;
      counted = c.requires.ready.counted row;
      beginning = (row-begins c.mode-mode.result c.args.jobs_full c.args.head.now _ c.args.self.now
          c.requires.asking (sym c.in-Begins.ensures.row)).0;
    }

pub returns-clause-handles : goal.returns-clause-handles
returns-clause-handles g c =
    let v = g.V.Service in
    let log = g.R.Recorder.log in
    let who = c.args.who in
    let h = c.args.head.now in
    let body = c.args.body.now in
    let packet = incoming h body c.args.jobs_full in
    let s = c.args.self.now in
    let pool = c.args.pool.now in
    let tx = c.args.tx.now in
    let keeps = c.requires.ready.keeps_pool in
    let asking = c.requires.asking in
    let before = at_desk s pool tx c.args.service.now c.args.rec.now in
    let m = c.match-row in
    let after = at_desk m.self m.pool m.tx m.service m.rec in
    let did : Handles v log early_facts who packet m.step before after =
    elim m.branch [
      | in-Drops w ↦ (rw (w.self-is, w.pool-is, w.tx-is, w.service-is, w.rec-is, w.step-is)
          (handles-by v log who packet (Dropped w.in-Drops.reason) before before asking
          w.in-Drops.ensures.sound keeps (Drops w.in-Drops.reason)
          (rw c.mode-mode.ensures at (sym w.in-Drops.ensures.row)) (record {
            taken = refl;
            ring_is = refl;
            leaves = dropped-leaves v log (λ answer. early_facts who s tx.items
                (Drops w.in-Drops.reason) h (asked_with h body (shown pool s)) answer
                (Dropped w.in-Drops.reason)) h body w.in-Drops.reason s pool pool
                c.args.service.now c.args.rec.now refl refl c.requires.all_served
                (same-places s pool keeps) (refl, λ other. refl);
            replies = replies-still (same-replies s pool tx.items);
            short = λ inline last fits same.
                let why : w.in-Drops.reason ≡ NoMemory = cc in
                row-has c.mode-mode.result c.args.jobs_full
                (option_map as_newest (newest h.request s)) h
                (sym w.in-Drops.ensures.row ∙ ap Drops why);
          })))
      | in-Begins w ↦ (
          let b = w.begin-step in
          rw (w.self-is, w.pool-is, w.tx-is, w.service-is, w.rec-is, w.step-is)
          (handles-by v log who packet b.result before
          (at_desk b.new.self b.new.pool b.new.tx b.new.service b.new.rec) asking
          w.in-Begins.ensures.sound keeps Begins
          (rw c.mode-mode.ensures at (sym w.in-Begins.ensures.row))
          (rw c.mode-mode.ensures at b.ensures.does)))
      | in-Takes w ↦ (
          let t = w.take-step in
          rw (w.self-is, w.pool-is, w.tx-is, w.service-is, w.rec-is, w.step-is)
          (handles-by v log who packet t.result before
          (at_desk t.new.self t.new.pool tx t.new.service t.new.rec) asking
          w.in-Takes.ensures.sound keeps Takes
          (rw c.mode-mode.ensures at (sym w.in-Takes.ensures.row))
          (rw c.mode-mode.ensures at (t.ensures.does tx))))
      | in-Repeats w ↦ (
          let r = w.repeat-reply in
          rw (w.self-is, w.pool-is, w.tx-is, w.service-is, w.rec-is, w.step-is)
          (handles-by v log who packet (Again r.result) before
          (at_desk r.new.self r.new.pool tx c.args.service.now c.args.rec.now) asking
          w.in-Repeats.ensures.sound keeps Repeats
          (rw c.mode-mode.ensures at (sym w.in-Repeats.ensures.row)) (record {
            taken = tt;
            ring_is = refl;
            leaves = record {
              handled = record {
                answer = [];
                steps = r.ensures.shown;
                by_service = tt;
                grew = grew-none log c.args.rec.now;
              };
              reply = r.ensures.replies.reply;
              give = tt;
              no_bytes = tt;
              service = refl;
              session = r.ensures.session;
              pool = tt;
              all_served = r.ensures.replies.stays.served v.mode_of c.requires.all_served;
              places = r.ensures.replies.stays.places;
            };
            replies = r.ensures.replies.stays.replies tx.items;
            short = λ inline last fits same. cc;
          })))
    ] in
    handles-noted v log who packet m.step before after did c.note.new.rec c.note.ensures

pub returns-clause-cause : goal.returns-clause-cause
returns-clause-cause g c =
    let h = c.args.head.now in
    elim c.match-row.branch [
      | in-Drops w ↦ (rw (w.memory-is, w.step-is) (drop-risen w.in-Drops.reason c.args.memory.now
          (λ why. row-has c.mode-mode.result c.args.jobs_full
          (option_map as_newest (newest h.request c.args.self.now)) h
          (sym w.in-Drops.ensures.row ∙ ap Drops why))))
      | in-Begins w ↦ (rw (w.memory-is, w.step-is) w.begin-step.ensures.cause)
      | in-Takes w ↦ (rw (w.memory-is, w.step-is) w.take-step.ensures.cause)
      | in-Repeats w ↦ (rw (w.memory-is, w.step-is) (none-risen c.args.memory.now))
    ]

-- a session is opened
use Rattle.std.proofs.Common.{[], ◌∷◌, ◌∙◌, ap, ap₂, arith, refl, subst, sym}
use Rattle.command_line.specs.Words.{LoadWords}
use Rattle.rpc_turns.specs.Plain.{Stands, limits_at}
use Rattle.rpc_turns.specs.Rests.{resting}
use Rattle.run_status.specs.Words.{sleeps}
use Rattle.load_run.proofs.PassLemmas.{connect-passes}
use Rattle.rpc_base.specs.declared.event.Event.TheVariants.{Opened}
use Rattle.rpc_laws.specs.Facts.{plain}
use Rattle.rpc_laws.specs.declared.tables.Timed.{Timed}
use Rattle.load_run.proofs.run.LoadRun.start.Goals as goal

pub returns-clause-starts : goal.returns-clause-starts
returns-clause-starts g c =
    let opened = connect-passes g.R.Recorder.log c.in-Ok-plain_endpoint.endpoint
    c.connect.new.self c.args.rec.now c.connect.new.rec c.in-Ok-connect.ensures.leaves
    c.in-Ok-of.plan 0 c.in-Ok.peer 32 (record { some = omega arith; few = omega arith })
    c.in-Ok-connect.ensures.makes c.in-Ok-connect.ensures.accepted in
    let passes = opened.passes in
    let made = c.in-Ok-plain_endpoint.ensures.made in
    let stands = passes.goes.goes_on (limits_at c.spec.inside.timeout) [] made.stands in
    record {
      noted = passes.goes.noted;
      grew = passes.goes.grew;
      peer = c.in-Ok.peer;
      reaches = c.in-Ok.ensures.reaches;
      traffic = c.reach_server.ensures.traffic;
      faults = c.in-Ok.ensures.cause;
      opens = opened.opens ∙ ap₂ (λ m n. plain m (Opened n c.in-Ok.peer 32) ∷ []) stands.node
          (sym c.in-Ok-connect.ensures.number);
      life = passes.goes.lives (limits_at c.spec.inside.timeout) [] made.stands
          ∙ ap (λ (t : Timed). t.lists.life) made.timed
          ∙ ap (λ (w : LoadWords). w.life) c.spec.view_is;
      stands = subst (λ (w : LoadWords). Stands (limits_at w.timeout) passes.goes.noted
          c.connect.new.self) c.spec.view_is stands;
      rest = c.new.ensures ∙ ap (λ s. resting s) (c.sleeps.ensures
          ∙ ap (λ (w : LoadWords). sleeps w.idle) c.spec.view_is);
      sends = passes.sends;
      ends = passes.ends;
      none = let asks = passes.asks in omega (arith, asks);
      plan = c.in-Ok-of.ensures.calls;
      tally = c.new-2.ensures;
      asked = refl;
      turns = ap (λ (w : LoadWords). w.turns) c.spec.view_is;
      made = refl;
    }

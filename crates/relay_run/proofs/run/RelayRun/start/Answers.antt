-- the link reaches both servers, the endpoint is new, and its session is opened
use Rattle.std.proofs.Common.{ℕ, List, ◌∙◌, ap, refl, subst}
use Rattle.command_line.specs.Words.{ServeWords}
use Rattle.relay_run.proofs.StartLemmas.{book-new, desk-empty, in-life, opened, works-on}
use Rattle.relay_run.specs.Runs.{IsNew}
use Rattle.rpc_turns.specs.Plain.{limits_at}
use Rattle.rpc_turns.specs.Rests.{resting}
use Rattle.run_status.specs.Starting.{Reaches}
use Rattle.run_status.specs.Words.{sleeps}
use Rattle.relay_run.proofs.run.RelayRun.start.Goals as goal

pub returns-clause-starts : goal.returns-clause-starts
returns-clause-starts g c =
    let same = c.spec.view_is in
    let words = c.args.spec.now in
    let limits = limits_at words.timeout in
    let made = subst (λ (w : ServeWords). IsNew w.life (limits_at w.timeout)
    c.in-Ok-desk_endpoint.endpoint) same c.in-Ok-desk_endpoint.ensures.made in
    let opens = c.in-Ok-open_session.ensures.opens in
    let relays = c.in-Ok-new.ensures.made in
    record {
      noted = opens.noted;
      peer = c.in-Ok.peer;
      reaches = subst (λ (own : List ℕ). Reaches g.L.Link own c.args.other.now c.reach.new.link
          c.in-Ok.peer) (c.as_str.ensures.value ∙ ap (λ (w : ServeWords). w.addr) same)
          c.in-Ok.ensures.reaches;
      traffic = c.reach.ensures.traffic;
      faults = c.in-Ok.ensures.cause;
      opens = opened g.R.Recorder.log words.life limits _ _ _ _ _ _ made opens relays;
      grew = opens.grew;
      life = in-life g.R.Recorder.log words.life limits _ _ _ _ _ _ made opens relays;
      works = works-on g.R.Recorder.log words.life limits _ _ _ _ _ _ made opens relays;
      desk = desk-empty g.R.Recorder.log words.life limits _ _ _ _ _ _ made opens relays;
      book = book-new g.R.Recorder.log words.life limits _ _ _ _ _ _ made opens relays;
      rest = c.new-2.ensures ∙ ap (λ s. resting s) (c.sleeps.ensures
          ∙ ap (λ (w : ServeWords). sleeps w.idle) same);
      turns = ap (λ (w : ServeWords). w.turns) same;
      made = refl;
    }

pub returns-clause-works : goal.returns-clause-works
returns-clause-works g c =
    let limits = limits_at c.args.spec.now.timeout in
    let made = subst (λ (w : ServeWords). IsNew w.life (limits_at w.timeout)
    c.in-Ok-desk_endpoint.endpoint) c.spec.view_is c.in-Ok-desk_endpoint.ensures.made in
    let opens = c.in-Ok-open_session.ensures.opens in (
      limits,
      opens.noted,
      works-on g.R.Recorder.log c.args.spec.now.life limits _ _ _ _ _ _ made opens
          c.in-Ok-new.ensures.made,
    )

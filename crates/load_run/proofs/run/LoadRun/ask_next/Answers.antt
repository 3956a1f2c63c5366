-- a call is asked, or there is no memory and nothing happens
use Rattle.std.proofs.Common.{ℕ, ◌≡◌, ◌≤◌, ◌+◌, ◌∙◌, length, ap, arith, refl, subst, sym}
use Rattle.std.proofs.lemmas.List.{length-take}
use Rattle.load_plan.specs.Calls.{asked_bytes}
use Rattle.load_run.specs.Loading.{LoadsSoFar, Passes, state_in}
use Rattle.memory_count.specs.Faults.{HasRisen}
use Rattle.message_buffer.specs.Buffer.{bytes_of}
use Rattle.load_run.proofs.AskLemmas.{lacked, wants-memory}
use Rattle.load_run.proofs.PassLemmas.{asks-pass, passes-none}
use Rattle.rpc_turns.specs.Plain.{End}
use Rattle.rpc_base.specs.declared.state.SessionState.TheVariants.{Connected}
use Rattle.load_run.proofs.run.LoadRun.ask_next.Goals as goal

pub returns-in-Ok-clause-passes : goal.returns-in-Ok-clause-passes
returns-in-Ok-clause-passes g c =
    let s = c.self.inside in
    let few : length (bytes_of c.in_ok-req.req) ≤ 1048576 =
    omega (arith, length-take c.in_ok-req.req.len c.in_ok-req.req.store, c.in_ok-req.ensures.buffers.len) in
    subst (λ (s : LoadsSoFar). Passes g.R.Recorder.log s.endpoint
    c.ask.new.self c.args.rec.now c.ask.new.rec s.ledger.plan s.session s.asked
    (c.self.inside.asked + 1)) c.self.view_is
    (asks-pass g.R.Recorder.log _ _ _ _ c.in-Ok.ensures.leaves s.ledger.plan
    s.session s.asked _ _ _ c.in-Ok.ensures.asks few
    (subst (λ (s : LoadsSoFar). state_in s ≡ Connected) (sym c.self.view_is) c.requires.connected)
    (ap (λ i. i.ledger.plan.req_type) c.self-inside.view_is)
    (c.in_ok-req.ensures.buffers.asks ∙ ap (asked_bytes s.ledger.plan)
    (c.from-tag.ensures ∙ ap (λ i. i.asked) c.self-inside.view_is))
    c.in_ok-req.ensures.buffers.room)

pub returns-in-Ok-clause-goes_on : goal.returns-in-Ok-clause-goes_on
returns-in-Ok-clause-goes_on g c = (returns-in-Ok-clause-passes g c).goes

pub returns-in-Err-clause-wanting : goal.returns-in-Err-clause-wanting
returns-in-Err-clause-wanting g c =
    let s = c.self.inside in
    let why = wants-memory c.in_ok-req.req.len s.endpoint.timed.lists.asked _ _ _ _ c.in-Err.ensures.asked
    c.in_ok-req.ensures.buffers.len
    (subst (λ (s : LoadsSoFar). state_in s ≡ Connected) (sym c.self.view_is) c.requires.connected)
    in (
      ap (λ (e : End). record {
        endpoint = e;
        rest = s.rest;
        session = s.session;
        ledger = s.ledger;
        asked = s.asked;
        turns = s.turns;
        made = s.made;
      }) c.in-Err.ensures.unchanged ∙ c.self.view_is,
      c.in-Err.ensures.wanting why,
    )

pub returns-in-Err-clause-cause : goal.returns-in-Err-clause-cause
returns-in-Err-clause-cause g c =
    let s = c.self.inside in
    let why = wants-memory c.in_ok-req.req.len s.endpoint.timed.lists.asked _ _ _ _ c.in-Err.ensures.asked
    c.in_ok-req.ensures.buffers.len
    (subst (λ (s : LoadsSoFar). state_in s ≡ Connected) (sym c.self.view_is) c.requires.connected)
    in
    subst (λ (m : ℕ). HasRisen m c.ask.new.memory) c.in_ok-req.ensures.cause
    (lacked _ _ _ why c.in-Err.ensures.cause)

pub returns-in-Err-clause-goes_on : goal.returns-in-Err-clause-goes_on
returns-in-Err-clause-goes_on g c =
    let same = returns-in-Err-clause-wanting g c in
    (passes-none g.R.Recorder.log _ _ _ _ c.self.inside.ledger.plan 0 0
    (ap (λ (s : LoadsSoFar). s.endpoint) same.0) same.1).goes

pub returns-in_err-req-clause-goes_on : goal.returns-in_err-req-clause-goes_on
returns-in_err-req-clause-goes_on g c =
    (passes-none g.R.Recorder.log _ _ _ _ c.self.inside.ledger.plan 0 0
    (ap (λ (s : LoadsSoFar). s.endpoint) c.self.view_is) refl).goes

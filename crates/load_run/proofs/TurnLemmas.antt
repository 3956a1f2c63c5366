-- Turns of a run, each prepared and then made.
use Rattle.std.proofs.Common.{◌≡◌, ◌≢◌, ℕ, ◌+◌, ◌≤◌, Option}
use Rattle.std.proofs.Common.{[], ◌∷◌, ◌++◌, map, refl, sym, ap, subst, ◌∙◌, arith}
use Rattle.std.proofs.Common.{append-nil}
use Rattle.std.proofs.Common.{add-zero}
use Rattle.std.specs.Prelude.{option_map, Result, Ok, Err, OnOk, OnErr}
use Rattle.rpc_outside.specs.Recording.{Log}
use Rattle.client_core.specs.Shown.{done_fact}
use Rattle.node_steps.specs.Changes.{Change}
use Rattle.node_steps.specs.Notes.{asked_in, is_asked, sent_of}
use Rattle.endpoint_loop.specs.PlainMembers.{plain_members}
use Rattle.endpoint_loop.specs.declared.endpoint.poll.Turn.{Turn}
use Rattle.node_steps.proofs.NoteSteps.{sent-append, took-none}
use Rattle.node_steps.proofs.NoteCounts.{many-append}
use Rattle.load_run.specs.declared.ledger.Ledger.{Ledger}
use Rattle.load_run.specs.Loading.{HasLoaded, HasLoadedOnce, Keeps, LoadsOn, LoadsSoFar, Passes}
use Rattle.load_run.specs.Loading.{Prepares, PreparesIn, end_at, rested_by}
use Rattle.load_run.specs.Loading.{UnlessFailed, UnlessNoMemory}
use Rattle.load_run.specs.Tallies.{Counts}
use Rattle.load_run.proofs.OrderLemmas.{order-none, order-then}
use Rattle.load_run.proofs.TallyLemmas.{counts-none, counts-noted, counts-silent, counts-then}
use Rattle.rpc_turns.proofs.RunLemmas.{goes-none, goes-then, runs-then}
use Rattle.rpc_turns.specs.Moments.{Edges, Moment, Outside}
use Rattle.rpc_turns.specs.Plain.{End, crew_members}
use Rattle.rpc_turns.specs.Queue.{KeepsAll}
use Rattle.rpc_turns.specs.Turns.{TakesTurn, TellsTurn}
use Rattle.rpc_turns.specs.declared.ended.Ended.{Ended}
use Rattle.rpc_turns.specs.declared.rest.Rest.{Rest}
use Rattle.rpc_base.specs.declared.state.SessionState.{SessionState}
use Rattle.rpc_base.specs.declared.state.SessionState.TheVariants.{Connected}
use Rattle.rpc_outside.specs.Ticking.{Gives}
use Rattle.run_status.specs.declared.going.Going.{Going}
use Rattle.run_status.specs.declared.going.Going.TheVariants.{On, Over}
use Rattle.run_status.specs.declared.status.Status.TheVariants.{LinkFault, NoMemory}

-- nothing is prepared where the session isn't Connected
pub idles : {R : Type 0} (log : R → Log) (old new : LoadsSoFar)
    (before now : R) (state : SessionState) → state ≢ Connected → new ≡ old → now ≡ before
    → PreparesIn state log old new before now
idles log old new before now Connected other same still = absurd (other refl)
idles log old new before now _ other same still = (same, still)

module _ {L C R : Type 0} (o : Outside L C R) where
  abbrev At : Type 0
  At = Moment LoadsSoFar L C R

  -- the moment when a turn is prepared, and its recorder is this one
  abbrev prepared : (old : At) → (ready : LoadsSoFar) → (mid : R) → At
  prepared old ready mid = record { run = ready; edges = record old.edges { rec = mid } }

  -- one turn: it is prepared, and the endpoint makes one
  pub loads-one : (old new : At) (ready : LoadsSoFar) (mid : R) (none ended : Ended) (now : ℕ)
      → Passes o.log old.run.endpoint ready.endpoint old.edges.rec mid old.run.ledger.plan
      old.run.session old.run.asked ready.asked
      → TellsTurn plain_members crew_members o KeepsAll (end_at (prepared old ready mid))
      (end_at new) none ended
      → Gives o.gave old.edges.clock new.edges.clock now → KeepsAll none [] → ended.memory ≡ 0
      → Counts (map (done_fact 0) ended.dones.items) ready.ledger new.run.ledger
      → Keeps old.run ready
      → new.run.asked ≡ ready.asked → new.run.session ≡ ready.session
      → new.run.turns ≡ ready.turns → new.run.made ≡ ready.made + 1
      → LoadsOn o old new 1
  unfolding goes-then
  loads-one old new ready mid none ended now passes turn tick empty kept counts keeps asked session
      turns made = record {
        runs = record {
          goes = goes-then o.log old.run.endpoint ready.endpoint new.run.endpoint old.edges.rec mid
              new.edges.rec passes.goes turn.goes;
          sends = λ limits past s.
              (turn.told limits (past ++ passes.goes.noted)
              (passes.goes.goes_on limits past s)).sends
              ∙ ap (λ x. option_map (λ ds. ds ++ x) (o.net.sent old.edges.link))
              (sym (sent-append passes.goes.noted turn.goes.noted
              ∙ ap (λ x. x ++ sent_of turn.goes.noted) passes.sends));
          times = now ∷ [];
          count = refl;
          ticks = tick;
        };
        asks = λ limits past s.
            let told = turn.told limits (past ++ passes.goes.noted)
            (passes.goes.goes_on limits past s) in
            let none = told.asks in
            let some = passes.asks in
            omega (arith, asked, some, none, many-append is_asked passes.goes.noted turn.goes.noted);
        order = λ limits past s e.
            let told = turn.told limits (past ++ passes.goes.noted)
            (passes.goes.goes_on limits past s) in
            order-then old.run.ledger.plan old.run.session old.run.asked ready.asked
            passes.goes.noted turn.goes.noted passes.asks (passes.order limits past s e)
            (order-none old.run.ledger.plan old.run.session ready.asked turn.goes.noted told.asks);
        counts = λ limits past s.
            let told = turn.told limits (past ++ passes.goes.noted)
            (passes.goes.goes_on limits past s) in
            counts-then passes.goes.noted turn.goes.noted old.run.ledger old.run.ledger
            new.run.ledger (counts-silent passes.goes.noted old.run.ledger passes.ends)
            (subst (λ (l : Ledger). Counts turn.goes.noted l new.run.ledger)
            keeps.ledger (counts-noted 0 ended.dones.items turn.goes.noted ready.ledger
            new.run.ledger
            (told.ends ∙ ap (map (done_fact 0)) (sym (told.gave [] empty kept))) counts));
        session = session ∙ keeps.session;
        turns = turns ∙ keeps.turns;
        made = made ∙ ap (λ n. n + 1) keeps.made;
      }

  pub loads-none : (a : At) → LoadsOn o a a 0
  unfolding goes-none
  loads-none a = record {
    runs = record {
      goes = goes-none o.log a.run.endpoint a.edges.rec;
      sends = λ limits past s. took-none (o.net.sent a.edges.link);
      times = [];
      count = refl;
      ticks = λ before h. subst (o.gave a.edges.clock) (sym (append-nil before)) h;
    };
    asks = λ limits past s. sym (add-zero a.run.asked);
    order = λ limits past s e. order-none a.run.ledger.plan a.run.session a.run.asked [] refl;
    counts = λ limits past s. counts-none a.run.ledger;
    session = refl;
    turns = refl;
    made = sym (add-zero a.run.made);
  }

  pub loads-then : (a b c : At) (n m : ℕ) → LoadsOn o a b n → LoadsOn o b c m
      → LoadsOn o a c (n + m)
  unfolding runs-then goes-then
  loads-then a b c n m p q = record {
    runs = runs-then o (end_at a) (end_at b) (end_at c) n m p.runs q.runs;
    asks = λ limits past s.
        let one = p.asks limits past s in
        let two = q.asks limits (past ++ p.runs.goes.noted) (p.runs.goes.goes_on limits past s) in
        omega (arith, one, two, many-append is_asked p.runs.goes.noted q.runs.goes.noted);
    order = λ limits past s e.
        let one = p.asks limits past s in
        let plan = (p.counts limits past s).plan in
        let count : b.run.asked ≡ asked_in (past ++ p.runs.goes.noted) =
        omega (arith, one, e, many-append is_asked past p.runs.goes.noted) in
        order-then a.run.ledger.plan a.run.session a.run.asked b.run.asked p.runs.goes.noted
        q.runs.goes.noted one (p.order limits past s e)
        (rw (plan, p.session) at q.order limits (past ++ p.runs.goes.noted)
        (p.runs.goes.goes_on limits past s) count);
    counts = λ limits past s.
        counts-then p.runs.goes.noted q.runs.goes.noted a.run.ledger b.run.ledger c.run.ledger
        (p.counts limits past s)
        (q.counts limits (past ++ p.runs.goes.noted) (p.runs.goes.goes_on limits past s));
    session = q.session ∙ p.session;
    turns = q.turns ∙ p.turns;
    made = let one = p.made in let two = q.made in omega arith;
  }

-- a count is either made or for want of memory
pub counted-or : {T E : Type 0} (r : Result T E) (P : Type 0) (lost : ℕ) → OnOk r P
    → OnErr r (lost ≢ 0) → lost ≡ 0 → P
counted-or (Ok x) P lost made some none = made
counted-or (Err e) P lost made some none = absurd (some none)

-- and what is known of it, by the run that was prepared
module _ {L C R : Type 0} (o : Outside L C R) (old : Moment LoadsSoFar L C R)
    (ready shown : LoadsSoFar) (mid : R) (edges : Edges L C R) (next : End) (rest : Rest)
    (counted : Ledger) (none ended : Ended)
    (same : shown ≡ ready) (keeps : Keeps old.run ready) (empty : KeepsAll none []) where
  abbrev after : LoadsSoFar → Moment LoadsSoFar L C R
  after s = record {
    run = record s { endpoint = next; rest = rest; ledger = counted; made = s.made + 1 };
    edges = edges;
  }

  abbrev then_edges : Edges L C R
  then_edges = record old.edges { rec = mid }

  pub has-loaded : (told : Option Turn) (memory within : Change ℕ) → memory.old ≤ within.old
      → within.new ≤ memory.new → Prepares o.log old.run ready old.edges.rec mid
      → TakesTurn plain_members crew_members o KeepsAll told
      (rested_by shown.endpoint shown.rest then_edges) (rested_by next rest edges) none ended
      within → (ended.memory ≡ 0 → Counts (map (done_fact 0) ended.dones.items) shown.ledger counted)
      → HasLoaded o old (after shown) memory
  has-loaded told memory within begins ends prepares takes counts = record {
    ready = ready;
    mid = mid;
    prepares = prepares;
    keeps = keeps;
    told = told;
    none = none;
    none_over = empty;
    ended = ended;
    within = within;
    begins = begins;
    ends = ends;
    takes = subst (λ (s : LoadsSoFar). TakesTurn plain_members crew_members o KeepsAll told
        (rested_by s.endpoint s.rest then_edges) (rested_by next rest edges) none ended within)
        same takes;
    counts = λ kept.
        subst (λ (s : LoadsSoFar). Counts (map (done_fact 0) ended.dones.items) s.ledger counted)
        same (counts kept);
    then_is = ap (λ (s : LoadsSoFar). (after s).run) same;
  }

  pub loads-turn : (now : ℕ)
      → Passes o.log old.run.endpoint ready.endpoint old.edges.rec mid old.run.ledger.plan
      old.run.session old.run.asked ready.asked
      → TellsTurn plain_members crew_members o KeepsAll
      (record { run = shown.endpoint; edges = then_edges }) (record { run = next; edges = edges })
      none ended
      → Gives o.gave old.edges.clock edges.clock now → ended.memory ≡ 0
      → Counts (map (done_fact 0) ended.dones.items) shown.ledger counted
      → LoadsOn o old (after shown) 1
  loads-turn now passes turn tick kept counts =
      subst (λ (s : LoadsSoFar). LoadsOn o old (after s) 1) (sym same)
      (loads-one o old (after ready) ready mid none ended now passes
      (subst (λ (s : LoadsSoFar). TellsTurn plain_members crew_members o KeepsAll
      (record { run = s.endpoint; edges = then_edges }) (record { run = next; edges = edges })
      none ended) same turn) tick empty kept
      (subst (λ (s : LoadsSoFar). Counts (map (done_fact 0) ended.dones.items) s.ledger counted)
      same counts) keeps refl refl refl refl)

-- what holds holds unless something is wanting or failed
pub unless-wanting : (going : Going) (P : Type 0) → P → UnlessNoMemory going P
unless-wanting (Over NoMemory) P p = tt
unless-wanting (Over _) P p = p
unless-wanting On P p = p

-- a turn was made while memory was refused however often
pub unless-once : {L C R : Type 0} (o : Outside L C R) (old new : Moment LoadsSoFar L C R)
    (memory : Change ℕ) (going : Going) → UnlessNoMemory going (HasLoaded o old new memory)
    → UnlessNoMemory going (HasLoadedOnce o old new)
unless-once o old new memory (Over NoMemory) one = tt
unless-once o old new memory (Over _) one = (memory, one)
unless-once o old new memory On one = (memory, one)

pub unless-failed : (going : Going) (P : Type 0) → P → UnlessFailed going P
unless-failed (Over NoMemory) P p = tt
unless-failed (Over LinkFault) P p = tt
unless-failed (Over _) P p = p
unless-failed On P p = p

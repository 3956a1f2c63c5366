-- Turns of a server that relays, one after another.
use Rattle.std.proofs.Common.{◌≡◌, ◌≢◌, inl, inr, ℕ, suc, ◌+◌, ◌<◌, ◌≤◌, Bool, true, false}
use Rattle.std.proofs.Common.{List, [], ◌++◌, refl, sym, ap, subst}
use Rattle.std.proofs.Common.{◌∙◌, append-nil, arith}
use Rattle.std.specs.Prelude.{◌==◌, option_map, IfErr, IfOk, Some, None, Result, Ok, Err}
use Rattle.std.specs.Prelude.{MatchResult}
use Rattle.std.proofs.lemmas.Bool.{eqb-false, eqb-true}
use Rattle.command_line.specs.Words.{ServeWords}
use Rattle.endpoint_loop.specs.PlainMembers.{plain_members}
use Rattle.endpoint_loop.specs.Polls.{turn_of}
use Rattle.endpoint_loop.specs.declared.endpoint.poll.Turn.{Turn}
use Rattle.node_steps.proofs.NoteSteps.{sent-append, took-none}
use Rattle.node_steps.specs.Notes.{sent_of}
use Rattle.relay_run.specs.Runs.{Answers, HasRelayed, HasRelayedAll, HasRelayedSome, HasTurnedSome}
use Rattle.relay_run.specs.Runs.{Relays, RelaysOn, RelaysSoFar, StartsRelaying, TurnsEnd}
use Rattle.relay_run.specs.Runs.{TurnsOn, UnlessNoMemory, end_at, going_after, line_of, one_more}
use Rattle.relay_run.specs.Runs.{plain_desk, relayer_at, relays_line}
use Rattle.relay_turns.specs.Deferred.{KeepsDeferred, TurnsKeep, TurnsRun, new_book}
use Rattle.relay_turns.specs.Deferred.{no_turn, one_more as turns_more}
use Rattle.memory_count.proofs.Risen.{none-risen-by}
use Rattle.memory_count.specs.Faults.{HasRisen, HasRisenBy}
use Rattle.rpc_outside.specs.PlainAnswer.{background_answer}
use Rattle.rpc_outside.specs.Writing.{Written}
use Rattle.rpc_turns.proofs.RunLemmas.{goes-none, goes-then, runs-then}
use Rattle.relay_turns.specs.Turning.{RelaysTurn, UnlessWanting, lacks_for}
use Rattle.relay_turns.specs.declared.turn.TurnFault.{TurnFault}
use Rattle.relay_turns.specs.declared.turn.TurnFault.TheVariants.{LinkFault, NoMemory}
use Rattle.rpc_base.specs.declared.fact.Fact.{Fact}
use Rattle.rpc_base.specs.declared.limits.Limits.{Limits}
use Rattle.rpc_turns.specs.Moments.{Edges, Moment, Outside, where_at}
use Rattle.rpc_turns.specs.Plain.{limits_at}
use Rattle.rpc_turns.specs.Turns.{RunsOn}
use Rattle.run_status.specs.Words.{lacks_told}
use Rattle.run_status.specs.declared.going.Going.{Going}
use Rattle.run_status.specs.declared.going.Going.TheVariants.{On, Over}
use Rattle.run_status.specs.declared.status.Status.{Status}
use Rattle.run_status.specs.declared.status.Status.TheVariants as statuses
use Rattle.serve_run.specs.Serving.{Writes}
use Rattle.server_core.proofs.FlushLemmas.{grew-then}

-- a claim of a turn that had the memory that it wanted
pub unless-wanting : (going : Going) (P : Type 0) → going ≢ Over statuses.NoMemory
    → UnlessNoMemory going P → P
unless-wanting (Over statuses.NoMemory) P not p = absurd (not refl)
unless-wanting (Over _) P not p = p
unless-wanting On P not p = p

-- a claim of a turn, by what it answered
pub unless-after : (told : Result Turn TurnFault) (all_made : Bool) (going : Going) (P : Type 0)
    → going ≡ going_after told all_made → UnlessWanting told P → UnlessNoMemory going P
unless-after (Err NoMemory) all_made going P same claim = rw same tt
unless-after (Err LinkFault) all_made going P same claim = rw same claim
unless-after (Ok turn) true going P same claim = rw same claim
unless-after (Ok turn) false going P same claim = rw same claim

-- one turn, counted
pub has-relayed : {L C R : Type 0} (o : Outside L C R) (told : Result Turn TurnFault)
    (old new : Moment RelaysSoFar L C R)
    → new.run ≡ one_more new.run.endpoint new.run.rest new.run.relays old.run
    → UnlessWanting told (RelaysTurn plain_members background_answer o (turn_of told)
    (relayer_at old) (relayer_at new)) → UnlessWanting told (HasRelayed o old new)
has-relayed o (Err NoMemory) old new counted claim = tt
has-relayed o (Err LinkFault) old new counted claim =
    record { told = None; turn = claim; counted = counted }
has-relayed o (Ok turn) old new counted claim =
    record { told = Some turn; turn = claim; counted = counted }

-- what it answers
pub answers-after : (told : Result Turn TurnFault) (before now : ℕ) (s : RelaysSoFar)
    (going : Going) → going ≡ going_after told (s.made == s.turns)
    → IfOk told (λ turn. now ≡ before)
    → IfErr told (λ why. why ≡ LinkFault → HasRisen before now) → Answers before now s going
answers-after (Err NoMemory) before now s going same quiet fault = inl same
answers-after (Err LinkFault) before now s going same quiet fault = inr (inl (same, fault refl))
answers-after (Ok turn) before now s going same quiet fault = inr (inr (same, quiet))

-- where it goes on, turns are left
pub left-after : (told : Result Turn TurnFault) (made turns : ℕ) (going : Going)
    → going ≡ going_after told (made == turns) → made ≤ turns → going ≡ On → made < turns
left-after (Err NoMemory) made turns going same most on = cc
left-after (Err LinkFault) made turns going same most on = cc
left-after (Ok turn) made turns going same most on = by (made == turns) refl
  where
    by : (t : Bool) → (made == turns) ≡ t → made < turns
    by true e = let over : going ≡ Over statuses.Done = rw e at same in cc
    by false e = let other = eqb-false made turns e in omega (arith, most, other)

-- want of memory has its cause
pub cause-after : (told : Result Turn TurnFault) (all_made : Bool) (going : Going) (old new : ℕ)
    → going ≡ going_after told all_made
    → MatchResult told (λ _. old ≤ new) (λ why. HasRisenBy (lacks_for why) old new)
    → HasRisenBy (lacks_told going) old new
cause-after (Err NoMemory) all_made going old new same risen = rw same risen
cause-after (Err LinkFault) all_made going old new same risen = rw same risen
cause-after (Ok turn) true going old new same no_less = rw same (none-risen-by old new no_less)
cause-after (Ok turn) false going old new same no_less = rw same (none-risen-by old new no_less)

module _ {L C R : Type 0} (o : Outside L C R) where
  abbrev At : Type 0
  At = Moment RelaysSoFar L C R

  abbrev Goes : ℕ → (a b : At) → Type 0
  Goes n a b = RunsOn plain_members plain_desk o (end_at a) (end_at b) n

  abbrev faults : At → ℕ
  faults a = o.net.faults a.edges.link

  pub relays-none : (a : At) → RelaysOn o a a
  unfolding goes-none
  relays-none a = record {
    many = 0;
    made = omega arith;
    turns = refl;
    runs = record {
      goes = goes-none o.log a.run.endpoint a.edges.rec;
      sends = λ limits past s. took-none (o.net.sent a.edges.link);
      times = [];
      count = refl;
      ticks = λ before h. subst (o.gave a.edges.clock) (sym (append-nil before)) h;
    };
    each = no_turn;
  }

  -- one turn more
  relays-more : (a b c : At) → RelaysOn o a b → HasRelayed o b c → RelaysOn o a c
  unfolding runs-then goes-then
  relays-more a b c on one =
      let next : suc on.many ≡ on.many + 1 = omega arith in
      let runs = runs-then o (end_at a) (end_at b) (end_at c) on.many 1 on.runs one.turn.runs in
      let count = ap (λ (s : RelaysSoFar). s.made) one.counted in
      record {
        many = on.many + 1;
        made = omega (arith, on.made, count);
        turns = ap (λ (s : RelaysSoFar). s.turns) one.counted ∙ on.turns;
        runs = runs;
        each = subst (λ n. TurnsRun plain_members background_answer o (relayer_at a) n
            (on.runs.goes.noted ++ one.turn.runs.goes.noted) (relayer_at c)) next
            (turns_more on.each one.told (relayer_at c) one.turn);
      }

  -- one turn more, that may have lacked memory
  turns-more-one : (a b c : At) → RelaysOn o a b → Goes 1 b c
      → c.run.made ≡ b.run.made + 1 → c.run.turns ≡ b.run.turns → TurnsOn o a c
  turns-more-one a b c on goes made turns = record {
    many = on.many + 1;
    made = let before = on.made in omega (arith, before, made);
    turns = turns ∙ on.turns;
    runs = runs-then o (end_at a) (end_at b) (end_at c) on.many 1 on.runs goes;
  }

  module _ (a b c : At) (on : RelaysOn o a b)
      (still : faults b ≡ faults a) (left : b.run.made < b.run.turns)
      (counted : c.run ≡ one_more c.run.endpoint c.run.rest c.run.relays b.run) where
    made : c.run.made ≡ b.run.made + 1
    made = ap (λ (s : RelaysSoFar). s.made) counted

    turns : c.run.turns ≡ b.run.turns
    turns = ap (λ (s : RelaysSoFar). s.turns) counted

    -- the run is over for want of memory
    over-wanting : Goes 1 b c → TurnsEnd statuses.NoMemory o a c
    over-wanting goes = (omega (arith, left, made, turns), turns-more-one a b c on goes made turns)

    -- it is over
    pub turns-over : (status : Status) → UnlessNoMemory (Over status) (HasRelayed o b c)
        → Goes 1 b c → Answers (faults b) (faults c) c.run (Over status)
        → TurnsEnd status o a c
    turns-over status relays goes (inl wanting) =
        let none : status ≡ statuses.NoMemory = cc in rw none (over-wanting goes)
    turns-over status relays goes (inr (inl (same, risen))) =
        let failed : status ≡ statuses.LinkFault = cc in
        let one = unless-wanting (Over status) (HasRelayed o b c) (λ e. cc) relays in
        rw failed (
          omega (arith, left, made, turns),
          subst (λ n. HasRisen n (faults c)) still risen,
          relays-more a b c on one,
        )
    turns-over status relays goes (inr (inr (same, quiet))) = by (c.run.made == c.run.turns) refl
      where
        by : (t : Bool) → (c.run.made == c.run.turns) ≡ t → TurnsEnd status o a c
        by true e =
            let told : Over status ≡ Over statuses.Done = rw e at same in
            let done : status ≡ statuses.Done = cc in
            let one = unless-wanting (Over status) (HasRelayed o b c) (λ f. cc) relays in
            rw done (
              eqb-true c.run.made c.run.turns e,
              quiet ∙ still,
              relays-more a b c on one,
            )
        by false e = let told : Over status ≡ On = rw e at same in cc

    -- it goes on: turns are left, and the link didn't fail
    pub turns-on : (going : Going) → ((status : Status) → going ≡ Over status → ⊥)
        → UnlessNoMemory going (HasRelayed o b c)
        → Answers (faults b) (faults c) c.run going
        → RelaysOn o a c × (faults c ≡ faults a) × (c.run.made < c.run.turns)
    turns-on going not relays (inl wanting) = absurd (not statuses.NoMemory wanting)
    turns-on going not relays (inr (inl (same, risen))) = absurd (not statuses.LinkFault same)
    turns-on going not relays (inr (inr (same, quiet))) = by (c.run.made == c.run.turns) refl
      where
        by : (t : Bool) → (c.run.made == c.run.turns) ≡ t
            → RelaysOn o a c × (faults c ≡ faults a) × (c.run.made < c.run.turns)
        by true e = absurd (not statuses.Done (rw e at same))
        by false e =
            let other = eqb-false c.run.made c.run.turns e in
            let one = unless-wanting going (HasRelayed o b c) (not statuses.NoMemory) relays in (
              relays-more a b c on one,
              quiet ∙ still,
              omega (arith, left, made, turns, other),
            )

module _ {L C R : Type 0} (o : Outside L C R) (words : ServeWords) (other : List ℕ)
    (old : Edges L C R) (via : L) (mid : R) (fresh : RelaysSoFar) (last : Moment RelaysSoFar L C R)
    (starts : StartsRelaying o.log o.net words other old.link via old.rec mid fresh)
    (law : TurnsKeep plain_members background_answer o) where
  abbrev first : Moment RelaysSoFar L C R
  first = where_at fresh via old.clock mid

  abbrev new : RelaysSoFar
  new = last.run

  abbrev then_faults : ℕ
  then_faults = o.net.faults last.edges.link

  abbrev limits : Limits
  limits = limits_at words.timeout

  -- turns were made
  unfoldable turned-some : (many : ℕ) → new.made ≡ fresh.made + many
      → RunsOn plain_members plain_desk o (end_at first) (end_at last) many
      → HasTurnedSome o words other new.made old last
  turned-some many made runs =
      let none = starts.made in
      let all : many ≡ new.made = omega (arith, made, none) in
      record {
        ready = via;
        mid = mid;
        start = fresh;
        starts = starts;
        turned = record {
          noted = starts.noted ++ runs.goes.noted;
          grew = grew-then o.log old.rec mid last.edges.rec starts.noted runs.goes.noted starts.grew
              runs.goes.grew;
          in_life = runs.goes.lives limits starts.noted starts.works.stands ∙ starts.life;
          stands = runs.goes.goes_on limits starts.noted starts.works.stands;
          sends = runs.sends limits starts.noted starts.works.stands
              ∙ ap (option_map (λ ds. ds ++ sent_of runs.goes.noted)) starts.traffic.sent
              ∙ ap (λ x. option_map (λ ds. ds ++ x) (o.net.sent old.link)) (sym silent);
          times = runs.times;
          count = runs.count ∙ all;
          ticks = runs.ticks;
        };
        facts = runs.goes.noted;
        opens = ap (λ (x : List Fact). x ++ runs.goes.noted) starts.opens;
      }
    where
      silent : sent_of (starts.noted ++ runs.goes.noted) ≡ sent_of runs.goes.noted
      silent = sent-append starts.noted runs.goes.noted
          ∙ ap (λ (x : List Fact). sent_of x ++ sent_of runs.goes.noted) starts.opens

  -- and none of them lacked memory
  relayed-some : RelaysOn o first last → HasRelayedSome o words other new.made old last
  unfolding turned-some
  relayed-some on =
      let kept = law limits starts.noted on.runs.goes.noted on.many (relayer_at first)
      (relayer_at last) new_book starts.works starts.book on.each in
      let none = starts.made in
      let made = on.made in
      let all : on.many ≡ new.made = omega (arith, made, none) in
      record {
        some = turned-some on.many on.made on.runs;
        each = subst (λ n. TurnsRun plain_members background_answer o (relayer_at first) n
            on.runs.goes.noted (relayer_at last)) all on.each;
        book = kept.0;
        is_book = kept.1;
        keeps = subst (λ n. KeepsDeferred plain_members background_answer n limits starts.noted
            on.runs.goes.noted new_book kept.0) starts.life kept.3;
      }

  -- all were made
  relayed-all : new.made ≡ new.turns → then_faults ≡ o.net.faults via → RelaysOn o first last
      → HasRelayedAll o words other old last.edges (line_of new)
  relayed-all all still on = record {
    run = new;
    relayed = subst (λ n. HasRelayedSome o words other n old last)
        (all ∙ on.turns ∙ starts.turns) (relayed-some on);
    quiet = still ∙ starts.faults;
    counts = ap (λ n. relays_line n new.endpoint.timed.lists.counts new.relays.relayed
        new.relays.here) (on.turns ∙ starts.turns);
  }

  -- the turns ended otherwise, and nothing was written
  pub stops : (told : Status) (page : Written) → told ≢ statuses.Done
      → TurnsEnd told o first last → Relays told o words other old last.edges page page
  stops statuses.Done page not ends = absurd (not refl)
  stops statuses.LinkFault page not ends =
      let turns = ends.2.turns in
      let words_turns = starts.turns in
      let most = ends.0 in (
        subst (λ n. HasRisen n then_faults) starts.faults ends.1,
        inr (new.made, new, omega (arith, most, turns, words_turns), relayed-some ends.2),
        refl,
      )
  stops statuses.NoMemory page not ends =
      let turns = ends.1.turns in
      let words_turns = starts.turns in
      let most = ends.0 in (
        inr (
          new.made,
          new,
          omega (arith, most, turns, words_turns),
          turned-some ends.1.many ends.1.made ends.1.runs,
        ),
        refl,
      )
  stops _ page not ends = absurd ends

  -- the line was written, or a front of it
  pub ends-well : (told : Status) (page then_page : Written) → new.made ≡ new.turns
      → then_faults ≡ o.net.faults via → RelaysOn o first last
      → Writes told (line_of new) page then_page
      → Relays told o words other old last.edges page then_page
  ends-well statuses.Done page then_page all still on wrote =
      (line_of new, relayed-all all still on, wrote)
  ends-well statuses.WriteFault page then_page all still on wrote =
      (line_of new, relayed-all all still on, wrote)
  ends-well _ page then_page all still on wrote = absurd wrote

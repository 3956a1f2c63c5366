-- A turn of a run that relays, of its parts.
use Rattle.std.proofs.Common.{drop, None, ◌≡◌, inl, inr, ℕ, true, Option, Some, List, [], ◌∷◌, ◌++◌}
use Rattle.std.proofs.Common.{map, refl, sym, ap, subst, ◌∙◌, append_assoc, append-nil}
use Rattle.std.specs.Prelude.{Err, IfNone, Ok, OnOk, option_map, option_to_list, Result}
use Rattle.std.specs.List.{filter}
use Rattle.std.proofs.lemmas.List.{append_cancel_left, map-append}
use Rattle.client_core.specs.Shown.{done_fact}
use Rattle.client_core.specs.declared.outcome.Done.{Done}
use Rattle.deferred_calls.proofs.DeskLemmas.{none_of}
use Rattle.deferred_calls.specs.Desks.{HasNumbers, hands_of, Jobs, parcel_of}
use Rattle.deferred_calls.specs.declared.job.Numbered.{Numbered}
use Rattle.desk_laws.specs.Staying.{desk_members, with_desk}
use Rattle.endpoint_loop.specs.Endpoints.{Running}
use Rattle.endpoint_loop.specs.declared.endpoint.poll.Turn.{Turn}
use Rattle.node_steps.proofs.NoteSteps.{sent-append}
use Rattle.node_steps.specs.Changes.{Change}
use Rattle.node_steps.specs.Handed.{GivesBackTo, HandBack}
use Rattle.node_steps.specs.Notes.{is_end, sent_of}
use Rattle.relay_steps.proofs.PassLemmas.{after-none, after-settles, after-then}
use Rattle.relay_steps.specs.Passing.{GoesPast, Passes, PassesAll, relayed, StandsAfter}
use Rattle.relay_turns.proofs.GaveLemmas.{given-of, goes-of, out-of, polls, took}
use Rattle.relay_turns.specs.Turning.{at_work, endpoint_at, Relayer, Relays, RelaysTurn, rested_at}
use Rattle.relay_turns.specs.Turning.{RelaysAll, SettlesAll}
use Rattle.relay_turns.specs.Working.{IsAtWork, WorksOn}
use Rattle.relays.proofs.RelayLemmas.{turned-stands}
use Rattle.relays.specs.Relaying.{GoesOn, Relaying, Settles, Stands as StandsWith}
use Rattle.rpc_base.specs.declared.fact.Fact.{Fact}
use Rattle.rpc_base.specs.declared.limits.Limits.{Limits}
use Rattle.rpc_outside.specs.Linking.{Carried}
use Rattle.rpc_outside.specs.Recording.{Grew, Log}
use Rattle.rpc_outside.specs.Ticking.{Gives}
use Rattle.rpc_outside.specs.declared.service.Service as Service
use Rattle.rpc_turns.proofs.TurnLemmas.{turn-tells}
use Rattle.rpc_turns.specs.Moments.{Moment, Outside, rested, where_at}
use Rattle.rpc_turns.specs.Queue.{KeepsAll}
use Rattle.rpc_turns.specs.Turns.{RunsOn, Stands, TakesTurn, TellsTurn}
use Rattle.rpc_turns.specs.declared.ended.Ended.{Ended}
use Rattle.server_core.proofs.FlushLemmas.{grew-then}
use Rattle.worker_board.specs.declared.Parcel.{Parcel}

module _ {V : Type 0} (service : Service.Ghosts V) (answer : ℕ → List ℕ → List ℕ) where
  -- the ends of calls leave what an endpoint stands for
  pub after-all : (ds : List Done) (e : Running V Jobs) (last : Jobs) (old new : Relaying)
      → SettlesAll answer ds e.workers last old new
      → StandsAfter service answer [] e (with_desk e last)
  after-all [] e last old new does =
      subst (λ (w : Jobs). StandsAfter service answer [] e (with_desk e w)) (sym does.0)
      (after-none service answer e)
  after-all (d ∷ ds) e last old new does =
      after-then service answer e (with_desk e does.0) (with_desk e last) [] []
      (after-settles service answer e d does.0 old does.1 does.2)
      (after-all ds (with_desk e does.0) last does.1 new does.4)

  pub after-settled : (ds : List Done) (mid settled : Running V Jobs) (old new : Relaying)
      → settled ≡ with_desk mid settled.workers
      → SettlesAll answer ds mid.workers settled.workers old new
      → StandsAfter service answer [] mid settled
  after-settled ds mid settled old new others does =
      subst (λ (e : Running V Jobs). StandsAfter service answer [] mid e) (sym others)
      (after-all ds mid settled.workers old new does)

  -- a turn of the endpoint, and then facts by which it goes on and that send nothing
  module _ {L C R K : Type 0} (o : Outside L C R) (given : K → List Done → Type 0)
      (old : Moment (Running V Jobs) L C R) (mid new : Running V Jobs) (link : L) (clock : C)
      (f g : R) (from to : K) (now : ℕ) (x : List Fact)
      (tells : TellsTurn service (desk_members answer) o given old (where_at mid link clock f)
      from to)
      (ticks : Gives o.gave old.edges.clock clock now) (grew : Grew (o.log f) (o.log g) x)
      (after : StandsAfter service answer x mid new) where
    abbrev turned : List Fact
    turned = tells.goes.noted

    pub same-sent : sent_of (turned ++ x) ≡ sent_of turned
    same-sent = sent-append turned x ∙ (ap (λ (l : List Carried). sent_of turned ++ l) after.silent
        ∙ append-nil (sent_of turned))

    unfoldable pub runs-turn : RunsOn service (desk_members answer) o old
        (where_at new link clock g) 1
    runs-turn = record {
      goes = record {
        noted = turned ++ x;
        grew = grew-then o.log old.edges.rec f g turned x tells.goes.grew grew;
        goes_on = λ limits past s.
            let mid_stands = tells.goes.goes_on limits past s in
            subst (λ (z : List Fact). Stands service (desk_members answer) limits z new)
            (append_assoc past turned x)
            (record {
              node = after.me ∙ mid_stands.node;
              runs = after.stands limits (past ++ turned) mid_stands.runs;
            });
        lives = λ limits past s. after.life ∙ tells.goes.lives limits past s;
      };
      sends = λ limits past s.
          (tells.told limits past s).sends
          ∙ ap (λ (l : List Carried). option_map (λ ds. ds ++ l) (o.net.sent old.edges.link))
          (sym same-sent);
      times = now ∷ [];
      count = refl;
      ticks = ticks;
    }

-- what holds where a call answers well follows from what does
pub on-both : {T E : Type 0} {P Q S : Type 0} (r : Result T E) → OnOk r P → OnOk r Q
    → (P → Q → S) → OnOk r S
on-both (Ok t) p q f = f p q
on-both (Err e) p q f = tt

-- the ends of calls were settled, and then jobs are passed on
module _ {V R : Type 0} (log : R → Log) (service : Service.Ghosts V)
    (answer : ℕ → List ℕ → List ℕ) (ds : List Done) (a b : Running V Jobs) (r : Relaying)
    (settled new : Running V Jobs) (between last : Relaying) (f g : R) (same : b ≡ a)
    (others : settled ≡ with_desk b settled.workers)
    (settles : SettlesAll answer ds b.workers settled.workers r between) where
  own-others : settled ≡ with_desk a settled.workers
  own-others = subst (λ (e : Running V Jobs). settled ≡ with_desk e settled.workers) same others

  own-settles : SettlesAll answer ds a.workers settled.workers r between
  own-settles =
      subst (λ (e : Running V Jobs). SettlesAll answer ds e.workers settled.workers r between) same
      settles

  pub past-settled : GoesPast log service answer settled new f g
      → GoesPast log service answer a new f g
  past-settled past = record {
    noted = past.noted;
    grew = past.grew;
    stands = after-then service answer a settled new [] past.noted
        (after-settled service answer ds a settled r between own-others own-settles) past.stands;
  }

  pub relays-all : HasNumbers a.workers.handled
      → PassesAll log service answer (relayed settled between) (relayed new last) f g
      → StandsWith new.workers [] last
      → RelaysAll log service answer ds (relayed a r) (relayed new last) f g
  relays-all numbers passes handles = record {
    numbers = numbers;
    settled = settled;
    between = between;
    others = own-others;
    settles = own-settles;
    passes = passes;
    handles = handles;
  }

-- the ends of all calls but these were settled: where these are, all are
abbrev pub SettledSoFar : (ℕ → List ℕ → List ℕ) → (all left : List Done) → (desk now : Jobs)
    → (old new : Relaying) → Type 0
SettledSoFar answer all left desk now old new =
    (last : Jobs) (end : Relaying) → SettlesAll answer left now last new end
    → SettlesAll answer all desk last old end

pub settled-next : (answer : ℕ → List ℕ → List ℕ) (all left rest : List Done) (d : Done)
    (desk now last : Jobs) (old new end : Relaying) → left ≡ d ∷ rest
    → SettledSoFar answer all left desk now old new → Settles answer d now last new end
    → StandsWith last [] end → SettledSoFar answer all rest desk last old end
settled-next answer all left rest d desk now last old new end is so_far one stands =
    λ further later does.
    so_far further later
    (subst (λ (ds : List Done). SettlesAll answer ds now further new later) (sym is)
    (last, end, one, stands, does))

-- and none is left
pub settled-end : (answer : ℕ → List ℕ → List ℕ) (all left : List Done) (desk now : Jobs)
    (old new : Relaying) → left ≡ [] → SettledSoFar answer all left desk now old new
    → SettlesAll answer all desk now old new
settled-end answer all left desk now old new is so_far =
    so_far now new
    (subst (λ (ds : List Done). SettlesAll answer ds now now new new) (sym is) (refl, refl))

pub none-left : (r : Option Done) (old new : List Done) → r ≡ None
    → old ≡ option_to_list r ++ new → new ≡ drop 1 old → old ≡ []
none-left r old new is items rest =
    (subst (λ (o : Option Done). IfNone o ((old ≡ []) × (new ≡ []))) is
    (none_of r old new items rest)).0

pub with-twice : {V : Type 0} (a b c : Running V Jobs) → b ≡ with_desk a b.workers
    → c ≡ with_desk b c.workers → c ≡ with_desk a c.workers
with-twice a b c first second =
    second ∙ ap (λ (e : Running _ Jobs). with_desk e c.workers) first

-- the ends of calls leave the jobs that wait, and the handles of those that were asked
settles-wait : (answer : ℕ → List ℕ → List ℕ) (ds : List Done) (desk last : Jobs)
    (old new : Relaying) → SettlesAll answer ds desk last old new → last.waiting ≡ desk.waiting
settles-wait answer [] desk last old new does = ap (λ (d : Jobs). d.waiting) does.0
settles-wait answer (d ∷ ds) desk last old new does =
    settles-wait answer ds does.0 last does.1 new does.4
    ∙ one-waits answer d desk does.0 old does.1 does.2
  where
    one-waits : (answer : ℕ → List ℕ → List ℕ) (d : Done) (desk last : Jobs) (old new : Relaying)
        → Settles answer d desk last old new → last.waiting ≡ desk.waiting
    one-waits answer d desk last old new (inl ends) = ap (λ (s : Jobs). s.waiting) ends.answers.2
    one-waits answer d desk last old new (inr nobody) = ap (λ (s : Jobs). s.waiting) nobody.1

pub settles-stand : (answer : ℕ → List ℕ → List ℕ) (ds : List Done) (desk last : Jobs)
    (old new : Relaying) → SettlesAll answer ds desk last old new → StandsWith desk [] old
    → StandsWith last [] new
settles-stand answer [] desk last old new does stands =
    rw (does.0, does.1) stands
settles-stand answer (d ∷ ds) desk last old new does stands =
    settles-stand answer ds does.0 last does.1 new does.4 does.3

-- a turn that found the memory that it wanted
module _ {V L C R : Type 0} (service : Service.Ghosts V) (answer : ℕ → List ℕ → List ℕ)
    (o : Outside L C R) (told : Option Turn) (old : Moment (Relayer V) L C R)
    (mid : Running V Jobs) (mid_rec : R) (new : Moment (Relayer V) L C R) (from to : Ended)
    (memory : Change ℕ)
    (takes : TakesTurn service (desk_members answer) o KeepsAll told (rested_at old)
    (where_at (rested mid new.run.rest) new.edges.link new.edges.clock mid_rec) from to memory)
    (team : Some (hands_of mid.workers) ≡ Some (hands_of old.run.endpoint.workers))
    (works : IsAtWork service answer (at_work old.run)) where
  abbrev mid_at : Moment (Running V Jobs) L C R
  mid_at = where_at mid new.edges.link new.edges.clock mid_rec

  unfoldable tells : TellsTurn service (desk_members answer) o KeepsAll (endpoint_at old) mid_at
      from to
  tells = turn-tells service (desk_members answer) o KeepsAll told (rested_at old)
      (where_at (rested mid new.run.rest) new.edges.link new.edges.clock mid_rec) from to memory takes

  abbrev limits : Limits
  limits = works.0

  abbrev past : List Fact
  past = works.1

  abbrev w : WorksOn service answer limits past (at_work old.run)
  w = works.2

  abbrev noted : List Fact
  noted = takes.turns.takes.delivers.noted ++ takes.turns.polls.noted

  mid-stands : Stands service (desk_members answer) limits (past ++ noted) mid
  unfolding turn-tells tells
  mid-stands = tells.goes.goes_on limits past w.stands

  abbrev gave : List Parcel
  gave = (polls service answer o told (rested_at old)
      (where_at (rested mid new.run.rest) new.edges.link new.edges.clock mid_rec) from to memory takes
      limits past w.stands).gave

  turn-goes : GoesOn gave old.run.endpoint.workers mid.workers
  turn-goes = goes-of service answer o told (rested_at old)
      (where_at (rested mid new.run.rest) new.edges.link new.edges.clock mid_rec) from to memory takes
      limits past w.stands mid-stands team

  -- behind the endpoint's own turn the handles that are out are still of the jobs that were asked
  pub mid-handles : StandsWith mid.workers [] old.run.relays
  mid-handles = turned-stands gave old.run.endpoint.workers mid.workers old.run.relays turn-goes
      w.relays

  -- and the jobs that wait are those that were given
  mid-waits : map parcel_of mid.workers.waiting ≡ gave
  mid-waits =
      append_cancel_left (map parcel_of mid.workers.handled) (map parcel_of mid.workers.waiting)
      gave
      (sym (map-append parcel_of mid.workers.handled mid.workers.waiting)
      ∙ (turn-goes.left
      ∙ (ap (λ (l : List Parcel). l ++ gave)
      (ap (λ (l : List Numbered). map parcel_of (old.run.endpoint.workers.handled ++ l))
      w.none_waits
      ∙ ap (map parcel_of) (append-nil old.run.endpoint.workers.handled
      ∙ (w.relays.handled ∙ sym mid-handles.handled))))))

  module _ (none : KeepsAll from []) (whole : to.memory ≡ 0)
      (handed : GivesBackTo KeepsAll old.run.endpoint.handed mid.handed from to)
      (all : RelaysAll o.log service answer to.dones.items (relayed mid old.run.relays)
      (at_work new.run) mid_rec new.edges.rec) where
    abbrev settled : Running V Jobs
    settled = all.settled

    abbrev passes : PassesAll o.log service answer (relayed all.settled all.between)
        (at_work new.run) mid_rec new.edges.rec
    passes = all.passes

    abbrev asked : List Fact
    asked = passes.some.facts

    ends-are : filter is_end noted ≡ map (done_fact 0) to.dones.items
    unfolding turn-tells tells
    ends-are =
        let more = tells.told limits past w.stands in
        more.ends ∙ ap (map (done_fact 0)) (sym (more.gave [] none whole))

    back-are : HandBack to.dones.items old.run.endpoint.handed mid.handed
    back-are = subst (λ (ds : List Done). HandBack ds old.run.endpoint.handed mid.handed)
        (sym (handed.gave [] none whole)) handed.back

    all-wait : passes.some.jobs ≡ mid.workers.waiting
    all-wait =
        sym (append-nil passes.some.jobs)
        ∙ (ap (λ (l : List Numbered). passes.some.jobs ++ l) (sym passes.none_waits)
        ∙ (sym passes.some.waited
        ∙ settles-wait answer to.dones.items mid.workers settled.workers old.run.relays
        all.between all.settles))

    given-are : map parcel_of passes.some.jobs ≡ gave
    given-are = ap (map parcel_of) all-wait ∙ mid-waits

    relays-of : Relays answer noted asked (at_work old.run) mid (at_work new.run)
    unfolding turn-tells tells
    relays-of = record {
      dones = to.dones.items;
      ends = ends-are;
      back = back-are;
      gave = gave;
      given = given-of service answer o told (rested_at old)
          (where_at (rested mid new.run.rest) new.edges.link new.edges.clock mid_rec) from to memory takes
          limits past w.stands;
      out = out-of service answer o told (rested_at old)
          (where_at (rested mid new.run.rest) new.edges.link new.edges.clock mid_rec) from to memory takes
          limits past w.stands mid-stands;
      goes = turn-goes;
      numbers = all.numbers;
      taken = (polls service answer o told (rested_at old)
          (where_at (rested mid new.run.rest) new.edges.link new.edges.clock mid_rec) from to memory takes
          limits past w.stands).parcels;
      answered = took service answer o told (rested_at old)
          (where_at (rested mid new.run.rest) new.edges.link new.edges.clock mid_rec) from to memory takes
          limits past w.stands;
      asks = (tells.told limits past w.stands).asks;
      desk = settled.workers;
      between = all.between;
      settles = all.settles;
      jobs = passes.some.jobs;
      are_given = given-are;
      passes = subst (λ (e : Running V Jobs). Passes answer (relayed e all.between) passes.some.jobs
          asked (at_work new.run)) all.others passes.some.passes;
      handles = all.handles;
      none_waits = passes.none_waits;
    }

    after : StandsAfter service answer asked mid new.run.endpoint
    after = after-then service answer mid settled new.run.endpoint [] asked
        (after-settled service answer to.dones.items mid settled old.run.relays all.between
        all.others all.settles)
        passes.some.stands

    pub turn-relays : RelaysTurn service answer o told old new
    unfolding turn-tells tells runs-turn
    turn-relays = record {
      mid = mid;
      mid_rec = mid_rec;
      from = from;
      to = to;
      memory = memory;
      takes = takes;
      tells = tells;
      asked = asked;
      grew = passes.some.grew;
      after = after;
      relays = relays-of;
      runs = runs-turn service answer o KeepsAll (endpoint_at old) mid new.run.endpoint
          new.edges.link new.edges.clock mid_rec new.edges.rec from to takes.now asked tells
          takes.ticks passes.some.grew after;
      noted = refl;
    }

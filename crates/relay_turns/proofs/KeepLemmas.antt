-- Turns of a run that relays keep the deferred promise.
use Rattle.std.proofs.Common.{◌≡◌, ℕ, suc, ◌+◌, Bool, true, false, Option, List, [], ◌∷◌, ◌++◌}
use Rattle.std.proofs.Common.{length, map, refl, sym, ap, ap₂, subst, ◌∙◌, arith, append_assoc}
use Rattle.std.proofs.Common.{append-nil}
use Rattle.std.specs.Prelude.{if◌then◌else◌}
use Rattle.std.proofs.lemmas.List.{length-append, length-map, map-append}
use Rattle.std.proofs.lemmas.Simd.{map-map}
use Rattle.client_core.specs.Handing.{Handed}
use Rattle.client_core.specs.Shown.{done_fact}
use Rattle.deferred_calls.specs.Desks.{Jobs, out_of, parcel_of}
use Rattle.deferred_calls.specs.Law.{finished}
use Rattle.desk_laws.specs.Staying.{desk_members, with_desk}
use Rattle.endpoint_loop.specs.Endpoints.{Running, told as lists_told}
use Rattle.endpoint_loop.specs.declared.endpoint.poll.Turn.{Turn}
use Rattle.node_steps.specs.Handed.{HandBack}
use Rattle.given_laws.specs.Given.{name_of}
use Rattle.node_laws.specs.NodeRun.{LifeRun}
use Rattle.relay_steps.specs.Passing.{Relayed, relayed}
use Rattle.relay_turns.proofs.EndLemmas.{all-end, EndsAll, Holds}
use Rattle.relay_turns.proofs.PassingLemmas.{all-passed, PassedOn}
use Rattle.relay_turns.proofs.TurnLemmas.{settles-stand}
use Rattle.relay_turns.specs.Deferred.{answered_in, asked_of, Book, count_answered, EndEach}
use Rattle.relay_turns.specs.Deferred.{IsBookOf, job_over, job_passed, keeps_more, keeps_none}
use Rattle.relay_turns.specs.Deferred.{KeepsDeferred, new_book, KeepsTurn, KeepsTurns, no_turn}
use Rattle.relay_turns.specs.Deferred.{one_more, Over, Passing, by_other, by_us, count_here}
use Rattle.relay_turns.specs.Deferred.{count_relayed, refused_of, TurnsKeep, TurnsRun, TurnTold}
use Rattle.relay_turns.specs.Turning.{at_work, job_out, Relayer, RelaysTurn}
use Rattle.relay_turns.specs.Working.{HasPending, IsAtWork, Nested, WorksOn}
use Rattle.relays.proofs.RelayLemmas.{turned-stands}
use Rattle.relays.specs.Relaying.{Stands as StandsWith}
use Rattle.rpc_base.specs.declared.fact.Fact.{Fact}
use Rattle.rpc_base.specs.declared.limits.Limits.{Limits}
use Rattle.rpc_laws.specs.Service.{rules_of}
use Rattle.rpc_laws.specs.declared.tables.Job.{Job}
use Rattle.rpc_outside.specs.declared.service.Service as Service
use Rattle.rpc_turns.specs.Moments.{Moment, Outside}
use Rattle.rpc_turns.specs.Turns.{Stands}
use Rattle.worker_board.specs.declared.Parcel.{Parcel}

-- a run that has asked no job, and whose one client session has no call
pub none-pending : {V : Type 0} (s : Relayed V) → s.endpoint.handed ≡ [] ∷ []
    → s.relays.asked ≡ [] → HasPending [] s
none-pending s handed asked =
    record { calls = []; handed = handed; are_of = tt; jobs = sym asked }

pub book-begins : {V : Type 0} (s : Relayed V) → s.endpoint.handed ≡ [] ∷ []
    → s.relays.asked ≡ [] → s.endpoint.workers.answered ≡ [] → s.relays.relayed ≡ 0
    → s.relays.here ≡ 0 → IsBookOf s new_book
book-begins s handed asked answered relayed here = record {
  pending = none-pending s handed asked;
  answered = sym answered;
  relayed = sym relayed;
  here = sym here;
}

-- one turn
module _ {V L C R : Type 0} (service : Service.Ghosts V) (answer : ℕ → List ℕ → List ℕ)
    (o : Outside L C R) (told : Option Turn) (old new : Moment (Relayer V) L C R)
    (turn : RelaysTurn service answer o told old new) (limits : Limits) (past : List Fact)
    (works : WorksOn service answer limits past (at_work old.run)) (pending : List Nested)
    (has : HasPending pending (at_work old.run)) where
  abbrev mid : Running V Jobs
  mid = turn.mid

  abbrev turned : List Fact
  turned = turn.tells.goes.noted

  mid-stands : Stands service (desk_members answer) limits (past ++ turned) mid
  mid-stands = turn.tells.goes.goes_on limits past works.stands

  mid-handles : StandsWith mid.workers [] old.run.relays
  mid-handles = turned-stands turn.relays.gave old.run.endpoint.workers mid.workers old.run.relays
      turn.relays.goes works.relays

  holds : Holds pending has.calls mid.workers
  holds = record {
    are_of = has.are_of;
    handled = mid-handles.handled ∙ (append-nil old.run.relays.asked ∙ sym has.jobs);
    numbers = turn.relays.numbers;
  }

  pub ends : EndsAll answer turn.relays.dones pending mid.workers turn.relays.desk old.run.relays
      turn.relays.between mid.handed
  ends = all-end answer turn.relays.dones pending has.calls mid.workers turn.relays.desk
      old.run.relays turn.relays.between mid.handed holds mid-handles
      (subst (λ (l : List (List Handed)). HandBack turn.relays.dones l mid.handed) has.handed
      turn.relays.back) turn.relays.settles

  abbrev settled : Relayed V
  settled = relayed (with_desk mid turn.relays.desk) turn.relays.between

  settled-handles : StandsWith turn.relays.desk [] turn.relays.between
  settled-handles = settles-stand answer turn.relays.dones mid.workers turn.relays.desk
      old.run.relays turn.relays.between turn.relays.settles mid-handles

  left-pending : HasPending ends.left settled
  left-pending = record {
    calls = ends.later;
    handed = ends.handed_is;
    are_of = ends.holds.are_of;
    jobs = sym ends.holds.handled
        ∙ (settled-handles.handled ∙ append-nil turn.relays.between.asked);
  }

  pub passed : PassedOn answer settled ends.left turn.relays.jobs turn.asked (at_work new.run)
  passed = all-passed answer ends.left settled mid-stands.node left-pending turn.relays.passes

  abbrev ways : List Passing
  ways = passed.passed

  -- the run works on
  pub still-works : WorksOn service answer limits (past ++ turn.runs.goes.noted) (at_work new.run)
  still-works = record {
    stands = turn.runs.goes.goes_on limits past works.stands;
    relays = turn.relays.handles;
    none_waits = turn.relays.none_waits;
    pending = ends.left ++ asked_of ways;
    has_pending = passed.has_pending;
  }

  pub same-life : new.run.endpoint.timed.lists.life ≡ old.run.endpoint.timed.lists.life
  same-life = turn.runs.goes.lives limits past works.stands

  abbrev told_of : TurnTold
  told_of = record { turned = turned; noted = turn.asked; over = ends.over; passed = ways }

  abbrev later : Book
  later = record {
    pending = ends.left ++ asked_of ways;
    answered = new.run.endpoint.workers.answered;
    relayed = new.run.relays.relayed;
    here = new.run.relays.here;
  }

  pub is-book : IsBookOf (at_work new.run) later
  is-book = record {
    pending = passed.has_pending;
    answered = refl;
    relayed = refl;
    here = refl;
  }

  jobs-are : (A : Type 0) (f : Parcel → A)
      → map f turn.relays.gave ≡ map (λ (p : Passing). f (job_passed p).parcel) ways
  jobs-are A f =
      ap (map f) (sym turn.relays.are_given ∙ ap (map parcel_of) (sym passed.are))
      ∙ (ap (map f) (map-map parcel_of job_passed ways)
      ∙ map-map f (λ (p : Passing). (job_passed p).parcel) ways)

  module _ (life : ℕ) (of_life : old.run.endpoint.timed.lists.life ≡ life) where
    mid-run : LifeRun (rules_of service) 0 life limits (past ++ turned)
        (lists_told (out_of mid.workers) mid.timed)
    mid-run =
        subst (λ (n : ℕ). LifeRun (rules_of service) 0 n limits (past ++ turned)
        (lists_told (out_of mid.workers) mid.timed))
        (turn.tells.goes.lives limits past works.stands ∙ of_life)
        (subst (λ (m : ℕ). LifeRun (rules_of service) m mid.timed.lists.life limits
        (past ++ turned) (lists_told (out_of mid.workers) mid.timed)) mid-stands.node
        mid-stands.runs.run)

    pub keeps-turn : (book : Book) → book.pending ≡ pending
        → book.answered ≡ old.run.endpoint.workers.answered
        → book.relayed ≡ old.run.relays.relayed → book.here ≡ old.run.relays.here
        → KeepsTurn service answer life limits past told_of book later
    keeps-turn book is_pending is_answered is_relayed is_here = record {
      given = turn.relays.given ∙ jobs-are (ℕ × ℕ) name_of;
      gave = record {
        at = lists_told (out_of mid.workers) mid.timed;
        runs = mid-run;
        others = turn.relays.out.others;
        out = turn.relays.out.out
            ∙ ap (λ (l : List Job). turn.relays.out.others ++ l) (jobs-are Job job_out);
      };
      facts = passed.facts;
      ends = turn.relays.ends ∙ (ap (map (done_fact 0)) (sym ends.are_done)
          ∙ map-map (done_fact 0) (λ (x : Over). x.done) ends.over);
      over = ends.ended;
      left = ends.left;
      were_pending = subst (λ (l : List Nested). EndEach l ends.over ends.left) (sym is_pending)
          ends.were;
      pending = refl;
      taken = turn.relays.taken;
      answers = answers-are;
      relayed = let a = passed.relayed in let b = ends.relayed in omega (arith, a, b, is_relayed);
      here = let a = passed.here in let b = ends.here in omega (arith, a, b, is_here);
    }
      where
        over_jobs : List Parcel
        over_jobs = map (finished answer) (map job_over ends.over)

        refused_jobs : List Parcel
        refused_jobs = map (finished answer) (refused_of ways)

        last-answered : new.run.endpoint.workers.answered
            ≡ (mid.workers.answered ++ over_jobs) ++ refused_jobs
        last-answered = passed.answered ∙ ap (λ (l : List Parcel). l ++ refused_jobs) ends.answered

        answers-are : book.answered ++ map (finished answer) (answered_in told_of)
            ≡ turn.relays.taken ++ new.run.endpoint.workers.answered
        answers-are =
            ap₂ (λ (a b : List Parcel). a ++ b) (is_answered ∙ turn.relays.answered)
            (map-append (finished answer) (map job_over ends.over) (refused_of ways))
            ∙ (append_assoc turn.relays.taken mid.workers.answered (over_jobs ++ refused_jobs)
            ∙ ap (λ (l : List Parcel). turn.relays.taken ++ l)
            (sym (append_assoc mid.workers.answered over_jobs refused_jobs) ∙ sym last-answered))

-- a run that relays is at work behind its turn
pub works-again : {V L C R : Type 0} (service : Service.Ghosts V) (answer : ℕ → List ℕ → List ℕ)
    (o : Outside L C R) (told : Option Turn) (old new : Moment (Relayer V) L C R)
    → RelaysTurn service answer o told old new → IsAtWork service answer (at_work old.run)
    → IsAtWork service answer (at_work new.run)
works-again service answer o told old new turn works = (
  works.0,
  works.1 ++ turn.runs.goes.noted,
  still-works service answer o told old new turn works.0 works.1 works.2 works.2.pending
      works.2.has_pending,
)

-- how many jobs were answered in a turn
one-each : (b : Bool) → (if b then 1 else 0) + (if b then 0 else 1) ≡ 1
one-each true = refl
one-each false = refl

both-count : (os : List Over) → count_relayed os + count_here os ≡ length os
both-count [] = refl
both-count (x ∷ os) =
    let one : by_other x + by_us x ≡ 1 = one-each x.relayed in
    let rest = both-count os in
    let sum : (by_other x + count_relayed os) + (by_us x + count_here os) ≡ suc (length os) =
    omega (arith, one, rest) in
    sum

count-append : (ts : List TurnTold) (t : TurnTold)
    → count_answered (ts ++ t ∷ []) ≡ count_answered ts + length (answered_in t)
count-append [] t = omega arith
count-append (u ∷ ts) t = let rest = count-append ts t in omega (arith, rest)

-- what turns leave
pub record Kept {V L C R : Type 0} (service : Service.Ghosts V) (answer : ℕ → List ℕ → List ℕ)
    (limits : Limits) (past g : List Fact) (from to : Moment (Relayer V) L C R) (old : Book)
    : Type 0 where
  pub new : Book
  pub is_book : IsBookOf (at_work to.run) new
  pub works : WorksOn service answer limits (past ++ g) (at_work to.run)
  pub life : to.run.endpoint.timed.lists.life ≡ from.run.endpoint.timed.lists.life
  pub keeps : KeepsDeferred service answer from.run.endpoint.timed.lists.life limits past g old new

module _ {V L C R : Type 0} (service : Service.Ghosts V) (answer : ℕ → List ℕ → List ℕ)
    (o : Outside L C R) (limits : Limits) (past : List Fact) (from : Moment (Relayer V) L C R)
    (old : Book) (works : WorksOn service answer limits past (at_work from.run))
    (is_old : IsBookOf (at_work from.run) old) where
  kept-none : Kept service answer limits past [] from from old
  kept-none = record {
    new = old;
    is_book = is_old;
    works = subst (λ (z : List Fact). WorksOn service answer limits z (at_work from.run))
        (sym (append-nil past)) works;
    life = refl;
    keeps = record { turns = []; each = keeps_none; counts = omega arith };
  }

  kept-more : (g : List Fact) (mid to : Moment (Relayer V) L C R) (told : Option Turn)
      (turn : RelaysTurn service answer o told mid to)
      → Kept service answer limits past g from mid old
      → Kept service answer limits past (g ++ turn.runs.goes.noted) from to old
  kept-more g mid to told turn k = record {
    new = last;
    is_book = is-book service answer o told mid to turn limits (past ++ g) k.works k.new.pending
        k.is_book.pending;
    works = subst (λ (z : List Fact). WorksOn service answer limits z (at_work to.run))
        (append_assoc past g turn.runs.goes.noted)
        (still-works service answer o told mid to turn limits (past ++ g) k.works k.new.pending
        k.is_book.pending);
    life = same-life service answer o told mid to turn limits (past ++ g) k.works k.new.pending
        k.is_book.pending ∙ k.life;
    keeps = record {
      turns = k.keeps.turns ++ one ∷ [];
      each = subst (λ (z : List Fact). KeepsTurns service answer
          from.run.endpoint.timed.lists.life limits past old (k.keeps.turns ++ one ∷ [])
          (g ++ z) last) (sym turn.noted) (keeps_more k.keeps.each one last step);
      counts = counted;
    };
  }
    where
      last : Book
      last = later service answer o told mid to turn limits (past ++ g) k.works k.new.pending
          k.is_book.pending

      one : TurnTold
      one = told_of service answer o told mid to turn limits (past ++ g) k.works k.new.pending
          k.is_book.pending

      step : KeepsTurn service answer from.run.endpoint.timed.lists.life limits (past ++ g) one
          k.new last
      step = keeps-turn service answer o told mid to turn limits (past ++ g) k.works k.new.pending
          k.is_book.pending from.run.endpoint.timed.lists.life k.life k.new refl k.is_book.answered
          k.is_book.relayed k.is_book.here

      counted : last.relayed + last.here
          ≡ old.relayed + old.here + count_answered (k.keeps.turns ++ one ∷ [])
      counted =
          let before = k.keeps.counts in
          let relayed = step.relayed in
          let here = step.here in
          omega (
            arith,
            before,
            relayed,
            here,
            both-count one.over,
            count-append k.keeps.turns one,
            length-append (map job_over one.over) (refused_of one.passed),
            length-map one.over job_over,
          )

  pub all-kept : (many : ℕ) (g : List Fact) (to : Moment (Relayer V) L C R)
      → TurnsRun service answer o from many g to → Kept service answer limits past g from to old
  all-kept many g to no_turn = kept-none
  all-kept many g to (one_more {many = n} {g = h} {mid = mid} run told last turn) =
      kept-more h mid last told turn (all-kept n h mid run)

pub turns-keep : {V L C R : Type 0} (service : Service.Ghosts V) (answer : ℕ → List ℕ → List ℕ)
    (o : Outside L C R) → TurnsKeep service answer o
turns-keep service answer o limits past g many from to old works is_old run =
    let k = all-kept service answer o limits past from old works is_old many g to run in
    (k.new, k.is_book, k.works, k.keeps)

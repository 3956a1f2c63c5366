-- What a turn of a run tells: its facts, and what they say of the link and of the calls that ended.
use Rattle.std.proofs.Common.{◌≡◌, ℕ, Bool, true, false, cond, ltb, Option, List, [], ◌∷◌, ◌++◌}
use Rattle.std.proofs.Common.{length, refl, sym, ap, ap₂, ◌∙◌, subst, arith, append_assoc, append-nil}
use Rattle.std.specs.Prelude.{IsTrue, ◌↔◌, map, option_map}
use Rattle.std.specs.List.{filter}
use Rattle.node_steps.specs.Changes.{Change}
use Rattle.node_steps.specs.Jobs.{staff_of}
use Rattle.rpc_outside.specs.Recording.{Log}
use Rattle.client_core.specs.declared.outcome.Done.{Done}
use Rattle.client_core.specs.Shown.{done_fact}
use Rattle.endpoint_loop.specs.declared.endpoint.poll.Turn.{Turn}
use Rattle.node_steps.specs.Notes.{asked_in, is_asked, is_end, sent_of}
use Rattle.endpoint_loop.specs.Polls.{wire_of}
use Rattle.endpoint_loop.specs.Endpoints.{Running, asks_of, told}
use Rattle.endpoint_loop.specs.Turns.{DeliversAll, TakesIn}
use Rattle.node_steps.proofs.PacketCrew.{staffed-still}
use Rattle.node_steps.proofs.NoteEnds.{ends-append, me-goes}
use Rattle.endpoint_loop.proofs.PollLaw.{still-answers}
use Rattle.endpoint_loop.proofs.StandingLaw.{delivery-still, goes-polled, group-polled, is_labour}
use Rattle.endpoint_loop.proofs.StandingLaw.{life-after_all, life-more, me-polled}
use Rattle.endpoint_loop.proofs.StandingLaw.{none-ran, none-worked, unasked-polled, unworked}
use Rattle.endpoint_loop.specs.Stands.{StandsFor}
use Rattle.node_steps.proofs.NoteStill.{AllStill, still-append}
use Rattle.node_steps.proofs.NoteCounts.{many-append, many-none}
use Rattle.node_steps.proofs.NoteSteps.{sent-append}
use Rattle.node_laws.specs.NodeRun.{Group, LifeRun, delivers}
use Rattle.rpc_base.specs.declared.event.Event.{Event}
use Rattle.rpc_base.specs.declared.event.Event.TheVariants.{Arrived, Bad, Overflowed}
use Rattle.rpc_base.specs.declared.fact.Fact.{Fact}
use Rattle.rpc_base.specs.declared.limits.Limits.{Limits}
use Rattle.rpc_laws.specs.declared.tables.Timed.{Timed}
use Rattle.rpc_laws.specs.AtMostOnce.{works_request}
use Rattle.rpc_laws.specs.Facts.{with_bytes}
use Rattle.rpc_laws.specs.Deliveries.{Delivers, arrival, inbox_room}
use Rattle.rpc_laws.specs.Front.{is_control, is_message}
use Rattle.rpc_laws.specs.Service.{Serving, rules_of, served_after_all}
use Rattle.rpc_laws.specs.Steps.{more}
use Rattle.rpc_laws.proofs.AnswerLemmas.{answers-append, served-append}
use Rattle.rpc_outside.specs.Linking.{Carried}
use Rattle.rpc_outside.specs.declared.link.Link as Link
use Rattle.rpc_outside.specs.declared.service.Service as Service
use Rattle.server_core.proofs.FlushLemmas.{grew-then}
use Rattle.worker_crew.specs.declared.workers.Workers as Workers
use Rattle.rpc_turns.specs.Moments.{Moment, Outside, Rested, endpoint_at}
use Rattle.rpc_turns.specs.Turns.{Stands, TakesTurn, TellsMore, TellsTurn}
use Rattle.rpc_turns.specs.Rests.{CountsIf, CountsTurn, Rests, is_asleep}
use Rattle.rpc_turns.specs.declared.rest.Rest.{Rest}
use Rattle.node_steps.specs.Status.{IsQuiet}
use Rattle.rpc_laws.specs.declared.tables.Lists.{Lists}

module _ (v : Serving) (me life : ℕ) (limits : Limits) where
  -- a run, and then a group that runs and works nothing
  run-more : (g x : List Fact) (s t : Timed) → LifeRun v me life limits g s → Group v.mode s x t
      → AllStill is_labour x → LifeRun v me life limits (g ++ x) t
  run-more g x s t run group still = record {
    steps = more run.steps x t group;
    worked_once = λ i r. omega (
      arith,
      many-append (works_request i r) g x,
      many-none (works_request i r) x (unworked i r x (none-worked x still)),
      run.worked_once i r,
    );
    answers = answers-append v [] g x run.answers
        (still-answers v (served_after_all v.mode [] g) x (none-ran x still)).0;
  }

  run-delivers : (came : List Carried) (g x : List Fact) (s t : Timed) → LifeRun v me life limits g s
      → DeliversAll came s x t → LifeRun v me life limits (g ++ x) t
  run-delivers [] g x s t run h =
      rw (h.0, h.1, append-nil g) run
  run-delivers (d ∷ ds) g x s t run h =
      rw (h.joined, ← append_assoc g h.front h.back)
      (run-delivers ds (g ++ h.front) h.back h.between t
      (run-more g h.front s h.between run (delivers d.0 d.1 h.first) (delivery-still d.0 d.1 s h.front h.between h.first))
      h.second)

-- datagrams that come run and work nothing, send nothing and end no call
all-still : (came : List Carried) (s : Timed) (x : List Fact) (t : Timed) → DeliversAll came s x t
    → AllStill is_labour x
all-still [] s x t h = rw h.0 tt
all-still (d ∷ ds) s x t h =
    rw h.joined
    (still-append is_labour h.front h.back (delivery-still d.0 d.1 s h.front h.between h.first)
    (all-still ds h.between h.back t h.second))

-- facts that send nothing, end no call and ask none
record IsSilent (x : List Fact) : Type 0 where
  sends : sent_of x ≡ []
  ends : filter is_end x ≡ []
  asks : asked_in x ≡ 0

-- the fact of a delivery is silent
abbrev IsComing : (me : ℕ) → List ℕ → Event → Type 0
IsComing me bytes e = IsSilent (with_bytes me e bytes ∷ [])

coming : (peer : ℕ) (bytes : List ℕ) (s : Timed) (x : List Fact) (t : Timed) → Delivers peer bytes s x t
    → IsSilent x
coming peer bytes s x t h = rw h.facts (by (is_message bytes) (is_control bytes))
  where
    arrived : (n room : ℕ) → IsComing s.lists.me bytes (arrival n room peer)
    arrived n room = one (ltb n room)
      where
        one : (b : Bool) → IsComing s.lists.me bytes (cond b (Arrived peer) (Overflowed peer))
        one true = record { sends = refl; ends = refl; asks = refl }
        one false = record { sends = refl; ends = refl; asks = refl }

    by : (b c : Bool) → IsComing s.lists.me bytes (cond b (arrival (length s.lists.ring) s.lists.room peer)
        (cond c (arrival (length s.lists.inbox) inbox_room peer) (Bad peer)))
    by true c = arrived (length s.lists.ring) s.lists.room
    by false true = arrived (length s.lists.inbox) inbox_room
    by false false = record { sends = refl; ends = refl; asks = refl }

silent-append : (x y : List Fact) → IsSilent x → IsSilent y → IsSilent (x ++ y)
silent-append x y a b = record {
  sends = sent-append x y ∙ ap₂ (λ (c d : List Carried). c ++ d) a.sends b.sends;
  ends = ends-append x y ∙ ap₂ (λ (c d : List Fact). c ++ d) a.ends b.ends;
  asks = let first = a.asks in let second = b.asks in
      omega (arith, many-append is_asked x y, first, second);
}

all-coming : (came : List Carried) (s : Timed) (x : List Fact) (t : Timed) → DeliversAll came s x t
    → IsSilent x
all-coming [] s x t h = rw h.0 (record { sends = refl; ends = refl; asks = refl })
all-coming (d ∷ ds) s x t h =
    rw h.joined (silent-append h.front h.back (coming d.0 d.1 s h.front h.between h.first)
    (all-coming ds h.between h.back t h.second))

me-delivers : (came : List Carried) (s : Timed) (x : List Fact) (t : Timed) → DeliversAll came s x t
    → t.lists.me ≡ s.lists.me
me-delivers [] s x t h = ap (λ (u : Timed). u.lists.me) h.1
me-delivers (d ∷ ds) s x t h =
    me-delivers ds h.between h.back t h.second ∙ me-goes s h.between h.front h.first.goes

life-delivers : (came : List Carried) (s : Timed) (x : List Fact) (t : Timed) → DeliversAll came s x t
    → t.lists.life ≡ s.lists.life
life-delivers [] s x t h = ap (λ (u : Timed). u.lists.life) h.1
life-delivers (d ∷ ds) s x t h =
    life-delivers ds h.between h.back t h.second
    ∙ (ap (λ (u : Timed). u.lists.life) h.first.goes ∙ life-after_all s.clock s.lists h.front)

-- datagrams come in
module _ {R V W : Type 0} (log : R → Log) (service : Service.Ghosts V) (workers : Workers.Ghosts W)
    (came : List Carried) (a b : Running V W) (f g : R) (h : TakesIn log came a b f g) where
  abbrev out : W → Timed → Timed
  out w s = told (workers.out w) s

  takes-step : DeliversAll came (out a.workers a.timed) h.delivers.noted (out a.workers b.timed)
  takes-step = h.delivers.step (asks_of (workers.out a.workers))

  takes-me : b.timed.lists.me ≡ a.timed.lists.me
  takes-me = me-delivers came (out a.workers a.timed) h.delivers.noted (out a.workers b.timed)
      takes-step

  takes-life : b.timed.lists.life ≡ a.timed.lists.life
  takes-life = life-delivers came (out a.workers a.timed) h.delivers.noted (out a.workers b.timed)
      takes-step

  takes-stands : (limits : Limits) → (past : List Fact) → Stands service workers limits past a
      → Stands service workers limits (past ++ h.delivers.noted) b
  takes-stands limits past s =
      let run = run-delivers (rules_of service) a.timed.lists.me a.timed.lists.life limits came past h.delivers.noted
      (out a.workers a.timed) (out a.workers b.timed) s.runs.run takes-step in
      let me = takes-me in
      let still = all-still came (out a.workers a.timed) h.delivers.noted (out a.workers b.timed)
      takes-step in
      let none = still-answers (rules_of service) (served_after_all service.mode_of [] past)
      h.delivers.noted (none-ran h.delivers.noted still) in
      let runs : StandsFor service workers limits (past ++ h.delivers.noted) b = record {
        run = subst (λ (w : W). LifeRun (rules_of service) b.timed.lists.me b.timed.lists.life limits
            (past ++ h.delivers.noted) (out w b.timed))
            (sym h.leaves.workers)
            (subst (λ k. LifeRun (rules_of service) b.timed.lists.me k limits
            (past ++ h.delivers.noted) (out a.workers b.timed)) (sym takes-life)
            (subst (λ m. LifeRun (rules_of service) m a.timed.lists.life limits
            (past ++ h.delivers.noted) (out a.workers b.timed)) (sym me) run));
        serves = subst (service.stands b.service)
            (sym (served-append service.mode_of [] past h.delivers.noted ∙ none.1))
            (rw h.leaves.service s.runs.serves);
        staffed = rw h.leaves.workers (staffed-still workers.answer
            (asks_of (workers.out a.workers)) (staff_of workers a.workers) a.timed b.timed
            h.leaves.jobs s.runs.staffed);
      } in
      record { node = me ∙ s.node; runs = runs }

-- a link that waited sent nothing
rests-sent : {L : Type 0} (net : Link.Ghosts L) (asleep : Bool) (old new : L)
    → Rests net asleep old new → net.sent new ≡ net.sent old
rests-sent net true old new h = h.sent
rests-sent net false old new h = ap net.sent h

-- a turn that did nothing, by what its endpoint tells
pub counts-turn : (told : Option Turn) (s : Lists) (quiet : Bool) (rest then_rest : Rest)
    → IsTrue quiet ↔ IsQuiet s → CountsIf told quiet rest then_rest
    → CountsTurn told s rest then_rest
counts-turn told s quiet rest then_rest is h = record {
  nothing = h.nothing;
  so = (
    λ t. let both = h.so.0 t in (both.0, is.0 both.1),
    λ d. h.so.1 (d.0, is.1 d.1),
  );
  count = h.count;
}

-- what a turn tells, of which it is known what it is
module _ {V W L C R K : Type 0} (service : Service.Ghosts V) (workers : Workers.Ghosts W)
    (o : Outside L C R) (given : K → List Done → Type 0) (turn : Option Turn)
    (old new : Moment (Rested V W) L C R) (from to : K) (memory : Change ℕ)
    (h : TakesTurn service workers o given turn old new from to memory) where
  abbrev first : List Fact
  first = h.turns.takes.delivers.noted

  abbrev second : List Fact
  second = h.turns.polls.noted

  abbrev then_link : L
  then_link = new.edges.link

  pub between-stands : (limits : Limits) → (past : List Fact)
      → Stands service workers limits past old.run.endpoint
      → Stands service workers limits (past ++ first) h.turns.between
  between-stands limits past s =
      takes-stands o.log service workers h.turns.came old.run.endpoint h.turns.between
      old.edges.rec h.turns.mid h.turns.takes limits past s

  pub polled : (limits : Limits) → (past : List Fact)
      → Stands service workers limits (past ++ first) h.turns.between
      → Stands service workers limits ((past ++ first) ++ second) new.run.endpoint
  unfolding goes-polled
  polled limits past s =
      let runs = (goes-polled o.log given service workers h.turns.polled h.now h.turns.mid_link
      (wire_of o.net then_link) h.turns.between new.run.endpoint h.turns.mid new.edges.rec
      from to h.turns.polls).goes_on limits (past ++ first) s.runs in
      let me = me-polled o.log given service workers h.turns.polled h.now h.turns.mid_link
      (wire_of o.net then_link) h.turns.between new.run.endpoint h.turns.mid new.edges.rec
      from to h.turns.polls limits (past ++ first) s.runs in
      record { node = me ∙ s.node; runs = runs }

  -- the node keeps its life
  pub lives : (limits : Limits) → (past : List Fact)
      → Stands service workers limits past old.run.endpoint
      → new.run.endpoint.timed.lists.life ≡ old.run.endpoint.timed.lists.life
  lives limits past s =
      let mid = between-stands limits past s in
      life-more service workers limits (past ++ first) h.turns.between new.run.endpoint second
      mid.runs
      (group-polled o.log given service workers h.turns.polled h.now h.turns.mid_link
      (wire_of o.net then_link) h.turns.between new.run.endpoint second
      (h.turns.polls.does mid.runs.staffed).0)
      ∙ takes-life o.log service workers h.turns.came old.run.endpoint h.turns.between
      old.edges.rec h.turns.mid h.turns.takes

  pub more-told : (limits : Limits) → (past : List Fact)
      → Stands service workers limits past old.run.endpoint
      → TellsMore given (o.net.sent old.edges.link) (o.net.sent then_link) (first ++ second) from to
  more-told limits past s =
      let mid = between-stands limits past s in
      let does = h.turns.polls.does mid.runs.staffed in
      let told_of = does.1 in
      let still = unasked-polled o.log given service workers h.turns.polled h.now h.turns.mid_link
      (wire_of o.net then_link) h.turns.between new.run.endpoint second does.0 in
      let quiet = all-coming h.turns.came _ first _
      (takes-step o.log service workers h.turns.came old.run.endpoint h.turns.between
      old.edges.rec h.turns.mid h.turns.takes) in
      record {
        dones = told_of.dones;
        ends = ends-append first second ∙ ap (λ ends. ends ++ filter is_end second) quiet.ends
            ∙ told_of.ends ∙ ap (λ m. map (done_fact m) told_of.dones) mid.node;
        gave = told_of.gave;
        asks = let none = quiet.asks in
            omega (arith, many-append is_asked first second, many-none is_asked second still, none);
        sends = told_of.took ∙ ap (option_map (λ ds. ds ++ sent_of second)) h.turns.receives.sent
            ∙ ap (λ sent. option_map (λ ds. ds ++ sent) (o.net.sent h.ready))
            (sym (sent-append first second ∙ ap (λ sent. sent ++ sent_of second) quiet.sends))
            ∙ ap (option_map (λ ds. ds ++ sent_of (first ++ second)))
            (rests-sent o.net (is_asleep old.run.rest) old.edges.link h.ready h.rests);
      }

  unfoldable pub turn-tells : TellsTurn service workers o given (endpoint_at old) (endpoint_at new) from to
  turn-tells = record {
    goes = record {
      noted = first ++ second;
      grew = grew-then o.log old.edges.rec h.turns.mid new.edges.rec first second
          h.turns.takes.delivers.grew h.turns.polls.grew;
      goes_on = λ limits past s.
          subst (λ z. Stands service workers limits z new.run.endpoint)
          (append_assoc past first second) (polled limits past (between-stands limits past s));
      lives = lives;
    };
    told = more-told;
  }

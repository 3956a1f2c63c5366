-- What an endpoint does is a deed of its node.
use Rattle.std.proofs.Common.{◌≡◌, ◌≤◌, ℕ, List, [], ◌∷◌, ◌++◌, Option}
use Rattle.std.proofs.Common.{refl, sym, ap}
use Rattle.std.proofs.Common.{◌∙◌, subst, append-nil, arith}
use Rattle.std.specs.Prelude.{count_by}
use Rattle.client_core.specs.declared.outcome.Done.{Done}
use Rattle.rpc_base.specs.declared.fact.Fact.{Fact}
use Rattle.rpc_base.specs.declared.limits.Limits.{Limits}
use Rattle.rpc_outside.specs.Linking.{Carried}
use Rattle.rpc_outside.specs.Recording.{Log}
use Rattle.rpc_outside.specs.Served.{Served}
use Rattle.rpc_outside.specs.declared.service.Service as Service
use Rattle.rpc_laws.specs.declared.tables.Timed.{Timed}
use Rattle.rpc_laws.specs.AtMostOnce.{works_request}
use Rattle.rpc_laws.specs.NodeLists.{new_node}
use Rattle.rpc_laws.specs.PollOrder.{Poll}
use Rattle.rpc_laws.specs.Service.{Answers, rules_of, served_after_all}
use Rattle.rpc_laws.specs.Steps.{Rel}
use Rattle.rpc_laws.proofs.AnswerLemmas.{answers-append, served-append}
use Rattle.node_laws.specs.NodeRun.{polls}
use Rattle.end_laws.specs.JointRun.{AloneGroup}
use Rattle.endpoint_loop.specs.Endpoints.{Leaves}
use Rattle.node_steps.specs.Changes.{◌⟶◌, Change}
use Rattle.node_steps.specs.Jobs.{staff_of}
use Rattle.node_steps.specs.Notes.{Makes}
use Rattle.endpoint_loop.specs.Polls.{FinishesBack, LinkTells, MakesPoll, SendsUntil, is_stopped}
use Rattle.endpoint_loop.specs.Endpoints.{IsStaffed, Running, asks_of, crew_of, told}
use Rattle.endpoint_loop.specs.Turns.{DeliversAll}
use Rattle.endpoint_loop.specs.declared.endpoint.poll.Turn.{Turn}
use Rattle.node_steps.proofs.PacketCrew.{staffed-still}
use Rattle.endpoint_loop.proofs.PollLaw.{still-answers, these-still}
use Rattle.endpoint_loop.proofs.StandingLaw.{is_labour, none-ran, none-worked, poll-as}
use Rattle.endpoint_loop.proofs.StandingLaw.{poll-unworked}
use Rattle.endpoint_loop.proofs.StandingLaw.{delivery-still, sends-some, these-some, unworked}
use Rattle.node_steps.proofs.NoteStill.{AllStill, Stills, sends-still, still-append}
use Rattle.node_steps.proofs.NoteCounts.{is_work, many-append, many-none}
use Rattle.turn_laws.specs.Deeds.{Deed, Does, NodeDid, acts, noted_in, rests}
use Rattle.turn_laws.specs.Endpoints.{EndpointDid, seen}
use Rattle.endpoint_loop.specs.Bounds.{bounds}
use Rattle.turn_laws.proofs.DeedLemmas.{deed-keeps, does-more, noted-more}
use Rattle.worker_crew.specs.Jobs.{Job as CrewJob}
use Rattle.worker_crew.specs.declared.workers.Workers as Workers

pub delivered-still : (came : List Carried) → Stills is_labour (DeliversAll came)
delivered-still [] s x t h = rw (h.0) tt
delivered-still (c ∷ cs) s x t h = rw h.joined (still-append is_labour h.front h.back
    (delivery-still c.0 c.1 s h.front h.between h.first)
    (delivered-still cs h.between h.back t h.second))

module _ {V W : Type 0} (service : Service.Ghosts V) (workers : Workers.Ghosts W) where
  abbrev Staffed : Running V W → Type 0
  Staffed e = IsStaffed workers.answer (staff_of workers e.workers) e.timed

  -- a part of a deed: a relation of the node, the answers of the handlers that ran, and the workers
  pub record Part (P : Rel) (x : List Fact) (a b : Running V W) : Type 0 where
    pub step : P (seen workers a) x (seen workers b)
    pub unworked : AllStill is_work x
    pub answers : (served : Served) → service.stands a.service served
        → Answers (rules_of service) served x
        × service.stands b.service (served_after_all service.mode_of served x)
    pub staffed : Staffed b

  -- what came is delivered, and then the node makes a group by itself or nothing more
  pub record Step (came : List Carried) (x : List Fact) (a b : Running V W) : Type 0 where
    pub does : Does service.mode_of (record { node = a.timed.lists.me; came = came; noted = x })
        (seen workers a) (seen workers b)
    pub unworked : AllStill is_work x
    pub answers : (served : Served) → service.stands a.service served
        → Answers (rules_of service) served x
        × service.stands b.service (served_after_all service.mode_of served x)
    pub staffed : Staffed b

  pub came-step : (came : List Carried) (x : List Fact) (a b : Running V W)
      → Part (DeliversAll came) x a b → Step came x a b
  came-step came x a b p = record {
    does = record {
      between = seen workers b;
      front = x;
      back = [];
      joined = sym (append-nil x);
      first = p.step;
      second = rests refl refl;
    };
    unworked = p.unworked;
    answers = p.answers;
    staffed = p.staffed;
  }

  pub acted-step : (P : Rel) (x : List Fact) (a b : Running V W) → Part P x a b
      → ((s : Timed) (y : List Fact) (t : Timed) → P s y t → AloneGroup service.mode_of s y t)
      → Step [] x a b
  acted-step P x a b p alone = record {
    does = record {
      between = seen workers a;
      front = [];
      back = x;
      joined = refl;
      first = (refl, refl);
      second = acts (alone (seen workers a) x (seen workers b) p.step);
    };
    unworked = p.unworked;
    answers = p.answers;
    staffed = p.staffed;
  }

  pub both-step : (came : List Carried) (P : Rel) (x y : List Fact) (a b c : Running V W)
      → Part (DeliversAll came) x a b → Part P y b c
      → ((s : Timed) (z : List Fact) (t : Timed) → P s z t → AloneGroup service.mode_of s z t)
      → Step came (x ++ y) a c
  both-step came P x y a b c p q alone = record {
    does = record {
      between = seen workers b;
      front = x;
      back = y;
      joined = refl;
      first = p.step;
      second = acts (alone (seen workers b) y (seen workers c) q.step);
    };
    unworked = still-append is_work x y p.unworked q.unworked;
    answers = λ served stands.
        let one = p.answers served stands in
        let two = q.answers (served_after_all service.mode_of served x) one.1 in (
          answers-append (rules_of service) served x y one.0 two.0,
          subst (service.stands c.service) (sym (served-append service.mode_of served x y)) two.1,
        );
    staffed = q.staffed;
  }

  -- a delivery or a call: no handler runs, and the service and the workers stay
  pub quiet-part : {R : Type 0} (log : R → Log) (P : Rel) (a b : Running V W) (f g : R)
      → (m : Makes log P a.timed b.timed f g) → Stills is_labour P → Leaves a b → Staffed a
      → Part P m.noted a b
  quiet-part log P a b f g m still leaves staffed =
      let out = workers.out a.workers in
      let same : workers.out b.workers ≡ out = ap workers.out leaves.workers in
      let step : P (told out a.timed) m.noted (told out b.timed) = m.step (asks_of out) in
      let all = still (told out a.timed) m.noted (told out b.timed) step in
      record {
        step = subst (λ (o : List CrewJob). P (told out a.timed) m.noted (told o b.timed))
            (sym same) step;
        unworked = none-worked m.noted all;
        answers = λ served stands.
            let none = still-answers (rules_of service) served m.noted (none-ran m.noted all) in
            (none.0, rw (leaves.service, none.1) stands);
        staffed = rw leaves.workers (staffed-still workers.answer (asks_of out)
            (staff_of workers a.workers) a.timed b.timed leaves.jobs staffed);
      }

  -- a poll
  pub poll-part : {R K : Type 0} (log : R → Log) (given : K → List Done → Type 0)
      (turn : Option Turn)
      (now : ℕ) (link then_link : LinkTells) (a b : Running V W) (f g : R) (j k : K)
      (memory : Change ℕ)
      → (h : MakesPoll (bounds log given service workers) turn now (link ⟶ then_link) (a ⟶ b)
      (f ⟶ g) (j ⟶ k) memory)
      → Staffed a
      → Part (Poll service.mode_of now) h.noted a b
  poll-part log given turn now link then_link a b f g j k memory h staffed =
      let does = h.does staffed in
      let F = FinishesBack workers.answer does.0.parcels (crew_of workers a.workers)
      (crew_of workers b.workers) in
      let S = SendsUntil (is_stopped turn) in
      record {
        step = poll-as F S service.mode_of now
            (λ s x t k. these-some workers.answer does.0.parcels s x t k.finishes)
            (sends-some (is_stopped turn)) _ h.noted _ does.0.polls;
        unworked = poll-unworked F S service.mode_of now
            (λ s x t k. these-still is_work (λ t r y. refl) (λ o k. refl) workers.answer
            does.0.parcels s x t k.finishes)
            (λ s x t k. sends-still is_work (λ p o k. refl) s x t
            (sends-some (is_stopped turn) s x t k)) _ h.noted _ does.0.polls;
        answers = does.1.answers;
        staffed = does.0.staffed;
      }

  pub poll-alone : (now : ℕ) (s : Timed) (x : List Fact) (t : Timed)
      → Poll service.mode_of now s x t
      → AloneGroup service.mode_of s x t
  poll-alone now s x t h = record { group = polls now h; alone = tt }

  -- the endpoint did one deed more
  pub did-more : (life : ℕ) (limits : Limits) (ds : List Deed) (came : List Carried) (x : List Fact)
      (a b : Running V W) → Step came x a b → EndpointDid service workers life limits ds a
      → EndpointDid service workers life limits (ds ++ record {
        node = a.timed.lists.me;
        came = came;
        noted = x;
      } ∷ []) b
  did-more life limits ds came x a b step h =
      let d : Deed = record { node = a.timed.lists.me; came = came; noted = x } in
      let k = deed-keeps service.mode_of d (seen workers a) (seen workers b) step.does in
      let more = step.answers (served_after_all service.mode_of [] (noted_in ds)) h.serves in
      let facts = noted-more ds d in
      let did : NodeDid (rules_of service) a.timed.lists.me life limits (ds ++ d ∷ [])
      (seen workers b) = record {
        steps = does-more service.mode_of ds d (new_node a.timed.lists.me life limits)
            (seen workers a)
            (seen workers b) h.did.steps step.does;
        worked_once = λ t r. subst
            (λ (y : List Fact). count_by (λ f. works_request t r f.event) y ≤ 1) (sym facts)
            (omega (
              arith,
              many-append (works_request t r) (noted_in ds) x,
              many-none (works_request t r) x (unworked t r x step.unworked),
              h.did.worked_once t r,
            ));
        answers = subst (Answers (rules_of service) []) (sym facts)
            (answers-append (rules_of service) [] (noted_in ds) x h.did.answers more.0);
      } in
      record {
        did = subst (λ (m : ℕ). NodeDid (rules_of service) m life limits (ds ++ d ∷ []) (seen workers b))
            (sym k.me) did;
        serves = subst (service.stands b.service)
            (sym (ap (served_after_all service.mode_of []) facts
            ∙ served-append service.mode_of [] (noted_in ds) x)) more.1;
        staffed = step.staffed;
      }

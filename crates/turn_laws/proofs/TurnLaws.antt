-- Turns, polls, deliveries and calls of an endpoint are deeds.
use Rattle.std.proofs.Common.{◌≡◌, ℕ, List, [], ◌∷◌, ◌++◌, refl, sym, ap, ◌∙◌, append-nil, arith}
use Rattle.client_core.specs.declared.outcome.Done.{Done}
use Rattle.rpc_base.specs.declared.fact.Fact.{Fact}
use Rattle.rpc_outside.specs.Recording.{Log}
use Rattle.rpc_outside.specs.declared.link.Link as Link
use Rattle.rpc_outside.specs.declared.service.Service as Service
use Rattle.rpc_laws.specs.declared.tables.Timed.{Timed}
use Rattle.rpc_laws.specs.Deliveries.{Delivers}
use Rattle.rpc_laws.specs.NodeLists.{new_node}
use Rattle.rpc_laws.specs.PollOrder.{Poll}
use Rattle.endpoint_loop.specs.Endpoints.{Running}
use Rattle.endpoint_loop.specs.Turns.{DeliversAll}
use Rattle.endpoint_loop.proofs.StandingLaw.{delivery-still}
use Rattle.server_core.proofs.FlushLemmas.{grew-then}
use Rattle.turn_laws.specs.Endpoints.{CallDoes, CallsAreDeeds, DeliveriesAreDeeds}
use Rattle.turn_laws.specs.Endpoints.{NewDidNothing}
use Rattle.turn_laws.specs.Endpoints.{PollsAreDeeds, TurnsAreDeeds, seen}
use Rattle.turn_laws.proofs.CallLemmas.{call-alone, call-still}
use Rattle.turn_laws.proofs.EndpointLemmas.{Part, acted-step, both-step, came-step, delivered-still}
use Rattle.turn_laws.proofs.EndpointLemmas.{poll-alone, poll-part, quiet-part}
use Rattle.turn_laws.proofs.GoesLemmas.{does-more-by}
use Rattle.turn_laws.proofs.JoinLemmas.{new-seen}
use Rattle.worker_crew.specs.declared.workers.Workers as Workers

module _ {V W : Type 0} (service : Service.Ghosts V) (workers : Workers.Ghosts W) where
  pub new-did-nothing : NewDidNothing service workers
  new-did-nothing me life limits e new out stands staffed =
      let is_me : e.timed.lists.me ≡ me = ap (λ (s : Timed). s.lists.me) new in
      let node : seen workers e ≡ new_node me life limits =
      new-seen service workers me life limits e new out in
      record {
        did = record {
          steps = node ∙ ap (λ (m : ℕ). new_node m life limits) (sym is_me);
          worked_once = λ t r. omega arith;
          answers = tt;
        };
        serves = stands;
        staffed = staffed;
      }

  module _ {R : Type 0} (log : R → Log) where
    pub calls-are-deeds : CallsAreDeeds log service workers
    calls-are-deeds call may old new before now staffed makes leaves =
        does-more-by service workers [] makes.noted old new
        (acted-step service workers (CallDoes call) makes.noted old new
        (quiet-part service workers log (CallDoes call) old new before now makes
        (call-still call) leaves
        staffed) (call-alone service.mode_of call may)) log before now makes.grew

    -- one datagram
    one-delivered : (peer : ℕ) (bytes : List ℕ) (x : List Fact) (a b : Running V W)
        → Part service workers (Delivers peer bytes) x a b
        → Part service workers (DeliversAll ((peer, bytes) ∷ [])) x a b
    one-delivered peer bytes x a b p = record {
      step = record {
        between = seen workers b;
        front = x;
        back = [];
        joined = sym (append-nil x);
        first = p.step;
        second = (refl, refl);
      };
      unworked = p.unworked;
      answers = p.answers;
      staffed = p.staffed;
    }

    pub deliveries-are-deeds : DeliveriesAreDeeds log service workers
    deliveries-are-deeds peer bytes old new before now staffed makes leaves =
        does-more-by service workers ((peer, bytes) ∷ []) makes.noted old new
        (came-step service workers ((peer, bytes) ∷ []) makes.noted old new
        (one-delivered peer bytes makes.noted old new
        (quiet-part service workers log (Delivers peer bytes) old new before now makes
        (delivery-still peer bytes) leaves staffed))) log before now makes.grew

    module _ {K : Type 0} (given : K → List Done → Type 0) where
      pub polls-are-deeds : PollsAreDeeds log given service workers
      polls-are-deeds turn now link then_link old new before later from to memory staffed h =
          does-more-by service workers [] h.noted old new
          (acted-step service workers (Poll service.mode_of now) h.noted old new
          (poll-part service workers log given turn now link then_link old new before later from to
          memory h staffed) (poll-alone service workers now)) log before later h.grew

      pub turns-are-deeds : {L : Type 0} (net : Link.Ghosts L)
          → TurnsAreDeeds log net given service workers
      turns-are-deeds net turn now link then_link old new before later from to memory staffed m =
          let took = m.takes.delivers in
          let first = quiet-part service workers log
          (DeliversAll m.came) old m.between before m.mid took
          (delivered-still m.came) m.takes.leaves staffed in
          let second = poll-part service workers log given m.polled now m.mid_link _ m.between new
          m.mid later
          from to memory m.polls first.staffed in
          does-more-by service workers m.came (took.noted ++ m.polls.noted) old new
          (both-step service workers m.came
          (Poll service.mode_of now) took.noted m.polls.noted old m.between new
          first second (poll-alone service workers now)) log before later
          (grew-then log before m.mid later took.noted m.polls.noted took.grew m.polls.grew)

-- Turns, one after another.
use Rattle.std.proofs.Common.{◌≡◌, ℕ, ◌+◌, List, [], ◌∷◌, ◌++◌, refl, sym, ap, ap₂}
use Rattle.std.proofs.Common.{◌∙◌}
use Rattle.std.proofs.Common.{subst, append_assoc, append-nil, length-append}
use Rattle.std.specs.Prelude.{option_map}
use Rattle.rpc_outside.specs.Recording.{Log}
use Rattle.client_core.specs.declared.outcome.Done.{Done}
use Rattle.node_steps.specs.Notes.{sent_of}
use Rattle.endpoint_loop.specs.Endpoints.{Running}
use Rattle.node_steps.proofs.NoteSteps.{sent-append, took-none, took-then}
use Rattle.rpc_outside.specs.Ticking.{Gives}
use Rattle.rpc_outside.specs.declared.service.Service as Service
use Rattle.server_core.proofs.FlushLemmas.{grew-none, grew-then}
use Rattle.endpoint_loop.specs.Stands.{GoesOn, StandsFor}
use Rattle.rpc_turns.specs.Moments.{Moment, Outside}
use Rattle.rpc_turns.specs.Turns.{GoesOnBy, RunsOn, Stands, TellsTurn}
use Rattle.worker_crew.specs.declared.workers.Workers as Workers

module _ {R V W : Type 0} (log : R → Log) {service : Service.Ghosts V} {workers : Workers.Ghosts W}
  where
    -- nothing was noted
    unfoldable pub goes-none : (a : Running V W) (f : R) → GoesOnBy log service workers a a f f
    goes-none a f = record {
      noted = [];
      grew = grew-none log f;
      goes_on = λ limits past s.
          subst (λ z. Stands service workers limits z a) (sym (append-nil past)) s;
      lives = λ limits past s. refl;
    }

    -- facts of a call that keeps the node's number and life
    pub goes-by : (a b : Running V W) (f g : R) → b.timed.lists.me ≡ a.timed.lists.me
        → b.timed.lists.life ≡ a.timed.lists.life → GoesOn log service workers a b f g
        → GoesOnBy log service workers a b f g
    goes-by a b f g me life h = record {
      noted = h.noted;
      grew = h.grew;
      goes_on = λ limits past s.
          record { node = me ∙ s.node; runs = h.goes_on limits past s.runs };
      lives = λ limits past s. life;
    }

    -- facts, and then further ones
    unfoldable pub goes-then : (a b c : Running V W) (f g h : R)
        → GoesOnBy log service workers a b f g
        → GoesOnBy log service workers b c g h → GoesOnBy log service workers a c f h
    goes-then a b c f g h p q = record {
      noted = p.noted ++ q.noted;
      grew = grew-then log f g h p.noted q.noted p.grew q.grew;
      goes_on = λ limits past s.
          subst (λ z. Stands service workers limits z c) (append_assoc past p.noted q.noted)
          (q.goes_on limits (past ++ p.noted) (p.goes_on limits past s));
      lives = λ limits past s.
          q.lives limits (past ++ p.noted) (p.goes_on limits past s) ∙ p.lives limits past s;
    }

module _ {V W L C R : Type 0} {service : Service.Ghosts V} {workers : Workers.Ghosts W}
    (o : Outside L C R) where
  -- no turn was made yet
  pub none-made : (a : Moment (Running V W) L C R) → RunsOn service workers o a a 0
  unfolding goes-none
  none-made a = record {
    goes = goes-none o.log a.run a.edges.rec;
    sends = λ limits past s. took-none (o.net.sent a.edges.link);
    times = [];
    count = refl;
    ticks = λ before h. subst (o.gave a.edges.clock) (sym (append-nil before)) h;
  }

  -- turns, and then further ones
  unfoldable pub runs-then : (a b c : Moment (Running V W) L C R) (n m : ℕ)
      → RunsOn service workers o a b n → RunsOn service workers o b c m
      → RunsOn service workers o a c (n + m)
  unfolding goes-then
  runs-then a b c n m p q = record {
    goes = goes-then o.log a.run b.run c.run a.edges.rec b.edges.rec c.edges.rec p.goes q.goes;
    sends = λ limits past s.
        q.sends limits (past ++ p.goes.noted) (p.goes.goes_on limits past s)
        ∙ ap (option_map (λ ds. ds ++ sent_of q.goes.noted)) (p.sends limits past s)
        ∙ took-then (o.net.sent a.edges.link) (sent_of p.goes.noted) (sent_of q.goes.noted)
        ∙ ap (λ x. option_map (λ ds. ds ++ x) (o.net.sent a.edges.link))
        (sym (sent-append p.goes.noted q.goes.noted));
    times = p.times ++ q.times;
    count = length-append p.times q.times ∙ ap₂ (λ i j. i + j) p.count q.count;
    ticks = λ before h.
        subst (o.gave c.edges.clock) (append_assoc before p.times q.times)
        (q.ticks (before ++ p.times) (p.ticks before h));
  }

  -- one turn
  pub one-made : {K : Type 0} (given : K → List Done → Type 0) (a b : Moment (Running V W) L C R)
      (from to : K) (now : ℕ)
      → TellsTurn service workers o given a b from to
      → Gives o.gave a.edges.clock b.edges.clock now
      → RunsOn service workers o a b 1
  one-made given a b from to now turn tick = record {
    goes = turn.goes;
    sends = λ limits past s. (turn.told limits past s).sends;
    times = now ∷ [];
    count = refl;
    ticks = tick;
  }

-- facts for which an endpoint goes on, and then further ones
pub on-then : {R V W : Type 0} (log : R → Log) (service : Service.Ghosts V)
    (workers : Workers.Ghosts W) (a b c : Running V W) (f g h : R)
    → GoesOn log service workers a b f g → GoesOn log service workers b c g h
    → GoesOn log service workers a c f h
on-then log service workers a b c f g h p q = record {
  noted = p.noted ++ q.noted;
  grew = grew-then log f g h p.noted q.noted p.grew q.grew;
  goes_on = λ limits past s.
      subst (λ z. StandsFor service workers limits z c) (append_assoc past p.noted q.noted)
      (q.goes_on limits (past ++ p.noted) (p.goes_on limits past s));
}

-- Calls that are over gather in a queue, turn by turn.
use Rattle.std.proofs.Common.{◌≡◌, [], ◌++◌, refl, sym, ap₂, ◌∙◌}
use Rattle.std.proofs.lemmas.List.{map-append}
use Rattle.client_core.specs.Shown.{done_fact}
use Rattle.endpoint_loop.specs.Endpoints.{Running}
use Rattle.node_steps.proofs.HandedGiven.{gave-none, gave-then}
use Rattle.node_steps.proofs.NoteEnds.{ends-append}
use Rattle.rpc_outside.specs.declared.service.Service as Service
use Rattle.rpc_turns.proofs.RunLemmas.{goes-none, goes-then}
use Rattle.rpc_turns.specs.Moments.{Moment, Outside}
use Rattle.rpc_turns.specs.Queue.{KeepsAll}
use Rattle.rpc_turns.specs.Turns.{TellsTurn}
use Rattle.rpc_turns.specs.Waits.{Gathers}
use Rattle.rpc_turns.specs.declared.ended.Ended.{Ended}
use Rattle.worker_crew.specs.declared.workers.Workers as Workers

module _ {V W L C R : Type 0} (service : Service.Ghosts V) (workers : Workers.Ghosts W)
    (o : Outside L C R) where
  -- no turn was made yet
  pub gathers-none : (a : Running V W) (f : R) (k : Ended)
      → Gathers o.log service workers a a f f k k
  unfolding goes-none
  gathers-none a f k = record {
    goes = goes-none o.log a f;
    ends = λ limits past s. ([], refl, gave-none KeepsAll k);
  }

  -- another queue of the same calls, of the same endpoint
  pub gathers-as : (a b c : Running V W) (f g h : R) (j k l : Ended) → c ≡ b → h ≡ g
      → l.dones.items ≡ k.dones.items → l.memory ≡ k.memory
      → Gathers o.log service workers a b f g j k → Gathers o.log service workers a c f h j l
  gathers-as a b c f g h j k l same still items whole p = rw (same, still) (record {
    goes = p.goes;
    ends = λ limits past s.
        (let it = p.ends limits past s in
        (it.0, it.1, λ before own kept. items ∙ it.2 before own (sym whole ∙ kept)));
  })

  -- one turn more
  pub gathers-then : (a : Running V W) (f : R) (j : Ended) (b c : Moment (Running V W) L C R)
      (k l : Ended) → Gathers o.log service workers a b.run f b.edges.rec j k
      → TellsTurn service workers o KeepsAll b c k l
      → Gathers o.log service workers a c.run f c.edges.rec j l
  unfolding goes-then
  gathers-then a f j b c k l h turn = record {
    goes = goes-then o.log a b.run c.run f b.edges.rec c.edges.rec h.goes turn.goes;
    ends = λ limits past s.
        (let first = h.ends limits past s in
        let second = turn.told limits (past ++ h.goes.noted) (h.goes.goes_on limits past s) in (
          first.0 ++ second.dones,
          ends-append h.goes.noted turn.goes.noted
              ∙ ap₂ (λ x y. x ++ y) first.1 second.ends
              ∙ sym (map-append (done_fact 0) first.0 second.dones),
          gave-then KeepsAll j k l first.0 second.dones first.2 second.gave,
        ));
  }

use Rattle.std.proofs.lemmas.Bool.{false≢true}
use Rattle.std.proofs.lemmas.Grind.{common_steps}
use Rattle.std.proofs.Common.{◌≡◌, sym, ap, rules, refl, arith}
use Rattle.session_mgmt.specs.Refusals.{refused}
use Rattle.memory_count.proofs.Risen.{none-risen-by}
use Rattle.node_steps.specs.Handed.{timed_of}
use Rattle.node_steps.proofs.SessionPairs.{refused-lacks, server-made, server-refused}
use Rattle.endpoint_node.proofs.node.Node.pair_server.Goals as goal

pub returns-in-Err-clause-makes : goal.returns-in-Err-clause-makes
returns-in-Err-clause-makes g c = record {
  number = search rules;
  makes = λ w.
      let count : c.self.inside.server_numbers ≡ c.args.self.now.lists.server_numbers =
      ap (λ t. t.lists.server_numbers) c.self.view_is in
      server-refused g.R.Recorder.log (timed_of c.args.self.now) (timed_of c.args.self.now) _ _ c.args.peer c.args.client
      c.args.credits c.args.life (refused c.in-Err.why)
      (sym (rw (c.from.ensures, count) at c.in-Err.ensures.refused)) c.in-Err.ensures.never_memory c.refuse.ensures;
  accepted = search rules;
  refused = let count : c.self.inside.server_numbers ≡ c.args.self.now.lists.server_numbers =
      ap (λ t. t.lists.server_numbers) c.self.view_is in
      rw (c.from.ensures, count) at c.in-Err.ensures.refused;
  clients = refl;
  jobs = refl;
  served = λ mode all. all;
  handed = refl;
  unchanged = refl;
  wanting = λ no. absurd (false≢true (rw no at c.in-Err.ensures.never_memory));
}

pub returns-in-Ok-clause-makes : goal.returns-in-Ok-clause-makes
returns-in-Ok-clause-makes g c = record {
  number = grind (arith, common_steps);
  makes = let count : c.self.inside.server_numbers ≡ c.args.self.now.lists.server_numbers =
      ap (λ t. t.lists.server_numbers) c.self.view_is in
      server-made g.R.Recorder.log _ _ _ _ c.args.peer c.args.client
      c.args.credits c.args.life (rw (c.from.ensures, count) at c.in_default.ensures.accepted)
      c.in-Ok.ensures.adds.makes;
  accepted = let count : c.self.inside.server_numbers ≡ c.args.self.now.lists.server_numbers =
      ap (λ t. t.lists.server_numbers) c.self.view_is in
      rw (c.from.ensures, count) at c.in_default.ensures.accepted;
  refused = search rules;
  clients = c.in-Ok.ensures.adds.clients;
  jobs = c.in-Ok.ensures.adds.jobs;
  served = c.in-Ok.ensures.adds.served;
  handed = c.in-Ok.ensures.adds.handed;
  unchanged = search rules;
  wanting = search rules;
}

pub returns-in-Err-clause-cause : goal.returns-in-Err-clause-cause
returns-in-Err-clause-cause g c =
    refused-lacks c.args.memory.now c.in-Err.why c.in-Err.ensures.never_memory

pub returns-in-Ok-clause-cause : goal.returns-in-Ok-clause-cause
returns-in-Ok-clause-cause g c = none-risen-by _ _ (omega (arith, c.in-Ok.ensures.cause))

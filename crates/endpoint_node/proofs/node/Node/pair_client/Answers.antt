use Rattle.std.proofs.lemmas.Bool.{false≢true}
use Rattle.std.proofs.Common.{◌≡◌, length, sym, ap, ◌∙◌, rules, refl, arith}
use Rattle.session_mgmt.specs.Refusals.{refused}
use Rattle.memory_count.proofs.Risen.{none-risen-by}
use Rattle.node_steps.specs.Handed.{timed_of}
use Rattle.node_steps.proofs.SessionPairs.{client-made, client-refused, refused-lacks}
use Rattle.endpoint_node.proofs.node.Node.pair_client.Goals as goal

pub returns-in-Err-clause-makes : goal.returns-in-Err-clause-makes
returns-in-Err-clause-makes g c = record {
  number = search rules;
  makes = λ w.
      let count : c.clients.result ≡ length c.args.self.now.lists.clients =
      c.clients.ensures.count ∙ ap (λ t. length t.lists.clients) c.self.view_is in
      client-refused g.R.Recorder.log (timed_of c.args.self.now) (timed_of c.args.self.now) _ _ c.args.peer c.args.server
      c.args.credits c.args.life (refused c.in-Err.why)
      (sym (rw (c.from.ensures, count) at c.in-Err.ensures.refused)) c.in-Err.ensures.never_memory c.refuse.ensures;
  accepted = search rules;
  refused = let count : c.clients.result ≡ length c.args.self.now.lists.clients =
      c.clients.ensures.count ∙ ap (λ t. length t.lists.clients) c.self.view_is in
      rw (c.from.ensures, count) at c.in-Err.ensures.refused;
  jobs = refl;
  servers = refl;
  handed = search rules;
  unchanged = refl;
  wanting = λ no. absurd (false≢true (rw no at c.in-Err.ensures.never_memory));
}

pub returns-in-Ok-clause-makes : goal.returns-in-Ok-clause-makes
returns-in-Ok-clause-makes g c = record {
  number = c.next_client-session.ensures;
  makes = let count : c.clients.result ≡ length c.args.self.now.lists.clients =
      c.clients.ensures.count ∙ ap (λ t. length t.lists.clients) c.self.view_is in
      client-made g.R.Recorder.log _ _ _ _ c.args.peer c.args.server
      c.args.credits c.args.life (rw (c.from.ensures, count) at c.in_default.ensures.accepted)
      c.in-Ok.ensures.adds.makes;
  accepted = let count : c.clients.result ≡ length c.args.self.now.lists.clients =
      c.clients.ensures.count ∙ ap (λ t. length t.lists.clients) c.self.view_is in
      rw (c.from.ensures, count) at c.in_default.ensures.accepted;
  refused = search rules;
  jobs = c.in-Ok.ensures.adds.jobs;
  servers = c.in-Ok.ensures.adds.servers;
  handed = c.in-Ok.ensures.adds.handed;
  unchanged = search rules;
  wanting = search rules;
}

pub returns-in-Err-clause-cause : goal.returns-in-Err-clause-cause
returns-in-Err-clause-cause g c =
    refused-lacks c.args.memory.now c.in-Err.why c.in-Err.ensures.never_memory

pub returns-in-Ok-clause-cause : goal.returns-in-Ok-clause-cause
returns-in-Ok-clause-cause g c = none-risen-by _ _ (omega (arith, c.in-Ok.ensures.cause))

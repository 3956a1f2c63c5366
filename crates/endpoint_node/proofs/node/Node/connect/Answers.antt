use Rattle.std.proofs.lemmas.Bool.{false≢true}
use Rattle.std.proofs.Common.{◌≡◌, length, sym, ap, subst, ◌∙◌, rules, refl, arith}
use Rattle.node_laws.specs.Valid.{NumberedFrom, client_no}
use Rattle.session_mgmt.specs.Refusals.{refused}
use Rattle.memory_count.proofs.Risen.{none-risen-by}
use Rattle.node_steps.specs.Handed.{timed_of}
use Rattle.node_steps.proofs.SessionPairs.{refused-lacks}
use Rattle.node_steps.proofs.SessionSteps.{connect-made, connect-refused, opened-live}
use Rattle.endpoint_node.proofs.node.Node.connect.Goals as goal

pub start_rate-requires : goal.start_rate-requires
start_rate-requires g c = record {
  live = opened-live c.args.self.now.lists.clients _ _ c.args.peer c.args.credits
      (subst (λ t. NumberedFrom client_no 0 t.lists.clients) c.self.view_is
      c.self.invariant.0.kept.valid.numbered) c.next_client-session.ensures
      c.in-Ok.ensures.clients;
}

pub returns-in-Err-clause-makes : goal.returns-in-Err-clause-makes
returns-in-Err-clause-makes g c = record {
  number = search rules;
  makes = λ w.
      let count : c.clients.result ≡ length c.args.self.now.lists.clients =
      c.clients.ensures.count ∙ ap (λ t. length t.lists.clients) c.self.view_is in
      connect-refused g.R.Recorder.log c.args.peer c.args.credits c.args.rate
      (timed_of c.args.self.now) _ _ (refused c.in-Err.why)
      (sym (rw (c.from.ensures, count) at c.in-Err.ensures.refused)) c.in-Err.ensures.never_memory
      c.refuse.ensures;
  accepted = search rules;
  refused = let count : c.clients.result ≡ length c.args.self.now.lists.clients =
      c.clients.ensures.count ∙ ap (λ t. length t.lists.clients) c.self.view_is in
      rw (c.from.ensures, count) at c.in-Err.ensures.refused;
  jobs = refl;
  servers = refl;
  handed = search rules;
  unchanged = refl;
  wanting = λ no. absurd (false≢true (rw no at c.in-Err.ensures.never_memory));
}

pub returns-in-Ok-clause-makes : goal.returns-in-Ok-clause-makes
returns-in-Ok-clause-makes g c = record {
  number = c.next_client-session.ensures;
  makes = let count : c.clients.result ≡ length c.args.self.now.lists.clients =
      c.clients.ensures.count ∙ ap (λ t. length t.lists.clients) c.self.view_is in
      connect-made g.R.Recorder.log c.args.peer c.args.credits c.args.rate
      _ _ _ _ _ _ _ c.next_client-session.ensures
      (rw (c.from.ensures, count) at c.in_default.ensures.accepted) c.in-Ok.ensures.me
      c.in-Ok.ensures.adds.makes c.start_rate.ensures.makes;
  accepted = let count : c.clients.result ≡ length c.args.self.now.lists.clients =
      c.clients.ensures.count ∙ ap (λ t. length t.lists.clients) c.self.view_is in
      rw (c.from.ensures, count) at c.in_default.ensures.accepted;
  refused = search rules;
  jobs = c.start_rate.ensures.rest.jobs ∙ c.in-Ok.ensures.adds.jobs;
  servers = c.start_rate.ensures.rest.servers ∙ c.in-Ok.ensures.adds.servers;
  handed = c.start_rate.ensures.rest.handed ∙ c.in-Ok.ensures.adds.handed;
  unchanged = search rules;
  wanting = search rules;
}

pub returns-in-Err-clause-cause : goal.returns-in-Err-clause-cause
returns-in-Err-clause-cause g c =
    refused-lacks c.args.memory.now c.in-Err.why c.in-Err.ensures.never_memory

pub returns-in-Ok-clause-cause : goal.returns-in-Ok-clause-cause
returns-in-Ok-clause-cause g c = none-risen-by _ _ (omega (arith, c.in-Ok.ensures.cause))

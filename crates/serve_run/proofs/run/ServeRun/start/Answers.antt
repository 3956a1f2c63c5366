-- the link is bound, and the endpoint is new
use Rattle.std.proofs.Common.{[], ◌∙◌, ap, refl, subst}
use Rattle.command_line.specs.Words.{ServeWords}
use Rattle.rpc_laws.specs.NodeLists.{new_node}
use Rattle.rpc_turns.specs.Plain.{Stands, limits_at}
use Rattle.rpc_turns.specs.Rests.{resting}
use Rattle.run_status.specs.Words.{sleeps}
use Rattle.serve_run.proofs.run.ServeRun.start.Goals as goal

pub returns-clause-starts : goal.returns-clause-starts
returns-clause-starts g c =
    let made = c.in-Ok-plain_endpoint.ensures.made in
    let same = c.spec.view_is in
    record {
      bound = c.in-Ok.ensures.bound;
      traffic = c.listen.ensures.traffic;
      faults = c.in-Ok.ensures.cause;
      timed = made.timed ∙ ap (λ (w : ServeWords). new_node 0 w.life (limits_at w.timeout)) same;
      stands = subst (λ (w : ServeWords). Stands (limits_at w.timeout) []
          c.in-Ok-plain_endpoint.endpoint) same made.stands;
      rest = c.new.ensures ∙ ap (λ s. resting s) (c.sleeps.ensures
          ∙ ap (λ (w : ServeWords). sleeps w.idle) same);
      turns = ap (λ (w : ServeWords). w.turns) same;
      made = refl;
    }

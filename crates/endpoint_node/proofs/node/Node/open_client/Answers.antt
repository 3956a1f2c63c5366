use Rattle.std.proofs.Common.{◌≡◌, ℕ, ◌++◌, List, [], ◌∷◌, length, ap, subst, ◌∙◌, arith}
use Rattle.std.specs.List.{Contains}
use Rattle.rpc_laws.specs.declared.tables.Pace.{Pace}
use Rattle.node_steps.specs.Seen.{jobs_in}
use Rattle.rpc_laws.specs.Sessions.{opened_end}
use Rattle.node_steps.proofs.SessionSteps.{fits-opened}
use Rattle.node_steps.proofs.PostCallers.{covers-opened}
use Rattle.endpoint_node.proofs.node.Node.open_client.Goals as goal

pub invariant_of-self-2 : goal.invariant_of-self-2
invariant_of-self-2 g c =
    let same : c.next_client-session.result ≡ length c.self.inside.store.clients =
    rw (← c.self.view_is) at c.next_client-session.ensures in
    let pace : Pace = record { session = c.next_client-session.result; rate = 0; next = 0 } in
    let pushed : c.push.new.self.items ≡ c.self.inside.paces.items ++ pace ∷ [] =
    (rw c.unwrap.ensures at c.push.ensures.items)
    ∙ ap (λ (ps : List Pace). ps ++ pace ∷ []) c.reserve.ensures.items in
    let made = c.in_ok-open.ensures.made in
    let taken = rw (← c.self.view_is) at c.requires.fits in (
      fits-opened c.self.inside.me c.self.inside.limits
          (record {
            life = c.self.inside.life;
            known = c.self.inside.known;
            asked = c.self.inside.asked;
            server_numbers = c.self.inside.server_numbers;
            counts = c.self.inside.counts;
            inbox = c.self.inside.inbox;
          }) c.self.inside.paces.items
          (jobs_in c.self.inside.limits.jobs c.self.inside.given c.self.inside.jobs.items)
          c.self.inside.clock c.self.inside.rx c.self.inside.store
          c.open.new.self c.self.invariant.0 c.args.credits c.args.peer c.requires.credits.some
          c.requires.credits.few made.queued made.size made.places c.push.new.self.items
          (pushed ∙ ap (λ (n : ℕ). c.self.inside.paces.items ++ record {
            session = n;
            rate = 0;
            next = 0;
          } ∷ []) same) taken made.clients made.servers,
      (
        c.self.invariant.1.0,
        omega (
          arith,
          c.self.invariant.1.1,
          c.reserve.ensures.capacity,
          c.push.ensures.capacity,
        ),
      ),
      covers-opened c.self.inside.callers c.enter.new.self c.self.inside.store.clients _
          (opened_end (length c.self.inside.store.clients) c.args.peer c.args.credits) made.clients
          (subst (λ n. Contains c.enter.new.self n) (c.session.view_is ∙ same)
          c.enter.ensures.entered)
          c.enter.ensures.others c.self.invariant.2,
    )

use Rattle.std.proofs.Common.{◌≡◌, ℕ, ◌++◌, List, [], ◌∷◌, length, ap, ◌∙◌, arith}
use Rattle.rpc_laws.specs.declared.tables.Pace.{Pace}
use Rattle.node_steps.specs.Seen.{jobs_in}
use Rattle.node_steps.proofs.SessionFits.{fits-paired-client}
use Rattle.node_steps.proofs.PostCallers.{covers-paired}
use Rattle.endpoint_node.proofs.node.Node.add_client.Goals as goal

pub invariant_of-self-2 : goal.invariant_of-self-2
invariant_of-self-2 g c =
    let same : c.next_client-session.result ≡ length c.self.inside.store.clients =
    rw (← c.self.view_is) at c.next_client-session.ensures in
    let pace : Pace = record { session = c.next_client-session.result; rate = 0; next = 0 } in
    let pushed : c.push.new.self.items ≡ c.self.inside.paces.items ++ pace ∷ [] =
    (rw c.unwrap.ensures at c.push.ensures.items)
    ∙ ap (λ (ps : List Pace). ps ++ pace ∷ []) c.reserve.ensures.items in
    let made = c.in_ok-pair_client.ensures.made in
    let taken = rw (← c.self.view_is) at c.requires.fits.fits in (
      fits-paired-client c.self.inside.me c.self.inside.limits
          (record {
            life = c.self.inside.life;
            known = c.self.inside.known;
            asked = c.self.inside.asked;
            server_numbers = c.self.inside.server_numbers;
            inbox = c.self.inside.inbox;
            counts = c.self.inside.counts;
          }) c.self.inside.paces.items
          (jobs_in c.self.inside.limits.jobs c.self.inside.given c.self.inside.jobs.items)
          c.self.inside.clock c.self.inside.rx c.self.inside.store
          c.pair_client.new.self c.self.invariant.0 c.args.credits c.args.peer c.args.server
          c.args.life c.requires.fits.credits.some c.raise.new.self
          made.queued made.size made.places c.push.new.self.items
          (pushed ∙ ap (λ (n : ℕ). c.self.inside.paces.items ++ record {
            session = n;
            rate = 0;
            next = 0;
          } ∷ []) same) taken
          made.clients made.servers c.requires.fits.credits.few c.requires.server
          (c.requires.life, omega (arith, c.life.invariant, c.life.view_is)),
      (
        c.self.invariant.1.0,
        omega (
          arith,
          c.self.invariant.1.1,
          c.reserve.ensures.capacity,
          c.push.ensures.capacity,
        ),
      ),
      covers-paired c.self.inside.callers _ _ _ _ _ _ _ made.clients c.self.invariant.2,
    )

use Rattle.std.proofs.Common.{◌≡◌, length, refl, ap, arith, subst, ◌∙◌}
use Rattle.std.proofs.lemmas.Bool.{false≢true}
use Rattle.std.specs.Prelude.{slice_get}
use Rattle.node_steps.specs.Due.{SessionRests}
use Rattle.node_steps.proofs.DueLemmas.{RestUpTo, rest-all, rest-more, rest-next, some-late}
use Rattle.node_steps.proofs.DueLemmas.{unvisited}
use Rattle.endpoint_node.proofs.node.Node.is_due.Goals as goal

pub returns-then-not-rests : goal.returns-then-not-rests
returns-then-not-rests c =
    let late = rw c.if-not-rests.true at c.rests.ensures in
    rw (← c.self.view_is) (λ rests. absurd (false≢true (late.1 rests.queue)))

pub sessions-init : goal.sessions-init
sessions-init c = (λ i low. absurd (omega (arith, low)), omega arith)

pub sessions-preserved : goal.sessions-preserved
sessions-preserved c =
    let s = c.args.self.now.lists in
    let next = rw c.in-Some.is at c.next_caller.ensures in (
      rest-next (λ i x. SessionRests c.args.at s.timeout i s.queued x) s.clients c.in-Some.i
          (rest-more (λ i x. SessionRests c.args.at s.timeout i s.queued x) s.clients
          c.sessions.from c.in-Some.i
          (λ j. unvisited c.args.at s.timeout j s.queued (slice_get s.clients j))
          c.sessions.invariant.0 next.2)
          (rw c.if-is_session_due.false at c.is_session_due.ensures),
      omega (arith, next.1),
    )

pub returns-then-is_session_due : goal.returns-then-is_session_due
returns-then-is_session_due c =
    let s = c.args.self.now.lists in
    let next = rw c.in-Some.is at c.next_caller.ensures in
    let many : c.clients-count.result ≡ length s.clients =
    c.clients-count.ensures.count ∙ ap (λ t. length t.lists.clients) c.self.view_is in
    λ rests. some-late (λ i x. SessionRests c.args.at s.timeout i s.queued x) s.clients c.in-Some.i
    (omega (arith, next.1, many)) (rw c.if-is_session_due.true at c.is_session_due.ensures)
    (rests.sessions c.in-Some.i)

pub returns : goal.returns
returns c =
    let s = c.args.self.now.lists in
    let none = rw c.in_default.is at c.next_caller.ensures in
    let many : c.clients-count.result ≡ length s.clients =
    c.clients-count.ensures.count ∙ ap (λ t. length t.lists.clients) c.self.view_is in
    record {
      sessions = rest-all (λ i x. SessionRests c.args.at s.timeout i s.queued x) s.clients
          (subst (RestUpTo (λ i x. SessionRests c.args.at s.timeout i s.queued x) s.clients) many
          (rest-more (λ i x. SessionRests c.args.at s.timeout i s.queued x) s.clients
          c.sessions.from c.clients-count.result
          (λ j. unvisited c.args.at s.timeout j s.queued (slice_get s.clients j))
          c.sessions.invariant.0 none));
      queue =
          let still = rw c.if-not-rests.false at c.rests.ensures in
          rw (← c.self.view_is) (still.0 refl);
    }

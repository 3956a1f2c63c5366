-- nothing is due up to the moment at which something is, or up to the last that was asked for
use Rattle.std.proofs.Common.{arith, subst, sym, ◌≡◌, ◌+◌}
use Rattle.node_steps.specs.Due.{RestsAt}
use Rattle.rpc_turns.proofs.rest.rests_for.Goals as goal

pub returns-in-Some : goal.returns-in-Some
returns-in-Some g c =
    let first = rw c.in-Some.is at c.first_due.ensures in
    let up = c.saturating_add-until.ensures in
    let now = c.clock-clock.ensures in
    let later = first.0 (omega (arith, up, now)) in
    let whole : c.args.endpoint.now.timed.clock + c.saturating_sub.result ≡ c.in-Some.due =
    omega (arith, c.saturating_sub.ensures, now, later) in
    record {
      within = omega (arith, c.saturating_sub.ensures, now, up, first.1);
      rests = λ t from low. first.3 t from (omega (arith, low, whole));
      due = λ few more. subst (λ k. RestsAt k c.args.endpoint.now.timed.lists → ⊥) (sym whole) first.2;
    }

pub returns-in-None : goal.returns-in-None
returns-in-None g c =
    let none = rw c.in-None.is at c.first_due.ensures in
    let up = c.saturating_add-until.ensures in
    let now = c.clock-clock.ensures in
    record {
      within = omega (arith, now, up);
      rests = λ t from low. none t (omega (arith, low, now, up));
      due = λ few more. absurd (omega (arith, few, more, now, up));
    }

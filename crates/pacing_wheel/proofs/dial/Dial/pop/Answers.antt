use Rattle.std.proofs.Common.{◌≡◌, ◌%◌, ap, arith, drop, length, refl, sym, ◌∙◌, Some}
use Rattle.std.specs.Prelude.{option_map, slice_get}
use Rattle.pacing_wheel.specs.Wheel.{entry_of}
use Rattle.pacing_wheel.specs.Chains.{list_at}
use Rattle.pacing_wheel.proofs.PushLemmas.{length-set}
use Rattle.pacing_wheel.proofs.DialLemmas.{all-behind, first-at, found-last, stand-set}
use Rattle.pacing_wheel.proofs.dial.Dial.pop.Goals as goal

pub pop-first-requires : goal.pop-first-requires
pop-first-requires c =
    let ls = c.self.inside.chains.lists in
    let e = c.next_time-time.ensures in
    record {
      full = rw c.place_of.ensures (found-last c.next_time-time.result 18446744073709551615 ls e.turn
          (omega (arith, c.self.invariant.1, c.if-self-eq0.false)) (omega arith) e.to e.found);
    }

pub invariant_of-self : goal.invariant_of-self
invariant_of-self c =
    let ls = c.self.inside.chains.lists in
    let e = c.next_time-time.ensures in
    let t = c.next_time-time.result in
    let full = found-last t 18446744073709551615 ls e.turn
    (omega (arith, c.self.invariant.1, c.if-self-eq0.false)) (omega arith) e.to e.found in
    let f = first-at t 0 (t % 4096) ls e.turn (omega arith) full in
    rw (c.pop-first.ensures.rest, c.place_of.ensures) (
      stand-set c.self.inside.cursor 0 (t % 4096) ls (drop 1 (list_at ls (t % 4096))) c.self.invariant.0
          (λ P all. all-behind P (list_at ls (t % 4096)) all),
      omega (arith, ap length f.all, c.self.invariant.1),
      omega (arith, c.if-self-eq0.false, c.self.invariant.2),
      (λ some. length-set ls (t % 4096) (drop 1 (list_at ls (t % 4096))) ∙ c.self.invariant.3 some),
    )

pub returns-clause-front : goal.returns-clause-front
returns-clause-front c =
    let ls = c.self.inside.chains.lists in
    let e = c.next_time-time.ensures in
    let t = c.next_time-time.result in
    let full = found-last t 18446744073709551615 ls e.turn
    (omega (arith, c.self.invariant.1, c.if-self-eq0.false)) (omega arith) e.to e.found in
    let f = first-at t 0 (t % 4096) ls e.turn (omega arith) full in
    let same : Some c.pop-first.result ≡ Some f.first =
    sym c.pop-first.ensures.first ∙ (ap (λ k. slice_get (list_at ls k) 0) c.place_of.ensures ∙ f.at) in
    rw (← c.self.view_is, f.all) (ap (option_map entry_of) same)

pub returns-clause-rest : goal.returns-clause-rest
returns-clause-rest c =
    let ls = c.self.inside.chains.lists in
    let e = c.next_time-time.ensures in
    let t = c.next_time-time.result in
    let full = found-last t 18446744073709551615 ls e.turn
    (omega (arith, c.self.invariant.1, c.if-self-eq0.false)) (omega arith) e.to e.found in
    let f = first-at t 0 (t % 4096) ls e.turn (omega arith) full in
    rw (← c.self.view_is, c.pop-first.ensures.rest, c.place_of.ensures, f.all) refl

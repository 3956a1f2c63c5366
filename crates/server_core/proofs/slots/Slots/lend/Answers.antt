use Rattle.std.proofs.Common.{◌≡◌, ℕ, ◌%◌, Some, true, false, refl, sym, ap, ◌∙◌, arith}
use Rattle.std.specs.List.{find}
use Rattle.message_buffer.specs.Buffer.{with_len}
use Rattle.buffer_pool.specs.Pool.{filled}
use Rattle.rpc_base.proofs.TablesLemmas.{at_first-replaced, find-missing}
use Rattle.server_core.specs.Homes.{HasOwn, is_lent}
use Rattle.server_core.specs.Serving.{worked}
use Rattle.server_core.specs.Session.{is_in_slot}
use Rattle.server_core.specs.declared.slot.Stored.{Stored}
use Rattle.server_core.proofs.HomeLemmas.{home-lent}
use Rattle.server_core.proofs.slots.Slots.lend.Goals as goal

-- an answer in its slot's own buffer
abbrev own_answer : (size p : ℕ) → Stored
own_answer size p = record { place = p; size = size; own = true }

pub unreachable-requires : goal.unreachable-requires
unreachable-requires c =
    let none = find-missing (is_in_slot (c.args.request.now.number % 8)) c.args.self.now
    (rw c.slot-slot.ensures at (sym c.in_default.ensures)) in
    let clash = rw none at c.requires.newest in cc

pub returns-clause-slots : goal.returns-clause-slots
returns-clause-slots c =
    rw (c.set_at.ensures, c.worked.ensures, c.self.view_is) (sym (at_first-replaced
    (is_in_slot (c.args.request.now.number % 8))
    (worked (own_answer c.args.size c.put_message-place.result.place) c.args.request.now) c.args.self.now
    c.in-Some.at (rw c.slot-slot.ensures at (sym c.in-Some.ensures))))

pub invariant_of-self : goal.invariant_of-self
invariant_of-self c =
    rw (
      returns-clause-slots c,
      c.lend-buffer.ensures.homes,
      c.slot-slot.ensures,
      ← c.self.view_is,
    )
    (home-lent c.self.inside.homes c.self.inside.items.items c.args.request.now
    (worked (own_answer c.args.size c.put_message-place.result.place) c.args.request.now)
    (rw (← c.self.view_is) at c.requires.newest) c.self.invariant refl)

pub returns-clause-pool : goal.returns-clause-pool
returns-clause-pool c =
    let slot = c.args.request.now.number % 8 in
    let p = c.put_message-place.result.place in
    let pool = c.args.pool.now in
    let b = with_len c.args.size c.lend-buffer.result in
    let put : c.put_message-place.new.pool ≡ filled p b pool =
    c.put_message-place.ensures.pool ∙ ap (λ x. filled p x pool) c.set_len.ensures in
    let lent : is_lent (Some c.args.request.now) ≡ false = rw c.requires.working refl in
    let found : find (is_in_slot slot) c.self.inside.items.items ≡ Some c.args.request.now =
    rw (← c.self.view_is) at c.requires.newest in
    let there = rw c.slot-slot.ensures at c.lend-buffer.ensures.own in
    let own : HasOwn true (Some c.lend-buffer.result) =
    rw (found, lent, there) at (c.self.invariant.each slot (omega arith)) in
    let there_is = rw (c.put_message-place.ensures.pool, c.set_len.ensures) at c.put_message-place.ensures.there in
    rw put (record {
      lowest = c.put_message-place.ensures.place;
      buf = b;
      after_is = refl;
      there = there_is;
      size_is = (refl, omega (arith, own, c.requires.short));
      own = λ e. own;
    })

use Rattle.std.proofs.Common.{◌≡◌, Some, refl, sym, ◌∙◌, arith}
use Rattle.std.specs.List.{find}
use Rattle.rpc_base.proofs.TablesLemmas.{find-found, find-missing, without_first-found, without_first-missing}
use Rattle.server_core.specs.Session.{is_in_slot}
use Rattle.server_core.proofs.HomeLemmas.{home-given}
use Rattle.server_core.proofs.PlaceLemmas.{taken-out}
use Rattle.server_core.proofs.slots.Slots.give_up.Goals as goal

pub returns-in_default-clause-slots : goal.returns-in_default-clause-slots
returns-in_default-clause-slots c =
    sym (without_first-missing (is_in_slot c.args.slot) c.args.self.now (sym c.in_default.ensures))

pub returns-in_default-clause-pool : goal.returns-in_default-clause-pool
returns-in_default-clause-pool c =
    rw (find-missing (is_in_slot c.args.slot) c.args.self.now (sym c.in_default.ensures)) refl

pub empty_buffers-own-requires-clause-kept : goal.empty_buffers-own-requires-clause-kept
empty_buffers-own-requires-clause-kept c =
    let t = is_in_slot c.args.slot in
    let found = find-found t c.args.self.now c.in-Some.at (sym c.in-Some.ensures)
    ∙ c.at.ensures in
    (taken-out c.args.pool.now t c.args.self.now c.at.result.now found c.requires.keeps_pool).own

pub empty_buffers-own-requires-clause-apart : goal.empty_buffers-own-requires-clause-apart
empty_buffers-own-requires-clause-apart c = λ p.
    let t = is_in_slot c.args.slot in
    let found = find-found t c.args.self.now c.in-Some.at (sym c.in-Some.ensures)
    ∙ c.at.ensures in
    let beside = taken-out c.args.pool.now t c.args.self.now c.at.result.now found
    c.requires.keeps_pool in
    omega (arith, beside.apart p)

pub empty_buffers-own-requires-clause-unheld : goal.empty_buffers-own-requires-clause-unheld
empty_buffers-own-requires-clause-unheld c =
    let found = find-found (is_in_slot c.args.slot) c.args.self.now c.in-Some.at
    (sym c.in-Some.ensures) ∙ c.at.ensures in
    rw found at c.requires.unheld

pub bring-requires : goal.bring-requires
bring-requires c = rw c.self.invariant.all c.requires.slot

pub invariant_of-self : goal.invariant_of-self
invariant_of-self c =
    let t = is_in_slot c.args.slot in
    let xs = c.self.inside.items.items in
    let at = rw (← c.self.view_is) at (sym c.in-Some.ensures) in
    let found : find t xs ≡ Some c.at.result.now =
    find-found t xs c.in-Some.at at ∙ rw (← c.self.view_is) at c.at.ensures in
    rw (c.bring.ensures, c.take_out.ensures, ← without_first-found t xs c.in-Some.at at)
    (home-given c.self.inside.homes xs c.args.slot c.at.result.now
    (rw (← c.self.view_is) at c.requires.apart) found c.self.invariant c.empty_buffers-own.result
    c.requires.slot c.empty_buffers-own.ensures.own)

pub returns-clause-slots : goal.returns-clause-slots
returns-clause-slots c =
    rw (c.take_out.ensures, c.self.view_is)
    (sym (without_first-found (is_in_slot c.args.slot) c.args.self.now c.in-Some.at
    (sym c.in-Some.ensures)))

pub returns-clause-pool : goal.returns-clause-pool
returns-clause-pool c =
    let found = find-found (is_in_slot c.args.slot) c.args.self.now c.in-Some.at
    (sym c.in-Some.ensures) ∙ c.at.ensures in
    rw (c.empty_buffers-own.ensures.pool, found) refl

use Rattle.std.proofs.Common.{◌≡◌, ◌%◌, Some, true, sym, refl, ◌∙◌, arith}
use Rattle.std.specs.Prelude.{get_or, position}
use Rattle.std.specs.List.{find}
use Rattle.std.proofs.lemmas.Option.{slice_get-get_or}
use Rattle.rpc_base.proofs.TablesLemmas.{find-found, find-missing, position-at, without_first-found}
use Rattle.server_core.specs.Homes.{is_lent}
use Rattle.server_core.specs.Session.{is_in_slot}
use Rattle.server_core.proofs.HomeLemmas.{home-begun}
use Rattle.server_core.proofs.slots.Slots.begin_again.Goals as goal

pub unreachable-requires : goal.unreachable-requires
unreachable-requires c =
    let none = find-missing (is_in_slot (c.args.request.number % 8)) c.args.self.now
    (rw c.slot.ensures at (sym c.in_default.ensures)) in
    let lent = rw none at c.requires.older in cc

pub push_last-requires : goal.push_last-requires
push_last-requires c =
    let out = without_first-found (is_in_slot (c.args.request.number % 8)) c.args.self.now
    c.in-Some.at (rw c.slot.ensures at (sym c.in-Some.ensures)) in
    (omega arith, rw (c.take_out.ensures, c.self.view_is, ← out) c.requires.few)

pub returns : goal.returns
returns c =
    let out = without_first-found (is_in_slot (c.args.request.number % 8)) c.args.self.now
    c.in-Some.at (rw c.slot.ensures at (sym c.in-Some.ensures)) in
    rw (c.push_last.ensures, c.take_out.ensures, c.self.view_is, ← out) refl

pub invariant_of-self : goal.invariant_of-self
invariant_of-self c =
    let t = is_in_slot (c.args.request.number % 8) in
    let xs = c.self.inside.items.items in
    let at : position t xs ≡ Some c.in-Some.at = rw (c.slot.ensures, ← c.self.view_is) at (sym c.in-Some.ensures) in
    let q = get_or xs c.in-Some.at c.args.request in
    let found : find t xs ≡ Some q =
    find-found t xs c.in-Some.at at
    ∙ slice_get-get_or xs c.in-Some.at c.args.request (position-at t xs c.in-Some.at c.args.request at).0 in
    let older : is_lent (Some q) ≡ true = rw (← c.self.view_is, found) at c.requires.older in
    rw (c.push_last.ensures, c.take_out.ensures, ← without_first-found t xs c.in-Some.at at)
    (home-begun c.self.inside.homes xs (c.args.request.number % 8) q
    (rw (← c.self.view_is) at c.requires.apart) found c.self.invariant c.args.request refl
    (c.requires.newer ∙ sym older))

use Rattle.std.proofs.Common.{◌≡◌, ◌%◌, Some, sym, ◌∙◌}
use Rattle.std.specs.Prelude.{get_or, position}
use Rattle.std.specs.List.{find}
use Rattle.std.proofs.lemmas.Option.{slice_get-get_or}
use Rattle.rpc_base.proofs.TablesLemmas.{at_first-missing, at_first-replaced, find-found, position-at}
use Rattle.server_core.specs.Session.{is_in_slot}
use Rattle.server_core.proofs.HomeLemmas.{home-replaced}
use Rattle.server_core.proofs.slots.Slots.replace.Goals as goal

pub returns-in-Some : goal.returns-in-Some
returns-in-Some c =
    rw (c.set_at.ensures, c.self.view_is) (sym (at_first-replaced
    (is_in_slot (c.args.request.number % 8)) c.args.request c.args.self.now c.in-Some.at
    (rw c.slot.ensures at (sym c.in-Some.ensures))))

pub returns-in_default : goal.returns-in_default
returns-in_default c =
    sym (at_first-missing (is_in_slot (c.args.request.number % 8))
    (λ x. c.args.request) c.args.self.now (rw c.slot.ensures at (sym c.in_default.ensures)))

pub invariant_of-self : goal.invariant_of-self
invariant_of-self c =
    let t = is_in_slot (c.args.request.number % 8) in
    let xs = c.self.inside.items.items in
    let at : position t xs ≡ Some c.in-Some.at = rw (c.slot.ensures, ← c.self.view_is) at (sym c.in-Some.ensures) in
    let q = get_or xs c.in-Some.at c.args.request in
    let found : find t xs ≡ Some q =
    find-found t xs c.in-Some.at at
    ∙ slice_get-get_or xs c.in-Some.at c.args.request (position-at t xs c.in-Some.at c.args.request at).0 in
    rw (returns-in-Some c, ← c.self.view_is) (home-replaced c.self.inside.homes xs q c.args.request
    found c.self.invariant (rw (← c.self.view_is, found) at c.requires))

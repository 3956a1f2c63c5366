use Rattle.server_core.proofs.HomeLemmas.{home-pushed}
use Rattle.server_core.proofs.slots.Slots.push.Goals as goal

pub invariant_of-self : goal.invariant_of-self
invariant_of-self c =
    rw c.push_last.ensures (home-pushed c.self.inside.homes c.self.inside.items.items
    c.args.request c.requires.lent c.self.invariant)

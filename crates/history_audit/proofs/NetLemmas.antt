-- Whether the network notes its own events, a fact later.
use Rattle.std.proofs.Common.{◌≡◌, true, List, [], ◌∷◌, ◌++◌}
use Rattle.one_history.specs.NetFacts.{AllOfNet, is_of_net}
use Rattle.rpc_base.specs.declared.fact.Fact.{Fact}
use Rattle.rpc_base.specs.declared.fact.Who.TheVariants.{Net}

pub net-next : (h : List Fact) (f : Fact) → AllOfNet h → (f.who ≡ Net → is_of_net f.event ≡ true)
    → AllOfNet (h ++ f ∷ [])
net-next [] f a p = (p, tt)
net-next (g ∷ h) f a p = (a.0, net-next h f a.1 p)

pub net-last : (h : List Fact) (f : Fact) → AllOfNet (h ++ f ∷ []) → f.who ≡ Net → is_of_net f.event ≡ true
net-last [] f a = a.0
net-last (g ∷ h) f a = net-last h f a.1

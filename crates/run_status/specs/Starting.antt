-- What the link of a run is told before its first turn.
use Rattle.std.specs.Prelude.{◌≡◌, ℕ, List, IfSome}
use Rattle.rpc_outside.specs.Linking.{NoneComes}
use Rattle.rpc_outside.specs.declared.link.Link as Link

-- what it sent, what came, and how often it was busy is as before
pub record KeepsTraffic {L : Type 0} (net : Link.Ghosts L) (old new : L) : Type 0 where
  pub sent : net.sent new ≡ net.sent old
  pub lists : NoneComes net.waiting net.received old new
  pub busies : net.busies new ≡ net.busies old

-- it took this address for its own, and knows the other one's by this number
pub record Reaches {L : Type 0} (net : Link.Ghosts L) (own other : List ℕ) (link : L) (peer : ℕ)
    : Type 0 where
  pub bound : IfSome (net.bound link) (λ bytes. bytes ≡ own)
  pub number : IfSome (net.numbers link other) (λ number. number ≡ peer)

-- Each datagram on its way was sent: the network and the rings hold no other bytes.
use Rattle.std.specs.Prelude.{ℕ, ◌≡◌, Some, List, ◌∷◌, ◌++◌, slice_get, IfSome}
use Rattle.std.specs.List.{AllByRecursion}
use Rattle.rpc_base.specs.declared.event.Event.TheVariants.{Sent}
use Rattle.rpc_base.specs.declared.fact.Fact.{Fact}
use Rattle.rpc_base.specs.declared.owner.Owner.{Owner}
use Rattle.rpc_laws.specs.declared.tables.Lists.{Lists}
use Rattle.rpc_laws.specs.BufferSafety.{SentRight}
use Rattle.rpc_laws.specs.Endpoints.{Lived, noted_two}
use Rattle.rpc_laws.specs.Facts.{with_two}
use Rattle.end_laws.specs.Moments.{Moment, Always, first_moment, nodes_left}

-- these bytes were sent by a node to a node: a Sent has them as head and body, and they spell a
-- packet that its owner had by the lists before that Sent
pub record WasSent (past : List Lived) (from to : ℕ) (bytes : List ℕ) : Type 0 where
  pub later : List Lived
  pub earlier : List Lived
  pub life : ℕ
  pub owner : Owner
  pub number : ℕ
  pub head : List ℕ
  pub body : List ℕ
  pub in_past : past ≡ later ++ noted_two (record { node = from; life = life })
      (Sent to owner number) head body ∷ earlier
  pub own : SentRight (nodes_left earlier) from (Sent to owner number) head body
  pub whole : bytes ≡ head ++ body

-- a claim of sender, receiver and bytes of each datagram in flight, in hand and in the nodes' rings
-- and inboxes
pub record Travels (P : ℕ → ℕ → List ℕ → Type 0) (w : Moment) : Type 0 where
  pub flight : AllByRecursion (λ c. P c.from c.to c.bytes) w.flight
  pub hand : IfSome w.hand (λ c. P c.from c.to c.bytes)
  pub rings : (n : ℕ) (l : Lists) → slice_get w.nodes n ≡ Some l
      → AllByRecursion (λ a. P a.peer n a.bytes) l.ring
  pub inboxes : (n : ℕ) (l : Lists) → slice_get w.nodes n ≡ Some l
      → AllByRecursion (λ a. P a.peer n a.bytes) l.inbox

-- at each moment each datagram on its way was sent by its sender to its node
abbrev pub AllGenuine : List Fact → Type 0
AllGenuine h = Always (λ w. Travels (WasSent w.past) w) first_moment h

-- a node sent these bytes to a node, as head and body of some packet
pub record WasPut (past : List Fact) (from to : ℕ) (bytes : List ℕ) : Type 0 where
  pub later : List Fact
  pub earlier : List Fact
  pub owner : Owner
  pub number : ℕ
  pub head : List ℕ
  pub body : List ℕ
  pub in_past : past ≡ later ++ with_two from (Sent to owner number) head body ∷ earlier
  pub spelled : bytes ≡ head ++ body

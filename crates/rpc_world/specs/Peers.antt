-- Which nodes a node speaks with: its peers are among the nodes that are there.
use Rattle.std.specs.Prelude.{ℕ, ◌<◌, List}
use Rattle.std.specs.List.{AllByRecursion}
use Rattle.rpc_base.specs.declared.event.Event.{Event}
use Rattle.rpc_base.specs.declared.event.Event.TheVariants.{Accepted, Arrived, Opened, PairedClient}
use Rattle.rpc_base.specs.declared.event.Event.TheVariants.{PairedServer, Sent}
use Rattle.rpc_base.specs.declared.fact.Fact.{Fact}
use Rattle.rpc_laws.specs.declared.tables.InFlight.{InFlight}
use Rattle.rpc_laws.specs.declared.tables.Lists.{Lists}

-- each session's peer is one of the first n nodes, and each control packet in the inbox is of one
abbrev pub PeersAmong : ℕ → Lists → Type 0
PeersAmong n l = AllByRecursion (λ x. x.way.peer < n) l.clients
    × AllByRecursion (λ v. v.way.peer < n) l.servers × AllByRecursion (λ a. a.peer < n) l.inbox

-- each copy in flight goes from one of the first n nodes to one of them
abbrev pub CopiesAmong : ℕ → List InFlight → Type 0
CopiesAmong n flight = AllByRecursion (λ c. (c.from < n) × (c.to < n)) flight

-- the peer that an event names is one of the first n nodes
abbrev pub NamesAmong : ℕ → Event → Type 0
NamesAmong n (PairedClient s peer t credits life) = peer < n
NamesAmong n (PairedServer t peer s credits life) = peer < n
NamesAmong n (Opened s peer credits) = peer < n
NamesAmong n (Accepted t peer s credits life) = peer < n
NamesAmong n (Arrived peer) = peer < n
NamesAmong n (Sent peer owner k) = peer < n
NamesAmong n _ = Unit {0}

-- so it is of each fact
abbrev pub AllName : ℕ → List Fact → Type 0
AllName n x = AllByRecursion (λ f. NamesAmong n f.event) x

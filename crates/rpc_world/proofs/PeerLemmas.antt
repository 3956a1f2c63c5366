-- The peers of a node stay among the nodes that are there, where each fact names no other.
use Rattle.std.proofs.Common.{◌≡◌, ◌<◌, ◌≤◌, ◌+◌, ℕ, zero, suc, Bool, true, false, cond, Option, Some, None}
use Rattle.std.proofs.Common.{List, [], ◌∷◌, ◌++◌, subst, arith, drop, take}
use Rattle.std.specs.Prelude.{option_to_list, slice_get}
use Rattle.std.specs.List.{AllByRecursion, remove}
use Rattle.packet_header.specs.declared.packet.ControlHeader.{ControlHeader}
use Rattle.packet_header.specs.declared.packet.MessageHeader.{MessageHeader}
use Rattle.rpc_base.specs.Tables.{at_first, without_first}
use Rattle.rpc_base.specs.declared.event.Event.{Event}
use Rattle.rpc_base.specs.declared.event.Event.TheVariants.{Accepted, Arrived, Asked, Begun, Broken}
use Rattle.rpc_base.specs.declared.event.Event.TheVariants.{Carried, Closing as BeginsClosing, ClosedHeard}
use Rattle.rpc_base.specs.declared.event.Event.TheVariants.{ClosedUnheard, Connected as IsConnected}
use Rattle.rpc_base.specs.declared.event.Event.TheVariants.{DoneOk, DonePeerLost, DoneTooSmall, Ended}
use Rattle.rpc_base.specs.declared.event.Event.TheVariants.{FailedNoAnswer, FailedNoRoom, Given, Heard}
use Rattle.rpc_base.specs.declared.event.Event.TheVariants.{Lost, Opened, PairedClient, PairedServer}
use Rattle.rpc_base.specs.declared.event.Event.TheVariants.{Posted, Ran, Repeated, Rolled, Sent, Took}
use Rattle.rpc_base.specs.declared.fact.Fact.{Fact}
use Rattle.rpc_base.specs.declared.fact.Who.TheVariants.{Node}
use Rattle.rpc_base.specs.declared.owner.Owner.TheVariants.{Ask, Control, Reply}
use Rattle.rpc_laws.specs.declared.tables.Arrival.{Arrival}
use Rattle.rpc_laws.specs.declared.tables.Client.{Client}
use Rattle.rpc_laws.specs.declared.tables.InFlight.{InFlight}
use Rattle.rpc_laws.specs.declared.tables.Lists.{Lists}
use Rattle.rpc_laws.specs.declared.tables.Server.{Server}
use Rattle.rpc_laws.specs.Front.{control_of, front_body, front_header, is_control}
use Rattle.rpc_laws.specs.InFlight.{flight_after, flight_after_all, flight_after_net, flight_after_node}
use Rattle.rpc_laws.specs.NodeLists.{after, after_all}
use Rattle.rpc_laws.specs.Queues.{inbox_after}
use Rattle.rpc_laws.specs.Requests.{is_server, servers_after}
use Rattle.rpc_laws.specs.Sessions.{clients_after, clients_told, is_client, is_request_of, requests}
use Rattle.rpc_world.specs.Peers.{AllName, CopiesAmong, NamesAmong, PeersAmong}

-- a claim of each item of a list
module _ {A : Type 0} (P : A → Type 0) where
  add-all : (xs : List A) (y : A) → AllByRecursion P xs → P y → AllByRecursion P (xs ++ y ∷ [])
  add-all [] y all h = (h, tt)
  add-all (x ∷ xs) y all h = (all.0, add-all xs y all.1 h)

  first-by : (f : A → A) (x : A) (xs ys : List A) (b : Bool) → ((z : A) → P z → P (f z)) → P x
      → AllByRecursion P xs → AllByRecursion P ys
      → AllByRecursion P (cond b (f x ∷ xs) (x ∷ ys))
  first-by f x xs ys true keep h all more = (keep x h, all)
  first-by f x xs ys false keep h all more = (h, more)

  first-all : (p : A → Bool) (f : A → A) (xs : List A) → ((z : A) → P z → P (f z))
      → AllByRecursion P xs → AllByRecursion P (at_first p f xs)
  first-all p f [] keep all = tt
  first-all p f (x ∷ xs) keep all =
      first-by f x xs (at_first p f xs) (p x) keep all.0 all.1 (first-all p f xs keep all.1)

  left-by : (x : A) (xs ys : List A) (b : Bool) → P x → AllByRecursion P xs → AllByRecursion P ys
      → AllByRecursion P (cond b xs (x ∷ ys))
  left-by x xs ys true h all more = all
  left-by x xs ys false h all more = (h, more)

  left-all : (p : A → Bool) (xs : List A) → AllByRecursion P xs → AllByRecursion P (without_first p xs)
  left-all p [] all = tt
  left-all p (x ∷ xs) all = left-by x xs (without_first p xs) (p x) all.0 all.1 (left-all p xs all.1)

  drop-one : (xs : List A) → AllByRecursion P xs → AllByRecursion P (drop 1 xs)
  drop-one [] all = tt
  drop-one (x ∷ xs) all = all.1

  taken-all : (i : ℕ) (xs : List A) → AllByRecursion P xs → AllByRecursion P (take i xs)
  taken-all zero xs all = tt
  taken-all (suc i) [] all = tt
  taken-all (suc i) (x ∷ xs) all = (all.0, taken-all i xs all.1)

  dropped-all : (i : ℕ) (xs : List A) → AllByRecursion P xs → AllByRecursion P (drop i xs)
  dropped-all zero xs all = all
  dropped-all (suc i) [] all = tt
  dropped-all (suc i) (x ∷ xs) all = dropped-all i xs all.1

  both-all : (xs ys : List A) → AllByRecursion P xs → AllByRecursion P ys → AllByRecursion P (xs ++ ys)
  both-all [] ys all more = more
  both-all (x ∷ xs) ys all more = (all.0, both-all xs ys all.1 more)

  removed-all : (xs : List A) (i : ℕ) → AllByRecursion P xs → AllByRecursion P (remove xs i)
  removed-all xs i all =
      both-all (take i xs) (drop (suc i) xs) (taken-all i xs all) (dropped-all (suc i) xs all)

  again-all : (xs ys : List A) (i : ℕ) → AllByRecursion P xs → AllByRecursion P ys
      → AllByRecursion P (xs ++ option_to_list (slice_get ys i))
  again-all [] [] i all more = tt
  again-all [] (y ∷ ys) zero all more = (more.0, tt)
  again-all [] (y ∷ ys) (suc i) all more = again-all [] ys i all more.1
  again-all (x ∷ xs) ys i all more = (all.0, again-all xs ys i all.1 more)

  pub found-all : (xs : List A) (i : ℕ) (x : A) → AllByRecursion P xs → slice_get xs i ≡ Some x → P x
  found-all [] i x all e = cc
  found-all (y ∷ ys) zero x all e = let same : y ≡ x = cc in subst P same all.0
  found-all (y ∷ ys) (suc i) x all e = found-all ys i x all.1 e

  pub weaker-all : (Q : A → Type 0) → ((z : A) → P z → Q z) → (xs : List A) → AllByRecursion P xs
      → AllByRecursion Q xs
  weaker-all Q each [] all = tt
  weaker-all Q each (x ∷ xs) all = (each x all.0, weaker-all Q each xs all.1)

-- client sessions
abbrev ToPeer : ℕ → Client → Type 0
ToPeer n x = x.way.peer < n

asked-by : (n clock : ℕ) (x : Client) (b : Bool) → ToPeer n x
    → ToPeer n (cond b (record x { sends = x.sends + 1; sent_at = clock }) x)
asked-by n clock x true h = h
asked-by n clock x false h = h

told-peers : (n clock : ℕ) (o : Option ControlHeader) (xs : List Client)
    → AllByRecursion (ToPeer n) xs → AllByRecursion (ToPeer n) (clients_told clock o xs)
told-peers n clock None xs all = all
told-peers n clock (Some h) xs all =
    first-all (ToPeer n) (is_client h.client) (requests clock h) xs
    (λ x k. asked-by n clock x (is_request_of h.kind h.server h.to_life x.state x.way) k) all

client-peers : (n clock : ℕ) (e : Event) (bytes : List ℕ) (head : Option MessageHeader)
    (body : List ℕ) (xs : List Client) → NamesAmong n e → AllByRecursion (ToPeer n) xs
    → AllByRecursion (ToPeer n) (clients_after clock e bytes head body xs)
client-peers n clock (PairedClient s peer t credits life) bytes head body xs a h =
    add-all (ToPeer n) xs _ h a
client-peers n clock (Opened s peer credits) bytes head body xs a h = add-all (ToPeer n) xs _ h a
client-peers n clock (IsConnected s t life) bytes head body xs a h =
    first-all (ToPeer n) _ _ xs (λ x k. k) h
client-peers n clock (FailedNoRoom s) bytes head body xs a h =
    first-all (ToPeer n) _ _ xs (λ x k. k) h
client-peers n clock (FailedNoAnswer s) bytes head body xs a h =
    first-all (ToPeer n) _ _ xs (λ x k. k) h
client-peers n clock (BeginsClosing s) bytes head body xs a h =
    first-all (ToPeer n) _ _ xs (λ x k. k) h
client-peers n clock (ClosedHeard s) bytes head body xs a h =
    first-all (ToPeer n) _ _ xs (λ x k. k) h
client-peers n clock (ClosedUnheard s) bytes head body xs a h =
    first-all (ToPeer n) _ _ xs (λ x k. k) h
client-peers n clock (Sent peer Control k) bytes head body xs a h =
    told-peers n clock (control_of bytes) xs h
client-peers n clock (Sent peer (Ask s r) k) bytes head body xs a h =
    first-all (ToPeer n) _ _ xs (λ x k. k) h
client-peers n clock (Sent peer (Reply t r) k) bytes head body xs a h = h
client-peers n clock (Asked c s y room) bytes head body xs a h =
    first-all (ToPeer n) _ _ xs (λ x k. k) h
client-peers n clock (Begun c r) bytes head body xs a h =
    first-all (ToPeer n) _ _ xs (λ x k. k) h
client-peers n clock (Posted (Ask s r) k) bytes head body xs a h =
    first-all (ToPeer n) _ _ xs (λ x k. k) h
client-peers n clock (Posted (Reply t r) k) bytes head body xs a h = h
client-peers n clock (Posted Control k) bytes head body xs a h = h
client-peers n clock (Took (Ask s r) k) bytes head body xs a h =
    first-all (ToPeer n) _ _ xs (λ x k. k) h
client-peers n clock (Took (Reply t r) k) bytes head body xs a h = h
client-peers n clock (Took Control k) bytes head body xs a h = h
client-peers n clock (Rolled c posted got) bytes head body xs a h =
    first-all (ToPeer n) _ _ xs (λ x k. k) h
client-peers n clock (Broken s) bytes head body xs a h = first-all (ToPeer n) _ _ xs (λ x k. k) h
client-peers n clock (DoneOk c) bytes head body xs a h = first-all (ToPeer n) _ _ xs (λ x k. k) h
client-peers n clock (DoneTooSmall c size) bytes head body xs a h =
    first-all (ToPeer n) _ _ xs (λ x k. k) h
client-peers n clock (DonePeerLost c) bytes head body xs a h =
    first-all (ToPeer n) _ _ xs (λ x k. k) h
client-peers n clock _ bytes head body xs a h = h

-- server sessions
abbrev OfPeer : ℕ → Server → Type 0
OfPeer n v = v.way.peer < n

server-peers : (n : ℕ) (e : Event) (answer : List ℕ) (head : Option MessageHeader)
    (body : List ℕ) (xs : List Server) → NamesAmong n e → AllByRecursion (OfPeer n) xs
    → AllByRecursion (OfPeer n) (servers_after e answer head body xs)
server-peers n (PairedServer t peer s credits life) answer head body xs a h =
    add-all (OfPeer n) xs _ h a
server-peers n (Accepted t peer s credits life) answer head body xs a h =
    add-all (OfPeer n) xs _ h a
server-peers n (Ended t) answer head body xs a h = left-all (OfPeer n) (is_server t) xs h
server-peers n (Took (Reply t r) k) answer head body xs a h =
    first-all (OfPeer n) _ _ xs (λ v k. k) h
server-peers n (Took (Ask s r) k) answer head body xs a h = h
server-peers n (Took Control k) answer head body xs a h = h
server-peers n (Given t r) answer head body xs a h = first-all (OfPeer n) _ _ xs (λ v k. k) h
server-peers n (Ran t r y) answer head body xs a h = first-all (OfPeer n) _ _ xs (λ v k. k) h
server-peers n _ answer head body xs a h = h

-- the inbox
arrived-peers : (n peer : ℕ) (bytes : List ℕ) (inbox : List Arrival) (b : Bool) → peer < n
    → AllByRecursion (λ a. a.peer < n) inbox
    → AllByRecursion (λ a. a.peer < n)
    (cond b (inbox ++ record { peer = peer; bytes = bytes } ∷ []) inbox)
arrived-peers n peer bytes inbox true a h = add-all (λ (z : Arrival). z.peer < n) inbox _ h a
arrived-peers n peer bytes inbox false a h = h

inbox-peers : (n : ℕ) (e : Event) (bytes : List ℕ) (inbox : List Arrival) → NamesAmong n e
    → AllByRecursion (λ a. a.peer < n) inbox
    → AllByRecursion (λ a. a.peer < n) (inbox_after e bytes inbox)
inbox-peers n (Arrived peer) bytes inbox a h = arrived-peers n peer bytes inbox (is_control bytes) a h
inbox-peers n Heard bytes inbox a h = drop-one (λ (z : Arrival). z.peer < n) inbox h
inbox-peers n _ bytes inbox a h = h

after-peers : (n clock : ℕ) (l : Lists) (f : Fact) → NamesAmong n f.event → PeersAmong n l
    → PeersAmong n (after clock l f)
after-peers n clock l f a h = (
  client-peers n clock f.event f.first (front_header l.ring) (front_body l.ring) l.clients a h.0,
  server-peers n f.event f.second (front_header l.ring) (front_body l.ring) l.servers a h.1,
  inbox-peers n f.event f.first l.inbox a h.2,
)

pub peers-stay : (n clock : ℕ) (l : Lists) (x : List Fact) → AllName n x → PeersAmong n l
    → PeersAmong n (after_all clock l x)
peers-stay n clock l [] a h = h
peers-stay n clock l (f ∷ x) a h = peers-stay n clock (after clock l f) x a.1 (after-peers n clock l f a.0 h)

-- among more nodes
pub peers-more : (m n : ℕ) (l : Lists) → m ≤ n → PeersAmong m l → PeersAmong n l
peers-more m n l le h = (
  weaker-all (λ (x : Client). x.way.peer < m) (λ (x : Client). x.way.peer < n) (λ x k. omega (arith, k, le)) l.clients h.0,
  weaker-all (λ (v : Server). v.way.peer < m) (λ (v : Server). v.way.peer < n) (λ v k. omega (arith, k, le)) l.servers h.1,
  weaker-all (λ (a : Arrival). a.peer < m) (λ (a : Arrival). a.peer < n) (λ a k. omega (arith, k, le)) l.inbox h.2,
)

abbrev Within : ℕ → InFlight → Type 0
Within n c = (c.from < n) × (c.to < n)

pub copies-more : (m n : ℕ) (flight : List InFlight) → m ≤ n → CopiesAmong m flight → CopiesAmong n flight
copies-more m n flight le h =
    weaker-all (Within m) (Within n) (λ c k. (omega (arith, k.0, le), omega (arith, k.1, le))) flight h

-- what the network does to the copies
pub net-copies : (n : ℕ) (e : Event) (flight : List InFlight) → CopiesAmong n flight
    → CopiesAmong n (flight_after_net e flight)
net-copies n (Repeated i) flight h = again-all (Within n) flight flight i h h
net-copies n (Carried i) flight h = removed-all (Within n) flight i h
net-copies n (Lost i) flight h = removed-all (Within n) flight i h
net-copies n _ flight h = h

pub left-copies : (n i : ℕ) (flight : List InFlight) → CopiesAmong n flight → CopiesAmong n (remove flight i)
left-copies n i flight h = removed-all (Within n) flight i h

-- what node m sends
node-copies : (n m : ℕ) (e : Event) (head body : List ℕ) (flight : List InFlight) → m < n
    → NamesAmong n e → CopiesAmong n flight → CopiesAmong n (flight_after_node m e head body flight)
node-copies n m (Sent peer owner k) head body flight less a h = add-all (Within n) flight _ h (less, a)
node-copies n m _ head body flight less a h = h

pub sent-copies : (n m : ℕ) (x : List Fact) (flight : List InFlight) → m < n
    → AllByRecursion (λ f. f.who ≡ Node m) x → AllName n x → CopiesAmong n flight
    → CopiesAmong n (flight_after_all flight x)
sent-copies n m [] flight less own a h = h
sent-copies n m (f ∷ x) flight less own a h =
    sent-copies n m x (flight_after flight f) less own.1 a.1
    (rw own.0 (node-copies n m f.event f.first f.second flight less a.0 h))

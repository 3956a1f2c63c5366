-- The credits of the live sessions of a node stay within its ring.
use Rattle.std.proofs.Common.{◌≡◌, ℕ, ◌+◌, ◌≤◌, Bool, true, Option, Some, None, List, refl, ap, arith}
use Rattle.std.specs.Prelude.{sum_by}
use Rattle.std.specs.List.{find}
use Rattle.std.proofs.lemmas.List.Sums.{sum_by_push}
use Rattle.packet_header.specs.declared.packet.ControlHeader.{ControlHeader}
use Rattle.packet_header.specs.declared.packet.MessageHeader.{MessageHeader}
use Rattle.rpc_base.specs.declared.event.Event.{Event}
use Rattle.rpc_base.specs.declared.event.Event.TheVariants.{PairedClient, PairedServer, Opened}
use Rattle.rpc_base.specs.declared.event.Event.TheVariants.{Accepted, Ended}
use Rattle.rpc_base.specs.declared.event.Event.TheVariants.{Connected as IsConnected, FailedNoRoom}
use Rattle.rpc_base.specs.declared.event.Event.TheVariants.{FailedNoAnswer}
use Rattle.rpc_base.specs.declared.event.Event.TheVariants.{Closing as BeginsClosing, ClosedHeard}
use Rattle.rpc_base.specs.declared.event.Event.TheVariants.{ClosedUnheard, Asked, Begun, Posted}
use Rattle.rpc_base.specs.declared.event.Event.TheVariants.{Sent, Given, Ran, Took, Rolled, Broken}
use Rattle.rpc_base.specs.declared.event.Event.TheVariants.{DoneOk, DoneTooSmall, DonePeerLost}
use Rattle.rpc_base.specs.Tables.{at_first}
use Rattle.rpc_base.specs.declared.fact.Fact.{Fact}
use Rattle.rpc_base.specs.declared.owner.Owner.TheVariants.{Ask, Reply, Control}
use Rattle.rpc_base.specs.declared.state.SessionState.TheVariants.{Closing, Closed, Failed}
use Rattle.rpc_laws.specs.declared.tables.Client.{Client}
use Rattle.rpc_laws.specs.declared.tables.Lists.{Lists}
use Rattle.rpc_laws.specs.declared.tables.Server.{Server}
use Rattle.rpc_laws.specs.Front.{control_of, front_header, front_body}
use Rattle.rpc_laws.specs.Groups.{live_credits, shares}
use Rattle.rpc_laws.specs.NodeLists.{after}
use Rattle.rpc_laws.specs.Requests.{is_server, is_request, server_end, took_packet, given, answered, servers_after}
use Rattle.rpc_laws.specs.Sessions.{is_client, is_live, has_call, client_end, opened_end, comes_to}
use Rattle.rpc_laws.specs.Sessions.{connects, requests, clients_told, asks, begins, posts, sends}
use Rattle.rpc_laws.specs.Sessions.{takes, rolls, breaks, ends, clients_after}
use Rattle.node_laws.proofs.Allowed.{Allowed}
use Rattle.node_laws.proofs.StateLemmas.{connected-live}
use Rattle.rpc_base.proofs.FirstLemmas.{sum-changed, sum-grown, sum-fewer}
use Rattle.node_laws.proofs.ToldSame.{told-same}

-- the credits of a client session that a fact makes, and of a server session
abbrev client_made : Event → ℕ
client_made (PairedClient n peer t credits life) = credits
client_made (Opened n peer credits) = credits
client_made _ = 0

abbrev server_made : Event → ℕ
server_made (PairedServer n peer c credits life) = credits
server_made (Accepted n peer c credits life) = credits
server_made _ = 0

abbrev client_part : List Client → ℕ
client_part xs = sum_by live_credits xs

abbrev server_part : List Server → ℕ
server_part vs = sum_by (λ v. v.credits) vs

-- a session whose credits count as before, or no more
kept : (p : Client → Bool) (f : Client → Client)
    → ((x : Client) → live_credits (f x) ≤ live_credits x) → (xs : List Client)
    → client_part (at_first p f xs) ≤ client_part xs
kept p f less xs =
    let grown = sum-grown p f live_credits 0 xs (λ x. let one = less x in omega arith) in omega arith

told : (clock : ℕ) (o : Option ControlHeader) (xs : List Client)
    → client_part (clients_told clock o xs) ≤ client_part xs
told clock None xs = omega arith
told clock (Some h) xs =
    kept (is_client h.client) (requests clock h) (λ x. let same = told-same live_credits clock h x refl in omega arith) xs

-- one that was live and is live
lives : (session : ℕ) (f : Client → Client) (x : Client) (xs : List Client)
    → find (is_client session) xs ≡ Some x → is_live x.state ≡ true → (f x).limit ≡ x.limit
    → is_live (f x).state ≡ true → client_part (at_first (is_client session) f xs) ≤ client_part xs
lives session f x xs found live limit stays =
    let sums = sum-changed (is_client session) f live_credits xs x found in
    let before : live_credits x ≡ x.limit = rw live refl in
    let after : live_credits (f x) ≡ x.limit = rw (stays, limit) refl in
    omega arith

clients-after : (clock : ℕ) (e : Event) (bytes : List ℕ) (head : Option MessageHeader)
    (body : List ℕ) (s : Lists) → Allowed s e
    → client_part (clients_after clock e bytes head body s.clients) ≤ client_part s.clients
    + client_made e
clients-after clock (PairedClient n peer t credits life) bytes head body s a =
    let push = sum_by_push live_credits s.clients (client_end n peer t credits life) in omega arith
clients-after clock (Opened n peer credits) bytes head body s a =
    let push = sum_by_push live_credits s.clients (opened_end n peer credits) in omega arith
clients-after clock (IsConnected n t life) bytes head body s a =
    let less = lives n (connects t life) a.client s.clients a.found (ap is_live a.stands) refl refl in omega arith
clients-after clock (BeginsClosing n) bytes head body s a =
    let less = lives n (comes_to Closing) a.client s.clients a.found
    (connected-live a.client.state a.connected) refl refl in omega arith
clients-after clock (Sent peer Control k) bytes head body s a =
    let less = told clock (control_of bytes) s.clients in omega arith
clients-after clock (FailedNoRoom n) bytes head body s a =
    let less = kept (is_client n) (comes_to Failed) (λ x. omega arith) s.clients in omega arith
clients-after clock (FailedNoAnswer n) bytes head body s a =
    let less = kept (is_client n) (comes_to Failed) (λ x. omega arith) s.clients in omega arith
clients-after clock (ClosedHeard n) bytes head body s a =
    let less = kept (is_client n) (comes_to Closed) (λ x. omega arith) s.clients in omega arith
clients-after clock (ClosedUnheard n) bytes head body s a =
    let less = kept (is_client n) (comes_to Closed) (λ x. omega arith) s.clients in omega arith
clients-after clock (Asked c n y room) bytes head body s a =
    let less = kept (is_client n) (asks (record
    { number = c; req_type = y; room = room; ask = bytes }))
    (λ x. omega arith) s.clients in omega arith
clients-after clock (Begun c r) bytes head body s a =
    let less = kept (has_call c) (begins c r) (λ x. omega arith) s.clients in omega arith
clients-after clock (Posted (Ask n r) k) bytes head body s a =
    let less = kept (is_client n) (posts r k) (λ x. omega arith) s.clients in omega arith
clients-after clock (Sent peer (Ask n r) k) bytes head body s a =
    let less = kept (is_client n) (sends clock r k) (λ x. omega arith) s.clients in omega arith
clients-after clock (Took (Ask n r) k) bytes head body s a =
    let less = kept (is_client n) (takes clock r head body) (λ x. omega arith) s.clients in omega arith
clients-after clock (Rolled c posted got) bytes head body s a =
    let less = kept (has_call c) (rolls c posted got) (λ x. omega arith) s.clients in omega arith
clients-after clock (Broken n) bytes head body s a =
    let less = kept (is_client n) breaks (λ x. omega arith) s.clients in omega arith
clients-after clock (DoneOk c) bytes head body s a =
    let less = kept (has_call c) (ends c) (λ x. omega arith) s.clients in omega arith
clients-after clock (DoneTooSmall c size) bytes head body s a =
    let less = kept (has_call c) (ends c) (λ x. omega arith) s.clients in omega arith
clients-after clock (DonePeerLost c) bytes head body s a =
    let less = kept (has_call c) (ends c) (λ x. omega arith) s.clients in omega arith
clients-after clock _ bytes head body s a = omega arith

servers-after : (e : Event) (answer : List ℕ) (head : Option MessageHeader) (body : List ℕ)
    (s : Lists) → server_part (servers_after e answer head body s.servers) ≤ server_part s.servers
    + server_made e
servers-after (PairedServer n peer c credits life) answer head body s =
    let push = sum_by_push (λ (v : Server). v.credits) s.servers (server_end n peer c credits life) in omega arith
servers-after (Accepted n peer c credits life) answer head body s =
    let push = sum_by_push (λ (v : Server). v.credits) s.servers (server_end n peer c credits life) in omega arith
servers-after (Ended n) answer head body s =
    let fewer = sum-fewer (is_server n) (λ (v : Server). v.credits) s.servers in omega arith
servers-after (Took (Reply n r) k) answer head body s =
    let less = sum-grown (is_server n) (λ v. record v { slots = took_packet r head body v.slots })
    (λ (v : Server). v.credits) 0 s.servers (λ v. omega arith) in omega arith
servers-after (Given n r) answer head body s =
    let less = sum-grown (is_server n) (λ v. record v
    { slots = at_first (is_request r) given v.slots })
    (λ (v : Server). v.credits) 0 s.servers (λ v. omega arith) in omega arith
servers-after (Ran n r y) answer head body s =
    let less = sum-grown (is_server n) (λ v. record v
    { slots = at_first (is_request r) (answered answer) v.slots })
    (λ (v : Server). v.credits) 0 s.servers (λ v. omega arith) in omega arith
servers-after _ answer head body s = omega arith

room-for : (e : Event) (s : Lists) → shares s ≤ s.room → Allowed s e
    → shares s + client_made e + server_made e ≤ s.room
room-for (PairedClient n peer t credits life) s h a = let room = a.room in omega arith
room-for (PairedServer n peer c credits life) s h a = let room = a.room in omega arith
room-for (Opened n peer credits) s h a = let room = a.room in omega arith
room-for (Accepted n peer c credits life) s h a = let room = a.room in omega arith
room-for _ s h a = omega arith

pub shares-after : (clock : ℕ) (s : Lists) (f : Fact) → shares s ≤ s.room → Allowed s f.event
    → shares (after clock s f) ≤ s.room
shares-after clock s f h a =
    let clients = clients-after clock f.event f.first (front_header s.ring) (front_body s.ring) s a in
    let servers = servers-after f.event f.second (front_header s.ring) (front_body s.ring) s in
    let room = room-for f.event s h a in
    omega arith

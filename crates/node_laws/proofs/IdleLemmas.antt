-- Sessions that are connecting or closing have no calls.
use Rattle.std.proofs.Common.{ℕ, ◌+◌, Bool, true, false, cond, Option, Some, None, List, refl, ap}
use Rattle.std.specs.List.{AllByRecursion}
use Rattle.packet_header.specs.declared.packet.ControlHeader.{ControlHeader}
use Rattle.packet_header.specs.declared.packet.MessageHeader.{MessageHeader}
use Rattle.rpc_base.specs.Tables.{at_first, without_first}
use Rattle.rpc_base.specs.declared.event.Event.{Event}
use Rattle.rpc_base.specs.declared.event.Event.TheVariants.{PairedClient, Opened}
use Rattle.rpc_base.specs.declared.event.Event.TheVariants.{Connected as IsConnected, FailedNoRoom}
use Rattle.rpc_base.specs.declared.event.Event.TheVariants.{FailedNoAnswer}
use Rattle.rpc_base.specs.declared.event.Event.TheVariants.{Closing as BeginsClosing, ClosedHeard}
use Rattle.rpc_base.specs.declared.event.Event.TheVariants.{ClosedUnheard, Asked, Begun, Posted}
use Rattle.rpc_base.specs.declared.event.Event.TheVariants.{Sent, Took, Rolled, Broken, DoneOk}
use Rattle.rpc_base.specs.declared.event.Event.TheVariants.{DoneTooSmall, DonePeerLost}
use Rattle.rpc_base.specs.declared.owner.Owner.TheVariants.{Ask, Control}
use Rattle.rpc_base.specs.declared.state.SessionState.TheVariants.{Closing, Closed, Failed}
use Rattle.rpc_laws.specs.declared.tables.Client.{Client}
use Rattle.rpc_laws.specs.declared.tables.Lists.{Lists}
use Rattle.rpc_laws.specs.Calls.{is_call, is_active, moved, begun, posted_up_to, sent_packet, took_reply, rolled_back}
use Rattle.rpc_laws.specs.Front.{control_of}
use Rattle.rpc_laws.specs.Sessions.{is_client, has_call, client_end, opened_end, comes_to, connects}
use Rattle.rpc_laws.specs.Sessions.{is_request_of, requests, clients_told, asks, begins, posts}
use Rattle.rpc_laws.specs.Sessions.{sends, takes, rolls, breaks, ends, clients_after}
use Rattle.node_laws.proofs.Allowed.{Allowed}
use Rattle.rpc_base.proofs.FirstLemmas.{all-push, all-kept, all-changed}
use Rattle.node_laws.specs.Valid.{Idle}

told-idle : (clock : ℕ) (o : Option ControlHeader) (xs : List Client) → AllByRecursion Idle xs
    → AllByRecursion Idle (clients_told clock o xs)
told-idle clock None xs h = h
told-idle clock (Some c) xs h =
    all-kept (is_client c.client) (requests clock c) Idle xs
    (λ x i _. by x i (is_request_of c.kind c.server c.to_life x.state x.way)) h
  where
    by : (x : Client) → Idle x → (b : Bool) → Idle (cond b (record x { sends = x.sends + 1; sent_at = clock }) x)
    by x i true = i
    by x i false = i

pub idle-after : (clock : ℕ) (e : Event) (bytes : List ℕ) (head : Option MessageHeader)
    (body : List ℕ) (s : Lists) → AllByRecursion Idle s.clients → Allowed s e
    → AllByRecursion Idle (clients_after clock e bytes head body s.clients)
idle-after clock (PairedClient n peer t credits life) bytes head body s h a =
    all-push Idle s.clients (client_end n peer t credits life) h (λ live off. refl)
idle-after clock (Opened n peer credits) bytes head body s h a =
    all-push Idle s.clients (opened_end n peer credits) h (λ live off. refl)
idle-after clock (IsConnected n t life) bytes head body s h a =
    all-kept (is_client n) (connects t life) Idle s.clients (λ x i _ live off. cc) h
idle-after clock (BeginsClosing n) bytes head body s h a =
    all-changed (is_client n) (comes_to Closing) Idle s.clients a.client a.found (λ i live off. a.idle) h
idle-after clock (Sent peer Control k) bytes head body s h a = told-idle clock (control_of bytes) s.clients h
idle-after clock (Asked c n y room) bytes head body s h a =
    all-changed (is_client n) (asks (record { number = c; req_type = y; room = room; ask = bytes })) Idle s.clients a.client a.found (λ i live off. let on = a.connected in cc) h
idle-after clock (FailedNoRoom n) bytes head body s h a =
    all-kept (is_client n) (comes_to Failed) Idle s.clients (λ x i _ live off. cc) h
idle-after clock (FailedNoAnswer n) bytes head body s h a =
    all-kept (is_client n) (comes_to Failed) Idle s.clients (λ x i _ live off. cc) h
idle-after clock (ClosedHeard n) bytes head body s h a =
    all-kept (is_client n) (comes_to Closed) Idle s.clients (λ x i _ live off. cc) h
idle-after clock (ClosedUnheard n) bytes head body s h a =
    all-kept (is_client n) (comes_to Closed) Idle s.clients (λ x i _ live off. cc) h
idle-after clock (Broken n) bytes head body s h a =
    all-kept (is_client n) breaks Idle s.clients (λ x i _ live off. cc) h
idle-after clock (Begun c r) bytes head body s h a =
    all-kept (has_call c) (begins c r) Idle s.clients
    (λ x i _. λ live off. ap (λ cs. at_first (is_call c) (begun r) cs) (i live off)) h
idle-after clock (Posted (Ask n r) k) bytes head body s h a =
    all-kept (is_client n) (posts r k) Idle s.clients
    (λ x i _. λ live off. ap (λ cs. at_first (is_active r) (moved (posted_up_to k)) cs)
    (i live off)) h
idle-after clock (Sent peer (Ask n r) k) bytes head body s h a =
    all-kept (is_client n) (sends clock r k) Idle s.clients
    (λ x i _. λ live off. ap (λ cs. at_first (is_active r) (moved (sent_packet clock k)) cs)
    (i live off)) h
idle-after clock (Took (Ask n r) k) bytes head body s h a =
    all-kept (is_client n) (takes clock r head body) Idle s.clients
    (λ x i _. λ live off. ap (λ cs. at_first (is_active r)
    (moved (took_reply clock head body)) cs) (i live off)) h
idle-after clock (Rolled c posted got) bytes head body s h a =
    all-kept (has_call c) (rolls c posted got) Idle s.clients
    (λ x i _. λ live off. ap (λ cs. at_first (is_call c) (moved (rolled_back got)) cs)
    (i live off)) h
idle-after clock (DoneOk c) bytes head body s h a =
    all-kept (has_call c) (ends c) Idle s.clients
    (λ x i _. λ live off. ap (λ cs. without_first (is_call c) cs) (i live off)) h
idle-after clock (DoneTooSmall c size) bytes head body s h a =
    all-kept (has_call c) (ends c) Idle s.clients
    (λ x i _. λ live off. ap (λ cs. without_first (is_call c) cs) (i live off)) h
idle-after clock (DonePeerLost c) bytes head body s h a =
    all-kept (has_call c) (ends c) Idle s.clients
    (λ x i _. λ live off. ap (λ cs. without_first (is_call c) cs) (i live off)) h
idle-after clock _ bytes head body s h a = h

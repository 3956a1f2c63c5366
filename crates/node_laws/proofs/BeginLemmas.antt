-- Each beginning of a call takes one of what may still begin.
use Rattle.std.proofs.Common.{◌≡◌, ℕ, ◌+◌, ◌≤◌, cond, Option, Some, List, sym, arith}
use Rattle.std.specs.Prelude.{◌==◌, is_none}
use Rattle.std.specs.List.{find}
use Rattle.packet_header.specs.declared.packet.MessageHeader.{MessageHeader}
use Rattle.rpc_base.specs.Tables.{at_first}
use Rattle.rpc_base.specs.declared.event.Event.{Event}
use Rattle.rpc_base.specs.declared.event.Event.TheVariants.{PairedClient, Opened}
use Rattle.rpc_base.specs.declared.event.Event.TheVariants.{Connected as IsConnected, FailedNoRoom}
use Rattle.rpc_base.specs.declared.event.Event.TheVariants.{FailedNoAnswer}
use Rattle.rpc_base.specs.declared.event.Event.TheVariants.{Closing as BeginsClosing, ClosedHeard}
use Rattle.rpc_base.specs.declared.event.Event.TheVariants.{ClosedUnheard, Asked, Begun, Posted}
use Rattle.rpc_base.specs.declared.event.Event.TheVariants.{Sent, Took, Rolled, Broken, DoneOk}
use Rattle.rpc_base.specs.declared.event.Event.TheVariants.{DoneTooSmall, DonePeerLost}
use Rattle.rpc_base.specs.declared.owner.Owner.TheVariants.{Ask, Control}
use Rattle.rpc_base.specs.declared.state.SessionState.TheVariants.{Closing, Closed, Failed}
use Rattle.rpc_laws.specs.Front.{control_of}
use Rattle.rpc_laws.specs.declared.tables.Lists.{Lists}
use Rattle.rpc_laws.specs.AtMostOnce.{begins_call}
use Rattle.rpc_laws.specs.Calls.{is_call, is_active, posted_up_to, sent_packet, took_reply, rolled_back}
use Rattle.rpc_laws.specs.NodeLists.{asked_after}
use Rattle.rpc_laws.specs.Sessions.{is_client, comes_to, connects, has_call, begins, posts, sends}
use Rattle.rpc_laws.specs.Sessions.{takes, rolls, breaks, ends, clients_after}
use Rattle.node_laws.proofs.Allowed.{Allowed, MayBegin}
use Rattle.node_laws.proofs.NumberLemmas.{by_number}
use Rattle.node_laws.proofs.SpendLemmas.{none-spent, remaining, remaining-kept, calls-kept}
use Rattle.node_laws.proofs.SpendLemmas.{remaining-asked, remaining-made, remaining-opened}
use Rattle.node_laws.proofs.SpendLemmas.{remaining-told, remaining-spent, ends-fewer, begins-less}
use Rattle.node_laws.proofs.SpendLemmas.{same-waiting, to_begin}
use Rattle.node_laws.specs.Valid.{to_come, Valid}

module _ (number : ℕ) (clock : ℕ) (bytes : List ℕ) (head : Option MessageHeader) (body : List ℕ)
    (s : Lists) (v : Valid s) where
  begun-spends : (c r : ℕ) → MayBegin s c r
      → cond (c == number) 1 0 + (remaining number (λ o. is_none o)
      (at_first (has_call c) (begins c r) s.clients) + to_come s.asked number) ≤ remaining number
      (λ o. is_none o) s.clients + to_come s.asked number
  begun-spends c r a =
      let own = by_number s a.session a.client a.call v a.place in
      let client : find (has_call c) s.clients ≡ Some a.client = rw a.same own.client in
      let call : find (is_call c) a.client.calls ≡ Some a.call = rw a.same own.call in
      remaining-spent number (λ o. is_none o) (cond (c == number) 1 0) (to_come s.asked number)
      (has_call c) (begins c r) s.clients a.client client
      (begins-less number c r a.client a.call call (sym a.same) a.waits)

pub begin-spends : (number clock : ℕ) (e : Event) (bytes : List ℕ) (head : Option MessageHeader)
    (body : List ℕ) (s : Lists) → Valid s → to_begin number s ≤ 1 → Allowed s e
    → cond (begins_call number e) 1 0 + (remaining number (λ o. is_none o)
    (clients_after clock e bytes head body s.clients) + to_come (asked_after e s.asked) number)
    ≤ to_begin number s
begin-spends number clock (PairedClient n peer t credits life) bytes head body s v h a =
    remaining-made number (λ o. is_none o) n peer t credits life (to_come s.asked number) s.clients
begin-spends number clock (Opened n peer credits) bytes head body s v h a =
    remaining-opened number (λ o. is_none o) n peer credits (to_come s.asked number) s.clients
begin-spends number clock (FailedNoRoom n) bytes head body s v h a =
    remaining-kept number (λ o. is_none o) (is_client n)
    (comes_to Failed) s.clients (to_come s.asked number) (λ x. omega arith)
begin-spends number clock (FailedNoAnswer n) bytes head body s v h a =
    remaining-kept number (λ o. is_none o) (is_client n)
    (comes_to Failed) s.clients (to_come s.asked number) (λ x. omega arith)
begin-spends number clock (BeginsClosing n) bytes head body s v h a =
    remaining-kept number (λ o. is_none o) (is_client n)
    (comes_to Closing) s.clients (to_come s.asked number) (λ x. omega arith)
begin-spends number clock (ClosedHeard n) bytes head body s v h a =
    remaining-kept number (λ o. is_none o) (is_client n)
    (comes_to Closed) s.clients (to_come s.asked number) (λ x. omega arith)
begin-spends number clock (ClosedUnheard n) bytes head body s v h a =
    remaining-kept number (λ o. is_none o) (is_client n)
    (comes_to Closed) s.clients (to_come s.asked number) (λ x. omega arith)
begin-spends number clock (IsConnected n t life) bytes head body s v h a =
    remaining-kept number (λ o. is_none o) (is_client n)
    (connects t life) s.clients (to_come s.asked number) (λ x. omega arith)
begin-spends number clock (Sent peer Control k) bytes head body s v h a =
    remaining-told number (λ o. is_none o) clock (to_come s.asked number) (control_of bytes) s.clients
begin-spends number clock (Asked c n y room) bytes head body s v h a =
    remaining-asked number (λ o. is_none o) s.asked c n y room bytes s.clients a.next h
begin-spends number clock (Begun c r) bytes head body s v h a =
    begun-spends number clock bytes head body s v c r a
begin-spends number clock (Posted (Ask n r) k) bytes head body s v h a =
    remaining-kept number (λ o. is_none o) (is_client n)
    (posts r k) s.clients (to_come s.asked number)
    (λ x. calls-kept number (λ o. is_none o) (is_active r)
    (posted_up_to k) x.calls (same-waiting (posted_up_to k)))
begin-spends number clock (Sent peer (Ask n r) k) bytes head body s v h a =
    remaining-kept number (λ o. is_none o) (is_client n)
    (sends clock r k) s.clients (to_come s.asked number)
    (λ x. calls-kept number (λ o. is_none o) (is_active r)
    (sent_packet clock k) x.calls (same-waiting (sent_packet clock k)))
begin-spends number clock (Took (Ask n r) k) bytes head body s v h a =
    remaining-kept number (λ o. is_none o) (is_client n)
    (takes clock r head body) s.clients (to_come s.asked number)
    (λ x. calls-kept number (λ o. is_none o) (is_active r)
    (took_reply clock head body) x.calls (same-waiting (took_reply clock head body)))
begin-spends number clock (Rolled c posted got) bytes head body s v h a =
    remaining-kept number (λ o. is_none o) (has_call c)
    (rolls c posted got) s.clients (to_come s.asked number)
    (λ x. calls-kept number (λ o. is_none o) (is_call c)
    (rolled_back got) x.calls (same-waiting (rolled_back got)))
begin-spends number clock (Broken n) bytes head body s v h a =
    remaining-kept number (λ o. is_none o) (is_client n) breaks s.clients (to_come s.asked number) (λ x. omega arith)
begin-spends number clock (DoneOk c) bytes head body s v h a =
    remaining-kept number (λ o. is_none o) (has_call c) (ends c) s.clients (to_come s.asked number)
    (ends-fewer number (λ o. is_none o) c)
begin-spends number clock (DoneTooSmall c size) bytes head body s v h a =
    remaining-kept number (λ o. is_none o) (has_call c) (ends c) s.clients (to_come s.asked number)
    (ends-fewer number (λ o. is_none o) c)
begin-spends number clock (DonePeerLost c) bytes head body s v h a =
    remaining-kept number (λ o. is_none o) (has_call c) (ends c) s.clients (to_come s.asked number)
    (ends-fewer number (λ o. is_none o) c)
begin-spends number clock _ bytes head body s v h a = none-spent (to_begin number s)

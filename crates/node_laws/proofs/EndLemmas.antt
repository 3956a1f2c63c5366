-- Each end of a call takes one of what may still end.
use Rattle.std.proofs.Common.{◌≡◌, ℕ, ◌+◌, ◌≤◌, cond, Option, Some, List, refl, sym, arith}
use Rattle.std.specs.Prelude.{◌==◌}
use Rattle.std.specs.List.{find}
use Rattle.packet_header.specs.declared.packet.MessageHeader.{MessageHeader}
use Rattle.rpc_base.specs.Tables.{at_first}
use Rattle.rpc_base.specs.declared.event.Event.{Event}
use Rattle.rpc_base.specs.declared.event.Event.TheVariants.{PairedClient, Opened}
use Rattle.rpc_base.specs.declared.event.Event.TheVariants.{Connected as IsConnected, FailedNoRoom}
use Rattle.rpc_base.specs.declared.event.Event.TheVariants.{FailedNoAnswer}
use Rattle.rpc_base.specs.declared.event.Event.TheVariants.{Closing as BeginsClosing, ClosedHeard}
use Rattle.rpc_base.specs.declared.event.Event.TheVariants.{ClosedUnheard, Asked, Begun, Posted}
use Rattle.rpc_base.specs.declared.event.Event.TheVariants.{Sent, Took, Rolled, Broken, DoneOk}
use Rattle.rpc_base.specs.declared.event.Event.TheVariants.{DoneTooSmall, DonePeerLost}
use Rattle.rpc_base.specs.declared.owner.Owner.TheVariants.{Ask, Control}
use Rattle.rpc_base.specs.declared.state.SessionState.TheVariants.{Closing, Closed, Failed}
use Rattle.rpc_laws.specs.Front.{control_of}
use Rattle.rpc_laws.specs.declared.tables.Call.{Call}
use Rattle.rpc_laws.specs.declared.tables.Client.{Client}
use Rattle.rpc_laws.specs.declared.tables.Lists.{Lists}
use Rattle.rpc_laws.specs.AtMostOnce.{ends_call}
use Rattle.rpc_laws.specs.Calls.{is_call, is_active, posted_up_to, sent_packet, took_reply, rolled_back}
use Rattle.rpc_laws.specs.NodeLists.{asked_after}
use Rattle.rpc_laws.specs.Sessions.{is_client, comes_to, connects, has_call, begins, posts, sends}
use Rattle.rpc_laws.specs.Sessions.{takes, rolls, breaks, ends, clients_after}
use Rattle.node_laws.proofs.Allowed.{Allowed}
use Rattle.node_laws.proofs.NumberLemmas.{by_number}
use Rattle.node_laws.proofs.SpendLemmas.{none-spent, remaining, remaining-kept, calls-kept}
use Rattle.node_laws.proofs.SpendLemmas.{remaining-asked, remaining-made, remaining-opened}
use Rattle.node_laws.proofs.SpendLemmas.{remaining-told, remaining-spent, ends-less, always, to_end}
use Rattle.node_laws.proofs.SpendLemmas.{begins-same}
use Rattle.node_laws.proofs.Places.{Place}
use Rattle.node_laws.specs.Valid.{to_come, Valid}

module _ (number : ℕ) (s : Lists) (v : Valid s) where
  ended-spends : (c session : ℕ) (x : Client) (d : Call) → Place s.clients session x d
      → c ≡ d.what.number → cond (c == number) 1 0
      + (remaining number always (at_first (has_call c) (ends c) s.clients)
      + to_come s.asked number) ≤ remaining number always s.clients + to_come s.asked number
  ended-spends c session x d place same =
      let own = by_number s session x d v place in
      let client : find (has_call c) s.clients ≡ Some x = rw same own.client in
      let call : find (is_call c) x.calls ≡ Some d = rw same own.call in
      remaining-spent number always (cond (c == number) 1 0) (to_come s.asked number) (has_call c)
      (ends c) s.clients x client (ends-less number c x d call (sym same))

pub end-spends : (number clock : ℕ) (e : Event) (bytes : List ℕ) (head : Option MessageHeader)
    (body : List ℕ) (s : Lists) → Valid s → to_end number s ≤ 1 → Allowed s e
    → cond (ends_call number e) 1 0 + (remaining number always
    (clients_after clock e bytes head body s.clients) + to_come (asked_after e s.asked) number)
    ≤ to_end number s
end-spends number clock (PairedClient n peer t credits life) bytes head body s v h a =
    remaining-made number always n peer t credits life (to_come s.asked number) s.clients
end-spends number clock (Opened n peer credits) bytes head body s v h a =
    remaining-opened number always n peer credits (to_come s.asked number) s.clients
end-spends number clock (FailedNoRoom n) bytes head body s v h a =
    remaining-kept number always (is_client n) (comes_to Failed) s.clients (to_come s.asked number) (λ x. omega arith)
end-spends number clock (FailedNoAnswer n) bytes head body s v h a =
    remaining-kept number always (is_client n) (comes_to Failed) s.clients (to_come s.asked number) (λ x. omega arith)
end-spends number clock (BeginsClosing n) bytes head body s v h a =
    remaining-kept number always (is_client n) (comes_to Closing) s.clients (to_come s.asked number)
    (λ x. omega arith)
end-spends number clock (ClosedHeard n) bytes head body s v h a =
    remaining-kept number always (is_client n) (comes_to Closed) s.clients (to_come s.asked number) (λ x. omega arith)
end-spends number clock (ClosedUnheard n) bytes head body s v h a =
    remaining-kept number always (is_client n) (comes_to Closed) s.clients (to_come s.asked number) (λ x. omega arith)
end-spends number clock (IsConnected n t life) bytes head body s v h a =
    remaining-kept number always (is_client n) (connects t life) s.clients (to_come s.asked number) (λ x. omega arith)
end-spends number clock (Sent peer Control k) bytes head body s v h a =
    remaining-told number always clock (to_come s.asked number) (control_of bytes) s.clients
end-spends number clock (Asked c n y room) bytes head body s v h a =
    remaining-asked number always s.asked c n y room bytes s.clients a.next h
end-spends number clock (Begun c r) bytes head body s v h a =
    remaining-kept number always (has_call c) (begins c r) s.clients (to_come s.asked number) (begins-same number c r)
end-spends number clock (Posted (Ask n r) k) bytes head body s v h a =
    remaining-kept number always (is_client n) (posts r k) s.clients (to_come s.asked number)
    (λ x. calls-kept number always (is_active r) (posted_up_to k) x.calls (λ o. refl))
end-spends number clock (Sent peer (Ask n r) k) bytes head body s v h a =
    remaining-kept number always (is_client n) (sends clock r k) s.clients (to_come s.asked number)
    (λ x. calls-kept number always (is_active r) (sent_packet clock k) x.calls (λ o. refl))
end-spends number clock (Took (Ask n r) k) bytes head body s v h a =
    remaining-kept number always (is_client n)
    (takes clock r head body) s.clients (to_come s.asked number)
    (λ x. calls-kept number always (is_active r)
    (took_reply clock head body) x.calls (λ o. refl))
end-spends number clock (Rolled c posted got) bytes head body s v h a =
    remaining-kept number always (has_call c)
    (rolls c posted got) s.clients (to_come s.asked number)
    (λ x. calls-kept number always (is_call c) (rolled_back got) x.calls (λ o. refl))
end-spends number clock (Broken n) bytes head body s v h a =
    remaining-kept number always (is_client n) breaks s.clients (to_come s.asked number) (λ x. omega arith)
end-spends number clock (DoneOk c) bytes head body s v h a =
    ended-spends number s v c a.session a.client a.call a.active.place a.same
end-spends number clock (DoneTooSmall c size) bytes head body s v h a =
    ended-spends number s v c a.session a.client a.call a.active.place a.same
end-spends number clock (DonePeerLost c) bytes head body s v h a =
    ended-spends number s v c a.session a.client a.call a.place a.same
end-spends number clock _ bytes head body s v h a = none-spent (to_end number s)

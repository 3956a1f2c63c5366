-- The table holds each call that was asked and isn't over, once.
use Rattle.std.proofs.Common.{◌≡◌, ℕ, ◌+◌, ◌≤◌, Bool, true, false, ◌||◌, cond, leb, Option, Some}
use Rattle.std.proofs.Common.{None, List, [], ◌∷◌, refl, ap, arith}
use Rattle.std.specs.Prelude.{◌==◌, count_by, sum_by}
use Rattle.std.specs.List.{find, list_any}
use Rattle.std.proofs.lemmas.Bool.{or_parts}
use Rattle.std.proofs.lemmas.Bool.Decides.{nat_tests}
use Rattle.std.proofs.lemmas.List.Sums.{sum_by-cons, sum_by_push}
use Rattle.packet_header.specs.declared.packet.MessageHeader.{MessageHeader}
use Rattle.rpc_base.specs.Tables.{at_first}
use Rattle.rpc_base.specs.declared.event.Event.{Event}
use Rattle.rpc_base.specs.declared.event.Event.TheVariants.{PairedClient, Opened}
use Rattle.rpc_base.specs.declared.event.Event.TheVariants.{Connected as IsConnected, FailedNoRoom}
use Rattle.rpc_base.specs.declared.event.Event.TheVariants.{FailedNoAnswer}
use Rattle.rpc_base.specs.declared.event.Event.TheVariants.{Closing as BeginsClosing, ClosedHeard}
use Rattle.rpc_base.specs.declared.event.Event.TheVariants.{ClosedUnheard, Asked, Begun, Posted}
use Rattle.rpc_base.specs.declared.event.Event.TheVariants.{Sent, Took, Rolled, Broken, DoneOk}
use Rattle.rpc_base.specs.declared.event.Event.TheVariants.{DoneTooSmall, DonePeerLost}
use Rattle.rpc_base.specs.declared.owner.Owner.TheVariants.{Ask, Control}
use Rattle.rpc_base.specs.declared.state.SessionState.TheVariants.{Closing, Closed, Failed}
use Rattle.rpc_laws.specs.Front.{control_of}
use Rattle.packet_header.specs.declared.packet.ControlHeader.{ControlHeader}
use Rattle.node_laws.proofs.ToldSame.{told-same}
use Rattle.rpc_laws.specs.declared.tables.Call.{Call}
use Rattle.rpc_laws.specs.declared.tables.Client.{Client}
use Rattle.rpc_laws.specs.declared.tables.Lists.{Lists}
use Rattle.rpc_laws.specs.AtMostOnce.{ends_call}
use Rattle.rpc_laws.specs.Calls.{is_call, is_active, moved, begun, posted_up_to, sent_packet, took_reply, rolled_back}
use Rattle.rpc_laws.specs.NodeLists.{asked_after}
use Rattle.rpc_laws.specs.Sessions.{is_client, has_call, client_end, opened_end, comes_to, connects}
use Rattle.rpc_laws.specs.Sessions.{clients_told, requests, asks, begins, posts, sends, takes}
use Rattle.rpc_laws.specs.Sessions.{rolls, breaks, ends, clients_after}
use Rattle.node_laws.specs.CallHistory.{asks_call}
use Rattle.node_laws.proofs.Allowed.{Allowed, MayAsk}
use Rattle.node_laws.proofs.NumberLemmas.{by_number}
use Rattle.rpc_base.proofs.FirstLemmas.{none-counted, sum-changed, sum-left}
use Rattle.node_laws.proofs.Places.{Place}
use Rattle.node_laws.specs.Valid.{holders, to_come, Valid}

-- a sum that a change leaves as it is
module _ {A : Type 0} (p : A → Bool) (f : A → A) (g : A → ℕ) (same : (x : A) → g (f x) ≡ g x) where
  same-cons : (y : A) (ys : List A) (b : Bool) → g (f y) ≡ g y
      → sum_by g (at_first p f ys) ≡ sum_by g ys
      → sum_by g (cond b (f y ∷ ys) (y ∷ at_first p f ys)) ≡ sum_by g (y ∷ ys)
  same-cons y ys true h ih = omega (arith, sum_by-cons g (f y) ys, sum_by-cons g y ys)
  same-cons y ys false h ih = omega (arith, sum_by-cons g y (at_first p f ys), sum_by-cons g y ys)

  pub sum-same : (xs : List A) → sum_by g (at_first p f xs) ≡ sum_by g xs
  sum-same [] = refl
  sum-same (y ∷ ys) = same-cons y ys (p y) (same y) (sum-same ys)

module _ (c : ℕ) where
  -- the calls of number c on a session
  abbrev has : Client → ℕ
  has x = count_by (is_call c) x.calls

  -- whether a call has it
  abbrev one : Call → ℕ
  one d = cond (is_call c d) 1 0

  kept : (p : Client → Bool) (f : Client → Client) → ((x : Client) → has (f x) ≡ has x)
      → (xs : List Client) → holders c (at_first p f xs) + 0 ≡ holders c xs + 0
  kept p f same xs = ap (λ n. n + 0) (sum-same p f has same xs)

  calls-same : (p : Call → Bool) (f : Call → Call) → ((d : Call) → (f d).what ≡ d.what)
      → (calls : List Call) → sum_by one (at_first p f calls) ≡ sum_by one calls
  calls-same p f same calls = sum-same p f one (λ d. rw (same d) refl) calls

  asked-one : (i m y room : ℕ) (bytes : List ℕ) (s : Lists) → MayAsk s i m
      → holders c (at_first (is_client m) (asks
      (record { number = i; req_type = y; room = room; ask = bytes })) s.clients) + 0
      ≡ holders c s.clients + cond (i == c) 1 0
  asked-one i m y room bytes s a =
      let sums = sum-changed (is_client m) (asks
      (record { number = i; req_type = y; room = room; ask = bytes })) has s.clients
      a.client a.found in
      let push = sum_by_push one a.client.calls
      (record {
        what = record { number = i; req_type = y; room = room; ask = bytes };
        progress = None;
      }) in
      omega arith

  ended-one : (i session : ℕ) (x : Client) (d : Call) (s : Lists) → Valid s
      → Place s.clients session x d → i ≡ d.what.number
      → holders c (at_first (has_call i) (ends i) s.clients) + cond (i == c) 1 0
      ≡ holders c s.clients + 0
  ended-one i session x d s v place same =
      let own = by_number s session x d v place in
      let client : find (has_call i) s.clients ≡ Some x = rw same own.client in
      let call : find (is_call i) x.calls ≡ Some d = rw same own.call in
      let sums = sum-changed (has_call i) (ends i) has s.clients x client in
      let left = sum-left (is_call i) one x.calls d call in
      let here : ◌≡◌ {A = ℕ} (cond (i == c) 1 0) (cond (is_call c d) 1 0) = ap (λ (n : ℕ). cond (n == c) 1 0) same in
      omega arith

  told-held : (clock : ℕ) (o : Option ControlHeader) (xs : List Client)
      → holders c (clients_told clock o xs) + 0 ≡ holders c xs + 0
  told-held clock None xs = refl
  told-held clock (Some h) xs = kept (is_client h.client) (requests clock h) (λ x. told-same has clock h x refl) xs

  pub holders-after : (clock : ℕ) (e : Event) (bytes : List ℕ) (head : Option MessageHeader)
      (body : List ℕ) (s : Lists) → Valid s → Allowed s e
      → holders c (clients_after clock e bytes head body s.clients) + cond (ends_call c e) 1 0
      ≡ holders c s.clients + cond (asks_call c e) 1 0
  holders-after clock (PairedClient i peer t credits life) bytes head body s v a =
      let push = sum_by_push has s.clients (client_end i peer t credits life) in omega arith
  holders-after clock (Opened i peer credits) bytes head body s v a =
      let push = sum_by_push has s.clients (opened_end i peer credits) in omega arith
  holders-after clock (FailedNoRoom n) bytes head body s v a =
      kept (is_client n) (comes_to Failed) (λ x. refl) s.clients
  holders-after clock (FailedNoAnswer n) bytes head body s v a =
      kept (is_client n) (comes_to Failed) (λ x. refl) s.clients
  holders-after clock (BeginsClosing n) bytes head body s v a =
      kept (is_client n) (comes_to Closing) (λ x. refl) s.clients
  holders-after clock (ClosedHeard n) bytes head body s v a =
      kept (is_client n) (comes_to Closed) (λ x. refl) s.clients
  holders-after clock (ClosedUnheard n) bytes head body s v a =
      kept (is_client n) (comes_to Closed) (λ x. refl) s.clients
  holders-after clock (IsConnected n t life) bytes head body s v a =
      kept (is_client n) (connects t life) (λ x. refl) s.clients
  holders-after clock (Sent peer Control k) bytes head body s v a = told-held clock (control_of bytes) s.clients
  holders-after clock (Asked i m y room) bytes head body s v a = asked-one i m y room bytes s a
  holders-after clock (Begun i r) bytes head body s v a =
      kept (has_call i) (begins i r) (λ x. calls-same (is_call i) (begun r) (λ d. refl) x.calls) s.clients
  holders-after clock (Posted (Ask m r) k) bytes head body s v a =
      kept (is_client m) (posts r k) (λ x. calls-same (is_active r) (moved (posted_up_to k))
      (λ d. refl) x.calls) s.clients
  holders-after clock (Sent peer (Ask m r) k) bytes head body s v a =
      kept (is_client m) (sends clock r k) (λ x. calls-same (is_active r)
      (moved (sent_packet clock k)) (λ d. refl) x.calls) s.clients
  holders-after clock (Took (Ask m r) k) bytes head body s v a =
      kept (is_client m) (takes clock r head body)
      (λ x. calls-same (is_active r) (moved (took_reply clock head body)) (λ d. refl) x.calls)
      s.clients
  holders-after clock (Rolled i posted got) bytes head body s v a =
      kept (has_call i) (rolls i posted got) (λ x. calls-same (is_call i) (moved (rolled_back got))
      (λ d. refl) x.calls) s.clients
  holders-after clock (Broken m) bytes head body s v a = kept (is_client m) breaks (λ x. refl) s.clients
  holders-after clock (DoneOk i) bytes head body s v a =
      ended-one i a.session a.client a.call s v a.active.place a.same
  holders-after clock (DoneTooSmall i size) bytes head body s v a =
      ended-one i a.session a.client a.call s v a.active.place a.same
  holders-after clock (DonePeerLost i) bytes head body s v a =
      ended-one i a.session a.client a.call s v a.place a.same
  holders-after clock _ bytes head body s v a = refl

  given : (asked i : ℕ) → i ≡ asked → cond (i == c) 1 0 + cond (leb (asked + 1) c) 1 0 ≤ cond (leb asked c) 1 0
  given asked i e = grind (arith, nat_tests)

  -- a call is asked once
  pub asks-after : (e : Event) (s : Lists) → Allowed s e
      → cond (asks_call c e) 1 0 + to_come (asked_after e s.asked) c ≤ to_come s.asked c
  asks-after (Asked i m y room) s a = given s.asked i a.next
  asks-after _ s a = omega arith

  -- no call is counted where no session has one
  held-cons : (x : Client) (xs : List Client)
      → (list_any (has_call c) xs ≡ false → holders c xs ≡ 0)
      → (has_call c x || list_any (has_call c) xs) ≡ false → holders c (x ∷ xs) ≡ 0
  held-cons x xs ih e =
      let parts = or_parts (has_call c x) (list_any (has_call c) xs) e in
      omega (arith, none-counted (is_call c) x.calls parts.0, ih parts.1, sum_by-cons has x xs)

  pub none-held : (xs : List Client) → list_any (has_call c) xs ≡ false → holders c xs ≡ 0
  none-held [] e = refl
  none-held (x ∷ xs) e = held-cons x xs (none-held xs) e

-- How many calls were accepted is how many the sessions count together.
use Rattle.std.proofs.Common.{◌≡◌, ℕ, Option, Some, None, List, refl, ◌∙◌, arith}
use Rattle.std.specs.Prelude.{sum_by}
use Rattle.std.specs.List.{AllByRecursion}
use Rattle.std.proofs.lemmas.List.Sums.{sum_by_push}
use Rattle.packet_header.specs.declared.packet.ControlHeader.{ControlHeader}
use Rattle.packet_header.specs.declared.packet.MessageHeader.{MessageHeader}
use Rattle.rpc_base.specs.declared.event.Event.{Event}
use Rattle.rpc_base.specs.declared.event.Event.TheVariants.{PairedClient, Opened}
use Rattle.rpc_base.specs.declared.event.Event.TheVariants.{Connected as IsConnected, FailedNoRoom}
use Rattle.rpc_base.specs.declared.event.Event.TheVariants.{FailedNoAnswer}
use Rattle.rpc_base.specs.declared.event.Event.TheVariants.{Closing as BeginsClosing, ClosedHeard}
use Rattle.rpc_base.specs.declared.event.Event.TheVariants.{ClosedUnheard, Asked, Begun, Posted}
use Rattle.rpc_base.specs.declared.event.Event.TheVariants.{Sent, Took, Rolled, Broken, DoneOk}
use Rattle.rpc_base.specs.declared.event.Event.TheVariants.{DoneTooSmall, DonePeerLost}
use Rattle.rpc_base.specs.declared.owner.Owner.TheVariants.{Ask, Control}
use Rattle.rpc_base.specs.declared.state.SessionState.TheVariants.{Closing, Closed, Failed}
use Rattle.rpc_base.proofs.FirstLemmas.{all-changed, all-kept, all-push, sum-changed}
use Rattle.rpc_laws.specs.declared.tables.Asking.{Asking}
use Rattle.rpc_laws.specs.declared.tables.Client.{Client}
use Rattle.rpc_laws.specs.declared.tables.Lists.{Lists}
use Rattle.rpc_laws.specs.Front.{control_of}
use Rattle.rpc_laws.specs.NodeLists.{asked_after}
use Rattle.rpc_laws.specs.Sessions.{is_client, has_call, client_end, opened_end, comes_to, connects}
use Rattle.rpc_laws.specs.Sessions.{requests, clients_told, asks, begins, posts, sends, takes, rolls}
use Rattle.rpc_laws.specs.Sessions.{breaks, ends, clients_after}
use Rattle.node_laws.specs.Kept.{AsksFew, asked_on}
use Rattle.node_laws.proofs.Allowed.{Allowed, MayAsk}
use Rattle.node_laws.proofs.CountLemmas.{sum-same}
use Rattle.node_laws.proofs.ToldSame.{told-same}

-- a change of one session that leaves its count
abbrev all_asked : List Client → ℕ
all_asked xs = sum_by asked_on xs

told-asked : (clock : ℕ) (o : Option ControlHeader) (xs : List Client)
    → all_asked (clients_told clock o xs) ≡ all_asked xs
told-asked clock None xs = refl
told-asked clock (Some c) xs =
    sum-same (is_client c.client) (requests clock c) asked_on (λ x. told-same asked_on clock c x refl) xs

module _ (clock : ℕ) (s : Lists) (bytes : List ℕ) (head : Option MessageHeader) (body : List ℕ) where
  abbrev Goes : Event → Type 0
  Goes e = all_asked (clients_after clock e bytes head body s.clients)
      ≡ asked_after e s.asked

  asks-one : (c n y room : ℕ) → MayAsk s c n → all_asked s.clients ≡ s.asked
      → Goes (Asked c n y room)
  asks-one c n y room may all =
      let a : Asking = record { number = c; req_type = y; room = room; ask = bytes } in
      omega (arith, sum-changed (is_client n) (asks a) asked_on s.clients may.client may.found, all)

  pub asked-after : (e : Event) → Allowed s e → all_asked s.clients ≡ s.asked → Goes e
  asked-after (PairedClient n peer t credits life) may h =
      omega (arith, sum_by_push asked_on s.clients (client_end n peer t credits life), h)
  asked-after (Opened n peer credits) may h =
      omega (arith, sum_by_push asked_on s.clients (opened_end n peer credits), h)
  asked-after (FailedNoRoom n) may h =
      sum-same (is_client n) (comes_to Failed) asked_on (λ x. refl) s.clients ∙ h
  asked-after (FailedNoAnswer n) may h =
      sum-same (is_client n) (comes_to Failed) asked_on (λ x. refl) s.clients ∙ h
  asked-after (BeginsClosing n) may h =
      sum-same (is_client n) (comes_to Closing) asked_on (λ x. refl) s.clients ∙ h
  asked-after (ClosedHeard n) may h =
      sum-same (is_client n) (comes_to Closed) asked_on (λ x. refl) s.clients ∙ h
  asked-after (ClosedUnheard n) may h =
      sum-same (is_client n) (comes_to Closed) asked_on (λ x. refl) s.clients ∙ h
  asked-after (IsConnected n t life) may h =
      sum-same (is_client n) (connects t life) asked_on (λ x. refl) s.clients ∙ h
  asked-after (Sent peer Control k) may h = told-asked clock (control_of bytes) s.clients ∙ h
  asked-after (Asked c n y room) may h = asks-one c n y room may h
  asked-after (Begun c r) may h =
      sum-same (has_call c) (begins c r) asked_on (λ x. refl) s.clients ∙ h
  asked-after (Posted (Ask n r) k) may h =
      sum-same (is_client n) (posts r k) asked_on (λ x. refl) s.clients ∙ h
  asked-after (Sent peer (Ask n r) k) may h =
      sum-same (is_client n) (sends clock r k) asked_on (λ x. refl) s.clients ∙ h
  asked-after (Took (Ask n r) k) may h =
      sum-same (is_client n) (takes clock r head body) asked_on (λ x. refl) s.clients ∙ h
  asked-after (Rolled c posted got) may h =
      sum-same (has_call c) (rolls c posted got) asked_on (λ x. refl) s.clients ∙ h
  asked-after (Broken n) may h =
      sum-same (is_client n) (breaks) asked_on (λ x. refl) s.clients ∙ h
  asked-after (DoneOk c) may h =
      sum-same (has_call c) (ends c) asked_on (λ x. refl) s.clients ∙ h
  asked-after (DoneTooSmall c size) may h =
      sum-same (has_call c) (ends c) asked_on (λ x. refl) s.clients ∙ h
  asked-after (DonePeerLost c) may h =
      sum-same (has_call c) (ends c) asked_on (λ x. refl) s.clients ∙ h
  asked-after _ may h = h

-- none counts more than it may
few-told : (clock : ℕ) (o : Option ControlHeader) (xs : List Client) → AllByRecursion AsksFew xs
    → AllByRecursion AsksFew (clients_told clock o xs)
few-told clock None xs h = h
few-told clock (Some c) xs h =
    all-kept (is_client c.client) (requests clock c) AsksFew xs
    (λ x few _. omega (arith, told-same asked_on clock c x refl, few)) h

module _ (clock : ℕ) (s : Lists) (bytes : List ℕ) (head : Option MessageHeader) (body : List ℕ) where
  asks-few : (c n y room : ℕ) → MayAsk s c n → AllByRecursion AsksFew s.clients
      → AllByRecursion AsksFew (clients_after clock (Asked c n y room) bytes head body s.clients)
  asks-few c n y room may h =
      all-changed (is_client n) (asks (record { number = c; req_type = y; room = room; ask = bytes }))
      AsksFew s.clients may.client may.found (λ few. omega (arith, may.few)) h

  pub few-after : (e : Event) → Allowed s e → AllByRecursion AsksFew s.clients
      → AllByRecursion AsksFew (clients_after clock e bytes head body s.clients)
  few-after (PairedClient n peer t credits life) may h =
      all-push AsksFew s.clients (client_end n peer t credits life) h (omega arith)
  few-after (Opened n peer credits) may h =
      all-push AsksFew s.clients (opened_end n peer credits) h (omega arith)
  few-after (FailedNoRoom n) may h =
      all-kept (is_client n) (comes_to Failed) AsksFew s.clients (λ x few _. few) h
  few-after (FailedNoAnswer n) may h =
      all-kept (is_client n) (comes_to Failed) AsksFew s.clients (λ x few _. few) h
  few-after (BeginsClosing n) may h =
      all-kept (is_client n) (comes_to Closing) AsksFew s.clients (λ x few _. few) h
  few-after (ClosedHeard n) may h =
      all-kept (is_client n) (comes_to Closed) AsksFew s.clients (λ x few _. few) h
  few-after (ClosedUnheard n) may h =
      all-kept (is_client n) (comes_to Closed) AsksFew s.clients (λ x few _. few) h
  few-after (IsConnected n t life) may h =
      all-kept (is_client n) (connects t life) AsksFew s.clients (λ x few _. few) h
  few-after (Sent peer Control k) may h = few-told clock (control_of bytes) s.clients h
  few-after (Asked c n y room) may h = asks-few c n y room may h
  few-after (Begun c r) may h =
      all-kept (has_call c) (begins c r) AsksFew s.clients (λ x few _. few) h
  few-after (Posted (Ask n r) k) may h =
      all-kept (is_client n) (posts r k) AsksFew s.clients (λ x few _. few) h
  few-after (Sent peer (Ask n r) k) may h =
      all-kept (is_client n) (sends clock r k) AsksFew s.clients (λ x few _. few) h
  few-after (Took (Ask n r) k) may h =
      all-kept (is_client n) (takes clock r head body) AsksFew s.clients (λ x few _. few) h
  few-after (Rolled c posted got) may h =
      all-kept (has_call c) (rolls c posted got) AsksFew s.clients (λ x few _. few) h
  few-after (Broken n) may h =
      all-kept (is_client n) (breaks) AsksFew s.clients (λ x few _. few) h
  few-after (DoneOk c) may h =
      all-kept (has_call c) (ends c) AsksFew s.clients (λ x few _. few) h
  few-after (DoneTooSmall c size) may h =
      all-kept (has_call c) (ends c) AsksFew s.clients (λ x few _. few) h
  few-after (DonePeerLost c) may h =
      all-kept (has_call c) (ends c) AsksFew s.clients (λ x few _. few) h
  few-after _ may h = h

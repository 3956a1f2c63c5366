-- No reply is taken of a request number that may still be given out.
use Rattle.std.proofs.Common.{◌≡◌, ℕ, ◌/◌, ◌%◌, ◌≤◌, Bool, true, false, ◌&&◌, cond, ltb, Option}
use Rattle.std.proofs.Common.{Some, None, List, [], ◌∷◌, ◌++◌, refl, ◌∙◌, inl, inr, arith}
use Rattle.std.specs.Prelude.{◌==◌, ◌⊎◌, count_by, slice_index}
use Rattle.std.specs.List.{AllByRecursion, find}
use Rattle.std.proofs.lemmas.Bool.{eqb-true, eq-eqb, and_parts}
use Rattle.packet_header.specs.declared.packet.ControlHeader.{ControlHeader}
use Rattle.packet_header.specs.declared.packet.MessageHeader.{MessageHeader}
use Rattle.rpc_base.specs.Tables.{at_first}
use Rattle.rpc_base.specs.declared.event.Event.{Event}
use Rattle.rpc_base.specs.declared.event.Event.TheVariants.{PairedClient, Opened}
use Rattle.rpc_base.specs.declared.event.Event.TheVariants.{Connected as IsConnected, FailedNoRoom}
use Rattle.rpc_base.specs.declared.event.Event.TheVariants.{FailedNoAnswer}
use Rattle.rpc_base.specs.declared.event.Event.TheVariants.{Closing as BeginsClosing, ClosedHeard}
use Rattle.rpc_base.specs.declared.event.Event.TheVariants.{ClosedUnheard, Asked, Begun, Posted}
use Rattle.rpc_base.specs.declared.event.Event.TheVariants.{Sent, Took, Rolled, Broken, DoneOk}
use Rattle.rpc_base.specs.declared.event.Event.TheVariants.{DoneTooSmall, DonePeerLost}
use Rattle.rpc_base.specs.declared.fact.Fact.{Fact}
use Rattle.rpc_base.specs.declared.owner.Owner.TheVariants.{Ask, Control}
use Rattle.rpc_base.specs.declared.state.SessionState.TheVariants.{Closing, Closed, Failed}
use Rattle.rpc_laws.specs.declared.tables.Client.{Client}
use Rattle.rpc_laws.specs.declared.tables.Lists.{Lists}
use Rattle.rpc_laws.specs.Calls.{has_request, is_active}
use Rattle.rpc_laws.specs.Front.{control_of, front_header, front_body}
use Rattle.rpc_laws.specs.NodeLists.{after}
use Rattle.rpc_laws.specs.Sessions.{is_client, has_call, client_end, opened_end, comes_to, connects}
use Rattle.rpc_laws.specs.Sessions.{requests, clients_told, no_turns, asks, begins, posts, sends}
use Rattle.rpc_laws.specs.Sessions.{takes, rolls, breaks, ends, clients_after}
use Rattle.node_laws.specs.CallHistory.{takes_of}
use Rattle.node_laws.specs.Valid.{EightTurns}
use Rattle.node_laws.proofs.Allowed.{Allowed, MayTake}
use Rattle.rpc_base.proofs.FindLemmas.{changed-le}
use Rattle.node_laws.proofs.OpenLemmas.{future-le, open_of, open_for}
use Rattle.rpc_base.proofs.FirstLemmas.{found-holds, some-counted}
use Rattle.node_laws.proofs.ToldLemmas.{future_of, future_for, NoneTaken}
use Rattle.node_laws.proofs.TellLemmas.{count-new}
use Rattle.node_laws.proofs.ToldSame.{told-same}

module _ (n r : ℕ) where
  made-by : (b : Bool) (x : Client) (o p : Option Client) → future_of r p ≤ future_of r o
      → future_of r (cond b (Some x) p) ≤ future_of r (cond b (Some x) o)
  made-by true x o p h = omega arith
  made-by false x o p h = h

  new-by : (b : Bool) (x : Client) → future_of r (Some x) ≤ 1 → future_of r (cond b (Some x) None) ≤ 1
  new-by true x h = h
  new-by false x h = omega arith

  one-future : (b : Bool) → ◌≤◌ (cond b 0 1) 1
  one-future true = omega arith
  one-future false = omega arith

  -- one more session, in which no request began
  pushed-le : (y : Client) (xs : List Client) → future_of r (Some y) ≤ 1
      → future_for n r (xs ++ y ∷ []) ≤ future_for n r xs
  pushed-le y [] h = new-by (is_client n y) y h
  pushed-le y (x ∷ xs) h =
      made-by (is_client n x) x (find (is_client n) xs) (find (is_client n) (xs ++ y ∷ [])) (pushed-le y xs h)

  kept : (p : Client → Bool) (f : Client → Client)
      → ((x : Client) → (f x).way.number ≡ x.way.number) → ((x : Client) → (f x).turns ≡ x.turns)
      → (xs : List Client) → future_for n r (at_first p f xs) ≤ future_for n r xs
  kept p f number turns xs =
      changed-le (future_of r) p f (is_client n) (λ x. rw (number x) refl) xs (λ x _. rw (turns x) (omega arith))

  told-le : (clock : ℕ) (o : Option ControlHeader) (xs : List Client)
      → future_for n r (clients_told clock o xs) ≤ future_for n r xs
  told-le clock None xs = omega arith
  told-le clock (Some h) xs =
      kept (is_client h.client) (requests clock h)
      (λ x. told-same (λ y. y.way.number) clock h x refl)
      (λ x. told-same (λ y. y.turns) clock h x refl) xs

  pub future-after : (clock : ℕ) (e : Event) (bytes : List ℕ) (head : Option MessageHeader)
      (body : List ℕ) (xs : List Client) → AllByRecursion EightTurns xs
      → future_for n r (clients_after clock e bytes head body xs) ≤ future_for n r xs
  future-after clock (PairedClient s peer t credits life) bytes head body xs h =
      pushed-le (client_end s peer t credits life) xs (one-future (ltb (r / 8) (slice_index no_turns (r % 8))))
  future-after clock (Opened s peer credits) bytes head body xs h =
      pushed-le (opened_end s peer credits) xs (one-future (ltb (r / 8) (slice_index no_turns (r % 8))))
  future-after clock (FailedNoRoom m) bytes head body xs h =
      kept (is_client m) (comes_to Failed) (λ x. refl) (λ x. refl) xs
  future-after clock (FailedNoAnswer m) bytes head body xs h =
      kept (is_client m) (comes_to Failed) (λ x. refl) (λ x. refl) xs
  future-after clock (BeginsClosing m) bytes head body xs h =
      kept (is_client m) (comes_to Closing) (λ x. refl) (λ x. refl) xs
  future-after clock (ClosedHeard m) bytes head body xs h =
      kept (is_client m) (comes_to Closed) (λ x. refl) (λ x. refl) xs
  future-after clock (ClosedUnheard m) bytes head body xs h =
      kept (is_client m) (comes_to Closed) (λ x. refl) (λ x. refl) xs
  future-after clock (IsConnected m t life) bytes head body xs h =
      kept (is_client m) (connects t life) (λ x. refl) (λ x. refl) xs
  future-after clock (Sent peer Control k) bytes head body xs h = told-le clock (control_of bytes) xs
  future-after clock (Asked c m y room) bytes head body xs h =
      kept (is_client m) (asks (record { number = c; req_type = y; room = room; ask = bytes }))
      (λ x. refl) (λ x. refl) xs
  future-after clock (Begun c new) bytes head body xs h =
      changed-le (future_of r) (has_call c) (begins c new) (is_client n)
      (λ x. refl) xs (λ x e. future-le r new x.turns
      (found-holds (has_call c) EightTurns xs x h e))
  future-after clock (Posted (Ask m j) k) bytes head body xs h =
      kept (is_client m) (posts j k) (λ x. refl) (λ x. refl) xs
  future-after clock (Sent peer (Ask m j) k) bytes head body xs h =
      kept (is_client m) (sends clock j k) (λ x. refl) (λ x. refl) xs
  future-after clock (Took (Ask m j) k) bytes head body xs h =
      kept (is_client m) (takes clock j head body) (λ x. refl) (λ x. refl) xs
  future-after clock (Rolled c posted got) bytes head body xs h =
      kept (has_call c) (rolls c posted got) (λ x. refl) (λ x. refl) xs
  future-after clock (Broken m) bytes head body xs h = kept (is_client m) breaks (λ x. refl) (λ x. refl) xs
  future-after clock (DoneOk c) bytes head body xs h = kept (has_call c) (ends c) (λ x. refl) (λ x. refl) xs
  future-after clock (DoneTooSmall c size) bytes head body xs h =
      kept (has_call c) (ends c) (λ x. refl) (λ x. refl) xs
  future-after clock (DonePeerLost c) bytes head body xs h = kept (has_call c) (ends c) (λ x. refl) (λ x. refl) xs
  future-after clock _ bytes head body xs h = omega arith

  took-closed : (m j k : ℕ) (s : Lists) → MayTake s m j k → (m == n && j == r) ≡ true
      → open_for n r s.clients ≤ 1 → future_for n r s.clients ≤ 0
  took-closed m j k s a e few =
      let parts = and_parts (m == n) (j == r) e in
      let session : m ≡ n = eqb-true m n parts.0 in
      let request : j ≡ r = eqb-true j r parts.1 in
      let found : find (is_client n) s.clients ≡ Some a.client = rw session at a.active.place.client in
      let own : has_request r a.call.progress ≡ true =
      rw a.active.active (eq-eqb a.progress.request r (a.same ∙ request)) in
      let some = some-counted a.active.place.test (is_active r) a.client.calls a.call a.active.place.call own in
      let one : open_of r (Some a.client) ≤ 1 = rw found at few in
      rw found (omega arith)

  taken-closed : (e : Event) (s : Lists) → Allowed s e → takes_of n r e ≡ true
      → open_for n r s.clients ≤ 1 → future_for n r s.clients ≤ 0
  taken-closed (Took (Ask m j) k) s a e few = took-closed m j k s a e few
  taken-closed _ s a e few = cc

  taken-by : (clock : ℕ) (past : List Fact) (f : Fact) (s : Lists)
      → future_for n r (after clock s f).clients ≤ future_for n r s.clients → (b : Bool)
      → takes_of n r f.event ≡ b → (b ≡ true → future_for n r s.clients ≤ 0)
      → (count_by (λ g. takes_of n r g.event) past ≡ 0) ⊎ (future_for n r s.clients ≤ 0)
      → (count_by (λ g. takes_of n r g.event) (f ∷ past) ≡ 0)
      ⊎ (future_for n r (after clock s f).clients ≤ 0)
  taken-by clock past f s less true t closed k = let over = closed refl in inr (omega arith)
  taken-by clock past f s less false t closed (inl none) = let count = count-new (takes_of n r) f past false t in inl (omega arith)
  taken-by clock past f s less false t closed (inr over) = inr (omega arith)

pub none-taken-after : (clock : ℕ) (past : List Fact) (f : Fact) (s : Lists) → NoneTaken past s
    → AllByRecursion EightTurns s.clients → ((n r : ℕ) → open_for n r s.clients ≤ 1)
    → Allowed s f.event → NoneTaken (f ∷ past) (after clock s f)
none-taken-after clock past f s k eight few a = record {
  taken = λ n r. taken-by n r clock past f s (future-after n r clock f.event f.first
      (front_header s.ring) (front_body s.ring) s.clients eight)
      (takes_of n r f.event) refl (λ t. taken-closed n r f.event s a t (few n r)) (k.taken n r);
}

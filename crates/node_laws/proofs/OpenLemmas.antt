-- Whether request r of session n is active or may still begin: once it isn't, it never is again.
use Rattle.std.proofs.Common.{◌≡◌, ℕ, ◌+◌, ◌*◌, ◌/◌, ◌%◌, ◌≤◌, ◌<◌, Bool, true, false, cond, ltb}
use Rattle.std.proofs.Common.{Option, Some, None, List, [], ◌∷◌, ◌++◌, length, refl, ap, ◌∙◌, arith}
use Rattle.std.specs.Prelude.{◌==◌, count_by, slice_index}
use Rattle.std.specs.List.{AllByRecursion, find}
use Rattle.std.proofs.lemmas.Bool.{eqb-true, eqb-false}
use Rattle.std.proofs.lemmas.Bool.Decides.{nat_tests}
use Rattle.std.proofs.lemmas.List.{get_or-set_same, get_or-set_other, length-set}
use Rattle.std.proofs.lemmas.List.Sums.{sum_by_push}
use Rattle.packet_header.specs.declared.packet.ControlHeader.{ControlHeader}
use Rattle.packet_header.specs.declared.packet.MessageHeader.{MessageHeader}
use Rattle.rpc_base.specs.Tables.{at_first}
use Rattle.rpc_base.specs.declared.event.Event.{Event}
use Rattle.rpc_base.specs.declared.event.Event.TheVariants.{PairedClient, Opened}
use Rattle.rpc_base.specs.declared.event.Event.TheVariants.{Connected as IsConnected, FailedNoRoom}
use Rattle.rpc_base.specs.declared.event.Event.TheVariants.{FailedNoAnswer}
use Rattle.rpc_base.specs.declared.event.Event.TheVariants.{Closing as BeginsClosing, ClosedHeard}
use Rattle.rpc_base.specs.declared.event.Event.TheVariants.{ClosedUnheard, Asked, Begun, Posted}
use Rattle.rpc_base.specs.declared.event.Event.TheVariants.{Sent, Took, Rolled, Broken, DoneOk}
use Rattle.rpc_base.specs.declared.event.Event.TheVariants.{DoneTooSmall, DonePeerLost}
use Rattle.rpc_base.specs.declared.owner.Owner.TheVariants.{Ask, Control}
use Rattle.rpc_base.specs.declared.state.SessionState.TheVariants.{Closing, Closed, Failed}
use Rattle.rpc_laws.specs.declared.tables.Asking.{Asking}
use Rattle.rpc_laws.specs.declared.tables.Call.{Call}
use Rattle.rpc_laws.specs.declared.tables.Client.{Client}
use Rattle.rpc_laws.specs.declared.tables.Lists.{Lists}
use Rattle.rpc_laws.specs.declared.tables.Progress.{Progress}
use Rattle.rpc_laws.specs.Calls.{is_call, has_request, is_active, moved, begun, posted_up_to}
use Rattle.rpc_laws.specs.Calls.{sent_packet, took_reply, rolled_back}
use Rattle.rpc_laws.specs.Front.{control_of}
use Rattle.rpc_laws.specs.Sessions.{is_client, has_call, client_end, opened_end, comes_to, connects}
use Rattle.rpc_laws.specs.Sessions.{requests, clients_told, no_turns, turned, asks, begins, posts}
use Rattle.rpc_laws.specs.Sessions.{sends, takes, rolls, breaks, ends, clients_after}
use Rattle.node_laws.proofs.Allowed.{Allowed, MayBegin}
use Rattle.rpc_base.proofs.FindLemmas.{changed-le}
use Rattle.node_laws.proofs.NumberLemmas.{by_number}
use Rattle.node_laws.proofs.SoundLemmas.{sent-request, took-request}
use Rattle.rpc_base.proofs.FirstLemmas.{found-holds, all-push, all-kept, sum-changed, sum-grown, sum-fewer}
use Rattle.node_laws.proofs.ToldSame.{told-same}
use Rattle.node_laws.specs.Valid.{EightTurns, Valid}
use Rattle.node_laws.proofs.WindowLemmas.{same-request, same-found}

turns-told : (clock : ℕ) (o : Option ControlHeader) (xs : List Client)
    → AllByRecursion EightTurns xs → AllByRecursion EightTurns (clients_told clock o xs)
turns-told clock None xs h = h
turns-told clock (Some c) xs h =
    all-kept (is_client c.client) (requests clock c) EightTurns xs
    (λ x i _. told-same (λ y. length y.turns) clock c x refl ∙ i) h

pub turns-after : (clock : ℕ) (e : Event) (bytes : List ℕ) (head : Option MessageHeader)
    (body : List ℕ) (xs : List Client) → AllByRecursion EightTurns xs
    → AllByRecursion EightTurns (clients_after clock e bytes head body xs)
turns-after clock (PairedClient n peer t credits life) bytes head body xs h =
    all-push EightTurns xs (client_end n peer t credits life) h refl
turns-after clock (Opened n peer credits) bytes head body xs h =
    all-push EightTurns xs (opened_end n peer credits) h refl
turns-after clock (FailedNoRoom n) bytes head body xs h =
    all-kept (is_client n) (comes_to Failed) EightTurns xs (λ x i _. i) h
turns-after clock (FailedNoAnswer n) bytes head body xs h =
    all-kept (is_client n) (comes_to Failed) EightTurns xs (λ x i _. i) h
turns-after clock (BeginsClosing n) bytes head body xs h =
    all-kept (is_client n) (comes_to Closing) EightTurns xs (λ x i _. i) h
turns-after clock (ClosedHeard n) bytes head body xs h =
    all-kept (is_client n) (comes_to Closed) EightTurns xs (λ x i _. i) h
turns-after clock (ClosedUnheard n) bytes head body xs h =
    all-kept (is_client n) (comes_to Closed) EightTurns xs (λ x i _. i) h
turns-after clock (IsConnected n t life) bytes head body xs h =
    all-kept (is_client n) (connects t life) EightTurns xs (λ x i _. i) h
turns-after clock (Sent peer Control k) bytes head body xs h = turns-told clock (control_of bytes) xs h
turns-after clock (Asked c n y room) bytes head body xs h =
    all-kept (is_client n) (asks (record { number = c; req_type = y; room = room; ask = bytes }))
    EightTurns xs (λ x k _. k) h
turns-after clock (Begun c r) bytes head body xs h =
    all-kept (has_call c) (begins c r) EightTurns xs
    (λ x k _. length-set x.turns (r % 8) (slice_index x.turns (r % 8) + 1) ∙ k) h
turns-after clock (Posted (Ask n r) k) bytes head body xs h =
    all-kept (is_client n) (posts r k) EightTurns xs (λ x i _. i) h
turns-after clock (Sent peer (Ask n r) k) bytes head body xs h =
    all-kept (is_client n) (sends clock r k) EightTurns xs (λ x i _. i) h
turns-after clock (Took (Ask n r) k) bytes head body xs h =
    all-kept (is_client n) (takes clock r head body) EightTurns xs (λ x i _. i) h
turns-after clock (Rolled c posted got) bytes head body xs h =
    all-kept (has_call c) (rolls c posted got) EightTurns xs (λ x i _. i) h
turns-after clock (Broken n) bytes head body xs h = all-kept (is_client n) breaks EightTurns xs (λ x i _. i) h
turns-after clock (DoneOk c) bytes head body xs h = all-kept (has_call c) (ends c) EightTurns xs (λ x i _. i) h
turns-after clock (DoneTooSmall c size) bytes head body xs h =
    all-kept (has_call c) (ends c) EightTurns xs (λ x i _. i) h
turns-after clock (DonePeerLost c) bytes head body xs h = all-kept (has_call c) (ends c) EightTurns xs (λ x i _. i) h
turns-after clock _ bytes head body xs h = h

module _ (r : ℕ) where
  -- the active calls with request r
  abbrev pub actives : List Call → ℕ
  actives calls = count_by (is_active r) calls

  -- one where the number may still come
  abbrev pub future : List ℕ → ℕ
  future turns = cond (ltb (r / 8) (slice_index turns (r % 8))) 0 1

  -- those, and one where the number may still come
  abbrev pub open_of : Option Client → ℕ
  open_of None = 1
  open_of (Some x) = actives x.calls + future x.turns

  -- a number that was given out
  future-by : (a b : ℕ) → b ≤ a → ◌≤◌ (cond (ltb (r / 8) a) 0 1) (cond (ltb (r / 8) b) 0 1)
  future-by a b h = grind (arith, nat_tests)

  turn-le : (slot : ℕ) (turns : List ℕ) (b : Bool) → (r % 8 == slot) ≡ b → slot < length turns
      → slice_index turns (r % 8) ≤ slice_index (turned slot turns) (r % 8)
  turn-le slot turns true t h =
      let same : r % 8 ≡ slot = eqb-true (r % 8) slot t in
      rw (same, get_or-set_same turns slot (slice_index turns slot + 1) 0 h) (omega arith)
  turn-le slot turns false t h =
      rw (get_or-set_other turns slot (r % 8) (slice_index turns slot + 1) 0 (eqb-false (r % 8) slot t)) (omega arith)

  pub future-le : (new : ℕ) (turns : List ℕ) → length turns ≡ 8 → future (turned (new % 8) turns) ≤ future turns
  future-le new turns e =
      let below : new % 8 < length turns = omega arith in
      future-by (slice_index (turned (new % 8) turns) (r % 8)) (slice_index turns (r % 8))
      (turn-le (new % 8) turns (r % 8 == new % 8) refl below)

  -- the number itself is given out
  pub future-own : (turns : List ℕ) → length turns ≡ 8 → r / 8 ≡ slice_index turns (r % 8)
      → 1 + future (turned (r % 8) turns) ≤ future turns
  future-own turns e turn =
      let below : r % 8 < length turns = omega arith in
      let after = get_or-set_same turns (r % 8) (slice_index turns (r % 8) + 1) 0 below in
      own-by (slice_index (turned (r % 8) turns) (r % 8)) (slice_index turns (r % 8)) after turn
    where
      own-by : (a b : ℕ) → a ≡ b + 1 → r / 8 ≡ b → ◌≤◌ (1 + cond (ltb (r / 8) a) 0 1) (cond (ltb (r / 8) b) 0 1)
      own-by a b h k = grind (arith, nat_tests)

  -- calls that move
  moved-le : (g : Progress → Progress) → ((p : Progress) → (g p).request ≡ p.request)
      → (test : Call → Bool) (calls : List Call)
      → actives (at_first test (moved g) calls) ≤ actives calls + 0
  moved-le g same test calls =
      sum-grown test (moved g) (λ c. cond (is_active r c) 1 0) 0 calls
      (λ c. rw (same-request r g same c.progress) (omega arith))

  open-moved : (g : Progress → Progress) → ((p : Progress) → (g p).request ≡ p.request)
      → (test : Call → Bool) (calls : List Call) (k : ℕ)
      → actives (at_first test (moved g) calls) + k ≤ actives calls + k
  open-moved g same test calls k = let less = moved-le g same test calls in omega arith

  open-asks : (a : Asking) (x : Client) → open_of (Some (asks a x)) ≤ open_of (Some x)
  open-asks a x =
      let push = sum_by_push (λ c. cond (is_active r c) 1 0) x.calls
      (record { what = a; progress = None }) in omega arith

  open-ends : (c : ℕ) (x : Client) → open_of (Some (ends c x)) ≤ open_of (Some x)
  open-ends c x = let fewer = sum-fewer (is_call c) (λ d. cond (is_active r d) 1 0) x.calls in omega arith

  waits-inactive : (o : Option Progress) → o ≡ None → ◌≡◌ {A = ℕ} (cond (has_request r o) 1 0) 0
  waits-inactive o e = rw e refl

  open-begins-by : (c new : ℕ) (x : Client) (d : Call) (b : Bool) → (new == r) ≡ b
      → find (is_call c) x.calls ≡ Some d → d.progress ≡ None → length x.turns ≡ 8
      → new / 8 ≡ slice_index x.turns (new % 8) → open_of (Some (begins c new x)) ≤ open_of (Some x)
  open-begins-by c new x d true t e waits eight turn =
      let same : new ≡ r = eqb-true new r t in
      let sums = sum-changed (is_call c) (begun new) (λ f. cond (is_active r f) 1 0) x.calls d e in
      let before = waits-inactive d.progress waits in
      let now : ◌≡◌ {A = ℕ} (cond (new == r) 1 0) 1 = rw t refl in
      let own : r / 8 ≡ slice_index x.turns (r % 8) = rw same at turn in
      let given : 1 + future (turned (new % 8) x.turns) ≤ future x.turns = rw same (future-own x.turns eight own) in
      omega arith
  open-begins-by c new x d false t e waits eight turn =
      let sums = sum-changed (is_call c) (begun new) (λ f. cond (is_active r f) 1 0) x.calls d e in
      let before = waits-inactive d.progress waits in
      let now : ◌≡◌ {A = ℕ} (cond (new == r) 1 0) 0 = rw t refl in
      let less = future-le new x.turns eight in
      omega arith

  made-by : (b : Bool) (x : Client) (o p : Option Client) → open_of p ≤ open_of o
      → open_of (cond b (Some x) p) ≤ open_of (cond b (Some x) o)
  made-by true x o p h = omega arith
  made-by false x o p h = h

  new-by : (b : Bool) (x : Client) → open_of (Some x) ≤ 1 → open_of (cond b (Some x) None) ≤ 1
  new-by true x h = h
  new-by false x h = omega arith

  one-future : (b : Bool) → 0 + cond b 0 1 ≤ 1
  one-future true = omega arith
  one-future false = omega arith

  -- one more session, in which no request began
  open-pushed : (n : ℕ) (y : Client) (xs : List Client) → open_of (Some y) ≤ 1
      → open_of (find (is_client n) (xs ++ y ∷ [])) ≤ open_of (find (is_client n) xs)
  open-pushed n y [] h = new-by (is_client n y) y h
  open-pushed n y (x ∷ xs) h =
      made-by (is_client n x) x (find (is_client n) xs) (find (is_client n) (xs ++ y ∷ [])) (open-pushed n y xs h)

  open-made : (n s peer t credits life : ℕ) (xs : List Client)
      → open_of (find (is_client n) (xs ++ client_end s peer t credits life ∷ [])) ≤ open_of
      (find (is_client n) xs)
  open-made n s peer t credits life xs =
      open-pushed n (client_end s peer t credits life) xs (one-future (ltb (r / 8) (slice_index no_turns (r % 8))))

  open-opened : (n s peer credits : ℕ) (xs : List Client)
      → open_of (find (is_client n) (xs ++ opened_end s peer credits ∷ [])) ≤ open_of
      (find (is_client n) xs)
  open-opened n s peer credits xs =
      open-pushed n (opened_end s peer credits) xs (one-future (ltb (r / 8) (slice_index no_turns (r % 8))))

  open-told : (n clock : ℕ) (o : Option ControlHeader) (xs : List Client)
      → open_of (find (is_client n) (clients_told clock o xs)) ≤ open_of (find (is_client n) xs)
  open-told n clock None xs = omega arith
  open-told n clock (Some h) xs =
      changed-le open_of (is_client h.client) (requests clock h) (is_client n) (λ x. told-same (is_client n) clock h x refl) xs (λ x _. let same = told-same (λ y. open_of (Some y)) clock h x refl in omega arith)

-- the same of session n
abbrev pub open_for : ℕ → ℕ → List Client → ℕ
open_for n r xs = open_of r (find (is_client n) xs)

pub turn-of : (new slot turn : ℕ) → slot < 8 → new ≡ slot + 8 * turn → (new / 8 ≡ turn) × (slot ≡ new % 8)
turn-of new slot turn h e = (omega arith, omega arith)

module _ (n r : ℕ) (s : Lists) (v : Valid s) (eight : AllByRecursion EightTurns s.clients) where
  open-begun : (c new : ℕ) → MayBegin s c new
      → open_for n r (at_first (has_call c) (begins c new) s.clients) ≤ open_for n r s.clients
  open-begun c new a =
      let own = by_number s a.session a.client a.call v a.place in
      let found : find (has_call c) s.clients ≡ Some a.client = rw a.same own.client in
      let called : find (is_call c) a.client.calls ≡ Some a.call = rw a.same own.call in
      let turn = turn-of new a.slot (slice_index a.client.turns a.slot) a.below a.next in
      let turns : new / 8 ≡ slice_index a.client.turns (new % 8) =
      turn.0 ∙ ap (λ i. slice_index a.client.turns i) turn.1 in
      let few = found-holds (has_call c) EightTurns s.clients a.client eight found in
      let less : open_of r (Some (begins c new a.client)) ≤ open_of r (Some a.client) =
      open-begins-by r c new a.client a.call (new == r) refl called a.waits few turns in
      changed-le (open_of r) (has_call c) (begins c new) (is_client n)
      (λ x. refl) s.clients (λ x e. rw (same-found (find (has_call c) s.clients) x a.client e
      found) less)

pub open-after : (n r clock : ℕ) (e : Event) (bytes : List ℕ) (head : Option MessageHeader)
    (body : List ℕ) (s : Lists) → Valid s → AllByRecursion EightTurns s.clients → Allowed s e
    → open_for n r (clients_after clock e bytes head body s.clients) ≤ open_for n r s.clients
open-after n r clock (PairedClient i peer t credits life) bytes head body s v h a =
    open-made r n i peer t credits life s.clients
open-after n r clock (Opened i peer credits) bytes head body s v h a = open-opened r n i peer credits s.clients
open-after n r clock (FailedNoRoom i) bytes head body s v h a =
    changed-le (open_of r) (is_client i) (comes_to Failed) (is_client n) (λ x. refl) s.clients (λ x _. omega arith)
open-after n r clock (FailedNoAnswer i) bytes head body s v h a =
    changed-le (open_of r) (is_client i) (comes_to Failed) (is_client n) (λ x. refl) s.clients (λ x _. omega arith)
open-after n r clock (BeginsClosing i) bytes head body s v h a =
    changed-le (open_of r) (is_client i) (comes_to Closing) (is_client n) (λ x. refl) s.clients (λ x _. omega arith)
open-after n r clock (ClosedHeard i) bytes head body s v h a =
    changed-le (open_of r) (is_client i) (comes_to Closed) (is_client n) (λ x. refl) s.clients (λ x _. omega arith)
open-after n r clock (ClosedUnheard i) bytes head body s v h a =
    changed-le (open_of r) (is_client i) (comes_to Closed) (is_client n) (λ x. refl) s.clients (λ x _. omega arith)
open-after n r clock (IsConnected i t life) bytes head body s v h a =
    changed-le (open_of r) (is_client i) (connects t life) (is_client n) (λ x. refl) s.clients (λ x _. omega arith)
open-after n r clock (Sent peer Control k) bytes head body s v h a = open-told r n clock (control_of bytes) s.clients
open-after n r clock (Asked c i y room) bytes head body s v h a =
    changed-le (open_of r) (is_client i) (asks
    (record { number = c; req_type = y; room = room; ask = bytes })) (is_client n)
    (λ x. refl) s.clients (λ x _. open-asks r
    (record { number = c; req_type = y; room = room; ask = bytes }) x)
open-after n r clock (Begun c new) bytes head body s v h a = open-begun n r s v h c new a
open-after n r clock (Posted (Ask i j) k) bytes head body s v h a =
    changed-le (open_of r) (is_client i) (posts j k) (is_client n)
    (λ x. refl) s.clients (λ x _. open-moved r (posted_up_to k) (λ p. refl)
    (is_active j) x.calls (future r x.turns))
open-after n r clock (Sent peer (Ask i j) k) bytes head body s v h a =
    changed-le (open_of r) (is_client i) (sends clock j k) (is_client n)
    (λ x. refl) s.clients (λ x _. open-moved r (sent_packet clock k) (sent-request clock k)
    (is_active j) x.calls (future r x.turns))
open-after n r clock (Took (Ask i j) k) bytes head body s v h a =
    changed-le (open_of r) (is_client i) (takes clock j head body) (is_client n)
    (λ x. refl) s.clients (λ x _. open-moved r (took_reply clock head body)
    (took-request clock head body) (is_active j) x.calls (future r x.turns))
open-after n r clock (Rolled c posted got) bytes head body s v h a =
    changed-le (open_of r) (has_call c) (rolls c posted got) (is_client n)
    (λ x. refl) s.clients (λ x _. open-moved r (rolled_back got) (λ p. refl)
    (is_call c) x.calls (future r x.turns))
open-after n r clock (Broken i) bytes head body s v h a =
    changed-le (open_of r) (is_client i) breaks (is_client n) (λ x. refl) s.clients (λ x _. omega arith)
open-after n r clock (DoneOk c) bytes head body s v h a =
    changed-le (open_of r) (has_call c) (ends c) (is_client n) (λ x. refl) s.clients (λ x _. open-ends r c x)
open-after n r clock (DoneTooSmall c size) bytes head body s v h a =
    changed-le (open_of r) (has_call c) (ends c) (is_client n) (λ x. refl) s.clients (λ x _. open-ends r c x)
open-after n r clock (DonePeerLost c) bytes head body s v h a =
    changed-le (open_of r) (has_call c) (ends c) (is_client n) (λ x. refl) s.clients (λ x _. open-ends r c x)
open-after n r clock _ bytes head body s v h a = omega arith

-- The request of an active call is the newest of its slot.
use Rattle.std.proofs.Common.{cond}
use Rattle.packet_header.specs.declared.packet.ControlHeader.{ControlHeader}
use Rattle.rpc_base.specs.declared.state.SessionState.TheVariants.{Closed, Failed}
use Rattle.rpc_base.specs.declared.state.SessionState.TheVariants.{Closing as IsClosing}
use Rattle.rpc_laws.specs.Front.{control_of}
use Rattle.rpc_laws.specs.Sessions.{clients_told, comes_to, connects, is_request_of, requests}
use Rattle.std.proofs.Common.{◌≡◌, ◌<◌, ◌≤◌, ◌+◌, ◌%◌, ◌||◌, ℕ, Bool, true, false, List, [], ◌∷◌}
use Rattle.std.proofs.Common.{length, Option, Some, None, refl, arith}
use Rattle.std.specs.Prelude.{option_map, slice_index}
use Rattle.std.specs.List.{find, list_any, AllByRecursion}
use Rattle.std.proofs.lemmas.Bool.{eqb-false}
use Rattle.std.proofs.lemmas.List.{get_or-set_same, get_or-set_other}
use Rattle.rpc_base.specs.Tables.{at_first}
use Rattle.rpc_base.specs.declared.event.Event.{Event}
use Rattle.rpc_base.specs.declared.event.Event.TheVariants.{PairedClient, Opened, Connected}
use Rattle.rpc_base.specs.declared.event.Event.TheVariants.{FailedNoRoom}
use Rattle.rpc_base.specs.declared.event.Event.TheVariants.{FailedNoAnswer, Closing, ClosedHeard}
use Rattle.rpc_base.specs.declared.event.Event.TheVariants.{ClosedUnheard}
use Rattle.rpc_base.specs.declared.event.Event.TheVariants.{Asked, Begun, Posted, Sent, Took}
use Rattle.rpc_base.specs.declared.event.Event.TheVariants.{Rolled, Broken}
use Rattle.rpc_base.specs.declared.event.Event.TheVariants.{DoneOk, DoneTooSmall, DonePeerLost}
use Rattle.rpc_base.specs.declared.owner.Owner.TheVariants.{Ask, Reply, Control}
use Rattle.rpc_laws.specs.declared.tables.Call.{Call}
use Rattle.rpc_laws.specs.declared.tables.Client.{Client}
use Rattle.rpc_laws.specs.declared.tables.InFlight.{InFlight}
use Rattle.rpc_laws.specs.declared.tables.Lists.{Lists}
use Rattle.rpc_laws.specs.declared.tables.Progress.{Progress}
use Rattle.rpc_laws.specs.Calls.{is_active, is_call, begun, moved, posted_up_to, took_reply}
use Rattle.rpc_laws.specs.Calls.{sent_packet, rolled_back}
use Rattle.rpc_laws.specs.Front.{front_header, front_body}
use Rattle.rpc_laws.specs.Posting.{holds_slot, next_turn}
use Rattle.rpc_laws.specs.Sessions.{is_client, has_call, clients_after, begins, posts, sends, takes}
use Rattle.rpc_laws.specs.Sessions.{rolls, breaks, ends, turned}
use Rattle.node_laws.specs.Valid.{Valid}
use Rattle.node_laws.proofs.Allowed.{Allowed as Lawful, MayBegin}
use Rattle.node_laws.proofs.NumberLemmas.{by_number}
use Rattle.node_laws.proofs.SoundLemmas.{sent-request, took-request}
use Rattle.end_laws.proofs.Allowed.{May}
use Rattle.end_laws.proofs.ListLemmas.{all-first, all-both, all-add, all-without, all-map}

abbrev pub NewestBy : List ℕ → Option Progress → Type 0
NewestBy turns None = Unit {0}
NewestBy turns (Some p) = next_turn turns (p.request % 8) ≤ p.request + 8

abbrev pub NewestCall : List ℕ → Call → Type 0
NewestCall turns c = NewestBy turns c.progress

abbrev pub NewestClient : Client → Type 0
NewestClient x = AllByRecursion (NewestCall x.turns) x.calls

abbrev pub NewestNode : Lists → Type 0
NewestNode l = AllByRecursion NewestClient l.clients

moved-newest : (turns : List ℕ) (change : Progress → Progress) (o : Option Progress)
    → ((p : Progress) → (change p).request ≡ p.request) → NewestBy turns o
    → NewestBy turns (option_map change o)
moved-newest turns change None same h = tt
moved-newest turns change (Some p) same h = rw (same p) h

-- a session of which one call moves
calls-newest : (change : Progress → Progress) (test : Call → Bool) (x : Client)
    → ((p : Progress) → (change p).request ≡ p.request) → NewestClient x
    → AllByRecursion (NewestCall x.turns) (at_first test (moved change) x.calls)
calls-newest change test x same h =
    all-first (NewestCall x.turns) (NewestCall x.turns) test (moved change) x.calls (λ c k. k)
    (λ c is k. moved-newest x.turns change c.progress same k) h

one-newest : (p : Client → Bool) (f : Client → Client) (xs : List Client)
    → ((x : Client) → NewestClient x → NewestClient (f x)) → AllByRecursion NewestClient xs
    → AllByRecursion NewestClient (at_first p f xs)
one-newest p f xs keep h = all-first NewestClient NewestClient p f xs (λ x k. k) (λ x is k. keep x k) h

-- a call begins in a free slot
none-any : {A : Type 0} (p : A → Bool) (xs : List A) → list_any p xs ≡ false → AllByRecursion (λ x. p x ≡ false) xs
none-any p [] h = tt
none-any p (x ∷ xs) h = by (p x) (list_any p xs) h (none-any p xs)
  where
    by : (a b : Bool) → (a || b) ≡ false → (b ≡ false → AllByRecursion (λ x. p x ≡ false) xs)
        → (a ≡ false) × AllByRecursion (λ x. p x ≡ false) xs
    by true b h ih = cc
    by false b h ih = (refl, ih h)

other-slot : (turns : List ℕ) (slot : ℕ) (o : Option Progress) → NewestBy turns o
    → holds_slot slot o ≡ false → NewestBy (turned slot turns) o
other-slot turns slot None h free = tt
other-slot turns slot (Some p) h free =
    let same = get_or-set_other turns slot (p.request % 8) (slice_index turns slot + 1) 0
    (eqb-false (p.request % 8) slot free) in
    omega arith

begun-newest : (turns : List ℕ) (r slot : ℕ) → slot < 8 → length turns ≡ 8 → r ≡ next_turn turns slot
    → next_turn (turned (r % 8) turns) (r % 8) ≤ r + 8
begun-newest turns r slot low eight next =
    let same : r % 8 ≡ slot = omega arith in
    let here : slice_index (turned slot turns) slot ≡ slice_index turns slot + 1 =
    get_or-set_same turns slot (slice_index turns slot + 1) 0 (omega arith) in
    rw same (omega arith)

begins-newest : (l : Lists) (c r : ℕ) → Valid l → MayBegin l c r
    → ((x : Client) (s : ℕ) → find (is_client s) l.clients ≡ Some x → length x.turns ≡ 8)
    → AllByRecursion NewestClient l.clients
    → AllByRecursion NewestClient (at_first (has_call c) (begins c r) l.clients)
begins-newest l c r v m eight h =
    let own = by_number l m.session m.client m.call v m.place in
    let session : find (has_call c) l.clients ≡ Some m.client = rw (m.same) own.client in
    let low = m.below in
    let slot : r % 8 ≡ m.slot = (let next : r ≡ next_turn m.client.turns m.slot = m.next in omega arith) in
    let free : AllByRecursion (λ d. holds_slot m.slot d.progress ≡ false) m.client.calls =
    none-any (λ d. holds_slot m.slot d.progress) m.client.calls m.is_free in
    all-first NewestClient NewestClient (has_call c) (begins c r) l.clients (λ x k. k)
    (λ x is k. let same : m.client ≡ x = cc in
    let here : NewestClient m.client = rw same k in
    let both = all-both (NewestCall m.client.turns) (λ d. holds_slot m.slot d.progress ≡ false) m.client.calls here
    free in
    let turns = turned (r % 8) m.client.turns in
    let kept : AllByRecursion (NewestCall turns) m.client.calls =
    rw slot (all-map _ _ m.client.calls (λ d p. other-slot m.client.turns m.slot d.progress p.0 p.1) both) in
    let new = begun-newest m.client.turns r m.slot m.below (eight m.client m.session m.place.client) m.next in
    rw (← same) (all-first (NewestCall turns) (NewestCall turns) (is_call c) (begun r) m.client.calls
    (λ d p. p) (λ d is p. new) kept)) h

-- a control packet is sent
requests-newest : (clock : ℕ) (b : Bool) (x : Client) → NewestClient x
    → NewestClient (cond b (record x { sends = x.sends + 1; sent_at = clock }) x)
requests-newest clock true x n = n
requests-newest clock false x n = n

told-newest : (clock : ℕ) (o : Option ControlHeader) (xs : List Client)
    → AllByRecursion NewestClient xs
    → AllByRecursion NewestClient (clients_told clock o xs)
told-newest clock None xs h = h
told-newest clock (Some c) xs h =
    one-newest (is_client c.client) (requests clock c) xs
    (λ x n. requests-newest clock (is_request_of c.kind c.server c.to_life x.state x.way) x n) h

pub newest-after : (clock : ℕ) (hand : Option InFlight) (l : Lists) (e : Event) (first second : List ℕ)
    → Valid l → Lawful l e → May hand l e first second
    → ((x : Client) (s : ℕ) → find (is_client s) l.clients ≡ Some x → length x.turns ≡ 8)
    → AllByRecursion NewestClient l.clients
    → AllByRecursion NewestClient
    (clients_after clock e first (front_header l.ring) (front_body l.ring) l.clients)
newest-after clock hand l (PairedClient a p t c life) first second v a0 m eight h = absurd m
newest-after clock hand l (Opened a p c) first second v a0 m eight h =
    all-add NewestClient l.clients _ h tt
newest-after clock hand l (Connected a t life) first second v a0 m eight h =
    one-newest (is_client a) (connects t life) l.clients (λ x n. n) h
newest-after clock hand l (FailedNoRoom a) first second v a0 m eight h =
    one-newest (is_client a) (comes_to Failed) l.clients (λ x n. n) h
newest-after clock hand l (FailedNoAnswer a) first second v a0 m eight h =
    one-newest (is_client a) (comes_to Failed) l.clients (λ x n. n) h
newest-after clock hand l (Closing a) first second v a0 m eight h =
    one-newest (is_client a) (comes_to IsClosing) l.clients (λ x n. n) h
newest-after clock hand l (ClosedHeard a) first second v a0 m eight h =
    one-newest (is_client a) (comes_to Closed) l.clients (λ x n. n) h
newest-after clock hand l (ClosedUnheard a) first second v a0 m eight h =
    one-newest (is_client a) (comes_to Closed) l.clients (λ x n. n) h
newest-after clock hand l (Asked c a y room) first second v a0 m eight h =
    one-newest (is_client a) _ l.clients (λ x k. all-add (NewestCall x.turns) x.calls _ k tt) h
newest-after clock hand l (Begun c r) first second v a0 m eight h = begins-newest l c r v a0 eight h
newest-after clock hand l (Posted (Ask a r) k) first second v a0 m eight h =
    one-newest (is_client a) (posts r k) l.clients
    (λ x n. calls-newest (posted_up_to k) (is_active r) x (λ p. refl) n) h
newest-after clock hand l (Posted (Reply t r) k) first second v a0 m eight h = h
newest-after clock hand l (Posted Control k) first second v a0 m eight h = h
newest-after clock hand l (Sent peer (Ask a r) k) first second v a0 m eight h =
    one-newest (is_client a) (sends clock r k) l.clients
    (λ x n. calls-newest (sent_packet clock k) (is_active r) x (sent-request clock k) n) h
newest-after clock hand l (Sent peer (Reply t r) k) first second v a0 m eight h = h
newest-after clock hand l (Sent peer Control k) first second v a0 m eight h =
    told-newest clock (control_of first) l.clients h
newest-after clock hand l (Took (Ask a r) k) first second v a0 m eight h =
    one-newest (is_client a) (takes clock r (front_header l.ring) (front_body l.ring)) l.clients
    (λ x n. calls-newest (took_reply clock (front_header l.ring) (front_body l.ring)) (is_active r) x
    (took-request clock (front_header l.ring) (front_body l.ring)) n) h
newest-after clock hand l (Took (Reply t r) k) first second v a0 m eight h = h
newest-after clock hand l (Took Control k) first second v a0 m eight h = h
newest-after clock hand l (Rolled c posted got) first second v a0 m eight h =
    one-newest (has_call c) (rolls c posted got) l.clients
    (λ x n. calls-newest (rolled_back got) (is_call c) x (λ p. refl) n) h
newest-after clock hand l (Broken a) first second v a0 m eight h = one-newest (is_client a) breaks l.clients
    (λ x n. n) h
newest-after clock hand l (DoneOk c) first second v a0 m eight h =
    one-newest (has_call c) (ends c) l.clients (λ x n. all-without (NewestCall x.turns) (is_call c) x.calls n) h
newest-after clock hand l (DoneTooSmall c size) first second v a0 m eight h =
    one-newest (has_call c) (ends c) l.clients (λ x n. all-without (NewestCall x.turns) (is_call c) x.calls n) h
newest-after clock hand l (DonePeerLost c) first second v a0 m eight h =
    one-newest (has_call c) (ends c) l.clients (λ x n. all-without (NewestCall x.turns) (is_call c) x.calls n) h
newest-after clock hand l _ first second v a0 m eight h = h

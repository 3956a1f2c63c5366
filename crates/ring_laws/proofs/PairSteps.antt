-- An unanswered packet stays unanswered until its reply is taken, by the node's own facts while it is calm.
use Rattle.std.proofs.Common.{◌∙◌}
use Rattle.std.proofs.Common.{[]}
use Rattle.std.proofs.Common.{ap}
use Rattle.rpc_laws.specs.declared.tables.Call.{Call}
use Rattle.rpc_base.proofs.BasicLemmas.{unless-true}
use Rattle.rpc_laws.specs.Sessions.{is_connected}
use Rattle.std.proofs.Common.{◌≡◌, ◌+◌, ◌≤◌, ◌==◌, ◌&&◌, ℕ, zero, suc, Bool, true, false, cond}
use Rattle.std.proofs.Common.{List, Option, Some, refl, sym, subst, arith, eq-eqb}
use Rattle.std.specs.List.{find}
use Rattle.std.proofs.lemmas.Bool.{eqb-true, and_parts, and_from, both_ways}
use Rattle.rpc_base.specs.Owners.{same_owner}
use Rattle.rpc_base.specs.Tables.{at_first}
use Rattle.rpc_base.specs.declared.event.Event.{Event}
use Rattle.rpc_base.specs.declared.event.Event.TheVariants.{PairedClient, Opened}
use Rattle.rpc_base.specs.declared.event.Event.TheVariants.{Connected as IsConnected, FailedNoRoom}
use Rattle.rpc_base.specs.declared.event.Event.TheVariants.{FailedNoAnswer}
use Rattle.rpc_base.specs.declared.event.Event.TheVariants.{Closing as BeginsClosing, ClosedHeard}
use Rattle.rpc_base.specs.declared.event.Event.TheVariants.{ClosedUnheard, Asked, Begun, Posted}
use Rattle.rpc_base.specs.declared.event.Event.TheVariants.{Sent, Took, Rolled, Broken, DoneOk}
use Rattle.rpc_base.specs.declared.event.Event.TheVariants.{DoneTooSmall, DonePeerLost}
use Rattle.rpc_base.specs.declared.owner.Owner.{Owner}
use Rattle.rpc_base.specs.declared.owner.Owner.TheVariants.{Ask, Reply, Control}
use Rattle.rpc_laws.specs.declared.tables.Client.{Client}
use Rattle.rpc_laws.specs.declared.tables.Lists.{Lists}
use Rattle.rpc_laws.specs.declared.tables.Progress.{Progress}
use Rattle.rpc_laws.specs.Calls.{is_active}
use Rattle.rpc_base.specs.declared.state.SessionState.TheVariants.{Closing, Closed, Failed}
use Rattle.rpc_laws.specs.Front.{control_of, front_header, front_body}
use Rattle.rpc_laws.specs.Sessions.{is_client, is_live, has_call, comes_to, connects, breaks, ends, clients_after}
use Rattle.node_laws.proofs.Allowed.{Allowed as Lawful, MayPost, MayEnd, MayLose}
use Rattle.node_laws.proofs.SoundLemmas.{by_request}
use Rattle.rpc_base.proofs.FirstLemmas.{found-holds}
use Rattle.node_laws.specs.Valid.{Sound, Valid}
use Rattle.node_laws.proofs.WindowEndLemmas.{window-begun, window-ended, whole-unqueued}
use Rattle.node_laws.specs.Windows.{InsideOf, Inside, InWindow}
use Rattle.node_laws.proofs.WindowLemmas.{inside-some, window-made, window-opened, window-kept}
use Rattle.node_laws.proofs.WindowLemmas.{window-told, window-sent, window-asked, window-posted}
use Rattle.node_laws.proofs.WindowLemmas.{window-new, window-took}
use Rattle.end_laws.proofs.Allowed.{is_packet}
use Rattle.end_laws.proofs.ListLemmas.{all-found}
use Rattle.ring_laws.proofs.CalmSteps.{CalmClient, CalmNode}
use Rattle.ring_laws.proofs.ClientSteps.{no_roll}
use Rattle.ring_laws.proofs.Loads.{posted_ask, took_reply}
use Rattle.node_laws.proofs.StateLemmas.{connected-live}

-- what is posted next isn't unanswered yet
posted-outside : (l : Lists) (v : Valid l) (n r k : ℕ) → MayPost l n r k → InWindow l.clients (Ask n r) k → ⊥
posted-outside l v n r k a m =
    let sound = found-holds (is_client n) Sound l.clients a.client v.sound a.active.place.client in
    let own : find (is_active r) a.client.calls ≡ Some a.call =
    rw a.same (by_request a.client a.active.place.test a.call a.progress sound
    a.active.place.call a.active.active) in
    let two : Inside k (find (is_active r) a.client.calls) = rw a.active.place.client at m in
    let three : InsideOf k a.call.progress = rw own at two in
    let four = inside-some k a.call.progress a.progress a.active.active three in
    let turn = a.turn in
    let high = four.1 in
    absurd (omega arith)

own-progress : (o : Owner) (session : ℕ) (r : Option Progress) (p t : Progress) → r ≡ Some p
    → r ≡ Some t → same_owner o (Ask session t.request) ≡ false
    → same_owner o (Ask session p.request) ≡ false
own-progress o session r p t e h other = let same : t ≡ p = cc in rw same at other

-- a call that ends has no unanswered packet
ended-window : (l : Lists) (v : Valid l) (c : ℕ) → MayEnd l c → (o : Owner) (k : ℕ)
    → InWindow l.clients o k → InWindow (at_first (has_call c) (ends c) l.clients) o k
ended-window l v c a o k m =
    let other = whole-unqueued l v c a o k m in
    window-ended l v c a.session a.client a.call a.active.place a.same o k
    (λ p e. own-progress o a.session a.call.progress p a.progress e a.active.active other) m

none-found : (p : Call → Bool) (c : Call) → find p [] ≡ Some c → ⊥
none-found p c e = cc

-- no session of a calm node is broken
lost-not : (l : Lists) (c : ℕ) → MayLose l c → CalmNode l → ⊥
lost-not l c a calm =
    let x = all-found CalmClient (is_client a.session) l.clients a.client calm a.place.client in
    let dead : is_connected a.client.state ≡ false =
    unless-true (is_connected a.client.state) (λ e. both_ways (is_live a.client.state) a.broken
    (connected-live a.client.state e)) in
    let none = x.idle dead in
    none-found a.place.test a.call (sym (ap (find a.place.test) none) ∙ a.place.call)

other-by : (s r n request k j : ℕ) (b : Bool) → (same_owner (Ask s r) (Ask n request) && k == j) ≡ b
    → (n == s && (request == r && j == k)) ≡ false → b ≡ false
other-by s r n request k j true e f =
    let one = and_parts (same_owner (Ask s r) (Ask n request)) (k == j) e in
    let two = and_parts (s == n) (r == request) one.0 in
    let session : s ≡ n = eqb-true s n two.0 in
    let request_is : r ≡ request = eqb-true r request two.1 in
    let number : k ≡ j = eqb-true k j one.1 in
    let all : (n == s && (request == r && j == k)) ≡ true =
    and_from (n == s) (request == r && j == k) (eq-eqb n s (sym session))
    (and_from (request == r) (j == k) (eq-eqb request r (sym request_is))
    (eq-eqb j k (sym number))) in
    absurd (both_ways (n == s && (request == r && j == k)) f all)
other-by s r n request k j false e f = refl

-- how often the packet stands, and that it is unanswered where it does
abbrev pub Standing : ℕ → List Client → (s r k : ℕ) → Type 0
Standing many xs s r k = (many ≤ 1) × (1 ≤ many → InWindow xs (Ask s r) k)

kept : (old new : ℕ) (xs ys : List Client) (s r k : ℕ) → new ≤ old → Standing old xs s r k
    → (InWindow xs (Ask s r) k → InWindow ys (Ask s r) k) → Standing new ys s r k
kept old new xs ys s r k le h f = let few = h.0 in (omega arith, λ some. f (h.1 (omega arith)))

none-by : (old : ℕ) → (1 ≤ old → ⊥) → old ≡ 0
none-by zero h = refl
none-by (suc n) h = absurd (h (omega arith))

-- the packet is posted
posts-by : (clock : ℕ) (first : List ℕ) (l : Lists) (v : Valid l)
    (a number request s r k old new : ℕ) (b : Bool) → (a == s && (request == r && number == k)) ≡ b
    → MayPost l a request number → new ≤ old + cond b 1 0 → Standing old l.clients s r k
    → Standing new (clients_after clock (Posted (Ask a request) number) first (front_header l.ring)
    (front_body l.ring) l.clients) s r k
posts-by clock first l v a number request s r k old new true e may le h =
    let one = and_parts (a == s) (request == r && number == k) e in
    let two = and_parts (request == r) (number == k) one.1 in
    let session : a ≡ s = eqb-true a s one.0 in
    let request_is : request ≡ r = eqb-true request r two.0 in
    let number_is : number ≡ k = eqb-true number k two.1 in
    let was : 1 ≤ old → InWindow l.clients (Ask a request) number =
    λ some. rw (session, request_is, number_is) (h.1 some) in
    let none : old ≡ 0 = none-by old (λ some. posted-outside l v a request number may (was some)) in
    let new_is = window-new l v a request number may in
    let now : InWindow (clients_after clock (Posted (Ask a request) number) first
    (front_header l.ring) (front_body l.ring) l.clients)
    (Ask s r) k = subst (λ (i : ℕ). InWindow
    (clients_after clock (Posted (Ask a request) number) first (front_header l.ring)
    (front_body l.ring) l.clients) (Ask i r) k) session
    (subst (λ (j : ℕ). InWindow (clients_after clock (Posted (Ask a request) number) first
    (front_header l.ring) (front_body l.ring) l.clients) (Ask a j) k) request_is
    (subst (λ (j : ℕ). InWindow (clients_after clock (Posted (Ask a request) number) first
    (front_header l.ring) (front_body l.ring) l.clients) (Ask a request) j) number_is
    new_is)) in
    (omega arith, λ some. now)
posts-by clock first l v a number request s r k old new false e may le h =
    kept old new l.clients _ s r k (omega arith) h (window-posted l v a request number may (Ask s r) k)

-- its reply is taken
takes-by : (clock : ℕ) (first : List ℕ) (l : Lists) (v : Valid l)
    (a number request s r k old new : ℕ) (b : Bool) → (a == s && (request == r && number == k)) ≡ b
    → Lawful l (Took (Ask a request) number) → new + cond b 1 0 ≤ old → Standing old l.clients s r k
    → Standing new (clients_after clock (Took (Ask a request) number) first (front_header l.ring)
    (front_body l.ring) l.clients) s r k
takes-by clock first l v a number request s r k old new true e may le h = let few = h.0 in (omega arith, λ some. absurd (omega arith))
takes-by clock first l v a number request s r k old new false e may le h =
    kept old new l.clients _ s r k (omega arith) h
    (window-took l v clock a request number may (Ask s r) k
    (other-by s r a request k number _ refl e))

pub standing-after : (clock : ℕ) (e : Event) (first : List ℕ) (l : Lists) (s r k old new : ℕ)
    → Valid l → CalmNode l → Lawful l e → no_roll e ≡ true
    → new + took_reply (is_packet r k) s e ≤ old + posted_ask (is_packet r k) s e
    → Standing old l.clients s r k
    → Standing new (clients_after clock e first (front_header l.ring) (front_body l.ring) l.clients)
    s r k
standing-after clock (Posted (Ask a request) number) first l s r k old new v calm may roll le h =
    posts-by clock first l v a number request s r k old new _ refl may (omega arith) h
standing-after clock (Took (Ask a request) number) first l s r k old new v calm may roll le h =
    takes-by clock first l v a number request s r k old new _ refl may (omega arith) h
standing-after clock (PairedClient n peer t credits life) first l s r k old new v calm may roll le h =
    kept old new l.clients _ s r k (omega arith) h
    (window-made n peer t credits life l.clients (Ask s r) k)
standing-after clock (Opened n peer credits) first l s r k old new v calm may roll le h =
    kept old new l.clients _ s r k (omega arith) h
    (window-opened n peer credits l.clients (Ask s r) k)
standing-after clock (FailedNoRoom n) first l s r k old new v calm may roll le h =
    kept old new l.clients _ s r k (omega arith) h
    (window-kept (is_client n) (comes_to Failed) (λ x. refl) (λ x. refl) l.clients (Ask s r) k)
standing-after clock (FailedNoAnswer n) first l s r k old new v calm may roll le h =
    kept old new l.clients _ s r k (omega arith) h
    (window-kept (is_client n) (comes_to Failed) (λ x. refl) (λ x. refl) l.clients (Ask s r) k)
standing-after clock (BeginsClosing n) first l s r k old new v calm may roll le h =
    kept old new l.clients _ s r k (omega arith) h
    (window-kept (is_client n) (comes_to Closing) (λ x. refl) (λ x. refl) l.clients (Ask s r) k)
standing-after clock (ClosedHeard n) first l s r k old new v calm may roll le h =
    kept old new l.clients _ s r k (omega arith) h
    (window-kept (is_client n) (comes_to Closed) (λ x. refl) (λ x. refl) l.clients (Ask s r) k)
standing-after clock (ClosedUnheard n) first l s r k old new v calm may roll le h =
    kept old new l.clients _ s r k (omega arith) h
    (window-kept (is_client n) (comes_to Closed) (λ x. refl) (λ x. refl) l.clients (Ask s r) k)
standing-after clock (IsConnected n t life) first l s r k old new v calm may roll le h =
    kept old new l.clients _ s r k (omega arith) h
    (window-kept (is_client n) (connects t life) (λ x. refl) (λ x. refl) l.clients (Ask s r) k)
standing-after clock (Asked c n y room) first l s r k old new v calm may roll le h =
    kept old new l.clients _ s r k (omega arith) h
    (window-asked (record { number = c; req_type = y; room = room; ask = first }) n l.clients
    (Ask s r) k)
standing-after clock (Begun c request) first l s r k old new v calm may roll le h =
    kept old new l.clients _ s r k (omega arith) h (window-begun l v c request may (Ask s r) k)
standing-after clock (Sent peer (Ask a request) number) first l s r k old new v calm may roll le h =
    kept old new l.clients _ s r k (omega arith) h
    (window-sent clock a request number l.clients (Ask s r) k)
standing-after clock (Rolled c posted got) first l s r k old new v calm may roll le h = cc
standing-after clock (Broken n) first l s r k old new v calm may roll le h =
    kept old new l.clients _ s r k (omega arith) h
    (window-kept (is_client n) breaks (λ x. refl) (λ x. refl) l.clients (Ask s r) k)
standing-after clock (DoneOk c) first l s r k old new v calm may roll le h =
    kept old new l.clients _ s r k (omega arith) h (ended-window l v c may (Ask s r) k)
standing-after clock (DoneTooSmall c size) first l s r k old new v calm may roll le h =
    kept old new l.clients _ s r k (omega arith) h (ended-window l v c may (Ask s r) k)
standing-after clock (DonePeerLost c) first l s r k old new v calm may roll le h = absurd (lost-not l c may calm)
standing-after clock (Posted (Reply t request) number) first l s r k old new v calm may roll le h =
    kept old new l.clients _ s r k (omega arith) h (λ m. m)
standing-after clock (Posted Control number) first l s r k old new v calm may roll le h =
    kept old new l.clients _ s r k (omega arith) h (λ m. m)
standing-after clock (Took (Reply t request) number) first l s r k old new v calm may roll le h =
    kept old new l.clients _ s r k (omega arith) h (λ m. m)
standing-after clock (Took Control number) first l s r k old new v calm may roll le h =
    kept old new l.clients _ s r k (omega arith) h (λ m. m)
standing-after clock (Sent peer (Reply t request) number) first l s r k old new v calm may roll le
    h = kept old new l.clients _ s r k (omega arith) h (λ m. m)
standing-after clock (Sent peer Control number) first l s r k old new v calm may roll le h =
    kept old new l.clients _ s r k (omega arith) h
    (window-told clock (control_of first) l.clients (Ask s r) k)
standing-after clock _ first l s r k old new v calm may roll le h =
    kept old new l.clients _ s r k (omega arith) h (λ m. m)

-- Allowed facts leave no packet queued of a session that isn't live.
use Rattle.std.proofs.Common.{◌≡◌, ℕ, Bool, true, false, ◌||◌, Option, Some, None, List, [], ◌∷◌}
use Rattle.std.proofs.Common.{◌++◌, refl, sym, ap, ◌∙◌}
use Rattle.std.specs.List.{AllByRecursion, find, list_any}
use Rattle.std.proofs.lemmas.Bool.{eqb-true, eq-eqb}
use Rattle.packet_header.specs.declared.packet.ControlHeader.{ControlHeader}
use Rattle.rpc_base.specs.Owners.{same_owner}
use Rattle.rpc_base.specs.Tables.{at_first, without_first}
use Rattle.rpc_base.specs.declared.event.Event.{Event}
use Rattle.rpc_base.specs.declared.event.Event.TheVariants.{PairedClient, Opened}
use Rattle.rpc_base.specs.declared.event.Event.TheVariants.{Connected as IsConnected, FailedNoRoom}
use Rattle.rpc_base.specs.declared.event.Event.TheVariants.{FailedNoAnswer}
use Rattle.rpc_base.specs.declared.event.Event.TheVariants.{Closing as BeginsClosing, ClosedHeard}
use Rattle.rpc_base.specs.declared.event.Event.TheVariants.{ClosedUnheard, Asked, Begun, Posted}
use Rattle.rpc_base.specs.declared.event.Event.TheVariants.{Sent, Flushed, Polled, Took, Rolled}
use Rattle.rpc_base.specs.declared.event.Event.TheVariants.{Broken, DoneOk, DoneTooSmall}
use Rattle.rpc_base.specs.declared.event.Event.TheVariants.{DonePeerLost}
use Rattle.rpc_base.specs.declared.owner.Owner.{Owner}
use Rattle.rpc_base.specs.declared.owner.Owner.TheVariants.{Ask, Reply, Control}
use Rattle.rpc_base.specs.declared.state.SessionState.{SessionState}
use Rattle.rpc_base.specs.declared.state.SessionState.TheVariants.{Connecting, Closing, Closed, Failed}
use Rattle.rpc_laws.specs.declared.tables.Call.{Call}
use Rattle.rpc_laws.specs.declared.tables.Client.{Client}
use Rattle.rpc_laws.specs.declared.tables.Lists.{Lists}
use Rattle.rpc_laws.specs.declared.tables.Progress.{Progress}
use Rattle.rpc_laws.specs.declared.tables.Queued.{Queued}
use Rattle.rpc_laws.specs.Calls.{has_request, is_active}
use Rattle.rpc_laws.specs.Front.{control_of, front_header, front_body}
use Rattle.rpc_laws.specs.Queues.{is_queued, queued_after}
use Rattle.rpc_laws.specs.Sessions.{is_client, is_connected, is_live, has_call, client_end}
use Rattle.rpc_laws.specs.Sessions.{opened_end, comes_to, connects, requests, clients_told, asks}
use Rattle.rpc_laws.specs.Sessions.{begins, posts, sends, takes, rolls, breaks, ends, clients_after}
use Rattle.node_laws.specs.QueuedPackets.{is_ask_of}
use Rattle.node_laws.specs.Valid.{Idle, Valid}
use Rattle.node_laws.specs.Windows.{Inside, Stands, InWindow, Windows, LiveAt, OfLive, LiveQueued}
use Rattle.node_laws.proofs.Allowed.{Allowed, NoneQueued, NoneOf, IsIn, MayPost}
use Rattle.rpc_base.proofs.FindLemmas.{changed-holds, push-kept, all-unpassed}
use Rattle.node_laws.proofs.PutLemmas.{put-all, ready-all}
use Rattle.node_laws.proofs.StateLemmas.{connected-live}
use Rattle.rpc_base.proofs.FirstLemmas.{all-each, all-left, found-holds, found-changed}
use Rattle.node_laws.proofs.ToldSame.{told-same}
use Rattle.rpc_base.proofs.TakingLemmas.{find-passes}

-- a session changes
module _ (p : Client → Bool) (f : Client → Client)
    (same : (x : Client) → (f x).way.number ≡ x.way.number) (xs : List Client) where
  live-changed : (o : Owner)
      → ((s r : ℕ) → o ≡ Ask s r → (x : Client) → find p xs ≡ Some x → is_client s x ≡ true
      → is_live x.state ≡ true → is_live (f x).state ≡ true) → OfLive xs o
      → OfLive (at_first p f xs) o
  live-changed (Ask s r) h m = changed-holds LiveAt p f (is_client s) (λ x. rw (same x) refl) xs (h s r refl) m
  live-changed (Reply s r) h m = tt
  live-changed Control h m = tt

  live-kept : ((x : Client) → is_live x.state ≡ true → is_live (f x).state ≡ true)
      → (qs : List Queued) → LiveQueued xs qs → LiveQueued (at_first p f xs) qs
  live-kept stays qs live =
      all-each (λ q. OfLive xs q.owner) (λ q. OfLive (at_first p f xs) q.owner) qs
      (λ q m. live-changed q.owner (λ s r o x e t on. stays x on) m) live

told-live : (clock : ℕ) (h : Option ControlHeader) (xs : List Client) (qs : List Queued)
    → LiveQueued xs qs → LiveQueued (clients_told clock h xs) qs
told-live clock None xs qs live = live
told-live clock (Some h) xs qs live =
    live-kept (is_client h.client) (requests clock h)
    (λ x. told-same (λ y. y.way.number) clock h x refl) xs
    (λ x on. told-same (λ y. is_live y.state) clock h x refl ∙ on) qs live

-- one more session
pushed-at : (y : Client) (xs : List Client) (s : ℕ) (o : Option Client) → find (is_client s) xs ≡ o
    → LiveAt o → LiveAt (find (is_client s) (xs ++ y ∷ []))
pushed-at y xs s None e m = absurd m
pushed-at y xs s (Some x) e m = rw (push-kept (is_client s) xs x y e) m

pushed-by : (y : Client) (xs : List Client) (o : Owner) → OfLive xs o → OfLive (xs ++ y ∷ []) o
pushed-by y xs (Ask s r) m = pushed-at y xs s (find (is_client s) xs) refl m
pushed-by y xs (Reply s r) m = tt
pushed-by y xs Control m = tt

live-pushed : (y : Client) (xs : List Client) (qs : List Queued) → LiveQueued xs qs → LiveQueued (xs ++ y ∷ []) qs
live-pushed y xs qs live =
    all-each (λ q. OfLive xs q.owner) (λ q. OfLive (xs ++ y ∷ []) q.owner) qs (λ q m. pushed-by y xs q.owner m) live

-- a session of whose calls no packet is queued has none queued
module _ (xs : List Client) (n : ℕ) (x : Client) (found : find (is_client n) xs ≡ Some x) where
  rest-by : (b c : Bool) → (b || c) ≡ false → (b ≡ false) × (c ≡ false)
  rest-by true c e = cc
  rest-by false c e = (refl, e)

  rest-of : (q : Queued) (qs : List Queued) (o : Option Progress) → NoneOf n o (q ∷ qs) → NoneOf n o qs
  rest-of q qs None none = tt
  rest-of q qs (Some p) none =
      (rest-by (same_owner q.owner (Ask n p.request))
      (list_any (λ r. same_owner r.owner (Ask n p.request)) qs) none).1

  own-none : (r k : ℕ) (qs : List Queued) (c : Call) (o : Option Progress) → c.progress ≡ o
      → has_request r o ≡ true → NoneOf n o qs → NoneQueued (Ask n r) qs
  own-none r k qs c None e t none = cc
  own-none r k qs c (Some p) e t none = let same : p.request ≡ r = eqb-true p.request r t in rw same at none

  active-none : (r k : ℕ) (qs : List Queued) → AllByRecursion (λ c. NoneOf n c.progress qs) x.calls
      → (o : Option Call) → find (is_active r) x.calls ≡ o → Inside k o → NoneQueued (Ask n r) qs
  active-none r k qs clean None e m = absurd m
  active-none r k qs clean (Some c) e m =
      own-none r k qs c c.progress refl (find-passes (is_active r) x.calls c e)
      (found-holds (is_active r) (λ d. NoneOf n d.progress qs) x.calls c clean e)

  ask-none : (q : Queued) (qs : List Queued) (o : Owner) → q.owner ≡ o → is_ask_of n o ≡ true
      → InWindow xs o q.number → AllByRecursion (λ c. NoneOf n c.progress (q ∷ qs)) x.calls → ⊥
  ask-none q qs (Reply t r) e own within clean = cc
  ask-none q qs Control e own within clean = cc
  ask-none q qs (Ask s r) e own within clean =
      let number : s ≡ n = eqb-true s n own in
      let here : Stands q.number r (find (is_client n) xs) = rw number at within in
      let mine : Stands q.number r (Some x) = rw found at here in
      let none : NoneQueued (Ask n r) (q ∷ qs) =
      active-none r q.number (q ∷ qs) clean (find (is_active r) x.calls) refl mine in
      let first : same_owner q.owner (Ask n r) ≡ false =
      (rest-by (same_owner q.owner (Ask n r))
      (list_any (λ p. same_owner p.owner (Ask n r)) qs) none).0 in
      let same : same_owner q.owner (Ask n r) ≡ true = rw (e, number, eq-eqb n n refl, eq-eqb r r refl) refl in
      cc

  none-by : (q : Queued) (qs : List Queued) (b : Bool) → is_ask_of n q.owner ≡ b
      → InWindow xs q.owner q.number → AllByRecursion (λ c. NoneOf n c.progress (q ∷ qs)) x.calls
      → list_any (λ p. is_ask_of n p.owner) qs ≡ false
      → (b || list_any (λ p. is_ask_of n p.owner) qs) ≡ false
  none-by q qs true e within clean rest = absurd (ask-none q qs q.owner refl e within clean)
  none-by q qs false e within clean rest = rest

  unqueued : (qs : List Queued) → Windows xs qs
      → AllByRecursion (λ c. NoneOf n c.progress qs) x.calls
      → list_any (λ q. is_ask_of n q.owner) qs ≡ false
  unqueued [] w clean = refl
  unqueued (q ∷ qs) w clean =
      let rest = all-each (λ c. NoneOf n c.progress (q ∷ qs))
      (λ c. NoneOf n c.progress qs) x.calls (λ c none. rest-of q qs c.progress none)
      clean in
      none-by q qs (is_ask_of n q.owner) refl w.0 clean (unqueued qs w.1 rest)

  -- so that it may be over
  off-by : (f : Client → Client) (o : Owner) → is_ask_of n o ≡ false → (s r : ℕ) → o ≡ Ask s r
      → (y : Client) → find (is_client n) xs ≡ Some y → is_client s y ≡ true
      → is_live (f y).state ≡ true
  off-by f o off s r is y e t =
      let number : y.way.number ≡ n = eqb-true y.way.number n (find-passes (is_client n) xs y e) in
      let own : y.way.number ≡ s = eqb-true y.way.number s t in
      let yes : is_ask_of n (Ask s r) ≡ true = eq-eqb s n (sym own ∙ number) in
      let no : is_ask_of n (Ask s r) ≡ false = rw is at off in
      cc

  live-over : (f : Client → Client) → ((y : Client) → (f y).way.number ≡ y.way.number)
      → (qs : List Queued) → Windows xs qs → AllByRecursion (λ c. NoneOf n c.progress qs) x.calls
      → LiveQueued xs qs → LiveQueued (at_first (is_client n) f xs) qs
  live-over f same qs w clean live =
      all-unpassed (λ q. is_ask_of n q.owner) (λ q. OfLive xs q.owner)
      (λ q. OfLive (at_first (is_client n) f xs) q.owner) qs (unqueued qs w clean)
      (λ q off m. live-changed (is_client n) f same xs q.owner
      (λ s r is y e t on. off-by f q.owner off s r is y e t) m) live

-- one that is connecting or closing has no calls
idle-over : (s : Lists) (v : Valid s) (n : ℕ) (state : SessionState) → is_live state ≡ true
    → is_connected state ≡ false → (a : IsIn s state n) → (f : Client → Client)
    → ((y : Client) → (f y).way.number ≡ y.way.number) → Windows s.clients s.queued
    → LiveQueued s.clients s.queued → LiveQueued (at_first (is_client n) f s.clients) s.queued
idle-over s v n state on off a f same w live =
    let idle = found-holds (is_client n) Idle s.clients a.client v.idle a.found in
    let none : a.client.calls ≡ [] = idle (ap is_live a.stands ∙ on) (ap is_connected a.stands ∙ off) in
    let clean : AllByRecursion (λ c. NoneOf n c.progress s.queued) a.client.calls = rw none tt in
    live-over s.clients n a.client a.found f same s.queued w clean live

-- a packet is posted of a connected session
posted-live : (s : Lists) (n r k : ℕ) (a : MayPost s n r k)
    → OfLive (at_first (is_client n) (posts r k) s.clients) (Ask n r)
posted-live s n r k a =
    let found = a.active.place.client in
    let next : find (is_client n) (at_first (is_client n) (posts r k) s.clients)
    ≡ Some (posts r k a.client) =
    found-changed (is_client n) (posts r k)
    (is_client n) a.client s.clients (find-passes (is_client n) s.clients a.client found)
    found found in
    rw next (connected-live a.client.state a.connected)

pub live-after : (clock : ℕ) (e : Event) (due : Option ℕ) (bytes : List ℕ) (s : Lists) → Valid s
    → Windows s.clients s.queued → LiveQueued s.clients s.queued → Allowed s e
    → LiveQueued (clients_after clock e bytes (front_header s.ring) (front_body s.ring) s.clients)
    (queued_after e due s.queued)
live-after clock (PairedClient n peer t credits life) due bytes s v w live a =
    live-pushed (client_end n peer t credits life) s.clients s.queued live
live-after clock (Opened n peer credits) due bytes s v w live a =
    live-pushed (opened_end n peer credits) s.clients s.queued live
live-after clock (IsConnected n t life) due bytes s v w live a =
    live-kept (is_client n) (connects t life) (λ x. refl) s.clients (λ x on. refl) s.queued live
live-after clock (BeginsClosing n) due bytes s v w live a =
    live-kept (is_client n) (comes_to Closing) (λ x. refl) s.clients (λ x on. refl) s.queued live
live-after clock (FailedNoRoom n) due bytes s v w live a =
    idle-over s v n Connecting refl refl a (comes_to Failed) (λ x. refl) w live
live-after clock (FailedNoAnswer n) due bytes s v w live a =
    idle-over s v n Connecting refl refl a (comes_to Failed) (λ x. refl) w live
live-after clock (ClosedHeard n) due bytes s v w live a =
    idle-over s v n Closing refl refl a (comes_to Closed) (λ x. refl) w live
live-after clock (ClosedUnheard n) due bytes s v w live a =
    idle-over s v n Closing refl refl a (comes_to Closed) (λ x. refl) w live
live-after clock (Broken n) due bytes s v w live a =
    live-over s.clients n a.client a.found breaks (λ x. refl) s.queued w a.clean live
live-after clock (Posted (Ask n r) k) due bytes s v w live a =
    let kept = live-kept (is_client n) (posts r k) (λ x. refl) s.clients (λ x on. on) s.queued live in
    put-all (λ q. OfLive (at_first (is_client n) (posts r k) s.clients) q.owner)
    (record { owner = Ask n r; number = k; due = due }) s.queued kept (posted-live s n r k a)
live-after clock (Posted (Reply n r) k) due bytes s v w live a =
    put-all (λ q. OfLive s.clients q.owner) (record { owner = Reply n r; number = k; due = due }) s.queued live tt
live-after clock (Posted Control k) due bytes s v w live a =
    put-all (λ q. OfLive s.clients q.owner) (record { owner = Control; number = k; due = due }) s.queued live tt
live-after clock (Sent peer (Ask n r) k) due bytes s v w live a =
    live-kept (is_client n) (sends clock r k) (λ x. refl) s.clients (λ x on. on)
    (without_first (is_queued (Ask n r) k) s.queued)
    (all-left (is_queued (Ask n r) k) (λ q. OfLive s.clients q.owner) s.queued live)
live-after clock (Sent peer (Reply n r) k) due bytes s v w live a =
    all-left (is_queued (Reply n r) k) (λ q. OfLive s.clients q.owner) s.queued live
live-after clock (Sent peer Control k) due bytes s v w live a =
    told-live clock (control_of bytes) s.clients (without_first (is_queued Control k) s.queued)
    (all-left (is_queued Control k) (λ q. OfLive s.clients q.owner) s.queued live)
live-after clock (Flushed o k) due bytes s v w live a =
    all-left (is_queued o k) (λ q. OfLive s.clients q.owner) s.queued live
live-after clock (Polled now) due bytes s v w live a =
    ready-all now (λ q. OfLive s.clients q.owner) (λ q m. m) s.queued live
live-after clock (Asked c n y room) due bytes s v w live a =
    live-kept (is_client n) (asks (record { number = c; req_type = y; room = room; ask = bytes }))
    (λ x. refl) s.clients (λ x on. on) s.queued live
live-after clock (Begun c r) due bytes s v w live a =
    live-kept (has_call c) (begins c r) (λ x. refl) s.clients (λ x on. on) s.queued live
live-after clock (Took (Ask n r) k) due bytes s v w live a =
    live-kept (is_client n) (takes clock r (front_header s.ring) (front_body s.ring))
    (λ x. refl) s.clients (λ x on. on) s.queued live
live-after clock (Rolled c posted got) due bytes s v w live a =
    live-kept (has_call c) (rolls c posted got) (λ x. refl) s.clients (λ x on. on) s.queued live
live-after clock (DoneOk c) due bytes s v w live a =
    live-kept (has_call c) (ends c) (λ x. refl) s.clients (λ x on. on) s.queued live
live-after clock (DoneTooSmall c size) due bytes s v w live a =
    live-kept (has_call c) (ends c) (λ x. refl) s.clients (λ x on. on) s.queued live
live-after clock (DonePeerLost c) due bytes s v w live a =
    live-kept (has_call c) (ends c) (λ x. refl) s.clients (λ x on. on) s.queued live
live-after clock _ due bytes s v w live a = live

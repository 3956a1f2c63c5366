-- Allowed facts keep the queued packets within the windows of their calls.
use Rattle.std.proofs.Common.{◌≡◌, ℕ, false, Option, Some, None, List, [], ◌∷◌, refl}
use Rattle.rpc_base.specs.Owners.{same_owner}
use Rattle.rpc_base.specs.Tables.{at_first, without_first}
use Rattle.rpc_base.specs.declared.event.Event.{Event}
use Rattle.rpc_base.specs.declared.event.Event.TheVariants.{PairedClient, Opened}
use Rattle.rpc_base.specs.declared.event.Event.TheVariants.{Connected as IsConnected, FailedNoRoom}
use Rattle.rpc_base.specs.declared.event.Event.TheVariants.{FailedNoAnswer}
use Rattle.rpc_base.specs.declared.event.Event.TheVariants.{Closing as BeginsClosing, ClosedHeard}
use Rattle.rpc_base.specs.declared.event.Event.TheVariants.{ClosedUnheard, Asked, Begun, Posted}
use Rattle.rpc_base.specs.declared.event.Event.TheVariants.{Sent, Flushed, Polled, Took, Rolled}
use Rattle.rpc_base.specs.declared.event.Event.TheVariants.{Broken, DoneOk, DoneTooSmall}
use Rattle.rpc_base.specs.declared.event.Event.TheVariants.{DonePeerLost}
use Rattle.rpc_base.specs.declared.owner.Owner.{Owner}
use Rattle.rpc_base.specs.declared.owner.Owner.TheVariants.{Ask, Reply, Control}
use Rattle.rpc_base.specs.declared.state.SessionState.TheVariants.{Closing, Closed, Failed}
use Rattle.rpc_laws.specs.declared.tables.Client.{Client}
use Rattle.rpc_laws.specs.declared.tables.Lists.{Lists}
use Rattle.rpc_laws.specs.declared.tables.Progress.{Progress}
use Rattle.rpc_laws.specs.declared.tables.Queued.{Queued}
use Rattle.rpc_laws.specs.Front.{control_of, front_header, front_body}
use Rattle.rpc_laws.specs.Queues.{is_queued, put_queued, queued_after}
use Rattle.rpc_laws.specs.Sessions.{is_client, has_call, comes_to, connects, breaks, ends, clients_after}
use Rattle.node_laws.proofs.Allowed.{Allowed, NoneQueued, MayPost, MayEnd, MayLose}
use Rattle.rpc_base.proofs.FindLemmas.{all-unpassed}
use Rattle.node_laws.proofs.PutLemmas.{put-all, ready-all}
use Rattle.rpc_base.proofs.FirstLemmas.{all-each, all-left}
use Rattle.node_laws.specs.Valid.{Valid}
use Rattle.node_laws.proofs.WindowEndLemmas.{window-rolled, window-begun, window-ended, whole-unqueued}
use Rattle.node_laws.proofs.WindowLemmas.{window-made, window-opened, window-kept, window-told}
use Rattle.node_laws.proofs.WindowLemmas.{window-sent, window-asked, window-posted, window-new}
use Rattle.node_laws.proofs.WindowLemmas.{window-took}
use Rattle.node_laws.specs.Windows.{InWindow, Windows}

-- a queued packet is within the window of its call
abbrev In : List Client → Queued → Type 0
In xs q = InWindow xs q.owner q.number

-- each packet that stays
all-in : (xs ys : List Client) (queued : List Queued)
    → ((o : Owner) (k : ℕ) → InWindow xs o k → InWindow ys o k) → Windows xs queued
    → Windows ys queued
all-in xs ys queued h w = all-each (In xs) (In ys) queued (λ q m. h q.owner q.number m) w

pub ended-unqueued : (s : Lists) (v : Valid s) (number : ℕ) (a : MayEnd s number)
    → (queued : List Queued) → Windows s.clients queued
    → NoneQueued (Ask a.session a.progress.request) queued
ended-unqueued s v number a [] w = refl
ended-unqueued s v number a (q ∷ qs) w =
    let one = whole-unqueued s v number a q.owner q.number w.0 in
    let rest = ended-unqueued s v number a qs w.1 in
    rw one rest

ended-in : (s : Lists) (v : Valid s) (number : ℕ) → MayEnd s number → Windows s.clients s.queued
    → Windows (at_first (has_call number) (ends number) s.clients) s.queued
ended-in s v number a w =
    all-unpassed (λ q. same_owner q.owner (Ask a.session a.progress.request)) (In s.clients)
    (In (at_first (has_call number) (ends number) s.clients)) s.queued
    (ended-unqueued s v number a s.queued w)
    (λ q other m. window-ended s v number a.session a.client a.call a.active.place a.same
    q.owner q.number (λ p e. own-progress q.owner a.session a.call.progress p a.progress e
    a.active.active other) m) w
  where
    own-progress : (o : Owner) (session : ℕ) (r : Option Progress) (p t : Progress) → r ≡ Some p
        → r ≡ Some t → same_owner o (Ask session t.request) ≡ false
        → same_owner o (Ask session p.request) ≡ false
    own-progress o session r p t e h other = let same : t ≡ p = cc in rw same at other

lost-by : (s : Lists) (v : Valid s) (number : ℕ) (a : MayLose s number) (r : Option Progress)
    → a.call.progress ≡ r → Windows s.clients s.queued
    → Windows (at_first (has_call number) (ends number) s.clients) s.queued
lost-by s v number a None active w =
    all-in s.clients (at_first (has_call number) (ends number) s.clients) s.queued
    (λ o k m. window-ended s v number a.session a.client a.call a.place a.same o k (λ p e. cc)
    m) w
lost-by s v number a (Some t) active w =
    all-unpassed (λ q. same_owner q.owner (Ask a.session t.request)) (In s.clients)
    (In (at_first (has_call number) (ends number) s.clients)) s.queued (a.unqueued t active)
    (λ q other m. window-ended s v number a.session a.client a.call a.place a.same q.owner
    q.number (λ p e. own-progress q.owner a.session a.call.progress p t e active other) m) w
  where
    own-progress : (o : Owner) (session : ℕ) (r : Option Progress) (p t : Progress) → r ≡ Some p
        → r ≡ Some t → same_owner o (Ask session t.request) ≡ false
        → same_owner o (Ask session p.request) ≡ false
    own-progress o session r p t e h other = let same : t ≡ p = cc in rw same at other

posted-in : (s : Lists) (v : Valid s) (n r k : ℕ) (due : Option ℕ) → MayPost s n r k
    → Windows s.clients s.queued
    → Windows (clients_after 0 (Posted (Ask n r) k) [] None [] s.clients)
    (put_queued (record { owner = Ask n r; number = k; due = due }) s.queued)
posted-in s v n r k due a w =
    let after = clients_after 0 (Posted (Ask n r) k) [] None [] s.clients in
    put-all (In after) (record { owner = Ask n r; number = k; due = due }) s.queued
    (all-in s.clients after s.queued (window-posted s v n r k a) w) (window-new s v n r k a)

pub windows-after : (clock : ℕ) (e : Event) (due : Option ℕ) (bytes : List ℕ) (s : Lists) → Valid s
    → Windows s.clients s.queued → Allowed s e
    → Windows (clients_after clock e bytes (front_header s.ring) (front_body s.ring) s.clients)
    (queued_after e due s.queued)
windows-after clock (PairedClient n peer t credits life) due bytes s v w a =
    all-in s.clients _ s.queued (window-made n peer t credits life s.clients) w
windows-after clock (Opened n peer credits) due bytes s v w a =
    all-in s.clients _ s.queued (window-opened n peer credits s.clients) w
windows-after clock (FailedNoRoom n) due bytes s v w a =
    all-in s.clients _ s.queued (window-kept (is_client n) (comes_to Failed) (λ x. refl) (λ x. refl) s.clients) w
windows-after clock (FailedNoAnswer n) due bytes s v w a =
    all-in s.clients _ s.queued (window-kept (is_client n) (comes_to Failed) (λ x. refl) (λ x. refl) s.clients) w
windows-after clock (BeginsClosing n) due bytes s v w a =
    all-in s.clients _ s.queued (window-kept (is_client n) (comes_to Closing) (λ x. refl) (λ x. refl) s.clients) w
windows-after clock (ClosedHeard n) due bytes s v w a =
    all-in s.clients _ s.queued (window-kept (is_client n) (comes_to Closed) (λ x. refl) (λ x. refl) s.clients) w
windows-after clock (ClosedUnheard n) due bytes s v w a =
    all-in s.clients _ s.queued (window-kept (is_client n) (comes_to Closed) (λ x. refl) (λ x. refl) s.clients) w
windows-after clock (IsConnected n t life) due bytes s v w a =
    all-in s.clients _ s.queued (window-kept (is_client n) (connects t life) (λ x. refl) (λ x. refl) s.clients) w
windows-after clock (Asked c n y room) due bytes s v w a =
    all-in s.clients _ s.queued (window-asked
    (record { number = c; req_type = y; room = room; ask = bytes }) n s.clients) w
windows-after clock (Begun c r) due bytes s v w a = all-in s.clients _ s.queued (window-begun s v c r a) w
windows-after clock (Posted (Ask n r) k) due bytes s v w a = posted-in s v n r k due a w
windows-after clock (Posted (Reply n r) k) due bytes s v w a =
    put-all (In s.clients) (record { owner = Reply n r; number = k; due = due }) s.queued w tt
windows-after clock (Posted Control k) due bytes s v w a =
    put-all (In s.clients) (record { owner = Control; number = k; due = due }) s.queued w tt
windows-after clock (Sent peer (Ask n r) k) due bytes s v w a =
    let left = all-left (is_queued (Ask n r) k) (In s.clients) s.queued w in
    all-in s.clients _ (without_first (is_queued (Ask n r) k) s.queued) (window-sent clock n r k s.clients) left
windows-after clock (Sent peer (Reply n r) k) due bytes s v w a =
    all-left (is_queued (Reply n r) k) (In s.clients) s.queued w
windows-after clock (Sent peer Control k) due bytes s v w a =
    let left = all-left (is_queued Control k) (In s.clients) s.queued w in
    all-in s.clients _ (without_first (is_queued Control k) s.queued)
    (window-told clock (control_of bytes) s.clients) left
windows-after clock (Flushed o k) due bytes s v w a = all-left (is_queued o k) (In s.clients) s.queued w
windows-after clock (Polled now) due bytes s v w a = ready-all now (In s.clients) (λ q m. m) s.queued w
windows-after clock (Took (Ask n r) k) due bytes s v w a =
    all-unpassed (is_queued (Ask n r) k) (In s.clients)
    (In (clients_after clock (Took (Ask n r) k) bytes (front_header s.ring)
    (front_body s.ring) s.clients)) s.queued a.unqueued
    (λ q other m. window-took s v clock n r k a q.owner q.number other m) w
windows-after clock (Rolled c posted got) due bytes s v w a =
    all-unpassed (λ q. same_owner q.owner (Ask a.session a.progress.request)) (In s.clients)
    (In (clients_after clock (Rolled c posted got) bytes (front_header s.ring)
    (front_body s.ring) s.clients)) s.queued a.unqueued
    (λ q other m. window-rolled s v c posted got a q.owner q.number other m) w
windows-after clock (Broken n) due bytes s v w a =
    all-in s.clients _ s.queued (window-kept (is_client n) breaks (λ x. refl) (λ x. refl) s.clients) w
windows-after clock (DoneOk c) due bytes s v w a = ended-in s v c a w
windows-after clock (DoneTooSmall c size) due bytes s v w a = ended-in s v c a w
windows-after clock (DonePeerLost c) due bytes s v w a = lost-by s v c a a.call.progress refl w
windows-after clock _ due bytes s v w a = w

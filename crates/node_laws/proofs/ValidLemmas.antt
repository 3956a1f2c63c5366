-- Allowed facts keep what holds of a node's lists at every moment.
use Rattle.std.proofs.Common.{◌≡◌, ℕ, ◌+◌, ◌-◌, ◌*◌, ◌%◌, ◌≤◌, ◌<◌, Bool, false, cond, leb}
use Rattle.std.proofs.Common.{Option, Some, None, List, length, refl, ap, ◌∙◌, arith}
use Rattle.std.specs.Prelude.{◌==◌, count_by, sum_by}
use Rattle.std.specs.List.{AllByRecursion, find}
use Rattle.std.proofs.lemmas.Bool.Decides.{nat_tests}
use Rattle.std.proofs.lemmas.List.Sums.{sum_by_push}
use Rattle.packet_header.specs.declared.packet.MessageHeader.{MessageHeader}
use Rattle.rpc_base.specs.Tables.{at_first}
use Rattle.rpc_base.specs.declared.event.Event.{Event}
use Rattle.rpc_base.specs.declared.event.Event.TheVariants.{PairedClient, Opened}
use Rattle.rpc_base.specs.declared.event.Event.TheVariants.{Connected as IsConnected, FailedNoRoom}
use Rattle.rpc_base.specs.declared.event.Event.TheVariants.{FailedNoAnswer}
use Rattle.rpc_base.specs.declared.event.Event.TheVariants.{Closing as BeginsClosing, ClosedHeard}
use Rattle.rpc_base.specs.declared.event.Event.TheVariants.{ClosedUnheard, Asked, Begun, Posted}
use Rattle.rpc_base.specs.declared.event.Event.TheVariants.{Sent, Took, Rolled, Broken, DoneOk}
use Rattle.rpc_base.specs.declared.event.Event.TheVariants.{DoneTooSmall, DonePeerLost}
use Rattle.rpc_base.specs.declared.fact.Fact.{Fact}
use Rattle.rpc_base.specs.declared.owner.Owner.TheVariants.{Ask, Control}
use Rattle.rpc_base.specs.declared.limits.Limits.{Limits}
use Rattle.rpc_base.specs.declared.state.SessionState.TheVariants.{Closing, Closed, Failed}
use Rattle.packet_header.specs.declared.packet.ControlHeader.{ControlHeader}
use Rattle.rpc_laws.specs.declared.tables.Call.{Call}
use Rattle.rpc_laws.specs.declared.tables.Client.{Client}
use Rattle.rpc_laws.specs.declared.tables.Lists.{Lists}
use Rattle.rpc_laws.specs.Calls.{is_call, is_active, moved, begun, posted_up_to, sent_packet, took_reply, rolled_back}
use Rattle.rpc_laws.specs.Front.{front_header, front_body, control_of}
use Rattle.rpc_laws.specs.NodeLists.{after, asked_after, new_lists}
use Rattle.rpc_laws.specs.Posting.{is_taken}
use Rattle.rpc_laws.specs.Sessions.{is_client, is_live, has_call, client_end, opened_end, comes_to}
use Rattle.rpc_laws.specs.Sessions.{connects, requests, clients_told, asks, begins, posts, sends}
use Rattle.rpc_laws.specs.Sessions.{takes, rolls, breaks, ends, clients_after}
use Rattle.node_laws.proofs.Allowed.{Allowed, MayBegin, MayPost, MayTake, MayRoll, MayEnd, MayLose}
use Rattle.node_laws.proofs.ChangeLemmas.{sound-made, sound-asks, sound-begins, sound-posts}
use Rattle.node_laws.proofs.ChangeLemmas.{sound-takes, sound-rolls, sound-sends, sound-breaks}
use Rattle.node_laws.proofs.ChangeLemmas.{sound-ends, sound-opened, sound-lives, sound-over}
use Rattle.node_laws.proofs.ChangeLemmas.{sound-connects, sound-requests}
use Rattle.node_laws.proofs.IdleLemmas.{idle-after}
use Rattle.node_laws.proofs.JobLemmas.{run-spends}
use Rattle.node_laws.proofs.WorkLemmas.{work-stays}
use Rattle.node_laws.proofs.NumberLemmas.{numbered-push, numbered-kept, by_number}
use Rattle.node_laws.proofs.ServedLemmas.{alone-after, served-after}
use Rattle.node_laws.proofs.ShareLemmas.{shares-after}
use Rattle.node_laws.proofs.StateLemmas.{connected-live}
use Rattle.node_laws.proofs.ToldSame.{told-same}
use Rattle.rpc_base.proofs.FirstLemmas.{all-push, all-kept, all-changed, sum-grown, sum-fewer}
use Rattle.rpc_base.proofs.BasicLemmas.{at-most-one}
use Rattle.node_laws.specs.Valid.{NumberedFrom, client_no, unanswered_of, Sound, holders, to_come, Valid}

-- sessions stay sound
module _ (clock : ℕ) (s : Lists) (v : Valid s) where
  slot-of : (r slot turn : ℕ) → slot < 8 → r ≡ slot + 8 * turn → slot ≡ r % 8
  slot-of r slot turn h e = omega arith

  begun-sound : (number r : ℕ) → MayBegin s number r
      → AllByRecursion Sound (at_first (has_call number) (begins number r) s.clients)
  begun-sound number r a =
      let own = by_number s a.session a.client a.call v a.place in
      let client : find (has_call number) s.clients ≡ Some a.client = rw a.same own.client in
      let call : find (is_call number) a.client.calls ≡ Some a.call = rw a.same own.call in
      let slot = slot-of r a.slot _ a.below a.next in
      let free : is_taken a.client.calls (r % 8) ≡ false = rw slot at a.is_free in
      all-changed (has_call number) (begins number r) Sound s.clients a.client client
      (λ h. sound-begins number r a.client a.call h call a.waits free) v.sound

  posted-sound : (session r k : ℕ) → MayPost s session r k
      → AllByRecursion Sound (at_first (is_client session) (posts r k) s.clients)
  posted-sound session r k a =
      all-changed (is_client session) (posts r k) Sound s.clients a.client a.active.place.client
      (λ h. sound-posts r k a.client a.active.place.test a.call a.progress h a.active.place.call
      a.active.active a.same a.turn a.more a.credit) v.sound

  took-sound : (session r k : ℕ) → MayTake s session r k
      → AllByRecursion Sound (at_first (is_client session)
      (takes clock r (front_header s.ring) (front_body s.ring)) s.clients)
  took-sound session r k a =
      let turn : a.header.number ≡ a.progress.got = a.numbered ∙ a.turn in
      rw a.front (all-changed (is_client session)
      (takes clock r (Some a.header) (front_body s.ring)) Sound s.clients a.client
      a.active.place.client (λ h. sound-takes clock r a.header (front_body s.ring)
      (length (front_body s.ring)) a.client a.active.place.test a.call a.progress h
      a.active.place.call a.active.active a.same turn a.posted a.fits) v.sound)

  rolled-sound : (number posted got : ℕ) → MayRoll s number posted got
      → AllByRecursion Sound (at_first (has_call number) (rolls number posted got) s.clients)
  rolled-sound number posted got a =
      let own = by_number s a.session a.client a.call v a.active.place in
      let client : find (has_call number) s.clients ≡ Some a.client = rw a.same own.client in
      let call : find (is_call number) a.client.calls ≡ Some a.call = rw a.same own.call in
      all-changed (has_call number) (rolls number posted got) Sound s.clients a.client client
      (λ h. sound-rolls number posted got a.client a.call a.progress h call a.active.active
      a.from a.back) v.sound

  ended-sound : (number : ℕ) → MayEnd s number
      → AllByRecursion Sound (at_first (has_call number) (ends number) s.clients)
  ended-sound number a =
      let own = by_number s a.session a.client a.call v a.active.place in
      let client : find (has_call number) s.clients ≡ Some a.client = rw a.same own.client in
      let call : find (is_call number) a.client.calls ≡ Some a.call = rw a.same own.call in
      let here : unanswered_of a.call.progress ≡ a.progress.posted - a.progress.got =
      ap unanswered_of a.active.active in
      let whole = a.whole in
      all-changed (has_call number) (ends number) Sound s.clients a.client client
      (λ h. sound-ends number a.client a.call h call (λ _. omega arith)) v.sound

  lost-sound : (number : ℕ) → MayLose s number
      → AllByRecursion Sound (at_first (has_call number) (ends number) s.clients)
  lost-sound number a =
      let own = by_number s a.session a.client a.call v a.place in
      let client : find (has_call number) s.clients ≡ Some a.client = rw a.same own.client in
      let call : find (is_call number) a.client.calls ≡ Some a.call = rw a.same own.call in
      let broken = a.broken in
      all-changed (has_call number) (ends number) Sound s.clients a.client client
      (λ h. sound-ends number a.client a.call h call (λ t. cc)) v.sound

told-sound : (clock : ℕ) (o : Option ControlHeader) (xs : List Client) → AllByRecursion Sound xs
    → AllByRecursion Sound (clients_told clock o xs)
told-sound clock None xs h = h
told-sound clock (Some c) xs h =
    all-kept (is_client c.client) (requests clock c) Sound xs (λ x k _. sound-requests clock c x k)
    h

sound-after : (clock : ℕ) (e : Event) (bytes : List ℕ) (s : Lists) → Valid s → Allowed s e
    → AllByRecursion Sound (clients_after clock e bytes (front_header s.ring)
    (front_body s.ring) s.clients)
sound-after clock (PairedClient n peer t credits life) bytes s v a =
    all-push Sound s.clients (client_end n peer t credits life) v.sound (sound-made n peer t credits life)
sound-after clock (Opened n peer credits) bytes s v a =
    all-push Sound s.clients (opened_end n peer credits) v.sound (sound-opened n peer credits)
sound-after clock (IsConnected n t life) bytes s v a =
    all-changed (is_client n) (connects t life) Sound s.clients a.client a.found
    (λ h. sound-connects t life a.client (ap is_live a.stands) h) v.sound
sound-after clock (FailedNoRoom n) bytes s v a =
    all-kept (is_client n) (comes_to Failed) Sound s.clients (λ x h _. sound-over Failed x refl h) v.sound
sound-after clock (FailedNoAnswer n) bytes s v a =
    all-kept (is_client n) (comes_to Failed) Sound s.clients (λ x h _. sound-over Failed x refl h) v.sound
sound-after clock (BeginsClosing n) bytes s v a =
    all-changed (is_client n) (comes_to Closing) Sound s.clients a.client a.found
    (λ h. sound-lives Closing a.client (connected-live a.client.state a.connected) h) v.sound
sound-after clock (ClosedHeard n) bytes s v a =
    all-kept (is_client n) (comes_to Closed) Sound s.clients (λ x h _. sound-over Closed x refl h) v.sound
sound-after clock (ClosedUnheard n) bytes s v a =
    all-kept (is_client n) (comes_to Closed) Sound s.clients (λ x h _. sound-over Closed x refl h) v.sound
sound-after clock (Sent peer Control k) bytes s v a = told-sound clock (control_of bytes) s.clients v.sound
sound-after clock (Asked c n y room) bytes s v a =
    all-kept (is_client n) (asks (record { number = c; req_type = y; room = room; ask = bytes }))
    Sound s.clients (λ x h _. sound-asks (record
    { number = c; req_type = y; room = room; ask = bytes }) x h) v.sound
sound-after clock (Begun c r) bytes s v a = begun-sound clock s v c r a
sound-after clock (Posted (Ask n r) k) bytes s v a = posted-sound clock s v n r k a
sound-after clock (Sent peer (Ask n r) k) bytes s v a =
    all-kept (is_client n) (sends clock r k) Sound s.clients (λ x h _. sound-sends clock r k x h) v.sound
sound-after clock (Took (Ask n r) k) bytes s v a = took-sound clock s v n r k a
sound-after clock (Rolled c posted got) bytes s v a = rolled-sound clock s v c posted got a
sound-after clock (Broken n) bytes s v a =
    all-kept (is_client n) breaks Sound s.clients (λ x h _. sound-breaks x h) v.sound
sound-after clock (DoneOk c) bytes s v a = ended-sound clock s v c a
sound-after clock (DoneTooSmall c size) bytes s v a = ended-sound clock s v c a
sound-after clock (DonePeerLost c) bytes s v a = lost-sound clock s v c a
sound-after clock _ bytes s v a = v.sound

told-numbered : (clock : ℕ) (o : Option ControlHeader) (xs : List Client)
    → NumberedFrom client_no 0 xs → NumberedFrom client_no 0 (clients_told clock o xs)
told-numbered clock None xs h = h
told-numbered clock (Some c) xs h =
    numbered-kept client_no (is_client c.client) (requests clock c)
    (λ x. told-same client_no clock c x refl) 0 xs h

-- sessions keep their numbers
numbered-after : (clock : ℕ) (e : Event) (bytes : List ℕ) (head : Option MessageHeader)
    (body : List ℕ) (s : Lists) → NumberedFrom client_no 0 s.clients → Allowed s e
    → NumberedFrom client_no 0 (clients_after clock e bytes head body s.clients)
numbered-after clock (PairedClient n peer t credits life) bytes head body s h a =
    numbered-push client_no 0 s.clients (client_end n peer t credits life) h (omega arith)
numbered-after clock (Opened n peer credits) bytes head body s h a =
    numbered-push client_no 0 s.clients (opened_end n peer credits) h (omega arith)
numbered-after clock (FailedNoRoom n) bytes head body s h a =
    numbered-kept client_no (is_client n) (comes_to Failed) (λ x. refl) 0 s.clients h
numbered-after clock (FailedNoAnswer n) bytes head body s h a =
    numbered-kept client_no (is_client n) (comes_to Failed) (λ x. refl) 0 s.clients h
numbered-after clock (BeginsClosing n) bytes head body s h a =
    numbered-kept client_no (is_client n) (comes_to Closing) (λ x. refl) 0 s.clients h
numbered-after clock (ClosedHeard n) bytes head body s h a =
    numbered-kept client_no (is_client n) (comes_to Closed) (λ x. refl) 0 s.clients h
numbered-after clock (ClosedUnheard n) bytes head body s h a =
    numbered-kept client_no (is_client n) (comes_to Closed) (λ x. refl) 0 s.clients h
numbered-after clock (IsConnected n t life) bytes head body s h a =
    numbered-kept client_no (is_client n) (connects t life) (λ x. refl) 0 s.clients h
numbered-after clock (Sent peer Control k) bytes head body s h a = told-numbered clock (control_of bytes) s.clients h
numbered-after clock (Asked c n y room) bytes head body s h a =
    numbered-kept client_no (is_client n) (asks
    (record { number = c; req_type = y; room = room; ask = bytes })) (λ x. refl) 0 s.clients h
numbered-after clock (Begun c r) bytes head body s h a =
    numbered-kept client_no (has_call c) (begins c r) (λ x. refl) 0 s.clients h
numbered-after clock (Posted (Ask n r) k) bytes head body s h a =
    numbered-kept client_no (is_client n) (posts r k) (λ x. refl) 0 s.clients h
numbered-after clock (Sent peer (Ask n r) k) bytes head body s h a =
    numbered-kept client_no (is_client n) (sends clock r k) (λ x. refl) 0 s.clients h
numbered-after clock (Took (Ask n r) k) bytes head body s h a =
    numbered-kept client_no (is_client n) (takes clock r head body) (λ x. refl) 0 s.clients h
numbered-after clock (Rolled c posted got) bytes head body s h a =
    numbered-kept client_no (has_call c) (rolls c posted got) (λ x. refl) 0 s.clients h
numbered-after clock (Broken n) bytes head body s h a =
    numbered-kept client_no (is_client n) breaks (λ x. refl) 0 s.clients h
numbered-after clock (DoneOk c) bytes head body s h a =
    numbered-kept client_no (has_call c) (ends c) (λ x. refl) 0 s.clients h
numbered-after clock (DoneTooSmall c size) bytes head body s h a =
    numbered-kept client_no (has_call c) (ends c) (λ x. refl) 0 s.clients h
numbered-after clock (DonePeerLost c) bytes head body s h a =
    numbered-kept client_no (has_call c) (ends c) (λ x. refl) 0 s.clients h
numbered-after clock _ bytes head body s h a = h

-- no number is given out twice
module _ (number : ℕ) where
  -- the calls of that number on a session
  abbrev holds : Client → ℕ
  holds x = count_by (is_call number) x.calls

  -- whether a call has it
  abbrev one : Call → ℕ
  one c = cond (is_call number c) 1 0

  same-call : (p : Call → Bool) (f : Call → Call) → ((c : Call) → (f c).what ≡ c.what)
      → (calls : List Call) → sum_by one (at_first p f calls) ≤ sum_by one calls + 0
  same-call p f same calls = sum-grown p f one 0 calls (λ c. rw (same c) (omega arith))

  fewer-call : (n : ℕ) (x : Client) → holds (ends n x) ≤ holds x + 0
  fewer-call n x = let fewer = sum-fewer (is_call n) one x.calls in omega arith

  asked-call : (asked n y room : ℕ) (bytes : List ℕ) (x : Client)
      → holds (asks (record { number = n; req_type = y; room = room; ask = bytes }) x) ≤ holds x
      + cond (n == number) 1 0
  asked-call asked n y room bytes x =
      let push = sum_by_push one x.calls (record {
        what = record { number = n; req_type = y; room = room; ask = bytes };
        progress = None;
      }) in
      omega arith

  given : (asked c n m : ℕ) → c ≡ asked → n + cond (leb asked number) 1 0 ≤ 1
      → m ≤ n + cond (c == number) 1 0 → m + cond (leb (asked + 1) number) 1 0 ≤ 1
  given asked c n m e once h = grind (arith, nat_tests)

  kept : (n m k : ℕ) → n + k ≤ 1 → m ≤ n + 0 → m + k ≤ 1
  kept n m k once h = omega arith

  told-holds : (clock : ℕ) (o : Option ControlHeader) (xs : List Client)
      → holders number (clients_told clock o xs) ≤ holders number xs + 0
  told-holds clock None xs = omega arith
  told-holds clock (Some c) xs =
      sum-grown (is_client c.client) (requests clock c) holds 0 xs (λ x. let same = told-same holds clock c x refl in omega arith)

  once-after : (clock : ℕ) (e : Event) (bytes : List ℕ) (head : Option MessageHeader)
      (body : List ℕ) (s : Lists) → holders number s.clients + to_come s.asked number ≤ 1
      → Allowed s e → holders number (clients_after clock e bytes head body s.clients)
      + to_come (asked_after e s.asked) number ≤ 1
  once-after clock (PairedClient n peer t credits life) bytes head body s h a =
      let push = sum_by_push holds s.clients (client_end n peer t credits life) in
      kept (holders number s.clients) _ (to_come s.asked number) h (omega arith)
  once-after clock (Opened n peer credits) bytes head body s h a =
      let push = sum_by_push holds s.clients (opened_end n peer credits) in
      kept (holders number s.clients) _ (to_come s.asked number) h (omega arith)
  once-after clock (FailedNoRoom n) bytes head body s h a =
      kept (holders number s.clients) _ (to_come s.asked number) h
      (sum-grown (is_client n) (comes_to Failed) holds 0 s.clients (λ x. omega arith))
  once-after clock (FailedNoAnswer n) bytes head body s h a =
      kept (holders number s.clients) _ (to_come s.asked number) h
      (sum-grown (is_client n) (comes_to Failed) holds 0 s.clients (λ x. omega arith))
  once-after clock (BeginsClosing n) bytes head body s h a =
      kept (holders number s.clients) _ (to_come s.asked number) h
      (sum-grown (is_client n) (comes_to Closing) holds 0 s.clients (λ x. omega arith))
  once-after clock (ClosedHeard n) bytes head body s h a =
      kept (holders number s.clients) _ (to_come s.asked number) h
      (sum-grown (is_client n) (comes_to Closed) holds 0 s.clients (λ x. omega arith))
  once-after clock (ClosedUnheard n) bytes head body s h a =
      kept (holders number s.clients) _ (to_come s.asked number) h
      (sum-grown (is_client n) (comes_to Closed) holds 0 s.clients (λ x. omega arith))
  once-after clock (IsConnected n t life) bytes head body s h a =
      kept (holders number s.clients) _ (to_come s.asked number) h
      (sum-grown (is_client n) (connects t life) holds 0 s.clients (λ x. omega arith))
  once-after clock (Sent peer Control k) bytes head body s h a =
      kept (holders number s.clients) _ (to_come s.asked number) h (told-holds clock (control_of bytes) s.clients)
  once-after clock (Asked c n y room) bytes head body s h a =
      given s.asked c (holders number s.clients) _ a.next h
      (sum-grown (is_client n) (asks (record
      { number = c; req_type = y; room = room; ask = bytes })) holds (cond (c == number) 1 0)
      s.clients (asked-call s.asked c y room bytes))
  once-after clock (Begun c r) bytes head body s h a =
      kept (holders number s.clients) _ (to_come s.asked number) h
      (sum-grown (has_call c) (begins c r) holds 0 s.clients
      (λ x. same-call (is_call c) (begun r) (λ d. refl) x.calls))
  once-after clock (Posted (Ask n r) k) bytes head body s h a =
      kept (holders number s.clients) _ (to_come s.asked number) h
      (sum-grown (is_client n) (posts r k) holds 0 s.clients
      (λ x. same-call (is_active r) (moved (posted_up_to k)) (λ d. refl) x.calls))
  once-after clock (Sent peer (Ask n r) k) bytes head body s h a =
      kept (holders number s.clients) _ (to_come s.asked number) h
      (sum-grown (is_client n) (sends clock r k) holds 0 s.clients
      (λ x. same-call (is_active r) (moved (sent_packet clock k)) (λ d. refl) x.calls))
  once-after clock (Took (Ask n r) k) bytes head body s h a =
      kept (holders number s.clients) _ (to_come s.asked number) h
      (sum-grown (is_client n) (takes clock r head body) holds 0 s.clients
      (λ x. same-call (is_active r) (moved (took_reply clock head body)) (λ d. refl) x.calls))
  once-after clock (Rolled c posted got) bytes head body s h a =
      kept (holders number s.clients) _ (to_come s.asked number) h
      (sum-grown (has_call c) (rolls c posted got) holds 0 s.clients
      (λ x. same-call (is_call c) (moved (rolled_back got)) (λ d. refl) x.calls))
  once-after clock (Broken n) bytes head body s h a =
      kept (holders number s.clients) _ (to_come s.asked number) h
      (sum-grown (is_client n) breaks holds 0 s.clients (λ x. omega arith))
  once-after clock (DoneOk c) bytes head body s h a =
      kept (holders number s.clients) _ (to_come s.asked number) h
      (sum-grown (has_call c) (ends c) holds 0 s.clients (fewer-call c))
  once-after clock (DoneTooSmall c size) bytes head body s h a =
      kept (holders number s.clients) _ (to_come s.asked number) h
      (sum-grown (has_call c) (ends c) holds 0 s.clients (fewer-call c))
  once-after clock (DonePeerLost c) bytes head body s h a =
      kept (holders number s.clients) _ (to_come s.asked number) h
      (sum-grown (has_call c) (ends c) holds 0 s.clients (fewer-call c))
  once-after clock _ bytes head body s h a = h

pub valid_after : (clock : ℕ) (s : Lists) (f : Fact) → Valid s → Allowed s f.event → Valid (after clock s f)
valid_after clock s f v a = record {
  numbered = numbered-after clock f.event f.first (front_header s.ring) (front_body s.ring) s v.numbered a;
  once = λ number. once-after number clock f.event f.first (front_header s.ring)
      (front_body s.ring) s (v.once number) a;
  sound = sound-after clock f.event f.first s v a;
  idle = idle-after clock f.event f.first (front_header s.ring) (front_body s.ring) s v.idle a;
  alone = λ t. alone-after t f.event f.second (front_header s.ring) (front_body s.ring) s (v.alone t) a;
  served = served-after f.event f.second (front_header s.ring) (front_body s.ring) s v a;
  runs = λ t r. let spent = run-spends t r s v clock f a in let was = v.runs t r in omega arith;
  works = λ t r. let spent = work-stays t r s v clock f a in let was = v.works t r in omega arith;
  shared = shares-after clock s f v.shared a;
}

pub valid_new : (me life : ℕ) (limits : Limits) → Valid (new_lists me life limits)
valid_new me life limits = record {
  numbered = tt;
  alone = λ t. at-most-one (leb 0 t);
  once = λ number. at-most-one (leb 0 number);
  sound = tt;
  idle = tt;
  served = tt;
  runs = λ t r. let one = at-most-one (leb 0 t) in omega arith;
  works = λ t r. let one = at-most-one (leb 0 t) in omega arith;
  shared = omega arith;
}

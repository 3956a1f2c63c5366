-- What is told of each call stays told, fact by fact.
use Rattle.std.proofs.Common.{◌≡◌, ℕ, ◌+◌, ◌*◌, ◌/◌, ◌%◌, ◌≤◌, ◌<◌, Bool, true, false, ◌&&◌, ◌||◌}
use Rattle.std.proofs.Common.{cond, leb, ltb, Option, Some, None, List, [], ◌∷◌, ◌++◌, refl, sym, ap, ◌∙◌}
use Rattle.std.proofs.Common.{inl, inr, arith}
use Rattle.std.specs.Prelude.{◌==◌, ◌⊎◌, count_by, slice_index}
use Rattle.std.specs.List.{find}
use Rattle.std.proofs.lemmas.Bool.{eqb-true, eq-eqb, and_from, le-ltb}
use Rattle.std.proofs.lemmas.Bool.Decides.{nat_tests}
use Rattle.rpc_base.specs.Tables.{at_first}
use Rattle.rpc_base.specs.declared.event.Event.{Event}
use Rattle.rpc_base.specs.declared.event.Event.TheVariants.{PairedClient, Opened}
use Rattle.rpc_base.specs.declared.event.Event.TheVariants.{Connected as IsConnected, FailedNoRoom}
use Rattle.rpc_base.specs.declared.event.Event.TheVariants.{FailedNoAnswer}
use Rattle.rpc_base.specs.declared.event.Event.TheVariants.{Closing as BeginsClosing, ClosedHeard}
use Rattle.rpc_base.specs.declared.event.Event.TheVariants.{ClosedUnheard, Asked, Begun, Posted}
use Rattle.rpc_base.specs.declared.event.Event.TheVariants.{Sent, Took, Rolled, Broken, DoneOk}
use Rattle.rpc_base.specs.declared.event.Event.TheVariants.{DoneTooSmall, DonePeerLost}
use Rattle.rpc_base.specs.declared.fact.Fact.{Fact}
use Rattle.rpc_base.specs.declared.fact.Who.{Who}
use Rattle.rpc_base.specs.declared.owner.Owner.TheVariants.{Ask, Control}
use Rattle.rpc_base.specs.declared.state.SessionState.TheVariants.{Closing, Closed, Failed}
use Rattle.rpc_laws.specs.declared.tables.Client.{Client}
use Rattle.rpc_laws.specs.declared.tables.Lists.{Lists}
use Rattle.rpc_laws.specs.Calls.{is_call, is_active, moved, begun, posted_up_to, rolled_back}
use Rattle.rpc_laws.specs.Calls.{is_response, took_reply, with_reply}
use Rattle.rpc_laws.specs.Front.{control_of, front_header, front_body}
use Rattle.rpc_laws.specs.Sessions.{is_client, has_call, comes_to, connects, asks, begins, posts}
use Rattle.rpc_laws.specs.Sessions.{takes, rolls, breaks, clients_after}
use Rattle.packet_header.specs.declared.packet.MessageHeader.{MessageHeader}
use Rattle.rpc_laws.specs.declared.tables.Arrival.{Arrival}
use Rattle.rpc_laws.specs.declared.tables.Progress.{Progress}
use Rattle.node_laws.specs.CallHistory.{takes_of, told_size, told_parts}
use Rattle.node_laws.specs.RequestHistory.{ring_by}
use Rattle.node_laws.proofs.Allowed.{Allowed, MayAsk, MayBegin, MayPost, MayTake, MayRoll}
use Rattle.rpc_base.proofs.FindLemmas.{changed-holds, none-found}
use Rattle.node_laws.proofs.NumberLemmas.{by_number}
use Rattle.node_laws.proofs.OpenLemmas.{future}
use Rattle.node_laws.proofs.SoundLemmas.{by_request, took-request, reply-answer, reply-got}
use Rattle.node_laws.proofs.SoundLemmas.{reply-posted}
use Rattle.rpc_base.proofs.FirstLemmas.{found-holds, found-le}
use Rattle.node_laws.proofs.TellEventLemmas.{noted, own-moved, took-active, posted-active}
use Rattle.node_laws.proofs.TellEventLemmas.{rolled-active, begun-active, told-sent, told-kept}
use Rattle.node_laws.proofs.TellEventLemmas.{told-requests, told-made, told-opened, told-ended}
use Rattle.node_laws.proofs.TellEventLemmas.{asked-by}
use Rattle.node_laws.proofs.TellLemmas.{Told, told-stays, Focus, focus-of, focus-told, other-request, other-number}
use Rattle.node_laws.specs.Valid.{Sound, holders, Valid}
use Rattle.rpc_base.proofs.TakingLemmas.{find-passes}

-- how often a request may still begin, of a session that is there or may come
abbrev pub future_of : ℕ → Option Client → ℕ
future_of r None = 1
future_of r (Some x) = future r x.turns

-- the same of session n
abbrev pub future_for : ℕ → ℕ → List Client → ℕ
future_for n r xs = future_of r (find (is_client n) xs)

-- no reply is taken of a request that may still begin
pub record NoneTaken (past : List Fact) (s : Lists) : Type 0 where
  pub taken : (n r : ℕ) → (count_by (λ f. takes_of n r f.event) past ≡ 0) ⊎ (future_for n r s.clients ≤ 0)

-- what a reply adds to the answer
reply-parts : (h : MessageHeader) (body : List ℕ) (p : Progress)
    → (with_reply h body p).parts ≡ told_parts (Some h) body p.parts
reply-parts h body p = by (is_response h.kind)
  where
    by : (b : Bool) → (cond b (record p {
      got = p.got + 1;
      answer = Some h.size;
      parts = p.parts ++ body;
    }) (record p { got = p.got + 1 })).parts ≡ cond b (p.parts ++ body) p.parts
    by true = refl
    by false = refl

module _ (who : Who) (bytes second : List ℕ) (past : List Fact) (s : Lists) (v : Valid s) (c n : ℕ) where
  took-told : (clock m r k : ℕ) → ring_by past ≡ s.ring → MayTake s m r k → Told past c n (find (is_client n) s.clients)
      → Told (noted who (Took (Ask m r) k) bytes second ∷ past) c n
      (find (is_client n) (at_first (is_client m)
      (takes clock r (front_header s.ring) (front_body s.ring)) s.clients))
  took-told clock m r k ring a t =
      let place = a.active.place in
      let sound = found-holds (is_client m) Sound s.clients a.client v.sound place.client in
      let active : find (is_active r) a.client.calls ≡ Some a.call =
      rw a.same at (by_request a.client place.test a.call a.progress sound place.call
      a.active.active) in
      let own = by_number s m a.client a.call v place in
      let change = takes clock r (Some a.header) (front_body s.ring) in
      let step = took_reply clock (Some a.header) (front_body s.ring) in
      let focus : Focus s.clients (at_first (is_client m) change s.clients) m a.client
      (change a.client) a.call.what.number a.call (moved step a.call) =
      focus-of s.clients (is_client m) change m a.client (is_active r)
      (moved step) a.call.what.number a.call place.client place.client refl refl active
      own.call refl in
      let counts = took-active who bytes second past a.call.what.number m r k a.progress
      (step a.progress) (sym a.same) (took-request clock (Some a.header)
      (front_body s.ring) a.progress) (reply-got a.header (front_body s.ring) a.progress)
      (reply-posted a.header (front_body s.ring) a.progress) refl
      (reply-answer a.header (front_body s.ring) a.progress
      ∙ ap (λ o. told_size o a.progress.answer) (sym (ap front_header ring ∙ a.front)))
      (reply-parts a.header (front_body s.ring) a.progress
      ∙ (ap (λ o. told_parts o (front_body s.ring) a.progress.parts)
      (sym (ap front_header ring ∙ a.front))
      ∙ ap (λ (d : List Arrival). told_parts (front_header (ring_by past)) (front_body d)
      a.progress.parts) (sym ring))) in
      rw a.front (focus-told past (noted who (Took (Ask m r) k) bytes second) s.clients
      (at_first (is_client m) change s.clients) m a.client (change a.client) a.call.what.number
      a.call (moved step a.call) focus (λ u. (
        u.0,
        own-moved past (noted who (Took (Ask m r) k) bytes second ∷ past) a.call.what.number
            m step a.call.progress a.progress a.active.active counts u.1,
      )) c n
      (λ x b p client call here apart. other-request s v m a.client a.call place c n x b p
      client call here apart r active (m == n && r == p.request) refl) t)

  posted-told : (m r k : ℕ) → MayPost s m r k → Told past c n (find (is_client n) s.clients)
      → Told (noted who (Posted (Ask m r) k) bytes second ∷ past) c n
      (find (is_client n) (at_first (is_client m) (posts r k) s.clients))
  posted-told m r k a t =
      let place = a.active.place in
      let sound = found-holds (is_client m) Sound s.clients a.client v.sound place.client in
      let active : find (is_active r) a.client.calls ≡ Some a.call =
      rw a.same (by_request a.client place.test a.call a.progress sound place.call
      a.active.active) in
      let own = by_number s m a.client a.call v place in
      let focus : Focus s.clients (at_first (is_client m) (posts r k) s.clients) m a.client
      (posts r k a.client) a.call.what.number a.call (moved (posted_up_to k) a.call) =
      focus-of s.clients (is_client m) (posts r k) m a.client (is_active r)
      (moved (posted_up_to k)) a.call.what.number a.call place.client place.client refl refl
      active own.call refl in
      let counts = posted-active who bytes second past a.call.what.number m r k a.progress
      (posted_up_to k a.progress) a.same refl refl refl refl refl refl in
      focus-told past (noted who (Posted (Ask m r) k) bytes second) s.clients
      (at_first (is_client m) (posts r k) s.clients) m a.client (posts r k a.client)
      a.call.what.number a.call (moved (posted_up_to k) a.call) focus
      (λ u. (
        u.0,
        own-moved past (noted who (Posted (Ask m r) k) bytes second ∷ past)
            a.call.what.number m (posted_up_to k) a.call.progress a.progress a.active.active counts
            u.1,
      )) c n (λ x b p client call here apart. other-request s v m a.client a.call place c n x
      b p client call here apart r active (m == n && r == p.request) refl) t

  rolled-told : (i posted got : ℕ) → MayRoll s i posted got
      → Told past c n (find (is_client n) s.clients)
      → Told (noted who (Rolled i posted got) bytes second ∷ past) c n
      (find (is_client n) (at_first (has_call i) (rolls i posted got) s.clients))
  rolled-told i posted got a t =
      let place = a.active.place in
      let own = by_number s a.session a.client a.call v place in
      let j = a.call.what.number in
      let focus : Focus s.clients (at_first (has_call j) (rolls j posted got) s.clients) a.session
      a.client (rolls j posted got a.client) j a.call (moved (rolled_back got) a.call) =
      focus-of s.clients (has_call j) (rolls j posted got) a.session a.client (is_call j)
      (moved (rolled_back got)) j a.call own.client place.client refl refl own.call own.call
      refl in
      let counts = rolled-active who bytes second past j a.session posted got a.progress
      (rolled_back got a.progress) refl refl refl refl refl refl in
      rw a.same (focus-told past (noted who (Rolled j posted got) bytes second) s.clients
      (at_first (has_call j) (rolls j posted got) s.clients) a.session a.client
      (rolls j posted got a.client) j a.call (moved (rolled_back got) a.call) focus
      (λ u. (
        u.0,
        own-moved past (noted who (Rolled j posted got) bytes second ∷ past) j
            a.session (rolled_back got) a.call.progress a.progress a.active.active counts u.1,
      )) c n
      (λ x b p client call here apart. other-number s v a.session a.client a.call place c n x b
      p client call here apart (j == c) refl) t)

  -- a number that is given out now
  turn-of : (new slot turn : ℕ) → slot < 8 → new ≡ slot + 8 * turn → (new / 8 ≡ turn) × (slot ≡ new % 8)
  turn-of new slot turn h e = (omega arith, omega arith)

  not-yet : (m r : ℕ) (x : Client) → find (is_client m) s.clients ≡ Some x
      → r / 8 ≡ slice_index x.turns (r % 8) → NoneTaken past s
      → count_by (λ f. takes_of m r f.event) past ≡ 0
  not-yet m r x found turn k = by (k.taken m r)
    where
      one : (a b : ℕ) → a ≡ b → ◌≤◌ (cond (ltb a b) 0 1) 0 → ⊥
      one a b e h =
          let none : ltb a b ≡ false = le-ltb a b (omega arith) in
          let less : ◌≤◌ (cond false 0 1) 0 = rw none at h in
          omega arith

      by : (count_by (λ f. takes_of m r f.event) past ≡ 0) ⊎ (future_for m r s.clients ≤ 0)
          → count_by (λ f. takes_of m r f.event) past ≡ 0
      by (inl none) = none
      by (inr less) = let own : future_of r (Some x) ≤ 0 = rw found at less in absurd (one (r / 8) (slice_index x.turns (r % 8)) turn own)

  begun-told : (i r : ℕ) → MayBegin s i r → NoneTaken past s
      → Told past c n (find (is_client n) s.clients)
      → Told (noted who (Begun i r) bytes second ∷ past) c n
      (find (is_client n) (at_first (has_call i) (begins i r) s.clients))
  begun-told i r a none t =
      let own = by_number s a.session a.client a.call v a.place in
      let j = a.call.what.number in
      let turn = turn-of r a.slot (slice_index a.client.turns a.slot) a.below a.next in
      let turns : r / 8 ≡ slice_index a.client.turns (r % 8) =
      turn.0 ∙ ap (λ k. slice_index a.client.turns k) turn.1 in
      let zero = not-yet a.session r a.client a.place.client turns none in
      let focus : Focus s.clients (at_first (has_call j) (begins j r) s.clients) a.session a.client
      (begins j r a.client) j a.call (begun r a.call) =
      focus-of s.clients (has_call j) (begins j r) a.session a.client (is_call j)
      (begun r) j a.call own.client a.place.client refl refl own.call own.call refl in
      rw a.same (focus-told past (noted who (Begun j r) bytes second) s.clients
      (at_first (has_call j) (begins j r) s.clients) a.session a.client (begins j r a.client) j
      a.call (begun r a.call) focus (λ u. (
        u.0,
        begun-active who bytes second past j a.session r
            (record {
              request = r;
              got = 0;
              posted = 0;
              rolls = 0;
              mark = 0;
              answer = None;
              parts = [];
            }) refl refl refl refl refl refl zero,
      )) c n
      (λ x b p client call here apart. other-number s v a.session a.client a.call a.place c n x
      b p client call here apart (j == c) refl) t)

  asked-told : (i m y room : ℕ) → MayAsk s i m → Told past c n (find (is_client n) s.clients)
      → Told (noted who (Asked i m y room) bytes second ∷ past) c n
      (find (is_client n) (at_first (is_client m)
      (asks (record { number = i; req_type = y; room = room; ask = bytes })) s.clients))
  asked-told i m y room a t =
      let now = noted who (Asked i m y room) bytes second ∷ past in
      let stays = told-stays past (noted who (Asked i m y room) bytes second) c n
      (find (is_client n) s.clients) (λ x d p e g h. refl) t in
      changed-holds (Told now c n) (is_client m)
      (asks (record { number = i; req_type = y; room = room; ask = bytes })) (is_client n)
      (λ x. refl) s.clients (λ x e own told.
      let mine : x.way.number ≡ m = eqb-true x.way.number m (find-passes (is_client m) s.clients x e) in
      let theirs : x.way.number ≡ n = eqb-true x.way.number n own in
      let session : (m == n) ≡ true = eq-eqb m n (sym mine ∙ theirs) in
      asked-by now c n s.clients i y room bytes x.calls (i == c) refl
      (λ same. first-is _ _ (and-is (i == c) (m == n) same session))
      (λ same. no-call x e i same a.next) told) stays
    where
      and-is : (b d : Bool) → b ≡ true → d ≡ true → (b && d) ≡ true
      and-is b d e h = and_from b d e h

      first-is : (b d : Bool) → b ≡ true → (b || d) ≡ true
      first-is b d e = rw e refl

      no-call : (x : Client) → find (is_client m) s.clients ≡ Some x → (i : ℕ) → (i == c) ≡ true
          → i ≡ s.asked → find (is_call c) x.calls ≡ None
      no-call x e i same next =
          let once = v.once c in
          let part = found-le (is_client m) (λ y. count_by (is_call c) y.calls) s.clients x e in
          let number : i ≡ c = eqb-true i c same in
          none-found (is_call c) x.calls (few (holders c s.clients)
          (count_by (is_call c) x.calls) s.asked c once part (sym next ∙ number))
        where
          few : (k l asked number : ℕ) → k + cond (leb asked number) 1 0 ≤ 1 → l ≤ k → asked ≡ number → l ≤ 0
          few k l asked number h g e = grind (arith, nat_tests)

pub told-after : (clock : ℕ) (who : Who) (e : Event) (bytes second : List ℕ) (past : List Fact)
    (s : Lists) → Valid s → ring_by past ≡ s.ring → NoneTaken past s → Allowed s e → (c n : ℕ)
    → Told past c n (find (is_client n) s.clients)
    → Told (noted who e bytes second ∷ past) c n
    (find (is_client n) (clients_after clock e bytes (front_header s.ring)
    (front_body s.ring) s.clients))
told-after clock who (PairedClient i peer t credits life) bytes second past s v ring k a c n told =
    told-made (noted who (PairedClient i peer t credits life) bytes second ∷ past) c n s.clients i peer t
    credits life (told-stays past (noted who (PairedClient i peer t credits life) bytes second) c n
    (find (is_client n) s.clients) (λ x d p e g h. refl) told)
told-after clock who (Opened i peer credits) bytes second past s v ring k a c n told =
    told-opened (noted who (Opened i peer credits) bytes second ∷ past) c n s.clients i peer credits
    (told-stays past (noted who (Opened i peer credits) bytes second) c n
    (find (is_client n) s.clients) (λ x d p e g h. refl) told)
told-after clock who (FailedNoRoom m) bytes second past s v ring k a c n told =
    told-kept (noted who (FailedNoRoom m) bytes second ∷ past) c n s.clients (is_client m)
    (comes_to Failed) (λ x. refl) (λ x. refl)
    (told-stays past (noted who (FailedNoRoom m) bytes second) c n
    (find (is_client n) s.clients) (λ x d p e g h. refl) told)
told-after clock who (FailedNoAnswer m) bytes second past s v ring k a c n told =
    told-kept (noted who (FailedNoAnswer m) bytes second ∷ past) c n s.clients (is_client m)
    (comes_to Failed) (λ x. refl) (λ x. refl)
    (told-stays past (noted who (FailedNoAnswer m) bytes second) c n
    (find (is_client n) s.clients) (λ x d p e g h. refl) told)
told-after clock who (BeginsClosing m) bytes second past s v ring k a c n told =
    told-kept (noted who (BeginsClosing m) bytes second ∷ past) c n s.clients (is_client m)
    (comes_to Closing) (λ x. refl) (λ x. refl)
    (told-stays past (noted who (BeginsClosing m) bytes second) c n
    (find (is_client n) s.clients) (λ x d p e g h. refl) told)
told-after clock who (ClosedHeard m) bytes second past s v ring k a c n told =
    told-kept (noted who (ClosedHeard m) bytes second ∷ past) c n s.clients (is_client m)
    (comes_to Closed) (λ x. refl) (λ x. refl)
    (told-stays past (noted who (ClosedHeard m) bytes second) c n (find (is_client n) s.clients)
    (λ x d p e g h. refl) told)
told-after clock who (ClosedUnheard m) bytes second past s v ring k a c n told =
    told-kept (noted who (ClosedUnheard m) bytes second ∷ past) c n s.clients (is_client m)
    (comes_to Closed) (λ x. refl) (λ x. refl)
    (told-stays past (noted who (ClosedUnheard m) bytes second) c n
    (find (is_client n) s.clients) (λ x d p e g h. refl) told)
told-after clock who (IsConnected m t life) bytes second past s v ring k a c n told =
    told-kept (noted who (IsConnected m t life) bytes second ∷ past) c n s.clients (is_client m)
    (connects t life) (λ x. refl) (λ x. refl) (told-stays past
    (noted who (IsConnected m t life) bytes second) c n (find (is_client n) s.clients)
    (λ x d p e g h. refl) told)
told-after clock who (Sent peer Control j) bytes second past s v ring k a c n told =
    told-requests (noted who (Sent peer Control j) bytes second ∷ past) c n s.clients clock
    (control_of bytes) (told-stays past (noted who (Sent peer Control j) bytes second) c n
    (find (is_client n) s.clients) (λ x d p e g h. refl) told)
told-after clock who (Asked i m y room) bytes second past s v ring k a c n told =
    asked-told who bytes second past s v c n i m y room a told
told-after clock who (Begun i r) bytes second past s v ring k a c n told =
    begun-told who bytes second past s v c n i r a k told
told-after clock who (Posted (Ask m r) j) bytes second past s v ring k a c n told =
    posted-told who bytes second past s v c n m r j a told
told-after clock who (Sent peer (Ask m r) j) bytes second past s v ring k a c n told =
    told-sent (noted who (Sent peer (Ask m r) j) bytes second ∷ past) c n s.clients clock m r j
    (told-stays past (noted who (Sent peer (Ask m r) j) bytes second) c n
    (find (is_client n) s.clients) (λ x d p e g h. refl) told)
told-after clock who (Took (Ask m r) j) bytes second past s v ring k a c n told =
    took-told who bytes second past s v c n clock m r j ring a told
told-after clock who (Rolled i posted got) bytes second past s v ring k a c n told =
    rolled-told who bytes second past s v c n i posted got a told
told-after clock who (Broken m) bytes second past s v ring k a c n told =
    told-kept (noted who (Broken m) bytes second ∷ past) c n s.clients (is_client m) breaks
    (λ x. refl) (λ x. refl) (told-stays past (noted who (Broken m) bytes second) c n
    (find (is_client n) s.clients) (λ x d p e g h. refl) told)
told-after clock who (DoneOk i) bytes second past s v ring k a c n told =
    let once = v.once c in
    told-ended (noted who (DoneOk i) bytes second ∷ past) c n s.clients i (omega arith)
    (told-stays past (noted who (DoneOk i) bytes second) c n (find (is_client n) s.clients)
    (λ x d p e g h. refl) told)
told-after clock who (DoneTooSmall i size) bytes second past s v ring k a c n told =
    let once = v.once c in
    told-ended (noted who (DoneTooSmall i size) bytes second ∷ past) c n s.clients i (omega arith)
    (told-stays past (noted who (DoneTooSmall i size) bytes second) c n
    (find (is_client n) s.clients) (λ x d p e g h. refl) told)
told-after clock who (DonePeerLost i) bytes second past s v ring k a c n told =
    let once = v.once c in
    told-ended (noted who (DonePeerLost i) bytes second ∷ past) c n s.clients i (omega arith)
    (told-stays past (noted who (DonePeerLost i) bytes second) c n
    (find (is_client n) s.clients) (λ x d p e g h. refl) told)
told-after clock who e bytes second past s v ring k a c n told =
    told-stays past (noted who e bytes second) c n (find (is_client n) s.clients) (λ x d p h g i. refl) told

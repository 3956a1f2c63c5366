-- A call stays on the session on which it was asked.
use Rattle.std.proofs.Common.{◌≡◌, ℕ, ◌+◌, ◌≤◌, Bool, true, false, cond, leb, Option, Some, None}
use Rattle.std.proofs.Common.{List, refl, sym, ◌∙◌, arith}
use Rattle.std.specs.Prelude.{◌==◌, count_by, sum_by}
use Rattle.std.specs.List.{find}
use Rattle.std.proofs.lemmas.Bool.{eqb-true, eq-eqb}
use Rattle.std.proofs.lemmas.Bool.Decides.{nat_tests}
use Rattle.std.proofs.lemmas.List.Sums.{sum_by_push, sum_by-le-sum_by}
use Rattle.packet_header.specs.declared.packet.ControlHeader.{ControlHeader}
use Rattle.packet_header.specs.declared.packet.MessageHeader.{MessageHeader}
use Rattle.rpc_base.specs.Tables.{at_first}
use Rattle.rpc_base.specs.declared.event.Event.{Event}
use Rattle.rpc_base.specs.declared.event.Event.TheVariants.{PairedClient, Opened}
use Rattle.rpc_base.specs.declared.event.Event.TheVariants.{Connected as IsConnected, FailedNoRoom}
use Rattle.rpc_base.specs.declared.event.Event.TheVariants.{FailedNoAnswer}
use Rattle.rpc_base.specs.declared.event.Event.TheVariants.{Closing as BeginsClosing, ClosedHeard}
use Rattle.rpc_base.specs.declared.event.Event.TheVariants.{ClosedUnheard, Asked, Begun, Posted}
use Rattle.rpc_base.specs.declared.event.Event.TheVariants.{Sent, Took, Rolled, Broken, DoneOk}
use Rattle.rpc_base.specs.declared.event.Event.TheVariants.{DoneTooSmall, DonePeerLost}
use Rattle.rpc_base.specs.declared.owner.Owner.TheVariants.{Ask, Control}
use Rattle.rpc_base.specs.declared.state.SessionState.TheVariants.{Closing, Closed, Failed}
use Rattle.rpc_laws.specs.declared.tables.Asking.{Asking}
use Rattle.rpc_laws.specs.declared.tables.Call.{Call}
use Rattle.rpc_laws.specs.declared.tables.Client.{Client}
use Rattle.rpc_laws.specs.declared.tables.Lists.{Lists}
use Rattle.rpc_laws.specs.Calls.{is_call, is_active, moved, begun, posted_up_to, sent_packet, took_reply, rolled_back}
use Rattle.rpc_laws.specs.Front.{control_of}
use Rattle.rpc_laws.specs.NodeLists.{asked_after}
use Rattle.rpc_laws.specs.Sessions.{is_client, has_call, client_end, opened_end, comes_to, connects}
use Rattle.rpc_laws.specs.Sessions.{requests, clients_told, asks, begins, posts, sends, takes}
use Rattle.rpc_laws.specs.Sessions.{rolls, breaks, ends, clients_after}
use Rattle.node_laws.proofs.Allowed.{Allowed}
use Rattle.rpc_base.proofs.FirstLemmas.{found-le, some-counted, missing-same, sum-changed, sum-grown, sum-fewer}
use Rattle.node_laws.proofs.ToldSame.{told-same}
use Rattle.node_laws.proofs.Places.{Place}
use Rattle.node_laws.specs.Valid.{to_come, Valid}
use Rattle.rpc_base.proofs.TakingLemmas.{find-passes}

module _ (c n : ℕ) where
  -- the calls of number c on a session
  abbrev has : Client → ℕ
  has x = count_by (is_call c) x.calls

  -- calls of number c on other sessions than n
  abbrev off : Client → ℕ
  off x = cond (is_client n x) 0 (has x)

  -- those, with those to come
  abbrev pub elsewhere : Lists → ℕ
  elsewhere s = sum_by off s.clients + to_come s.asked c

  off-le : (b : Bool) (k m d : ℕ) → k ≤ m + d → cond b 0 k ≤ cond b 0 m + d
  off-le true k m d h = omega arith
  off-le false k m d h = h

  off-fewer : (b : Bool) (k : ℕ) → cond b 0 k ≤ k
  off-fewer true k = omega arith
  off-fewer false k = omega arith

  elsewhere-one : (s : Lists) → Valid s → elsewhere s ≤ 1
  elsewhere-one s v =
      let once = v.once c in
      let less = sum_by-le-sum_by off has s.clients (λ x. off-fewer (is_client n x) (has x)) in
      omega arith

  kept : (p : Client → Bool) (f : Client → Client)
      → ((x : Client) → (f x).way.number ≡ x.way.number) → ((x : Client) → has (f x) ≤ has x + 0)
      → (xs : List Client) (k : ℕ) → sum_by off (at_first p f xs) + k ≤ sum_by off xs + k
  kept p f same h xs k =
      let grown = sum-grown p f off 0 xs (λ x. rw (same x)
      (off-le (is_client n x) (has (f x)) (has x) 0 (h x))) in omega arith

  told : (clock : ℕ) (o : Option ControlHeader) (xs : List Client) (k : ℕ)
      → sum_by off (clients_told clock o xs) + k ≤ sum_by off xs + k
  told clock None xs k = omega arith
  told clock (Some h) xs k =
      kept (is_client h.client) (requests clock h) (λ x. told-same (λ y. y.way.number) clock h x refl) (λ x. let same = told-same has clock h x refl in omega arith) xs k

  -- whether a call has the number
  abbrev one : Call → ℕ
  one d = cond (is_call c d) 1 0

  calls-kept : (p : Call → Bool) (f : Call → Call) → ((d : Call) → (f d).what ≡ d.what)
      → (calls : List Call) → sum_by one (at_first p f calls) ≤ sum_by one calls + 0
  calls-kept p f same calls = sum-grown p f one 0 calls (λ d. rw (same d) (omega arith))

  ends-fewer : (i : ℕ) (x : Client) → has (ends i x) ≤ has x + 0
  ends-fewer i x = let fewer = sum-fewer (is_call i) one x.calls in omega arith

  given : (asked i k m : ℕ) → i ≡ asked → k + cond (leb asked c) 1 0 ≤ 1 → m ≤ k + cond (i == c) 1 0
      → m + cond (leb (asked + 1) c) 1 0 ≤ k + cond (leb asked c) 1 0
  given asked i k m e h g = grind (arith, nat_tests)

  asked-more : (a : Asking) (x : Client) → has (asks a x) ≤ has x + cond (a.number == c) 1 0
  asked-more a x = let push = sum_by_push one x.calls (record { what = a; progress = None }) in omega arith

  pub elsewhere-after : (clock : ℕ) (e : Event) (bytes : List ℕ) (head : Option MessageHeader)
      (body : List ℕ) (s : Lists) → Valid s → Allowed s e
      → sum_by off (clients_after clock e bytes head body s.clients)
      + to_come (asked_after e s.asked) c ≤ elsewhere s
  elsewhere-after clock (PairedClient i peer t credits life) bytes head body s v a =
      let push = sum_by_push off s.clients (client_end i peer t credits life) in
      let none = off-fewer (i == n) 0 in
      omega arith
  elsewhere-after clock (Opened i peer credits) bytes head body s v a =
      let push = sum_by_push off s.clients (opened_end i peer credits) in
      let none = off-fewer (i == n) 0 in
      omega arith
  elsewhere-after clock (FailedNoRoom m) bytes head body s v a =
      kept (is_client m) (comes_to Failed) (λ x. refl) (λ x. omega arith) s.clients (to_come s.asked c)
  elsewhere-after clock (FailedNoAnswer m) bytes head body s v a =
      kept (is_client m) (comes_to Failed) (λ x. refl) (λ x. omega arith) s.clients (to_come s.asked c)
  elsewhere-after clock (BeginsClosing m) bytes head body s v a =
      kept (is_client m) (comes_to Closing) (λ x. refl) (λ x. omega arith) s.clients (to_come s.asked c)
  elsewhere-after clock (ClosedHeard m) bytes head body s v a =
      kept (is_client m) (comes_to Closed) (λ x. refl) (λ x. omega arith) s.clients (to_come s.asked c)
  elsewhere-after clock (ClosedUnheard m) bytes head body s v a =
      kept (is_client m) (comes_to Closed) (λ x. refl) (λ x. omega arith) s.clients (to_come s.asked c)
  elsewhere-after clock (IsConnected m t life) bytes head body s v a =
      kept (is_client m) (connects t life) (λ x. refl) (λ x. omega arith) s.clients (to_come s.asked c)
  elsewhere-after clock (Sent peer Control k) bytes head body s v a =
      told clock (control_of bytes) s.clients (to_come s.asked c)
  elsewhere-after clock (Asked i m y room) bytes head body s v a =
      given s.asked i (sum_by off s.clients) _ a.next (elsewhere-one s v)
      (sum-grown (is_client m) (asks (record
      { number = i; req_type = y; room = room; ask = bytes })) off (cond (i == c) 1 0) s.clients
      (λ x. off-le (is_client n x) _ (has x) (cond (i == c) 1 0)
      (asked-more (record { number = i; req_type = y; room = room; ask = bytes }) x)))
  elsewhere-after clock (Begun i r) bytes head body s v a =
      kept (has_call i) (begins i r) (λ x. refl)
      (λ x. calls-kept (is_call i) (begun r) (λ d. refl) x.calls) s.clients (to_come s.asked c)
  elsewhere-after clock (Posted (Ask m r) k) bytes head body s v a =
      kept (is_client m) (posts r k) (λ x. refl)
      (λ x. calls-kept (is_active r) (moved (posted_up_to k)) (λ d. refl) x.calls) s.clients
      (to_come s.asked c)
  elsewhere-after clock (Sent peer (Ask m r) k) bytes head body s v a =
      kept (is_client m) (sends clock r k) (λ x. refl)
      (λ x. calls-kept (is_active r) (moved (sent_packet clock k)) (λ d. refl) x.calls)
      s.clients (to_come s.asked c)
  elsewhere-after clock (Took (Ask m r) k) bytes head body s v a =
      kept (is_client m) (takes clock r head body) (λ x. refl)
      (λ x. calls-kept (is_active r) (moved (took_reply clock head body)) (λ d. refl) x.calls)
      s.clients (to_come s.asked c)
  elsewhere-after clock (Rolled i posted got) bytes head body s v a =
      kept (has_call i) (rolls i posted got) (λ x. refl)
      (λ x. calls-kept (is_call i) (moved (rolled_back got)) (λ d. refl) x.calls) s.clients
      (to_come s.asked c)
  elsewhere-after clock (Broken m) bytes head body s v a =
      kept (is_client m) breaks (λ x. refl) (λ x. omega arith) s.clients (to_come s.asked c)
  elsewhere-after clock (DoneOk i) bytes head body s v a =
      kept (has_call i) (ends i) (λ x. refl) (ends-fewer i) s.clients (to_come s.asked c)
  elsewhere-after clock (DoneTooSmall i size) bytes head body s v a =
      kept (has_call i) (ends i) (λ x. refl) (ends-fewer i) s.clients (to_come s.asked c)
  elsewhere-after clock (DonePeerLost i) bytes head body s v a =
      kept (has_call i) (ends i) (λ x. refl) (ends-fewer i) s.clients (to_come s.asked c)
  elsewhere-after clock _ bytes head body s v a = omega arith

  -- a call that is asked on n is on no other session
  here-off : (b : Bool) (k : ℕ) → b ≡ true → cond b 0 k ≡ 0
  here-off b k e = rw e refl

  asked-by : (a : Asking) (xs : List Client) (o : Option Client) → find (is_client n) xs ≡ o
      → sum_by off (at_first (is_client n) (asks a) xs) ≤ sum_by off xs
  asked-by a xs None e = rw (missing-same (is_client n) (asks a) xs e) (omega arith)
  asked-by a xs (Some x) e =
      let own = find-passes (is_client n) xs x e in
      let sums = sum-changed (is_client n) (asks a) off xs x e in
      let before = here-off (is_client n x) (has x) own in
      let after = here-off (is_client n x) (has (asks a x)) own in
      omega arith

  none-left : (asked i k m : ℕ) → i ≡ asked → i ≡ c → k + cond (leb asked c) 1 0 ≤ 1 → m ≤ k
      → m + cond (leb (asked + 1) c) 1 0 ≤ 0
  none-left asked i k m e f h g = grind (arith, nat_tests)

  pub asked-here : (s : Lists) (i m : ℕ) (a : Asking) → Valid s → i ≡ s.asked → i ≡ c → m ≡ n
      → sum_by off (at_first (is_client m) (asks a) s.clients) + to_come (s.asked + 1) c ≤ 0
  asked-here s i m a v e f g =
      let fewer : sum_by off (at_first (is_client m) (asks a) s.clients) ≤ sum_by off s.clients =
      rw g (asked-by a s.clients (find (is_client n) s.clients) refl) in
      none-left s.asked i (sum_by off s.clients) _ e f (elsewhere-one s v) fewer

  session-by : (b : Bool) (k : ℕ) → 1 ≤ k → cond b 0 k ≤ 0 → b ≡ true
  session-by true k h g = refl
  session-by false k h g = absurd (omega arith)

  pub session-found : (s : Lists) (session : ℕ) (x : Client) (d : Call)
      → Place s.clients session x d → d.what.number ≡ c → elsewhere s ≤ 0 → session ≡ n
  session-found s session x d place same none =
      let part = found-le (is_client session) off s.clients x place.client in
      let some = some-counted place.test (is_call c) x.calls d place.call (eq-eqb d.what.number c same) in
      let own = session-by (is_client n x) (has x) some (omega arith) in
      let number : x.way.number ≡ n = eqb-true x.way.number n own in
      let session_is : x.way.number ≡ session =
      eqb-true x.way.number session (find-passes (is_client session) s.clients x
      place.client) in
      sym session_is ∙ number

-- Each making of a session, and each time that one gets its other end, takes what never comes again.
use Rattle.std.proofs.Common.{◌≡◌, ℕ, suc, ◌+◌, ◌≤◌, Bool, true, false, ◌&&◌, cond, Option, Some, None, List, [], ◌∷◌, ◌++◌, length, refl, ap, arith}
use Rattle.std.specs.Prelude.{◌==◌, sum_by}
use Rattle.std.proofs.lemmas.Bool.{eqb-true}
use Rattle.std.proofs.lemmas.Bool.Decides.{nat_tests}
use Rattle.std.proofs.lemmas.List.{length-append}
use Rattle.std.proofs.lemmas.List.Sums.{sum_by_push}
use Rattle.packet_header.specs.declared.packet.ControlHeader.{ControlHeader}
use Rattle.packet_header.specs.declared.packet.MessageHeader.{MessageHeader}
use Rattle.rpc_base.specs.Tables.{at_first}
use Rattle.rpc_base.proofs.FirstLemmas.{sum-grown, sum-changed}
use Rattle.rpc_base.proofs.TakingLemmas.{find-passes}
use Rattle.rpc_base.specs.declared.event.Event.{Event}
use Rattle.rpc_base.specs.declared.event.Event.TheVariants.{PairedClient, Opened}
use Rattle.rpc_base.specs.declared.event.Event.TheVariants.{PairedServer, Accepted}
use Rattle.rpc_base.specs.declared.event.Event.TheVariants.{Connected as IsConnected, FailedNoRoom}
use Rattle.rpc_base.specs.declared.event.Event.TheVariants.{FailedNoAnswer}
use Rattle.rpc_base.specs.declared.event.Event.TheVariants.{Closing as BeginsClosing, ClosedHeard}
use Rattle.rpc_base.specs.declared.event.Event.TheVariants.{ClosedUnheard, Asked, Begun, Posted}
use Rattle.rpc_base.specs.declared.event.Event.TheVariants.{Sent, Took, Rolled, Broken, DoneOk}
use Rattle.rpc_base.specs.declared.event.Event.TheVariants.{DoneTooSmall, DonePeerLost}
use Rattle.rpc_base.specs.declared.owner.Owner.TheVariants.{Ask, Control}
use Rattle.rpc_base.specs.declared.state.SessionState.{SessionState}
use Rattle.rpc_base.specs.declared.state.SessionState.TheVariants.{Connecting, Closing, Closed, Failed}
use Rattle.rpc_laws.specs.declared.tables.Client.{Client}
use Rattle.rpc_laws.specs.declared.tables.Lists.{Lists}
use Rattle.rpc_laws.specs.Front.{control_of}
use Rattle.rpc_laws.specs.Requests.{server_numbers_after}
use Rattle.rpc_laws.specs.Sessions.{is_client, has_call, client_end, opened_end, comes_to, connects}
use Rattle.rpc_laws.specs.Sessions.{requests, clients_told, asks, begins, posts, sends}
use Rattle.rpc_laws.specs.Sessions.{takes, rolls, breaks, ends, clients_after}
use Rattle.node_laws.specs.UsedOnce.{makes_client, joins_client, makes_server}
use Rattle.node_laws.specs.Valid.{to_come}
use Rattle.node_laws.proofs.Allowed.{Allowed, IsIn}
use Rattle.node_laws.proofs.ToldSame.{told-same}

-- a change of the first leaves as many
long-cons : (n m : ℕ) (b : Bool) {A : Type 0} (x y : A) (xs ys : List A) → length xs ≡ length ys
    → length (cond b (x ∷ ys) (y ∷ xs)) ≡ suc (length ys)
long-cons n m true x y xs ys e = refl
long-cons n m false x y xs ys e = ap suc e

pub length-first : {A : Type 0} (p : A → Bool) (f : A → A) (xs : List A)
    → length (at_first p f xs) ≡ length xs
length-first p f [] = refl
length-first p f (x ∷ xs) = long-cons 0 0 (p x) (f x) x (at_first p f xs) xs (length-first p f xs)

-- what waits for its number
next-taken : (k n s : ℕ) → n ≡ k → cond (n == s) 1 0 + to_come (k + 1) s ≤ to_come k s
next-taken k n s e = grind (arith, nat_tests)

module _ (t : ℕ) where
  -- a server session
  pub served-spends : (e : Event) (l : Lists) → Allowed l e
      → cond (makes_server t e) 1 0 + to_come (server_numbers_after e l.server_numbers) t ≤ to_come
      l.server_numbers t
  served-spends (PairedServer n peer c credits life) l a = next-taken l.server_numbers n t a.numbered
  served-spends (Accepted n peer c credits life) l a = next-taken l.server_numbers n t a.numbered
  served-spends _ l a = omega arith

module _ (s : ℕ) where
  stays : (p : Client → Bool) (f : Client → Client) (xs : List Client)
      → 0 + to_come (length (at_first p f xs)) s ≤ to_come (length xs) s
  stays p f xs = rw (length-first p f xs) (omega arith)

  told-stays : (clock : ℕ) (o : Option ControlHeader) (xs : List Client)
      → 0 + to_come (length (clients_told clock o xs)) s ≤ to_come (length xs) s
  told-stays clock None xs = omega arith
  told-stays clock (Some h) xs = stays (is_client h.client) (requests clock h) xs

  added : (n : ℕ) (x : Client) (xs : List Client) → n ≡ length xs
      → cond (n == s) 1 0 + to_come (length (xs ++ x ∷ [])) s ≤ to_come (length xs) s
  added n x xs e = rw (length-append xs (x ∷ [])) (next-taken (length xs) n s e)

  -- a client session is made
  pub made-spends : (clock : ℕ) (e : Event) (bytes : List ℕ) (head : Option MessageHeader)
      (body : List ℕ) (l : Lists) → Allowed l e
      → cond (makes_client s e) 1 0
      + to_come (length (clients_after clock e bytes head body l.clients)) s ≤ to_come
      (length l.clients) s
  made-spends clock (PairedClient n peer t credits life) bytes head body l a =
      added n (client_end n peer t credits life) l.clients a.numbered
  made-spends clock (Opened n peer credits) bytes head body l a =
      added n (opened_end n peer credits) l.clients a.numbered
  made-spends clock (FailedNoRoom n) bytes head body l a = stays (is_client n) (comes_to Failed) l.clients
  made-spends clock (FailedNoAnswer n) bytes head body l a = stays (is_client n) (comes_to Failed) l.clients
  made-spends clock (BeginsClosing n) bytes head body l a = stays (is_client n) (comes_to Closing) l.clients
  made-spends clock (ClosedHeard n) bytes head body l a = stays (is_client n) (comes_to Closed) l.clients
  made-spends clock (ClosedUnheard n) bytes head body l a = stays (is_client n) (comes_to Closed) l.clients
  made-spends clock (IsConnected n t life) bytes head body l a = stays (is_client n) (connects t life) l.clients
  made-spends clock (Sent peer Control k) bytes head body l a = told-stays clock (control_of bytes) l.clients
  made-spends clock (Asked c n y room) bytes head body l a =
      stays (is_client n) (asks (record { number = c; req_type = y; room = room; ask = bytes })) l.clients
  made-spends clock (Begun c r) bytes head body l a = stays (has_call c) (begins c r) l.clients
  made-spends clock (Posted (Ask n r) k) bytes head body l a = stays (is_client n) (posts r k) l.clients
  made-spends clock (Sent peer (Ask n r) k) bytes head body l a = stays (is_client n) (sends clock r k) l.clients
  made-spends clock (Took (Ask n r) k) bytes head body l a = stays (is_client n) (takes clock r head body) l.clients
  made-spends clock (Rolled c posted got) bytes head body l a = stays (has_call c) (rolls c posted got) l.clients
  made-spends clock (Broken n) bytes head body l a = stays (is_client n) breaks l.clients
  made-spends clock (DoneOk c) bytes head body l a = stays (has_call c) (ends c) l.clients
  made-spends clock (DoneTooSmall c size) bytes head body l a = stays (has_call c) (ends c) l.clients
  made-spends clock (DonePeerLost c) bytes head body l a = stays (has_call c) (ends c) l.clients
  made-spends clock _ bytes head body l a = omega arith

-- a session that waits for its other end
abbrev is_connecting : SessionState → Bool
is_connecting Connecting = true
is_connecting _ = false

abbrev awaits : ℕ → Client → ℕ
awaits s x = cond (is_client s x && is_connecting x.state) 1 0

-- those, and one where the session may still come
abbrev pub to_join : ℕ → List Client → ℕ
to_join s xs = sum_by (awaits s) xs + to_come (length xs) s

never : (b : Bool) → ◌≡◌ {A = ℕ} (cond (b && false) 1 0) 0
never true = refl
never false = refl

always : (b : Bool) → ◌≡◌ {A = ℕ} (cond (b && true) 1 0) (cond b 1 0)
always true = refl
always false = refl

module _ (s : ℕ) where
  -- a change of the first that makes none wait
  waits-no-more : (p : Client → Bool) (f : Client → Client) (xs : List Client)
      → ((x : Client) → awaits s (f x) ≤ awaits s x + 0)
      → 0 + to_join s (at_first p f xs) ≤ to_join s xs
  waits-no-more p f xs h =
      let grown = sum-grown p f (awaits s) 0 xs h in
      let long = stays s p f xs in
      omega arith

  -- into a state where it waits no more
  over : (p : Client → Bool) (state : SessionState) → is_connecting state ≡ false → (xs : List Client)
      → 0 + to_join s (at_first p (comes_to state) xs) ≤ to_join s xs
  over p state e xs =
      waits-no-more p (comes_to state) xs (λ x. rw e (let none = never (is_client s x) in omega arith))

  told-waits : (clock : ℕ) (o : Option ControlHeader) (xs : List Client)
      → 0 + to_join s (clients_told clock o xs) ≤ to_join s xs
  told-waits clock None xs = omega arith
  told-waits clock (Some h) xs =
      waits-no-more (is_client h.client) (requests clock h) xs
      (λ x. let same = told-same (awaits s) clock h x refl in omega arith)

  -- it is paired, or opened
  pairs : (n peer t credits life : ℕ) (xs : List Client) → n ≡ length xs
      → cond (n == s) 1 0 + to_join s (xs ++ client_end n peer t credits life ∷ []) ≤ to_join s xs
  pairs n peer t credits life xs e =
      let x = client_end n peer t credits life in
      let push = sum_by_push (awaits s) xs x in
      let none = never (is_client s x) in
      let taken = added s n x xs e in
      omega arith

  opens : (n peer credits : ℕ) (xs : List Client) → n ≡ length xs
      → 0 + to_join s (xs ++ opened_end n peer credits ∷ []) ≤ to_join s xs
  opens n peer credits xs e =
      let x = opened_end n peer credits in
      let push = sum_by_push (awaits s) xs x in
      let one = always (is_client s x) in
      let taken = added s n x xs e in
      omega arith

  -- it is connected
  joins : (n t life : ℕ) (l : Lists) → IsIn l Connecting n
      → cond (n == s) 1 0 + to_join s (at_first (is_client n) (connects t life) l.clients) ≤ to_join s
      l.clients
  joins n t life l a =
      let sums = sum-changed (is_client n) (connects t life) (awaits s) l.clients a.client a.found in
      let long = stays s (is_client n) (connects t life) l.clients in
      let number = eqb-true a.client.way.number n (find-passes (is_client n) l.clients a.client a.found) in
      let none = never (is_client s a.client) in
      let before : ◌≡◌ {A = ℕ} (awaits s a.client) (cond (n == s) 1 0) = rw (number, a.stands) (always (n == s)) in
      omega arith

  pub join-spends : (clock : ℕ) (e : Event) (bytes : List ℕ) (head : Option MessageHeader)
      (body : List ℕ) (l : Lists) → Allowed l e
      → cond (joins_client s e) 1 0
      + to_join s (clients_after clock e bytes head body l.clients) ≤ to_join s l.clients
  join-spends clock (PairedClient n peer t credits life) bytes head body l a =
      pairs n peer t credits life l.clients a.numbered
  join-spends clock (Opened n peer credits) bytes head body l a = opens n peer credits l.clients a.numbered
  join-spends clock (IsConnected n t life) bytes head body l a = joins n t life l a
  join-spends clock (FailedNoRoom n) bytes head body l a = over (is_client n) Failed refl l.clients
  join-spends clock (FailedNoAnswer n) bytes head body l a = over (is_client n) Failed refl l.clients
  join-spends clock (BeginsClosing n) bytes head body l a = over (is_client n) Closing refl l.clients
  join-spends clock (ClosedHeard n) bytes head body l a = over (is_client n) Closed refl l.clients
  join-spends clock (ClosedUnheard n) bytes head body l a = over (is_client n) Closed refl l.clients
  join-spends clock (Sent peer Control k) bytes head body l a = told-waits clock (control_of bytes) l.clients
  join-spends clock (Asked c n y room) bytes head body l a =
      waits-no-more (is_client n) (asks (record { number = c; req_type = y; room = room; ask = bytes }))
      l.clients (λ x. omega arith)
  join-spends clock (Begun c r) bytes head body l a =
      waits-no-more (has_call c) (begins c r) l.clients (λ x. omega arith)
  join-spends clock (Posted (Ask n r) k) bytes head body l a =
      waits-no-more (is_client n) (posts r k) l.clients (λ x. omega arith)
  join-spends clock (Sent peer (Ask n r) k) bytes head body l a =
      waits-no-more (is_client n) (sends clock r k) l.clients (λ x. omega arith)
  join-spends clock (Took (Ask n r) k) bytes head body l a =
      waits-no-more (is_client n) (takes clock r head body) l.clients (λ x. omega arith)
  join-spends clock (Rolled c posted got) bytes head body l a =
      waits-no-more (has_call c) (rolls c posted got) l.clients (λ x. omega arith)
  join-spends clock (Broken n) bytes head body l a =
      waits-no-more (is_client n) breaks l.clients
      (λ x. let none = never (is_client s x) in omega arith)
  join-spends clock (DoneOk c) bytes head body l a =
      waits-no-more (has_call c) (ends c) l.clients (λ x. omega arith)
  join-spends clock (DoneTooSmall c size) bytes head body l a =
      waits-no-more (has_call c) (ends c) l.clients (λ x. omega arith)
  join-spends clock (DonePeerLost c) bytes head body l a =
      waits-no-more (has_call c) (ends c) l.clients (λ x. omega arith)
  join-spends clock _ bytes head body l a = omega arith

-- Each fact changes the accounts as it changes the tables, and they balance.
use Rattle.std.proofs.Common.{◌≡◌, ℕ, ◌+◌, ◌-◌, ◌≤◌, Bool, true, false, cond, leb, Option, Some}
use Rattle.std.proofs.Common.{None, List, [], ◌∷◌, ◌++◌, refl, sym, ap, ◌∙◌, inl, inr, arith}
use Rattle.std.specs.Prelude.{◌==◌, ◌⊎◌, count_by, map, option_map}
use Rattle.std.specs.List.{filter, find}
use Rattle.std.proofs.lemmas.Bool.{eq-eqb, ne_eqb, cases_eq}
use Rattle.std.proofs.lemmas.Bool.Decides.{nat_tests}
use Rattle.std.proofs.lemmas.List.{map-append}
use Rattle.std.proofs.lemmas.List.Sums.{sum_by_push}
use Rattle.rpc_base.specs.Tables.{at_first, without_first}
use Rattle.rpc_base.specs.declared.event.Event.{Event}
use Rattle.rpc_base.specs.declared.event.Event.TheVariants.{PairedClient, Opened}
use Rattle.rpc_base.specs.declared.event.Event.TheVariants.{Connected as IsConnected, FailedNoRoom}
use Rattle.rpc_base.specs.declared.event.Event.TheVariants.{FailedNoAnswer}
use Rattle.rpc_base.specs.declared.event.Event.TheVariants.{Closing as BeginsClosing, ClosedHeard}
use Rattle.rpc_base.specs.declared.event.Event.TheVariants.{ClosedUnheard, Asked, Begun, Posted}
use Rattle.rpc_base.specs.declared.event.Event.TheVariants.{Sent, Took, Rolled, Broken, DoneOk}
use Rattle.rpc_base.specs.declared.event.Event.TheVariants.{DoneTooSmall, DonePeerLost}
use Rattle.rpc_base.specs.declared.owner.Owner.TheVariants.{Ask, Control}
use Rattle.packet_header.specs.declared.packet.ControlHeader.{ControlHeader}
use Rattle.rpc_base.specs.declared.state.SessionState.TheVariants.{Closing, Closed, Failed}
use Rattle.rpc_laws.specs.Front.{control_of}
use Rattle.node_laws.proofs.ToldSame.{told-same}
use Rattle.rpc_laws.specs.declared.tables.Call.{Call}
use Rattle.rpc_laws.specs.declared.tables.Client.{Client}
use Rattle.rpc_laws.specs.declared.tables.Lists.{Lists}
use Rattle.rpc_laws.specs.declared.tables.Progress.{Progress}
use Rattle.rpc_laws.specs.Calls.{is_call, is_active, moved, begun, posted_up_to, rolled_back, sent_packet, took_reply}
use Rattle.rpc_laws.specs.Front.{front_header, front_body}
use Rattle.rpc_laws.specs.NodeLists.{asked_after}
use Rattle.rpc_laws.specs.Sessions.{is_client, has_call, client_end, opened_end, comes_to, connects}
use Rattle.rpc_laws.specs.Sessions.{clients_told, requests, asks, begins, posts, sends, takes}
use Rattle.rpc_laws.specs.Sessions.{rolls, breaks, ends, clients_after}
use Rattle.node_laws.specs.CreditBalance.{CallAccount, Accounts, is_numbered, began_as, with_number}
use Rattle.node_laws.specs.CreditBalance.{without_number, accepted, starts, puts, takes_out}
use Rattle.node_laws.specs.CreditBalance.{empties, calls_after, is_session, is_session_of, spends}
use Rattle.node_laws.specs.CreditBalance.{regains, fails, lives, sessions_after}
use Rattle.node_laws.proofs.AccountLemmas.{request_of, account_of, session_account, of_session}
use Rattle.node_laws.proofs.AccountLemmas.{accounts_of, Agrees, same-began, list-is, by-number}
use Rattle.node_laws.proofs.AccountLemmas.{by-request, Near, near-of, calls-moved, calls-left}
use Rattle.node_laws.proofs.Allowed.{Allowed, MayAsk, MayBegin, MayPost, MayTake, MayRoll}
use Rattle.node_laws.proofs.FilterLemmas.{filter-push, filter-skip, changed-same}
use Rattle.rpc_base.proofs.FindLemmas.{changed-holds}
use Rattle.node_laws.proofs.NumberLemmas.{by_number}
use Rattle.node_laws.proofs.SoundLemmas.{by_request, order-found, took-request, sent-request}
use Rattle.node_laws.proofs.SpanLemmas.{packets_of, packets-posted, packets-took, packets-rolled, packets-sent}
use Rattle.node_laws.proofs.ImageLemmas.{map-each, map-hidden}
use Rattle.rpc_base.proofs.FirstLemmas.{found-holds, sum-grown, sum-fewer}
use Rattle.node_laws.proofs.Places.{Place}
use Rattle.node_laws.specs.Valid.{Sound, to_come, Valid}

-- a change of a call that its account shows
two-fields : (number session : ℕ) (r t : Option ℕ) (x y : List ℕ) → r ≡ t → x ≡ y
    → ◌≡◌ {A = CallAccount} (record {
      number = number;
      session = session;
      request = r;
      packets = x;
    }) (record { number = number; session = session; request = t; packets = y })
two-fields number session r t x y e h = cc

request-moved : (f : Progress → Progress) → ((p : Progress) → (f p).request ≡ p.request)
    → (o : Option Progress) → request_of (option_map f o) ≡ request_of o
request-moved f same None = refl
request-moved f same (Some p) = ap Some (same p)

packets-moved : (f : Progress → Progress) (g : List ℕ → List ℕ) (o : Option Progress) (p : Progress)
    → o ≡ Some p → packets_of (Some (f p)) ≡ g (packets_of (Some p))
    → packets_of (option_map f o) ≡ g (packets_of o)
packets-moved f g o p e h = rw e h

call-moved : (n : ℕ) (f : Progress → Progress) (g : List ℕ → List ℕ) (c : Call) (p : Progress)
    → ((q : Progress) → (f q).request ≡ q.request) → c.progress ≡ Some p
    → packets_of (Some (f p)) ≡ g (packets_of (Some p))
    → account_of n (moved f c) ≡ record (account_of n c) { packets = g (packets_of c.progress) }
call-moved n f g c p same e h =
    two-fields c.what.number n (request_of (option_map f c.progress)) (request_of c.progress)
    (packets_of (option_map f c.progress)) (g (packets_of c.progress))
    (request-moved f same c.progress) (packets-moved f g c.progress p e h)

call-sent : (n clock k number : ℕ) (o : Option Progress)
    → ◌≡◌ {A = CallAccount} (record {
      number = number;
      session = n;
      request = request_of (option_map (sent_packet clock k) o);
      packets =
          packets_of (option_map (sent_packet clock k) o);
    })
    (record { number = number; session = n; request = request_of o; packets = packets_of o })
call-sent n clock k number None = refl
call-sent n clock k number (Some p) =
    two-fields number n _ _ _ _ (ap Some (sent-request clock k p)) (packets-sent clock k p)

-- the accounts of calls
module _ (a : Accounts) (s : Lists) (v : Valid s) (k : Agrees a s) where
  asked-by : (c m y room : ℕ) (bytes : List ℕ) (may : MayAsk s c m) (n : ℕ) → (n ≡ m) ⊎ (n ≡ m → ⊥)
      → filter (of_session n) (a.calls ++ accepted c m ∷ [])
      ≡ accounts_of n (find (is_client n) (at_first (is_client m)
      (asks (record { number = c; req_type = y; room = room; ask = bytes })) s.clients))
  asked-by c m y room bytes may n (inl own) =
      let near : Near s.clients (at_first (is_client m)
      (asks (record { number = c; req_type = y; room = room; ask = bytes })) s.clients) m
      (asks (record { number = c; req_type = y; room = room; ask = bytes }) may.client) =
      near-of s.clients (is_client m)
      (asks (record { number = c; req_type = y; room = room; ask = bytes })) m may.client
      may.found may.found refl in
      let list = list-is a s k m may.client may.found in
      let push = filter-push (of_session m) a.calls (accepted c m) (eq-eqb m m refl) in
      let image = map-append (account_of m) may.client.calls
      (record {
        what = record { number = c; req_type = y; room = room; ask = bytes };
        progress = None;
      } ∷ []) in
      let here : filter (of_session m) (a.calls ++ accepted c m ∷ [])
      ≡ accounts_of m (find (is_client m)
      (at_first (is_client m) (asks (record
      { number = c; req_type = y; room = room; ask = bytes })) s.clients)) = rw near.new
      (push ∙ (ap (λ bs. bs ++ accepted c m ∷ []) list ∙ sym image)) in
      rw own here
  asked-by c m y room bytes may n (inr other) =
      let near : Near s.clients (at_first (is_client m)
      (asks (record { number = c; req_type = y; room = room; ask = bytes })) s.clients) m
      (asks (record { number = c; req_type = y; room = room; ask = bytes }) may.client) =
      near-of s.clients (is_client m)
      (asks (record { number = c; req_type = y; room = room; ask = bytes })) m may.client
      may.found may.found refl in
      let skip = filter-skip (of_session n) a.calls (accepted c m) (ne_eqb m n (λ e. other (sym e))) in
      rw (near.far n other) (skip ∙ k.calls n)

  begun-calls : (c r : ℕ) → MayBegin s c r → (n : ℕ)
      → filter (of_session n) (at_first (is_numbered c) (starts r) a.calls)
      ≡ accounts_of n (find (is_client n) (at_first (has_call c) (begins c r) s.clients))
  begun-calls c r may n =
      let own = by_number s may.session may.client may.call v may.place in
      let client : find (has_call c) s.clients ≡ Some may.client = rw may.same own.client in
      let call : find (is_call c) may.client.calls ≡ Some may.call = rw may.same own.call in
      let whole = by-number a s k may.session may.client may.place.client c may.call call in
      let near = near-of s.clients (has_call c) (begins c r) may.session may.client client may.place.client refl in
      calls-moved a s k may.session may.client (begins c r may.client) may.call
      (at_first (has_call c) (begins c r) s.clients) may.place.client near (is_call c) (begun r)
      (is_numbered c) (starts r) (λ d. refl) (λ b. refl) call whole refl refl n

  rolled-calls : (c posted got : ℕ) → MayRoll s c posted got → (n : ℕ)
      → filter (of_session n) (at_first (is_numbered c) empties a.calls)
      ≡ accounts_of n (find (is_client n) (at_first (has_call c) (rolls c posted got) s.clients))
  rolled-calls c posted got may n =
      let place = may.active.place in
      let own = by_number s may.session may.client may.call v place in
      let client : find (has_call c) s.clients ≡ Some may.client = rw may.same own.client in
      let call : find (is_call c) may.client.calls ≡ Some may.call = rw may.same own.call in
      let whole = by-number a s k may.session may.client place.client c may.call call in
      let near = near-of s.clients (has_call c)
      (rolls c posted got) may.session may.client client place.client refl in
      let step = call-moved may.session (rolled_back got)
      (λ ks. []) may.call may.progress (λ q. refl) may.active.active
      (packets-rolled got may.progress may.back) in
      calls-moved a s k may.session may.client (rolls c posted got may.client) may.call
      (at_first (has_call c) (rolls c posted got) s.clients) place.client near (is_call c)
      (moved (rolled_back got)) (is_numbered c) empties (λ d. refl)
      (λ b. refl) call whole step refl n

  posted-calls : (m r i : ℕ) → MayPost s m r i → (n : ℕ)
      → filter (of_session n) (at_first (began_as m r) (puts i) a.calls)
      ≡ accounts_of n (find (is_client n) (at_first (is_client m) (posts r i) s.clients))
  posted-calls m r i may n =
      let place = may.active.place in
      let sound = found-holds (is_client m) Sound s.clients may.client v.sound place.client in
      let order = order-found may.client place.test may.call may.progress sound place.call may.active.active in
      let call : find (is_active r) may.client.calls ≡ Some may.call =
      rw may.same (by_request may.client place.test may.call may.progress sound place.call
      may.active.active) in
      let whole = by-request a s k m may.client place.client r may.call call in
      let near = near-of s.clients (is_client m) (posts r i) m may.client place.client place.client refl in
      let step = call-moved m (posted_up_to i)
      (with_number i) may.call may.progress (λ q. refl) may.active.active
      (packets-posted i may.progress may.turn order.posted) in
      calls-moved a s k m may.client (posts r i may.client) may.call
      (at_first (is_client m) (posts r i) s.clients) place.client near (is_active r)
      (moved (posted_up_to i)) (began_as m r) (puts i) (same-began m r)
      (λ b. refl) call whole step refl n

  took-calls : (clock m r i : ℕ) → MayTake s m r i → (n : ℕ)
      → filter (of_session n) (at_first (began_as m r) (takes_out i) a.calls)
      ≡ accounts_of n (find (is_client n) (at_first (is_client m)
      (takes clock r (front_header s.ring) (front_body s.ring)) s.clients))
  took-calls clock m r i may n =
      let place = may.active.place in
      let change = takes clock r (Some may.header) (front_body s.ring) in
      let sound = found-holds (is_client m) Sound s.clients may.client v.sound place.client in
      let call : find (is_active r) may.client.calls ≡ Some may.call =
      rw may.same at (by_request may.client place.test may.call may.progress sound
      place.call may.active.active) in
      let whole = by-request a s k m may.client place.client r may.call call in
      let near = near-of s.clients (is_client m) change m may.client place.client place.client refl in
      let step = call-moved m (took_reply clock (Some may.header) (front_body s.ring))
      (without_number i) may.call may.progress
      (took-request clock (Some may.header) (front_body s.ring)) may.active.active
      (packets-took clock i may.header (front_body s.ring) may.progress may.turn
      may.posted) in
      rw may.front (calls-moved a s k m may.client (change may.client) may.call
      (at_first (is_client m) change s.clients) place.client near (is_active r)
      (moved (took_reply clock (Some may.header) (front_body s.ring))) (began_as m r)
      (takes_out i) (same-began m r) (λ b. refl) call whole step refl n)

  ended-calls : (c m : ℕ) (y : Client) (d : Call) → Place s.clients m y d → c ≡ d.what.number
      → (n : ℕ) → filter (of_session n) (without_first (is_numbered c) a.calls)
      ≡ accounts_of n (find (is_client n) (at_first (has_call c) (ends c) s.clients))
  ended-calls c m y d place same n =
      let own = by_number s m y d v place in
      let client : find (has_call c) s.clients ≡ Some y = rw same own.client in
      let call : find (is_call c) y.calls ≡ Some d = rw same own.call in
      let whole = by-number a s k m y place.client c d call in
      let near = near-of s.clients (has_call c) (ends c) m y client place.client refl in
      calls-left a s k m y (ends c y) d (at_first (has_call c) (ends c) s.clients) place.client near c whole refl n

  sent-calls : (clock m r i n : ℕ)
      → filter (of_session n) a.calls ≡ accounts_of n
      (find (is_client n) (at_first (is_client m) (sends clock r i) s.clients))
  sent-calls clock m r i n =
      changed-holds (λ o. filter (of_session n) a.calls ≡ accounts_of n o) (is_client m)
      (sends clock r i) (is_client n) (λ x. refl) s.clients
      (λ x e own h. h ∙ sym (map-hidden (account_of n) (is_active r)
      (moved (sent_packet clock i)) (λ c. call-sent n clock i c.what.number c.progress)
      x.calls)) (k.calls n)

  -- a change that leaves its number and its calls
  left-calls : (f : Client → Client) → ((x : Client) → (f x).way.number ≡ x.way.number)
      → ((x : Client) → (f x).calls ≡ x.calls) → (m n : ℕ)
      → filter (of_session n) a.calls ≡ accounts_of n
      (find (is_client n) (at_first (is_client m) f s.clients))
  left-calls f numbers calls m n =
      changed-holds (λ o. filter (of_session n) a.calls ≡ accounts_of n o)
      (is_client m) f (is_client n) (λ x. ap (λ (i : ℕ). i == n) (numbers x)) s.clients
      (λ x e own h. h ∙ sym (ap (λ (cs : List Call). map (account_of n) cs) (calls x)))
      (k.calls n)

  told-calls : (clock n : ℕ) (o : Option ControlHeader)
      → filter (of_session n) a.calls ≡ accounts_of n
      (find (is_client n) (clients_told clock o s.clients))
  told-calls clock n None = k.calls n
  told-calls clock n (Some c) =
      left-calls (requests clock c) (λ x. told-same (λ (y : Client). y.way.number) clock c x refl)
      (λ x. told-same (λ (y : Client). y.calls) clock c x refl) c.client n

  broken-calls : (m n : ℕ)
      → filter (of_session n) a.calls ≡ accounts_of n
      (find (is_client n) (at_first (is_client m) breaks s.clients))
  broken-calls m n =
      changed-holds (λ o. filter (of_session n) a.calls ≡ accounts_of n o)
      (is_client m) breaks (is_client n) (λ x. refl) s.clients (λ x e own h. h) (k.calls n)

-- a session that is made has no calls
later-same : (n : ℕ) (x : Client) (o p : Option Client) (b : Bool)
    → accounts_of n o ≡ accounts_of n p
    → accounts_of n (cond b (Some x) o) ≡ accounts_of n (cond b (Some x) p)
later-same n x o p true e = refl
later-same n x o p false e = e

new-none : (n : ℕ) (s peer t credits life : ℕ) (b : Bool)
    → accounts_of n (cond b (Some (client_end s peer t credits life)) None) ≡ []
new-none n s peer t credits life true = refl
new-none n s peer t credits life false = refl

made-calls : (n s peer t credits life : ℕ) (xs : List Client)
    → accounts_of n (find (is_client n) (xs ++ client_end s peer t credits life ∷ []))
    ≡ accounts_of n (find (is_client n) xs)
made-calls n s peer t credits life [] = new-none n s peer t credits life (s == n)
made-calls n s peer t credits life (x ∷ xs) =
    later-same n x (find (is_client n) (xs ++ client_end s peer t credits life ∷ []))
    (find (is_client n) xs) (is_client n x) (made-calls n s peer t credits life xs)

opened-none : (n : ℕ) (s peer credits : ℕ) (b : Bool)
    → accounts_of n (cond b (Some (opened_end s peer credits)) None) ≡ []
opened-none n s peer credits true = refl
opened-none n s peer credits false = refl

opened-calls : (n s peer credits : ℕ) (xs : List Client)
    → accounts_of n (find (is_client n) (xs ++ opened_end s peer credits ∷ []))
    ≡ accounts_of n (find (is_client n) xs)
opened-calls n s peer credits [] = opened-none n s peer credits (s == n)
opened-calls n s peer credits (x ∷ xs) =
    later-same n x (find (is_client n) (xs ++ opened_end s peer credits ∷ []))
    (find (is_client n) xs) (is_client n x) (opened-calls n s peer credits xs)

pub calls-agree : (clock : ℕ) (e : Event) (bytes : List ℕ) (a : Accounts) (s : Lists) → Valid s
    → Agrees a s → Allowed s e → (n : ℕ)
    → filter (of_session n) (calls_after e a.calls)
    ≡ accounts_of n (find (is_client n) (clients_after clock e bytes (front_header s.ring)
    (front_body s.ring) s.clients))
calls-agree clock (PairedClient i peer t credits life) bytes a s v k may n =
    k.calls n ∙ sym (made-calls n i peer t credits life s.clients)
calls-agree clock (Opened i peer credits) bytes a s v k may n =
    k.calls n ∙ sym (opened-calls n i peer credits s.clients)
calls-agree clock (FailedNoRoom m) bytes a s v k may n =
    left-calls a s v k (comes_to Failed) (λ x. refl) (λ x. refl) m n
calls-agree clock (FailedNoAnswer m) bytes a s v k may n =
    left-calls a s v k (comes_to Failed) (λ x. refl) (λ x. refl) m n
calls-agree clock (BeginsClosing m) bytes a s v k may n =
    left-calls a s v k (comes_to Closing) (λ x. refl) (λ x. refl) m n
calls-agree clock (ClosedHeard m) bytes a s v k may n =
    left-calls a s v k (comes_to Closed) (λ x. refl) (λ x. refl) m n
calls-agree clock (ClosedUnheard m) bytes a s v k may n =
    left-calls a s v k (comes_to Closed) (λ x. refl) (λ x. refl) m n
calls-agree clock (IsConnected m t life) bytes a s v k may n =
    left-calls a s v k (connects t life) (λ x. refl) (λ x. refl) m n
calls-agree clock (Sent peer Control i) bytes a s v k may n = told-calls a s v k clock n (control_of bytes)
calls-agree clock (Asked c m y room) bytes a s v k may n = asked-by a s v k c m y room bytes may n (cases_eq n m)
calls-agree clock (Begun c r) bytes a s v k may n = begun-calls a s v k c r may n
calls-agree clock (Posted (Ask m r) i) bytes a s v k may n = posted-calls a s v k m r i may n
calls-agree clock (Sent peer (Ask m r) i) bytes a s v k may n = sent-calls a s v k clock m r i n
calls-agree clock (Took (Ask m r) i) bytes a s v k may n = took-calls a s v k clock m r i may n
calls-agree clock (Rolled c posted got) bytes a s v k may n = rolled-calls a s v k c posted got may n
calls-agree clock (Broken m) bytes a s v k may n = broken-calls a s v k m n
calls-agree clock (DoneOk c) bytes a s v k may n =
    ended-calls a s v k c may.session may.client may.call may.active.place may.same n
calls-agree clock (DoneTooSmall c size) bytes a s v k may n =
    ended-calls a s v k c may.session may.client may.call may.active.place may.same n
calls-agree clock (DonePeerLost c) bytes a s v k may n =
    ended-calls a s v k c may.session may.client may.call may.place may.same n
calls-agree clock _ bytes a s v k may n = k.calls n

-- the accounts of sessions
rolled-sessions : (a : Accounts) (s : Lists) (v : Valid s) (k : Agrees a s) (c posted got : ℕ)
    → MayRoll s c posted got
    → at_first (is_session_of (find (is_numbered c) a.calls)) (regains (posted - got))
    (map session_account s.clients) ≡ map session_account
    (at_first (has_call c) (rolls c posted got) s.clients)
rolled-sessions a s v k c posted got may =
    let place = may.active.place in
    let own = by_number s may.session may.client may.call v place in
    let client : find (has_call c) s.clients ≡ Some may.client = rw may.same own.client in
    let call : find (is_call c) may.client.calls ≡ Some may.call = rw may.same own.call in
    let whole = by-number a s k may.session may.client place.client c may.call call in
    let image = map-each session_account (is_client may.session) (is_session may.session)
    (λ x. refl) (rolls c posted got) (regains (posted - got)) s.clients (λ x. refl) in
    let same = changed-same (is_client may.session) (has_call c)
    (rolls c posted got) may.client s.clients place.client client in
    rw whole (image ∙ ap (λ xs. map session_account xs) same)

hidden-sessions : (p : Client → Bool) (f : Client → Client)
    → ((x : Client) → session_account (f x) ≡ session_account x) → (xs : List Client)
    → map session_account xs ≡ map session_account (at_first p f xs)
hidden-sessions p f same xs = sym (map-hidden session_account p f same xs)

told-sessions : (clock : ℕ) (o : Option ControlHeader) (xs : List Client)
    → map session_account xs ≡ map session_account (clients_told clock o xs)
told-sessions clock None xs = refl
told-sessions clock (Some c) xs =
    hidden-sessions (is_client c.client) (requests clock c)
    (λ x. told-same session_account clock c x refl) xs

pub sessions-agree : (clock : ℕ) (e : Event) (bytes : List ℕ) (a : Accounts) (s : Lists) → Valid s
    → Agrees a s → Allowed s e
    → sessions_after e a.calls (map session_account s.clients)
    ≡ map session_account (clients_after clock e bytes (front_header s.ring)
    (front_body s.ring) s.clients)
sessions-agree clock (PairedClient i peer t credits life) bytes a s v k may =
    sym (map-append session_account s.clients (client_end i peer t credits life ∷ []))
sessions-agree clock (Opened i peer credits) bytes a s v k may =
    sym (map-append session_account s.clients (opened_end i peer credits ∷ []))
sessions-agree clock (FailedNoRoom m) bytes a s v k may =
    map-each session_account (is_client m) (is_session m) (λ x. refl) (comes_to Failed)
    (lives false) s.clients (λ x. refl)
sessions-agree clock (FailedNoAnswer m) bytes a s v k may =
    map-each session_account (is_client m) (is_session m) (λ x. refl) (comes_to Failed)
    (lives false) s.clients (λ x. refl)
sessions-agree clock (BeginsClosing m) bytes a s v k may =
    map-each session_account (is_client m) (is_session m) (λ x. refl) (comes_to Closing)
    (lives true) s.clients (λ x. refl)
sessions-agree clock (ClosedHeard m) bytes a s v k may =
    map-each session_account (is_client m) (is_session m) (λ x. refl) (comes_to Closed)
    (lives false) s.clients (λ x. refl)
sessions-agree clock (ClosedUnheard m) bytes a s v k may =
    map-each session_account (is_client m) (is_session m) (λ x. refl) (comes_to Closed)
    (lives false) s.clients (λ x. refl)
sessions-agree clock (IsConnected m t life) bytes a s v k may =
    map-each session_account (is_client m) (is_session m) (λ x. refl) (connects t life) (lives true) s.clients
    (λ x. refl)
sessions-agree clock (Sent peer Control i) bytes a s v k may = told-sessions clock (control_of bytes) s.clients
sessions-agree clock (Asked c m y room) bytes a s v k may =
    hidden-sessions (is_client m) (asks (record
    { number = c; req_type = y; room = room; ask = bytes })) (λ x. refl) s.clients
sessions-agree clock (Begun c r) bytes a s v k may = hidden-sessions (has_call c) (begins c r) (λ x. refl) s.clients
sessions-agree clock (Posted (Ask m r) i) bytes a s v k may =
    map-each session_account (is_client m) (is_session m) (λ x. refl) (posts r i) spends s.clients (λ x. refl)
sessions-agree clock (Sent peer (Ask m r) i) bytes a s v k may =
    hidden-sessions (is_client m) (sends clock r i) (λ x. refl) s.clients
sessions-agree clock (Took (Ask m r) i) bytes a s v k may =
    map-each session_account (is_client m) (is_session m) (λ x. refl)
    (takes clock r (front_header s.ring) (front_body s.ring)) (regains 1) s.clients (λ x. refl)
sessions-agree clock (Rolled c posted got) bytes a s v k may = rolled-sessions a s v k c posted got may
sessions-agree clock (Broken m) bytes a s v k may =
    map-each session_account (is_client m) (is_session m) (λ x. refl) breaks fails s.clients (λ x. refl)
sessions-agree clock (DoneOk c) bytes a s v k may = hidden-sessions (has_call c) (ends c) (λ x. refl) s.clients
sessions-agree clock (DoneTooSmall c size) bytes a s v k may =
    hidden-sessions (has_call c) (ends c) (λ x. refl) s.clients
sessions-agree clock (DonePeerLost c) bytes a s v k may = hidden-sessions (has_call c) (ends c) (λ x. refl) s.clients
sessions-agree clock _ bytes a s v k may = refl

-- no number stands twice
module _ (number : ℕ) where
  one-more : (asked c n m : ℕ) → c ≡ asked → n + cond (leb asked number) 1 0 ≤ 1
      → m ≡ n + cond (c == number) 1 0 → m + cond (leb (asked + 1) number) 1 0 ≤ 1
  one-more asked c n m e h g = grind (arith, nat_tests)

  kept-once : (q : CallAccount → Bool) (g : CallAccount → CallAccount) (bs : List CallAccount)
      (k : ℕ) → ((b : CallAccount) → (g b).number ≡ b.number)
      → count_by (is_numbered number) bs + k ≤ 1
      → count_by (is_numbered number) (at_first q g bs) + k ≤ 1
  kept-once q g bs k same h =
      let grown = sum-grown q g (λ b. cond (is_numbered number b) 1 0) 0 bs
      (λ b. rw (same b) (omega arith)) in omega arith

  left-once : (q : CallAccount → Bool) (bs : List CallAccount) (k : ℕ)
      → count_by (is_numbered number) bs + k ≤ 1
      → count_by (is_numbered number) (without_first q bs) + k ≤ 1
  left-once q bs k h = let fewer = sum-fewer q (λ b. cond (is_numbered number b) 1 0) bs in omega arith

  pub once-agrees : (e : Event) (bs : List CallAccount) (s : Lists)
      → count_by (is_numbered number) bs + to_come s.asked number ≤ 1 → Allowed s e
      → count_by (is_numbered number) (calls_after e bs)
      + to_come (asked_after e s.asked) number ≤ 1
  once-agrees (Asked c m y room) bs s h may =
      one-more s.asked c (count_by (is_numbered number) bs) _ may.next h
      (sum_by_push (λ b. cond (is_numbered number b) 1 0) bs (accepted c m))
  once-agrees (Begun c r) bs s h may = kept-once (is_numbered c) (starts r) bs (to_come s.asked number) (λ b. refl) h
  once-agrees (Posted (Ask m r) i) bs s h may =
      kept-once (began_as m r) (puts i) bs (to_come s.asked number) (λ b. refl) h
  once-agrees (Took (Ask m r) i) bs s h may =
      kept-once (began_as m r) (takes_out i) bs (to_come s.asked number) (λ b. refl) h
  once-agrees (Rolled c posted got) bs s h may =
      kept-once (is_numbered c) empties bs (to_come s.asked number) (λ b. refl) h
  once-agrees (DoneOk c) bs s h may = left-once (is_numbered c) bs (to_come s.asked number) h
  once-agrees (DoneTooSmall c size) bs s h may = left-once (is_numbered c) bs (to_come s.asked number) h
  once-agrees (DonePeerLost c) bs s h may = left-once (is_numbered c) bs (to_come s.asked number) h
  once-agrees _ bs s h may = h

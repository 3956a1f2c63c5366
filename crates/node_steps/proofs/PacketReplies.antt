-- A reply, from its session to what the node notes.
use Rattle.std.proofs.Common.{◌≡◌, ℕ, zero, suc, ◌+◌, ◌≤◌, ◌||◌, Bool, true, false, cond, Option}
use Rattle.std.proofs.Common.{Some, None, List, [], ◌∷◌, length, drop, refl, sym, ap, subst, ◌∙◌}
use Rattle.std.proofs.Common.{arith}
use Rattle.std.specs.Prelude.{◌≢◌, is_some, map, not, slice_get, slice_set}
use Rattle.std.specs.List.{AllByRecursion, find, list_any}
use Rattle.std.proofs.lemmas.Bool.{eq-eqb}
use Rattle.std.proofs.lemmas.List.{drop-map, length-set}
use Rattle.std.proofs.lemmas.Option.{slice_get_past}
use Rattle.client_core.specs.Replies.{row_told}
use Rattle.client_core.specs.Shown.{done_event, done_fact, end_bytes, end_event, took as took_alone}
use Rattle.client_core.specs.declared.outcome.Done.{Done}
use Rattle.client_core.specs.declared.outcome.Outcome.{Outcome}
use Rattle.client_core.specs.declared.outcome.Outcome.TheVariants.{Ok as EndedOk, TooSmall}
use Rattle.client_core.specs.declared.outcome.Outcome.TheVariants.{PeerLost}
use Rattle.client_core.specs.declared.outcome.Reply.{Reply}
use Rattle.client_core.specs.declared.outcome.Reply.TheVariants.{Took as TookReply, Ended}
use Rattle.client_core.specs.declared.outcome.Reply.TheVariants.{Dropped as DroppedReply}
use Rattle.packet_header.specs.Reading.{body_of, decoded, message_of}
use Rattle.packet_header.specs.declared.packet.MessageHeader.{MessageHeader}
use Rattle.packet_rings.specs.Rings.{Ring, ring}
use Rattle.packet_rings.specs.Values.{DatagramValue}
use Rattle.rpc_base.specs.Tables.{at_first}
use Rattle.rpc_base.specs.declared.event.Event.{Event}
use Rattle.rpc_base.specs.declared.event.Event.TheVariants.{Took, Dropped, DoneOk, DoneTooSmall}
use Rattle.rpc_base.specs.declared.event.Event.TheVariants.{DonePeerLost}
use Rattle.rpc_base.specs.declared.fact.Fact.{Fact}
use Rattle.rpc_base.specs.declared.limits.Limits.{Limits}
use Rattle.rpc_base.specs.declared.owner.Owner.TheVariants.{Ask}
use Rattle.rpc_base.specs.declared.state.DropReason.{DropReason}
use Rattle.rpc_base.specs.declared.state.DropReason.TheVariants.{NoSession}
use Rattle.rpc_laws.specs.declared.rows.ClientRow.{ClientRow}
use Rattle.rpc_laws.specs.declared.rows.ClientRow.TheVariants.{Drops as DropsRow, Takes}
use Rattle.rpc_laws.specs.declared.rows.EndRow.{EndRow}
use Rattle.rpc_laws.specs.declared.rows.EndRow.TheVariants.{GoesOn, EndsOk, EndsTooSmall}
use Rattle.rpc_laws.specs.declared.tables.Call.{Call}
use Rattle.rpc_laws.specs.declared.tables.Client.{Client}
use Rattle.rpc_laws.specs.declared.tables.Jobs.{Jobs}
use Rattle.rpc_laws.specs.declared.tables.Lists.{Lists}
use Rattle.rpc_laws.specs.declared.tables.Pace.{Pace}
use Rattle.rpc_laws.specs.declared.tables.Progress.{Progress}
use Rattle.rpc_laws.specs.declared.tables.Queued.{Queued}
use Rattle.rpc_laws.specs.declared.tables.Timed.{Timed}
use Rattle.rpc_laws.specs.Calls.{is_call, is_active, moved, took_reply, asked_packets, with_reply}
use Rattle.rpc_laws.specs.ClientTable.{call_ending, client_row, end_facts, end_row, progress_ending}
use Rattle.rpc_laws.specs.ClientTable.{reply_facts}
use Rattle.rpc_laws.specs.Facts.{plain, with_bytes}
use Rattle.rpc_laws.specs.Front.{front_header, front_body}
use Rattle.rpc_laws.specs.NodeLists.{after, after_all}
use Rattle.rpc_laws.specs.PollOrder.{replies_facts}
use Rattle.rpc_laws.specs.Queues.{is_queued}
use Rattle.rpc_laws.specs.Sessions.{is_client, is_connected, has_call, ends, takes}
use Rattle.rpc_laws.specs.Sessions.{clients_after}
use Rattle.rpc_outside.specs.Recording.{Grew, Log}
use Rattle.node_laws.specs.Kept.{IsPacket, Kept}
use Rattle.node_laws.specs.Valid.{client_no, holders}
use Rattle.node_laws.proofs.Allowed.{AllAllowed, allowed-of}
use Rattle.node_laws.proofs.KeptLemmas.{kept-after, kept-all}
use Rattle.node_laws.proofs.NumberLemmas.{numbered-get}
use Rattle.node_laws.proofs.ReplyLemmas.{replies-allowed}
use Rattle.session_store.specs.Hearing.{RepliesAt}
use Rattle.session_store.specs.Sides.{Shown}
use Rattle.session_store.proofs.AscendsLemmas.{ascends-changed, ascends-without}
use Rattle.session_ends.proofs.ListLemmas.{all-set, set-own}
use Rattle.node_steps.specs.Fits.{CallsAscend, Fits, IsSettled}
use Rattle.node_steps.specs.Replies.{Drops, HearsReply}
use Rattle.node_steps.specs.Notes.{Makes}
use Rattle.node_steps.specs.Seen.{Tallies, arrival_of, asking_jobs, seen_node}
use Rattle.server_core.proofs.FlushLemmas.{grew-then}
use Rattle.node_steps.proofs.NodeFits.{settled-connected}
use Rattle.node_steps.proofs.PostSteps.{first-at, only-at}
use Rattle.rpc_base.proofs.BasicLemmas.{or-true}
use Rattle.rpc_base.proofs.PlaceLemmas.{all-at, set-here}

-- a call whose number stays
module _ (p : Call → Bool) (g : Call → Call) (same : (c : Call) → (g c).what ≡ c.what) (n : ℕ) where
  any-cons : (c : Call) (cs : List Call) (b : Bool) → list_any (is_call n)
      (at_first p g cs) ≡ list_any (is_call n) cs → list_any (is_call n)
      (cond b (g c ∷ cs) (c ∷ at_first p g cs)) ≡ list_any (is_call n) (c ∷ cs)
  any-cons c cs true ih = rw (same c) refl
  any-cons c cs false ih = ap (λ b. is_call n c || b) ih

  any-same : (cs : List Call) → list_any (is_call n) (at_first p g cs) ≡ list_any (is_call n) cs
  any-same [] = refl
  any-same (c ∷ cs) = any-cons c cs (p c) (any-same cs)

module _ (p q : Call → Bool) (c : Call) where
  found-cons : (y : Call) (ys : List Call) (b : Bool) → cond b (Some y) (find p ys) ≡ Some c
      → q c ≡ true → (find p ys ≡ Some c → list_any q ys ≡ true) → (q y || list_any q ys) ≡ true
  found-cons y ys true e t ih = let same : y ≡ c = cc in rw (ap q same ∙ t) refl
  found-cons y ys false e t ih = rw (ih e) (or-true (q y))

  pub found-any : (cs : List Call) → find p cs ≡ Some c → q c ≡ true → list_any q cs ≡ true
  found-any [] e t = cc
  found-any (y ∷ ys) e t = found-cons y ys (p y) e t (λ h. found-any ys h t)

-- the end of a call is of one of its session's calls
abbrev front-event : Event → List Fact → Event
front-event e [] = e
front-event e (f ∷ fs) = f.event

row-number : (me number : ℕ) (parts : List ℕ) (row : EndRow) (call : ℕ) (o : Outcome)
    (bytes : List ℕ) → end_facts me number parts row ≡ with_bytes me (end_event call o) bytes ∷ []
    → number ≡ call
row-number me number parts GoesOn call o bytes e = cc
row-number me number parts EndsOk call EndedOk bytes e =
    let same : DoneOk number ≡ DoneOk call = ap (front-event (DoneOk number)) e in cc
row-number me number parts EndsOk call (TooSmall size) bytes e =
    let same : DoneOk number ≡ DoneTooSmall call size = ap (front-event (DoneOk number)) e in cc
row-number me number parts EndsOk call PeerLost bytes e =
    let same : DoneOk number ≡ DonePeerLost call = ap (front-event (DoneOk number)) e in cc
row-number me number parts (EndsTooSmall n) call EndedOk bytes e =
    let same : DoneTooSmall number n ≡ DoneOk call = ap (front-event (DoneOk number)) e in cc
row-number me number parts (EndsTooSmall n) call (TooSmall size) bytes e =
    let same : DoneTooSmall number n ≡ DoneTooSmall call size = ap (front-event (DoneOk number)) e in cc
row-number me number parts (EndsTooSmall n) call PeerLost bytes e =
    let same : DoneTooSmall number n ≡ DonePeerLost call = ap (front-event (DoneOk number)) e in cc

progress-number : (me : ℕ) (h : MessageHeader) (body : List ℕ) (c : Call) (d : Done)
    (o : Option Progress) → progress_ending me c.what h body o ≡ done_fact me d ∷ []
    → c.what.number ≡ d.call
progress-number me h body c d None e = cc
progress-number me h body c d (Some p) e =
    let q = with_reply h body p in
    row-number me c.what.number q.parts (end_row _ (asked_packets c.what) c.what.room q.got
    q.answer) d.call d.outcome _ e

ended-here : (me : ℕ) (h : MessageHeader) (body : List ℕ) (x : Client) (d : Done) (o : Option Call)
    → find (is_active h.request) x.calls ≡ o → call_ending me h body o ≡ done_fact me d ∷ []
    → has_call d.call x ≡ true
ended-here me h body x d None f e = cc
ended-here me h body x d (Some c) f e =
    found-any (is_active h.request) (is_call d.call) c x.calls f
    (eq-eqb c.what.number d.call (progress-number me h body c d c.progress e))

-- a session that takes a reply is live
row-connected : (b : Bool) (why : DropReason) (r : ClientRow) → cond (not b)
    (DropsRow why) r ≡ Takes → b ≡ true
row-connected true why r e = refl
row-connected false why r e = cc

took-connected : (queue : List Queued) (x : Client) (peer : ℕ) (h : MessageHeader) (len : ℕ)
    → client_row queue (Some x) peer h len ≡ Takes → is_connected x.state ≡ true
took-connected queue x peer h len e = row-connected (is_connected x.state) NoSession _ e

-- lists of one session
one-same : (x y : Client) → x ∷ [] ≡ y ∷ [] → x ≡ y
one-same x y e = cc

cond-one : (b : Bool) (x y z : Client) → b ≡ true → cond b (x ∷ []) (y ∷ []) ≡ z ∷ [] → x ≡ z
cond-one true x y z t e = cc
cond-one false x y z t e = cc

pub set-twice : (xs : List Client) (i : ℕ) (x y : Client)
    → slice_set (slice_set xs i x) i y ≡ slice_set xs i y
set-twice [] i x y = refl
set-twice (z ∷ xs) zero x y = refl
set-twice (z ∷ xs) (suc i) x y = ap (λ (zs : List Client). z ∷ zs) (set-twice xs i x y)

-- the front of the ring
none-read : message_of [] ≡ None
unfolding decoded
none-read = refl

pub some-front : (ds : List DatagramValue) (h : MessageHeader) (o : Option DatagramValue)
    → o ≡ slice_get ds 0 → o ≡ None → front_header (map arrival_of ds) ≡ Some h → ⊥
some-front [] h o e n front = let none : None ≡ Some h = sym none-read ∙ front in cc
some-front (d ∷ ds) h o e n front = cc

-- and the ring once it is dropped
pub ring-left : (rx q : Ring DatagramValue) → q ≡ ring (drop 1 rx.items) rx.size
    → map arrival_of q.items ≡ drop 1 (map arrival_of rx.items)
ring-left rx q rest = ap (λ (z : Ring DatagramValue). map arrival_of z.items) rest
    ∙ sym (drop-map arrival_of 1 rx.items)

pub front-there : (ds : List DatagramValue) (d : DatagramValue) → slice_get ds 0 ≡ Some d
    → slice_get (map arrival_of ds) 0 ≡ Some (arrival_of d)
front-there [] d e = cc
front-there (y ∷ ds) d e = let same : y ≡ d = cc in ap (λ (z : DatagramValue). Some (arrival_of z)) same

pub body-there : (ds : List DatagramValue) (d : DatagramValue) → slice_get ds 0 ≡ Some d
    → front_body (map arrival_of ds) ≡ body_of d.bytes
body-there [] d e = cc
body-there (y ∷ ds) d e = let same : y ≡ d = cc in ap (λ (z : DatagramValue). body_of z.bytes) same

-- a reply by another name of its peer, its body and what it did
pub as-told : (i clock p q : ℕ) (h : MessageHeader) (b c : List ℕ) (w : Bool) (r : Reply)
    (xs ys : List Client) → p ≡ q → b ≡ c → RepliesAt i clock p h b w r xs ys
    → RepliesAt i clock q h c w r xs ys
as-told i clock p q h b c w r xs ys e f a = rw (← e, ← f) a

module _ (me : ℕ) (limits : Limits) (tallies : Tallies) (paces : List Pace) (jobs : Jobs)
    (clock : ℕ) (rx : Ring DatagramValue) (s : Shown) where
  abbrev seen : Ring DatagramValue → Shown → Timed
  seen q u = seen_node me limits tallies paces jobs clock q u

  -- with other jobs
  abbrev seen_with : Jobs → Ring DatagramValue → Shown → Timed
  seen_with js q u = seen_node me limits tallies paces js clock q u

  abbrev old : Lists
  old = (seen rx s).lists

  module _ (fits : Fits (seen rx s) s.size s.places) (h : MessageHeader) (d : DatagramValue)
      (header : front_header (map arrival_of rx.items) ≡ Some h)
      (here : slice_get rx.items 0 ≡ Some d) where
    is-front : slice_get old.ring 0 ≡ Some (arrival_of d)
    is-front = front-there rx.items d here

    body-here : front_body (map arrival_of rx.items) ≡ body_of d.bytes
    body-here = body-there rx.items d here

    all-allowed : (x : List Fact) → x ≡ replies_facts old d.peer h (body_of d.bytes)
        → AllAllowed clock old x
    all-allowed x is = rw (is, ← body-here) (replies-allowed clock old fits.kept.valid h header d.peer)

    module _ {R : Type 0} (log : R → Log) (before now : R) where
      dropped : (why : DropReason) (u : Timed)
          → replies_facts old d.peer h (body_of d.bytes) ≡ plain me (Dropped why) ∷ []
          → Makes log (Drops why) (seen rx s) u before now
          → Makes log (HearsReply h None) (seen rx s) u before now
      dropped why u is makes = record {
        noted = makes.noted;
        grew = makes.grew;
        step = λ asks. record {
          front = arrival_of d;
          is_front = is-front;
          facts = (makes.step asks).facts ∙ sym is;
          goes = (makes.step asks).goes;
          over = ap (λ (x : List Fact). drop 1 x) (makes.step asks).facts;
        };
      }

      -- where there is no such session
      pub node-unheard : (u : Timed) → length s.clients ≤ h.session
          → Makes log (Drops NoSession) (seen rx s) u before now
          → Makes log (HearsReply h None) (seen rx s) u before now
      node-unheard u past makes =
          let none : find (is_client h.session) s.clients ≡ None =
          sym (numbered-get client_no 0 h.session h.session s.clients
          fits.kept.valid.numbered (omega arith))
          ∙ slice_get_past s.clients h.session past in
          dropped NoSession u (rw none refl) makes

    module _ (i : ℕ) (number : h.session ≡ i) (t : Shown) (servers : t.servers ≡ s.servers)
        (queued : t.queued ≡ s.queued) (size : t.size ≡ s.size) (places : t.places ≡ s.places) where
      abbrev waits : Bool
      waits = list_any (is_queued (Ask h.session h.request) h.number) s.queued

      abbrev Told : Reply → Type 0
      Told r = RepliesAt i clock d.peer h (body_of d.bytes) waits r s.clients t.clients

      module _ (r : Reply) (p : Told r) where
        found : find (is_client h.session) s.clients ≡ Some p.client
        found = sym (numbered-get client_no 0 i h.session s.clients fits.kept.valid.numbered
            (omega (arith, number))) ∙ p.at

        by-row : replies_facts old d.peer h (body_of d.bytes)
            ≡ reply_facts me (Some p.client) h (body_of d.bytes) (row_told r)
        by-row = rw (found, p.row s.queued refl) refl

        abbrev T : Client
        T = takes clock h.request (Some h) (body_of d.bytes) p.client

        taken : at_first (is_client h.session)
            (takes clock h.request (Some h) (body_of d.bytes)) s.clients ≡ slice_set s.clients i T
        taken =
            let same : 0 + i ≡ h.session = omega (arith, number) in
            subst (λ k. at_first (is_client k)
            (takes clock h.request (Some h) (body_of d.bytes)) s.clients
            ≡ slice_set s.clients i T) same
            (first-at (takes clock h.request (Some h) (body_of d.bytes)) 0 i s.clients p.client
            fits.kept.valid.numbered p.at)

        ascends-T : CallsAscend T
        ascends-T = ascends-changed (is_active h.request)
            (moved (took_reply clock (Some h) (body_of d.bytes)))
            (λ c. refl) p.client.calls (all-at CallsAscend s.clients i p.client fits.ascends p.at)

      -- a reply that is dropped changes no session
      module _ (why : DropReason) (p : Told (DroppedReply why)) where
        unchanged : t.clients ≡ s.clients
        unchanged = p.changed ∙ ap (λ (z : Client). slice_set s.clients i z)
            (sym (one-same p.client p.later p.step)) ∙ set-own s.clients i p.client p.at

        same-node : seen rx t ≡ seen rx s
        same-node = rw (unchanged, servers, queued) refl

        pub fits-dropped : Fits (seen rx t) t.size t.places
        fits-dropped = rw (unchanged, servers, queued, size, places) fits

        pub node-dropped : {R : Type 0} (log : R → Log)
            (before now : R) (u : Timed) → Makes log (Drops why) (seen rx t) u before now
            → Makes log (HearsReply h None) (seen rx s) u before now
        node-dropped log before now u makes =
            dropped log before now why u (by-row (DroppedReply why) p)
            (subst (λ (z : Timed). Makes log (Drops why) z u before now) same-node
            makes)

      -- a reply that is taken
      module _ (q : Ring DatagramValue) (rest : q ≡ ring (drop 1 rx.items) rx.size) where
        abbrev took : Fact
        took = plain me (Took (Ask h.session h.request) h.number)

        abbrev mid : Lists
        mid = after clock old took

        left : map arrival_of q.items ≡ drop 1 (map arrival_of rx.items)
        left = ap (λ (z : Ring DatagramValue). map arrival_of z.items) rest ∙ sym (drop-map arrival_of 1 rx.items)

        same-size : q.size ≡ rx.size
        same-size = ap (λ (z : Ring DatagramValue). z.size) rest

        mid-clients : (r : Reply) (p : Told r) → mid.clients ≡ slice_set s.clients i (T r p)
        mid-clients r p = rw (header, body-here) (taken r p)

        fits-taken : (x : List Fact) (r : Reply) (p : Told r) → row_told r ≡ Takes
            → x ≡ replies_facts old d.peer h (body_of d.bytes)
            → seen q t ≡ record { lists = after_all clock old x; clock = clock }
            → CallsAscend p.later → p.later.state ≡ p.client.state
            → p.later.limit ≡ p.client.limit → p.later.way ≡ p.client.way
            → p.later.sends ≡ p.client.sends → Fits (seen q t) t.size t.places
        fits-taken x r p takes-row is goes up state limit way sends =
            let connected = took-connected s.queued p.client d.peer h (length (body_of d.bytes))
            (p.row s.queued refl ∙ takes-row) in
            record {
              kept = rw (ap (λ (u : Timed). u.lists) goes) (kept-all clock old x fits.kept (all-allowed x is));
              ascends = rw p.changed (all-set CallsAscend s.clients i p.later up
                  (λ j y e other. all-at CallsAscend s.clients j y fits.ascends e));
              paces = fits.paces;
              numbers = omega (
                arith,
                ap (λ (zs : List Client). length zs) p.changed,
                length-set s.clients i p.later,
                fits.numbers,
              );
              each = omega (
                arith,
                ap (λ (zs : List Client). length zs) p.changed,
                length-set s.clients i p.later,
                fits.each,
              );
              settled = rw p.changed (all-set IsSettled s.clients i p.later
                  (settled-connected p.client p.later
                  (all-at IsSettled s.clients i p.client fits.settled p.at) connected state limit
                  way sends)
                  (λ j y e other. all-at IsSettled s.clients j y fits.settled e));
              credits = rw servers fits.credits;
              sendable = rw queued fits.sendable;
              replies = rw (queued, same-size) fits.replies;
              most = rw same-size fits.most;
              packets = rw same-size (size ∙ fits.packets);
              jobs = fits.jobs;
              alive = fits.alive;
              server_numbers = fits.server_numbers;
              buffers = rw same-size (places ∙ fits.buffers);
            }

        took-as : {R : Type 0} (log : R → Log) (before now : R)
            (a b k : ℕ) → a ≡ h.session → b ≡ h.request → k ≡ h.number
            → Grew (log before) (log now) (plain me (Took (Ask a b) k) ∷ [])
            → Grew (log before) (log now) (took ∷ [])
        took-as log before now a b k session request packet grew = rw (← session, ← request, ← packet) grew

        goes-took : (js : Jobs) → t.clients ≡ mid.clients → seen_with js q t
            ≡ record { lists = after clock (seen_with js rx s).lists took; clock = clock }
        goes-took js e = rw (e, left, servers, queued, same-size) refl

        -- and its call goes on
        module _ (p : Told TookReply) where
          later-took : T TookReply p ≡ p.later
          later-took = cond-one (is_client p.client.way.number p.client)
              (T TookReply p) p.client p.later (eq-eqb p.client.way.number p.client.way.number refl)
              p.step

          clients-took : t.clients ≡ mid.clients
          clients-took = p.changed ∙ ap (λ (z : Client). slice_set s.clients i z) (sym later-took)
              ∙ sym (mid-clients TookReply p)

          facts-took : took ∷ [] ≡ replies_facts old d.peer h (body_of d.bytes)
          facts-took = sym (by-row TookReply p ∙ ap (λ (x : List Fact). took ∷ x) (p.facts refl me))

          pub fits-took : Fits (seen q t) t.size t.places
          fits-took = fits-taken (took ∷ []) TookReply p refl facts-took (goes-took jobs clients-took)
              (subst CallsAscend later-took (ascends-T TookReply p))
              (ap (λ (z : Client). z.state) (sym later-took))
              (ap (λ (z : Client). z.limit) (sym later-took))
              (ap (λ (z : Client). z.way) (sym later-took))
              (ap (λ (z : Client). z.sends) (sym later-took))

          pub node-took : {R : Type 0} (log : R → Log)
              (before now : R) (a b k : ℕ) → a ≡ h.session → b ≡ h.request → k ≡ h.number
              → Grew (log before) (log now) (plain me (Took (Ask a b) k) ∷ [])
              → Makes log (HearsReply h None) (seen rx s) (seen q t) before now
          node-took log before now a b k session request packet grew = record {
            noted = took ∷ [];
            grew = took-as log before now a b k session request packet grew;
            step = λ asks. record {
              front = arrival_of d;
              is_front = is-front;
              facts = facts-took;
              goes = goes-took (asking_jobs asks jobs) clients-took;
              over = refl;
            };
          }

        told-done : (call : ℕ) (o : Outcome) (bytes : List ℕ) (head : Option MessageHeader)
            (b : List ℕ) (xs : List Client)
            → clients_after clock (end_event call o) bytes head b xs ≡ at_first (has_call call)
            (ends call) xs
        told-done call EndedOk bytes head b xs = refl
        told-done call (TooSmall n) bytes head b xs = refl
        told-done call PeerLost bytes head b xs = refl

        goes-done : (js : Jobs) (call : ℕ) (o : Outcome) (bytes : List ℕ)
            → t.clients ≡ at_first (has_call call) (ends call) mid.clients
            → seen_with js q t ≡ record {
              lists = after clock (after clock (seen_with js rx s).lists took)
                  (with_bytes me (end_event call o) bytes);
              clock = clock;
            }
        goes-done js call EndedOk bytes e = rw (e, left, servers, queued, same-size) refl
        goes-done js call (TooSmall n) bytes e = rw (e, left, servers, queued, same-size) refl
        goes-done js call PeerLost bytes e = rw (e, left, servers, queued, same-size) refl

        -- and its call is over
        module _ (o : Done) (p : Told (Ended o)) where
          facts-ended : took ∷ done_fact me o ∷ [] ≡ replies_facts old d.peer h (body_of d.bytes)
          facts-ended = sym (by-row (Ended o) p ∙ ap (λ (x : List Fact). took ∷ x) (p.facts refl me))

          alone : took_alone clock h (body_of d.bytes) p.client ≡ T (Ended o) p ∷ []
          alone = rw (eq-eqb p.client.way.number p.client.way.number refl) refl

          has : has_call o.call (T (Ended o) p) ≡ true
          has = any-same (is_active h.request) (moved (took_reply clock (Some h) (body_of d.bytes)))
              (λ e. refl) o.call p.client.calls
              ∙ ended-here me h (body_of d.bytes) p.client o
              (find (is_active h.request) p.client.calls) refl (p.facts refl me)

          later-ended : ends o.call (T (Ended o) p) ≡ p.later
          later-ended =
              let step = ap (λ (zs : List Client). clients_after clock (done_event o) [] None [] zs)
              (sym alone) ∙ p.step in
              cond-one (has_call o.call (T (Ended o) p)) (ends o.call (T (Ended o) p))
              (T (Ended o) p) p.later has
              (sym (told-done o.call o.outcome [] None [] (T (Ended o) p ∷ [])) ∙ step)

          mid-kept : Kept mid
          mid-kept =
              let all = all-allowed (took ∷ done_fact me o ∷ []) facts-ended in
              kept-after clock old took fits.kept (allowed-of old took.event took.first took.second all.0)

          few : holders o.call (slice_set s.clients i (T (Ended o) p)) ≤ 1
          few =
              let one : holders o.call mid.clients ≤ 1 = omega (arith, mid-kept.valid.once o.call) in
              subst (λ (zs : List Client). holders o.call zs ≤ 1) (mid-clients (Ended o) p) one

          clients-ended : t.clients ≡ at_first (has_call o.call) (ends o.call) mid.clients
          clients-ended =
              let there = only-at (ends o.call) o.call (slice_set s.clients i (T (Ended o) p)) i
              (T (Ended o) p) few (set-here s.clients i p.client (T (Ended o) p) p.at) has in
              let twice = set-twice s.clients i (T (Ended o) p) (ends o.call (T (Ended o) p)) in
              let all : at_first (has_call o.call) (ends o.call) mid.clients
              ≡ slice_set s.clients i (ends o.call (T (Ended o) p)) =
              ap (λ (zs : List Client). at_first (has_call o.call) (ends o.call) zs)
              (mid-clients (Ended o) p) ∙ there ∙ twice in
              p.changed ∙ ap (λ (z : Client). slice_set s.clients i z) (sym later-ended) ∙ sym all

          pub fits-ended : Fits (seen q t) t.size t.places
          fits-ended = fits-taken (took ∷ done_fact me o ∷ [])
              (Ended o) p refl facts-ended (goes-done jobs o.call o.outcome (end_bytes o.outcome o.resp)
              clients-ended) (subst CallsAscend later-ended
              (ascends-without (is_call o.call) (T (Ended o) p).calls (ascends-T (Ended o) p)))
              (ap (λ (z : Client). z.state) (sym later-ended))
              (ap (λ (z : Client). z.limit) (sym later-ended))
              (ap (λ (z : Client). z.way) (sym later-ended))
              (ap (λ (z : Client). z.sends) (sym later-ended))

          pub node-ended : {R : Type 0} (log : R → Log)
              (before between now : R) (a b k : ℕ) (event : Event) (bytes : List ℕ) → a ≡ h.session
              → b ≡ h.request → k ≡ h.number → event ≡ done_event o
              → bytes ≡ end_bytes o.outcome o.resp
              → Grew (log before) (log between) (plain me (Took (Ask a b) k) ∷ [])
              → Grew (log between) (log now) (with_bytes me event bytes ∷ [])
              → Makes log (HearsReply h (Some o)) (seen rx s) (seen q t) before now
          node-ended log before between now a b k event bytes session request packet
              is_event is_bytes one two = record {
                noted = took ∷ done_fact me o ∷ [];
                grew = grew-then log before between now (took ∷ []) (done_fact me o ∷ [])
                    (took-as log before between a b k session request packet one)
                    (rw (← is_event, ← is_bytes) two);
                step = λ asks. record {
                  front = arrival_of d;
                  is_front = is-front;
                  facts = facts-ended;
                  goes = goes-done (asking_jobs asks jobs) o.call o.outcome
                      (end_bytes o.outcome o.resp) clients-ended;
                  over = refl;
                };
              }

-- the header of the front of the ring
pub none-front : (ds : List DatagramValue) → slice_get ds 0 ≡ None
    → front_header (map arrival_of ds) ≡ None
none-front [] e = none-read
none-front (d ∷ ds) e = cc

-- of packets of calls the one in front has a header
pub front-reads : (ds : List DatagramValue) (d : DatagramValue) → slice_get ds 0 ≡ Some d
    → AllByRecursion IsPacket (map arrival_of ds) → message_of d.bytes ≢ None
front-reads [] d e all = cc
front-reads (y ∷ ds) d e all = λ none.
    let same : y ≡ d = cc in
    let clash : false ≡ true = ap is_some (sym none ∙ ap (λ (z : DatagramValue). message_of z.bytes) (sym same)) ∙ all.0 in
    cc

pub head-there : (ds : List DatagramValue) (d : DatagramValue) → slice_get ds 0 ≡ Some d
    → front_header (map arrival_of ds) ≡ message_of d.bytes
head-there [] d e = cc
head-there (y ∷ ds) d e = let same : y ≡ d = cc in ap (λ (z : DatagramValue). message_of z.bytes) same

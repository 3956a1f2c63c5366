-- Handling a control packet notes only what is allowed.
use Rattle.std.proofs.Common.{append_assoc}
use Rattle.std.proofs.Common.{◌≡◌, ◌<◌, ◌≤◌, ◌==◌, ◌&&◌, ◌||◌, ◌⊎◌, inl, inr, not, ℕ, Bool, true}
use Rattle.std.proofs.Common.{false, cond}
use Rattle.std.proofs.Common.{List, [], ◌∷◌, ◌++◌, Option, Some, None, slice_get, refl, sym, ap}
use Rattle.std.proofs.Common.{◌∙◌, subst}
use Rattle.std.proofs.Common.{arith, map, nat_lt, ltb-true}
use Rattle.std.specs.Prelude.{flat_map, count_by}
use Rattle.std.specs.List.{find, AllByRecursion}
use Rattle.std.proofs.lemmas.Bool.{and_parts, eqb-true, eq-eqb}
use Rattle.packet_header.specs.declared.packet.ControlHeader.{ControlHeader}
use Rattle.packet_header.specs.declared.packet.ControlKind.{ControlKind}
use Rattle.packet_header.specs.declared.packet.ControlKind.TheVariants.{ConnectRequest}
use Rattle.packet_header.specs.declared.packet.ControlKind.TheVariants.{ConnectReply}
use Rattle.packet_header.specs.declared.packet.ControlKind.TheVariants.{DisconnectRequest}
use Rattle.packet_header.specs.declared.packet.ControlKind.TheVariants.{DisconnectReply}
use Rattle.rpc_base.specs.Tables.{without_first}
use Rattle.rpc_base.specs.declared.event.Event.{Event}
use Rattle.rpc_base.specs.declared.event.Event.TheVariants.{Accepted, ClosedHeard, Declined, Ended}
use Rattle.rpc_base.specs.declared.event.Event.TheVariants.{FailedNoRoom}
use Rattle.rpc_base.specs.declared.event.Event.TheVariants.{Flushed, Heard, Starved}
use Rattle.rpc_base.specs.declared.event.Event.TheVariants.{Connected as IsConnected}
use Rattle.rpc_base.specs.declared.fact.Who.TheVariants.{Node}
use Rattle.rpc_base.specs.declared.fact.Fact.{Fact}
use Rattle.rpc_base.specs.declared.owner.Owner.{Owner}
use Rattle.rpc_base.specs.declared.owner.Owner.TheVariants.{Reply}
use Rattle.rpc_base.specs.declared.state.SessionState.{SessionState}
use Rattle.rpc_base.specs.declared.state.SessionState.TheVariants.{Unknown, Connecting, Connected}
use Rattle.rpc_base.specs.declared.state.SessionState.TheVariants.{Closing, Closed, Failed, Broken}
use Rattle.rpc_base.specs.declared.state.SessionState.TheVariants.{Spent}
use Rattle.rpc_base.proofs.BasicLemmas.{not-false}
use Rattle.rpc_base.proofs.FirstLemmas.{found-own}
use Rattle.rpc_base.proofs.TakingLemmas.{find-passes}
use Rattle.rpc_laws.specs.declared.rows.ControlRow.{ControlRow}
use Rattle.rpc_laws.specs.declared.rows.ControlRow.TheVariants.{Ignores, Confirms, Declines}
use Rattle.rpc_laws.specs.declared.rows.ControlRow.TheVariants.{Starves, Accepts, Ends, Misses}
use Rattle.rpc_laws.specs.declared.rows.ControlRow.TheVariants.{Connects, Disowns, Fails, Closes}
use Rattle.rpc_laws.specs.declared.tables.Arrival.{Arrival}
use Rattle.rpc_laws.specs.declared.tables.Client.{Client}
use Rattle.rpc_laws.specs.declared.tables.InFlight.{InFlight}
use Rattle.rpc_laws.specs.declared.tables.Lists.{Lists}
use Rattle.rpc_laws.specs.declared.tables.Queued.{Queued}
use Rattle.rpc_laws.specs.declared.tables.Served.{Served}
use Rattle.rpc_laws.specs.declared.tables.Server.{Server}
use Rattle.rpc_laws.specs.declared.tables.Timed.{Timed}
use Rattle.rpc_laws.specs.BufferSafety.{OwnControl, TakesNoSession}
use Rattle.rpc_laws.specs.ControlSteps.{control_fact, Hears, HearsAll, Speaks, SpeaksIf}
use Rattle.rpc_laws.specs.ControlSteps.{AnswersControl, EndsOutdated}
use Rattle.rpc_laws.specs.ControlSteps.{TakesControl}
use Rattle.rpc_laws.specs.Steps.{Chain, none, more}
use Rattle.rpc_laws.specs.ControlTable.{closed_row, confirm_row, connect_reply, control_facts}
use Rattle.rpc_laws.specs.ControlTable.{control_reply}
use Rattle.rpc_laws.specs.ControlTable.{control_row, control_row_of, disconnect_as, end_row}
use Rattle.rpc_laws.specs.ControlTable.{is_end_of}
use Rattle.rpc_laws.specs.ControlTable.{is_for, is_named, is_older, is_stale, outdated_by}
use Rattle.rpc_laws.specs.ControlTable.{joined_row, named_end, opened_row, over_row, refused_row}
use Rattle.rpc_laws.specs.ControlTable.{reply_row}
use Rattle.rpc_laws.specs.ControlTable.{session_end, session_flushes}
use Rattle.rpc_laws.specs.Facts.{plain}
use Rattle.rpc_laws.specs.Front.{control_of}
use Rattle.rpc_laws.specs.Groups.{has_no_room, servers_spent}
use Rattle.rpc_laws.specs.NodeLists.{after, after_all}
use Rattle.rpc_laws.proofs.RunLemmas.{after_all-append}
use Rattle.rpc_laws.specs.Queues.{numbers_of}
use Rattle.rpc_laws.specs.Requests.{in_slot_of, is_server, server_end}
use Rattle.rpc_laws.specs.ServerTable.{flushes}
use Rattle.rpc_laws.specs.Sessions.{is_client, is_with}
use Rattle.end_laws.specs.Moments.{front_of, hand_noted}
use Rattle.end_laws.proofs.Allowed.{AsksAt, MayConnect, MayLeave, Walks, WalksFrom}
use Rattle.end_laws.proofs.Allowed.{walks-from}
use Rattle.end_laws.proofs.ListLemmas.{all-append}
use Rattle.end_laws.proofs.QueueLemmas.{RightNode}
use Rattle.end_laws.proofs.SendsLaw.{right-stays}
use Rattle.end_laws.proofs.SessionLemmas.{Alone, add-new, gone-first, none-made}
use Rattle.end_laws.proofs.Walks.{Fine, Walked, fine-until, walked-goes}

-- what is sent is the node's own
pub speaks-walk : (hand : Option InFlight) (latest : Option Fact) (clock : ℕ) (l : Lists) (peer : ℕ)
    (c : ControlHeader) (said : List Fact) → AsksAt l peer c ⊎ OwnControl l peer c
    → Speaks l.me peer c said → WalksFrom hand latest clock l said
speaks-walk hand latest clock l peer c said own s =
    rw (s.facts) (by s.taken)
  where
    by : (taken : Bool) → WalksFrom hand latest clock l (control_fact taken l.me peer s.head ∷ [])
    by true = (
      record {
        who = refl;
        may = record {
          header = c;
          own = own;
          no_number = refl;
          bytes = s.bytes;
          spells = s.spells;
          whole = refl;
        };
      },
      tt,
      tt,
    )
    by false = (record { who = refl; may = tt }, tt, tt)

none-walk : (hand : Option InFlight) (latest : Option Fact) (clock : ℕ) (l : Lists)
    (said : List Fact)
    → said ≡ [] → WalksFrom hand latest clock l said
none-walk hand latest clock l said e = rw e tt

-- facts that take queued packets out
record IsFlush (me : ℕ) (f : Fact) : Type 0 where
  owner : Owner
  number : ℕ
  is : f ≡ plain me (Flushed owner number)

numbers-flush : (me : ℕ) (owner : Owner) (ks : List ℕ)
    → AllByRecursion (IsFlush me) (map (λ k. plain me (Flushed owner k)) ks)
numbers-flush me owner [] = tt
numbers-flush me owner (k ∷ ks) =
    (record { owner = owner; number = k; is = refl }, numbers-flush me owner ks)

slot-flush : (me : ℕ) (queued : List Queued) (t : ℕ) (o : Option Served)
    → AllByRecursion (IsFlush me) (flushes me queued t o)
slot-flush me queued t None = tt
slot-flush me queued t (Some q) = numbers-flush me (Reply t q.number)
    (numbers_of (Reply t q.number) queued)

slots-flush : (me : ℕ) (queued : List Queued) (v : Server) (slots : List ℕ)
    → AllByRecursion (IsFlush me)
    (flat_map (λ slot. flushes me queued v.way.number (find (in_slot_of slot) v.slots)) slots)
slots-flush me queued v [] = tt
slots-flush me queued v (slot ∷ slots) =
    all-append (IsFlush me) (flushes me queued v.way.number (find (in_slot_of slot) v.slots)) _
    (slot-flush me queued v.way.number (find (in_slot_of slot) v.slots))
    (slots-flush me queued v slots)

-- they leave the server sessions
flush-walk : (hand : Option InFlight) (latest : Option Fact) (clock : ℕ) (l : Lists)
    (x y : List Fact) → AllByRecursion (IsFlush l.me) x
    → ((before : Option Fact) (m : Lists) → m.me ≡ l.me → m.life ≡ l.life → m.servers ≡ l.servers
    → WalksFrom hand before clock m y) → WalksFrom hand latest clock l (x ++ y)
flush-walk hand latest clock l [] y all go = go latest l refl refl refl
flush-walk hand latest clock l (f ∷ x) y all go =
    let g : Fact = plain l.me (Flushed all.0.owner all.0.number) in
    let rest = flush-walk hand (Some g) clock (after clock l g) x y all.1
    (λ before m me life servers. go before m me life servers) in
    let walk : WalksFrom hand latest clock l (g ∷ (x ++ y)) =
    (record { who = refl; may = tt }, tt, rest) in
    subst (λ (z : Fact). WalksFrom hand latest clock l (z ∷ (x ++ y))) (sym all.0.is) walk

-- what no test finds, no narrower one does
narrow-cons : {A : Type 0} (p q : A → Bool) (x : A) (xs : List A) (b : Bool) → p x ≡ b
    → cond b (Some x) (find p xs) ≡ None
    → (find p xs ≡ None → find (λ y. p y && q y) xs ≡ None)
    → find (λ y. p y && q y) (x ∷ xs) ≡ None
narrow-cons p q x xs true e h ih = cc
narrow-cons p q x xs false e h ih = rw e (ih h)

narrow : {A : Type 0} (p q : A → Bool) (xs : List A) → find p xs ≡ None → find (λ y. p y && q y) xs
    ≡ None
narrow p q [] h = refl
narrow p q (x ∷ xs) h = narrow-cons p q x xs (p x) refl h (narrow p q xs)

-- what a named session is
record IsNamed (peer client life : ℕ) (o : Option ℕ) (servers : List Server) (v : Server) : Type 0 where
  names : o ≡ Some v.way.number
  found : find (is_server v.way.number) servers ≡ Some v
  of_peer : v.way.peer ≡ peer
  of_client : v.way.other ≡ client
  of_life : v.way.life ≡ life
  gone : named_end peer client life o (without_first (is_server v.way.number) servers) ≡ None

few-there : (used t : ℕ) (xs : List Server) → Alone used xs → count_by (is_server t) xs ≤ 1
few-there used t xs alone = let few = alone t in omega arith

is-named : (peer client life used : ℕ) (o : Option ℕ) (servers : List Server) (v : Server)
    → Alone used servers → named_end peer client life o servers ≡ Some v
    → IsNamed peer client life o servers v
is-named peer client life used None servers v alone e = cc
is-named peer client life used (Some t) servers v alone e =
    let passes = find-passes (λ w. is_server t w && is_end_of peer client life w) servers v e in
    let parts = and_parts (is_server t v) (is_end_of peer client life v) passes in
    let ends = and_parts (v.way.peer == peer) (is_with client life v.way) parts.1 in
    let with_it = and_parts (v.way.other == client) (v.way.life == life) ends.1 in
    let number : v.way.number ≡ t = eqb-true v.way.number t parts.0 in
    let few = few-there used t servers alone in
    let found : find (is_server t) servers ≡ Some v =
    found-own (λ w. is_server t w && is_end_of peer client life w)
    (is_server t) servers v few e parts.0 in
    record {
      names = ap Some (sym number);
      found = ap (λ (n : ℕ). find (is_server n) servers) number ∙ found;
      of_peer = eqb-true v.way.peer peer ends.0;
      of_client = eqb-true v.way.other client with_it.0;
      of_life = eqb-true v.way.life life with_it.1;
      gone = subst (λ (n : ℕ). named_end peer client life (Some t) (without_first (is_server n) servers)
          ≡ None)
          (sym number) (narrow (is_server t) (is_end_of peer client life)
          (without_first (is_server t) servers) (gone-first (is_server t) servers few));
    }

-- the control packet in hand, as it is read
pub record InHand (hand : Option InFlight) (me peer : ℕ) (h : ControlHeader) : Type 0 where
  pub bytes : List ℕ
  pub in_hand : hand ≡ Some (record { from = peer; to = me; bytes = bytes })
  pub reads : control_of bytes ≡ Some h

-- a server session that is named ends
pub record MayEnd (l : Lists) (peer : ℕ) (h : ControlHeader) : Type 0 where
  pub is_kind : h.kind ≡ DisconnectRequest
  pub for_us : h.to_life ≡ Some l.life
  pub server : Server
  pub named : named_end peer h.client h.from_life h.server l.servers ≡ Some server

-- what each row needs of the lists and of what is in hand
abbrev pub RowMay : ControlRow → Option InFlight → Lists → ℕ → ControlHeader → Type 0
RowMay (Confirms t credits) hand l peer h =
    OwnControl l peer (connect_reply l.life h.from_life h.client (Some t) credits 0)
RowMay Declines hand l peer h = TakesNoSession l peer h.client h.from_life h.credits
RowMay (Accepts t) hand l peer h = t ≡ l.server_numbers
RowMay Ends hand l peer h = MayEnd l peer h
RowMay Misses hand l peer h = named_end peer h.client h.from_life h.server l.servers ≡ None
RowMay (Connects t) hand l peer h = MayConnect hand l h.client t h.from_life
RowMay Disowns hand l peer h =
    OwnControl l peer (disconnect_as DisconnectRequest l.life h.from_life h.client h.server 0)
RowMay _ hand l peer h = Unit {0}

said-walk : (hand : Option InFlight) (latest : Option Fact) (clock : ℕ) (l : Lists) (me peer : ℕ)
    (c : ControlHeader) (said : List Fact) → l.me ≡ me → OwnControl l peer c
    → Speaks me peer c said → WalksFrom hand latest clock l said
said-walk hand latest clock l me peer c said same own s =
    speaks-walk hand latest clock l peer c said (inr own)
    (subst (λ (n : ℕ). Speaks n peer c said) (sym same) s)

accepted-own : (clock : ℕ) (l : Lists) (peer : ℕ) (h : ControlHeader)
    → Alone l.server_numbers l.servers
    → let f : Fact = plain l.me (Accepted l.server_numbers peer h.client h.credits h.from_life) in
    OwnControl (after clock l f) peer
    (connect_reply l.life h.from_life h.client (Some l.server_numbers) h.credits 0)
accepted-own clock l peer h alone =
    let t = l.server_numbers in
    let v = server_end t peer h.client h.credits h.from_life in
    let none = none-made t t l.servers alone (omega arith) in
    let ends : is_end_of peer h.client h.from_life v ≡ true =
    rw (eq-eqb peer peer refl, eq-eqb h.client h.client refl, eq-eqb h.from_life h.from_life refl) refl in
    OwnControl.confirms h.from_life t v refl (add-new (is_server t) l.servers v (eq-eqb t t refl) none) ends

-- and it may
pub may-leave : (hand : Option InFlight) (l m : Lists) (peer : ℕ) (h : ControlHeader) → RightNode l
    → InHand hand l.me peer h → (e : MayEnd l peer h) → m.me ≡ l.me → m.life ≡ l.life
    → m.servers ≡ l.servers → MayLeave hand m e.server.way.number
may-leave hand l m peer h i k e me life servers =
    let v = e.server in
    let n = is-named peer h.client h.from_life l.server_numbers h.server l.servers v i.alone e.named in
    record {
      hears = record {
        peer = peer;
        bytes = k.bytes;
        header = h;
        in_hand = k.in_hand ∙ ap (λ (to : ℕ). Some
            (record { from = peer; to = to; bytes = k.bytes })) (sym me);
        reads = k.reads;
        of_kind = e.is_kind;
      };
      for_us = e.for_us ∙ ap Some (sym life);
      names = n.names;
      server = v;
      found = ap (find (is_server v.way.number)) servers ∙ n.found;
      of_peer = n.of_peer;
      of_client = n.of_client;
      of_life = n.of_life;
    }

ended-walk : (hand : Option InFlight) (latest : Option Fact) (clock : ℕ) (l m : Lists) (peer : ℕ)
    (h : ControlHeader) (said : List Fact) → RightNode l → InHand hand l.me peer h
    → (e : MayEnd l peer h) → m.me ≡ l.me → m.life ≡ l.life → m.servers ≡ l.servers
    → Speaks l.me peer (disconnect_as DisconnectReply l.life h.from_life h.client h.server 0) said
    → WalksFrom hand latest clock m (plain l.me (Ended e.server.way.number) ∷ said)
ended-walk hand latest clock l m peer h said i k e me life servers s =
    let v = e.server in
    let n = is-named peer h.client h.from_life l.server_numbers h.server l.servers v i.alone e.named in
    let f : Fact = plain l.me (Ended v.way.number) in
    let gone : named_end peer h.client h.from_life h.server (without_first (is_server v.way.number) m.servers)
    ≡ None =
    ap (λ (xs : List Server). named_end peer h.client h.from_life h.server
    (without_first (is_server v.way.number) xs)) servers
    ∙ n.gone in (
      record { who = ap Node (sym me); may = inl (may-leave hand l m peer h i k e me life servers) },
      tt,
      said-walk hand (Some f) clock (after clock m f) l.me peer
          (disconnect_as DisconnectReply l.life h.from_life h.client h.server 0) said me
          (OwnControl.ends h.from_life
          (ap (λ n. disconnect_as DisconnectReply n h.from_life h.client h.server 0) (sym life))
          gone) s,
    )

-- the facts of a row, and what is sent then
row-walk : (row : ControlRow) (hand : Option InFlight) (latest : Option Fact) (clock : ℕ)
    (l : Lists)
    (peer : ℕ) (h : ControlHeader) (said : List Fact) → RightNode l → InHand hand l.me peer h
    → RowMay row hand l peer h → SpeaksIf l.me peer (control_reply l.life h row) said
    → WalksFrom hand latest clock l (control_facts l peer h row ++ said)
row-walk Ignores hand latest clock l peer h said i k m s = none-walk hand latest clock l said s
row-walk (Confirms t credits) hand latest clock l peer h said i k m s =
    said-walk hand latest clock l l.me peer
    (connect_reply l.life h.from_life h.client (Some t) credits 0) said refl m s
row-walk Declines hand latest clock l peer h said i k m s = (
  record { who = refl; may = tt },
  tt,
  (let f : Fact = plain l.me (Declined peer h.client h.credits) in
      said-walk hand (Some f) clock (after clock l f) l.me peer
      (connect_reply l.life h.from_life h.client None h.credits 1) said refl
      (OwnControl.declines h.from_life refl (record { unknown = m.unknown; full = m.full })) s),
)
row-walk Starves hand latest clock l peer h said i k m s = (
  record { who = refl; may = tt },
  tt,
  (let f : Fact = plain l.me (Starved peer h.client h.credits) in
      none-walk hand (Some f) clock (after clock l f) said s),
)
row-walk (Accepts t) hand latest clock l peer h said i k m s =
    accepts-walk hand latest clock l peer t h said i m s
  where
    accepts-walk : (hand : Option InFlight) (latest : Option Fact) (clock : ℕ) (l : Lists)
        (peer t : ℕ) (h : ControlHeader) (said : List Fact) → RightNode l → t ≡ l.server_numbers
        → Speaks l.me peer (connect_reply l.life h.from_life h.client (Some t) h.credits 0) said
        → WalksFrom hand latest clock l
        (plain l.me (Accepted t peer h.client h.credits h.from_life) ∷ said)
    accepts-walk hand latest clock l peer t h said i e s =
        let u = l.server_numbers in
        let f : Fact = plain l.me (Accepted u peer h.client h.credits h.from_life) in
        let spoken : Speaks l.me peer
        (connect_reply l.life h.from_life h.client (Some u) h.credits 0) said =
        subst (λ (n : ℕ). Speaks l.me peer
        (connect_reply l.life h.from_life h.client (Some n) h.credits 0) said) e s in
        let walk : WalksFrom hand latest clock l (f ∷ said) = (
          record { who = refl; may = (refl, refl, refl) },
          tt,
          said-walk hand (Some f) clock (after clock l f) l.me peer
              (connect_reply l.life h.from_life h.client (Some u) h.credits 0) said refl
              (accepted-own clock l peer h i.alone) spoken,
        ) in
        subst (λ (n : ℕ). WalksFrom hand latest clock l
        (plain l.me (Accepted n peer h.client h.credits h.from_life) ∷ said)) (sym e) walk
row-walk Ends hand latest clock l peer h said i k m s =
    let v = m.server in
    let facts : session_end l.me l.queued (Some v) ++ said
    ≡ session_flushes l.me l.queued v ++ (plain l.me (Ended v.way.number) ∷ said) =
    append_assoc (session_flushes l.me l.queued v) (plain l.me (Ended v.way.number) ∷ []) said in
    let whole : control_facts l peer h Ends ++ said
    ≡ session_flushes l.me l.queued v ++ (plain l.me (Ended v.way.number) ∷ said) =
    ap (λ (o : Option Server). session_end l.me l.queued o ++ said) m.named ∙ facts in
    rw whole (flush-walk hand latest clock l (session_flushes l.me l.queued v)
    (plain l.me (Ended v.way.number) ∷ said)
    (slots-flush l.me l.queued v (0 ∷ 1 ∷ 2 ∷ 3 ∷ 4 ∷ 5 ∷ 6 ∷ 7 ∷ []))
    (λ before u me life servers. ended-walk hand before clock l u peer h said i k m me life
    servers s))
row-walk Misses hand latest clock l peer h said i k m s =
    said-walk hand latest clock l l.me peer
    (disconnect_as DisconnectReply l.life h.from_life h.client h.server 2) said refl
    (OwnControl.misses h.from_life refl m) s
row-walk (Connects t) hand latest clock l peer h said i k m s = (
  record { who = refl; may = (m, refl, refl) },
  tt,
  (let f : Fact = plain l.me (IsConnected h.client t h.from_life) in
      none-walk hand (Some f) clock (after clock l f) said s),
)
row-walk Disowns hand latest clock l peer h said i k m s =
    said-walk hand latest clock l l.me peer
    (disconnect_as DisconnectRequest l.life h.from_life h.client h.server 0) said refl m s
row-walk Fails hand latest clock l peer h said i k m s = (
  record { who = refl; may = tt },
  tt,
  (let f : Fact = plain l.me (FailedNoRoom h.client) in
      none-walk hand (Some f) clock (after clock l f) said s),
)
row-walk Closes hand latest clock l peer h said i k m s = (
  record { who = refl; may = tt },
  tt,
  (let f : Fact = plain l.me (ClosedHeard h.client) in
      none-walk hand (Some f) clock (after clock l f) said s),
)

-- what a connect request's row needs
new-may : (a b : Bool) (hand : Option InFlight) (l : Lists) (peer : ℕ) (h : ControlHeader)
    → find (is_end_of peer h.client h.from_life) l.servers ≡ None
    → (has_no_room h.credits l || servers_spent l) ≡ a
    → RowMay (cond a Declines (cond b Starves (Accepts l.server_numbers))) hand l peer h
new-may true b hand l peer h unknown full = record { unknown = unknown; full = full }
new-may false true hand l peer h unknown full = tt
new-may false false hand l peer h unknown full = refl

confirm-may : (lacks : Bool) (hand : Option InFlight) (l : Lists) (peer : ℕ) (h : ControlHeader)
    (o : Option Server) → RightNode l → find (is_end_of peer h.client h.from_life) l.servers ≡ o
    → RowMay (confirm_row lacks h l o) hand l peer h
confirm-may lacks hand l peer h None i e =
    new-may (has_no_room h.credits l || servers_spent l) lacks hand l peer h e refl
confirm-may lacks hand l peer h (Some v) i e =
    let number = v.way.number in
    let found = found-own (is_end_of peer h.client h.from_life) (is_server number) l.servers v
    (few-there l.server_numbers number l.servers i.alone) e (eq-eqb number number refl) in
    OwnControl.confirms h.from_life number v refl found (find-passes (is_end_of peer h.client h.from_life) l.servers v e)

end-may : (hand : Option InFlight) (l : Lists) (peer : ℕ) (h : ControlHeader) (o : Option Server)
    → h.kind ≡ DisconnectRequest → h.to_life ≡ Some l.life → named_end peer h.client h.from_life h.server l.servers ≡ o
    → RowMay (end_row o) hand l peer h
end-may hand l peer h None kind us e = e
end-may hand l peer h (Some v) kind us e = record { is_kind = kind; for_us = us; server = v; named = e }

-- a client session that a reply is for
record Replied (hand : Option InFlight) (l : Lists) (peer : ℕ) (h : ControlHeader)
    (x : Client) : Type 0 where
  hears : InHand hand l.me peer h
  is_kind : h.kind ≡ ConnectReply
  for_us : h.to_life ≡ Some l.life
  found : find (is_client h.client) l.clients ≡ Some x
  of_peer : x.way.peer ≡ peer

disown-may : (hand : Option InFlight) (l : Lists) (peer : ℕ) (h : ControlHeader) (x : Client)
    → Replied hand l peer h x → reply_row h.server h.from_life 0 x ≡ Disowns
    → OwnControl l peer (disconnect_as DisconnectRequest l.life h.from_life h.client h.server 0)
disown-may hand l peer h x r row =
    OwnControl.disowns h.from_life x (record { found = r.found; to_peer = r.of_peer }) refl row

kept-may : (b : Bool) (t : ℕ) (hand : Option InFlight) (l : Lists) (peer : ℕ) (h : ControlHeader)
    (x : Client)
    → Replied hand l peer h x → (cond b Ignores Disowns ≡ Disowns → reply_row h.server h.from_life 0 x
    ≡ Disowns)
    → RowMay (cond b Ignores Disowns) hand l peer h
kept-may true t hand l peer h x r own = tt
kept-may false t hand l peer h x r own = disown-may hand l peer h x r (own refl)

connects-may : (b : Bool) (t : ℕ) (hand : Option InFlight) (l : Lists) (peer : ℕ)
    (h : ControlHeader) (x : Client)
    → Replied hand l peer h x → h.server ≡ Some t → x.state ≡ Connecting → (h.credits == x.limit)
    ≡ b
    → RowMay (cond b (Connects t) Ignores) hand l peer h
connects-may false t hand l peer h x r names state e = tt
connects-may true t hand l peer h x r names state e =
    record {
      hears = record {
        peer = peer;
        bytes = r.hears.bytes;
        header = h;
        in_hand = r.hears.in_hand;
        reads = r.hears.reads;
        of_kind = r.is_kind;
      };
      for_us = r.for_us;
      of_life = refl;
      of_client = refl;
      names = names;
      client = x;
      found = r.found;
      of_peer = r.of_peer;
      connecting = state;
      credits = eqb-true h.credits x.limit e;
    }

-- a reply that is disowned is so whatever its credits are
joined-zero : (state : SessionState) (its : Bool) (limit t credits : ℕ)
    → joined_row state its limit t credits ≡ Disowns → joined_row state its limit t 0 ≡ Disowns
joined-zero Connecting its limit t credits e = connecting-no (credits == limit) t e
  where
    connecting-no : {A : Type 0} (b : Bool) (t : ℕ) → cond b (Connects t) Ignores ≡ Disowns → A
    connecting-no true t e = cc
    connecting-no false t e = cc
joined-zero Unknown its limit t credits e = e
joined-zero Connected its limit t credits e = e
joined-zero Closing its limit t credits e = e
joined-zero Closed its limit t credits e = e
joined-zero Failed its limit t credits e = e
joined-zero Broken its limit t credits e = e
joined-zero Spent its limit t credits e = e

joined-may : (state : SessionState) (its : Bool) (t : ℕ) (hand : Option InFlight) (l : Lists) (peer : ℕ)
    (h : ControlHeader) (x : Client) → Replied hand l peer h x → h.server ≡ Some t → x.state ≡ state
    → (joined_row state its x.limit t h.credits ≡ Disowns → reply_row h.server h.from_life 0 x ≡ Disowns)
    → RowMay (joined_row state its x.limit t h.credits) hand l peer h
joined-may Connecting its t hand l peer h x r names e own =
    connects-may (h.credits == x.limit) t hand l peer h x r names e refl
joined-may Connected its t hand l peer h x r names e own = kept-may its t hand l peer h x r own
joined-may Spent its t hand l peer h x r names e own = kept-may its t hand l peer h x r own
joined-may Closing its t hand l peer h x r names e own = kept-may its t hand l peer h x r own
joined-may Unknown its t hand l peer h x r names e own = disown-may hand l peer h x r (own refl)
joined-may Closed its t hand l peer h x r names e own = disown-may hand l peer h x r (own refl)
joined-may Failed its t hand l peer h x r names e own = disown-may hand l peer h x r (own refl)
joined-may Broken its t hand l peer h x r names e own = disown-may hand l peer h x r (own refl)

refused-may : (state : SessionState) (hand : Option InFlight) (l : Lists) (peer : ℕ)
    (h : ControlHeader)
    → RowMay (refused_row state) hand l peer h
refused-may Connecting hand l peer h = tt
refused-may _ hand l peer h = tt

reply-may : (o : Option ℕ) (hand : Option InFlight) (l : Lists) (peer : ℕ) (h : ControlHeader)
    (x : Client)
    → Replied hand l peer h x → h.server ≡ o → RowMay (reply_row o h.from_life h.credits x) hand l peer h
reply-may None hand l peer h x r e = refused-may x.state hand l peer h
reply-may (Some t) hand l peer h x r e =
    joined-may x.state (is_with t h.from_life x.way) t hand l peer h x r e refl
    (λ row. ap (λ (o : Option ℕ). reply_row o h.from_life 0 x) e
    ∙ joined-zero x.state (is_with t h.from_life x.way) x.limit t h.credits row)

opened-may : (b : Bool) (hand : Option InFlight) (l : Lists) (peer : ℕ) (h : ControlHeader)
    (x : Client)
    → InHand hand l.me peer h → h.kind ≡ ConnectReply → h.to_life ≡ Some l.life
    → find (is_client h.client) l.clients ≡ Some x
    → not (x.way.peer == peer) ≡ b
    → RowMay (cond b Ignores (reply_row h.server h.from_life h.credits x)) hand l peer h
opened-may true hand l peer h x k kind us found e = tt
opened-may false hand l peer h x k kind us found e =
    reply-may h.server hand l peer h x (record {
      hears = k;
      is_kind = kind;
      for_us = us;
      found = found;
      of_peer = eqb-true x.way.peer peer (not-false (x.way.peer == peer) e);
    }) refl

client-may : (hand : Option InFlight) (l : Lists) (peer : ℕ) (h : ControlHeader) (o : Option Client)
    → InHand hand l.me peer h → h.kind ≡ ConnectReply → h.to_life ≡ Some l.life
    → find (is_client h.client) l.clients ≡ o
    → RowMay (opened_row (reply_row h.server h.from_life h.credits) peer o) hand l peer h
client-may hand l peer h None k kind us found = tt
client-may hand l peer h (Some x) k kind us found =
    opened-may (not (x.way.peer == peer)) hand l peer h x k kind us found refl

-- a disconnect reply closes a session or does nothing
closes-may : (b : Bool) (hand : Option InFlight) (l : Lists) (peer : ℕ) (h : ControlHeader)
    → RowMay (cond b Closes Ignores) hand l peer h
closes-may true hand l peer h = tt
closes-may false hand l peer h = tt

over-may : (state : SessionState) (its : Bool) (hand : Option InFlight) (l : Lists)
    (peer : ℕ)
    (h : ControlHeader) → RowMay (over_row state its) hand l peer h
over-may Closing its hand l peer h = closes-may its hand l peer h
over-may _ its hand l peer h = tt

closed-may : (hand : Option InFlight) (l : Lists) (peer : ℕ) (h : ControlHeader) (o : Option Client)
    → RowMay (opened_row (closed_row h.server h.from_life) peer o) hand l peer h
closed-may hand l peer h None = tt
closed-may hand l peer h (Some x) = by (not (x.way.peer == peer))
  where
    by : (b : Bool) → RowMay (cond b Ignores (over_row x.state (is_named h.server h.from_life x.way)))
        hand l peer h
    by true = tt
    by false = over-may x.state (is_named h.server h.from_life x.way) hand l peer h

-- a packet for another life has no effect
own-may : (row : ControlRow) (hand : Option InFlight) (l : Lists) (peer : ℕ) (h : ControlHeader)
    → (h.to_life ≡ Some l.life → RowMay row hand l peer h) → (to : Option ℕ) → h.to_life ≡ to
    → RowMay (cond (is_for l.life to) row Ignores) hand l peer h
own-may row hand l peer h may None e = tt
own-may row hand l peer h may (Some to) e = by (to == l.life) refl
  where
    by : (b : Bool) → (to == l.life) ≡ b → RowMay (cond b row Ignores) hand l peer h
    by true t = may (e ∙ ap Some (eqb-true to l.life t))
    by false t = tt

stale-may : (b : Bool) (row : ControlRow) (hand : Option InFlight) (l : Lists) (peer : ℕ) (h : ControlHeader)
    → RowMay row hand l peer h → RowMay (cond b Ignores row) hand l peer h
stale-may true row hand l peer h may = tt
stale-may false row hand l peer h may = may

pub row-may : (kind : ControlKind) (lacks : Bool) (hand : Option InFlight) (l : Lists) (peer : ℕ)
    (h : ControlHeader)
    → h.kind ≡ kind → RightNode l → InHand hand l.me peer h
    → RowMay (control_row_of kind lacks peer h l) hand l peer h
row-may ConnectRequest lacks hand l peer h e i k =
    stale-may (is_stale peer h l) _ hand l peer h
    (confirm-may lacks hand l peer h (find (is_end_of peer h.client h.from_life) l.servers) i refl)
row-may DisconnectRequest lacks hand l peer h e i k =
    own-may _ hand l peer h (λ us. end-may hand l peer h
    (named_end peer h.client h.from_life h.server l.servers) e us refl) h.to_life refl
row-may ConnectReply lacks hand l peer h e i k =
    own-may _ hand l peer h (λ us. client-may hand l peer h (find (is_client h.client) l.clients) k e us refl)
    h.to_life refl
row-may DisconnectReply lacks hand l peer h e i k =
    own-may _ hand l peer h (λ us. closed-may hand l peer h (find (is_client h.client) l.clients))
    h.to_life refl

pub front-hand : (n : ℕ) (inbox : List Arrival) (a : Arrival) → slice_get inbox 0 ≡ Some a
    → front_of n inbox ≡ Some (record { from = a.peer; to = n; bytes = a.bytes })
front-hand n [] a e = cc
front-hand n (b ∷ inbox) a e = let same : b ≡ a =
    cc in ap (λ (z : Arrival). Some (record { from = z.peer; to = n; bytes = z.bytes })) same

-- facts of session control leave what is in hand
abbrev pub is_heard : Event → Bool
is_heard Heard = true
is_heard _ = false

pub hand-kept : (n : ℕ) (e : Event) (inbox : List Arrival) (hand : Option InFlight) → is_heard e ≡ false
    → hand_noted n e inbox hand ≡ hand
hand-kept n Heard inbox hand h = cc
hand-kept n _ inbox hand h = refl

pub walks-held : (hand : Option InFlight) (latest : Option Fact) (clock : ℕ) (l : Lists)
    (x y : List Fact) → WalksFrom hand latest clock l x
    → AllByRecursion (λ f. is_heard f.event ≡ false) x
    → Walks hand clock (after_all clock l x) y → WalksFrom hand latest clock l (x ++ y)
walks-held hand latest clock l [] y h quiet k = walks-from hand latest clock l y k
walks-held hand latest clock l (f ∷ x) y h quiet k =
    let same = hand-kept l.me f.event l.inbox hand quiet.0 in (
      h.0,
      h.1,
      subst (λ (o : Option InFlight). WalksFrom o (Some f) clock (after clock l f) (x ++ y)) (sym same)
          (walks-held hand (Some f) clock (after clock l f) x y
          (subst (λ (o : Option InFlight). WalksFrom o (Some f) clock (after clock l f) x) same h.2)
          quiet.1 k),
    )

-- what is in hand is kept, and the node's number and life with it
pub record Held (hand : Option InFlight) (me : ℕ) (s : Timed) (x : List Fact) (t : Timed) : Type 0 where
  pub walked : Walked RightNode hand s x t
  pub quiet : AllByRecursion (λ f. is_heard f.event ≡ false) x
  pub same : t.lists.me ≡ me

held-append : (hand : Option InFlight) (me : ℕ) (s t u : Timed) (x y : List Fact) → Held hand me s x t
    → Held hand me t y u → Held hand me s (x ++ y) u
held-append hand me s t u x y w v = record {
  walked = record {
    walks = walks-held hand None s.clock s.lists x y w.walked.walks w.quiet
        (subst (λ c. Walks hand c (after_all s.clock s.lists x) y) w.walked.clock
        (subst (λ l. Walks hand t.clock l y) w.walked.lists v.walked.walks));
    lists = v.walked.lists ∙ (ap (λ c. after_all c t.lists y) w.walked.clock
        ∙ (ap (λ l. after_all s.clock l y) w.walked.lists
        ∙ sym (after_all-append s.clock s.lists x y)));
    clock = v.walked.clock ∙ w.walked.clock;
    inv = v.walked.inv;
  };
  quiet = all-append _ x y w.quiet v.quiet;
  same = v.same;
}

pub me-after : (clock : ℕ) (l : Lists) (x : List Fact) → (after_all clock l x).me ≡ l.me
me-after clock l [] = refl
me-after clock l (f ∷ x) = me-after clock (after clock l f) x

-- a server session that a connect request outdates
pub record IsOutdated (peer : ℕ) (h : ControlHeader) (l : Lists) (v : Server) : Type 0 where
  pub of_kind : h.kind ≡ ConnectRequest
  pub found : find (is_server v.way.number) l.servers ≡ Some v
  pub of_peer : v.way.peer ≡ peer
  pub older : v.way.life < h.from_life

pub is-outdated : (kind : ControlKind) (peer : ℕ) (h : ControlHeader) (l : Lists) (v : Server)
    → h.kind ≡ kind → Alone l.server_numbers l.servers → outdated_by kind peer h l ≡ Some v
    → IsOutdated peer h l v
is-outdated ConnectRequest peer h l v kind alone e = by (is_stale peer h l) e
  where
    by : (b : Bool) → cond b None (find (is_older peer h.from_life) l.servers) ≡ Some v
        → IsOutdated peer h l v
    by true t = cc
    by false t =
        let number = v.way.number in
        let parts = and_parts (v.way.peer == peer) (nat_lt v.way.life h.from_life)
        (find-passes (is_older peer h.from_life) l.servers v t) in
        record {
          of_kind = kind;
          found = found-own (is_older peer h.from_life) (is_server number) l.servers v
              (few-there l.server_numbers number l.servers alone) t (eq-eqb number number refl);
          of_peer = eqb-true v.way.peer peer parts.0;
          older = ltb-true v.way.life h.from_life parts.1;
        }
is-outdated DisconnectRequest peer h l v kind alone e = cc
is-outdated ConnectReply peer h l v kind alone e = cc
is-outdated DisconnectReply peer h l v kind alone e = cc

outdated-walk : (hand : Option InFlight) (latest : Option Fact) (clock : ℕ) (l : Lists) (peer : ℕ)
    (h : ControlHeader) (v : Server) → InHand hand l.me peer h → IsOutdated peer h l v
    → WalksFrom hand latest clock l (session_end l.me l.queued (Some v))
outdated-walk hand latest clock l peer h v k o =
    flush-walk hand latest clock l (session_flushes l.me l.queued v) (plain l.me (Ended v.way.number) ∷ [])
    (slots-flush l.me l.queued v (0 ∷ 1 ∷ 2 ∷ 3 ∷ 4 ∷ 5 ∷ 6 ∷ 7 ∷ []))
    (λ before m me life servers. (
      record {
        who = ap Node (sym me);
        may = inr (record {
          hears = record {
            peer = peer;
            bytes = k.bytes;
            header = h;
            in_hand = k.in_hand ∙ ap (λ (to : ℕ). Some
                (record { from = peer; to = to; bytes = k.bytes })) (sym me);
            reads = k.reads;
            of_kind = o.of_kind;
          };
          server = v;
          found = ap (find (is_server v.way.number)) servers ∙ o.found;
          of_peer = o.of_peer;
          older = o.older;
        });
      },
      tt,
      tt,
    ))

flushes-quiet : (me : ℕ) (x : List Fact) → AllByRecursion (IsFlush me) x
    → AllByRecursion (λ f. is_heard f.event ≡ false) x
flushes-quiet me [] all = tt
flushes-quiet me (f ∷ x) all = (ap (λ (g : Fact). is_heard g.event) all.0.is, flushes-quiet me x all.1)

outdated-quiet : (me : ℕ) (queued : List Queued) (v : Server)
    → AllByRecursion (λ f. is_heard f.event ≡ false) (session_end me queued (Some v))
outdated-quiet me queued v =
    all-append (λ f. is_heard f.event ≡ false) (session_flushes me queued v) (plain me (Ended v.way.number) ∷ [])
    (flushes-quiet me (session_flushes me queued v)
    (slots-flush me queued v (0 ∷ 1 ∷ 2 ∷ 3 ∷ 4 ∷ 5 ∷ 6 ∷ 7 ∷ [])))
    (refl, tt)

pub in-hand : (hand : Option InFlight) (n me peer : ℕ) (h : ControlHeader) → n ≡ me → InHand hand me peer h
    → InHand hand n peer h
in-hand hand n me peer h same k = subst (λ (m : ℕ). InHand hand m peer h) (sym same) k

outdated-held : (hand : Option InFlight) (me peer : ℕ) (h : ControlHeader) (s : Timed) (x : List Fact)
    (t : Timed) → InHand hand me peer h → RightNode s.lists → s.lists.me ≡ me
    → EndsOutdated peer h s x t → Held hand me s x t
outdated-held hand me peer h s x t k i same e =
    let l = s.lists in
    let v = e.server in
    let o = is-outdated h.kind peer h l v refl i.alone e.is_outdated in
    record {
      walked = walked-goes RightNode right-stays hand s x t i
          (rw e.facts (outdated-walk hand None s.clock l peer h v (in-hand hand l.me me peer h same k) o))
          e.goes;
      quiet = rw e.facts (outdated-quiet l.me l.queued v);
      same = ap (λ (u : Timed). u.lists.me) e.goes ∙ (me-after s.clock l x ∙ same);
    }

pub outdated-chain : (hand : Option InFlight) (me peer : ℕ) (h : ControlHeader) (s : Timed) (x : List Fact)
    (t : Timed) → InHand hand me peer h → RightNode s.lists → s.lists.me ≡ me
    → Chain (EndsOutdated peer h) s x t → Held hand me s x t
outdated-chain hand me peer h s x t k i same none = record {
  walked = record { walks = tt; lists = refl; clock = refl; inv = i };
  quiet = tt;
  same = same;
}
outdated-chain hand me peer h s x t k i same (more {x = front} {t = between} c y u e) =
    let w = outdated-chain hand me peer h s front between k i same c in
    held-append hand me s between u front y w
    (outdated-held hand me peer h between y u k w.walked.inv w.same e)

answers-walked : (hand : Option InFlight) (peer : ℕ) (h : ControlHeader) (s : Timed) (x : List Fact)
    (t : Timed) → InHand hand s.lists.me peer h → RightNode s.lists → AnswersControl peer h s x t
    → Walked RightNode hand s x t
answers-walked hand peer h s x t k i a =
    let l = s.lists in
    let row = control_row a.lacks peer h l in
    walked-goes RightNode right-stays hand s x t i
    (rw a.facts (row-walk row hand None s.clock l peer h a.said i k
    (row-may h.kind a.lacks hand l peer h refl i k) a.speaks)) a.goes

-- what is held, and then a step
held-then : (hand : Option InFlight) (me : ℕ) (s t u : Timed) (x y : List Fact) → Held hand me s x t
    → Walked RightNode hand t y u → Walked RightNode hand s (x ++ y) u
held-then hand me s t u x y w v = record {
  walks = walks-held hand None s.clock s.lists x y w.walked.walks w.quiet
      (subst (λ c. Walks hand c (after_all s.clock s.lists x) y) w.walked.clock
      (subst (λ l. Walks hand t.clock l y) w.walked.lists v.walks));
  lists = v.lists ∙ (ap (λ c. after_all c t.lists y) w.walked.clock
      ∙ (ap (λ l. after_all s.clock l y) w.walked.lists
      ∙ sym (after_all-append s.clock s.lists x y)));
  clock = v.clock ∙ w.walked.clock;
  inv = v.inv;
}

-- a packet that is taken out of the inbox is in hand then
taken-then : (hand : Option InFlight) (s t u : Timed) (x y : List Fact) → TakesControl s x t
    → Walked RightNode (front_of s.lists.me s.lists.inbox) t y u → Walked RightNode hand s (x ++ y) u
taken-then hand s t u x y c w =
    let l = s.lists in
    let f : Fact = plain l.me Heard in
    let held = front_of l.me l.inbox in
    let lists : t.lists ≡ after s.clock l f =
    ap (λ (z : Timed). z.lists) c.goes ∙ ap (after_all s.clock l) c.facts in
    let clock : t.clock ≡ s.clock = ap (λ (z : Timed). z.clock) c.goes in
    let walk : Walks held s.clock (after s.clock l f) y =
    subst (λ z. Walks held z (after s.clock l f) y) clock
    (subst (λ z. Walks held t.clock z y) lists w.walks) in
    rw c.facts (record {
      walks = (
        record { who = refl; may = tt },
        tt,
        walks-from held (Some f) s.clock (after s.clock l f) y walk,
      );
      lists = w.lists ∙ (ap (λ z. after_all z t.lists y) clock ∙ ap (λ z. after_all s.clock z y) lists);
      clock = w.clock ∙ clock;
      inv = w.inv;
    })

pub taken-right : (hand : Option InFlight) (s : Timed) (x : List Fact) (t : Timed) → RightNode s.lists
    → TakesControl s x t → Walked RightNode hand s x t
taken-right hand s x t i c =
    walked-goes RightNode right-stays hand s x t i
    (rw c.facts (record { who = refl; may = tt }, tt, tt)) c.goes

pub hears-fine : Fine RightNode Hears
hears-fine hand s x t i h =
    let l = s.lists in
    let held = front_of l.me l.inbox in
    let peer = h.front.peer in
    let takes = h.steps.first in
    let rest = h.steps.second in
    let b = h.steps.between in
    let right : RightNode b.lists = (taken-right hand s h.steps.front b i takes).inv in
    let same : b.lists.me ≡ l.me =
    ap (λ (u : Timed). u.lists.me) takes.goes ∙ me-after s.clock l h.steps.front in
    let k : InHand held l.me peer h.header = record {
      bytes = h.front.bytes;
      in_hand = front-hand l.me l.inbox h.front h.is_front;
      reads = h.reads;
    } in
    let ends = outdated-chain held l.me peer h.header b rest.front rest.between k right same
    rest.first.steps in
    let answers = answers-walked held peer h.header rest.between rest.back t
    (in-hand held rest.between.lists.me l.me peer h.header ends.same k) ends.walked.inv rest.second in
    let both : Walked RightNode held b (rest.front ++ rest.back) t =
    held-then held l.me b rest.between t rest.front rest.back ends answers in
    let whole : Walked RightNode held b h.steps.back t =
    subst (λ (y : List Fact). Walked RightNode held b y t) (sym rest.joined) both in
    rw h.steps.joined (taken-then hand s b t h.steps.front h.steps.back takes whole)

pub hears-all : Fine RightNode HearsAll
hears-all = fine-until RightNode Hears _ hears-fine

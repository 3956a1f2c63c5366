-- What a node says in answer to a control packet is its own.
use Rattle.std.proofs.Common.{◌≡◌, ℕ, ◌+◌, ◌≤◌, Bool, true, false, not, ◌&&◌, ◌||◌, cond, Option, Some}
use Rattle.std.proofs.Common.{None, List, [], ◌∷◌, refl, sym, ap, ◌∙◌, subst, arith}
use Rattle.std.specs.Prelude.{◌==◌, count_by}
use Rattle.std.specs.List.{find}
use Rattle.std.proofs.lemmas.Bool.{and_parts, eq-eqb, eqb-true, not-false}
use Rattle.std.proofs.lemmas.Bool.Decides.{nat_tests}
use Rattle.packet_header.specs.declared.packet.ControlHeader.{ControlHeader}
use Rattle.packet_header.specs.declared.packet.ControlKind.{ControlKind}
use Rattle.packet_header.specs.declared.packet.ControlKind.TheVariants.{ConnectRequest}
use Rattle.packet_header.specs.declared.packet.ControlKind.TheVariants.{ConnectReply}
use Rattle.packet_header.specs.declared.packet.ControlKind.TheVariants.{DisconnectRequest}
use Rattle.packet_header.specs.declared.packet.ControlKind.TheVariants.{DisconnectReply}
use Rattle.rpc_base.specs.Tables.{without_first}
use Rattle.rpc_base.specs.declared.event.Event.TheVariants.{Accepted, Declined, Ended}
use Rattle.rpc_base.specs.declared.fact.Fact.{Fact}
use Rattle.rpc_base.specs.declared.state.SessionState.{SessionState}
use Rattle.rpc_base.specs.declared.state.SessionState.TheVariants.{Unknown, Connecting, Connected}
use Rattle.rpc_base.specs.declared.state.SessionState.TheVariants.{Closing, Closed, Failed, Broken}
use Rattle.rpc_base.specs.declared.state.SessionState.TheVariants.{Spent}
use Rattle.rpc_base.proofs.FindLemmas.{count-out, none-found, push-found}
use Rattle.rpc_base.proofs.FirstLemmas.{count-fewer, found-own}
use Rattle.rpc_base.proofs.TakingLemmas.{find-passes}
use Rattle.rpc_laws.specs.declared.rows.ControlRow.{ControlRow}
use Rattle.rpc_laws.specs.declared.rows.ControlRow.TheVariants.{Ignores, Confirms, Declines}
use Rattle.rpc_laws.specs.declared.rows.ControlRow.TheVariants.{Starves, Accepts, Ends, Misses}
use Rattle.rpc_laws.specs.declared.rows.ControlRow.TheVariants.{Connects, Disowns, Fails, Closes}
use Rattle.rpc_laws.specs.declared.tables.Client.{Client}
use Rattle.rpc_laws.specs.declared.tables.Lists.{Lists}
use Rattle.rpc_laws.specs.declared.tables.Server.{Server}
use Rattle.rpc_laws.specs.BufferSafety.{IsOpened, OwnControl, TakesNoSession}
use Rattle.rpc_laws.specs.ControlSteps.{Speaks, SpeaksIf}
use Rattle.rpc_laws.specs.ControlTable.{closed_row, confirm_row, connect_reply, control_facts}
use Rattle.rpc_laws.specs.ControlTable.{control_reply, control_row_of, disconnect_as, end_row}
use Rattle.rpc_laws.specs.ControlTable.{is_end_of, is_for, is_named, is_stale, joined_row}
use Rattle.rpc_laws.specs.ControlTable.{named_end, opened_row, over_row}
use Rattle.rpc_laws.specs.ControlTable.{refused_row, reply_row, session_end, session_flushes}
use Rattle.rpc_laws.specs.Facts.{plain}
use Rattle.rpc_laws.specs.Groups.{has_no_room, servers_spent}
use Rattle.rpc_laws.specs.NodeLists.{after, after_all}
use Rattle.rpc_laws.specs.Requests.{is_server, server_end}
use Rattle.rpc_laws.specs.Sessions.{is_client, is_with}
use Rattle.rpc_laws.proofs.RunLemmas.{after_all-append}
use Rattle.node_laws.specs.Valid.{to_come, Valid}
use Rattle.node_laws.proofs.Allowed.{AllAllowed}
use Rattle.node_laws.proofs.FlushLemmas.{no-more-same, slots-flushed}
use Rattle.node_laws.proofs.TimerLemmas.{speaks-allowed}

-- a server session that is the other end of the peer's
pub record Confirmed (s : Lists) (peer client life t credits : ℕ) : Type 0 where
  pub server : Server
  pub found : find (is_server t) s.servers ≡ Some server
  pub ends : is_end_of peer client life server ≡ true
  pub own : credits ≡ server.credits

-- a client session that doesn't have the server session that the peer names
pub record Disowned (s : Lists) (peer : ℕ) (h : ControlHeader) : Type 0 where
  pub client : Client
  pub opened : IsOpened s peer h.client client
  pub row : reply_row h.server h.from_life 0 client ≡ Disowns

-- what the rows that say something tell of the lists before them
abbrev pub Tied : Lists → ℕ → ControlHeader → ControlRow → Type 0
Tied s peer h (Confirms t credits) = Confirmed s peer h.client h.from_life t credits
Tied s peer h Declines = TakesNoSession s peer h.client h.from_life h.credits
Tied s peer h (Accepts t) = t ≡ s.server_numbers
Tied s peer h Misses = named_end peer h.client h.from_life h.server s.servers ≡ None
Tied s peer h Disowns = Disowned s peer h
Tied s peer h _ = Unit {0}

few-there : (s : Lists) → Valid s → (t : ℕ) → count_by (is_server t) s.servers ≤ 1
few-there s v t = let few = v.alone t in omega arith

new-tied : (a b : Bool) (s : Lists) (peer : ℕ) (h : ControlHeader)
    → find (is_end_of peer h.client h.from_life) s.servers ≡ None
    → (has_no_room h.credits s || servers_spent s) ≡ a
    → Tied s peer h (cond a Declines (cond b Starves (Accepts s.server_numbers)))
new-tied true b s peer h none full = record { unknown = none; full = full }
new-tied false true s peer h none full = tt
new-tied false false s peer h none full = refl

confirm-tied : (lacks : Bool) (s : Lists) (peer : ℕ) (h : ControlHeader) (o : Option Server)
    → Valid s → find (is_end_of peer h.client h.from_life) s.servers ≡ o
    → Tied s peer h (confirm_row lacks h s o)
confirm-tied lacks s peer h None v e =
    new-tied (has_no_room h.credits s || servers_spent s) lacks s peer h e refl
confirm-tied lacks s peer h (Some w) v e =
    let number = w.way.number in
    record {
      server = w;
      found = found-own (is_end_of peer h.client h.from_life) (is_server number) s.servers w
          (few-there s v number) e (eq-eqb number number refl);
      ends = find-passes (is_end_of peer h.client h.from_life) s.servers w e;
      own = refl;
    }

end-tied : (s : Lists) (peer : ℕ) (h : ControlHeader) (o : Option Server)
    → named_end peer h.client h.from_life h.server s.servers ≡ o → Tied s peer h (end_row o)
end-tied s peer h None e = e
end-tied s peer h (Some w) e = tt

module _ (s : Lists) (peer : ℕ) (h : ControlHeader) (x : Client)
    (opened : IsOpened s peer h.client x) where
  kept-tied : (b : Bool)
      → (cond b Ignores Disowns ≡ Disowns → reply_row h.server h.from_life 0 x ≡ Disowns)
      → Tied s peer h (cond b Ignores Disowns)
  kept-tied true own = tt
  kept-tied false own = record { client = x; opened = opened; row = own refl }

  connecting-tied : (b : Bool) (t : ℕ) → Tied s peer h (cond b (Connects t) Ignores)
  connecting-tied true t = tt
  connecting-tied false t = tt

  joined-tied : (state : SessionState) (its : Bool) (t : ℕ)
      → (joined_row state its x.limit t h.credits ≡ Disowns
      → reply_row h.server h.from_life 0 x ≡ Disowns)
      → Tied s peer h (joined_row state its x.limit t h.credits)
  joined-tied Connecting its t own = connecting-tied (h.credits == x.limit) t
  joined-tied Connected its t own = kept-tied its own
  joined-tied Spent its t own = kept-tied its own
  joined-tied Closing its t own = kept-tied its own
  joined-tied Unknown its t own = kept-tied false own
  joined-tied Closed its t own = kept-tied false own
  joined-tied Failed its t own = kept-tied false own
  joined-tied Broken its t own = kept-tied false own

  -- a reply that is disowned is so whatever its credits are
  joined-zero : (state : SessionState) (its : Bool) (t : ℕ)
      → joined_row state its x.limit t h.credits ≡ Disowns
      → joined_row state its x.limit t 0 ≡ Disowns
  joined-zero Connecting its t e = connecting-no (h.credits == x.limit) e
    where
      connecting-no : {A : Type 0} (b : Bool) → cond b (Connects t) Ignores ≡ Disowns → A
      connecting-no true e = cc
      connecting-no false e = cc
  joined-zero Unknown its t e = e
  joined-zero Connected its t e = e
  joined-zero Closing its t e = e
  joined-zero Closed its t e = e
  joined-zero Failed its t e = e
  joined-zero Broken its t e = e
  joined-zero Spent its t e = e

  refused-tied : (state : SessionState) → Tied s peer h (refused_row state)
  refused-tied Connecting = tt
  refused-tied _ = tt

  reply-tied : (o : Option ℕ) → h.server ≡ o → Tied s peer h (reply_row o h.from_life h.credits x)
  reply-tied None e = refused-tied x.state
  reply-tied (Some t) e =
      let its = is_with t h.from_life x.way in
      joined-tied x.state its t
      (λ row. ap (λ o. reply_row o h.from_life 0 x) e ∙ joined-zero x.state its t row)

client-tied : (s : Lists) (peer : ℕ) (h : ControlHeader) (o : Option Client)
    → find (is_client h.client) s.clients ≡ o
    → Tied s peer h (opened_row (reply_row h.server h.from_life h.credits) peer o)
client-tied s peer h None found = tt
client-tied s peer h (Some x) found = by (not (x.way.peer == peer)) refl
  where
    by : (b : Bool) → not (x.way.peer == peer) ≡ b
        → Tied s peer h (cond b Ignores (reply_row h.server h.from_life h.credits x))
    by true e = tt
    by false e =
        let same = eqb-true x.way.peer peer (not-false (x.way.peer == peer) e) in
        reply-tied s peer h x (record { found = found; to_peer = same }) h.server refl

-- a disconnect reply closes a session or does nothing
closes-tied : (b : Bool) (s : Lists) (peer : ℕ) (h : ControlHeader)
    → Tied s peer h (cond b Closes Ignores)
closes-tied true s peer h = tt
closes-tied false s peer h = tt

over-tied : (state : SessionState) (its : Bool) (s : Lists) (peer : ℕ) (h : ControlHeader)
    → Tied s peer h (over_row state its)
over-tied Closing its s peer h = closes-tied its s peer h
over-tied _ its s peer h = tt

closed-tied : (s : Lists) (peer : ℕ) (h : ControlHeader) (o : Option Client)
    → Tied s peer h (opened_row (closed_row h.server h.from_life) peer o)
closed-tied s peer h None = tt
closed-tied s peer h (Some x) = by (not (x.way.peer == peer))
  where
    by : (b : Bool)
        → Tied s peer h (cond b Ignores (over_row x.state (is_named h.server h.from_life x.way)))
    by true = tt
    by false = over-tied x.state (is_named h.server h.from_life x.way) s peer h

-- what isn't for this life has no effect
own-tied : (s : Lists) (peer : ℕ) (h : ControlHeader) (row : ControlRow) (b : Bool)
    → Tied s peer h row → Tied s peer h (cond b row Ignores)
own-tied s peer h row true k = k
own-tied s peer h row false k = tt

connect-tied : (lacks : Bool) (s : Lists) (peer : ℕ) (h : ControlHeader) (b : Bool) → Valid s
    → Tied s peer h (cond b Ignores (confirm_row lacks h s
    (find (is_end_of peer h.client h.from_life) s.servers)))
connect-tied lacks s peer h true v = tt
connect-tied lacks s peer h false v =
    confirm-tied lacks s peer h (find (is_end_of peer h.client h.from_life) s.servers) v refl

pub row-tied : (kind : ControlKind) (lacks : Bool) (peer : ℕ) (h : ControlHeader) (s : Lists)
    → Valid s → Tied s peer h (control_row_of kind lacks peer h s)
row-tied ConnectRequest lacks peer h s v = connect-tied lacks s peer h (is_stale peer h s) v
row-tied DisconnectRequest lacks peer h s v =
    let o = named_end peer h.client h.from_life h.server s.servers in
    own-tied s peer h (end_row o) (is_for s.life h.to_life) (end-tied s peer h o refl)
row-tied ConnectReply lacks peer h s v =
    let o = find (is_client h.client) s.clients in
    own-tied s peer h (opened_row (reply_row h.server h.from_life h.credits) peer o)
    (is_for s.life h.to_life) (client-tied s peer h o refl)
row-tied DisconnectReply lacks peer h s v =
    let o = find (is_client h.client) s.clients in
    own-tied s peer h (opened_row (closed_row h.server h.from_life) peer o)
    (is_for s.life h.to_life) (closed-tied s peer h o)

-- a server session that is named is gone once it ended
gone-by : (peer client life : ℕ) (o : Option ℕ) (servers : List Server) (w : Server)
    → ((t : ℕ) → count_by (is_server t) servers ≤ 1)
    → named_end peer client life o servers ≡ Some w
    → named_end peer client life o (without_first (is_server w.way.number) servers) ≡ None
gone-by peer client life None servers w few e = cc
gone-by peer client life (Some t) servers w few e =
    let test = λ (v : Server). is_server t v && is_end_of peer client life v in
    let parts = and_parts (is_server t w) (is_end_of peer client life w)
    (find-passes test servers w e) in
    let number : w.way.number ≡ t = eqb-true w.way.number t parts.0 in
    let left = without_first (is_server t) servers in
    let none : count_by (is_server t) left ≤ 0 = count-out (is_server t) servers (few t) in
    let fewer = count-fewer test (is_server t)
    (λ v h. (and_parts (is_server t v) (is_end_of peer client life v) h).0) left in
    let gone : find test left ≡ None = none-found test left (omega arith) in
    rw number gone

-- a number that comes next isn't there
none-yet : (used n : ℕ) → n + to_come used used ≤ 1 → n ≤ 0
none-yet used n h = grind (arith, nat_tests)

-- the facts of a row, and then what is said
module _ (clock : ℕ) (s : Lists) (valid : Valid s) (peer : ℕ) (h : ControlHeader) (x : List Fact) where
  ended-said : (o : Option Server) → named_end peer h.client h.from_life h.server s.servers ≡ o
      → Speaks s.me peer (disconnect_as DisconnectReply s.life h.from_life h.client h.server 0) x
      → AllAllowed clock (after_all clock s (session_end s.me s.queued o)) x
  ended-said None e k =
      speaks-allowed clock s s.me peer
      (disconnect_as DisconnectReply s.life h.from_life h.client h.server 0) x
      (OwnControl.ends h.from_life refl e) k
  ended-said (Some w) e k =
      let slots = slots-flushed clock s s.me s.queued w (0 ∷ 1 ∷ 2 ∷ 3 ∷ 4 ∷ 5 ∷ 6 ∷ 7 ∷ [])
      (no-more-same s.queued) in
      let ended = plain s.me (Ended w.way.number) in
      let flushed = record s { queued = slots.flushes.queue } in
      let left : after_all clock s (session_end s.me s.queued (Some w))
      ≡ after clock flushed ended =
      after_all-append clock s (session_flushes s.me s.queued w) (ended ∷ [])
      ∙ ap (λ l. after clock l ended) slots.flushes.same in
      let gone = gone-by peer h.client h.from_life h.server s.servers w (few-there s valid) e in
      rw left (speaks-allowed clock (after clock flushed ended) s.me peer
      (disconnect_as DisconnectReply s.life h.from_life h.client h.server 0) x
      (OwnControl.ends h.from_life refl gone) k)

  accepted-said : (t : ℕ) → t ≡ s.server_numbers
      → Speaks s.me peer (connect_reply s.life h.from_life h.client (Some t) h.credits 0) x
      → AllAllowed clock (after clock s
      (plain s.me (Accepted t peer h.client h.credits h.from_life))) x
  accepted-said t next k =
      let v = server_end t peer h.client h.credits h.from_life in
      let used : count_by (is_server t) s.servers + to_come t t ≤ 1 =
      subst (λ n. count_by (is_server t) s.servers + to_come n t ≤ 1) (sym next) (valid.alone t) in
      let none = none-found (is_server t) s.servers
      (none-yet t (count_by (is_server t) s.servers) used) in
      let ends : is_end_of peer h.client h.from_life v ≡ true =
      rw (
        eq-eqb peer peer refl,
        eq-eqb h.client h.client refl,
        eq-eqb h.from_life h.from_life refl,
      ) refl in
      speaks-allowed clock
      (after clock s (plain s.me (Accepted t peer h.client h.credits h.from_life))) s.me
      peer (connect_reply s.life h.from_life h.client (Some t) h.credits 0) x
      (OwnControl.confirms h.from_life t v refl
      (push-found (is_server t) s.servers v none (eq-eqb t t refl)) ends) k

  pub row-said : (row : ControlRow) → Tied s peer h row
      → SpeaksIf s.me peer (control_reply s.life h row) x
      → AllAllowed clock (after_all clock s (control_facts s peer h row)) x
  row-said Ignores tied k = rw k tt
  row-said (Confirms t credits) tied k =
      let named : connect_reply s.life h.from_life h.client (Some t) credits 0
      ≡ connect_reply s.life h.from_life h.client (Some t) tied.server.credits 0 =
      ap (λ c. connect_reply s.life h.from_life h.client (Some t) c 0) tied.own in
      speaks-allowed clock s s.me peer
      (connect_reply s.life h.from_life h.client (Some t) credits 0) x
      (OwnControl.confirms h.from_life t tied.server named tied.found tied.ends) k
  row-said Declines tied k =
      speaks-allowed clock (after clock s (plain s.me (Declined peer h.client h.credits))) s.me
      peer (connect_reply s.life h.from_life h.client None h.credits 1) x
      (OwnControl.declines h.from_life refl
      (record { unknown = tied.unknown; full = tied.full })) k
  row-said Starves tied k = rw k tt
  row-said (Accepts t) tied k = accepted-said t tied k
  row-said Ends tied k =
      ended-said (named_end peer h.client h.from_life h.server s.servers) refl k
  row-said Misses tied k =
      speaks-allowed clock s s.me peer
      (disconnect_as DisconnectReply s.life h.from_life h.client h.server 2) x
      (OwnControl.misses h.from_life refl tied) k
  row-said (Connects t) tied k = rw k tt
  row-said Disowns tied k =
      speaks-allowed clock s s.me peer
      (disconnect_as DisconnectRequest s.life h.from_life h.client h.server 0) x
      (OwnControl.disowns h.from_life tied.client
      (record { found = tied.opened.found; to_peer = tied.opened.to_peer }) refl tied.row) k
  row-said Fails tied k = rw k tt
  row-said Closes tied k = rw k tt

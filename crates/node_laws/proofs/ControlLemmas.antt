-- The control rule notes only what is allowed.
use Rattle.std.proofs.Common.{◌≡◌, ℕ, zero, suc, ◌+◌, ◌%◌, ◌≤◌, ◌<◌, Bool, true, false, not, ◌||◌}
use Rattle.std.proofs.Common.{◌&&◌, cond, Option, Some, None, List, [], ◌∷◌, refl, ap, ◌∙◌, arith}
use Rattle.std.specs.Prelude.{◌==◌, count_by}
use Rattle.std.specs.List.{AllByRecursion, find}
use Rattle.std.proofs.lemmas.Bool.{eq-eqb, ltb-false}
use Rattle.packet_header.specs.declared.packet.ControlHeader.{ControlHeader}
use Rattle.packet_header.specs.declared.packet.ControlKind.{ControlKind}
use Rattle.packet_header.specs.declared.packet.ControlKind.TheVariants.{ConnectRequest}
use Rattle.packet_header.specs.declared.packet.ControlKind.TheVariants.{ConnectReply}
use Rattle.packet_header.specs.declared.packet.ControlKind.TheVariants.{DisconnectRequest}
use Rattle.packet_header.specs.declared.packet.ControlKind.TheVariants.{DisconnectReply}
use Rattle.rpc_base.specs.declared.event.Event.TheVariants.{Ended}
use Rattle.rpc_base.specs.declared.state.SessionState.{SessionState}
use Rattle.rpc_base.specs.declared.state.SessionState.TheVariants.{Unknown, Connecting, Connected}
use Rattle.rpc_base.specs.declared.state.SessionState.TheVariants.{Closing, Closed, Failed, Broken}
use Rattle.rpc_base.specs.declared.state.SessionState.TheVariants.{Spent}
use Rattle.rpc_laws.specs.declared.rows.ControlRow.{ControlRow}
use Rattle.rpc_laws.specs.declared.rows.ControlRow.TheVariants.{Ignores, Confirms, Declines}
use Rattle.rpc_laws.specs.declared.rows.ControlRow.TheVariants.{Starves, Accepts, Ends, Misses}
use Rattle.rpc_laws.specs.declared.rows.ControlRow.TheVariants.{Connects, Disowns, Fails, Closes}
use Rattle.rpc_laws.specs.declared.tables.Client.{Client}
use Rattle.rpc_laws.specs.declared.tables.Lists.{Lists}
use Rattle.rpc_laws.specs.declared.tables.Queued.{Queued}
use Rattle.rpc_laws.specs.declared.tables.Server.{Server}
use Rattle.rpc_laws.specs.ControlSteps.{Hears, HearsAll, TakesControl, EndsOutdated}
use Rattle.rpc_laws.specs.ControlSteps.{EndsAllOutdated, AnswersControl}
use Rattle.rpc_laws.specs.ControlTable.{confirm_row, end_row, named_end, joined_row, refused_row}
use Rattle.rpc_laws.specs.ControlTable.{reply_row, over_row, closed_row, opened_row, is_end_of}
use Rattle.rpc_laws.specs.ControlTable.{control_row_of, control_row, session_flushes, session_end}
use Rattle.rpc_laws.specs.ControlTable.{control_facts, is_for, is_named, is_older, is_stale, outdated}
use Rattle.rpc_laws.specs.ControlTable.{outdated_by}
use Rattle.rpc_laws.specs.Facts.{plain}
use Rattle.rpc_laws.specs.Groups.{shares, has_no_room, servers_spent}
use Rattle.rpc_laws.specs.NodeLists.{after_all}
use Rattle.rpc_laws.specs.Requests.{is_server, in_slot_of}
use Rattle.rpc_laws.specs.Sessions.{is_client, is_with}
use Rattle.rpc_laws.specs.Steps.{Then, Until}
use Rattle.node_laws.proofs.Allowed.{NoneOlder, MayLeave, MayMake, AllAllowed, IsIn}
use Rattle.node_laws.proofs.FlushLemmas.{no-more-same, slots-flushed}
use Rattle.node_laws.proofs.LeftLemmas.{same-slot}
use Rattle.node_laws.proofs.LeadsLemmas.{allowed-join, Lawful, lawful-goes, lawful-then}
use Rattle.node_laws.proofs.LeadsLemmas.{lawful-until}
use Rattle.rpc_base.proofs.FirstLemmas.{found-own}
use Rattle.node_laws.proofs.SaidLemmas.{row-said, row-tied}
use Rattle.node_laws.specs.Valid.{Valid}

-- which session a connect request gets
new-accepts : (b c : Bool) (n t : ℕ) → cond b Declines (cond c Starves (Accepts n)) ≡ Accepts t
    → (t ≡ n) × (b ≡ false)
new-accepts true c n t e = cc
new-accepts false true n t e = cc
new-accepts false false n t e = (cc, refl)

has-room : (credits : ℕ) (s : Lists) (b c : Bool) → has_no_room credits s ≡ b → (b || c) ≡ false
    → shares s + credits ≤ s.room
has-room credits s true c e h = cc
has-room credits s false c e h = ltb-false s.room (shares s + credits) e

confirm-accepts : (lacks : Bool) (h : ControlHeader) (s : Lists) (t : ℕ) (o : Option Server)
    → confirm_row lacks h s o ≡ Accepts t → MayMake s t s.server_numbers h.credits
confirm-accepts lacks h s t None e =
    let new = new-accepts (has_no_room h.credits s || servers_spent s) lacks s.server_numbers t e in
    record { numbered = new.0; room = has-room h.credits s (has_no_room h.credits s) (servers_spent s) refl new.1 }
confirm-accepts lacks h s t (Some v) e = cc

-- a connect request changes the state of no session
record Keeps (row : ControlRow) : Type 0 where
  connects : (t : ℕ) → row ≡ Connects t → ⊥
  fails : row ≡ Fails → ⊥
  closes : row ≡ Closes → ⊥

confirm-keeps : (lacks : Bool) (h : ControlHeader) (s : Lists) (o : Option Server) → Keeps (confirm_row lacks h s o)
confirm-keeps lacks h s None = by (has_no_room h.credits s || servers_spent s) lacks
  where
    by : (b c : Bool) → Keeps (cond b Declines (cond c Starves (Accepts s.server_numbers)))
    by true c = record { connects = λ t e. cc; fails = λ e. cc; closes = λ e. cc }
    by false true = record { connects = λ t e. cc; fails = λ e. cc; closes = λ e. cc }
    by false false = record { connects = λ t e. cc; fails = λ e. cc; closes = λ e. cc }
confirm-keeps lacks h s (Some v) = record { connects = λ t e. cc; fails = λ e. cc; closes = λ e. cc }

-- rows that make no session, and change the state of none
record Plain (row : ControlRow) : Type 0 where
  accepts : (t : ℕ) → row ≡ Accepts t → ⊥
  connects : (t : ℕ) → row ≡ Connects t → ⊥
  fails : row ≡ Fails → ⊥
  closes : row ≡ Closes → ⊥

ignores-plain : Plain Ignores
ignores-plain = record { accepts = λ t e. cc; connects = λ t e. cc; fails = λ e. cc; closes = λ e. cc }

kept-plain : (b : Bool) → Plain (cond b Ignores Disowns)
kept-plain true = ignores-plain
kept-plain false = record { accepts = λ t e. cc; connects = λ t e. cc; fails = λ e. cc; closes = λ e. cc }

disowns-plain : Plain Disowns
disowns-plain = record { accepts = λ t e. cc; connects = λ t e. cc; fails = λ e. cc; closes = λ e. cc }

end-plain : (o : Option Server) → Plain (end_row o)
end-plain None = record { accepts = λ t e. cc; connects = λ t e. cc; fails = λ e. cc; closes = λ e. cc }
end-plain (Some v) = record { accepts = λ t e. cc; connects = λ t e. cc; fails = λ e. cc; closes = λ e. cc }

-- a connect reply connects a session that is Connecting, or fails it, and a disconnect reply closes one that is
-- Closing
record Joins (state : SessionState) (row : ControlRow) : Type 0 where
  accepts : (t : ℕ) → row ≡ Accepts t → ⊥
  connects : (t : ℕ) → row ≡ Connects t → state ≡ Connecting
  fails : row ≡ Fails → state ≡ Connecting
  closes : row ≡ Closes → state ≡ Closing

plain-joins : (state : SessionState) (row : ControlRow) → Plain row → Joins state row
plain-joins state row k = record {
  accepts = k.accepts;
  connects = λ t e. absurd (k.connects t e);
  fails = λ e. absurd (k.fails e);
  closes = λ e. absurd (k.closes e);
}

closing-joins : (b : Bool) → Joins Closing (cond b Closes Ignores)
closing-joins true = record { accepts = λ t e. cc; connects = λ t e. cc; fails = λ e. cc; closes = λ e. refl }
closing-joins false = plain-joins Closing Ignores ignores-plain

over-joins : (state : SessionState) (its : Bool) → Joins state (over_row state its)
over-joins Closing its = closing-joins its
over-joins Unknown its = plain-joins Unknown Ignores ignores-plain
over-joins Connecting its = plain-joins Connecting Ignores ignores-plain
over-joins Connected its = plain-joins Connected Ignores ignores-plain
over-joins Closed its = plain-joins Closed Ignores ignores-plain
over-joins Failed its = plain-joins Failed Ignores ignores-plain
over-joins Broken its = plain-joins Broken Ignores ignores-plain
over-joins Spent its = plain-joins Spent Ignores ignores-plain

refused-joins : (state : SessionState) → Joins state (refused_row state)
refused-joins Connecting = record { accepts = λ t e. cc; connects = λ t e. cc; fails = λ e. refl; closes = λ e. cc }
refused-joins Unknown = plain-joins Unknown Ignores ignores-plain
refused-joins Connected = plain-joins Connected Ignores ignores-plain
refused-joins Closing = plain-joins Closing Ignores ignores-plain
refused-joins Closed = plain-joins Closed Ignores ignores-plain
refused-joins Failed = plain-joins Failed Ignores ignores-plain
refused-joins Broken = plain-joins Broken Ignores ignores-plain
refused-joins Spent = plain-joins Spent Ignores ignores-plain

connecting-joins : (b : Bool) (u : ℕ) → Joins Connecting (cond b (Connects u) Ignores)
connecting-joins true u = record { accepts = λ t e. cc; connects = λ t e. refl; fails = λ e. refl; closes = λ e. cc }
connecting-joins false u = record { accepts = λ t e. cc; connects = λ t e. refl; fails = λ e. refl; closes = λ e. cc }

joined-joins : (state : SessionState) (its : Bool) (limit u credits : ℕ)
    → Joins state (joined_row state its limit u credits)
joined-joins Connecting its limit u credits = connecting-joins (credits == limit) u
joined-joins Connected its limit u credits =
    plain-joins Connected (cond its Ignores Disowns) (kept-plain its)
joined-joins Spent its limit u credits = plain-joins Spent (cond its Ignores Disowns) (kept-plain its)
joined-joins Closing its limit u credits =
    plain-joins Closing (cond its Ignores Disowns) (kept-plain its)
joined-joins Unknown its limit u credits = plain-joins Unknown Disowns disowns-plain
joined-joins Closed its limit u credits = plain-joins Closed Disowns disowns-plain
joined-joins Failed its limit u credits = plain-joins Failed Disowns disowns-plain
joined-joins Broken its limit u credits = plain-joins Broken Disowns disowns-plain

reply-joins : (o : Option ℕ) (life credits : ℕ) (x : Client)
    → Joins x.state (reply_row o life credits x)
reply-joins None life credits x = refused-joins x.state
reply-joins (Some t) life credits x =
    joined-joins x.state (is_with t life x.way) x.limit t credits

-- what a row that makes a session or changes the state of one tells of the lists
record Tells (s : Lists) (client credits : ℕ) (row : ControlRow) : Type 0 where
  accepts : (t : ℕ) → row ≡ Accepts t → MayMake s t s.server_numbers credits
  connects : (t : ℕ) → row ≡ Connects t → IsIn s Connecting client
  fails : row ≡ Fails → IsIn s Connecting client
  closes : row ≡ Closes → IsIn s Closing client

plain-tells : (s : Lists) (client credits : ℕ) (row : ControlRow) → Plain row → Tells s client credits row
plain-tells s client credits row k = record {
  accepts = λ t e. absurd (k.accepts t e);
  connects = λ t e. absurd (k.connects t e);
  fails = λ e. absurd (k.fails e);
  closes = λ e. absurd (k.closes e);
}

joins-tells : (s : Lists) (client credits : ℕ) (x : Client) (row : ControlRow)
    → find (is_client client) s.clients ≡ Some x → Joins x.state row → Tells s client credits row
joins-tells s client credits x row found k = record {
  accepts = λ t e. absurd (k.accepts t e);
  connects = λ t e. record { client = x; found = found; stands = k.connects t e };
  fails = λ e. record { client = x; found = found; stands = k.fails e };
  closes = λ e. record { client = x; found = found; stands = k.closes e };
}

opened-tells : (s : Lists) (client credits peer : ℕ) (row : Client → ControlRow)
    → ((x : Client) → Joins x.state (row x)) → (o : Option Client)
    → find (is_client client) s.clients ≡ o → Tells s client credits (opened_row row peer o)
opened-tells s client credits peer row joins None found = plain-tells s client credits Ignores ignores-plain
opened-tells s client credits peer row joins (Some x) found = by (not (x.way.peer == peer))
  where
    by : (b : Bool) → Tells s client credits (cond b Ignores (row x))
    by true = plain-tells s client credits Ignores ignores-plain
    by false = joins-tells s client credits x (row x) found (joins x)

-- a packet for another life has no effect
own-tells : (s : Lists) (client credits : ℕ) (row : ControlRow) (b : Bool)
    → Tells s client credits row → Tells s client credits (cond b row Ignores)
own-tells s client credits row true k = k
own-tells s client credits row false k = plain-tells s client credits Ignores ignores-plain

-- nor has a connect request of an older life
connect-tells : (lacks : Bool) (h : ControlHeader) (s : Lists) (o : Option Server) (b : Bool)
    → Tells s h.client h.credits (cond b Ignores (confirm_row lacks h s o))
connect-tells lacks h s o true = plain-tells s h.client h.credits Ignores ignores-plain
connect-tells lacks h s o false =
    let keeps = confirm-keeps lacks h s o in
    record {
      accepts = λ t e. confirm-accepts lacks h s t o e;
      connects = λ t e. absurd (keeps.connects t e);
      fails = λ e. absurd (keeps.fails e);
      closes = λ e. absurd (keeps.closes e);
    }

row-tells : (kind : ControlKind) (lacks : Bool) (peer : ℕ) (h : ControlHeader) (s : Lists)
    → Tells s h.client h.credits (control_row_of kind lacks peer h s)
row-tells ConnectRequest lacks peer h s =
    connect-tells lacks h s (find (is_end_of peer h.client h.from_life) s.servers) (is_stale peer h s)
row-tells DisconnectRequest lacks peer h s =
    let o = named_end peer h.client h.from_life h.server s.servers in
    own-tells s h.client h.credits (end_row o) (is_for s.life h.to_life)
    (plain-tells s h.client h.credits (end_row o) (end-plain o))
row-tells ConnectReply lacks peer h s =
    own-tells s h.client h.credits _ (is_for s.life h.to_life)
    (opened-tells s h.client h.credits peer (reply_row h.server h.from_life h.credits)
    (reply-joins h.server h.from_life h.credits) (find (is_client h.client) s.clients) refl)
row-tells DisconnectReply lacks peer h s =
    own-tells s h.client h.credits _ (is_for s.life h.to_life)
    (opened-tells s h.client h.credits peer (closed_row h.server h.from_life)
    (λ x. over-joins x.state (is_named h.server h.from_life x.way))
    (find (is_client h.client) s.clients) refl)

-- what isn't ignored is disowned
pub unless-disowns : (b : Bool) → cond b Ignores Disowns ≡ Disowns → b ≡ false
unless-disowns true e = cc
unless-disowns false e = refl

-- each slot
pub slot-within : (P : ℕ → Type 0) → AllByRecursion P (0 ∷ 1 ∷ 2 ∷ 3 ∷ 4 ∷ 5 ∷ 6 ∷ 7 ∷ [])
    → (slot : ℕ) → slot < 8 → P slot
slot-within P all zero h = all.0
slot-within P all (suc zero) h = all.1.0
slot-within P all (suc (suc zero)) h = all.1.1.0
slot-within P all (suc (suc (suc zero))) h = all.1.1.1.0
slot-within P all (suc (suc (suc (suc zero)))) h = all.1.1.1.1.0
slot-within P all (suc (suc (suc (suc (suc zero))))) h = all.1.1.1.1.1.0
slot-within P all (suc (suc (suc (suc (suc (suc zero)))))) h = all.1.1.1.1.1.1.0
slot-within P all (suc (suc (suc (suc (suc (suc (suc zero))))))) h = all.1.1.1.1.1.1.1.0
slot-within P all (suc (suc (suc (suc (suc (suc (suc (suc slot)))))))) h = absurd (omega arith)

-- the session that is named is found by its number
named-is : (peer client life : ℕ) (o : Option ℕ) (servers : List Server) (v : Server)
    → ((t : ℕ) → count_by (is_server t) servers ≤ 1) → named_end peer client life o servers ≡ Some v
    → find (is_server v.way.number) servers ≡ Some v
named-is peer client life None servers v alone e = cc
named-is peer client life (Some t) servers v alone e =
    found-own (λ w. is_server t w && is_end_of peer client life w)
    (is_server v.way.number) servers v (alone v.way.number) e
    (eq-eqb v.way.number v.way.number refl)

-- a server session ends, with no reply to a request of its slots queued
end-allowed : (clock : ℕ) (s : Lists) (me : ℕ) (o : Option Server)
    → ((v : Server) → o ≡ Some v → find (is_server v.way.number) s.servers ≡ Some v)
    → AllAllowed clock s (session_end me s.queued o)
end-allowed clock s me None found = tt
end-allowed clock s me (Some v) found =
    let all = slots-flushed clock s me s.queued v (0 ∷ 1 ∷ 2 ∷ 3 ∷ 4 ∷ 5 ∷ 6 ∷ 7 ∷ []) (no-more-same s.queued) in
    let queue = all.flushes.queue in
    let may : MayLeave (record s { queued = queue }) v.way.number =
    record {
      server = v;
      found = found v refl;
      clean = λ request. clean-at queue all.clean request;
    } in
    let own : MayLeave (after_all clock s (session_flushes me s.queued v)) v.way.number = rw all.flushes.same may in
    allowed-join clock s (session_flushes me s.queued v)
    (plain me (Ended v.way.number) ∷ []) all.flushes.allowed (own, tt)
  where
    clean-at : (queue : List Queued)
        → AllByRecursion (λ slot. NoneOlder v.way.number (find (in_slot_of slot) v.slots) queue)
        (0 ∷ 1 ∷ 2 ∷ 3 ∷ 4 ∷ 5 ∷ 6 ∷ 7 ∷ []) → (request : ℕ)
        → NoneOlder v.way.number (find (in_slot_of request) v.slots) queue
    clean-at queue clean request =
        let below : request % 8 < 8 = omega arith in
        let slot : request % 8 ≡ (request % 8) % 8 = omega arith in
        let one = slot-within (λ i. NoneOlder v.way.number (find (in_slot_of i) v.slots) queue)
        clean (request % 8) below in
        rw (same-slot request (request % 8) slot v.slots) one

-- the session that a connect request outdates is found by its number
outdated-by : (kind : ControlKind) (peer : ℕ) (h : ControlHeader) (s : Lists) (v : Server) → Valid s
    → outdated_by kind peer h s ≡ Some v → find (is_server v.way.number) s.servers ≡ Some v
outdated-by ConnectRequest peer h s v valid e = by (is_stale peer h s) e
  where
    by : (b : Bool) → cond b None (find (is_older peer h.from_life) s.servers) ≡ Some v
        → find (is_server v.way.number) s.servers ≡ Some v
    by true e = cc
    by false e =
        let few = valid.alone v.way.number in
        found-own (is_older peer h.from_life) (is_server v.way.number) s.servers v (omega arith) e
        (eq-eqb v.way.number v.way.number refl)
outdated-by ConnectReply peer h s v valid e = cc
outdated-by DisconnectRequest peer h s v valid e = cc
outdated-by DisconnectReply peer h s v valid e = cc

takes-lawful : Lawful TakesControl
takes-lawful s x t v h = lawful-goes s x t h.goes (rw h.facts (tt, tt))

outdated-lawful : (peer : ℕ) (h : ControlHeader) → Lawful (EndsOutdated peer h)
outdated-lawful peer h s x t v k =
    lawful-goes s x t k.goes (rw k.facts (end-allowed s.clock s.lists s.lists.me (Some k.server)
    (λ w e. let same : k.server ≡ w = cc in
    outdated-by h.kind peer h s.lists w v (k.is_outdated ∙ ap (λ z. Some z) same))))

-- the facts of a row
row-allowed : (clock : ℕ) (s : Lists) → Valid s → (peer : ℕ) (h : ControlHeader) (row : ControlRow)
    → Tells s h.client h.credits row → AllAllowed clock s (control_facts s peer h row)
row-allowed clock s v peer h Ignores k = tt
row-allowed clock s v peer h (Confirms t credits) k = tt
row-allowed clock s v peer h Declines k = (tt, tt)
row-allowed clock s v peer h Starves k = (tt, tt)
row-allowed clock s v peer h (Accepts t) k =
    let on = k.accepts t refl in (record { numbered = on.numbered; room = on.room }, tt)
row-allowed clock s v peer h Ends k =
    end-allowed clock s s.me (named_end peer h.client h.from_life h.server s.servers)
    (λ w e. named-is peer h.client h.from_life h.server s.servers w
    (λ t. let few = v.alone t in omega arith) e)
row-allowed clock s v peer h Misses k = tt
row-allowed clock s v peer h (Connects t) k =
    let on = k.connects t refl in (record { client = on.client; found = on.found; stands = on.stands }, tt)
row-allowed clock s v peer h Disowns k = tt
row-allowed clock s v peer h Fails k =
    let on = k.fails refl in (record { client = on.client; found = on.found; stands = on.stands }, tt)
row-allowed clock s v peer h Closes k =
    let on = k.closes refl in (record { client = on.client; found = on.found; stands = on.stands }, tt)

answers-lawful : (peer : ℕ) (h : ControlHeader) → Lawful (AnswersControl peer h)
answers-lawful peer h s x t v k =
    let row = control_row k.lacks peer h s.lists in
    let facts = control_facts s.lists peer h row in
    let first = row-allowed s.clock s.lists v peer h row (row-tells h.kind k.lacks peer h s.lists) in
    let tied = row-tied h.kind k.lacks peer h s.lists v in
    let said = row-said s.clock s.lists v peer h k.said row tied k.speaks in
    lawful-goes s x t k.goes (rw k.facts (allowed-join s.clock s.lists facts k.said first said))

hears-lawful : Lawful Hears
hears-lawful s x t v h =
    let peer = h.front.peer in
    let ends : Lawful (EndsAllOutdated peer h.header) =
    lawful-until (EndsOutdated peer h.header) (λ t. outdated peer h.header t.lists ≡ None)
    (outdated-lawful peer h.header) in
    lawful-then TakesControl (Then (EndsAllOutdated peer h.header) (AnswersControl peer h.header))
    takes-lawful (lawful-then (EndsAllOutdated peer h.header) (AnswersControl peer h.header) ends
    (answers-lawful peer h.header)) s x t v h.steps

pub hears-all-lawful : Lawful HearsAll
hears-all-lawful = lawful-until Hears (λ t. t.lists.inbox ≡ []) hears-lawful

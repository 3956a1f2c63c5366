-- What is noted outside a poll is a group of its own.
use Rattle.std.proofs.Common.{◌≡◌, ◌<◌, ◌≤◌, ℕ, Bool, true, false, not, ◌&&◌, ◌||◌, cond}
use Rattle.std.proofs.Common.{Option, Some, None, List, [], ◌∷◌, length, replicate, refl, sym, ap}
use Rattle.std.proofs.Common.{◌∙◌, ◌⊎◌, subst, inl, inr, arith, ltb, leb, lit≤}
use Rattle.std.proofs.lemmas.List.{length-replicate}
use Rattle.std.specs.Prelude.{◌==◌, nat_lt, nat_le, if◌then◌else◌}
use Rattle.std.proofs.lemmas.Bool.{and_from, and_left, and_parts, and_right, eq-eqb, eqb-true, le-leb, le-ltb}
use Rattle.std.proofs.lemmas.Bool.{leb-true, lt-ltb, ltb-false, ltb-true, not-true, not_from_false, or_left, or_right}
use Rattle.rpc_base.specs.declared.event.Event.{Event}
use Rattle.rpc_base.specs.declared.event.Event.TheVariants.{Arrived, Asked, Bad, Closing as BeginsClosing}
use Rattle.rpc_base.specs.declared.event.Event.TheVariants.{Missed, NcallState, NcallTooLarge, NcloseBusy}
use Rattle.rpc_base.specs.declared.event.Event.TheVariants.{NcloseState, NconnectNumbers, NconnectRing, Nrate}
use Rattle.rpc_base.specs.declared.event.Event.TheVariants.{Opened, Overflowed, PairedClient, PairedServer}
use Rattle.rpc_base.specs.declared.event.Event.TheVariants.{Rated, Worked}
use Rattle.rpc_base.specs.declared.fact.Fact.{Fact}
use Rattle.rpc_base.specs.declared.fact.Who.{Who}
use Rattle.rpc_base.specs.declared.fact.Who.TheVariants.{Node}
use Rattle.rpc_base.specs.declared.limits.TheConstants.{MOST_CAPACITY, MOST_CREDITS}
use Rattle.rpc_base.specs.declared.limits.TheConstants.{MOST_MESSAGE_BYTES, SESSION_NUMBERS}
use Rattle.rpc_base.specs.declared.state.SessionState.{SessionState}
use Rattle.rpc_base.specs.declared.state.SessionState.TheVariants.{Unknown, Connecting, Connected}
use Rattle.rpc_base.specs.declared.state.SessionState.TheVariants.{Closing, Closed, Failed, Broken}
use Rattle.rpc_base.specs.declared.state.SessionState.TheVariants.{Spent}
use Rattle.rpc_laws.specs.declared.tables.Lists.{Lists}
use Rattle.rpc_laws.specs.declared.tables.Timed.{Timed}
use Rattle.rpc_laws.specs.Deliveries.{delivery, inbox_room}
use Rattle.rpc_laws.specs.Facts.{plain, with_bytes}
use Rattle.rpc_laws.specs.Front.{is_control, is_message}
use Rattle.rpc_laws.specs.Groups.{ask_by_state, ask_fact, client_refusal, clients_spent, connect_by}
use Rattle.rpc_laws.specs.Groups.{disconnect_by, has_no_room, rate_by}
use Rattle.rpc_laws.specs.Groups.{refusal_by, server_refusal, servers_spent, shares}
use Rattle.rpc_laws.specs.NodeLists.{after_all}
use Rattle.rpc_laws.specs.PollOrder.{Poll}
use Rattle.rpc_laws.specs.Sessions.{is_connected, is_live}
use Rattle.rpc_outside.specs.declared.service.Mode.{Mode}
use Rattle.node_laws.specs.NodeRun.{Group, IsCredits, MayPair, pairs_client, pairs_server, refuses, connects}
use Rattle.node_laws.specs.NodeRun.{disconnects, sets_rate, asks, delivers, polls, works, misses}
use Rattle.node_rules.specs.Noted.{are_credits, has_bytes, is_answer, IsNoted, is_open}
use Rattle.node_rules.specs.Noted.{is_state, is_taken, lacks_room, pending_in, state_in}
use Rattle.node_rules.specs.Noted.{state_number}

alone : (a : Bool) → (a || false) ≡ true → a ≡ true
alone true e = refl
alone false e = cc

pub no-bytes : (xs : List ℕ) → (length xs == 0) ≡ true → xs ≡ []
no-bytes [] e = refl
no-bytes (x ∷ xs) e = let n : length (x ∷ xs) ≡ 0 = eqb-true (length (x ∷ xs)) 0 e in absurd (omega (arith, n))

few-bytes : (n : ℕ) → n ≤ MOST_MESSAGE_BYTES → n ≤ MOST_CAPACITY
few-bytes n h = omega (arith, h)

credits-of : (n : ℕ) → are_credits n ≡ true → IsCredits n
credits-of n e =
    let parts = and_parts (leb 1 n) (leb n MOST_CREDITS) e in
    record { some = leb-true 1 n parts.0; few = leb-true n MOST_CREDITS parts.1 }

nothing-refuses : (spent : Bool) (credits : ℕ) (l : Lists) → spent ≡ false
    → has_no_room credits l ≡ false → refusal_by spent credits l ≡ None
nothing-refuses spent credits l e h = rw (e, h) refl

record Free (spent : Bool) (credits : ℕ) (l : Lists) : Type 0 where
  few : IsCredits credits
  fits : refusal_by spent credits l ≡ None

free-if : (spent : Bool) (credits : ℕ) (l : Lists) → is_taken spent credits l ≡ true
    → Free spent credits l
free-if spent credits l e =
    let parts = and_parts (are_credits credits) (not spent && not (has_no_room credits l)) e in
    let rest = and_parts (not spent) (not (has_no_room credits l)) parts.1 in
    record {
      few = credits-of credits parts.0;
      fits = nothing-refuses spent credits l (not-true spent rest.0) (not-true (has_no_room credits l) rest.1);
    }

state_back : ℕ → SessionState
state_back n =
    if n == 0 then Unknown
    else (if n == 1 then Connecting
    else (if n == 2 then Connected
    else (if n == 3 then Closing
    else (if n == 4 then Closed
    else (if n == 5 then Failed
    else (if n == 6 then Broken
    else Spent))))))

state-told : (x : SessionState) → state_back (state_number x) ≡ x
unfolding state_back
state-told Unknown = refl
state-told Connecting = refl
state-told Connected = refl
state-told Closing = refl
state-told Closed = refl
state-told Failed = refl
state-told Broken = refl
state-told Spent = refl

same-state : (x y : SessionState) → is_state x y ≡ true → x ≡ y
same-state x y e =
    sym (state-told x) ∙ (ap state_back (eqb-true (state_number x) (state_number y) e) ∙ state-told y)

open-state : (x : SessionState) → is_open x ≡ true → x ≡ Connected
open-state Connected e = refl
open-state Unknown e = cc
open-state Connecting e = cc
open-state Closing e = cc
open-state Closed e = cc
open-state Failed e = cc
open-state Broken e = cc
open-state Spent e = cc

shut-state : (x : SessionState) (n y room : ℕ) (ask : List ℕ) (l : Lists) → is_open x ≡ false
    → ask_by_state x n y room ask l ≡ plain l.me (NcallState n x)
shut-state Connected n y room ask l e = cc
shut-state Unknown n y room ask l e = refl
shut-state Connecting n y room ask l e = refl
shut-state Closing n y room ask l e = refl
shut-state Closed n y room ask l e = refl
shut-state Failed n y room ask l e = refl
shut-state Broken n y room ask l e = refl
shut-state Spent n y room ask l e = refl

delivered-if : (m c r i : Bool) (p : ℕ)
    → ((m && r) || (not m && (c && i))) ≡ true
    → cond m (cond r (Arrived p) (Overflowed p)) (cond c (cond i (Arrived p) (Overflowed p)) (Bad p)) ≡ Arrived p
delivered-if true c true i p e = refl
delivered-if true c false i p e = cc
delivered-if false true r true p e = refl
delivered-if false true r false p e = cc
delivered-if false false r i p e = cc

overflowed-if : (m c r i : Bool) (p : ℕ)
    → ((m || c) && not ((m && r) || (not m && (c && i)))) ≡ true
    → cond m (cond r (Arrived p) (Overflowed p)) (cond c (cond i (Arrived p) (Overflowed p)) (Bad p)) ≡ Overflowed p
overflowed-if true c true i p e = cc
overflowed-if true c false i p e = refl
overflowed-if false true r true p e = cc
overflowed-if false true r false p e = refl
overflowed-if false false r i p e = cc

bad-if : (m c r i : Bool) (p : ℕ) → not (m || c) ≡ true
    → cond m (cond r (Arrived p) (Overflowed p)) (cond c (cond i (Arrived p) (Overflowed p)) (Bad p)) ≡ Bad p
bad-if true c r i p e = cc
bad-if false true r i p e = cc
bad-if false false r i p e = refl

-- a fact by its fields
by-fields : (me : ℕ) (f : Fact) → f.who ≡ Node me → f.second ≡ [] → f ≡ with_bytes me f.event f.first
by-fields me f e h =
    subst (λ (xs : List ℕ). f ≡ record { who = Node me; event = f.event; first = f.first; second = xs }) h
    (subst (λ (w : Who). f ≡ record { who = w; event = f.event; first = f.first; second = f.second }) e refl)

module _ (mode : ℕ → Mode) (s : Timed) where
  abbrev gone : List Fact → Timed
  gone x = record { lists = after_all s.clock s.lists x; clock = s.clock }

  -- an event that is noted with no bytes
  abbrev Grouped : Event → List ℕ → Type 0
  Grouped e first = Group mode s (with_bytes s.lists.me e first ∷ []) (gone (with_bytes s.lists.me e first ∷ []))

  paired-client : (n p t c w : ℕ) (first : List ℕ) → n ≡ length s.lists.clients → t < SESSION_NUMBERS
      → Free (clients_spent s.lists) c s.lists → first ≡ [] → Grouped (PairedClient n p t c w) first
  paired-client n p t c w first e h f k =
      pairs_client p t c w (record { credits_fit = f.few; other_is = h; fits = f.fits })
      (record { facts = rw (e, k) refl; goes = refl })

  paired-server : (n p t c w : ℕ) (first : List ℕ) → n ≡ s.lists.server_numbers → t < SESSION_NUMBERS
      → Free (servers_spent s.lists) c s.lists → first ≡ [] → Grouped (PairedServer n p t c w) first
  paired-server n p t c w first e h f k =
      pairs_server p t c w (record { credits_fit = f.few; other_is = h; fits = f.fits })
      (record { facts = rw (e, k) refl; goes = refl })

  opened : (n p c : ℕ) (first : List ℕ) → n ≡ length s.lists.clients
      → Free (clients_spent s.lists) c s.lists → first ≡ [] → Grouped (Opened n p c) first
  opened n p c first e f k =
      connects p c 0 f.few (record { facts = rw (e, k, f.fits) refl; goes = refl })

  spent : (b d : Bool) (first : List ℕ) → clients_spent s.lists ≡ b → servers_spent s.lists ≡ d
      → (b || d) ≡ true → first ≡ [] → Grouped NconnectNumbers first
  spent true d first e h o k =
      refuses 1 (record { some = omega arith; few = lit≤ tt }) NconnectNumbers (inl (rw e refl))
      (record { facts = rw k refl; goes = refl })
  spent false true first e h o k =
      refuses 1 (record { some = omega arith; few = lit≤ tt }) NconnectNumbers (inr (rw h refl))
      (record { facts = rw k refl; goes = refl })
  spent false false first e h o k = cc

  full-by : (b d : Bool) (a c room : ℕ) (first : List ℕ) → clients_spent s.lists ≡ b
      → servers_spent s.lists ≡ d → a ≡ shares s.lists → room ≡ s.lists.room → IsCredits c
      → not (b && d) ≡ true → has_no_room c s.lists ≡ true → first ≡ []
      → Grouped (NconnectRing a c room) first
  full-by false d a c room first e h f g few o r k =
      refuses c few (NconnectRing a c room) (inl (rw (e, r, f, g) refl))
      (record { facts = rw k refl; goes = refl })
  full-by true false a c room first e h f g few o r k =
      refuses c few (NconnectRing a c room) (inr (rw (h, r, f, g) refl))
      (record { facts = rw k refl; goes = refl })
  full-by true true a c room first e h f g few o r k = cc

  full : (a c room : ℕ) (first : List ℕ) → a ≡ shares s.lists → room ≡ s.lists.room
      → lacks_room c s.lists ≡ true → first ≡ [] → Grouped (NconnectRing a c room) first
  full a c room first e h o k =
      let parts = and_parts (are_credits c)
      (not (clients_spent s.lists && servers_spent s.lists) && has_no_room c s.lists) o in
      let rest = and_parts (not (clients_spent s.lists && servers_spent s.lists)) (has_no_room c s.lists) parts.1 in
      full-by (clients_spent s.lists) (servers_spent s.lists) a c room first refl refl e h
      (credits-of c parts.0) rest.0 rest.1 k

  closing : (n : ℕ) (first : List ℕ) → is_connected (state_in n s.lists) ≡ true
      → (pending_in n s.lists == 0) ≡ true → first ≡ [] → Grouped (BeginsClosing n) first
  closing n first e h k = disconnects n (record { facts = rw (e, h, k) refl; goes = refl })

  busy : (n calls : ℕ) (first : List ℕ) → is_connected (state_in n s.lists) ≡ true
      → not (calls == 0) ≡ true → calls ≡ pending_in n s.lists → first ≡ []
      → Grouped (NcloseBusy n calls) first
  busy n calls first e h f k =
      let some : (pending_in n s.lists == 0) ≡ false = rw f at (not-true (calls == 0) h) in
      disconnects n (record { facts = rw (e, some, f, k) refl; goes = refl })

  unclosed : (n : ℕ) (state : SessionState) (first : List ℕ)
      → is_connected (state_in n s.lists) ≡ false → state ≡ state_in n s.lists → first ≡ []
      → Grouped (NcloseState n state) first
  unclosed n state first e h k = disconnects n (record { facts = rw (e, h, k) refl; goes = refl })

  rated : (n rate : ℕ) (first : List ℕ) → is_live (state_in n s.lists) ≡ true → first ≡ []
      → Grouped (Rated n rate) first
  rated n rate first e k = sets_rate n rate (record { facts = rw (e, k) refl; goes = refl })

  unrated : (n : ℕ) (state : SessionState) (first : List ℕ) → is_live (state_in n s.lists) ≡ false
      → state ≡ state_in n s.lists → first ≡ [] → Grouped (Nrate n state) first
  unrated n state first e h k = sets_rate n 0 (record { facts = rw (e, h, k) refl; goes = refl })

  asked : (c n y room : ℕ) (first : List ℕ) → c ≡ s.lists.asked
      → leb (length first) MOST_MESSAGE_BYTES ≡ true → leb room MOST_CAPACITY ≡ true
      → is_open (state_in n s.lists) ≡ true → Grouped (Asked c n y room) first
  asked c n y room first e h r o =
      let few = leb-true (length first) MOST_MESSAGE_BYTES h in
      let small = le-ltb MOST_MESSAGE_BYTES (length first) few in
      asks n y first room
      (record {
        facts = rw (small, open-state (state_in n s.lists) o, e) refl;
        goes = refl;
        ask_fits = few-bytes (length first) few;
        room_fits = leb-true room MOST_CAPACITY r;
      })

  too-large : (n len : ℕ) (first : List ℕ) → ltb MOST_MESSAGE_BYTES len ≡ true
      → leb len MOST_CAPACITY ≡ true → first ≡ [] → Grouped (NcallTooLarge n len) first
  too-large n len first e h k =
      asks n 0 (replicate len 0) 0
      (record {
        facts = rw (length-replicate {A = ℕ} len 0, e, k) refl;
        goes = refl;
        ask_fits = rw (length-replicate {A = ℕ} len 0) (leb-true len MOST_CAPACITY h);
        room_fits = omega arith;
      })

  unasked : (n : ℕ) (state : SessionState) (first : List ℕ) → is_open (state_in n s.lists) ≡ false
      → state ≡ state_in n s.lists → first ≡ [] → Grouped (NcallState n state) first
  unasked n state first e h k =
      asks n 0 [] 0
      (record {
        facts = rw (shut-state (state_in n s.lists) n 0 0 [] s.lists e, h, k) refl;
        goes = refl;
        ask_fits = omega arith;
        room_fits = omega arith;
      })

  delivered : (e : Event) (p : ℕ) (first : List ℕ) → delivery s.lists p first ≡ e → Grouped e first
  delivered e p first h = delivers p first (record { facts = rw h refl; goes = refl })

  -- each event that is an answer
  told : (e : Event) (first : List ℕ) → is_answer s.lists e first ≡ true
      → (has_bytes e || (length first == 0)) ≡ true → Grouped e first
  told (PairedClient n p t c w) first h b =
      let parts = and_parts (n == length s.lists.clients)
      (nat_lt t SESSION_NUMBERS && is_taken (clients_spent s.lists) c s.lists) (alone _ h) in
      let rest = and_parts (nat_lt t SESSION_NUMBERS) (is_taken (clients_spent s.lists) c s.lists) parts.1 in
      paired-client n p t c w first (eqb-true n (length s.lists.clients) parts.0) (ltb-true t SESSION_NUMBERS rest.0)
      (free-if (clients_spent s.lists) c s.lists rest.1) (no-bytes first b)
  told (PairedServer n p t c w) first h b =
      let parts = and_parts (n == s.lists.server_numbers)
      (nat_lt t SESSION_NUMBERS && is_taken (servers_spent s.lists) c s.lists) (alone _ h) in
      let rest = and_parts (nat_lt t SESSION_NUMBERS) (is_taken (servers_spent s.lists) c s.lists) parts.1 in
      paired-server n p t c w first (eqb-true n s.lists.server_numbers parts.0) (ltb-true t SESSION_NUMBERS rest.0)
      (free-if (servers_spent s.lists) c s.lists rest.1) (no-bytes first b)
  told (Opened n p c) first h b =
      let parts = and_parts (n == length s.lists.clients) (is_taken (clients_spent s.lists) c s.lists) (alone _ h) in
      opened n p c first (eqb-true n (length s.lists.clients) parts.0)
      (free-if (clients_spent s.lists) c s.lists parts.1) (no-bytes first b)
  told NconnectNumbers first h b =
      spent (clients_spent s.lists) (servers_spent s.lists) first refl refl (alone _ h) (no-bytes first b)
  told (NconnectRing a c room) first h b =
      let parts = and_parts (a == shares s.lists) ((room == s.lists.room) && lacks_room c s.lists) (alone _ h) in
      let rest = and_parts (room == s.lists.room) (lacks_room c s.lists) parts.1 in
      full a c room first (eqb-true a (shares s.lists) parts.0) (eqb-true room s.lists.room rest.0) rest.1
      (no-bytes first b)
  told (BeginsClosing n) first h b =
      let parts = and_parts (is_connected (state_in n s.lists)) (pending_in n s.lists == 0) (alone _ h) in
      closing n first parts.0 parts.1 (no-bytes first b)
  told (NcloseBusy n calls) first h b =
      let parts = and_parts (is_connected (state_in n s.lists))
      (not (calls == 0) && (calls == pending_in n s.lists)) (alone _ h) in
      let rest = and_parts (not (calls == 0)) (calls == pending_in n s.lists) parts.1 in
      busy n calls first parts.0 rest.0 (eqb-true calls (pending_in n s.lists) rest.1) (no-bytes first b)
  told (NcloseState n state) first h b =
      let parts = and_parts (not (is_connected (state_in n s.lists)))
      (is_state state (state_in n s.lists)) (alone _ h) in
      unclosed n state first (not-true (is_connected (state_in n s.lists)) parts.0)
      (same-state state (state_in n s.lists) parts.1) (no-bytes first b)
  told (Rated n rate) first h b = rated n rate first (alone _ h) (no-bytes first b)
  told (Nrate n state) first h b =
      let parts = and_parts (not (is_live (state_in n s.lists))) (is_state state (state_in n s.lists)) (alone _ h) in
      unrated n state first (not-true (is_live (state_in n s.lists)) parts.0)
      (same-state state (state_in n s.lists) parts.1) (no-bytes first b)
  told (Asked c n y room) first h b =
      let fits = nat_le room MOST_CAPACITY && is_open (state_in n s.lists) in
      let parts = and_parts (c == s.lists.asked)
      (nat_le (length first) MOST_MESSAGE_BYTES && fits) (alone _ h) in
      let rest = and_parts (nat_le (length first) MOST_MESSAGE_BYTES) fits parts.1 in
      let last = and_parts (nat_le room MOST_CAPACITY) (is_open (state_in n s.lists)) rest.1 in
      asked c n y room first (eqb-true c s.lists.asked parts.0) rest.0 last.0 last.1
  told (NcallTooLarge n len) first h b =
      let parts = and_parts (nat_lt MOST_MESSAGE_BYTES len)
      (nat_le len MOST_CAPACITY) (alone _ h) in
      too-large n len first parts.0 parts.1 (no-bytes first b)
  told (NcallState n state) first h b =
      let parts = and_parts (not (is_open (state_in n s.lists))) (is_state state (state_in n s.lists)) (alone _ h) in
      unasked n state first (not-true (is_open (state_in n s.lists)) parts.0)
      (same-state state (state_in n s.lists) parts.1) (no-bytes first b)
  told (Arrived p) first h b =
      delivered (Arrived p) p first
      (delivered-if (is_message first) (is_control first) (nat_lt (length s.lists.ring) s.lists.room)
      (nat_lt (length s.lists.inbox) inbox_room) p h)
  told (Overflowed p) first h b =
      delivered (Overflowed p) p first
      (overflowed-if (is_message first) (is_control first) (nat_lt (length s.lists.ring) s.lists.room)
      (nat_lt (length s.lists.inbox) inbox_room) p h)
  told (Bad p) first h b =
      delivered (Bad p) p first
      (bad-if (is_message first) (is_control first) (nat_lt (length s.lists.ring) s.lists.room)
      (nat_lt (length s.lists.inbox) inbox_room) p h)
  told (Worked t r) first h b = works t r h (record { facts = rw (no-bytes first b) refl; goes = refl })
  told (Missed i) first h b = misses i (record { facts = rw (no-bytes first b) refl; goes = refl })
  told _ first h b = cc

  -- a fact that is noted is a group of its own
  pub noted-group : (f : Fact) → IsNoted s.lists f → Group mode s (f ∷ []) (gone (f ∷ []))
  noted-group f h =
      subst (λ (g : Fact). Group mode s (g ∷ []) (gone (g ∷ [])))
      (sym (by-fields s.lists.me f h.own h.second)) (told f.event f.first h.answer h.first)

-- whether a group is noted, or a poll
abbrev pub IsPoll : (ℕ → Mode) → Timed → List Fact → Timed → Type 0
IsPoll mode s x t = (now : ℕ) × Poll mode now s x t

are-credits : (n : ℕ) → IsCredits n → are_credits n ≡ true
are-credits n h = and_from (leb 1 n) (leb n MOST_CREDITS) (le-leb 1 n h.some) (le-leb n MOST_CREDITS h.few)

record Unrefused (spent : Bool) (credits : ℕ) (l : Lists) : Type 0 where
  unspent : spent ≡ false
  fits : has_no_room credits l ≡ false

unrefused-by : (spent full : Bool) (a b d : ℕ)
    → cond spent (Some NconnectNumbers) (cond full (Some (NconnectRing a b d)) None) ≡ None
    → (spent ≡ false) × (full ≡ false)
unrefused-by true full a b d e = cc
unrefused-by false true a b d e = cc
unrefused-by false false a b d e = (refl, refl)

taken-if : (spent : Bool) (credits : ℕ) (l : Lists) → IsCredits credits
    → refusal_by spent credits l ≡ None → is_taken spent credits l ≡ true
taken-if spent credits l h e =
    let parts = unrefused-by spent (has_no_room credits l) (shares l) credits l.room e in
    and_from (are_credits credits) (not spent && not (has_no_room credits l)) (are-credits credits h)
    (and_from (not spent) (not (has_no_room credits l)) (not_from_false spent parts.0)
    (not_from_false (has_no_room credits l) parts.1))

refused-by : (spent full : Bool) (a b d : ℕ) (e : Event)
    → cond spent (Some NconnectNumbers) (cond full (Some (NconnectRing a b d)) None) ≡ Some e
    → ((spent ≡ true) × (e ≡ NconnectNumbers))
    ⊎ ((spent ≡ false) × (full ≡ true) × (e ≡ NconnectRing a b d))
refused-by true full a b d e h = let same : e ≡ NconnectNumbers = cc in inl (refl, same)
refused-by false true a b d e h = let same : e ≡ NconnectRing a b d = cc in inr (refl, refl, same)
refused-by false false a b d e h = cc

first-is : (f g : Fact) (r : List Fact) → f ∷ r ≡ g ∷ [] → f ≡ g
first-is f g r e = cc

front-is : (f g : Fact) (r q : List Fact) → f ∷ r ≡ g ∷ q → f ≡ g
front-is f g r q e = cc

module _ (l : Lists) where
  abbrev Noted : Fact → Type 0
  Noted f = IsNoted l f

  as-noted : (f g : Fact) → f ≡ g → Noted g → Noted f
  as-noted f g e h = subst Noted (sym e) h

  noted-client : (p t c w : ℕ) → MayPair (client_refusal c l) t c
      → Noted (plain l.me (PairedClient (length l.clients) p t c w))
  noted-client p t c w h = record {
    own = refl;
    answer = or_left _ _ (and_from _ _ (eq-eqb (length l.clients) (length l.clients) refl)
        (and_from _ _ (lt-ltb t SESSION_NUMBERS h.other_is) (taken-if (clients_spent l) c l h.credits_fit h.fits)));
    first = refl;
    second = refl;
  }

  noted-server : (p t c w : ℕ) → MayPair (server_refusal c l) t c
      → Noted (plain l.me (PairedServer l.server_numbers p t c w))
  noted-server p t c w h = record {
    own = refl;
    answer = or_left _ _ (and_from _ _ (eq-eqb l.server_numbers l.server_numbers refl)
        (and_from _ _ (lt-ltb t SESSION_NUMBERS h.other_is) (taken-if (servers_spent l) c l h.credits_fit h.fits)));
    first = refl;
    second = refl;
  }

  noted-spent : (clients_spent l || servers_spent l) ≡ true → Noted (plain l.me NconnectNumbers)
  noted-spent e = record { own = refl; answer = or_left _ _ e; first = refl; second = refl }

  noted-full : (c : ℕ) → IsCredits c → (clients_spent l && servers_spent l) ≡ false
      → has_no_room c l ≡ true → Noted (plain l.me (NconnectRing (shares l) c l.room))
  noted-full c few e h = record {
    own = refl;
    answer = or_left _ _ (and_from _ _ (eq-eqb (shares l) (shares l) refl)
        (and_from _ _ (eq-eqb l.room l.room refl) (and_from _ _ (are-credits c few)
        (and_from _ _ (not_from_false (clients_spent l && servers_spent l) e) h))));
    first = refl;
    second = refl;
  }

  refused-client : (c : ℕ) (e : Event) → IsCredits c
      → ((clients_spent l ≡ true) × (e ≡ NconnectNumbers))
      ⊎ ((clients_spent l ≡ false) × (has_no_room c l ≡ true) × (e ≡ NconnectRing (shares l) c l.room))
      → Noted (plain l.me e)
  refused-client c e few (inl h) = rw h.1 (noted-spent (or_left (clients_spent l) (servers_spent l) h.0))
  refused-client c e few (inr h) =
      rw h.2 (noted-full c few (and_left (clients_spent l) (servers_spent l) h.0) h.1)

  refused-server : (c : ℕ) (e : Event) → IsCredits c
      → ((servers_spent l ≡ true) × (e ≡ NconnectNumbers))
      ⊎ ((servers_spent l ≡ false) × (has_no_room c l ≡ true) × (e ≡ NconnectRing (shares l) c l.room))
      → Noted (plain l.me e)
  refused-server c e few (inl h) = rw h.1 (noted-spent (or_right (clients_spent l) (servers_spent l) h.0))
  refused-server c e few (inr h) =
      rw h.2 (noted-full c few (and_right (clients_spent l) (servers_spent l) h.0) h.1)

  noted-refusal : (c : ℕ) (e : Event) → IsCredits c
      → (client_refusal c l ≡ Some e) ⊎ (server_refusal c l ≡ Some e) → Noted (plain l.me e)
  noted-refusal c e few (inl h) =
      refused-client c e few (refused-by (clients_spent l) (has_no_room c l) (shares l) c l.room e h)
  noted-refusal c e few (inr h) =
      refused-server c e few (refused-by (servers_spent l) (has_no_room c l) (shares l) c l.room e h)

  noted-opened : (p c : ℕ) → IsCredits c → client_refusal c l ≡ None
      → Noted (plain l.me (Opened (length l.clients) p c))
  noted-opened p c few h = record {
    own = refl;
    answer = or_left _ _ (and_from _ _ (eq-eqb (length l.clients) (length l.clients) refl)
        (taken-if (clients_spent l) c l few h));
    first = refl;
    second = refl;
  }

  noted-connect : (f : Fact) (r : List Fact) (p c rate : ℕ) (o : Option Event) → IsCredits c
      → client_refusal c l ≡ o → f ∷ r ≡ connect_by o p c rate l → Noted f
  noted-connect f r p c rate (Some e) few h k =
      as-noted f (plain l.me e) (front-is f (plain l.me e) r [] k) (noted-refusal c e few (inl h))
  noted-connect f r p c rate None few h k =
      let opens = plain l.me (Opened (length l.clients) p c) in
      as-noted f opens (front-is f opens r _ k) (noted-opened p c few h)

  own-state : (x : SessionState) → is_state x x ≡ true
  own-state x = eq-eqb (state_number x) (state_number x) refl

  noted-closing : (n : ℕ) (b z : Bool) → is_connected (state_in n l) ≡ b → (pending_in n l == 0) ≡ z
      → Noted (plain l.me (disconnect_by (state_in n l) n (pending_in n l)))
  noted-closing n true true e h =
      rw (e, h) (record { own = refl; answer = or_left _ _ (and_from _ _ e h); first = refl; second = refl })
  noted-closing n true false e h =
      rw (e, h) (record {
        own = refl;
        answer = or_left _ _ (and_from _ _ e (and_from _ _ (not_from_false (pending_in n l == 0) h)
            (eq-eqb (pending_in n l) (pending_in n l) refl)));
        first = refl;
        second = refl;
      })
  noted-closing n false z e h =
      rw e (record {
        own = refl;
        answer = or_left _ _ (and_from _ _ (not_from_false (is_connected (state_in n l)) e) (own-state (state_in n l)));
        first = refl;
        second = refl;
      })

  noted-rate : (n rate : ℕ) (b : Bool) → is_live (state_in n l) ≡ b
      → Noted (plain l.me (rate_by (state_in n l) n rate))
  noted-rate n rate true e =
      rw e (record { own = refl; answer = or_left _ _ e; first = refl; second = refl })
  noted-rate n rate false e =
      rw e (record {
        own = refl;
        answer = or_left _ _ (and_from _ _ (not_from_false (is_live (state_in n l)) e) (own-state (state_in n l)));
        first = refl;
        second = refl;
      })

  noted-asked : (n y room : ℕ) (ask : List ℕ) (b : Bool) → is_open (state_in n l) ≡ b
      → leb (length ask) MOST_MESSAGE_BYTES ≡ true → leb room MOST_CAPACITY ≡ true
      → Noted (ask_by_state (state_in n l) n y room ask l)
  noted-asked n y room ask true e h r =
      rw (open-state (state_in n l) e) (record {
        own = refl;
        answer = or_left _ _ (and_from _ _ (eq-eqb l.asked l.asked refl)
            (and_from _ _ h (and_from _ _ r e)));
        first = refl;
        second = refl;
      })
  noted-asked n y room ask false e h r =
      rw (shut-state (state_in n l) n y room ask l e) (record {
        own = refl;
        answer = or_left _ _ (and_from _ _ (not_from_false (is_open (state_in n l)) e) (own-state (state_in n l)));
        first = refl;
        second = refl;
      })

  noted-ask : (n y room : ℕ) (ask : List ℕ) (b : Bool) → ltb MOST_MESSAGE_BYTES (length ask) ≡ b
      → length ask ≤ MOST_CAPACITY → room ≤ MOST_CAPACITY → Noted (ask_fact n y room ask l)
  noted-ask n y room ask true e h r =
      rw e (record {
        own = refl;
        answer = or_left _ _ (and_from _ _ e (le-leb (length ask) MOST_CAPACITY h));
        first = refl;
        second = refl;
      })
  noted-ask n y room ask false e h r =
      let few : leb (length ask) MOST_MESSAGE_BYTES ≡ true =
      le-leb (length ask) MOST_MESSAGE_BYTES (ltb-false MOST_MESSAGE_BYTES (length ask) e) in
      rw e (noted-asked n y room ask (is_open (state_in n l)) refl few
      (le-leb room MOST_CAPACITY r))

  noted-delivery : (p : ℕ) (bytes : List ℕ) (m c r i : Bool) → is_message bytes ≡ m → is_control bytes ≡ c
      → ltb (length l.ring) l.room ≡ r → ltb (length l.inbox) inbox_room ≡ i
      → Noted (with_bytes l.me (delivery l p bytes) bytes)
  noted-delivery p bytes true c true i em ec er ei =
      rw (em, er) (record { own = refl; answer = rw (em, er) refl; first = refl; second = refl })
  noted-delivery p bytes true c false i em ec er ei =
      rw (em, er) (record { own = refl; answer = rw (em, er) refl; first = refl; second = refl })
  noted-delivery p bytes false true r true em ec er ei =
      rw (em, ec, ei) (record { own = refl; answer = rw (em, ec, ei) refl; first = refl; second = refl })
  noted-delivery p bytes false true r false em ec er ei =
      rw (em, ec, ei) (record { own = refl; answer = rw (em, ec, ei) refl; first = refl; second = refl })
  noted-delivery p bytes false false r i em ec er ei =
      rw (em, ec) (record { own = refl; answer = rw (em, ec) refl; first = refl; second = refl })

-- each group that is no poll begins with a fact that is noted
pub group-noted : (mode : ℕ → Mode) (s : Timed) (f : Fact) (r : List Fact) (t : Timed)
    → Group mode s (f ∷ r) t → IsPoll mode s (f ∷ r) t ⊎ IsNoted s.lists f
group-noted mode s f r t (pairs_client p o c w may n) =
    inr (as-noted s.lists f _ (first-is f _ r n.facts) (noted-client s.lists p o c w may))
group-noted mode s f r t (pairs_server p o c w may n) =
    inr (as-noted s.lists f _ (first-is f _ r n.facts) (noted-server s.lists p o c w may))
group-noted mode s f r t (refuses c few e why n) =
    inr (as-noted s.lists f _ (first-is f _ r n.facts) (noted-refusal s.lists c e few why))
group-noted mode s f r t (connects p c rate few h) =
    inr (noted-connect s.lists f r p c rate (client_refusal c s.lists) few refl h.facts)
group-noted mode s f r t (disconnects n h) =
    inr (as-noted s.lists f _ (first-is f _ r h.facts)
    (noted-closing s.lists n (is_connected (state_in n s.lists)) (pending_in n s.lists == 0) refl refl))
group-noted mode s f r t (sets_rate n rate h) =
    inr (as-noted s.lists f _ (first-is f _ r h.facts)
    (noted-rate s.lists n rate (is_live (state_in n s.lists)) refl))
group-noted mode s f r t (asks n y ask room h) =
    inr (as-noted s.lists f _ (first-is f _ r h.facts)
    (noted-ask s.lists n y room ask (ltb MOST_MESSAGE_BYTES (length ask)) refl
    h.ask_fits h.room_fits))
group-noted mode s f r t (delivers p bytes h) =
    inr (as-noted s.lists f _ (first-is f _ r h.facts)
    (noted-delivery s.lists p bytes (is_message bytes) (is_control bytes) (ltb (length s.lists.ring) s.lists.room)
    (ltb (length s.lists.inbox) inbox_room) refl refl refl refl))
group-noted mode s f r t (polls now h) = inl (now, h)
group-noted mode s f r t (works t2 r2 out n) =
    inr (as-noted s.lists f _ (first-is f _ r n.facts)
    (record { own = refl; answer = out; first = refl; second = refl }))
group-noted mode s f r t (misses i n) =
    inr (as-noted s.lists f _ (first-is f _ r n.facts)
    (record { own = refl; answer = refl; first = refl; second = refl }))

-- what isn't noted begins a poll
pub poll-only : (mode : ℕ → Mode) (s : Timed) (f : Fact) (r : List Fact) (t : Timed) (b : Bool)
    → (IsNoted s.lists f → b ≡ true) → b ≡ false → IsPoll mode s (f ∷ r) t ⊎ IsNoted s.lists f
    → IsPoll mode s (f ∷ r) t
poll-only mode s f r t b noted e (inl p) = p
poll-only mode s f r t b noted e (inr h) = let is : b ≡ true = noted h in cc

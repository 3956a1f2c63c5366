-- The server rule, read backwards: what its rows say of the packet at the front of the ring.
use Rattle.std.proofs.Common.{◌≡◌, ◌<◌, ◌==◌, ◌&&◌, ◌||◌, ℕ, nat_lt, Bool, true, false, not, cond}
use Rattle.std.proofs.Common.{List, [], ◌∷◌, ◌++◌, map, Option, Some, None, refl, sym, ap, ◌∙◌}
use Rattle.std.proofs.Common.{subst, arith, ltb-true, ltb-false}
use Rattle.std.specs.Prelude.{length, option_map}
use Rattle.std.specs.List.{find, list_any, AllByRecursion}
use Rattle.std.proofs.lemmas.Bool.{eqb-true, and_parts}
use Rattle.packet_header.specs.Parts.{packet_count}
use Rattle.packet_header.specs.declared.packet.Kind.{Kind}
use Rattle.packet_header.specs.declared.packet.Kind.TheVariants.{Request, Rfr, Cr, Response}
use Rattle.packet_header.specs.declared.packet.MessageHeader.{MessageHeader}
use Rattle.rpc_base.specs.declared.event.Event.TheVariants.{Flushed}
use Rattle.rpc_base.specs.declared.owner.Owner.{Owner}
use Rattle.rpc_base.specs.declared.owner.Owner.TheVariants.{Reply}
use Rattle.rpc_base.specs.declared.state.DropReason.TheVariants.{WrongPeer, Old, NotFirst, Unserved}
use Rattle.rpc_base.specs.declared.state.DropReason.TheVariants.{Mismatch, Ahead, Beyond, Working}
use Rattle.rpc_base.specs.declared.state.DropReason.TheVariants.{JobsFull, NoMemory}
use Rattle.rpc_base.proofs.TakingLemmas.{find-passes}
use Rattle.rpc_laws.specs.declared.rows.ServerRow.{ServerRow}
use Rattle.rpc_laws.specs.declared.rows.ServerRow.TheVariants.{Drops, Begins, Takes, Repeats}
use Rattle.rpc_laws.specs.declared.tables.Arrival.{Arrival}
use Rattle.rpc_laws.specs.declared.tables.InFlight.{InFlight}
use Rattle.rpc_laws.specs.declared.tables.Lists.{Lists}
use Rattle.rpc_laws.specs.declared.tables.Served.{Served}
use Rattle.rpc_laws.specs.declared.tables.Server.{Server}
use Rattle.rpc_outside.specs.declared.service.Mode.{Mode}
use Rattle.rpc_laws.specs.Facts.{plain}
use Rattle.rpc_laws.specs.Front.{front_body}
use Rattle.rpc_laws.specs.Jobs.{are_full}
use Rattle.rpc_laws.specs.NodeLists.{after}
use Rattle.rpc_laws.specs.Queues.{numbers_of}
use Rattle.rpc_laws.specs.Requests.{is_server, is_request, in_slot_of}
use Rattle.rpc_laws.specs.ServerTable.{is_rfr, is_last, makes_job, is_worked_on, newest_of, new_row}
use Rattle.rpc_laws.specs.ServerTable.{own_row, slot_row, server_row, joined, is_past_end}
use Rattle.rpc_laws.specs.ServerTable.{took_facts, flushes, served_facts}
use Rattle.rpc_laws.specs.Service.{is_handled}
use Rattle.end_laws.proofs.Allowed.{Fronts, GoesOn, TakesOf, WalksFrom, Walks}
use Rattle.end_laws.specs.Kinds.{is_ask}
use Rattle.rpc_base.specs.declared.fact.Fact.{Fact}
use Rattle.end_laws.proofs.AskSteps.{Taking, owed-self, took-walk}
use Rattle.end_laws.proofs.ListLemmas.{all-found}
use Rattle.end_laws.proofs.Rights.{SlotRight, SlotsRight}
use Rattle.end_laws.proofs.SlotLemmas.{Apart, Sound, find-any, slot-of-request, request-of-slot}
use Rattle.rpc_base.proofs.BasicLemmas.{not-false}

-- a packet that goes by the server rule
abbrev pub IsAsk : Kind → Type 0
IsAsk Request = Unit {0}
IsAsk Rfr = Unit {0}
IsAsk Cr = ⊥
IsAsk Response = ⊥

-- a new request begins
new-by : (k : Kind) (a w b f g : Bool) → IsAsk k
    → cond (is_rfr k || not a) (Drops NotFirst)
    (cond w (Drops Working) (cond (not b) (Drops Unserved)
    (cond f (Drops JobsFull) (cond g (Drops NoMemory) Begins)))) ≡ Begins → (k ≡ Request)
    × (a ≡ true) × (w ≡ false)
new-by Request true true b f g i h = cc
new-by Request true false true true g i h = cc
new-by Request true false true false true i h = cc
new-by Request true false true false false i h = (refl, refl, refl)
new-by Request true false false f g i h = cc
new-by Request false w b f g i h = cc
new-by Rfr a w b f g i h = cc
new-by Cr a w b f g i h = absurd i
new-by Response a w b f g i h = absurd i

new-not : (a w b f g : Bool) (row : ServerRow)
    → cond a (Drops NotFirst) (cond w (Drops Working)
    (cond b (Drops Unserved) (cond f (Drops JobsFull) (cond g (Drops NoMemory) Begins)))) ≡ row
    → (row ≡ Takes → ⊥) × (row ≡ Repeats → ⊥)
new-not true w b f g row h = (λ e. cc, λ e. cc)
new-not false true b f g row h = (λ e. cc, λ e. cc)
new-not false false true f g row h = (λ e. cc, λ e. cc)
new-not false false false true g row h = (λ e. cc, λ e. cc)
new-not false false false false true row h = (λ e. cc, λ e. cc)
new-not false false false false false row h = (λ e. cc, λ e. cc)

-- the rows of the number that stands in its slot
abbrev own-cond : (a b c w d f g : Bool) → ServerRow
own-cond a b c w d f g =
    cond a (Drops Mismatch) (cond b (Drops Ahead)
    (cond c (cond w (Drops Working) Repeats) (cond d (Drops Beyond)
    (cond f (Drops JobsFull) (cond g (Drops NoMemory) Takes)))))

own-takes : (a b c w d f g : Bool) → own-cond a b c w d f g ≡ Takes → (a ≡ false) × (b ≡ false)
    × (c ≡ false) × (d ≡ false)
own-takes true b c w d f g h = cc
own-takes false true c w d f g h = cc
own-takes false false true true d f g h = cc
own-takes false false true false d f g h = cc
own-takes false false false w true f g h = cc
own-takes false false false w false true g h = cc
own-takes false false false w false false true h = cc
own-takes false false false w false false false h = (refl, refl, refl, refl)

own-repeats : (a b c w d f g : Bool) → own-cond a b c w d f g ≡ Repeats → c ≡ true
own-repeats true b c w d f g h = cc
own-repeats false true c w d f g h = cc
own-repeats false false true w d f g h = refl
own-repeats false false false w true f g h = cc
own-repeats false false false w false true g h = cc
own-repeats false false false w false false true h = cc
own-repeats false false false w false false false h = cc

own-begins : (a b c w d f g : Bool) → own-cond a b c w d f g ≡ Begins → ⊥
own-begins true b c w d f g h = cc
own-begins false true c w d f g h = cc
own-begins false false true true d f g h = cc
own-begins false false true false d f g h = cc
own-begins false false false w true f g h = cc
own-begins false false false w false true g h = cc
own-begins false false false w false false true h = cc
own-begins false false false w false false false h = cc

-- which packets go on
goes-on : (k : Kind) (q : Served) (h : MessageHeader) → IsAsk k
    → cond (is_rfr k) (nat_lt h.number (packet_count q.size))
    (not (h.req_type == q.req_type && h.size == q.size)) ≡ false
    → (is_rfr k && is_past_end q.size (option_map length q.answer) h.number) ≡ false → GoesOn k q h
goes-on Request q h i a d =
    let parts = and_parts (h.req_type == q.req_type) (h.size == q.size) (not-false _ a) in
    (eqb-true h.req_type q.req_type parts.0, eqb-true h.size q.size parts.1)
goes-on Rfr q h i a d = (ltb-false h.number (packet_count q.size) a, d)
goes-on Cr q h i a d = absurd i
goes-on Response q h i a d = absurd i

-- the cases of a slot
abbrev slot-cond : Mode → (full lacks a b : Bool) → Served → MessageHeader → ServerRow
slot-cond mode full lacks a b q h =
    cond a (Drops Old) (cond b (new_row mode q.working full lacks h)
    (own_row mode full lacks (newest_of q) h))

not-new : (mode : Mode) (working full lacks : Bool) (h : MessageHeader) (row : ServerRow)
    → new_row mode working full lacks h ≡ row → (row ≡ Takes → ⊥) × (row ≡ Repeats → ⊥)
not-new mode working full lacks h row e =
    new-not (is_rfr h.kind || not (h.number == 0)) working (not (is_handled mode))
    (makes_job mode h && full) lacks row e

own-taken : (mode : Mode) (full lacks : Bool) (q : Served) (h : MessageHeader) → IsAsk h.kind
    → own_row mode full lacks (newest_of q) h ≡ Takes → (h.number ≡ q.taken) × GoesOn h.kind q h
own-taken mode full lacks q h i e =
    let t = own-takes (cond (is_rfr h.kind) (nat_lt h.number (packet_count q.size))
    (not (h.req_type == q.req_type && h.size == q.size))) (nat_lt q.taken h.number)
    (nat_lt h.number q.taken) (is_worked_on (newest_of q) h.number)
    (is_rfr h.kind && is_past_end q.size (option_map length q.answer) h.number)
    (makes_job mode h && full) (lacks && is_last h) e in
    let low = ltb-false q.taken h.number t.1 in
    let high = ltb-false h.number q.taken t.2 in
    (omega arith, goes-on h.kind q h i t.0 t.3)

slot-takes : (mode : Mode) (full lacks : Bool) (q : Served) (h : MessageHeader) (a b : Bool)
    → nat_lt h.request q.number ≡ a → nat_lt q.number h.request ≡ b → IsAsk h.kind
    → slot-cond mode full lacks a b q h ≡ Takes → (q.number ≡ h.request) × (h.number ≡ q.taken)
    × GoesOn h.kind q h
slot-takes mode full lacks q h true b s t i e = cc
slot-takes mode full lacks q h false true s t i e = absurd ((not-new mode q.working full lacks h _ refl).0 e)
slot-takes mode full lacks q h false false s t i e =
    let low = ltb-false h.request q.number s in
    let high = ltb-false q.number h.request t in
    let own = own-taken mode full lacks q h i e in
    (omega arith, own.0, own.1)

slot-repeats : (mode : Mode) (full lacks : Bool) (q : Served) (h : MessageHeader) (a b : Bool)
    → nat_lt h.request q.number ≡ a → nat_lt q.number h.request ≡ b
    → slot-cond mode full lacks a b q h ≡ Repeats → (q.number ≡ h.request) × (h.number < q.taken)
slot-repeats mode full lacks q h true b s t e = cc
slot-repeats mode full lacks q h false true s t e = absurd ((not-new mode q.working full lacks h _ refl).1 e)
slot-repeats mode full lacks q h false false s t e =
    let low = ltb-false h.request q.number s in
    let high = ltb-false q.number h.request t in
    let taken = own-repeats _ _ (nat_lt h.number q.taken) _ _ _ _ e in
    (omega arith, ltb-true h.number q.taken taken)

slot-begins : (mode : Mode) (full lacks : Bool) (q : Served) (h : MessageHeader) (a b : Bool)
    → nat_lt h.request q.number ≡ a → nat_lt q.number h.request ≡ b
    → slot-cond mode full lacks a b q h ≡ Begins → (q.number < h.request)
    × (new_row mode q.working full lacks h ≡ Begins)
slot-begins mode full lacks q h true b s t e = cc
slot-begins mode full lacks q h false true s t e = (ltb-true q.number h.request t, e)
slot-begins mode full lacks q h false false s t e =
    absurd (own-begins (cond (is_rfr h.kind) (nat_lt h.number (packet_count q.size))
    (not (h.req_type == q.req_type && h.size == q.size))) (nat_lt q.taken h.number)
    (nat_lt h.number q.taken) (is_worked_on (newest_of q) h.number)
    (is_rfr h.kind && is_past_end q.size (option_map length q.answer) h.number)
    (makes_job mode h && full) (lacks && is_last h) e)

-- the number that begins doesn't stand yet
not-there : (r : ℕ) (slots : List Served) (b : Bool) → list_any (is_request r) slots ≡ b
    → Apart slots → ((q : Served) → find (in_slot_of r) slots ≡ Some q → q.number < r) → b ≡ false
not-there r slots true t a low =
    let f = find-any (is_request r) slots t in
    let lt = low f.0 (slot-of-request r slots f.0 a f.1) in
    let e = eqb-true f.0.number r (find-passes (is_request r) slots f.0 f.1) in
    absurd (omega arith)
not-there r slots false t a low = refl

begins-of : (mode : Mode) (working full lacks : Bool) (h : MessageHeader) (slots : List Served)
    → IsAsk h.kind → Apart slots → new_row mode working full lacks h ≡ Begins
    → ((q : Served) → find (in_slot_of h.request) slots ≡ Some q → (q.number < h.request)
    × (q.working ≡ working)) → TakesOf None slots h
begins-of mode working full lacks h slots i a e low =
    let n = new-by h.kind (h.number == 0) working (is_handled mode) (makes_job mode h && full) lacks i e in (
      n.0,
      eqb-true h.number 0 n.1,
      not-there h.request slots _ refl a (λ q f. (low q f).0),
      λ q f. ((low q f).0, (low q f).1 ∙ n.2),
    )

pub row-begins : (mode : Mode) (full lacks : Bool) (h : MessageHeader) (slots : List Served)
    (q : Option Served) → find (in_slot_of h.request) slots ≡ q → IsAsk h.kind → Apart slots
    → slot_row mode full lacks q h ≡ Begins → TakesOf None slots h
row-begins mode full lacks h slots None is i a e = begins-of mode false full lacks h slots i a e (λ q f. cc)
row-begins mode full lacks h slots (Some l) is i a e =
    let s = slot-begins mode full lacks l h _ _ refl refl e in
    let lt = s.0 in
    begins-of mode l.working full lacks h slots i a s.1 (λ q f. let same : l ≡ q = cc in (subst (λ (z : Served). z.number < h.request) same lt, ap (λ (z : Served). z.working) (sym same)))

-- the rows that go on are of the request that stands there
pub record Standing (slots : List Served) (h : MessageHeader) (q : Served) : Type 0 where
  pub in_slot : find (in_slot_of h.request) slots ≡ Some q
  pub number : q.number ≡ h.request

pub row-takes : (mode : Mode) (full lacks : Bool) (h : MessageHeader) (slots : List Served)
    (q : Option Served) → find (in_slot_of h.request) slots ≡ q → IsAsk h.kind
    → slot_row mode full lacks q h ≡ Takes → (l : Served) × TakesOf (Some l) slots h
row-takes mode full lacks h slots None is i e = absurd ((not-new mode false full lacks h _ refl).0 e)
row-takes mode full lacks h slots (Some l) is i e =
    let s = slot-takes mode full lacks l h _ _ refl refl i e in
    (l, (request-of-slot h.request slots l is s.0, s.1, s.2))

pub row-repeats : (mode : Mode) (full lacks : Bool) (h : MessageHeader) (slots : List Served)
    (q : Option Served) → find (in_slot_of h.request) slots ≡ q
    → slot_row mode full lacks q h ≡ Repeats → (l : Served) × Standing slots h l
    × (h.number < l.taken)
row-repeats mode full lacks h slots None is e = absurd ((not-new mode false full lacks h _ refl).1 e)
row-repeats mode full lacks h slots (Some l) is e =
    let s = slot-repeats mode full lacks l h _ _ refl refl e in
    (l, record { in_slot = is; number = s.0 }, s.1)

-- the older replies are flushed first
flushed-then : (mode : Mode) (hand : Option InFlight) (latest : Option Fact) (clock : ℕ) (l : Lists)
    (front : Arrival) (h : MessageHeader) (v : Server) (going : Option Served) (answer : List ℕ)
    (owner : Owner) (ks : List ℕ) → Taking l front h v going
    → WalksFrom hand latest clock l (map (λ k. plain l.me (Flushed owner k)) ks
    ++ took_facts mode l.me answer h (joined going (front_body l.ring)))
flushed-then mode hand latest clock l front h v going answer owner [] t =
    took-walk mode hand latest clock l front h v going answer t
flushed-then mode hand latest clock l front h v going answer owner (k ∷ ks) t = (
  record { who = refl; may = tt },
  tt,
  flushed-then mode hand (Some (plain l.me (Flushed owner k))) clock
      (after clock l (plain l.me (Flushed owner k))) front h v going answer owner ks
      (record {
        is_front = record {
          is_front = t.is_front.is_front;
          reads = t.is_front.reads;
          for_us = t.is_front.for_us;
        };
        found = t.found;
        of_peer = t.of_peer;
        takes = t.takes;
        apart = t.apart;
        right =
            t.right;
      }),
)

flushes-then : (mode : Mode) (hand : Option InFlight) (clock : ℕ) (l : Lists) (front : Arrival)
    (h : MessageHeader) (v : Server) (going : Option Served) (answer : List ℕ) (session : ℕ)
    (old : Option Served) → Taking l front h v going
    → Walks hand clock l (flushes l.me l.queued session old
    ++ took_facts mode l.me answer h (joined going (front_body l.ring)))
flushes-then mode hand clock l front h v going answer session None t = took-walk mode hand None clock l front h v going answer t
flushes-then mode hand clock l front h v going answer session (Some q) t =
    flushed-then mode hand None clock l front h v going answer (Reply session q.number)
    (numbers_of (Reply session q.number) l.queued) t

asks-kind : (k : Kind) → IsAsk k → is_ask k ≡ true
asks-kind Request i = refl
asks-kind Rfr i = refl
asks-kind Cr i = absurd i
asks-kind Response i = absurd i

-- the facts of a row
row-walk : (mode : Mode) (hand : Option InFlight) (clock : ℕ) (l : Lists) (front : Arrival) (h : MessageHeader)
    (v : Server) (full lacks : Bool) (answer : List ℕ) (row : ServerRow) → Fronts l front h
    → IsAsk h.kind → find (is_server h.session) l.servers ≡ Some v → front.peer ≡ v.way.peer
    → Apart v.slots → AllByRecursion SlotRight v.slots
    → slot_row mode full lacks (find (in_slot_of h.request) v.slots) h ≡ row
    → Walks hand clock l (served_facts mode l.me answer l.queued (Some v) h
    (front_body l.ring) row)
row-walk mode hand clock l front h v full lacks answer (Drops why) f i found peer a right e =
    (record { who = refl; may = tt }, tt, tt)
row-walk mode hand clock l front h v full lacks answer Begins f i found peer a right e =
    let t = row-begins mode full lacks h v.slots _ refl i a e in
    flushes-then mode hand clock l front h v None answer v.way.number
    (find (in_slot_of h.request) v.slots)
    (record {
      is_front = f;
      found = found;
      of_peer = peer;
      takes = t;
      apart = a;
      right = right;
    })
row-walk mode hand clock l front h v full lacks answer Takes f i found peer a right e =
    let t = row-takes mode full lacks h v.slots _ refl i e in
    let there : find (is_request h.request) v.slots ≡ Some t.0 = t.1.0 in
    rw there (took-walk mode hand None clock l front h v (Some t.0) answer
    (record {
      is_front = f;
      found = found;
      of_peer = peer;
      takes = t.1;
      apart = a;
      right = right;
    }))
row-walk mode hand clock l front h v full lacks answer Repeats f i found peer a right e =
    let t = row-repeats mode full lacks h v.slots _ refl e in (
      record {
        who = refl;
        may = record {
          front = front;
          header = h;
          is_front = f;
          of_session = refl;
          of_request = refl;
          of_number = refl;
          asks = asks-kind h.kind i;
        };
      },
      tt,
      (
        record {
          who = refl;
          may = record {
            server = v;
            found = found;
            request = t.0;
            in_slot = t.1.in_slot;
            number = t.1.number;
            was_taken = t.2;
          };
        },
        owed-self l.me h.session
            h.request h.number,
        tt,
      ),
    )

peer-walk : (mode : Mode) (hand : Option InFlight) (clock : ℕ) (l : Lists) (front : Arrival) (h : MessageHeader)
    (v : Server) (full lacks b : Bool) (answer : List ℕ) → (v.way.peer == front.peer) ≡ b
    → Fronts l front h → IsAsk h.kind → find (is_server h.session) l.servers ≡ Some v
    → Apart v.slots → AllByRecursion SlotRight v.slots
    → Walks hand clock l (served_facts mode l.me answer l.queued (Some v) h
    (front_body l.ring) (cond (not b) (Drops WrongPeer)
    (slot_row mode full lacks (find (in_slot_of h.request) v.slots) h)))
peer-walk mode hand clock l front h v full lacks true answer t f i found a right =
    row-walk mode hand clock l front h v full lacks answer
    (slot_row mode full lacks (find (in_slot_of h.request) v.slots) h) f i
    found (sym (eqb-true v.way.peer front.peer t)) a right refl
peer-walk mode hand clock l front h v full lacks false answer t f i found a right =
    (record { who = refl; may = tt }, tt, tt)

session-walk : (mode : Mode) (hand : Option InFlight) (clock : ℕ) (l : Lists) (front : Arrival)
    (h : MessageHeader) (full lacks : Bool) (answer : List ℕ) (v : Option Server)
    → find (is_server h.session) l.servers ≡ v → Fronts l front h → IsAsk h.kind → Sound l
    → SlotsRight l.servers
    → Walks hand clock l (served_facts mode l.me answer l.queued v h
    (front_body l.ring) (server_row mode full lacks v front.peer h))
session-walk mode hand clock l front h full lacks answer None is f i s right = (record { who = refl; may = tt }, tt, tt)
session-walk mode hand clock l front h full lacks answer (Some v) is f i s right =
    peer-walk mode hand clock l front h v full lacks _ answer refl f i is
    (all-found (λ v. Apart v.slots) (is_server h.session) l.servers v s is)
    (all-found (λ v. AllByRecursion SlotRight v.slots) (is_server h.session) l.servers v right is)

-- a Request or an RFR is handled
pub asks-walk : (mode : Mode) (hand : Option InFlight) (clock : ℕ) (l : Lists) (front : Arrival)
    (h : MessageHeader) (lacks : Bool) (answer : List ℕ) → Fronts l front h → IsAsk h.kind → Sound l
    → SlotsRight l.servers
    → Walks hand clock l (served_facts mode l.me answer l.queued
    (find (is_server h.session) l.servers) h (front_body l.ring)
    (server_row mode (are_full l.jobs) lacks
    (find (is_server h.session) l.servers) front.peer h))
asks-walk mode hand clock l front h lacks answer f i s right =
    session-walk mode hand clock l front h (are_full l.jobs) lacks answer _ refl f i s right

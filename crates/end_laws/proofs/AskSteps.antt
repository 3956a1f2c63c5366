-- Handling a Request or an RFR notes only what is allowed.
use Rattle.std.proofs.Common.{◌≡◌, ◌<◌, ◌+◌, ◌-◌, ◌==◌, ◌&&◌, inl, ℕ, Bool, true, false, not, cond}
use Rattle.std.proofs.Common.{List, [], ◌∷◌, ◌++◌, length, Option, Some, None, refl, sym, ap, ◌∙◌}
use Rattle.std.proofs.Common.{subst, arith}
use Rattle.std.specs.List.{find, list_any, AllByRecursion}
use Rattle.std.proofs.lemmas.Bool.{eqb-true}
use Rattle.std.proofs.Common.{eq-eqb}
use Rattle.packet_header.specs.Parts.{packet_count}
use Rattle.packet_header.specs.declared.packet.Kind.{Kind}
use Rattle.packet_header.specs.declared.packet.Kind.TheVariants.{Request, Rfr, Cr, Response}
use Rattle.packet_header.specs.declared.packet.MessageHeader.{MessageHeader}
use Rattle.rpc_base.specs.Tables.{at_first, without_first}
use Rattle.rpc_base.specs.declared.event.Event.TheVariants.{Posted, Took, Given, Ran}
use Rattle.rpc_base.specs.declared.fact.Fact.{Fact}
use Rattle.rpc_base.specs.declared.owner.Owner.TheVariants.{Reply}
use Rattle.rpc_base.proofs.TakingLemmas.{find-passes}
use Rattle.rpc_laws.specs.declared.tables.Arrival.{Arrival}
use Rattle.rpc_laws.specs.declared.tables.InFlight.{InFlight}
use Rattle.rpc_laws.specs.declared.tables.Lists.{Lists}
use Rattle.rpc_laws.specs.declared.tables.Served.{Served}
use Rattle.rpc_laws.specs.declared.tables.Server.{Server}
use Rattle.rpc_outside.specs.declared.service.Mode.{Mode}
use Rattle.rpc_laws.specs.Facts.{plain, with_two}
use Rattle.rpc_laws.specs.Front.{front_header, front_body}
use Rattle.rpc_laws.specs.NodeLists.{after}
use Rattle.rpc_laws.specs.Requests.{is_server, is_request, in_slot_of, first_packet, next_packet}
use Rattle.rpc_laws.specs.Requests.{took_packet, answered}
use Rattle.rpc_laws.specs.ServerTable.{is_rfr, joined, is_last, took_facts}
use Rattle.rpc_laws.specs.Service.{is_mode_background}
use Rattle.packet_header.proofs.PartsLemmas.{packet_count_room}
use Rattle.end_laws.proofs.Allowed.{Fronts, GoesOn, TakesOf, IsWhole, Owes, WalksFrom}
use Rattle.end_laws.proofs.ListLemmas.{find-first, all-found}
use Rattle.end_laws.proofs.Rights.{SlotRight, Readable, front-right, took-right, asked-open}
use Rattle.end_laws.proofs.SlotLemmas.{with_slots, Apart, apart-without, apart-took, apart-answered}
use Rattle.end_laws.proofs.SlotLemmas.{find-added, find-any, any-find, none-without}
use Rattle.end_laws.proofs.SlotLemmas.{slot-of-request}
use Rattle.rpc_base.proofs.BasicLemmas.{false-true}

-- a request as its newest packet leaves it
pub record NewSlot (slots : List Served) (h : MessageHeader) (ask : List ℕ) : Type 0 where
  pub request : Served
  pub is_there : find (is_request h.request) slots ≡ Some request
  pub number : request.number ≡ h.request
  pub taken : request.taken ≡ h.number + 1
  pub own : request.ask ≡ ask

-- where that is a part of it, the request has no answer, and no worker has it
pub record OpenSlot (slots : List Served) (h : MessageHeader) (ask : List ℕ) : Type 0 where
  pub slot : NewSlot slots h ask
  pub of_kind : h.kind ≡ Request → (slot.request.req_type ≡ h.req_type) × (slot.request.size ≡ h.size)
  pub is_open : h.kind ≡ Request → (slot.request.answer ≡ None) × (slot.request.working ≡ false)

self-eqb : (n : ℕ) → (n == n) ≡ true
self-eqb n = eq-eqb n n refl

none-of-number : (r : ℕ) (slots : List Served) (b : Bool) → list_any (is_request r) slots ≡ b
    → list_any (in_slot_of r) slots ≡ false → Apart slots → b ≡ false
none-of-number r slots true t none a =
    let f = find-any (is_request r) slots t in
    false-true (sym none ∙ any-find (in_slot_of r) slots f.0 (slot-of-request r slots f.0 a f.1))
none-of-number r slots false t none a = refl

kept-goes : (k : Kind) (q : Served) (h : MessageHeader) → GoesOn k q h → k ≡ Request
    → (q.req_type ≡ h.req_type) × (q.size ≡ h.size)
kept-goes Request q h g e = (sym g.0, sym g.1)
kept-goes Rfr q h g e = cc
kept-goes Cr q h g e = absurd g
kept-goes Response q h g e = absurd g

-- the parts of a request come before its answer
part-open : (k : Kind) (q : Served) (h : MessageHeader) → GoesOn k q h → k ≡ Request
    → h.number ≡ q.taken → h.number < packet_count h.size → SlotRight q → (q.answer ≡ None)
    × (q.working ≡ false)
part-open Request q h g e n low s =
    let size : packet_count h.size ≡ packet_count q.size = ap packet_count g.1 in
    let lt : q.taken < packet_count q.size = omega arith in
    asked-open q lt s
part-open Rfr q h g e n low s = cc
part-open Cr q h g e n low s = absurd g
part-open Response q h g e n low s = absurd g

pub took-slot : (going : Option Served) (slots : List Served) (h : MessageHeader) (body : List ℕ)
    → Apart slots → AllByRecursion SlotRight slots → Readable h body → TakesOf going slots h
    → OpenSlot (took_packet h.request (Some h) body slots) h (joined going body)
took-slot None slots h body a right f t =
    let r = h.request in
    let none = none-without r slots a in
    let none_of : list_any (is_request r) (without_first (in_slot_of r) slots) ≡ false =
    none-of-number r (without_first (in_slot_of r) slots) _ refl none
    (apart-without (in_slot_of r) slots a) in
    let found : find (is_request r) (without_first (in_slot_of r) slots ++ first_packet r h body
    ∷ []) ≡ Some (first_packet r h body) = find-added (is_request r)
    (without_first (in_slot_of r) slots) (first_packet r h body) none_of (self-eqb r) in
    let none_before : list_any (is_request r) slots ≡ false = t.2 in
    rw none_before (record {
      slot = record {
        request = first_packet r h body;
        is_there = found;
        number = refl;
        taken = ap (λ n. n + 1) (sym t.1);
        own = refl;
      };
      of_kind = λ e. (refl, refl);
      is_open = λ e. (refl, refl);
    })
took-slot (Some q) slots h body a right f t =
    let r = h.request in
    let any : list_any (is_request r) slots ≡ true = any-find (is_request r) slots q t.0 in
    let passes : is_request r q ≡ true = find-passes (is_request r) slots q t.0 in
    let here : SlotRight q = all-found SlotRight (is_request r) slots q right t.0 in
    rw any (record {
      slot = record {
        request = next_packet body q;
        is_there = find-first (is_request r) (next_packet body) slots q t.0 passes;
        number =
            eqb-true q.number r passes;
        taken = ap (λ n. n + 1) (sym t.1);
        own = refl;
      };
      of_kind = kept-goes h.kind q h t.2;
      is_open = λ e. part-open h.kind q h t.2 e t.1 (f.low e) here;
    })

-- what is known where a packet is taken
pub record Taking (l : Lists) (front : Arrival) (h : MessageHeader) (v : Server)
    (going : Option Served) : Type 0 where
  pub is_front : Fronts l front h
  pub found : find (is_server h.session) l.servers ≡ Some v
  pub of_peer : front.peer ≡ v.way.peer
  pub takes : TakesOf going v.slots h
  pub apart : Apart v.slots
  pub right : AllByRecursion SlotRight v.slots

pub slots-found : (change : List Served → List Served) (t : ℕ) (xs : List Server) (v : Server)
    → find (is_server t) xs ≡ Some v
    → find (is_server t) (at_first (is_server t) (with_slots change) xs)
    ≡ Some (with_slots change v)
slots-found change t xs v h = find-first (is_server t) (with_slots change) xs v h (find-passes (is_server t) xs v h)

-- the packet that answers it is posted
posts-walk : (hand : Option InFlight) (latest : Option Fact) (clock : ℕ) (l : Lists)
    (h : MessageHeader) (v : Server) (ask : List ℕ) → Owes latest l.me h.session h.request h.number
    → find (is_server h.session) l.servers ≡ Some v → Apart v.slots → NewSlot v.slots h ask
    → WalksFrom hand latest clock l (plain l.me (Posted (Reply h.session h.request) h.number) ∷ [])
posts-walk hand latest clock l h v ask owed found apart n = (
  record {
    who = refl;
    may = record {
      server = v;
      found = found;
      request = n.request;
      in_slot = slot-of-request h.request v.slots n.request apart n.is_there;
      number = n.number;
      was_taken = let e = n.taken in omega arith;
    };
  },
  owed,
  tt,
)

-- the last packet of a request whose type is Background gives a job; where it is another the handler runs
abbrev pub bring_facts : (last background : Bool) → ℕ → List ℕ → MessageHeader → List ℕ → List Fact
bring_facts last background me answer h ask =
    cond (last && background) (plain me (Given h.session h.request) ∷ [])
    (cond last (with_two me (Ran h.session h.request h.req_type) ask answer ∷ []) []
    ++ plain me (Posted (Reply h.session h.request) h.number) ∷ [])

is-whole : (l : Lists) (h : MessageHeader) (v : Server) (ask : List ℕ)
    → find (is_server h.session) l.servers ≡ Some v → (n : OpenSlot v.slots h ask)
    → h.kind ≡ Request → h.number + 1 ≡ packet_count h.size → IsWhole l h.session h.request
is-whole l h v ask found n kind last =
    let opens = n.is_open kind in
    record {
      server = v;
      found = found;
      request = n.slot.request;
      is_there = n.slot.is_there;
      whole = n.slot.taken ∙ (last ∙ ap packet_count (sym (n.of_kind kind).1));
      unanswered = opens.0;
      idle = opens.1;
    }

-- a fact of the session owes its reply
pub owed-self : (me t r k : ℕ) → (me == me && (t == t && (r == r && k == k))) ≡ true
owed-self me t r k = rw (eq-eqb me me refl, eq-eqb t t refl, eq-eqb r r refl, eq-eqb k k refl) refl

-- the number of the last packet of a request, by its bytes
pub last-number : (h : MessageHeader) (ask : List ℕ) → h.number + 1 ≡ packet_count h.size
    → length ask ≡ h.size → packet_count (length ask) - 1 ≡ h.number
last-number h ask last size = let count : packet_count (length ask) ≡ packet_count h.size = ap packet_count size in omega arith

brings-walk : (hand : Option InFlight) (latest : Option Fact) (clock : ℕ) (l : Lists)
    (h : MessageHeader) (v : Server) (ask answer : List ℕ) (last background : Bool)
    → Owes latest l.me h.session h.request h.number
    → find (is_server h.session) l.servers ≡ Some v → Apart v.slots → OpenSlot v.slots h ask
    → (last ≡ true → (h.kind ≡ Request) × (h.number + 1 ≡ packet_count h.size)
    × (length ask ≡ h.size))
    → WalksFrom hand latest clock l (bring_facts last background l.me answer h ask)
unfolding is-whole
brings-walk hand latest clock l h v ask answer false background owed found apart n ends =
    posts-walk hand latest clock l h v ask owed found apart n.slot
brings-walk hand latest clock l h v ask answer true true owed found apart n ends =
    let e = ends refl in (
      record {
        who = refl;
        may = record { has = is-whole l h v ask found n e.0 e.1 };
      },
      record {
        has = is-whole l h v ask found n e.0 e.1;
        owed = subst (λ (k : ℕ). Owes latest l.me h.session h.request k)
            (sym (ap (λ (x : List ℕ). packet_count (length x) - 1) n.slot.own
            ∙ last-number h ask e.1 e.2)) owed;
      },
      tt,
    )
brings-walk hand latest clock l h v ask answer true false owed found apart n ends =
    let e = ends refl in
    let f : Fact = with_two l.me (Ran h.session h.request h.req_type) ask answer in
    let q = n.slot.request in
    let number = last-number h ask e.1 e.2 in
    let after_it : find (is_server h.session) (after clock l f).servers
    ≡ Some (with_slots (at_first (is_request h.request) (answered answer)) v) =
    slots-found (at_first (is_request h.request) (answered answer)) h.session l.servers v
    found in
    let there : find (is_request h.request) (at_first (is_request h.request)
    (answered answer) v.slots) ≡ Some (answered answer q) = find-first
    (is_request h.request) (answered answer) v.slots q n.slot.is_there
    (find-passes (is_request h.request) v.slots q n.slot.is_there) in (
      record {
        who = refl;
        may = inl (record {
          has = is-whole l h v ask found n e.0 e.1;
          of_type = sym (n.of_kind e.0).0;
          own = sym n.slot.own;
        });
      },
      inl (subst (λ (k : ℕ). Owes latest l.me h.session h.request k) (sym number) owed),
      posts-walk hand (Some f) clock (after clock l f) h
          (with_slots (at_first (is_request h.request) (answered answer)) v) []
          (subst (λ (k : ℕ). (l.me == l.me && (h.session == h.session
          && (h.request == h.request && k == h.number))) ≡ true) (sym number)
          (owed-self l.me h.session h.request h.number)) after_it
          (apart-answered h.request answer v.slots apart)
          (record {
            request = answered answer q;
            is_there = there;
            number = n.slot.number;
            taken = n.slot.taken;
            own = refl;
          }),
    )

is-last : (h : MessageHeader) (k : Kind) (q : Served) → GoesOn k q h
    → (not (is_rfr k) && (h.number + 1 == packet_count h.size)) ≡ true → (k ≡ Request)
    × (h.number + 1 ≡ packet_count h.size)
is-last h Request q g t = (refl, eqb-true (h.number + 1) (packet_count h.size) t)
is-last h Rfr q g t = cc
is-last h Cr q g t = absurd g
is-last h Response q g t = absurd g

last-first : (h : MessageHeader) (k : Kind) → k ≡ Request
    → (not (is_rfr k) && (h.number + 1 == packet_count h.size)) ≡ true
    → h.number + 1 ≡ packet_count h.size
last-first h Request e t = eqb-true (h.number + 1) (packet_count h.size) t
last-first h Rfr e t = cc
last-first h Cr e t = cc
last-first h Response e t = cc

pub taken-last : (going : Option Served) (slots : List Served) (h : MessageHeader)
    → TakesOf going slots h → is_last h ≡ true → (h.kind ≡ Request)
    × (h.number + 1 ≡ packet_count h.size)
taken-last None slots h t e = (t.0, last-first h h.kind t.0 e)
taken-last (Some q) slots h t e = is-last h h.kind q t.2 e

-- the bytes of a request whose last packet was taken are of its size
pub taken-size : (h : MessageHeader) (slots : List Served) (ask : List ℕ) → OpenSlot slots h ask
    → AllByRecursion SlotRight slots → h.kind ≡ Request → h.number + 1 ≡ packet_count h.size
    → length ask ≡ h.size
taken-size h slots ask n right kind last =
    let q = n.slot.request in
    let here : SlotRight q = all-found SlotRight (is_request h.request) slots q right n.slot.is_there in
    let opens = n.is_open kind in
    let bytes = here.whole opens.0 opens.1 in
    let size = (n.of_kind kind).1 in
    let taken = n.slot.taken in
    let room = packet_count_room h.size in
    let own : length q.ask ≡ length ask = ap length n.slot.own in
    omega arith

-- a packet is taken
pub took-walk : (mode : Mode) (hand : Option InFlight) (latest : Option Fact) (clock : ℕ) (l : Lists)
    (front : Arrival) (h : MessageHeader) (v : Server) (going : Option Served) (answer : List ℕ)
    → Taking l front h v going
    → WalksFrom hand latest clock l (took_facts mode l.me answer h
    (joined going (front_body l.ring)))
took-walk mode hand latest clock l front h v going answer t =
    let f : Fact = plain l.me (Took (Reply h.session h.request) h.number) in
    let change = took_packet h.request (front_header l.ring) (front_body l.ring) in
    let after_it : find (is_server h.session) (after clock l f).servers
    ≡ Some (with_slots change v) = slots-found change h.session l.servers v t.found in
    let slot : OpenSlot (took_packet h.request (Some h) (front_body l.ring) v.slots) h
    (joined going (front_body l.ring)) =
    took-slot going v.slots h (front_body l.ring) t.apart t.right
    (front-right l h t.is_front.reads) t.takes in
    let right : AllByRecursion SlotRight (took_packet h.request (front_header l.ring)
    (front_body l.ring) v.slots) = rw (t.is_front.reads)
    (took-right going v.slots h (front_body l.ring)
    (front-right l h t.is_front.reads) t.takes t.right) in
    let new : OpenSlot (took_packet h.request (front_header l.ring) (front_body l.ring) v.slots) h
    (joined going (front_body l.ring)) = rw (t.is_front.reads) slot in (
      record {
        who = refl;
        may = record {
          front = front;
          header = h;
          is_front = t.is_front;
          of_session = refl;
          of_request = refl;
          of_number = refl;
          server = v;
          found = t.found;
          of_peer = t.of_peer;
          going = going;
          takes = t.takes;
        };
      },
      tt,
      brings-walk hand (Some f) clock (after clock l f) h (with_slots change v) (joined going (front_body l.ring)) answer (is_last h) (is_mode_background mode) (owed-self l.me h.session h.request h.number) after_it (apart-took h.request (front_header l.ring) (front_body l.ring) v.slots t.apart) new (λ last. let e = taken-last going v.slots h t.takes last in (e.0, e.1, taken-size h (took_packet h.request (front_header l.ring) (front_body l.ring) v.slots) (joined going (front_body l.ring)) new right e.0 e.1)),
    )

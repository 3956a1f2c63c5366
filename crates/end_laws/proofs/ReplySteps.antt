-- Handling a CR or a Response notes only what is allowed, and so does a whole poll.
use Rattle.std.proofs.Common.{◌≡◌, ◌+◌, ◌==◌, ◌&&◌, ◌||◌, ℕ, nat_lt, nat_le, Bool, true, false, not}
use Rattle.std.proofs.Common.{cond, List, [], ◌∷◌, ◌++◌, length, Option, Some, None, slice_get}
use Rattle.std.proofs.Common.{refl, sym, ap, ◌∙◌, subst, arith, ltb-true, ltb-false}
use Rattle.std.specs.Prelude.{is_none}
use Rattle.std.specs.List.{find, list_any}
use Rattle.std.proofs.lemmas.Bool.{eqb-true}
use Rattle.packet_header.specs.Reading.{message_of, body_of}
use Rattle.packet_header.specs.declared.packet.Kind.{Kind}
use Rattle.packet_header.specs.declared.packet.Kind.TheVariants.{Request, Rfr, Cr, Response}
use Rattle.packet_header.specs.declared.packet.MessageHeader.{MessageHeader}
use Rattle.rpc_base.specs.declared.event.Event.TheVariants.{Took}
use Rattle.rpc_base.specs.declared.fact.Fact.{Fact}
use Rattle.rpc_base.specs.declared.owner.Owner.TheVariants.{Ask}
use Rattle.rpc_base.specs.declared.state.DropReason.TheVariants.{NoSession, WrongPeer, Past, Ahead}
use Rattle.rpc_base.specs.declared.state.DropReason.TheVariants.{Mismatch, Queued as StillQueued}
use Rattle.rpc_base.proofs.TakingLemmas.{find-passes}
use Rattle.rpc_base.proofs.BasicLemmas.{or-false}
use Rattle.rpc_laws.specs.declared.rows.ClientRow.{ClientRow}
use Rattle.rpc_laws.specs.declared.rows.ClientRow.TheVariants.{Drops, Takes}
use Rattle.rpc_laws.specs.declared.tables.Arrival.{Arrival}
use Rattle.rpc_laws.specs.declared.tables.Asking.{Asking}
use Rattle.rpc_laws.specs.declared.tables.Call.{Call}
use Rattle.rpc_laws.specs.declared.rows.EndRow.TheVariants.{GoesOn, EndsOk, EndsTooSmall}
use Rattle.rpc_laws.specs.declared.tables.Client.{Client}
use Rattle.rpc_laws.specs.declared.tables.InFlight.{InFlight}
use Rattle.rpc_laws.specs.declared.tables.Lists.{Lists}
use Rattle.rpc_laws.specs.declared.tables.Progress.{Progress}
use Rattle.rpc_laws.specs.declared.tables.Queued.{Queued}
use Rattle.rpc_laws.specs.Calls.{is_active, has_request, is_response, asked_packets, known_packets, moved, took_reply}
use Rattle.rpc_laws.specs.ClientTable.{is_of_turn, progress_row, active_row, call_row, client_row}
use Rattle.rpc_laws.specs.ClientTable.{end_row, end_facts, reply_facts}
use Rattle.rpc_laws.specs.Facts.{plain}
use Rattle.rpc_laws.specs.Front.{front_bytes, front_header, front_body}
use Rattle.rpc_laws.specs.NodeLists.{after}
use Rattle.rpc_laws.specs.PollOrder.{Handles, HandlesAll, PostsAll, SendsAll, Closes, handled, handling_by}
use Rattle.rpc_outside.specs.declared.service.Mode.{Mode}
use Rattle.rpc_laws.specs.ControlSteps.{HearsAll, TimesAll}
use Rattle.rpc_laws.specs.declared.tables.WorkedJob.{WorkedJob}
use Rattle.rpc_laws.specs.Working.{FinishesWorked}
use Rattle.rpc_laws.specs.Queues.{is_queued}
use Rattle.rpc_laws.specs.Sessions.{is_client, is_connected, takes}
use Rattle.rpc_laws.specs.Steps.{Then}
use Rattle.end_laws.proofs.Allowed.{Fronts, HasSize, WalksFrom, Walks}
use Rattle.end_laws.proofs.ControlSteps.{times-all}
use Rattle.end_laws.proofs.HearsSteps.{hears-all}
use Rattle.end_laws.proofs.ListLemmas.{find-first}
use Rattle.end_laws.proofs.PollSteps.{posts-all, sends-all, closes-fine}
use Rattle.end_laws.proofs.QueueLemmas.{RightNode}
use Rattle.end_laws.proofs.RowSteps.{asks-walk}
use Rattle.end_laws.proofs.SendsLaw.{right-stays}
use Rattle.end_laws.proofs.Walks.{Fine, walked-goes, fine-then, fine-until}
use Rattle.end_laws.proofs.WorkSteps.{finishes-worked}
use Rattle.rpc_base.specs.declared.event.Event.TheVariants.{Dropped}
use Rattle.rpc_base.specs.declared.state.DropReason.TheVariants.{StaleLife}

-- what is known where a reply is taken
pub record Replying (l : Lists) (front : Arrival) (h : MessageHeader) (x : Client) (c : Call)
    (p : Progress) : Type 0 where
  pub is_front : Fronts l front h
  pub found : find (is_client h.session) l.clients ≡ Some x
  pub of_peer : front.peer ≡ x.way.peer
  pub active : find (is_active h.request) x.calls ≡ Some c
  pub is_progress : c.progress ≡ Some p
  pub in_turn : h.number ≡ p.got
  pub of_turn : is_of_turn (asked_packets c.what) c.what.req_type p.answer h (length (front_body l.ring)) ≡ true

-- a call's end
ends-by : (hand : Option InFlight) (latest : Option Fact) (clock : ℕ) (l : Lists) (c : Call)
    (p : Progress) (size : ℕ) (a b : Bool) → HasSize l c.what.number size c p
    → nat_lt c.what.room size ≡ a → (p.got == known_packets (asked_packets c.what) (Some size)) ≡ b
    → (first : Bool) → WalksFrom hand latest clock l
    (end_facts l.me c.what.number p.parts (cond (first && a) (EndsTooSmall size)
    (cond b EndsOk GoesOn)))
ends-by hand latest clock l c p size true b h s t true = (
  record {
    who = refl;
    may = record {
      call = c;
      progress = p;
      has = h;
      above = ltb-true c.what.room size s;
    };
  },
  tt,
  tt,
)
ends-by hand latest clock l c p size false true h s t true = (
  record {
    who = refl;
    may = record {
      size = size;
      call = c;
      progress = p;
      has = h;
      all = eqb-true p.got _ t;
      whole = refl;
    };
  },
  tt,
  tt,
)
ends-by hand latest clock l c p size false false h s t true = tt
ends-by hand latest clock l c p size a true h s t false = (
  record {
    who = refl;
    may = record {
      size = size;
      call = c;
      progress = p;
      has = h;
      all = eqb-true p.got _ t;
      whole = refl;
    };
  },
  tt,
  tt,
)
ends-by hand latest clock l c p size a false h s t false = tt

ending-walk : (hand : Option InFlight) (latest : Option Fact) (clock : ℕ) (l : Lists) (c : Call)
    (p : Progress) (first : Bool) (answer : Option ℕ) → p.answer ≡ answer
    → ((size : ℕ) → p.answer ≡ Some size → HasSize l c.what.number size c p)
    → WalksFrom hand latest clock l (end_facts l.me c.what.number p.parts
    (end_row first (asked_packets c.what) c.what.room p.got answer))
ending-walk hand latest clock l c p first None e h = tt
ending-walk hand latest clock l c p first (Some size) e h =
    ends-by hand latest clock l c p size (nat_lt c.what.room size)
    (p.got == known_packets (asked_packets c.what) (Some size)) (h size e) refl refl first

reply-request : (b : Bool) (h : MessageHeader) (body : List ℕ) (p : Progress)
    → (cond b (record p { got = p.got + 1; answer = Some h.size; parts = p.parts ++ body })
    (record p { got = p.got + 1 })).request ≡ p.request
reply-request true h body p = refl
reply-request false h body p = refl

-- the reply is taken
takes-walk : (hand : Option InFlight) (clock : ℕ) (l : Lists) (front : Arrival) (h : MessageHeader)
    (x : Client) (c : Call) (p : Progress) → Replying l front h x c p
    → Walks hand clock l (reply_facts l.me (Some x) h (front_body l.ring) Takes)
takes-walk hand clock l front h x c p t =
    let s = h.session in
    let r = h.request in
    let f : Fact = plain l.me (Took (Ask s r) h.number) in
    let body = front_body l.ring in
    let change = takes clock r (front_header l.ring) body in
    let p1 : Progress = took_reply clock (Some h) body p in
    let c1 : Call = record { what = c.what; progress = Some p1 } in
    let move = moved (took_reply clock (front_header l.ring) body) in
    let found : find (is_client s) (after clock l f).clients ≡ Some (change x) =
    find-first (is_client s) change l.clients x t.found
    (find-passes (is_client s) l.clients x t.found) in
    let is : move c ≡ c1 = rw (t.is_front.reads, t.is_progress) refl in
    let was : is_active r c ≡ true = find-passes (is_active r) x.calls c t.active in
    let number : (p.request == r) ≡ true = sym (ap (has_request r) t.is_progress) ∙ was in
    let still : is_active r (move c) ≡ true =
    ap (is_active r) is ∙ (ap (λ (n : ℕ). n == r)
    (reply-request (is_response h.kind) h body p) ∙ number) in
    let active : find (is_active r) (change x).calls ≡ Some c1 =
    find-first (is_active r) move x.calls c t.active still ∙ ap Some is in
    let has : (size : ℕ) → p1.answer ≡ Some size
    → HasSize (after clock l f) c.what.number size c1 p1 =
    λ size e. record {
      session = s;
      request = r;
      client = change x;
      found = found;
      active = active;
      is_progress = refl;
      number = refl;
      answer = e;
    } in
    let walk : WalksFrom hand (Some f) clock (after clock l f)
    (end_facts l.me c.what.number p1.parts
    (end_row (is_none p.answer) (asked_packets c.what) c.what.room p1.got p1.answer)) =
    ending-walk hand (Some f) clock (after clock l f) c1 p1 (is_none p.answer) p1.answer
    refl has in (
      record {
        who = refl;
        may = record {
          front = front;
          header = h;
          is_front = t.is_front;
          of_session = refl;
          of_request = refl;
          client = x;
          found = t.found;
          of_peer = t.of_peer;
          call = c;
          active = t.active;
          progress = p;
          is_progress = t.is_progress;
          in_turn = t.in_turn;
          of_turn = t.of_turn;
        };
      },
      λ g e. let reads = t.is_front.reads in let same : h ≡ g = cc in ap (λ (z : MessageHeader). z.number) (sym same),
      rw (t.active, t.is_progress) walk,
    )

-- the client rule, read backwards
row-by : (a b c d : Bool)
    → cond a (Drops Past) (cond b (Drops Ahead)
    (cond (not c) (Drops Mismatch) (cond d (Drops StillQueued) Takes))) ≡ Takes → (a ≡ false)
    × (b ≡ false) × (c ≡ true)
row-by true b c d h = cc
row-by false true c d h = cc
row-by false false false d h = cc
row-by false false true true h = cc
row-by false false true false h = (refl, refl, refl)

progress-takes : (queued : List Queued) (a : Asking) (p : Progress) (h : MessageHeader) (n : ℕ)
    → progress_row queued a p h n ≡ Takes → (h.number ≡ p.got)
    × (is_of_turn (asked_packets a) a.req_type p.answer h n ≡ true)
progress-takes queued a p h n e =
    let t = row-by (nat_lt h.number p.got) (nat_lt p.got h.number || nat_le p.posted h.number)
    (is_of_turn (asked_packets a) a.req_type p.answer h n)
    (list_any (is_queued (Ask h.session h.request) h.number) queued) e in
    let low = ltb-false h.number p.got t.0 in
    let high = ltb-false p.got h.number (or-false _ _ t.1).0 in
    (omega arith, t.2)

-- what is known so far
pub record Finds (l : Lists) (front : Arrival) (h : MessageHeader) (x : Client) : Type 0 where
  pub is_front : Fronts l front h
  pub found : find (is_client h.session) l.clients ≡ Some x
  pub of_peer : front.peer ≡ x.way.peer

row-walk : (hand : Option InFlight) (clock : ℕ) (l : Lists) (front : Arrival) (h : MessageHeader)
    (x : Client) (c : Call) (p : Progress) (row : ClientRow) → Finds l front h x
    → find (is_active h.request) x.calls ≡ Some c → c.progress ≡ Some p
    → progress_row l.queued c.what p h (length (front_body l.ring)) ≡ row
    → Walks hand clock l (reply_facts l.me (Some x) h (front_body l.ring) row)
row-walk hand clock l front h x c p (Drops why) f is at e = (record { who = refl; may = tt }, tt, tt)
row-walk hand clock l front h x c p Takes f is at e =
    let t = progress-takes l.queued c.what p h (length (front_body l.ring)) e in
    takes-walk hand clock l front h x c p (record {
      is_front = f.is_front;
      found = f.found;
      of_peer = f.of_peer;
      active = is;
      is_progress = at;
      in_turn = t.0;
      of_turn = t.1;
    })

progress-walk : (hand : Option InFlight) (clock : ℕ) (l : Lists) (front : Arrival)
    (h : MessageHeader) (x : Client) (c : Call) (p : Option Progress) → Finds l front h x
    → find (is_active h.request) x.calls ≡ Some c → c.progress ≡ p
    → Walks hand clock l (reply_facts l.me (Some x) h (front_body l.ring)
    (active_row l.queued c.what p h (length (front_body l.ring))))
progress-walk hand clock l front h x c None f is at = (record { who = refl; may = tt }, tt, tt)
progress-walk hand clock l front h x c (Some p) f is at = row-walk hand clock l front h x c p _ f is at refl

call-walk : (hand : Option InFlight) (clock : ℕ) (l : Lists) (front : Arrival) (h : MessageHeader)
    (x : Client) (c : Option Call) → Finds l front h x → find (is_active h.request) x.calls ≡ c
    → Walks hand clock l (reply_facts l.me (Some x) h (front_body l.ring)
    (call_row l.queued c h (length (front_body l.ring))))
call-walk hand clock l front h x None f is = (record { who = refl; may = tt }, tt, tt)
call-walk hand clock l front h x (Some c) f is = progress-walk hand clock l front h x c c.progress f is refl

peer-walk : (hand : Option InFlight) (clock : ℕ) (l : Lists) (front : Arrival) (h : MessageHeader)
    (x : Client) (a b : Bool) → (x.way.peer == front.peer) ≡ b → Fronts l front h
    → find (is_client h.session) l.clients ≡ Some x
    → Walks hand clock l (reply_facts l.me (Some x) h (front_body l.ring)
    (cond (not a) (Drops NoSession) (cond (not b) (Drops WrongPeer)
    (call_row l.queued (find (is_active h.request) x.calls) h (length (front_body l.ring))))))
peer-walk hand clock l front h x false b t f is = (record { who = refl; may = tt }, tt, tt)
peer-walk hand clock l front h x true false t f is = (record { who = refl; may = tt }, tt, tt)
peer-walk hand clock l front h x true true t f is =
    call-walk hand clock l front h x _ (record
    { is_front = f; found = is; of_peer = sym (eqb-true x.way.peer front.peer t) }) refl

client-walk : (hand : Option InFlight) (clock : ℕ) (l : Lists) (front : Arrival) (h : MessageHeader)
    (x : Option Client) → find (is_client h.session) l.clients ≡ x → Fronts l front h
    → Walks hand clock l (reply_facts l.me x h (front_body l.ring)
    (client_row l.queued x front.peer h (length (front_body l.ring))))
client-walk hand clock l front h None is f = (record { who = refl; may = tt }, tt, tt)
client-walk hand clock l front h (Some x) is f = peer-walk hand clock l front h x (is_connected x.state) _ refl f is

-- the front of the ring is handled by its kind
kind-walk : (mode : ℕ → Mode) (hand : Option InFlight) (clock : ℕ) (l : Lists) (front : Arrival) (h : MessageHeader)
    (lacks : Bool) (answer : List ℕ) (k : Kind) → h.kind ≡ k → Fronts l front h → RightNode l
    → Walks hand clock l (handling_by mode lacks answer k l front.peer h (front_body l.ring))
kind-walk mode hand clock l front h lacks answer Request e f s =
    asks-walk (mode h.req_type) hand clock l front h lacks answer f (rw e tt) s.sound s.slots
kind-walk mode hand clock l front h lacks answer Rfr e f s =
    asks-walk (mode h.req_type) hand clock l front h lacks answer f (rw e tt) s.sound s.slots
kind-walk mode hand clock l front h lacks answer Cr e f s = client-walk hand clock l front h _ refl f
kind-walk mode hand clock l front h lacks answer Response e f s = client-walk hand clock l front h _ refl f

pub front-is : (ring : List Arrival) (front : Arrival) → slice_get ring 0 ≡ Some front → front_bytes ring ≡ front.bytes
front-is [] front h = cc
front-is (d ∷ ds) front h = let same : d ≡ front = cc in ap (λ (a : Arrival). a.bytes) same

-- where it is for another life, it is dropped
handled-walk : (mode : ℕ → Mode) (hand : Option InFlight) (clock : ℕ) (l : Lists) (front : Arrival) (h : MessageHeader)
    (lacks : Bool) (answer : List ℕ) (b : Bool) → (h.to_life == l.life) ≡ b
    → slice_get l.ring 0 ≡ Some front → front_header l.ring ≡ Some h → RightNode l
    → Walks hand clock l (cond b (handling_by mode lacks answer h.kind l front.peer h
    (front_body l.ring)) (plain l.me (Dropped StaleLife) ∷ []))
handled-walk mode hand clock l front h lacks answer true e is reads s =
    kind-walk mode hand clock l front h lacks answer h.kind refl
    (record { is_front = is; reads = reads; for_us = eqb-true h.to_life l.life e }) s
handled-walk mode hand clock l front h lacks answer false e is reads s =
    (record { who = refl; may = tt }, tt, tt)

pub handles-fine : (mode : ℕ → Mode) → Fine RightNode (Handles mode)
handles-fine mode hand s x t i h =
    let l = s.lists in
    let bytes = front-is l.ring h.front h.is_front in
    let reads : front_header l.ring ≡ Some h.header = ap message_of bytes ∙ h.reads in
    let walk = handled-walk mode hand s.clock l h.front h.header h.lacks h.answer
    (h.header.to_life == l.life) refl h.is_front reads i in
    let same : handled mode h.lacks h.answer l h.front.peer h.header (front_body l.ring) ≡ x =
    ap (λ (b : List ℕ). handled mode h.lacks h.answer l h.front.peer h.header (body_of b)) bytes
    ∙ sym h.facts in
    walked-goes RightNode right-stays hand s x t i
    (subst (λ (y : List Fact). Walks hand s.clock l y) same walk) h.goes

-- a poll at the node's clock
pub poll-fine : (mode : ℕ → Mode) (worked : List WorkedJob)
    → Fine RightNode (Then (FinishesWorked worked)
    (Then HearsAll (Then (HandlesAll mode)
    (Then TimesAll (Then PostsAll (Then SendsAll Closes))))))
poll-fine mode worked =
    fine-then RightNode (FinishesWorked worked) _ (finishes-worked worked)
    (fine-then RightNode HearsAll _ hears-all
    (fine-then RightNode (HandlesAll mode) _
    (fine-until RightNode (Handles mode) _ (handles-fine mode))
    (fine-then RightNode TimesAll _ (times-all RightNode right-stays)
    (fine-then RightNode PostsAll _ (posts-all RightNode right-stays)
    (fine-then RightNode SendsAll Closes (sends-all RightNode right-stays)
    (closes-fine RightNode right-stays))))))

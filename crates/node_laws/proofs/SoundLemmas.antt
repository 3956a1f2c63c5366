-- What keeps a client session sound: its credits balance, its calls are in order, and each has a slot of its
-- own.
use Rattle.std.proofs.Common.{◌≡◌, ℕ, ◌+◌, ◌-◌, ◌%◌, ◌≤◌, ◌<◌, Bool, true, false, ◌&&◌, cond, ltb}
use Rattle.std.proofs.Common.{Option, Some, None, List, ◌++◌, refl, sym, ap, ◌∙◌, arith}
use Rattle.std.specs.Prelude.{◌==◌, count_by, option_map}
use Rattle.std.specs.List.{find}
use Rattle.std.proofs.lemmas.Bool.{eqb-true, eq-eqb, ltb-true, ltb-false, and_parts}
use Rattle.packet_header.specs.Parts.{part_size}
use Rattle.packet_header.specs.declared.packet.Kind.{Kind}
use Rattle.packet_header.specs.declared.packet.Kind.TheVariants.{Request, Rfr, Cr, Response}
use Rattle.packet_header.specs.declared.packet.MessageHeader.{MessageHeader}
use Rattle.rpc_base.specs.Tables.{at_first}
use Rattle.rpc_laws.specs.declared.tables.Asking.{Asking}
use Rattle.rpc_laws.specs.declared.tables.Call.{Call}
use Rattle.rpc_laws.specs.declared.tables.Client.{Client}
use Rattle.rpc_laws.specs.declared.tables.Progress.{Progress}
use Rattle.rpc_laws.specs.Calls.{has_request, is_active, asked_packets, known_packets, moved}
use Rattle.rpc_laws.specs.Calls.{posted_up_to, rolled_back, sent_packet, is_response, with_reply}
use Rattle.rpc_laws.specs.Calls.{took_reply}
use Rattle.rpc_laws.specs.ClientTable.{is_cr, is_same_size, is_of_turn}
use Rattle.rpc_laws.specs.Posting.{holds_slot}
use Rattle.rpc_laws.specs.Sessions.{is_live}
use Rattle.rpc_base.proofs.FirstLemmas.{found-holds, found-own, count-fewer, all-changed, sum-changed, sum-grown}
use Rattle.node_laws.specs.Valid.{unanswered_of, ToldAfter, InOrder, OrderOf, CallInOrder, Sound}

-- an active call has the slot of its request
pub active-holds : (r : ℕ) (o : Option Progress) → has_request r o ≡ true → holds_slot (r % 8) o ≡ true
active-holds r None h = cc
active-holds r (Some p) h = eq-eqb (p.request % 8) (r % 8) (ap (λ n. n % 8) (eqb-true p.request r h))

has-own : (o : Option Progress) (p : Progress) → o ≡ Some p → has_request p.request o ≡ true
has-own o p e = rw e (eq-eqb p.request p.request refl)

-- so it is found by its request
pub by_request : (x : Client) (test : Call → Bool) (c : Call) (p : Progress) → Sound x
    → find test x.calls ≡ Some c → c.progress ≡ Some p → find (is_active p.request) x.calls ≡ Some c
by_request x test c p h e a =
    let few : count_by (is_active p.request) x.calls ≤ 1 =
    omega (
      arith,
      h.apart (p.request % 8),
      count-fewer (is_active p.request) (λ d. holds_slot (p.request % 8) d.progress)
          (λ d t. active-holds p.request d.progress t) x.calls,
    ) in
    found-own test (is_active p.request) x.calls c few e (has-own c.progress p a)

-- the order of a call whose progress changes
order-of : (a : ℕ) (o : Option Progress) (p : Progress) → o ≡ Some p → OrderOf a o → InOrder a p
order-of a o p e h = rw e at h

pub order-found : (x : Client) (test : Call → Bool) (c : Call) (p : Progress) → Sound x
    → find test x.calls ≡ Some c → c.progress ≡ Some p → InOrder (asked_packets c.what) p
order-found x test c p h e a =
    order-of (asked_packets c.what) c.progress p a (found-holds test CallInOrder x.calls c h.order e)

order-moved : (a : ℕ) (f : Progress → Progress) (o : Option Progress) (p : Progress) → o ≡ Some p
    → InOrder a (f p) → OrderOf a (option_map f o)
order-moved a f o p e h = rw e h

same-slot : (slot : ℕ) (f : Progress → Progress) → ((p : Progress) → (f p).request ≡ p.request)
    → (o : Option Progress)
    → cond (holds_slot slot (option_map f o)) 1 0 ≤ cond (holds_slot slot o) 1 0 + 0
same-slot slot f same None = omega arith
same-slot slot f same (Some p) = rw (same p) (omega arith)

-- a call moves, and free credits with it
pub sound-moved : (x : Client) (free : ℕ) (f : Progress → Progress) (test : Call → Bool) (c : Call)
    (p : Progress) → ((q : Progress) → (f q).request ≡ q.request) → Sound x
    → find test x.calls ≡ Some c → c.progress ≡ Some p → InOrder (asked_packets c.what) (f p)
    → (is_live x.state ≡ true → free + ((f p).posted - (f p).got) ≡ x.free + (p.posted - p.got))
    → Sound (record x { free = free; calls = at_first test (moved f) x.calls })
sound-moved x free f test c p same h e a order credit = record {
  balance = λ t.
      let old : unanswered_of c.progress ≡ p.posted - p.got = ap unanswered_of a in
      let new : unanswered_of (option_map f c.progress) ≡ (f p).posted - (f p).got =
      ap (λ o. unanswered_of (option_map f o)) a in
      let sums = sum-changed test (moved f) (λ d. unanswered_of d.progress) x.calls c e in
      let was = h.balance t in
      let moves = credit t in
      omega arith;
  order = all-changed test (moved f) CallInOrder x.calls c e
      (λ _. order-moved (asked_packets c.what) f c.progress p a order) h.order;
  apart = λ slot.
      let few = h.apart slot in
      let grown = sum-grown test (moved f) (λ d. cond (holds_slot slot d.progress) 1 0) 0 x.calls
      (λ d. same-slot slot f same d.progress) in
      omega arith;
}

-- what posting, rolling back and sending leave in order
pub order-posted : (a k : ℕ) (p : Progress) → InOrder a p → k ≡ p.posted
    → p.posted < known_packets a p.answer → InOrder a (posted_up_to k p)
order-posted a k p h e more = record { posted = let was = h.posted in omega arith; known = omega arith; told = h.told }

pub order-rolled : (a got : ℕ) (p : Progress) → InOrder a p → got ≡ p.got → InOrder a (rolled_back got p)
order-rolled a got p h e =
    record { posted = omega arith; known = let was = h.posted in let known = h.known in omega arith; told = h.told }

-- a choice of two records that agree at a field
pub both-at : {A B : Type 0} (g : A → B) (b : Bool) (x y : A) (z : B) → g x ≡ z → g y ≡ z → g (cond b x y) ≡ z
both-at g true x y z h k = h
both-at g false x y z h k = k

pub sent-request : (clock k : ℕ) (p : Progress) → (sent_packet clock k p).request ≡ p.request
sent-request clock k p = both-at (λ (q : Progress). q.request) (p.got == k) _ _ _ refl refl

pub sent-got : (clock k : ℕ) (p : Progress) → (sent_packet clock k p).got ≡ p.got
sent-got clock k p = both-at (λ (q : Progress). q.got) (p.got == k) _ _ _ refl refl

pub sent-posted : (clock k : ℕ) (p : Progress) → (sent_packet clock k p).posted ≡ p.posted
sent-posted clock k p = both-at (λ (q : Progress). q.posted) (p.got == k) _ _ _ refl refl

pub sent-answer : (clock k : ℕ) (p : Progress) → (sent_packet clock k p).answer ≡ p.answer
sent-answer clock k p = both-at (λ (q : Progress). q.answer) (p.got == k) _ _ _ refl refl

-- a reply that is taken
pub reply-request : (h : MessageHeader) (body : List ℕ) (p : Progress) → (with_reply h body p).request ≡ p.request
reply-request h body p = both-at (λ (q : Progress). q.request) (is_response h.kind) _ _ _ refl refl

pub reply-got : (h : MessageHeader) (body : List ℕ) (p : Progress) → (with_reply h body p).got ≡ p.got + 1
reply-got h body p = both-at (λ (q : Progress). q.got) (is_response h.kind) _ _ _ refl refl

pub reply-posted : (h : MessageHeader) (body : List ℕ) (p : Progress) → (with_reply h body p).posted ≡ p.posted
reply-posted h body p = both-at (λ (q : Progress). q.posted) (is_response h.kind) _ _ _ refl refl

pub reply-answer : (h : MessageHeader) (body : List ℕ) (p : Progress)
    → (with_reply h body p).answer ≡ cond (is_response h.kind) (Some h.size) p.answer
reply-answer h body p = chosen (is_response h.kind) h.size
  where
    chosen : (b : Bool) (size : ℕ)
        → (cond b (record p { got = p.got + 1; answer = Some size; parts = p.parts ++ body })
        (record p { got = p.got + 1 })).answer ≡ cond b (Some size) p.answer
    chosen true size = refl
    chosen false size = refl

pub took-request : (clock : ℕ) (h : Option MessageHeader) (body : List ℕ) (p : Progress)
    → (took_reply clock h body p).request ≡ p.request
took-request clock None body p = refl
took-request clock (Some h) body p = reply-request h body p

-- what a reply of its turn is: a credit return before the last packet of the request, and from then on a
-- part of the answer
pub record Turn (a : ℕ) (told : Option ℕ) (number size : ℕ) (response : Bool) : Type 0 where
  pub early : response ≡ false → number + 1 < a
  pub late : response ≡ true → a ≤ number + 1
  pub sized : response ≡ true → is_same_size told size ≡ true

cr-response : (k : Kind) → is_cr k ≡ true → is_response k ≡ false
cr-response Request h = cc
cr-response Rfr h = cc
cr-response Cr h = refl
cr-response Response h = cc

turn-by : (a : ℕ) (told : Option ℕ) (number size : ℕ) (cr response other last : Bool) (b : Bool)
    → ltb (number + 1) a ≡ b → (cr ≡ true → response ≡ false)
    → cond b cr (((response && other) && is_same_size told size) && last) ≡ true
    → Turn a told number size response
turn-by a told number size cr response other last true t apart h =
    let none : response ≡ false = apart h in
    let low : number + 1 < a = ltb-true (number + 1) a t in
    record {
      early = λ _. low;
      late = λ e. absurd (true-false (sym e ∙ none));
      sized = λ e. absurd (true-false (sym e ∙ none));
    }
  where
    true-false : true ≡ false → ⊥
    true-false e = cc
turn-by a told number size cr response other last false t apart h =
    let one = and_parts ((response && other) && is_same_size told size) last h in
    let two = and_parts (response && other) (is_same_size told size) one.0 in
    let three = and_parts response other two.0 in
    let high : a ≤ number + 1 = ltb-false (number + 1) a t in
    record { early = λ e. absurd (true-false (sym three.0 ∙ e)); late = λ _. high; sized = λ _. two.1 }
  where
    true-false : true ≡ false → ⊥
    true-false e = cc

pub turn-of : (a : Asking) (told : Option ℕ) (h : MessageHeader) (len : ℕ)
    → is_of_turn (asked_packets a) a.req_type told h len ≡ true
    → Turn (asked_packets a) told h.number h.size (is_response h.kind)
turn-of a told h len e =
    turn-by (asked_packets a) told h.number h.size (is_cr h.kind) (is_response h.kind)
    (h.req_type == a.req_type) (len == part_size h.size (h.number + 1 - asked_packets a))
    (ltb (h.number + 1) (asked_packets a)) refl (cr-response h.kind) e

same-known : (a size : ℕ) (told : Option ℕ) (posted : ℕ) → is_same_size told size ≡ true
    → posted ≤ known_packets a told → posted ≤ known_packets a (Some size)
same-known a size None posted h known = omega arith
same-known a size (Some n) posted h known =
    let same : n ≡ size = eqb-true n size h in rw same at known

-- what is known after a reply of its turn
pub reply-known : (a posted got size : ℕ) (told : Option ℕ) (response : Bool)
    → Turn a told got size response → posted ≤ known_packets a told
    → posted ≤ known_packets a (cond response (Some size) told)
reply-known a posted got size told true turn known = same-known a size told posted (turn.sized refl) known
reply-known a posted got size told false turn known = known

later-told : (a got : ℕ) (told : Option ℕ) → got + 1 < a → ToldAfter a got told → ToldAfter a (got + 1) told
later-told a got None low h = low
later-told a got (Some n) low h = omega arith

reply-told : (a got size : ℕ) (told : Option ℕ) (response : Bool) → Turn a told got size response
    → ToldAfter a got told → ToldAfter a (got + 1) (cond response (Some size) told)
reply-told a got size told true turn h = turn.late refl
reply-told a got size told false turn h = later-told a got told (turn.early refl) h

pub order-reply : (a : Asking) (h : MessageHeader) (body : List ℕ) (len : ℕ) (p : Progress)
    → InOrder (asked_packets a) p → h.number ≡ p.got → p.got < p.posted
    → is_of_turn (asked_packets a) a.req_type p.answer h len ≡ true
    → InOrder (asked_packets a) (with_reply h body p)
order-reply a h body len p was n more t =
    let turn = turn-of a p.answer h len t in
    let own : Turn (asked_packets a) p.answer p.got h.size (is_response h.kind) = rw n at turn in
    record {
      posted = rw (reply-got h body p, reply-posted h body p) (omega arith);
      known = rw (reply-posted h body p, reply-answer h body p)
          (reply-known (asked_packets a) p.posted p.got h.size p.answer (is_response h.kind) own
          was.known);
      told = rw (reply-got h body p, reply-answer h body p)
          (reply-told (asked_packets a) p.got h.size p.answer (is_response h.kind) own was.told);
    }

pub order-taken : (a : Asking) (clock : ℕ) (h : MessageHeader) (body : List ℕ) (len : ℕ)
    (p : Progress) → InOrder (asked_packets a) p → h.number ≡ p.got → p.got < p.posted
    → is_of_turn (asked_packets a) a.req_type p.answer h len ≡ true
    → InOrder (asked_packets a) (took_reply clock (Some h) body p)
order-taken a clock h body len p was n more t =
    let reply = order-reply a h body len p was n more t in
    record { posted = reply.posted; known = reply.known; told = reply.told }

pub order-sent : (a clock k : ℕ) (p : Progress) → InOrder a p → InOrder a (sent_packet clock k p)
order-sent a clock k p was = record {
  posted = rw (sent-got clock k p, sent-posted clock k p) was.posted;
  known = rw (sent-posted clock k p, sent-answer clock k p) was.known;
  told = rw (sent-got clock k p, sent-answer clock k p) was.told;
}

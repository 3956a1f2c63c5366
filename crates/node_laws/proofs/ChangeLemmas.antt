-- Each change of a client session keeps it sound.
use Rattle.std.proofs.Common.{◌≡◌, ℕ, ◌+◌, ◌-◌, ◌%◌, ◌≤◌, ◌<◌, Bool, true, false, cond, Option}
use Rattle.std.proofs.Common.{Some, None, List, refl, ap, arith}
use Rattle.std.specs.Prelude.{◌==◌}
use Rattle.std.specs.List.{find}
use Rattle.std.proofs.lemmas.Bool.{eqb-true}
use Rattle.std.proofs.lemmas.List.Sums.{sum_by_push}
use Rattle.packet_header.specs.declared.packet.MessageHeader.{MessageHeader}
use Rattle.rpc_base.specs.Tables.{at_first}
use Rattle.packet_header.specs.declared.packet.ControlHeader.{ControlHeader}
use Rattle.rpc_base.specs.declared.state.SessionState.{SessionState}
use Rattle.rpc_laws.specs.declared.tables.Asking.{Asking}
use Rattle.rpc_laws.specs.declared.tables.Call.{Call}
use Rattle.rpc_laws.specs.declared.tables.Client.{Client}
use Rattle.rpc_laws.specs.declared.tables.Progress.{Progress}
use Rattle.rpc_laws.specs.Calls.{is_call, has_request, is_active, asked_packets, known_packets}
use Rattle.rpc_laws.specs.Calls.{moved, begun, posted_up_to, rolled_back, sent_packet, took_reply}
use Rattle.rpc_laws.specs.ClientTable.{is_of_turn}
use Rattle.rpc_laws.specs.Posting.{holds_slot, is_taken}
use Rattle.rpc_laws.specs.Sessions.{is_live, is_request_of, client_end, opened_end, comes_to}
use Rattle.rpc_laws.specs.Sessions.{connects, requests, asks, begins, posts, sends, takes, rolls}
use Rattle.rpc_laws.specs.Sessions.{breaks, ends}
use Rattle.node_laws.proofs.SoundLemmas.{by_request, order-found, sound-moved, order-posted}
use Rattle.node_laws.proofs.SoundLemmas.{order-rolled, order-taken, order-sent, sent-request}
use Rattle.node_laws.proofs.SoundLemmas.{sent-got, sent-posted, took-request, reply-got}
use Rattle.node_laws.proofs.SoundLemmas.{reply-posted}
use Rattle.rpc_base.proofs.FirstLemmas.{all-push, all-changed, all-left, none-counted, missing-same}
use Rattle.rpc_base.proofs.FirstLemmas.{sum-changed, sum-left, sum-fewer}
use Rattle.node_laws.specs.Valid.{unanswered_of, CallInOrder, in_slot, Sound}
use Rattle.rpc_base.proofs.TakingLemmas.{find-passes}

pub sound-made : (s peer t credits life : ℕ) → Sound (client_end s peer t credits life)
sound-made s peer t credits life = record { balance = λ _. omega arith; order = tt; apart = λ slot. omega arith }

pub sound-asks : (a : Asking) (x : Client) → Sound x → Sound (asks a x)
sound-asks a x h = record {
  balance = λ t.
      let was = h.balance t in
      omega (
        arith,
        sum_by_push (λ (c : Call). unanswered_of c.progress) x.calls
            (record { what = a; progress = None }),
      );
  order = all-push CallInOrder x.calls (record { what = a; progress = None }) h.order tt;
  apart = λ slot.
      let was = h.apart slot in
      omega (
        arith,
        sum_by_push (λ (c : Call). cond (holds_slot slot c.progress) 1 0) x.calls
            (record { what = a; progress = None }),
      );
}

begun-slot : (slot r : ℕ) (calls : List Call) (n m : ℕ) (b : Bool) → (r % 8 == slot) ≡ b
    → is_taken calls (r % 8) ≡ false → in_slot slot calls ≤ 1
    → m + 0 ≡ in_slot slot calls + cond b 1 0 → m ≤ 1
begun-slot slot r calls n m true t free few e =
    let same : r % 8 ≡ slot = eqb-true (r % 8) slot t in
    let none : in_slot (r % 8) calls ≡ 0 = none-counted (λ c. holds_slot (r % 8) c.progress) calls free in
    let zero : in_slot slot calls ≡ 0 = rw same at none in
    omega arith
begun-slot slot r calls n m false t free few e = omega arith

pub sound-begins : (number r : ℕ) (x : Client) (c : Call) → Sound x
    → find (is_call number) x.calls ≡ Some c → c.progress ≡ None → is_taken x.calls (r % 8) ≡ false
    → Sound (begins number r x)
sound-begins number r x c h e none free = record {
  balance = λ t.
      let was = h.balance t in
      let old : unanswered_of c.progress ≡ 0 = ap unanswered_of none in
      let sums = sum-changed (is_call number) (begun r) (λ d. unanswered_of d.progress) x.calls c e in
      omega arith;
  order = all-changed (is_call number) (begun r) CallInOrder x.calls c e
      (λ _. record { posted = omega arith; known = omega arith; told = omega arith }) h.order;
  apart = λ slot.
      let old : ◌≡◌ {A = ℕ} (cond (holds_slot slot c.progress) 1 0) 0 = ap (λ o. cond (holds_slot slot o) 1 0) none in
      let sums = sum-changed (is_call number) (begun r) (λ d. cond (holds_slot slot d.progress) 1 0) x.calls c e in
      let sum : in_slot slot (at_first (is_call number) (begun r) x.calls) + 0
      ≡ in_slot slot x.calls + cond (r % 8 == slot) 1 0 = omega arith in
      begun-slot slot r x.calls 0 (in_slot slot (at_first (is_call number) (begun r) x.calls))
      (r % 8 == slot) refl free (h.apart slot) sum;
}

pub sound-posts : (r k : ℕ) (x : Client) (test : Call → Bool) (c : Call) (p : Progress) → Sound x
    → find test x.calls ≡ Some c → c.progress ≡ Some p → r ≡ p.request → k ≡ p.posted
    → p.posted < known_packets (asked_packets c.what) p.answer → 0 < x.free → Sound (posts r k x)
sound-posts r k x test c p h e a same turn more credit =
    let order = order-found x test c p h e a in
    let own : find (is_active r) x.calls ≡ Some c = rw same (by_request x test c p h e a) in
    sound-moved x (x.free - 1) (posted_up_to k) (is_active r) c p (λ q. refl) h own a (order-posted (asked_packets c.what) k p order turn more) (λ _. let was = order.posted in omega arith)

pub sound-takes : (clock r : ℕ) (header : MessageHeader) (body : List ℕ) (len : ℕ) (x : Client)
    (test : Call → Bool) (c : Call) (p : Progress) → Sound x → find test x.calls ≡ Some c
    → c.progress ≡ Some p → p.request ≡ r → header.number ≡ p.got → p.got < p.posted
    → is_of_turn (asked_packets c.what) c.what.req_type p.answer header len ≡ true
    → Sound (takes clock r (Some header) body x)
sound-takes clock r header body len x test c p h e a same turn more fits =
    let order = order-found x test c p h e a in
    let own : find (is_active r) x.calls ≡ Some c = rw same at (by_request x test c p h e a) in
    sound-moved x (x.free + 1) (took_reply clock (Some header) body)
    (is_active r) c p (took-request clock (Some header) body) h own a
    (order-taken c.what clock header body len p order turn more fits)
    (λ _. rw (reply-posted header body p, reply-got header body p) (omega arith))

pub sound-rolls : (number posted got : ℕ) (x : Client) (c : Call) (p : Progress) → Sound x
    → find (is_call number) x.calls ≡ Some c → c.progress ≡ Some p → posted ≡ p.posted → got ≡ p.got
    → Sound (rolls number posted got x)
sound-rolls number posted got x c p h e a from back =
    let order = order-found x (is_call number) c p h e a in
    sound-moved x (x.free + (posted - got)) (rolled_back got)
    (is_call number) c p (λ q. refl) h e a
    (order-rolled (asked_packets c.what) got p order back) (λ _. rw (from, back) (omega arith))

sends-found : (clock r k : ℕ) (x : Client) (c : Call) (o : Option Progress) → c.progress ≡ o
    → has_request r o ≡ true → Sound x → find (is_active r) x.calls ≡ Some c
    → Sound (sends clock r k x)
sends-found clock r k x c None a t h e = cc
sends-found clock r k x c (Some p) a t h e =
    let order = order-found x (is_active r) c p h e a in
    sound-moved x x.free (sent_packet clock k)
    (is_active r) c p (sent-request clock k) h e a
    (order-sent (asked_packets c.what) clock k p order)
    (λ _. rw (sent-posted clock k p, sent-got clock k p) refl)

sends-by : (clock r k : ℕ) (x : Client) (o : Option Call) → find (is_active r) x.calls ≡ o → Sound x
    → Sound (sends clock r k x)
sends-by clock r k x None e h =
    rw (missing-same (is_active r) (moved (sent_packet clock k)) x.calls e) h
sends-by clock r k x (Some c) e h =
    sends-found clock r k x c c.progress refl (find-passes (is_active r) x.calls c e) h e

pub sound-sends : (clock r k : ℕ) (x : Client) → Sound x → Sound (sends clock r k x)
sound-sends clock r k x h = sends-by clock r k x (find (is_active r) x.calls) refl h

pub sound-breaks : (x : Client) → Sound x → Sound (breaks x)
sound-breaks x h = record { balance = λ t. cc; order = h.order; apart = h.apart }

pub sound-ends : (number : ℕ) (x : Client) (c : Call) → Sound x
    → find (is_call number) x.calls ≡ Some c
    → (is_live x.state ≡ true → unanswered_of c.progress ≡ 0) → Sound (ends number x)
sound-ends number x c h e whole = record {
  balance = λ t.
      let was = h.balance t in
      let none = whole t in
      let sums = sum-left (is_call number) (λ d. unanswered_of d.progress) x.calls c e in
      omega arith;
  order = all-left (is_call number) CallInOrder x.calls h.order;
  apart = λ slot.
      let was = h.apart slot in
      let fewer = sum-fewer (is_call number) (λ (d : Call). cond (holds_slot slot d.progress) 1 0) x.calls in
      omega arith;
}

-- sessions that come and go
pub sound-opened : (s peer credits : ℕ) → Sound (opened_end s peer credits)
sound-opened s peer credits = record { balance = λ _. omega arith; order = tt; apart = λ slot. omega arith }

-- a live session may come to any state, and every one to a state that isn't live
pub sound-lives : (state : SessionState) (x : Client) → is_live x.state ≡ true → Sound x → Sound (comes_to state x)
sound-lives state x l h = record { balance = λ _. h.balance l; order = h.order; apart = h.apart }

pub sound-over : (state : SessionState) (x : Client) → is_live state ≡ false → Sound x → Sound (comes_to state x)
sound-over state x l h = record { balance = λ t. cc; order = h.order; apart = h.apart }

pub sound-connects : (t life : ℕ) (x : Client) → is_live x.state ≡ true → Sound x → Sound (connects t life x)
sound-connects t life x l h = record { balance = λ _. h.balance l; order = h.order; apart = h.apart }

pub sound-requests : (clock : ℕ) (h : ControlHeader) (x : Client) → Sound x → Sound (requests clock h x)
sound-requests clock h x k = by (is_request_of h.kind h.server h.to_life x.state x.way)
  where
    by : (b : Bool) → Sound (cond b (record x { sends = x.sends + 1; sent_at = clock }) x)
    by true = record { balance = k.balance; order = k.order; apart = k.apart }
    by false = k

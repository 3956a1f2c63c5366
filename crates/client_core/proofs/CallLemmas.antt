-- What follows where a reply is taken: whose turn it is, how the call stands, and that it stays in turn.
use Rattle.std.proofs.Common.{◌≡◌, ℕ, ◌+◌, ◌-◌, ◌*◌, ◌<◌, ◌≤◌, Bool, true, false, cond, eqb}
use Rattle.std.proofs.Common.{ltb, Option, Some, None, refl, arith, ltb-true}
use Rattle.std.specs.Prelude.{◌||◌, ◌&&◌, is_none, nat_le, nat_lt, IfSome}
use Rattle.std.proofs.lemmas.Bool.{and_parts, eqb-true, ltb-false}
use Rattle.std.proofs.lemmas.Bool.Decides.{nat_tests}
use Rattle.packet_header.specs.Parts.{packet_count, part_size, IsMessage}
use Rattle.packet_header.specs.Header.{MessageInRange}
use Rattle.packet_header.specs.declared.packet.Kind.{Kind}
use Rattle.packet_header.specs.declared.packet.Kind.TheVariants.{Request, Rfr, Cr, Response}
use Rattle.packet_header.specs.declared.packet.MessageHeader.{MessageHeader}
use Rattle.packet_header.proofs.PartsLemmas.{packet_count_above}
use Rattle.rpc_base.specs.declared.state.DropReason.TheVariants.{Past, Ahead, Mismatch, Queued as StillQueued}
use Rattle.rpc_laws.specs.declared.rows.ClientRow.TheVariants.{Drops, Takes}
use Rattle.rpc_laws.specs.declared.rows.EndRow.{EndRow}
use Rattle.rpc_laws.specs.declared.rows.EndRow.TheVariants.{GoesOn, EndsOk, EndsTooSmall}
use Rattle.rpc_laws.specs.Calls.{is_response, known_packets}
use Rattle.rpc_laws.specs.ClientTable.{end_row, is_cr, is_same_size}
use Rattle.message_buffer.specs.Buffer.{Buffer}
use Rattle.buffer_pool.specs.Pool.{Pool, buf_at}
use Rattle.client_core.specs.declared.call.ActiveCall.{ActiveCall}
use Rattle.client_core.specs.KeepsPool.{HasRoom, IsKept, IsTold}
use Rattle.client_core.specs.Session.{IsInTurn}
use Rattle.client_core.specs.Timeouts.{rolled_call}
use Rattle.client_core.specs.Replies.{IsPart, IsTaken, call_row, end_of, replied}
use Rattle.rpc_base.proofs.BasicLemmas.{not-false}

-- a reply whose row is Takes
takes-cases : (a b d w : Bool)
    → cond a (Drops Past) (cond b (Drops Ahead)
    (cond d (Drops Mismatch) (cond w (Drops StillQueued) Takes))) ≡ Takes → (a ≡ false)
    × (b ≡ false) × (d ≡ false) × (w ≡ false)
takes-cases true b d w e = cc
takes-cases false true d w e = cc
takes-cases false false true w e = cc
takes-cases false false false true e = cc
takes-cases false false false false e = (refl, refl, refl, refl)

turn-numbers : (n got posted : ℕ) → nat_lt n got ≡ false → (nat_lt got n || nat_le posted n) ≡ false
    → (n ≡ got) × (got < posted)
turn-numbers n got posted a b = grind (arith, nat_tests)

pub is-taken : (w : Bool) (h : MessageHeader) (n : ℕ) (c : ActiveCall) → call_row w h n c ≡ Takes → IsTaken c h n
is-taken w h n c e =
    let k = takes-cases _ _ _ w e in
    let turn = turn-numbers h.number c.got c.posted k.0 k.1 in
    record { next = turn.0; posted = turn.1; of_turn = not-false _ k.2 }

pub not-queued : (w : Bool) (h : MessageHeader) (n : ℕ) (c : ActiveCall) → call_row w h n c ≡ Takes → w ≡ false
not-queued w h n c e = (takes-cases _ _ _ w e).3

-- a part of an answer comes from the last packet of the request on
module _ (asked req_type : ℕ) (size : Option ℕ) (h : MessageHeader) (n : ℕ) where
  cr-answers : (k : Kind) → is_cr k ≡ true → is_response k ≡ true → ⊥
  cr-answers Request e g = cc
  cr-answers Rfr e g = cc
  cr-answers Cr e g = cc
  cr-answers Response e g = cc

  answer-cases : (b : Bool) → ltb (h.number + 1) asked ≡ b
      → cond b (is_cr h.kind) (is_response h.kind && eqb h.req_type req_type
      && is_same_size size h.size && eqb n (part_size h.size (h.number + 1 - asked))) ≡ true
      → is_response h.kind ≡ true → (asked ≤ h.number + 1) × (is_same_size size h.size ≡ true)
      × (n ≡ part_size h.size (h.number + 1 - asked))
  answer-cases true t e g = absurd (cr-answers h.kind e g)
  answer-cases false t e g =
      let last = and_parts (is_response h.kind && eqb h.req_type req_type
      && is_same_size size h.size) (eqb n (part_size h.size (h.number + 1 - asked))) e in
      let more = and_parts (is_response h.kind && eqb h.req_type req_type) (is_same_size size h.size) last.0 in
      (ltb-false (h.number + 1) asked t, more.1, eqb-true n _ last.1)

pub record IsAnswer (c : ActiveCall) (h : MessageHeader) (n : ℕ) : Type 0 where
  pub from_last : packet_count c.len ≤ c.got + 1
  pub same : is_same_size c.size h.size ≡ true
  pub long : n ≡ part_size h.size (c.got + 1 - packet_count c.len)

pub is-answer : (c : ActiveCall) (h : MessageHeader) (n : ℕ) → IsTaken c h n
    → is_response h.kind ≡ true → IsAnswer c h n
is-answer c h n taken response =
    let k = answer-cases (packet_count c.len) c.req_type c.size h n _ refl taken.of_turn response in
    record { from_last = rw taken.next at k.0; same = k.1; long = rw taken.next at k.2 }

-- anything else comes before
credit-cases : (asked req_type n : ℕ) (size : Option ℕ) (h : MessageHeader) (b : Bool)
    → ltb (h.number + 1) asked ≡ b → is_response h.kind ≡ false
    → cond b (is_cr h.kind) (is_response h.kind && eqb h.req_type req_type
    && is_same_size size h.size && eqb n (part_size h.size (h.number + 1 - asked))) ≡ true
    → h.number + 1 < asked
credit-cases asked req_type n size h true t none e = ltb-true (h.number + 1) asked t
credit-cases asked req_type n size h false t none e =
    let last = and_parts (is_response h.kind && eqb h.req_type req_type && is_same_size size h.size)
    (eqb n (part_size h.size (h.number + 1 - asked))) e in
    let more = and_parts (is_response h.kind && eqb h.req_type req_type) (is_same_size size h.size) last.0 in
    let first = and_parts (is_response h.kind) (eqb h.req_type req_type) more.0 in
    absurd (both first.0 none)
  where
    both : is_response h.kind ≡ true → is_response h.kind ≡ false → ⊥
    both a b = cc

pub credit-below : (c : ActiveCall) (h : MessageHeader) (n : ℕ) → IsTaken c h n
    → is_response h.kind ≡ false → c.got + 1 < packet_count c.len
credit-below c h n taken none =
    rw taken.next at (credit-cases (packet_count c.len) c.req_type n c.size h _ refl none taken.of_turn)

-- a call that ends has no unanswered packet but the one answered
ends-known : (x y : ℕ) (b : Bool) → eqb x y ≡ b → (cond b EndsOk GoesOn ≡ GoesOn → ⊥) → x ≡ y
ends-known x y true t f = eqb-true x y t
ends-known x y false t f = absurd (f refl)

last-cases : (k : Bool) (size : Option ℕ) (asked room got posted s : ℕ)
    → (k ≡ true → (asked ≤ got + 1) × (is_same_size size s ≡ true)) → got < posted
    → posted ≤ known_packets asked size
    → (end_row (is_none size) asked room (got + 1) (cond k (Some s) size) ≡ GoesOn → ⊥)
    → posted ≡ got + 1
last-cases true None asked room got posted s turn more most f = omega (arith, (turn refl).0, more, most)
last-cases true (Some t) asked room got posted s turn more most f =
    let same : t ≡ s = eqb-true t s (turn refl).1 in
    let known = ends-known (got + 1) (asked + packet_count s - 1) _ refl f in
    omega (arith, known, same, more, most)
last-cases false None asked room got posted s turn more most f = absurd (f refl)
last-cases false (Some t) asked room got posted s turn more most f =
    let known = ends-known (got + 1) (asked + packet_count t - 1) _ refl f in
    omega (arith, known, more, most)

pub ends-last : (c : ActiveCall) (h : MessageHeader) (n : ℕ) → IsInTurn c → IsTaken c h n
    → (end_of h c ≡ GoesOn → ⊥) → c.posted ≡ c.got + 1
ends-last c h n turn taken f =
    last-cases (is_response h.kind) c.size (packet_count c.len) c.room c.got c.posted h.size (λ r. let a = is-answer c h n taken r in (a.from_last, a.same)) taken.posted turn.known f

-- what is told of the answer's size fits the room where the call isn't too small
small-cases : (b : Bool) (room s : ℕ) (rest : EndRow) → ltb room s ≡ b
    → (cond b (EndsTooSmall s) rest ≡ EndsTooSmall s → ⊥) → s ≤ room
small-cases true room s rest t f = absurd (f refl)
small-cases false room s rest t f = ltb-false room s t

fits-cases : (size : Option ℕ) (asked room got s len : ℕ) → IsTold room len size
    → is_same_size size s ≡ true
    → (end_row (is_none size) asked room got (Some s) ≡ EndsTooSmall s → ⊥) → s ≤ room
fits-cases None asked room got s len told same f = small-cases (ltb room s) room s _ refl f
fits-cases (Some t) asked room got s len told same f = let is : t ≡ s = eqb-true t s same in omega (arith, told.1, is)

room-told : (room : ℕ) (size : Option ℕ) (o : Option Buffer) → HasRoom room size o → (len : ℕ) × IsTold room len size
room-told room size None has = absurd has
room-told room size (Some b) has = (b.len, has.1)

end-response : (h : MessageHeader) (c : ActiveCall) (k : Bool) → is_response h.kind ≡ k → k ≡ true
    → (end_of h c ≡ EndsTooSmall h.size → ⊥)
    → end_row (is_none c.size) (packet_count c.len) c.room (c.got + 1) (Some h.size)
    ≡ EndsTooSmall h.size → ⊥
end-response h c true e t f = λ g. f (rw e g)
end-response h c false e t f = cc

answer-fits : (pool : Pool) (c : ActiveCall) (h : MessageHeader) (n : ℕ) → IsKept pool c
    → IsAnswer c h n → is_response h.kind ≡ true → (end_of h c ≡ EndsTooSmall h.size → ⊥)
    → h.size ≤ c.room
answer-fits pool c h n kept answer response f =
    let told = room-told c.room c.size (buf_at pool c.answer) kept.room in
    fits-cases c.size (packet_count c.len) c.room (c.got + 1) h.size told.0 told.1 answer.same
    (end-response h c _ refl response f)

part-within : (size : Option ℕ) (asked got posted s n : ℕ) → asked ≤ got + 1 → got < posted
    → posted ≤ known_packets asked size → is_same_size size s ≡ true
    → n ≡ part_size s (got + 1 - asked) → 1024 * (got + 1 - asked) + n ≤ s
part-within None asked got posted s n from more most same long = omega (arith, from, more, most, long)
part-within (Some t) asked got posted s n from more most same long =
    let is : t ≡ s = eqb-true t s same in
    let few : got + 1 - asked ≤ packet_count s - 1 = omega (arith, from, more, most, is) in
    let room : 1024 * (got + 1 - asked) ≤ s = omega (arith, few) in
    omega (arith, long, room)

-- the part of an answer that is written
pub part-of : (pool : Pool) (c : ActiveCall) (h : MessageHeader) (n : ℕ) → IsKept pool c
    → IsInTurn c → IsTaken c h n → (end_of h c ≡ EndsTooSmall h.size → ⊥)
    → is_response h.kind ≡ true → IsPart c h n
part-of pool c h n kept turn taken f response =
    let answer = is-answer c h n taken response in
    let within = part-within c.size (packet_count c.len) c.got c.posted h.size n answer.from_last
    taken.posted turn.known answer.same answer.long in
    record {
      answers = rw taken.next answer.from_last;
      within = rw taken.next within;
      same = answer.same;
      fits = answer-fits pool c h n kept answer response f;
    }

-- the call stays in turn
size-small : (k : Bool) (size : Option ℕ) (s : ℕ) → (k ≡ true → s ≤ 1048576) → IfSome size IsMessage
    → IfSome (cond k (Some s) size) IsMessage
size-small true size s small told = small refl
size-small false size s small told = told

known-more : (k : Bool) (size : Option ℕ) (asked posted s : ℕ)
    → (k ≡ true → is_same_size size s ≡ true) → posted ≤ known_packets asked size
    → posted ≤ known_packets asked (cond k (Some s) size)
known-more true None asked posted s same most = omega (arith, packet_count_above s, most)
known-more true (Some t) asked posted s same most = let is : t ≡ s = eqb-true t s (same refl) in rw (← is) most
known-more false size asked posted s same most = most

pub replied-turn : (now : ℕ) (c : ActiveCall) (h : MessageHeader) (n : ℕ) → IsInTurn c
    → IsTaken c h n → (is_response h.kind ≡ true → h.size ≤ 1048576) → IsInTurn (replied now h c)
replied-turn now c h n turn taken small = record {
  len = turn.len;
  size = size-small (is_response h.kind) c.size h.size small turn.size;
  answered = omega (arith, taken.posted);
  known = known-more (is_response h.kind) c.size (packet_count c.len) c.posted h.size
      (λ r. (is-answer c h n taken r).same) turn.known;
  queued = turn.queued;
  rolls = omega arith;
}

-- the size of a part of an answer is that of a message
small-by : (h : MessageHeader) (k : Kind) → h.kind ≡ k → MessageInRange h → is_response k ≡ true → h.size ≤ 1048576
small-by h Request e range r = cc
small-by h Rfr e range r = cc
small-by h Cr e range r = cc
small-by h Response e range r = (rw e at range.size).1

pub response-small : (h : MessageHeader) → MessageInRange h → is_response h.kind ≡ true → h.size ≤ 1048576
response-small h range r = small-by h h.kind refl range r

-- the three ways in which a call may stand are apart
pub goes-not-small : (r : EndRow) (s : ℕ) → r ≡ GoesOn → r ≡ EndsTooSmall s → ⊥
goes-not-small r s e g = cc

pub ok-not-small : (r : EndRow) (s : ℕ) → r ≡ EndsOk → r ≡ EndsTooSmall s → ⊥
ok-not-small r s e g = cc

pub ok-not-goes : (r : EndRow) → r ≡ EndsOk → r ≡ GoesOn → ⊥
ok-not-goes r e g = cc

pub small-not-goes : (r : EndRow) (s : ℕ) → r ≡ EndsTooSmall s → r ≡ GoesOn → ⊥
small-not-goes r s e g = cc

-- a call stays in turn where it is rolled back
pub rolled-turn : (c : ActiveCall) → IsInTurn c → c.rolls < 8 → c.queued ≡ 0 → IsInTurn (rolled_call c)
rolled-turn c turn few idle =
    record {
      len = turn.len;
      size = turn.size;
      answered = omega arith;
      known = omega (arith, turn.answered, turn.known);
      queued = omega (arith, idle);
      rolls =
          omega (arith, few);
    }

-- Of the fronts of some facts at most one is what the packets of the ring give, whatever memory wants and
-- handlers answer.
use Rattle.std.proofs.Common.{◌≡◌, inl, inr, ℕ, Bool, true, false, not, cond, ◌&&◌, ◌||◌, List, [], ◌∷◌, ◌++◌}
use Rattle.std.proofs.Common.{Option, Some, None, refl, sym, ap, ◌∙◌, subst, append_assoc, slice_get, arith}
use Rattle.std.proofs.Common.{true≢false, ◌==◌, nat_lt}
use Rattle.std.specs.Prelude.{map}
use Rattle.std.specs.List.{find}
use Rattle.packet_header.specs.declared.packet.Kind.{Kind}
use Rattle.packet_header.specs.declared.packet.Kind.TheVariants.{Request, Rfr, Cr, Response}
use Rattle.packet_header.specs.declared.packet.MessageHeader.{MessageHeader}
use Rattle.packet_header.specs.Reading.{message_of, body_of}
use Rattle.rpc_base.specs.declared.event.Event.{Event}
use Rattle.rpc_base.specs.declared.event.Event.TheVariants.{Dropped, Flushed, Given, Posted, Ran, Took}
use Rattle.rpc_base.specs.declared.fact.Fact.{Fact}
use Rattle.rpc_base.specs.declared.owner.Owner.TheVariants.{Reply}
use Rattle.rpc_base.specs.declared.state.DropReason.TheVariants.{NotFirst, Unserved, JobsFull}
use Rattle.rpc_base.specs.declared.state.DropReason.TheVariants.{NoMemory, Mismatch, Ahead, Beyond}
use Rattle.rpc_base.specs.declared.state.DropReason.TheVariants.{Old, WrongPeer, Working}
use Rattle.rpc_laws.specs.declared.rows.ServerRow.{ServerRow}
use Rattle.rpc_laws.specs.declared.rows.ServerRow.TheVariants.{Begins, Drops, Repeats, Takes}
use Rattle.rpc_laws.specs.declared.tables.Arrival.{Arrival}
use Rattle.rpc_laws.specs.declared.tables.Lists.{Lists}
use Rattle.rpc_laws.specs.declared.tables.Queued.{Queued}
use Rattle.rpc_laws.specs.declared.tables.Server.{Server}
use Rattle.rpc_laws.specs.declared.tables.Served.{Served}
use Rattle.rpc_laws.specs.Facts.{plain, with_two}
use Rattle.rpc_laws.specs.Jobs.{are_full}
use Rattle.rpc_laws.specs.PollOrder.{handled, Handles, HandlesAll, handling_by, NoMoreToHandle}
use Rattle.rpc_laws.specs.Queues.{numbers_of}
use Rattle.rpc_laws.specs.Requests.{in_slot_of, is_server}
use Rattle.rpc_laws.specs.ServerTable.{brings, flushes, flushes_older, is_last, is_mismatch, is_past_end, is_rfr}
use Rattle.rpc_laws.specs.ServerTable.{makes_job, Newest, new_row, newest_of, own_row, repeated_row, served_facts}
use Rattle.rpc_laws.specs.ServerTable.{server_row, slot_row, took_facts, whole_ask}
use Rattle.rpc_laws.specs.Service.{is_handled}
use Rattle.rpc_outside.specs.declared.service.Mode.{Mode}
use Rattle.front_laws.proofs.OneWayLemmas.{back-same, Ends, goes-one, OneWay, until-one}
use Rattle.front_laws.proofs.PhaseLemmas.{one-front}
use Rattle.front_laws.proofs.RowOneLemmas.{some-same}

-- two rows of one packet: the same, or memory was wanting in one of them
data Differ (a b : ServerRow) : Type 0 where
  same : a ≡ b → Differ a b
  wants : a ≡ Drops NoMemory → Differ a b
  wanted : b ≡ Drops NoMemory → Differ a b

differ-by : (b : Bool) (z x y : ServerRow) → Differ x y → Differ (cond b z x) (cond b z y)
differ-by true z x y d = same refl
differ-by false z x y d = d

differ-both : (b : Bool) (w x y z : ServerRow) → Differ w x → Differ y z → Differ (cond b w y) (cond b x z)
differ-both true w x y z d e = d
differ-both false w x y z d e = e

lacks-differ : (j l : Bool) (z : ServerRow) → Differ (cond j (Drops NoMemory) z) (cond l (Drops NoMemory) z)
lacks-differ true l z = wants refl
lacks-differ false true z = wanted refl
lacks-differ false false z = same refl

new-differ : (mode : Mode) (working full j l : Bool) (h : MessageHeader)
    → Differ (new_row mode working full j h) (new_row mode working full l h)
new-differ mode working full j l h =
    differ-by (is_rfr h.kind || not (h.number == 0)) (Drops NotFirst) _ _
    (differ-by working (Drops Working) _ _ (differ-by (not (is_handled mode)) (Drops Unserved) _ _
    (differ-by (makes_job mode h && full) (Drops JobsFull) _ _ (lacks-differ j l Begins))))

own-differ : (mode : Mode) (full j l : Bool) (n : Newest) (h : MessageHeader)
    → Differ (own_row mode full j n h) (own_row mode full l n h)
own-differ mode full j l n h =
    differ-by (is_mismatch n h) (Drops Mismatch) _ _ (differ-by (nat_lt n.taken h.number) (Drops Ahead) _ _
    (differ-by (nat_lt h.number n.taken) (repeated_row n h.number) _ _
    (differ-by (is_rfr h.kind && is_past_end n.size n.answer h.number) (Drops Beyond) _ _
    (differ-by (makes_job mode h && full) (Drops JobsFull) _ _
    (lacks-differ (j && is_last h) (l && is_last h) Takes)))))

slot-differ : (mode : Mode) (full j l : Bool) (o : Option Served) (h : MessageHeader)
    → Differ (slot_row mode full j o h) (slot_row mode full l o h)
slot-differ mode full j l None h = new-differ mode false full j l h
slot-differ mode full j l (Some q) h =
    differ-by (nat_lt h.request q.number) (Drops Old) _ _ (differ-both (nat_lt q.number h.request) _ _ _ _
    (new-differ mode q.working full j l h) (own-differ mode full j l (newest_of q) h))

server-differ : (mode : Mode) (full j l : Bool) (o : Option Server) (peer : ℕ) (h : MessageHeader)
    → Differ (server_row mode full j o peer h) (server_row mode full l o peer h)
server-differ mode full j l None peer h = same refl
server-differ mode full j l (Some v) peer h =
    differ-by (not (v.way.peer == peer)) (Drops WrongPeer) _ _
    (slot-differ mode full j l (find (in_slot_of h.request) v.slots) h)

-- what is brought, with two answers
abbrev ran : ℕ → MessageHeader → List ℕ → List ℕ → Fact
ran me h ask answer = with_two me (Ran h.session h.request h.req_type) ask answer

abbrev brought : Bool → Bool → ℕ → MessageHeader → List ℕ → List ℕ → List Fact
brought job last me h ask answer =
    cond job (plain me (Given h.session h.request) ∷ [])
    (cond last (ran me h ask answer ∷ []) [] ++ plain me (Posted (Reply h.session h.request) h.number) ∷ [])

second-of : Fact → List ℕ
second-of f = f.second

answer-is : (me : ℕ) (h : MessageHeader) (ask a b : List ℕ) (x y : List Fact)
    → ran me h ask a ∷ x ≡ ran me h ask b ∷ y → a ≡ b
answer-is me h ask a b x y e =
    let facts : ran me h ask a ≡ ran me h ask b = cc in ap (λ (f : Fact). f.second) facts

brought-one : (job last : Bool) (me : ℕ) (h : MessageHeader) (ask a b : List ℕ) (r q : List Fact)
    → brought job last me h ask a ++ r ≡ brought job last me h ask b ++ q
    → brought job last me h ask a ≡ brought job last me h ask b
brought-one true last me h ask a b r q e = refl
brought-one false false me h ask a b r q e = refl
brought-one false true me h ask a b r q e =
    ap (λ (z : List ℕ). brought false true me h ask z) (answer-is me h ask a b _ _ e)

took-one : (mode : Mode) (me : ℕ) (h : MessageHeader) (ask a b : List ℕ) (r q : List Fact)
    → took_facts mode me a h ask ++ r ≡ took_facts mode me b h ask ++ q
    → took_facts mode me a h ask ≡ took_facts mode me b h ask
took-one mode me h ask a b r q e =
    let took = plain me (Took (Reply h.session h.request) h.number) in
    let rest : brings mode me a h ask ++ r ≡ brings mode me b h ask ++ q =
    back-same (took ∷ []) (took ∷ []) _ _ refl e in
    ap (λ (z : List Fact). took ∷ z) (brought-one (makes_job mode h) (is_last h) me h ask a b r q rest)

row-one : (mode : Mode) (me : ℕ) (queued : List Queued) (v : Option Server) (h : MessageHeader) (body a b : List ℕ)
    (row : ServerRow) (r q : List Fact)
    → served_facts mode me a queued v h body row ++ r ≡ served_facts mode me b queued v h body row ++ q
    → served_facts mode me a queued v h body row ≡ served_facts mode me b queued v h body row
row-one mode me queued v h body a b (Drops why) r q e = refl
row-one mode me queued v h body a b Begins r q e =
    let older = flushes_older me queued v h.request in
    let one = took_facts mode me a h body in
    let two = took_facts mode me b h body in
    let rest : one ++ r ≡ two ++ q =
    back-same older older (one ++ r) (two ++ q) refl
    (sym (append_assoc older one r) ∙ (e ∙ append_assoc older two q)) in
    ap (λ (z : List Fact). older ++ z) (took-one mode me h body a b r q rest)
row-one mode me queued v h body a b Takes r q e = took-one mode me h (whole_ask v h.request body) a b r q e
row-one mode me queued v h body a b Repeats r q e = refl

-- whether the first fact is a drop
is_drop : Event → Bool
is_drop (Dropped why) = true
is_drop _ = false

first_drops : List Fact → Bool
first_drops [] = false
first_drops (f ∷ x) = is_drop f.event

flush-drops : (me t r : ℕ) (ks : List ℕ) (x : List Fact) → first_drops x ≡ false
    → first_drops (map (λ k. plain me (Flushed (Reply t r) k)) ks ++ x) ≡ false
unfolding first_drops is_drop
flush-drops me t r [] x e = e
flush-drops me t r (k ∷ ks) x e = refl

older-drops : (me : ℕ) (queued : List Queued) (t : ℕ) (o : Option Served) (x : List Fact) → first_drops x ≡ false
    → first_drops (flushes me queued t o ++ x) ≡ false
older-drops me queued t None x e = e
older-drops me queued t (Some l) x e = flush-drops me t l.number (numbers_of (Reply t l.number) queued) x e

begin-drops : (me : ℕ) (queued : List Queued) (v : Option Server) (r : ℕ) (x : List Fact) → first_drops x ≡ false
    → first_drops (flushes_older me queued v r ++ x) ≡ false
begin-drops me queued None r x e = e
begin-drops me queued (Some v) r x e = older-drops me queued v.way.number (find (in_slot_of r) v.slots) x e

took-drops : (mode : Mode) (me : ℕ) (a : List ℕ) (h : MessageHeader) (ask : List ℕ) (x : List Fact)
    → first_drops (took_facts mode me a h ask ++ x) ≡ false
unfolding first_drops is_drop
took-drops mode me a h ask x = refl

repeat-drops : (me : ℕ) (h : MessageHeader) (f : Fact) (x : List Fact) → is_drop f.event ≡ false
    → first_drops (f ∷ x) ≡ false
unfolding first_drops
repeat-drops me h f x e = e

drop-first : (me : ℕ) (x : List Fact) → first_drops (plain me (Dropped NoMemory) ∷ x) ≡ true
unfolding first_drops is_drop
drop-first me x = refl

-- a drop in front is that drop alone
drop-one : (mode : Mode) (me : ℕ) (queued : List Queued) (v : Option Server) (h : MessageHeader) (body a : List ℕ)
    (row : ServerRow) (r q : List Fact)
    → plain me (Dropped NoMemory) ∷ r ≡ served_facts mode me a queued v h body row ++ q
    → plain me (Dropped NoMemory) ∷ [] ≡ served_facts mode me a queued v h body row
unfolding is_drop
drop-one mode me queued v h body a (Drops why) r q e =
    one-front (plain me (Dropped NoMemory)) (plain me (Dropped why)) (plain me (Dropped NoMemory) ∷ [])
    (plain me (Dropped why) ∷ []) r q refl refl e
drop-one mode me queued v h body a Begins r q e =
    let older = flushes_older me queued v h.request in
    let took = took_facts mode me a h body in
    absurd (true≢false (sym (drop-first me r) ∙ (ap first_drops (e ∙ append_assoc older took q)
    ∙ begin-drops me queued v h.request (took ++ q) (took-drops mode me a h body q))))
drop-one mode me queued v h body a Takes r q e =
    absurd (true≢false (sym (drop-first me r) ∙ (ap first_drops e ∙ took-drops mode me a h _ q)))
drop-one mode me queued v h body a Repeats r q e =
    absurd (true≢false (sym (drop-first me r) ∙ (ap first_drops e ∙ repeat-drops me h _ _ refl)))

served-one : (mode : Mode) (me : ℕ) (queued : List Queued) (v : Option Server) (h : MessageHeader) (body a b : List ℕ)
    (c d : ServerRow) (r q : List Fact) → Differ c d
    → served_facts mode me a queued v h body c ++ r ≡ served_facts mode me b queued v h body d ++ q
    → served_facts mode me a queued v h body c ≡ served_facts mode me b queued v h body d
served-one mode me queued v h body a b c d r q (same e) f =
    let g = subst (λ (k : ServerRow). served_facts mode me a queued v h body c ++ r
    ≡ served_facts mode me b queued v h body k ++ q) (sym e) f in
    row-one mode me queued v h body a b c r q g ∙ ap (λ (k : ServerRow). served_facts mode me b queued v h body k) e
served-one mode me queued v h body a b c d r q (wants e) f =
    let is = ap (λ (k : ServerRow). served_facts mode me a queued v h body k) e in
    is ∙ drop-one mode me queued v h body b d r q (ap (λ (z : List Fact). z ++ r) (sym is) ∙ f)
served-one mode me queued v h body a b c d r q (wanted e) f =
    let is = ap (λ (k : ServerRow). served_facts mode me b queued v h body k) e in
    sym (is ∙ drop-one mode me queued v h body a c q r (ap (λ (z : List Fact). z ++ q) (sym is) ∙ sym f))

handling-one : (mode : ℕ → Mode) (kind : Kind) (j l : Bool) (a b : List ℕ) (s : Lists) (peer : ℕ) (h : MessageHeader)
    (body : List ℕ) (r q : List Fact)
    → handling_by mode j a kind s peer h body ++ r ≡ handling_by mode l b kind s peer h body ++ q
    → handling_by mode j a kind s peer h body ≡ handling_by mode l b kind s peer h body
handling-one mode Request j l a b s peer h body r q e =
    let v = find (is_server h.session) s.servers in
    served-one (mode h.req_type) s.me s.queued v h body a b _ _ r q
    (server-differ (mode h.req_type) (are_full s.jobs) j l v peer h) e
handling-one mode Rfr j l a b s peer h body r q e =
    let v = find (is_server h.session) s.servers in
    served-one (mode h.req_type) s.me s.queued v h body a b _ _ r q
    (server-differ (mode h.req_type) (are_full s.jobs) j l v peer h) e
handling-one mode Cr j l a b s peer h body r q e = refl
handling-one mode Response j l a b s peer h body r q e = refl

-- a packet for another life is dropped
handled-by : (b : Bool) (w x y r q : List Fact) → (x ++ r ≡ y ++ q → x ≡ y)
    → cond b x w ++ r ≡ cond b y w ++ q → cond b x w ≡ cond b y w
handled-by true w x y r q p e = p e
handled-by false w x y r q p e = refl

record HandlesAs (mode : ℕ → Mode) (s : Lists) (front : Arrival) (header : MessageHeader) (x : List Fact) : Type 0 where
  lacks : Bool
  answer : List ℕ
  facts : x ≡ handled mode lacks answer s front.peer header (body_of front.bytes)

as-one : (mode : ℕ → Mode) (s : Lists) (front : Arrival) (header : MessageHeader) (x y r q : List Fact)
    → HandlesAs mode s front header x → HandlesAs mode s front header y → x ++ r ≡ y ++ q → x ≡ y
as-one mode s front header x y r q a b e =
    let both = ap (λ (z : List Fact). z ++ r) (sym a.facts) ∙ (e ∙ ap (λ (z : List Fact). z ++ q) b.facts) in
    a.facts ∙ (handled-by (header.to_life == s.life) _ _ _ r q
    (handling-one mode header.kind a.lacks b.lacks a.answer b.answer s front.peer header
    (body_of front.bytes) r q) both ∙ sym b.facts)

pub handles-one : (mode : ℕ → Mode) → OneWay (Handles mode)
handles-one mode s x y r q t u h k e =
    let front : k.front ≡ h.front = some-same (slice_get s.lists.ring 0) k.front h.front k.is_front h.is_front in
    let reads : message_of h.front.bytes ≡ Some k.header =
    subst (λ (a : Arrival). message_of a.bytes ≡ Some k.header) front k.reads in
    let header : k.header ≡ h.header = some-same (message_of h.front.bytes) k.header h.header reads h.reads in
    let one : HandlesAs mode s.lists h.front h.header x =
    record { lacks = h.lacks; answer = h.answer; facts = h.facts } in
    let other : HandlesAs mode s.lists k.front k.header y =
    record { lacks = k.lacks; answer = k.answer; facts = k.facts } in
    let moved : HandlesAs mode s.lists h.front k.header y =
    subst (λ (a : Arrival). HandlesAs mode s.lists a k.header y) front other in
    let two : HandlesAs mode s.lists h.front h.header y =
    subst (λ (c : MessageHeader). HandlesAs mode s.lists h.front c y) header moved in
    goes-one s x y t u h.goes k.goes (as-one mode s.lists h.front h.header x y r q one two e)

ring-front : (ring : List Arrival) (a : Arrival) → slice_get ring 0 ≡ Some a → ring ≡ [] → ⊥
ring-front [] a h e = cc
ring-front (b ∷ ring) a h e = cc

pub handles-end : (mode : ℕ → Mode) → Ends (Handles mode) NoMoreToHandle
handles-end mode s x t (inl over) h = ring-front s.lists.ring h.front h.is_front over
handles-end mode s x t (inr over) h = let room = h.room in omega arith

pub handles-all-one : (mode : ℕ → Mode) → OneWay (HandlesAll mode)
handles-all-one mode = until-one (Handles mode) NoMoreToHandle (handles-one mode) (handles-end mode)

-- A packet that is taken is the step of the definitions over histories.
use Rattle.server_core.specs.declared.slot.SlotState.TheVariants.{Taking, Working, Answered}
use Rattle.server_core.specs.declared.slot.SlotState.{SlotState}
use Rattle.std.proofs.Common.{◌≡◌, ◌≢◌, ℕ, ◌+◌, ◌%◌, ◌<◌, ◌≤◌, true, false, eqb, Option, Some}
use Rattle.std.proofs.Common.{None, List, [], ◌∷◌, ◌++◌, length, take, refl, sym, ap, ◌∙◌, inl, inr}
use Rattle.std.proofs.Common.{arith}
use Rattle.std.specs.Prelude.{IfSome, option_map}
use Rattle.std.specs.List.{find}
use Rattle.std.proofs.lemmas.Bool.{cases_lt, eq-eqb, eqb-true, leb-false}
use Rattle.std.proofs.lemmas.List.{append-nil, length-take-le, take_all}
use Rattle.message_buffer.specs.Buffer.{Buffer, bytes_of}
use Rattle.buffer_pool.specs.Pool.{Pool, buf_at}
use Rattle.packet_header.specs.Parts.{packet_count, part_size}
use Rattle.packet_header.specs.declared.packet.MessageHeader.{MessageHeader}
use Rattle.packet_header.proofs.PartsLemmas.{front-whole}
use Rattle.rpc_base.specs.Tables.{without_first}
use Rattle.rpc_laws.specs.Service.{is_mode_background}
use Rattle.rpc_laws.specs.declared.tables.Server.{Server}
use Rattle.rpc_outside.specs.declared.service.Mode.{Mode}
use Rattle.rpc_outside.specs.declared.service.Mode.TheVariants.{Inline, Background, Unserved}
use Rattle.rpc_laws.specs.Requests.{answered, first_packet, given, in_slot_of, is_request, next_packet}
use Rattle.server_core.specs.declared.slot.SlotRequest.{SlotRequest}
use Rattle.server_core.specs.declared.slot.Stored.{Stored}
use Rattle.server_core.specs.KeepsPool.{IsAsked, IsKept}
use Rattle.rpc_laws.specs.ServerTable.{is_last, is_past_end, is_rfr, makes_job}
use Rattle.server_core.specs.Rows.{as_newest}
use Rattle.server_core.specs.Serving.{IsFirstPart, next_taken}
use Rattle.server_core.specs.Session.{HasCome, IsInTurn, IsSession, Session, answer_of, ask_of}
use Rattle.server_core.specs.Session.{is_at_work, is_in_slot, newest}
use Rattle.server_core.specs.Shown.{ask_in, shown, shown_request}
use Rattle.server_core.specs.Steps.{asked_with, begun_with, bytes_with, first_shown, gave}
use Rattle.server_core.specs.Steps.{gone_on_as, grown, ran, took}
use Rattle.server_core.proofs.ChangedLemmas.{any-without, at_first-agree, at_first-last, at_first-twice}
use Rattle.server_core.proofs.ListLemmas.{found-shown}
use Rattle.server_core.proofs.SlotLemmas.{by-number}
use Rattle.rpc_base.proofs.TakingLemmas.{find-passes}
use Rattle.rpc_base.proofs.FirstLemmas.{found-own, found-any}
use Rattle.rpc_base.proofs.FindLemmas.{missing-none}
use Rattle.message_buffer.proofs.MessageLemmas.{message-length}
use Rattle.message_buffer.specs.Messages.{message_in}

-- no request has a number greater than the newest of its slot
none-cases : (s : Session) (r : ℕ) (o : Option SlotRequest) → IsSession s
    → IfSome (newest r s) (λ q. q.number < r) → find (λ x. eqb x.number r) s.slots ≡ o → o ≡ None
none-cases s r None h newer e = refl
none-cases s r (Some q) h newer e =
    let same = eqb-true q.number r (find-passes (λ x. eqb x.number r) s.slots q e) in
    let slot = found-own (λ x. eqb x.number r)
    (is_in_slot (r % 8)) s.slots q (h.apart (r % 8)) e
    (eq-eqb (q.number % 8) (r % 8) (ap (λ n. n % 8) same)) in
    let less : q.number < r = rw slot at newer in
    absurd (omega (arith, less, same))

pub none-shown : (pool : Pool) (s : Session) (r : ℕ) → IsSession s
    → IfSome (newest r s) (λ q. q.number < r) → find (is_request r) (shown pool s).slots ≡ None
none-shown pool s r h newer =
    found-shown (shown_request pool) (is_request r) (λ x. eqb x.number r) (λ x. refl) s.slots
    ∙ ap (option_map (shown_request pool)) (none-cases s r _ h newer refl)

-- a request that begins
pub took-begun : (v : Server) (h : MessageHeader) (body : List ℕ)
    → find (is_request h.request) v.slots ≡ None
    → took h body v ≡ begun_with (first_packet h.request h body) v ∷ []
took-begun v h body none =
    rw (eq-eqb v.way.number v.way.number refl, missing-none (is_request h.request) v.slots none) refl

pub ran-begun : (v : Server) (h : MessageHeader) (body answer : List ℕ)
    → find (is_request h.request) v.slots ≡ None
    → ran h body answer v ≡ begun_with (answered answer (first_packet h.request h body)) v ∷ []
ran-begun v h body answer none =
    let rest = any-without (is_request h.request)
    (in_slot_of h.request) v.slots (missing-none (is_request h.request) v.slots none) in
    let last = at_first-last (is_request h.request) (answered answer)
    (first_packet h.request h body) (without_first (in_slot_of h.request) v.slots) rest
    (eq-eqb h.request h.request refl) in
    rw (took-begun v h body none, eq-eqb v.way.number v.way.number refl, last) refl

pub gave-begun : (v : Server) (h : MessageHeader) (body : List ℕ)
    → find (is_request h.request) v.slots ≡ None
    → gave h body v ≡ begun_with (given (first_shown h [] None)) v ∷ []
gave-begun v h body none =
    let rest = any-without (is_request h.request)
    (in_slot_of h.request) v.slots (missing-none (is_request h.request) v.slots none) in
    let last = at_first-last (is_request h.request) given (first_packet h.request h body)
    (without_first (in_slot_of h.request) v.slots) rest (eq-eqb h.request h.request refl) in
    rw (took-begun v h body none, eq-eqb v.way.number v.way.number refl, last) refl

pub asked-begun : (v : Server) (h : MessageHeader) (body : List ℕ)
    → find (is_request h.request) v.slots ≡ None → asked_with h body v ≡ body
asked-begun v h body none = rw none refl

-- its bytes
pub first-bytes : (size : ℕ) (body : List ℕ) (b : Buffer) → IsFirstPart size body b
    → length body ≡ part_size size 0 → take 1024 (bytes_of b) ≡ body
first-bytes size body b first long = elim (cases_lt 1024 size) [
  | inl more ↦ (let full : length body ≡ 1024 = omega (arith, long, more) in ap (λ n. take n (bytes_of b)) (sym full) ∙ first.bytes)
  | inr last ↦ (
      let whole : length body ≡ size = omega (arith, long, last) in
      let len : length (bytes_of b) ≡ size =
      length-take-le b.len b.store (omega (arith, first.len, first.room)) ∙ first.len in
      take_all 1024 (bytes_of b) (omega (arith, len, last))
      ∙ sym (take_all (length body) (bytes_of b) (omega (arith, len, whole))) ∙ first.bytes)
]

pub whole-first : (size : ℕ) (body : List ℕ) (b : Buffer) → IsFirstPart size body b
    → length body ≡ part_size size 0 → packet_count size ≡ 1 → bytes_of b ≡ body
whole-first size body b first long one =
    let len : length (bytes_of b) ≡ size =
    length-take-le b.len b.store (omega (arith, first.len, first.room)) ∙ first.len in
    let whole : length body ≡ size = omega (arith, long, one) in
    sym (take_all (length body) (bytes_of b) (omega (arith, len, whole))) ∙ first.bytes

pub first-took : (h : MessageHeader) (body : List ℕ) (b : Buffer) → IsFirstPart h.size body b
    → length body ≡ part_size h.size 0
    → first_packet h.request h body ≡ first_shown h (bytes_of b) None
first-took h body b first long = rw (first-bytes h.size body b first long) refl

-- a request that begins with its only packet, once its handler ran: as one that went to a worker
-- before
pub answered-begun : (v : Server) (h : MessageHeader) (answer : List ℕ)
    → find (is_request h.request) v.slots ≡ None
    → begun_with (answered answer (first_shown h [] None)) v
    ≡ gone_on_as h.request (answered answer) (begun_with (given (first_shown h [] None)) v)
answered-begun v h answer none =
    let rest = any-without (is_request h.request)
    (in_slot_of h.request) v.slots (missing-none (is_request h.request) v.slots none) in
    let last = at_first-last (is_request h.request) (answered answer)
    (given (first_shown h [] None)) (without_first (in_slot_of h.request) v.slots) rest
    (eq-eqb h.request h.request refl) in
    rw last refl

pub ran-whole : (v : Server) (h : MessageHeader) (body answer : List ℕ)
    → find (is_request h.request) v.slots ≡ None
    → ran h body answer v ≡ gone_on_as h.request (answered answer)
    (begun_with (given (first_shown h [] None)) v) ∷ []
ran-whole v h body answer none =
    ran-begun v h body answer none ∙ ap (λ w. w ∷ []) (answered-begun v h answer none)

-- a request that goes on
module _ (pool : Pool) (s : Session) (q : SlotRequest) (head : MessageHeader) (sound : IsSession s)
    (found : newest head.request s ≡ Some q) (same : q.number ≡ head.request) where
  own-shown : find (is_request head.request) (shown pool s).slots ≡ Some (shown_request pool q)
  own-shown =
      found-shown (shown_request pool) (is_request head.request) (λ x. eqb x.number head.request)
      (λ x. refl) s.slots ∙ ap (option_map (shown_request pool))
      (by-number s head.request q sound found same)

  took-next : (body : List ℕ)
      → took head body (shown pool s) ≡ gone_on_as head.request (next_packet body) (shown pool s)
      ∷ []
  took-next body =
      rw (
        eq-eqb s.number s.number refl,
        found-any (is_request head.request) (shown pool s).slots
            (shown_request pool q) own-shown,
      ) refl

  module _ (body bytes : List ℕ) (joined : (shown_request pool q).ask ++ body ≡ bytes) where
    agree : next_packet body (shown_request pool q) ≡ grown bytes (shown_request pool q)
    agree = rw joined refl

    pub took-gone : took head body (shown pool s) ≡ gone_on_as q.number (grown bytes) (shown pool s) ∷ []
    took-gone =
        let slots = at_first-agree (is_request head.request) (next_packet body) (grown bytes)
        (shown_request pool q) (shown pool s).slots agree own-shown in
        rw (took-next body, slots, same) refl

    -- its handler runs once it is taken as a worker's would be
    pub ran-gone : (answer : List ℕ)
        → ran head body answer (shown pool s)
        ≡ gone_on_as head.request (answered answer)
        (gone_on_as q.number (λ x. given (grown [] x)) (shown pool s)) ∷ []
    ran-gone answer =
        let twice = at_first-twice (is_request head.request) (next_packet body) (answered answer)
        (shown pool s).slots (λ x. refl) in
        let again = at_first-twice (is_request head.request) (λ x. given (grown [] x))
        (answered answer) (shown pool s).slots (λ x. refl) in
        rw (took-next body, eq-eqb s.number s.number refl, twice, same, again) refl

    pub gave-gone : gave head body (shown pool s) ≡ gone_on_as q.number (λ x. given (grown [] x)) (shown pool s) ∷ []
    gave-gone =
        let twice = at_first-twice (is_request head.request)
        (next_packet body) given (shown pool s).slots (λ x. refl) in
        rw (took-next body, eq-eqb s.number s.number refl, twice, same) refl

    pub asked-gone : asked_with head body (shown pool s) ≡ bytes
    asked-gone = rw own-shown joined

-- no bytes come with an RFR
no-bytes : (body : List ℕ) → length body ≡ 0 → body ≡ []
no-bytes [] e = refl
no-bytes (x ∷ xs) e = absurd (omega (arith, e))

more-cases : (pool : Pool) (size taken : ℕ) (o : Option ℕ) → IfSome o (IsAsked pool size)
    → packet_count size ≤ taken → ask_in pool taken o ≡ ask_in pool (taken + 1) o
more-cases pool size taken None kept behind = refl
more-cases pool size taken (Some p) kept behind =
    let long = message-length (buf_at pool p) size kept.size_is in
    let before = front-whole (message_in (buf_at pool p)) taken (omega (arith, ap packet_count long, behind)) in
    let after = front-whole (message_in (buf_at pool p)) (taken + 1) (omega (arith, ap packet_count long, behind)) in
    before ∙ sym after

pub more-bytes : (pool : Pool) (q : SlotRequest) (body : List ℕ) → IsKept pool q
    → packet_count q.size ≤ q.taken → length body ≡ 0
    → (shown_request pool q).ask ++ body ≡ bytes_with pool q
more-bytes pool q body kept behind none =
    rw (no-bytes body none) (append-nil (ask_in pool q.taken (ask_of q.state))
    ∙ more-cases pool q.size q.taken (ask_of q.state) kept.ask behind)

-- the bytes of a whole request
pub whole-bytes : (pool : Pool) (q : SlotRequest) (p : ℕ) (b : Buffer) → IsKept pool q
    → ask_of q.state ≡ Some p → buf_at pool p ≡ Some b → packet_count q.size ≤ q.taken + 1
    → bytes_of b ≡ bytes_with pool q
whole-bytes pool q p b kept is there behind =
    let asked : IsAsked pool q.size p = rw is at kept.ask in
    let long : length (bytes_of b) ≡ q.size =
    ap (λ o. length (message_in o)) (sym there)
    ∙ message-length (buf_at pool p) q.size asked.size_is in
    rw (is, there) (sym (front-whole (bytes_of b) (q.taken + 1) (omega (arith, ap packet_count long, behind))))

-- the counts of a request with one packet more
past-cases : (size taken : ℕ) (at : SlotState)
    → HasCome size taken at → is_past_end size (option_map (λ (a : Stored). a.size) (answer_of at))
    taken ≡ false → (is_at_work at ≡ false) × HasCome size (taken + 1) at
past-cases size taken (Taking p) come there = cc
past-cases size taken Working come there = cc
past-cases size taken (Answered a) come there = (
  refl,
  record {
    answer = come.answer;
    whole = omega (arith, come.whole);
    known = omega (arith, leb-false (packet_count size + packet_count a.size) (taken + 1) there);
  },
)

pub past-idle : (q : SlotRequest) → IsInTurn q
    → is_past_end q.size (as_newest q).answer q.taken ≡ false → is_at_work q.state ≡ false
past-idle q turn there = (past-cases q.size q.taken q.state turn.come there).0

pub more-turn : (q : SlotRequest) → IsInTurn q → q.queued + 1 < 4294967295
    → is_past_end q.size (as_newest q).answer q.taken ≡ false → IsInTurn (next_taken q)
more-turn q turn room there = record {
  size = turn.size;
  some = omega arith;
  come = (past-cases q.size q.taken q.state turn.come there).1;
  few = λ none. room;
}

-- a request that takes its own packets
taking-cases : (size taken : ℕ) (at : SlotState) → HasCome size taken at → taken < packet_count size
    → (p : ℕ) × (at ≡ Taking p)
taking-cases size taken (Taking p) come early = (p, refl)
taking-cases size taken Working come early = absurd (omega (arith, come, early))
taking-cases size taken (Answered a) come early = absurd (omega (arith, come.whole, early))

pub is-taking : (q : SlotRequest) → IsInTurn q → q.taken < packet_count q.size → (p : ℕ) × (q.state ≡ Taking p)
is-taking q turn early = taking-cases q.size q.taken q.state turn.come early

pub taking-by : (at : SlotState) (p : ℕ) → Some p ≡ ask_of at → at ≡ Taking p
taking-by (Taking x) p e = cc
taking-by Working p e = cc
taking-by (Answered a) p e = cc

pub at-work : (at : SlotState) → is_at_work at ≡ true → at ≡ Working
at-work (Taking x) e = cc
at-work Working e = refl
at-work (Answered a) e = cc

pub part-turn : (q : SlotRequest) → IsInTurn q → q.queued + 1 < 4294967295
    → q.taken + 1 < packet_count q.size → IsInTurn (next_taken q)
part-turn q turn room early =
    let (p, taking) = is-taking q turn (omega (arith, early)) in
    record { size = turn.size; some = omega arith; come = rw taking early; few = λ none. room }

-- a request of which one packet more can be taken is at no worker
idle-cases : (size taken : ℕ) (at : SlotState)
    → HasCome size taken at → HasCome size (taken + 1) at → is_at_work at ≡ false
idle-cases size taken (Taking p) come next = refl
idle-cases size taken Working come next = absurd (omega (arith, come, next))
idle-cases size taken (Answered a) come next = refl

pub next-idle : (q : SlotRequest) → IsInTurn q → IsInTurn (next_taken q) → is_at_work q.state ≡ false
next-idle q turn next = idle-cases q.size q.taken q.state turn.come next.come

-- a type that is served, and not by a worker
pub is-inline : (mode : Mode) → mode ≢ Unserved → is_mode_background mode ≡ false → mode ≡ Inline
is-inline Inline served other = refl
is-inline Background served other = cc
is-inline Unserved served other = absurd (served refl)

-- the last packet of a request whose handler runs inline
pub last-inline : (mode : Mode) (h : MessageHeader) → is_rfr h.kind ≡ false
    → h.number + 1 ≡ packet_count h.size → is_mode_background mode ≡ false → (is_last h ≡ true)
    × (makes_job mode h ≡ false)
last-inline mode h part last other =
    let is : is_last h ≡ true = rw (part, eq-eqb (h.number + 1) (packet_count h.size) last) refl in
    (is, rw (is, other) refl)

-- and what one is that a worker handles, or that more packets are to come after
pub last-whole : (h : MessageHeader) → is_rfr h.kind ≡ false → h.number + 1 ≡ packet_count h.size
    → is_last h ≡ true
last-whole h part last = rw (part, eq-eqb (h.number + 1) (packet_count h.size) last) refl

pub last-job : (mode : Mode) (h : MessageHeader) → is_rfr h.kind ≡ false
    → h.number + 1 ≡ packet_count h.size → is_mode_background mode ≡ true → makes_job mode h ≡ true
last-job mode h part last given = rw (last-whole h part last, given) refl

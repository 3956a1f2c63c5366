-- How many packets of a request were taken, and that a reply is queued only to one of these.
use Rattle.std.proofs.Common.{◌≡◌, ℕ, ◌+◌, ◌≤◌, ◌<◌, Bool, true, false, not, ◌&&◌, cond, Option, Some}
use Rattle.std.proofs.Common.{None, List, [], ◌∷◌, ◌++◌, length, refl, sym, ap, ◌∙◌, subst, inl, inr}
use Rattle.std.proofs.Common.{◌⊎◌, arith, leb-false}
use Rattle.std.specs.Prelude.{◌==◌, is_none, option_map}
use Rattle.std.specs.List.{AllByRecursion, find, list_any}
use Rattle.std.proofs.lemmas.Bool.{and_parts, eqb-true}
use Rattle.packet_header.specs.Parts.{packet_count}
use Rattle.packet_header.specs.declared.packet.Kind.{Kind}
use Rattle.packet_header.specs.declared.packet.Kind.TheVariants.{Request, Rfr, Cr, Response}
use Rattle.packet_header.specs.declared.packet.MessageHeader.{MessageHeader}
use Rattle.packet_header.proofs.PartsLemmas.{packet_count_above}
use Rattle.packet_header.proofs.Readings.{message_of-spells}
use Rattle.packet_header.proofs.Rows.{request-number}
use Rattle.rpc_base.specs.Tables.{at_first, without_first}
use Rattle.rpc_base.specs.declared.event.Event.{Event}
use Rattle.rpc_base.specs.declared.event.Event.TheVariants.{PairedServer, Accepted, Ended, Posted}
use Rattle.rpc_base.specs.declared.event.Event.TheVariants.{Sent, Flushed, Polled, Took, Given, Ran}
use Rattle.rpc_base.specs.declared.owner.Owner.TheVariants.{Ask, Reply, Control}
use Rattle.rpc_base.proofs.FindLemmas.{skip-found}
use Rattle.rpc_base.proofs.FirstLemmas.{all-first, all-left, all-push, found-any, found-holds}
use Rattle.rpc_base.proofs.FirstLemmas.{some-counted}
use Rattle.rpc_base.proofs.TakingLemmas.{find-passes}
use Rattle.rpc_laws.specs.declared.tables.Lists.{Lists}
use Rattle.rpc_laws.specs.declared.tables.Queued.{Queued}
use Rattle.rpc_laws.specs.declared.tables.Served.{Served}
use Rattle.rpc_laws.specs.declared.tables.Server.{Server}
use Rattle.rpc_laws.specs.Front.{front_header, front_body}
use Rattle.rpc_laws.specs.Jobs.{is_job}
use Rattle.rpc_laws.specs.Queues.{is_queued, queued_after}
use Rattle.rpc_laws.specs.Requests.{is_server, is_request, in_slot_of, request_of, server_end}
use Rattle.rpc_laws.specs.Requests.{first_packet, next_packet, took_packet, given, answered}
use Rattle.rpc_laws.specs.Requests.{servers_after}
use Rattle.rpc_laws.specs.ServerTable.{is_past_end}
use Rattle.node_laws.specs.Valid.{SoundServer, Valid}
use Rattle.node_laws.proofs.Allowed.{AllowedBy, GoesBy, Grows, MayFinish, MayGive, MayTakeAsk}
use Rattle.node_laws.proofs.Allowed.{MayReply, NoneQueued}
use Rattle.node_laws.proofs.LookLemmas.{request_on, look-made, look-next, look-other}
use Rattle.node_laws.proofs.LookLemmas.{look-others, look-own, off-number, Replaces, taken}
use Rattle.node_laws.proofs.PutLemmas.{put-sum, ready-sum}
use Rattle.node_laws.proofs.QueueLemmas.{no-more-out, no-times, queued_times}
use Rattle.node_laws.proofs.FlushLemmas.{no-more-same}
use Rattle.node_laws.proofs.StandLemmas.{over-unqueued, Standing}
use Rattle.node_laws.proofs.WorkLemmas.{has-worker}

-- how many packets were taken: none above those of the request, and of the answer once it is known
abbrev pub TakenRight : (taken size : ℕ) → Option (List ℕ) → Type 0
TakenRight taken size None = taken ≤ packet_count size
TakenRight taken size (Some a) = (packet_count size ≤ taken)
    × (taken + 1 ≤ packet_count size + packet_count (length a))

-- one packet more
pub next-taken : (answer : Option (List ℕ)) (k : Kind) (q : Served) (h : MessageHeader)
    → q.answer ≡ answer → h.number ≡ q.taken → (k ≡ Request → h.number < packet_count h.size)
    → GoesBy k q h → TakenRight q.taken q.size answer → TakenRight (q.taken + 1) q.size answer
next-taken None Request q h e n low g t =
    let lt = low refl in
    let size : packet_count h.size ≡ packet_count q.size = ap packet_count g in
    omega arith
next-taken None Rfr q h e n low g t =
    let past : is_past_end q.size None h.number ≡ false =
    subst (λ (a : Option (List ℕ)). is_past_end q.size (option_map length a) h.number ≡ false) e g in
    cc
next-taken None Cr q h e n low g t = absurd g
next-taken None Response q h e n low g t = absurd g
next-taken (Some a) Request q h e n low g t =
    let lt = low refl in
    let le = t.0 in
    let size : packet_count h.size ≡ packet_count q.size = ap packet_count g in
    absurd (omega arith)
next-taken (Some a) Rfr q h e n low g t =
    let past : is_past_end q.size (Some (length a)) h.number ≡ false =
    subst (λ (o : Option (List ℕ)). is_past_end q.size (option_map length o) h.number
    ≡ false) e g in
    let lt : h.number + 1 < packet_count q.size + packet_count (length a) = leb-false _ _ past in
    let le = t.0 in
    (omega arith, omega arith)
next-taken (Some a) Cr q h e n low g t = absurd g
next-taken (Some a) Response q h e n low g t = absurd g

-- a request in a slot: so many were taken, and a worker has it only until it is answered
pub record RequestRight (q : Served) : Type 0 where
  pub taken : TakenRight q.taken q.size q.answer
  pub working : q.working ≡ true → q.answer ≡ None

abbrev pub RequestsRight : List Server → Type 0
RequestsRight servers = AllByRecursion (λ v. AllByRecursion RequestRight v.slots) servers

next-right : (s : Lists) (body : List ℕ) (q : Served) (h : MessageHeader)
    → front_header s.ring ≡ Some h → Grows q h → RequestRight q → RequestRight (next_packet body q)
next-right s body q h e g r = record {
  taken = next-taken q.answer h.kind q h refl g.turn
      (λ k. request-number h (message_of-spells h _ e).in_range k) g.goes r.taken;
  working = r.working;
}

first-right : (r : ℕ) (h : MessageHeader) (body : List ℕ) → RequestRight (first_packet r h body)
first-right r h body =
    let above = packet_count_above h.size in
    record { taken = omega arith; working = λ e. cc }

took-right : (s : Lists) (r : ℕ) (h : MessageHeader) (body : List ℕ) (slots : List Served)
    → front_header s.ring ≡ Some h
    → ((q : Served) → find (is_request r) slots ≡ Some q → Grows q h)
    → AllByRecursion RequestRight slots
    → AllByRecursion RequestRight (took_packet r (Some h) body slots)
took-right s r h body slots e grows all = by (list_any (is_request r) slots)
  where
    by : (b : Bool) → AllByRecursion RequestRight
        (cond b (at_first (is_request r) (next_packet body) slots)
        (without_first (in_slot_of r) slots ++ first_packet r h body ∷ []))
    by true =
        all-first (is_request r) (next_packet body) RequestRight slots
        (λ q f right. next-right s body q h e (grows q f) right) all
    by false =
        all-push RequestRight (without_first (in_slot_of r) slots) (first_packet r h body)
        (all-left (in_slot_of r) RequestRight slots all) (first-right r h body)

answered-right : (bytes : List ℕ) (q : Served) → q.answer ≡ None → packet_count q.size ≤ q.taken
    → RequestRight q → RequestRight (answered bytes q)
answered-right bytes q none whole r =
    let low : q.taken ≤ packet_count q.size = subst (TakenRight q.taken q.size) none r.taken in
    let above = packet_count_above (length bytes) in
    record { taken = (whole, omega arith); working = λ e. cc }

due-none : (o : Option (List ℕ)) (b : Bool) → (is_none o && not b) ≡ true → o ≡ None
due-none None b e = refl
due-none (Some a) b e = cc

module _ (s : Lists) (valid : Valid s) where
  -- the request that is given or run
  same-server : (n : ℕ) (v w : Server) → find (is_server n) s.servers ≡ Some v
      → find (is_server n) s.servers ≡ Some w → v ≡ w
  same-server n v w e f = cc

  same-request : (k : ℕ) (slots : List Served) (p q : Served) → find (is_request k) slots ≡ Some p
      → find (is_request k) slots ≡ Some q → p ≡ q
  same-request k slots p q e f = cc

  own-due : (n k : ℕ) (a : MayGive s n k) (v : Server) (q : Served)
      → find (is_server n) s.servers ≡ Some v → find (is_request k) v.slots ≡ Some q
      → (q.answer ≡ None) × (packet_count q.size ≤ q.taken)
  own-due n k a v q e f =
      let one = same-server n a.server v a.found e in
      let there : find (is_request k) v.slots ≡ Some a.served =
      subst (λ (w : Server). find (is_request k) w.slots ≡ Some a.served) one a.is_served in
      let same = same-request k v.slots a.served q there f in
      subst (λ (p : Served). (p.answer ≡ None) × (packet_count p.size ≤ p.taken)) same
      (due-none a.served.answer a.served.working a.due, a.whole)

  own-job : (n k : ℕ) → MayFinish s n k → (v : Server) (q : Served)
      → find (is_server n) s.servers ≡ Some v → find (is_request k) v.slots ≡ Some q
      → RequestRight q → (q.answer ≡ None) × (packet_count q.size ≤ q.taken)
  own-job n k a v q e f right =
      let some = some-counted (is_job n k) (is_job n k) s.jobs.out a.job a.found
      (find-passes (is_job n k) s.jobs.out a.job a.found) in
      let works = has-worker n k s valid v q e f some in
      let sound = found-holds (is_server n) SoundServer s.servers v valid.served e in
      let whole = found-holds (is_request k) _ v.slots q sound.whole f in
      (right.working works, whole (at-work (is_none q.answer) q.working works))
    where
      at-work : (b w : Bool) → w ≡ true → (b && not w) ≡ false
      at-work true true e = refl
      at-work true false e = cc
      at-work false w e = refl

  own-run : (n k : ℕ) → MayGive s n k ⊎ MayFinish s n k → (v : Server) (q : Served)
      → find (is_server n) s.servers ≡ Some v → find (is_request k) v.slots ≡ Some q
      → RequestRight q → (q.answer ≡ None) × (packet_count q.size ≤ q.taken)
  own-run n k (inl a) v q e f right = own-due n k a v q e f
  own-run n k (inr a) v q e f right = own-job n k a v q e f right

  taken-slots : (n k : ℕ) (a : MayTakeAsk s n k) (v : Server)
      → find (is_server n) s.servers ≡ Some v → AllByRecursion RequestRight v.slots
      → AllByRecursion RequestRight (took_packet k (front_header s.ring) (front_body s.ring) v.slots)
  taken-slots n k a v e all =
      let one = same-server n a.serve.server v a.serve.found e in
      let grows = subst (λ (w : Server). (q : Served) → find (is_request k) w.slots ≡ Some q
      → Grows q a.serve.header) one a.grows in
      rw a.serve.front (took-right s k a.serve.header (front_body s.ring) v.slots a.serve.front grows all)

  pub taken-after : (e : Event) (first second : List ℕ) → RequestsRight s.servers
      → AllowedBy s e first second
      → RequestsRight (servers_after e second (front_header s.ring) (front_body s.ring) s.servers)
  taken-after (PairedServer n peer c credits life) first second all a =
      all-push (λ v. AllByRecursion RequestRight v.slots) s.servers (server_end n peer c credits life) all tt
  taken-after (Accepted n peer c credits life) first second all a =
      all-push (λ v. AllByRecursion RequestRight v.slots) s.servers (server_end n peer c credits life) all tt
  taken-after (Ended n) first second all a =
      all-left (is_server n) (λ v. AllByRecursion RequestRight v.slots) s.servers all
  taken-after (Took (Reply n k) i) first second all a =
      all-first (is_server n) _ (λ v. AllByRecursion RequestRight v.slots) s.servers
      (λ v e right. taken-slots n k a v e right) all
  taken-after (Given n k) first second all a =
      all-first (is_server n) _ (λ v. AllByRecursion RequestRight v.slots) s.servers
      (λ v e right. all-first (is_request k) given RequestRight v.slots
      (λ q f r. record { taken = r.taken; working = λ w. (own-due n k a v q e f).0 }) right) all
  taken-after (Ran n k y) first second all a =
      all-first (is_server n) _ (λ v. AllByRecursion RequestRight v.slots) s.servers
      (λ v e right. all-first (is_request k) (answered second) RequestRight v.slots
      (λ q f r. let own = own-run n k a v q e f r in answered-right second q own.0 own.1 r) right) all
  taken-after _ first second all a = all

-- a reply is queued only to a packet that was taken
abbrev pub Reached : List Server → List Queued → Type 0
Reached servers queued = (t r k : ℕ) (q : Served) → request_of t r servers ≡ Some q
    → 1 ≤ queued_times (Reply t r) k queued → k < q.taken

-- a request as it was before
record Before (servers : List Server) (t r : ℕ) (q : Served) : Type 0 where
  before : Served
  found : request_of t r servers ≡ Some before
  same : q.taken ≡ before.taken

none-times : (t r k : ℕ) (queued : List Queued) → NoneQueued (Reply t r) queued
    → 1 ≤ queued_times (Reply t r) k queued → ⊥
none-times t r k queued none some =
    let few = no-times (Reply t r) k queued none in omega arith

module _ (t r : ℕ) (f : Served → Served) (numbers : (q : Served) → (f q).number ≡ q.number)
    (keeps : (q : Served) → (f q).taken ≡ q.taken) (servers : List Server) where
  own-before : (q : Served) (o : Option Served) → request_of t r servers ≡ o
      → option_map f o ≡ Some q → Before servers t r q
  own-before q None e h = cc
  own-before q (Some p) e h =
      let same : f p ≡ q = cc in
      record { before = p; found = e; same = ap (λ (z : Served). z.taken) (sym same) ∙ keeps p }

  changed-before : (n k : ℕ) (q : Served)
      → request_of t r (at_first (is_server n)
      (λ v. record v { slots = at_first (is_request k) f v.slots }) servers) ≡ Some q
      → Before servers t r q
  changed-before n k q e = by (n == t && k == r) refl
    where
      by : (b : Bool) → (n == t && k == r) ≡ b → Before servers t r q
      by true h =
          let parts = and_parts (n == t) (k == r) h in
          let session : n ≡ t = eqb-true n t parts.0 in
          let request : k ≡ r = eqb-true k r parts.1 in
          let own : request_of t r (at_first (is_server t)
          (λ v. record v { slots = at_first (is_request r) f v.slots }) servers) ≡ Some q =
          rw (session, request) at e in
          own-before q (request_of t r servers) refl (sym (look-own t r f numbers servers) ∙ own)
      by false h =
          record { before = q; found = sym (look-other t r f numbers n k h servers) ∙ e; same = refl }

module _ (s : Lists) (valid : Valid s) (standing : Standing s.servers s.queued)
    (reached : Reached s.servers s.queued) where
  -- a request that goes on or begins
  module _ (n k : ℕ) (a : MayTakeAsk s n k) (body : List ℕ) where
    next-reached : (i : ℕ) (q : Served) (o : Option Served) → request_of n k s.servers ≡ o
        → option_map (next_packet body) o ≡ Some q → 1 ≤ queued_times (Reply n k) i s.queued
        → i < q.taken
    next-reached i q None e h some = cc
    next-reached i q (Some p) e h some =
        let same : next_packet body p ≡ q = cc in
        let lt = reached n k i p e some in
        let more : p.taken + 1 ≡ q.taken = ap (λ (z : Served). z.taken) same in
        omega arith

    own-reached : (i : ℕ) (q : Served) (b : Bool) → list_any (is_request k) a.serve.server.slots ≡ b
        → request_of n k (taken s valid n k a.serve body) ≡ Some q
        → 1 ≤ queued_times (Reply n k) i s.queued → i < q.taken
    own-reached i q true e found some =
        next-reached i q (request_of n k s.servers) refl
        (sym (look-next s valid n k a.serve body e) ∙ found) some
    own-reached i q false e found some =
        let missing = none-there (find (is_request k) a.serve.server.slots) refl e in
        let none : request_of n k s.servers ≡ None = ap (λ o. request_on k o) a.serve.found ∙ missing in
        absurd (none-times n k i s.queued (standing n k none) some)
      where
        none-there : (o : Option Served) → find (is_request k) a.serve.server.slots ≡ o
            → list_any (is_request k) a.serve.server.slots ≡ false → o ≡ None
        none-there None f none = refl
        none-there (Some p) f none =
            let some = found-any (is_request k) a.serve.server.slots p f in cc

    other-reached : (t r i : ℕ) (q : Served) → request_of t r (taken s valid n k a.serve body) ≡ Some q
        → 1 ≤ queued_times (Reply t r) i s.queued
        → (request_of t r (taken s valid n k a.serve body) ≡ request_of t r s.servers)
        ⊎ Replaces s valid n k a.serve body t r (request_of t r (taken s valid n k a.serve body))
        → i < q.taken
    other-reached t r i q e some (inl same) = reached t r i q (sym same ∙ e) some
    other-reached t r i q e some (inr gone) = let none = gone.none in cc

    took-reached : (t r i : ℕ) (q : Served) → request_of t r (taken s valid n k a.serve body) ≡ Some q
        → 1 ≤ queued_times (Reply t r) i s.queued → i < q.taken
    took-reached t r i q e some = by (n == t && k == r) refl
      where
        by : (b : Bool) → (n == t && k == r) ≡ b → i < q.taken
        by true h =
            let parts = and_parts (n == t) (k == r) h in
            let session : t ≡ n = sym (eqb-true n t parts.0) in
            let request : r ≡ k = sym (eqb-true k r parts.1) in
            own-reached i q (list_any (is_request k) a.serve.server.slots) refl
            (rw (session, request) at e) (rw (session, request) at some)
        by false h = other-reached t r i q e some (look-others s valid n k a.serve body t r h)

  -- one more is queued
  posted-reached : (n r i t k j : ℕ) (due : Option ℕ) (q : Served) → MayReply s.servers n r i
      → request_of t k s.servers ≡ Some q
      → 1 ≤ queued_times (Reply t k) j
      (queued_after (Posted (Reply n r) i) due s.queued) → j < q.taken
  posted-reached n r i t k j due q a e some =
      let one = put-sum (λ p. cond (is_queued (Reply t k) j p) 1 0)
      (record { owner = Reply n r; number = i; due = due }) s.queued in
      by ((n == t && r == k) && i == j) refl (omega arith)
    where
      by : (b : Bool) → ((n == t && r == k) && i == j) ≡ b
          → 1 ≤ cond b 1 0 + queued_times (Reply t k) j s.queued → j < q.taken
      by true h more =
          let parts = and_parts (n == t && r == k) (i == j) h in
          let owner = and_parts (n == t) (r == k) parts.0 in
          let session : n ≡ t = eqb-true n t owner.0 in
          let request : r ≡ k = eqb-true r k owner.1 in
          let number : i ≡ j = eqb-true i j parts.1 in
          let own : MayReply s.servers t k j = rw (← session, ← request, ← number) a in
          let same : own.stands.served ≡ q = same-found own.stands.served own.stands.found in
          subst (λ (p : Served). j < p.taken) same own.taken
        where
          same-found : (p : Served) → request_of t k s.servers ≡ Some p → p ≡ q
          same-found p f = cc
      by false h more = reached t k j q e (omega arith)

  pub reached-after : (e : Event) (due : Option ℕ) (first second : List ℕ) → AllowedBy s e first second
      → Reached (servers_after e second (front_header s.ring) (front_body s.ring) s.servers)
      (queued_after e due s.queued)
  reached-after (PairedServer n peer c credits life) due first second a t r k q e some =
      reached t r k q (sym (look-made t r n peer c credits life s.servers) ∙ e) some
  reached-after (Accepted n peer c credits life) due first second a t r k q e some =
      reached t r k q (sym (look-made t r n peer c credits life s.servers) ∙ e) some
  reached-after (Ended n) due first second a t r k q e some = by (n == t) refl
    where
      by : (b : Bool) → (n == t) ≡ b → k < q.taken
      by true h =
          let same : n ≡ t = eqb-true n t h in
          let none : NoneQueued (Reply t r) s.queued = rw (← same) (over-unqueued s valid standing n a r) in
          absurd (none-times t r k s.queued none some)
      by false h =
          let others = skip-found (is_server n) (is_server t) s.servers (λ v g. off-number v.way.number n t h g) in
          reached t r k q (sym (ap (λ o. request_on r o) others) ∙ e) some
  reached-after (Took (Reply n i) j) due first second a t r k q e some =
      let own : request_of t r (taken s valid n i a.serve (front_body s.ring)) ≡ Some q =
      rw a.serve.front at e in
      took-reached n i a (front_body s.ring) t r k q own some
  reached-after (Given n i) due first second a t r k q e some =
      let was = changed-before t r given (λ p. refl) (λ p. refl) s.servers n i q e in
      let lt = reached t r k was.before was.found some in
      let same = was.same in
      omega arith
  reached-after (Ran n i y) due first second a t r k q e some =
      let was = changed-before t r (answered second) (λ p. refl) (λ p. refl) s.servers n i q e in
      let lt = reached t r k was.before was.found some in
      let same = was.same in
      omega arith
  reached-after (Posted (Ask n i) j) due first second a t r k q e some =
      let one = put-sum (λ p. cond (is_queued (Reply t r) k p) 1 0)
      (record { owner = Ask n i; number = j; due = due }) s.queued in
      reached t r k q e (omega arith)
  reached-after (Posted (Reply n i) j) due first second a t r k q e some =
      posted-reached n i j t r k due q a e some
  reached-after (Posted Control j) due first second a t r k q e some =
      let one = put-sum (λ p. cond (is_queued (Reply t r) k p) 1 0)
      (record { owner = Control; number = j; due = due }) s.queued in
      reached t r k q e (omega arith)
  reached-after (Sent peer owner j) due first second a t r k q e some =
      let fewer = no-more-out (is_queued owner j) s.queued s.queued (no-more-same s.queued) (Reply t r) k in
      reached t r k q e (omega arith)
  reached-after (Flushed owner j) due first second a t r k q e some =
      let fewer = no-more-out (is_queued owner j) s.queued s.queued (no-more-same s.queued) (Reply t r) k in
      reached t r k q e (omega arith)
  reached-after (Polled now) due first second a t r k q e some =
      let same = ready-sum now (λ p. cond (is_queued (Reply t r) k p) 1 0) (λ p. refl) s.queued in
      reached t r k q e (omega arith)
  reached-after _ due first second a t r k q e some = reached t r k q e some

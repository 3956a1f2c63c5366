-- Replies that are queued are of requests that stand in their slots.
use Rattle.std.proofs.Common.{◌≡◌, ℕ, ◌%◌, Bool, true, false, ◌&&◌, Option, Some, None, List, refl}
use Rattle.std.proofs.Common.{sym, ap, ◌∙◌, inl, inr}
use Rattle.std.specs.Prelude.{◌⊎◌, ◌==◌, option_map}
use Rattle.std.specs.List.{find, list_any}
use Rattle.std.proofs.lemmas.Bool.{and_parts, eqb-true}
use Rattle.rpc_base.specs.Tables.{at_first, without_first}
use Rattle.rpc_base.specs.declared.event.Event.{Event}
use Rattle.rpc_base.specs.declared.event.Event.TheVariants.{PairedServer, Accepted, Ended, Posted}
use Rattle.rpc_base.specs.declared.event.Event.TheVariants.{Sent, Flushed, Polled, Took, Given, Ran}
use Rattle.rpc_base.specs.declared.owner.Owner.{Owner}
use Rattle.rpc_base.specs.declared.owner.Owner.TheVariants.{Ask, Reply, Control}
use Rattle.rpc_laws.specs.declared.tables.Lists.{Lists}
use Rattle.rpc_laws.specs.declared.tables.Queued.{Queued}
use Rattle.rpc_laws.specs.declared.tables.Served.{Served}
use Rattle.rpc_laws.specs.declared.tables.Server.{Server}
use Rattle.rpc_laws.specs.Front.{front_header}
use Rattle.rpc_laws.specs.Queues.{is_queued, put_queued, queued_after}
use Rattle.rpc_laws.specs.Requests.{is_server, is_request, in_slot_of, given, answered, servers_after, request_of}
use Rattle.node_laws.proofs.Allowed.{Allowed, NoneQueued, NoneOlder, MayServe, MayLeave, Stands}
use Rattle.rpc_base.proofs.FindLemmas.{missing-none, skip-found}
use Rattle.node_laws.proofs.FlushLemmas.{no-more-same}
use Rattle.node_laws.proofs.LeftLemmas.{own-slot, same-slot}
use Rattle.node_laws.proofs.LookLemmas.{request_on, off-number, look-own, look-other, look-made}
use Rattle.node_laws.proofs.LookLemmas.{taken, Replaces, look-next, look-first, look-others}
use Rattle.node_laws.proofs.PutLemmas.{none-put, none-ready}
use Rattle.node_laws.proofs.QueueLemmas.{no-more-out, none-stays}
use Rattle.rpc_base.proofs.FirstLemmas.{found-holds}
use Rattle.node_laws.specs.Valid.{SoundServer, Valid}
use Rattle.rpc_base.proofs.TakingLemmas.{find-passes}

-- no reply to a request that doesn't stand is queued
abbrev pub Standing : List Server → List Queued → Type 0
Standing servers queued = (t r : ℕ) → request_of t r servers ≡ None → NoneQueued (Reply t r) queued

none-out : (owner : Owner) (p : Queued → Bool) (qs : List Queued) → NoneQueued owner qs
    → NoneQueued owner (without_first p qs)
none-out owner p qs none = none-stays owner (without_first p qs) qs (no-more-out p qs qs (no-more-same qs)) none

-- requests that change stand as before
mapped-none : (f : Served → Served) (o : Option Served) → option_map f o ≡ None → o ≡ None
mapped-none f None e = refl
mapped-none f (Some q) e = cc

module _ (t r : ℕ) (f : Served → Served) (numbers : (q : Served) → (f q).number ≡ q.number)
    (servers : List Server) where
  changed-by : (n k : ℕ) (b : Bool) → (n == t && k == r) ≡ b
      → request_of t r (at_first (is_server n)
      (λ v. record v { slots = at_first (is_request k) f v.slots }) servers) ≡ None
      → request_of t r servers ≡ None
  changed-by n k true e none =
      let parts = and_parts (n == t) (k == r) e in
      let session : n ≡ t = eqb-true n t parts.0 in
      let request : k ≡ r = eqb-true k r parts.1 in
      let own : request_of t r (at_first (is_server t)
      (λ v. record v { slots = at_first (is_request r) f v.slots }) servers)
      ≡ None = rw (session, request) at none in
      mapped-none f (request_of t r servers) (sym (look-own t r f numbers servers) ∙ own)
  changed-by n k false e none = sym (look-other t r f numbers n k e servers) ∙ none

  changed-none : (n k : ℕ)
      → request_of t r (at_first (is_server n)
      (λ v. record v { slots = at_first (is_request k) f v.slots }) servers) ≡ None
      → request_of t r servers ≡ None
  changed-none n k none = changed-by n k (n == t && k == r) refl none

-- a packet is taken
module _ (s : Lists) (valid : Valid s) (standing : Standing s.servers s.queued) (n k : ℕ)
    (a : MayServe s n k) (body : List ℕ) where
  -- its request stands
  own-by : (b : Bool) → list_any (is_request k) a.server.slots ≡ b
      → request_of n k (taken s valid n k a body) ≡ None → ⊥
  own-by true e none =
      let before : request_of n k s.servers ≡ None =
      mapped-none _ (request_of n k s.servers)
      (sym (look-next s valid n k a body e) ∙ none) in
      let missing : find (is_request k) a.server.slots ≡ None = sym (ap (λ o. request_on k o) a.found) ∙ before in
      let any = missing-none (is_request k) a.server.slots missing in
      cc
  own-by false e none = let first = look-first s valid n k a body e in cc

  -- what stands in its session
  pub own-found : (r : ℕ) (q : Served) → request_of n r s.servers ≡ Some q
      → find (in_slot_of r) a.server.slots ≡ Some q
  own-found r q e =
      let found : find (is_request r) a.server.slots ≡ Some q = sym (ap (λ o. request_on r o) a.found) ∙ e in
      own-slot r a.server q (found-holds (is_server n) SoundServer s.servers a.server valid.served a.found) found

  pub own-numbered : (r : ℕ) (q : Served) → request_of n r s.servers ≡ Some q → q.number ≡ r
  own-numbered r q e =
      let found : find (is_request r) a.server.slots ≡ Some q = sym (ap (λ o. request_on r o) a.found) ∙ e in
      eqb-true q.number r (find-passes (is_request r) a.server.slots q found)

  -- the one whose slot it takes has no reply queued
  pub older-clean : (r : ℕ) (q : Served) → k % 8 ≡ r % 8
      → list_any (is_request k) a.server.slots ≡ false → request_of n r s.servers ≡ Some q
      → NoneQueued (Reply n r) s.queued
  older-clean r q slot begins e =
      let found : find (in_slot_of k) a.server.slots ≡ Some q = same-slot k r slot a.server.slots ∙ own-found r q e in
      let older : NoneOlder n (Some q) s.queued = rw found at (a.clean begins) in
      let number = own-numbered r q e in
      rw number at older

  replaced : (t r : ℕ) (o : Option Served) → request_of t r s.servers ≡ o
      → Replaces s valid n k a body t r (request_of t r (taken s valid n k a body))
      → NoneQueued (Reply t r) s.queued
  replaced t r None e gone = standing t r e
  replaced t r (Some q) e gone =
      let own : request_of n r s.servers ≡ Some q = rw (← gone.session) at e in
      rw (← gone.session) (older-clean r q gone.slot gone.begins own)

  other-by : (t r : ℕ) → request_of t r (taken s valid n k a body) ≡ None
      → (request_of t r (taken s valid n k a body) ≡ request_of t r s.servers)
      ⊎ Replaces s valid n k a body t r (request_of t r (taken s valid n k a body))
      → NoneQueued (Reply t r) s.queued
  other-by t r none (inl same) = standing t r (sym same ∙ none)
  other-by t r none (inr gone) = replaced t r (request_of t r s.servers) refl gone

  took-by : (t r : ℕ) (b : Bool) → (n == t && k == r) ≡ b
      → request_of t r (taken s valid n k a body) ≡ None → NoneQueued (Reply t r) s.queued
  took-by t r true e none =
      let parts = and_parts (n == t) (k == r) e in
      let session : t ≡ n = sym (eqb-true n t parts.0) in
      let request : r ≡ k = sym (eqb-true k r parts.1) in
      let own : request_of n k (taken s valid n k a body) ≡ None = rw (session, request) at none in
      absurd (own-by (list_any (is_request k) a.server.slots) refl own)
  took-by t r false e none = other-by t r none (look-others s valid n k a body t r e)

  took-stands : (t r : ℕ) → request_of t r (taken s valid n k a body) ≡ None → NoneQueued (Reply t r) s.queued
  took-stands t r none = took-by t r (n == t && k == r) refl none

-- a reply is posted
posted-by : (t r n k i : ℕ) (due : Option ℕ) (servers : List Server) (queued : List Queued)
    (b : Bool) → (n == t && k == r) ≡ b → Stands servers n k → request_of t r servers ≡ None
    → NoneQueued (Reply t r) queued
    → NoneQueued (Reply t r) (put_queued (record { owner = Reply n k; number = i; due = due })
    queued)
posted-by t r n k i due servers queued true e a none h =
    let parts = and_parts (n == t) (k == r) e in
    let session : n ≡ t = eqb-true n t parts.0 in
    let request : k ≡ r = eqb-true k r parts.1 in
    let own : request_of t r servers ≡ Some a.served = rw (session, request) at a.found in
    cc
posted-by t r n k i due servers queued false e a none h =
    none-put (Reply t r) queued (record { owner = Reply n k; number = i; due = due }) e h

-- a session ends
module _ (s : Lists) (valid : Valid s) (standing : Standing s.servers s.queued) (n : ℕ) (a : MayLeave s n) where
  slot-clean : (r : ℕ) (q : Served) → find (is_request r) a.server.slots ≡ Some q → NoneQueued (Reply n r) s.queued
  slot-clean r q e =
      let slot : find (in_slot_of r) a.server.slots ≡ Some q =
      own-slot r a.server q (found-holds (is_server n) SoundServer s.servers a.server
      valid.served a.found) e in
      let clean : NoneOlder n (Some q) s.queued = rw slot at (a.clean r) in
      let number : q.number ≡ r = eqb-true q.number r (find-passes (is_request r) a.server.slots q e) in
      rw number at clean

  over-by : (r : ℕ) (o : Option Served) → request_of n r s.servers ≡ o → NoneQueued (Reply n r) s.queued
  over-by r None e = standing n r e
  over-by r (Some q) e = slot-clean r q (sym (ap (λ o. request_on r o) a.found) ∙ e)

  -- no reply of it is queued
  pub over-unqueued : (r : ℕ) → NoneQueued (Reply n r) s.queued
  over-unqueued r = over-by r (request_of n r s.servers) refl

  ended-by : (t r : ℕ) (b : Bool) → (n == t) ≡ b
      → request_of t r (without_first (is_server n) s.servers) ≡ None
      → NoneQueued (Reply t r) s.queued
  ended-by t r true e none = let same : n ≡ t = eqb-true n t e in rw (← same) (over-unqueued r)
  ended-by t r false e none =
      let others = skip-found (is_server n) (is_server t) s.servers (λ v h. off-number v.way.number n t e h) in
      standing t r (sym (ap (λ o. request_on r o) others) ∙ none)

  ended-stands : (t r : ℕ) → request_of t r (without_first (is_server n) s.servers) ≡ None
      → NoneQueued (Reply t r) s.queued
  ended-stands t r none = ended-by t r (n == t) refl none

pub standing-after : (e : Event) (due : Option ℕ) (answer body : List ℕ) (s : Lists) → Valid s
    → Standing s.servers s.queued → Allowed s e
    → Standing (servers_after e answer (front_header s.ring) body s.servers)
    (queued_after e due s.queued)
standing-after (PairedServer n peer c credits life) due answer body s v h a t r none =
    h t r (sym (look-made t r n peer c credits life s.servers) ∙ none)
standing-after (Accepted n peer c credits life) due answer body s v h a t r none =
    h t r (sym (look-made t r n peer c credits life s.servers) ∙ none)
standing-after (Ended n) due answer body s v h a t r none = ended-stands s v h n a t r none
standing-after (Took (Reply n k) i) due answer body s v h a t r none =
    let own : request_of t r (taken s v n k a body) ≡ None =
    rw a.front at none in took-stands s v h n k a body t r own
standing-after (Given n k) due answer body s v h a t r none =
    h t r (changed-none t r given (λ q. refl) s.servers n k none)
standing-after (Ran n k y) due answer body s v h a t r none =
    h t r (changed-none t r (answered answer) (λ q. refl) s.servers n k none)
standing-after (Posted (Ask n k) i) due answer body s v h a t r none =
    none-put (Reply t r) s.queued (record { owner = Ask n k; number = i; due = due }) refl (h t r none)
standing-after (Posted (Reply n k) i) due answer body s v h a t r none =
    posted-by t r n k i due s.servers s.queued (n == t && k == r) refl a none (h t r none)
standing-after (Posted Control i) due answer body s v h a t r none =
    none-put (Reply t r) s.queued (record { owner = Control; number = i; due = due }) refl (h t r none)
standing-after (Sent peer owner i) due answer body s v h a t r none =
    none-out (Reply t r) (is_queued owner i) s.queued (h t r none)
standing-after (Flushed owner i) due answer body s v h a t r none =
    none-out (Reply t r) (is_queued owner i) s.queued (h t r none)
standing-after (Polled now) due answer body s v h a t r none = none-ready (Reply t r) now s.queued (h t r none)
standing-after _ due answer body s v h a t r none = h t r none

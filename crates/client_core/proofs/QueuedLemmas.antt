-- Each active call has as many queued packets as entries are its own, before and after a call of its session.
use Rattle.std.proofs.Common.{◌≡◌, ◌≢◌, ℕ, ◌+◌, ◌-◌, ◌%◌, ◌≤◌, Bool, true, false, cond, eqb}
use Rattle.std.proofs.Common.{Option, Some, None, List, [], ◌∷◌, ◌++◌, refl, sym, ap, ◌∙◌, arith}
use Rattle.std.specs.Prelude.{count_by}
use Rattle.std.specs.List.{find, list_any}
use Rattle.std.proofs.lemmas.Bool.{and_parts, eq-eqb, eqb-false, eqb-true, ne_eqb}
use Rattle.std.proofs.lemmas.List.Sums.{sum_by-append}
use Rattle.rpc_base.specs.Owners.{same_owner}
use Rattle.rpc_base.specs.Tables.{at_first}
use Rattle.rpc_base.specs.Taking.{TakenOut}
use Rattle.rpc_base.specs.declared.owner.Owner.{Owner}
use Rattle.rpc_base.specs.declared.owner.Owner.TheVariants.{Ask, Reply as ReplyOwner, Control}
use Rattle.rpc_base.proofs.TakingLemmas.{taken-sum, find-passes}
use Rattle.packet_header.specs.declared.packet.MessageHeader.{MessageHeader}
use Rattle.buffer_pool.specs.Pool.{Pool}
use Rattle.packet_rings.specs.Entries.{is_of}
use Rattle.packet_rings.specs.Values.{EntryValue}
use Rattle.client_core.specs.declared.call.ActiveCall.{ActiveCall}
use Rattle.client_core.specs.declared.outcome.Reply.{Reply}
use Rattle.client_core.specs.declared.outcome.Reply.TheVariants.{Took, Ended, Dropped}
use Rattle.client_core.specs.Counting.{AreQueued, CountsQueued}
use Rattle.client_core.specs.Posting.{IsPacketOf, call_of, is_owner, marked, one_left, one_posted}
use Rattle.client_core.specs.Replies.{Replies, is_request, replied}
use Rattle.client_core.specs.Session.{IsSession, Session, can_post, is_in_slot}
use Rattle.rpc_base.proofs.ChangedLemmas.{same-first}
use Rattle.rpc_base.proofs.FirstLemmas.{found-holds, counted-cons, counted-none, count-fewer, all-kept, all-left}

-- one call has each request number
request-slot : (r : ℕ) (x : ActiveCall) → is_request r x ≡ true → is_in_slot (r % 8) x ≡ true
request-slot r x passes = eq-eqb (x.request % 8) (r % 8) (ap (λ n. n % 8) (eqb-true x.request r passes))

request-few : (s : Session) (r : ℕ) → IsSession s → count_by (is_request r) s.active ≤ 1
request-few s r h = omega (
  arith,
  count-fewer (is_request r) (is_in_slot (r % 8))
      (request-slot r) s.active,
  h.apart (r % 8),
)

-- whose entry it is
weight-own : (n r : ℕ) (e : EntryValue) → e.owner ≡ Ask n r → is_of (Ask n r) e ≡ true
weight-own n r e own = rw (own, eq-eqb n n refl, eq-eqb r r refl) refl

weight-other : (n r x : ℕ) (e : EntryValue) → e.owner ≡ Ask n r → x ≢ r → is_of (Ask n x) e ≡ false
weight-other n r x e own other = rw (own, eq-eqb n n refl, ne_eqb r x (λ t. other (sym t))) refl

-- the call of one number changes, and what is queued of the others is as it was
module _ (n r : ℕ) (f : ActiveCall → ActiveCall) (old new : List EntryValue)
    (same : (x : ActiveCall) → is_request r x ≡ false
    → count_by (is_of (Ask n x.request)) new ≡ count_by (is_of (Ask n x.request)) old)
    (own : (x : ActiveCall) → is_request r x ≡ true
    → x.queued ≡ count_by (is_of (Ask n x.request)) old
    → (f x).queued ≡ count_by (is_of (Ask n (f x).request)) new) where
  rest-cons : (x : ActiveCall) (b : Bool) → is_request r x ≡ b → cond {A = ℕ} b 1 0 ≡ 0 → is_request r x ≡ false
  rest-cons x true t e = absurd (omega (arith, e))
  rest-cons x false t e = t

  rest : (xs : List ActiveCall) → count_by (is_request r) xs ≡ 0 → AreQueued n xs old → AreQueued n xs new
  rest [] none all = tt
  rest (x ∷ xs) none all =
      let sum = counted-cons (is_request r) x xs (is_request r x) refl in (
        all.0 ∙ sym (same x (rest-cons x (is_request r x) refl (omega (arith, sum, none)))),
        rest xs (omega (arith, sum, none)) all.1,
      )

  changed-cons : (x : ActiveCall) (xs : List ActiveCall) (b : Bool) → is_request r x ≡ b
      → count_by (is_request r) (x ∷ xs) ≤ 1 → x.queued ≡ count_by (is_of (Ask n x.request)) old
      → AreQueued n xs old
      → (count_by (is_request r) xs ≤ 1 → AreQueued n (at_first (is_request r) f xs) new)
      → AreQueued n (cond b (f x ∷ xs) (x ∷ at_first (is_request r) f xs)) new
  changed-cons x xs true t few here all ih =
      (own x t here, rest xs (omega (arith, counted-cons (is_request r) x xs true t, few)) all)
  changed-cons x xs false t few here all ih =
      (here ∙ sym (same x t), ih (omega (arith, counted-cons (is_request r) x xs false t, few)))

  pub changed : (xs : List ActiveCall) → count_by (is_request r) xs ≤ 1 → AreQueued n xs old
      → AreQueued n (at_first (is_request r) f xs) new
  changed [] few all = tt
  changed (x ∷ xs) few all = changed-cons x xs (is_request r x) refl few all.0 all.1 (λ less. changed xs less all.1)

-- a packet is posted
count-behind : (n x : ℕ) (es : List EntryValue) (e : EntryValue) (b : Bool) → is_of (Ask n x) e ≡ b
    → count_by (is_of (Ask n x)) (es ++ e ∷ []) ≡ count_by (is_of (Ask n x)) es + cond b 1 0
count-behind n x es e b t =
    let one : cond {A = ℕ} (is_of (Ask n x) e) 1 0 ≡ cond {A = ℕ} b 1 0 = ap (λ c. cond {A = ℕ} c 1 0) t in
    omega (arith, sum_by-append (λ d. cond {A = ℕ} (is_of (Ask n x) d) 1 0) es (e ∷ []), one)

pub post-queued : (s : Session) (c : ActiveCall) (e : EntryValue) (es : List EntryValue)
    → IsSession s → find can_post s.active ≡ Some c → find (is_request c.request) s.active ≡ Some c
    → e.owner ≡ Ask s.number c.request → AreQueued s.number s.active es
    → AreQueued s.number (at_first can_post one_posted s.active) (es ++ e ∷ [])
post-queued s c e es h found mine owner all =
    let firsts = same-first can_post (is_request c.request) one_posted c s.active
    (find-passes can_post s.active c found) (eq-eqb c.request c.request refl) found mine in
    rw firsts (changed s.number c.request one_posted es (es ++ e ∷ [])
    (λ x other. omega (
      arith,
      count-behind s.number x.request es e false
          (weight-other s.number c.request x.request e owner (eqb-false x.request c.request other)),
    ))
    (λ x is was. let same : x.request ≡ c.request = eqb-true x.request c.request is in
    omega (
      arith,
      was,
      count-behind s.number x.request es e true
          (weight-own s.number x.request e (owner ∙ ap (Ask s.number) (sym same))),
    ))
    s.active (request-few s c.request h) all)

-- and is sent, or taken out unsent
alike : (p q : ActiveCall → Bool) (f : ActiveCall → ActiveCall) (xs : List ActiveCall)
    → ((x : ActiveCall) → p x ≡ q x) → at_first p f xs ≡ at_first q f xs
alike p q f [] same = refl
alike p q f (x ∷ xs) same = rw (same x, alike p q f xs same) refl

pub owner-is : (n r : ℕ) (o : Owner) → same_owner (Ask n r) o ≡ true → o ≡ Ask n r
owner-is n r (Ask m k) t =
    let parts = and_parts (eqb n m) (eqb r k) t in
    ap (λ x. Ask x k) (sym (eqb-true n m parts.0)) ∙ ap (Ask n) (sym (eqb-true r k parts.1))
owner-is n r (ReplyOwner m k) t = cc
owner-is n r Control t = cc

owner-of : (n r : ℕ) (x : ActiveCall) → is_owner n (Ask n r) x ≡ is_request r x
owner-of n r x = rw (eq-eqb n n refl) refl

module _ (s : Session) (e : EntryValue) (f : ActiveCall → ActiveCall) (passes : EntryValue → Bool)
    (old new : List EntryValue) (h : IsSession s) (out : TakenOut passes e old new)
    (request : (x : ActiveCall) → (f x).request ≡ x.request)
    (less : (x : ActiveCall) → (f x).queued ≡ x.queued - 1) where
  count-out : (x : ℕ) (b : Bool) → is_of (Ask s.number x) e ≡ b
      → count_by (is_of (Ask s.number x)) old ≡ cond b 1 0 + count_by (is_of (Ask s.number x)) new
  count-out x b t =
      let one : cond {A = ℕ} (is_of (Ask s.number x) e) 1 0 ≡ cond {A = ℕ} b 1 0 = ap (λ c. cond {A = ℕ} c 1 0) t in
      omega (arith, taken-sum passes (λ d. cond {A = ℕ} (is_of (Ask s.number x) d) 1 0) e old new out, one)

  left-cases : (o : Option ActiveCall) → call_of s e ≡ o → IsPacketOf o e
      → AreQueued s.number s.active old
      → AreQueued s.number (at_first (is_owner s.number e.owner) f s.active) new
  left-cases None found posted all = absurd posted
  left-cases (Some c) found posted all =
      let owner : e.owner ≡ Ask s.number c.request =
      owner-is s.number c.request e.owner
      (find-passes (is_owner s.number e.owner) s.active c found) in
      let tests : at_first (is_owner s.number e.owner) f s.active
      ≡ at_first (is_request c.request) f s.active =
      alike (is_owner s.number e.owner)
      (is_request c.request) f s.active
      (λ x. ap (λ o. is_owner s.number o x) owner ∙ owner-of s.number c.request x) in
      rw tests (changed s.number c.request f old new
      (λ x other. omega (
        arith,
        count-out x.request false
            (weight-other s.number c.request x.request e owner
            (eqb-false x.request c.request other)),
      ))
      (λ x is was. let same : x.request ≡ c.request = eqb-true x.request c.request is in
      less x ∙ omega (
        arith,
        was,
        count-out x.request true
            (weight-own s.number x.request e (owner ∙ ap (Ask s.number) (sym same))),
      )
      ∙ ap (λ r. count_by (is_of (Ask s.number r)) new) (sym (request x)))
      s.active (request-few s c.request h) all)

  pub left-queued : IsPacketOf (call_of s e) e → AreQueued s.number s.active old
      → AreQueued s.number (at_first (is_owner s.number e.owner) f s.active) new
  left-queued posted all = left-cases (call_of s e) refl posted all

mark-request : (now : ℕ) (c : ActiveCall) (b : Bool) → (cond b (record c { mark = now }) c).request ≡ c.request
mark-request now c true = refl
mark-request now c false = refl

mark-less : (now : ℕ) (c : ActiveCall) (b : Bool) → (cond b (record c { mark = now }) c).queued ≡ c.queued
mark-less now c true = refl
mark-less now c false = refl

pub marked-request : (number now : ℕ) (c : ActiveCall) → (marked number now c).request ≡ c.request
marked-request number now c = mark-request now (one_left c) _

pub marked-less : (number now : ℕ) (c : ActiveCall) → (marked number now c).queued ≡ c.queued - 1
marked-less number now c = mark-less now (one_left c) _

-- by what a reply did
pub reply-queued : (now : ℕ) (h : MessageHeader) (body : List ℕ) (s new : Session)
    (pool after : Pool) (es : List EntryValue) (r : Reply) → Replies r now h body s new pool after
    → CountsQueued s es → CountsQueued new es
reply-queued now h body s new pool after es Took replies all =
    let c = replies.0 in
    let g = replies.1 in
    rw g.session (all-kept (is_request c.request) (replied now h)
    (λ x. x.queued ≡ count_by (is_of (Ask s.number x.request)) es) s.active
    (λ x here passes. here) all)
reply-queued now h body s new pool after es (Ended d) replies all =
    let c = replies.0 in
    let g = replies.1 in
    rw g.session (all-left (is_request c.request)
    (λ x. x.queued ≡ count_by (is_of (Ask s.number x.request)) es) s.active all)
reply-queued now h body s new pool after es (Dropped why) replies all = rw replies.0 all

-- where no packet of a call is queued, no entry is its own
pub idle-call : (n : ℕ) (p : ActiveCall → Bool) (c : ActiveCall) (es : List EntryValue)
    (xs : List ActiveCall) → find p xs ≡ Some c → AreQueued n xs es → c.queued ≡ 0
    → list_any (is_of (Ask n c.request)) es ≡ false
idle-call n p c es xs e all none =
    counted-none (is_of (Ask n c.request)) es
    (sym (found-holds p (λ x. x.queued ≡ count_by (is_of (Ask n x.request)) es) xs c all e)
    ∙ none)

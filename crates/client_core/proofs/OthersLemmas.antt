-- A call of a session leaves the places of all but its own calls, and which entries stay packets of their calls.
use Rattle.std.proofs.Common.{◌≡◌, ◌≢◌, ℕ, ◌+◌, ◌-◌, ◌≤◌, ◌<◌, Bool, true, false, cond, eqb, Option}
use Rattle.std.proofs.Common.{Some, None, List, [], ◌∷◌, ◌++◌, get_or, refl, sym, ap, ◌∙◌, arith}
use Rattle.std.specs.List.{find}
use Rattle.std.proofs.lemmas.Bool.{and_parts, eq-eqb, eqb-true, ne_eqb}
use Rattle.std.proofs.lemmas.List.Sums.{sum_by-append}
use Rattle.rpc_base.specs.Owners.{same_owner}
use Rattle.rpc_base.specs.Tables.{at_first, without_first}
use Rattle.rpc_base.specs.declared.owner.Owner.{Owner}
use Rattle.rpc_base.specs.declared.owner.Owner.TheVariants.{Ask, Reply as ReplyOwner, Control}
use Rattle.packet_header.specs.declared.packet.MessageHeader.{MessageHeader}
use Rattle.message_buffer.specs.Buffer.{Buffer}
use Rattle.buffer_pool.specs.declared.usage.Use.TheVariants.{Empty, Full}
use Rattle.buffer_pool.specs.Uses.{is_empty}
use Rattle.buffer_pool.specs.Pool.{Pool, buf_at, emptied, filled, lowest_empty, refs_of, use_at}
use Rattle.buffer_pool.proofs.PoolLemmas.{changed_other}
use Rattle.packet_rings.specs.Entries.{is_of}
use Rattle.packet_rings.specs.Values.{EntryValue}
use Rattle.rpc_laws.specs.Calls.{is_response}
use Rattle.client_core.specs.declared.call.ActiveCall.{ActiveCall}
use Rattle.client_core.specs.declared.outcome.Reply.{Reply}
use Rattle.client_core.specs.declared.outcome.Reply.TheVariants.{Took, Ended, Dropped}
use Rattle.client_core.specs.KeepsEntries.{KeepsOthers, RepliesKeep}
use Rattle.client_core.specs.KeepsPool.{LeavesOthers, held_at, names, released_at}
use Rattle.client_core.specs.Posting.{IsPacketOf, call_of, is_owner, marked, one_left, one_posted, place_of}
use Rattle.client_core.specs.Replies.{Replies, answered, is_request, replied, rewritten_at}
use Rattle.client_core.specs.Replies.{with_part, without_buffers, without_call}
use Rattle.client_core.specs.Session.{Session, can_post}
use Rattle.client_core.specs.Timeouts.{rolled_call}
use Rattle.client_core.proofs.CallsLemmas.{sum-at_first}
use Rattle.client_core.proofs.PoolLemmas.{names-cons}
use Rattle.client_core.specs.Keeping.{StillKeepsAll}
use Rattle.client_core.specs.KeepsPool.{KeepsPool}
use Rattle.rpc_base.proofs.TakingLemmas.{find-passes}
use Rattle.buffer_pool.proofs.PlacesLemmas.{named-one, lowest-empty}

away-none : (a p : ℕ) → p ≢ a → cond {A = ℕ} (eqb a p) 1 0 ≡ 0
away-none a p other = ap (λ b. cond {A = ℕ} b 1 0) (ne_eqb a p (λ t. other (sym t)))

abbrev own_names : ℕ → ActiveCall → ℕ
own_names p c = cond (eqb c.ask p) 1 0 + cond (eqb c.answer p) 1 0

-- both places of a call are named by its session
module _ (test : ActiveCall → Bool) (c : ActiveCall) (p : ℕ) where
  both-cons : (d : ActiveCall) (cs : List ActiveCall) (b : Bool) → names p (d ∷ cs) ≡ 0
      → cond b (Some d) (find test cs) ≡ Some c
      → (find test cs ≡ Some c → names p cs ≡ 0 → (p ≢ c.ask) × (p ≢ c.answer)) → (p ≢ c.ask)
      × (p ≢ c.answer)
  both-cons d cs true none f ih =
      let same : d ≡ c = cc in
      let sum = names-cons p d cs in (
        λ here. absurd (omega (arith, sum, none, named-one d.ask p (ap (λ (x : ActiveCall). x.ask) same ∙ sym here))),
        λ here. absurd (omega (
          arith,
          sum,
          none,
          named-one d.answer p (ap (λ (x : ActiveCall). x.answer) same ∙ sym here),
        )),
      )
  both-cons d cs false none f ih = ih f (omega (arith, names-cons p d cs, none))

  pub found-both : (cs : List ActiveCall) → find test cs ≡ Some c → names p cs ≡ 0 → (p ≢ c.ask) × (p ≢ c.answer)
  found-both [] f none = cc
  found-both (d ∷ cs) f none = both-cons d cs (test d) none f (found-both cs)

-- the entries of a call that is changed, where its number and what it posted are kept
pub record KeepsPackets (f : ActiveCall → ActiveCall) : Type 0 where
  pub request : (c : ActiveCall) → (f c).request ≡ c.request
  pub packets : (c : ActiveCall) → (d : EntryValue) → d.number < c.posted
      → d.place ≡ place_of c d.number → (d.number < (f c).posted)
      × (d.place ≡ place_of (f c) d.number)

module _ (n : ℕ) (p : ActiveCall → Bool) (f : ActiveCall → ActiveCall) (keeps : KeepsPackets f) (d : EntryValue) where
  owner-same : (c : ActiveCall) → is_owner n d.owner (f c) ≡ is_owner n d.owner c
  owner-same c = ap (λ r. same_owner (Ask n r) d.owner) (keeps.request c)

  stays-cons : (c : ActiveCall) (cs : List ActiveCall) (a b : Bool) → is_owner n d.owner c ≡ a
      → (IsPacketOf (find (is_owner n d.owner) cs) d
      → IsPacketOf (find (is_owner n d.owner) (at_first p f cs)) d)
      → IsPacketOf (cond a (Some c) (find (is_owner n d.owner) cs)) d
      → IsPacketOf (find (is_owner n d.owner) (cond b (f c ∷ cs) (c ∷ at_first p f cs))) d
  stays-cons c cs true true t ih h = let here : is_owner n d.owner (f c) ≡ true = owner-same c ∙ t in rw here (keeps.packets c d h.0 h.1)
  stays-cons c cs false true t ih h = let here : is_owner n d.owner (f c) ≡ false = owner-same c ∙ t in rw here h
  stays-cons c cs true false t ih h = rw t h
  stays-cons c cs false false t ih h = rw t (ih h)

  pub stays : (cs : List ActiveCall) → IsPacketOf (find (is_owner n d.owner) cs) d
      → IsPacketOf (find (is_owner n d.owner) (at_first p f cs)) d
  stays [] h = h
  stays (c ∷ cs) h = stays-cons c cs (is_owner n d.owner c) (p c) refl (stays cs) h

-- where the changed call isn't the one of the entry
module _ (p q : ActiveCall → Bool) (f : ActiveCall → ActiveCall)
    (same : (c : ActiveCall) → q (f c) ≡ q c) (apart : (c : ActiveCall) → p c ≡ true → q c ≡ false)
    (d : EntryValue) where
  beside-cons : (c : ActiveCall) (cs : List ActiveCall) (a b : Bool) → p c ≡ a → q c ≡ b
      → (IsPacketOf (find q cs) d → IsPacketOf (find q (at_first p f cs)) d)
      → IsPacketOf (cond b (Some c) (find q cs)) d
      → IsPacketOf (find q (cond a (f c ∷ cs) (c ∷ at_first p f cs))) d
  beside-cons c cs true true s t ih h = let no : true ≡ false = sym t ∙ apart c s in cc
  beside-cons c cs true false s t ih h = let here : q (f c) ≡ false = same c ∙ t in rw here h
  beside-cons c cs false true s t ih h = rw t h
  beside-cons c cs false false s t ih h = rw t (ih h)

  pub beside : (cs : List ActiveCall) → IsPacketOf (find q cs) d → IsPacketOf (find q (at_first p f cs)) d
  beside [] h = h
  beside (c ∷ cs) h = beside-cons c cs (p c) (q c) refl refl (beside cs) h

-- where a call is taken out that isn't the one of the entry
module _ (p q : ActiveCall → Bool) (apart : (c : ActiveCall) → p c ≡ true → q c ≡ false) (d : EntryValue) where
  left-cons : (c : ActiveCall) (cs : List ActiveCall) (a b : Bool) → p c ≡ a → q c ≡ b
      → (IsPacketOf (find q cs) d → IsPacketOf (find q (without_first p cs)) d)
      → IsPacketOf (cond b (Some c) (find q cs)) d
      → IsPacketOf (find q (cond a cs (c ∷ without_first p cs))) d
  left-cons c cs true true s t ih h = let no : true ≡ false = sym t ∙ apart c s in cc
  left-cons c cs true false s t ih h = h
  left-cons c cs false true s t ih h = rw t h
  left-cons c cs false false s t ih h = rw t (ih h)

  pub found-left : (cs : List ActiveCall) → IsPacketOf (find q cs) d → IsPacketOf (find q (without_first p cs)) d
  found-left [] h = h
  found-left (c ∷ cs) h = left-cons c cs (p c) (q c) refl refl (found-left cs) h

-- the call of another owner
owner-is : (n r : ℕ) (o : Owner) → same_owner (Ask n r) o ≡ true → same_owner o (Ask n r) ≡ true
owner-is n r (Ask m k) t =
    let parts = and_parts (eqb n m) (eqb r k) t in
    rw (eq-eqb m n (sym (eqb-true n m parts.0)), eq-eqb k r (sym (eqb-true r k parts.1))) refl
owner-is n r (ReplyOwner m k) t = cc
owner-is n r Control t = cc

module _ (n r : ℕ) (d : EntryValue) (other : is_of (Ask n r) d ≡ false) where
  apart-by : (x : ActiveCall) (b : Bool) → is_owner n d.owner x ≡ b → is_request r x ≡ true → b ≡ false
  apart-by x false t s = refl
  apart-by x true t s =
      let same : x.request ≡ r = eqb-true x.request r s in
      let mine : same_owner (Ask n r) d.owner ≡ true = ap (λ k. same_owner (Ask n k) d.owner) (sym same) ∙ t in
      let yes : is_of (Ask n r) d ≡ true = owner-is n r d.owner mine in
      cc

  pub apart-owner : (x : ActiveCall) → is_request r x ≡ true → is_owner n d.owner x ≡ false
  apart-owner x s = apart-by x (is_owner n d.owner x) refl s

-- a call begins
used-other : (pool : Pool) (p q : ℕ) → is_empty (use_at pool q) ≡ false → lowest_empty pool ≡ Some p → q ≢ p
used-other pool p q used e = λ same. let empty : is_empty (use_at pool q) ≡ true = rw same (lowest-empty pool p e) in cc

pub begun-leaves : (pool : Pool) (p q : ℕ) (b d : Buffer) (c : ActiveCall) (calls : List ActiveCall)
    → lowest_empty pool ≡ Some p → lowest_empty (filled p b pool) ≡ Some q → c.ask ≡ p
    → c.answer ≡ q → LeavesOthers calls (calls ++ c ∷ []) pool (filled q d (filled p b pool))
begun-leaves pool p q b d c calls first second ask answer = λ r none used.
    let away = used-other pool p r used first in
    let same : use_at (filled p b pool) r ≡ use_at pool r = changed_other pool.uses p r (Full 0) Empty away in
    let off = used-other (filled p b pool) q r (ap is_empty same ∙ used) second in
    let sum = sum_by-append (own_names r) calls (c ∷ []) in (
      omega (
        arith,
        sum,
        none,
        names-cons r c [],
        away-none c.ask r (λ e. away (e ∙ ask)),
        away-none c.answer r (λ e. off (e ∙ answer)),
      ),
      changed_other (filled p b pool).uses q r (Full 0) Empty off ∙ same,
      changed_other (filled p b pool).bufs q r (Some d) None off ∙ changed_other pool.bufs p r (Some b) None away,
    )

front-cons : (q : ActiveCall → Bool) (d : EntryValue) (x c : ActiveCall) (xs : List ActiveCall)
    (b : Bool) → (IsPacketOf (find q xs) d → IsPacketOf (find q (xs ++ c ∷ [])) d)
    → IsPacketOf (cond b (Some x) (find q xs)) d
    → IsPacketOf (cond b (Some x) (find q (xs ++ c ∷ []))) d
front-cons q d x c xs true ih h = h
front-cons q d x c xs false ih h = ih h

pub find-front : (q : ActiveCall → Bool) (d : EntryValue) (cs : List ActiveCall) (c : ActiveCall)
    → IsPacketOf (find q cs) d → IsPacketOf (find q (cs ++ c ∷ [])) d
find-front q d [] c h = absurd h
find-front q d (x ∷ xs) c h = front-cons q d x c xs (q x) (find-front q d xs c) h

-- a packet is posted
held-use : (pool : Pool) (p a : ℕ) (b : Bool) → p ≢ a → use_at (held_at (cond b (Some a) None) pool) p ≡ use_at pool p
held-use pool p a true other = changed_other pool.uses a p (Full (refs_of pool a + 1)) Empty other
held-use pool p a false other = refl

held-buf : (pool : Pool) (p a : ℕ) (b : Bool) → buf_at (held_at (cond b (Some a) None) pool) p ≡ buf_at pool p
held-buf pool p a true = refl
held-buf pool p a false = refl

pub post-leaves : (pool : Pool) (c : ActiveCall) (k : ℕ) (calls : List ActiveCall)
    → find can_post calls ≡ Some c
    → LeavesOthers calls (at_first can_post one_posted calls) pool (held_at (place_of c k) pool)
post-leaves pool c k calls found = λ p none used.
    let away = (found-both can_post c p calls found none).0 in (
      sum-at_first can_post one_posted (own_names p) calls (λ x. refl) ∙ none,
      held-use pool p c.ask _ away,
      held-buf pool p c.ask _,
    )

pub posting-keeps : KeepsPackets one_posted
posting-keeps = record { request = λ c. refl; packets = λ c d n e. (omega (arith, n), e) }

pub leaving-keeps : KeepsPackets one_left
leaving-keeps = record { request = λ c. refl; packets = λ c d n e. (n, e) }

mark-request : (now : ℕ) (c : ActiveCall) (b : Bool) → (cond b (record c { mark = now }) c).request ≡ c.request
mark-request now c true = refl
mark-request now c false = refl

mark-packets : (now : ℕ) (c : ActiveCall) (d : EntryValue) (b : Bool) → d.number < c.posted
    → d.place ≡ place_of c d.number → (d.number < (cond b (record c { mark = now }) c).posted)
    × (d.place ≡ place_of (cond b (record c { mark = now }) c) d.number)
mark-packets now c d true n e = (n, e)
mark-packets now c d false n e = (n, e)

pub marking-keeps : (number now : ℕ) → KeepsPackets (marked number now)
marking-keeps number now =
    record {
      request = λ c. mark-request now (one_left c) _;
      packets = λ c d n e. mark-packets now (one_left c) d _ n e;
    }

mark-names : (p now : ℕ) (c : ActiveCall) (b : Bool)
    → own_names p (cond b (record c { mark = now }) c) ≡ own_names p c
mark-names p now c true = refl
mark-names p now c false = refl

pub marked-own : (p number now : ℕ) (c : ActiveCall) → own_names p (marked number now c) ≡ own_names p c
marked-own p number now c = mark-names p now (one_left c) _

-- and is sent, or taken out unsent
released-use : (pool : Pool) (p : ℕ) (o : Option ℕ) → ((q : ℕ) → o ≡ Some q → p ≢ q)
    → use_at (released_at o pool) p ≡ use_at pool p
released-use pool p None other = refl
released-use pool p (Some q) other = changed_other pool.uses q p (Full (refs_of pool q - 1)) Empty (other q refl)

pub released-buf : (pool : Pool) (p : ℕ) (o : Option ℕ) → buf_at (released_at o pool) p ≡ buf_at pool p
released-buf pool p None = refl
released-buf pool p (Some q) = refl

placed-away : (p q a : ℕ) (b : Bool) → Some q ≡ cond b (Some a) None → p ≢ a → p ≢ q
placed-away p q a true e other = let same : q ≡ a = cc in λ t. other (t ∙ same)
placed-away p q a false e other = cc

module _ (pool : Pool) (s : Session) (e : EntryValue) (test : ActiveCall → Bool)
    (f : ActiveCall → ActiveCall) (same : (p : ℕ) → (c : ActiveCall)
    → own_names p (f c) ≡ own_names p c) where
  gone-cases : (o : Option ActiveCall) → call_of s e ≡ o → IsPacketOf o e
      → LeavesOthers s.active (at_first test f s.active) pool (released_at e.place pool)
  gone-cases None found posted = absurd posted
  gone-cases (Some c) found posted = λ p none used.
      let away = (found-both (is_owner s.number e.owner) c p s.active found none).0 in (
        sum-at_first test f (own_names p) s.active (same p) ∙ none,
        released-use pool p e.place (λ q is. placed-away p q c.ask _ (sym is ∙ posted.1) away),
        released-buf pool p e.place,
      )

  pub gone-leaves : IsPacketOf (call_of s e) e
      → LeavesOthers s.active (at_first test f s.active) pool (released_at e.place pool)
  gone-leaves posted = gone-cases (call_of s e) refl posted

-- a call is rolled back
pub roll-leaves : (pool : Pool) (test : ActiveCall → Bool) (calls : List ActiveCall)
    → LeavesOthers calls (at_first test rolled_call calls) pool pool
roll-leaves pool test calls =
    λ p none used. (
      sum-at_first test rolled_call (own_names p) calls (λ x. refl) ∙ none,
      refl,
      refl,
    )

pub roll-others : (r : ℕ) (s : Session)
    → KeepsOthers r s (record s { active = at_first (is_request r) rolled_call s.active })
roll-others r s = λ e other was. beside (is_request r)
    (is_owner s.number e.owner) rolled_call (λ x. refl)
    (apart-owner s.number r e other) e s.active was

-- a call is over
names-less : (test : ActiveCall → Bool) (p : ℕ) (cs : List ActiveCall) → names p (without_first test cs) ≤ names p cs
names-less test p [] = omega arith
names-less test p (d ∷ cs) = cases (test d) (names-less test p cs)
  where
    cases : (b : Bool) → names p (without_first test cs) ≤ names p cs
        → names p (cond b cs (d ∷ without_first test cs)) ≤ names p (d ∷ cs)
    cases true ih = omega (arith, names-cons p d cs)
    cases false ih = omega (arith, names-cons p d cs, names-cons p d (without_first test cs), ih)

pub end-leaves : (pool : Pool) (test by : ActiveCall → Bool) (c : ActiveCall)
    (calls : List ActiveCall) → find by calls ≡ Some c
    → LeavesOthers calls (without_first test calls) pool (without_buffers c pool)
end-leaves pool test by c calls found = λ p none used.
    let away = found-both by c p calls found none in (
      omega (arith, names-less test p calls, none),
      changed_other (emptied c.ask pool).uses c.answer p Empty Empty away.1
          ∙ changed_other pool.uses c.ask p Empty Empty away.0,
      changed_other (emptied c.ask pool).bufs c.answer p None None away.1
          ∙ changed_other pool.bufs c.ask p None None away.0,
    )

pub end-others : (c : ActiveCall) (s : Session) → KeepsOthers c.request s (without_call c s)
end-others c s = λ e other was. found-left (is_request c.request) (is_owner s.number e.owner)
    (apart-owner s.number c.request e other) e s.active was

-- a part of an answer changes its own buffer alone
module _ (c : ActiveCall) (h : MessageHeader) (body : List ℕ) (pool : Pool) where
  pub written-cases : (p : ℕ) (k : Bool) (o : Option Buffer) → p ≢ c.answer
      → buf_at (cond k (rewritten_at c.answer (with_part c h body) o pool) pool) p ≡ buf_at pool p
  written-cases p true None other = refl
  written-cases p true (Some b) other = changed_other pool.bufs c.answer p (Some (with_part c h body b)) None other
  written-cases p false o other = refl

  uses-cases : (k : Bool) (o : Option Buffer)
      → (cond k (rewritten_at c.answer (with_part c h body) o pool) pool).uses ≡ pool.uses
  uses-cases true None = refl
  uses-cases true (Some b) = refl
  uses-cases false o = refl

  pub answer-leaves : (now : ℕ) (by test : ActiveCall → Bool) (calls : List ActiveCall)
      → find by calls ≡ Some c
      → LeavesOthers calls (at_first test (replied now h) calls) pool (answered c h body pool)
  answer-leaves now by test calls found = λ p none used.
      let away = found-both by c p calls found none in (
        sum-at_first test (replied now h) (own_names p) calls (λ x. refl) ∙ none,
        ap (λ us. get_or us p Empty) (uses-cases (is_response h.kind) (buf_at pool c.answer)),
        written-cases p (is_response h.kind) (buf_at pool c.answer) away.1,
      )

pub reply-keeps : (now : ℕ) (h : MessageHeader) → KeepsPackets (replied now h)
reply-keeps now h = record { request = λ c. refl; packets = λ c d n e. (n, e) }

-- by what a reply did
module _ (now : ℕ) (h : MessageHeader) (body : List ℕ) (s new : Session) (pool after : Pool) where
  pub reply-leaves : (r : Reply) → Replies r now h body s new pool after → LeavesOthers s.active new.active pool after
  reply-leaves Took replies =
      let c = replies.0 in
      let g = replies.1 in
      rw (g.session, g.pool) (answer-leaves c h body pool now (is_request h.request)
      (is_request c.request) s.active g.found)
  reply-leaves (Ended d) replies =
      let c = replies.0 in
      let g = replies.1 in
      rw (g.session, g.pool) (end-leaves pool (is_request c.request) (is_request h.request) c s.active g.found)
  reply-leaves (Dropped why) replies =
      λ p none used. (
        rw replies.0 none,
        ap (λ (x : Pool). use_at x p) replies.1,
        ap (λ (x : Pool). buf_at x p) replies.1,
      )

  pub reply-entries : (r : Reply) → Replies r now h body s new pool after → RepliesKeep r h.request s new
  reply-entries Took replies =
      let c = replies.0 in
      let g = replies.1 in
      λ e was. rw g.session (stays s.number (is_request c.request) (replied now h) (reply-keeps now h) e s.active was)
  reply-entries (Ended d) replies =
      let c = replies.0 in
      let g = replies.1 in
      let same : c.request ≡ h.request =
      eqb-true c.request h.request (find-passes (is_request h.request) s.active c
      g.found) in
      λ e other was. rw g.session (end-others c s e (ap (λ r. is_of (Ask s.number r) e) same ∙ other) was)
  reply-entries (Dropped why) replies = λ e was. rw replies.0 was

-- a call that changes nothing
pub same-still : (s : Session) (pool : Pool) → KeepsPool pool s.active → StillKeepsAll s s pool pool
same-still s pool keeps = record {
  others = λ p none used. (none, refl, refl);
  counts = λ entries counts. counts;
  queued = λ entries counts. counts;
  keeps_pool = keeps;
}

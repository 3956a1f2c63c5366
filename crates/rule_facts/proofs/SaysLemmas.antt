-- A fact that passes the tests of an event is the fact of that event, and no other fact does.
use Rattle.std.proofs.Common.{◌≡◌, ℕ, Bool, true, ◌&&◌, List, []}
use Rattle.std.proofs.Common.{length, refl, sym, ap, ◌∙◌, subst}
use Rattle.std.specs.Prelude.{◌==◌, ◌↔◌, IsTrue, if◌then◌else◌}
use Rattle.std.proofs.lemmas.Bool.{and_from, and_parts, eq-eqb, eqb-true}
use Rattle.node_rules.proofs.NotedLemmas.{no-bytes}
use Rattle.rpc_base.specs.declared.event.Event.{Event}
use Rattle.rpc_base.specs.declared.event.Event.TheVariants.{Heard, Accepted, Declined, Starved}
use Rattle.rpc_base.specs.declared.event.Event.TheVariants.{Connected as IsConnected, FailedNoRoom}
use Rattle.rpc_base.specs.declared.event.Event.TheVariants.{FailedNoAnswer, ClosedHeard, ClosedUnheard, Ended}
use Rattle.rpc_base.specs.declared.event.Event.TheVariants.{Broken as IsBroken, Begun, Posted, Flushed, Took}
use Rattle.rpc_base.specs.declared.event.Event.TheVariants.{Again, Dropped, Given, Rolled, DoneTooSmall}
use Rattle.rpc_base.specs.declared.event.Event.TheVariants.{DonePeerLost, Polled}
use Rattle.rpc_base.specs.declared.fact.Fact.{Fact}
use Rattle.rpc_base.specs.declared.fact.Who.{Who}
use Rattle.rpc_base.specs.declared.fact.Who.TheVariants.{Node, Net}
use Rattle.rpc_base.specs.declared.owner.Owner.{Owner}
use Rattle.rpc_base.specs.declared.owner.Owner.TheVariants.{Ask, Reply, Control}
use Rattle.rpc_base.specs.declared.state.DropReason.{DropReason}
use Rattle.rpc_base.specs.declared.state.DropReason.TheVariants.{StaleLife, NoSession, WrongPeer, Old, NotFirst}
use Rattle.rpc_base.specs.declared.state.DropReason.TheVariants.{Working, Unserved, JobsFull, NoMemory}
use Rattle.rpc_base.specs.declared.state.DropReason.TheVariants.{Mismatch, Ahead, Beyond, NoCall, Past}
use Rattle.rpc_base.specs.declared.state.DropReason.TheVariants.{Queued}
use Rattle.rpc_base.specs.Owners.{same_owner}
use Rattle.rpc_laws.specs.Facts.{plain}
use Rattle.rule_facts.specs.Tells.{is_node, is_plain, is_reason, reason_number, tells_accepted, tells_again}
use Rattle.rule_facts.specs.Tells.{tells_begun, tells_broken, tells_closed_heard, tells_closed_unheard}
use Rattle.rule_facts.specs.Tells.{tells_connected, tells_declined, tells_done_peer_lost, tells_done_too_small}
use Rattle.rule_facts.specs.Tells.{tells_dropped, tells_ended, tells_failed_no_answer, tells_failed_no_room}
use Rattle.rule_facts.specs.Tells.{tells_flushed, tells_given, tells_heard, tells_polled, tells_posted}
use Rattle.rule_facts.specs.Tells.{tells_rolled, tells_starved, tells_took}

pub own-node : (me : ℕ) (who : Who) → is_node me who ≡ true → who ≡ Node me
own-node me (Node n) e = ap (λ (k : ℕ). Node k) (eqb-true n me e)
own-node me Net e = cc

-- a fact with no bytes is that of its event
plain-is : (me : ℕ) (f : Fact) (e : Event) → is_plain me f ≡ true → f.event ≡ e → f ≡ plain me e
plain-is me f e h k =
    let parts = and_parts (is_node me f.who) ((length f.first == 0) && (length f.second == 0)) h in
    let rest = and_parts (length f.first == 0) (length f.second == 0) parts.1 in
    let own : f ≡ record f { who = Node me } =
    ap (λ (w : Who). record f { who = w }) (own-node me f.who parts.0) in
    let first : f ≡ record f { who = Node me; first = [] } =
    own ∙ ap (λ (xs : List ℕ). record f { who = Node me; first = xs }) (no-bytes f.first rest.0) in
    let second : f ≡ record f { who = Node me; first = []; second = [] } =
    first ∙ ap (λ (xs : List ℕ). record f { who = Node me; first = []; second = xs }) (no-bytes f.second rest.1) in
    second ∙ ap (plain me) k

is-plain : (me : ℕ) (e : Event) → is_plain me (plain me e) ≡ true
is-plain me e = and_from (me == me) true (eq-eqb me me refl) refl

-- so is a fact whose event passes a test that this event alone passes
says-by : (me : ℕ) (f : Fact) (e : Event) (test : Event → Bool) → ((x : Event) → test x ≡ true → x ≡ e)
    → test e ≡ true → IsTrue (is_plain me f && test f.event) ↔ (f ≡ plain me e)
says-by me f e test alone own = (
  λ h. let parts = and_parts (is_plain me f) (test f.event) h in
      plain-is me f e parts.0 (alone f.event parts.1),
  λ q. subst (λ (z : Fact). (is_plain me z && test z.event) ≡ true) (sym q)
      (and_from _ _ (is-plain me e) own),
)

pub same-owner : (x y : Owner) → same_owner x y ≡ true → x ≡ y
same-owner (Ask s r) (Ask t q) e =
    let parts = and_parts (s == t) (r == q) e in
    let one : s ≡ t = eqb-true s t parts.0 in
    let two : r ≡ q = eqb-true r q parts.1 in
    rw (one, two) refl
same-owner (Ask s r) (Reply t q) e = cc
same-owner (Ask s r) Control e = cc
same-owner (Reply s r) (Reply t q) e =
    let parts = and_parts (s == t) (r == q) e in
    let one : s ≡ t = eqb-true s t parts.0 in
    let two : r ≡ q = eqb-true r q parts.1 in
    rw (one, two) refl
same-owner (Reply s r) (Ask t q) e = cc
same-owner (Reply s r) Control e = cc
same-owner Control Control e = refl
same-owner Control (Ask t q) e = cc
same-owner Control (Reply t q) e = cc

pub own-owner : (x : Owner) → same_owner x x ≡ true
own-owner (Ask s r) = and_from (s == s) (r == r) (eq-eqb s s refl) (eq-eqb r r refl)
own-owner (Reply s r) = and_from (s == s) (r == r) (eq-eqb s s refl) (eq-eqb r r refl)
own-owner Control = refl

reason_back : ℕ → DropReason
reason_back n =
    if n == 0 then StaleLife
    else (if n == 1 then NoSession
    else (if n == 2 then WrongPeer
    else (if n == 3 then Old
    else (if n == 4 then NotFirst
    else (if n == 5 then Working
    else (if n == 6 then Unserved
    else (if n == 7 then JobsFull
    else (if n == 8 then NoMemory
    else (if n == 9 then Mismatch
    else (if n == 10 then Ahead
    else (if n == 11 then Beyond
    else (if n == 12 then NoCall
    else (if n == 13 then Past
    else Queued)))))))))))))

reason-told : (x : DropReason) → reason_back (reason_number x) ≡ x
unfolding reason_back
reason-told StaleLife = refl
reason-told NoSession = refl
reason-told WrongPeer = refl
reason-told Old = refl
reason-told NotFirst = refl
reason-told Working = refl
reason-told Unserved = refl
reason-told JobsFull = refl
reason-told NoMemory = refl
reason-told Mismatch = refl
reason-told Ahead = refl
reason-told Beyond = refl
reason-told NoCall = refl
reason-told Past = refl
reason-told Queued = refl

same-reason : (x y : DropReason) → is_reason x y ≡ true → x ≡ y
same-reason x y e =
    sym (reason-told x) ∙ (ap reason_back (eqb-true (reason_number x) (reason_number y) e) ∙ reason-told y)

own-reason : (x : DropReason) → is_reason x x ≡ true
own-reason x = eq-eqb (reason_number x) (reason_number x) refl

heard-event : (x : Event) → tells_heard x ≡ true → x ≡ Heard
heard-event Heard e = refl
heard-event _ e = cc

pub says-heard : (me : ℕ) (f : Fact)
    → IsTrue (is_plain me f && tells_heard f.event) ↔ (f ≡ plain me Heard)
says-heard me f =
    says-by me f Heard tells_heard heard-event refl

accepted-event : (s p t n w : ℕ) (x : Event) → tells_accepted s p t n w x ≡ true → x ≡ Accepted s p t n w
accepted-event s p t n w (Accepted x0 x1 x2 x3 x4) e =
    let p0 = and_parts (x0 == s) ((x1 == p) && ((x2 == t) && ((x3 == n) && (x4 == w)))) e in
    let e0 : x0 ≡ s = eqb-true x0 s p0.0 in
    let p1 = and_parts (x1 == p) ((x2 == t) && ((x3 == n) && (x4 == w))) p0.1 in
    let e1 : x1 ≡ p = eqb-true x1 p p1.0 in
    let p2 = and_parts (x2 == t) ((x3 == n) && (x4 == w)) p1.1 in
    let e2 : x2 ≡ t = eqb-true x2 t p2.0 in
    let p3 = and_parts (x3 == n) (x4 == w) p2.1 in
    let e3 : x3 ≡ n = eqb-true x3 n p3.0 in
    let e4 : x4 ≡ w = eqb-true x4 w p3.1 in
    rw (e0, e1, e2, e3, e4) refl
accepted-event s p t n w _ e = cc

pub says-accepted : (me : ℕ) (s p t n w : ℕ) (f : Fact)
    → IsTrue (is_plain me f && tells_accepted s p t n w f.event) ↔ (f ≡ plain me (Accepted s p t n w))
says-accepted me s p t n w f =
    says-by me f (Accepted s p t n w) (tells_accepted s p t n w) (accepted-event s p t n w)
    (and_from _ _ (eq-eqb s s refl) (and_from _ _ (eq-eqb p p refl) (and_from _ _ (eq-eqb t t refl)
    (and_from _ _ (eq-eqb n n refl) (eq-eqb w w refl)))))

declined-event : (p t n : ℕ) (x : Event) → tells_declined p t n x ≡ true → x ≡ Declined p t n
declined-event p t n (Declined x0 x1 x2) e =
    let p0 = and_parts (x0 == p) ((x1 == t) && (x2 == n)) e in
    let e0 : x0 ≡ p = eqb-true x0 p p0.0 in
    let p1 = and_parts (x1 == t) (x2 == n) p0.1 in
    let e1 : x1 ≡ t = eqb-true x1 t p1.0 in
    let e2 : x2 ≡ n = eqb-true x2 n p1.1 in
    rw (e0, e1, e2) refl
declined-event p t n _ e = cc

pub says-declined : (me : ℕ) (p t n : ℕ) (f : Fact)
    → IsTrue (is_plain me f && tells_declined p t n f.event) ↔ (f ≡ plain me (Declined p t n))
says-declined me p t n f =
    says-by me f (Declined p t n) (tells_declined p t n) (declined-event p t n)
    (and_from _ _ (eq-eqb p p refl) (and_from _ _ (eq-eqb t t refl) (eq-eqb n n refl)))

starved-event : (p t n : ℕ) (x : Event) → tells_starved p t n x ≡ true → x ≡ Starved p t n
starved-event p t n (Starved x0 x1 x2) e =
    let p0 = and_parts (x0 == p) ((x1 == t) && (x2 == n)) e in
    let e0 : x0 ≡ p = eqb-true x0 p p0.0 in
    let p1 = and_parts (x1 == t) (x2 == n) p0.1 in
    let e1 : x1 ≡ t = eqb-true x1 t p1.0 in
    let e2 : x2 ≡ n = eqb-true x2 n p1.1 in
    rw (e0, e1, e2) refl
starved-event p t n _ e = cc

pub says-starved : (me : ℕ) (p t n : ℕ) (f : Fact)
    → IsTrue (is_plain me f && tells_starved p t n f.event) ↔ (f ≡ plain me (Starved p t n))
says-starved me p t n f =
    says-by me f (Starved p t n) (tells_starved p t n) (starved-event p t n)
    (and_from _ _ (eq-eqb p p refl) (and_from _ _ (eq-eqb t t refl) (eq-eqb n n refl)))

connected-event : (s t w : ℕ) (x : Event) → tells_connected s t w x ≡ true → x ≡ IsConnected s t w
connected-event s t w (IsConnected x0 x1 x2) e =
    let p0 = and_parts (x0 == s) ((x1 == t) && (x2 == w)) e in
    let e0 : x0 ≡ s = eqb-true x0 s p0.0 in
    let p1 = and_parts (x1 == t) (x2 == w) p0.1 in
    let e1 : x1 ≡ t = eqb-true x1 t p1.0 in
    let e2 : x2 ≡ w = eqb-true x2 w p1.1 in
    rw (e0, e1, e2) refl
connected-event s t w _ e = cc

pub says-connected : (me : ℕ) (s t w : ℕ) (f : Fact)
    → IsTrue (is_plain me f && tells_connected s t w f.event) ↔ (f ≡ plain me (IsConnected s t w))
says-connected me s t w f =
    says-by me f (IsConnected s t w) (tells_connected s t w) (connected-event s t w)
    (and_from _ _ (eq-eqb s s refl) (and_from _ _ (eq-eqb t t refl) (eq-eqb w w refl)))

failed-no-room-event : (s : ℕ) (x : Event) → tells_failed_no_room s x ≡ true → x ≡ FailedNoRoom s
failed-no-room-event s (FailedNoRoom x0) e =
    let e0 : x0 ≡ s = eqb-true x0 s e in
    rw e0 refl
failed-no-room-event s _ e = cc

pub says-failed-no-room : (me : ℕ) (s : ℕ) (f : Fact)
    → IsTrue (is_plain me f && tells_failed_no_room s f.event) ↔ (f ≡ plain me (FailedNoRoom s))
says-failed-no-room me s f =
    says-by me f (FailedNoRoom s) (tells_failed_no_room s) (failed-no-room-event s) (eq-eqb s s refl)

failed-no-answer-event : (s : ℕ) (x : Event) → tells_failed_no_answer s x ≡ true → x ≡ FailedNoAnswer s
failed-no-answer-event s (FailedNoAnswer x0) e =
    let e0 : x0 ≡ s = eqb-true x0 s e in
    rw e0 refl
failed-no-answer-event s _ e = cc

pub says-failed-no-answer : (me : ℕ) (s : ℕ) (f : Fact)
    → IsTrue (is_plain me f && tells_failed_no_answer s f.event) ↔ (f ≡ plain me (FailedNoAnswer s))
says-failed-no-answer me s f =
    says-by me f (FailedNoAnswer s) (tells_failed_no_answer s) (failed-no-answer-event s) (eq-eqb s s refl)

closed-heard-event : (s : ℕ) (x : Event) → tells_closed_heard s x ≡ true → x ≡ ClosedHeard s
closed-heard-event s (ClosedHeard x0) e =
    let e0 : x0 ≡ s = eqb-true x0 s e in
    rw e0 refl
closed-heard-event s _ e = cc

pub says-closed-heard : (me : ℕ) (s : ℕ) (f : Fact)
    → IsTrue (is_plain me f && tells_closed_heard s f.event) ↔ (f ≡ plain me (ClosedHeard s))
says-closed-heard me s f =
    says-by me f (ClosedHeard s) (tells_closed_heard s) (closed-heard-event s) (eq-eqb s s refl)

closed-unheard-event : (s : ℕ) (x : Event) → tells_closed_unheard s x ≡ true → x ≡ ClosedUnheard s
closed-unheard-event s (ClosedUnheard x0) e =
    let e0 : x0 ≡ s = eqb-true x0 s e in
    rw e0 refl
closed-unheard-event s _ e = cc

pub says-closed-unheard : (me : ℕ) (s : ℕ) (f : Fact)
    → IsTrue (is_plain me f && tells_closed_unheard s f.event) ↔ (f ≡ plain me (ClosedUnheard s))
says-closed-unheard me s f =
    says-by me f (ClosedUnheard s) (tells_closed_unheard s) (closed-unheard-event s) (eq-eqb s s refl)

ended-event : (s : ℕ) (x : Event) → tells_ended s x ≡ true → x ≡ Ended s
ended-event s (Ended x0) e =
    let e0 : x0 ≡ s = eqb-true x0 s e in
    rw e0 refl
ended-event s _ e = cc

pub says-ended : (me : ℕ) (s : ℕ) (f : Fact)
    → IsTrue (is_plain me f && tells_ended s f.event) ↔ (f ≡ plain me (Ended s))
says-ended me s f =
    says-by me f (Ended s) (tells_ended s) (ended-event s) (eq-eqb s s refl)

broken-event : (s : ℕ) (x : Event) → tells_broken s x ≡ true → x ≡ IsBroken s
broken-event s (IsBroken x0) e =
    let e0 : x0 ≡ s = eqb-true x0 s e in
    rw e0 refl
broken-event s _ e = cc

pub says-broken : (me : ℕ) (s : ℕ) (f : Fact)
    → IsTrue (is_plain me f && tells_broken s f.event) ↔ (f ≡ plain me (IsBroken s))
says-broken me s f =
    says-by me f (IsBroken s) (tells_broken s) (broken-event s) (eq-eqb s s refl)

begun-event : (c r : ℕ) (x : Event) → tells_begun c r x ≡ true → x ≡ Begun c r
begun-event c r (Begun x0 x1) e =
    let p0 = and_parts (x0 == c) (x1 == r) e in
    let e0 : x0 ≡ c = eqb-true x0 c p0.0 in
    let e1 : x1 ≡ r = eqb-true x1 r p0.1 in
    rw (e0, e1) refl
begun-event c r _ e = cc

pub says-begun : (me : ℕ) (c r : ℕ) (f : Fact)
    → IsTrue (is_plain me f && tells_begun c r f.event) ↔ (f ≡ plain me (Begun c r))
says-begun me c r f =
    says-by me f (Begun c r) (tells_begun c r) (begun-event c r)
    (and_from _ _ (eq-eqb c c refl) (eq-eqb r r refl))

posted-event : (o : Owner) (k : ℕ) (x : Event) → tells_posted o k x ≡ true → x ≡ Posted o k
posted-event o k (Posted x0 x1) e =
    let p0 = and_parts (same_owner x0 o) (x1 == k) e in
    let e0 : x0 ≡ o = same-owner x0 o p0.0 in
    let e1 : x1 ≡ k = eqb-true x1 k p0.1 in
    rw (e0, e1) refl
posted-event o k _ e = cc

pub says-posted : (me : ℕ) (o : Owner) (k : ℕ) (f : Fact)
    → IsTrue (is_plain me f && tells_posted o k f.event) ↔ (f ≡ plain me (Posted o k))
says-posted me o k f =
    says-by me f (Posted o k) (tells_posted o k) (posted-event o k)
    (and_from _ _ (own-owner o) (eq-eqb k k refl))

flushed-event : (o : Owner) (k : ℕ) (x : Event) → tells_flushed o k x ≡ true → x ≡ Flushed o k
flushed-event o k (Flushed x0 x1) e =
    let p0 = and_parts (same_owner x0 o) (x1 == k) e in
    let e0 : x0 ≡ o = same-owner x0 o p0.0 in
    let e1 : x1 ≡ k = eqb-true x1 k p0.1 in
    rw (e0, e1) refl
flushed-event o k _ e = cc

pub says-flushed : (me : ℕ) (o : Owner) (k : ℕ) (f : Fact)
    → IsTrue (is_plain me f && tells_flushed o k f.event) ↔ (f ≡ plain me (Flushed o k))
says-flushed me o k f =
    says-by me f (Flushed o k) (tells_flushed o k) (flushed-event o k)
    (and_from _ _ (own-owner o) (eq-eqb k k refl))

took-event : (o : Owner) (k : ℕ) (x : Event) → tells_took o k x ≡ true → x ≡ Took o k
took-event o k (Took x0 x1) e =
    let p0 = and_parts (same_owner x0 o) (x1 == k) e in
    let e0 : x0 ≡ o = same-owner x0 o p0.0 in
    let e1 : x1 ≡ k = eqb-true x1 k p0.1 in
    rw (e0, e1) refl
took-event o k _ e = cc

pub says-took : (me : ℕ) (o : Owner) (k : ℕ) (f : Fact)
    → IsTrue (is_plain me f && tells_took o k f.event) ↔ (f ≡ plain me (Took o k))
says-took me o k f =
    says-by me f (Took o k) (tells_took o k) (took-event o k) (and_from _ _ (own-owner o) (eq-eqb k k refl))

again-event : (o : Owner) (k : ℕ) (x : Event) → tells_again o k x ≡ true → x ≡ Again o k
again-event o k (Again x0 x1) e =
    let p0 = and_parts (same_owner x0 o) (x1 == k) e in
    let e0 : x0 ≡ o = same-owner x0 o p0.0 in
    let e1 : x1 ≡ k = eqb-true x1 k p0.1 in
    rw (e0, e1) refl
again-event o k _ e = cc

pub says-again : (me : ℕ) (o : Owner) (k : ℕ) (f : Fact)
    → IsTrue (is_plain me f && tells_again o k f.event) ↔ (f ≡ plain me (Again o k))
says-again me o k f =
    says-by me f (Again o k) (tells_again o k) (again-event o k)
    (and_from _ _ (own-owner o) (eq-eqb k k refl))

dropped-event : (why : DropReason) (x : Event) → tells_dropped why x ≡ true → x ≡ Dropped why
dropped-event why (Dropped x0) e =
    let e0 : x0 ≡ why = same-reason x0 why e in
    rw e0 refl
dropped-event why _ e = cc

pub says-dropped : (me : ℕ) (why : DropReason) (f : Fact)
    → IsTrue (is_plain me f && tells_dropped why f.event) ↔ (f ≡ plain me (Dropped why))
says-dropped me why f =
    says-by me f (Dropped why) (tells_dropped why) (dropped-event why) (own-reason why)

given-event : (s r : ℕ) (x : Event) → tells_given s r x ≡ true → x ≡ Given s r
given-event s r (Given x0 x1) e =
    let p0 = and_parts (x0 == s) (x1 == r) e in
    let e0 : x0 ≡ s = eqb-true x0 s p0.0 in
    let e1 : x1 ≡ r = eqb-true x1 r p0.1 in
    rw (e0, e1) refl
given-event s r _ e = cc

pub says-given : (me : ℕ) (s r : ℕ) (f : Fact)
    → IsTrue (is_plain me f && tells_given s r f.event) ↔ (f ≡ plain me (Given s r))
says-given me s r f =
    says-by me f (Given s r) (tells_given s r) (given-event s r)
    (and_from _ _ (eq-eqb s s refl) (eq-eqb r r refl))

rolled-event : (c k g : ℕ) (x : Event) → tells_rolled c k g x ≡ true → x ≡ Rolled c k g
rolled-event c k g (Rolled x0 x1 x2) e =
    let p0 = and_parts (x0 == c) ((x1 == k) && (x2 == g)) e in
    let e0 : x0 ≡ c = eqb-true x0 c p0.0 in
    let p1 = and_parts (x1 == k) (x2 == g) p0.1 in
    let e1 : x1 ≡ k = eqb-true x1 k p1.0 in
    let e2 : x2 ≡ g = eqb-true x2 g p1.1 in
    rw (e0, e1, e2) refl
rolled-event c k g _ e = cc

pub says-rolled : (me : ℕ) (c k g : ℕ) (f : Fact)
    → IsTrue (is_plain me f && tells_rolled c k g f.event) ↔ (f ≡ plain me (Rolled c k g))
says-rolled me c k g f =
    says-by me f (Rolled c k g) (tells_rolled c k g) (rolled-event c k g)
    (and_from _ _ (eq-eqb c c refl) (and_from _ _ (eq-eqb k k refl) (eq-eqb g g refl)))

done-too-small-event : (c n : ℕ) (x : Event) → tells_done_too_small c n x ≡ true → x ≡ DoneTooSmall c n
done-too-small-event c n (DoneTooSmall x0 x1) e =
    let p0 = and_parts (x0 == c) (x1 == n) e in
    let e0 : x0 ≡ c = eqb-true x0 c p0.0 in
    let e1 : x1 ≡ n = eqb-true x1 n p0.1 in
    rw (e0, e1) refl
done-too-small-event c n _ e = cc

pub says-done-too-small : (me : ℕ) (c n : ℕ) (f : Fact)
    → IsTrue (is_plain me f && tells_done_too_small c n f.event) ↔ (f ≡ plain me (DoneTooSmall c n))
says-done-too-small me c n f =
    says-by me f (DoneTooSmall c n) (tells_done_too_small c n) (done-too-small-event c n)
    (and_from _ _ (eq-eqb c c refl) (eq-eqb n n refl))

done-peer-lost-event : (c : ℕ) (x : Event) → tells_done_peer_lost c x ≡ true → x ≡ DonePeerLost c
done-peer-lost-event c (DonePeerLost x0) e =
    let e0 : x0 ≡ c = eqb-true x0 c e in
    rw e0 refl
done-peer-lost-event c _ e = cc

pub says-done-peer-lost : (me : ℕ) (c : ℕ) (f : Fact)
    → IsTrue (is_plain me f && tells_done_peer_lost c f.event) ↔ (f ≡ plain me (DonePeerLost c))
says-done-peer-lost me c f =
    says-by me f (DonePeerLost c) (tells_done_peer_lost c) (done-peer-lost-event c) (eq-eqb c c refl)

polled-event : (now : ℕ) (x : Event) → tells_polled now x ≡ true → x ≡ Polled now
polled-event now (Polled x0) e =
    let e0 : x0 ≡ now = eqb-true x0 now e in
    rw e0 refl
polled-event now _ e = cc

pub says-polled : (me : ℕ) (now : ℕ) (f : Fact)
    → IsTrue (is_plain me f && tells_polled now f.event) ↔ (f ≡ plain me (Polled now))
says-polled me now f =
    says-by me f (Polled now) (tells_polled now) (polled-event now) (eq-eqb now now refl)

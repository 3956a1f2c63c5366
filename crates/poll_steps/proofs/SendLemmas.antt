-- A fact that says that the front of the queue was sent, and steps that stop before the first fact of another kind.
use Rattle.std.proofs.Common.{◌≡◌, ◌+◌, ℕ, suc, Bool, true, false, Option, Some, None, List, [], ◌∷◌}
use Rattle.std.proofs.Common.{◌++◌, length, take, drop, refl, sym, ap, ◌∙◌, subst, arith, slice_get}
use Rattle.std.specs.Prelude.{◌↔◌, IsTrue}
use Rattle.rpc_base.specs.declared.event.Event.{Event}
use Rattle.rpc_base.specs.declared.event.Event.TheVariants.{Sent}
use Rattle.rpc_base.specs.declared.fact.Fact.{Fact}
use Rattle.rpc_laws.specs.declared.tables.Lists.{Lists}
use Rattle.rpc_laws.specs.declared.tables.Outgoing.{Outgoing}
use Rattle.rpc_laws.specs.declared.tables.Queued.{Queued}
use Rattle.rpc_laws.specs.declared.tables.Timed.{Timed}
use Rattle.rpc_laws.specs.Facts.{with_two}
use Rattle.rpc_laws.specs.NodeLists.{after}
use Rattle.rpc_laws.specs.Packets.{outgoing}
use Rattle.rpc_laws.specs.PollOrder.{Sends}
use Rattle.rpc_laws.specs.Queues.{is_due}
use Rattle.front_laws.proofs.OneWayLemmas.{goes-one, OneWay}
use Rattle.front_laws.proofs.PhaseLemmas.{one-front}
use Rattle.rule_facts.specs.Heads.{IsSpelled}
use Rattle.node_rules.specs.SingleFacts.{at_clock}
use Rattle.poll_steps.specs.Sending.{IsSentAs, IsSentIf}
use Rattle.poll_steps.specs.Steps.{AreSteps, begins_with, is_sent, NoFront, Stops}
use Rattle.poll_steps.proofs.ChainLemmas.{Leads, leads-more, leads-stuck}
use Rattle.poll_steps.proofs.PostLemmas.{drop-at}

pub sends-one : OneWay Sends
sends-one s x y r q t u h k e =
    goes-one s x y t u h.goes k.goes (one-front _ _ x y r q h.facts k.facts e)

-- the kind of the fact at a place
pub kind-at : (test : Event → Bool) (facts : List Fact) (n : ℕ) (f : Fact) → slice_get facts n ≡ Some f
    → test f.event ≡ begins_with test (drop n facts)
kind-at test facts n f at = sym (ap (begins_with test) (drop-at facts n f at))

-- steps don't stop before a fact of their kind
pub goes-on : (test : Event → Bool) (t : Timed) (rest : List Fact) → begins_with test rest ≡ true
    → Stops test t rest → ⊥
goes-on test t rest e over = let clash : true ≡ false = sym e ∙ over in cc

sent-goes : (clock : ℕ) (s : Lists) (q : Queued) (f : Fact) (o : Option Outgoing) → outgoing s q ≡ o
    → slice_get s.queued 0 ≡ Some q → is_due clock q.due ≡ true → IsSentIf s.me q o f
    → Sends (at_clock clock s) (f ∷ []) (at_clock clock (after clock s f))
sent-goes clock s q f None e at due h = absurd h
sent-goes clock s q f (Some out) e at due h = record {
  entry = q;
  is_front = at;
  ready = due;
  out = out;
  packet = e;
  head = f.first;
  in_range = h.spelled.0;
  has_head = h.spelled.1.2;
  long = h.spelled.1.1;
  bytes = h.spelled.1.0;
  facts = ap (λ (z : Fact). z ∷ []) h.told;
  goes = refl;
}

goes-sent : (clock : ℕ) (s : Lists) (q : Queued) (f : Fact) (t : Timed) → slice_get s.queued 0 ≡ Some q
    → Sends (at_clock clock s) (f ∷ []) t → IsSentIf s.me q (outgoing s q) f
goes-sent clock s q f t at h =
    let front : Some h.entry ≡ Some q = sym h.is_front ∙ at in
    let same : h.entry ≡ q = cc in
    let told : Fact = with_two s.me (Sent h.out.peer h.entry.owner h.entry.number) h.head h.out.body in
    let whole : f ∷ [] ≡ told ∷ [] = h.facts in
    let is : f ≡ told = cc in
    let head : f.first ≡ h.head = ap (λ (g : Fact). g.first) is in
    let sent : IsSentAs s.me h.entry h.out f =
    record {
      told =
          is ∙ ap (λ (z : List ℕ). with_two s.me (Sent h.out.peer h.entry.owner h.entry.number) z h.out.body) (sym head);
      spelled =
          subst (λ (z : List ℕ). IsSpelled h.out.packet z) (sym head)
          (h.in_range, (h.bytes, h.long, h.has_head));
    } in
    let own : IsSentIf s.me h.entry (outgoing s h.entry) f =
    subst (λ (o : Option Outgoing). IsSentIf s.me h.entry o f) (sym h.packet) sent in
    subst (λ (z : Queued). IsSentIf s.me z (outgoing s z) f) same own

pub sends-is : (clock : ℕ) (s : Lists) (q : Queued) (f : Fact) (b : Bool) → slice_get s.queued 0 ≡ Some q
    → is_due clock q.due ≡ true → IsTrue b ↔ IsSentIf s.me q (outgoing s q) f
    → IsTrue b ↔ Sends (at_clock clock s) (f ∷ []) (at_clock clock (after clock s f))
sends-is clock s q f b at due h = (
  λ yes. sent-goes clock s q f (outgoing s q) refl at due (h.0 yes),
  λ k. h.1 (goes-sent clock s q f (at_clock clock (after clock s f)) at k),
)

-- a fact that isn't so is none of the queue's
pub unsent : (clock : ℕ) (s : Lists) (facts : List Fact) (n : ℕ) (f : Fact) → slice_get facts n ≡ Some f
    → (Sends (at_clock clock s) (f ∷ []) (at_clock clock (after clock s f)) → ⊥)
    → NoFront Sends (at_clock clock s) (drop n facts)
unsent clock s facts n f at differs x t begins h =
    let told : Fact = with_two s.me (Sent h.out.peer h.entry.owner h.entry.number) h.head h.out.body in
    let both : f ∷ drop (suc n) facts ≡ told ∷ begins.rest =
    sym (drop-at facts n f at) ∙ (begins.parted ∙ ap (λ (z : List Fact). z ++ begins.rest) h.facts) in
    let same : f ≡ told = cc in
    let one : x ≡ f ∷ [] = h.facts ∙ ap (λ (z : Fact). z ∷ []) (sym same) in
    let sent : Sends (at_clock clock s) (f ∷ []) t = subst (λ (z : List Fact). Sends (at_clock clock s) z t) one h in
    differs (subst (λ (z : Timed). Sends (at_clock clock s) (f ∷ []) z) sent.goes sent)

-- one packet more was sent
pub sends-more : (s : Timed) (clock : ℕ) (facts : List Fact) (n : ℕ) (old new : Lists) (f : Fact)
    → Leads Sends (Stops is_sent) s facts n (at_clock clock old) → slice_get facts n ≡ Some f
    → begins_with is_sent (drop n facts) ≡ true
    → Sends (at_clock clock old) (f ∷ []) (at_clock clock (after clock old f)) → new ≡ after clock old f
    → Leads Sends (Stops is_sent) s facts (n + 1) (at_clock clock new)
sends-more s clock facts n old new f h at kind sent e =
    let found = drop-at facts n f at in
    let one : take 1 (drop n facts) ≡ f ∷ [] = ap (take 1) found in
    let long : length (drop n facts) ≡ suc (length (drop (suc n) facts)) = ap length found in
    let step : Sends (at_clock clock old) (take 1 (drop n facts)) (at_clock clock new) = rw (one, e) sent in
    leads-more Sends (Stops is_sent) sends-one s facts n 1 (at_clock clock old) (at_clock clock new) h
    (omega (arith, long)) step (goes-on is_sent (at_clock clock old) (drop n facts) kind)

pub sends-stuck : (s : Timed) (clock : ℕ) (facts : List Fact) (n : ℕ) (lists : Lists) (f : Fact) (v : Timed)
    → Leads Sends (Stops is_sent) s facts n (at_clock clock lists) → slice_get facts n ≡ Some f
    → begins_with is_sent (drop n facts) ≡ true
    → (Sends (at_clock clock lists) (f ∷ []) (at_clock clock (after clock lists f)) → ⊥)
    → AreSteps Sends (Stops is_sent) s facts v None
sends-stuck s clock facts n lists f v h at kind differs =
    leads-stuck Sends (Stops is_sent) s facts n (at_clock clock lists) v h
    (goes-on is_sent (at_clock clock lists) (drop n facts) kind) (unsent clock lists facts n f at differs)

-- A server session that is over has no reply queued, and none is posted later.
use Rattle.std.proofs.Common.{◌≡◌, ℕ, ◌≤◌, Bool, true, false, ◌||◌, cond, List, [], ◌∷◌, refl, arith}
use Rattle.std.specs.List.{list_any}
use Rattle.std.proofs.lemmas.Bool.{eqb-true, eq-eqb}
use Rattle.rpc_base.specs.Owners.{same_owner}
use Rattle.rpc_base.specs.declared.event.Event.{Event}
use Rattle.rpc_base.specs.declared.event.Event.TheVariants.{Ended}
use Rattle.rpc_base.specs.declared.fact.Fact.{Fact}
use Rattle.rpc_base.specs.declared.owner.Owner.{Owner}
use Rattle.rpc_base.specs.declared.owner.Owner.TheVariants.{Ask, Reply, Control}
use Rattle.rpc_laws.specs.declared.tables.Lists.{Lists}
use Rattle.rpc_laws.specs.declared.tables.Queued.{Queued}
use Rattle.rpc_laws.specs.Front.{front_header, front_body}
use Rattle.rpc_laws.specs.NodeLists.{after, new_lists}
use Rattle.node_laws.specs.EndedCalls.{queued_by}
use Rattle.node_laws.specs.EndedSessions.{ends_session, is_reply_of, LeavesNone, SessionsEndClean}
use Rattle.node_laws.specs.Laws.{EndedSessionsAreNotQueued}
use Rattle.node_laws.proofs.Allowed.{Allowed, NoneQueued, Leads}
use Rattle.node_laws.proofs.EndsLemmas.{standing, ends-after, never-posted}
use Rattle.node_laws.proofs.OlderLaws.{Knows, knows-after, knows-new}
use Rattle.node_laws.proofs.PutLemmas.{alike-no-more}
use Rattle.node_laws.proofs.QueueLemmas.{none-stays}
use Rattle.node_laws.proofs.RunLaws.{run_leads}
use Rattle.node_laws.proofs.StandLemmas.{over-unqueued}

-- no reply of session t to any request
module _ (t : ℕ) where
  own-owner : (o : Owner) → is_reply_of t o ≡ true → (r : ℕ) × (same_owner o (Reply t r) ≡ true)
  own-owner (Ask s k) e = cc
  own-owner Control e = cc
  own-owner (Reply n k) e = (k, rw (e, eq-eqb k k refl) refl)

  none-by : (q : Queued) (qs : List Queued) (b : Bool) → is_reply_of t q.owner ≡ b
      → ((r : ℕ) → NoneQueued (Reply t r) (q ∷ qs))
      → list_any (λ p. is_reply_of t p.owner) qs ≡ false
      → (b || list_any (λ p. is_reply_of t p.owner) qs) ≡ false
  none-by q qs true e none rest =
      let own = own-owner q.owner e in
      let here = none own.0 in
      absurd (both (same_owner q.owner (Reply t own.0))
      (list_any (λ p. same_owner p.owner (Reply t own.0)) qs) own.1 here)
    where
      both : (b c : Bool) → b ≡ true → (b || c) ≡ false → ⊥
      both true c e h = cc
      both false c e h = cc
  none-by q qs false e none rest = rest

  rest-none : (q : Queued) (qs : List Queued) → ((r : ℕ) → NoneQueued (Reply t r) (q ∷ qs))
      → (r : ℕ) → NoneQueued (Reply t r) qs
  rest-none q qs none r = by (same_owner q.owner (Reply t r)) (none r)
    where
      by : (b : Bool) → (b || list_any (λ p. same_owner p.owner (Reply t r)) qs) ≡ false
          → list_any (λ p. same_owner p.owner (Reply t r)) qs ≡ false
      by true h = cc
      by false h = h

  pub none-of : (qs : List Queued) → ((r : ℕ) → NoneQueued (Reply t r) qs)
      → list_any (λ q. is_reply_of t q.owner) qs ≡ false
  none-of [] none = refl
  none-of (q ∷ qs) none =
      none-by q qs (is_reply_of t q.owner) refl none (none-of qs (rest-none q qs none))

-- an event that ends it
ended-clean : (t : ℕ) (e : Event) (past : List Fact) (s : Lists) → Knows past s → Allowed s e
    → ends_session t e ≡ true → (r : ℕ) → NoneQueued (Reply t r) s.queued
ended-clean t (Ended n) past s k a e r =
    let same : n ≡ t = eqb-true n t e in rw (← same) (over-unqueued s k.valid k.standing n a r)
ended-clean t _ past s k a e r = cc

leaves-none : (clock : ℕ) (past : List Fact) (s : Lists) (f : Fact) (g : List Fact) (u : Lists)
    → Knows past s → Allowed s f.event → Leads (after clock s f) g u → (t : ℕ)
    → ends_session t f.event ≡ true → LeavesNone past g t
leaves-none clock past s f g u k a l t e =
    let clean = ended-clean t f.event past s k a e in
    let same = ends-after t f.event f.second (front_header s.ring) (front_body s.ring) s a in
    let one : ◌≡◌ {A = ℕ} (cond (ends_session t f.event) 1 0) 1 = rw e refl in
    let few = k.valid.alone t in
    let over : standing t (after clock s f) ≤ 0 = omega arith in
    record {
      unqueued = none-of t (queued_by past) (λ r. none-stays (Reply t r)
          (queued_by past) s.queued (alike-no-more (queued_by past) s.queued k.queue) (clean r));
      unposted = never-posted t (after clock s f) g u over l;
    }

sessions-end-clean : (past : List Fact) (s : Lists) (g : List Fact) (u : Lists) → Knows past s
    → Leads s g u → SessionsEndClean past g
sessions-end-clean past s [] u k l = tt
sessions-end-clean past s (f ∷ g) u k l = (
  leaves-none l.0 past s f g u k l.1 l.2,
  sessions-end-clean (f ∷ past) (after l.0 s f) g u
      (knows-after l.0 past s f k l.1) l.2,
)

pub ended_sessions : EndedSessionsAreNotQueued
ended_sessions p me life limits g t r =
    sessions-end-clean [] (new_lists me life limits) g t.lists (knows-new me life limits) (run_leads r)

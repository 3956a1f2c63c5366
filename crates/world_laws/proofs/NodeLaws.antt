-- What each run of a node keeps, each life of a node of a history keeps: the Made before it changes none of it.
use Rattle.std.proofs.Common.{◌≡◌, ◌+◌, ◌&&◌, ◌||◌, ℕ, Bool, true, false, cond, List, [], ◌∷◌}
use Rattle.std.proofs.Common.{None, Option, Some, slice_get, refl, ap, ◌∙◌, arith, eqb}
use Rattle.std.specs.List.{list_any}
use Rattle.std.proofs.lemmas.List.Sums.{sum_by-cons}
use Rattle.node_laws.proofs.CreditLaws.{credit}
use Rattle.node_laws.proofs.EndedLaws.{ended}
use Rattle.node_laws.proofs.EndedSessionLaws.{ended_sessions}
use Rattle.node_laws.proofs.OlderLaws.{older_clean}
use Rattle.node_laws.proofs.OnceLaws.{once}
use Rattle.node_laws.proofs.RingLaws.{inbox_within, ring_within}
use Rattle.node_laws.proofs.SendsLaws.{sends_own}
use Rattle.node_laws.specs.CreditBalance.{Credit}
use Rattle.node_laws.specs.EndedCalls.{queued_by, asks_on, begins_as, BeganAs, EndsClean}
use Rattle.node_laws.specs.EndedSessions.{SessionsEndClean}
use Rattle.node_laws.specs.OlderRequests.{BeginsClean}
use Rattle.node_laws.specs.RingLimit.{InboxWithin, RingWithin}
use Rattle.node_laws.specs.SendsOwn.{SendsOwn}
use Rattle.rpc_base.specs.declared.event.Event.{Event}
use Rattle.rpc_base.specs.declared.event.Event.TheVariants.{Made}
use Rattle.rpc_base.specs.declared.fact.Fact.{Fact}
use Rattle.rpc_laws.specs.declared.tables.Timed.{Timed}
use Rattle.rpc_laws.specs.AtMostOnce.{is_at, runs_request, works_request, begins_call, ends_call, times, Once}
use Rattle.rpc_laws.specs.Endpoints.{EachLife}
use Rattle.rpc_laws.specs.Facts.{plain}
use Rattle.rpc_laws.specs.Service.{plain_serving}
use Rattle.rpc_laws.specs.UsualLimits.{with_ring}
use Rattle.rpc_laws.specs.Queues.{queued_after}
use Rattle.script_grammar.specs.declared.line.Line.{Line}
use Rattle.sim_script.specs.FollowsScript.{Follows}
use Rattle.end_laws.specs.TwoNodes.{PairsTwoNodes}
use Rattle.world_laws.specs.FewCredits.{PairsFewCredits}
use Rattle.world_laws.specs.Laws.{CreditBalances, EndedCallsAreNotQueued, EndedSessionsAreNotQueued}
use Rattle.world_laws.specs.Laws.{FollowsRuns, HappensAtMostOnce, InboxFits}
use Rattle.world_laws.specs.Laws.{KeepsRing, OlderRequestsAreNotQueued, RingFits}
use Rattle.world_laws.specs.Laws.{SendsItsOwn, SendsOwnPackets}
use Rattle.world_laws.specs.NodeFacts.{facts_of, EachRuns, RunAt, Runs}
use Rattle.world_laws.proofs.LifeFacts.{of-node}
use Rattle.world_laws.proofs.ScriptLaws.{script-runs}

-- each node's facts are its Made and a run
pub runs : FollowsRuns
runs script h two few f = script-runs script h f.0 two few f.1

-- so it is whatever the script
run-somehow : (n : ℕ) (facts : List Fact) (o : Option Timed) → RunAt n facts o → Runs n facts
run-somehow n facts (Some t) r = Runs.runs t r
run-somehow n facts None none = Runs.nowhere none

pub script-each : (script : List Line) (h : List Fact) → PairsTwoNodes script
    → PairsFewCredits script → Follows script h → EachRuns h
script-each script h two few f n =
    run-somehow n (facts_of n h) (slice_get f.0.nodes n) (runs script h two few f n)

-- credit
pub credit-each : (h : List Fact) → EachRuns h → EachLife Credit h
credit-each h each e =
    of-node (λ ring g. Credit g) (λ ring. tt) e.node e.life
    (λ ring g t r. credit plain_serving e.node e.life (with_ring ring) g t r)
    (λ ring g c. (tt, tt, c)) h (each e.node)

pub credit-balances : CreditBalances
credit-balances script h two few f = credit-each h (script-each script h two few f)

-- the receive ring
pub ring-each : (h : List Fact) → EachRuns h → KeepsRing h
ring-each h each e =
    of-node (λ ring g. RingWithin ring [] g) (λ ring. omega arith) e.node e.life
    (λ ring g t r. ring_within plain_serving e.node e.life (with_ring ring) g t r)
    (λ ring g c. (omega arith, c)) h (each e.node)

pub ring-fits : RingFits
ring-fits script h two few f = ring-each h (script-each script h two few f)

-- calls that are over: the same is told by other facts that came before
record SamePast (past other : List Fact) : Type 0 where
  queued : queued_by past ≡ queued_by other
  asked : (c s : ℕ) → list_any (λ f. asks_on c s f.event) past ≡ list_any (λ f. asks_on c s f.event) other
  begun : (c r : ℕ) → list_any (λ f. begins_as c r f.event) past ≡ list_any (λ f. begins_as c r f.event) other

same-next : (past other : List Fact) (f : Fact) → SamePast past other → SamePast (f ∷ past) (f ∷ other)
same-next past other f s = record {
  queued = ap (queued_after f.event None) s.queued;
  asked = λ c n. ap (λ (b : Bool). asks_on c n f.event || b) (s.asked c n);
  begun = λ c r. ap (λ (b : Bool). begins_as c r f.event || b) (s.begun c r);
}

ends-other : (past other g : List Fact) → SamePast past other → EndsClean past g → EndsClean other g
ends-other past other [] s e = tt
ends-other past other (f ∷ g) s e =
    (λ c n r ends began. let old : BeganAs past c n r = record { asked = s.asked c n ∙ began.asked; begun = s.begun c r ∙ began.begun } in let back = e.0 c n r ends old in record { unqueued = rw (← s.queued) back.unqueued; unposted = back.unposted }, ends-other (f ∷ past) (f ∷ other) g (same-next past other f s) e.1)

made-past : (n ring : ℕ) → SamePast [] (plain n (Made ring) ∷ [])
made-past n ring = record { queued = refl; asked = λ c s. refl; begun = λ c r. refl }

pub ended-each : (h : List Fact) → EachRuns h → EachLife (EndsClean []) h
ended-each h each e =
    of-node (λ ring g. EndsClean [] g) (λ ring. tt) e.node e.life
    (λ ring g t r. ended plain_serving e.node e.life (with_ring ring) g t r)
    (λ ring g c. ((λ c s q ends began. cc), ends-other [] (plain e.node (Made ring) ∷ []) g (made-past e.node ring) c))
    h (each e.node)

pub ended-clean : EndedCallsAreNotQueued
ended-clean script h two few f = ended-each h (script-each script h two few f)

-- older requests of a slot
begins-other : (past other g : List Fact) → SamePast past other → BeginsClean past g → BeginsClean other g
begins-other past other [] s e = tt
begins-other past other (f ∷ g) s e =
    (λ t r old takes older. let back = e.0 t r old takes older in record { unqueued = rw (← s.queued) back.unqueued; unposted = back.unposted }, begins-other (f ∷ past) (f ∷ other) g (same-next past other f s) e.1)

pub older-each : (h : List Fact) → EachRuns h → EachLife (BeginsClean []) h
older-each h each e =
    of-node (λ ring g. BeginsClean [] g) (λ ring. tt) e.node e.life
    (λ ring g t r. older_clean plain_serving e.node e.life (with_ring ring) g t r)
    (λ ring g c. ((λ t r old takes older. cc), begins-other [] (plain e.node (Made ring) ∷ []) g (made-past e.node ring) c))
    h (each e.node)

pub older-clean : OlderRequestsAreNotQueued
older-clean script h two few f = older-each h (script-each script h two few f)

-- server sessions that ended
sessions-other : (past other g : List Fact) → SamePast past other → SessionsEndClean past g → SessionsEndClean other g
sessions-other past other [] s e = tt
sessions-other past other (f ∷ g) s e =
    (λ t ends. let back = e.0 t ends in record { unqueued = rw (← s.queued) back.unqueued; unposted = back.unposted }, sessions-other (f ∷ past) (f ∷ other) g (same-next past other f s) e.1)

pub sessions-each : (h : List Fact) → EachRuns h → EachLife (SessionsEndClean []) h
sessions-each h each e =
    of-node (λ ring g. SessionsEndClean [] g) (λ ring. tt) e.node e.life
    (λ ring g t r. ended_sessions plain_serving e.node e.life (with_ring ring) g t r)
    (λ ring g c. ((λ t ends. cc), sessions-other [] (plain e.node (Made ring) ∷ []) g (made-past e.node ring) c))
    h (each e.node)

pub sessions-clean : EndedSessionsAreNotQueued
sessions-clean script h two few f = sessions-each h (script-each script h two few f)

-- the inbox
pub inbox-each : (h : List Fact) → EachRuns h → EachLife (InboxWithin []) h
inbox-each h each e =
    of-node (λ ring g. InboxWithin [] g) (λ ring. omega arith) e.node e.life
    (λ ring g t r. inbox_within plain_serving e.node e.life (with_ring ring) g t r)
    (λ ring g c. (omega arith, c)) h (each e.node)

pub inbox-fits : InboxFits
inbox-fits script h two few f = inbox-each h (script-each script h two few f)

-- what is sent
pub sends-each : (h : List Fact) → EachRuns h → SendsOwnPackets h
sends-each h each e =
    of-node (λ ring g. SendsOwn e.life ring g) (λ ring me limits same. tt) e.node e.life
    (λ ring g t r. sends_own plain_serving e.node e.life (with_ring ring) g t r)
    (λ ring g c me limits same. (tt, λ clock. c me limits same)) h (each e.node)

pub sends-own : SendsItsOwn
sends-own script h two few f = sends-each h (script-each script h two few f)

-- at most once: a Made is none of what is counted
both-false : (a b : Bool) → b ≡ false → ◌≡◌ {A = ℕ} (cond (a && b) 1 0) 0
both-false true b e = rw e refl
both-false false b e = refl

made-none : (n m ring : ℕ) (test : Event → Bool) (g : List Fact) → test (Made ring) ≡ false
    → times m test (plain n (Made ring) ∷ g) ≡ times m test g
made-none n m ring test g e =
    let cons : times m test (plain n (Made ring) ∷ g)
    ≡ cond (eqb n m && test (Made ring)) 1 0 + times m test g =
    sum_by-cons (λ f. cond (is_at m f.who && test f.event) 1 0) (plain n (Made ring)) g in
    let no = both-false (eqb n m) (test (Made ring)) e in
    omega arith

pub once-nothing : Once []
once-nothing = record {
  ran = λ m t r. omega arith;
  worked = λ m t r. omega arith;
  begun = λ n c. omega arith;
  done = λ n c. omega arith;
}

pub made-once : (n ring : ℕ) (g : List Fact) → Once g → Once (plain n (Made ring) ∷ g)
made-once n ring g o = record {
  ran = λ m t r. rw (made-none n m ring (runs_request t r) g refl) (o.ran m t r);
  worked = λ m t r. rw (made-none n m ring (works_request t r) g refl) (o.worked m t r);
  begun = λ m c. rw (made-none n m ring (begins_call c) g refl) (o.begun m c);
  done = λ m c. rw (made-none n m ring (ends_call c) g refl) (o.done m c);
}

pub once-each : (h : List Fact) → EachRuns h → EachLife Once h
once-each h each e =
    of-node (λ ring g. Once g) (λ ring. once-nothing) e.node e.life
    (λ ring g t r. once plain_serving e.node e.life (with_ring ring) g t r)
    (λ ring g c. made-once e.node ring g c) h (each e.node)

pub happens-once : HappensAtMostOnce
happens-once script h two few f = once-each h (script-each script h two few f)

-- Calls of joint runs and of wire runs: what each run of one node keeps, each node of them keeps.
use Rattle.std.proofs.Common.{◌∙◌, ℕ, List, [], ◌∷◌, Option, Some, None, slice_get, ap, subst, sym}
use Rattle.end_laws.proofs.JointOwn.{joint-own}
use Rattle.end_laws.proofs.WireJoins.{wires-join}
use Rattle.end_laws.proofs.WireOwn.{wire-own}
use Rattle.end_laws.specs.JointRun.{Party, Joint, JointRun, limits_of, services}
use Rattle.end_laws.specs.WireRun.{WireRun}
use Rattle.node_laws.proofs.OnceLaws.{once}
use Rattle.node_laws.proofs.UsedLaws.{used}
use Rattle.node_laws.specs.NodeRun.{LifeRun}
use Rattle.node_laws.specs.UsedOnce.{UsedOnce}
use Rattle.rpc_base.specs.declared.event.Event.TheVariants.{Made}
use Rattle.rpc_base.specs.declared.fact.Fact.{Fact}
use Rattle.rpc_base.specs.declared.limits.Limits.{Limits}
use Rattle.rpc_laws.specs.declared.tables.Timed.{Timed}
use Rattle.rpc_laws.specs.AtMostOnce.{Once}
use Rattle.rpc_laws.specs.Endpoints.{EachLife, Endpoint, facts_from}
use Rattle.rpc_laws.specs.Facts.{plain}
use Rattle.rpc_laws.specs.Lives.{first_life}
use Rattle.world_laws.proofs.JointNodes.{joint-nodes}
use Rattle.world_laws.proofs.LifeFacts.{end_of, from-own, of-made}
use Rattle.world_laws.proofs.NodeLaws.{made-once, once-nothing}
use Rattle.world_laws.proofs.OneCallLaws.{made-used, one-call-each, used-nothing}
use Rattle.world_laws.proofs.OrderLaws.{calls-in-order}
use Rattle.world_laws.specs.JointNodes.{PartyRunAt, JointNumbersAreUsedOnce}
use Rattle.world_laws.specs.JointNodes.{JointHappensAtMostOnce, JointCallsRunOnce, JointCallsAreInOrder}
use Rattle.world_laws.specs.JointNodes.{WireCallsRunOnce, WireCallsAreInOrder}
use Rattle.world_laws.specs.NodeFacts.{facts_of}

-- a claim of the facts of one life of a node: it is of no facts, and of each life of its run
abbrev OfLives : (List Fact → Type 0) → Endpoint → Type 0
OfLives P e =
    (p : Party) (limits : Limits) (g : List Fact) (t : Timed) → LifeRun p.serving e.node e.life limits g t
    → P g

of-party : (P : List Fact → Type 0) → P [] → (e : Endpoint) → OfLives P e
    → ((ring : ℕ) (x : List Fact) → P x → P (plain e.node (Made ring) ∷ x)) → (p : Party)
    (facts : List Fact) (o : Option Timed) → PartyRunAt p e.node facts o
    → P (facts_from first_life (end_of e.node e.life) facts)
of-party P nothing e each grows p facts (Some t) r =
    of-made P nothing p.serving (limits_of p r.ring) e.node e.life r.ring (each p (limits_of p r.ring))
    (grows r.ring) facts r.later t r.made r.run
of-party P nothing e each grows p facts None r = rw r nothing

joint-each : (P : List Fact → Type 0) → P [] → ((e : Endpoint) → OfLives P e)
    → ((n ring : ℕ) (x : List Fact) → P x → P (plain n (Made ring) ∷ x)) → (parties : ℕ → Party)
    (h : List Fact) (t : Joint) → JointRun parties h t → EachLife P h
joint-each P nothing each grows parties h t run e =
    subst P (sym (from-own first_life e h))
    (of-party P nothing e (each e) (grows e.node) (parties e.node) (facts_of e.node h)
    (slice_get t.nodes e.node) (joint-nodes parties h t run e.node))

pub joint-numbers : JointNumbersAreUsedOnce
joint-numbers parties h t run =
    joint-each UsedOnce used-nothing (λ e p limits g t run. used p.serving e.node e.life limits g t run)
    (λ n ring g u. made-used n ring g u) parties h t run

pub joint-once : JointHappensAtMostOnce
joint-once parties h t run =
    joint-each Once once-nothing (λ e p limits g t run. once p.serving e.node e.life limits g t run)
    (λ n ring g o. made-once n ring g o) parties h t run

pub joint-calls-once : JointCallsRunOnce
joint-calls-once parties h t run =
    one-call-each (services parties) h (joint-numbers parties h t run) (joint-once parties h t run)
    (joint-own parties h t run)

pub joint-in-order : JointCallsAreInOrder
joint-in-order parties h t run =
    calls-in-order (services parties) h (joint-numbers parties h t run) (joint-once parties h t run)
    (joint-own parties h t run)

-- the facts of a wire run are those of the nodes of a joint run
wire-each : (P : List Fact → Type 0) (parties : ℕ → Party) (g : List Fact) (t : Joint)
    → (run : WireRun parties g t) → EachLife P (wires-join parties g t run).history → EachLife P g
wire-each P parties g t run each e =
    let j = wires-join parties g t run in
    subst P (from-own first_life e j.history ∙ (ap (facts_from first_life e) (j.same e.node)
    ∙ sym (from-own first_life e g))) (each e)

wire-numbers : (parties : ℕ → Party) (g : List Fact) (t : Joint) → WireRun parties g t → EachLife UsedOnce g
wire-numbers parties g t run =
    let j = wires-join parties g t run in
    wire-each UsedOnce parties g t run (joint-numbers parties j.history t j.run)

pub wire-once : (parties : ℕ → Party) (g : List Fact) (t : Joint) → WireRun parties g t → EachLife Once g
wire-once parties g t run =
    let j = wires-join parties g t run in
    wire-each Once parties g t run (joint-once parties j.history t j.run)

pub wire-calls-once : WireCallsRunOnce
wire-calls-once parties g t run =
    one-call-each (services parties) g (wire-numbers parties g t run) (wire-once parties g t run)
    (wire-own parties g t run)

pub wire-in-order : WireCallsAreInOrder
wire-in-order parties g t run =
    calls-in-order (services parties) g (wire-numbers parties g t run) (wire-once parties g t run)
    (wire-own parties g t run)

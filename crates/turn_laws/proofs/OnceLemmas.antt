-- No node of a wire run is restarted, so what happens at most once in each life happens at most once.
use Rattle.std.proofs.Common.{◌≡◌, ◌+◌, ◌==◌, ◌&&◌, ℕ, not, Bool, true, false, cond, List, [], ◌∷◌}
use Rattle.std.proofs.Common.{refl, sym, ap, ◌∙◌, subst, arith, eq-eqb}
use Rattle.std.specs.List.{AllByRecursion}
use Rattle.std.proofs.lemmas.List.Sums.{sum_by-cons}
use Rattle.rpc_base.specs.declared.event.Event.{Event}
use Rattle.rpc_base.specs.declared.fact.Fact.{Fact}
use Rattle.rpc_laws.specs.AtMostOnce.{Once, begins_call, ends_call, is_at, runs_request, times}
use Rattle.rpc_laws.specs.AtMostOnce.{works_request}
use Rattle.rpc_laws.specs.Endpoints.{begins_life, facts_from}
use Rattle.rpc_laws.specs.Lives.{first_life}
use Rattle.node_laws.specs.NodeRun.{delivers}
use Rattle.end_laws.proofs.ListLemmas.{all-append}
use Rattle.end_laws.specs.JointRun.{Joint, Party, at_node}
use Rattle.end_laws.specs.WireRun.{WireRun, WireStep, WireSteps, acts, hears, makes, more, none, pairs}
use Rattle.world_laws.proofs.JointCalls.{wire-once}
use Rattle.world_laws.proofs.JointNodes.{group-keeps}

-- none of these facts begins a life
abbrev NoneBegins : List Fact → Type 0
NoneBegins h = AllByRecursion (λ f. begins_life f.event ≡ false) h

step-begun : (parties : ℕ → Party) (s : Joint) (x : List Fact) (t : Joint) → WireStep parties s x t
    → NoneBegins x
step-begun parties s x t (makes h) = rw h.facts (refl, tt)
step-begun parties s x t (acts h) =
    (group-keeps (parties h.node).serving.mode h.before x h.now h.group.group).begun
step-begun parties s x t (pairs h) = rw (h.facts, h.for_client, h.for_server) (refl, (refl, tt))
step-begun parties s x t (hears h) =
    (group-keeps (parties h.copy.to).serving.mode h.before x h.now
    (delivers h.copy.from h.copy.bytes h.delivers)).begun

run-begun : (parties : ℕ → Party) {g : List Fact} {t : Joint} → WireSteps parties g t → NoneBegins g
run-begun parties none = tt
run-begun parties (more {x = x} {t = t} c y u h) =
    all-append (λ f. begins_life f.event ≡ false) x y (run-begun parties c) (step-begun parties t y u h)

-- then the facts of a node are those of the life that it has
one-life : (n now : ℕ) (h : List Fact) → NoneBegins h
    → facts_from now (record { node = n; life = now }) h ≡ at_node n h
one-life n now [] all = refl
one-life n now (f ∷ h) all =
    by (is_at n f.who) (now == now) (begins_life f.event) (eq-eqb now now refl) all.0
    (one-life n now h all.1)
  where
    by : (a b c : Bool) → b ≡ true → c ≡ false
        → facts_from now (record { node = n; life = now }) h ≡ at_node n h
        → cond (a && (b && not c)) (f ∷ facts_from now (record { node = n; life = now }) h)
        (facts_from (cond (a && c) (now + 1) now) (record { node = n; life = now }) h)
        ≡ cond a (f ∷ at_node n h) (at_node n h)
    by true true false same begun rest = ap (λ (y : List Fact). f ∷ y) rest
    by false true false same begun rest = rest
    by a false c same begun rest = absurd (cc)
    by a true true same begun rest = absurd (cc)

-- what is counted of a node is counted over its facts
count-here : (n : ℕ) (test : Event → Bool) (f : Fact) (h : List Fact) (b : Bool) → is_at n f.who ≡ b
    → times n test h ≡ times n test (at_node n h)
    → cond (b && test f.event) 1 0 + times n test h
    ≡ times n test (cond b (f ∷ at_node n h) (at_node n h))
count-here n test f h true at same =
    sym (sum_by-cons (λ e. cond (is_at n e.who && test e.event) 1 0) f (at_node n h)
    ∙ (ap (λ (b : Bool). cond (b && test f.event) 1 0 + times n test (at_node n h)) at ∙ ap
    (λ (k : ℕ). cond (test f.event) 1 0 + k) (sym same)))
count-here n test f h false at same = omega arith

times-own : (n : ℕ) (test : Event → Bool) (h : List Fact) → times n test h ≡ times n test (at_node n h)
times-own n test [] = refl
times-own n test (f ∷ h) =
    sum_by-cons (λ e. cond (is_at n e.who && test e.event) 1 0) f h
    ∙ count-here n test f h (is_at n f.who) refl (times-own n test h)

once-all : (h : List Fact) → ((n : ℕ) → Once (at_node n h)) → Once h
once-all h each = record {
  ran = λ m t r. rw (times-own m (runs_request t r) h) ((each m).ran m t r);
  worked = λ m t r. rw (times-own m (works_request t r) h) ((each m).worked m t r);
  begun = λ n c. rw (times-own n (begins_call c) h) ((each n).begun n c);
  done = λ n c. rw (times-own n (ends_call c) h) ((each n).done n c);
}

pub wire-all-once : (parties : ℕ → Party) (g : List Fact) (t : Joint) → WireRun parties g t → Once g
wire-all-once parties g t run =
    once-all g (λ n. subst Once (one-life n first_life g (run-begun parties run.steps))
    (wire-once parties g t run (record { node = n; life = first_life })))

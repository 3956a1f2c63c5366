-- The answer of each run is the service's, after what ran inline at its node before.
use Rattle.std.proofs.Common.{◌≡◌, ◌==◌, ℕ, Bool, true, false, cond, List, [], ◌∷◌, ◌++◌, refl, sym, subst, eq-eqb}
use Rattle.std.specs.List.{filter}
use Rattle.std.proofs.lemmas.List.{append-nil}
use Rattle.rpc_base.specs.declared.event.Event.{Event}
use Rattle.rpc_base.specs.declared.event.Event.TheVariants.{Ran, Restarted}
use Rattle.rpc_base.specs.declared.fact.Fact.{Fact}
use Rattle.rpc_base.specs.declared.fact.Who.{Who}
use Rattle.rpc_base.specs.declared.fact.Who.TheVariants.{Node, Net}
use Rattle.rpc_outside.specs.declared.service.Mode.{Mode}
use Rattle.rpc_outside.specs.Served.{Served}
use Rattle.rpc_laws.specs.AtMostOnce.{is_at}
use Rattle.rpc_laws.specs.Endpoints.{Lived, told}
use Rattle.rpc_laws.specs.OwnAnswer.{AtEach, served_by, served_with}
use Rattle.rpc_laws.specs.Service.{Serving, runs_inline, served_after, AnswersAt, Answers}

-- so it is at a fact, by the facts before it
abbrev pub AnswersFor : (ℕ → Serving) → List Lived → Who → Event → List ℕ → List ℕ → Type 0
AnswersFor v past (Node n) e first second =
    AnswersAt (v n) (served_by (v n).mode n past) e first second
AnswersFor v past Net e first second = Unit {0}

-- at each of some facts
abbrev pub AnswersEach : (ℕ → Serving) → List Lived → List Fact → Type 0
AnswersEach v past h = AtEach (λ past f. AnswersFor v past f.who f.event f.first f.second) past h

ran-served : (b : Bool) (y : ℕ) (ask : List ℕ) (served : Served)
    → cond b (served ++ (y, ask) ∷ []) served ≡ served ++ cond b ((y, ask) ∷ []) []
ran-served true y ask served = refl
ran-served false y ask served = sym (append-nil served)

served-same : (mode : ℕ → Mode) (e : Event) (ask : List ℕ) (served : Served)
    → served_after mode e ask served ≡ served_with mode e ask served
served-same mode (Ran t r y) ask served = ran-served (runs_inline mode y) y ask served
served-same mode (Restarted life) ask served = refl
served-same mode _ ask served = sym (append-nil served)

rest-by : (v : Serving) (n : ℕ) (f : Fact) (past : List Lived) (h : List Fact) (b : Bool)
    → Answers v (served_by v.mode n past)
    (cond b (f ∷ filter (λ f. is_at n f.who) h) (filter (λ f. is_at n f.who) h))
    → Answers v (cond b (served_with v.mode f.event f.first (served_by v.mode n past))
    (served_by v.mode n past))
    (filter (λ f. is_at n f.who) h)
rest-by v n f past h true a =
    subst (λ (s : Served). Answers v s (filter (λ f. is_at n f.who) h))
    (served-same v.mode f.event f.first (served_by v.mode n past)) a.1
rest-by v n f past h false a = a

here-by : (v : Serving) (n : ℕ) (f : Fact) (past : List Lived) (g : List Fact) (b : Bool) → b ≡ true
    → Answers v (served_by v.mode n past) (cond b (f ∷ g) g)
    → AnswersAt v (served_by v.mode n past) f.event f.first f.second
here-by v n f past g true e a = a.0
here-by v n f past g false e a = absurd (cc)

module _ (v : ℕ → Serving) where
  -- what is left of each node's facts
  abbrev Left : List Lived → List Fact → Type 0
  Left past h =
      (n : ℕ) → Answers (v n) (served_by (v n).mode n past) (filter (λ f. is_at n f.who) h)

  fact-answers : (who : Who) (e : Event) (first second : List ℕ) (past : List Lived) (h : List Fact)
      → Left past (record { who = who; event = e; first = first; second = second } ∷ h)
      → AnswersFor v past who e first second
  fact-answers (Node m) e first second past h a =
      here-by (v m) m (record { who = Node m; event = e; first = first; second = second }) past
      (filter (λ f. is_at m f.who) h) (m == m) (eq-eqb m m refl) (a m)
  fact-answers Net e first second past h a = tt

  answers-from : (past : List Lived) (h : List Fact) → Left past h → AnswersEach v past h
  answers-from past [] a = tt
  answers-from past (f ∷ h) a = (
    fact-answers f.who f.event f.first f.second past h a,
    answers-from (told past f ∷ past) h (λ n. rest-by (v n) n f past h (is_at n f.who) (a n)),
  )

  -- so it is at each fact of a history
  pub answers-each : (h : List Fact) → ((n : ℕ) → Answers (v n) [] (filter (λ f. is_at n f.who) h))
      → AnswersEach v [] h
  answers-each h a = answers-from [] h a

-- A history is lawful exactly where it is checked.
use Rattle.std.proofs.Common.{◌≡◌, ◌+◌, ℕ, true, List, [], ◌∷◌, ◌++◌}
use Rattle.end_laws.proofs.AnswerLemmas.{answers-each, AnswersFor}
use Rattle.report_text.specs.Told.{AllTold}
use Rattle.rpc_base.specs.declared.event.Event.{Event}
use Rattle.rpc_base.specs.declared.event.Event.TheVariants.{Restarted}
use Rattle.rpc_base.specs.declared.fact.Fact.{Fact}
use Rattle.rpc_base.specs.declared.fact.Who.{Who}
use Rattle.rpc_base.specs.declared.limits.Limits.{Limits}
use Rattle.rpc_base.specs.declared.fact.Who.TheVariants.{Node, Net}
use Rattle.rpc_laws.specs.declared.tables.Timed.{Timed}
use Rattle.rpc_laws.specs.Endpoints.{Lived, present, told}
use Rattle.rpc_laws.specs.Facts.{plain}
use Rattle.rpc_laws.specs.OwnAnswer.{AtEach, Own, OwnAt}
use Rattle.rpc_laws.specs.Service.{Answers, plain_serving, served_after, Serving}
use Rattle.rpc_laws.specs.UsualLimits.{with_ring}
use Rattle.rpc_outside.specs.Served.{Served}
use Rattle.node_laws.specs.NodeRun.{lives_on, NodeRun, restarts}
use Rattle.world_laws.specs.NodeFacts.{EachRuns, facts_of, nowhere, Runs, runs}
use Rattle.lawful_history.proofs.LawfulLemmas.{lawful-by}
use Rattle.lawful_history.proofs.OwnComplete.{own-complete}
use Rattle.lawful_history.proofs.OwnSound.{own-sound}
use Rattle.lawful_history.specs.Checked.{Checked, LawfulIsChecked}
use Rattle.lawful_history.specs.Lawful.{Lawful}
use Rattle.lawful_history.specs.OwnTold.{AreTold, is_own_at}

-- each node's handlers give the service's answers: those of each life what they served in it
module _ (v : Serving) where
  lives-answer : (served : Served) (n life : ℕ) (part rest : List Fact) → Answers v served part
      → Answers v [] rest → Answers v served (part ++ plain n (Restarted life) ∷ rest)
  lives-answer served n life [] rest a b = (tt, b)
  lives-answer served n life (f ∷ part) rest a b =
      (a.0, lives-answer (served_after v.mode f.event f.first served) n life part rest a.1 b)

  run-answers : (n : ℕ) (limits : Limits) {life : ℕ} {g : List Fact} {t : Timed} → NodeRun v n limits life g t
      → Answers v [] g
  run-answers n limits (lives_on life g t r) = r.answers
  run-answers n limits (restarts life part rest s t r next) =
      lives-answer [] n (life + 1) part rest r.answers (run-answers n limits next)

answers-of : (n : ℕ) (facts : List Fact) → Runs n facts → Answers plain_serving [] facts
answers-of n facts (nowhere e) = rw e tt
answers-of n facts (runs t r) =
    let answers : Answers plain_serving [] r.later = run-answers plain_serving n (with_ring r.ring) r.run in
    rw r.made (tt, answers)

node-answers : (h : List Fact) → EachRuns h → (n : ℕ) → Answers plain_serving [] (facts_of n h)
node-answers h each n = answers-of n (facts_of n h) (each n)

own-by : (past : List Lived) (who : Who) (e : Event) (first second : List ℕ) → AreTold past
    → is_own_at past who e first ≡ true → AnswersFor (λ n. plain_serving) past who e first second
    → OwnAt (λ n. plain_serving) past who e first second
own-by past (Node n) e first second told is right =
    own-sound plain_serving past (present n past) e first second told is right
own-by past Net e first second told is right = tt

own-from : (past : List Lived) (h : List Fact) → AreTold past → AllTold h
    → AtEach (λ past f. is_own_at past f.who f.event f.first ≡ true) past h
    → AtEach (λ past f. AnswersFor (λ n. plain_serving) past f.who f.event f.first f.second) past h
    → AtEach (λ past f. OwnAt (λ n. plain_serving) past f.who f.event f.first f.second) past h
own-from past [] all each is right = tt
own-from past (f ∷ h) all each is right = (
  own-by past f.who f.event f.first f.second all is.0 right.0,
  own-from (told past f ∷ past) h (each.0, all) each.1 is.1 right.1,
)

own-each : (h : List Fact) → EachRuns h → AllTold h
    → AtEach (λ past f. is_own_at past f.who f.event f.first ≡ true) [] h → Own h
own-each h each told is =
    own-from [] h tt told is (answers-each (λ n. plain_serving) h (node-answers h each))

pub lawful-checked : LawfulIsChecked
lawful-checked h = (there, back)
  where
    there : Checked h → Lawful h
    there c = lawful-by h c.nodes c.net (own-each h c.nodes c.told c.calls) c.fits c.told

    back : Lawful h → Checked h
    back l = record {
      nodes = l.nodes;
      net = l.net;
      calls = own-complete (λ n. plain_serving) h l.numbers l.once l.told l.own;
      fits = l.fits;
      told = l.told;
    }

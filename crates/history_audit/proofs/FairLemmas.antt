-- Whether a history is fair so far, a fact later, and when none that goes on so is lawful.
use Rattle.std.proofs.Common.{◌≡◌, ℕ, ◌+◌, Bool, true, false, cond, List, [], ◌∷◌, ◌++◌, refl, sym, ap, ◌∙◌, subst}
use Rattle.std.proofs.Common.{true≢false, append_assoc, append-nil, eq-eqb, None, Option, Some}
use Rattle.std.proofs.lemmas.Bool.{eqb-false, eqb-true}
use Rattle.std.specs.Prelude.{◌↔◌}
use Rattle.end_laws.proofs.ListLemmas.{all-append}
use Rattle.front_laws.specs.Whole.{is_open, IsWhole, open_after}
use Rattle.history_audit.proofs.LifeLemmas.{far-life, runs-life}
use Rattle.history_audit.proofs.NodesLemmas.{grows, stays-net, stays-other}
use Rattle.history_audit.proofs.PollLemmas.{open-snoc}
use Rattle.history_audit.specs.Lives.{TellsNextLife}
use Rattle.history_audit.specs.declared.fault.Wrong.{Wrong}
use Rattle.history_audit.specs.declared.fault.Wrong.TheVariants as wrong
use Rattle.history_audit.specs.declared.fault.Wrong.TheVariants.{Call, Ring, Run}
use Rattle.history_audit.specs.declared.tables.Tables.{Tables}
use Rattle.history_audit.specs.Judged.{IsJudged}
use Rattle.history_audit.specs.Tables.{HaveNoted, IsClaimed, IsFair, RunsAt, RunsOutside}
use Rattle.history_audit.specs.Wrong.{IsBroken, IsWrong}
use Rattle.lawful_history.proofs.CheckedLemmas.{lawful-checked}
use Rattle.lawful_history.proofs.FrontLemmas.{all-front, each-front, open-own, runs-front}
use Rattle.lawful_history.specs.Checked.{Checked}
use Rattle.lawful_history.specs.Lawful.{Lawful}
use Rattle.report_text.specs.Told.{AllTold, IsTold}
use Rattle.rpc_base.specs.declared.event.Event.TheVariants.{Restarted}
use Rattle.rpc_base.specs.declared.fact.Fact.{Fact}
use Rattle.rpc_base.specs.declared.fact.Who.{Who}
use Rattle.rpc_base.specs.declared.fact.Who.TheVariants.{Node, Net}
use Rattle.rpc_laws.specs.AtMostOnce.{is_at}
use Rattle.world_laws.proofs.FactLemmas.{facts-append}
use Rattle.world_laws.specs.NodeFacts.{facts_of, nowhere, Runs}

-- what a lawful history says of its fronts
pub lawful-claims : (g x : List Fact) → Lawful (g ++ x) → IsClaimed g
lawful-claims g x l =
    let c : Checked (g ++ x) = (lawful-checked (g ++ x)).1 l in
    record {
      net = all-front _ g x c.net;
      calls = each-front _ [] g x c.calls;
      fits = each-front _ [] g x c.fits;
    }

pub lawful-runs : (g x : List Fact) → Lawful (g ++ x) → (n : ℕ) → RunsOutside n g
lawful-runs g x l n shut =
    runs-front n (facts_of n g) (facts_of n x) (subst (Runs n) (facts-append n g x) (l.nodes n))
    (sym (open-own n false g) ∙ shut)

-- a lawful history breaks no claim
broken-not : (w : Wrong) (g : List Fact) → IsBroken w g → IsClaimed g → ((n : ℕ) → RunsOutside n g) → ⊥
broken-not wrong.Net g broken k runs = broken k.net
broken-not Call g broken k runs = broken k.calls
broken-not Ring g broken k runs = broken k.fits
broken-not (Run n) g broken k runs = broken (runs n)

pub wrong-unlawful : (w : Wrong) (h : List Fact) → IsWrong w h → Lawful h → ⊥
wrong-unlawful w h b l =
    let all : Lawful (b.front ++ b.rest) = subst Lawful b.whole l in
    broken-not w b.front b.broken (lawful-claims b.front b.rest all) (lawful-runs b.front b.rest all)

pub wrong-here : (w : Wrong) (g : List Fact) → IsBroken w g → IsWrong w g
wrong-here w g broken =
    record { front = g; rest = []; whole = sym (append-nil g); broken = broken }

pub wrong-on : (w : Wrong) (h : List Fact) (f : Fact) → IsWrong w h → IsWrong w (h ++ f ∷ [])
wrong-on w h f b = record {
  front = b.front;
  rest = b.rest ++ f ∷ [];
  whole = ap (λ (z : List Fact). z ++ f ∷ []) b.whole ∙ append_assoc b.front b.rest (f ∷ []);
  broken = b.broken;
}

-- a fair history is lawful where no node is in the midst of a poll
pub fair-lawful : (g : List Fact) → IsFair g → IsWhole g → Lawful g
fair-lawful g fair whole = (lawful-checked g).0 (record {
  nodes = λ n. fair.runs n (whole n);
  net = fair.claimed.net;
  calls = fair.claimed.calls;
  fits = fair.claimed.fits;
  told = fair.told;
})

-- runs of the nodes, a fact later
module _ (h : List Fact) (f : Fact) (runs : (n : ℕ) → RunsOutside n h) where
  outside-stays : (n : ℕ) → is_at n f.who ≡ false → facts_of n (h ++ f ∷ []) ≡ facts_of n h
      → RunsOutside n (h ++ f ∷ [])
  outside-stays n other same shut =
      let before : is_open n false (h ++ f ∷ []) ≡ is_open n false h =
      open-snoc n false h f
      ∙ ap (λ (b : Bool). cond b (open_after f.event (is_open n false h)) (is_open n false h)) other in
      subst (Runs n) (sym same) (runs n (sym before ∙ shut))

  pub outside-next : RunsAt f.who (h ++ f ∷ []) → (n : ℕ) → RunsOutside n (h ++ f ∷ [])
  outside-next at n = by f.who refl at
    where
      node : (m : ℕ) → f.who ≡ Node m → RunsOutside m (h ++ f ∷ []) → (b : Bool) → is_at n (Node m) ≡ b
          → RunsOutside n (h ++ f ∷ [])
      node m who own true e =
          subst (λ (k : ℕ). RunsOutside k (h ++ f ∷ [])) (eqb-true m n e) own
      node m who own false e =
          let other : is_at n f.who ≡ false = ap (is_at n) who ∙ e in
          outside-stays n other (stays-other n m h f who (eqb-false m n e))

      by : (who : Who) → f.who ≡ who → RunsAt who (h ++ f ∷ []) → RunsOutside n (h ++ f ∷ [])
      by (Node m) who own = node m who own (is_at n (Node m)) refl
      by Net who own = outside-stays n (ap (is_at n) who) (stays-net n h f who)

  -- a restart tells the next life
  pub tells-next : RunsAt f.who (h ++ f ∷ []) → TellsNextLife h f
  tells-next at n life who is =
      let own : RunsOutside n (h ++ f ∷ []) = outside-next at n in
      let shut : is_open n false (h ++ f ∷ []) ≡ false =
      open-snoc n false h f ∙ rw (who, is) (ends (is_at n (Node n)) (eq-eqb n n refl) (is_open n false h)) in
      runs-life n life (facts_of n h) f (subst (Runs n) (grows n h f who) (own shut)) is
      ∙ ap (λ (k : ℕ). k + 1) (sym (far-life n [] h))
    where
      ends : (b : Bool) → b ≡ true → (c : Bool) → cond b (open_after (Restarted life) c) c ≡ false
      ends true e true = refl
      ends true e false = refl
      ends false e c = absurd (true≢false (sym e))

pub told-next : (h : List Fact) (f : Fact) → AllTold h → IsTold f → AllTold (h ++ f ∷ [])
told-next h f all is = all-append IsTold h (f ∷ []) all (is, tt)

-- what isn't so where its test fails
pub denied : {A : Type 0} (b : Bool) → (b ≡ true) ↔ A → b ≡ false → A → ⊥
denied b is e a = true≢false (sym (is.1 a) ∙ e)

module _ (g : List Fact) where
  -- a node that is in the midst of a poll, and one that isn't
  pub runs-busy : (n : ℕ) → is_open n false g ≡ true → (true ≡ true) ↔ RunsOutside n g
  runs-busy n busy = ((λ t shut. absurd (true≢false (sym busy ∙ shut))), (λ r. refl))

  pub runs-shut : (n : ℕ) (b : Bool) → is_open n false g ≡ false → (b ≡ true) ↔ Runs n (facts_of n g)
      → (b ≡ true) ↔ RunsOutside n g
  runs-shut n b shut is = ((λ t s. is.0 t), (λ r. is.1 (r shut)))

-- before any fact
pub fair-none : IsFair []
fair-none = record {
  runs = λ n shut. nowhere refl;
  claimed = record { net = tt; calls = tt; fits = tt };
  told = tt;
}

pub judged-fair : (o : Option Wrong) (t : Tables) (g : List Fact) → o ≡ None → IsJudged o t g
    → HaveNoted t g × IsFair g
judged-fair o t g e j = subst (λ (c : Option Wrong). IsJudged c t g) e j

pub judged-wrong : (o : Option Wrong) (t : Tables) (g : List Fact) (w : Wrong) → o ≡ Some w → IsJudged o t g
    → IsWrong w g
judged-wrong o t g w e j = subst (λ (c : Option Wrong). IsJudged c t g) e j

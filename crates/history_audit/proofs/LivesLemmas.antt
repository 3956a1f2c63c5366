-- The lives of the nodes, a fact later.
use Rattle.std.proofs.Common.{◌≡◌, ℕ, ◌+◌, ◌<◌, ◌==◌, ◌&&◌, Bool, true, false, cond, List, [], ◌∷◌, ◌++◌}
use Rattle.std.proofs.Common.{Option, Some, None, subst, replicate, refl, sym, ap, ◌∙◌}
use Rattle.std.proofs.Common.{get_or, length, get_or-set_other, get_or-set_same}
use Rattle.std.specs.Prelude.{MatchOption, slice_set}
use Rattle.std.proofs.lemmas.Bool.{eqb-true, eqb-false}
use Rattle.std.proofs.lemmas.List.{get_or-replicate}
use Rattle.rpc_laws.specs.Lives.{first_life}
use Rattle.call_book.specs.SoFar.{so_far}
use Rattle.history_audit.proofs.LifeLemmas.{life-next}
use Rattle.history_audit.specs.declared.numbers.TheConstants.{NODES}
use Rattle.history_audit.specs.Lives.{AreLives, begun_life, TellsNextLife}
use Rattle.rpc_base.specs.declared.event.Event.{Event}
use Rattle.rpc_base.specs.declared.event.Event.TheVariants.{Restarted}
use Rattle.rpc_base.specs.declared.fact.Fact.{Fact}
use Rattle.rpc_base.specs.declared.fact.Who.TheVariants.{Node, Net}
use Rattle.rpc_laws.specs.AtMostOnce.{is_at}
use Rattle.rpc_laws.specs.Endpoints.{begins_life, life_by}

-- a fact that restarts no node
pub lives-stay : (lives : List ℕ) (h : List Fact) (f : Fact)
    → ((n : ℕ) → (is_at n f.who && begins_life f.event) ≡ false) → AreLives lives h
    → AreLives lives (h ++ f ∷ [])
lives-stay lives h f quiet a n lt =
    a n lt ∙ sym (life-next n h f
    ∙ ap (λ (b : Bool). cond b (life_by n (so_far h) + 1) (life_by n (so_far h))) (quiet n))

pub quiet-net : (f : Fact) → f.who ≡ Net → (n : ℕ) → (is_at n f.who && begins_life f.event) ≡ false
quiet-net f who n = rw who refl

and-none : (a b : Bool) → b ≡ false → (a && b) ≡ false
and-none true b e = e
and-none false b e = refl

pub quiet-event : (f : Fact) → begins_life f.event ≡ false → (n : ℕ)
    → (is_at n f.who && begins_life f.event) ≡ false
quiet-event f e n = and-none (is_at n f.who) (begins_life f.event) e

and-true : (b : Bool) → (b && true) ≡ b
and-true true = refl
and-true false = refl

-- one that restarts a node
pub lives-on : (lives : List ℕ) (h : List Fact) (f : Fact) (i life : ℕ) → f.who ≡ Node i
    → f.event ≡ Restarted life → i < length lives → AreLives lives h → TellsNextLife h f
    → AreLives (slice_set lives i life) (h ++ f ∷ [])
lives-on lives h f i life who is within a tells n lt = by (i == n) refl
  where
    here : (b : Bool) → (i == n) ≡ b
        → life_by n (so_far (h ++ f ∷ [])) ≡ cond b (life_by n (so_far h) + 1) (life_by n (so_far h))
    here b e =
        life-next n h f
        ∙ ap (λ (c : Bool). cond c (life_by n (so_far h) + 1) (life_by n (so_far h)))
        (rw (who, is) (rw e (and-true b)))

    by : (b : Bool) → (i == n) ≡ b → get_or (slice_set lives i life) n 0 ≡ life_by n (so_far (h ++ f ∷ []))
    by true e =
        let same : i ≡ n = eqb-true i n e in
        ap (λ (j : ℕ). get_or (slice_set lives i life) j 0) (sym same)
        ∙ get_or-set_same lives i life 0 within
        ∙ tells i life who is
        ∙ ap (λ (j : ℕ). life_by j (so_far h) + 1) same
        ∙ sym (here true e)
    by false e =
        get_or-set_other lives i n life 0 (λ same. eqb-false i n e (sym same))
        ∙ a n lt ∙ sym (here false e)

-- before any fact
pub lives-none : (lives : List ℕ) → lives ≡ replicate NODES first_life → AreLives lives []
lives-none lives e n lt = ap (λ (z : List ℕ). get_or z n 0) e ∙ get_or-replicate NODES n first_life 0 lt

quiet-begun : (e : Event) → begun_life e ≡ None → begins_life e ≡ false
quiet-begun (Restarted life) e = cc
quiet-begun _ e = refl

begun-is : (e : Event) (life : ℕ) → begun_life e ≡ Some life → e ≡ Restarted life
begun-is (Restarted k) life e = let same : k ≡ life = cc in ap Restarted same
begun-is _ life e = cc

-- a fact of a node
pub lives-node : (lives new : List ℕ) (h : List Fact) (f : Fact) (i : ℕ) (o : Option ℕ) → f.who ≡ Node i
    → o ≡ begun_life f.event → MatchOption o (new ≡ lives) (λ l. new ≡ slice_set lives i l) → i < length lives
    → AreLives lives h → TellsNextLife h f → AreLives new (h ++ f ∷ [])
lives-node lives new h f i None who is same within a tells =
    subst (λ (z : List ℕ). AreLives z (h ++ f ∷ [])) (sym same)
    (lives-stay lives h f (quiet-event f (quiet-begun f.event (sym is))) a)
lives-node lives new h f i (Some life) who is same within a tells =
    subst (λ (z : List ℕ). AreLives z (h ++ f ∷ [])) (sym same)
    (lives-on lives h f i life who (begun-is f.event life (sym is)) within a tells)

-- Whether each fact is of a call, a fact later.
use Rattle.std.proofs.Common.{◌≡◌, ℕ, Bool, true, List, [], ◌∷◌, ◌++◌, sym, ap, ◌∙◌, subst}
use Rattle.std.specs.Prelude.{◌↔◌}
use Rattle.rpc_base.specs.declared.fact.Fact.{Fact}
use Rattle.rpc_base.specs.declared.fact.Who.{Who}
use Rattle.rpc_base.specs.declared.fact.Who.TheVariants.{Node, Net}
use Rattle.rpc_laws.specs.Endpoints.{life_at, Lived}
use Rattle.lawful_history.specs.OwnTold.{is_own_at}
use Rattle.lawful_history.specs.Told.{is_own}
use Rattle.call_book.proofs.EachLemmas.{each-last, each-next, far-next}
use Rattle.call_book.specs.declared.book.Book.{Book}
use Rattle.call_book.specs.SoFar.{CallsTold, so_far}
use Rattle.call_book.specs.Tells.{Tells}

calls-by : (h : List Fact) (f : Fact) (b : Bool) → CallsTold h → b ≡ is_own_at (so_far h) f.who f.event f.first
    → (b ≡ true) ↔ CallsTold (h ++ f ∷ [])
calls-by h f b calls same = (
  λ e. each-next (λ past f. is_own_at past f.who f.event f.first ≡ true) [] h f calls (sym same ∙ e),
  λ a. same ∙ each-last (λ past f. is_own_at past f.who f.event f.first ≡ true) [] h f a,
)

-- of a node's fact
pub calls-node : (h : List Fact) (f : Fact) (b : Bool) (m life : ℕ) → CallsTold h → f.who ≡ Node m
    → life ≡ life_at f.who (so_far h)
    → b ≡ is_own (so_far h) (record { node = m; life = life }) f.event f.first
    → (b ≡ true) ↔ CallsTold (h ++ f ∷ [])
calls-node h f b m life calls who lives is =
    calls-by h f b calls
    (is
    ∙ ap (λ (l : ℕ). is_own (so_far h) (record { node = m; life = l }) f.event f.first)
    (lives ∙ ap (λ (w : Who). life_at w (so_far h)) who)
    ∙ ap (λ (w : Who). is_own_at (so_far h) w f.event f.first) (sym who))

-- and of the network's
pub calls-net : (h : List Fact) (f : Fact) → CallsTold h → f.who ≡ Net → (true ≡ true) ↔ CallsTold (h ++ f ∷ [])
calls-net h f calls who =
    calls-by h f true calls (ap (λ (w : Who). is_own_at (so_far h) w f.event f.first) (sym who))

-- what a book tells then
pub tells-next : (b : Book) (h : List Fact) (f : Fact) (life : ℕ) → life ≡ life_at f.who (so_far h)
    → Tells b (record { life = life; fact = f } ∷ so_far h) → Tells b (so_far (h ++ f ∷ []))
tells-next b h f life lives t =
    subst (λ (z : List Lived). Tells b z)
    (ap (λ (l : ℕ). record { life = l; fact = f } ∷ so_far h) lives ∙ sym (far-next [] h f)) t

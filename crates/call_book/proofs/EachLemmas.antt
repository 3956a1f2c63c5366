-- A claim at each fact of a history, a fact later.
use Rattle.std.proofs.Common.{◌≡◌, List, [], ◌∷◌, ◌++◌, refl}
use Rattle.rpc_base.specs.declared.fact.Fact.{Fact}
use Rattle.rpc_laws.specs.Endpoints.{Lived, told}
use Rattle.rpc_laws.specs.OwnAnswer.{AtEach}
use Rattle.call_book.specs.SoFar.{so_far_from}

pub each-next : (P : List Lived → Fact → Type 0) (past : List Lived) (h : List Fact) (f : Fact)
    → AtEach P past h → P (so_far_from past h) f → AtEach P past (h ++ f ∷ [])
each-next P past [] f a p = (p, tt)
each-next P past (g ∷ h) f a p = (a.0, each-next P (told past g ∷ past) h f a.1 p)

pub each-last : (P : List Lived → Fact → Type 0) (past : List Lived) (h : List Fact) (f : Fact)
    → AtEach P past (h ++ f ∷ []) → P (so_far_from past h) f
each-last P past [] f a = a.0
each-last P past (g ∷ h) f a = each-last P (told past g ∷ past) h f a.1

pub far-next : (past : List Lived) (h : List Fact) (f : Fact)
    → so_far_from past (h ++ f ∷ []) ≡ told (so_far_from past h) f ∷ so_far_from past h
far-next past [] f = refl
far-next past (g ∷ h) f = far-next (told past g ∷ past) h f

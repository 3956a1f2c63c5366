use Rattle.std.proofs.Common.{◌≡◌, ◌++◌, ◌∷◌, [], not, Bool, true, sym, ap, ◌∙◌, subst}
use Rattle.std.specs.Prelude.{◌↔◌}
use Rattle.ring_laws.specs.CalmRing.{MessagesFit}
use Rattle.history_audit.proofs.CalmLemmas.{fit-next, or-first, or-second}
use Rattle.history_audit.proofs.calm.Roughness.keeps_fit.Goals as goal

pub returns-then-self : goal.returns-then-self
returns-then-self c = λ h e m.
    subst (λ (b : Bool). (b ≡ true) ↔ MessagesFit (h ++ c.args.fact.now ∷ []))
    (or-first c.args.self.now.rough _ c.if-self.true)
    (fit-next c.args.self.now.rough h c.args.fact.now e m)

pub returns-else-self : goal.returns-else-self
returns-else-self c = λ h e m.
    subst (λ (b : Bool). (b ≡ true) ↔ MessagesFit (h ++ c.args.fact.now ∷ []))
    (or-second c.args.self.now.rough _ c.if-self.false ∙ ap not (sym c.finds_full.ensures))
    (fit-next c.args.self.now.rough h c.args.fact.now e m)

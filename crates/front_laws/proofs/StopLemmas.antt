-- Steps that may stop where they like, where what follows tells that they did.
use Rattle.std.proofs.Common.{◌≡◌, ℕ, zero, suc, Bool, true, false, List, [], ◌∷◌, ◌++◌, refl, sym}
use Rattle.std.proofs.Common.{ap, ap₂, ◌∙◌, subst, append_assoc, true≢false}
use Rattle.rpc_base.specs.declared.event.Event.{Event}
use Rattle.rpc_base.specs.declared.fact.Fact.{Fact}
use Rattle.rpc_laws.specs.declared.tables.Timed.{Timed}
use Rattle.rpc_laws.specs.Steps.{Chain, Rel, Then}
use Rattle.front_laws.proofs.FirstFacts.{begins_by}
use Rattle.front_laws.proofs.OneWayLemmas.{back-same, chain-counted, Counted, none-one, OneWay}
use Rattle.front_laws.specs.Laws.{Same}

-- each such step begins with an event of this kind
abbrev pub Begins : (Event → Bool) → Rel → Type 0
Begins test P = (s : Timed) (x : List Fact) (t : Timed) → P s x t → begins_by test x ≡ true

-- none does, and each notes something
pub record Follows (test : Event → Bool) (x : List Fact) : Type 0 where
  pub other : begins_by test x ≡ false
  pub some : x ≡ [] → ⊥

abbrev pub AllFollow : (Event → Bool) → Rel → Type 0
AllFollow test Q = (s : Timed) (x : List Fact) (t : Timed) → Q s x t → Follows test x

begins-front : (test : Event → Bool) (x y : List Fact) → begins_by test x ≡ true → begins_by test (x ++ y) ≡ true
begins-front test [] y e = cc
begins-front test (f ∷ x) y e = e

follows-front : (test : Event → Bool) (x y : List Fact) → Follows test x → begins_by test (x ++ y) ≡ false
follows-front test [] y f = absurd (f.some refl)
follows-front test (g ∷ x) y f = f.other

-- what follows isn't what the steps begin with
never : (test : Event → Bool) (a b c r q : List Fact) → Follows test a → begins_by test b ≡ true
    → a ++ r ≡ (b ++ c) ++ q → ⊥
never test a b c r q f e same =
    let whole : a ++ r ≡ b ++ (c ++ q) = same ∙ append_assoc b c q in
    true≢false (sym (begins-front test b (c ++ q) e)
    ∙ (ap (begins_by test) (sym whole) ∙ follows-front test a r f))

-- so many steps before one that never begins as they do: they end at one place
stops-both : (test : Event → Bool) (P Q : Rel) → OneWay P → Begins test P → AllFollow test Q → (i j : ℕ)
    (s : Timed) (x y a b r q : List Fact) (t u v w : Timed) → Counted P i s x t → Counted P j s y u
    → Q t a v → Q u b w → (x ++ a) ++ r ≡ (y ++ b) ++ q → Same x y t u
stops-both test P Q p begins follows zero zero s x y a b r q t u v w h k l m e = none-one s x y t u h k
stops-both test P Q p begins follows zero (suc j) s x y a b r q t u v w h k l m e =
    let one : (y ++ b) ++ q ≡ (k.front ++ (k.back ++ b)) ++ q =
    ap (λ (z : List Fact). z ++ q) (ap (λ (z : List Fact). z ++ b) k.joined ∙ append_assoc k.front k.back b) in
    let other : a ++ r ≡ (x ++ a) ++ r = ap (λ (z : List Fact). (z ++ a) ++ r) (sym h.0) in
    absurd (never test a k.front (k.back ++ b) r q (follows t a v l) (begins s k.front k.between k.first)
    (other ∙ (e ∙ one)))
stops-both test P Q p begins follows (suc i) zero s x y a b r q t u v w h k l m e =
    let one : (x ++ a) ++ r ≡ (h.front ++ (h.back ++ a)) ++ r =
    ap (λ (z : List Fact). z ++ r) (ap (λ (z : List Fact). z ++ a) h.joined ∙ append_assoc h.front h.back a) in
    let other : b ++ q ≡ (y ++ b) ++ q = ap (λ (z : List Fact). (z ++ b) ++ q) (sym k.0) in
    absurd (never test b h.front (h.back ++ a) q r (follows u b w m) (begins s h.front h.between h.first)
    (other ∙ (sym e ∙ one)))
stops-both test P Q p begins follows (suc i) (suc j) s x y a b r q t u v w h k l m e =
    let one : (x ++ a) ++ r ≡ h.front ++ ((h.back ++ a) ++ r) =
    ap (λ (z : List Fact). (z ++ a) ++ r) h.joined
    ∙ (ap (λ (z : List Fact). z ++ r) (append_assoc h.front h.back a) ∙ append_assoc h.front (h.back ++ a) r) in
    let two : (y ++ b) ++ q ≡ k.front ++ ((k.back ++ b) ++ q) =
    ap (λ (z : List Fact). (z ++ b) ++ q) k.joined
    ∙ (ap (λ (z : List Fact). z ++ q) (append_assoc k.front k.back b) ∙ append_assoc k.front (k.back ++ b) q) in
    let whole : h.front ++ ((h.back ++ a) ++ r) ≡ k.front ++ ((k.back ++ b) ++ q) = sym one ∙ (e ∙ two) in
    let first = p s h.front k.front ((h.back ++ a) ++ r) ((k.back ++ b) ++ q) h.between k.between h.first k.first whole in
    let moved : Counted P j h.between k.back u = subst (λ (z : Timed). Counted P j z k.back u) (sym first.left) k.second in
    let rest : (h.back ++ a) ++ r ≡ (k.back ++ b) ++ q =
    back-same h.front k.front ((h.back ++ a) ++ r) ((k.back ++ b) ++ q) first.facts whole in
    let last = stops-both test P Q p begins follows i j h.between h.back k.back a b r q t u v w h.second moved l m rest in
    record {
      facts = h.joined ∙ (ap₂ (λ (c d : List Fact). c ++ d) first.facts last.facts ∙ sym k.joined);
      left = last.left;
    }

-- steps that stop before another, which never begins as they do
pub stop-one : (test : Event → Bool) (P Q : Rel) → OneWay P → Begins test P → OneWay Q → AllFollow test Q
    → OneWay (Then (Chain P) Q)
stop-one test P Q p begins one follows s x y r q t u h k e =
    let a = chain-counted P s h.first in
    let b = chain-counted P s k.first in
    let whole : (h.front ++ h.back) ++ r ≡ (k.front ++ k.back) ++ q =
    ap (λ (z : List Fact). z ++ r) (sym h.joined) ∙ (e ∙ ap (λ (z : List Fact). z ++ q) k.joined) in
    let same = stops-both test P Q p begins follows a.0 b.0 s h.front k.front h.back k.back r q
    h.between k.between t u a.1 b.1 h.second k.second whole in
    let flat : h.front ++ (h.back ++ r) ≡ k.front ++ (k.back ++ q) =
    sym (append_assoc h.front h.back r) ∙ (whole ∙ append_assoc k.front k.back q) in
    let later : Q h.between k.back u = subst (λ (z : Timed). Q z k.back u) (sym same.left) k.second in
    let last = one h.between h.back k.back r q t u h.second later
    (back-same h.front k.front (h.back ++ r) (k.back ++ q) same.facts flat) in
    record {
      facts = h.joined ∙ (ap₂ (λ (c d : List Fact). c ++ d) same.facts last.facts ∙ sym k.joined);
      left = last.left;
    }

use Rattle.std.proofs.Common.{◌≡◌, ◌-◌, ◌&&◌, ◌∙◌, ℕ, Bool, List, ap, drop, length, length-drop, refl, sym, take}
use Rattle.std.specs.Str.{bytes_eq}
use Rattle.std.proofs.Math.Seq.{take-length}
use Rattle.rule_facts.proofs.HandlingLemmas.{joined-by}
use Rattle.rule_facts.proofs.front_facts.is_joined.Goals as goal

pub returns-then-is_same : goal.returns-then-is_same
returns-then-is_same c =
    let told : List ℕ = c.args.told.now in
    let x : List ℕ = c.args.front.now in
    let rest : List ℕ = drop (length x) told in
    let whole : take (length told - length x) rest ≡ rest =
    ap (λ (k : ℕ). take k rest) (sym (length-drop (length x) told)) ∙ take-length rest in
    ap (λ (z : Bool). z && c.is_same-then-is_same.result) (sym c.if-is_same.true)
    ∙ joined-by told x c.args.back.now (take (length x) told) (take (length told - length x) rest) (length x)
    c.is_same.result c.is_same-then-is_same.result refl refl whole c.is_same.ensures c.is_same-then-is_same.ensures

pub returns-else-is_same : goal.returns-else-is_same
returns-else-is_same c =
    let told : List ℕ = c.args.told.now in
    let x : List ℕ = c.args.front.now in
    let rest : List ℕ = drop (length x) told in
    let b : Bool = bytes_eq rest c.args.back.now in
    c.if-is_same.false
    ∙ (sym (ap (λ (z : Bool). z && b) c.if-is_same.false)
    ∙ joined-by told x c.args.back.now (take (length x) told) rest (length x) c.is_same.result b refl refl refl
    c.is_same.ensures refl)

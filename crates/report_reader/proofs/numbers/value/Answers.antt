use Rattle.std.proofs.Common.{ℕ, ◌+◌, ◌-◌, ◌*◌, fold, take, arith, refl, get_or}
use Rattle.std.proofs.lemmas.List.Sums.{fold_more}
use Rattle.script_grammar.specs.Numbers.{value_of}
use Rattle.script_grammar.proofs.CappedLemmas.{capped_step}
use Rattle.report_reader.proofs.numbers.value.Goals as goal

pub loop-digit-preserved : goal.loop-digit-preserved
unfolding value_of
loop-digit-preserved c =
    let step = λ (v d : ℕ). 10 * v + (d - 48) in
    let more = fold_more step 0 c.args.digits.now c.loop-digit.digit-index 0 (omega arith) in
    let capped = capped_step 18446744073709551616 (fold step 0
    (take c.loop-digit.digit-index c.args.digits.now))
    (get_or c.args.digits.now c.loop-digit.digit-index 0 - 48) in
    omega arith

pub loop-digit-init : goal.loop-digit-init
unfolding value_of
loop-digit-init c = refl

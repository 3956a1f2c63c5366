-- How much a call of a script sends.
use Rattle.std.proofs.Common.{◌≤◌, ◌%◌, length, arith}
use Rattle.std.proofs.lemmas.List.FromFn.{length-map-range_with_len}
use Rattle.script_grammar.specs.Conditions.{IsAskInRange}
use Rattle.script_grammar.specs.declared.ask.TheConstants.{MOST_BYTES}
use Rattle.script_grammar.specs.declared.line.AskBytes.{AskBytes}
use Rattle.script_grammar.specs.declared.line.AskBytes.TheVariants.{Given, Count}
use Rattle.sim_script.specs.FollowsScript.{ask_bytes}

pub ask-short : (a : AskBytes) → IsAskInRange a → length (ask_bytes a) ≤ MOST_BYTES
ask-short (Given bytes) h = h
ask-short (Count n) h =
    let long = length-map-range_with_len (λ j. j % 256) 0 n in
    omega (arith, h, long)

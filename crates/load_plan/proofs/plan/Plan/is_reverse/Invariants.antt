-- the bytes so far are the last ones, turned round
use Rattle.std.proofs.Common.{◌≡◌, ◌+◌, drop, reverse}
use Rattle.std.specs.Str.{bytes_eq}
use Rattle.load_plan.specs.Calls.{counted_from}
use Rattle.load_plan.proofs.plan.Plan.is_reverse.Given as goal

abbrev pub invariant-bytes : goal.invariant-bytes
invariant-bytes l =
    bytes_eq l.answer (reverse (counted_from (l.self.seed + l.call) l.self.size))
    ≡ bytes_eq (drop l.byte-index l.answer) (reverse l.rest)

-- the digits of the bytes before this one were written
use Rattle.std.proofs.Common.{◌≡◌, ◌*◌, length, take}
use Rattle.std.specs.Prelude.{flat_map}
use Rattle.report_text.specs.Names.{byte_text}
use Rattle.report_text.proofs.digits.write_digits.Given as goal

abbrev pub invariant-loop-i : goal.invariant-loop-i
invariant-loop-i l =
    (length l.out ≡ 2 * length l.bytes)
    × (take (2 * l.i) l.out ≡ flat_map byte_text (take l.i l.bytes))

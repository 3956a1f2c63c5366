use Rattle.std.proofs.Common.{take}
use Rattle.report_reader.specs.Ranges.{AreOctets}
use Rattle.report_reader.proofs.ranges.are_octets.Given as goal

abbrev pub invariant-loop-byte : goal.invariant-loop-byte
invariant-loop-byte l = AreOctets (take l.byte-index l.bytes)

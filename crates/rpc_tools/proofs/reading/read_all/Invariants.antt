use Rattle.std.proofs.Common.{◌≡◌, ◌≤◌, length}
use Rattle.std.specs.Io.KnownBytes.{Consumes}
use Rattle.rpc_tools.proofs.reading.read_all.Given as goal

abbrev pub invariant-chunks : goal.invariant-chunks
invariant-chunks g l =
    Consumes (g.S.Source.input l.initial.source).left (g.S.Source.input l.source).left l.bytes
    × ((g.S.Source.input l.source).faults ≡ (g.S.Source.input l.initial.source).faults)
    × (l.turn ≤ length l.bytes) × (length l.bytes ≤ l.most)
    × (l.memory ≡ l.initial.memory)

-- What contracts see of a recorder in memory.
use Rattle.std.specs.Prelude.{◌==◌, Some}
use Rattle.rpc_outside.specs.Recording.{Log}
use Rattle.rpc_outside.specs.declared.memory.recorder.MemRecorder.{MemRecorder}

-- it tells its facts
abbrev pub log_of : MemRecorder → Log
log_of r = record { facts = Some r.facts.items; whole = r.memory == 0 }

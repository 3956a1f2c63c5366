-- What a fan is known to have, and what was taken of it.
use Rattle.std.specs.Prelude.{◌≡◌, ℕ, List}
use Rattle.message_buffer.specs.Buffer.{bytes_of}
use Rattle.fan_buffer.specs.declared.fan.Fan.{Fan}
use Rattle.fan_buffer.specs.declared.fan.Taking.{Taking}
use Rattle.fan_buffer.specs.declared.fan.Taking.TheVariants.{Buffer, Lost, Gone}

-- the bytes that were put into the fan when it was made
abbrev pub fan_bytes : Fan → List ℕ
fan_bytes f = bytes_of f.slot.value

-- a buffer that was taken has these bytes
abbrev pub HasBytes : List ℕ → Taking → Type 0
HasBytes bytes (Buffer b) = bytes_of b ≡ bytes
HasBytes bytes Lost = Unit {0}
HasBytes bytes Gone = Unit {0}

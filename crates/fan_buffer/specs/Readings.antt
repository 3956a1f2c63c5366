-- What a right to read a fan is known to be, and what it shows.
use Rattle.std.specs.Prelude.{◌≡◌, ℕ, List, Option, Some, None, option_map}
use Rattle.message_buffer.specs.Buffer.{Buffer, bytes_of}
use Rattle.fan_buffer.specs.declared.fan.Fan.{Fan}
use Rattle.fan_buffer.specs.declared.fan.Held.{Held}
use Rattle.fan_buffer.specs.declared.reading.Reading.{Reading}

-- the right is to read this fan
abbrev pub IsReadingOf : Fan → Reading → Type 0
IsReadingOf f r = r.claim.tag ≡ f.slot

abbrev pub buffer_in : Option (Option Held) → Option Buffer
buffer_in (Some (Some h)) = Some h.buf
buffer_in (Some None) = None
buffer_in None = None

-- the buffer that a right to read shows, or none where the fan was empty. It is one value for as
-- long as the right is there
abbrev pub shown : Reading → Option Buffer
shown r = buffer_in r.claim.value

-- its message
abbrev pub message_shown : Reading → Option (List ℕ)
message_shown r = option_map bytes_of (shown r)

-- What `read` may answer of a script: what the grammar says of it, or that memory ran out.
use Rattle.std.specs.Prelude.{ℕ, ◌≡◌, List, Result, Ok, Err}
use Rattle.script_grammar.specs.declared.bad.BadScript.{BadScript}
use Rattle.script_grammar.specs.declared.bad.ReadError.{ReadError}
use Rattle.script_grammar.specs.declared.bad.ReadError.TheVariants.{Bad, NoMemory}
use Rattle.script_grammar.specs.declared.line.Line.{Line}

abbrev pub IsReading : Result (List Line) ReadError → Result (List Line) BadScript → Type 0
IsReading (Ok lines) said = said ≡ Ok lines
IsReading (Err (Bad bad)) said = said ≡ Err bad
IsReading (Err NoMemory) said = Unit {0}

-- 1 where memory ran out
abbrev pub lacks_read : {A : Type 0} → Result A ReadError → ℕ
lacks_read (Ok value) = 0
lacks_read (Err (Bad bad)) = 0
lacks_read (Err NoMemory) = 1

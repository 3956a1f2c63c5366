-- How a bad script is shown.
use Rattle.std.specs.Prelude.{ℕ, List, ◌++◌, codes}
use Rattle.std.specs.Fmt.{decimal}
use Rattle.script_grammar.specs.declared.bad.BadScript.{BadScript}
use Rattle.script_grammar.specs.declared.bad.BadWhy.{BadWhy}
use Rattle.script_grammar.specs.declared.bad.BadWhy.TheVariants.{TooLong, Lines, First, Word, Shape}
use Rattle.script_grammar.specs.declared.bad.BadWhy.TheVariants.{Number, Hex, Nodes, Node, Same}
use Rattle.script_grammar.specs.declared.bad.ReadError.{ReadError}
use Rattle.script_grammar.specs.declared.bad.ReadError.TheVariants.{Bad, NoMemory}

abbrev pub why_text : BadWhy → List ℕ
why_text TooLong = codes "TooLong"
why_text Lines = codes "Lines"
why_text First = codes "First"
why_text Word = codes "Word"
why_text Shape = codes "Shape"
why_text Number = codes "Number"
why_text Hex = codes "Hex"
why_text Nodes = codes "Nodes"
why_text Node = codes "Node"
why_text Same = codes "Same"

-- `line L: WHY`
abbrev pub bad_text : BadScript → List ℕ
bad_text bad = codes "line " ++ decimal bad.line ++ codes ": " ++ why_text bad.why

abbrev pub error_text : ReadError → List ℕ
error_text (Bad bad) = bad_text bad
error_text NoMemory = codes "out of memory"

-- The line that a run of turns writes, and that of an audit.
use Rattle.std.specs.Prelude.{ℕ, List, [], ◌∷◌, ◌++◌, codes, flat_map}
use Rattle.std.specs.Fmt.{decimal}
use Rattle.count_line.specs.declared.audit.AuditLine.{AuditLine}
use Rattle.count_line.specs.declared.audit.AuditLine.TheVariants as audit
use Rattle.count_line.specs.declared.line.Count.{Count}
use Rattle.count_line.specs.declared.word.Word.{Word}
use Rattle.count_line.specs.declared.word.Word.TheVariants as word

abbrev pub word_text : Word → List ℕ
word_text word.Turns = codes "turns "
word_text word.Calls = codes "calls "
word_text word.Ran = codes " ran "
word_text word.Given = codes " given "
word_text word.Dropped = codes " dropped "
word_text word.Overflowed = codes " overflowed "
word_text word.Relayed = codes " relayed "
word_text word.Here = codes " here "
word_text word.Ok = codes " ok "
word_text word.Small = codes " small "
word_text word.Lost = codes " lost "
word_text word.Wrong = codes " wrong "
word_text word.Unasked = codes " unasked "
word_text word.Lawful = codes "lawful "
word_text word.Unlawful = codes "unlawful "

-- each word with its count
abbrev pub count_text : Count → List ℕ
count_text c = word_text c.word ++ decimal c.number

abbrev pub counts_text : List Count → List ℕ
counts_text counts = flat_map count_text counts

-- a line of them
abbrev pub line_text : List Count → List ℕ
line_text counts = counts_text counts ++ codes "\n"

-- a line of one count
abbrev pub lone_text : (w : Word) → (number : ℕ) → List ℕ
lone_text w number = line_text (record { word = w; number = number } ∷ [])

-- `lawful FACTS`, `unlawful LINE` or `toolong`
abbrev pub audit_text : AuditLine → List ℕ
audit_text (audit.Lawful facts) = lone_text word.Lawful facts
audit_text (audit.Unlawful line) = lone_text word.Unlawful line
audit_text audit.TooLong = codes "toolong\n"

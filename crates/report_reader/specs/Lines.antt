-- The lines of a report, and the first that isn't spelled as one.
use Rattle.std.specs.Prelude.{ℕ, ◌≡◌, ◌+◌, ◌==◌, ◌⊎◌, List, [], ◌∷◌, ◌++◌, codes, decimal, length}
use Rattle.std.specs.List.{AllByRecursion, slice_split}
use Rattle.rpc_base.specs.declared.fact.Fact.{Fact}
use Rattle.report_text.specs.Text.{who_text, event_text, text as text_of}
use Rattle.report_text.specs.Told.{IsTold, AllTold}
use Rattle.report_reader.specs.Ranges.{InRange}

-- the line of a fact without its line feed
abbrev pub bare_line : Fact → List ℕ
bare_line fact = who_text fact.who ++ codes " " ++ event_text fact.event fact.first fact.second

-- what stands before each line feed of a text, and last what stands after them all
abbrev pub parts_of : List ℕ → List (List ℕ)
parts_of bytes = slice_split (λ b. b == 10) bytes

abbrev pub head_line : List ℕ
head_line = codes "erpc-report 1"

abbrev pub end_line : ℕ → List ℕ
end_line count = codes "end " ++ decimal count

-- the lines are those of these facts, one by one
abbrev pub AreLines : List (List ℕ) → List Fact → Type 0
AreLines [] [] = Unit {0}
AreLines (line ∷ lines) (f ∷ facts) =
    (bare_line f ≡ line) × IsTold f × InRange f × AreLines lines facts
AreLines [] (f ∷ facts) = ⊥
AreLines (line ∷ lines) [] = ⊥

-- lines of these facts stand at the front of a text, and these parts are left
pub record Below (text : List ℕ) (facts : List Fact) (left : List (List ℕ)) : Type 0 where
  pub lines : List (List ℕ)
  pub are_lines : AreLines lines facts
  pub parts : parts_of text ≡ lines ++ left

-- a line is that of no fact
abbrev pub IsNoFacts : List ℕ → Type 0
IsNoFacts line = (f : Fact) → InRange f → IsTold f → bare_line f ≡ line → ⊥

-- in what stands below the first line of a report, line `number` of the report is the first that
-- isn't spelled, or isn't there
pub data BadBelow (text : List ℕ) : ℕ → Type 0 where
  missing : (facts : List Fact) → (last : List ℕ) → Below text facts (last ∷ [])
      → BadBelow text (length facts + 2)
  other : (facts : List Fact) → (line after : List ℕ) → Below text facts (line ∷ parts_of after)
      → IsNoFacts line → (line ≡ end_line (length facts) → ⊥) → BadBelow text (length facts + 2)
  beyond : (facts : List Fact) → (after : List ℕ)
      → Below text facts (end_line (length facts) ∷ parts_of after) → (after ≡ [] → ⊥)
      → BadBelow text (length facts + 3)

-- line `number` of a report is the first that isn't spelled, or isn't there
pub data FirstUnspelled (bytes : List ℕ) : ℕ → Type 0 where
  head : (first : List ℕ) → (rest : List (List ℕ)) → parts_of bytes ≡ first ∷ rest
      → (rest ≡ []) ⊎ (first ≡ head_line → ⊥) → FirstUnspelled bytes 1
  below : (text : List ℕ) → (number : ℕ) → parts_of bytes ≡ head_line ∷ parts_of text
      → BadBelow text number → FirstUnspelled bytes number

-- bytes are the report of these facts
pub record IsReportOf (bytes : List ℕ) (facts : List Fact) : Type 0 where
  pub printed : text_of facts ≡ bytes
  pub told : AllTold facts
  pub in_range : AllByRecursion InRange facts

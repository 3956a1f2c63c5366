-- What may be answered of a part of a script: what the grammar says of it, or that memory ran out.
use Rattle.std.specs.Prelude.{ℕ, ◌≡◌, Result, Ok, Err}
use Rattle.script_grammar.specs.declared.bad.BadWhy.{BadWhy}
use Rattle.script_grammar.specs.declared.refusal.Refusal.{Refusal}
use Rattle.script_grammar.specs.declared.refusal.Refusal.TheVariants.{Why, NoMemory}

abbrev pub IsRefusal : {A : Type 0} → Refusal → Result A BadWhy → Type 0
IsRefusal (Why why) said = said ≡ Err why
IsRefusal NoMemory said = Unit {0}

abbrev pub IsTold : {A : Type 0} → Result A Refusal → Result A BadWhy → Type 0
IsTold (Ok value) said = said ≡ Ok value
IsTold (Err refusal) said = IsRefusal refusal said

-- 1 where memory ran out
abbrev pub lacks : {A : Type 0} → Result A Refusal → ℕ
lacks (Ok value) = 0
lacks (Err (Why why)) = 0
lacks (Err NoMemory) = 1

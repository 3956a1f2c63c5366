-- What the words of numbers, states and reasons tell.
use Rattle.std.proofs.Common.{◌≡◌, ℕ, ◌+◌, ◌-◌, ◌*◌, ◌<◌, ◌≤◌, ◌^◌, false, List, [], ◌∷◌, Some}
use Rattle.std.proofs.Common.{refl, ap, ◌∙◌, arith, codes, decimal, fold}
use Rattle.std.proofs.lemmas.Bool.Decides.{nat_tests}
use Rattle.std.proofs.lemmas.Fmt.{digits_decimal, digits_value-decimal}
use Rattle.std.proofs.lemmas.Str.{digit_value_digit}
use Rattle.std.proofs.lemmas.Str.Parse.{IsNumeralModel, numerals_by_value, tells_digits}
use Rattle.std.proofs.lemmas.Str.Parse.{digit_from_value}
use Rattle.std.specs.Char.{digit_value}
use Rattle.std.specs.Str.Parse.{digits_value, digits_value_after, AllDigits}
use Rattle.rpc_base.specs.declared.state.SessionState.{SessionState}
use Rattle.rpc_base.specs.declared.state.SessionState.TheVariants.{Unknown, Connecting, Connected}
use Rattle.rpc_base.specs.declared.state.SessionState.TheVariants.{Closing, Closed, Failed, Broken}
use Rattle.rpc_base.specs.declared.state.SessionState.TheVariants.{Spent}
use Rattle.rpc_base.specs.declared.state.DropReason.{DropReason}
use Rattle.rpc_base.specs.declared.state.DropReason.TheVariants.{NoSession, WrongPeer, Old}
use Rattle.rpc_base.specs.declared.state.DropReason.TheVariants.{NotFirst, Working, Unserved}
use Rattle.rpc_base.specs.declared.state.DropReason.TheVariants.{JobsFull, NoMemory, Mismatch}
use Rattle.rpc_base.specs.declared.state.DropReason.TheVariants.{Ahead, Beyond, NoCall, Past}
use Rattle.rpc_base.specs.declared.state.DropReason.TheVariants.{Queued, StaleLife}
use Rattle.report_text.specs.Names.{state_text, reason_text}
use Rattle.script_grammar.specs.Numbers.{value_of}
use Rattle.report_reader.specs.Words.{is_word, number, state_named, reason_named}

own : IsNumeralModel (AllDigits 10) (digits_value 10)
own = numerals_by_value (AllDigits 10) tells_digits

abbrev step : ℕ → ℕ → ℕ
step value digit = 10 * value + (digit - 48)

same-value : (v : ℕ) (ds : List ℕ) → AllDigits 10 ds → fold step v ds ≡ digits_value_after 10 v ds
same-value v [] a = refl
same-value v (d ∷ ds) a =
    let here = digit_value_digit d (digit_from_value d a.0) in
    let is : step v d ≡ v * 10 + digit_value d = omega (arith, here) in
    ap (λ w. fold step w ds) is ∙ same-value (v * 10 + digit_value d) ds a.1

value-back : (n : ℕ) → n < 2 ^ 64 → value_of (decimal n) ≡ n
unfolding value_of
value-back n h = same-value 0 (decimal n) (digits_decimal own n h) ∙ digits_value-decimal own n h

-- a number is read back
pub num-back : (most n : ℕ) → n ≤ most → most ≤ 18446744073709551615
    → number most (decimal n) ≡ Some n
unfolding number
num-back most n h f = rw (value-back n (omega arith)) (grind (arith, nat_tests))

pub state-back : (state : SessionState) → state_named (state_text state) ≡ Some state
unfolding state_named is_word
state-back Unknown = refl
state-back Connecting = refl
state-back Connected = refl
state-back Closing = refl
state-back Closed = refl
state-back Failed = refl
state-back Broken = refl
state-back Spent = refl

pub not-busy : (state : SessionState) → is_word (state_text state) (codes "busy") ≡ false
unfolding is_word
not-busy Unknown = refl
not-busy Connecting = refl
not-busy Connected = refl
not-busy Closing = refl
not-busy Closed = refl
not-busy Failed = refl
not-busy Broken = refl
not-busy Spent = refl

pub not-toolarge : (state : SessionState) → is_word (state_text state) (codes "toolarge") ≡ false
unfolding is_word
not-toolarge Unknown = refl
not-toolarge Connecting = refl
not-toolarge Connected = refl
not-toolarge Closing = refl
not-toolarge Closed = refl
not-toolarge Failed = refl
not-toolarge Broken = refl
not-toolarge Spent = refl

pub reason-back : (reason : DropReason) → reason_named (reason_text reason) ≡ Some reason
unfolding reason_named is_word
reason-back StaleLife = refl
reason-back NoSession = refl
reason-back WrongPeer = refl
reason-back Old = refl
reason-back NotFirst = refl
reason-back Working = refl
reason-back Unserved = refl
reason-back JobsFull = refl
reason-back NoMemory = refl
reason-back Mismatch = refl
reason-back Ahead = refl
reason-back Beyond = refl
reason-back NoCall = refl
reason-back Past = refl
reason-back Queued = refl

-- What a word tells: a number, bytes, a state or a reason.
use Rattle.std.proofs.Common.{◌≡◌, if◌then◌else◌, tests, ne_eqb, ℕ, ◌+◌, ◌*◌, ◌-◌, ◌/◌, ◌%◌, ◌<◌}
use Rattle.std.proofs.Common.{◌≤◌, ◌^◌, true, false, ◌==◌, cond, nat_lt, List, [], ◌∷◌, refl, ap₂}
use Rattle.std.proofs.Common.{arith, codes, decimal, flat_map}
use Rattle.std.proofs.lemmas.Fmt.{digits_decimal, digits_value-decimal}
use Rattle.std.proofs.lemmas.Str.Parse.{IsNumeralModel, numerals_by_value, tells_digits, digit_from_value}
use Rattle.std.specs.Str.Parse.{digits_value, AllDigits}
use Rattle.rpc_base.specs.declared.state.SessionState.{SessionState}
use Rattle.rpc_base.specs.declared.state.SessionState.TheVariants.{Unknown, Connecting, Connected}
use Rattle.rpc_base.specs.declared.state.SessionState.TheVariants.{Closing, Closed, Failed, Broken}
use Rattle.rpc_base.specs.declared.state.SessionState.TheVariants.{Spent}
use Rattle.rpc_base.specs.declared.state.DropReason.{DropReason}
use Rattle.rpc_base.specs.declared.state.DropReason.TheVariants.{StaleLife, NoSession, WrongPeer, Old}
use Rattle.rpc_base.specs.declared.state.DropReason.TheVariants.{NotFirst, Working, Unserved}
use Rattle.rpc_base.specs.declared.state.DropReason.TheVariants.{JobsFull, NoMemory, Mismatch}
use Rattle.rpc_base.specs.declared.state.DropReason.TheVariants.{Ahead, Beyond, NoCall, Past}
use Rattle.rpc_base.specs.declared.state.DropReason.TheVariants.{Queued}
use Rattle.report_text.specs.Names.{state_text, reason_text, hex_digit, byte_text, bytes_text}
use Rattle.report_text.proofs.LineWords.{free, IsWord, same}

own : IsNumeralModel (AllDigits 10) (digits_value 10)
own = numerals_by_value (AllDigits 10) tells_digits

-- the number that a word writes
abbrev pub value : List ℕ → ℕ
value w = digits_value 10 w

pub number-back : (n : ℕ) → n < 2 ^ 64 → value (decimal n) ≡ n
number-back n h = digits_value-decimal own n h

digits-free : (c : ℕ) → c < 48 → (ds : List ℕ) → AllDigits 10 ds → free c ds ≡ true
digits-free c h [] a = refl
digits-free c h (d ∷ ds) a = rw (ne_eqb d c (λ e. omega (arith, digit_from_value d a.0)), digits-free c h ds a.1) refl

-- it is a word
pub number-word : (n : ℕ) → n < 2 ^ 64 → IsWord (decimal n)
number-word n h = (
  digits-free 32 (omega arith) (decimal n) (digits_decimal own n h),
  digits-free 10 (omega arith) (decimal n) (digits_decimal own n h),
)

-- and no other word that begins with a letter
pub number-other : (n c : ℕ) (cs : List ℕ) → 58 ≤ c → n < 2 ^ 64 → same (decimal n) (c ∷ cs) ≡ false
number-other n c cs h k = other (decimal n) (digits_decimal own n k) where
  other : (ds : List ℕ) → AllDigits 10 ds → same ds (c ∷ cs) ≡ false
  other [] a = refl
  other (d ∷ ds) a = rw (ne_eqb d c (λ e. omega (arith, digit_from_value d a.0))) refl

abbrev pub undigit : ℕ → ℕ
undigit d = if nat_lt d 58 then d - 48 else d - 87

digit-back : (n : ℕ) → undigit (hex_digit n) ≡ n
digit-back n = grind (arith, tests)

-- the bytes that a word writes
abbrev pub bytes_of : List ℕ → List ℕ
bytes_of [] = []
bytes_of (x ∷ []) = []
bytes_of (x ∷ y ∷ ds) = (16 * undigit x + undigit y) ∷ bytes_of ds

pub bytes-back : (bs : List ℕ) → bytes_of (bytes_text bs) ≡ bs
bytes-back [] = refl
bytes-back (b ∷ bs) = ap₂ (λ x xs. x ∷ xs) (byte-back b) (pairs-back bs) where
  byte-back : (b : ℕ) → 16 * undigit (hex_digit (b / 16)) + undigit (hex_digit (b % 16)) ≡ b
  byte-back b = rw (digit-back (b / 16), digit-back (b % 16)) (omega arith)

  pairs-back : (bs : List ℕ) → bytes_of (flat_map byte_text bs) ≡ bs
  pairs-back [] = refl
  pairs-back (b ∷ bs) = ap₂ (λ x xs. x ∷ xs) (byte-back b) (pairs-back bs)

digit-other : (n c : ℕ) → c < 48 → (hex_digit n == c) ≡ false
digit-other n c h = ne_eqb (hex_digit n) c (grind (arith, tests))

bytes-free : (c : ℕ) → c < 45 → (bs : List ℕ) → free c (bytes_text bs) ≡ true
bytes-free c h [] = rw (ne_eqb 45 c (omega arith)) refl
bytes-free c h (b ∷ bs) = pairs-free (b ∷ bs) where
  pairs-free : (bs : List ℕ) → free c (flat_map byte_text bs) ≡ true
  pairs-free [] = refl
  pairs-free (b ∷ bs) =
      rw (digit-other (b / 16) c (omega arith), digit-other (b % 16) c (omega arith), pairs-free bs)
      refl

pub bytes-word : (bs : List ℕ) → IsWord (bytes_text bs)
bytes-word bs = (bytes-free 32 (omega arith) bs, bytes-free 10 (omega arith) bs)

-- the state that a word names
abbrev pub state_of : List ℕ → SessionState
state_of w = cond (same w (codes "unknown")) Unknown (cond (same w (codes "connecting")) Connecting
    (cond (same w (codes "connected")) Connected
    (cond (same w (codes "closing")) Closing (cond (same w (codes "closed")) Closed
    (cond (same w (codes "failed")) Failed (cond (same w (codes "broken")) Broken Spent))))))

pub state-word : (state : SessionState) → IsWord (state_text state)
state-word Unknown = (refl, refl)
state-word Connecting = (refl, refl)
state-word Connected = (refl, refl)
state-word Closing = (refl, refl)
state-word Closed = (refl, refl)
state-word Failed = (refl, refl)
state-word Broken = (refl, refl)
state-word Spent = (refl, refl)

pub state-back : (state : SessionState) → state_of (state_text state) ≡ state
state-back Unknown = refl
state-back Connecting = refl
state-back Connected = refl
state-back Closing = refl
state-back Closed = refl
state-back Failed = refl
state-back Broken = refl
state-back Spent = refl

pub not-busy : (state : SessionState) → same (state_text state) (codes "busy") ≡ false
not-busy Unknown = refl
not-busy Connecting = refl
not-busy Connected = refl
not-busy Closing = refl
not-busy Closed = refl
not-busy Failed = refl
not-busy Broken = refl
not-busy Spent = refl

pub not-toolarge : (state : SessionState) → same (state_text state) (codes "toolarge") ≡ false
not-toolarge Unknown = refl
not-toolarge Connecting = refl
not-toolarge Connected = refl
not-toolarge Closing = refl
not-toolarge Closed = refl
not-toolarge Failed = refl
not-toolarge Broken = refl
not-toolarge Spent = refl

-- the reason that a word names
abbrev pub reason_of : List ℕ → DropReason
reason_of w =
    cond (same w (codes "stalelife")) StaleLife (
    cond (same w (codes "nosession")) NoSession (
    cond (same w (codes "wrongpeer")) WrongPeer (
    cond (same w (codes "old")) Old (
    cond (same w (codes "notfirst")) NotFirst (
    cond (same w (codes "working")) Working (
    cond (same w (codes "unserved")) Unserved (
    cond (same w (codes "jobsfull")) JobsFull (
    cond (same w (codes "nomemory")) NoMemory (
    cond (same w (codes "mismatch")) Mismatch (
    cond (same w (codes "ahead")) Ahead (
    cond (same w (codes "beyond")) Beyond (
    cond (same w (codes "nocall")) NoCall (
    cond (same w (codes "past")) Past (
    Queued))))))))))))))

pub reason-word : (reason : DropReason) → IsWord (reason_text reason)
reason-word StaleLife = (refl, refl)
reason-word NoSession = (refl, refl)
reason-word WrongPeer = (refl, refl)
reason-word Old = (refl, refl)
reason-word NotFirst = (refl, refl)
reason-word Working = (refl, refl)
reason-word Unserved = (refl, refl)
reason-word JobsFull = (refl, refl)
reason-word NoMemory = (refl, refl)
reason-word Mismatch = (refl, refl)
reason-word Ahead = (refl, refl)
reason-word Beyond = (refl, refl)
reason-word NoCall = (refl, refl)
reason-word Past = (refl, refl)
reason-word Queued = (refl, refl)

pub reason-back : (reason : DropReason) → reason_of (reason_text reason) ≡ reason
reason-back StaleLife = refl
reason-back NoSession = refl
reason-back WrongPeer = refl
reason-back Old = refl
reason-back NotFirst = refl
reason-back Working = refl
reason-back Unserved = refl
reason-back JobsFull = refl
reason-back NoMemory = refl
reason-back Mismatch = refl
reason-back Ahead = refl
reason-back Beyond = refl
reason-back NoCall = refl
reason-back Past = refl
reason-back Queued = refl

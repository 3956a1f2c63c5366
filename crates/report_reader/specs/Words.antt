-- How a line falls into words, and what a word tells: a number, a state, a reason, an owner.
use Rattle.std.specs.Prelude.{ℕ, zero, suc, ◌+◌, ◌==◌, nat_le, Bool, List, [], ◌∷◌, codes}
use Rattle.std.specs.Prelude.{Option, Some, None, if◌then◌else◌}
use Rattle.std.specs.List.{slice_split}
use Rattle.std.specs.Str.{bytes_eq}
use Rattle.rpc_base.specs.declared.owner.Owner.{Owner}
use Rattle.rpc_base.specs.declared.owner.Owner.TheVariants.{Ask, Reply, Control}
use Rattle.rpc_base.specs.declared.state.SessionState.{SessionState}
use Rattle.rpc_base.specs.declared.state.SessionState.TheVariants.{Unknown, Connecting, Connected}
use Rattle.rpc_base.specs.declared.state.SessionState.TheVariants.{Closing, Closed, Failed, Broken}
use Rattle.rpc_base.specs.declared.state.SessionState.TheVariants.{Spent}
use Rattle.rpc_base.specs.declared.state.DropReason.{DropReason}
use Rattle.rpc_base.specs.declared.state.DropReason.TheVariants.{NoSession, WrongPeer, Old}
use Rattle.rpc_base.specs.declared.state.DropReason.TheVariants.{NotFirst, Working, Unserved}
use Rattle.rpc_base.specs.declared.state.DropReason.TheVariants.{JobsFull, NoMemory, Mismatch}
use Rattle.rpc_base.specs.declared.state.DropReason.TheVariants.{Ahead, Beyond, NoCall, Past}
use Rattle.rpc_base.specs.declared.state.DropReason.TheVariants.{Queued, StaleLife}
use Rattle.script_grammar.specs.Numbers.{value_of}

-- what follows, where something was found before
infixl 10 ◌>>=◌
abbrev pub ◌>>=◌ : {A B : Type 0} → Option A → (A → Option B) → Option B
None >>= f = None
Some a >>= f = f a

-- the words of a line: what stands between its blanks
unfoldable pub words_of : List ℕ → List (List ℕ)
words_of line = slice_split (λ b. b == 32) line

-- word i, no bytes where it isn't there
abbrev pub word : ℕ → List (List ℕ) → List ℕ
word i [] = []
word zero (w ∷ ws) = w
word (suc i) (w ∷ ws) = word i ws

-- whether a word is this name
unfoldable pub is_word : List ℕ → List ℕ → Bool
is_word word name = bytes_eq word name

-- the number that a word writes, where it is at most so much
unfoldable pub number : ℕ → List ℕ → Option ℕ
number most word = if nat_le (value_of word) most then Some (value_of word) else None

abbrev pub num : ℕ → ℕ → List (List ℕ) → Option ℕ
num most i ws = number most (word i ws)

-- the owner that three words tell
unfoldable pub owner_at : ℕ → List (List ℕ) → Option Owner
owner_at i ws =
    if is_word (word i ws) (codes "c") then (do
      session ← num 65535 (i + 1) ws
      request ← num 281474976710655 (i + 2) ws
      Some (Ask session request))
    else (if is_word (word i ws) (codes "s") then (do
      session ← num 65535 (i + 1) ws
      request ← num 281474976710655 (i + 2) ws
      Some (Reply session request))
    else Some Control)

unfoldable pub state_named : List ℕ → Option SessionState
state_named w =
    if is_word w (codes "unknown") then Some Unknown
    else (if is_word w (codes "connecting") then Some Connecting
    else (if is_word w (codes "connected") then Some Connected
    else (if is_word w (codes "closing") then Some Closing
    else (if is_word w (codes "closed") then Some Closed
    else (if is_word w (codes "failed") then Some Failed
    else (if is_word w (codes "broken") then Some Broken
    else (if is_word w (codes "spent") then Some Spent else None)))))))

abbrev pub state_at : ℕ → List (List ℕ) → Option SessionState
state_at i ws = state_named (word i ws)

unfoldable pub reason_named : List ℕ → Option DropReason
reason_named w =
    if is_word w (codes "stalelife") then Some StaleLife
    else (if is_word w (codes "nosession") then Some NoSession
    else (if is_word w (codes "wrongpeer") then Some WrongPeer
    else (if is_word w (codes "old") then Some Old
    else (if is_word w (codes "notfirst") then Some NotFirst
    else (if is_word w (codes "working") then Some Working
    else (if is_word w (codes "unserved") then Some Unserved
    else (if is_word w (codes "jobsfull") then Some JobsFull
    else (if is_word w (codes "nomemory") then Some NoMemory
    else (if is_word w (codes "mismatch") then Some Mismatch
    else (if is_word w (codes "ahead") then Some Ahead
    else (if is_word w (codes "beyond") then Some Beyond
    else (if is_word w (codes "nocall") then Some NoCall
    else (if is_word w (codes "past") then Some Past
    else (if is_word w (codes "queued") then Some Queued
    else None))))))))))))))

abbrev pub reason_at : ℕ → List (List ℕ) → Option DropReason
reason_at i ws = reason_named (word i ws)

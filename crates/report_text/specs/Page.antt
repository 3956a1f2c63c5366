-- Text goes to a page, which gathers it, and from there to a sink.
use Rattle.std.specs.Prelude.{◌≡◌, ℕ, List, ◌++◌, Result, MatchResult}
use Rattle.rpc_outside.specs.Writing.{Wrote, Written, Broke}

-- the page held `held`, text was put, a front of both went to the sink, and the page holds the rest
pub record Puts (held now_held : List ℕ) (old new : Written) (text : List ℕ) : Type 0 where
  pub moved : List ℕ
  pub whole : held ++ text ≡ moved ++ now_held
  pub wrote : Wrote old new moved

-- a front of what the page held and of the text went to the sink, and a fault came
pub record Breaks (held : List ℕ) (old new : Written) (text : List ℕ) : Type 0 where
  pub broke : Broke old new (held ++ text)

-- the text was put, or a fault came: what the page held and holds, and what the sink told
abbrev pub Filled : {T E : Type 0} → (held now_held : List ℕ) → (old new : Written) → Result T E
    → List ℕ → Type 0
Filled held now_held old new result text =
    MatchResult result (λ _. Puts held now_held old new text) (λ _. Breaks held old new text)

-- the same of a sink before and after
abbrev pub Fills : {K T E : Type 0} → (K → Written) → (old new : K) → (held now_held : List ℕ)
    → Result T E → List ℕ → Type 0
Fills written old new held now_held result text =
    Filled held now_held (written old) (written new) result text

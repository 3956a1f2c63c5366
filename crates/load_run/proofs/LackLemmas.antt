-- Want of memory in a load.
use Rattle.std.proofs.Common.{◌≡◌, ℕ, ◌≤◌, Bool, true, false, cond, refl, sym, ap, subst, ◌∙◌}
use Rattle.std.proofs.Common.{arith}
use Rattle.std.specs.Prelude.{◌==◌}
use Rattle.load_run.specs.Loading.{LoadsSoFar, Prints, going_at, is_clean, is_over, state_in}
use Rattle.memory_count.proofs.Risen.{none-risen-by}
use Rattle.memory_count.specs.Faults.{HasRisenBy}
use Rattle.rpc_outside.specs.Writing.{Written}
use Rattle.run_status.specs.Words.{lacks, lacks_told}
use Rattle.run_status.specs.declared.going.Going.{Going}
use Rattle.run_status.specs.declared.going.Going.TheVariants.{On, Over}
use Rattle.run_status.specs.declared.status.Status.{Status}
use Rattle.run_status.specs.declared.status.Status.TheVariants.{CallsFailed, Done, NoMemory}
use Rattle.run_status.specs.declared.status.Status.TheVariants.{TurnsSpent}

-- a run whose turns found memory never ends for want of it
lacks-if : (over clean spent : Bool)
    → lacks_told (cond over (Over (cond clean Done CallsFailed)) (cond spent (Over TurnsSpent) On)) ≡ 0
lacks-if true true spent = refl
lacks-if true false spent = refl
lacks-if false clean true = refl
lacks-if false clean false = refl

lacks-going : (s : LoadsSoFar) → lacks_told (going_at s) ≡ 0
lacks-going s = lacks-if (is_over (state_in s)) (is_clean s) (s.made == s.turns)

pub lacks-none : (going : Going) (m n : ℕ) → lacks_told going ≡ 0 → m ≤ n
    → HasRisenBy (lacks_told going) m n
lacks-none going m n none le =
    subst (λ (k : ℕ). HasRisenBy k m n) (sym none) (none-risen-by m n le)

-- nor is it told where the line was written
pub prints-lack : (s : LoadsSoFar) (told : Status) (old new : Written) → Prints s told old new
    → lacks told ≡ 0
prints-lack s NoMemory old new prints =
    let so : lacks_told (Over NoMemory) ≡ 0 = ap lacks_told (sym prints.0) ∙ lacks-going s in
    absurd (omega (arith, so))
prints-lack s _ old new prints = refl

pub prints-none : (s : LoadsSoFar) (told : Status) (old new : Written) (m n : ℕ)
    → Prints s told old new → m ≤ n → HasRisenBy (lacks told) m n
prints-none s told old new m n prints le =
    subst (λ (k : ℕ). HasRisenBy k m n) (sym (prints-lack s told old new prints))
    (none-risen-by m n le)

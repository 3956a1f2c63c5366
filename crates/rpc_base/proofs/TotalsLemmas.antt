-- What one number counts.
use Rattle.std.proofs.Common.{◌≡◌, ◌≢◌, ℕ, ◌<◌, ap, arith, cond, eq-eqb, ne_eqb}
use mathlib.Core.Logic.{dite}
use native.Mathlib.Decide.{ℕ_discrete}
use Rattle.rpc_base.specs.Totals.{only}

pub only-same : (k x : ℕ) → x ≡ k → only k x ≡ 1
only-same k x e = ap (λ b. cond b 1 0) (eq-eqb x k e)

pub only-other : (k x : ℕ) → x ≢ k → only k x ≡ 0
only-other k x n = ap (λ b. cond b 1 0) (ne_eqb x k n)

pub only-is : (k x : ℕ) → 0 < only k x → x ≡ k
only-is k x h = dite (ℕ_discrete x k) (λ e. e) (λ n. absurd (omega (arith, only-other k x n)))

-- What is there, once it was asked of the allocator, is what the allocator made.
use Rattle.std.proofs.Common.{◌≡◌, Some, Result, Ok, Err, IfOk, sym, subst}
use Rattle.std.specs.Result.{result_ok}
use Rattle.std.proofs.lemmas.Option.{none-some, same_Some}

pub as-made : {T E : Type 0} (P : T → Type 0) (asked : Result T E) (x : T)
    → Some x ≡ result_ok asked → IfOk asked P → P x
as-made P (Ok y) x e made = subst P (sym (same_Some x y e)) made
as-made P (Err _) x e made = absurd (none-some x (sym e))

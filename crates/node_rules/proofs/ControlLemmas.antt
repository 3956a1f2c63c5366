-- The row of a disconnect request, by whether any server session passes.
use Rattle.std.proofs.Common.{◌≡◌, Bool, true, false, ◌||◌, cond, Option, Some, List, [], ◌∷◌, refl}
use Rattle.std.specs.List.{find, list_any}
use Rattle.rpc_laws.specs.declared.rows.ControlRow.TheVariants.{Ends, Misses}
use Rattle.rpc_laws.specs.declared.tables.Server.{Server}
use Rattle.rpc_laws.specs.ControlTable.{end_row}

row-cons : (b a : Bool) (x : Server) (o : Option Server) → end_row o ≡ cond a Ends Misses
    → end_row (cond b (Some x) o) ≡ cond (b || a) Ends Misses
row-cons true a x o e = refl
row-cons false a x o e = e

pub row_by_any : (p : Server → Bool) (xs : List Server) → end_row (find p xs) ≡ cond (list_any p xs) Ends Misses
row_by_any p [] = refl
row_by_any p (x ∷ xs) = row-cons (p x) (list_any p xs) x (find p xs) (row_by_any p xs)

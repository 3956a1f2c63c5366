-- Items that are written one after another.
use Rattle.std.proofs.Common.{ℕ, ◌+◌, ◌<◌, List, get_or, length, take, refl, subst}
use Rattle.std.specs.Prelude.{flat_map}
use Rattle.report_text.proofs.Items.{flat_map-around, flat_map-more}
use Rattle.rpc_outside.proofs.Printing.{broke-longer, wrote-broke, wrote-then}
use Rattle.rpc_outside.specs.Writing.{Broke, Wrote, Written}

module _ {X : Type 0} (f : X → List ℕ) (xs : List X) (i : ℕ) (d : X) (below : i < length xs)
    (old mid new : Written)
    (first : Wrote old mid (flat_map f (take i xs))) where
  -- one more is written
  pub wrote-item : Wrote mid new (f (get_or xs i d))
      → Wrote old new (flat_map f (take (i + 1) xs))
  wrote-item second =
      rw (flat_map-more f xs i d (get_or xs i d) below refl)
      (wrote-then old mid new _ _ first second)

  -- a fault comes in one
  pub broke-item : Broke mid new (f (get_or xs i d))
      → Broke old new (flat_map f xs)
  broke-item second =
      subst (Broke old new) (flat_map-around f xs i d (get_or xs i d) below refl)
      (broke-longer old new _ _
      (wrote-broke old mid new _ _ first second))

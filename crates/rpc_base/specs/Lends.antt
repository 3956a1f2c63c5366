-- What a list ends as, once a `&mut` to one of its items has ended.
use Rattle.std.specs.Prelude.{ℕ, List, slice_set}
use Rattle.std.specs.Borrow.{Fml, RattleType, MutBor, Lends}
use Rattle.rpc_base.specs.contracts.listed.Listed.{the_row}

module _ (T : RattleType) (s : MutBor (List T.Denot)) (i : ℕ) where
  -- item i is the last value that was written through r
  abbrev pub lends_item : MutBor T.Denot → Fml
  lends_item r = Lends (the_row T) T s r (slice_set s.now i)

-- The pace of a session that has a rate.
use Rattle.std.proofs.Common.{◌≡◌, ◌<◌, ℕ, Bool, true, false, ◌&&◌, List, Some, ◌∙◌, slice_get}
use Rattle.std.specs.List.{position}
use Rattle.std.specs.Prelude.{◌==◌}
use borrow.Author.Tests.{ltb-true}
use Rattle.rpc_base.proofs.TablesLemmas.{find-found}
use Rattle.rpc_base.proofs.TakingLemmas.{find-passes}
use Rattle.rpc_laws.specs.declared.tables.Pace.{Pace}
use Rattle.rpc_laws.specs.Pacing.{is_paced}

second : (a b : Bool) → (a && b) ≡ true → b ≡ true
second true b e = e
second false b e = cc

pub paced-rate : (session : ℕ) (ps : List Pace) (i : ℕ) (p : Pace)
    → position (is_paced session) ps ≡ Some i → slice_get ps i ≡ Some p → 0 < p.rate
paced-rate session ps i p e h =
    ltb-true 0 p.rate (second (p.session == session) _
    (find-passes (is_paced session) ps p (find-found (is_paced session) ps i e ∙ h)))

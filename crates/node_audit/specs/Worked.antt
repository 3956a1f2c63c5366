-- The jobs of a life that were worked.
use Rattle.std.specs.Prelude.{ℕ, ◌≡◌, ◌≤◌, ◌==◌, ◌&&◌, not, Bool, true, List, count_by}
use Rattle.std.specs.List.{list_any}
use Rattle.rpc_base.specs.declared.event.Event.{Event}
use Rattle.rpc_base.specs.declared.event.Event.TheVariants.{Worked}
use Rattle.rpc_base.specs.declared.fact.Fact.{Fact}
use Rattle.rpc_laws.specs.AtMostOnce.{works_request}

-- no job is worked twice by facts of one life of a node
abbrev pub WorkedOnce : List Fact → Type 0
WorkedOnce g = (t r : ℕ) → count_by (λ f. works_request t r f.event) g ≤ 1

-- whether two jobs are the same: a session and a request
abbrev pub same_job : ℕ × ℕ → ℕ × ℕ → Bool
same_job a b = a.0 == b.0 && a.1 == b.1

abbrev pub has_job : (t r : ℕ) → List (ℕ × ℕ) → Bool
has_job t r jobs = list_any (same_job (t, r)) jobs

-- these jobs were worked by these facts, and no others
abbrev pub AreWorked : List (ℕ × ℕ) → List Fact → Type 0
AreWorked jobs g = (t r : ℕ) → has_job t r jobs ≡ list_any (λ f. works_request t r f.event) g

-- whether an event works none of these jobs
abbrev pub is_new : List (ℕ × ℕ) → Event → Bool
is_new jobs (Worked t r) = not (has_job t r jobs)
is_new jobs _ = true

use Rattle.std.proofs.Common.{refl}
use Rattle.history_audit.proofs.AuditorLemmas.{finds-none}
use Rattle.history_audit.proofs.auditor.Auditor.new.Goals as goal

pub returns-clause-none : goal.returns-clause-none
returns-clause-none c = record { polls = c.new-2.ensures; counted = refl; finds = finds-none _ c.in_ok-tables.ensures.none }

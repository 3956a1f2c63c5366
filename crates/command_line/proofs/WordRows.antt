-- What the grammar says of words that are written out.
use Rattle.std.proofs.Common.{◌≡◌, [], ◌∷◌, Some, None, codes, refl}
use Rattle.clap.proofs.OnLiterals.{clap_on_literals}
use Rattle.script_grammar.specs.Numbers.{is_numeral, value_of}
use Rattle.command_line.specs.Numbers.{number_in}
use Rattle.command_line.specs.Tasks.{audit_in, drill_in, sim_in, taken, task_of}
use Rattle.command_line.specs.declared.task.Task.TheVariants.{Sim, Drill, Audit}

sim_is_taken : task_of (codes "sim" ∷ []) ≡ Some Sim
unfolding clap_on_literals task_of sim_in taken
sim_is_taken = refl

sim_takes_no_word : task_of (codes "sim" ∷ codes "x" ∷ []) ≡ None
unfolding clap_on_literals task_of sim_in taken
sim_takes_no_word = refl

help_is_no_task : task_of (codes "sim" ∷ codes "--help" ∷ []) ≡ None
unfolding clap_on_literals task_of sim_in taken
help_is_no_task = refl

drill_is_taken : task_of (codes "drill" ∷ codes "7" ∷ codes "100" ∷ []) ≡ Some (Drill 7 100)
unfolding clap_on_literals task_of drill_in taken number_in is_numeral value_of
drill_is_taken = refl

drill_wants_calls : task_of (codes "drill" ∷ codes "7" ∷ []) ≡ None
unfolding clap_on_literals task_of drill_in taken number_in is_numeral value_of
drill_wants_calls = refl

drill_takes_two : task_of (codes "drill" ∷ codes "7" ∷ codes "100" ∷ codes "1" ∷ []) ≡ None
unfolding clap_on_literals task_of drill_in taken number_in is_numeral value_of
drill_takes_two = refl

no_leading_zero : task_of (codes "drill" ∷ codes "07" ∷ codes "100" ∷ []) ≡ None
unfolding clap_on_literals task_of drill_in taken number_in is_numeral value_of
no_leading_zero = refl

no_plus : task_of (codes "drill" ∷ codes "+7" ∷ codes "100" ∷ []) ≡ None
unfolding clap_on_literals task_of drill_in taken number_in is_numeral value_of
no_plus = refl

not_so_many : task_of (codes "drill" ∷ codes "7" ∷ codes "10001" ∷ []) ≡ None
unfolding clap_on_literals task_of drill_in taken number_in is_numeral value_of
not_so_many = refl

audit_is_taken : task_of (codes "audit" ∷ []) ≡ Some Audit
unfolding clap_on_literals task_of audit_in taken
audit_is_taken = refl

audit_takes_no_word : task_of (codes "audit" ∷ codes "x" ∷ []) ≡ None
unfolding clap_on_literals task_of audit_in taken
audit_takes_no_word = refl

-- What the grammar says of words of `serve` that are written out.
use Rattle.std.proofs.Common.{◌≡◌, [], ◌∷◌, Some, None, codes, refl}
use Rattle.clap.proofs.OnLiterals.{clap_on_literals}
use Rattle.script_grammar.specs.Numbers.{is_numeral, value_of}
use Rattle.command_line.specs.Numbers.{number_in}
use Rattle.command_line.specs.Tasks.{serve_in, taken, task_of}
use Rattle.command_line.specs.declared.task.Idle.TheVariants.{Sleep, Spin}
use Rattle.command_line.specs.declared.task.Task.TheVariants.{Serve}

serve_is_taken : task_of (codes "serve" ∷ codes "a:7" ∷ codes "--turns" ∷ codes "3" ∷ [])
    ≡ Some (Serve (record {
      addr = codes "a:7";
      turns = 3;
      workers = 0;
      life = 1;
      relay = None;
      timeout = 5000;
      idle = Sleep;
    }))
unfolding clap_on_literals task_of serve_in taken number_in is_numeral value_of
serve_is_taken = refl

turns_are_needed : task_of (codes "serve" ∷ codes "a:7" ∷ []) ≡ None
unfolding clap_on_literals task_of serve_in taken number_in is_numeral value_of
turns_are_needed = refl

turns_stand_once : task_of (codes "serve" ∷ codes "a:7" ∷ codes "--turns" ∷ codes "3"
    ∷ codes "--turns" ∷ codes "3" ∷ []) ≡ None
unfolding clap_on_literals task_of serve_in taken number_in is_numeral value_of
turns_stand_once = refl

workers_are_taken : task_of (codes "serve" ∷ codes "--workers" ∷ codes "16" ∷ codes "a:7"
    ∷ codes "--turns" ∷ codes "3" ∷ [])
    ≡ Some (Serve (record {
      addr = codes "a:7";
      turns = 3;
      workers = 16;
      life = 1;
      relay = None;
      timeout = 5000;
      idle = Sleep;
    }))
unfolding clap_on_literals task_of serve_in taken number_in is_numeral value_of
workers_are_taken = refl

few_workers : task_of (codes "serve" ∷ codes "a:7" ∷ codes "--turns" ∷ codes "3"
    ∷ codes "--workers" ∷ codes "17" ∷ []) ≡ None
unfolding clap_on_literals task_of serve_in taken number_in is_numeral value_of
few_workers = refl

waiting_is_taken : task_of (codes "serve" ∷ codes "a:7" ∷ codes "--spin" ∷ codes "--turns"
    ∷ codes "3" ∷ codes "--timeout" ∷ codes "1000000" ∷ [])
    ≡ Some (Serve (record {
      addr = codes "a:7";
      turns = 3;
      workers = 0;
      life = 1;
      relay = None;
      timeout = 1000000;
      idle = Spin;
    }))
unfolding clap_on_literals task_of serve_in taken number_in is_numeral value_of
waiting_is_taken = refl

short_timeout : task_of (codes "serve" ∷ codes "a:7" ∷ codes "--turns" ∷ codes "3"
    ∷ codes "--timeout" ∷ codes "99" ∷ []) ≡ None
unfolding clap_on_literals task_of serve_in taken number_in is_numeral value_of
short_timeout = refl

life_is_taken : task_of (codes "serve" ∷ codes "a:7" ∷ codes "--life" ∷ codes "2" ∷ codes "--turns"
    ∷ codes "3" ∷ [])
    ≡ Some (Serve (record {
      addr = codes "a:7";
      turns = 3;
      workers = 0;
      life = 2;
      relay = None;
      timeout = 5000;
      idle = Sleep;
    }))
unfolding clap_on_literals task_of serve_in taken number_in is_numeral value_of
life_is_taken = refl

high_life : task_of (codes "serve" ∷ codes "a:7" ∷ codes "--turns" ∷ codes "3"
    ∷ codes "--life" ∷ codes "4294967296" ∷ []) ≡ None
unfolding clap_on_literals task_of serve_in taken number_in is_numeral value_of
high_life = refl

relay_is_taken : task_of (codes "serve" ∷ codes "a:7" ∷ codes "--relay" ∷ codes "b:8"
    ∷ codes "--turns" ∷ codes "3" ∷ codes "--workers" ∷ codes "0" ∷ [])
    ≡ Some (Serve (record {
      addr = codes "a:7";
      turns = 3;
      workers = 0;
      life = 1;
      relay = Some (codes "b:8");
      timeout = 5000;
      idle = Sleep;
    }))
unfolding clap_on_literals task_of serve_in taken number_in is_numeral value_of
relay_is_taken = refl

relay_or_workers : task_of (codes "serve" ∷ codes "a:7" ∷ codes "--turns" ∷ codes "3"
    ∷ codes "--workers" ∷ codes "1" ∷ codes "--relay" ∷ codes "b:8" ∷ []) ≡ None
unfolding clap_on_literals task_of serve_in taken number_in is_numeral value_of
relay_or_workers = refl

relay_stands_once : task_of (codes "serve" ∷ codes "a:7" ∷ codes "--turns" ∷ codes "3"
    ∷ codes "--relay" ∷ codes "b:8" ∷ codes "--relay" ∷ codes "b:8" ∷ []) ≡ None
unfolding clap_on_literals task_of serve_in taken number_in is_numeral value_of
relay_stands_once = refl

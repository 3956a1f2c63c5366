-- What the grammar says of words of `load` that are written out.
use Rattle.std.proofs.Common.{◌≡◌, List, [], ◌∷◌, Some, None, codes, refl}
use Rattle.clap.proofs.OnLiterals.{clap_on_literals}
use Rattle.clap.specs.Words.{Text}
use Rattle.script_grammar.specs.Numbers.{is_numeral, value_of}
use Rattle.command_line.specs.Numbers.{number_in, type_at}
use Rattle.command_line.specs.Tasks.{load_in, taken, task_of}
use Rattle.command_line.specs.declared.task.Idle.TheVariants.{Sleep, Spin}
use Rattle.command_line.specs.declared.task.Task.TheVariants.{Load}

abbrev words : (type : Text) → List Text → List Text
words type last = codes "load" ∷ codes "--turns" ∷ codes "3" ∷ codes "a:7" ∷ codes "--calls"
    ∷ codes "2" ∷ codes "--type" ∷ type ∷ codes "--size" ∷ codes "64" ∷ codes "--seed" ∷ codes "0"
    ∷ last

load_is_taken : task_of (words (codes "130") [])
    ≡ Some (Load (record {
      addr = codes "a:7";
      calls = 2;
      req_type = 130;
      size = 64;
      seed = 0;
      turns = 3;
      bind = codes "127.0.0.1:0";
      frame = None;
      life = 1;
      timeout = 5000;
      idle = Sleep;
    }))
unfolding clap_on_literals task_of load_in taken number_in type_at is_numeral value_of
load_is_taken = refl

bind_is_taken : task_of (words (codes "1") (codes "--bind" ∷ codes "b:0" ∷ []))
    ≡ Some (Load (record {
      addr = codes "a:7";
      calls = 2;
      req_type = 1;
      size = 64;
      seed = 0;
      turns = 3;
      bind = codes "b:0";
      frame = None;
      life = 1;
      timeout = 5000;
      idle = Sleep;
    }))
unfolding clap_on_literals task_of load_in taken number_in type_at is_numeral value_of
bind_is_taken = refl

no_such_type : task_of (words (codes "5") []) ≡ None
unfolding clap_on_literals task_of load_in taken number_in type_at is_numeral value_of
no_such_type = refl

all_are_needed : task_of (codes "load" ∷ codes "a:7" ∷ []) ≡ None
unfolding clap_on_literals task_of load_in taken number_in type_at is_numeral value_of
all_are_needed = refl

waiting_is_taken : task_of (words (codes "1") (codes "--frame" ∷ codes "1452" ∷ codes "--spin"
    ∷ codes "--timeout" ∷ codes "100" ∷ []))
    ≡ Some (Load (record {
      addr = codes "a:7";
      calls = 2;
      req_type = 1;
      size = 64;
      seed = 0;
      turns = 3;
      bind = codes "127.0.0.1:0";
      frame = Some 1452;
      life = 1;
      timeout = 100;
      idle = Spin;
    }))
unfolding clap_on_literals task_of load_in taken number_in type_at is_numeral value_of
waiting_is_taken = refl

short_frame : task_of (words (codes "1") (codes "--frame" ∷ codes "1087" ∷ [])) ≡ None
unfolding clap_on_literals task_of load_in taken number_in type_at is_numeral value_of
short_frame = refl

life_is_taken : task_of (words (codes "1") (codes "--life" ∷ codes "4294967295" ∷ []))
    ≡ Some (Load (record {
      addr = codes "a:7";
      calls = 2;
      req_type = 1;
      size = 64;
      seed = 0;
      turns = 3;
      bind = codes "127.0.0.1:0";
      frame = None;
      life = 4294967295;
      timeout = 5000;
      idle = Sleep;
    }))
unfolding clap_on_literals task_of load_in taken number_in type_at is_numeral value_of
life_is_taken = refl

nobodys_life : task_of (words (codes "1") (codes "--life" ∷ codes "0" ∷ [])) ≡ None
unfolding clap_on_literals task_of load_in taken number_in type_at is_numeral value_of
nobodys_life = refl

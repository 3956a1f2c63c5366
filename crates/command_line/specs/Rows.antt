-- The subcommands, each with the simple command that takes the words after its name.
use Rattle.std.specs.Prelude.{codes, true, Some, [], ◌∷◌}
use Rattle.clap.specs.Words.{App, Rule, Text, new_app, new_rule, with_rule}
use Rattle.clap.specs.Simple.{on_top}
use Rattle.clap.specs.declared.builder.action.ArgAction.TheVariants.{Set, SetTrue}

-- a command that reads all of its words
abbrev pub row : Text → App
row name = on_top (λ top. record top { no_binary_name = true }) (new_app name)

-- an argument without a name, that has to be given
abbrev pub positional : Text → Rule
positional id = record (new_rule id) { action = Some Set; required = true }

-- `--NAME VALUE`, which is not given twice, with a word for its value
abbrev pub named : Text → Rule
named name = record (new_rule name) { long = Some name; action = Some Set; value_names = 1 }

-- the same, which has to be given
abbrev pub needed : Text → Rule
needed name = record (named name) { required = true }

-- the same, with its value where it is not given
abbrev pub optional : (name default : Text) → Rule
optional name default = record (named name) { defaults = default ∷ [] }

-- `--NAME`, which is not given twice and has no value
abbrev pub flag : Text → Rule
flag name = record (new_rule name) { long = Some name; action = Some SetTrue }

-- `sim`
abbrev pub sim_row : App
sim_row = row (codes "sim")

-- `audit`
abbrev pub audit_row : App
audit_row = row (codes "audit")

-- `drill SEED CALLS`
abbrev pub drill_row : App
drill_row = with_rule (with_rule (row (codes "drill")) (positional (codes "SEED")))
    (positional (codes "CALLS"))

-- the options that say how a run waits
abbrev pub with_waiting : App → App
with_waiting app = with_rule (with_rule app (optional (codes "timeout") (codes "5000")))
    (flag (codes "spin"))

-- the option that says which life its node has
abbrev pub with_life : App → App
with_life app = with_rule app (optional (codes "life") (codes "1"))

-- the options of `serve` that say who works its jobs
abbrev pub with_workers : App → App
with_workers app = with_rule (with_rule app (optional (codes "workers") (codes "0")))
    (named (codes "relay"))

-- `serve ADDR --turns T [--workers W] [--relay ADDR] [--life L]`, and how it waits
abbrev pub serve_row : App
serve_row =
    let addressed = with_rule (row (codes "serve")) (positional (codes "ADDR")) in
    with_waiting (with_life (with_workers (with_rule addressed (needed (codes "turns")))))

-- the options of `load` that say what is asked
abbrev pub with_call : App → App
with_call app = with_rule (with_rule (with_rule (with_rule app (needed (codes "calls")))
    (needed (codes "type"))) (needed (codes "size"))) (needed (codes "seed"))

-- the options of `load` that say how its packets go
abbrev pub with_way : App → App
with_way app = with_rule (with_rule app (optional (codes "bind") (codes "127.0.0.1:0")))
    (named (codes "frame"))

-- `load ADDR --calls N --type Y --size Z --seed G --turns T [--bind ADDR] [--frame BYTES]
-- [--life L]`, and how it waits
abbrev pub load_row : App
load_row =
    let addressed = with_rule (row (codes "load")) (positional (codes "ADDR")) in
    let turning = with_rule (with_call addressed) (needed (codes "turns")) in
    with_waiting (with_life (with_way turning))

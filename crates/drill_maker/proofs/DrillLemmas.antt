-- The drill, one command or one call further.
use Rattle.std.proofs.Common.{◌≡◌, ◌≢◌, ℕ, ◌+◌, ◌*◌, ◌%◌, ◌<◌, ◌≤◌, Bool, true, false, nat_eq, List, [], ◌∷◌, ◌++◌}
use Rattle.std.proofs.Common.{refl, ◌∙◌, arith, add-one, append_assoc}
use Rattle.std.proofs.lemmas.Bool.Decides.{nat_tests}
use Rattle.rand_core.specs.Pcg32Seed.{pcg32_seed}
use Rattle.rand_pcg.specs.Lcg.{Lcg}
use Rattle.rand_pcg.specs.Pcg.{pcg32_of_seed}
use Rattle.script_grammar.specs.declared.line.Command.{Command}
use Rattle.script_grammar.specs.declared.line.Command.TheVariants.{Settle, Tick}
use Rattle.script_grammar.specs.declared.line.Line.{Line}
use Rattle.drill_maker.specs.Draws.{seeded}
use Rattle.drill_maker.specs.Drill.{drawn_call, drawn_calls, drawn_noise, drawn_noises, drill_of}
use Rattle.drill_maker.specs.Drill.{nodes, numbered, pairs, rest_after, rounds}

pub no_noises : (g : Lcg) → drawn_noises 0 g ≡ ([], g)
unfolding drawn_noises
no_noises g = refl

pub noises_more : (n : ℕ) (g : Lcg)
    → (drawn_noises (n + 1) g).0 ≡ (drawn_noises n g).0 ++ (drawn_noise (drawn_noises n g).1).0 ∷ []
unfolding drawn_noises
noises_more n g = rw add-one refl

pub noises_next : (n : ℕ) (g : Lcg)
    → (drawn_noises (n + 1) g).1 ≡ (drawn_noise (drawn_noises n g).1).1
unfolding drawn_noises
noises_next n g = rw add-one refl

pub no_rounds : rounds 0 ≡ []
unfolding rounds
no_rounds = refl

pub rounds_more : (n : ℕ) → rounds (n + 1) ≡ rounds n ++ Settle 400 ∷ Tick 5000 ∷ []
unfolding rounds
rounds_more n = rw add-one refl

pub no_calls : (calls : ℕ) (g : Lcg) → drawn_calls calls 0 g ≡ ([], g)
unfolding drawn_calls
no_calls calls g = refl

pub calls_more : (calls n : ℕ) (g : Lcg)
    → (drawn_calls calls (n + 1) g).0 ≡ (drawn_calls calls n g).0
    ++ (drawn_call (drawn_calls calls n g).1).0
    ++ (drawn_noises 6 (drawn_call (drawn_calls calls n g).1).1).0 ++ rest_after calls (n + 1)
unfolding drawn_calls
calls_more calls n g = rw add-one refl

pub calls_next : (calls n : ℕ) (g : Lcg)
    → (drawn_calls calls (n + 1) g).1 ≡ (drawn_noises 6 (drawn_call (drawn_calls calls n g).1).1).1
unfolding drawn_calls
calls_next calls n g = rw add-one refl

-- the commands with one call more
pub call_added : (calls n : ℕ) (g : Lcg) (front call noises rest : List Command)
    → call ≡ (drawn_call (drawn_calls calls n g).1).0
    → noises ≡ (drawn_noises 6 (drawn_call (drawn_calls calls n g).1).1).0
    → rest ≡ rest_after calls (n + 1)
    → ((front ++ (drawn_calls calls n g).0) ++ call) ++ noises ++ rest
    ≡ front ++ (drawn_calls calls (n + 1) g).0
call_added calls n g front call noises rest c m r =
    let whole : (drawn_calls calls (n + 1) g).0 ≡ (drawn_calls calls n g).0 ++ call ++ noises ++ rest =
    rw (c, m, r) (calls_more calls n g) in
    rw whole (simp append_assoc)

-- the lines so far: a call takes 8 of them, and every sixteenth one 13 more
lines_by : (b : Bool) (n before rest : ℕ) → nat_eq ((n + 1) % 16) 0 ≡ b
    → 16 * before + 13 * (n % 16) ≤ 96 + 141 * n
    → rest ≤ before + 21 → ((n + 1) % 16 ≢ 0 → rest ≡ before + 8)
    → 16 * rest + 13 * ((n + 1) % 16) ≤ 96 + 141 * (n + 1)
lines_by true n before rest e h most same =
    let none : (n + 1) % 16 ≡ 0 = grind (arith, nat_tests) in
    omega arith
lines_by false n before rest e h most same =
    let some : (n + 1) % 16 ≢ 0 = grind (arith, nat_tests) in
    omega (arith, same some)

pub lines_more : (calls n before after rest : ℕ) → 16 * before + 13 * (n % 16) ≤ 96 + 141 * n
    → after ≡ before + 8 → rest ≤ after + 13
    → ((n + 1) % 16 ≢ 0 → n + 1 ≢ calls → rest ≡ after) → n + 1 < calls
    → 16 * rest + 13 * ((n + 1) % 16) ≤ 96 + 141 * (n + 1)
lines_more calls n before after rest h a most same less =
    lines_by (nat_eq ((n + 1) % 16) 0) n before rest refl h (omega arith)
    (λ some. same some (omega arith) ∙ a)

pub drill_whole : (seed calls : ℕ) (script : List Line) (commands : List Command) → script ≡ numbered 2 commands
    → commands ≡ nodes ++ pairs ++ (drawn_calls calls calls (seeded seed)).0
    → script ≡ drill_of seed calls
unfolding drill_of
drill_whole seed calls script commands s c = rw (s, c) refl

pub seeded_by : (seed : ℕ) → pcg32_of_seed (pcg32_seed 16 seed) ≡ seeded seed
unfolding seeded
seeded_by seed = refl

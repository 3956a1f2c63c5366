-- What a source gave, chunk by chunk.
use Rattle.std.proofs.Common.{◌≡◌, ℕ, ◌<◌, Option, Some, None, IfSome, List, [], length, Result}
use Rattle.std.proofs.Common.{Err, nat_lt, true, if◌then◌else◌, refl, sym, ap, ◌∙◌, arith}
use Rattle.std.proofs.Common.{rules, tests, append-nil, length-append}
use Rattle.std.specs.Io.KnownBytes.{Consumes, IsAtEnd}
use Rattle.rpc_tools.specs.Outcomes.{Drained, IsRefused}
use Rattle.script_grammar.specs.declared.bad.BadScript.{BadScript as Bad}
use Rattle.script_grammar.specs.declared.bad.BadWhy.TheVariants.{TooLong}
use Rattle.script_grammar.specs.declared.line.Line.{Line}
use Rattle.script_grammar.specs.Script.{script_of, bad_at}

pub drained : (left mid more : Option (List ℕ)) (bytes : List ℕ) → Consumes left mid bytes
    → IsAtEnd mid → Consumes mid more [] → Drained left more bytes
drained None mid more bytes c e d = tt
drained (Some all) None more bytes c e d = absurd c
drained (Some all) (Some rest) None bytes c e d = absurd d
drained (Some all) (Some rest) (Some last) bytes c e d =
    (c ∙ rw e (append-nil bytes), ap (λ (xs : List ℕ). Some xs) (sym d ∙ e))

pub too_long : (most : ℕ) (left more : Option (List ℕ)) (bytes : List ℕ) → Consumes left more bytes
    → most < length bytes → IfSome left (λ all. most < length all)
too_long most None more bytes c h = tt
too_long most (Some all) None bytes c h = absurd c
too_long most (Some all) (Some rest) bytes c h = omega (arith, length-append bytes rest, ap length c)

long-refused : (n : ℕ) (rest : Result (List Line) Bad) → 16777216 < n
    → (if nat_lt 16777216 n then bad_at 0 TooLong else rest)
    ≡ Err (record { line = 0; why = TooLong })
long-refused n rest h = let t : nat_lt 16777216 n ≡ true = search (rules, tests) in rw t refl

script-too_long : (all : List ℕ) → 16777216 < length all → script_of all ≡ Err (record { line = 0; why = TooLong })
unfolding script_of
script-too_long all h = long-refused (length all) _ h

pub refused-too_long : (left : Option (List ℕ)) → IfSome left (λ all. 16777216 < length all)
    → IfSome left (λ all. IsRefused all (record { line = 0; why = TooLong }))
refused-too_long None h = tt
refused-too_long (Some all) h = script-too_long all h

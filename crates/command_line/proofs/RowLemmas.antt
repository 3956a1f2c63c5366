-- What a simple command makes of words.
use Rattle.std.proofs.Common.{◌≡◌, ◌≢◌, true, false, ◌==◌, List, [], ◌∷◌, length, Some, refl, sym}
use Rattle.std.proofs.Common.{ap, inl, inr, arith}
use Rattle.std.proofs.lemmas.Bool.Decides.{nat_tests}
use Rattle.clap.proofs.WalkLemmas.{both}
use Rattle.clap.specs.Words.{App, HasKind, HasMatchesOf, IsAmong, Kinds, Text, fault_of, found_of}
use Rattle.clap.specs.Words.{is_simple_and_free, kind_of, rows_of}
use Rattle.clap.specs.declared.error.Error.{Error}
use Rattle.clap.specs.declared.error.kind.ErrorKind.{ErrorKind}
use Rattle.clap.specs.declared.error.kind.ErrorKind.TheVariants.{OutOfMemory}
use Rattle.clap.specs.declared.parser.matches.ArgMatches.{ArgMatches}
use Rattle.command_line.specs.Answers.{IsNone}
use Rattle.command_line.specs.Tasks.{taken}
use Rattle.command_line.specs.declared.task.WordsError.{WordsError}
use Rattle.command_line.specs.declared.task.WordsError.TheVariants.{Usage, NoMemory}

pub taken_whole : (row : App) (words : List Text) (found : ArgMatches) → is_simple_and_free row ≡ true
    → fault_of row words ≡ [] → HasMatchesOf row words found
    → taken row words ≡ Some (rows_of (found_of found))
unfolding taken
taken_whole row words found simple none matches =
    rw none (ap (λ rows. Some rows) (sym (matches (both _ _ simple).0).0))

some_kind : (kind : ErrorKind) (kinds : Kinds) → IsAmong kind kinds → (length kinds == 0) ≡ false
some_kind kind [] among = absurd among
some_kind kind (k ∷ kinds) among = grind (arith, nat_tests)

among_kinds : (kinds : Kinds) (error : Error) → HasKind kinds error → kind_of error ≢ OutOfMemory
    → (length kinds == 0) ≡ false
among_kinds kinds error (inl memory) other = absurd (other memory)
among_kinds kinds error (inr among) other = some_kind (kind_of error) kinds among

pub refused : (row : App) (words : List Text) (error : Error) (answer : WordsError)
    → HasKind (fault_of row words) error
    → (answer ≡ Usage → kind_of error ≢ OutOfMemory) → IsNone answer (taken row words)
unfolding taken
refused row words error Usage kind other = rw (among_kinds (fault_of row words) error kind (other refl)) refl
refused row words error NoMemory kind other = tt

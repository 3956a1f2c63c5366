-- A simulation of a script that met no fault, and was refused no memory, is Done.
use Rattle.std.proofs.Common.{◌≡◌, ◌≢◌, ℕ, ◌≤◌, Some, List, Ok, refl, subst, arith}
use Rattle.memory_count.specs.Faults.{HasRisen, HasRisenBy, IsQuiet}
use Rattle.rpc_outside.specs.Reading.{Unread}
use Rattle.rpc_outside.specs.Writing.{Written}
use Rattle.run_status.specs.declared.status.Status.{Status}
use Rattle.run_status.specs.declared.status.Status.TheVariants.{Done, BadScript, ReadFault}
use Rattle.run_status.specs.declared.status.Status.TheVariants.{WriteFault, NoMemory}
use Rattle.run_status.specs.Words.{lacks}
use Rattle.rpc_tools.specs.Outcomes.{Simulates, Reports, IsRefused, Succeeds}
use Rattle.script_grammar.specs.declared.bad.BadScript.{BadScript as Bad}
use Rattle.script_grammar.specs.declared.line.Line.{Line}
use Rattle.script_grammar.specs.Script.{script_of}

pub no-fault : (old new : ℕ) → HasRisen old new → IsQuiet old new → ⊥
no-fault old new h q = omega (arith, h.rose, q.same, q.room)

-- what was refused before counts too
pub later-risen : (n memory mid then_memory : ℕ) → memory ≤ mid → HasRisenBy n mid then_memory
    → HasRisenBy n memory then_memory
later-risen n memory mid then_memory less risen =
    record { no_less = omega (arith, risen.no_less); rose = omega (arith, risen.rose) }

pub risen-none : (old new : ℕ) → old ≤ new → HasRisenBy 0 old new
risen-none old new less = record { no_less = less; rose = omega (arith, less) }

-- no memory was refused, so none is told to be wanting
pub not-lacking : (status : Status) (old new : ℕ) → HasRisenBy (lacks status) old new
    → IsQuiet old new → status ≢ NoMemory
not-lacking NoMemory old new h q = λ same. omega (arith, h.rose, q.same, q.room)
not-lacking _ old new h q = λ same. cc

not-refused : (bytes : List ℕ) (script : List Line) (bad : Bad) → script_of bytes ≡ Ok script
    → IsRefused bytes bad → ⊥
not-refused bytes script bad e h = cc

pub headline : (status : Status) (bytes : List ℕ) (script : List Line) (input then_input : Unread)
    (page then_page : Written) → Simulates status input then_input page then_page
    → input.left ≡ Some bytes → script_of bytes ≡ Ok script → IsQuiet input.faults then_input.faults
    → IsQuiet page.faults then_page.faults → (memory then_memory : ℕ)
    → HasRisenBy (lacks status) memory then_memory → IsQuiet memory then_memory
    → Succeeds script status then_input page then_page
headline Done bytes script input then_input page then_page s e g q w m n risen quiet =
    let told = rw e at s.bytes in
    let found : script_of bytes ≡ Ok s.script = told.0 in
    let same : s.script ≡ script = cc in
    record {
      done = refl;
      ended = told.1;
      reports = subst (λ (x : List Line). Reports x page then_page) same s.reports;
    }
headline (BadScript bad) bytes script input then_input page then_page s e g q w m n risen quiet =
    absurd (not-refused bytes script bad g (rw e at s.refused))
headline ReadFault bytes script input then_input page then_page s e g q w m n risen quiet =
    absurd (no-fault _ _ s.fault q)
headline WriteFault bytes script input then_input page then_page s e g q w m n risen quiet =
    absurd (no-fault _ _ s.breaks.broke.fault w)
headline NoMemory bytes script input then_input page then_page s e g q w m n risen quiet = absurd (not-lacking NoMemory m n risen quiet refl)
headline _ bytes script input then_input page then_page s e g q w m n risen quiet = absurd s

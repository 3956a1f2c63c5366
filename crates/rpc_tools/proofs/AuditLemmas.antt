-- What an audit says, and that it says what is so.
use Rattle.std.proofs.Common.{◌≡◌, ◌≢◌, ℕ, ◌<◌, ◌≤◌, inl, inr, Option, Some, None, List, [], length, refl}
use Rattle.std.proofs.Common.{sym, ap, ◌∙◌, subst, arith, Result, Ok, Err}
use Rattle.std.specs.Prelude.{IfSome, MatchResult}
use Rattle.count_line.specs.declared.audit.AuditLine.{AuditLine}
use Rattle.count_line.specs.declared.audit.AuditLine.TheVariants as told
use Rattle.count_line.specs.Line.{audit_text}
use Rattle.history_audit.proofs.VerdictLemmas.{one-verdict}
use Rattle.history_audit.specs.Auditing.{IsVerdict}
use Rattle.history_audit.specs.declared.verdict.Verdict.{Verdict}
use Rattle.history_audit.specs.declared.verdict.Verdict.TheVariants as verdict
use Rattle.memory_count.specs.Faults.{HasRisenBy, IsQuiet}
use Rattle.rpc_outside.specs.Reading.{Unread}
use Rattle.rpc_outside.specs.Writing.{Written, Wrote}
use Rattle.rpc_tools.proofs.Headline.{no-fault}
use Rattle.rpc_tools.specs.Audits.{Answers, Audits, IsReadFor, Judges, line_of, Says, SaysOf}
use Rattle.rpc_tools.specs.Audits.{status_of, Tells, Writes}
use Rattle.rpc_tools.specs.declared.reading.Input.TheVariants.{Whole, TooLong as TooMany}
use Rattle.rpc_tools.specs.Outcomes.{Drained, Gives, Untouched}
use Rattle.run_status.specs.declared.status.Status.{Status}
use Rattle.run_status.specs.declared.status.Status.TheVariants.{Done, NotLawful, TooLong}
use Rattle.run_status.specs.declared.status.Status.TheVariants.{NoMemory, ReadFault, WriteFault}
use Rattle.run_status.specs.Words.{lacks}

pub says-verdict : (bytes : List ℕ) (v : Verdict) → length bytes ≤ 67108864 → IsVerdict bytes v
    → Says bytes (line_of v)
says-verdict bytes (verdict.Lawful facts) few is = (few, is)
says-verdict bytes (verdict.Unlawful line) few is = (few, is)

-- a line of all bytes of a source
read-for : (line : AuditLine) (more : Option (List ℕ)) → more ≡ Some [] → IsReadFor line more
read-for (told.Lawful facts) more e = e
read-for (told.Unlawful line) more e = e
read-for told.TooLong more e = tt

says-of : (line : AuditLine) (left more : Option (List ℕ)) (bytes : List ℕ) → Drained left more bytes
    → Says bytes line → IfSome left (λ all. Says all line × IsReadFor line more)
says-of line None more bytes d says = tt
says-of line (Some all) more bytes d says =
    (subst (λ (z : List ℕ). Says z line) (sym d.0) says, read-for line more d.1)

pub judges-whole : (r : Result AuditLine Status) (bytes : List ℕ) (before after : Unread)
    → MatchResult r (λ line. length bytes ≤ 67108864 → Says bytes line) (λ s. s ≡ NoMemory)
    → Gives 67108864 (Whole bytes) before after → Judges r before after
judges-whole (Ok line) bytes before after says gives = record {
  quiet = gives.0;
  says = says-of line before.left after.left bytes gives.1 (says gives.2);
}
judges-whole (Err status) bytes before after says gives = rw says tt

says-long : (left more : Option (List ℕ)) → IfSome left (λ all. 67108864 < length all)
    → IfSome left (λ all. Says all told.TooLong × IsReadFor told.TooLong more)
says-long None more h = tt
says-long (Some all) more h = (h, tt)

pub judges-long : (before after : Unread) → Gives 67108864 TooMany before after
    → Judges (Ok told.TooLong) before after
judges-long before after gives =
    record { quiet = gives.0; says = says-long before.left after.left gives.1 }

-- a line that is said, and its status
told-as : (status : Status) (line : AuditLine) (input then_input : Unread) (page then_page : Written)
    → status ≡ status_of line → Wrote page then_page (audit_text line) → SaysOf line input then_input
    → Audits status input then_input page then_page
told-as status (told.Lawful facts) input then_input page then_page e wrote says =
    rw e (facts, record { says = says; wrote = wrote })
told-as status (told.Unlawful line) input then_input page then_page e wrote says =
    rw e (record { says = says; wrote = wrote })
told-as status told.TooLong input then_input page then_page e wrote says =
    rw e (record { says = says; wrote = wrote })

pub audits-said : (status : Status) (line : AuditLine) (input then_input : Unread) (page then_page : Written)
    → Writes status line page then_page → SaysOf line input then_input
    → Audits status input then_input page then_page
audits-said status line input then_input page then_page (inl w) says =
    told-as status line input then_input page then_page w.0 w.1 says
audits-said status line input then_input page then_page (inr w) says =
    rw w.0 (record { line = line; says = says; broke = w.1 })

-- where nothing is said
pub audits-silent : (status : Status) (input then_input : Unread) (page then_page : Written)
    → Judges (Err status) input then_input → Untouched page then_page
    → Audits status input then_input page then_page
audits-silent ReadFault input then_input page then_page fault sink = record { fault = fault; sink = sink }
audits-silent NoMemory input then_input page then_page j sink = sink
audits-silent _ input then_input page then_page j sink = absurd j

-- what is written tells of no want of memory
said-none : (line : AuditLine) → lacks (status_of line) ≡ 0
said-none (told.Lawful facts) = refl
said-none (told.Unlawful line) = refl
said-none told.TooLong = refl

pub said-risen : (status : Status) (line : AuditLine) (page then_page : Written)
    (memory then_memory : ℕ) → Writes status line page then_page
    → HasRisenBy 0 memory then_memory → HasRisenBy (lacks status) memory then_memory
said-risen status line page then_page memory then_memory (inl w) risen =
    let none : lacks status ≡ 0 = ap lacks w.0 ∙ said-none line in
    subst (λ (n : ℕ). HasRisenBy n memory then_memory) (sym none) risen
said-risen status line page then_page memory then_memory (inr w) risen =
    subst (λ (s : Status). HasRisenBy (lacks s) memory then_memory) (sym w.0) risen

-- one line is said of bytes
says-one : (bytes : List ℕ) (one other : AuditLine) → Says bytes one → Says bytes other → one ≡ other
says-one bytes (told.Lawful n) (told.Lawful m) a b =
    ap line_of (one-verdict bytes (omega (arith, a.0)) (verdict.Lawful n) (verdict.Lawful m) a.1 b.1)
says-one bytes (told.Lawful n) (told.Unlawful m) a b =
    ap line_of (one-verdict bytes (omega (arith, a.0)) (verdict.Lawful n) (verdict.Unlawful m) a.1 b.1)
says-one bytes (told.Unlawful n) (told.Lawful m) a b =
    ap line_of (one-verdict bytes (omega (arith, a.0)) (verdict.Unlawful n) (verdict.Lawful m) a.1 b.1)
says-one bytes (told.Unlawful n) (told.Unlawful m) a b =
    ap line_of (one-verdict bytes (omega (arith, a.0)) (verdict.Unlawful n) (verdict.Unlawful m) a.1 b.1)
says-one bytes (told.Lawful n) told.TooLong a b = absurd (omega (arith, a.0, b))
says-one bytes (told.Unlawful n) told.TooLong a b = absurd (omega (arith, a.0, b))
says-one bytes told.TooLong (told.Lawful m) a b = absurd (omega (arith, a, b.0))
says-one bytes told.TooLong (told.Unlawful m) a b = absurd (omega (arith, a, b.0))
says-one bytes told.TooLong told.TooLong a b = refl

answered : (status : Status) (line mine : AuditLine) (bytes : List ℕ) (input then_input : Unread)
    (page then_page : Written) → status ≡ status_of mine → Tells mine input then_input page then_page
    → input.left ≡ Some bytes → Says bytes line → Answers line status then_input page then_page
answered status line mine bytes input then_input page then_page e t left says =
    let mine_says : Says bytes mine × IsReadFor mine then_input.left =
    subst (λ (o : Option (List ℕ)). IfSome o (λ all. Says all mine × IsReadFor mine then_input.left)) left t.says.says in
    let same : mine ≡ line = says-one bytes mine line mine_says.0 says in
    subst (λ (l : AuditLine). Answers l status then_input page then_page) same
    (record { told = e; read = mine_says.1; wrote = t.wrote })

pub answers : (status : Status) (bytes : List ℕ) (line : AuditLine) (input then_input : Unread)
    (page then_page : Written) → Audits status input then_input page then_page
    → input.left ≡ Some bytes → Says bytes line → IsQuiet input.faults then_input.faults
    → IsQuiet page.faults then_page.faults → status ≢ NoMemory
    → Answers line status then_input page then_page
answers Done bytes line input then_input page then_page a left says q w n =
    answered Done line (told.Lawful a.0) bytes input then_input page then_page refl a.1 left says
answers (NotLawful l) bytes line input then_input page then_page a left says q w n =
    answered (NotLawful l) line (told.Unlawful l) bytes input then_input page then_page refl a left says
answers TooLong bytes line input then_input page then_page a left says q w n =
    answered TooLong line told.TooLong bytes input then_input page then_page refl a left says
answers ReadFault bytes line input then_input page then_page a left says q w n = absurd (no-fault _ _ a.fault q)
answers WriteFault bytes line input then_input page then_page a left says q w n =
    absurd (no-fault _ _ a.broke.fault w)
answers NoMemory bytes line input then_input page then_page a left says q w n = absurd (n refl)
answers _ bytes line input then_input page then_page a left says q w n = absurd a

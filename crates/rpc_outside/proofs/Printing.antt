-- Writing one text after another.
use Rattle.std.proofs.Common.{List, ℕ, [], ◌++◌, Result, Ok, Err, refl, sym, ap, subst, ◌∙◌, append_assoc}
use Rattle.std.proofs.KnownBytes.{Appends-nil, Appends-trans}
use Rattle.memory_count.specs.Faults.{HasRisen}
use Rattle.rpc_outside.specs.Writing.{Wrote, Written, Broke, Prints}

-- no text was written yet
pub wrote-nothing : (sink : Written) → Wrote sink sink []
wrote-nothing sink = record { bytes = Appends-nil sink.written; quiet = refl }

-- one text was written, and then another
pub wrote-then : (old mid new : Written) (text more : List ℕ) → Wrote old mid text → Wrote mid new more
    → Wrote old new (text ++ more)
wrote-then old mid new text more first second = record {
  bytes = Appends-trans old.written mid.written new.written text more first.bytes second.bytes;
  quiet = second.quiet ∙ first.quiet;
}

-- the front of a text is the front of a longer one
pub broke-longer : (old new : Written) (text more : List ℕ) → Broke old new text
    → Broke old new (text ++ more)
broke-longer old new text more broke =
    let (front, rest, whole, bytes) = broke.bytes in
    record {
      bytes = (front, rest ++ more, ap (λ l. l ++ more) whole ∙ append_assoc front rest more, bytes);
      fault = broke.fault;
    }

-- one text was written, and then the front of another
pub wrote-broke : (old mid new : Written) (text more : List ℕ) → Wrote old mid text → Broke mid new more
    → Broke old new (text ++ more)
wrote-broke old mid new text more first second =
    let (front, rest, whole, bytes) = second.bytes in
    record {
      bytes = (
        text ++ front,
        rest,
        ap (λ l. text ++ l) whole ∙ sym (append_assoc text front rest),
        Appends-trans old.written mid.written new.written text front first.bytes bytes,
      );
      fault = subst (λ n. HasRisen n new.faults) first.quiet second.fault;
    }

-- one text was written, and then another one was printed
pub prints-then : {T E : Type 0} (old mid new : Written) (result : Result T E) (text more : List ℕ)
    → Wrote old mid text → Prints mid new result more → Prints old new result (text ++ more)
prints-then old mid new (Ok _) text more first second = wrote-then old mid new text more first second
prints-then old mid new (Err _) text more first second = wrote-broke old mid new text more first second

-- Putting one text after another on a page.
use Rattle.std.proofs.Common.{◌≡◌, ℕ, List, [], ◌++◌, Result, Ok, Err, refl, sym, ap, subst}
use Rattle.std.proofs.Common.{◌∙◌, append_assoc, append-nil}
use Rattle.rpc_outside.proofs.Printing.{wrote-nothing, wrote-then, wrote-broke, broke-longer, prints-then}
use Rattle.rpc_outside.specs.Writing.{Wrote, Broke, Prints, Written}
use Rattle.report_text.specs.Page.{Puts, Breaks, Filled}

-- a text that fits stays on the page
pub puts-held : (held : List ℕ) (sink : Written) (text : List ℕ) → Puts held (held ++ text) sink sink text
puts-held held sink text = record { moved = []; whole = refl; wrote = wrote-nothing sink }

-- nothing was put
pub puts-nothing : (held : List ℕ) (sink : Written) → Puts held held sink sink []
puts-nothing held sink = record { moved = []; whole = append-nil held; wrote = wrote-nothing sink }

-- what the page held was written, and then the text
pub fills-past : {T E : Type 0} (held : List ℕ) (old mid new : Written) (result : Result T E) (text : List ℕ)
    → Wrote old mid held → Prints mid new result text
    → Filled held [] old new result text
fills-past held old mid new (Ok _) text first second = record {
  moved = held ++ text;
  whole = sym (append-nil (held ++ text));
  wrote = wrote-then old mid new held text first second;
}
fills-past held old mid new (Err _) text first second = record {
  broke = wrote-broke old mid new held text first second;
}

-- one text was put, and then another
pub puts-then : (a b c : List ℕ) (old mid new : Written) (text more : List ℕ)
    → Puts a b old mid text → Puts b c mid new more
    → Puts a c old new (text ++ more)
puts-then a b c old mid new text more first second = record {
  moved = first.moved ++ second.moved;
  whole = sym (append_assoc a text more) ∙ ap (λ l. l ++ more) first.whole ∙ append_assoc first.moved b more
      ∙ ap (λ l. first.moved ++ l) second.whole ∙ sym (append_assoc first.moved second.moved c);
  wrote = wrote-then old mid new first.moved second.moved first.wrote second.wrote;
}

-- one text was put, and then a fault came in another
pub puts-breaks : (a b : List ℕ) (old mid new : Written) (text more : List ℕ)
    → Puts a b old mid text → Breaks b mid new more
    → Breaks a old new (text ++ more)
puts-breaks a b old mid new text more first second =
    let same : first.moved ++ (b ++ more) ≡ a ++ (text ++ more) =
    sym (append_assoc first.moved b more) ∙ ap (λ l. l ++ more) (sym first.whole) ∙ append_assoc a text more in
    record {
      broke = subst (Broke old new) same
          (wrote-broke old mid new first.moved (b ++ more) first.wrote
          second.broke);
    }

-- one text was put, and then another one or a front of it
pub fills-then : {T E : Type 0} (a b c : List ℕ) (old mid new : Written) (result : Result T E) (text more : List ℕ)
    → Puts a b old mid text → Filled b c mid new result more
    → Filled a c old new result (text ++ more)
fills-then a b c old mid new (Ok _) text more first second =
    puts-then a b c old mid new text more first second
fills-then a b c old mid new (Err _) text more first second =
    puts-breaks a b old mid new text more first second

-- a fault came in the front of a longer text
pub breaks-further : (held : List ℕ) (old new : Written) (text more : List ℕ)
    → Breaks held old new text → Breaks held old new (text ++ more)
breaks-further held old new text more broke =
    record {
      broke = subst (Broke old new) (append_assoc held text more)
          (broke-longer old new (held ++ text) more broke.broke);
    }

-- the same of two texts, put as one
pub fills-two : {T E : Type 0} (a b c : List ℕ) (old mid new : Written) (result : Result T E) (text more last : List ℕ)
    → Puts a b old mid text → Filled b c mid new result (more ++ last)
    → Filled a c old new result (text ++ more ++ last)
fills-two a b c old mid new result text more last first second =
    rw (append_assoc text more last) (fills-then a b c old mid new result text
    (more ++ last) first second)

pub breaks-further-two : (held : List ℕ) (old new : Written) (text more last : List ℕ)
    → Breaks held old new text → Breaks held old new (text ++ more ++ last)
breaks-further-two held old new text more last broke =
    rw (append_assoc text more last) (breaks-further held old new text (more ++ last) broke)

-- a text was put on an empty page, and then the page was written
pub prints-page : {T E : Type 0} (empty held : List ℕ) (old mid new : Written) (result : Result T E) (text : List ℕ)
    → empty ≡ [] → Puts empty held old mid text
    → Prints mid new result held → Prints old new result text
prints-page empty held old mid new result text none first second =
    let same : text ≡ first.moved ++ held = ap (λ l. l ++ text) (sym none) ∙ first.whole in
    rw same (prints-then old mid new result first.moved held first.wrote second)

-- what was put, and what the page then held, was written
pub puts-flushed : (a b : List ℕ) (old mid new : Written) (text : List ℕ)
    → Puts a b old mid text → Wrote mid new b → Puts a [] old new text
puts-flushed a b old mid new text p w = record {
  moved = p.moved ++ b;
  whole = p.whole ∙ sym (append-nil (p.moved ++ b));
  wrote = wrote-then old mid new p.moved b p.wrote w;
}

pub breaks-flushed : (a b : List ℕ) (old mid new : Written) (text : List ℕ)
    → Puts a b old mid text → Broke mid new b → Breaks a old new text
breaks-flushed a b old mid new text p w =
    record { broke = rw p.whole (wrote-broke old mid new p.moved b p.wrote w) }

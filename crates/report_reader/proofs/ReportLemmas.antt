-- The lines of a report, one after another.
use Rattle.std.proofs.Common.{◌≡◌, ◌==◌, ℕ, ◌+◌, ◌⊎◌, inl, inr, List, [], ◌∷◌, ◌++◌, length, refl}
use Rattle.std.proofs.Common.{sym, ap}
use Rattle.std.proofs.Common.{◌∙◌, subst, append_assoc, arith}
use Rattle.std.proofs.lemmas.List.{length-append}
use Rattle.std.proofs.Common.{true, false, ◌-◌, ◌≤◌, take, drop, take_all, length-drop, codes}
use Rattle.std.proofs.Common.{decimal, nat_eq, true≢false, Some, None}
use Rattle.std.specs.Prelude.{IfOk}
use Rattle.std.specs.List.{AllByRecursion, join_with_byte, position, starts_with}
use Rattle.std.proofs.lemmas.List.Splits.{join_with_byte-slice_split}
use Rattle.std.proofs.Common.{flat_map, map, ◌<◌, ◌^◌, Result, Ok, Err}
use Rattle.report_text.specs.Text.{line_text, text as text_of}
use Rattle.std.proofs.lemmas.Bool.Decides.{Decides-eqb}
use Rattle.std.proofs.lemmas.Slice.Eq.{bytes_eq-Decides, starts_is}
use Rattle.script_grammar.proofs.SplitLemmas.{split_at_position, split_nowhere}
use Rattle.rpc_base.specs.declared.fact.Fact.{Fact}
use Rattle.report_text.specs.Told.{AllTold, IsTold}
use Rattle.report_reader.specs.declared.report.Reading.{Reading}
use Rattle.report_reader.specs.declared.report.Reading.TheVariants.{Whole, Bad}
use Rattle.report_reader.specs.Lines.{AreLines, BadBelow, Below, FirstUnspelled, IsNoFacts}
use Rattle.report_reader.specs.Lines.{IsReportOf}
use Rattle.report_reader.specs.Lines.{bare_line, end_line, head_line, missing, other, beyond, head}
use Rattle.report_reader.specs.Lines.{below, parts_of}
use Rattle.report_reader.specs.Ranges.{InRange}
use Rattle.report_reader.specs.Reading.{Ends, IsLineOf, IsReading, IsReadingBelow}
use Rattle.report_reader.specs.Words.{is_word}
use Rattle.report_text.proofs.LineWords.{free}
use Rattle.report_text.proofs.WordsBack.{number-word}
use Rattle.report_reader.proofs.FactLemmas.{line-free, line-no-end}
use Rattle.report_reader.proofs.LineLemmas.{part-then}

-- the lines of facts, one of its own, and nothing behind its line feed
abbrev all_parts : List Fact → List ℕ → List (List ℕ)
all_parts facts end = map bare_line facts ++ end ∷ [] ∷ []

-- no fact was read yet
pub read-none : (text : List ℕ) → Below text [] (parts_of text)
read-none text = record { lines = []; are_lines = tt; parts = refl }

lines-more : (lines : List (List ℕ)) (facts : List Fact) (line : List ℕ) (f : Fact)
    → AreLines lines facts → bare_line f ≡ line → IsTold f → InRange f
    → AreLines (lines ++ line ∷ []) (facts ++ f ∷ [])
lines-more [] [] line f a e told r = (e, told, r, tt)
lines-more [] (g ∷ facts) line f a e told r = absurd a
lines-more (l ∷ lines) [] line f a e told r = absurd a
lines-more (l ∷ lines) (g ∷ facts) line f a e told r =
    (a.0, a.1, a.2, lines-more lines facts line f a.3 e told r)

pub read-more : (text : List ℕ) (facts : List Fact) (left line after : List ℕ) (fact : Fact)
    → Below text facts (parts_of left) → parts_of left ≡ line ∷ parts_of after → IsLineOf line fact
    → Below text (facts ++ fact ∷ []) (parts_of after)
read-more text facts left line after fact b e is = record {
  lines = b.lines ++ line ∷ [];
  are_lines = lines-more b.lines facts line fact b.are_lines is.is is.told is.in_range;
  parts = b.parts
      ∙ (ap (λ (ps : List (List ℕ)). b.lines ++ ps) e
      ∙ sym (append_assoc b.lines (line ∷ []) (parts_of after)));
}

left-at : (text : List ℕ) (facts : List Fact) (left more : List (List ℕ)) → Below text facts left
    → left ≡ more → Below text facts more
left-at text facts left more b e = subst (λ (ps : List (List ℕ)). Below text facts ps) e b

-- no line is left
pub read-all : (text : List ℕ) (facts : List Fact) (left : List ℕ)
    → Below text facts (parts_of left)
    → parts_of left ≡ left ∷ [] → BadBelow text (length facts + 2)
read-all text facts left b e = missing facts left (left-at text facts _ _ b e)

-- a line of no fact
ends-by : (text : List ℕ) (facts : List Fact) (line after : List ℕ) (told : Reading)
    → Below text facts (line ∷ parts_of after) → IsNoFacts line → Ends line after facts told
    → IsReadingBelow text told
ends-by text facts line after (Whole all) b none e =
    let here : Below text facts (end_line (length facts) ∷ [] ∷ []) =
    left-at text facts _ _ b (ap (λ (l : List ℕ). l ∷ parts_of after) e.1
    ∙ ap (λ (a : List ℕ). end_line (length facts) ∷ parts_of a) e.2) in
    subst (λ (fs : List Fact). Below text fs (end_line (length fs) ∷ [] ∷ [])) (sym e.0) here
ends-by text facts line after (Bad n) b none (inl e) =
    subst (λ (m : ℕ). BadBelow text m) (sym e.0) (other facts line after b none e.1)
ends-by text facts line after (Bad n) b none (inr e) =
    subst (λ (m : ℕ). BadBelow text m) (sym e.0)
    (beyond facts after (left-at text facts _ _ b (ap (λ (l : List ℕ). l ∷ parts_of after) e.1)) e.2)

pub read-end : (text : List ℕ) (facts : List Fact) (left line after : List ℕ) (told : Reading)
    → Below text facts (parts_of left) → parts_of left ≡ line ∷ parts_of after → IsNoFacts line
    → Ends line after facts told → IsReadingBelow text told
read-end text facts left line after told b e none ends =
    ends-by text facts line after told (left-at text facts _ _ b e) none ends

-- the lines, joined, are the text of the report
line-joined : (f : Fact) (r : List ℕ) → bare_line f ++ 10 ∷ r ≡ line_text f ++ r
unfolding line_text
line-joined f r = simp append_assoc refl

lines-joined : (lines : List (List ℕ)) (facts : List Fact) (x e : List ℕ) → AreLines lines facts
    → join_with_byte 10 (x ∷ lines ++ e ∷ [] ∷ []) ≡ x ++ 10 ∷ (flat_map line_text facts ++ (e ++ 10 ∷ []))
lines-joined [] [] x e a = refl
lines-joined [] (g ∷ facts) x e a = absurd a
lines-joined (l ∷ lines) [] x e a = absurd a
lines-joined (l ∷ lines) (f ∷ facts) x e a =
    let rest = flat_map line_text facts ++ (e ++ 10 ∷ []) in
    let one = lines-joined lines facts l e a.3 in
    let here : l ++ 10 ∷ rest ≡ line_text f ++ rest =
    ap (λ (t : List ℕ). t ++ 10 ∷ rest) (sym a.0) ∙ line-joined f rest in
    ap (λ (t : List ℕ). x ++ 10 ∷ t)
    (one ∙ (here ∙ sym (append_assoc (line_text f) (flat_map line_text facts) (e ++ 10 ∷ []))))

text-form : (facts : List Fact) (r : List ℕ)
    → head_line ++ 10 ∷ (r ++ (end_line (length facts) ++ 10 ∷ []))
    ≡ codes "erpc-report 1\n" ++ r ++ (codes "end " ++ decimal (length facts) ++ codes "\n")
text-form facts r = simp append_assoc refl

text-is : (bytes text : List ℕ) (facts : List Fact) → parts_of bytes ≡ head_line ∷ parts_of text
    → Below text facts (end_line (length facts) ∷ [] ∷ []) → text_of facts ≡ bytes
unfolding text_of
text-is bytes text facts e b =
    let parts : parts_of bytes ≡ head_line ∷ b.lines ++ end_line (length facts) ∷ [] ∷ [] =
    e ∙ ap (λ (ps : List (List ℕ)). head_line ∷ ps) b.parts in
    sym (text-form facts (flat_map line_text facts))
    ∙ (sym (lines-joined b.lines facts head_line (end_line (length facts)) b.are_lines)
    ∙ (ap (join_with_byte 10) (sym parts) ∙ join_with_byte-slice_split 10 bytes))

-- the parts of a report
lines-parts : (facts : List Fact) (end : List ℕ) → AllByRecursion InRange facts
    → free 10 end ≡ true
    → parts_of (flat_map line_text facts ++ (end ++ 10 ∷ [])) ≡ all_parts facts end
lines-parts [] end r e = part-then 10 end [] e
lines-parts (f ∷ facts) end r e =
    let rest = flat_map line_text facts ++ (end ++ 10 ∷ []) in
    let more : parts_of rest ≡ all_parts facts end = lines-parts facts end r.1 e in
    ap parts_of (append_assoc (line_text f) (flat_map line_text facts) (end ++ 10 ∷ [])
    ∙ sym (line-joined f rest))
    ∙ (part-then 10 (bare_line f) rest (line-free f r.0)
    ∙ ap (λ (ps : List (List ℕ)). bare_line f ∷ ps) more)

line-long : (f : Fact) → 1 ≤ length (line_text f)
unfolding line_text
line-long f = omega (arith, length-append {A = ℕ})

lines-long : (facts : List Fact) → length facts ≤ length (flat_map line_text facts)
lines-long [] = omega arith
lines-long (f ∷ facts) =
    omega (arith, length-append (line_text f) (flat_map line_text facts), line-long f, lines-long facts)

text-long : (facts : List Fact) → length facts ≤ length (text_of facts)
unfolding text_of
text-long facts =
    let tail = codes "end " ++ decimal (length facts) ++ codes "\n" in
    omega (arith, length-append (flat_map line_text facts) tail, lines-long facts)

text-parts : (facts : List Fact) → AllByRecursion InRange facts → length facts < 2 ^ 64
    → parts_of (text_of facts) ≡ head_line ∷ all_parts facts (end_line (length facts))
unfolding text_of
text-parts facts r few =
    let rest = flat_map line_text facts ++ (end_line (length facts) ++ 10 ∷ []) in
    let ends : free 10 (end_line (length facts)) ≡ true = (number-word (length facts) few).1 in
    let more : parts_of rest ≡ all_parts facts (end_line (length facts)) =
    lines-parts facts (end_line (length facts)) r ends in
    ap parts_of (sym (text-form facts (flat_map line_text facts)))
    ∙ (part-then 10 head_line rest refl ∙ ap (λ (ps : List (List ℕ)). head_line ∷ ps) more)

-- where lines of facts stand before these parts of a report, and what is left of its facts
record Left (before facts : List Fact) (end : List ℕ) (rest : List (List ℕ)) : Type 0 where
  more : List Fact
  told : AllTold more
  in_range : AllByRecursion InRange more
  parts : rest ≡ all_parts more end
  counted : length before + length more ≡ length facts

left : (lines : List (List ℕ)) (before facts : List Fact) (end : List ℕ) (rest : List (List ℕ))
    → AreLines lines before → AllTold facts → AllByRecursion InRange facts → IsNoFacts end
    → lines ++ rest ≡ all_parts facts end → Left before facts end rest
left [] [] facts end rest a t r never e =
    record { more = facts; told = t; in_range = r; parts = e; counted = omega arith }
left [] (f ∷ fs) facts end rest a t r never e = absurd a
left (l ∷ ls) [] facts end rest a t r never e = absurd a
left (l ∷ ls) (f ∷ fs) [] end rest a t r never e =
    let same : l ≡ end = cc in absurd (never f a.2 a.1 (a.0 ∙ same))
left (l ∷ ls) (f ∷ fs) (g ∷ gs) end rest a t r never e =
    let then : ls ++ rest ≡ all_parts gs end = cc in
    let k = left ls fs gs end rest a.3 t.1 r.1 never then in
    record {
      more = k.more;
      told = k.told;
      in_range = k.in_range;
      parts = k.parts;
      counted = omega (arith, k.counted);
    }

one-left : (more : List Fact) (last end : List ℕ) → last ∷ [] ≡ all_parts more end → ⊥
one-left [] last end e = cc
one-left (g ∷ []) last end e = cc
one-left (g ∷ h ∷ gs) last end e = cc

other-left : (more : List Fact) (line : List ℕ) (ps : List (List ℕ)) (n m : ℕ) → AllTold more
    → AllByRecursion InRange more → n + length more ≡ m → IsNoFacts line
    → (line ≡ end_line n → ⊥) → line ∷ ps ≡ all_parts more (end_line m) → ⊥
other-left [] line ps n m t r k none differs e =
    let is : line ≡ end_line m = cc in
    let same : m ≡ n = omega arith in
    differs (is ∙ ap end_line same)
other-left (g ∷ gs) line ps n m t r k none differs e =
    let is : bare_line g ≡ line = cc in none g r.0 t.0 is

beyond-left : (more : List Fact) (after : List ℕ) (n m : ℕ) → AllTold more
    → AllByRecursion InRange more → (after ≡ [] → ⊥)
    → end_line n ∷ parts_of after ≡ all_parts more (end_line m) → ⊥
beyond-left [] after n m t r some e =
    let is : parts_of after ≡ [] ∷ [] = cc in
    some (sym (join_with_byte-slice_split 10 after) ∙ ap (join_with_byte 10) is)
beyond-left (g ∷ gs) after n m t r some e =
    let is : bare_line g ≡ end_line n = cc in line-no-end n g r.0 t.0 is

bad-below : (text : List ℕ) (number : ℕ) (facts : List Fact) → AllTold facts
    → AllByRecursion InRange facts → BadBelow text number
    → parts_of text ≡ all_parts facts (end_line (length facts)) → ⊥
bad-below text number facts t r (missing before last b) e =
    let k = left b.lines before facts _ _ b.are_lines t r (line-no-end (length facts)) (sym b.parts ∙ e) in
    one-left k.more last _ k.parts
bad-below text number facts t r (other before line after b none differs) e =
    let k = left b.lines before facts _ _ b.are_lines t r (line-no-end (length facts)) (sym b.parts ∙ e) in
    other-left k.more line _ (length before) (length facts) k.told k.in_range k.counted none differs k.parts
bad-below text number facts t r (beyond before after b some) e =
    let k = left b.lines before facts _ _ b.are_lines t r (line-no-end (length facts)) (sym b.parts ∙ e) in
    beyond-left k.more after (length before) (length facts) k.told k.in_range some k.parts

no-head : (first : List ℕ) (rest more : List (List ℕ)) → (rest ≡ []) ⊎ (first ≡ head_line → ⊥)
    → first ∷ rest ≡ head_line ∷ more → (more ≡ [] → ⊥) → ⊥
no-head first rest more (inl none) e some = let is : more ≡ [] = cc in some is
no-head first rest more (inr differs) e some = let is : first ≡ head_line = cc in differs is

some-parts : (facts : List Fact) (end : List ℕ) → all_parts facts end ≡ [] → ⊥
some-parts [] end e = cc
some-parts (f ∷ facts) end e = cc

unspelled : (bytes : List ℕ) (number : ℕ) (facts : List Fact) → AllTold facts
    → AllByRecursion InRange facts → FirstUnspelled bytes number
    → parts_of bytes ≡ head_line ∷ all_parts facts (end_line (length facts)) → ⊥
unspelled bytes number facts t r (head first rest at why) e =
    no-head first rest _ why (sym at ∙ e) (some-parts facts (end_line (length facts)))
unspelled bytes number facts t r (below text n at bad) e =
    let same : head_line ∷ parts_of text ≡ head_line ∷ all_parts facts (end_line (length facts)) = sym at ∙ e in
    let then : parts_of text ≡ all_parts facts (end_line (length facts)) = cc in
    bad-below text n facts t r bad then

-- a text with a line that isn't spelled is the report of no facts
pub no-report : (bytes : List ℕ) (number : ℕ) → length bytes < 2 ^ 63 → FirstUnspelled bytes number
    → (facts : List Fact) → IsReportOf bytes facts → ⊥
no-report bytes number few bad facts is =
    let long : length facts ≤ length bytes =
    subst (λ (t : List ℕ). length facts ≤ length t) is.printed (text-long facts) in
    let parts : parts_of bytes ≡ head_line ∷ all_parts facts (end_line (length facts)) =
    subst (λ (t : List ℕ). parts_of t ≡ head_line ∷ all_parts facts (end_line (length facts)))
    is.printed (text-parts facts is.in_range (omega arith)) in
    unspelled bytes number facts is.told is.in_range bad parts

-- a head before it
are-told : (lines : List (List ℕ)) (facts : List Fact) → AreLines lines facts
    → AllTold facts × AllByRecursion InRange facts
are-told [] [] a = (tt, tt)
are-told [] (f ∷ facts) a = absurd a
are-told (l ∷ lines) [] a = absurd a
are-told (l ∷ lines) (f ∷ facts) a =
    let rest = are-told lines facts a.3 in ((a.1, rest.0), (a.2, rest.1))

pub with-head : (bytes text : List ℕ) (told : Reading) → length bytes < 2 ^ 63
    → parts_of bytes ≡ head_line ∷ parts_of text → IsReadingBelow text told → IsReading bytes told
with-head bytes text (Whole facts) few e b =
    let are = are-told b.lines facts b.are_lines in
    record { printed = text-is bytes text facts e b; told = are.0; in_range = are.1 }
with-head bytes text (Bad n) few e s =
    let bad : FirstUnspelled bytes n = below text n e s in (bad, no-report bytes n few bad)

pub with-head-ok : {E : Type 0} (bytes text : List ℕ) (r : Result Reading E)
    → length bytes < 2 ^ 63 → parts_of bytes ≡ head_line ∷ parts_of text
    → IfOk r (IsReadingBelow text) → IfOk r (IsReading bytes)
with-head-ok bytes text (Ok told) few e s = with-head bytes text told few e s
with-head-ok bytes text (Err why) few e s = tt

-- no head
pub without-head : (bytes first : List ℕ) (rest : List (List ℕ)) → length bytes < 2 ^ 63
    → parts_of bytes ≡ first ∷ rest → (rest ≡ []) ⊎ (first ≡ head_line → ⊥)
    → IsReading bytes (Bad 1)
without-head bytes first rest few at why =
    let bad : FirstUnspelled bytes 1 = head first rest at why in (bad, no-report bytes 1 few bad)

-- names
pub word-same : (w name : List ℕ) → is_word w name ≡ true → w ≡ name
unfolding is_word
word-same w name e = (bytes_eq-Decides w name).0 e

pub word-other : (w name : List ℕ) → is_word w name ≡ false → w ≡ name → ⊥
unfolding is_word
word-other w name e same = true≢false (sym ((bytes_eq-Decides w name).1 same) ∙ e)

-- the first line feed of a text
pub no-feed : (text : List ℕ) → position (λ b. b == 10) text ≡ None → parts_of text ≡ text ∷ []
no-feed text at = split_nowhere (λ b. b == 10) text at

pub feed-at : (text : List ℕ) (end : ℕ) → position (λ b. b == 10) text ≡ Some end
    → parts_of text ≡ take end text ∷ parts_of (take (length text - (end + 1)) (drop (end + 1) text))
feed-at text end at = split_at_position (λ b. b == 10) text end at

-- the last line
abbrev past : List ℕ → List ℕ
past line = take (length line - 4) (drop 4 line)

past-all : (line : List ℕ) → past line ≡ drop 4 line
past-all line = take_all _ _ (omega (arith, length-drop {A = ℕ}))

pub end-yes : (line count : List ℕ) (facts : ℕ) → starts_with nat_eq line (codes "end ") ≡ true
    → count ≡ decimal facts → is_word (past line) count ≡ true → line ≡ end_line facts
end-yes line count facts front e same =
    let tail : drop 4 line ≡ decimal facts = sym (past-all line) ∙ (word-same (past line) count same ∙ e) in
    (starts_is Decides-eqb line (codes "end ") true (sym front)).0 refl
    ∙ ap (λ (t : List ℕ). codes "end " ++ t) tail

drop-end : (facts : ℕ) → drop 4 (end_line facts) ≡ decimal facts
drop-end facts = refl

pub end-no : (line count : List ℕ) (facts : ℕ) → count ≡ decimal facts
    → is_word (past line) count ≡ false → line ≡ end_line facts → ⊥
end-no line count facts e differs same =
    word-other (past line) count differs
    (past-all line ∙ (ap (λ (t : List ℕ). drop 4 t) same ∙ (drop-end facts ∙ sym e)))

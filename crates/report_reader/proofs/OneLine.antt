-- At most one line of a text is the first that isn't spelled.
use Rattle.std.proofs.Common.{◌≡◌, ◌==◌, ℕ, suc, ◌+◌, ◌⊎◌, inl, inr, List, [], ◌∷◌, ◌++◌, length, refl}
use Rattle.std.proofs.Common.{sym, ap, ◌∙◌, subst, arith, Option, Some, None}
use Rattle.std.specs.List.{position}
use Rattle.rpc_base.specs.declared.fact.Fact.{Fact}
use Rattle.report_reader.specs.Lines.{AreLines, BadBelow, Below, below, beyond, end_line}
use Rattle.report_reader.specs.Lines.{FirstUnspelled, head, head_line, IsNoFacts, missing, other, parts_of}
use Rattle.report_reader.specs.Reading.{IsLineOf}
use Rattle.report_reader.proofs.FactLemmas.{line-no-end}
use Rattle.report_reader.proofs.ReportLemmas.{feed-at, no-feed}

-- a text has some part
pub parts-some : (text : List ℕ) → parts_of text ≡ [] → ⊥
parts-some text e = by (position (λ b. b == 10) text) refl
  where
    by : (o : Option ℕ) → position (λ b. b == 10) text ≡ o → ⊥
    by None at = let same : text ∷ [] ≡ [] = sym (no-feed text at) ∙ e in cc
    by (Some end) at = no-cons (sym (feed-at text end at) ∙ e)
      where
        no-cons : {x : List ℕ} {xs : List (List ℕ)} → x ∷ xs ≡ [] → ⊥
        no-cons e = cc

-- a line of a fact, and more behind it
record FactNext (left : List (List ℕ)) : Type 0 where
  line : List ℕ
  rest : List (List ℕ)
  fact : Fact
  is : left ≡ line ∷ rest
  of : IsLineOf line fact
  some : rest ≡ [] → ⊥

-- lines of facts at the front of the same parts
data Fronts (facts others : List Fact) (left more : List (List ℕ)) : Type 0 where
  level : length facts ≡ length others → left ≡ more → Fronts facts others left more
  shorter : FactNext left → Fronts facts others left more
  longer : FactNext more → Fronts facts others left more

some-left : (lines more : List (List ℕ)) → (more ≡ [] → ⊥) → lines ++ more ≡ [] → ⊥
some-left [] more n e = n e
some-left (l ∷ lines) more n e = cc

fronts-next : (f g : Fact) (facts others : List Fact) (left more : List (List ℕ))
    → Fronts facts others left more → Fronts (f ∷ facts) (g ∷ others) left more
fronts-next f g facts others left more (level n e) = level (ap suc n) e
fronts-next f g facts others left more (shorter s) = shorter s
fronts-next f g facts others left more (longer s) = longer s

fronts : (lines : List (List ℕ)) (facts : List Fact) (left : List (List ℕ)) (rows : List (List ℕ))
    (others : List Fact) (more : List (List ℕ)) → AreLines lines facts → AreLines rows others
    → (left ≡ [] → ⊥) → (more ≡ [] → ⊥) → lines ++ left ≡ rows ++ more → Fronts facts others left more
fronts [] [] left [] [] more a b n m e = level refl e
fronts [] [] left (r ∷ rows) (g ∷ others) more a b n m e =
    shorter (record {
      line = r;
      rest = rows ++ more;
      fact = g;
      is = e;
      of = record { is = b.0; told = b.1; in_range = b.2 };
      some = some-left rows more m;
    })
fronts (l ∷ lines) (f ∷ facts) left [] [] more a b n m e =
    longer (record {
      line = l;
      rest = lines ++ left;
      fact = f;
      is = sym e;
      of = record { is = a.0; told = a.1; in_range = a.2 };
      some = some-left lines left n;
    })
fronts (l ∷ lines) (f ∷ facts) left (r ∷ rows) (g ∷ others) more a b n m e =
    let tail : lines ++ left ≡ rows ++ more = cc in
    fronts-next f g facts others left more (fronts lines facts left rows others more a.3 b.3 n m tail)
fronts [] (f ∷ facts) left rows others more a b n m e = absurd a
fronts (l ∷ lines) [] left rows others more a b n m e = absurd a
fronts [] [] left [] (g ∷ others) more a b n m e = absurd b
fronts [] [] left (r ∷ rows) [] more a b n m e = absurd b
fronts (l ∷ lines) (f ∷ facts) left [] (g ∷ others) more a b n m e = absurd b
fronts (l ∷ lines) (f ∷ facts) left (r ∷ rows) [] more a b n m e = absurd b

-- why it isn't spelled: of the facts before it, what is left, and the number of the line
data Why (facts : List Fact) (left : List (List ℕ)) (number : ℕ) : Type 0 where
  lacks : (last : List ℕ) → left ≡ last ∷ [] → number ≡ length facts + 2 → Why facts left number
  differs : (line : List ℕ) → (after : List ℕ) → left ≡ line ∷ parts_of after → IsNoFacts line
      → (line ≡ end_line (length facts) → ⊥) → number ≡ length facts + 2 → Why facts left number
  goes_on : (after : List ℕ) → left ≡ end_line (length facts) ∷ parts_of after → (after ≡ [] → ⊥)
      → number ≡ length facts + 3 → Why facts left number

why-some : (facts : List Fact) (left : List (List ℕ)) (number : ℕ) → Why facts left number → left ≡ [] → ⊥
why-some facts left number (lacks last is n) e = let no : last ∷ [] ≡ [] = sym is ∙ e in cc
why-some facts left number (differs line after is none apart n) e =
    let no : line ∷ parts_of after ≡ [] = sym is ∙ e in cc
why-some facts left number (goes_on after is some n) e =
    let no : end_line (length facts) ∷ parts_of after ≡ [] = sym is ∙ e in cc

-- it isn't the line of a fact with more behind it
why-no-fact : (facts : List Fact) (left : List (List ℕ)) (number : ℕ) → Why facts left number
    → FactNext left → ⊥
why-no-fact facts left number (lacks last is n) f =
    let both : last ∷ [] ≡ f.line ∷ f.rest = sym is ∙ f.is in
    let none : f.rest ≡ [] = cc in
    f.some none
why-no-fact facts left number (differs line after is none apart n) f =
    let both : line ∷ parts_of after ≡ f.line ∷ f.rest = sym is ∙ f.is in
    let same : f.line ≡ line = cc in
    none f.fact f.of.in_range f.of.told (f.of.is ∙ same)
why-no-fact facts left number (goes_on after is some n) f =
    let both : end_line (length facts) ∷ parts_of after ≡ f.line ∷ f.rest = sym is ∙ f.is in
    let same : f.line ≡ end_line (length facts) = cc in
    line-no-end (length facts) f.fact f.of.in_range f.of.told (f.of.is ∙ same)

why-same : (facts others : List Fact) (left : List (List ℕ)) (i j : ℕ) → length facts ≡ length others
    → Why facts left i → Why others left j → i ≡ j
why-same facts others left i j n (lacks last is a) (lacks end at b) = omega (arith, n, a, b)
why-same facts others left i j n (lacks last is a) (differs line after at none apart b) = omega (arith, n, a, b)
why-same facts others left i j n (lacks last is a) (goes_on after at some b) =
    let both : last ∷ [] ≡ end_line (length others) ∷ parts_of after = sym is ∙ at in
    let none : parts_of after ≡ [] = cc in
    absurd (parts-some after none)
why-same facts others left i j n (differs line after is none apart a) (lacks last at b) = omega (arith, n, a, b)
why-same facts others left i j n (differs line after is none apart a) (differs row more at nothing end b) =
    omega (arith, n, a, b)
why-same facts others left i j n (differs line after is none apart a) (goes_on more at some b) =
    let both : line ∷ parts_of after ≡ end_line (length others) ∷ parts_of more = sym is ∙ at in
    let same : line ≡ end_line (length others) = cc in
    absurd (apart (same ∙ ap end_line (sym n)))
why-same facts others left i j n (goes_on after is some a) (lacks last at b) =
    let both : last ∷ [] ≡ end_line (length facts) ∷ parts_of after = sym at ∙ is in
    let none : parts_of after ≡ [] = cc in
    absurd (parts-some after none)
why-same facts others left i j n (goes_on after is some a) (differs line more at none apart b) =
    let both : line ∷ parts_of more ≡ end_line (length facts) ∷ parts_of after = sym at ∙ is in
    let same : line ≡ end_line (length facts) = cc in
    absurd (apart (same ∙ ap end_line n))
why-same facts others left i j n (goes_on after is some a) (goes_on more at none b) = omega (arith, n, a, b)

-- the same said of a line below the first
record BadAt (text : List ℕ) (number : ℕ) : Type 0 where
  facts : List Fact
  left : List (List ℕ)
  below_is : Below text facts left
  why : Why facts left number

bad-at : (text : List ℕ) (number : ℕ) → BadBelow text number → BadAt text number
bad-at text number (missing facts last b) =
    record { facts = facts; left = last ∷ []; below_is = b; why = lacks last refl refl }
bad-at text number (other facts line after b none differ) = record {
  facts = facts;
  left = line ∷ parts_of after;
  below_is = b;
  why = differs line after refl none differ refl;
}
bad-at text number (beyond facts after b some) = record {
  facts = facts;
  left = end_line (length facts) ∷ parts_of after;
  below_is = b;
  why = goes_on after refl some refl;
}

one-below : (text again : List ℕ) (i j : ℕ) → parts_of text ≡ parts_of again → BadAt text i → BadAt again j → i ≡ j
one-below text again i j e a b =
    by (fronts a.below_is.lines a.facts a.left b.below_is.lines b.facts b.left a.below_is.are_lines
    b.below_is.are_lines (why-some a.facts a.left i a.why) (why-some b.facts b.left j b.why)
    (sym a.below_is.parts ∙ (e ∙ b.below_is.parts)))
  where
    by : Fronts a.facts b.facts a.left b.left → i ≡ j
    by (level n left) =
        why-same a.facts b.facts a.left i j n a.why
        (subst (λ (z : List (List ℕ)). Why b.facts z j) (sym left) b.why)
    by (shorter f) = absurd (why-no-fact a.facts a.left i a.why f)
    by (longer f) = absurd (why-no-fact b.facts b.left j b.why f)

head-not : (first : List ℕ) (rest : List (List ℕ)) (text : List ℕ) → (rest ≡ []) ⊎ (first ≡ head_line → ⊥)
    → first ∷ rest ≡ head_line ∷ parts_of text → ⊥
head-not first rest text (inl none) e =
    let same : parts_of text ≡ [] = cc in parts-some text same
head-not first rest text (inr differ) e = let same : first ≡ head_line = cc in differ same

-- at most one line is
pub one-unspelled : (bytes : List ℕ) (i j : ℕ) → FirstUnspelled bytes i → FirstUnspelled bytes j → i ≡ j
one-unspelled bytes i j (head first rest at why) (head one more is because) = refl
one-unspelled bytes i j (head first rest at why) (below text n is bad) =
    absurd (head-not first rest text why (sym at ∙ is))
one-unspelled bytes i j (below text n is bad) (head first rest at why) =
    absurd (head-not first rest text why (sym at ∙ is))
one-unspelled bytes i j (below text n at bad) (below again m is worse) =
    let both : head_line ∷ parts_of text ≡ head_line ∷ parts_of again = sym at ∙ is in
    let parts : parts_of text ≡ parts_of again = cc in
    one-below text again n m parts (bad-at text n bad) (bad-at again m worse)

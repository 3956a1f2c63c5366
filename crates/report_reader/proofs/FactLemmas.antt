-- The line of a fact is read as that fact.
use Rattle.std.proofs.Common.{◌≡◌, ℕ, false, true, true≢false, List, [], ◌∷◌, ◌++◌}
use Rattle.std.proofs.Common.{Option}
use Rattle.std.proofs.Common.{Some, None, refl, sym, ap, ◌∙◌, subst, arith, codes, decimal, ne_eqb}
use Rattle.std.proofs.Common.{append_assoc, ◌==◌}
use Rattle.std.specs.List.{slice_split}
use Rattle.std.specs.Str.Parse.{AllDigits, digits_value}
use Rattle.std.proofs.lemmas.Fmt.{digits_decimal}
use Rattle.std.proofs.lemmas.Str.Parse.{IsNumeralModel, numerals_by_value, tells_digits}
use Rattle.std.proofs.lemmas.Str.Parse.{digit_from_value}
use Rattle.rpc_base.specs.declared.event.Event.{Event}
use Rattle.rpc_base.specs.declared.fact.Fact.{Fact}
use Rattle.rpc_base.specs.declared.fact.Who.{Who}
use Rattle.rpc_base.specs.declared.fact.Who.TheVariants.{Node, Net}
use Rattle.report_text.proofs.EventWords.{event_words, words-text, words-words}
use Rattle.report_text.proofs.LineWords.{IsWord, free, free-joined, joined, same, split}
use Rattle.report_text.proofs.WordsBack.{number-other, number-word}
use Rattle.report_text.specs.declared.shape.Tail.{Tail}
use Rattle.report_text.specs.declared.shape.Tail.TheVariants.{Nothing, First, Both}
use Rattle.report_text.specs.Shape.{tail_of}
use Rattle.report_reader.specs.Lines.{bare_line, end_line, IsNoFacts}
use Rattle.report_text.specs.Text.{event_text, who_text}
use Rattle.report_text.specs.Told.{IsTold, NoOthers}
use Rattle.report_reader.specs.Facts.{fact_in, first_by, first_in, place_of, second_by, second_in}
use Rattle.report_reader.specs.Facts.{who_in}
use Rattle.report_reader.specs.Ranges.{InRange, WhoInRange}
use Rattle.report_reader.specs.Telling.{event_in, name_of, names_1, names_2, names_3, names_4}
use Rattle.report_reader.specs.Words.{◌>>=◌, is_word, words_of}
use Rattle.report_reader.proofs.EventLemmas.{bytes-back, event-fits}
use Rattle.report_reader.proofs.LineLemmas.{word-then, words-of-joined}
use Rattle.report_reader.proofs.NumberLemmas.{num-back}
use Rattle.report_reader.proofs.TellingLemmas.{told-back}

own : IsNumeralModel (AllDigits 10) (digits_value 10)
own = numerals_by_value (AllDigits 10) tells_digits

digits-other : (ds : List ℕ) → AllDigits 10 ds → is_word ds (codes "net") ≡ false
unfolding is_word
digits-other [] a = refl
digits-other (d ∷ ds) a = rw (ne_eqb d 110 (λ e. omega (arith, digit_from_value d a.0))) refl

net : (ws : List (List ℕ)) → who_in (codes "net" ∷ ws) ≡ Some Net
unfolding who_in is_word
net ws = refl

who-back : (who : Who) (ws : List (List ℕ)) → WhoInRange who → who_in (who_text who ∷ ws) ≡ Some who
unfolding who_in
who-back (Node n) ws h =
    rw (digits-other (decimal n) (digits_decimal own n (omega (arith, h))), num-back 255 n h (omega arith))
    refl
who-back Net ws h = net ws

who-word : (who : Who) → WhoInRange who → IsWord (who_text who)
who-word (Node n) h = number-word n (omega (arith, h))
who-word Net h = (refl, refl)

-- the words of a fact tell it
words-back : (f : Fact) → InRange f → IsTold f
    → fact_in (who_text f.who ∷ event_words f.event f.first f.second) ≡ Some f
unfolding fact_in
words-back f r told =
    let who = who-back f.who (event_words f.event f.first f.second) r.who in
    let event = told-back (who_text f.who) f.event f.first f.second r.event in
    let bytes = bytes-back (who_text f.who) f.event f.first f.second r.first r.second told in
    rw (who, event, bytes.0, bytes.1) refl

nothing-named : (w : List ℕ) → event_in (w ∷ []) ≡ None
unfolding event_in name_of names_1 names_2 names_3 names_4 is_word
nothing-named w = refl

some-words : (w : List ℕ) (event : Event) (ws : List (List ℕ)) → event_in (w ∷ ws) ≡ Some event
    → ws ≡ [] → ⊥
some-words w event ws e none =
    let told : event_in (w ∷ []) ≡ Some event =
    subst (λ (vs : List (List ℕ)). event_in (w ∷ vs) ≡ Some event) none e in
    let not_told = nothing-named w in cc

abbrev split_at_blanks : List ℕ → List (List ℕ)
split_at_blanks t = slice_split (λ b. b == 32) t

line-form : (w e : List ℕ) → w ++ codes " " ++ e ≡ w ++ 32 ∷ e
line-form w e = simp append_assoc refl

spaced : (w e : List ℕ) → words_of (w ++ codes " " ++ e) ≡ split_at_blanks (w ++ 32 ∷ e)
unfolding words_of
spaced w e = ap split_at_blanks (line-form w e)

words-line : (f : Fact) → InRange f
    → words_of (bare_line f) ≡ who_text f.who ∷ event_words f.event f.first f.second
words-line f r =
    let w = who_text f.who in
    let es = event_words f.event f.first f.second in
    let first = word-then w (event_text f.event f.first f.second) (who-word f.who r.who).0 in
    let text = words-text f.event f.first f.second in
    let rest = words-of-joined es
    (some-words w f.event es (told-back w f.event f.first f.second r.event))
    (words-words f.event f.first f.second (event-fits f.event r.event)) in
    let all : split_at_blanks (event_text f.event f.first f.second) ≡ es = ap split_at_blanks text ∙ rest in
    spaced w (event_text f.event f.first f.second) ∙ (first ∙ ap (λ (t : List (List ℕ)). w ∷ t) all)

-- the line of a fact tells it
pub line-back : (f : Fact) (line : List ℕ) → InRange f → IsTold f → bare_line f ≡ line
    → fact_in (words_of line) ≡ Some f
line-back f line r told e =
    ap (λ (t : List ℕ). fact_in (words_of t)) (sym e)
    ∙ ap (λ (ws : List (List ℕ)). fact_in ws) (words-line f r) ∙ words-back f r told

-- a fact that was read has the bytes of its line alone
told-in : (t : Tail) (i : ℕ) (ws : List (List ℕ)) (first second : List ℕ)
    → first_by t i ws ≡ Some first → second_by t i ws ≡ Some second → NoOthers t first second
unfolding first_in second_in
told-in Nothing i ws first second e k = (cc, cc)
told-in First i ws first second e k = cc
told-in Both i ws first second e k = tt

abbrev made : Who → Event → List ℕ → List ℕ → Fact
made who event first second = record { who = who; event = event; first = first; second = second }

told-of : (who : Who) (event : Event) (ws : List (List ℕ)) (f : Fact) (a b : Option (List ℕ))
    → first_by (tail_of event) (place_of event) ws ≡ a
    → second_by (tail_of event) (place_of event) ws ≡ b
    → (a >>= λ first. b >>= λ second. Some (made who event first second)) ≡ Some f → IsTold f
told-of who event ws f None b x y e = cc
told-of who event ws f (Some first) None x y e = cc
told-of who event ws f (Some first) (Some second) x y e =
    let same : made who event first second ≡ f = cc in
    subst IsTold same (told-in (tail_of event) (place_of event) ws first second x y)

told-by : (who : Option Who) (event : Option Event) (ws : List (List ℕ)) (f : Fact)
    → (who >>= λ who. event >>= λ event. first_by (tail_of event) (place_of event) ws >>= λ first.
    second_by (tail_of event) (place_of event) ws >>= λ second. Some (made who event first second))
    ≡ Some f → IsTold f
told-by None event ws f e = cc
told-by (Some who) None ws f e = cc
told-by (Some who) (Some event) ws f e =
    told-of who event ws f (first_by (tail_of event) (place_of event) ws)
    (second_by (tail_of event) (place_of event) ws) refl refl e

pub fact-told : (ws : List (List ℕ)) (f : Fact) → fact_in ws ≡ Some f → IsTold f
unfolding fact_in
fact-told ws f e = told-by (who_in ws) (event_in ws) ws f e

-- no line of a fact has a line feed
line-words : (w : List ℕ) (ws : List (List ℕ)) → (ws ≡ [] → ⊥)
    → w ++ 32 ∷ joined ws ≡ joined (w ∷ ws)
line-words w [] some = absurd (some refl)
line-words w (v ∷ vs) some = refl

abbrev has_no_feed : List ℕ → Type 0
has_no_feed t = free 10 t ≡ true

pub line-free : (f : Fact) → InRange f → free 10 (bare_line f) ≡ true
line-free f r =
    let w = who_text f.who in
    let es = event_words f.event f.first f.second in
    let some = some-words w f.event es (told-back w f.event f.first f.second r.event) in
    let words = words-words f.event f.first f.second (event-fits f.event r.event) in
    let is : bare_line f ≡ joined (w ∷ es) =
    line-form w (event_text f.event f.first f.second)
    ∙ (ap (λ (t : List ℕ). w ++ 32 ∷ t) (words-text f.event f.first f.second) ∙ line-words w es some) in
    subst has_no_feed (sym is) (free-joined (w ∷ es) (who-word f.who r.who, words))

-- no line of a fact is the last one of a report
ends-who : (who : Who) → WhoInRange who → who_text who ≡ codes "end" → ⊥
ends-who (Node n) h e =
    true≢false (subst (λ (w : List ℕ). same w (codes "end") ≡ false) e
    (number-other n 101 (110 ∷ 100 ∷ []) (omega arith) (omega (arith, h))))
ends-who Net h e = true≢false (subst (λ (w : List ℕ). same w (codes "end") ≡ false) e refl)

pub line-no-end : (count : ℕ) → IsNoFacts (end_line count)
line-no-end count f r t e =
    ends-who f.who r.who
    (split 32 (who_text f.who) (codes "end") (event_text f.event f.first f.second) (decimal count)
    (who-word f.who r.who).0 refl (sym (line-form (who_text f.who) (event_text f.event f.first f.second)) ∙ e)).0

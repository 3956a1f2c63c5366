-- A report is read back: each line tells its fact, and so the whole tells the history.
use Rattle.std.proofs.Common.{◌≡◌, ℕ, true, false, cond, List, [], ◌∷◌, ◌++◌, length, refl, sym, ap}
use Rattle.std.proofs.Common.{ap₂, subst, ◌∙◌, append_assoc, true≢false, arith, codes, decimal}
use Rattle.std.proofs.Common.{flat_map}
use Rattle.std.specs.List.{AllByRecursion}
use Rattle.rpc_base.specs.declared.event.Event.{Event}
use Rattle.rpc_base.specs.declared.event.Event.TheVariants.{Heard}
use Rattle.rpc_base.specs.declared.fact.Fact.{Fact}
use Rattle.rpc_base.specs.declared.fact.Who.{Who}
use Rattle.rpc_base.specs.declared.fact.Who.TheVariants.{Node, Net}
use Rattle.report_text.specs.Ranges.{WhoFits, FactFits}
use Rattle.report_text.specs.Text.{who_text, event_text, line_text, text}
use Rattle.report_text.specs.Told.{IsTold, AllTold}
use Rattle.report_text.proofs.EventWords.{event_words, words-text, words-words, told_of, told-back, Tale}
use Rattle.report_text.proofs.LineWords.{free, IsWord, joined-other, free-joined, same, split}
use Rattle.report_text.proofs.WordsBack.{value, number-word, number-back, number-other}

who_of : List ℕ → Who
who_of w = cond (same w (codes "net")) Net (Node (value w))

who-back : (who : Who) → WhoFits who → who_of (who_text who) ≡ who
unfolding who_of
who-back (Node n) h = rw (number-other n 110 (101 ∷ 116 ∷ []) (omega arith) h) (ap Node (number-back n h))
who-back Net h = refl

who-word : (who : Who) → WhoFits who → IsWord (who_text who)
who-word (Node n) h = number-word n h
who-word Net h = (refl, refl)

-- no line of a fact begins as the last one
who-ends : (who : Who) → WhoFits who → codes "end" ≡ who_text who → ⊥
who-ends (Node n) h e =
    true≢false (subst (λ w. same w (codes "end") ≡ false) (sym e)
    (number-other n 101 (110 ∷ 100 ∷ []) (omega arith) h))
who-ends Net h e = true≢false (subst (λ w. same w (codes "end") ≡ false) (sym e) refl)

some : (event : Event) (first second : List ℕ)
    → told_of (event_words event first second) ≡ (event, first, second)
    → event_words event first second ≡ [] → ⊥
some event first second back none =
    let tale : told_of [] ≡ (event, first, second) = subst (λ ws. told_of ws ≡ (event, first, second)) none back in
    let heard : Heard ≡ event = ap (λ t. t.0) tale in
    few first second (subst (λ e. event_words e first second ≡ []) (sym heard) none)
  where
    few : (first second : List ℕ) → event_words Heard first second ≡ [] → ⊥
    few first second e = cc

abbrev tale_of : Fact → Tale
tale_of f = (f.event, f.first, f.second)

-- the text of an event tells the event
event-tells : (f g : Fact) → FactFits f → FactFits g → IsTold f → IsTold g
    → event_text f.event f.first f.second ≡ event_text g.event g.first g.second
    → tale_of f ≡ tale_of g
event-tells f g h k told other e =
    let back = told-back f.event f.first f.second h.1 told in
    let forth = told-back g.event g.first g.second k.1 other in
    let words : event_words f.event f.first f.second ≡ event_words g.event g.first g.second
    = joined-other (event_words f.event f.first f.second) (event_words g.event g.first g.second)
    (some f.event f.first f.second back) (some g.event g.first g.second forth)
    (words-words f.event f.first f.second h.1) (words-words g.event g.first g.second k.1)
    (sym (words-text f.event f.first f.second) ∙ e ∙ words-text g.event g.first g.second) in
    sym back ∙ ap told_of words ∙ forth

line-form : (w e r : List ℕ) → (w ++ codes " " ++ e ++ codes "\n") ++ r ≡ w ++ 32 ∷ (e ++ 10 ∷ r)
line-form w e r = simp append_assoc refl

line-then : (f : Fact) (r : List ℕ)
    → line_text f ++ r ≡ who_text f.who ++ 32 ∷ (event_text f.event f.first f.second ++ 10 ∷ r)
unfolding line_text
line-then f r = line-form (who_text f.who) (event_text f.event f.first f.second) r

event-free : (f : Fact) → FactFits f → free 10 (event_text f.event f.first f.second) ≡ true
event-free f h =
    subst (λ t. free 10 t ≡ true) (sym (words-text f.event f.first f.second))
    (free-joined (event_words f.event f.first f.second) (words-words f.event f.first f.second h.1))

same-fact : (f g : Fact) → f.who ≡ g.who → tale_of f ≡ tale_of g → f ≡ g
same-fact f g e k =
    ap₂ (λ who t. record { who = who; event = t.0; first = t.1; second = t.2 }) e k

-- the line of a fact tells the fact, and where the next line begins
line-tells : (f g : Fact) (r s : List ℕ) → FactFits f → FactFits g → IsTold f → IsTold g
    → line_text f ++ r ≡ line_text g ++ s → (f ≡ g) × (r ≡ s)
line-tells f g r s h k told other e =
    let at = split 32 (who_text f.who) (who_text g.who) _ _ (who-word f.who h.0).0 (who-word g.who k.0).0
    (sym (line-then f r) ∙ e ∙ line-then g s) in
    let past = split 10 (event_text f.event f.first f.second)
    (event_text g.event g.first g.second) r s (event-free f h) (event-free g k) at.1 in
    let who : f.who ≡ g.who = sym (who-back f.who h.0) ∙ ap who_of at.0 ∙ who-back g.who k.0 in
    (same-fact f g who (event-tells f g h k told other past.0), past.1)

ending : ℕ → List ℕ
ending n = codes "end " ++ decimal n ++ codes "\n"

not-ending : (f : Fact) (n : ℕ) (r : List ℕ) → FactFits f → ending n ≡ line_text f ++ r → ⊥
unfolding ending
not-ending f n r h e =
    who-ends f.who h.0
    (split 32 (codes "end") (who_text f.who) (decimal n ++ codes "\n") _ refl (who-word f.who h.0).0
    (e ∙ line-then f r)).0

lines-tell : (fs gs : List Fact) (n m : ℕ) → AllByRecursion FactFits fs → AllByRecursion FactFits gs
    → AllTold fs → AllTold gs
    → flat_map line_text fs ++ ending n ≡ flat_map line_text gs ++ ending m → fs ≡ gs
lines-tell [] [] n m h k told other e = refl
lines-tell [] (g ∷ gs) n m h k told other e =
    absurd (not-ending g n (flat_map line_text gs ++ ending m) k.0
    (e ∙ append_assoc (line_text g) (flat_map line_text gs) (ending m)))
lines-tell (f ∷ fs) [] n m h k told other e =
    absurd (not-ending f m (flat_map line_text fs ++ ending n) h.0
    (sym e ∙ append_assoc (line_text f) (flat_map line_text fs) (ending n)))
lines-tell (f ∷ fs) (g ∷ gs) n m h k told other e =
    let t = line-tells f g (flat_map line_text fs ++ ending n)
    (flat_map line_text gs ++ ending m) h.0 k.0 told.0 other.0
    (sym (append_assoc (line_text f) (flat_map line_text fs) (ending n)) ∙ e
    ∙ append_assoc (line_text g) (flat_map line_text gs) (ending m)) in
    ap₂ (λ x xs. x ∷ xs) t.0 (lines-tell fs gs n m h.1 k.1 told.1 other.1 t.1)

-- a report tells its history
pub text-tells : (fs gs : List Fact) → AllByRecursion FactFits fs → AllByRecursion FactFits gs
    → AllTold fs → AllTold gs → text fs ≡ text gs → fs ≡ gs
unfolding text ending
text-tells fs gs h k told other e =
    lines-tell fs gs (length fs) (length gs) h k told other
    (split 10 (codes "erpc-report 1") (codes "erpc-report 1") _ _ refl refl e).1

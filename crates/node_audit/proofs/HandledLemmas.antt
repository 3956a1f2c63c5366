-- What was handled in a life, a fact later.
use Rattle.std.proofs.Common.{◌≡◌, ℕ, ◌+◌, ◌%◌, ◌^◌, ◌==◌, ◌&&◌, Bool, true, false, cond, List, [], ◌∷◌, ◌++◌}
use Rattle.std.proofs.Common.{refl, sym, ap, ◌∙◌, subst, arith, true≢false}
use Rattle.std.specs.Prelude.{◌↔◌, sum_by, Result, Ok, Err, IfOk}
use Rattle.std.proofs.Math.Nat.{mod-add-mod}
use Rattle.std.proofs.lemmas.Bool.{and_parts, eqb-true}
use Rattle.std.proofs.lemmas.List.Sums.{sum_by-append, sum_by-cons}
use Rattle.rpc_base.specs.declared.event.Event.{Event}
use Rattle.rpc_base.specs.declared.event.Event.TheVariants.{Ran, Restarted}
use Rattle.rpc_base.specs.declared.fact.Fact.{Fact}
use Rattle.rpc_laws.specs.Service.{answer_with, Answers, AnswersAt, plain_serving, runs_inline}
use Rattle.rpc_laws.specs.Service.{served_after, served_after_all, Serving}
use Rattle.rpc_outside.specs.PlainAnswer.{added, plain_answer, plain_mode}
use Rattle.rpc_outside.specs.PlainAnswer.{total_of, total_with}
use Rattle.rpc_outside.specs.Served.{Served}
use Rattle.node_audit.specs.Handled.{IsHandled, total_after}
use Rattle.node_audit.specs.Worked.{WorkedOnce}

-- the answers of the facts so far and of one more
served-next : (v : Serving) (served : Served) (x : List Fact) (f : Fact)
    → served_after_all v.mode served (x ++ f ∷ [])
    ≡ served_after v.mode f.event f.first (served_after_all v.mode served x)
served-next v served [] f = refl
served-next v served (g ∷ x) f = served-next v (served_after v.mode g.event g.first served) x f

answers-next : (v : Serving) (served : Served) (x : List Fact) (f : Fact) → Answers v served x
    → AnswersAt v (served_after_all v.mode served x) f.event f.first f.second → Answers v served (x ++ f ∷ [])
answers-next v served [] f a h = (h, tt)
answers-next v served (g ∷ x) f a h =
    (a.0, answers-next v (served_after v.mode g.event g.first served) x f a.1 h)

answers-last : (v : Serving) (served : Served) (x : List Fact) (f : Fact) → Answers v served (x ++ f ∷ [])
    → AnswersAt v (served_after_all v.mode served x) f.event f.first f.second
answers-last v served [] f a = a.0
answers-last v served (g ∷ x) f a = answers-last v (served_after v.mode g.event g.first served) x f a.1

answers-before : (v : Serving) (served : Served) (x : List Fact) (f : Fact) → Answers v served (x ++ f ∷ [])
    → Answers v served x
answers-before v served [] f a = tt
answers-before v served (g ∷ x) f a =
    (a.0, answers-before v (served_after v.mode g.event g.first served) x f a.1)

-- what was handled, with one more fact
pub handled-next : (x : List Fact) (f : Fact) (once answered : Bool) → IsHandled x
    → ((once ≡ true) ↔ WorkedOnce (x ++ f ∷ []))
    → ((answered ≡ true)
    ↔ AnswersAt plain_serving (served_after_all plain_mode [] x) f.event f.first f.second)
    → ((once && answered) ≡ true) ↔ IsHandled (x ++ f ∷ [])
handled-next x f once answered h one two = (
  λ e. let parts = and_parts once answered e in
      record {
        once = one.0 parts.0;
        answers = answers-next plain_serving [] x f h.answers (two.0 parts.1);
      },
  λ k. rw (one.1 k.once, two.1 (answers-last plain_serving [] x f k.answers)) refl,
)

-- an answer looks at the total of the tallies alone
pub answer-total : (served : Served) (total t : ℕ) (ask : List ℕ) → total ≡ total_of served
    → answer_with total t ask ≡ plain_answer served t ask
answer-total served total t ask e = by (t == 3) refl
  where
    by : (b : Bool) → (t == 3) ≡ b → answer_with total t ask ≡ plain_answer served t ask
    by true h = rw (e, h) refl
    by false h = rw (e, h) refl

-- the total after a request
total-more : (served : Served) (t : ℕ) (ask : List ℕ)
    → total_with (total_of served) t ask ≡ total_of (served ++ (t, ask) ∷ [])
total-more served t ask =
    let all = sum_by-append (λ (r : ℕ × List ℕ). added r.0 r.1) served ((t, ask) ∷ []) in
    let last = sum_by-cons (λ (r : ℕ × List ℕ). added r.0 r.1) (t, ask) [] in
    let none : sum_by (λ (r : ℕ × List ℕ). added r.0 r.1) [] ≡ 0 = refl in
    let same : sum_by (λ (r : ℕ × List ℕ). added r.0 r.1) served + added t ask
    ≡ sum_by (λ (r : ℕ × List ℕ). added r.0 r.1) (served ++ (t, ask) ∷ []) = omega arith in
    mod-add-mod (sum_by (λ (r : ℕ × List ℕ). added r.0 r.1) served) (2 ^ 64) (added t ask)
    ∙ ap (λ (n : ℕ). n % 2 ^ 64) same

-- a tally runs in the event loop
nothing-added : (t : ℕ) (ask : List ℕ) (b : Bool) → (t == 3) ≡ b → runs_inline plain_mode t ≡ false
    → added t ask ≡ 0
nothing-added t ask false e h = rw e refl
nothing-added t ask true e h =
    let three : t ≡ 3 = eqb-true t 3 e in
    let inline : runs_inline plain_mode 3 ≡ false = subst (λ (n : ℕ). runs_inline plain_mode n ≡ false) three h in
    absurd (true≢false inline)

total-ran : (served : Served) (t : ℕ) (ask : List ℕ) (b : Bool) → runs_inline plain_mode t ≡ b
    → total_with (total_of served) t ask ≡ total_of (cond b (served ++ (t, ask) ∷ []) served)
total-ran served t ask true e = total-more served t ask
total-ran served t ask false e =
    ap (λ (n : ℕ). (total_of served + n) % 2 ^ 64) (nothing-added t ask (t == 3) refl e)
    ∙ total-same (sum_by (λ (r : ℕ × List ℕ). added r.0 r.1) served)
  where
    total-same : (n : ℕ) → (n % 2 ^ 64 + 0) % 2 ^ 64 ≡ n % 2 ^ 64
    total-same n =
        let same : n + 0 ≡ n = omega arith in
        mod-add-mod n (2 ^ 64) 0 ∙ ap (λ (k : ℕ). k % 2 ^ 64) same

total-event : (served : Served) (e : Event) (ask : List ℕ)
    → total_after (total_of served) e ask ≡ total_of (served_after plain_mode e ask served)
total-event served (Ran s r t) ask = total-ran served t ask (runs_inline plain_mode t) refl
total-event served (Restarted life) ask = refl
total-event served _ ask = refl

pub total-next : (x : List Fact) (f : Fact) (total : ℕ) → total ≡ total_of (served_after_all plain_mode [] x)
    → total_after total f.event f.first ≡ total_of (served_after_all plain_mode [] (x ++ f ∷ []))
total-next x f total e =
    ap (λ (n : ℕ). total_after n f.event f.first) e
    ∙ (total-event (served_after_all plain_mode [] x) f.event f.first
    ∙ ap total_of (sym (served-next plain_serving [] x f)))

-- a handler's answer
pub answer-ran : {s r : ℕ} (served : Served) (total t : ℕ) (ask answer : List ℕ) (f : Fact) (b : Bool)
    → f.event ≡ Ran s r t → ask ≡ f.first → answer ≡ f.second
    → ((b ≡ true) ↔ (answer ≡ answer_with total t ask)) → total ≡ total_of served
    → (b ≡ true) ↔ AnswersAt plain_serving served f.event f.first f.second
answer-ran {s} {r} served total t ask answer f b is first second is_so e =
    subst (λ (k : Event). (b ≡ true) ↔ AnswersAt plain_serving served k f.first f.second) (sym is)
    (subst (λ (q : List ℕ). (b ≡ true) ↔ (f.second ≡ plain_answer served t q)) first
    (subst (λ (a : List ℕ). (b ≡ true) ↔ (a ≡ plain_answer served t ask)) second
    (subst (λ (w : List ℕ). (b ≡ true) ↔ (answer ≡ w)) (answer-total served total t ask e) is_so)))

pub handled-so : (x : List Fact) (f : Fact) (once answered all : Bool) → all ≡ (once && answered) → IsHandled x
    → ((once ≡ true) ↔ WorkedOnce (x ++ f ∷ []))
    → ((answered ≡ true)
    ↔ AnswersAt plain_serving (served_after_all plain_mode [] x) f.event f.first f.second)
    → (all ≡ true) ↔ IsHandled (x ++ f ∷ [])
handled-so x f once answered all e h one two =
    subst (λ (b : Bool). (b ≡ true) ↔ IsHandled (x ++ f ∷ [])) (sym e) (handled-next x f once answered h one two)

pub and-false : (b other : Bool) → b ≡ false → b ≡ (b && other)
and-false true other e = cc
and-false false other e = refl

pub answer-all : {E : Type 0} {s q : ℕ} (r : Result Bool E) (total t : ℕ) (ask answer : List ℕ) (f : Fact)
    → f.event ≡ Ran s q t → ask ≡ f.first → answer ≡ f.second
    → IfOk r (λ (b : Bool). (b ≡ true) ↔ (answer ≡ answer_with total t ask))
    → IfOk r (λ (b : Bool). (served : Served) → total ≡ total_of served
    → (b ≡ true) ↔ AnswersAt plain_serving served f.event f.first f.second)
answer-all (Err error) total t ask answer f is first second h = tt
answer-all (Ok b) total t ask answer f is first second h = λ served e.
    answer-ran served total t ask answer f b is first second h e

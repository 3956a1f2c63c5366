-- Which nodes are in the midst of a poll, a fact later.
use Rattle.std.proofs.Common.{◌≡◌, ℕ, ◌==◌, ◌||◌, ◌&&◌, not, Bool, true, false, cond, List, [], ◌∷◌, ◌++◌, refl, sym, ap, ◌∙◌}
use Rattle.std.proofs.Common.{arith, eq-eqb, length, subst, true≢false}
use Rattle.std.proofs.lemmas.Bool.{eqb-true}
use Rattle.std.specs.List.{filter}
use Rattle.front_laws.specs.Whole.{is_open, ends_poll, is_polls, IsWhole, open_after}
use Rattle.history_audit.specs.OpenPolls.{AreOpen, is_among}
use Rattle.rpc_base.specs.declared.fact.Fact.{Fact}
use Rattle.rpc_base.specs.declared.fact.Who.TheVariants.{Node, Net}
use Rattle.rpc_laws.specs.AtMostOnce.{is_at}

-- one more, one less
or-swap : (a b c : Bool) → (a || (b || c)) ≡ (b || (a || c))
or-swap true true c = refl
or-swap true false c = refl
or-swap false b c = refl

or-none : (b : Bool) → (b || false) ≡ b
or-none true = refl
or-none false = refl

pub among-more : (n m : ℕ) (nodes : List ℕ) → is_among n (nodes ++ m ∷ []) ≡ (m == n || is_among n nodes)
among-more n m [] = refl
among-more n m (k ∷ nodes) =
    ap (λ (b : Bool). k == n || b) (among-more n m nodes) ∙ or-swap (k == n) (m == n) (is_among n nodes)

-- one that is there
pub among-again : (n m : ℕ) (nodes : List ℕ) → is_among m nodes ≡ true
    → is_among n nodes ≡ (m == n || is_among n nodes)
among-again n m nodes e = by (m == n) refl
  where
    by : (b : Bool) → (m == n) ≡ b → is_among n nodes ≡ (b || is_among n nodes)
    by true same = subst (λ (k : ℕ). is_among k nodes ≡ true) (eqb-true m n same) e
    by false other = refl

kept-by : (n m k : ℕ) (rest : Bool) → (k == m) ≡ true → (not (m == n) && (k == n || rest)) ≡ (not (m == n) && rest)
kept-by n m k rest e = by (m == n) refl
  where
    by : (b : Bool) → (m == n) ≡ b → (not b && (k == n || rest)) ≡ (not b && rest)
    by true same = refl
    by false other =
        let k_is : (k == n) ≡ false = subst (λ (i : ℕ). (i == n) ≡ false) (sym (eqb-true k m e)) other in
        rw k_is refl

other-by : (n m k : ℕ) (rest : Bool) → (k == m) ≡ false
    → (k == n || (not (m == n) && rest)) ≡ (not (m == n) && (k == n || rest))
other-by n m k rest e = by (k == n) refl (m == n) refl
  where
    by : (a : Bool) → (k == n) ≡ a → (b : Bool) → (m == n) ≡ b → (a || (not b && rest)) ≡ (not b && (a || rest))
    by true one true two =
        absurd (true≢false (sym (eq-eqb k m (eqb-true k n one ∙ sym (eqb-true m n two))) ∙ e))
    by true one false two = refl
    by false one b two = refl

less-by : (n m k : ℕ) (nodes : List ℕ) (b : Bool) → (k == m) ≡ b
    → is_among n (filter (λ j. not (j == m)) nodes) ≡ (not (m == n) && is_among n nodes)
    → is_among n (cond (not b) (k ∷ filter (λ j. not (j == m)) nodes) (filter (λ j. not (j == m)) nodes))
    ≡ (not (m == n) && (k == n || is_among n nodes))
less-by n m k nodes true e ih = ih ∙ sym (kept-by n m k (is_among n nodes) e)
less-by n m k nodes false e ih =
    ap (λ (b : Bool). k == n || b) ih ∙ other-by n m k (is_among n nodes) e

pub among-less : (n m : ℕ) (nodes : List ℕ)
    → is_among n (filter (λ j. not (j == m)) nodes) ≡ (not (m == n) && is_among n nodes)
among-less n m [] = by (m == n)
  where
    by : (b : Bool) → false ≡ (not b && false)
    by true = refl
    by false = refl
among-less n m (k ∷ nodes) = less-by n m k nodes (k == m) refl (among-less n m nodes)

-- a fact later
abbrev pub busy_next : ℕ → Fact → Bool → Bool
busy_next n f busy = cond (is_at n f.who) (open_after f.event busy) busy

pub open-snoc : (n : ℕ) (busy : Bool) (h : List Fact) (f : Fact)
    → is_open n busy (h ++ f ∷ []) ≡ busy_next n f (is_open n busy h)
open-snoc n busy [] f = refl
open-snoc n busy (g ∷ h) f = open-snoc n (busy_next n g busy) h f

pub open-next : (nodes new : List ℕ) (h : List Fact) (f : Fact)
    → ((n : ℕ) → is_among n new ≡ busy_next n f (is_among n nodes)) → AreOpen nodes h
    → AreOpen new (h ++ f ∷ [])
open-next nodes new h f next a n =
    next n ∙ (ap (busy_next n f) (a n) ∙ sym (open-snoc n false h f))

pub next-net : (n : ℕ) (f : Fact) (busy : Bool) → f.who ≡ Net → busy ≡ busy_next n f busy
next-net n f busy e = rw e refl

pub next-polls : (n m : ℕ) (f : Fact) (busy : Bool) → f.who ≡ Node m → is_polls f.event ≡ true
    → (m == n || busy) ≡ busy_next n f busy
next-polls n m f busy who p = rw (who, p) (by (m == n))
  where
    by : (b : Bool) → (b || busy) ≡ cond b true busy
    by true = refl
    by false = refl

pub next-ended : (n m : ℕ) (f : Fact) (busy : Bool) → f.who ≡ Node m → is_polls f.event ≡ false
    → ends_poll f.event ≡ true → (not (m == n) && busy) ≡ busy_next n f busy
next-ended n m f busy who p q = rw (who, p, q) (by (m == n) busy)
  where
    by : (b c : Bool) → (not b && c) ≡ cond b (c && false) c
    by true true = refl
    by true false = refl
    by false c = refl

pub next-quiet : (n m : ℕ) (f : Fact) (busy : Bool) → f.who ≡ Node m → is_polls f.event ≡ false
    → ends_poll f.event ≡ false → busy ≡ busy_next n f busy
next-quiet n m f busy who p q = rw (who, p, q) (by (m == n) busy)
  where
    by : (b c : Bool) → c ≡ cond b (c && true) c
    by true true = refl
    by true false = refl
    by false c = refl

-- no node is
pub none-open : (nodes : List ℕ) (h : List Fact) → AreOpen nodes h → nodes ≡ [] → IsWhole h
none-open nodes h a e n = sym (a n) ∙ ap (is_among n) e

pub whole-none : (nodes : List ℕ) (h : List Fact) → AreOpen nodes h → IsWhole h → nodes ≡ []
whole-none [] h a w = refl
whole-none (m ∷ nodes) h a w = absurd (true≢false (sym yes ∙ (a m ∙ w m)))
  where
    yes : is_among m (m ∷ nodes) ≡ true
    yes = rw (eq-eqb m m refl) refl

pub no-length : (nodes : List ℕ) → length nodes ≡ 0 → nodes ≡ []
no-length [] e = refl
no-length (m ∷ nodes) e = absurd (omega (arith, e))

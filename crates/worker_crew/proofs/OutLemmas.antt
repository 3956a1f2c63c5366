-- Hands go out and come back.
use Rattle.std.proofs.Common.{◌≡◌, ℕ, ◌+◌, ◌-◌, ◌<◌, ◌≤◌, List, [], ◌∷◌, ◌++◌, length, cond, min, sym}
use Rattle.std.proofs.Common.{refl, ap, ◌∙◌, subst, arith, length-append, append_assoc}
use Rattle.std.proofs.Common.{eq-eqb, ne_eqb}
use Rattle.std.proofs.lemmas.List.{append-nil}
use mathlib.Core.Logic.{dite}
use native.Mathlib.Decide.{ℕ_discrete}
use Rattle.rpc_base.specs.Totals.{only}
use Rattle.rpc_base.proofs.TotalsLemmas.{only-same, only-other}
use Rattle.memory_count.specs.Faults.{HasRisen, HasRisenBy, end_of_count}
use Rattle.worker_board.specs.declared.view.View.{View}
use Rattle.worker_board.specs.Counts.{times, removed}
use Rattle.worker_board.specs.Moves.{taken_in}
use Rattle.worker_board.specs.Seats.{with_hand}
use Rattle.worker_board.proofs.CountsLemmas.{total-append, times-removed}
use Rattle.place_queue.specs.declared.knows.Numbered.{Numbered}
use Rattle.worker_crew.specs.CrewIds.{CrewId}
use Rattle.worker_crew.specs.Hands.{HandName}
use Rattle.worker_crew.specs.Crews.{AllOn, numbered, AreOut}
use Rattle.worker_crew.specs.Dispatching.{Dispatching}
use Rattle.worker_crew.specs.Starting.{SameJobs, HaveGoneOut, Shared}

all-on : (z : CrewId) (xs ys : List HandName) → AllOn z xs → AllOn z ys → AllOn z (xs ++ ys)
all-on z [] ys a b = b
all-on z (x ∷ xs) ys a b = (a.0, all-on z xs ys a.1 b)

all-parts : (z : CrewId) (xs ys : List HandName) → AllOn z (xs ++ ys) → AllOn z xs × AllOn z ys
all-parts z [] ys a = (tt, a)
all-parts z (x ∷ xs) ys a = let r = all-parts z xs ys a.1 in ((a.0, r.0), r.1)

both-numbered : (n : ℕ) (xs ys : List HandName)
    → numbered n (xs ++ ys) ≡ numbered n xs + numbered n ys
both-numbered n xs ys = total-append (λ (x : HandName). only n x.number) xs ys

one-out : {z : CrewId} {out : List ℕ} {hands : List HandName} (n : ℕ) → AreOut z out hands
    → AreOut z (n ∷ out) (hands ++ record { board = z; number = n } ∷ [])
one-out {z} {out} {hands} n o = record {
  ours = all-on z hands (record { board = z; number = n } ∷ []) o.ours (refl, tt);
  counts = λ m. omega (arith, both-numbered m hands (record { board = z; number = n } ∷ []), o.counts m);
}

pub one-more-out : {count : ℕ} {hands hands' : List HandName} {old now new : Dispatching}
    → HaveGoneOut count hands old now → new ≡ record now { view = with_hand count now.view }
    → hands' ≡ hands ++ record { board = now.board; number = count } ∷ []
    → HaveGoneOut (count + 1) hands' old new
one-more-out {count} {hands} {hands'} {old} {now} {new} h e f =
    subst (λ (x : Dispatching × List HandName). HaveGoneOut (count + 1) x.1 old x.0)
    (λ i. (sym e i, sym f i)) (record {
      jobs = record {
        board = h.jobs.board;
        places = h.jobs.places;
        given = h.jobs.given;
        busy = h.jobs.busy;
        ledger = h.jobs.ledger;
        lost = h.jobs.lost;
        put = h.jobs.put;
      };
      out = one-out count h.out;
      many = omega (arith, length-append hands (record { board = now.board; number = count } ∷ []), h.many);
      used = omega (arith, h.used);
      free = λ n above. omega (arith, h.free n, only-other n count (λ same. absurd (omega arith)));
    })

-- the first of those that are left is out
pub one-shared : {made out out' : List HandName} (kept : List HandName) (x : HandName)
    (rest : List HandName) → Shared made out (kept ++ x ∷ rest) → out' ≡ out ++ x ∷ []
    → Shared made out' (kept ++ rest)
one-shared {made} {out} {out'} kept x rest s e =
    subst (λ (o : List HandName). Shared made o (kept ++ rest)) (sym e) (record {
      many = omega (
        arith,
        s.many,
        length-append out (x ∷ []),
        length-append kept (x ∷ rest),
        length-append kept rest,
      );
      hands = λ z numbers o. moved z numbers (s.hands z numbers o);
    })
  where
    moved : (z : CrewId) (numbers : List ℕ) → AreOut z numbers (out ++ (kept ++ x ∷ rest))
        → AreOut z numbers ((out ++ x ∷ []) ++ (kept ++ rest))
    moved z numbers o =
        let a = all-parts z out (kept ++ x ∷ rest) o.ours in
        let b = all-parts z kept (x ∷ rest) a.1 in
        record {
          ours = all-on z (out ++ x ∷ []) (kept ++ rest)
              (all-on z out (x ∷ []) a.0 (b.1.0, tt)) (all-on z kept rest b.0 b.1.1);
          counts = λ n. omega (
            arith,
            o.counts n,
            both-numbered n out (kept ++ x ∷ rest),
            both-numbered n kept (x ∷ rest),
            both-numbered n (out ++ x ∷ []) (kept ++ rest),
            both-numbered n out (x ∷ []),
            both-numbered n kept rest,
          );
        }

-- the first of those that are left is kept
pub one-kept : {made out kept' : List HandName} (kept : List HandName) (x : HandName)
    (rest : List HandName) → Shared made out (kept ++ x ∷ rest) → kept' ≡ kept ++ x ∷ []
    → Shared made out (kept' ++ rest)
one-kept {made} {out} {kept'} kept x rest s e =
    subst (λ (l : List HandName). Shared made out l)
    (sym (append_assoc kept (x ∷ []) rest) ∙ ap (λ (l : List HandName). l ++ rest) (sym e)) s

pub risen-once-more : {count old now new : ℕ} → HasRisenBy count old now → HasRisen now new
    → HasRisenBy (count + 1) old new
risen-once-more {count} {old} {now} {new} a b = record {
  no_less = omega (arith, a.no_less, b.no_less);
  rose = further count old now new end_of_count a.rose b.rose;
}
  where
    further : (k a b c e : ℕ) → min (a + k) e ≤ b → min (b + 1) e ≤ c → min (a + (k + 1)) e ≤ c
    further k a b c e h i = omega arith

-- a hand that goes is one fewer
pub one-fewer-out : (n : ℕ) (ns : List ℕ) → 0 < times n ns
    → length (removed n ns) ≡ length ns - 1
one-fewer-out n [] h = absurd (omega arith)
one-fewer-out n (m ∷ ms) h = dite (ℕ_discrete m n)
    (λ e. ap (λ b. length (cond b ms (m ∷ removed n ms))) (eq-eqb m n e) ∙ (omega arith))
    (λ ne. let more : 0 < times n ms = omega (arith, only-other n m ne) in
    ap (λ b. length (cond b ms (m ∷ removed n ms))) (ne_eqb m n ne)
    ∙ (omega (arith, one-fewer-out n ms more, some-there n ms more)))
  where
    some-there : (k : ℕ) (l : List ℕ) → 0 < times k l → 0 < length l
    some-there k [] h = absurd (omega arith)
    some-there k (x ∷ l) h = omega arith

-- a hand among those that are out
pub is-out : {z : CrewId} {out : List ℕ} (front : List HandName) (x : HandName)
    (back : List HandName) → AreOut z out (front ++ x ∷ back) → 0 < times x.number out
is-out {z} {out} front x back o = omega (
  arith,
  both-numbered x.number front (x ∷ back),
  o.counts x.number,
  only-same x.number x.number refl,
)

-- one hand fewer is out
pub one-back : {z : CrewId} {out : List ℕ} (front : List HandName) (x : HandName)
    (back : List HandName) → AreOut z out (front ++ x ∷ back)
    → AreOut z (removed x.number out) (front ++ back)
one-back {z} {out} front x back o =
    let sum : (n : ℕ) → numbered n front + numbered n back + only n x.number ≡ times n out =
    λ n. omega (arith, both-numbered n front (x ∷ back), o.counts n) in
    let there = is-out front x back o in
    let a = all-parts z front (x ∷ back) o.ours in
    record {
      ours = all-on z front back a.0 a.1.1;
      counts = λ n. omega (
        arith,
        sum n,
        both-numbered n front back,
        times-removed x.number n out there,
      );
    }

pub is-ours : {z : CrewId} {out : List ℕ} (front : List HandName) (x : HandName)
    (back : List HandName) → AreOut z out (front ++ x ∷ back) → x.board ≡ z
is-ours {z} front x back o = (all-parts z front (x ∷ back) o.ours).1.0

pub none-out : {z : CrewId} {out : List ℕ} → AreOut z out [] → out ≡ []
none-out {z} {out} o = go out (λ n. sym (o.counts n))
  where
    go : (ns : List ℕ) → ((n : ℕ) → times n ns ≡ 0) → ns ≡ []
    go [] h = refl
    go (n ∷ ns) h = absurd (omega (arith, h n, only-same n n refl))

-- the last of them is back
pub last-back : {z z' : CrewId} {out out' : List ℕ} {hands : List HandName}
    (front : List HandName) (x : HandName) → AreOut z out hands → hands ≡ front ++ x ∷ []
    → z' ≡ z → out' ≡ removed x.number out → AreOut z' out' front
last-back {z} {z'} {out} {out'} {hands} front x o e same gone =
    subst (λ (t : CrewId × List ℕ × List HandName). AreOut t.0 t.1 t.2)
    (λ i. (sym same i, sym gone i, append-nil front i))
    (one-back front x [] (subst (λ (l : List HandName). AreOut z out l) e o))

pub same-jobs-back : {old now new : Dispatching} (w : View) (told : List Numbered)
    → SameJobs old now → new ≡ record now { view = taken_in now.view w; told = told }
    → SameJobs old new
same-jobs-back {old} {now} {new} w told s e = subst (λ (x : Dispatching). SameJobs old x) (sym e)
    (record {
      board = s.board;
      places = s.places;
      given = s.given;
      busy = s.busy;
      ledger = s.ledger;
      lost = s.lost;
      put = s.put;
    })

-- one of those that are out with a spawner is back, of whom others are kept
module _ {z : CrewId} {out : List ℕ} {hands later : List HandName} (kept : List HandName)
    (x : HandName) (o : AreOut z out (hands ++ kept)) (front back : List HandName)
    (was : hands ≡ front ++ x ∷ back) (is : later ≡ front ++ back) where
  with-kept : AreOut z out (front ++ x ∷ (back ++ kept))
  with-kept = subst (λ (l : List HandName). AreOut z out l)
      (ap (λ (l : List HandName). l ++ kept) was ∙ append_assoc front (x ∷ back) kept) o

  pub came-ours : x.board ≡ z
  came-ours = is-ours front x (back ++ kept) with-kept

  pub came-out : 0 < times x.number out
  came-out = is-out front x (back ++ kept) with-kept

  pub came-back : {z' : CrewId} {out' : List ℕ} → z' ≡ z → out' ≡ removed x.number out
      → AreOut z' out' (later ++ kept)
  came-back {z'} {out'} same gone =
      subst (λ (t : CrewId × List ℕ × List HandName). AreOut t.0 t.1 t.2)
      (λ i. (
        sym same i,
        sym gone i,
        (sym (append_assoc front back kept) ∙ ap (λ (l : List HandName). l ++ kept) (sym is)) i,
      ))
      (one-back front x (back ++ kept) with-kept)

-- Calls that are asked, and that end, one after another.
use Rattle.std.proofs.Common.{◌≡◌, ◌≤◌, ◌+◌, ◌-◌, ℕ, Bool, true, false, refl, sym, ap, ◌∙◌, subst}
use Rattle.std.proofs.Common.{arith}
use Rattle.std.specs.Bool.{MatchBool}
use Rattle.call_load.specs.Callers.{AsksMore, EndsSome}
use Rattle.call_load.specs.Counts.{AsksOne, EndsOne, TimesOne}
use Rattle.call_load.specs.declared.counts.Counts.{Counts}
use Rattle.call_load.specs.declared.tally.Ending.{Ending}
use Rattle.call_load.specs.declared.tally.Tally.{Tally}

pub asks-none : (c : Counts) → AsksMore 0 c c
asks-none c = record {
  more = 0;
  few = omega arith;
  asked = omega arith;
  pending = omega arith;
  ended = λ e. refl;
  rest = refl;
}

-- others, and one more
asks-then : (n : ℕ) (a b c : Counts) → AsksMore n a b → AsksOne b c → AsksMore (n + 1) a c
asks-then n a b c p q =
    let few = p.few in
    let asked = p.asked in
    let one = q.asked in
    let pending = p.pending in
    let more = q.pending in
    record {
      more = p.more + 1;
      few = omega arith;
      asked = omega arith;
      pending = omega arith;
      ended = λ e. q.ended e ∙ p.ended e;
      rest = q.rest ∙ ap (λ (x : Counts). record x { tally = c.tally }) p.rest;
    }

asks-within : (n m : ℕ) (a b : Counts) → n ≤ m → AsksMore n a b → AsksMore m a b
asks-within n m a b less p =
    let few = p.few in record {
      more = p.more;
      few = omega arith;
      asked = p.asked;
      pending = p.pending;
      ended = p.ended;
      rest = p.rest;
    }

-- or none
pub asks-next : (n : ℕ) (r : Bool) (a b c : Counts) → AsksMore n a b
    → MatchBool r (AsksOne b c) (c ≡ b) → AsksMore (n + 1) a c
asks-next n true a b c p q = asks-then n a b c p q
asks-next n false a b c p q =
    asks-within n (n + 1) a c (omega arith) (subst (AsksMore n a) (sym q) p)

pub ends-none : (c : Counts) → EndsSome 0 c c
ends-none c =
    record { over = 0; few = omega arith; asked = refl; pending = omega arith; turns = refl }

-- the time of a call, and how it ended
pub ends-one : (took : ℕ) (ending : Ending) (a b c : Counts) → TimesOne took a b
    → EndsOne ending b c → EndsSome 1 a c
ends-one took ending a b c p q =
    let was : b.tally.pending ≡ a.tally.pending = ap (λ (t : Tally). t.pending) p.tally in
    let now = q.pending in
    record {
      over = a.tally.pending - c.tally.pending;
      few = omega arith;
      asked = q.asked ∙ ap (λ (t : Tally). t.asked) p.tally;
      pending = omega arith;
      turns = ap (λ (x : Counts). x.turns) q.rest ∙ p.turns;
    }

pub ends-then : (n : ℕ) (a b c : Counts) → EndsSome n a b → EndsSome 1 b c → EndsSome (n + 1) a c
ends-then n a b c p q =
    let few = p.few in
    let one = q.few in
    let pending = p.pending in
    let more = q.pending in
    record {
      over = p.over + q.over;
      few = omega arith;
      asked = q.asked ∙ p.asked;
      pending = omega arith;
      turns = q.turns ∙ p.turns;
    }

pub ends-within : (n m : ℕ) (a b : Counts) → n ≤ m → EndsSome n a b → EndsSome m a b
ends-within n m a b less p =
    let few = p.few in record {
      over = p.over;
      few = omega arith;
      asked = p.asked;
      pending = p.pending;
      turns = p.turns;
    }

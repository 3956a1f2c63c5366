-- How the turns of a run end.
use Rattle.std.proofs.Common.{◌≡◌, ◌≢◌, ◌⊎◌, ℕ, suc, ◌+◌, ◌<◌, ◌≤◌, Bool, true, false, cond}
use Rattle.std.proofs.Common.{refl, sym, subst, ◌∙◌, inl, inr, arith}
use Rattle.std.specs.Prelude.{◌==◌, ◌&&◌}
use Rattle.std.proofs.lemmas.Bool.{eq-eqb, eqb-true}
use Rattle.load_run.specs.Loading.{Answers, HasLoadedOnce, LoadsOn, LoadsSoFar, LoadsTurns}
use Rattle.load_run.specs.Loading.{TurnsEnd}
use Rattle.load_run.specs.Loading.{Prints, UnlessFailed, UnlessNoMemory, calls_line, going_at}
use Rattle.load_run.specs.Loading.{is_clean, is_over, state_in, unasked}
use Rattle.load_run.proofs.TurnLemmas.{loads-none, loads-then}
use Rattle.rpc_turns.proofs.RunLemmas.{goes-none, goes-then}
use Rattle.rpc_turns.specs.Moments.{Moment, Outside}
use Rattle.rpc_turns.specs.Plain.{GoesOnBy}
use Rattle.memory_count.specs.Faults.{HasRisen}
use Rattle.rpc_outside.specs.Writing.{Wrote, Written}
use Rattle.run_status.specs.declared.going.Going.{Going}
use Rattle.run_status.specs.declared.going.Going.TheVariants.{On, Over}
use Rattle.run_status.specs.declared.status.Status.{Status}
use Rattle.run_status.specs.declared.status.Status.TheVariants.{CallsFailed, Done, LinkFault}
use Rattle.run_status.specs.declared.status.Status.TheVariants.{NoMemory, WriteFault}
use Rattle.run_status.specs.declared.status.Status.TheVariants.{TurnsSpent}

-- the ends of a run of which nothing failed
abbrev IsEnd : Status → Type 0
IsEnd Done = Unit {0}
IsEnd CallsFailed = Unit {0}
IsEnd TurnsSpent = Unit {0}
IsEnd _ = ⊥

same-status : (a b : Status) → Over a ≡ Over b → a ≡ b
same-status a b e = cc

end-of : (over clean spent : Bool) (told : Status)
    → cond over (Over (cond clean Done CallsFailed)) (cond spent (Over TurnsSpent) On) ≡ Over told
    → IsEnd told
end-of true true spent told e = subst IsEnd (same-status Done told e) tt
end-of true false spent told e = subst IsEnd (same-status CallsFailed told e) tt
end-of false clean true told e = subst IsEnd (same-status TurnsSpent told e) tt
end-of false clean false told e = cc

pub end-known : (s : LoadsSoFar) (told : Status) → going_at s ≡ Over told → IsEnd told
end-known s told e = end-of (is_over (state_in s)) (is_clean s) (s.made == s.turns) told e

-- and how a run that is Done ended
clean-of : (over clean spent : Bool)
    → cond over (Over (cond clean Done CallsFailed)) (cond spent (Over TurnsSpent) On) ≡ Over Done
    → clean ≡ true
clean-of true true spent e = refl
clean-of true false spent e = let same = same-status CallsFailed Done e in cc
clean-of false clean true e = let same = same-status TurnsSpent Done e in cc
clean-of false clean false e = cc

both-true : (a b : Bool) → a && b ≡ true → (a ≡ true) × (b ≡ true)
both-true true true e = (refl, refl)
both-true true false e = cc
both-true false b e = cc

-- where its line was written, its status is told
pub prints-told : (s : LoadsSoFar) (told : Status) (old new : Written)
    → s.asked ≤ s.ledger.plan.calls → going_at s ≡ Over told → Wrote old new (calls_line s)
    → Prints s told old new
prints-told s Done old new within e wrote =
    let clean = clean-of (is_over (state_in s)) (is_clean s) (s.made == s.turns) e in
    let parts = both-true (unasked s == 0) (s.ledger.tally.ok == s.ledger.plan.calls) clean in
    let none = eqb-true (unasked s) 0 parts.0 in (
      e,
      wrote,
      omega (arith, none, within),
      eqb-true s.ledger.tally.ok s.ledger.plan.calls parts.1,
    )
prints-told s WriteFault old new within e wrote = absurd (end-known s WriteFault e)
prints-told s told old new within e wrote = (e, wrote)

-- it goes on only while turns are left
unspent : (over clean spent : Bool)
    → cond over (Over (cond clean Done CallsFailed)) (cond spent (Over TurnsSpent) On) ≡ On
    → spent ≡ false
unspent true clean spent e = cc
unspent false clean true e = cc
unspent false clean false e = refl

pub on-left : (s : LoadsSoFar) → going_at s ≡ On → s.made ≢ s.turns
on-left s e same =
    let left = unspent (is_over (state_in s)) (is_clean s) (s.made == s.turns) e in
    let spent : (s.made == s.turns) ≡ true = eq-eqb s.made s.turns same in
    cc

-- where a turn answers that it goes on, it does
pub answers-on : (before now : ℕ) (s : LoadsSoFar) → Answers before now s On
    → (now ≡ before) × (going_at s ≡ On)
answers-on before now s (inl h) = let never = h.0 in cc
answers-on before now s (inr h) = (h.0, by h.1)
  where
    by : (On ≡ Over NoMemory) ⊎ (On ≡ going_at s) → going_at s ≡ On
    by (inl never) = cc
    by (inr e) = sym e

module _ {L C R : Type 0} (o : Outside L C R) where
  abbrev At : Type 0
  At = Moment LoadsSoFar L C R

  -- what one turn does, and what follows from it
  abbrev Does : ℕ → (a b : At) → Type 0
  Does n a b = LoadsOn o a b n

  abbrev faults : At → ℕ
  faults a = o.net.faults a.edges.link

  module _ (a b c : At) (many : ℕ) (turns : LoadsTurns o many a b)
      (quiet : faults b ≡ faults a) where
    further : HasLoadedOnce o b c → Does 1 b c → LoadsTurns o (suc many) a c
    further one turn =
        let next : many + 1 ≡ suc many = omega arith in
        record {
          each = (b, turns.each, one);
          on = subst (λ n. Does n a c) next (loads-then o a b c many 1 turns.on turn);
        }

    rises : HasRisen (faults b) (faults c) → HasRisen (faults a) (faults c)
    rises h = subst (λ n. HasRisen n (faults c)) quiet h

    -- a turn with which the run is over
    pub ends-with : (told : Status)
        → Answers (faults b) (faults c) c.run (Over told)
        → UnlessNoMemory (Over told) (HasLoadedOnce o b c)
        → UnlessFailed (Over told) (Does 1 b c) → TurnsEnd told o a c
    ends-with LinkFault (inl h) one turn = rises h.1
    ends-with LinkFault (inr (same, inl e)) one turn = cc
    ends-with LinkFault (inr (same, inr e)) one turn =
        absurd (end-known c.run LinkFault (sym e))
    ends-with NoMemory (inl h) one turn = let never = same-status NoMemory LinkFault h.0 in cc
    ends-with NoMemory (inr (same, which)) one turn = same ∙ quiet
    ends-with Done (inl h) one turn = let never = same-status Done LinkFault h.0 in cc
    ends-with Done (inr (same, inl e)) one turn = cc
    ends-with Done (inr (same, inr e)) one turn =
        (sym e, same ∙ quiet, suc many, further one turn)
    ends-with CallsFailed (inl h) one turn =
        let never = same-status CallsFailed LinkFault h.0 in cc
    ends-with CallsFailed (inr (same, inl e)) one turn = cc
    ends-with CallsFailed (inr (same, inr e)) one turn =
        (sym e, same ∙ quiet, suc many, further one turn)
    ends-with TurnsSpent (inl h) one turn =
        let never = same-status TurnsSpent LinkFault h.0 in cc
    ends-with TurnsSpent (inr (same, inl e)) one turn = cc
    ends-with TurnsSpent (inr (same, inr e)) one turn =
        (sym e, same ∙ quiet, suc many, further one turn)
    ends-with told (inl h) one turn = let never = same-status told LinkFault h.0 in cc
    ends-with told (inr (same, inl e)) one turn = let never = same-status told NoMemory e in cc
    ends-with told (inr (same, inr e)) one turn = absurd (end-known c.run told (sym e))

-- turns were made, and more are left
pub record GoesSome {L C R : Type 0} (o : Outside L C R) (a b : Moment LoadsSoFar L C R)
    : Type 0 where
  pub left : b.run.made < b.run.turns
  pub many : ℕ
  pub turns : LoadsTurns o many a b
  pub quiet : o.net.faults b.edges.link ≡ o.net.faults a.edges.link
  pub goes : GoesOnBy o.log a.run.endpoint b.run.endpoint a.edges.rec b.edges.rec

module _ {L C R : Type 0} (o : Outside L C R) where
  abbrev Here : Type 0
  Here = Moment LoadsSoFar L C R

  abbrev One : (b c : Here) → Type 0
  One b c = LoadsOn o b c 1

  abbrev failures : Here → ℕ
  failures a = o.net.faults a.edges.link

  pub some-none : (a : Here) → a.run.made < a.run.turns → GoesSome o a a
  some-none a left = record {
    left = left;
    many = 0;
    turns = record {
      each = refl;
      on = loads-none o a;
    };
    quiet = refl;
    goes = goes-none o.log a.run.endpoint a.edges.rec;
  }

  module _ (a b c : Here) (some : GoesSome o a b)
      (goes : GoesOnBy o.log b.run.endpoint c.run.endpoint b.edges.rec c.edges.rec) where
    pub some-more : (going : Going) → going ≡ On
        → Answers (failures b) (failures c) c.run going
        → UnlessNoMemory going (HasLoadedOnce o b c) → UnlessFailed going (One b c)
        → GoesSome o a c
    some-more (Over told) e answers one turn = cc
    some-more On e answers one turn =
        let so = answers-on (failures b) (failures c) c.run answers in
        let free = on-left c.run so.1 in
        let left = some.left in
        let made = turn.made in
        let turns = turn.turns in
        record {
          left = omega (arith, free, left, made, turns);
          many = suc some.many;
          turns = further o a b c some.many some.turns some.quiet one turn;
          quiet = so.0 ∙ some.quiet;
          goes = goes-then o.log a.run.endpoint b.run.endpoint c.run.endpoint a.edges.rec
              b.edges.rec c.edges.rec some.goes goes;
        }

    pub some-ends : (told : Status)
        → Answers (failures b) (failures c) c.run (Over told)
        → UnlessNoMemory (Over told) (HasLoadedOnce o b c)
        → UnlessFailed (Over told) (One b c)
        → TurnsEnd told o a c
    some-ends told answers one turn =
        ends-with o a b c some.many some.turns some.quiet told answers one turn

    pub some-goes : GoesOnBy o.log a.run.endpoint c.run.endpoint a.edges.rec c.edges.rec
    some-goes =
        goes-then o.log a.run.endpoint b.run.endpoint c.run.endpoint a.edges.rec b.edges.rec
        c.edges.rec some.goes goes

-- All of some facts are a poll, or none.
use Rattle.std.proofs.Common.{◌≡◌, ◌<◌, ◌≤◌, ℕ, max, false, Option, Some, None, List, [], ◌∷◌}
use Rattle.std.proofs.Common.{◌++◌, length}
use Rattle.std.proofs.Common.{take, drop, refl, sym, ap, ◌∙◌, subst, arith, append-nil}
use Rattle.std.proofs.Math.Seq.{take-length}
use Rattle.std.proofs.lemmas.List.{length-take-le, take-append-drop}
use Rattle.rpc_base.specs.declared.event.Event.TheVariants.{Polled}
use Rattle.rpc_base.specs.declared.fact.Fact.{Fact}
use Rattle.rpc_laws.specs.declared.tables.Lists.{Lists}
use Rattle.rpc_laws.specs.declared.tables.Timed.{Timed}
use Rattle.rpc_laws.specs.ControlSteps.{HearsAll, TimesAll}
use Rattle.rpc_laws.specs.Facts.{plain}
use Rattle.rpc_laws.specs.PollOrder.{Closes, FinishesOne, HandlesAll, Poll, PostsAll, Sends}
use Rattle.rpc_laws.specs.PollOrder.{SendsSome}
use Rattle.rpc_laws.specs.Steps.{Rel, Then}
use Rattle.rpc_outside.specs.PlainAnswer.{plain_mode}
use Rattle.front_laws.specs.Laws.{Same}
use Rattle.front_laws.proofs.PollOne.{jobs-later, seven-one}
use Rattle.node_rules.specs.SingleFacts.{at_clock}
use Rattle.poll_steps.specs.Polling.{FromInbox, FromJobs, FromPosting, FromRing, FromSending}
use Rattle.poll_steps.specs.Polling.{FromTimers}
use Rattle.poll_steps.specs.Polling.{IsPoll, last_clock}
use Rattle.poll_steps.specs.Steps.{begins_with, is_ran, is_sent, IsStep}
use Rattle.poll_steps.proofs.ClockLemmas.{poll-tells}
use Rattle.poll_steps.proofs.StepLemmas.{NotesSome}
use Rattle.poll_steps.proofs.StopsLemmas.{BeginsOther, BeginsWith}

-- what the steps that stop where they like begin with, and what follows them doesn't
pub sends-begin : BeginsWith is_sent Sends
sends-begin s x t h = rw h.facts refl

pub closes-other-kind : BeginsOther is_sent Closes
closes-other-kind s x rest t h = rw h.facts refl

pub finishes-begin : BeginsWith is_ran FinishesOne
finishes-begin s x t h = rw h.finishes.facts refl

-- each of them notes its end
then-notes : (P Q : Rel) → NotesSome Q → NotesSome (Then P Q)
then-notes P Q q s x t h e = behind h.front (sym h.joined ∙ e)
  where
    behind : (y : List Fact) → y ++ h.back ≡ [] → ⊥
    behind [] e = q h.between h.back t h.second e
    behind (f ∷ y) e = cc

inbox-some : NotesSome FromInbox
inbox-some =
    then-notes HearsAll FromRing (then-notes (HandlesAll plain_mode) FromTimers
    (then-notes TimesAll FromPosting (then-notes PostsAll FromSending
    (then-notes SendsSome Closes closes-some))))
  where
    closes-some : NotesSome Closes
    closes-some s x t h e =
        let both : plain s.lists.me (Polled s.clock) ∷ [] ≡ [] = sym h.facts ∙ e in cc

pub inbox-other-kind : BeginsOther is_ran FromInbox
inbox-other-kind s x rest t h = behind x (jobs-later plain_mode s x t h) (inbox-some s x t h)
  where
    behind : (x : List Fact) → begins_with is_ran x ≡ false → (x ≡ [] → ⊥)
        → begins_with is_ran (x ++ rest) ≡ false
    behind [] other some = absurd (some refl)
    behind (g ∷ x) other some = other

-- what is known of any poll of these facts: the clock that the last one tells
from-told : (clock now told : ℕ) (s : Lists) (facts : List Fact) (u : Timed)
    → last_clock facts ≡ Some told
    → Poll plain_mode now (at_clock clock s) facts u → max clock now ≡ told
from-told clock now told s facts u e h =
    let both : Some (max clock now) ≡ Some told =
    sym (poll-tells plain_mode now (at_clock clock s) facts u h) ∙ e in
    cc

-- the last fact ends no poll
pub polls-endless : (clock : ℕ) (s : Lists) (facts : List Fact) (t : Lists)
    → last_clock facts ≡ None
    → IsPoll clock s facts t None
polls-endless clock s facts t e = record {
  some = tt;
  only = λ no now u h.
      let both : Some (max clock now) ≡ None =
      sym (poll-tells plain_mode now (at_clock clock s) facts u h) ∙ e in cc;
}

-- it tells a clock that is over
pub polls-early : (clock told : ℕ) (s : Lists) (facts : List Fact) (t : Lists)
    → last_clock facts ≡ Some told
    → told < clock → IsPoll clock s facts t None
polls-early clock told s facts t e less = record {
  some = tt;
  only = λ no now u h.
      let same = from-told clock now told s facts u e h in
      absurd (omega (arith, less, same));
}

-- a poll of these facts is its steps at the clock that is told
steps-of : (clock now told : ℕ) (s : Lists) (facts : List Fact) (u : Timed)
    → last_clock facts ≡ Some told
    → Poll plain_mode now (at_clock clock s) facts u → FromJobs (at_clock told s) facts u
steps-of clock now told s facts u e h =
    subst (λ (c : ℕ). FromJobs (at_clock c s) facts u) (from-told clock now told s facts u e h) h

-- no front of the facts is one
pub polls-stuck : (clock told : ℕ) (s : Lists) (facts : List Fact) (v : Timed) (t : Lists)
    (o : Option ℕ)
    → last_clock facts ≡ Some told → IsStep FromJobs (at_clock told s) facts v o → o ≡ None
    → IsPoll clock s facts t None
polls-stuck clock told s facts v t o e k f = record {
  some = tt;
  only = λ no now u h.
      k.only (rw f refl) facts u (record { rest = []; parted = sym (append-nil facts) })
      (steps-of clock now told s facts u e h);
}

-- a shorter one is, so all of them are none
pub polls-short : (clock told : ℕ) (s : Lists) (facts : List Fact) (v : Timed) (t : Lists)
    (o : Option ℕ) (n : ℕ)
    → last_clock facts ≡ Some told → IsStep FromJobs (at_clock told s) facts v o → o ≡ Some n
    → n < length facts
    → IsPoll clock s facts t None
polls-short clock told s facts v t o n e k f less =
    let found : IsStep FromJobs (at_clock told s) facts v (Some n) =
    subst (λ (z : Option ℕ). IsStep FromJobs (at_clock told s) facts v z) f k in
    record {
      some = tt;
      only = λ no now u h.
          let same : Same facts (take n facts) u v =
          seven-one plain_mode (at_clock told s) facts (take n facts) [] (drop n facts) u v
          (steps-of clock now told s facts u e h) found.some.1
          (append-nil facts ∙ sym (take-append-drop n facts)) in
          let few : length (take n facts) ≡ n = length-take-le n facts found.some.0 in
          let all : length facts ≡ length (take n facts) = ap length same.facts in
          absurd (omega (arith, few, all, less));
    }

-- all of them are
pub polls-all : (clock told : ℕ) (s : Lists) (facts : List Fact) (t : Lists) (o : Option ℕ) (n : ℕ)
    → clock ≤ told → IsStep FromJobs (at_clock told s) facts (at_clock told t) o → o ≡ Some n
    → length facts ≤ n
    → IsPoll clock s facts t (Some told)
polls-all clock told s facts t o n le k f many =
    let found : IsStep FromJobs (at_clock told s) facts (at_clock told t) (Some n) =
    subst (λ (z : Option ℕ). IsStep FromJobs (at_clock told s) facts (at_clock told t) z) f k in
    let within = found.some.0 in
    let long : n ≡ length facts = omega (arith, many, within) in
    let whole : take n facts ≡ facts = ap (λ (k : ℕ). take k facts) long ∙ take-length facts in
    let raise : told ≡ max clock told = omega (arith, le) in
    let all : FromJobs (at_clock told s) facts (at_clock told t) =
    subst (λ (x : List Fact). FromJobs (at_clock told s) x (at_clock told t)) whole found.some.1 in
    record {
      some = subst (λ (c : ℕ). FromJobs (at_clock c s) facts (at_clock told t)) raise all;
      only = λ no. cc;
    }

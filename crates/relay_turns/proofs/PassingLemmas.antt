-- Jobs that were passed on: the call of each, or its refusal.
use Rattle.std.proofs.Common.{◌≡◌, inl, inr, ℕ, ◌+◌, Some, List, [], ◌∷◌, ◌++◌, length, map, refl}
use Rattle.std.proofs.Common.{sym, ap, ap₂, subst, ◌∙◌, slice_get, arith, append_assoc, append-nil}
use Rattle.std.specs.Prelude.{slice_set}
use Rattle.std.proofs.lemmas.List.{length-append, map-append}
use Rattle.client_core.specs.Handing.{Handed}
use Rattle.deferred_calls.specs.Desks.{Jobs}
use Rattle.deferred_calls.specs.Law.{finished}
use Rattle.deferred_calls.specs.Moves.{HandsOut}
use Rattle.deferred_calls.specs.declared.job.Numbered.{Numbered}
use Rattle.endpoint_loop.specs.Endpoints.{Running}
use Rattle.relay_steps.specs.Passing.{at_desk, GoesOut, IsRefusal, more, nested_fact, nested_handed}
use Rattle.relay_steps.specs.Passing.{none, Passes, PassesBy, Relayed, StaysHere}
use Rattle.relay_turns.proofs.EndLemmas.{handed-push}
use Rattle.relay_turns.specs.Deferred.{AreFactsOf, asked, asked_of, job_passed, Passing, refused}
use Rattle.relay_turns.specs.Deferred.{refused_of}
use Rattle.relay_turns.specs.Working.{AreHandedOf, HasPending, Nested, nested_job}
use Rattle.relays.specs.Relaying.{Relaying}
use Rattle.rpc_base.specs.declared.fact.Fact.{Fact}
use Rattle.worker_board.specs.declared.Parcel.{Parcel}

facts-append : (ps qs : List Passing) (x y : List Fact) → AreFactsOf ps x → AreFactsOf qs y
    → AreFactsOf (ps ++ qs) (x ++ y)
facts-append [] qs [] y a b = b
facts-append [] qs (f ∷ x) y a b = absurd a
facts-append (p ∷ ps) qs [] y a b = absurd a
facts-append (p ∷ ps) qs (f ∷ x) y a b = (a.0, facts-append ps qs x y a.1 b)

asked-append : (ps qs : List Passing) → asked_of (ps ++ qs) ≡ asked_of ps ++ asked_of qs
asked-append [] qs = refl
asked-append (asked n ∷ ps) qs = ap (λ (l : List Nested). n ∷ l) (asked-append ps qs)
asked-append (refused job ∷ ps) qs = asked-append ps qs

refused-append : (ps qs : List Passing) → refused_of (ps ++ qs) ≡ refused_of ps ++ refused_of qs
refused-append [] qs = refl
refused-append (asked n ∷ ps) qs = refused-append ps qs
refused-append (refused job ∷ ps) qs =
    ap (λ (l : List Numbered). job ∷ l) (refused-append ps qs)

module _ {V : Type 0} (answer : ℕ → List ℕ → List ℕ) where
  -- these jobs were passed on, each by its fact
  pub record PassedOn (s : Relayed V) (pending : List Nested) (ns : List Numbered) (x : List Fact)
      (t : Relayed V) : Type 0 where
    pub passed : List Passing
    pub are : map job_passed passed ≡ ns
    pub facts : AreFactsOf passed x
    pub me : t.endpoint.timed.lists.me ≡ 0
    pub has_pending : HasPending (pending ++ asked_of passed) t
    pub answered : t.endpoint.workers.answered
        ≡ s.endpoint.workers.answered ++ map (finished answer) (refused_of passed)
    pub relayed : t.relays.relayed ≡ s.relays.relayed
    pub here : t.relays.here ≡ s.relays.here + length (refused_of passed)

  module _ (pending : List Nested) (t u : Relayed V) (n : Numbered) (f : Fact) (desk : Jobs)
      (me : t.endpoint.timed.lists.me ≡ 0) (has : HasPending pending t)
      (hands : HandsOut (Some n) t.endpoint.workers desk) where
    same-answered : desk.answered ≡ t.endpoint.workers.answered
    same-answered = ap (λ (s : Jobs). s.answered) hands.2

    one-out : GoesOut n f (at_desk t desk) u → PassedOn t pending (n ∷ []) (f ∷ []) u
    one-out out = record {
      passed = asked one ∷ [];
      are = refl;
      facts = (
        out.asks.asked
            ∙ ap (λ (m : ℕ). nested_fact m t.endpoint.timed.lists.asked n) me,
        tt,
      );
      me = out.asks.me ∙ me;
      has_pending = record {
        calls = has.calls ++ handed ∷ [];
        handed = out.asks.hands_in.changed
            ∙ ap₂ (λ (l : List (List Handed)) (b : List Handed). slice_set l 0 (b ++ handed ∷ []))
            has.handed (sym before);
        are_of = handed-push has.calls pending handed one has.are_of
            (record { call = refl; tag = refl });
        jobs = map-append nested_job pending (one ∷ [])
            ∙ (ap (λ (l : List Numbered). l ++ n ∷ []) has.jobs
            ∙ sym (ap (λ (r : Relaying). r.asked) out.kept));
      };
      answered = ap (λ (s : Jobs). s.answered) out.desk ∙ (same-answered
          ∙ sym (append-nil t.endpoint.workers.answered));
      relayed = ap (λ (r : Relaying). r.relayed) out.kept;
      here = let same = ap (λ (r : Relaying). r.here) out.kept in omega (arith, same);
    }
      where
        one : Nested
        one = record { call = t.endpoint.timed.lists.asked; job = n }

        handed : Handed
        handed = nested_handed t.endpoint.timed.lists.asked n out.asks.req

        before : has.calls ≡ out.asks.hands_in.before
        before =
            let is : Some has.calls ≡ Some out.asks.hands_in.before =
            sym (ap (λ (l : List (List Handed)). slice_get l 0) has.handed)
            ∙ out.asks.hands_in.place in cc

    one-here : StaysHere answer n f (at_desk t desk) u → PassedOn t pending (n ∷ []) (f ∷ []) u
    one-here here = record {
      passed = refused n ∷ [];
      are = refl;
      facts = (subst (λ (m : ℕ). IsRefusal m f) me here.refusal, tt);
      me = ap (λ (e : Running V Jobs). e.timed.lists.me) here.endpoint ∙ me;
      has_pending = record {
        calls = has.calls;
        handed = ap (λ (e : Running V Jobs). e.handed) here.endpoint ∙ has.handed;
        are_of = subst (λ (l : List Nested). AreHandedOf has.calls l) (sym (append-nil pending))
            has.are_of;
        jobs = ap (map nested_job) (append-nil pending)
            ∙ (has.jobs ∙ sym (ap (λ (r : Relaying). r.asked) here.counted));
      };
      answered = ap (λ (s : Jobs). s.answered) here.answers.2
          ∙ ap (λ (l : List Parcel). l ++ finished answer n ∷ []) same-answered;
      relayed = ap (λ (r : Relaying). r.relayed) here.counted;
      here = ap (λ (r : Relaying). r.here) here.counted;
    }

    one-passed : PassesBy answer n f (at_desk t desk) u → PassedOn t pending (n ∷ []) (f ∷ []) u
    one-passed (inl out) = one-out out
    one-passed (inr here) = one-here here

  none-passed : (pending : List Nested) (s : Relayed V) → s.endpoint.timed.lists.me ≡ 0
      → HasPending pending s → PassedOn s pending [] [] s
  none-passed pending s me has = record {
    passed = [];
    are = refl;
    facts = tt;
    me = me;
    has_pending = subst (λ (l : List Nested). HasPending l s) (sym (append-nil pending)) has;
    answered = sym (append-nil s.endpoint.workers.answered);
    relayed = refl;
    here = omega arith;
  }

  then-passed : (pending : List Nested) (s t u : Relayed V) (ns ms : List Numbered)
      (x y : List Fact) (a : PassedOn s pending ns x t)
      → PassedOn t (pending ++ asked_of a.passed) ms y u → PassedOn s pending (ns ++ ms) (x ++ y) u
  then-passed pending s t u ns ms x y a b = record {
    passed = a.passed ++ b.passed;
    are = map-append job_passed a.passed b.passed
        ∙ ap₂ (λ (l k : List Numbered). l ++ k) a.are b.are;
    facts = facts-append a.passed b.passed x y a.facts b.facts;
    me = b.me;
    has_pending = subst (λ (l : List Nested). HasPending l u)
        (append_assoc pending (asked_of a.passed) (asked_of b.passed)
        ∙ ap (λ (l : List Nested). pending ++ l) (sym (asked-append a.passed b.passed)))
        b.has_pending;
    answered = b.answered
        ∙ (ap (λ (l : List Parcel). l ++ map (finished answer) (refused_of b.passed)) a.answered
        ∙ (append_assoc s.endpoint.workers.answered (map (finished answer) (refused_of a.passed))
        (map (finished answer) (refused_of b.passed))
        ∙ ap (λ (l : List Parcel). s.endpoint.workers.answered ++ l)
        (sym (ap (map (finished answer)) (refused-append a.passed b.passed)
        ∙ map-append (finished answer) (refused_of a.passed) (refused_of b.passed)))));
    relayed = b.relayed ∙ a.relayed;
    here = let more = b.here in let some = a.here in
        omega (
          arith,
          more,
          some,
          ap length (refused-append a.passed b.passed),
          length-append (refused_of a.passed) (refused_of b.passed),
        );
  }

  pub all-passed : (pending : List Nested) (s : Relayed V) {ns : List Numbered} {x : List Fact}
      {t : Relayed V} → s.endpoint.timed.lists.me ≡ 0 → HasPending pending s
      → Passes answer s ns x t → PassedOn s pending ns x t
  all-passed pending s me has none = none-passed pending s me has
  all-passed pending s me has (more {ns = ns} {x = x} {t = t} p n f desk u hands one) =
      let a = all-passed pending s me has p in
      then-passed pending s t u ns (n ∷ []) x (f ∷ []) a
      (one-passed (pending ++ asked_of a.passed) t u n f desk a.me a.has_pending hands one)

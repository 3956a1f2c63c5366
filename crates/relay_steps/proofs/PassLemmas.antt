-- Jobs that are passed on, and those whose calls are over.
use Rattle.std.proofs.Common.{◌≡◌, ℕ, inl, inr, List, [], ◌∷◌, ◌++◌, refl, sym, ap, ap₂, ◌∙◌, subst}
use Rattle.std.proofs.Common.{Some, ◌+◌, append_assoc, append-nil}
use Rattle.std.specs.List.{AllByRecursion}
use Rattle.client_core.specs.declared.outcome.Done.{Done}
use Rattle.deferred_calls.specs.Desks.{Jobs}
use Rattle.deferred_calls.specs.Law.{Call, Runs, hands, answers}
use Rattle.deferred_calls.specs.Moves.{Answers, HandsOut}
use Rattle.deferred_calls.specs.declared.job.Numbered.{Numbered}
use Rattle.desk_laws.proofs.StandLemmas.{stands-on}
use Rattle.desk_laws.specs.Staying.{desk_members, IsOfHandles, with_desk}
use Rattle.endpoint_loop.specs.Endpoints.{Running}
use Rattle.endpoint_loop.specs.Stands.{StandsFor}
use Rattle.node_steps.proofs.NoteSteps.{sent-append}
use Rattle.relay_steps.specs.Asking.{AsksOne, RefusesOne}
use Rattle.relay_steps.specs.Passing.{at_desk, GoesPast, more, none, Passes, PassesAll, PassesBy}
use Rattle.relay_steps.specs.Passing.{PassesOn, PassesSome, Relayed, relayed, StandsAfter}
use Rattle.relays.specs.Relaying.{Relaying, Settles}
use Rattle.rpc_base.specs.declared.fact.Fact.{Fact}
use Rattle.rpc_base.specs.declared.limits.Limits.{Limits}
use Rattle.rpc_outside.specs.Linking.{Carried}
use Rattle.rpc_outside.specs.Recording.{Grew, Log}
use Rattle.rpc_outside.specs.declared.service.Service as Service
use Rattle.server_core.proofs.FlushLemmas.{grew-none, grew-then}

module _ {V : Type 0} (service : Service.Ghosts V) (answer : ℕ → List ℕ → List ℕ) where
  -- nothing is noted
  pub after-none : (e : Running V Jobs) → StandsAfter service answer [] e e
  after-none e = record {
    stands = λ limits past s.
        subst (λ (z : List Fact). StandsFor service (desk_members answer) limits z e)
        (sym (append-nil past)) s;
    me = refl;
    life = refl;
    silent = refl;
  }

  -- facts, and then further ones
  pub after-then : (a b c : Running V Jobs) (x y : List Fact) → StandsAfter service answer x a b
      → StandsAfter service answer y b c → StandsAfter service answer (x ++ y) a c
  after-then a b c x y p q = record {
    stands = λ limits past s.
        subst (λ (z : List Fact). StandsFor service (desk_members answer) limits z c)
        (append_assoc past x y) (q.stands limits (past ++ x) (p.stands limits past s));
    me = q.me ∙ p.me;
    life = q.life ∙ p.life;
    silent = sent-append x y ∙ ap₂ (λ (d e : List Carried). d ++ e) p.silent q.silent;
  }

  after-runs : (e : Running V Jobs) (calls : List Call) (desk : Jobs)
      → AllByRecursion IsOfHandles calls → Runs answer calls e.workers desk
      → StandsAfter service answer [] e (with_desk e desk)
  after-runs e calls desk all runs = record {
    stands = λ limits past s.
        subst (λ (z : List Fact). StandsFor service (desk_members answer) limits z
        (with_desk e desk))
        (sym (append-nil past)) (stands-on service answer limits past e calls desk all runs s);
    me = refl;
    life = refl;
    silent = refl;
  }

  -- a handle is made
  pub after-hands : (e : Running V Jobs) (n : Numbered) (desk : Jobs)
      → HandsOut (Some n) e.workers desk → StandsAfter service answer [] e (with_desk e desk)
  after-hands e n desk does = after-runs e (hands n ∷ []) desk (tt, tt) (desk, does, refl)

  -- a job is answered
  pub after-answers : (e : Running V Jobs) (n : Numbered) (desk : Jobs)
      → Answers answer n e.workers desk → StandsAfter service answer [] e (with_desk e desk)
  after-answers e n desk does = after-runs e (answers n ∷ []) desk (tt, tt) (desk, does, refl)

  -- the end of a call leaves what an endpoint stands for
  pub after-settles : (e : Running V Jobs) (d : Done) (desk : Jobs) (r later : Relaying)
      → Settles answer d e.workers desk r later
      → StandsAfter service answer [] e (with_desk e desk)
  after-settles e d desk r later (inl ends) = after-answers e ends.job desk ends.answers
  after-settles e d desk r later (inr nobody) =
      subst (λ (w : Jobs). StandsAfter service answer [] e (with_desk e w)) (sym nobody.1)
      (after-none e)

  module _ {R : Type 0} (log : R → Log) where
    pub passes-out : (n : Numbered) (a : Relayed V) (e then : Running V Jobs) (r : Relaying)
        (f g : R)
        → AsksOne log service answer n a.endpoint e f g → then ≡ e
        → r ≡ record a.relays { asked = a.relays.asked ++ n ∷ [] }
        → PassesOn log service answer n a (relayed then r) f g
    passes-out n a e then r f g asks same kept = rw same (record {
      fact = asks.fact;
      passes = inl (record { asks = asks.asks; desk = asks.leaves.workers; kept = kept });
      grew = asks.grew;
      stands = asks.stands;
    })

    pub passes-here : (n : Numbered) (a : Relayed V) (e then : Running V Jobs) (r : Relaying)
        (f g : R)
        → RefusesOne log service answer a.endpoint f g → e ≡ a.endpoint
        → then ≡ with_desk e then.workers → Answers answer n e.workers then.workers
        → r ≡ record a.relays { here = a.relays.here + 1 }
        → PassesOn log service answer n a (relayed then r) f g
    passes-here n a e then r f g refuses same others does counted =
        let here : then ≡ with_desk a.endpoint then.workers =
        subst (λ (x : Running V Jobs). then ≡ with_desk x then.workers) same others in
        let answered : Answers answer n a.endpoint.workers then.workers =
        subst (λ (x : Running V Jobs). Answers answer n x.workers then.workers) same does in
        record {
          fact = refuses.fact;
          passes = inr (record {
            refusal = refuses.refusal;
            endpoint = here;
            answers = answered;
            counted = counted;
          });
          grew = refuses.grew;
          stands = after-then a.endpoint a.endpoint then (refuses.fact ∷ []) [] refuses.stands
              (subst (λ (x : Running V Jobs). StandsAfter service answer [] a.endpoint x) (sym here)
              (after-answers a.endpoint n then.workers answered));
        }

    pub passes-none : (a : Relayed V) (f : R) → PassesSome log service answer a a f f
    passes-none a f = record {
      jobs = [];
      facts = [];
      passes = none;
      waited = refl;
      grew = grew-none log f;
      stands = after-none a.endpoint;
    }

    -- which jobs wait behind one that was passed on
    left-waiting : (n : Numbered) (f : Fact) (b c : Relayed V) (rest : List Numbered)
        → b.endpoint.workers.waiting ≡ rest → PassesBy answer n f b c
        → c.endpoint.workers.waiting ≡ rest
    left-waiting n f b c rest same (inl out) = ap (λ (d : Jobs). d.waiting) out.desk ∙ same
    left-waiting n f b c rest same (inr here) =
        ap (λ (d : Jobs). d.waiting) here.answers.2 ∙ same

    passes-next : (a b c : Relayed V) (desk : Jobs) (n : Numbered) (f g h : R)
        → PassesSome log service answer a b f g → HandsOut (Some n) b.endpoint.workers desk
        → PassesOn log service answer n (at_desk b desk) c g h
        → PassesSome log service answer a c f h
    passes-next a b c desk n f g h on does one =
        let rest = left-waiting n one.fact (at_desk b desk) c does.0
        (ap (λ (d : Jobs). d.waiting) does.2) one.passes in
        record {
          jobs = on.jobs ++ n ∷ [];
          facts = on.facts ++ one.fact ∷ [];
          passes = more on.passes n one.fact desk c does one.passes;
          waited = on.waited ∙ (ap (λ (w : List Numbered). on.jobs ++ w) does.1
              ∙ (sym (append_assoc on.jobs (n ∷ []) does.0)
              ∙ ap (λ (w : List Numbered). (on.jobs ++ n ∷ []) ++ w) (sym rest)));
          grew = grew-then log f g h on.facts (one.fact ∷ []) on.grew one.grew;
          stands = after-then a.endpoint b.endpoint c.endpoint on.facts (one.fact ∷ []) on.stands
              (after-then b.endpoint (with_desk b.endpoint desk) c.endpoint [] (one.fact ∷ [])
              (after-hands b.endpoint n desk does) one.stands);
        }

    pub passes-more : (a b c : Relayed V) (e : Running V Jobs) (n : Numbered) (f g h : R)
        → PassesSome log service answer a b f g → HandsOut (Some n) b.endpoint.workers e.workers
        → e ≡ with_desk b.endpoint e.workers
        → PassesOn log service answer n (relayed e b.relays) c g h
        → PassesSome log service answer a c f h
    passes-more a b c e n f g h on does others one =
        passes-next a b c e.workers n f g h on does
        (subst (λ (x : Running V Jobs). PassesOn log service answer n (relayed x b.relays) c g h)
        others one)

    pub passes-end : (a b : Relayed V) (desk : Jobs) (f g : R)
        → PassesSome log service answer a b f g
        → (b.endpoint.workers.waiting ≡ []) × (desk ≡ b.endpoint.workers)
        → (c : Running V Jobs) → c ≡ with_desk b.endpoint desk
        → PassesAll log service answer a (relayed c b.relays) f g
    passes-end a b desk f g on waits c others =
        rw (others, waits.1) (record { some = on; none_waits = waits.0 })

    -- it goes on, whether or not all were passed on
    pub passes-goes : (a b : Relayed V) (f g : R) → PassesSome log service answer a b f g
        → (c : Running V Jobs) → c ≡ with_desk b.endpoint b.endpoint.workers
        → GoesPast log service answer a.endpoint c f g
    passes-goes a b f g on c same =
        rw same (record { noted = on.facts; grew = on.grew; stands = on.stands })

    pub passes-stop : (a b : Relayed V) (c d : Running V Jobs) (n : Numbered) (f g h : R)
        → PassesSome log service answer a b f g → HandsOut (Some n) b.endpoint.workers c.workers
        → c ≡ with_desk b.endpoint c.workers → d ≡ c → h ≡ g
        → GoesPast log service answer a.endpoint d f h
    passes-stop a b c d n f g h on does others same still = rw (same, still) (record {
      noted = on.facts;
      grew = on.grew;
      stands = subst (λ (z : List Fact). StandsAfter service answer z a.endpoint c)
          (append-nil on.facts)
          (after-then a.endpoint b.endpoint c on.facts [] on.stands
          (subst (λ (e : Running V Jobs). StandsAfter service answer [] b.endpoint e) (sym others)
          (after-hands b.endpoint n c.workers does)));
    })

-- Step 4 of a poll: what the sessions note, one after another, and what the link was handed.
use Rattle.std.proofs.Common.{◌≡◌, ◌≤◌, ℕ, suc, ◌+◌, ◌||◌, List, []}
use Rattle.std.proofs.Common.{length, refl, subst, arith}
use Rattle.rpc_outside.specs.Recording.{Log}
use Rattle.client_core.specs.declared.outcome.Done.{Done}
use Rattle.rpc_base.specs.declared.fact.Fact.{Fact}
use Rattle.rpc_laws.specs.declared.tables.Timed.{Timed}
use Rattle.rpc_laws.specs.ControlSteps.{Retries, TimesAll, TimesSession}
use Rattle.rpc_laws.specs.GoBackN.{WatchesSession}
use Rattle.rpc_laws.specs.Steps.{Rel, Visits}
use Rattle.rpc_outside.specs.declared.link.Link as Link
use Rattle.node_steps.proofs.HandedGiven.{gave-none}
use Rattle.node_steps.specs.Callers.{NoneCalls}
use Rattle.node_steps.specs.Counts.{is_sent}
use Rattle.node_steps.specs.Notes.{MakesEnds, is_end_event}
use Rattle.node_steps.specs.Seen.{Asks, asking}
use Rattle.node_steps.specs.Links.{is_unsent, MakesSpoken}
use Rattle.node_steps.specs.declared.told.Asking.{Asking}
use Rattle.node_steps.specs.Timers.{MakesTimes}
use Rattle.node_steps.proofs.PostCallers.{session-quiet, visits-up}
use Rattle.node_steps.proofs.NoteEnds.{ends-join, ends-none, makes-join, no_asks}
use Rattle.node_steps.proofs.SendCounts.{link-both, link-still, nothing, or-false}
use Rattle.node_steps.specs.Changes.{◌⟶◌}
use Rattle.node_steps.proofs.NoteStill.{calls-still, retries-still, still-none}

module _ {R K L : Type 0} (log : R → Log)
    (given : K → List Done → Type 0) (net : Link.Ghosts L)
  where
    pub times-none : (P : Rel) (a : Timed) (f : R) (k : K) (l : L)
        → ((asks : Asks) → P (asking asks a) [] (asking asks a))
        → MakesTimes log given net P nothing (a ⟶ a) (f ⟶ f) (k ⟶ k) (l ⟶ l)
    unfolding ends-none
    times-none P a f k l step = record {
      ends = ends-none log given P a f k step;
      link = link-still net [] l tt tt;
    }

    pub times-as : {d : Asking} (P Q : Rel) (a b : Timed) (f g : R) (j k : K) (l m : L)
        → ((asks : Asks) (x : List Fact) → P (asking asks a) x (asking asks b)
        → Q (asking asks a) x (asking asks b))
        → MakesTimes log given net P d (a ⟶ b) (f ⟶ g) (j ⟶ k) (l ⟶ m)
        → MakesTimes log given net Q d (a ⟶ b) (f ⟶ g) (j ⟶ k) (l ⟶ m)
    times-as P Q a b f g j k l m same p = record {
      ends = record {
        makes = record {
          noted = p.ends.makes.noted;
          grew = p.ends.makes.grew;
          step = λ asks. same asks p.ends.makes.noted (p.ends.makes.step asks);
        };
        dones = p.ends.dones;
        ends = p.ends.ends;
        gave = p.ends.gave;
      };
      link = p.link;
    }

    pub times-visit : {d e : Asking} (t : Asking) (P : ℕ → Rel) (n m : ℕ) (a b c : Timed)
        (f g h : R) (i j k : K) (x y z : L) → m ≡ suc n → b.lists.me ≡ a.lists.me
        → t.sent ≡ d.sent + e.sent → t.failed ≡ (d.failed || e.failed)
        → MakesTimes log given net (Visits P n) d (a ⟶ b) (f ⟶ g) (i ⟶ j) (x ⟶ y)
        → MakesTimes log given net (P n) e (b ⟶ c) (g ⟶ h) (j ⟶ k) (y ⟶ z)
        → MakesTimes log given net (Visits P m) t (a ⟶ c) (f ⟶ h) (i ⟶ k) (x ⟶ z)
    unfolding ends-join makes-join
    times-visit {d = d} {e = e} t P n m a b c f g h i j k x y z is me went failed p q =
        rw is (record {
          ends = ends-join log given (Visits P n) (P n) (Visits P (suc n)) a b c f g h i j k
              me
              (λ asks v w s t. record {
                between = asking asks b;
                front = v;
                back = w;
                joined = refl;
                first = s;
                second = t;
              }) p.ends q.ends;
          link = link-both net d e t p.ends.makes.noted q.ends.makes.noted x y z went failed
              p.link q.link;
        })

    -- a session's own request, and then its calls
    pub session-times : {d : Asking} (timeout i : ℕ) (a b c : Timed) (f g h : R) (j k : K) (l m : L)
        → b.lists.me ≡ a.lists.me
        → MakesSpoken log net (Retries timeout i) d (a ⟶ b) (f ⟶ g) (l ⟶ m)
        → MakesEnds log given (WatchesSession timeout i) b c g h j k
        → MakesTimes log given net (TimesSession timeout i) d (a ⟶ c) (f ⟶ h) (j ⟶ k) (l ⟶ m)
    unfolding ends-join makes-join
    session-times {d = d} timeout i a b c f g h j k l m me p q =
        let x = p.makes.noted in
        let y = q.makes.noted in
        let front : MakesEnds log given (Retries timeout i) a b f g j j =
        record {
          makes = p.makes;
          dones = [];
          ends = still-none is_end_event x (retries-still is_end_event (λ p o k. refl) (λ p. refl)
              (λ i. refl) (λ i. refl) timeout i (asking no_asks a) x (asking no_asks b)
              (p.makes.step no_asks));
          gave = gave-none given j;
        } in
        record {
          ends = ends-join log given (Retries timeout i) (WatchesSession timeout i)
              (TimesSession timeout i) a b c f g h j j k me
              (λ asks v w s t. record {
                between = asking asks b;
                front = v;
                back = w;
                joined = refl;
                first = s;
                second = t;
              }) front q;
          link = link-both net d nothing d x y l m m (omega arith) (or-false d.failed)
              p.link (link-still net y m
              (calls-still is_sent (λ o k. refl) (λ c a b. refl) (λ j. refl) (λ c. refl) timeout i
              (asking no_asks b) y (asking no_asks c) (q.makes.step no_asks))
              (calls-still is_unsent (λ o k. refl) (λ c a b. refl) (λ j. refl) (λ c. refl) timeout i
              (asking no_asks b) y (asking no_asks c) (q.makes.step no_asks)));
        }

    -- those that aren't visited
    pub times-up : {d : Asking} (timeout n m : ℕ) (a b : Timed) (f g : R) (j k : K) (l o : L) → n ≤ m
        → NoneCalls n m b.lists.clients
        → MakesTimes log given net (Visits (TimesSession timeout) n) d (a ⟶ b) (f ⟶ g) (j ⟶ k)
        (l ⟶ o)
        → MakesTimes log given net (Visits (TimesSession timeout) m) d (a ⟶ b) (f ⟶ g) (j ⟶ k)
        (l ⟶ o)
    times-up timeout n m a b f g j k l o up quiet made =
        times-as (Visits (TimesSession timeout) n) (Visits (TimesSession timeout) m) a b f g j k l o
        (λ asks x visited. visits-up (TimesSession timeout) n m (asking asks a) (asking asks b) x up
        visited (λ i low high. session-quiet timeout i (asking asks b) (quiet i low high))) made

    -- all sessions
    pub all-timed : {d : Asking} (timeout count : ℕ) (a b : Timed) (f g : R) (j k : K) (l m : L)
        → timeout ≡ a.lists.timeout → count ≡ length a.lists.clients
        → MakesTimes log given net (Visits (TimesSession timeout) count) d (a ⟶ b) (f ⟶ g) (j ⟶ k)
        (l ⟶ m)
        → MakesTimes log given net TimesAll d (a ⟶ b) (f ⟶ g) (j ⟶ k) (l ⟶ m)
    all-timed timeout count a b f g j k l m is many p =
        times-as (Visits (TimesSession timeout) count) TimesAll a b f g j k l m
        (λ asks x v.
        subst (λ n. Visits (TimesSession n) (length a.lists.clients) (asking asks a) x
        (asking asks b))
        is
        (subst (λ m. Visits (TimesSession timeout) m (asking asks a) x (asking asks b)) many v)) p

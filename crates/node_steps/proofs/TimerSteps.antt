-- An active call that is looked at, by its row; and sessions, one after another.
use Rattle.std.proofs.Common.{◌≡◌, ℕ, ◌+◌, ◌<◌, ◌≤◌, Bool, true, false, not, ◌++◌, cond, ltb}
use Rattle.std.proofs.Common.{ltb-true}
use Rattle.std.proofs.Common.{Option, Some, None, List, [], ◌∷◌, length, refl, sym, ap, ◌∙◌}
use Rattle.std.proofs.Common.{arith}
use Rattle.std.specs.Prelude.{map, slice_get, IfSome}
use Rattle.std.specs.List.{filter, flat_map}
use Rattle.std.proofs.lemmas.Bool.{eqb-true}
use Rattle.std.proofs.lemmas.Option.{slice_get_past}
use Rattle.rpc_outside.specs.Recording.{Log}
use Rattle.rpc_base.specs.declared.event.Event.TheVariants.{Broken, Rolled}
use Rattle.rpc_base.specs.declared.owner.Owner.TheVariants.{Ask}
use Rattle.rpc_base.proofs.BasicLemmas.{if-map}
use Rattle.rpc_base.proofs.TakingLemmas.{find-passes}
use Rattle.client_core.specs.declared.active.Active.{Active}
use Rattle.client_core.specs.declared.outcome.Done.{Done}
use Rattle.rpc_laws.specs.declared.rows.TimerRow.{TimerRow}
use Rattle.rpc_laws.specs.declared.rows.TimerRow.TheVariants.{Waits, RollsBack, Breaks}
use Rattle.rpc_laws.specs.declared.tables.Client.{Client}
use Rattle.rpc_laws.specs.declared.tables.Progress.{Progress}
use Rattle.rpc_laws.specs.declared.tables.Timed.{Timed}
use Rattle.rpc_laws.specs.Calls.{is_call}
use Rattle.rpc_laws.specs.ControlSteps.{TimesSession}
use Rattle.rpc_laws.specs.Facts.{plain}
use Rattle.rpc_laws.specs.GoBackN.{Watches, break_facts, client_facts, row_facts}
use Rattle.rpc_laws.specs.GoBackN.{flushes_of, row_of}
use Rattle.rpc_laws.specs.Queues.{flush_facts}
use Rattle.rpc_laws.specs.Steps.{Rel}
use Rattle.node_laws.specs.Valid.{NumberedFrom, client_no}
use Rattle.node_laws.proofs.NumberLemmas.{numbered-at}
use Rattle.session_store.specs.Changes.{ActiveAt, RowAt, calls_in}
use Rattle.session_store.specs.Ends.{progress_of}
use Rattle.session_store.specs.Sides.{Shown}
use Rattle.node_steps.specs.Notes.{Makes, MakesEnds, is_end}
use Rattle.node_steps.specs.Timers.{HasFewRolls, Notes, breaking_off, lost, rolling_back}
use Rattle.node_steps.proofs.TimerBreaks.{flush-silent}
use Rattle.node_steps.proofs.NoteEnds.{ends-append, ends-as, ends-none, ends-silent}
use Rattle.node_steps.proofs.TimerRollbacks.{Found, found-of}

if-some : {A : Type 0} (P : A → Type 0) (o : Option A) (x : A) → o ≡ Some x → IfSome o P → P x
if-some P o x e h = rw e at h

-- a call that is rolled back was rolled back fewer than eight times
few-rolls : (rolls : ℕ) (late : Bool) (b : Bool) → ltb rolls 8 ≡ b
    → cond (not late) Waits (cond b RollsBack Breaks) ≡ RollsBack → rolls < 8
few-rolls rolls true true t e = ltb-true rolls 8 t
few-rolls rolls true false t e = cc
few-rolls rolls false b t e = cc

pub few-of-row : (now timeout i number : ℕ) (s : Shown) → RowAt now timeout i number RollsBack s
    → HasFewRolls i number s.clients
few-of-row now timeout i number s h =
    if-map
    (λ (x : Client). IfSome (progress_of number x)
    (λ p. row_of now timeout i s.queued p ≡ RollsBack))
    (λ (x : Client). IfSome (progress_of number x) (λ p. p.rolls < 8)) (slice_get s.clients i)
    (λ x. if-map (λ (p : Progress). row_of now timeout i s.queued p ≡ RollsBack)
    (λ (p : Progress). p.rolls < 8) (progress_of number x)
    (λ p e. few-rolls p.rolls _ (ltb p.rolls 8) refl e)) h

module _ (timeout i : ℕ) (a : Active) (s : Timed) (now : ℕ) (t : Shown)
    (clients : t.clients ≡ s.lists.clients)
    (queued : t.queued ≡ s.lists.queued) (clock : now ≡ s.clock)
    (active : ActiveAt i a s.lists.clients) (numbered : NumberedFrom client_no 0 s.lists.clients)
  where
    abbrev x : Client
    x = active.client

    way : x.way.number ≡ i
    way =
        let same : 0 + i ≡ i = omega arith in
        numbered-at client_no 0 i s.lists.clients x numbered active.place ∙ same

    found : Found a.call active.progress x.calls
    found = found-of a.call active.progress x.calls active.active

    row-facts : (row : TimerRow) → RowAt now timeout i a.call row t
        → client_facts s.clock timeout s.lists.me s.lists.queued a.call
        (slice_get s.lists.clients i)
        ≡ row_facts s.lists.me s.lists.queued x a.call active.progress row
    row-facts row at =
        let here : RowAt s.clock timeout i a.call row (record t {
          clients = s.lists.clients;
          queued = s.lists.queued;
        }) = rw (clients, queued, clock) at at in
        let told = if-some (λ (y : Client). IfSome (progress_of a.call y)
        (λ p. row_of s.clock timeout i s.lists.queued p ≡ row)) (slice_get s.lists.clients i) x
        active.place here in
        let is : row_of s.clock timeout i s.lists.queued active.progress ≡ row =
        if-some (λ (p : Progress). row_of s.clock timeout i s.lists.queued p ≡ row)
        (progress_of a.call x) active.progress active.active told in
        let own : row_of s.clock timeout x.way.number s.lists.queued active.progress ≡ row =
        ap (λ n. row_of s.clock timeout n s.lists.queued active.progress) way ∙ is in
        let number : found.call.what.number ≡ a.call =
        eqb-true found.call.what.number a.call
        (find-passes (is_call a.call) x.calls found.call found.found) in
        rw (active.place, found.found, found.active, number, own) refl

    module _ {R K : Type 0} (log : R → Log)
        (given : K → List Done → Type 0) where
      pub watch-waits : (f : R) (k : K) → RowAt now timeout i a.call Waits t
          → MakesEnds log given (Watches timeout i a.call) s s f f k k
      watch-waits f k at =
          ends-none log given (Watches timeout i a.call) s f k
          (λ asks. record { facts = sym (row-facts Waits at); goes = refl })

      rolled-silent : filter is_end (rolling_back i a s) ≡ []
      rolled-silent =
          ends-append (flush_facts s.lists.me s.lists.queued (Ask i a.request))
          (plain s.lists.me (Rolled a.call a.posted a.got) ∷ [])
          ∙ ap (λ fs. fs ++ []) (flush-silent s.lists.me s.lists.queued (Ask i a.request))

      pub watch-rolls : (u : Timed) (f g : R) (k : K) → RowAt now timeout i a.call RollsBack t
          → Makes log (Notes (rolling_back i a)) s u f g
          → MakesEnds log given (Watches timeout i a.call) s u f g k k
      watch-rolls u f g k at made =
          let same : rolling_back i a s
          ≡ row_facts s.lists.me s.lists.queued x a.call active.progress RollsBack =
          ap (λ (b : Active). flush_facts s.lists.me s.lists.queued (Ask i b.request)
          ++ plain s.lists.me (Rolled a.call b.posted b.got) ∷ []) active.told
          ∙ ap (λ n. flush_facts s.lists.me s.lists.queued (Ask n active.progress.request)
          ++ plain s.lists.me (Rolled a.call active.progress.posted active.progress.got) ∷ [])
          (sym way) in
          ends-as log given (Notes (rolling_back i a)) (Watches timeout i a.call) s u f g k
          k
          (λ asks y p. record {
            facts = p.facts ∙ same ∙ sym (row-facts RollsBack at);
            goes = p.goes;
          }) (ends-silent log given (rolling_back i a) s u f g k rolled-silent made)

      pub watch-breaks : (u : Timed) (f g : R) (k l : K) → RowAt now timeout i a.call Breaks t
          → MakesEnds log given (Notes (breaking_off i)) s u f g k l
          → MakesEnds log given (Watches timeout i a.call) s u f g k l
      watch-breaks u f g k l at made =
          let same : breaking_off i s ≡ break_facts s.lists.me s.lists.queued x =
          ap (λ (o : Option Client). flat_map (λ c. flushes_of s.lists.me i s.lists.queued
          c.progress)
          (calls_in o) ++ plain s.lists.me (Broken i) ∷ map (lost s.lists.me) (calls_in o))
          active.place
          ∙ ap (λ n. flat_map (λ c. flushes_of s.lists.me n s.lists.queued c.progress) x.calls
          ++ plain s.lists.me (Broken n) ∷ map (lost s.lists.me) x.calls) (sym way) in
          ends-as log given (Notes (breaking_off i)) (Watches timeout i a.call) s u f g k l
          (λ asks y p. record {
            facts = p.facts ∙ same ∙ sym (row-facts Breaks at);
            goes = p.goes;
          }) made

-- a session that isn't there
pub session-none : (timeout i : ℕ) (s : Timed) → length s.lists.clients ≤ i
    → TimesSession timeout i s [] s
session-none timeout i s past =
    let none : slice_get s.lists.clients i ≡ None = slice_get_past s.lists.clients i past in
    record {
      between = s;
      front = [];
      back = [];
      joined = refl;
      first = record { facts = rw none refl; goes = refl };
      second = rw none (refl, refl);
    }

module _ {R K : Type 0} (log : R → Log)
    (given : K → List Done → Type 0) where
  -- a step after which nothing changed
  pub ends-same : (P : Rel) (a b c : Timed) (f g h : R) (j k l : K) → c ≡ b → h ≡ g → l ≡ k
      → MakesEnds log given P a b f g j k → MakesEnds log given P a c f h j l
  ends-same P a b c f g h j k l node recorder kept p = rw (node, recorder, kept) p

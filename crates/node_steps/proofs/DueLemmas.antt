-- What is due at a moment is due at each later one, and the calls of a session are looked at one
-- after another.
use Rattle.std.proofs.Common.{◌≡◌, ℕ, zero, suc, ◌+◌, ◌<◌, ◌≤◌, Bool, true, false, ◌&&◌, ◌||◌, not}
use Rattle.std.proofs.Common.{cond, ltb, leb, Option, Some, None, List, [], ◌∷◌, length, refl, sym}
use Rattle.std.proofs.Common.{ap, ap₂, subst, ◌∙◌, arith}
use Rattle.std.specs.Prelude.{◌-◌, ◌==◌, IfSome, is_some, option_and_then, slice_get}
use Rattle.std.specs.List.{AllByRecursion, find}
use Rattle.std.proofs.lemmas.Bool.{false≢true}
use Rattle.std.proofs.lemmas.Bool.Decides.{nat_tests}
use Rattle.rpc_base.proofs.BasicLemmas.{or-false}
use Rattle.rpc_base.proofs.FirstLemmas.{found-holds}
use Rattle.rpc_base.specs.declared.state.SessionState.{SessionState}
use Rattle.rpc_base.specs.declared.state.SessionState.TheVariants.{Closing, Connecting}
use Rattle.rpc_laws.specs.Calls.{is_call}
use Rattle.rpc_laws.specs.ControlSteps.{own_request, request_by, retry_row}
use Rattle.rpc_laws.specs.GoBackN.{row_of}
use Rattle.rpc_laws.specs.Pacing.{line}
use Rattle.rpc_laws.specs.Queues.{is_due}
use Rattle.packet_header.specs.declared.packet.ControlHeader.{ControlHeader}
use Rattle.client_core.specs.declared.active.Active.{Active}
use Rattle.rpc_laws.specs.declared.rows.RetryRow.{RetryRow}
use Rattle.rpc_laws.specs.declared.rows.RetryRow.TheVariants.{Asks, GivesUp, Rests}
use Rattle.rpc_laws.specs.declared.rows.TimerRow.{TimerRow}
use Rattle.rpc_laws.specs.declared.rows.TimerRow.TheVariants.{Breaks, RollsBack, Waits}
use Rattle.rpc_laws.specs.declared.tables.Call.{Call}
use Rattle.rpc_laws.specs.declared.tables.Client.{Client}
use Rattle.rpc_laws.specs.declared.tables.Lists.{Lists}
use Rattle.rpc_laws.specs.declared.tables.Progress.{Progress}
use Rattle.rpc_laws.specs.declared.tables.Queued.{Queued}
use Rattle.rpc_laws.specs.declared.tables.Way.{Way}
use Rattle.session_store.specs.Changes.{calls_in}
use Rattle.session_store.specs.Ends.{Ascends, is_above, progress_of}
use Rattle.session_store.specs.OwnRequests.{CountsRequests}
use Rattle.session_store.specs.declared.store.control.OwnRequests.{OwnRequests}
use Rattle.session_store.specs.Sides.{are_calls, has_calls}
use Rattle.node_steps.specs.Callers.{NoneCalls, has_request, is_visited}
use Rattle.node_steps.specs.Due.{CallRests, CallsRest, DueUnless, RequestRests, RestsAt}
use Rattle.node_steps.specs.Due.{SessionRests}
use Rattle.node_steps.proofs.TimerNext.{Told, is_next, own-found}
use Rattle.node_steps.proofs.StatusSteps.{there}

-- whoever rests at a moment rests at each earlier one
module _ (u t : ℕ) (low : u ≤ t) where
  not-late : (timeout from : ℕ) → leb timeout (t - from) ≡ false → leb timeout (u - from) ≡ false
  not-late timeout from e = grind (arith, nat_tests)

  row-open : (zero late few : Bool)
      → cond (not (zero || late)) Rests (cond few Asks GivesUp) ≡ Rests
      → (zero ≡ false) × (late ≡ false)
  row-open true late true e = cc
  row-open true late false e = cc
  row-open false true true e = cc
  row-open false true false e = cc
  row-open false false few e = (refl, refl)

  request-before : (timeout : ℕ) (x : Client) → RequestRests t timeout x
      → RequestRests u timeout x
  request-before timeout x rests own =
      let both = row-open (x.sends == 0) (leb timeout (t - x.sent_at)) (ltb x.sends 9) (rests own) in
      rw (both.0, not-late timeout x.sent_at both.1) refl

  waits-by : (a b late early few : Bool) → (late ≡ false → early ≡ false)
      → cond (not (a && b && late)) Waits (cond few RollsBack Breaks) ≡ Waits
      → cond (not (a && b && early)) Waits (cond few RollsBack Breaks) ≡ Waits
  waits-by true true true early true h e = cc
  waits-by true true true early false h e = cc
  waits-by true true false early few h e = rw (h refl) refl
  waits-by true false late early few h e = refl
  waits-by false b late early few h e = refl

  progress-before : (timeout i : ℕ) (queued : List Queued) (o : Option Progress)
      → IfSome o (λ p. row_of t timeout i queued p ≡ Waits)
      → IfSome o (λ p. row_of u timeout i queued p ≡ Waits)
  progress-before timeout i queued None h = tt
  progress-before timeout i queued (Some p) h =
      waits-by (ltb p.got p.posted) _ (leb timeout (t - p.mark)) (leb timeout (u - p.mark))
      (ltb p.rolls 8) (not-late timeout p.mark) h

  calls-before : (timeout i : ℕ) (queued : List Queued) (cs : List Call)
      → AllByRecursion (CallRests t timeout i queued) cs
      → AllByRecursion (CallRests u timeout i queued) cs
  calls-before timeout i queued [] h = tt
  calls-before timeout i queued (c ∷ cs) h =
      (progress-before timeout i queued c.progress h.0, calls-before timeout i queued cs h.1)

  session-before : (timeout i : ℕ) (queued : List Queued) (o : Option Client)
      → IfSome o (SessionRests t timeout i queued) → IfSome o (SessionRests u timeout i queued)
  session-before timeout i queued None h = tt
  session-before timeout i queued (Some x) h = record {
    request = request-before timeout x h.request;
    calls = calls-before timeout i queued x.calls h.calls;
  }

  due-before : (o : Option ℕ) → is_due t o ≡ false → is_due u o ≡ false
  due-before None e = cc
  due-before (Some d) e = grind (arith, nat_tests)

  line-by : (q : Queued) (qs : List Queued) (late early : Bool) → (late ≡ false → early ≡ false)
      → (line t qs ≡ [] → line u qs ≡ []) → cond late (q ∷ line t qs) (line t qs) ≡ []
      → cond early (q ∷ line u qs) (line u qs) ≡ []
  line-by q qs true early h ih e = cc
  line-by q qs false early h ih e = rw (h refl) (ih e)

  line-before : (qs : List Queued) → line t qs ≡ [] → line u qs ≡ []
  line-before [] e = refl
  line-before (q ∷ qs) e =
      line-by q qs (is_due t q.due) (is_due u q.due) (due-before q.due) (line-before qs) e

  pub rests-before : (s : Lists) → RestsAt t s → RestsAt u s
  rests-before s rests = record {
    sessions = λ i. session-before s.timeout i s.queued (slice_get s.clients i) (rests.sessions i);
    queue = line-before s.queued rests.queue;
  }

-- what is told of the next active call of a session is of that call
call-of : (after : Option ℕ) (cs : List Call) (a : Active) (t : Told after cs a)
    → a.call ≡ t.call.what.number
call-of after cs a t = ap (λ (b : Active). b.call) t.told

told-progress : (after : Option ℕ) (x : Client) (a : Active) → Ascends x.calls
    → (t : Told after x.calls a) → progress_of a.call x ≡ Some t.progress
told-progress after x a order t =
    ap (λ (o : Option Call). option_and_then (λ c. c.progress) o)
    (ap (λ n. find (is_call n) x.calls) (call-of after x.calls a t)
    ∙ own-found after x.calls t.call order t.found)
    ∙ t.is_active

module _ (after : Option ℕ) (row : Progress → TimerRow) (a : Active) where
  abbrev Waiting : Call → Type 0
  Waiting c = IfSome c.progress (λ p. row p ≡ Waits)

  pub next-rests : (o : Option Client) → Ascends (calls_in o) → (t : Told after (calls_in o) a)
      → IfSome o (λ x. IfSome (progress_of a.call x) (λ p. row p ≡ Waits))
      → IfSome t.call.progress (λ p. row p ≡ Waits)
  next-rests None order t h = let no = t.found in cc
  next-rests (Some x) order t h =
      let own : row t.progress ≡ Waits = rw (told-progress after x a order t) at h in
      rw t.is_active own

  pub next-late : (o : Option Client) → Ascends (calls_in o) → Told after (calls_in o) a
      → IfSome o (λ x. IfSome (progress_of a.call x) (λ p. row p ≡ Waits → ⊥))
      → IfSome o (λ x. AllByRecursion Waiting x.calls → ⊥)
  next-late None order t h = tt
  next-late (Some x) order t h = λ all.
      (let late : row t.progress ≡ Waits → ⊥ = rw (told-progress after x a order t) at h in
      let own : Waiting t.call = found-holds (is_next after) Waiting x.calls t.call all t.found in
      late (rw t.is_active at own))

pub in-calls : (P : List Call → Type 0) (o : Option Client) → P (calls_in o)
    → IfSome o (λ x. P x.calls)
in-calls P None h = tt
in-calls P (Some x) h = h

-- each call that isn't above a number passes a test
abbrev pub KnownUpTo : (Call → Type 0) → Option ℕ → List Call → Type 0
KnownUpTo Q after cs = AllByRecursion (λ c. is_above after c ≡ false → Q c) cs

pub known-none : (Q : Call → Type 0) (cs : List Call) → KnownUpTo Q None cs
known-none Q [] = tt
known-none Q (c ∷ cs) = (λ e. absurd (false≢true (sym e)), known-none Q cs)

-- where each call passes it that isn't active, those up to the next active one do if that does
module _ (Q : Call → Type 0) (idle : (c : Call) → is_some c.progress ≡ false → Q c) where
  is-later : (n m : ℕ) → n < m → ltb n m ≡ false → false ≡ true
  is-later n m low e = grind (arith, nat_tests)

  all-later : (n : ℕ) (cs : List Call) → AllByRecursion (λ d. n < d.what.number) cs
      → KnownUpTo Q (Some n) cs
  all-later n [] h = tt
  all-later n (c ∷ cs) h =
      (λ e. absurd (false≢true (is-later n c.what.number h.0 e)), all-later n cs h.1)

  passed-by : (c : Call) (active above : Bool) → is_some c.progress ≡ active
      → (active && above) ≡ false → (above ≡ false → Q c) → Q c
  passed-by c true true is e h = cc
  passed-by c true false is e h = h refl
  passed-by c false above is e h = idle c is

  known-by : (after : Option ℕ) (c d : Call) (cs : List Call) (next : Bool) → is_next after c ≡ next
      → Ascends (c ∷ cs) → KnownUpTo Q after (c ∷ cs)
      → (find (is_next after) cs ≡ Some d → KnownUpTo Q (Some d.what.number) cs)
      → Q d → cond next (Some c) (find (is_next after) cs) ≡ Some d
      → KnownUpTo Q (Some d.what.number) (c ∷ cs)
  known-by after c d cs true is order known ih own e =
      let same : c ≡ d = cc in
      subst (λ (x : Call). KnownUpTo Q (Some x.what.number) (c ∷ cs)) same
      (λ _. subst Q (sym same) own, all-later c.what.number cs order.0)
  known-by after c d cs false is order known ih own e =
      (λ _. passed-by c (is_some c.progress) (is_above after c) refl is known.0, ih e)

  known-more : (after : Option ℕ) (cs : List Call) (d : Call) → Ascends cs
      → KnownUpTo Q after cs → find (is_next after) cs ≡ Some d → Q d
      → KnownUpTo Q (Some d.what.number) cs
  known-more after [] d order known e own = tt
  known-more after (c ∷ cs) d order known e own =
      known-by after c d cs (is_next after c) refl order known
      (λ f. known-more after cs d order.1 known.1 f own) own e

  pub known-told : (after : Option ℕ) (cs : List Call) (a : Active) → Ascends cs
      → KnownUpTo Q after cs → (t : Told after cs a) → Q t.call → KnownUpTo Q (Some a.call) cs
  known-told after cs a order known t own =
      rw (call-of after cs a t) (known-more after cs t.call order known t.found own)

  over-by : (after : Option ℕ) (c : Call) (cs : List Call) (next : Bool) → is_next after c ≡ next
      → KnownUpTo Q after (c ∷ cs) → (find (is_next after) cs ≡ None → AllByRecursion Q cs)
      → cond next (Some c) (find (is_next after) cs) ≡ None → AllByRecursion Q (c ∷ cs)
  over-by after c cs true is known ih e = cc
  over-by after c cs false is known ih e =
      (passed-by c (is_some c.progress) (is_above after c) refl is known.0, ih e)

  pub known-all : (after : Option ℕ) (cs : List Call) → KnownUpTo Q after cs
      → find (is_next after) cs ≡ None → AllByRecursion Q cs
  known-all after [] known e = tt
  known-all after (c ∷ cs) known e =
      over-by after c cs (is_next after c) refl known (known-all after cs known.1) e

-- a call that isn't active rests
pub idle-rests : (t timeout i : ℕ) (queued : List Queued) (c : Call) → is_some c.progress ≡ false
    → CallRests t timeout i queued c
idle-rests t timeout i queued c e = by c.progress refl
  where
    by : (o : Option Progress) → c.progress ≡ o → IfSome o (λ p. row_of t timeout i queued p ≡ Waits)
    by None is = tt
    by (Some p) is = let no : true ≡ false = ap is_some (sym is) ∙ e in cc

-- a session that a poll doesn't visit rests
silent : (own : ℕ) (state : SessionState) (way : Way) (credits : ℕ)
    → None ≡ request_by own state way credits → has_request state ≡ false
silent own Connecting way credits e = cc
silent own Closing way credits e = cc
silent own _ way credits e = refl

asking : (own : ℕ) (head : ControlHeader) (state : SessionState) (way : Way) (credits : ℕ)
    → Some head ≡ request_by own state way credits → has_request state ≡ true
asking own head Connecting way credits e = refl
asking own head Closing way credits e = refl
asking own head _ way credits e = cc

no-calls : (t timeout i : ℕ) (queued : List Queued) (cs : List Call) → are_calls cs ≡ false
    → AllByRecursion (CallRests t timeout i queued) cs
no-calls t timeout i queued [] e = tt
no-calls t timeout i queued (c ∷ cs) e = absurd (false≢true (sym e))

pub unvisited : (t timeout i : ℕ) (queued : List Queued) (o : Option Client)
    → IfSome o (λ x. is_visited x ≡ false) → IfSome o (SessionRests t timeout i queued)
unvisited t timeout i queued None h = tt
unvisited t timeout i queued (Some x) h =
    let none = or-false (has_calls x) (has_request x.state) h in
    record {
      request = λ asks. absurd (false≢true (sym none.1 ∙ asks));
      calls = no-calls t timeout i queued x.calls none.0;
    }

-- the own request of a session
module _ (t timeout : ℕ) where
  pub request-none : (own : ℕ) (o : Option Client) → IfSome o (λ x. None ≡ own_request own x)
      → IfSome o (RequestRests t timeout)
  request-none own None h = tt
  request-none own (Some x) h = λ asks.
      absurd (false≢true (sym (silent own x.state x.way x.limit h) ∙ asks))

  module _ (q : OwnRequests) where
    pub request-rests : (o : Option Client) → IfSome o (CountsRequests q)
        → Rests ≡ retry_row t timeout q.sends q.sent_at → IfSome o (RequestRests t timeout)
    request-rests None h is = tt
    request-rests (Some x) h is = λ _.
        ap₂ (λ a b. retry_row t timeout a b) (sym h.sends) (sym h.sent_at) ∙ sym is

    pub request-due : (own : ℕ) (row : RetryRow) (head : ControlHeader) (o : Option Client)
        → (row ≡ Rests → ⊥) → IfSome o (λ x. Some head ≡ own_request own x)
        → IfSome o (CountsRequests q) → row ≡ retry_row t timeout q.sends q.sent_at
        → IfSome o (λ x. RequestRests t timeout x → ⊥)
    request-due own row head None other asks h is = tt
    request-due own row head (Some x) other asks h is = λ rests.
        other (is ∙ ap₂ (λ a b. retry_row t timeout a b) h.sends h.sent_at
        ∙ rests (asking own head x.state x.way x.limit asks))

pub asks-not : Asks ≡ Rests → ⊥
asks-not e = cc

pub gives-up-not : GivesUp ≡ Rests → ⊥
gives-up-not e = cc

pub rolls-not : RollsBack ≡ Waits → ⊥
rolls-not e = cc

pub breaks-not : Breaks ≡ Waits → ⊥
breaks-not e = cc

-- an active call whose row is another one
pub row-late : (now : TimerRow) → (now ≡ Waits → ⊥) → (n : ℕ) (row : Progress → TimerRow)
    (o : Option Client) → IfSome o (λ x. IfSome (progress_of n x) (λ p. row p ≡ now))
    → IfSome o (λ x. IfSome (progress_of n x) (λ p. row p ≡ Waits → ⊥))
row-late now other n row None h = tt
row-late now other n row (Some x) h = by (progress_of n x) h
  where
    by : (o : Option Progress) → IfSome o (λ p. row p ≡ now)
        → IfSome o (λ p. row p ≡ Waits → ⊥)
    by None g = tt
    by (Some p) g = λ e. other (sym g ∙ e)

-- a session, by its request and its calls
module _ (t timeout i : ℕ) (queued : List Queued) where
  pub session-asks : (o : Option Client) → IfSome o (λ x. RequestRests t timeout x → ⊥)
      → IfSome o (λ x. SessionRests t timeout i queued x → ⊥)
  session-asks None h = tt
  session-asks (Some x) h = λ rests. h rests.request

  pub session-by : (due : Bool) (o : Option Client) → IfSome o (RequestRests t timeout)
      → IfSome o (λ x. DueUnless (CallsRest t timeout i queued x) due)
      → IfSome o (λ x. DueUnless (SessionRests t timeout i queued x) due)
  session-by due None h g = tt
  session-by true (Some x) h g = λ rests. g rests.calls
  session-by false (Some x) h g = record { request = h; calls = g }

there-below : (xs : List Client) (i : ℕ) (x : Client) → slice_get xs i ≡ Some x → i < length xs
there-below [] i x e = cc
there-below (y ∷ ys) zero x e = omega arith
there-below (y ∷ ys) (suc i) x e = let low = there-below ys i x e in omega (arith, low)

-- sessions, one after another
module _ (S : ℕ → Client → Type 0) (xs : List Client) where
  abbrev pub RestUpTo : ℕ → Type 0
  RestUpTo n = (i : ℕ) → i < n → IfSome (slice_get xs i) (S i)

  below-by : (j i : ℕ) → ltb j i ≡ true → j < i
  below-by j i e = grind (arith, nat_tests)

  above-by : (j i : ℕ) → ltb j i ≡ false → i ≤ j
  above-by j i e = grind (arith, nat_tests)

  pub rest-more : (from i : ℕ)
      → ((j : ℕ) → IfSome (slice_get xs j) (λ x. is_visited x ≡ false)
      → IfSome (slice_get xs j) (S j))
      → RestUpTo from → NoneCalls from i xs → RestUpTo i
  rest-more from i idle known none j low = by (ltb j from) refl
    where
      by : (b : Bool) → ltb j from ≡ b → IfSome (slice_get xs j) (S j)
      by true e = known j (below-by j from e)
      by false e = idle j (none j (above-by j from e) low)

  pub rest-next : (i : ℕ) → RestUpTo i → IfSome (slice_get xs i) (S i) → RestUpTo (i + 1)
  rest-next i known here j low = by (ltb j i) refl
    where
      by : (b : Bool) → ltb j i ≡ b → IfSome (slice_get xs j) (S j)
      by true e = known j (below-by j i e)
      by false e =
          let up = above-by j i e in
          let same : i ≡ j = omega (arith, up, low) in
          subst (λ k. IfSome (slice_get xs k) (S k)) same here

  pub rest-all : RestUpTo (length xs) → (i : ℕ) → IfSome (slice_get xs i) (S i)
  rest-all known i = by (slice_get xs i) refl
    where
      by : (o : Option Client) → slice_get xs i ≡ o → IfSome o (S i)
      by None e = tt
      by (Some x) e = let here = known i (there-below xs i x e) in rw e at here

  pub some-late : (i : ℕ) → i < length xs → IfSome (slice_get xs i) (λ x. S i x → ⊥)
      → IfSome (slice_get xs i) (S i) → ⊥
  some-late i low late rests =
      let here = there xs i low in
      let no : S i here.0 → ⊥ = rw here.1 at late in
      let own : S i here.0 = rw here.1 at rests in
      no own

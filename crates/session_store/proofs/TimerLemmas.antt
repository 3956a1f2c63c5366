-- What a look at a call's clock, a rollback and a loss are at a client end.
use Rattle.std.proofs.Common.{◌≡◌, ℕ, ◌<◌, Bool, true, false, cond, ltb, Option, Some, None, List}
use Rattle.std.proofs.Common.{[], ◌∷◌, ◌++◌, refl, subst, sym, ap, ◌∙◌, ltb-true}
use Rattle.std.specs.Prelude.{IfSome, IsSome, map, option_map, slice_get}
use Rattle.std.specs.List.{AllByRecursion, find, list_any}
use Rattle.std.specs.Option.{option_or}
use Rattle.std.proofs.lemmas.Bool.{eq-eqb, eqb-true}
use Rattle.std.proofs.lemmas.List.Folds.{find-append}
use Rattle.buffer_pool.specs.Pool.{Pool}
use Rattle.rpc_laws.specs.declared.rows.TimerRow.TheVariants.{Waits, RollsBack, Breaks}
use Rattle.rpc_laws.specs.declared.tables.Call.{Call}
use Rattle.rpc_laws.specs.declared.tables.Client.{Client}
use Rattle.rpc_laws.specs.Calls.{is_call, moved, rolled_back}
use Rattle.rpc_laws.specs.Sessions.{breaks, ends, has_call, rolls}
use Rattle.session_slots.specs.declared.waiting.Waiting.{Waiting}
use Rattle.client_core.proofs.RollLemmas.{keeps-rolled}
use Rattle.client_core.specs.declared.call.ActiveCall.{ActiveCall}
use Rattle.client_core.specs.declared.outcome.Done.{Done}
use Rattle.client_core.specs.declared.outcome.Outcome.TheVariants.{PeerLost}
use Rattle.client_core.specs.declared.outcome.Timer.TheVariants.{Roll}
use Rattle.client_core.specs.KeepsPool.{KeepsPool}
use Rattle.client_core.specs.Losing.{Loses, next_lost}
use Rattle.client_core.specs.Replies.{is_request}
use Rattle.client_core.specs.Session.{Session}
use Rattle.client_core.specs.Shown.{IsAlone, done_event, rolled_event, shown, shown_active}
use Rattle.client_core.specs.Shown.{shown_broken, shown_waiting, stepped}
use Rattle.client_core.specs.Timeouts.{after_roll, call_numbered, is_numbered, timer_told}
use Rattle.client_core.specs.Watching.{call_number, is_after}
use Rattle.client_core.proofs.EndedLemmas.{any-found}
use Rattle.client_core.proofs.OneCallLemmas.{least-none-of}
use Rattle.client_core.proofs.ShownLemmas.{found-shown}
use Rattle.session_ends.specs.declared.stage.Stage.{Stage}
use Rattle.session_ends.specs.declared.stage.Stage.TheVariants.{Connected, Broken}
use Rattle.session_store.specs.Ends.{Ascends, progress_of, shown_end}
use Rattle.session_store.proofs.AscendsLemmas.{ascends-changed, ascends-without, few-numbered}
use Rattle.session_store.proofs.AscendsLemmas.{least-first}
use Rattle.session_store.proofs.EndLemmas.{active-ascends, calls-end}
use Rattle.rpc_base.proofs.TakingLemmas.{find-passes}

-- what is told of a clock tells its row
few-cases : (r p g : ℕ) (c : ActiveCall) (x b : Bool) → ltb c.rolls 8 ≡ b
    → Roll r p g ≡ timer_told (cond x Waits (cond b RollsBack Breaks)) c → c.rolls < 8
few-cases r p g c true b t e = cc
few-cases r p g c false true t e = ltb-true c.rolls 8 t
few-cases r p g c false false t e = cc

-- what is told of a call's queued packets is told of the call with the number
idle-cases : (r p g : ℕ) (c : ActiveCall) (x b : Bool)
    → Roll r p g ≡ timer_told (cond x Waits (cond b RollsBack Breaks)) c → c.request ≡ r
idle-cases r p g c true b e = cc
idle-cases r p g c false true e = cc
idle-cases r p g c false false e = cc

-- the call with a number as it is shown
pub numbered-same : (pool : Pool) (n : ℕ) (xs : List ActiveCall)
    → AllByRecursion (λ x. is_call n (shown_active pool x) ≡ is_numbered n x) xs
numbered-same pool n [] = tt
numbered-same pool n (x ∷ xs) = (refl, numbered-same pool n xs)

numbered-shown : (pool : Pool) (peer n : ℕ) (s : Session) (c : ActiveCall)
    → call_numbered n s ≡ Some c → find (is_call n)
    (shown pool peer s).calls ≡ Some (shown_active pool c)
numbered-shown pool peer n s c e =
    let active : find (is_call n) (map (shown_active pool) s.active) ≡ Some (shown_active pool c) =
    found-shown (shown_active pool) (is_call n)
    (is_numbered n) s.active (numbered-same pool n s.active)
    ∙ ap (option_map (shown_active pool)) e in
    find-append (is_call n) (map (shown_active pool) s.active) (map shown_waiting s.slots.waiting)
    ∙ ap (λ o. option_or o (find (is_call n) (map shown_waiting s.slots.waiting))) active

pub progress-found : (stage : Stage) (pool : Pool) (peer n : ℕ) (s : Session) (c : ActiveCall)
    → call_numbered n s ≡ Some c
    → progress_of n (shown_end stage pool peer s) ≡ (shown_active pool c).progress
progress-found stage pool peer n s c e = rw (calls-end stage pool peer s, numbered-shown pool peer n s c e) refl

-- a rollback
pub record RollsEnd (n : ℕ) (stage : Stage) (pool : Pool) (peer : ℕ) (s new : Session) : Type 0 where
  pub view : IfSome (progress_of n (shown_end stage pool peer s))
      (λ p. shown_end stage pool peer new ≡ rolls n p.posted p.got (shown_end stage pool peer s))
  pub calls : Ascends (shown_end stage pool peer new).calls
  pub keeps : KeepsPool pool new.active

chosen : (x y z : Client) (b : Bool) → b ≡ true → cond b (z ∷ []) (x ∷ []) ≡ y ∷ [] → y ≡ z
chosen x y z true t e = cc
chosen x y z false t e = cc

roll-cases : (n : ℕ) (stage : Stage) (pool : Pool) (peer : ℕ) (s new : Session) → stage ≡ Connected
    → Ascends (shown pool peer s).calls → KeepsPool pool s.active → (o : Option ActiveCall)
    → call_numbered n s ≡ o → IsSome o → IfSome o (λ c. new ≡ after_roll c s)
    → IfSome o (λ c. (pool : Pool) → (clock peer : ℕ)
    → stepped clock (rolled_event c) (shown pool peer s) ≡ shown pool peer new ∷ [])
    → RollsEnd n stage pool peer s new
roll-cases n stage pool peer s new connected up keeps None e some session step = cc
roll-cases n stage pool peer s new connected up keeps (Some c) e some session step =
    let own : c.call ≡ n = eqb-true c.call n (find-passes (is_numbered n) s.active c e) in
    let there : has_call n (shown pool peer s) ≡ true =
    any-found (is_call n) (shown_active pool c)
    (shown pool peer s).calls (numbered-shown pool peer n s c e) in
    let is : shown pool peer new ≡ rolls n c.posted c.got (shown pool peer s) =
    chosen (shown pool peer s) (shown pool peer new)
    (rolls n c.posted c.got (shown pool peer s))
    (has_call n (shown pool peer s)) there (rw own at (step pool 0 peer)) in
    let calls : Ascends (rolls n c.posted c.got (shown pool peer s)).calls =
    ascends-changed (is_call n) (moved (rolled_back c.got)) (λ d. refl)
    (shown pool peer s).calls up in
    record {
      view = rw (progress-found stage pool peer n s c e, connected) is;
      calls = rw connected (subst (λ (x : Client). Ascends x.calls) (sym is) calls);
      keeps = rw session (keeps-rolled pool (is_request c.request) s.active keeps);
    }

pub roll-end : (n : ℕ) (stage : Stage) (pool : Pool) (peer : ℕ) (s new : Session) → stage ≡ Connected
    → Ascends (shown_end stage pool peer s).calls → KeepsPool pool s.active → IsSome (call_numbered n s)
    → IfSome (call_numbered n s) (λ c. new ≡ after_roll c s) → IfSome (call_numbered n s)
    (λ c. (pool : Pool) → (clock peer : ℕ)
    → stepped clock (rolled_event c) (shown pool peer s) ≡ shown pool peer new ∷ [])
    → RollsEnd n stage pool peer s new
roll-end n stage pool peer s new connected up keeps some session step =
    roll-cases n stage pool peer s new connected (rw (calls-end stage pool peer s) at up) keeps
    (call_numbered n s) refl some session step

-- the peer is lost
pub breaks-end : (stage : Stage) (pool : Pool) (peer : ℕ) (s : Session) → stage ≡ Connected
    → shown_end Broken pool peer s ≡ breaks (shown_end stage pool peer s)
breaks-end stage pool peer s connected = rw connected refl

-- the call that ends is the first
first-active : (pool : Pool) (xs : List ActiveCall) (ys : List Call) (c : ActiveCall)
    → find (is_after None) xs ≡ Some c
    → slice_get (map (shown_active pool) xs ++ ys) 0 ≡ Some (shown_active pool c)
first-active pool [] ys c e = cc
first-active pool (x ∷ xs) ys c e = let same : x ≡ c = cc in rw same refl

first-waiting : (ws : List Waiting) (w : Waiting) → slice_get ws 0 ≡ Some w
    → slice_get (map shown_waiting ws) 0 ≡ Some (shown_waiting w)
first-waiting [] w e = cc
first-waiting (v ∷ vs) w e = let same : v ≡ w = cc in rw same refl

abbrev first_number : List Call → Option ℕ
first_number cs = option_map (λ c. c.what.number) (slice_get cs 0)

lost-first : (pool after : Pool) (peer : ℕ) (d : Done) (s new : Session)
    → Ascends (map (shown_active pool) s.active) → (o : Option ActiveCall) → next_lost s ≡ o
    → Loses o d s new pool after
    → (Some d.call ≡ first_number (shown pool peer s).calls) × (d.outcome ≡ PeerLost)
lost-first pool after peer d s new up (Some c) e lost =
    let found = sym (least-first pool (is_after None) s.active up) ∙ e in (
      rw (first-active pool s.active (map shown_waiting s.slots.waiting) c found, lost.done.call)
          refl,
      lost.done.ended_as,
    )
lost-first pool after peer d s new up None e lost =
    let none = least-none-of call_number s.active e in (
      rw (none, first-waiting s.slots.waiting lost.0.waiting lost.0.oldest, lost.0.done.call) refl,
      lost.0.done.ended_as,
    )

first-any : (n : ℕ) (cs : List Call) → Some n ≡ first_number cs → list_any (is_call n) cs ≡ true
first-any n [] e = cc
first-any n (c ∷ cs) e =
    let same : c.what.number ≡ n = cc in
    rw (eq-eqb c.what.number n same) refl

pub record Ends (n : ℕ) (stage : Stage) (pool after : Pool) (peer : ℕ) (s new : Session) : Type 0 where
  pub next : Some n ≡ first_number (shown_end stage pool peer s).calls
  pub view : shown_end stage after peer new ≡ ends n (shown_end stage pool peer s)
  pub calls : Ascends (shown_end stage after peer new).calls

pub lose-end : (stage : Stage) (pool after : Pool) (peer : ℕ) (d : Done) (s new : Session) → stage ≡ Broken
    → Ascends (shown_end stage pool peer s).calls → Loses (next_lost s) d s new pool after
    → (IsAlone d.call s → (clock peer : ℕ)
    → stepped clock (done_event d) (shown_broken pool peer s) ≡ shown_broken after peer new ∷ [])
    → Ends d.call stage pool after peer s new
lose-end stage pool after peer d s new broken up lost step =
    let active = active-ascends stage pool peer s up in
    let (next, outcome) = lost-first pool after peer d s new active (next_lost s) refl lost in
    let there = first-any d.call (shown pool peer s).calls next in
    let is : shown_broken after peer new ≡ ends d.call (shown_broken pool peer s) =
    chosen (shown_broken pool peer s) (shown_broken after peer new)
    (ends d.call (shown_broken pool peer s))
    (has_call d.call (shown_broken pool peer s)) there
    (rw outcome at (step (few-numbered pool s.active active d.call) 0 peer)) in
    let calls : Ascends (ends d.call (shown_broken pool peer s)).calls =
    ascends-without (is_call d.call) (shown pool peer s).calls (rw broken at up) in
    rw broken (record { next = next; view = is; calls = subst (λ (x : Client). Ascends x.calls) (sym is) calls })

-- none is left
pub none-left : (stage : Stage) (pool : Pool) (peer : ℕ) (s : Session)
    → (s.active ≡ []) × (s.slots.waiting ≡ []) → None ≡ first_number (shown_end stage pool peer s).calls
none-left stage pool peer s empty = rw (calls-end stage pool peer s, empty.0, empty.1) refl

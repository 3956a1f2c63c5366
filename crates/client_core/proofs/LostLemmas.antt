-- A rollback and a loss are the steps Rolled and Done of what is shown.
use Rattle.std.proofs.Common.{◌≡◌, ℕ, ◌%◌, ◌<◌, Bool, true, false, cond, Option, Some, None, List}
use Rattle.std.proofs.Common.{[], ◌∷◌, ◌++◌, length, drop, refl, ◌∙◌, arith}
use Rattle.std.specs.Prelude.{◌||◌, map, slice_get}
use Rattle.std.specs.List.{find, list_any}
use Rattle.std.proofs.lemmas.Bool.{eq-eqb}
use Rattle.rpc_base.specs.declared.event.Event.TheVariants.{DonePeerLost}
use Rattle.buffer_pool.specs.Pool.{Pool}
use Rattle.rpc_laws.specs.Calls.{is_call, moved, rolled_back}
use Rattle.rpc_laws.specs.Sessions.{has_call}
use Rattle.session_slots.specs.declared.waiting.Waiting.{Waiting}
use Rattle.session_slots.specs.Slots.{drained}
use Rattle.client_core.specs.declared.call.ActiveCall.{ActiveCall}
use Rattle.client_core.specs.declared.outcome.Done.{Done}
use Rattle.client_core.specs.KeepsPool.{KeepsPool}
use Rattle.client_core.specs.Losing.{Loses, next_lost}
use Rattle.client_core.specs.Replies.{call_as, is_request, without_buffers, without_call}
use Rattle.client_core.specs.Session.{IsSession, Session}
use Rattle.client_core.specs.Shown.{IsAlone, done_event, rolled_event, shown, shown_active}
use Rattle.client_core.specs.Shown.{shown_broken, shown_waiting, stepped}
use Rattle.client_core.specs.Timeouts.{after_roll, is_numbered, rolled_call}
use Rattle.client_core.specs.Watching.{call_number, is_after}
use Rattle.client_core.proofs.EndedLemmas.{any-found, calls-left, ends-one, number-found}
use Rattle.client_core.proofs.OneCallLemmas.{by-request, least-found, least-none-of, own-unanswered}
use Rattle.client_core.proofs.ShownLemmas.{changed-shown}
use Rattle.client_core.proofs.TakenLemmas.{limit-rolled}
use Rattle.rpc_base.proofs.ChangedLemmas.{same-first}

-- a call that is found by its number is one of those that are shown
numbered-cons : (b c : Bool) (x y : ActiveCall) (o : Option ActiveCall) → (o ≡ Some y → c ≡ true)
    → cond b (Some x) o ≡ Some y → (b || c) ≡ true
numbered-cons true c x y o ih e = refl
numbered-cons false c x y o ih e = ih e

numbered-any : (pool : Pool) (c : ActiveCall) (xs : List ActiveCall) (ws : List Waiting) (n : ℕ)
    → find (is_numbered n) xs ≡ Some c
    → list_any (is_call n) (map (shown_active pool) xs ++ map shown_waiting ws) ≡ true
numbered-any pool c [] ws n e = cc
numbered-any pool c (x ∷ xs) ws n e =
    numbered-cons (is_numbered n x) _ x c (find (is_numbered n) xs) (numbered-any pool c xs ws n) e

pub roll-step : (pool : Pool) (clock peer n : ℕ) (c : ActiveCall) (s : Session) → IsSession s
    → find (is_numbered n) s.active ≡ Some c → c.call ≡ n
    → stepped clock (rolled_event c) (shown pool peer s) ≡ shown pool peer (after_roll c s) ∷ []
roll-step pool clock peer n c s sound e own =
    let slot : c.request % 8 < length s.credits.unanswered = omega (arith, sound.balanced.slots) in
    let found = by-request s (is_numbered n) c sound e in
    let firsts = same-first (is_request c.request)
    (is_numbered n) rolled_call c s.active (eq-eqb c.request c.request refl)
    (eq-eqb c.call n own) found e in
    let calls = changed-shown (shown_active pool) (is_call n) (is_numbered n)
    (moved (rolled_back c.got)) rolled_call c (map shown_waiting s.slots.waiting) s.active
    (λ x. refl) refl e in
    rw (
      own,
      numbered-any pool c s.active s.slots.waiting n e,
      calls,
      firsts,
      limit-rolled s.credits (c.request % 8) slot,
      own-unanswered s (is_numbered n) c sound e,
    )
    refl

-- an active call is lost
module _ (pool : Pool) (clock peer : ℕ) (c : ActiveCall) (s : Session) (sound : IsSession s)
    (keeps : KeepsPool pool s.active) (e : call_as c.request s ≡ Some c)
    (alone : IsAlone c.call s) where
  pub lost-step : stepped clock (DonePeerLost c.call) (shown_broken pool peer s)
      ≡ shown_broken (without_buffers c pool) peer (without_call c s) ∷ []
  lost-step =
      let slot : c.request % 8 < length s.credits.unanswered = omega (arith, sound.balanced.slots) in
      let there : has_call c.call (shown_broken pool peer s) ≡ true =
      any-found (is_call c.call) (shown_active pool c)
      (map (shown_active pool) s.active ++ map shown_waiting s.slots.waiting)
      (number-found pool c s sound keeps e alone) in
      ends-one c.call (shown_broken pool peer s) there
      ∙ rw (
        calls-left pool c s sound keeps e alone,
        limit-rolled s.credits (c.request % 8) slot,
      ) refl

-- and one that waited, where no active one is left
given-up : (pool : Pool) (clock peer : ℕ) (w : Waiting) (s : Session) → s.active ≡ []
    → slice_get s.slots.waiting 0 ≡ Some w
    → stepped clock (DonePeerLost w.call) (shown_broken pool peer s)
    ≡ shown_broken pool peer (record s { slots = drained s.slots }) ∷ []
given-up pool clock peer w s none oldest =
    rw (none, front-waiting s.slots.waiting w oldest, eq-eqb w.call w.call refl) refl
  where
    front-waiting : (ws : List Waiting) (w : Waiting) → slice_get ws 0 ≡ Some w
        → map shown_waiting ws ≡ shown_waiting w ∷ map shown_waiting (drop 1 ws)
    front-waiting [] w e = cc
    front-waiting (v ∷ vs) w e = let same : v ≡ w = cc in rw same refl

lose-cases : (pool after : Pool) (clock peer : ℕ) (d : Done) (s new : Session) → IsSession s
    → KeepsPool pool s.active → IsAlone d.call s → (o : Option ActiveCall) → next_lost s ≡ o
    → Loses o d s new pool after
    → stepped clock (done_event d) (shown_broken pool peer s) ≡ shown_broken after peer new ∷ []
lose-cases pool after clock peer d s new sound keeps alone (Some c) e lost =
    let (test, found) = least-found (is_after None) call_number s.active c e in
    let asked = by-request s test c sound found in
    rw (lost.done.call, lost.done.ended_as, lost.session, lost.pool)
    (lost-step pool clock peer c s sound keeps asked (rw lost.done.call at alone))
lose-cases pool after clock peer d s new sound keeps alone None e lost =
    let none = least-none-of call_number s.active e in
    rw (lost.0.done.call, lost.0.done.ended_as, lost.0.session, lost.1)
    (given-up pool clock peer lost.0.waiting s none lost.0.oldest)

pub lose-step : (pool after : Pool) (clock peer : ℕ) (d : Done) (s new : Session) → IsSession s
    → KeepsPool pool s.active → IsAlone d.call s → Loses (next_lost s) d s new pool after
    → stepped clock (done_event d) (shown_broken pool peer s) ≡ shown_broken after peer new ∷ []
lose-step pool after clock peer d s new sound keeps alone lost =
    lose-cases pool after clock peer d s new sound keeps alone (next_lost s) refl lost

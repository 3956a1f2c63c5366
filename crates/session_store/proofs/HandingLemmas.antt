-- What was handed in with the calls of a store is that of the calls which are shown.
use Rattle.std.proofs.Common.{◌≡◌, List, [], ◌∷◌, refl, sym, ◌∙◌}
use Rattle.std.specs.Prelude.{map}
use Rattle.std.proofs.lemmas.List.{map-append}
use Rattle.buffer_pool.specs.Pool.{Pool}
use Rattle.session_slots.specs.declared.waiting.Waiting.{Waiting}
use Rattle.client_core.specs.declared.call.ActiveCall.{ActiveCall}
use Rattle.client_core.specs.Handing.{handed_active, handed_waiting}
use Rattle.client_core.specs.Shown.{shown_active, shown_waiting}
use Rattle.session_ends.specs.declared.side.Side.{Side}
use Rattle.session_store.specs.Handing.{AreOfCalls, asked_by, asked_in}
use Rattle.session_store.specs.Sides.{shown_side, side_handed}
use Rattle.session_store.proofs.EndLemmas.{calls-end}

of-active : (pool : Pool) (cs : List ActiveCall)
    → map asked_by (map (handed_active pool) cs) ≡ map asked_in (map (shown_active pool) cs)
of-active pool [] = refl
of-active pool (c ∷ cs) = rw (of-active pool cs) refl

of-waiting : (ws : List Waiting)
    → map asked_by (map handed_waiting ws) ≡ map asked_in (map shown_waiting ws)
of-waiting [] = refl
of-waiting (w ∷ ws) = rw (of-waiting ws) refl

of-side : (pool : Pool) (s : Side)
    → map asked_by (side_handed pool s) ≡ map asked_in (shown_side pool s).calls
of-side pool s =
    let active = s.session.active in
    let waiting = s.session.slots.waiting in
    map-append asked_by (map (handed_active pool) active) (map handed_waiting waiting)
    ∙ rw (of-active pool active, of-waiting waiting, calls-end s.stage pool s.peer s.session)
    (sym (map-append asked_in (map (shown_active pool) active) (map shown_waiting waiting)))

pub of-calls : (pool : Pool) (sides : List Side)
    → AreOfCalls (map (side_handed pool) sides) (map (shown_side pool) sides)
of-calls pool [] = refl
of-calls pool (s ∷ ss) = rw (of-side pool s, of-calls pool ss) refl

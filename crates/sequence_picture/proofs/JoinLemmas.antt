-- Each line of a drawing joins the facts of one copy.
use Rattle.std.proofs.Common.{◌≡◌, ℕ, suc, ◌+◌, Bool, true, false, List, [], ◌∷◌, ◌++◌}
use Rattle.std.proofs.Common.{map}
use Rattle.std.proofs.Common.{Option, Some, None, refl, sym, ap, ◌∙◌, subst, length, take}
use Rattle.std.proofs.Common.{arith}
use Rattle.std.proofs.Common.{append_assoc, length-append}
use Rattle.std.proofs.lemmas.List.{append-nil}
use Rattle.std.proofs.Math.Seq.{take-append_seam}
use Rattle.std.specs.Prelude.{if◌then◌else◌, option_to_list, slice_get}
use Rattle.std.specs.List.{AllByRecursion}
use Rattle.rpc_base.proofs.FirstLemmas.{all-both}
use Rattle.rpc_base.specs.declared.event.Event.{Event}
use Rattle.rpc_base.specs.declared.event.Event.TheVariants.{Carried, Lost, Ticked}
use Rattle.rpc_base.specs.declared.fact.Fact.{Fact}
use Rattle.rpc_base.specs.declared.fact.Who.{Who}
use Rattle.rpc_base.specs.declared.fact.Who.TheVariants.{Node, Net}
use Rattle.rpc_laws.specs.declared.tables.InFlight.{InFlight}
use Rattle.rpc_laws.specs.InFlight.{flight_after_all}
use Rattle.sequence_picture.specs.declared.things.Drawn.TheVariants.{Mark}
use Rattle.sequence_picture.specs.declared.things.End.{End}
use Rattle.sequence_picture.specs.declared.things.End.TheVariants as ends
use Rattle.sequence_picture.specs.declared.things.Track.{Track}
use Rattle.sequence_picture.specs.Arrival.{arrives_at}
use Rattle.sequence_picture.specs.Copies.{AllJoin, Ends, IsSending, Joins, JoinsOneCopy, StandsAt}
use Rattle.sequence_picture.specs.Copies.{Takes}
use Rattle.sequence_picture.specs.Drawing.{carried, carried_end, drawing, drawing_from, flying}
use Rattle.sequence_picture.specs.Drawing.{is_marked}
use Rattle.sequence_picture.specs.Drawing.{lost, things_at, things_by, things_of_net}
use Rattle.sequence_picture.specs.Tracks.{tracks_of}
use Rattle.sequence_picture.proofs.ArrivalLemmas.{arrival-is}
use Rattle.sequence_picture.proofs.SideLemmas.{IsTrack, One, Sides, flight-more, side-get}
use Rattle.sequence_picture.proofs.SideLemmas.{side-step}
use Rattle.sequence_picture.proofs.SideLemmas.{tracks-more}

-- a history up to a place, and what is in flight there
record Upto (h past : List Fact) (place : ℕ) : Type 0 where
  front : take place h ≡ past
  sides : Sides h (tracks_of past) (flight_after_all [] past)

joined : (h : List Fact) (t : Track) (copy : InFlight) (end : End) → IsTrack h t copy
    → Ends h t copy end
    → JoinsOneCopy h t end
joined h t copy end is how =
    record { copy = copy; sending = is.0; put = is.1; ending = how }

taken : (h past : List Fact) (place number : ℕ) (f : Fact) (event : ℕ → Event) (t : Track)
    → (u : Upto h past place) → slice_get h place ≡ Some f → f.who ≡ Net → f.event ≡ event number
    → slice_get (tracks_of past) number ≡ Some t → (one : One h (flight_after_all [] past) number t)
    → Takes h place event t one.copy
taken h past place number f event t u at who is track one = record {
  fact = f;
  number = number;
  at = at;
  who = who;
  names = is;
  stands = subst (λ (p : List Fact). StandsAt p number t one.copy) (sym u.front)
      (record { track_is = track; copy_is = one.at });
}

carried-ends : (h : List Fact) (place : ℕ) (t : Track) (copy : InFlight) (b : Bool)
    → IsSending h t.sent copy → Takes h place Carried t copy → arrives_at h t.sent (place + 1) ≡ b
    → Ends h t copy (if b then ends.Came (place + 1) else ends.Untold place)
carried-ends h place t copy true s takes e = record {
  before = place;
  next = refl;
  carried = takes;
  arrival = arrival-is h t.sent (place + 1) copy s e;
}
carried-ends h place t copy false s takes e = takes

carried-joins : (h past : List Fact) (place number : ℕ) (f : Fact) (o : Option Track)
    → Upto h past place
    → slice_get h place ≡ Some f → f.who ≡ Net → f.event ≡ Carried number
    → slice_get (tracks_of past) number ≡ o
    → AllJoin h (map (carried h place) (option_to_list o))
carried-joins h past place number f None u at who is e = tt
carried-joins h past place number f (Some t) u at who is e =
    let one = side-get h (tracks_of past) (flight_after_all [] past) number t u.sides e in
    let takes = taken h past place number f Carried t u at who is e one in
    let here = carried-ends h place t one.copy (arrives_at h t.sent (place + 1)) one.is_track.0 takes refl in
    (joined h t one.copy (carried_end h t.sent place) one.is_track here, tt)

lost-joins : (h past : List Fact) (place number : ℕ) (f : Fact) (o : Option Track)
    → Upto h past place
    → slice_get h place ≡ Some f → f.who ≡ Net → f.event ≡ Lost number
    → slice_get (tracks_of past) number ≡ o → AllJoin h (map (lost place) (option_to_list o))
lost-joins h past place number f None u at who is e = tt
lost-joins h past place number f (Some t) u at who is e =
    let one = side-get h (tracks_of past) (flight_after_all [] past) number t u.sides e in
    let takes = taken h past place number f Lost t u at who is e one in
    (joined h t one.copy (ends.Lost place) one.is_track takes, tt)

net-joins : (h past : List Fact) (place : ℕ) (f : Fact) (event : Event) → Upto h past place
    → slice_get h place ≡ Some f → f.who ≡ Net → f.event ≡ event
    → AllJoin h (things_of_net h place event (tracks_of past))
net-joins h past place f (Carried c) u at who is =
    carried-joins h past place c f (slice_get (tracks_of past) c) u at who is refl
net-joins h past place f (Lost c) u at who is =
    lost-joins h past place c f (slice_get (tracks_of past) c) u at who is refl
net-joins h past place f (Ticked by) u at who is = (tt, tt)
net-joins h past place f _ u at who is = tt

mark-joins : (h : List Fact) (place : ℕ) (b : Bool) → AllJoin h (if b then Mark place ∷ [] else [])
mark-joins h place true = (tt, tt)
mark-joins h place false = tt

who-joins : (h past : List Fact) (place : ℕ) (f : Fact) (who : Who) → Upto h past place
    → slice_get h place ≡ Some f → f.who ≡ who
    → AllJoin h (things_by h place who f.event (tracks_of past))
who-joins h past place f (Node n) u at who = mark-joins h place (is_marked f.event)
who-joins h past place f Net u at who = net-joins h past place f f.event u at who refl

all-at : {A B : Type 0} (P : B → Type 0) (f : A → B) (xs : List A)
    → ((n : ℕ) (x : A) → slice_get xs n ≡ Some x → P (f x)) → AllByRecursion P (map f xs)
all-at P f [] each = tt
all-at P f (x ∷ xs) each = (each 0 x refl, all-at P f xs (λ n y e. each (suc n) y e))

flying-join : (h past : List Fact) → past ≡ h → Sides h (tracks_of past) (flight_after_all [] past)
    → AllJoin h (map flying (tracks_of past))
flying-join h past same s =
    all-at (Joins h) flying (tracks_of past) (λ n t e.
    let one = side-get h (tracks_of past) (flight_after_all [] past) n t s e in
    joined h t one.copy ends.Flying one.is_track (record {
      number = n;
      stands = subst (λ (p : List Fact). StandsAt p n t one.copy) same
          (record { track_is = e; copy_is = one.at });
    }))

get-seam : (past : List Fact) (f : Fact) (rest : List Fact)
    → slice_get (past ++ f ∷ rest) (length past) ≡ Some f
get-seam [] f rest = refl
get-seam (x ∷ past) f rest = get-seam past f rest

from-join : (h past rest : List Fact) (place : ℕ) → past ++ rest ≡ h → length past ≡ place
    → Sides h (tracks_of past) (flight_after_all [] past)
    → AllJoin h (drawing_from h place rest (tracks_of past))
from-join h past [] place whole here s = flying-join h past (sym (append-nil past) ∙ whole) s
from-join h past (f ∷ rest) place whole here s =
    let at : slice_get h place ≡ Some f =
    subst (λ (g : List Fact). slice_get g place ≡ Some f) whole
    (subst (λ (k : ℕ). slice_get (past ++ f ∷ rest) k ≡ Some f) here (get-seam past f rest)) in
    let front : take place h ≡ past =
    subst (λ (g : List Fact). take place g ≡ past) whole
    (subst (λ (k : ℕ). take k (past ++ f ∷ rest) ≡ past) here (take-append_seam past (f ∷ rest))) in
    let count : 0 + length past ≡ place = omega arith in
    let more = tracks-more past f 0 place [] count in
    let flight = flight-more past f [] in
    let sides : Sides h (tracks_of (past ++ f ∷ [])) (flight_after_all [] (past ++ f ∷ [])) =
    rw (more, flight) (side-step h place f (tracks_of past) (flight_after_all [] past) at
    (ap (λ (p : List Fact). flight_after_all [] p) (sym front)) s) in
    let whole_after : (past ++ f ∷ []) ++ rest ≡ h = append_assoc past (f ∷ []) rest ∙ whole in
    let after = from-join h (past ++ f ∷ []) rest (place + 1) whole_after
    (length-append past (f ∷ []) ∙ ap (λ (k : ℕ). k + 1) here) sides in
    all-both (Joins h) (things_at h place f (tracks_of past)) _
    (who-joins h past place f f.who (record { front = front; sides = s }) at refl)
    (subst (λ (ts : List Track). AllJoin h (drawing_from h (place + 1) rest ts)) more after)

-- each line of the drawing of a history joins the facts of one copy
pub drawing-joins : (h : List Fact) → AllJoin h (drawing h)
drawing-joins h = from-join h [] h 0 refl refl tt

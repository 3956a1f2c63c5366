-- A deed of a node as steps of a wire run.
use Rattle.std.proofs.Common.{◌≡◌, ℕ, zero, suc, Bool, true, false, cond, List, [], ◌∷◌, ◌++◌}
use Rattle.std.proofs.Common.{length, Some}
use Rattle.std.proofs.Common.{slice_get, refl, sym, ap, ◌∙◌, subst, append_assoc, append-nil, ltb}
use Rattle.std.specs.List.{slice_set}
use Rattle.rpc_base.specs.declared.event.Event.{Event}
use Rattle.rpc_base.specs.declared.event.Event.TheVariants.{Arrived, Bad, Overflowed, Sent}
use Rattle.rpc_base.specs.declared.fact.Fact.{Fact}
use Rattle.rpc_base.specs.declared.fact.Who.{Who}
use Rattle.rpc_base.specs.declared.fact.Who.TheVariants.{Node}
use Rattle.rpc_base.proofs.PlaceLemmas.{set-here}
use Rattle.rpc_outside.specs.Linking.{Carried}
use Rattle.rpc_laws.specs.declared.tables.InFlight.{InFlight}
use Rattle.rpc_laws.specs.declared.tables.Timed.{Timed}
use Rattle.rpc_laws.specs.Deliveries.{Delivers, arrival, inbox_room}
use Rattle.rpc_laws.specs.Front.{is_control, is_message}
use Rattle.rpc_laws.specs.InFlight.{flight_after, flight_after_all, flight_after_node, flight_at}
use Rattle.end_laws.specs.JointRun.{Party, Joint}
use Rattle.end_laws.specs.WireRun.{WireStep, WireSteps, acts as acts_alone, hears, more}
use Rattle.node_steps.specs.Notes.{sent_by, sent_of}
use Rattle.endpoint_loop.specs.Turns.{DeliversAll}
use Rattle.node_steps.proofs.NoteSteps.{sent-append}
use Rattle.turn_laws.specs.Deeds.{Deed, Does, MayAct, acts, rests}
use Rattle.turn_laws.specs.Wires.{AreOnWire, on_wire}
use Rattle.turn_laws.proofs.DeedLemmas.{acted-keeps, delivered-keeps}
use Rattle.world_laws.proofs.FactLemmas.{AllAt, set-same}

-- what a node sent, on the wire
pub on-wire-append : (n : ℕ) (x y : List Carried) → on_wire n (x ++ y) ≡ on_wire n x ++ on_wire n y
on-wire-append n [] y = refl
on-wire-append n (c ∷ x) y =
    ap (λ (z : List InFlight). record { from = n; to = c.0; bytes = c.1 } ∷ z)
    (on-wire-append n x y)

event-sent : (n : ℕ) (copies : List InFlight) (e : Event) (first second : List ℕ)
    → flight_after_node n e first second copies ≡ copies ++ on_wire n (sent_by e first second)
event-sent n copies (Sent peer owner k) first second = refl
event-sent n copies _ first second = sym (append-nil copies)

fact-sent : (n : ℕ) (copies : List InFlight) (f : Fact) → f.who ≡ Node n
    → flight_after copies f ≡ copies ++ on_wire n (sent_by f.event f.first f.second)
fact-sent n copies f is =
    ap (λ (w : Who). flight_at w f.event f.first f.second copies) is
    ∙ event-sent n copies f.event f.first f.second

-- what a node's own facts send goes on the wire, in order
pub own-sent : (n : ℕ) (copies : List InFlight) (x : List Fact) → AllAt n x
    → flight_after_all copies x ≡ copies ++ on_wire n (sent_of x)
own-sent n copies [] a = sym (append-nil copies)
own-sent n copies (f ∷ x) a =
    let one = sent_by f.event f.first f.second in
    own-sent n (flight_after copies f) x a.1
    ∙ (ap (λ (z : List InFlight). z ++ on_wire n (sent_of x)) (fact-sent n copies f a.0)
    ∙ (append_assoc copies (on_wire n one) (on_wire n (sent_of x))
    ∙ ap (λ (z : List InFlight). copies ++ z) (sym (on-wire-append n one (sent_of x)))))

-- a delivery sends nothing
arrival-unsent : (peer : ℕ) (bytes : List ℕ) (b : Bool)
    → sent_by (cond b (Arrived peer) (Overflowed peer)) bytes [] ≡ []
arrival-unsent peer bytes true = refl
arrival-unsent peer bytes false = refl

delivery-unsent : (peer n size many : ℕ) (bytes : List ℕ) (message control : Bool)
    → sent_by (cond message (arrival n size peer)
    (cond control (arrival many inbox_room peer) (Bad peer))) bytes [] ≡ []
delivery-unsent peer n size many bytes true control = arrival-unsent peer bytes (ltb n size)
delivery-unsent peer n size many bytes false true = arrival-unsent peer bytes (ltb many inbox_room)
delivery-unsent peer n size many bytes false false = refl

delivers-unsent : (peer : ℕ) (bytes : List ℕ) (s : Timed) (x : List Fact) (t : Timed)
    → Delivers peer bytes s x t → sent_of x ≡ []
delivers-unsent peer bytes s x t h = rw h.facts (ap (λ (y : List Carried). y ++ [])
    (delivery-unsent peer (length s.lists.ring) s.lists.room (length s.lists.inbox) bytes
    (is_message bytes) (is_control bytes)))

pub delivered-unsent : (came : List Carried) (s : Timed) (x : List Fact) (t : Timed)
    → DeliversAll came s x t → sent_of x ≡ []
delivered-unsent [] s x t h = rw h.0 refl
delivered-unsent (c ∷ cs) s x t h = rw h.joined (
    sent-append h.front h.back
    ∙ (ap (λ (y : List Carried). y ++ sent_of h.back)
    (delivers-unsent c.0 c.1 s h.front h.between h.first)
    ∙ delivered-unsent cs h.between h.back t h.second))

set-twice : {A : Type 0} (xs : List A) (i : ℕ) (y z : A)
    → slice_set (slice_set xs i y) i z ≡ slice_set xs i z
set-twice [] i y z = refl
set-twice (x ∷ xs) zero y z = refl
set-twice (x ∷ xs) (suc i) y z = ap (λ ys. x ∷ ys) (set-twice xs i y z)

module _ (parties : ℕ → Party) (n : ℕ) where
  -- what came is heard, one datagram after another
  heard : (came : List Carried) (g : List Fact) (nodes : List Timed) (wire : List InFlight)
      (s : Timed)
      (x : List Fact) (t : Timed) → WireSteps parties g (record { nodes = nodes; flight = wire })
      → slice_get nodes n ≡ Some s → AreOnWire wire n came → DeliversAll came s x t
      → WireSteps parties (g ++ x) (record { nodes = slice_set nodes n t; flight = wire })
  heard [] g nodes wire s x t w is on h =
      rw (h.0, h.1, append-nil g)
      (subst (λ (k : List Timed). WireSteps parties g (record { nodes = k; flight = wire }))
      (set-same nodes n s is) w)
  heard (c ∷ cs) g nodes wire s x t w is on h =
      let then_nodes = slice_set nodes n h.between in
      let between : Joint = record { nodes = then_nodes; flight = wire } in
      let step : WireStep parties (record { nodes = nodes; flight = wire }) h.front between =
      hears (record {
        number = on.0.number;
        copy = record { from = c.0; to = n; bytes = c.1 };
        is_copy = on.0.is_copy;
        before = s;
        now = h.between;
        is_node = is;
        delivers = h.first;
        left = refl;
      }) in
      let rest = heard cs (g ++ h.front) then_nodes wire h.between h.back t
      (more w h.front between step)
      (set-here nodes n s h.between is) on.1 h.second in
      rw h.joined
      (subst (λ (y : List Fact). WireSteps parties y
      (record { nodes = slice_set nodes n t; flight = wire }))
      (append_assoc g h.front h.back)
      (subst (λ (k : List Timed). WireSteps parties ((g ++ h.front) ++ h.back)
      (record { nodes = k; flight = wire }))
      (set-twice nodes n h.between t) rest))

  -- then the node makes a group, or nothing more
  acted : (g : List Fact) (nodes : List Timed) (wire : List InFlight) (s : Timed) (x : List Fact)
      (t : Timed)
      → WireSteps parties g (record { nodes = nodes; flight = wire })
      → slice_get nodes n ≡ Some s → s.lists.me ≡ n → MayAct (parties n).serving.mode s x t
      → WireSteps parties (g ++ x)
      (record { nodes = slice_set nodes n t; flight = wire ++ on_wire n (sent_of x) })
  acted g nodes wire s x t w is me (acts a) =
      let k = acted-keeps (parties n).serving.mode s x t (acts a) in
      let own : AllAt n x = subst (λ (i : ℕ). AllAt i x) me k.at in
      let end : Joint = record {
        nodes = slice_set nodes n t;
        flight = wire ++ on_wire n (sent_of x);
      } in
      let step : WireStep parties (record { nodes = nodes; flight = wire }) x end =
      acts_alone (record {
        node = n;
        before = s;
        now = t;
        is_node = is;
        group = a;
        left = ap (λ (f : List InFlight). record { nodes = slice_set nodes n t; flight = f })
            (sym (own-sent n wire x own));
      }) in
      more w x end step
  acted g nodes wire s x t w is me (rests none same) =
      rw (none, same, append-nil g, append-nil wire)
      (subst (λ (k : List Timed). WireSteps parties g (record { nodes = k; flight = wire }))
      (set-same nodes n s is) w)

  -- a deed goes on with a wire run, where what came in it is on the wire. What it sent goes on the
  -- wire, in order
  pub deed-steps : (d : Deed) (g : List Fact) (nodes : List Timed) (wire : List InFlight)
      (s t : Timed)
      → WireSteps parties g (record { nodes = nodes; flight = wire })
      → slice_get nodes n ≡ Some s → s.lists.me ≡ n → AreOnWire wire n d.came
      → Does (parties n).serving.mode d s t
      → WireSteps parties (g ++ d.noted)
      (record { nodes = slice_set nodes n t; flight = wire ++ on_wire n (sent_of d.noted) })
  deed-steps d g nodes wire s t w is me on h =
      let then_nodes = slice_set nodes n h.between in
      let k = delivered-keeps (parties n).serving.mode d.came s h.front h.between h.first in
      let first = heard d.came g nodes wire s h.front h.between w is on h.first in
      let next = acted (g ++ h.front) then_nodes wire h.between h.back t first
      (set-here nodes n s h.between is) (k.me ∙ me) h.second in
      let sent : sent_of h.back ≡ sent_of d.noted =
      sym (ap sent_of h.joined ∙ (sent-append h.front h.back
      ∙ ap (λ (y : List Carried). y ++ sent_of h.back)
      (delivered-unsent d.came s h.front h.between h.first))) in
      let facts : (g ++ h.front) ++ h.back ≡ g ++ d.noted =
      append_assoc g h.front h.back ∙ ap (λ (y : List Fact). g ++ y) (sym h.joined) in
      subst (λ (y : List Fact). WireSteps parties y
      (record { nodes = slice_set nodes n t; flight = wire ++ on_wire n (sent_of d.noted) })) facts
      (subst (λ (o : List Carried). WireSteps parties ((g ++ h.front) ++ h.back)
      (record { nodes = slice_set nodes n t; flight = wire ++ on_wire n o })) sent
      (subst (λ (m : List Timed). WireSteps parties ((g ++ h.front) ++ h.back)
      (record { nodes = m; flight = wire ++ on_wire n (sent_of h.back) }))
      (set-twice nodes n h.between t) next))

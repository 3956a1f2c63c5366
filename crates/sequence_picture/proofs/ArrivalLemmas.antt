-- What the test of an arrival tells of the datagram that was sent.
use Rattle.std.proofs.Common.{◌≡◌, ℕ, zero, suc, ◌==◌, Bool, true, false, true≢false, List}
use Rattle.std.proofs.Common.{[]}
use Rattle.std.proofs.Common.{◌∷◌, ◌++◌, Option, Some, None, refl, sym, ap, ap₂, ◌∙◌, subst}
use Rattle.std.specs.Prelude.{slice_get}
use Rattle.std.specs.Str.{bytes_eq}
use Rattle.std.proofs.lemmas.Bool.{and_parts}
use Rattle.std.proofs.lemmas.List.{append_cancel_left}
use Rattle.std.proofs.lemmas.Slice.Eq.{bytes_eq-Decides}
use Rattle.std.proofs.lemmas.Bool.Decides.{Decides-eqb}
use Rattle.rpc_base.specs.declared.event.Event.{Event}
use Rattle.rpc_base.specs.declared.event.Event.TheVariants.{Sent}
use Rattle.rpc_base.specs.declared.event.Event.TheVariants.{Carried, Lost}
use Rattle.rpc_base.specs.declared.fact.Fact.{Fact}
use Rattle.rpc_base.specs.declared.fact.Who.{Who}
use Rattle.rpc_base.specs.declared.fact.Who.TheVariants.{Node, Net}
use Rattle.rpc_laws.specs.declared.tables.InFlight.{InFlight}
use Rattle.rpc_laws.specs.InFlight.{flight_after, flight_after_net, flight_after_node, flight_at}
use Rattle.sequence_picture.specs.declared.arrival.Way.{Way}
use Rattle.sequence_picture.specs.Arrival.{arrives, arrives_at, both_arrive, same_way, sender}
use Rattle.sequence_picture.specs.Arrival.{way_came}
use Rattle.sequence_picture.specs.Arrival.{way_came_by, way_from, way_sent, way_sent_by}
use Rattle.sequence_picture.specs.Copies.{IsArrival, IsSending}

-- the test by parts of the code
differ : (xs ys : List ℕ) → (xs ≡ ys → ⊥) → false ≡ bytes_eq xs ys
differ xs ys apart = by (bytes_eq xs ys) refl
  where
    by : (b : Bool) → bytes_eq xs ys ≡ b → false ≡ bytes_eq xs ys
    by true e = absurd (apart ((bytes_eq-Decides xs ys).0 e))
    by false e = sym e

pub are-some : (bytes head body rest : List ℕ) (r : Bool) → bytes ≡ head ++ rest
    → r ≡ bytes_eq rest body → r ≡ bytes_eq bytes (head ++ body)
are-some bytes head body rest true is e =
    sym ((bytes_eq-Decides bytes (head ++ body)).1
    (is ∙ ap (λ (t : List ℕ). head ++ t) ((bytes_eq-Decides rest body).0 (sym e))))
are-some bytes head body rest false is e =
    differ bytes (head ++ body) (λ same.
    true≢false (sym ((bytes_eq-Decides rest body).1
    (append_cancel_left head rest body (sym is ∙ same))) ∙ sym e))

pub are-none : (bytes head body : List ℕ) → ((rest : List ℕ) → bytes ≡ head ++ rest → ⊥)
    → false ≡ bytes_eq bytes (head ++ body)
are-none bytes head body none = differ bytes (head ++ body) (none body)

abbrev copy_of : ℕ → ℕ → List ℕ → List ℕ → InFlight
copy_of n peer head body = record { from = n; to = peer; bytes = head ++ body }

abbrev way_of : ℕ → ℕ → Way
way_of from to = record { from = from; to = to }

-- where a fact puts just one copy into flight
record Sends (who : Who) (event : Event) (first second : List ℕ) (copy : InFlight) : Type 0 where
  way : way_sent_by who event ≡ Some (way_of copy.from copy.to)
  bytes : copy.bytes ≡ first ++ second

sends-node : (n : ℕ) (event : Event) (first second : List ℕ) (copy : InFlight)
    → flight_after_node n event first second [] ≡ copy ∷ [] → Sends (Node n) event first second copy
sends-node n (Sent peer owner number) first second copy e =
    let is : copy_of n peer first second ≡ copy = cc in
    record {
      way = ap (λ (c : InFlight). Some (way_of c.from c.to)) is;
      bytes = sym (ap (λ (c : InFlight). c.bytes) is);
    }
sends-node n _ first second copy e = cc

sends-none : (event : Event) (copy : InFlight) → flight_after_net event [] ≡ copy ∷ [] → ⊥
sends-none (Carried zero) copy e = cc
sends-none (Carried (suc c)) copy e = cc
sends-none (Lost zero) copy e = cc
sends-none (Lost (suc c)) copy e = cc
sends-none _ copy e = cc

sends-by : (who : Who) (event : Event) (first second : List ℕ) (copy : InFlight)
    → flight_at who event first second [] ≡ copy ∷ [] → Sends who event first second copy
sends-by (Node n) event first second copy e = sends-node n event first second copy e
sends-by Net event first second copy e = absurd (sends-none event copy e)

-- where a datagram of this way comes
record Comes (who : Who) (event : Event) (way : Way) : Type 0 where
  who_is : who ≡ Node way.to
  peer : sender event ≡ Some way.from

comes-from : (n : ℕ) (event : Event) (o : Option ℕ) (way : Way) → sender event ≡ o
    → way_from n o ≡ Some way → Comes (Node n) event way
comes-from n event None way is e = cc
comes-from n event (Some peer) way is e =
    let same : way_of peer n ≡ way = cc in
    record {
      who_is = ap (λ (w : Way). Node w.to) same;
      peer = is ∙ ap (λ (w : Way). Some w.from) same;
    }

comes-by : (who : Who) (event : Event) (way : Way) → way_came_by who event ≡ Some way
    → Comes who event way
comes-by (Node n) event way e = comes-from n event (sender event) way refl e
comes-by Net event way e = cc

record Same (sent came : Option Way) : Type 0 where
  way : Way
  sent_is : sent ≡ Some way
  came_is : came ≡ Some way

same-is : (sent came : Option Way) → same_way sent came ≡ true → Same sent came
same-is (Some sent) (Some came) e =
    let both = and_parts (sent.from == came.from) (sent.to == came.to) e in
    let from : sent.from ≡ came.from = (Decides-eqb sent.from came.from).0 both.0 in
    let to : sent.to ≡ came.to = (Decides-eqb sent.to came.to).0 both.1 in
    record { way = sent; sent_is = refl; came_is = ap₂ (λ f t. Some (way_of f t)) (sym from) (sym to) }
same-is None came e = absurd (true≢false (sym e))
same-is (Some sent) None e = absurd (true≢false (sym e))

arrival-of : (h : List Fact) (at : ℕ) (sent came : Fact) (copy : InFlight)
    → flight_after [] sent ≡ copy ∷ [] → slice_get h at ≡ Some came → arrives sent came ≡ true
    → IsArrival h at copy
arrival-of h at sent came copy sends is e =
    let both = and_parts (same_way (way_sent sent) (way_came came)) _ e in
    let same = same-is (way_sent sent) (way_came came) both.0 in
    let s = sends-by sent.who sent.event sent.first sent.second copy sends in
    let c = comes-by came.who came.event same.way same.came_is in
    let way : Some same.way ≡ Some (way_of copy.from copy.to) = sym same.sent_is ∙ s.way in
    let one : same.way ≡ way_of copy.from copy.to = cc in
    let bytes : came.first ≡ sent.first ++ sent.second =
    (bytes_eq-Decides came.first (sent.first ++ sent.second)).0 both.1 in
    record {
      fact = came;
      at = is;
      who = c.who_is ∙ ap (λ (w : Way). Node w.to) one;
      peer = c.peer ∙ ap (λ (w : Way). Some w.from) one;
      bytes = bytes ∙ sym s.bytes;
    }

arrival-at : (h : List Fact) (at : ℕ) (sent : Fact) (o : Option Fact) (copy : InFlight)
    → flight_after [] sent ≡ copy ∷ [] → slice_get h at ≡ o → both_arrive (Some sent) o ≡ true
    → IsArrival h at copy
arrival-at h at sent None copy sends is e = absurd (true≢false (sym e))
arrival-at h at sent (Some came) copy sends is e = arrival-of h at sent came copy sends is e

-- an arrival of the datagram of a sending is that of its copy
pub arrival-is : (h : List Fact) (sent at : ℕ) (copy : InFlight) → IsSending h sent copy
    → arrives_at h sent at ≡ true → IsArrival h at copy
arrival-is h sent at copy s e =
    arrival-at h at s.fact (slice_get h at) copy s.sends refl
    (subst (λ (o : Option Fact). both_arrive o (slice_get h at) ≡ true) s.at e)

-- What the commands of a script leave as it was: the place of each node, how many there are, and the clock.
use Rattle.std.proofs.Common.{◌≡◌, ◌<◌, ◌≤◌, ◌+◌, ℕ, zero, suc, nat_lt, Bool, true, false, cond}
use Rattle.std.proofs.Common.{Option, Some, None, List, [], ◌∷◌, length, refl, sym, ap, ◌∙◌}
use Rattle.std.proofs.Common.{arith, length-append}
use Rattle.std.proofs.lemmas.List.{length-map}
use Rattle.std.proofs.lemmas.List.Edits.{length-remove}
use Rattle.std.specs.Bool.{MatchBool}
use Rattle.std.specs.List.{list_all, remove, slice_get, slice_set}
use Rattle.end_laws.proofs.ListLemmas.{length-slice_set}
use Rattle.network_model.specs.declared.stage.Stage.{Stage}
use Rattle.rpc_base.specs.declared.event.Event.{Event}
use Rattle.rpc_base.specs.declared.event.Event.TheVariants.{Arrived, Bad, Lost, Missed, Overflowed, Repeated}
use Rattle.rpc_base.specs.declared.fact.Fact.{Fact}
use Rattle.rpc_laws.specs.declared.tables.InFlight.{InFlight}
use Rattle.rpc_laws.specs.declared.tables.Timed.{Timed}
use Rattle.rpc_laws.specs.Deliveries.{Delivers, inbox_room}
use Rattle.rpc_laws.specs.Facts.{with_bytes}
use Rattle.rpc_laws.specs.Front.{is_control, is_message}
use Rattle.rpc_laws.specs.Groups.{Asks, Connects, Disconnects, SetsRate, pair_refusal}
use Rattle.rpc_laws.specs.InFlight.{flight_after_all}
use Rattle.rpc_laws.specs.NodeLists.{new_node, restarted}
use Rattle.rpc_laws.specs.Lives.{first_life}
use Rattle.rpc_laws.specs.PollOrder.{PollBy, SendsAll}
use Rattle.rpc_laws.specs.Steps.{Rel}
use Rattle.rpc_laws.specs.UsualLimits.{with_ring}
use Rattle.rpc_laws.specs.Working.{FinishesWorked, Works, WorksAll}
use Rattle.rpc_outside.specs.PlainAnswer.{plain_mode}
use Rattle.rpc_world.specs.Answered.{Play, stage_of, told_end}
use Rattle.rpc_world.specs.Performed.{Performed}
use Rattle.rpc_world.specs.Before.{IsNumbered, Names}
use Rattle.script_grammar.specs.declared.line.Command.{Command}
use Rattle.script_grammar.specs.declared.line.Command.TheVariants.{Node, Pair, Connect, Disconnect}
use Rattle.script_grammar.specs.declared.line.Command.TheVariants.{Rate, Call, Poll, Arrive, Lose}
use Rattle.script_grammar.specs.declared.line.Command.TheVariants.{Repeat, Restart, Tick, Work, Settle}
use Rattle.sim_script.specs.FollowsScript.{AtNode, Carries, Does, Joins, Makes, OfNet, Pairs}
use Rattle.sim_script.specs.FollowsScript.{PairsBy, PairsEnds, PollsFirst, PollsNode, Restarts, Round}
use Rattle.sim_script.specs.FollowsScript.{Settles, Ticks, Times, Unless, WorksFirst, WorksNode}
use Rattle.sim_script.specs.FollowsScript.{ask_bytes, is_polled, noted, or_missed}

pub record Stays (s t : Stage) : Type 0 where
  pub long : length t.nodes ≡ length s.nodes
  pub clock : t.clock ≡ s.clock

abbrev pub Group : Type 1
Group = Stage → List Fact → Stage → Type 0

abbrev pub StaysBy : Group → Type 0
StaysBy P = (s : Stage) (x : List Fact) (t : Stage) → P s x t → Stays s t

stays-self : (s t : Stage) → t ≡ s → Stays s t
stays-self s t e =
    record { long = ap (λ (v : Stage). length v.nodes) e; clock = ap (λ (v : Stage). v.clock) e }

stays-then : (s t u : Stage) → Stays s t → Stays t u → Stays s u
stays-then s t u p q = record { long = q.long ∙ p.long; clock = q.clock ∙ p.clock }

-- a stage with as many nodes and the same clock
stays-by : (s t v : Stage) → t ≡ v → length v.nodes ≡ length s.nodes → v.clock ≡ s.clock → Stays s t
stays-by s t v e long clock = record {
  long = ap (λ (w : Stage). length w.nodes) e ∙ long;
  clock = ap (λ (w : Stage). w.clock) e ∙ clock;
}

stays-at : (P : Rel) (n : ℕ) → StaysBy (AtNode P n)
stays-at P n s x t h = stays-by s t _ h.left (length-slice_set s.nodes n h.now) refl

pub stays-polled : (n : ℕ) → StaysBy (PollsNode n)
stays-polled n s x t h = stays-at (PollBy (FinishesWorked s.worked) SendsAll plain_mode s.clock) n s x t h

pub stays-worked : (n : ℕ) → StaysBy (WorksNode n)
stays-worked n s x t h = stays-at (WorksAll s.worked) n s x t h

stays-net : (e : Event) → StaysBy (OfNet e)
stays-net e s x t h = stays-by s t _ h.left refl refl

stays-restarted : (n : ℕ) → StaysBy (Restarts n)
stays-restarted n s x t h = stays-by s t _ h.left (length-slice_set s.nodes n (restarted h.before)) refl

-- a pairing
stays-ends : (a b credits : ℕ) (client server : Timed) (s : Stage) (x : List Fact) (t : Stage)
    → PairsEnds a b credits client server s x t → Stays s t
stays-ends a b credits client server s x t h =
    let one : List Timed = slice_set s.nodes a (noted client h.at_client) in
    stays-by s t _ h.left
    (length-slice_set one b (noted server h.at_server) ∙ length-slice_set s.nodes a (noted client h.at_client)) refl

stays-pairs-by : (o r : Option Event) (a b credits : ℕ) (client server : Timed) (s : Stage)
    (x : List Fact) (t : Stage) → PairsBy o r a b credits client server s x t → Stays s t
stays-pairs-by (Some e) r a b credits client server s x t h = stays-self s t h.1
stays-pairs-by None (Some e) a b credits client server s x t h = stays-self s t h.1
stays-pairs-by None None a b credits client server s x t h = stays-ends a b credits client server s x t h

stays-pairs : (a b credits : ℕ) → StaysBy (Pairs a b credits)
stays-pairs a b credits s x t h =
    stays-pairs-by (pair_refusal credits h.client.lists)
    (pair_refusal credits h.server.lists) a b credits h.client h.server s x t h.pairs

-- a copy is carried
stays-carried : (i : ℕ) → StaysBy (Carries i)
stays-carried i s x t h =
    let a = stays-at (Delivers h.copy.from h.copy.bytes) h.copy.to
    (record s { flight = remove s.flight i }) h.delivered t h.arrives in
    record { long = a.long; clock = a.clock }

stays-arrives : (i : ℕ) (b : Bool) (s : Stage) (x : List Fact) (t : Stage)
    → MatchBool b (Carries i s x t) (OfNet (Missed i) s x t) → Stays s t
stays-arrives i true s x t h = stays-carried i s x t h
stays-arrives i false s x t h = stays-net (Missed i) s x t h

stays-joins : (P Q : Group) → StaysBy P → StaysBy Q → StaysBy (Joins P Q)
stays-joins P Q p q s x t h =
    stays-then s h.between t (p s h.group h.between h.does) (q h.between h.rest t h.follows)

stays-times : (P : Group) → StaysBy P → (n : ℕ) → StaysBy (Times P n)
stays-times P p zero s x t h = stays-self s t h.1
stays-times P p (suc n) s x t h = stays-joins (Times P n) P (stays-times P p n) p s x t h

pub stays-carries : (n : ℕ) → StaysBy (Times (Carries 0) n)
stays-carries n = stays-times (Carries 0) (stays-carried 0) n

pub stays-polls : (n : ℕ) → StaysBy (PollsFirst n)
stays-polls zero s x t h = stays-self s t h.1
stays-polls (suc n) s x t h =
    stays-joins (PollsFirst n) (PollsNode n) (stays-polls n) (stays-polled n) s x t h

pub stays-works : (n : ℕ) → StaysBy (WorksFirst n)
stays-works zero s x t h = stays-self s t h.1
stays-works (suc n) s x t h =
    stays-joins (WorksFirst n) (WorksNode n) (stays-works n) (stays-worked n) s x t h

pub stays-round : StaysBy Round
stays-round s x t h =
    stays-then s h.between t (stays-carries (length s.flight) s h.group h.between h.does)
    (stays-joins (WorksFirst (length h.between.nodes)) (PollsFirst (length h.between.nodes))
    (stays-works (length h.between.nodes))
    (stays-polls (length h.between.nodes)) h.between h.rest t h.follows)

stays-unless : (b : Bool) (P : Group) → StaysBy P → StaysBy (Unless b P)
stays-unless true P p s x t h = stays-self s t h.1
stays-unless false P p s x t h = p s x t h

stays-settles : (n : ℕ) → StaysBy (Settles n)
stays-settles zero s x t h = stays-self s t h.1
stays-settles (suc n) s x t h =
    stays-then s h.between t (stays-round s h.round h.between h.makes)
    (stays-unless (list_all (λ f. is_polled f.event) h.round) (Settles n)
    (stays-settles n) h.between h.rest t h.goes_on)

-- the nodes that a command makes, and the time that passes
abbrev pub made : Command → ℕ
made (Node ring) = 1
made _ = 0

abbrev pub passed : Command → ℕ
passed (Tick by) = by
passed _ = 0

pub record Leaves (c : Command) (s t : Stage) : Type 0 where
  pub long : length t.nodes ≡ length s.nodes + made c
  pub clock : t.clock ≡ s.clock + passed c

leaves-of : (c : Command) (s t : Stage) → made c ≡ 0 → passed c ≡ 0 → Stays s t → Leaves c s t
leaves-of c s t none still p =
    record { long = omega (arith, p.long, none); clock = omega (arith, p.clock, still) }

leaves-made : (ring : ℕ) (s : Stage) (x : List Fact) (t : Stage) → Makes ring s x t → Leaves (Node ring) s t
leaves-made ring s x t h = record {
  long = ap (λ (v : Stage). length v.nodes) h.left
      ∙ length-append s.nodes (new_node (length s.nodes) first_life (with_ring ring) ∷ []);
  clock = omega (arith, ap (λ (v : Stage). v.clock) h.left);
}

leaves-ticked : (by : ℕ) (s : Stage) (x : List Fact) (t : Stage) → Ticks by s x t → Leaves (Tick by) s t
leaves-ticked by s x t h = record {
  long = omega (arith, ap (λ (v : Stage). length v.nodes) h.left);
  clock = ap (λ (v : Stage). v.clock) h.left;
}

pub does-leaves : (c : Command) (s : Stage) (x : List Fact) (t : Stage) → Does c s x t → Leaves c s t
does-leaves (Node ring) s x t h = leaves-made ring s x t h
does-leaves (Pair a b credits) s x t h =
    leaves-of (Pair a b credits) s t refl refl (stays-pairs a b credits s x t h)
does-leaves (Connect a b credits) s x t h =
    leaves-of (Connect a b credits) s t refl refl
    (stays-at (Connects b credits 0) a s x t h)
does-leaves (Disconnect n session) s x t h =
    leaves-of (Disconnect n session) s t refl refl
    (stays-at (Disconnects session) n s x t h)
does-leaves (Rate n session rate) s x t h =
    leaves-of (Rate n session rate) s t refl refl
    (stays-at (SetsRate session rate) n s x t h)
does-leaves (Call n session y ask room) s x t h =
    leaves-of (Call n session y ask room) s t refl refl
    (stays-at (Asks session y (ask_bytes ask) room) n s x t h)
does-leaves (Poll n) s x t h = leaves-of (Poll n) s t refl refl (stays-polled n s x t h)
does-leaves (Arrive i) s x t h =
    leaves-of (Arrive i) s t refl refl (stays-arrives i (nat_lt i (length s.flight)) s x t h)
does-leaves (Lose i) s x t h =
    leaves-of (Lose i) s t refl refl (stays-net (or_missed s.flight i (Lost i)) s x t h)
does-leaves (Repeat i) s x t h =
    leaves-of (Repeat i) s t refl refl (stays-net (or_missed s.flight i (Repeated i)) s x t h)
does-leaves (Tick by) s x t h = leaves-ticked by s x t h
does-leaves (Work n i) s x t h =
    leaves-of (Work n i) s t refl refl (stays-at (Works s.worked i) n s x t h)
does-leaves (Settle rounds) s x t h =
    leaves-of (Settle rounds) s t refl refl (stays-settles rounds s x t h)
does-leaves (Restart n) s x t h =
    leaves-of (Restart n) s t refl refl (stays-restarted n s x t h)

-- a delivery sends nothing
delivery-flight : (me peer : ℕ) (bytes : List ℕ) (copies : List InFlight) (a b c d : Bool)
    → flight_after_all copies (with_bytes me (cond a (cond b (Arrived peer) (Overflowed peer))
    (cond c (cond d (Arrived peer) (Overflowed peer)) (Bad peer))) bytes ∷ []) ≡ copies
delivery-flight me peer bytes copies true true c d = refl
delivery-flight me peer bytes copies true false c d = refl
delivery-flight me peer bytes copies false b true true = refl
delivery-flight me peer bytes copies false b true false = refl
delivery-flight me peer bytes copies false b false d = refl

place-within : {A : Type 0} (xs : List A) (i : ℕ) (x : A) → slice_get xs i ≡ Some x → i < length xs
place-within [] i x h = cc
place-within (y ∷ ys) zero x h = omega arith
place-within (y ∷ ys) (suc i) x h = let less = place-within ys i x h in omega (arith, less)

-- a copy that is carried is in flight no more
carried-flight : (i : ℕ) (s : Stage) (x : List Fact) (t : Stage) → Carries i s x t
    → length t.flight + 1 ≡ length s.flight
carried-flight i s x t h =
    let l = h.arrives.before.lists in
    let same : flight_after_all (remove s.flight i) h.delivered ≡ remove s.flight i =
    ap (λ (y : List Fact). flight_after_all (remove s.flight i) y) h.arrives.step.facts
    ∙ delivery-flight l.me h.copy.from h.copy.bytes (remove s.flight i)
    (is_message h.copy.bytes) (nat_lt (length l.ring) l.room) (is_control h.copy.bytes)
    (nat_lt (length l.inbox) inbox_room) in
    let left : t.flight ≡ remove s.flight i = ap (λ (v : Stage). v.flight) h.arrives.left ∙ same in
    let fewer : length (remove s.flight i) + 1 ≡ length s.flight =
    length-remove s.flight i (place-within s.flight i h.copy h.is_copy) in
    rw left fewer

pub times-flight : (n : ℕ) (s : Stage) (x : List Fact) (t : Stage) → Times (Carries 0) n s x t
    → length t.flight + n ≡ length s.flight
times-flight zero s x t h = omega (arith, ap (λ (v : Stage). length v.flight) h.1)
times-flight (suc n) s x t h =
    let before = times-flight n s h.group h.between h.does in
    let here = carried-flight 0 h.between h.rest t h.follows in
    omega (arith, before, here)

-- as many endpoints as the stage has nodes
pub ends-long : (s : Play) → length (stage_of s).nodes ≡ length s.ends
ends-long s = length-map s.ends told_end

-- what the world has before each command it has after it
pub performed-long : (P : Group) → StaysBy P → (s t : Play) (f g : List Fact) → Performed P s t f g
    → length t.ends ≡ length s.ends
performed-long P p s t f g h =
    sym (ends-long t) ∙ ((p (stage_of s) h.group (stage_of t) h.does).long ∙ ends-long s)

pub performed-numbered : (P : Group) → StaysBy P → (s t : Play) (f g : List Fact)
    → Performed P s t f g → IsNumbered s → IsNumbered t
performed-numbered P p s t f g h m = record {
  playing = h.keeps m.playing;
  few = let same = performed-long P p s t f g h in omega (arith, same, m.few);
}

made-few : (n : ℕ) (c : Command) → Names n c → n ≤ 8 → n + made c ≤ 8
made-few n (Node ring) h few = omega (arith, h)
made-few n _ h few = omega (arith, few)

pub does-long : (c : Command) (s t : Play) (f g : List Fact) → Performed (Does c) s t f g
    → length t.ends ≡ length s.ends + made c
does-long c s t f g h =
    sym (ends-long t) ∙ ((does-leaves c (stage_of s) h.group (stage_of t) h.does).long
    ∙ ap (λ n. n + made c) (ends-long s))

pub does-numbered : (c : Command) (s t : Play) (f g : List Fact) → Names (length s.ends) c
    → Performed (Does c) s t f g → IsNumbered s → IsNumbered t
does-numbered c s t f g names h m = record {
  playing = h.keeps m.playing;
  few =
      let less = made-few (length s.ends) c names m.few in
      let long = does-long c s t f g h in
      omega (arith, long, less);
}

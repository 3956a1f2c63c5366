-- Each datagram on its way was sent.
use Rattle.rpc_laws.specs.UsualLimits.{with_ring}
use Rattle.std.proofs.Common.{false, ◌≡◌, ℕ, List, [], ◌∷◌, length, refl, ap, ◌∙◌, subst}
use Rattle.rpc_base.specs.declared.event.Event.{Event}
use Rattle.rpc_base.specs.declared.event.Event.TheVariants.{Made, Sent}
use Rattle.rpc_base.specs.declared.fact.Fact.{Fact}
use Rattle.rpc_base.specs.declared.fact.Who.{Who}
use Rattle.rpc_base.specs.declared.fact.Who.TheVariants.{Node}
use Rattle.rpc_laws.specs.declared.tables.Lists.{Lists}
use Rattle.rpc_laws.specs.BufferSafety.{SentRight, clock_after, nodes_after}
use Rattle.rpc_laws.specs.Facts.{plain}
use Rattle.end_laws.specs.Genuine.{WasSent, Travels}
use Rattle.end_laws.specs.Moments.{Moment, moved, Always, clock_left, nodes_left}
use Rattle.end_laws.proofs.Valids.{AllValid, valid-net, valid-made, valid-node, valid-pair}
use Rattle.end_laws.proofs.Courses.{made_as, resets, AtNode, Course, over, in_net, made, at_node, pairs, client_fact, paired}
use Rattle.end_laws.proofs.SendsLaw.{AllRight, sent-right, right-noted, right-net, right-made, right-paired}
use Rattle.end_laws.proofs.TravelLemmas.{SentGives, travels-map, travels-net, travels-node}
use Rattle.end_laws.proofs.TravelLemmas.{rings-made, inboxes-made, travels-client, travels-paired}
use Rattle.rpc_laws.specs.Endpoints.{Lived, life_by, told}
use Rattle.rpc_base.specs.declared.event.Event.TheVariants.{Restarted}
use Rattle.end_laws.proofs.SendsLaw.{right-restart}
use Rattle.end_laws.proofs.Valids.{valid-restart}
use Rattle.end_laws.proofs.TravelLemmas.{travels-restart}
use Rattle.std.proofs.Common.{slice_get, Some, ◌+◌}
use Rattle.end_laws.proofs.Courses.{restarts}
use Rattle.end_laws.proofs.Courses.{server_fact}

-- the clock and the lists are those that the facts so far leave
pub record Matches (w : Moment) : Type 0 where
  pub clock : w.clock ≡ clock_left w.past
  pub nodes : w.nodes ≡ nodes_left w.past

pub matches-moved : (w : Moment) (f : Fact) → Matches w → Matches (moved w f)
matches-moved w f m = record {
  clock = ap (clock_after f.who f.event) m.clock;
  nodes = ap (λ (c : ℕ). nodes_after c w.nodes f) m.clock
      ∙ ap (λ (ns : List Lists). nodes_after (clock_left w.past) ns f) m.nodes;
}

abbrev Sends : Moment → ℕ → ℕ → List ℕ → Type 0
Sends w = WasSent w.past

sent-more : (past : List Lived) (f : Lived) (from to : ℕ) (bytes : List ℕ)
    → WasSent past from to bytes → WasSent (f ∷ past) from to bytes
sent-more past f from to bytes s = record {
  later = f ∷ s.later;
  earlier = s.earlier;
  life = s.life;
  owner = s.owner;
  number = s.number;
  head = s.head;
  body = s.body;
  in_past = ap (λ (p : List Lived). f ∷ p) s.in_past;
  own = s.own;
  whole = s.whole;
}

more : (w : Moment) (f : Lived) → Travels (WasSent w.past) w → Travels (WasSent (f ∷ w.past)) w
more w f t = travels-map (WasSent w.past) (WasSent (f ∷ w.past)) w (sent-more w.past f) t

sent-gives : (w : Moment) (n : ℕ) (who : Who) (e : Event) (first second : List ℕ) → who ≡ Node n
    → Matches w → SentRight w.nodes n e first second
    → SentGives (WasSent (told w.past (record { who = who; event = e; first = first; second = second }) ∷ w.past))
    n e first second
sent-gives w n who (Sent peer o k) first second is m s = record {
  later = [];
  earlier = w.past;
  life = life_by n w.past;
  owner = o;
  number = k;
  head = first;
  body = second;
  in_past = ap (λ (p : Who). told w.past (record { who = p; event = Sent peer o k; first = first; second = second }) ∷ w.past) is;
  own = subst (λ (ns : List Lists). SentRight ns n (Sent peer o k) first second) m.nodes s;
  whole = refl;
}
sent-gives w n who _ first second is m s = tt

at-node : (w : Moment) (n : ℕ) (l : Lists) (f : Fact) → AtNode w n l f → AllRight w → AllValid w
    → Matches w
    → Travels (WasSent w.past) w → Travels (WasSent (told w.past f ∷ w.past)) (moved w f)
at-node w n l f a i v m t =
    travels-node (WasSent (told w.past f ∷ w.past)) w n l f a
    (sent-gives w n f.who f.event f.first f.second (a.allowed.who ∙ ap Node a.me) m
    (sent-right w.nodes n w.hand l f.event f.first f.second a.is_node (i n l a.is_node)
    (v n l a.is_node) a.allowed.may)) (more w (told w.past f) t)

at-made : (w : Moment) (ring : ℕ) → Travels (WasSent w.past) w
    → Travels (WasSent (told w.past (plain (length w.nodes) (Made ring)) ∷ w.past))
    (moved w (plain (length w.nodes) (Made ring)))
at-made w ring t =
    let f : Lived = told w.past (plain (length w.nodes) (Made ring)) in
    let k = more w f t in
    record {
      flight = k.flight;
      hand = k.hand;
      rings = rings-made (WasSent (f ∷ w.past)) w (with_ring ring) k;
      inboxes = inboxes-made (WasSent (f ∷ w.past)) w (with_ring ring) k;
    }

-- a node is restarted: what it held is gone
at-restart : (w : Moment) (n : ℕ) (l : Lists) → slice_get w.nodes n ≡ Some l
    → Travels (WasSent w.past) w
    → Travels (WasSent (told w.past (plain n (Restarted (l.life + 1))) ∷ w.past))
    (moved w (plain n (Restarted (l.life + 1))))
at-restart w n l is t =
    let f : Lived = told w.past (plain n (Restarted (l.life + 1))) in
    travels-restart (WasSent (f ∷ w.past)) w n l is (more w f t)

pub course-genuine : (w : Moment) (h : List Fact) (u : Moment) → Course false w h u → AllRight w
    → AllValid w
    → Matches w → Travels (WasSent w.past) w → Always (λ w. Travels (WasSent w.past) w) w h
course-genuine _ _ _ (over w) i v m t = t
course-genuine _ _ _ (made_as w limits h u is c) i v m t = absurd (cc)
course-genuine _ _ _ (resets w clock h u is c) i v m t = absurd (cc)
course-genuine _ _ _ (in_net w f h u who c) i v m t = (
  t,
  course-genuine (moved w f) h u c (right-net w f who i) (valid-net w f who v) (matches-moved w f m)
      (travels-net (WasSent (told w.past f ∷ w.past)) w f who (more w (told w.past f) t)),
)
course-genuine _ _ _ (made w ring h u c) i v m t = (
  t,
  course-genuine _ h u c (right-made w (with_ring ring) i) (valid-made w (with_ring ring) v)
      (matches-moved w (plain (length w.nodes) (Made ring)) m)
      (at-made w ring t),
)
course-genuine _ _ _ (at_node w n l f h u a c) i v m t = (
  t,
  course-genuine (moved w f) h u c (right-noted w n l f a i) (valid-node w n l f a v)
      (matches-moved w f m) (at-node w n l f a i v m t),
)
course-genuine _ _ _ (restarts w n l h u is me life c) i v m t = (
  t,
  course-genuine _ h u c (right-restart w n l is i) (valid-restart w n l is v)
      (matches-moved w (plain n (Restarted (l.life + 1))) m)
      (at-restart w n l is t),
)
course-genuine _ _ _ (pairs w n m credits client server h u e c) i valid k t =
    let one_fact : Fact = client_fact n m credits client server in
    let one : Lived = told w.past one_fact in
    let first : Travels (WasSent (one ∷ w.past)) (moved w one_fact) =
    travels-client (WasSent (one ∷ w.past)) w n m credits client server e (more w one t) in
    let v : Moment = paired w n m credits client server in
    let both : Travels (WasSent v.past) w =
    travels-map (WasSent (one ∷ w.past)) (WasSent v.past) w (sent-more (one ∷ w.past) (told (one ∷ w.past) (server_fact n m credits client server)))
    (more w one t) in (
      t,
      (
        first,
        course-genuine v h u c (right-paired w n m credits client server e i)
            (valid-pair w n m credits client server e valid)
            (matches-moved (moved w one_fact) (server_fact n m credits client server)
            (matches-moved w one_fact k))
            (travels-paired (WasSent v.past) w n m credits client server e both),
      ),
    )

-- In a joint run each datagram on its way was sent by its sender to its node.
use Rattle.rpc_laws.specs.UsualLimits.{with_ring}
use Rattle.std.proofs.Common.{Bool, ◌≡◌, ◌+◌, ℕ, List, [], ◌∷◌, length, None, refl, ap, ◌∙◌, subst}
use Rattle.rpc_base.specs.declared.event.Event.{Event}
use Rattle.rpc_base.specs.declared.event.Event.TheVariants.{Made, Restarted, Sent}
use Rattle.rpc_base.specs.declared.fact.Fact.{Fact}
use Rattle.rpc_base.specs.declared.fact.Who.{Who}
use Rattle.rpc_base.specs.declared.fact.Who.TheVariants.{Node}
use Rattle.rpc_laws.specs.Endpoints.{Lived, told}
use Rattle.rpc_laws.specs.Facts.{plain}
use Rattle.node_laws.specs.CallHistory.{latest_first}
use Rattle.end_laws.specs.Genuine.{WasPut, Travels}
use Rattle.end_laws.specs.JointRun.{Party, Joint, JointRun, moment_left}
use Rattle.end_laws.specs.Moments.{Moment, moved, first_moment, lived_first}
use Rattle.end_laws.proofs.Courses.{made_as, made_at, Course, over, in_net, made, at_node, pairs, restarts}
use Rattle.end_laws.proofs.Courses.{resets, clocked, client_fact, server_fact, paired}
use Rattle.end_laws.proofs.JointLaws.{joint-leaves, left-is}
use Rattle.end_laws.proofs.TravelLemmas.{SentGives, travels-map, travels-net, travels-node}
use Rattle.end_laws.proofs.TravelLemmas.{rings-made, inboxes-made, travels-paired, travels-restart}
use Rattle.std.specs.Prelude.{map}

-- the facts, without lives
abbrev facts_of : List Lived → List Fact
facts_of past = map (λ f. f.fact) past

facts-first : (past : List Lived) (h : List Fact)
    → facts_of (lived_first past h) ≡ latest_first (facts_of past) h
facts-first past [] = refl
facts-first past (f ∷ h) = facts-first (told past f ∷ past) h

abbrev PutBy : List Lived → (from to : ℕ) → List ℕ → Type 0
PutBy past = WasPut (facts_of past)

put-more : (past : List Lived) (f : Lived) (from to : ℕ) (bytes : List ℕ)
    → PutBy past from to bytes → PutBy (f ∷ past) from to bytes
put-more past f from to bytes s = record {
  later = f.fact ∷ s.later;
  earlier = s.earlier;
  owner = s.owner;
  number = s.number;
  head = s.head;
  body = s.body;
  in_past = ap (λ (p : List Fact). f.fact ∷ p) s.in_past;
  spelled = s.spelled;
}

more : (w : Moment) (f : Lived) → Travels (PutBy w.past) w → Travels (PutBy (f ∷ w.past)) w
more w f t = travels-map (PutBy w.past) (PutBy (f ∷ w.past)) w (put-more w.past f) t

put-gives : (w : Moment) (n : ℕ) (who : Who) (e : Event) (first second : List ℕ) → who ≡ Node n
    → SentGives (PutBy (told w.past (record { who = who; event = e; first = first; second = second }) ∷ w.past))
    n e first second
put-gives w n who (Sent peer o k) first second is = record {
  later = [];
  earlier = facts_of w.past;
  owner = o;
  number = k;
  head = first;
  body = second;
  in_past = ap (λ (p : Who). record { who = p; event = Sent peer o k; first = first; second = second }
      ∷ facts_of w.past) is;
  spelled = refl;
}
put-gives w n who _ first second is = tt

pub course-put : {free : Bool} (w : Moment) (h : List Fact) (u : Moment) → Course free w h u
    → Travels (PutBy w.past) w → Travels (PutBy u.past) u
course-put _ _ _ (over w) t = t
course-put _ _ _ (in_net w f h u who c) t =
    course-put (moved w f) h u c (travels-net (PutBy (told w.past f ∷ w.past)) w f who (more w (told w.past f) t))
course-put _ _ _ (made w ring h u c) t =
    let f : Lived = told w.past (plain (length w.nodes) (Made ring)) in
    let k = more w f t in
    course-put _ h u c (record {
      flight = k.flight;
      hand = k.hand;
      rings = rings-made (PutBy (f ∷ w.past)) w (with_ring ring) k;
      inboxes = inboxes-made (PutBy (f ∷ w.past)) w (with_ring ring) k;
    })
course-put _ _ _ (at_node w n l f h u a c) t =
    course-put (moved w f) h u c (travels-node (PutBy (told w.past f ∷ w.past)) w n l f a
    (put-gives w n f.who f.event f.first f.second (a.allowed.who ∙ ap Node a.me)) (more w (told w.past f) t))
course-put _ _ _ (restarts w n l h u is me life c) t =
    let f : Lived = told w.past (plain n (Restarted (l.life + 1))) in
    course-put _ h u c (travels-restart (PutBy (f ∷ w.past)) w n l is (more w f t))
course-put _ _ _ (pairs w n m credits client server h u e c) t =
    let one : Lived = told w.past (client_fact n m credits client server) in
    let v : Moment = paired w n m credits client server in
    let both : Travels (PutBy v.past) w =
    travels-map (PutBy (one ∷ w.past)) (PutBy v.past) w (put-more (one ∷ w.past)
    (told (one ∷ w.past) (server_fact n m credits client server))) (more w one t) in
    course-put v h u c (travels-paired (PutBy v.past) w n m credits client server e both)
course-put _ _ _ (made_as w limits h u is c) t =
    let f : Lived = told w.past (plain (length w.nodes) (Made limits.ring)) in
    let k = more w f t in
    course-put (made_at w limits) h u c (record {
      flight = k.flight;
      hand = k.hand;
      rings = rings-made (PutBy (f ∷ w.past)) w limits k;
      inboxes = inboxes-made (PutBy (f ∷ w.past)) w limits k;
    })
course-put _ _ _ (resets w clock h u is c) t =
    course-put (clocked w clock) h u c (record { flight = t.flight; hand = t.hand; rings = t.rings; inboxes = t.inboxes })

pub joint-genuine : (parties : ℕ → Party) (h : List Fact) (t : Joint) → JointRun parties h t
    → Travels (WasPut (latest_first [] h)) (moment_left h t)
joint-genuine parties h t run =
    let l = joint-leaves parties h t run in
    let k = course-put first_moment h l.end l.course
    (record {
      flight = tt;
      hand = tt;
      rings = λ n l is. absurd (cc);
      inboxes = λ n l is. absurd (cc);
    }) in
    let past : facts_of l.end.past ≡ latest_first [] h = ap facts_of l.past ∙ facts-first [] h in
    subst (λ (w : Moment). Travels (WasPut (latest_first [] h)) w) (left-is h t l)
    (subst (λ (p : List Fact). Travels (WasPut p) (record l.end { hand = None; clock = 0 })) past
    (record { flight = k.flight; hand = tt; rings = k.rings; inboxes = k.inboxes }))

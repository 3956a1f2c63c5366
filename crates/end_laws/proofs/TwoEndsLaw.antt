-- What the two ends of a session hold is of one call.
use Rattle.rpc_laws.specs.UsualLimits.{with_ring}
use Rattle.std.proofs.Common.{false, ◌≡◌, ℕ, suc, List, [], ◌∷◌, Option, Some, None, refl, sym, ap, subst, Contains}
use Rattle.std.specs.Prelude.{IfSome}
use Rattle.std.specs.List.{AllByRecursion}
use Rattle.rpc_base.specs.declared.event.Event.TheVariants.{Ran}
use Rattle.rpc_base.specs.declared.fact.Fact.{Fact}
use Rattle.rpc_laws.specs.declared.tables.Asking.{Asking}
use Rattle.rpc_laws.specs.declared.tables.Call.{Call}
use Rattle.rpc_laws.specs.declared.tables.Job.{Job}
use Rattle.rpc_laws.specs.declared.tables.Lists.{Lists}
use Rattle.rpc_laws.specs.declared.tables.Progress.{Progress}
use Rattle.rpc_laws.specs.declared.tables.Served.{Served}
use Rattle.rpc_laws.specs.declared.tables.Way.{Way}
use Rattle.rpc_laws.specs.BufferSafety.{changed}
use Rattle.rpc_laws.specs.NodeLists.{after}
use Rattle.rpc_laws.specs.OwnAnswer.{IsCallOf}
use Rattle.end_laws.specs.Moments.{Moment, moved, Always}
use Rattle.end_laws.specs.TwoEnds.{here, peer_of, HoldsCall, IsOfCall, IsOfJob, IsOfRun, IsOfSession, TwoEnds}
use Rattle.end_laws.proofs.Valids.{AllValid, valid-net, valid-made, valid-node, valid-pair}
use Rattle.end_laws.proofs.Courses.{made_as, resets, Ends, Course, over, in_net, made, at_node, pairs, client_fact, paired}
use Rattle.end_laws.proofs.GoodSteps.{good-net, good-made, good-node}
use Rattle.end_laws.proofs.Known.{Known, Begin, GoodAnswer, GoodProgress, GoodCall, GoodClient}
use Rattle.end_laws.proofs.Known.{HasRun, GoodServed, GoodServer, GoodJob, Good, IsTrue}
use Rattle.end_laws.proofs.Known.{contains-more}
use Rattle.end_laws.proofs.KnownLemmas.{ran-there, ends-more}
use Rattle.end_laws.proofs.ListLemmas.{Placed, all-map, all-add, set-placed}
use Rattle.end_laws.proofs.OwnLaw.{good-paired}
use Rattle.end_laws.proofs.OwnLemmas.{call-of}
use Rattle.end_laws.proofs.SendsLaw.{AllRight, right-noted, right-net, right-made, right-paired}
use Rattle.rpc_base.proofs.BasicLemmas.{if-map}
use Rattle.rpc_laws.specs.Endpoints.{Endpoint, Lived, noted_two, told}
use Rattle.end_laws.proofs.SendsLaw.{right-restart}
use Rattle.end_laws.proofs.Valids.{valid-restart}
use Rattle.end_laws.proofs.GoodSteps.{good-restart}
use Rattle.end_laws.proofs.Courses.{restarts}

-- claims of each place are claims of all elements
pub placed-all : {A : Type 0} (P : ℕ → A → Type 0) (Q : A → Type 0) (xs : List A)
    → ((i : ℕ) (x : A) → P i x → Q x) → Placed P xs → AllByRecursion Q xs
placed-all P Q [] f h = tt
placed-all P Q (x ∷ xs) f h = (f 0 x (h 0 x refl), placed-all (λ i. P (suc i)) Q xs (λ i. f (suc i)) (λ i. h (suc i)))

module _ (k : Known) (is_true : IsTrue k) where
  holds-of : (m : Endpoint) (way : Way) (q : Served) → (g : GoodServed k m way q)
      → HoldsCall k.past m way q g.start.what.number g.start.what.room g.start.what.ask
  holds-of m way q g =
      let a = g.start.what in
      record {
        own = call-of k.past (peer_of way) way.other q.number g.start a.number m way.number q.number
            q.req_type a.ask (is_true.starts (peer_of way) way.other q.number g.start g.begun) refl
            (ap peer_of g.way_is)
            (ap (λ (w : Way). w.other) g.way_is) refl (sym g.req_type) refl;
        size = g.size;
        parts = g.ask;
        answer = if-map (HasRun k m way.number q.number a)
            (λ answer. Contains k.past (noted_two m (Ran way.number q.number q.req_type) a.ask
            answer)) q.answer (λ answer r. subst (λ (y : ℕ). Contains k.past
            (noted_two m (Ran way.number q.number y) a.ask answer)) (sym g.req_type)
            (ran-there (is_true.runs m way.number q.number _ r))) g.answer;
      }

  served-of : (m : Endpoint) (way : Way) (q : Served) → GoodServed k m way q → IsOfCall k.past m way q
  served-of m way q g =
      record {
        call = g.start.what.number;
        room = g.start.what.room;
        ask = g.start.what.ask;
        holds = holds-of m way q g;
      }

  job-of-call : (m : Endpoint) (job : Job) → GoodJob k m job → IsOfJob k.past m job
  job-of-call m job g =
      let a = g.start.what in
      record {
        node = g.end.home;
        call = a.number;
        room = a.room;
        own = call-of k.past g.end.home g.end.client job.request g.start a.number m job.session
            job.request job.req_type job.ask (is_true.starts g.end.home g.end.client job.request
            g.start g.begun) refl (ap peer_of g.way_is)
            (ap (λ (w : Way). w.other) g.way_is) refl (sym g.req_type) (sym g.own);
      }

  run-of : (way : Way) (a : Asking) (p : Progress) (answer : Option ℕ)
      → GoodAnswer k way a p.request p.got p.parts answer → IfSome answer (IsOfRun k.past way a p)
  run-of way a p None h = tt
  run-of way a p (Some size) h =
      record {
        answer = h.answer;
        ran = ran-there (is_true.runs (peer_of way) way.other p.request _ h.ran);
        sized = h.sized;
        parts = h.taken;
      }

  session-of : (n : Endpoint) (way : Way) (a : Asking) (p : Progress) → GoodProgress k n way a p
      → IsOfSession k.past n way a p
  session-of n way a p g =
      let b : Begin = record { way = way; what = a } in
      record {
        own = call-of k.past n way.number p.request b a.number (peer_of way) way.other p.request
            a.req_type a.ask (is_true.starts n way.number p.request b g.begun) refl refl refl refl
            refl refl;
        answer = run-of way a p p.answer g.answer;
      }

  call-is : (n : Endpoint) (way : Way) (c : Call) → GoodCall k n way c → IfSome c.progress (IsOfSession k.past n way c.what)
  call-is n way c g = if-map (GoodProgress k n way c.what)
      (IsOfSession k.past n way c.what) c.progress (session-of n way c.what) g.progress

pub good-ends : (w : Moment) → AllRight w → Good w → TwoEnds w
good-ends w i g =
    let k = g.known in
    record {
      servers = λ m l is. subst (λ (past : List Lived). AllByRecursion
          (λ v. AllByRecursion (IsOfCall past (here m l) v.way) v.slots) l.servers) g.past
          (all-map (GoodServer k (here m l)) (λ v. AllByRecursion (IsOfCall k.past (here m l) v.way) v.slots)
          l.servers (λ v s. all-map (GoodServed k (here m l) v.way)
          (IsOfCall k.past (here m l) v.way) v.slots (served-of k g.is_true (here m l) v.way) s.slots)
          ((g.nodes m l is).servers));
      jobs = λ m l is. subst (λ (past : List Lived). AllByRecursion (IsOfJob past (here m l)) l.jobs.out) g.past
          (all-map (GoodJob k (here m l)) (IsOfJob k.past (here m l)) l.jobs.out (job-of-call k g.is_true (here m l)) ((g.nodes m l is).jobs));
      clients = λ n l is. subst (λ (past : List Lived). AllByRecursion
          (λ x. AllByRecursion (λ c. IfSome c.progress (IsOfSession past (here n l) x.way c.what)) x.calls)
          l.clients) g.past
          (placed-all (GoodClient k (here n l)) (λ x. AllByRecursion
          (λ c. IfSome c.progress (IsOfSession k.past (here n l) x.way c.what)) x.calls) l.clients
          (λ i x s. all-map (GoodCall k (here n l) x.way)
          (λ c. IfSome c.progress (IsOfSession k.past (here n l) x.way c.what)) x.calls
          (call-is k g.is_true (here n l) x.way) s.calls) ((g.nodes n l is).clients));
    }

-- between the two facts of a pairing
module _ (f : Lived) (past : List Lived) where
  more-call : (n : Endpoint) (c : ℕ) (m : Endpoint) (t r y room : ℕ) (ask : List ℕ) → IsCallOf past n c m t r y room ask
      → IsCallOf (f ∷ past) n c m t r y room ask
  more-call n c m t r y room ask h =
      record {
        session = h.session;
        ends = ends-more f past n h.session m t h.ends;
        asked = contains-more f _ past h.asked;
        begun = contains-more f _ past h.begun;
      }

  more-holds : (m : Endpoint) (way : Way) (q : Served) (call room : ℕ) (ask : List ℕ)
      → HoldsCall past m way q call room ask → HoldsCall (f ∷ past) m way q call room ask
  more-holds m way q call room ask h = record {
    own = more-call (peer_of way) call m way.number q.number q.req_type room ask h.own;
    size = h.size;
    parts = h.parts;
    answer = if-map (λ a. Contains past (noted_two m (Ran way.number q.number q.req_type) ask a))
        (λ a. Contains (f ∷ past) (noted_two m (Ran way.number q.number q.req_type) ask a)) q.answer
        (λ a c. contains-more f _ past c) h.answer;
  }

  more-served : (m : Endpoint) (way : Way) (q : Served) → IsOfCall past m way q → IsOfCall (f ∷ past) m way q
  more-served m way q h =
      record {
        call = h.call;
        room = h.room;
        ask = h.ask;
        holds = more-holds m way q h.call h.room h.ask h.holds;
      }

  more-session : (n : Endpoint) (way : Way) (a : Asking) (p : Progress) → IsOfSession past n way a p
      → IsOfSession (f ∷ past) n way a p
  more-session n way a p h = record {
    own = more-call n a.number (peer_of way) way.other p.request a.req_type a.room a.ask h.own;
    answer = if-map (IsOfRun past way a p) (IsOfRun (f ∷ past) way a p) p.answer
        (λ size r. record {
          answer = r.answer;
          ran = contains-more f _ past r.ran;
          sized = r.sized;
          parts = r.parts;
        }) h.answer;
  }

  more-jobs : (m : Endpoint) (jobs : List Job) → AllByRecursion (IsOfJob past m) jobs
      → AllByRecursion (IsOfJob (f ∷ past) m) jobs
  more-jobs m jobs h =
      all-map (IsOfJob past m) (IsOfJob (f ∷ past) m) jobs
      (λ j k. record {
        node = k.node;
        call = k.call;
        room = k.room;
        own = more-call k.node k.call m j.session j.request j.req_type k.room j.ask k.own;
      }) h

  abbrev JobsOf : List Lived → ℕ → Lists → Type 0
  JobsOf p m l = AllByRecursion (IsOfJob p (here m l)) l.jobs.out

  abbrev ServersOf : List Lived → ℕ → Lists → Type 0
  ServersOf p m l = AllByRecursion (λ v. AllByRecursion (IsOfCall p (here m l) v.way) v.slots) l.servers

  abbrev ClientsOf : List Lived → ℕ → Lists → Type 0
  ClientsOf p n l = AllByRecursion (λ x. AllByRecursion
      (λ c. IfSome c.progress (IsOfSession p (here n l) x.way c.what)) x.calls) l.clients

  more-servers : (m : ℕ) (l : Lists) → ServersOf past m l → ServersOf (f ∷ past) m l
  more-servers m l h =
      all-map (λ v. AllByRecursion (IsOfCall past (here m l) v.way) v.slots)
      (λ v. AllByRecursion (IsOfCall (f ∷ past) (here m l) v.way) v.slots) l.servers
      (λ v s. all-map (IsOfCall past (here m l) v.way)
      (IsOfCall (f ∷ past) (here m l) v.way) v.slots (more-served (here m l) v.way) s) h

  more-clients : (n : ℕ) (l : Lists) → ClientsOf past n l → ClientsOf (f ∷ past) n l
  more-clients n l h =
      all-map (λ x. AllByRecursion (λ c. IfSome c.progress (IsOfSession past (here n l) x.way c.what))
      x.calls) (λ x. AllByRecursion (λ c. IfSome c.progress (IsOfSession (f ∷ past) (here n l) x.way c.what))
      x.calls) l.clients (λ x s. all-map (λ c. IfSome c.progress (IsOfSession past (here n l) x.way c.what))
      (λ c. IfSome c.progress (IsOfSession (f ∷ past) (here n l) x.way c.what)) x.calls
      (λ c t. if-map (IsOfSession past (here n l) x.way c.what)
      (IsOfSession (f ∷ past) (here n l) x.way c.what) c.progress (more-session (here n l) x.way c.what) t) s) h

between-ends : (w : Moment) (n m credits : ℕ) (client server : Lists)
    → Ends w n m credits client server → TwoEnds w
    → TwoEnds (moved w (client_fact n m credits client server))
between-ends w n m credits client server e h =
    let one : Fact = client_fact n m credits client server in
    let told_one : Lived = told w.past one in
    let nodes_are : changed w.clock (Some client) n w.nodes one ≡ (moved w one).nodes =
    ap (λ (o : Option Lists). changed w.clock o n w.nodes one) (sym e.is_client) in
    let new = all-add (λ x. AllByRecursion (λ c. IfSome c.progress
    (IsOfSession (told_one ∷ w.past) (here n client) x.way c.what)) x.calls) client.clients _
    (more-clients told_one w.past n client (h.clients n client e.is_client)) tt in
    record {
      servers = subst (λ (ns : List Lists). Placed (ServersOf told_one w.past (told_one ∷ w.past)) ns) nodes_are
          (set-placed (ServersOf told_one w.past (told_one ∷ w.past)) w.nodes n client
          (after w.clock client one) e.is_client
          (more-servers told_one w.past n client (h.servers n client e.is_client))
          (λ i l ne is. more-servers told_one w.past i l (h.servers i l is)));
      jobs = subst (λ (ns : List Lists). Placed (JobsOf told_one w.past (told_one ∷ w.past)) ns) nodes_are
          (set-placed (JobsOf told_one w.past (told_one ∷ w.past)) w.nodes n client (after w.clock client one)
          e.is_client (more-jobs told_one w.past (here n client) client.jobs.out (h.jobs n client e.is_client))
          (λ i l ne is. more-jobs told_one w.past (here i l) l.jobs.out (h.jobs i l is)));
      clients = subst (λ (ns : List Lists). Placed (ClientsOf told_one w.past (told_one ∷ w.past)) ns) nodes_are
          (set-placed (ClientsOf told_one w.past (told_one ∷ w.past)) w.nodes n client
          (after w.clock client one) e.is_client new
          (λ i l ne is. more-clients told_one w.past i l (h.clients i l is)));
    }

pub course-ends : (w : Moment) (h : List Fact) (u : Moment) → Course false w h u → AllRight w → AllValid w
    → Good w → Always TwoEnds w h
course-ends _ _ _ (over w) i v g = good-ends w i g
course-ends _ _ _ (made_as w limits h u is c) i v g = absurd (cc)
course-ends _ _ _ (resets w clock h u is c) i v g = absurd (cc)
course-ends _ _ _ (in_net w f h u who c) i v g = (
  good-ends w i g,
  course-ends (moved w f) h u c (right-net w f who i) (valid-net w f who v)
      (good-net w f who g),
)
course-ends _ _ _ (made w ring h u c) i v g = (
  good-ends w i g,
  course-ends _ h u c (right-made w (with_ring ring) i) (valid-made w (with_ring ring) v)
      (good-made w (with_ring ring) g),
)
course-ends _ _ _ (at_node w n l f h u a c) i v g = (
  good-ends w i g,
  course-ends (moved w f) h u c (right-noted w n l f a i) (valid-node w n l f a v)
      (good-node w n l f a i v g),
)
course-ends _ _ _ (restarts w n l h u is me life c) i v g = (
  good-ends w i g,
  course-ends _ h u c (right-restart w n l is i) (valid-restart w n l is v)
      (good-restart w n l is me g),
)
course-ends _ _ _ (pairs w n m credits client server h u e c) i v g = (
  good-ends w i g,
  (
    between-ends w n m credits client server e (good-ends w i g),
    course-ends (paired w n m credits client server) h u c
        (right-paired w n m credits client server e i) (valid-pair w n m credits client server e v)
        (good-paired w n m credits client server e i v g),
  ),
)

-- A handler runs for a call that began, and its answer is known from then on.
use Rattle.std.proofs.Common.{[], ◌≡◌, ◌⊎◌, inl, inr, ℕ, List, ◌∷◌, Option, Some, None, refl, sym, ap, ◌∙◌, subst, arith}
use Rattle.std.specs.List.{find}
use Rattle.std.proofs.lemmas.Bool.{and_parts, eqb-true, eq-eqb}
use Rattle.std.proofs.Common.{Bool, true, false, cond, ◌+◌, ◌≤◌, ◌==◌, ◌&&◌}
use Rattle.rpc_base.proofs.BasicLemmas.{false-true}
use Rattle.rpc_laws.specs.AtMostOnce.{runs_request}
use Rattle.node_laws.proofs.Allowed.{Allowed as Lawful}
use Rattle.node_laws.proofs.JobLemmas.{run-spends}
use Rattle.node_laws.specs.Valid.{Valid, to_run}
use Rattle.rpc_base.specs.Tables.{at_first}
use Rattle.rpc_base.proofs.TakingLemmas.{find-passes}
use Rattle.rpc_base.specs.declared.event.Event.TheVariants.{Ran}
use Rattle.rpc_laws.specs.declared.tables.InFlight.{InFlight}
use Rattle.rpc_laws.specs.declared.tables.Lists.{Lists}
use Rattle.rpc_laws.specs.declared.tables.Served.{Served}
use Rattle.rpc_laws.specs.declared.tables.Server.{Server}
use Rattle.rpc_laws.specs.NodeLists.{after}
use Rattle.rpc_laws.specs.Requests.{is_server, is_request, answered}
use Rattle.rpc_laws.specs.Jobs.{is_job}
use Rattle.end_laws.proofs.Allowed.{MayServe, MayFinish, MayRun}
use Rattle.end_laws.proofs.GoodLemmas.{SameAt, client-more, run-left, starts-stay}
use Rattle.end_laws.proofs.JobSteps.{whole-ask, whole-good, jobs-good}
use Rattle.end_laws.proofs.Known.{Known, Later, End, Begin, Run, GoodServed, GoodServer, GoodJob}
use Rattle.end_laws.proofs.Known.{GoodNode}
use Rattle.end_laws.proofs.Known.{TrueRun, IsTrue, added, added-here, added-keeps}
use Rattle.end_laws.proofs.Known.{added-none, added-case, contains-more}
use Rattle.end_laws.proofs.KnownLemmas.{run-more, served-later, server-later, session-later, jobs-later}
use Rattle.end_laws.proofs.KnownLemmas.{server-more-end}
use Rattle.end_laws.proofs.KnownLemmas.{start-more, ask-more}
use Rattle.end_laws.proofs.ListLemmas.{all-first, all-found}
use Rattle.end_laws.proofs.Rights.{job-number}
use Rattle.rpc_laws.specs.Endpoints.{Endpoint, Lived, noted_two}
use Rattle.end_laws.specs.TwoEnds.{peer_of}

-- the request that runs is of a call that began, and the handler has that call's bytes
pub record RunOf (k : Known) (n : Endpoint) (t r y : ℕ) (ask : List ℕ) : Type 0 where
  pub end : End
  pub is_end : k.ends n t 0 ≡ Some end
  pub start : Begin
  pub begun : k.starts end.home end.client r ≡ Some start
  pub way_is : start.way
      ≡ record { number = end.client; peer = n.node; other = t; life = n.life }
  pub of_type : y ≡ start.what.req_type
  pub own : ask ≡ start.what.ask

serve-of : (k : Known) (n : Endpoint) (l : Lists) (t r y : ℕ) (ask : List ℕ) → GoodNode k n l
    → MayServe l t r y ask → RunOf k n t r y ask
serve-of k n l t r y ask g m =
    let w = m.has in
    let q = w.request in
    let v = w.server in
    let h = whole-good k n l t r w g in
    let number : q.number ≡ r = eqb-true q.number r
    (find-passes (is_request r) v.slots q w.is_there) in
    record {
      end = record { home = peer_of v.way; client = v.way.other; credits = v.credits };
      is_end = subst (λ (s : ℕ). k.ends n s 0 ≡ Some
          (record { home = peer_of v.way; client = v.way.other; credits = v.credits }))
          h.number h.server.session.end;
      start = h.served.start;
      begun = subst (λ (i : ℕ). k.starts (peer_of v.way) v.way.other i ≡ Some h.served.start) number
          h.served.begun;
      way_is = h.served.way_is ∙ ap (λ (s : ℕ).
          record { number = v.way.other; peer = n.node; other = s; life = n.life }) h.number;
      of_type = m.of_type ∙ h.served.req_type;
      own = m.own ∙ whole-ask k n l t r w h.served;
    }

finish-of : (k : Known) (n : Endpoint) (l : Lists) (t r y : ℕ) (ask : List ℕ) → GoodNode k n l
    → MayFinish l t r y ask → RunOf k n t r y ask
finish-of k n l t r y ask g m =
    let job = m.job in
    let of = job-number t r l.jobs.out job m.is_out in
    let good : GoodJob k n job = all-found (GoodJob k n) (is_job t r) l.jobs.out job g.jobs m.is_out in
    record {
      end = good.end;
      is_end = subst (λ (s : ℕ). k.ends n s 0 ≡ Some good.end) of.0 good.is_end;
      start = good.start;
      begun = subst (λ (i : ℕ). k.starts good.end.home good.end.client i ≡ Some good.start) of.1
          good.begun;
      way_is = good.way_is ∙ ap (λ (s : ℕ).
          record { number = good.end.client; peer = n.node; other = s; life = n.life }) of.0;
      of_type = m.of_type ∙ good.req_type;
      own = m.own ∙ good.own;
    }

some-end : (a b : End) → Some a ≡ Some b → a ≡ b
some-end a b e = cc

some-begin : (a b : Begin) → Some a ≡ Some b → a ≡ b
some-begin a b e = cc

-- the call of what runs is that of its slot
slot-start : (k : Known) (n : Endpoint) (v : Server) (q : Served) (t r y : ℕ) (ask : List ℕ)
    → (o : RunOf k n t r y ask) → GoodServer k n v → v.way.number ≡ t → q.number ≡ r
    → (g : GoodServed k n v.way q) → o.start ≡ g.start
slot-start k n v q t r y ask o server at number g =
    let end : k.ends n t 0 ≡ Some (record {
      home = peer_of v.way;
      client = v.way.other;
      credits = v.credits;
    }) =
    subst (λ (s : ℕ). k.ends n s 0 ≡ Some
    (record { home = peer_of v.way; client = v.way.other; credits = v.credits }))
    at server.session.end in
    let same : o.end ≡ record { home = peer_of v.way; client = v.way.other; credits = v.credits } =
    some-end o.end _ (sym o.is_end ∙ end) in
    let here : k.starts (peer_of v.way) v.way.other r ≡ Some o.start =
    subst (λ (x : End). k.starts x.home x.client r ≡ Some o.start) same o.begun in
    some-begin o.start g.start (sym here
    ∙ (ap (k.starts (peer_of v.way) v.way.other) (sym number) ∙ g.begun))

pub run-of : (k : Known) (n : Endpoint) (l : Lists) (t r y : ℕ) (ask : List ℕ) → GoodNode k n l
    → MayServe l t r y ask ⊎ MayFinish l t r y ask → RunOf k n t r y ask
run-of k n l t r y ask g (inl m) = serve-of k n l t r y ask g m
run-of k n l t r y ask g (inr m) = finish-of k n l t r y ask g m

-- a request runs
abbrev pub with_run : Known → (n : Endpoint) (t r y : ℕ) → (ask answer : List ℕ) → Known
with_run k n t r y ask answer = record {
  past = noted_two n (Ran t r y) ask answer ∷ k.past;
  ends = k.ends;
  asks = k.asks;
  starts = k.starts;
  runs = added k.runs n t r (record { req_type = y; ask = ask; answer = answer });
}

module _ (k : Known) (n : Endpoint) (t r y : ℕ) (ask answer : List ℕ) where
  abbrev ran_fact : Lived
  ran_fact = noted_two n (Ran t r y) ask answer

  abbrev entry : Run
  entry = record { req_type = y; ask = ask; answer = answer }

  abbrev knows : Known
  knows = with_run k n t r y ask answer

  pub later-run : k.runs n t r ≡ None → Later k knows
  later-run none = record {
    past = λ g h. contains-more ran_fact g k.past h;
    ends = λ i j m x h. h;
    asks = λ i j m x h. h;
    starts = λ i j m x h. h;
    runs = λ i j m x h. added-keeps k.runs n t r entry i j m x none h;
  }

  pub run-same : (j : Endpoint) → (j ≡ n → ⊥) → SameAt k knows j
  run-same j ne = record {
    asks = λ d h. h;
    ends = λ s h. h;
    starts = λ s q h. h;
    runs = λ s q h. added-none k.runs n t r entry j s q (λ e x z. ne e) h;
  }

  pub true-run : RunOf k n t r y ask → IsTrue k → IsTrue knows
  true-run o g = record {
    ends = λ i j m x h. server-more-end ran_fact k.past x.home x.client i j (g.ends i j m x h);
    asks = λ i j m x h. ask-more ran_fact k.past i j m x (g.asks i j m x h);
    starts = λ i j m x h. start-more ran_fact k.past i j m x (g.starts i j m x h);
    runs = added-case k.runs n t r entry (TrueRun knows)
        (record {
          later = [];
          earlier = k.past;
          stands = refl;
          end = o.end;
          is_end = o.is_end;
          start = o.start;
          begun = o.begun;
          true_start = g.starts o.end.home o.end.client r o.start o.begun;
        })
        (λ i j m x h. run-more k knows (ran_fact ∷ []) refl (λ a b c x h. h) (λ a b c x h. h) i j m x
        (g.runs i j m x h));
  }

  module _ (l : Lists) (o : RunOf k n t r y ask) (g : GoodNode k n l) (valid : Valid l)
      (lawful : Lawful l (Ran t r y)) where
    runs-itself : runs_request t r (Ran t r y) ≡ true
    runs-itself = rw (eq-eqb t t refl, eq-eqb r r refl) refl

    spent : (clock : ℕ) → 1 + to_run t r (after clock l ran_fact.fact) ≤ to_run t r l
    spent clock =
        let all = run-spends t r l valid clock ran_fact.fact lawful in
        subst (λ (b : Bool). cond b 1 0 + to_run t r (after clock l ran_fact.fact) ≤ to_run t r l)
        runs-itself all

    -- its first run
    pub is-new : k.runs n t r ≡ None
    is-new = g.no_runs t r (let less = spent 0 in omega arith)

    ran-good : (v : Server) (q : Served) → GoodServer k n v → v.way.number ≡ t → q.number ≡ r
        → GoodServed k n v.way q → GoodServed knows n v.way (answered answer q)
    ran-good v q server at number s =
        let same = slot-start k n v q t r y ask o server at number s in
        let here : knows.runs n v.way.number q.number ≡ Some entry =
        rw (at, number) (added-here k.runs n t r entry) in
        let of_type : y ≡ s.start.what.req_type = o.of_type
        ∙ ap (λ (b : Begin). b.what.req_type) same in
        let own : ask ≡ s.start.what.ask = o.own ∙ ap (λ (b : Begin). b.what.ask) same in
        let same_entry : entry ≡ record {
          req_type = s.start.what.req_type;
          ask = s.start.what.ask;
          answer = answer;
        } = ap (λ (x : ℕ).
        record { req_type = x; ask = ask; answer = answer }) of_type
        ∙ ap (λ (x : List ℕ). record {
          req_type = s.start.what.req_type;
          ask = x;
          answer = answer;
        }) own in
        record {
          start = s.start;
          begun = s.begun;
          way_is = s.way_is;
          req_type = s.req_type;
          size = s.size;
          ask = refl;
          answer = here ∙ ap Some same_entry;
        }

    ran-server : Later k knows → (v : Server) → find (is_server t) l.servers ≡ Some v
        → GoodServer k n v
        → GoodServer knows n (record v {
          slots = at_first (is_request r)
              (answered answer) v.slots;
        })
    ran-server later v found server =
        let at = eqb-true v.way.number t (find-passes (is_server t) l.servers v found) in
        record {
          session = session-later k knows later n v.way.number (peer_of v.way) v.way.other v.credits
              server.session;
          slots = all-first (GoodServed k n v.way) (GoodServed knows n v.way) (is_request r)
              (answered answer) v.slots (served-later k knows later n v.way)
              (λ z is z_good. ran-good v z server at
              (eqb-true z.number r (find-passes (is_request r) v.slots z is)) z_good) server.slots;
        }

    no-more : (clock : ℕ) (s q : ℕ) (b : Bool) → (s == t && q == r) ≡ b
        → 1 ≤ to_run s q (after clock l ran_fact.fact) → knows.runs n s q ≡ None
    no-more clock s q true e some =
        let parts = and_parts (s == t) (q == r) e in
        let here : 1 ≤ to_run t r (after clock l ran_fact.fact) =
        subst (λ (x : ℕ). 1 ≤ to_run x r (after clock l ran_fact.fact)) (eqb-true s t parts.0)
        (subst (λ (x : ℕ). 1 ≤ to_run s x (after clock l ran_fact.fact)) (eqb-true q r parts.1) some) in
        let less = spent clock in
        let few = valid.runs t r in
        absurd (omega arith)
    no-more clock s q false e some =
        added-none k.runs n t r entry n s q
        (λ x f h. false-true (sym e ∙ (let one : (s == t) ≡ true = eq-eqb s t f in
        let two : (q == r) ≡ true = eq-eqb q r h in rw (one, two) refl)))
        (g.no_runs s q (run-left l ran_fact.fact valid lawful clock s q some))

    pub run-node : (clock : ℕ) (hand : Option InFlight) → MayRun l t r y ask
        → GoodNode knows n (after clock l ran_fact.fact)
    run-node clock hand m =
        let later = later-run is-new in
        let jobs = jobs-good k n hand l (Ran t r y) ask answer m g in
        record {
          clients = λ j x is. client-more k knows later n j x (λ q h. h) (g.clients j x is);
          servers = all-first (GoodServer k n) (GoodServer knows n) (is_server t)
              (λ v. record v { slots = at_first (is_request r) (answered answer) v.slots })
              l.servers
              (server-later k knows later n) (ran-server later) g.servers;
          jobs = jobs-later k knows later n _ jobs;
          no_asks = λ c le. g.no_asks c le;
          no_ends = λ s le. g.no_ends s le;
          no_starts = λ s q le. g.no_starts s q le;
          begun = λ s q b is. starts-stay l ran_fact.fact valid lawful clock s b (g.begun s q b is);
          no_runs = λ s q some. no-more clock s q (s == t && q == r) refl some;
        }

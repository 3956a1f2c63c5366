-- A pairing, and the law of own answers over a whole history.
use Rattle.rpc_laws.specs.UsualLimits.{with_ring}
use Rattle.std.proofs.Common.{Bool, true, false, true, false, ◌≡◌, ◌+◌, ℕ, List, [], ◌∷◌, ◌++◌, length, Option, Some, None}
use Rattle.std.proofs.Common.{slice_get, refl, sym, ap, ◌∙◌, subst, arith}
use Rattle.std.specs.List.{slice_set}
use Rattle.std.proofs.Common.{◌⊎◌, inl, inr}
use Rattle.std.proofs.lemmas.Bool.{eq-eqb}
use Rattle.rpc_laws.specs.Requests.{is_server}
use Rattle.end_laws.proofs.SessionLemmas.{add-new, none-made}
use Rattle.end_laws.proofs.Known.{LiveAt}
use Rattle.std.proofs.lemmas.List.{length-append}
use Rattle.rpc_base.specs.declared.fact.Fact.{Fact}
use Rattle.rpc_base.specs.declared.fact.Who.{Who}
use Rattle.rpc_base.specs.declared.fact.Who.TheVariants.{Node}
use Rattle.rpc_base.proofs.PlaceLemmas.{set-here, set-other}
use Rattle.rpc_laws.specs.declared.tables.Lists.{Lists}
use Rattle.rpc_laws.specs.BufferSafety.{changed}
use Rattle.rpc_laws.specs.NodeLists.{after}
use Rattle.rpc_laws.specs.OwnAnswer.{IsClientEnd, IsServerEnd, served_by, OwnEvent, OwnAt, AtEach}
use Rattle.rpc_laws.specs.Requests.{server_end}
use Rattle.rpc_laws.specs.Sessions.{client_end}
use Rattle.end_laws.specs.Moments.{Moment, moved}
use Rattle.end_laws.proofs.Courses.{made_as, made_at, resets, clocked, AtNode, Ends, Course, over, in_net, made, at_node, pairs}
use Rattle.end_laws.proofs.Courses.{client_fact, server_fact, paired}
use Rattle.end_laws.proofs.GoodLemmas.{SameAt, client-more, node-more, run-left, starts-stay}
use Rattle.end_laws.proofs.GoodSteps.{GoodNext, NewEnds, good-net, good-made, good-node}
use Rattle.end_laws.proofs.Known.{Known, Later, End, Speaks, GoodClient, GoodServer, GoodNode, Good}
use Rattle.end_laws.proofs.Known.{TrueEnd, IsTrue, Unmade, added, added-here, added-keeps}
use Rattle.end_laws.proofs.Known.{added-none, added-case, contains-here, contains-more}
use Rattle.end_laws.proofs.KnownLemmas.{run-more, servers-later, jobs-later, speaks-later, server-more-end}
use Rattle.end_laws.proofs.KnownLemmas.{start-more}
use Rattle.end_laws.proofs.KnownLemmas.{ask-more}
use Rattle.end_laws.specs.Handshakes.{IsMade}
use Rattle.end_laws.proofs.ListLemmas.{Placed, set-placed, add-placed, all-add}
use Rattle.end_laws.proofs.OwnLemmas.{own-event}
use Rattle.end_laws.proofs.SendsLaw.{AllRight, right-noted, right-net, right-made, right-paired}
use Rattle.rpc_laws.specs.Service.{Serving, AnswersAt}
use Rattle.end_laws.proofs.AnswerLemmas.{AnswersFor, AnswersEach}
use Rattle.end_laws.proofs.TravelLemmas.{travels-map, travels-paired}
use Rattle.end_laws.proofs.Valids.{AllValid, valid-net, valid-made, valid-node, valid-pair}
use Rattle.rpc_laws.specs.Endpoints.{Endpoint, Lived, life_by, present, told}
use Rattle.end_laws.specs.TwoEnds.{here}
use Rattle.std.proofs.Common.{◌==◌, ◌&&◌, Bool, true, false, cond}
use Rattle.end_laws.proofs.Known.{IsAhead}
use Rattle.end_laws.proofs.GoodSteps.{Nodes, ahead-set, good-restart, not-ahead, told-here}
use Rattle.end_laws.proofs.Courses.{restarts}
use Rattle.end_laws.proofs.SendsLaw.{right-restart}
use Rattle.end_laws.proofs.Valids.{valid-restart}

module _ (w : Moment) (n m credits : ℕ) (client server : Lists)
    (e : Ends w n m credits client server) (i0 : AllRight w) (v : AllValid w) (g : Good w) where
  abbrev s : ℕ
  s = length client.clients

  abbrev t : ℕ
  t = server.server_numbers

  abbrev one : Fact
  one = client_fact n m credits client server

  abbrev other : Fact
  other = server_fact n m credits client server

  -- the two endpoints, and the facts with their lives
  abbrev near : Endpoint
  near = here n client

  abbrev far : Endpoint
  far = here m server

  abbrev first_told : Lived
  first_told = record { life = client.life; fact = one }

  abbrev then_told : Lived
  then_told = record { life = server.life; fact = other }

  abbrev j : Known
  j = g.known

  abbrev entry : End
  entry = record { home = near; client = s; credits = credits }

  -- the session is known
  abbrev k : Known
  k = record {
    past = then_told ∷ first_told ∷ g.known.past;
    ends = added g.known.ends far t 0 entry;
    asks = g.known.asks;
    starts = g.known.starts;
    runs = g.known.runs;
  }

  client-good : GoodNode j near client
  client-good = g.nodes n client e.is_client

  server-good : GoodNode j far server
  server-good = g.nodes m server e.is_server

  is-new : j.ends far t 0 ≡ None
  is-new = server-good.no_ends t (omega arith)

  later : Later j k
  later = record {
    past = λ f h. contains-more then_told f (first_told ∷ j.past) (contains-more first_told f j.past h);
    ends = λ a b c x h. added-keeps j.ends far t 0 entry a b c x is-new h;
    asks = λ a b c x h. h;
    starts = λ a b c x h. h;
    runs = λ a b c x h. h;
  }

  others-same : (i : Endpoint) → (i ≡ far → ⊥) → SameAt j k i
  others-same i ne = record {
    asks = λ c h. h;
    ends = λ d h. added-none j.ends far t 0 entry i d 0 (λ x y z. ne x) h;
    starts =
        λ a r h. h;
    runs = λ d r h. h;
  }

  true-paired : IsTrue k
  true-paired =
      let new : IsServerEnd k.past near s far t =
      IsServerEnd.paired credits (contains-here then_told (first_told ∷ j.past)) in
      let is = g.is_true in
      record {
        ends = added-case j.ends far t 0 entry (TrueEnd k.past) new
            (λ a b c x h. server-more-end then_told (first_told ∷ j.past) x.home x.client a b
            (server-more-end first_told j.past x.home x.client a b (is.ends a b c x h)));
        asks = λ a b c x h. ask-more then_told (first_told ∷ j.past) a b c x (ask-more first_told j.past a b c x (is.asks a b c x h));
        starts = λ a b c x h. start-more then_told (first_told ∷ j.past) a b c x
            (start-more first_told j.past a b c x (is.starts a b c x h));
        runs = λ a b c x h. run-more j k (then_told ∷ first_told ∷ []) refl
            (λ a b c x h. added-keeps j.ends far t 0 entry a b c x is-new h) (λ a b c x h. h) a b c x (is.runs a b c x h);
      }

  apart : near ≡ far → ⊥
  apart same = e.two (ap (λ (x : Endpoint). x.node) same)

  at-client : GoodNode k near (after w.clock client one)
  at-client =
      let new : GoodClient k near s (client_end s m t credits server.life) = record {
        number = refl;
        tied = record {
          end = added-here j.ends far t 0 entry;
          client = IsClientEnd.paired credits
              (contains-more then_told first_told (first_told ∷ j.past) (contains-here first_told j.past));
        };
        eight = refl;
        fresh = λ r le. client-good.no_starts s r (omega arith);
        calls = tt;
      } in
      let more : length (client.clients ++ client_end s m t credits server.life ∷ []) ≡ s + 1 =
      length-append client.clients (client_end s m t credits server.life ∷ []) in
      record {
        clients = add-placed (GoodClient k near) client.clients (client_end s m t credits server.life) new
            (λ i x is. client-more j k later near i x (λ r h. h) (client-good.clients i x is));
        servers = servers-later j k later near client.servers client-good.servers;
        no_asks = client-good.no_asks;
        no_ends = λ d le. (others-same near apart).ends d (client-good.no_ends d le);
        no_starts = λ i r le. client-good.no_starts i r (omega arith);
        begun = λ i r b is. starts-stay client one (v n client e.is_client)
            (record { numbered = refl; room = e.fits_client }) w.clock i b
            (client-good.begun i r b is);
        no_runs = λ d r some. client-good.no_runs d r (run-left client one (v n client e.is_client)
            (record { numbered = refl; room = e.fits_client }) w.clock d r some);
        jobs = jobs-later j k later near client.jobs.out client-good.jobs;
      }

  at-server : GoodNode k far (after w.clock server other)
  at-server =
      let new : GoodServer k far (server_end t n s credits client.life) = record {
        session = record {
          end = added-here j.ends far t 0 entry;
          made = IsMade.paired (contains-here then_told (first_told ∷ j.past));
        };
        slots = tt;
      } in
      record {
        clients = λ i x is. client-more j k later far i x (λ r h. h) (server-good.clients i x is);
        servers = all-add (GoodServer k far) server.servers (server_end t n s credits client.life)
            (servers-later j k later far server.servers server-good.servers) new;
        no_asks = server-good.no_asks;
        no_ends = λ d le. added-none j.ends far t 0 entry far d 0 (λ x y z. absurd (omega arith))
            (server-good.no_ends d (omega arith));
        no_starts = server-good.no_starts;
        begun = server-good.begun;
        no_runs = λ d r some. server-good.no_runs d r
            (run-left server other (v m server e.is_server)
            (record { numbered = refl; room = e.fits_server }) w.clock d r some);
        jobs = jobs-later j k later far server.jobs.out server-good.jobs;
      }

  -- each of the two facts has the life of its node
  pasts : k.past ≡ (paired w n m credits client server).past
  pasts =
      let one_is : told w.past one ≡ first_told = told-here w n client one refl e.client_life in
      let still : life_by m (told w.past one ∷ w.past) ≡ life_by m w.past = refl-life in
      let other_is : told (told w.past one ∷ w.past) other ≡ then_told =
      ap (λ (x : ℕ). record { life = x; fact = other }) (still ∙ sym e.server_life) in
      ap (λ (p : List Lived). then_told ∷ first_told ∷ p) g.past
      ∙ (ap (λ (x : Lived). then_told ∷ x ∷ w.past) (sym one_is)
      ∙ ap (λ (x : Lived). x ∷ told w.past one ∷ w.past) (sym other_is))
    where
      both-no : (c : Bool) → cond (c && false) (life_by m w.past + 1) (life_by m w.past) ≡ life_by m w.past
      both-no true = refl
      both-no false = refl

      refl-life : life_by m (told w.past one ∷ w.past) ≡ life_by m w.past
      refl-life = both-no (n == m)

  pub next-paired : GoodNext (paired w n m credits client server) j
  next-paired =
      let client2 = after w.clock client one in
      let server2 = after w.clock server other in
      let nodes1 : List Lists = slice_set w.nodes n client2 in
      let nodes2 : List Lists = slice_set nodes1 m server2 in
      let at : slice_get nodes1 m ≡ Some server =
      set-other w.nodes n m client2 (λ x. e.two (sym x)) ∙ e.is_server in
      let first : changed w.clock (slice_get w.nodes n) n w.nodes one ≡ nodes1 =
      ap (λ (o : Option Lists). changed w.clock o n w.nodes one) e.is_client in
      let all : (paired w n m credits client server).nodes ≡ nodes2 =
      ap (λ (ns : List Lists). changed w.clock (slice_get ns m) m ns other) first
      ∙ ap (λ (o : Option Lists). changed w.clock o m nodes1 other) at in
      let placed1 : Placed (λ i l. (i ≡ m → ⊥) → GoodNode k (here i l) l) nodes1 =
      set-placed (λ i l. (i ≡ m → ⊥) → GoodNode k (here i l) l) w.nodes n client
      client2 e.is_client (λ ne. at-client)
      (λ i z ne is other_node. node-more j k later (here i z) z
      (others-same (here i z) (λ same. other_node (ap (λ (x : Endpoint). x.node) same)))
      (g.nodes i z is)) in
      let placed2 : Nodes k nodes2 =
      set-placed (λ i l. GoodNode k (here i l) l) nodes1 m server server2 at at-server
      (λ i z ne is. placed1 i z is ne) in
      let u = g.unmade in
      let before : (i : Endpoint) → IsAhead nodes2 i → IsAhead w.nodes i =
      λ i ahead. ahead-set w.nodes n client client2 i e.is_client (omega arith)
      (ahead-set nodes1 m server server2 i at (omega arith) ahead) in
      let differs : (i : Endpoint) → IsAhead w.nodes i → (i ≡ far → ⊥) =
      λ i ahead same. not-ahead w.nodes m server e.is_server (subst (IsAhead w.nodes) same ahead) in
      let unmade : Unmade k nodes2 = record {
        asks = λ i c le. u.asks i c (before i le);
        ends = λ i d le. (others-same i (differs i (before i le))).ends d (u.ends i d (before i le));
        starts = λ i a r le. u.starts i a r (before i le);
        runs = λ i a r le. u.runs i a r (before i le);
      } in
      let there : slice_get (paired w n m credits client server).nodes m ≡ Some server2 =
      ap (λ (ns : List Lists). slice_get ns m) all ∙ set-here nodes1 m server server2 at in
      let ends-now : NewEnds (paired w n m credits client server).nodes j k =
      λ i d x is. added-case j.ends far t 0 entry
      (λ a b c x. (j.ends a b c ≡ Some x) ⊎ LiveAt (paired w n m credits client server).nodes a.node b)
      (inr (record {
        lists = server2;
        is_node = there;
        server = server_end t n s credits client.life;
        found = add-new (is_server t) server.servers (server_end t n s credits client.life)
            (eq-eqb t t refl)
            (none-made t t server.servers (i0 m server e.is_server).alone (omega arith));
      })) (λ a b c x h. inl h) i d 0 x is in
      record {
        good = record {
          known = k;
          past = pasts;
          nodes = subst (Nodes k) (sym all) placed2;
          travels = travels-map (Speaks j) (Speaks k) (paired w n m credits client server)
              (speaks-later j k later) (travels-paired (Speaks j) w n m credits client server e
              g.travels);
          is_true = true-paired;
          unmade = subst (Unmade k) (sym all) unmade;
        };
        later = later;
        ends = ends-now;
      }

  pub good-paired : Good (paired w n m credits client server)
  good-paired = next-paired.good

-- what is known doesn't read the clock
abbrev pub good-clocked : (w : Moment) (clock : ℕ) → Good w → Good (clocked w clock)
good-clocked w clock g = record {
  known = g.known;
  past = g.past;
  nodes = g.nodes;
  travels = record {
    flight = g.travels.flight;
    hand = g.travels.hand;
    rings = g.travels.rings;
    inboxes = g.travels.inboxes;
  };
  is_true = g.is_true;
  unmade = g.unmade;
}

module _ (services : ℕ → Serving) where
  own-at : (w : Moment) (n : ℕ) (l : Lists) (f : Fact) → AtNode w n l f
      → AnswersFor services w.past f.who f.event f.first f.second → Good w
      → OwnAt services w.past f.who f.event f.first f.second
  own-at w n l f a t g =
      let k = g.known in
      let v = services n in
      let who : f.who ≡ Node n = a.allowed.who ∙ ap Node a.me in
      let answer : AnswersAt v (served_by v.mode n k.past) f.event f.first f.second =
      subst (λ (p : List Lived). AnswersAt v (served_by v.mode n p) f.event f.first
      f.second) (sym g.past) (subst (λ (p : Who). AnswersFor services w.past p f.event f.first
      f.second) who t) in
      let own : OwnEvent v k.past (here n l) f.event f.first f.second =
      own-event k (here n l) l (g.nodes n l a.is_node) g.is_true v w.hand f.event
      f.first f.second answer a.allowed.may in
      let now : OwnEvent v w.past (here n l) f.event f.first f.second =
      subst (λ (p : List Lived). OwnEvent v p (here n l) f.event f.first f.second) g.past own in
      let present_is : OwnEvent v w.past (present n w.past) f.event f.first f.second =
      subst (λ (x : ℕ). OwnEvent v w.past (record { node = n; life = x }) f.event f.first f.second)
      a.life now in
      subst (λ (p : Who). OwnAt services w.past p f.event f.first f.second) (sym who) present_is

  pub course-own : {free : Bool} (w : Moment) (h : List Fact) (u : Moment) → Course free w h u → AllRight w → AllValid w
      → AnswersEach services w.past h → Good w
      → AtEach (λ past f. OwnAt services past f.who f.event f.first f.second) w.past h
  course-own _ _ _ (over w) i v t g = tt
  course-own _ _ _ (made_as w limits h u is c) i v t g =
      (tt, course-own (made_at w limits) h u c (right-made w limits i) (valid-made w limits v) t.1 (good-made w limits g))
  course-own _ _ _ (resets w clock h u is c) i v t g =
      course-own (clocked w clock) h u c i v t (good-clocked w clock g)
  course-own _ _ _ (in_net w f h u who c) i v t g = (
    subst (λ (p : Who). OwnAt services w.past p f.event f.first f.second) (sym who) tt,
    course-own (moved w f) h u c (right-net w f who i) (valid-net w f who v) t.1 (good-net w f who g),
  )
  course-own _ _ _ (made w ring h u c) i v t g = (
    tt,
    course-own _ h u c (right-made w (with_ring ring) i) (valid-made w (with_ring ring) v) t.1 (good-made w (with_ring ring) g),
  )
  course-own _ _ _ (at_node w n l f h u a c) i v t g = (
    own-at w n l f a t.0 g,
    course-own (moved w f) h u c (right-noted w n l f a i) (valid-node w n l f a v) t.1
        (good-node w n l f a i v g),
  )
  course-own _ _ _ (restarts w n l h u is me life c) i v t g = (
    tt,
    course-own _ h u c (right-restart w n l is i) (valid-restart w n l is v) t.1
        (good-restart w n l is me g),
  )
  course-own _ _ _ (pairs w n m credits client server h u e c) i v t g = (
    tt,
    (
      tt,
      course-own (paired w n m credits client server) h u c
          (right-paired w n m credits client server e i)
          (valid-pair w n m credits client server e v) t.1.1
          (good-paired w n m credits client server e i v g),
    ),
  )

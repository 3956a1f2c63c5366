-- A pairing at two endpoints is a step of a wire run.
use Rattle.std.proofs.Common.{◌≡◌, ◌<◌, ℕ, Bool, true, false, List, [], ◌∷◌, ◌++◌, length, Option}
use Rattle.std.proofs.Common.{Some}
use Rattle.std.proofs.Common.{None, slice_get, refl, sym, ap, ◌∙◌, subst, append_assoc, leb}
use Rattle.std.proofs.lemmas.Bool.{leb-false}
use Rattle.std.specs.List.{slice_set}
use Rattle.rpc_base.specs.declared.event.Event.{Event}
use Rattle.rpc_base.specs.declared.event.Event.TheVariants.{PairedClient, PairedServer}
use Rattle.rpc_base.specs.declared.fact.Fact.{Fact}
use Rattle.rpc_base.specs.declared.fact.Who.TheVariants.{Node}
use Rattle.rpc_base.specs.declared.limits.TheConstants.{SESSION_NUMBERS}
use Rattle.rpc_base.proofs.PlaceLemmas.{set-here}
use Rattle.rpc_outside.specs.Recording.{Log}
use Rattle.rpc_outside.specs.declared.service.Service as Service
use Rattle.rpc_laws.specs.declared.tables.InFlight.{InFlight}
use Rattle.rpc_laws.specs.declared.tables.Lists.{Lists}
use Rattle.rpc_laws.specs.declared.tables.Timed.{Timed}
use Rattle.rpc_laws.specs.Facts.{plain}
use Rattle.rpc_laws.specs.Groups.{refusal_by}
use Rattle.rpc_laws.specs.NodeLists.{after_all}
use Rattle.rpc_laws.specs.Service.{Answers, rules_of, served_after_all}
use Rattle.rpc_laws.specs.Steps.{Goes, Rel}
use Rattle.rpc_laws.proofs.AnswerLemmas.{served-append}
use Rattle.rpc_laws.proofs.RunLemmas.{me-after_all}
use Rattle.end_laws.specs.JointRun.{Joint, at_node, noted_by}
use Rattle.end_laws.specs.WireRun.{WireStep, WireSteps, more, pairs}
use Rattle.node_steps.specs.Pairs.{PairsClient, PairsServer, or_refused}
use Rattle.endpoint_loop.specs.Endpoints.{Running}
use Rattle.endpoint_loop.proofs.StandingLaw.{client-still, server-still}
use Rattle.node_steps.proofs.NoteStill.{AllStill}
use Rattle.node_steps.proofs.NoteCounts.{is_work}
use Rattle.turn_laws.specs.Endpoints.{IsEndpoint, seen}
use Rattle.turn_laws.specs.Pairs.{PairsGoOnWires}
use Rattle.turn_laws.proofs.DeedLemmas.{parts-grow}
use Rattle.turn_laws.proofs.EndpointLemmas.{Part, quiet-part}
use Rattle.turn_laws.proofs.GoesLemmas.{here-part, stays-other}
use Rattle.turn_laws.proofs.JoinLemmas.{endpoint-stays}
use Rattle.worker_crew.specs.declared.workers.Workers as Workers
use Rattle.world_laws.proofs.FactLemmas.{AllAt, facts-grow}

-- where nothing is refused, a number is left
number-left : (n credits : ℕ) (s : Lists) (b : Bool) → leb SESSION_NUMBERS n ≡ b
    → refusal_by b credits s ≡ None → n < SESSION_NUMBERS
number-left n credits s true e h = cc
number-left n credits s false e h = leb-false SESSION_NUMBERS n e

both-set : (nodes : List Timed) (flight : List InFlight) (a b : ℕ) (s t u v : Timed) → s ≡ t → u ≡ v
    → ◌≡◌ {A = Joint} (record { nodes = slice_set (slice_set nodes a s) b u; flight = flight })
    (record { nodes = slice_set (slice_set nodes a t) b v; flight = flight })
both-set nodes flight a b s t u v e f = rw (e, f) refl

module _ {V W : Type 0} (service : Service.Ghosts V) (workers : Workers.Ghosts W) where
  -- an endpoint that makes an end of a pair
  record MakesEnd (n : ℕ) (event : Event) (g x : List Fact) (a b : Running V W) : Type 0 where
    facts : x ≡ plain a.timed.lists.me event ∷ []
    left : seen workers b ≡ noted_by (seen workers a) (plain a.timed.lists.me event)
    at : AllAt n x
    answers : Answers (rules_of service) (served_after_all service.mode_of [] (at_node n g)) x
    unworked : AllStill is_work x
    goes : (t : Joint) → slice_get t.nodes n ≡ Some (seen workers b)
        → IsEndpoint service workers n (g ++ x) t b

  makes-end : (n : ℕ) (event : Event) (g x : List Fact) (s : Joint) (a b : Running V W) (P : Rel)
      → IsEndpoint service workers n g s a → Part service workers P x a b
      → x ≡ plain a.timed.lists.me event ∷ [] → Goes (seen workers a) x (seen workers b)
      → MakesEnd n event g x a b
  makes-end n event g x s a b P is p facts goes =
      let own : AllAt n x = rw facts (ap Node is.me, tt) in
      let told = p.answers (served_after_all service.mode_of [] (at_node n g)) is.serves in
      let before : Timed = seen workers a in
      record {
        facts = facts;
        left = goes ∙ ap (λ (y : List Fact). record {
          lists = after_all before.clock before.lists y;
          clock = before.clock;
        }) facts;
        at = own;
        answers = told.0;
        unworked = p.unworked;
        goes = λ t is_node. record {
          is_node = is_node;
          me = ap (λ (z : Timed). z.lists.me) goes
              ∙ (me-after_all before.clock before.lists x ∙ is.me);
          serves = subst (service.stands b.service)
              (sym (ap (served_after_all service.mode_of []) (facts-grow n g x own)
              ∙ served-append service.mode_of [] (at_node n g) x)) told.1;
          staffed = p.staffed;
        };
      }

module _ {R V W P X Y : Type 0} (log : R → Log) (service : Service.Ghosts V)
    (workers : Workers.Ghosts W) (other_log : P → Log) (other_service : Service.Ghosts X)
    (other_workers : Workers.Ghosts Y) where
  pub pairs-go : PairsGoOnWires log service workers other_log other_service other_workers
  pairs-go parties a b credits g s client new_client server new_server before now from to two few
      serving_a serving_b run at_a at_b c v =
      let x = c.makes.noted in
      let y = v.makes.noted in
      let session = length client.timed.lists.clients in
      let number = server.timed.lists.server_numbers in
      let client_life = client.timed.lists.life in
      let server_life = server.timed.lists.life in
      let client_event : Event = PairedClient session b number credits server_life in
      let server_event : Event = PairedServer number a session credits client_life in
      let p = quiet-part service workers log
      (PairsClient b number credits server_life) client new_client before now
      c.makes (client-still b number credits server_life) c.leaves at_a.staffed in
      let q = quiet-part other_service other_workers other_log
      (PairsServer a session credits client_life) server
      new_server from to v.makes (server-still a session credits client_life) v.leaves at_b.staffed in
      let first = makes-end service workers a client_event g x s client new_client
      (PairsClient b number credits server_life) at_a p
      (p.step.facts ∙ ap (λ (o : Option Event). plain client.timed.lists.me
      (or_refused o client_event) ∷ []) c.accepted) p.step.goes in
      let mid : Joint = record {
        nodes = slice_set s.nodes a (seen workers new_client);
        flight = s.flight;
      } in
      let at_mid = endpoint-stays other_service other_workers b g (g ++ x) s mid server
      (stays-other a b g x s (seen workers new_client) s.flight (λ e. two (sym e)) first.at) at_b in
      let second = makes-end other_service other_workers b server_event
      (g ++ x) y mid server new_server
      (PairsServer a session credits client_life) at_mid q
      (q.step.facts ∙ ap (λ (o : Option Event). plain server.timed.lists.me
      (or_refused o server_event) ∷ []) v.accepted) q.step.goes in
      let end : Joint = record {
        nodes = slice_set mid.nodes b (seen other_workers new_server);
        flight = s.flight;
      } in
      let at_client : Fact = plain client.timed.lists.me client_event in
      let at_server : Fact = plain server.timed.lists.me server_event in
      let both : List Fact = at_client ∷ at_server ∷ [] in
      let step : WireStep parties s both end = pairs (record {
        a = a;
        b = b;
        credits = credits;
        client = seen workers client;
        server = seen other_workers server;
        two = two;
        is_client = at_a.is_node;
        is_server = at_b.is_node;
        few = few;
        low_client = number-left session credits client.timed.lists
            (leb SESSION_NUMBERS session) refl
            c.accepted;
        low_server = number-left number credits server.timed.lists (leb SESSION_NUMBERS number) refl
            v.accepted;
        client_fits = c.accepted;
        server_fits = v.accepted;
        at_client = at_client;
        at_server = at_server;
        for_client = refl;
        for_server = refl;
        facts = refl;
        left = both-set s.nodes s.flight a b (seen workers new_client)
            (noted_by (seen workers client) at_client) (seen other_workers new_server)
            (noted_by (seen other_workers server) at_server) first.left second.left;
      }) in
      let facts : g ++ both ≡ (g ++ x) ++ y =
      sym (ap (λ (z : List Fact). (g ++ z) ++ y) first.facts
      ∙ (ap (λ (z : List Fact). (g ++ at_client ∷ []) ++ z) second.facts
      ∙ append_assoc g (at_client ∷ []) (at_server ∷ []))) in
      let one = parts-grow parties a g x first.at
      (here-part service parties a g x serving_a
      (record { answers = run.answers a; worked_once = run.worked_once a }) first.answers
      first.unworked)
      (λ m. record { answers = run.answers m; worked_once = run.worked_once m }) in
      let two_parts = parts-grow parties b (g ++ x) y second.at
      (here-part other_service parties b (g ++ x) y serving_b
      (one b) second.answers second.unworked) one in
      record {
        end = end;
        run = record {
          steps = subst (λ (z : List Fact). WireSteps parties z end) facts
              (more run.steps both end step);
          worked_once = λ m. (two_parts m).worked_once;
          answers = λ m. (two_parts m).answers;
        };
        is_client = endpoint-stays service workers a (g ++ x) ((g ++ x) ++ y) mid end new_client
            (stays-other b a (g ++ x) y mid (seen other_workers new_server) s.flight two second.at)
            (first.goes mid (set-here s.nodes a (seen workers client) (seen workers new_client)
            at_a.is_node));
        is_server = second.goes end (set-here mid.nodes b (seen other_workers server)
            (seen other_workers new_server) at_mid.is_node);
        others = λ m not_a not_b.
            let one_stays = stays-other a m g x s
            (seen workers new_client) s.flight not_a first.at in
            let stays = stays-other b m (g ++ x) y mid
            (seen other_workers new_server) s.flight not_b
            second.at in
            record { facts = stays.facts ∙ one_stays.facts; node = stays.node ∙ one_stays.node };
        wire = refl;
      }

-- Endpoints join a wire run, and stay in it.
use Rattle.std.proofs.Common.{◌≡◌, ◌≤◌, ℕ, List, [], ◌∷◌, ◌++◌, length, Option}
use Rattle.std.proofs.Common.{refl}
use Rattle.std.proofs.Common.{sym, ap, ◌∙◌, subst, arith}
use Rattle.std.proofs.lemmas.Option.{slice_get_past}
use Rattle.rpc_base.specs.declared.event.Event.TheVariants.{Made}
use Rattle.rpc_base.specs.declared.fact.Fact.{Fact}
use Rattle.rpc_base.specs.declared.limits.Limits.{Limits}
use Rattle.rpc_outside.specs.declared.service.Service as Service
use Rattle.rpc_laws.specs.declared.tables.Timed.{Timed}
use Rattle.rpc_laws.specs.Facts.{plain}
use Rattle.rpc_laws.specs.Lives.{first_life}
use Rattle.rpc_laws.specs.NodeLists.{new_node}
use Rattle.rpc_laws.specs.Service.{served_after_all}
use Rattle.end_laws.proofs.ListLemmas.{add-last}
use Rattle.end_laws.proofs.WireJoins.{wires-join}
use Rattle.end_laws.specs.JointRun.{Joint, Party, at_node, limits_of}
use Rattle.end_laws.specs.WireRun.{WireRun, WireStep, makes, more}
use Rattle.endpoint_loop.specs.Endpoints.{Running, told}
use Rattle.turn_laws.specs.Endpoints.{seen}
use Rattle.turn_laws.specs.Joining.{EndpointsStay, NewEndpointsJoin}
use Rattle.turn_laws.proofs.DeedLemmas.{OwnPart, parts-grow}
use Rattle.turn_laws.proofs.SystemLemmas.{get-below, get-front}
use Rattle.worker_crew.specs.Jobs.{Job as CrewJob}
use Rattle.worker_crew.specs.declared.workers.Workers as Workers
use Rattle.world_laws.proofs.FactLemmas.{AllAt, facts-grow, facts-other, facts-stay}
use Rattle.world_laws.proofs.JointNodes.{joint-nodes}
use Rattle.world_laws.proofs.WorkLemmas.{worked-cons}
use Rattle.world_laws.specs.JointNodes.{PartyRunAt}

-- a number that is no node's has no facts
no-facts : (parties : ℕ → Party) (g : List Fact) (s : Joint) → WireRun parties g s → (n : ℕ)
    → length s.nodes ≤ n → at_node n g ≡ []
no-facts parties g s run n past =
    let j = wires-join parties g s run in
    sym (j.same n) ∙ subst (λ (o : Option Timed). PartyRunAt (parties n) n (at_node n j.history) o)
    (slice_get_past s.nodes n past) (joint-nodes parties j.history s j.run n)

module _ {V W : Type 0} (service : Service.Ghosts V) (workers : Workers.Ghosts W) where
  pub endpoint-stays : EndpointsStay service workers
  endpoint-stays m g h s t e stays is = record {
    is_node = stays.node ∙ is.is_node;
    me = is.me;
    serves = subst
        (λ (y : List Fact). service.stands e.service (served_after_all service.mode_of [] y))
        (sym stays.facts) is.serves;
    staffed = is.staffed;
  }

  -- what contracts see of a new endpoint is a new node
  pub new-seen : (n life : ℕ) (limits : Limits) (e : Running V W) → e.timed
      ≡ new_node n life limits
      → workers.out e.workers ≡ [] → seen workers e ≡ new_node n life limits
  new-seen n life limits e new out =
      ap (λ (o : List CrewJob). told o e.timed) out ∙ ap (λ (s : Timed). told [] s) new

  pub new-joins : NewEndpointsJoin service workers
  new-joins parties g s ring e run new out stands staffed =
      let n = length s.nodes in
      let made : List Fact = plain n (Made ring) ∷ [] in
      let own : AllAt n made = (refl, tt) in
      let none = no-facts parties g s run n (omega arith) in
      let end : Joint = record { nodes = s.nodes ++ seen workers e ∷ []; flight = s.flight } in
      let step : WireStep parties s made end = makes (record {
        ring = ring;
        facts = refl;
        left = ap (λ (t : Timed). record { nodes = s.nodes ++ t ∷ []; flight = s.flight })
            (new-seen n first_life (limits_of (parties n) ring) e new out);
      }) in
      let here : OwnPart (parties n).serving (at_node n g ++ made) = rw none (record {
        answers = (tt, tt);
        worked_once = λ t r. omega (arith, worked-cons t r (plain n (Made ring)) []);
      }) in
      let parts = parts-grow parties n g made own here
      (λ m. record { answers = run.answers m; worked_once = run.worked_once m }) in
      record {
        end = end;
        run = record {
          steps = more run.steps made end step;
          worked_once = λ m. (parts m).worked_once;
          answers = λ m. (parts m).answers;
        };
        left = refl;
        is_endpoint = record {
          is_node = add-last s.nodes (seen workers e);
          me = ap (λ (t : Timed). t.lists.me) new;
          serves = subst
              (λ (y : List Fact). service.stands e.service (served_after_all service.mode_of [] y))
              (sym (facts-grow n g made own ∙ ap (λ (y : List Fact). y ++ made) none)) stands;
          staffed = staffed;
        };
        others = λ m few.
            let at = get-below s.nodes m few in
            record {
              facts = facts-stay m g made
                  (facts-other n m made (λ e. absurd (omega (arith, e, few))) own);
              node = get-front s.nodes (seen workers e ∷ []) m at.0 at.1 ∙ sym at.1;
            };
      }

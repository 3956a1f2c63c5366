-- By what an endpoint does a wire run goes on.
use Rattle.std.proofs.Common.{◌≡◌, ℕ, List, [], ◌++◌, refl, sym}
use Rattle.std.proofs.Common.{ap, ◌∙◌}
use Rattle.std.proofs.Common.{subst, arith}
use Rattle.std.specs.List.{slice_set}
use Rattle.rpc_base.specs.declared.fact.Fact.{Fact}
use Rattle.rpc_base.proofs.PlaceLemmas.{set-here, set-other}
use Rattle.rpc_outside.specs.Linking.{Carried}
use Rattle.rpc_outside.specs.Recording.{Grew, Log}
use Rattle.rpc_outside.specs.declared.service.Service as Service
use Rattle.rpc_laws.specs.AtMostOnce.{works_request}
use Rattle.rpc_laws.specs.declared.tables.InFlight.{InFlight}
use Rattle.rpc_laws.specs.declared.tables.Timed.{Timed}
use Rattle.rpc_laws.specs.Service.{Answers, Serving, rules_of, served_after_all}
use Rattle.rpc_laws.proofs.AnswerLemmas.{answers-append, served-append}
use Rattle.end_laws.specs.JointRun.{Joint, Party, at_node}
use Rattle.end_laws.specs.WireRun.{WireRun}
use Rattle.node_steps.specs.Notes.{sent_of}
use Rattle.endpoint_loop.specs.Endpoints.{Running}
use Rattle.endpoint_loop.proofs.StandingLaw.{unworked}
use Rattle.node_steps.proofs.NoteStill.{AllStill}
use Rattle.node_steps.proofs.NoteCounts.{is_work, many-append, many-none}
use Rattle.turn_laws.specs.Deeds.{Deed, Does}
use Rattle.turn_laws.specs.Endpoints.{DoesMore, GoesOnFrom, GoesOnWire, IsEndpoint, Stays, seen}
use Rattle.turn_laws.specs.Wires.{AreOnWire, on_wire}
use Rattle.turn_laws.proofs.DeedLemmas.{OwnPart, deed-keeps, parts-grow}
use Rattle.turn_laws.proofs.EndpointLemmas.{Step, did-more}
use Rattle.turn_laws.proofs.WireLemmas.{deed-steps}
use Rattle.worker_crew.specs.declared.workers.Workers as Workers
use Rattle.world_laws.proofs.FactLemmas.{AllAt, facts-grow, facts-other, facts-stay}

-- another node stays where node n notes something
pub stays-other : (n m : ℕ) (g x : List Fact) (s : Joint) (t : Timed) (flight : List InFlight)
    → (m ≡ n → ⊥) → AllAt n x
    → Stays m g (g ++ x) s (record { nodes = slice_set s.nodes n t; flight = flight })
stays-other n m g x s t flight other own = record {
  facts = facts-stay m g x (facts-other n m x (λ e. other (sym e)) own);
  node = set-other s.nodes n m t other;
}

-- what a node's own facts add, where they are answered as its service does, and no job is worked
pub here-part : {V : Type 0} (service : Service.Ghosts V) (parties : ℕ → Party) (n : ℕ)
    (g x : List Fact) → (parties n).serving ≡ rules_of service
    → OwnPart (parties n).serving (at_node n g)
    → Answers (rules_of service) (served_after_all service.mode_of [] (at_node n g)) x
    → AllStill is_work x → OwnPart (parties n).serving (at_node n g ++ x)
here-part service parties n g x serving was answers still = record {
  answers = answers-append (parties n).serving [] (at_node n g) x was.answers
      (subst (λ (v : Serving). Answers v (served_after_all v.mode [] (at_node n g)) x)
      (sym serving) answers);
  worked_once = λ t r. omega (
    arith,
    many-append (works_request t r) (at_node n g) x,
    many-none (works_request t r) x (unworked t r x still),
    was.worked_once t r,
  );
}

module _ {V W : Type 0} (service : Service.Ghosts V) (workers : Workers.Ghosts W)
    (came : List Carried) (x : List Fact) (a b : Running V W)
    (step : Step service workers came x a b) where
  module _ (parties : ℕ → Party) (n : ℕ) (g : List Fact) (s : Joint)
      (serving : (parties n).serving ≡ rules_of service) (run : WireRun parties g s)
      (is : IsEndpoint service workers n g s a) where
    abbrev deed : Deed
    deed = record { node = a.timed.lists.me; came = came; noted = x }

    abbrev Answered : Type 0
    Answered = Answers (rules_of service) (served_after_all service.mode_of [] (at_node n g)) x
        × service.stands b.service
        (served_after_all service.mode_of (served_after_all service.mode_of [] (at_node n g)) x)

    answered : Answered
    answered = step.answers (served_after_all service.mode_of [] (at_node n g)) is.serves

    others : (m : ℕ) → OwnPart (parties m).serving (at_node m g)
    others m = record { answers = run.answers m; worked_once = run.worked_once m }

    -- the facts of the endpoint go on
    own-part : OwnPart (parties n).serving (at_node n g ++ x)
    own-part = here-part service parties n g x serving (others n) answered.0 step.unworked

    goes-on-wire : AreOnWire s.flight n came → GoesOnWire service workers parties n g s x b
    goes-on-wire on =
        let k = deed-keeps service.mode_of deed (seen workers a) (seen workers b) step.does in
        let own : AllAt n x = subst (λ (i : ℕ). AllAt i x) is.me k.at in
        let does : Does (parties n).serving.mode deed (seen workers a) (seen workers b) =
        subst (λ (v : Serving). Does v.mode deed (seen workers a) (seen workers b))
        (sym serving) step.does in
        let end : Joint = record {
          nodes = slice_set s.nodes n (seen workers b);
          flight = s.flight ++ on_wire n (sent_of x);
        } in
        record {
          end = end;
          run = record {
            steps = deed-steps parties n deed g s.nodes s.flight (seen workers a)
                (seen workers b) run.steps
                is.is_node is.me on does;
            worked_once = λ m. (parts-grow parties n g x own own-part others m).worked_once;
            answers = λ m. (parts-grow parties n g x own own-part others m).answers;
          };
          left = refl;
          is_endpoint = record {
            is_node = set-here s.nodes n (seen workers a) (seen workers b) is.is_node;
            me = k.me ∙ is.me;
            serves = subst (service.stands b.service)
                (sym (ap (served_after_all service.mode_of []) (facts-grow n g x own)
                ∙ served-append service.mode_of [] (at_node n g) x)) answered.1;
            staffed = step.staffed;
          };
          others = λ m other.
              stays-other n m g x s (seen workers b) (s.flight ++ on_wire n (sent_of x)) other own;
        }

  pub goes-from : GoesOnFrom service workers came x a b
  goes-from parties n g s serving run is on = goes-on-wire parties n g s serving run is on

  pub does-more-by : {R : Type 0} (log : R → Log) (f g : R) → Grew (log f) (log g) x
      → DoesMore log service workers came a b f g
  does-more-by log f g grew = record {
    noted = x;
    grew = grew;
    did = λ life limits ds h. did-more service workers life limits ds came x a b step h;
    goes = goes-from;
  }

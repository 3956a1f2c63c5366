-- What two steps of a node leave, one after the other.
use Rattle.std.proofs.Common.{◌≡◌, List, refl, ◌∙◌}
use Rattle.client_core.specs.declared.outcome.Done.{Done}
use Rattle.node_steps.specs.Handed.{Holding}
use Rattle.node_steps.specs.Leaves.{LeavesServing, LeavesTimed}
use Rattle.node_steps.specs.Changes.{◌⟶◌}
use Rattle.node_steps.specs.Steps.{LeavesLost}
use Rattle.session_store.specs.Sides.{Shown}
use Rattle.node_steps.proofs.HandedBack.{gives-more, gives-none, gives-same}

pub leaves-none : (s : Holding) → LeavesServing s s
leaves-none s = record { me = refl; servers = refl; jobs = refl; handed = refl }

pub leaves-then : (old then new : Holding) → LeavesServing old then → LeavesServing then new
    → LeavesServing old new
leaves-then old then new a b = record {
  me = b.me ∙ a.me;
  servers = b.servers ∙ a.servers;
  jobs = b.jobs ∙ a.jobs;
  handed = b.handed ∙ a.handed;
}

module _ {K : Type 0} (given : K → List Done → Type 0) where
  pub timed-none : (s : Holding) (k : K) → LeavesTimed given s s k k
  timed-none s k = record {
    me = refl;
    servers = refl;
    jobs = refl;
    handed = gives-none given s.handed k;
  }

  pub timed-then : (old then new : Holding) (from mid to : K) → LeavesTimed given old then from mid
      → LeavesTimed given then new mid to → LeavesTimed given old new from to
  timed-then old then new from mid to a b = record {
    me = b.me ∙ a.me;
    servers = b.servers ∙ a.servers;
    jobs = b.jobs ∙ a.jobs;
    handed = gives-more given old.handed then.handed new.handed from mid to a.handed b.handed;
  }

  -- a step by which no call ends
  pub serving-timed : (old new : Holding) (from to : K) → LeavesServing old new → to ≡ from
      → LeavesTimed given old new from to
  serving-timed old new from to a same = record {
    me = a.me;
    servers = a.servers;
    jobs = a.jobs;
    handed = gives-same given old.handed new.handed from to a.handed same;
  }

  -- what a session leaves of the store that loses its calls
  pub leaves-lost-then : (a b c : Shown) (i j k : K) → LeavesLost given (a ⟶ b) (i ⟶ j)
      → LeavesLost given (b ⟶ c) (j ⟶ k) → LeavesLost given (a ⟶ c) (i ⟶ k)
  leaves-lost-then a b c i j k p q = record {
    servers = q.servers ∙ p.servers;
    queued = q.queued ∙ p.queued;
    size = q.size ∙ p.size;
    places = q.places ∙ p.places;
    handed = gives-more given a.handed b.handed c.handed i j k p.handed q.handed;
  }

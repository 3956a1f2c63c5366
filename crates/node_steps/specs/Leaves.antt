-- What a step of a node leaves as it was.
use Rattle.std.specs.Prelude.{◌≡◌, List}
use Rattle.client_core.specs.declared.outcome.Done.{Done}
use Rattle.node_steps.specs.Handed.{GivesBackTo, Holding}

-- what posting and sending leave, and client sessions that send requests of their own or roll a
-- call back: the node's number, its server sessions, the jobs that are out, and what was handed in
-- with the calls that aren't over
pub record LeavesServing (old new : Holding) : Type 0 where
  pub me : new.lists.me ≡ old.lists.me
  pub servers : new.lists.servers ≡ old.lists.servers
  pub jobs : new.lists.jobs ≡ old.lists.jobs
  pub handed : new.handed ≡ old.handed

-- what timers leave, by which calls end: what was handed in with these is given back
pub record LeavesTimed {K : Type 0} (given : K → List Done → Type 0) (old new : Holding)
    (from to : K) : Type 0 where
  pub me : new.lists.me ≡ old.lists.me
  pub servers : new.lists.servers ≡ old.lists.servers
  pub jobs : new.lists.jobs ≡ old.lists.jobs
  pub handed : GivesBackTo given old.handed new.handed from to

-- what a control packet leaves: those that wait, the jobs that are out, and what was handed in
pub record LeavesPackets (old new : Holding) : Type 0 where
  pub inbox : new.lists.inbox ≡ old.lists.inbox
  pub jobs : new.lists.jobs ≡ old.lists.jobs
  pub handed : new.handed ≡ old.handed

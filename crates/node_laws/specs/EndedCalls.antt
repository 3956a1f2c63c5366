-- A call that is over: none of its packets is queued, and none is posted later.
use Rattle.std.specs.Prelude.{ℕ, ◌≡◌, ◌==◌, ◌&&◌, Bool, true, false, None, List, [], ◌∷◌}
use Rattle.std.specs.List.{list_any}
use Rattle.rpc_base.specs.Owners.{same_owner}
use Rattle.rpc_base.specs.declared.event.Event.{Event}
use Rattle.rpc_base.specs.declared.event.Event.TheVariants.{Asked, Begun, Posted}
use Rattle.rpc_base.specs.declared.fact.Fact.{Fact}
use Rattle.rpc_base.specs.declared.owner.Owner.TheVariants.{Ask}
use Rattle.rpc_laws.specs.declared.tables.Queued.{Queued}
use Rattle.rpc_laws.specs.AtMostOnce.{ends_call}
use Rattle.rpc_laws.specs.Queues.{queued_after}

-- the packets that are queued, by the facts so far, the newest first. When they are due isn't told
abbrev pub queued_by : List Fact → List Queued
queued_by [] = []
queued_by (f ∷ past) = queued_after f.event None (queued_by past)

-- call c is asked on session s
abbrev pub asks_on : (call session : ℕ) → Event → Bool
asks_on c s (Asked call session req_type room) = call == c && session == s
asks_on c s _ = false

-- call c begins as request r
abbrev pub begins_as : (call request : ℕ) → Event → Bool
begins_as c r (Begun call request) = call == c && request == r
begins_as c r _ = false

-- a packet of request r of client session s is posted
abbrev pub posts_of : (session request : ℕ) → Event → Bool
posts_of s r (Posted (Ask session request) k) = session == s && request == r
posts_of s r _ = false

-- by the facts so far, call c was asked on session s and began as request r
pub record BeganAs (past : List Fact) (c s r : ℕ) : Type 0 where
  pub asked : list_any (λ f. asks_on c s f.event) past ≡ true
  pub begun : list_any (λ f. begins_as c r f.event) past ≡ true

-- between these facts and those, no packet of request r of session s is queued, and none of those
-- posts one
pub record HandsBack (past rest : List Fact) (s r : ℕ) : Type 0 where
  pub unqueued : list_any (λ q. same_owner q.owner (Ask s r)) (queued_by past) ≡ false
  pub unposted : list_any (λ f. posts_of s r f.event) rest ≡ false

-- at each end of a call its packets are handed back
abbrev pub EndsClean : List Fact → List Fact → Type 0
EndsClean past [] = Unit {0}
EndsClean past (f ∷ rest) =
    ((c s r : ℕ) → ends_call c f.event ≡ true → BeganAs past c s r → HandsBack past rest s r)
    × EndsClean (f ∷ past) rest

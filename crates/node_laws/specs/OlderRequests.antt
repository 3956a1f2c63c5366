-- A request whose packets are taken: no reply to an older request of its slot is queued, and none
-- is posted later.
use Rattle.std.specs.Prelude.{ℕ, ◌≡◌, ◌<◌, ◌%◌, ◌==◌, ◌&&◌, Bool, true, false, List, [], ◌∷◌}
use Rattle.std.specs.List.{list_any}
use Rattle.rpc_base.specs.Owners.{same_owner}
use Rattle.rpc_base.specs.declared.event.Event.{Event}
use Rattle.rpc_base.specs.declared.event.Event.TheVariants.{Posted, Took}
use Rattle.rpc_base.specs.declared.fact.Fact.{Fact}
use Rattle.rpc_base.specs.declared.owner.Owner.TheVariants.{Reply}
use Rattle.node_laws.specs.EndedCalls.{queued_by}

-- a packet of request r of server session t is taken
abbrev pub takes_request : (session request : ℕ) → Event → Bool
takes_request t r (Took (Reply session request) k) = session == t && request == r
takes_request t r _ = false

-- a reply to request r of server session t is posted
abbrev pub posts_reply : (session request : ℕ) → Event → Bool
posts_reply t r (Posted (Reply session request) k) = session == t && request == r
posts_reply t r _ = false

-- an older request of the slot of r
pub record IsOlder (old r : ℕ) : Type 0 where
  pub below : old < r
  pub slot : old % 8 ≡ r % 8

-- between these facts and those, no reply to request r of session t is queued, and none of those
-- posts one
pub record GivesUp (past rest : List Fact) (t r : ℕ) : Type 0 where
  pub unqueued : list_any (λ q. same_owner q.owner (Reply t r)) (queued_by past) ≡ false
  pub unposted : list_any (λ f. posts_reply t r f.event) rest ≡ false

-- at each packet of a request that is taken, the older requests of its slot are given up
abbrev pub BeginsClean : List Fact → List Fact → Type 0
BeginsClean past [] = Unit {0}
BeginsClean past (f ∷ rest) =
    ((t r old : ℕ) → takes_request t r f.event ≡ true → IsOlder old r → GivesUp past rest t old)
    × BeginsClean (f ∷ past) rest

-- A server session that is over: no reply of it is queued, and none is posted later.
use Rattle.std.specs.Prelude.{ℕ, ◌≡◌, ◌==◌, Bool, true, false, List, [], ◌∷◌}
use Rattle.std.specs.List.{list_any}
use Rattle.rpc_base.specs.declared.event.Event.{Event}
use Rattle.rpc_base.specs.declared.event.Event.TheVariants.{Ended, Posted}
use Rattle.rpc_base.specs.declared.fact.Fact.{Fact}
use Rattle.rpc_base.specs.declared.owner.Owner.{Owner}
use Rattle.rpc_base.specs.declared.owner.Owner.TheVariants.{Reply}
use Rattle.node_laws.specs.EndedCalls.{queued_by}

-- server session t ends
abbrev pub ends_session : ℕ → Event → Bool
ends_session t (Ended session) = session == t
ends_session t _ = false

abbrev pub is_reply_of : ℕ → Owner → Bool
is_reply_of t (Reply session request) = session == t
is_reply_of t _ = false

-- any reply of server session t is posted
abbrev pub posts_for : ℕ → Event → Bool
posts_for t (Posted owner k) = is_reply_of t owner
posts_for t _ = false

-- between these facts and those, no reply of session t is queued, and none of those posts one
pub record LeavesNone (past rest : List Fact) (t : ℕ) : Type 0 where
  pub unqueued : list_any (λ q. is_reply_of t q.owner) (queued_by past) ≡ false
  pub unposted : list_any (λ f. posts_for t f.event) rest ≡ false

-- so it is at each end of a server session
abbrev pub SessionsEndClean : List Fact → List Fact → Type 0
SessionsEndClean past [] = Unit {0}
SessionsEndClean past (f ∷ rest) =
    ((t : ℕ) → ends_session t f.event ≡ true → LeavesNone past rest t)
    × SessionsEndClean (f ∷ past) rest

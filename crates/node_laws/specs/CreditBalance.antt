-- Credit: at every moment, the unanswered packets of a client session that is connected or closing
-- and its free credits make its limit, and a packet is posted only where a credit is free. Both are
-- read from the facts alone, and in two ways. The unanswered packets are numbers that stand in a
-- list of their own, and free credits are a count that the facts change.
use Rattle.std.specs.Prelude.{ℕ, ◌≡◌, ◌≤◌, ◌+◌, ◌-◌, ◌==◌, ◌&&◌, Bool, true, false, Option, Some}
use Rattle.std.specs.Prelude.{None, List, [], ◌∷◌, ◌++◌, length, sum_by, if◌then◌else◌}
use Rattle.std.specs.List.{find, list_any, AllByRecursion}
use Rattle.rpc_base.specs.Tables.{at_first, without_first}
use Rattle.rpc_base.specs.declared.event.Event.{Event}
use Rattle.rpc_base.specs.declared.event.Event.TheVariants.{Opened, PairedClient, Connected}
use Rattle.rpc_base.specs.declared.event.Event.TheVariants.{FailedNoRoom, FailedNoAnswer, Closing}
use Rattle.rpc_base.specs.declared.event.Event.TheVariants.{ClosedHeard, ClosedUnheard, Asked}
use Rattle.rpc_base.specs.declared.event.Event.TheVariants.{Begun, Posted, Took, Rolled, Broken}
use Rattle.rpc_base.specs.declared.event.Event.TheVariants.{DoneOk, DoneTooSmall, DonePeerLost}
use Rattle.rpc_base.specs.declared.fact.Fact.{Fact}
use Rattle.rpc_base.specs.declared.owner.Owner.TheVariants.{Ask}

-- a call that was Asked and isn't over: its number, its session, the request number that it began
-- as, if it did, and the numbers of its packets that were Posted since it began or was rolled back
-- last, and not Took
pub record CallAccount : Type 0 where
  pub number : ℕ
  pub session : ℕ
  pub request : Option ℕ
  pub packets : List ℕ

-- a client session: its number, its limit, its free credits, and whether it is live: connected,
-- also where it is spent, or closing
pub record SessionAccount : Type 0 where
  pub number : ℕ
  pub limit : ℕ
  pub free : ℕ
  pub live : Bool

-- the accounts of all calls that aren't over, and of all client sessions
pub record Accounts : Type 0 where
  pub calls : List CallAccount
  pub sessions : List SessionAccount

-- the call of number c
abbrev pub is_numbered : ℕ → CallAccount → Bool
is_numbered c a = a.number == c

-- whether a request number is there, and is r
abbrev pub is_this : ℕ → Option ℕ → Bool
is_this r None = false
is_this r (Some n) = n == r

-- the call of session s that began as r
abbrev pub began_as : (session request : ℕ) → CallAccount → Bool
began_as s r a = a.session == s && is_this r a.request

-- a number is put in, if it isn't there
abbrev pub with_number : ℕ → List ℕ → List ℕ
with_number k ks = if list_any (λ n. n == k) ks then ks else ks ++ k ∷ []

-- a number is taken out
abbrev pub without_number : ℕ → List ℕ → List ℕ
without_number k ks = without_first (λ n. n == k) ks

-- a call that is asked has no request number and no packets
abbrev pub accepted : (call session : ℕ) → CallAccount
accepted c s = record { number = c; session = s; request = None; packets = [] }

-- what begins has no packets
abbrev pub starts : ℕ → CallAccount → CallAccount
starts r a = record a { request = Some r; packets = [] }

-- Posted k
abbrev pub puts : ℕ → CallAccount → CallAccount
puts k a = record a { packets = with_number k a.packets }

-- Took k
abbrev pub takes_out : ℕ → CallAccount → CallAccount
takes_out k a = record a { packets = without_number k a.packets }

-- Rolled back
abbrev pub empties : CallAccount → CallAccount
empties a = record a { packets = [] }

-- a call stands there from Asked to its Done
abbrev pub calls_after : Event → List CallAccount → List CallAccount
calls_after (Asked c s y room) calls = calls ++ accepted c s ∷ []
calls_after (Begun c r) calls = at_first (is_numbered c) (starts r) calls
calls_after (Posted (Ask s r) k) calls = at_first (began_as s r) (puts k) calls
calls_after (Took (Ask s r) k) calls = at_first (began_as s r) (takes_out k) calls
calls_after (Rolled c posted got) calls = at_first (is_numbered c) empties calls
calls_after (DoneOk c) calls = without_first (is_numbered c) calls
calls_after (DoneTooSmall c size) calls = without_first (is_numbered c) calls
calls_after (DonePeerLost c) calls = without_first (is_numbered c) calls
calls_after _ calls = calls

-- the session of number s
abbrev pub is_session : ℕ → SessionAccount → Bool
is_session s x = x.number == s

-- the session of a call, where there is one
abbrev pub is_session_of : Option CallAccount → SessionAccount → Bool
is_session_of None x = false
is_session_of (Some a) x = x.number == a.session

-- a session that is made has its limit of free credits, and is live
abbrev pub opened : (session credits : ℕ) → SessionAccount
opened s credits = record { number = s; limit = credits; free = credits; live = true }

-- one that isn't connected yet has them too
abbrev pub connecting : (session credits : ℕ) → SessionAccount
connecting s credits = record (opened s credits) { live = false }

-- it is connected or closing, or it is over
abbrev pub lives : Bool → SessionAccount → SessionAccount
lives live x = record x { live = live }

-- one credit less is free
abbrev pub spends : SessionAccount → SessionAccount
spends x = record x { free = x.free - 1 }

-- n credits more are free
abbrev pub regains : ℕ → SessionAccount → SessionAccount
regains n x = record x { free = x.free + n }

-- a session that breaks is live no more, and has no credits
abbrev pub fails : SessionAccount → SessionAccount
fails x = record x { live = false; free = 0 }

-- a packet takes one credit, and its answer gives it back. A rollback gives back POSTED - GOT
-- credits to the session of its call, which is looked up among the calls before it
abbrev pub sessions_after : Event → List CallAccount → List SessionAccount → List SessionAccount
sessions_after (PairedClient s peer t credits life) calls xs = xs ++ opened s credits ∷ []
sessions_after (Opened s peer credits) calls xs = xs ++ connecting s credits ∷ []
sessions_after (Connected s t life) calls xs = at_first (is_session s) (lives true) xs
sessions_after (Closing s) calls xs = at_first (is_session s) (lives true) xs
sessions_after (FailedNoRoom s) calls xs = at_first (is_session s) (lives false) xs
sessions_after (FailedNoAnswer s) calls xs = at_first (is_session s) (lives false) xs
sessions_after (ClosedHeard s) calls xs = at_first (is_session s) (lives false) xs
sessions_after (ClosedUnheard s) calls xs = at_first (is_session s) (lives false) xs
sessions_after (Posted (Ask s r) k) calls xs = at_first (is_session s) spends xs
sessions_after (Took (Ask s r) k) calls xs = at_first (is_session s) (regains 1) xs
sessions_after (Rolled c posted got) calls xs =
    at_first (is_session_of (find (is_numbered c) calls)) (regains (posted - got)) xs
sessions_after (Broken s) calls xs = at_first (is_session s) fails xs
sessions_after _ calls xs = xs

-- the accounts after a fact with this event
abbrev pub accounts_after : Event → Accounts → Accounts
accounts_after e a =
    record { calls = calls_after e a.calls; sessions = sessions_after e a.calls a.sessions }

-- before any fact
abbrev pub no_accounts : Accounts
no_accounts = record { calls = []; sessions = [] }

-- how many packets of the calls of a session are unanswered
abbrev pub unanswered : ℕ → List CallAccount → ℕ
unanswered s calls = sum_by (λ a. if a.session == s then length a.packets else 0) calls

-- the unanswered packets and the free credits of a live session make its limit
abbrev pub IsBalanced : List CallAccount → SessionAccount → Type 0
IsBalanced calls x = x.live ≡ true → unanswered x.number calls + x.free ≡ x.limit

-- each session balances
abbrev pub Balanced : Accounts → Type 0
Balanced a = AllByRecursion (IsBalanced a.calls) a.sessions

-- a live session with a free credit
pub record HasCredit (x : SessionAccount) : Type 0 where
  pub live : x.live ≡ true
  pub free : 1 ≤ x.free

-- the session is there, and is one
abbrev pub CanSpend : Option SessionAccount → Type 0
CanSpend None = ⊥
CanSpend (Some x) = HasCredit x

-- a client packet is posted only where a credit of its session is free: `spends` never takes one
-- from 0
abbrev pub MaySpend : Event → List SessionAccount → Type 0
MaySpend (Posted (Ask s r) k) xs = CanSpend (find (is_session s) xs)
MaySpend _ xs = Unit {0}

-- from these accounts on each live session balances at every moment, and no packet is posted
-- without a free credit
abbrev pub CreditFrom : Accounts → List Fact → Type 0
CreditFrom a [] = Balanced a
CreditFrom a (f ∷ g) =
    Balanced a × MaySpend f.event a.sessions × CreditFrom (accounts_after f.event a) g

-- so it is from the beginning of a history
abbrev pub Credit : List Fact → Type 0
Credit g = CreditFrom no_accounts g

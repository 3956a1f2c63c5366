-- No packet of a call is queued twice, and the queued packets of a session and its free credits fit its limit.
use Rattle.std.proofs.Common.{◌≡◌, ℕ, ◌+◌, ◌≤◌, Bool, true, false, ◌&&◌, cond, List, [], ◌∷◌, refl, arith}
use Rattle.std.specs.Prelude.{◌==◌, map, sum_by}
use Rattle.std.specs.List.{AllByRecursion}
use Rattle.std.proofs.lemmas.List.Sums.{sum_by-cons}
use Rattle.rpc_base.specs.Owners.{same_owner}
use Rattle.rpc_base.specs.declared.fact.Fact.{Fact}
use Rattle.rpc_base.specs.declared.owner.Owner.TheVariants.{Ask}
use Rattle.rpc_laws.specs.declared.tables.Client.{Client}
use Rattle.rpc_laws.specs.declared.tables.Lists.{Lists}
use Rattle.rpc_laws.specs.NodeLists.{after, new_lists}
use Rattle.rpc_laws.specs.Pacing.{due_of}
use Rattle.rpc_laws.specs.Sessions.{is_live}
use Rattle.node_laws.specs.CreditBalance.{Accounts, accounts_after, no_accounts}
use Rattle.node_laws.specs.EndedCalls.{queued_by}
use Rattle.node_laws.specs.Laws.{QueuedPacketsFit}
use Rattle.node_laws.specs.QueuedPackets.{QueuedOnce, is_ask_of, is_ask, asks_in, free_credits}
use Rattle.node_laws.specs.QueuedPackets.{IsWithin, QueueFits, QueueFitsFrom}
use Rattle.node_laws.specs.Windows.{LiveQueued}
use Rattle.node_laws.proofs.AccountLemmas.{has_credits, session_account, Agrees}
use Rattle.node_laws.proofs.Allowed.{Allowed, Leads}
use Rattle.node_laws.proofs.CreditLaws.{Found, all-found, credits-live, agrees-after, agrees-new}
use Rattle.node_laws.proofs.EndedLaws.{Knows, knows-after, knows-new}
use Rattle.node_laws.proofs.LiveLemmas.{live-after}
use Rattle.node_laws.proofs.QueueFitsLemmas.{session-fits}
use Rattle.node_laws.proofs.QueuedOnceLemmas.{once-after}
use Rattle.node_laws.proofs.RunLaws.{run_leads}
use Rattle.node_laws.proofs.TotalLemmas.{table_free, total-fits}

-- what is known of a moment
record KnowsQueue (past : List Fact) (a : Accounts) (s : Lists) : Type 0 where
  knows : Knows past s
  agrees : Agrees a s
  once : QueuedOnce s.queued
  live : LiveQueued s.clients s.queued

queue-after : (clock : ℕ) (past : List Fact) (a : Accounts) (s : Lists) (f : Fact)
    → KnowsQueue past a s → Allowed s f.event
    → KnowsQueue (f ∷ past) (accounts_after f.event a) (after clock s f)
queue-after clock past a s f k may = record {
  knows = knows-after clock past s f k.knows may;
  agrees = agrees-after clock f a s k.knows.valid k.agrees may;
  once = once-after f.event (due_of clock f.event s.paces) s k.knows.valid k.knows.windows k.once may;
  live = live-after clock f.event (due_of clock f.event s.paces) f.first s k.knows.valid k.knows.windows k.live may;
}

module _ (past : List Fact) (a : Accounts) (s : Lists) (k : KnowsQueue past a s) where
  queued-once : QueuedOnce (queued_by past)
  queued-once n r i =
      let same = k.knows.queue (λ o j. same_owner o (Ask n r) && j == i) in
      let once = k.once n r i in
      omega arith

  within-by : (ys : List Client) → AllByRecursion (Found s.clients) ys
      → AllByRecursion (IsWithin (queued_by past)) (map session_account ys)
  within-by [] found = tt
  within-by (y ∷ ys) found = (fits, within-by ys found.1)
    where
      fits : IsWithin (queued_by past) (session_account y)
      fits live =
          let same = k.knows.queue (λ o j. is_ask_of y.way.number o) in
          let few = session-fits s y.way.number y k.knows.valid k.knows.windows k.once found.0
          (credits-live y.state live) in
          omega arith

  free-by : (ys : List Client) → free_credits (map session_account ys) ≤ sum_by table_free ys
  free-by [] = omega arith
  free-by (y ∷ ys) =
      let here = one (has_credits y.state) (is_live y.state) (credits-live y.state) in
      let rest = free-by ys in
      omega (
        arith,
        sum_by-cons (λ x. cond {A = ℕ} x.live x.free 0) (session_account y)
            (map session_account ys),
        sum_by-cons table_free y ys,
      )
    where
      one : (b c : Bool) → (b ≡ true → c ≡ true) → cond b y.free 0 ≤ cond c y.free 0
      one true c h = rw (h refl) (omega arith)
      one false c h = omega arith

  in-total : asks_in (queued_by past) + free_credits a.sessions ≤ s.room
  in-total =
      let same = k.knows.queue (λ o j. is_ask o) in
      let all = total-fits s k.knows.valid k.knows.windows k.once k.live in
      let free : free_credits a.sessions ≤ sum_by table_free s.clients = rw k.agrees.sessions (free-by s.clients) in
      omega arith

  fits-now : QueueFits s.room (queued_by past) a.sessions
  fits-now = record {
    once = queued-once;
    within = rw k.agrees.sessions (within-by s.clients (all-found 0 s.clients k.knows.valid.numbered));
    total = in-total;
  }

fits-from : (past : List Fact) (a : Accounts) (s : Lists) (g : List Fact) (t : Lists)
    → KnowsQueue past a s → Leads s g t → QueueFitsFrom s.room past a g
fits-from past a s [] t k l = fits-now past a s k
fits-from past a s (f ∷ g) t k l = (
  fits-now past a s k,
  fits-from (f ∷ past) (accounts_after f.event a) (after l.0 s f) g t
      (queue-after l.0 past a s f k l.1) l.2,
)

pub queue-fits : QueuedPacketsFit
queue-fits p me life limits g t r =
    fits-from [] no_accounts (new_lists me life limits) g t.lists
    (record {
      knows = knows-new me life limits;
      agrees = agrees-new me life limits;
      once = λ n j i. omega arith;
      live = tt;
    }) (run_leads r)

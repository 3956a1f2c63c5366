-- The timer rule: which calls time out at a moment, and what becomes of them.
use Rattle.std.specs.Prelude.{ℕ, ◌≡◌, ◌-◌, nat_lt, nat_le, Bool, not, ◌&&◌, Option, Some, None}
use Rattle.std.specs.Prelude.{List, [], ◌∷◌, ◌++◌, flat_map, map, slice_get, if◌then◌else◌}
use Rattle.std.specs.List.{find, list_any}
use Rattle.rpc_base.specs.declared.event.Event.TheVariants.{Rolled, Broken, DonePeerLost}
use Rattle.rpc_base.specs.declared.fact.Fact.{Fact}
use Rattle.rpc_base.specs.declared.owner.Owner.TheVariants.{Ask}
use Rattle.rpc_laws.specs.declared.rows.TimerRow.{TimerRow}
use Rattle.rpc_laws.specs.declared.rows.TimerRow.TheVariants.{Waits, RollsBack, Breaks}
use Rattle.rpc_laws.specs.declared.tables.Call.{Call}
use Rattle.rpc_laws.specs.declared.tables.Client.{Client}
use Rattle.rpc_laws.specs.declared.tables.Progress.{Progress}
use Rattle.rpc_laws.specs.declared.tables.Queued.{Queued}
use Rattle.rpc_laws.specs.declared.tables.Timed.{Timed}
use Rattle.rpc_laws.specs.Calls.{is_call}
use Rattle.rpc_laws.specs.Facts.{plain}
use Rattle.rpc_laws.specs.Queues.{flush_facts, is_queued}
use Rattle.rpc_laws.specs.Steps.{Rel, Goes, Then}

-- a node's timeout, in microseconds, where nothing else is said
abbrev pub usual_timeout : ℕ
usual_timeout = 5000

-- a call times out where it has an unanswered packet, the oldest of them isn't queued, and its mark
-- is a timeout old
abbrev pub has_timed_out : (clock timeout : ℕ) → Bool → (got posted mark : ℕ) → Bool
has_timed_out clock timeout queued got posted mark =
    nat_lt got posted && not queued && nat_le timeout (clock - mark)

-- eight timeouts without a reply roll the call back, and the ninth breaks its session
abbrev pub timer_row : (clock timeout : ℕ) → Bool → (got posted rolls mark : ℕ) → TimerRow
timer_row clock timeout queued got posted rolls mark =
    if not (has_timed_out clock timeout queued got posted mark) then Waits
    else (if nat_lt rolls 8 then RollsBack
    else Breaks)

abbrev pub row_of : (clock timeout session : ℕ) → List Queued → Progress → TimerRow
row_of clock timeout session queued p =
    timer_row clock timeout (list_any (is_queued (Ask session p.request) p.got) queued) p.got
    p.posted p.rolls p.mark

-- the queued packets of a call, which is active
abbrev pub flushes_of : (me session : ℕ) → List Queued → Option Progress → List Fact
flushes_of me session queued None = []
flushes_of me session queued (Some p) = flush_facts me queued (Ask session p.request)

-- a rollback: the call's queued packets are taken out, and its unanswered ones are to be posted
-- again
abbrev pub roll_facts : (me session : ℕ) → List Queued → ℕ → Progress → List Fact
roll_facts me session queued number p =
    flush_facts me queued (Ask session p.request) ++ plain me (Rolled number p.posted p.got) ∷ []

-- a session breaks: the queued packets of all its calls are taken out, and then each call ends, in
-- the order of their numbers
abbrev pub break_facts : ℕ → List Queued → Client → List Fact
break_facts me queued x =
    flat_map (λ c. flushes_of me x.way.number queued c.progress) x.calls
    ++ plain me (Broken x.way.number) ∷ map (λ c. plain me (DonePeerLost c.what.number)) x.calls

abbrev pub row_facts : ℕ → List Queued → Client → ℕ → Progress → TimerRow → List Fact
row_facts me queued x number p Waits = []
row_facts me queued x number p RollsBack = roll_facts me x.way.number queued number p
row_facts me queued x number p Breaks = break_facts me queued x

abbrev pub progress_facts : (clock timeout me : ℕ) → List Queued → Client → ℕ → Option Progress
    → List Fact
progress_facts clock timeout me queued x number None = []
progress_facts clock timeout me queued x number (Some p) =
    row_facts me queued x number p (row_of clock timeout x.way.number queued p)

abbrev pub call_facts : (clock timeout me : ℕ) → List Queued → Client → Option Call → List Fact
call_facts clock timeout me queued x None = []
call_facts clock timeout me queued x (Some c) =
    progress_facts clock timeout me queued x c.what.number c.progress

-- what call number of a session gives. A call that is over gives nothing, so that where the session
-- broke its later calls aren't visited
abbrev pub client_facts : (clock timeout me : ℕ) → List Queued → ℕ → Option Client → List Fact
client_facts clock timeout me queued number None = []
client_facts clock timeout me queued number (Some x) =
    call_facts clock timeout me queued x (find (is_call number) x.calls)

-- call number of session i is looked at
pub record Watches (timeout i number : ℕ) (s : Timed) (x : List Fact) (t : Timed) : Type 0 where
  pub facts : x ≡ client_facts s.clock timeout s.lists.me s.lists.queued number
      (slice_get s.lists.clients i)
  pub goes : Goes s x t

-- one after another
abbrev pub Each : (ℕ → Rel) → List ℕ → Rel
Each P [] s x t = (x ≡ []) × (t ≡ s)
Each P (n ∷ ns) s x t = Then (P n) (Each P ns) s x t

abbrev pub numbers_in : Option Client → List ℕ
numbers_in None = []
numbers_in (Some x) = map (λ c. c.what.number) x.calls

-- the calls of a session are looked at in the order of their numbers
abbrev pub WatchesSession : (timeout i : ℕ) → Rel
WatchesSession timeout i s x t =
    Each (Watches timeout i) (numbers_in (slice_get s.lists.clients i)) s x t

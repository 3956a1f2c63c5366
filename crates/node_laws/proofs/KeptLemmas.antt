-- Each lawful step keeps what holds of a node's lists at every moment.
use Rattle.std.proofs.Common.{◌≡◌, ℕ, ◌+◌, ◌≤◌, true, Some, List, [], ◌∷◌, refl, arith}
use Rattle.std.specs.Prelude.{sum_by}
use Rattle.std.specs.List.{find}
use Rattle.rpc_base.specs.declared.fact.Fact.{Fact}
use Rattle.rpc_base.specs.declared.limits.Limits.{Limits}
use Rattle.rpc_laws.specs.declared.tables.Client.{Client}
use Rattle.rpc_laws.specs.declared.tables.Lists.{Lists}
use Rattle.rpc_laws.specs.declared.tables.Timed.{Timed}
use Rattle.rpc_laws.specs.Front.{front_header, front_body}
use Rattle.rpc_laws.specs.NodeLists.{after, after_all, new_lists}
use Rattle.rpc_laws.specs.Pacing.{due_of}
use Rattle.rpc_laws.specs.Sessions.{is_client, is_live}
use Rattle.rpc_laws.specs.Steps.{Rel}
use Rattle.node_laws.specs.Kept.{Kept}
use Rattle.node_laws.specs.Laws.{ListsAreKept}
use Rattle.node_laws.specs.QueuedPackets.{queued_of, asks_in}
use Rattle.node_laws.proofs.Allowed.{Allowed, allowed-of, AllAllowed, Leads}
use Rattle.node_laws.proofs.AskedLemmas.{asked-after, few-after}
use Rattle.node_laws.proofs.LeadsLemmas.{LeadsAt, Lawful}
use Rattle.node_laws.proofs.LiveLemmas.{live-after}
use Rattle.node_laws.proofs.OpenLemmas.{turns-after}
use Rattle.node_laws.proofs.QueueFitsLemmas.{session-fits}
use Rattle.node_laws.proofs.QueueWindowLemmas.{windows-after}
use Rattle.node_laws.proofs.QueuedOnceLemmas.{once-after}
use Rattle.node_laws.proofs.ReadLemmas.{reads-after}
use Rattle.node_laws.proofs.RunLaws.{run_leads}
use Rattle.node_laws.proofs.TotalLemmas.{table_free, total-fits}
use Rattle.node_laws.proofs.ValidLemmas.{valid_after, valid_new}

pub kept-after : (clock : ℕ) (s : Lists) (f : Fact) → Kept s → Allowed s f.event → Kept (after clock s f)
kept-after clock s f k a =
    let due = due_of clock f.event s.paces in
    record {
      valid = valid_after clock s f k.valid a;
      asked = asked-after clock s f.first (front_header s.ring) (front_body s.ring) f.event a k.asked;
      few = few-after clock s f.first (front_header s.ring) (front_body s.ring) f.event a k.few;
      reads = reads-after f.event f.first s.ring k.reads;
      eight = turns-after clock f.event f.first (front_header s.ring) (front_body s.ring) s.clients k.eight;
      windows = windows-after clock f.event due f.first s k.valid k.windows a;
      live = live-after clock f.event due f.first s k.valid k.windows k.live a;
      once = once-after f.event due s k.valid k.windows k.once a;
    }

pub kept-all : (clock : ℕ) (s : Lists) (x : List Fact) → Kept s → AllAllowed clock s x → Kept (after_all clock s x)
kept-all clock s [] k a = k
kept-all clock s (f ∷ fs) k a =
    kept-all clock (after clock s f) fs (kept-after clock s f k (allowed-of s f.event f.first f.second a.0)) a.1

pub kept-at : (s : Timed) (x : List Fact) (t : Timed) → Kept s.lists → LeadsAt s x t → Kept t.lists
kept-at s x t k l = rw (l.lists) (kept-all s.clock s.lists x k l.all)

-- so a step of which only what is allowed is known does
pub kept-by : (P : Rel) → Lawful P → (s : Timed) (x : List Fact) (t : Timed) → Kept s.lists → P s x t → Kept t.lists
kept-by P lawful s x t k h = kept-at s x t k (lawful s x t k.valid h)

pub kept-leads : (s : Lists) (x : List Fact) (t : Lists) → Kept s → Leads s x t → Kept t
kept-leads s [] t k l = rw l k
kept-leads s (f ∷ fs) t k l = kept-leads (after l.0 s f) fs t (kept-after l.0 s f k l.1) l.2

pub kept-new : (me life : ℕ) (limits : Limits) → Kept (new_lists me life limits)
kept-new me life limits = record {
  valid = valid_new me life limits;
  asked = refl;
  few = tt;
  reads = tt;
  eight = tt;
  windows = tt;
  live = tt;
  once = λ n r k. omega arith;
}

pub lists-kept : ListsAreKept
lists-kept p me life limits g t r =
    kept-leads (new_lists me life limits) g t.lists (kept-new me life limits) (run_leads r)

-- the queued packets of a live session and its free credits are no more than its limit
pub kept-session : (s : Lists) (n : ℕ) (x : Client) → Kept s → find (is_client n) s.clients ≡ Some x
    → is_live x.state ≡ true → queued_of n s.queued + x.free ≤ x.limit
kept-session s n x k found live = session-fits s n x k.valid k.windows k.once found live

-- and those of all live sessions no more than the ring is long
pub kept-total : (s : Lists) → Kept s → asks_in s.queued + sum_by table_free s.clients ≤ s.room
kept-total s k = total-fits s k.valid k.windows k.once k.live

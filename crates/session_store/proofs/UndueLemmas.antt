-- What is queued, looked at as if nothing were paced.
use Rattle.std.proofs.Common.{◌≡◌, ℕ, ◌+◌, ◌<◌, ◌≤◌, Bool, true, false, cond, Option, Some, None}
use Rattle.std.proofs.Common.{List, [], ◌∷◌, ◌++◌, length, refl, sym, ap, ◌∙◌, arith}
use Rattle.std.specs.Prelude.{IfSome, count_by, map, slice_get}
use Rattle.std.specs.List.{AllByRecursion, list_any}
use Rattle.std.proofs.lemmas.List.{length-append, length-map}
use Rattle.std.proofs.lemmas.List.Sums.{sum_by-append}
use Rattle.rpc_base.specs.declared.owner.Owner.{Owner}
use Rattle.rpc_base.specs.declared.owner.Owner.TheVariants.{Ask, Reply, Control}
use Rattle.rpc_base.proofs.FirstLemmas.{counted-cons}
use Rattle.buffer_pool.specs.Pool.{Pool}
use Rattle.packet_rings.specs.Entries.{is_reply as is_reply_entry, is_reply_owner}
use Rattle.packet_rings.specs.Rings.{Ring}
use Rattle.packet_rings.specs.Values.{EntryValue}
use Rattle.pacing_wheel.specs.declared.pacer.Paced.{Paced}
use Rattle.pacing_wheel.specs.Wheel.{Wheel, entry_of}
use Rattle.node_laws.specs.QueuedPackets.{is_ask_of}
use Rattle.node_laws.specs.Windows.{Windows}
use Rattle.rpc_laws.specs.declared.rows.TimerRow.{TimerRow}
use Rattle.rpc_laws.specs.declared.tables.Client.{Client}
use Rattle.rpc_laws.specs.declared.tables.Progress.{Progress}
use Rattle.rpc_laws.specs.declared.tables.Queued.{Queued}
use Rattle.rpc_laws.specs.GoBackN.{row_of, timer_row}
use Rattle.rpc_laws.specs.Queues.{is_queued, is_reply, replies}
use Rattle.server_core.specs.Session.{Session as Serving}
use Rattle.session_ends.specs.declared.side.Side.{Side}
use Rattle.session_store.specs.Changes.{IsIdle, MayRoll, RowAt}
use Rattle.session_store.specs.Ends.{progress_of}
use Rattle.session_ends.specs.Joined.{Paces, joined, paced_of, queue_of, is_owned, queued_of}
use Rattle.session_store.specs.Joined.{is_paced, shown_with, undue, without_due}
use Rattle.session_store.specs.Queue.{SendsFront}
use Rattle.session_store.specs.Sides.{Shown, shown_of}

-- the ring and the pacer are seen as the ring of both
undue-paced : (ps : List Paced) → map without_due (map paced_of ps) ≡ map queued_of (map entry_of ps)
undue-paced [] = refl
undue-paced (p ∷ ps) = ap (λ qs. queued_of p.entry ∷ qs) (undue-paced ps)

undue-queue : (xs : List EntryValue) (ps : List Paced)
    → map without_due (map queued_of xs ++ map paced_of ps) ≡ map queued_of (xs ++ map entry_of ps)
undue-queue [] ps = undue-paced ps
undue-queue (x ∷ xs) ps = ap (λ qs. queued_of x ∷ qs) (undue-queue xs ps)

pub queue-undue : (tx : Ring EntryValue) (paced : Wheel)
    → map without_due (queue_of tx paced) ≡ map queued_of (joined tx paced).items
queue-undue tx paced = undue-queue tx.items paced.items

pub flat : (pool : Pool) (sides : List Side) (servers : List Serving) (tx : Ring EntryValue)
    (paced : Wheel) (seen : Shown) → shown_with pool sides servers tx paced ≡ seen
    → shown_of pool sides servers (joined tx paced) ≡ undue seen
flat pool sides servers tx paced seen view =
    ap (λ (qs : List Queued). record (shown_of pool sides servers (joined tx paced)) { queued = qs })
    (sym (queue-undue tx paced)) ∙ ap undue view

-- a test that doesn't look at the time finds the same
pub any-undue : (p : Queued → Bool) → ((q : Queued) → p (without_due q) ≡ p q) → (qs : List Queued)
    → list_any p (map without_due qs) ≡ list_any p qs
any-undue p same [] = refl
any-undue p same (q ∷ qs) = rw (same q, any-undue p same qs) refl

pub queued-undue : (o : Owner) (k : ℕ) (qs : List Queued)
    → list_any (is_queued o k) (map without_due qs) ≡ list_any (is_queued o k) qs
queued-undue o k qs = any-undue (is_queued o k) (λ q. refl) qs

pub owned-undue : (o : Owner) (qs : List Queued)
    → list_any (is_owned o) (map without_due qs) ≡ list_any (is_owned o) qs
owned-undue o qs = any-undue (is_owned o) (λ q. refl) qs

pub idle-undue : (i : ℕ) (qs : List Queued) → IsIdle i qs → IsIdle i (map without_due qs)
idle-undue i qs idle = any-undue (λ q. is_ask_of i q.owner) (λ q. refl) qs ∙ idle

pub windows-undue : (xs : List Client) (qs : List Queued) → Windows xs qs
    → Windows xs (map without_due qs)
windows-undue xs [] w = tt
windows-undue xs (q ∷ qs) w = (w.0, windows-undue xs qs w.1)

pub may-undue : (i number : ℕ) (s : Shown) → MayRoll i number s → MayRoll i number (undue s)
may-undue i number s may = record {
  client = may.client;
  place = may.place;
  connected = may.connected;
  progress = may.progress;
  active = may.active;
  few = may.few;
  idle = owned-undue (Ask i may.progress.request) s.queued ∙ may.idle;
}

pub row-undue : (now timeout i number : ℕ) (row : TimerRow) (s : Shown)
    → RowAt now timeout i number row (undue s) → RowAt now timeout i number row s
row-undue now timeout i number row s h = clients (slice_get s.clients i) h
  where
    progress : (o : Option Progress)
        → IfSome o (λ p. row_of now timeout i (map without_due s.queued) p ≡ row)
        → IfSome o (λ p. row_of now timeout i s.queued p ≡ row)
    progress None t = tt
    progress (Some p) t =
        ap (λ b. timer_row now timeout b p.got p.posted p.rolls p.mark)
        (sym (queued-undue (Ask i p.request) p.got s.queued)) ∙ t

    clients : (o : Option Client) → IfSome o (λ x. IfSome (progress_of number x)
        (λ p. row_of now timeout i (map without_due s.queued) p ≡ row))
        → IfSome o (λ x. IfSome (progress_of number x) (λ p. row_of now timeout i s.queued p ≡ row))
    clients None t = tt
    clients (Some x) t = progress (progress_of number x) t

-- and so does one that looks at the front
pub sends-undue : (now : ℕ) (qs : List Queued) (old new : List Client)
    → SendsFront now (map without_due qs) old new → SendsFront now qs old new
sends-undue now [] old new h = tt
sends-undue now (q ∷ qs) old new h = h

-- how many are queued
pub queue-length : (tx : Ring EntryValue) (paced : Wheel)
    → length (queue_of tx paced) ≡ length tx.items + length paced.items
queue-length tx paced =
    omega (
      arith,
      length-append (map queued_of tx.items) (map paced_of paced.items),
      length-map tx.items queued_of,
      length-map paced.items paced_of,
    )

unpaced-ready : (xs : List EntryValue) → count_by is_paced (map queued_of xs) ≡ 0
unpaced-ready [] = refl
unpaced-ready (x ∷ xs) =
    omega (arith, counted-cons is_paced (queued_of x) (map queued_of xs) false refl, unpaced-ready xs)

all-paced : (ps : List Paced) → count_by is_paced (map paced_of ps) ≡ length ps
all-paced [] = refl
all-paced (p ∷ ps) =
    omega (arith, counted-cons is_paced (paced_of p) (map paced_of ps) true refl, all-paced ps)

pub paced-counted : (tx : Ring EntryValue) (paced : Wheel)
    → count_by is_paced (queue_of tx paced) ≡ length paced.items
paced-counted tx paced =
    omega (
      arith,
      sum_by-append (λ q. cond (is_paced q) 1 0) (map queued_of tx.items) (map paced_of paced.items),
      unpaced-ready tx.items,
      all-paced paced.items,
    )

same-reply : (o : Owner) → is_reply o ≡ is_reply_owner o
same-reply (Ask s r) = refl
same-reply (Reply t r) = refl
same-reply Control = refl

no-replies : (ps : List Paced) → AllByRecursion (λ p. is_reply_entry p.entry ≡ false) ps
    → replies (map paced_of ps) ≡ 0
no-replies [] all = refl
no-replies (p ∷ ps) all =
    omega (
      arith,
      counted-cons (λ (q : Queued). is_reply q.owner) (paced_of p) (map paced_of ps) false
          (same-reply p.entry.owner ∙ all.0),
      no-replies ps all.1,
    )

pub replies-ready : (tx : Ring EntryValue) (paced : Wheel) → Paces tx paced
    → replies (queue_of tx paced) ≡ replies (map queued_of tx.items)
replies-ready tx paced paces =
    omega (
      arith,
      sum_by-append (λ (q : Queued). cond (is_reply q.owner) 1 0) (map queued_of tx.items)
          (map paced_of paced.items),
      no-replies paced.items paces.calls,
    )

pub room-undue : (i : ℕ) (s : Shown)
    → IfSome (slice_get s.clients i) (λ x. length s.queued + x.free ≤ s.size)
    → IfSome (slice_get s.clients i) (λ x. length (undue s).queued + x.free ≤ s.size)
room-undue i s room = rw (length-map s.queued without_due) room

pub less-undue : (s : Shown) → length s.queued < s.size → length (undue s).queued < s.size
less-undue s room = rw (length-map s.queued without_due) room

-- Flushing the packets of a call, and of all calls of a session.
use Rattle.std.proofs.Common.{◌≡◌, ℕ, Option, Some, None, List, [], ◌∷◌, ◌++◌, refl, ap, ◌∙◌, arith}
use Rattle.std.specs.Prelude.{map, flat_map}
use Rattle.std.specs.List.{AllByRecursion, find}
use Rattle.rpc_base.specs.declared.event.Event.TheVariants.{Flushed}
use Rattle.rpc_base.specs.declared.fact.Fact.{Fact}
use Rattle.rpc_base.specs.declared.owner.Owner.{Owner}
use Rattle.rpc_base.specs.declared.owner.Owner.TheVariants.{Ask, Reply}
use Rattle.rpc_laws.specs.declared.tables.Call.{Call}
use Rattle.rpc_laws.specs.declared.tables.Lists.{Lists}
use Rattle.rpc_laws.specs.declared.tables.Progress.{Progress}
use Rattle.rpc_laws.specs.declared.tables.Queued.{Queued}
use Rattle.rpc_laws.specs.declared.tables.Served.{Served}
use Rattle.rpc_laws.specs.declared.tables.Server.{Server}
use Rattle.rpc_laws.specs.Facts.{plain}
use Rattle.rpc_laws.specs.GoBackN.{flushes_of}
use Rattle.rpc_laws.specs.NodeLists.{after, after_all}
use Rattle.rpc_laws.specs.Queues.{numbers_of, flush_facts}
use Rattle.rpc_laws.specs.Requests.{in_slot_of}
use Rattle.rpc_laws.specs.ServerTable.{flushes}
use Rattle.rpc_laws.proofs.RunLemmas.{after_all-append}
use Rattle.node_laws.proofs.Allowed.{NoneOf, NoneOlder, AllAllowed}
use Rattle.node_laws.proofs.LeadsLemmas.{allowed-join}
use Rattle.node_laws.proofs.QueueLemmas.{taken_out, NoMore, no-more-taken, flushed-none, none-stays}

pub flush-allowed : (clock : ℕ) (s : Lists) (me : ℕ) (owner : Owner) (ks : List ℕ)
    → AllAllowed clock s (map (λ k. plain me (Flushed owner k)) ks)
flush-allowed clock s me owner [] = tt
flush-allowed clock s me owner (k ∷ ks) =
    (tt, flush-allowed clock (after clock s (plain me (Flushed owner k))) me owner ks)

pub flush-after : (clock : ℕ) (s : Lists) (me : ℕ) (owner : Owner) (ks : List ℕ)
    → after_all clock s (map (λ k. plain me (Flushed owner k)) ks)
    ≡ record s { queued = taken_out owner ks s.queued }
flush-after clock s me owner [] = refl
flush-after clock s me owner (k ∷ ks) = flush-after clock (after clock s (plain me (Flushed owner k))) me owner ks

none-of-stays : (n : ℕ) (o : Option Progress) (qs rs : List Queued) → NoMore qs rs → NoneOf n o rs → NoneOf n o qs
none-of-stays n None qs rs h none = tt
none-of-stays n (Some p) qs rs h none = none-stays (Ask n p.request) qs rs h none

-- facts that change the queue alone, and leave it with no more than before
pub record Flushes (clock : ℕ) (s : Lists) (x : List Fact) : Type 0 where
  pub queue : List Queued
  pub same : after_all clock s x ≡ record s { queued = queue }
  pub fewer : NoMore queue s.queued
  pub allowed : AllAllowed clock s x

pub no-more-same : (qs : List Queued) → NoMore qs qs
no-more-same qs owner k = omega arith

pub no-more-join : (qs rs ts : List Queued) → NoMore qs rs → NoMore rs ts → NoMore qs ts
no-more-join qs rs ts h g owner k = let first = h owner k in let second = g owner k in omega arith

unfoldable pub flushes-none : (clock : ℕ) (s : Lists) → Flushes clock s []
flushes-none clock s = record { queue = s.queued; same = refl; fewer = no-more-same s.queued; allowed = tt }

flushes-join : (clock : ℕ) (s : Lists) (x y : List Fact) (a : Flushes clock s x)
    → Flushes clock (record s { queued = a.queue }) y → Flushes clock s (x ++ y)
flushes-join clock s x y a b =
    let rest : AllAllowed clock (after_all clock s x) y = rw a.same b.allowed in
    record {
      queue = b.queue;
      same = after_all-append clock s x y ∙ (ap (λ (t : Lists). after_all clock t y) a.same ∙ b.same);
      fewer = no-more-join b.queue a.queue s.queued b.fewer a.fewer;
      allowed = allowed-join clock s x y a.allowed rest;
    }

-- the packets of an owner
unfoldable pub flushes-owner : (clock : ℕ) (s : Lists) (me : ℕ) (queued : List Queued)
    (owner : Owner) → Flushes clock s (flush_facts me queued owner)
flushes-owner clock s me queued owner = record {
  queue = taken_out owner (numbers_of owner queued) s.queued;
  same = flush-after clock s me owner (numbers_of owner queued);
  fewer = no-more-taken owner (numbers_of owner queued) s.queued s.queued (no-more-same s.queued);
  allowed = flush-allowed clock s me owner (numbers_of owner queued);
}

-- the calls of a session, each flushed as the queue was at first
pub record AllFlushed (clock : ℕ) (s : Lists) (n : ℕ) (cs : List Call) (x : List Fact) : Type 0 where
  pub flushes : Flushes clock s x
  pub clean : AllByRecursion (λ c. NoneOf n c.progress flushes.queue) cs

one-flushed : (clock : ℕ) (s : Lists) (me n : ℕ) (queued : List Queued) (o : Option Progress)
    → NoMore s.queued queued → (a : Flushes clock s (flushes_of me n queued o)) × NoneOf n o a.queue
unfolding flushes-owner flushes-none
one-flushed clock s me n queued None h = (flushes-none clock s, tt)
one-flushed clock s me n queued (Some p) h =
    (flushes-owner clock s me queued (Ask n p.request), flushed-none (Ask n p.request) s.queued queued h)

pub calls-flushed : (clock : ℕ) (s : Lists) (me n : ℕ) (queued : List Queued) (cs : List Call)
    → NoMore s.queued queued
    → AllFlushed clock s n cs (flat_map (λ c. flushes_of me n queued c.progress) cs)
unfolding flushes-join
calls-flushed clock s me n queued [] h = record { flushes = flushes-none clock s; clean = tt }
calls-flushed clock s me n queued (c ∷ cs) h =
    let first = one-flushed clock s me n queued c.progress h in
    let rest = calls-flushed clock (record s { queued = first.0.queue }) me n queued cs
    (no-more-join first.0.queue s.queued queued first.0.fewer h) in
    record {
      flushes = flushes-join clock s (flushes_of me n queued c.progress)
          (flat_map (λ c. flushes_of me n queued c.progress) cs) first.0 rest.flushes;
      clean = (none-of-stays n c.progress rest.flushes.queue first.0.queue rest.flushes.fewer first.1, rest.clean);
    }

-- the newest requests of some slots of a server session, each flushed as the queue was at first
older-stays : (t : ℕ) (o : Option Served) (qs rs : List Queued) → NoMore qs rs → NoneOlder t o rs → NoneOlder t o qs
older-stays t None qs rs h none = tt
older-stays t (Some l) qs rs h none = none-stays (Reply t l.number) qs rs h none

pub record SlotsFlushed (clock : ℕ) (s : Lists) (v : Server) (slots : List ℕ) (x : List Fact) : Type 0 where
  pub flushes : Flushes clock s x
  pub clean : AllByRecursion (λ slot. NoneOlder v.way.number (find (in_slot_of slot) v.slots) flushes.queue) slots

slot-flushed : (clock : ℕ) (s : Lists) (me t : ℕ) (queued : List Queued) (o : Option Served)
    → NoMore s.queued queued → (a : Flushes clock s (flushes me queued t o)) × NoneOlder t o a.queue
unfolding flushes-owner flushes-none
slot-flushed clock s me t queued None h = (flushes-none clock s, tt)
slot-flushed clock s me t queued (Some l) h =
    (flushes-owner clock s me queued (Reply t l.number), flushed-none (Reply t l.number) s.queued queued h)

pub slots-flushed : (clock : ℕ) (s : Lists) (me : ℕ) (queued : List Queued) (v : Server)
    (slots : List ℕ) → NoMore s.queued queued
    → SlotsFlushed clock s v slots (flat_map (λ slot. flushes me queued v.way.number
    (find (in_slot_of slot) v.slots)) slots)
unfolding flushes-join
slots-flushed clock s me queued v [] h = record { flushes = flushes-none clock s; clean = tt }
slots-flushed clock s me queued v (slot ∷ slots) h =
    let o = find (in_slot_of slot) v.slots in
    let first = slot-flushed clock s me v.way.number queued o h in
    let rest = slots-flushed clock (record s { queued = first.0.queue }) me queued v slots
    (no-more-join first.0.queue s.queued queued first.0.fewer h) in
    record {
      flushes = flushes-join clock s (flushes me queued v.way.number o)
          (flat_map (λ slot. flushes me queued v.way.number (find (in_slot_of slot) v.slots)) slots)
          first.0 rest.flushes;
      clean = (older-stays v.way.number o rest.flushes.queue first.0.queue rest.flushes.fewer first.1, rest.clean);
    }

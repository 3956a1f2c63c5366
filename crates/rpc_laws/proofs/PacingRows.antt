-- Worked rows of pacing, computed by the definitions alone.
use Rattle.std.proofs.Common.{◌≡◌, ℕ, Some, None, List, [], ◌∷◌, replicate, refl}
use Rattle.std.specs.Prelude.{Option, map}
use Rattle.rpc_base.specs.declared.event.Event.TheVariants.{Asked, Begun, Flushed, PairedClient}
use Rattle.rpc_base.specs.declared.event.Event.TheVariants.{Polled, Posted, Rated, Rolled, Sent}
use Rattle.rpc_base.specs.declared.owner.Owner.TheVariants.{Ask, Reply}
use Rattle.rpc_laws.specs.declared.tables.Lists.{Lists}
use Rattle.rpc_laws.specs.declared.tables.Progress.{Progress}
use Rattle.rpc_laws.specs.declared.tables.Queued.{Queued}
use Rattle.rpc_laws.specs.Facts.{plain, with_bytes}
use Rattle.rpc_laws.specs.GoBackN.{roll_facts}
use Rattle.rpc_laws.specs.NodeLists.{after, after_all, new_lists}
use Rattle.rpc_laws.specs.Pacing.{line}
use Rattle.rpc_laws.specs.Queues.{queued_after}
use Rattle.rpc_laws.specs.UsualLimits.{with_ring}

-- A due at 10, B at 5 and C at 10 are put in this order: none is due at 4, and B, A and C are at 10
abbrev entry : ℕ → Option ℕ → Queued
entry request due = record { owner = Ask 0 request; number = 0; due = due }

abbrev three : List Queued
three = queued_after (Posted (Ask 0 2) 0) (Some 10)
    (queued_after (Posted (Ask 0 1) 0) (Some 5) (queued_after (Posted (Ask 0 0) 0) (Some 10) []))

row-order : three ≡ entry 1 (Some 5) ∷ entry 0 (Some 10) ∷ entry 2 (Some 10) ∷ []
row-order = refl

row-none-due : line 4 three ≡ []
row-none-due = refl

row-some-due : line 5 three ≡ entry 1 (Some 5) ∷ []
row-some-due = refl

row-all-due : line 10 three ≡ three
row-all-due = refl

-- a reply that is posted stands before them, and behind what a poll made ready
row-reply : queued_after (Posted (Reply 0 0) 0) None (queued_after (Polled 7) None three)
    ≡ entry 1 None ∷ record { owner = Reply 0 0; number = 0; due = None } ∷ entry 0 (Some 10)
    ∷ entry 2 (Some 10) ∷ []
row-reply = refl

-- at a rate of 1 a call of 5 bytes is posted at 0: it is due at once, and the next packet at 25,000
abbrev slow : Lists
slow = after_all 0 (new_lists 0 1 (with_ring 32))
    (plain 0 (PairedClient 0 1 0 1 1) ∷ plain 0 (Rated 0 1)
    ∷ with_bytes 0 (Asked 0 0 1 5) (104 ∷ 101 ∷ 108 ∷ 108 ∷ 111 ∷ []) ∷ plain 0 (Begun 0 0) ∷ [])

abbrev posted : Lists
posted = after 0 slow (plain 0 (Posted (Ask 0 0) 0))

row-due : posted.queued ≡ entry 0 (Some 0) ∷ []
row-due = refl

row-next : posted.paces ≡ record { session = 0; rate = 1; next = 25000 } ∷ []
row-next = refl

-- it is sent, and rolled back at 5,000: its packet is due at 25,000 then
abbrev again : Lists
again = after_all 5000 posted (plain 0 (Sent 1 (Ask 0 0) 0) ∷ plain 0 (Rolled 0 1 0)
    ∷ plain 0 (Posted (Ask 0 0) 0) ∷ [])

row-due-later : again.queued ≡ entry 0 (Some 25000) ∷ []
row-due-later = refl

row-not-ready : line 24999 again.queued ≡ []
row-not-ready = refl

row-ready : line 25000 again.queued ≡ entry 0 (Some 25000) ∷ []
row-ready = refl

-- another rollback takes it out of the paced ones, and keeps when the next is due
abbrev progress : Progress
progress = record { request = 0; got = 0; posted = 1; rolls = 1; mark = 0; answer = None; parts = [] }

row-rolls : roll_facts 0 0 again.queued 0 progress ≡ plain 0 (Flushed (Ask 0 0) 0) ∷ plain 0 (Rolled 0 1 0) ∷ []
row-rolls = refl

row-flushed : (after_all 10000 again (roll_facts 0 0 again.queued 0 progress)).queued ≡ []
row-flushed = refl

row-kept : (after_all 10000 again (roll_facts 0 0 again.queued 0 progress)).paces
    ≡ record { session = 0; rate = 1; next = 50000 } ∷ []
row-kept = refl

-- at a rate of 1,000 three datagrams of 1,044 bytes that are posted at 0 are due at 0, 1,044 and 2,088
abbrev long : Lists
long = after_all 0 (new_lists 0 1 (with_ring 32))
    (plain 0 (PairedClient 0 1 0 3 1) ∷ plain 0 (Rated 0 1000)
    ∷ with_bytes 0 (Asked 0 0 1 3072) (replicate 3072 7) ∷ plain 0 (Begun 0 0)
    ∷ plain 0 (Posted (Ask 0 0) 0) ∷ plain 0 (Posted (Ask 0 0) 1) ∷ plain 0 (Posted (Ask 0 0) 2)
    ∷ [])

row-dues : map (λ q. q.due) long.queued ≡ Some 0 ∷ Some 1044 ∷ Some 2088 ∷ []
row-dues = refl

-- with a rate of 0 again, a packet is ready at once, before those that are paced
row-unpaced : (after_all 0 slow (plain 0 (Rated 0 0) ∷ plain 0 (Posted (Ask 0 0) 0) ∷ [])).queued ≡ entry 0 None ∷ []
row-unpaced = refl

-- Worked rows: what the facts of a call of two packets, and of a session that ends, tell, read by the definitions
-- alone.
use Rattle.std.proofs.Common.{◌≡◌, ◌≤◌, true, false, None, List, [], ◌∷◌, refl, arith}
use Rattle.std.specs.Prelude.{count_by}
use Rattle.std.specs.List.{list_any}
use Rattle.rpc_base.specs.declared.event.Event.TheVariants.{PairedClient, Asked, Begun, Posted}
use Rattle.rpc_base.specs.declared.event.Event.TheVariants.{Sent, Flushed, Took, Rolled, DoneOk}
use Rattle.rpc_base.specs.declared.event.Event.TheVariants.{Ended}
use Rattle.rpc_base.specs.declared.fact.Fact.{Fact}
use Rattle.rpc_base.specs.declared.owner.Owner.TheVariants.{Ask, Reply}
use Rattle.rpc_laws.specs.AtMostOnce.{times, begins_call, ends_call}
use Rattle.rpc_laws.specs.Facts.{plain}
use Rattle.node_laws.specs.CallHistory.{latest_first, takes_of, posted_by, rolls_by}
use Rattle.node_laws.specs.EndedCalls.{queued_by, asks_on, begins_as, posts_of}
use Rattle.node_laws.specs.EndedSessions.{ends_session, is_reply_of, posts_for}
use Rattle.node_laws.specs.QueuedPackets.{QueuedOnce, queued_of}

-- it begins, posts both packets and sends the first; the second is flushed, and the call rolled back
abbrev begun : List Fact
begun = latest_first [] (plain 4 (PairedClient 0 7 3 2 1) ∷ plain 4 (Asked 0 0 1 9) ∷ plain 4 (Begun 0 0) ∷ [])

abbrev posted : List Fact
posted = latest_first begun (plain 4 (Posted (Ask 0 0) 0) ∷ plain 4 (Posted (Ask 0 0) 1)
    ∷ plain 4 (Sent 7 (Ask 0 0) 0) ∷ [])

abbrev rolled : List Fact
rolled = latest_first posted (plain 4 (Flushed (Ask 0 0) 1) ∷ plain 4 (Rolled 0 2 0) ∷ [])

-- it posts and sends the first once more, and takes the answer to it
abbrev taken : List Fact
taken = latest_first rolled (plain 4 (Posted (Ask 0 0) 0) ∷ plain 4 (Sent 7 (Ask 0 0) 0)
    ∷ plain 4 (Took (Ask 0 0) 0) ∷ [])

row-begun : list_any (λ f. asks_on 0 0 f.event) begun ≡ true
row-begun = refl

row-begun-as : list_any (λ f. begins_as 0 0 f.event) begun ≡ true
row-begun-as = refl

row-begun-posted : posted_by 0 0 0 begun ≡ 0
row-begun-posted = refl

row-posted : posted_by 0 0 0 posted ≡ 2
row-posted = refl

row-posted-queued : queued_by posted ≡ record { owner = Ask 0 0; number = 1; due = None } ∷ []
row-posted-queued = refl

row-rolled : posted_by 0 0 0 rolled ≡ 0
row-rolled = refl

row-rolled-rolls : rolls_by 0 0 0 rolled ≡ 1
row-rolled-rolls = refl

row-rolled-queued : queued_by rolled ≡ []
row-rolled-queued = refl

row-taken-posted : posted_by 0 0 0 taken ≡ 1
row-taken-posted = refl

row-taken-rolls : rolls_by 0 0 0 taken ≡ 0
row-taken-rolls = refl

row-taken-got : count_by (λ f. takes_of 0 0 f.event) taken ≡ 1
row-taken-got = refl

-- facts of another call, or of another session, say nothing of it
row-other-call : posted_by 1 0 8 taken ≡ 0
row-other-call = refl

row-other-session : count_by (λ f. takes_of 1 0 f.event) taken ≡ 0
row-other-session = refl

-- it began once, and isn't over; a later posting of one of its packets would show
row-begun-once : times 4 (begins_call 0) taken ≡ 1
row-begun-once = refl

row-not-over : times 4 (ends_call 0) taken ≡ 0
row-not-over = refl

row-over : times 4 (ends_call 0) (plain 4 (DoneOk 0) ∷ taken) ≡ 1
row-over = refl

row-posts : list_any (λ f. posts_of 0 0 f.event) (plain 4 (Posted (Ask 0 0) 1) ∷ []) ≡ true
row-posts = refl

row-posts-other : list_any (λ f. posts_of 0 0 f.event) (plain 4 (Posted (Ask 0 8) 0) ∷ []) ≡ false
row-posts-other = refl

-- two packets are queued of a session with two credits: none is free
row-queued-two : queued_of 0 (queued_by (plain 4 (Posted (Ask 0 0) 1) ∷ plain 4 (Posted (Ask 0 0) 0) ∷ begun)) ≡ 2
row-queued-two = refl

-- a packet that is queued twice would show
row-queued-twice : QueuedOnce (queued_by (plain 4 (Posted (Ask 0 0) 0) ∷ plain 4 (Posted (Ask 0 0) 0) ∷ begun)) → ⊥
row-queued-twice once = let few : 2 ≤ 1 = once 0 0 0 in absurd (omega arith)

-- a server session ends: its replies that are queued, or posted later, would show
row-ends : ends_session 3 (Ended 3) ≡ true
row-ends = refl

row-ends-other : ends_session 3 (Ended 2) ≡ false
row-ends-other = refl

row-ended-queued : list_any (λ q. is_reply_of 3 q.owner) (queued_by (plain 4 (Posted (Reply 3 9) 0) ∷ begun)) ≡ true
row-ended-queued = refl

row-ended-posts : list_any (λ f. posts_for 3 f.event) (plain 4 (Posted (Reply 3 1) 0) ∷ []) ≡ true
row-ended-posts = refl

row-ended-posts-other : list_any (λ f. posts_for 3 f.event) (plain 4 (Posted (Reply 2 1) 0) ∷ []) ≡ false
row-ended-posts-other = refl

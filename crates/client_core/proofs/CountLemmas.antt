-- The places have as many references as entries name them, before and after a call of a session.
use Rattle.std.proofs.Common.{◌≡◌, ◌≢◌, ℕ, List}
use Rattle.std.proofs.Common.{sym, ap, ◌∙◌}
use Rattle.buffer_pool.specs.declared.usage.Use.TheVariants.{Empty}
use Rattle.buffer_pool.specs.Uses.{is_full}
use Rattle.buffer_pool.specs.Pool.{Pool, IsFull, emptied, refs_of}
use Rattle.buffer_pool.proofs.CountLemmas.{refs_emptied}
use Rattle.buffer_pool.proofs.PoolLemmas.{changed_other}
use Rattle.packet_header.specs.declared.packet.MessageHeader.{MessageHeader}
use Rattle.packet_rings.specs.Values.{EntryValue}
use Rattle.client_core.specs.declared.call.ActiveCall.{ActiveCall}
use Rattle.client_core.specs.Counting.{Counts}
use Rattle.client_core.specs.KeepsPool.{IsKept}
use Rattle.client_core.specs.Replies.{IsUnheld, answered, without_buffers}
use Rattle.client_core.proofs.AnswerLemmas.{answered-refs}
use Rattle.buffer_pool.proofs.CountingLemmas.{counts-emptied}

-- a part of an answer is written
pub counts-answered : (pool : Pool) (es : List EntryValue) (c : ActiveCall) (h : MessageHeader)
    (body : List ℕ) → Counts pool es → Counts (answered c h body pool) es
counts-answered pool es c h body counts = λ q. answered-refs pool c h body q ∙ counts q

-- a call is over, of which no packet is queued
pub counts-ended : (pool : Pool) (es : List EntryValue) (c : ActiveCall) → IsKept pool c
    → c.ask ≢ c.answer → IsUnheld pool c → Counts pool es → Counts (without_buffers c pool) es
counts-ended pool es c kept apart unheld counts =
    let first = counts-emptied pool es counts c.ask kept.ask unheld in
    let other : c.answer ≢ c.ask = λ same. apart (sym same) in
    let full : IsFull (emptied c.ask pool) c.answer =
    ap is_full (changed_other pool.uses c.ask c.answer Empty Empty other) ∙ kept.answer in
    let none : refs_of (emptied c.ask pool) c.answer ≡ 0 =
    refs_emptied pool c.ask c.answer kept.ask unheld ∙ kept.unnamed in
    counts-emptied (emptied c.ask pool) es first c.answer full none

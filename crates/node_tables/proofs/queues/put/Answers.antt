use Rattle.std.proofs.Common.{sym, ap, ◌∙◌, ℕ, Option, List, length}
use Rattle.std.specs.List.{insert}
use Rattle.std.specs.Option.{unwrap_or}
use Rattle.rpc_laws.specs.declared.tables.Queued.{Queued}
use Rattle.node_tables.proofs.PutLemmas.{put-is}
use Rattle.node_tables.proofs.queues.put.Goals as goal

pub returns-clause-queued : goal.returns-clause-queued
returns-clause-queued c =
    let new : Queued = record { owner = c.args.owner; number = c.args.number; due = c.args.due } in
    let old = c.into_vec-entries.ensures ∙ c.replace.ensures.value in
    let place =
    c.unwrap_or-place.ensures ∙ (ap (λ (n : ℕ). unwrap_or c.place_behind.result n) c.len.ensures
    ∙ ap (λ (o : Option ℕ). unwrap_or o (length c.args.queued.now)) c.place_behind.ensures) in
    c.from.ensures ∙ (c.in_ok-insert.ensures.items
    ∙ (ap (λ (qs : List Queued). insert qs c.unwrap_or-place.result new) old
    ∙ (ap (λ (i : ℕ). insert c.args.queued.now i new) place ∙ sym (put-is new c.args.queued.now))))

use Rattle.std.proofs.Common.{◌==◌, ◌∙◌}
use Rattle.lawful_history.specs.Told.{is_endpoint}
use Rattle.call_book.proofs.OrLemmas.{put-at}
use Rattle.call_book.specs.Requests.{call_kept}
use Rattle.call_book.proofs.requests.Requests.note.Goals as goal

pub returns-in_default-insert-clause-noted : goal.returns-in_default-insert-clause-noted
returns-in_default-insert-clause-noted c = λ m s r.
    let k = c.began.inside in
    rw (← c.self.view_is, c.in-Some.is, ← c.began.view_is)
    (c.in_default-insert.ensures.updates.0 (m.node, m.life, s, r)
    ∙ put-at (is_endpoint (record { node = c.args.node; life = c.args.life }) m) (k.session == s) (k.request == r)
    k.call (call_kept c.self.inside.calls.entries m s r))

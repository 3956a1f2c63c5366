use Rattle.pacing_wheel.proofs.DueLemmas.{none-released, released-due, released-first, released-left}
use Rattle.session_ends.proofs.queue.take_due.Goals as goal

pub returns-clause-first : goal.returns-clause-first
returns-clause-first c =
    released-first c.args.now c.args.pacer.now _ c.release.result c.sound.ensures c.release.ensures.released
    c.release.ensures.left

pub returns-clause-due : goal.returns-clause-due
returns-clause-due c =
    released-due c.args.now c.args.pacer.now _ c.release.result c.sound.ensures c.release.ensures.released
    c.release.ensures.left

pub returns-clause-left : goal.returns-clause-left
returns-clause-left c =
    released-left c.args.now c.args.pacer.now _ c.release.result c.sound.ensures c.release.ensures.released
    c.release.ensures.left

pub returns-clause-unchanged : goal.returns-clause-unchanged
returns-clause-unchanged c =
    none-released c.args.now c.args.pacer.now _ c.release.result c.sound.ensures c.release.ensures.released
    c.release.ensures.left

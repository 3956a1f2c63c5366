use Rattle.sequence_picture.specs.Tracks.{repeated_at}
use Rattle.sequence_picture.proofs.DrawLemmas.{nothing-more}
use Rattle.sequence_picture.proofs.tracks.repeat.Goals as goal

pub returns-else-copy-len-clause-tracks : goal.returns-else-copy-len-clause-tracks
returns-else-copy-len-clause-tracks c =
    nothing-more (repeated_at c.args.place) c.args.tracks.now c.len.result c.args.copy c.args.tracks.now
    c.len.ensures c.if-copy-len.false

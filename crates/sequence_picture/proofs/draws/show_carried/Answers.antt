use Rattle.sequence_picture.specs.Drawing.{carried}
use Rattle.sequence_picture.proofs.DrawLemmas.{nothing-more}
use Rattle.sequence_picture.proofs.draws.show_carried.Goals as goal

pub returns-else-copy-len-clause-drawn : goal.returns-else-copy-len-clause-drawn
returns-else-copy-len-clause-drawn c =
    nothing-more (carried c.args.facts.now c.args.place) c.args.tracks.now c.len.result c.args.copy c.args.drawn.now
    c.len.ensures c.if-copy-len.false

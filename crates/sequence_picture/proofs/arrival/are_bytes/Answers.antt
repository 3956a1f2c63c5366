use Rattle.std.proofs.Common.{Some, None}
use Rattle.std.proofs.lemmas.Bool.Decides.{Decides-eqb}
use Rattle.std.proofs.lemmas.Slice.Eq.{strip_prefix_is}
use Rattle.sequence_picture.proofs.ArrivalLemmas.{are-none, are-some}
use Rattle.sequence_picture.proofs.arrival.are_bytes.Goals as goal

pub returns-in-Some : goal.returns-in-Some
returns-in-Some c =
    are-some c.args.bytes.now c.args.head.now c.args.body.now c.in-Some.rest.now c.eq.result
    (strip_prefix_is Decides-eqb c.args.bytes.now c.args.head.now (Some c.in-Some.rest) c.in-Some.ensures.cases)
    c.eq.ensures

pub returns-in-None : goal.returns-in-None
returns-in-None c =
    are-none c.args.bytes.now c.args.head.now c.args.body.now
    (strip_prefix_is Decides-eqb c.args.bytes.now c.args.head.now None c.in-None.ensures.cases)

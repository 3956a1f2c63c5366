-- the words are in their ranges
use Rattle.std.proofs.Common.{◌+◌, ◌%◌, ◌∙◌, ap, length}
use Rattle.command_line.specs.Words.{LoadWords}
use Rattle.std.proofs.lemmas.List.FromFn.{length-map-range_with_len}
use Rattle.load_plan.proofs.plan.Plan.of.Goals as goal

pub invariant_of-result : goal.invariant_of-result
invariant_of-result c =
    let size = ap (λ (w : LoadWords). w.size) c.spec.view_is in
    let req_type = ap (λ (w : LoadWords). w.req_type) c.spec.view_is in (
      rw size c.requires.most_bytes,
      rw req_type c.requires.known_type,
      rw c.of-manner.ensures at c.in_ok-number.ensures.number,
      c.in_ok-counted.ensures.counted,
      ap length c.in_ok-counted.ensures.counted
          ∙ length-map-range_with_len (λ j. (0 + j) % 256) 0 (c.spec.inside.size + 256),
    )

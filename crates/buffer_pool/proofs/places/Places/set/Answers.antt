use Rattle.std.proofs.Common.{◌≡◌, ◌<◌, ◌∙◌, get_or, length, sym, ap, arith}
use Rattle.std.proofs.lemmas.List.{get_or_read}
use Rattle.buffer_pool.specs.declared.usage.Use.TheVariants.{Empty}
use Rattle.buffer_pool.specs.Uses.{is_empty}
use Rattle.buffer_pool.proofs.UsesLemmas.{count-room, CountsEmpty-set, CountsEmpty-same}
use Rattle.buffer_pool.proofs.UsesLemmas.{marks_differ, marks_agree, was_other}
use Rattle.buffer_pool.proofs.places.Places.set.Goals as goal

pub recount-self-inside-requires-clause-more : goal.recount-self-inside-requires-clause-more
recount-self-inside-requires-clause-more c =
    let uses = c.self.inside.uses.items in
    let within : c.args.place < length uses = omega (arith, ap length c.self.view_is) in
    let was : c.is_empty-was_empty.result ≡ is_empty (get_or uses c.args.place Empty) =
    c.is_empty-was_empty.ensures ∙ ap is_empty
    (get_or_read uses c.args.place c.index.result.now within c.index.ensures Empty) in
    λ now_empty. omega (
      arith,
      c.self.invariant.spare_is,
      c.self.invariant.few,
      count-room uses c.args.place within (sym was
          ∙ was_other _ _ c.if-was_empty-is_empty.true now_empty),
    )

pub invariant_of-self : goal.invariant_of-self
invariant_of-self c =
    let fields = c.self.inside in
    let uses = fields.uses.items in
    let within : c.args.place < length uses = omega (arith, ap length c.self.view_is) in
    let was : c.is_empty-was_empty.result ≡ is_empty (get_or uses c.args.place Empty) =
    c.is_empty-was_empty.ensures ∙ ap is_empty
    (get_or_read uses c.args.place c.index.result.now within c.index.ensures Empty) in
    CountsEmpty-set uses fields.empties c.set.new.self fields.spare c.recount-self-inside.result
    c.args.place c.args.next c.is_empty-was_empty.result c.is_empty-is_empty.result
    c.self.invariant within was c.is_empty-is_empty.ensures
    (marks_differ _ _ c.if-was_empty-is_empty.true) c.set.ensures
    c.recount-self-inside.ensures.more c.recount-self-inside.ensures.fewer

pub invariant_of-self-else-was_empty-is_empty : goal.invariant_of-self-else-was_empty-is_empty
invariant_of-self-else-was_empty-is_empty c =
    let fields = c.self.inside in
    let uses = fields.uses.items in
    let within : c.args.place < length uses = omega (arith, ap length c.self.view_is) in
    let was : c.is_empty-was_empty.result ≡ is_empty (get_or uses c.args.place Empty) =
    c.is_empty-was_empty.ensures ∙ ap is_empty
    (get_or_read uses c.args.place c.index.result.now within c.index.ensures Empty) in
    CountsEmpty-same uses fields.empties fields.spare c.args.place c.args.next c.self.invariant
    within (sym was ∙ marks_agree _ _ c.if-was_empty-is_empty.false
    ∙ c.is_empty-is_empty.ensures)

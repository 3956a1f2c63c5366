-- What each line of a script is, by its place among the lines.
use Rattle.std.specs.Prelude.{◌≡◌, ℕ, ◌+◌, ◌-◌, ◌<◌, ◌≤◌, List, length, slice_index_or}
use Rattle.std.proofs.Common.{refl, sym, ap, ◌∙◌, subst, arith, length-append}
use Rattle.std.proofs.lemmas.List.{get_or_append_left, get_or-append_right}
use Rattle.script_grammar.specs.declared.line.Line.{Line}
use Rattle.script_grammar.specs.Conditions.{IsNode, IsAmong, IsScript}

-- the first lines are the node lines
pub node_at : (lines : List Line) (script : IsScript lines) (k : ℕ) (d : Line)
    → k < length script.nodes → IsNode (slice_index_or lines k d).command
node_at lines script k d h =
    subst (λ line. IsNode line.command) (sym (ap (λ l. slice_index_or l k d) script.parts ∙
    get_or_append_left script.nodes script.others d k h)) (script.all_nodes k d h)

-- the others name only these nodes
pub other_at : (lines : List Line) (script : IsScript lines) (k : ℕ) (d : Line)
    → length script.nodes ≤ k → k < length lines
    → IsAmong (length script.nodes) (slice_index_or lines k d).command
other_at lines script k d h within =
    let whole : length lines ≡ length script.nodes + length script.others =
    ap (λ l. length l) script.parts ∙ length-append script.nodes script.others in
    subst (λ line. IsAmong (length script.nodes) line.command)
    (sym (ap (λ l. slice_index_or l k d) script.parts ∙ get_or-append_right script.nodes
    script.others _ k d refl h))
    (script.all_others (k - length script.nodes) d (omega arith))

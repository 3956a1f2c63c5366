use Rattle.std.proofs.Common.{rules, subst, sym, ap, ◌∙◌, ◌≡◌, ℕ, List, get_or, length}
use Rattle.std.proofs.lemmas.List.{get_or-replicate}
use lib.ListN.{length-replicate}
use Rattle.shared_pool.proofs.StartLemmas.{starts}
use Rattle.shared_pool.proofs.pool.SharedPool.new.Goals as goal

pub new-made-requires : goal.new-made-requires
new-made-requires c = let all = c.as_slice.ensures.value ∙ c.in_ok-words.ensures.words in
    starts c.args.capacity _ _
    (ap (λ (ws : List ℕ). length ws) all ∙ length-replicate c.args.places 0
    ∙ sym c.in_ok-slots.ensures.count)
    (λ i near. subst (λ (ws : List ℕ). get_or ws i 0 ≡ 0) (sym all)
    (get_or-replicate c.args.places i 0 0 (search rules)))
    (search rules)

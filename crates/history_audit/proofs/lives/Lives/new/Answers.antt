use Rattle.history_audit.proofs.LivesLemmas.{lives-none}
use Rattle.history_audit.proofs.lives.Lives.new.Goals as goal

pub returns-in-Ok-clause-none : goal.returns-in-Ok-clause-none
returns-in-Ok-clause-none c = lives-none c.in-Ok.lives.items (c.in-Ok.ensures.items_if_clones_equal (λ y e. e))

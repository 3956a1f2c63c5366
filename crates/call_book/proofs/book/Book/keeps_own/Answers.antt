use Rattle.std.proofs.Common.{ℕ, List, ap, ◌∙◌}
use Rattle.lawful_history.specs.Told.{is_own}
use Rattle.call_book.proofs.NextLemmas.{calls-net, calls-node}
use Rattle.call_book.specs.SoFar.{so_far}
use Rattle.call_book.proofs.book.Book.keeps_own.Goals as goal

pub returns-in-Node : goal.returns-in-Node
returns-in-Node c = λ h lives t calls.
    calls-node h c.args.fact.now c.is_own.result c.in-Node.node c.args.life calls c.in-Node.is lives
    (c.is_own.ensures (so_far h) t
    ∙ ap (λ (z : List ℕ). is_own (so_far h) (record { node = c.in-Node.node; life = c.args.life })
    c.args.fact.now.event z) c.bytes.ensures)

pub returns-in-Net : goal.returns-in-Net
returns-in-Net c = λ h lives t calls. calls-net h c.args.fact.now calls c.in-Net.is

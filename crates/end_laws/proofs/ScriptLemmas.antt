-- The pairings of a script are of two nodes.
use Rattle.std.proofs.Common.{ℕ, suc, List, [], ◌∷◌, length, arith}
use Rattle.std.specs.Prelude.{All}
use Rattle.std.specs.List.{AllByRecursion}
use Rattle.script_grammar.specs.Conditions.{IsNode, IsAmong, IsScript}
use Rattle.script_grammar.specs.declared.line.Command.{Command}
use Rattle.script_grammar.specs.declared.line.Command.TheVariants.{Node, Pair}
use Rattle.script_grammar.specs.declared.line.Line.{Line}
use Rattle.end_laws.specs.TwoNodes.{PairsTwo, PairsTwoNodes}
use Rattle.rpc_base.proofs.FirstLemmas.{all-both, all-each}

node-two : (c : Command) → IsNode c → PairsTwo c
node-two (Node ring) h = tt
node-two _ h = absurd h

among-two : (n : ℕ) (c : Command) → IsAmong n c → PairsTwo c
among-two n (Node ring) h = absurd h
among-two n (Pair a b credits) h = h.2
among-two n _ h = tt

all-recursion : {A : Type 0} (P : A → Type 0) (xs : List A) → All P xs → AllByRecursion P xs
all-recursion P [] h = tt
all-recursion P (x ∷ xs) h = (h 0 x (omega arith), all-recursion P xs (λ k d lt. h (suc k) d (omega arith)))

pub script-two : (lines : List Line) → IsScript lines → PairsTwoNodes lines
script-two lines s =
    rw s.parts (all-both _ s.nodes s.others
    (all-each _ _ s.nodes (λ line. node-two line.command) (all-recursion _ s.nodes s.all_nodes))
    (all-each _ _ s.others (λ line. among-two (length s.nodes) line.command) (all-recursion _ s.others s.all_others)))

-- The clauses beside `least` are laws of the number that it names.
use Rattle.std.proofs.Common.{rules}
use Rattle.packet_rings.specs.Entries.{is_of, number_of}
use Rattle.rpc_base.proofs.LeastLemmas.{number-none, number-held, number-lowest}
use Rattle.packet_rings.proofs.tx.TxRing.least.Goals as goal

pub returns-clause-least : goal.returns-clause-least
returns-clause-least c = search rules

pub returns-clause-none : goal.returns-clause-none
returns-clause-none c =
    number-none (is_of c.args.owner) number_of c.args.self.now.items c.least_of.result (returns-clause-least c)

pub returns-clause-held : goal.returns-clause-held
returns-clause-held c =
    number-held (is_of c.args.owner) number_of c.args.self.now.items c.least_of.result (returns-clause-least c)

pub returns-clause-lowest : goal.returns-clause-lowest
returns-clause-lowest c =
    number-lowest (is_of c.args.owner) number_of c.args.self.now.items c.least_of.result (returns-clause-least c)

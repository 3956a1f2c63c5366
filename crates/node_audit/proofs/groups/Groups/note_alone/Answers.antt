use Rattle.std.proofs.Common.{refl}
use Rattle.node_audit.specs.Groups.{begins}
use Rattle.node_audit.proofs.GroupsLemmas.{alone-by}
use Rattle.node_audit.proofs.groups.Groups.note_alone.Goals as goal

pub returns-then-not-is_group-clause-alone : goal.returns-then-not-is_group-clause-alone
returns-then-not-is_group-clause-alone c = begins (c.is_group.ensures.only c.if-not-is_group.true)

pub returns-clause-alone : goal.returns-clause-alone
returns-clause-alone c =
    alone-by c.args.self.now
    (record {
      lists = c.apply.new.lists;
      clock = c.args.self.now.clock;
      pending = c.args.self.now.pending;
    })
    c.args.fact.now (c.is_group.ensures.some c.if-not-is_group.false) c.in_ok-apply.ensures.lists refl refl

use Rattle.std.proofs.Common.{refl, ◌∙◌}
use Rattle.node_audit.proofs.GroupsLemmas.{ends-by, ends-none}
use Rattle.node_audit.proofs.groups.Groups.end_poll.Goals as goal

pub returns-in_default-clause-ends : goal.returns-in_default-clause-ends
returns-in_default-clause-ends c =
    ends-none c.args.self.now
    (record {
      lists = c.poll.new.lists;
      clock = c.args.self.now.clock;
      pending = c.replace-facts.new.dest;
    })
    c.as_slice.result.now c.poll.new.lists c.in_ok-now.field-0
    (c.as_slice.ensures ∙ c.replace-facts.ensures.value) c.in_ok-now.ensures.poll c.in_default.is

pub returns-clause-ends : goal.returns-clause-ends
returns-clause-ends c =
    ends-by c.args.self.now
    (record {
      lists = c.poll.new.lists;
      clock = c.in-Some.now;
      pending = c.replace-facts.new.dest;
    })
    c.as_slice.result.now c.in_ok-now.field-0 c.in-Some.now (c.as_slice.ensures ∙ c.replace-facts.ensures.value)
    c.in_ok-now.ensures.poll c.in-Some.is refl (c.replace-facts.ensures.after ∙ c.new.ensures)

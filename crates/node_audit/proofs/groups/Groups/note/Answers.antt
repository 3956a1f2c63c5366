use Rattle.std.proofs.Common.{refl, sym, ◌∙◌}
use Rattle.node_audit.proofs.GroupsLemmas.{alone-all, ended-all, open-all}
use Rattle.node_audit.proofs.groups.Groups.note.Goals as goal

pub returns-then-is_alone-clause-goes : goal.returns-then-is_alone-clause-goes
returns-then-is_alone-clause-goes c =
    alone-all c.note_alone.result c.args.self.now c.note_alone.new.self c.args.fact.now
    (sym c.is_alone.ensures ∙ c.if-is_alone.true) c.note_alone.ensures.alone

pub returns-then-ends_poll-clause-goes : goal.returns-then-ends_poll-clause-goes
returns-then-ends_poll-clause-goes c =
    ended-all c.end_poll.result c.args.self.now
    (record {
      lists = c.args.self.now.lists;
      clock = c.args.self.now.clock;
      pending = c.keep.new.facts;
    })
    c.end_poll.new.self c.args.fact.now refl refl
    c.in_ok-keep.ensures.kept
    (sym c.ends_poll.ensures ∙ c.if-ends_poll.true) c.end_poll.ensures.ends

pub returns-clause-goes : goal.returns-clause-goes
returns-clause-goes c =
    open-all c.args.self.now
    (record {
      lists = c.args.self.now.lists;
      clock = c.args.self.now.clock;
      pending = c.keep.new.facts;
    })
    c.args.fact.now refl refl
    c.in_ok-keep.ensures.kept
    (sym c.ends_poll.ensures ∙ c.if-ends_poll.false) (sym c.is_alone.ensures ∙ c.if-is_alone.false)

use Rattle.std.proofs.Common.{arith, ◌++◌, subst, List}
use Rattle.std.proofs.lemmas.List.{nil_from_length, length-map}
use Rattle.worker_crew.specs.Crews.{AreOut, names}
use Rattle.worker_crew.specs.Hands.{HandName, name_of}
use Rattle.worker_crew.specs.declared.hand.Hand.{Hand}
use Rattle.worker_crew.proofs.crew.starting.share_out.Goals as goal

pub retire_each-requires : goal.retire_each-requires
retire_each-requires g c = subst (λ (l : List HandName). AreOut c.args.dispatcher.now.board
    c.args.dispatcher.now.view.out (l ++ names c.start_each.new.kept.items))
    (nil_from_length (g.P.Spawner.hands_out c.start_each.new.spawner) (omega (
      arith,
      c.start_each.ensures.shared.many,
      length-map c.args.made.items (λ (h : Hand g.row.D.Denot). name_of h),
      length-map c.start_each.new.kept.items (λ (h : Hand g.row.D.Denot). name_of h),
    )))
    (c.start_each.ensures.shared.hands _ _ c.requires.out)

pub returns-then-len-count-clause-started : goal.returns-then-len-count-clause-started
returns-then-len-count-clause-started g c = c.start_each.ensures.shared.hands _ _ c.requires.out

use Rattle.std.proofs.Common.{rules, arith, sym, ap, ◌∙◌, ◌<◌, ◌≡◌, length, subst}
use Rattle.worker_board.specs.Counts.{removed, times}
use Rattle.worker_board.specs.Moves.{number_of}
use Rattle.worker_board.specs.Seats.{view_of}
use Rattle.worker_board.specs.declared.view.View.{View}
use Rattle.worker_crew.specs.Dispatching.{Dispatching}
use Rattle.worker_crew.specs.Hands.{name_of}
use Rattle.worker_crew.proofs.OutLemmas.{one-fewer-out}
use Rattle.worker_crew.proofs.dispatcher.Dispatcher.retire.Goals as goal

pub invariant_of-self : goal.invariant_of-self
invariant_of-self g c =
    let number = (name_of c.args.hand).number in
    let out = (view_of c.self.inside.seat).out in
    let there : 0 < times number out =
    subst (λ (s : Dispatching). 0 < times number s.view.out) (sym c.self.view_is) c.requires.out in
    let gone : (view_of c.retire.new.seat).out ≡ removed number out =
    ap (λ (v : View). v.out) c.retire.ensures.view
    ∙ ap (λ m. removed m out) (ap (λ (v : View). number_of v.role) c.into_seat-seat.ensures.view
    ∙ ap number_of c.args.hand.seat.works) in (
      (
        search rules,
        record {
          ours = search rules;
          room = search rules;
          ends = omega (
            arith,
            c.take_in.ensures.out,
            c.self.invariant.0.1.ends,
            one-fewer-out number out there,
            ap length gone,
          );
        },
      ),
      search rules,
    )

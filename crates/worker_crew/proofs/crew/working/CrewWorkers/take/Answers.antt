use Rattle.std.proofs.Common.{rules, ap, sym, subst}
use Rattle.worker_crew.specs.Crews.{KeepsTo, has_hands, names}
use Rattle.worker_crew.proofs.CrewLemmas.{keeps-alone, keeps-beside}
use Rattle.worker_crew.proofs.crew.working.CrewWorkers.take.Goals as goal
use Rattle.worker_crew.proofs.crew.working.CrewWorkers.take.Goals.{in-Alone, in-ByHands}

pub invariant_of-self-in-ByHands : goal.invariant_of-self-in-ByHands
invariant_of-self-in-ByHands g c = (
  keeps-beside c.put_oldest.new.dispatcher c.collect_first-found.new.self
      (names c.step_each.new.hands.items) c.put_oldest.new.later.items c.self.invariant.0
      (ap has_hands c.in-ByHands.is) c.put_oldest.ensures.same c.put_oldest.ensures.tickets
      c.put_oldest.ensures.behind c.collect_first-found.ensures.same
      c.collect_first-found.ensures.none_back,
  search rules,
  search rules,
  search rules,
)

pub returns-in_err-parcel-clause-keeps : goal.returns-in_err-parcel-clause-keeps
returns-in_err-parcel-clause-keeps g c = elim c.match-self.branch [
  | in-Alone w ↦ subst KeepsTo (sym w.self-is)
      (keeps-alone w.answer_oldest-found.new.self c.self.invariant.0 (ap has_hands w.in-Alone.is)
      w.answer_oldest-found.ensures.same)
  | in-ByHands w ↦ subst KeepsTo (sym w.self-is)
      (keeps-beside w.put_oldest.new.dispatcher w.collect_first-found.new.self
      (names w.step_each.new.hands.items) w.put_oldest.new.later.items c.self.invariant.0
      (ap has_hands w.in-ByHands.is) w.put_oldest.ensures.same w.put_oldest.ensures.tickets
      w.put_oldest.ensures.behind w.collect_first-found.ensures.same
      w.collect_first-found.ensures.none_back)
]

pub returns-clause-keeps : goal.returns-clause-keeps
returns-clause-keeps g c = elim c.match-self.branch [
  | in-Alone w ↦ subst KeepsTo (sym w.self-is)
      (keeps-alone w.answer_oldest-found.new.self c.self.invariant.0 (ap has_hands w.in-Alone.is)
      w.answer_oldest-found.ensures.same)
  | in-ByHands w ↦ subst KeepsTo (sym w.self-is)
      (keeps-beside w.put_oldest.new.dispatcher w.collect_first-found.new.self
      (names w.step_each.new.hands.items) w.put_oldest.new.later.items c.self.invariant.0
      (ap has_hands w.in-ByHands.is) w.put_oldest.ensures.same w.put_oldest.ensures.tickets
      w.put_oldest.ensures.behind w.collect_first-found.ensures.same
      w.collect_first-found.ensures.none_back)
]

pub returns-clause-out : goal.returns-clause-out
returns-clause-out g c = elim c.match-self.branch [
  | in-Alone w ↦ search rules
  | in-ByHands w ↦ search rules
]

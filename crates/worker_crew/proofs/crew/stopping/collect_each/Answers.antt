use Rattle.std.proofs.Common.{rules, true, ap, ◌∙◌}
use Rattle.worker_crew.specs.Dispatching.{Dispatching}
use Rattle.worker_crew.specs.Jobs.{job_of}
use Rattle.worker_crew.proofs.PlacesLemmas.{left-one}
use Rattle.worker_crew.proofs.LeavingLemmas.{one-comes, all-left-done, all-lost-done}
use Rattle.worker_crew.proofs.crew.stopping.collect_each.Goals as goal

pub loop-dispatcher-preserved : goal.loop-dispatcher-preserved
loop-dispatcher-preserved g c = let now = c.in-Some.ensures.collected in record {
  out = one-comes c.loop-dispatcher.left.items c.push_back_reserved.new.self.items
      (record { parcel = c.in-Some.parcel; worked = true }) c.loop-dispatcher.invariant.out
      (left-one 0 (job_of c.in-Some.parcel) c.in-Some.ensures.jobs)
      c.push_back_reserved.ensures.items;
  left = all-left-done g.D.Duty.answer c.loop-dispatcher.dispatcher c.collect_at.new.self 0 c.in-Some.parcel
      c.in-Some.ensures.offered c.loop-dispatcher.left.items c.push_back_reserved.new.self.items
      c.in-Some.ensures.job c.in-Some.ensures.answered (ap (λ (s : Dispatching). s.view) now)
      c.push_back_reserved.ensures.items c.loop-dispatcher.invariant.left;
  lost = all-lost-done c.loop-dispatcher.dispatcher c.collect_at.new.self now c.loop-dispatcher.invariant.lost;
  room = search rules;
  board = ap (λ (s : Dispatching). s.board) now ∙ c.loop-dispatcher.invariant.board;
  put = ap (λ (s : Dispatching). s.put) now ∙ c.loop-dispatcher.invariant.put;
  told = ap (λ (s : Dispatching). s.told) now ∙ c.loop-dispatcher.invariant.told;
  hands = ap (λ (s : Dispatching). s.view.out) now ∙ c.loop-dispatcher.invariant.hands;
}

use Rattle.std.proofs.Common.{rules, false, sym, ap, ◌∙◌, ◌++◌, ◌∷◌, [], ◌<◌, length, subst, List, IsPermutation, arith}
use Rattle.std.proofs.lemmas.List.{length-append}
use Rattle.worker_crew.specs.Dispatching.{Dispatching, jobs_in}
use Rattle.worker_crew.specs.Jobs.{Job, job_of}
use Rattle.worker_crew.specs.Leaving.{jobs_of}
use Rattle.worker_crew.proofs.PlacesLemmas.{left-one}
use Rattle.worker_crew.proofs.LeavingLemmas.{one-comes, all-left-back, all-left-same}
use Rattle.worker_crew.proofs.LeavingLemmas.{all-lost-back, all-lost-more, one-fewer}
use Rattle.worker_crew.proofs.crew.stopping.take_back_each.Goals as goal

pub loop-i-preserved-in-Some : goal.loop-i-preserved-in-Some
loop-i-preserved-in-Some g c =
    let now = c.in-Some.ensures.taken_back in
    let below : c.loop-i.i < length c.loop-i.dispatcher.busy = search rules in
    let fewer = one-fewer c.loop-i.dispatcher.busy c.take_back_at.new.self.busy c.loop-i.i
    below (ap (λ (s : Dispatching). s.busy) now) in
    record {
      out = one-comes c.loop-i.left.items c.push_back_reserved.new.self.items
          (record { parcel = c.in-Some.parcel; worked = false }) c.loop-i.invariant.out
          (left-one c.loop-i.i (job_of c.in-Some.parcel) c.in-Some.ensures.jobs)
          c.push_back_reserved.ensures.items;
      left = all-left-back g.D.Duty.answer c.loop-i.dispatcher c.take_back_at.new.self c.loop-i.i c.in-Some.parcel
          c.in-Some.ensures.offered c.loop-i.left.items c.push_back_reserved.new.self.items
          c.in-Some.ensures.unworked (ap (λ (s : Dispatching). s.view) now)
          c.push_back_reserved.ensures.items
          c.loop-i.invariant.left;
      lost = all-lost-back c.loop-i.dispatcher c.take_back_at.new.self c.loop-i.i
          c.loop-i.invariant.inside now c.loop-i.invariant.lost;
      inside = omega (arith, fewer, c.loop-i.invariant.inside, below);
      room = omega (
        arith,
        fewer,
        ap length c.push_back_reserved.ensures.items,
        length-append c.loop-i.left.items (record { parcel = c.in-Some.parcel; worked = false } ∷ []),
        c.push_back_reserved.ensures.capacity,
        c.loop-i.invariant.room,
      );
      board = ap (λ (s : Dispatching). s.board) now ∙ c.loop-i.invariant.board;
      put = ap (λ (s : Dispatching). s.put) now ∙ c.loop-i.invariant.put;
      hands = ap (λ (s : Dispatching). s.view.out) now ∙ c.loop-i.invariant.hands;
    }

pub loop-i-preserved : goal.loop-i-preserved
loop-i-preserved g c = let now = c.in-None.ensures.lost in record {
  out = subst (λ (l : List Job). IsPermutation (jobs_in c.args.dispatcher.now) (jobs_of c.loop-i.left.items ++ l))
      (sym (ap jobs_in now)) c.loop-i.invariant.out;
  left = all-left-same g.D.Duty.answer c.loop-i.dispatcher.view c.take_back_at.new.self.view
      c.loop-i.left.items (ap (λ (s : Dispatching). s.view.ledger) now) c.loop-i.invariant.left;
  lost = all-lost-more c.loop-i.dispatcher c.take_back_at.new.self c.loop-i.i (search rules) now
      c.loop-i.invariant.lost;
  inside = search rules;
  room = search rules;
  board = ap (λ (s : Dispatching). s.board) now ∙ c.loop-i.invariant.board;
  put = ap (λ (s : Dispatching). s.put) now ∙ c.loop-i.invariant.put;
  hands = ap (λ (s : Dispatching). s.view.out) now ∙ c.loop-i.invariant.hands;
}

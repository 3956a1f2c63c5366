-- the places below this one are listed
use Rattle.std.proofs.Common.{◌≤◌, vec_capacity}
use Rattle.worker_crew.specs.Places.{AreFree}
use Rattle.worker_crew.proofs.dispatcher.making.all_places.Given as goal

abbrev pub invariant-loop-place : goal.invariant-loop-place
invariant-loop-place l = AreFree l.place l.free.items × (l.places ≤ vec_capacity l.free)

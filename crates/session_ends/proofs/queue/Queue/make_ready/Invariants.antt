-- what went behind the ring is ready at the end of the poll, as the rest is
use Rattle.std.proofs.Common.{◌≡◌, length}
use Rattle.std.specs.Prelude.{map}
use Rattle.rpc_laws.specs.Queues.{made_ready}
use Rattle.session_ends.specs.Joined.{PacesIn, joined_in, queue_in}
use Rattle.session_ends.proofs.queue.Queue.make_ready.Given as goal

abbrev pub invariant-packets : goal.invariant-packets
invariant-packets l = record {
  same : joined_in l.self ≡ joined_in l.fn.self;
  queue : map (made_ready l.now) (queue_in l.self)
      ≡ map (made_ready l.now) (queue_in l.fn.self);
  paces : PacesIn l.self;
}

abbrev pub decreases-packets : goal.decreases-packets
decreases-packets l = length l.self.pacer.items

-- the replies that left the ring gave their references up and were noted
use Rattle.std.proofs.Common.{◌≡◌, ℕ, ◌+◌, List, ◌++◌, Some, filter}
use Rattle.std.specs.Prelude.{count_by}
use Rattle.buffer_pool.specs.Pool.{refs_of}
use Rattle.packet_rings.specs.Entries.{is_not_of, is_of}
use Rattle.packet_rings.specs.Mentions.{mentions}
use Rattle.rpc_base.specs.declared.fact.Fact.{Fact}
use Rattle.rpc_outside.specs.Recording.{Grew}
use Rattle.server_core.specs.Flushing.{HoldsAll, HoldsReplies, flushed_facts}
use Rattle.server_core.specs.Session.{owner_of}
use Rattle.server_core.specs.Shown.{shown}
use Rattle.server_core.proofs.session.ServerSession.flush_older.Given as goal
use Rattle.server_core.specs.Keeping.{KeepsPlaces}

abbrev pub invariant-loop-left : goal.invariant-loop-left
invariant-loop-left g l = record {
  holds : HoldsReplies l.fn.self.number l.pool l.tx.items l.older;
  left : l.left ≡ count_by (is_of (owner_of l.fn.self.number l.older)) l.tx.items;
  kept : filter (is_not_of (owner_of l.fn.self.number l.older)) l.tx.items
      ≡ filter (is_not_of (owner_of l.fn.self.number l.older)) l.fn.tx.items;
  size : l.tx.size ≡ l.fn.tx.size;
  noted : (x : List Fact) × Grew (g.R.Recorder.log l.fn.rec) (g.R.Recorder.log l.rec) x
      × (x ++ flushed_facts l.fn.who l.fn.self.number (Some l.older) l.tx.items
      ≡ flushed_facts l.fn.who l.fn.self.number (Some l.older) l.fn.tx.items);
  shown : shown l.pool l.fn.self ≡ shown l.fn.pool l.fn.self;
  bufs : l.pool.bufs ≡ l.fn.pool.bufs;
  places : KeepsPlaces l.fn.self l.fn.self l.fn.pool l.pool;
  all : HoldsAll l.fn.self l.fn.pool l.fn.tx.items → HoldsAll l.fn.self l.pool l.tx.items;
  counts : (p : ℕ) → refs_of l.pool p + mentions p l.fn.tx.items
      ≡ refs_of l.fn.pool p + mentions p l.tx.items;
}

abbrev pub decreases-loop-left : goal.decreases-loop-left
decreases-loop-left g l = l.left

-- A life of a peer comes to be known: nothing else changes.
use Rattle.std.proofs.Common.{ℕ, List}
use Rattle.packet_rings.specs.Rings.{Ring}
use Rattle.packet_rings.specs.Values.{DatagramValue}
use Rattle.rpc_base.specs.declared.limits.Limits.{Limits}
use Rattle.rpc_laws.specs.declared.tables.Jobs.{Jobs}
use Rattle.rpc_laws.specs.declared.tables.Lists.{Lists}
use Rattle.rpc_laws.specs.declared.tables.Pace.{Pace}
use Rattle.node_laws.specs.Kept.{Kept}
use Rattle.session_store.specs.Sides.{Shown}
use Rattle.node_steps.specs.Fits.{Fits}
use Rattle.node_steps.specs.Seen.{Tallies, seen_node}

pub kept-known : (s : Lists) (known : List ℕ) → Kept s → Kept (record s { known = known })
kept-known s known k = record {
  valid = record {
    numbered = k.valid.numbered;
    alone = k.valid.alone;
    once = k.valid.once;
    sound = k.valid.sound;
    idle = k.valid.idle;
    served = k.valid.served;
    runs = k.valid.runs;
    works = k.valid.works;
    shared = k.valid.shared;
  };
  asked = k.asked;
  few = k.few;
  reads = k.reads;
  eight = k.eight;
  windows = k.windows;
  live = k.live;
  once = k.once;
}

pub fits-known : (me : ℕ) (limits : Limits) (tallies : Tallies) (paces : List Pace) (jobs : Jobs)
    (clock : ℕ) (rx : Ring DatagramValue) (s : Shown) (known : List ℕ)
    → Fits (seen_node me limits tallies paces jobs clock rx s) s.size s.places
    → Fits (seen_node me limits (record tallies { known = known }) paces jobs clock rx s) s.size
    s.places
fits-known me limits tallies paces jobs clock rx s known fits = record {
  kept = kept-known _ known fits.kept;
  ascends = fits.ascends;
  paces = fits.paces;
  each = fits.each;
  numbers = fits.numbers;
  alive = fits.alive;
  server_numbers = fits.server_numbers;
  settled = fits.settled;
  credits = fits.credits;
  sendable = fits.sendable;
  replies = fits.replies;
  most = fits.most;
  packets = fits.packets;
  jobs = fits.jobs;
  buffers = fits.buffers;
}

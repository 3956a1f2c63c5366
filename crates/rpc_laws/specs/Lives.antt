-- Lives: an endpoint has a number from its making to its end, and knows lives of its peers. A
-- node's own life stands in its lists.
use Rattle.std.specs.Prelude.{ℕ, max, Option, Some, None, List, replicate, slice_index, slice_set}
use Rattle.packet_header.specs.declared.life.TheConstants.{FIRST_LIFE}
use Rattle.packet_header.specs.declared.packet.ControlHeader.{ControlHeader}
use Rattle.packet_header.specs.declared.packet.ControlKind.{ControlKind}
use Rattle.packet_header.specs.declared.packet.ControlKind.TheVariants.{ConnectReply}
use Rattle.rpc_base.specs.declared.event.Event.{Event}
use Rattle.rpc_base.specs.declared.event.Event.TheVariants.{PairedClient, PairedServer, Sent}
use Rattle.rpc_base.specs.declared.event.Event.TheVariants.{Unsent}
use Rattle.rpc_base.specs.declared.limits.TheConstants.{PEERS}
use Rattle.rpc_base.specs.declared.owner.Owner.TheVariants.{Control}
use Rattle.rpc_laws.specs.Front.{control_of}

-- the life that a node of a script is made with
abbrev pub first_life : ℕ
first_life = FIRST_LIFE

-- nobody's life
abbrev pub no_life : ℕ
no_life = 0

-- the greatest life of each peer, by the peers' numbers: at first none is known
abbrev pub no_lives : List ℕ
no_lives = replicate PEERS no_life

abbrev pub known_life : (peer : ℕ) → List ℕ → ℕ
known_life peer known = slice_index known peer

-- a life of a peer comes to be known: the greatest is kept
abbrev pub raised : (peer life : ℕ) → List ℕ → List ℕ
raised peer life known = slice_set known peer (max (known_life peer known) life)

-- the life that a connect reply goes to; no other packet tells one
abbrev pub replied_life : ControlKind → Option ℕ → Option ℕ
replied_life ConnectReply to_life = to_life
replied_life _ to_life = None

abbrev pub life_in : Option ControlHeader → Option ℕ
life_in None = None
life_in (Some h) = replied_life h.kind h.to_life

abbrev pub raised_by : (peer : ℕ) → Option ℕ → List ℕ → List ℕ
raised_by peer None known = known
raised_by peer (Some life) known = raised peer life known

-- A connect request of a peer that is handled and for which memory isn't wanting is answered with a
-- connect reply to its sender's life, which the link takes or not, where no greater life is known:
-- so that life is known from the reply on. So is that of the other end of a pair
abbrev pub known_after : Event → List ℕ → List ℕ → List ℕ
known_after (PairedClient s peer t credits life) bytes known = raised peer life known
known_after (PairedServer t peer s credits life) bytes known = raised peer life known
known_after (Sent peer Control k) bytes known = raised_by peer (life_in (control_of bytes)) known
known_after (Unsent peer) bytes known = raised_by peer (life_in (control_of bytes)) known
known_after _ bytes known = known

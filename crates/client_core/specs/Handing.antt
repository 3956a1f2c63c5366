-- What was handed in with the calls of a session that aren't over, beside what the definitions over
-- histories have of them, and how it is given back.
use Rattle.std.specs.Prelude.{◌≡◌, ℕ, false, List, ◌++◌, map, Option, Some}
use Rattle.rpc_base.specs.Taking.{TakenOut}
use Rattle.message_buffer.specs.Buffer.{Buffer, capacity_of}
use Rattle.buffer_pool.specs.Pool.{Pool, buf_at}
use Rattle.session_slots.specs.declared.waiting.Waiting.{Waiting}
use Rattle.client_core.specs.declared.call.ActiveCall.{ActiveCall}
use Rattle.client_core.specs.declared.outcome.Done.{Done}
use Rattle.client_core.specs.declared.outcome.Outcome.{Outcome}
use Rattle.client_core.specs.declared.outcome.Outcome.TheVariants.{Ok, TooSmall, PeerLost}
use Rattle.client_core.specs.declared.outcome.Reply.{Reply}
use Rattle.client_core.specs.declared.outcome.Reply.TheVariants.{Took, Ended, Dropped}
use Rattle.client_core.specs.Session.{Session}

-- what was handed in with a call
pub record Handed : Type 0 where
  pub call : ℕ
  -- the application's own name for the call
  pub tag : ℕ
  -- the buffer with the bytes that are asked, as it is
  pub req : Option Buffer
  -- the capacity of the buffer for the answer
  pub room : ℕ

-- with an active call, whose buffers the pool has
abbrev pub handed_active : Pool → ActiveCall → Handed
handed_active pool c =
    record { call = c.call; tag = c.tag; req = buf_at pool c.ask; room = c.room }

-- with a call that waits
abbrev pub handed_waiting : Waiting → Handed
handed_waiting w =
    record { call = w.call; tag = w.tag; req = Some w.req; room = capacity_of w.resp }

-- with all of them, in the order in which the calls are shown
abbrev pub handed_of : Pool → Session → List Handed
handed_of pool s = map (handed_active pool) s.active ++ map handed_waiting s.slots.waiting

-- the buffer of an answer has length 0 where the call didn't end well
abbrev pub IsEmptyUnlessOk : Outcome → Buffer → Type 0
IsEmptyUnlessOk Ok resp = Unit {0}
IsEmptyUnlessOk (TooSmall size) resp = resp.len ≡ 0
IsEmptyUnlessOk PeerLost resp = resp.len ≡ 0

-- a call that is over has its tag, the very bytes and buffer that were asked, and a buffer for the
-- answer of the capacity that was handed in
pub record GivesBack (h : Handed) (d : Done) : Type 0 where
  pub call : d.call ≡ h.call
  pub tag : d.tag ≡ h.tag
  pub req : h.req ≡ Some d.req
  pub room : capacity_of d.resp ≡ h.room
  pub length : IsEmptyUnlessOk d.outcome d.resp

-- a call of the session is over: what was handed in with it is given back, and the rest is left
pub record HandsBack (session : ℕ) (d : Done) (old new : List Handed) : Type 0 where
  pub handed : Handed
  pub taken : TakenOut (λ h. false) handed old new
  pub gives : GivesBack handed d
  pub of_session : d.session ≡ session

-- by what a reply did
abbrev pub HandsBackBy : Reply → ℕ → List Handed → List Handed → Type 0
HandsBackBy Took session old new = new ≡ old
HandsBackBy (Ended d) session old new = HandsBack session d old new
HandsBackBy (Dropped why) session old new = new ≡ old

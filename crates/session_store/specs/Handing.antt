-- What was handed in with the calls of each client session, as calls are asked and end.
use Rattle.std.specs.Prelude.{ℕ, ◌≡◌, Option, Some, None, List, [], ◌∷◌, ◌++◌, map, slice_get}
use Rattle.std.specs.Prelude.{slice_set}
use Rattle.message_buffer.specs.Messages.{message_in}
use Rattle.client_core.specs.Handing.{Handed, HandsBack}
use Rattle.client_core.specs.declared.outcome.Done.{Done}
use Rattle.client_core.specs.declared.outcome.Reply.{Reply}
use Rattle.client_core.specs.declared.outcome.Reply.TheVariants.{Took, Ended, Dropped}
use Rattle.rpc_laws.specs.declared.tables.Call.{Call}
use Rattle.rpc_laws.specs.declared.tables.Client.{Client}

-- a call's number, the bytes that it asks and the room for its answer: as they were handed in, and
-- as the definitions over histories have them
abbrev pub asked_by : Handed → ℕ × List ℕ × ℕ
asked_by h = (h.call, message_in h.req, h.room)

abbrev pub asked_in : Call → ℕ × List ℕ × ℕ
asked_in c = (c.what.number, c.what.ask, c.what.room)

-- what was handed in is that of the calls which aren't over, in their order
abbrev pub AreOfCalls : List (List Handed) → List Client → Type 0
AreOfCalls handed clients = map (map asked_by) handed ≡ map (λ x. map asked_in x.calls) clients

-- a call is asked on session i: what was handed in with it stands behind the session's others
pub record HandsInAt (i : ℕ) (handed : Handed) (old new : List (List Handed)) : Type 0 where
  pub before : List Handed
  pub place : slice_get old i ≡ Some before
  pub changed : new ≡ slice_set old i (before ++ handed ∷ [])

-- a call of session i is over, and what was handed in with it is given back
pub record HandsBackAt (i : ℕ) (d : Done) (old new : List (List Handed)) : Type 0 where
  pub before : List Handed
  pub place : slice_get old i ≡ Some before
  pub later : List Handed
  pub back : HandsBack i d before later
  pub changed : new ≡ slice_set old i later

-- the same where a call is over, if one is
abbrev pub HandsBackIf : ℕ → Option Done → List (List Handed) → List (List Handed) → Type 0
HandsBackIf i None old new = new ≡ old
HandsBackIf i (Some d) old new = HandsBackAt i d old new

-- the call that a reply ended
abbrev pub ended_by : Reply → Option Done
ended_by Took = None
ended_by (Ended d) = Some d
ended_by (Dropped why) = None

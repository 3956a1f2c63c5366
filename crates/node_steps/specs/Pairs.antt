-- One end of a session is made, or refused.
use Rattle.std.specs.Prelude.{◌≡◌, ◌≢◌, ℕ, ◌==◌, Option, Some, None, List, [], ◌∷◌, length}
use Rattle.std.specs.Prelude.{Result}
use Rattle.std.specs.Prelude.{Ok, Err, if◌then◌else◌}
use Rattle.rpc_base.specs.declared.event.Event.{Event}
use Rattle.rpc_base.specs.declared.event.Event.TheVariants.{PairedClient, PairedServer, Rated}
use Rattle.rpc_base.specs.declared.fact.Fact.{Fact}
use Rattle.rpc_laws.specs.declared.tables.Timed.{Timed}
use Rattle.rpc_laws.specs.Facts.{plain}
use Rattle.rpc_laws.specs.Groups.{client_refusal, server_refusal}
use Rattle.rpc_laws.specs.Steps.{Goes}
use Rattle.session_mgmt.specs.declared.answers.ConnectError.{ConnectError}
use Rattle.session_mgmt.specs.declared.answers.ConnectError.TheVariants.{NoMemory}

-- a refusal is noted
pub record Refuses (refusal : Event) (s : Timed) (x : List Fact) (t : Timed) : Type 0 where
  pub facts : x ≡ plain s.lists.me refusal ∷ []
  pub goes : Goes s x t

-- what is noted: the refusal, where there is one
abbrev pub or_refused : Option Event → Event → Event
or_refused None made = made
or_refused (Some refusal) made = refusal

-- one end of a session that is connected from the start is made, with the next number, where
-- nothing refuses it
pub record PairsClient (peer server credits life : ℕ) (s : Timed) (x : List Fact) (t : Timed)
    : Type 0 where
  pub facts : x ≡ plain s.lists.me (or_refused (client_refusal credits s.lists)
      (PairedClient (length s.lists.clients) peer server credits life)) ∷ []
  pub goes : Goes s x t

pub record PairsServer (peer client credits life : ℕ) (s : Timed) (x : List Fact) (t : Timed)
    : Type 0 where
  pub facts : x ≡ plain s.lists.me (or_refused (server_refusal credits s.lists)
      (PairedServer s.lists.server_numbers peer client credits life)) ∷ []
  pub goes : Goes s x t

-- a session gets its first rate, unless that is 0
pub record StartsRate (session rate : ℕ) (s : Timed) (x : List Fact) (t : Timed) : Type 0 where
  pub facts : x ≡ (if rate == 0 then [] else plain s.lists.me (Rated session rate) ∷ [])
  pub goes : Goes s x t

-- what holds unless memory for a session was wanting, and what holds where it was
abbrev pub UnlessNoMemory : Result ℕ ConnectError → Type 0 → Type 0
UnlessNoMemory (Ok session) claim = claim
UnlessNoMemory (Err why) claim = why ≢ NoMemory → claim

abbrev pub IfNoMemory : Result ℕ ConnectError → Type 0 → Type 0
IfNoMemory (Ok session) claim = Unit {0}
IfNoMemory (Err why) claim = why ≡ NoMemory → claim

-- Steps of a node: each leads from the node as it was, by the facts that it notes, to the node as
-- it is.
use Rattle.std.specs.Prelude.{ℕ, zero, suc, ◌≡◌, Option, Some, None, List, [], ◌∷◌, ◌++◌}
use Rattle.rpc_base.specs.declared.event.Event.{Event}
use Rattle.rpc_base.specs.declared.fact.Fact.{Fact}
use Rattle.rpc_laws.specs.declared.tables.Lists.{Lists}
use Rattle.rpc_laws.specs.declared.tables.Timed.{Timed}
use Rattle.rpc_laws.specs.Facts.{plain}
use Rattle.rpc_laws.specs.NodeLists.{after_all}

abbrev pub Rel : Type 1
Rel = Timed → List Fact → Timed → Type 0

-- the facts x happen at the node's clock, change the lists as they say, and leave the clock
abbrev pub Goes : Timed → List Fact → Timed → Type 0
Goes s x t = t ≡ record { lists = after_all s.clock s.lists x; clock = s.clock }

-- P, and then Q
pub record Then (P Q : Rel) (s : Timed) (x : List Fact) (t : Timed) : Type 0 where
  pub between : Timed
  pub front : List Fact
  pub back : List Fact
  pub joined : x ≡ front ++ back
  pub first : P s front between
  pub second : Q between back t

-- P any number of times, one after another
pub data Chain (P : Rel) (s : Timed) : List Fact → Timed → Type 0 where
  none : Chain P s [] s
  more : {x : List Fact} {t : Timed} → Chain P s x t → (y : List Fact) → (u : Timed) → P t y u
      → Chain P s (x ++ y) u

-- P any number of times, until Over holds
pub record Until (P : Rel) (Over : Timed → Type 0) (s : Timed) (x : List Fact) (t : Timed)
    : Type 0 where
  pub steps : Chain P s x t
  pub over : Over t

-- P 0, then P 1, and so on, n of them
abbrev pub Visits : (ℕ → Rel) → ℕ → Rel
Visits P zero s x t = (x ≡ []) × (t ≡ s)
Visits P (suc n) s x t = Then (Visits P n) (P n) s x t

-- the next event, where there is one, is noted
pub record NotesNext (next : Lists → Option Event) (s : Timed) (x : List Fact) (t : Timed)
    : Type 0 where
  pub event : Event
  pub is_next : next s.lists ≡ Some event
  pub facts : x ≡ plain s.lists.me event ∷ []
  pub goes : Goes s x t

-- the next event is noted again and again, until there is none
abbrev pub NotesAll : (Lists → Option Event) → Rel
NotesAll next = Until (NotesNext next) (λ t. next t.lists ≡ None)

-- A call that ends with an answer, or for want of room for one: it was asked, then it began, then
-- its handler ran, and then it ended.
use Rattle.std.specs.Prelude.{ℕ, ◌≡◌, ◌<◌, Some, List, length, slice_get}
use Rattle.rpc_base.specs.declared.event.Event.{Event}
use Rattle.rpc_base.specs.declared.event.Event.TheVariants.{Asked, Begun, Ran, DoneOk, DoneTooSmall}
use Rattle.rpc_base.specs.declared.fact.Fact.{Fact}
use Rattle.rpc_base.specs.declared.fact.Who.{Who}
use Rattle.rpc_base.specs.declared.fact.Who.TheVariants.{Node, Net}
use Rattle.rpc_laws.specs.Endpoints.{Endpoint, Lived, lived, noted, noted_two, noted_with}
use Rattle.rpc_laws.specs.OwnAnswer.{AreEnds}

-- call c of endpoint n was asked, began as a request and ran as that one with this answer, in this
-- order, and all of it before place done of these facts
pub record IsInOrder (facts : List Lived) (n : Endpoint) (c : ℕ) (answer : List ℕ) (done : ℕ)
    : Type 0 where
  pub session : ℕ
  pub node : Endpoint
  pub other : ℕ
  pub request : ℕ
  pub req_type : ℕ
  pub room : ℕ
  pub ask : List ℕ
  pub ends : AreEnds facts n session node other
  pub asked : ℕ
  pub begun : ℕ
  pub ran : ℕ
  pub is_asked : slice_get facts asked ≡ Some (noted_with n (Asked c session req_type room) ask)
  pub is_begun : slice_get facts begun ≡ Some (noted n (Begun c request))
  pub is_ran : slice_get facts ran
      ≡ Some (noted_two node (Ran other request req_type) ask answer)
  pub asked_first : asked < begun
  pub begun_next : begun < ran
  pub done_last : ran < done

-- the same where only the answer's size is told
pub record IsSizedInOrder (facts : List Lived) (n : Endpoint) (c size done : ℕ) : Type 0 where
  pub answer : List ℕ
  pub sized : length answer ≡ size
  pub order : IsInOrder facts n c answer done

abbrev pub OrderEvent : List Lived → (done : ℕ) → Endpoint → Event → List ℕ → Type 0
OrderEvent facts done n (DoneOk c) first = IsInOrder facts n c first done
OrderEvent facts done n (DoneTooSmall c size) first = IsSizedInOrder facts n c size done
OrderEvent facts done n _ first = Unit {0}

abbrev pub OrderAt : List Lived → (done life : ℕ) → Who → Event → List ℕ → Type 0
OrderAt facts done life (Node n) e first =
    OrderEvent facts done (record { node = n; life = life }) e first
OrderAt facts done life Net e first = Unit {0}

-- so is each such call, by the place at which it ends
abbrev pub InOrder : List Lived → Type 0
InOrder facts =
    (done : ℕ) (f : Lived) → slice_get facts done ≡ Some f
    → OrderAt facts done f.life f.fact.who f.fact.event f.fact.first

abbrev pub CallsInOrder : List Fact → Type 0
CallsInOrder h = InOrder (lived h)

-- A call is one request, and a request is of one call: each run of a handler is for just one call,
-- and no two are for the same. Calls and requests are an endpoint's.
use Rattle.std.specs.Prelude.{ℕ, ◌≡◌, Some, List, slice_get, Contains}
use Rattle.rpc_base.specs.declared.event.Event.TheVariants.{Ran}
use Rattle.rpc_base.specs.declared.fact.Fact.{Fact}
use Rattle.rpc_laws.specs.Endpoints.{Endpoint, Lived, lived, noted_two}
use Rattle.rpc_laws.specs.OwnAnswer.{IsCallOf}

-- request r of server session t of endpoint m is call c of endpoint n, whatever it asks
pub record IsOneOf (facts : List Lived) (n : Endpoint) (c : ℕ) (m : Endpoint) (t r : ℕ)
    : Type 0 where
  pub req_type : ℕ
  pub room : ℕ
  pub ask : List ℕ
  pub own : IsCallOf facts n c m t r req_type room ask

-- this fact is that the handler ran for call c of endpoint n, on its own type and bytes
pub record RanFor (facts : List Lived) (n : Endpoint) (c : ℕ) (f : Lived) : Type 0 where
  pub node : Endpoint
  pub session : ℕ
  pub request : ℕ
  pub req_type : ℕ
  pub room : ℕ
  pub ask : List ℕ
  pub answer : List ℕ
  pub ran : f ≡ noted_two node (Ran session request req_type) ask answer
  pub own : IsCallOf facts n c node session request req_type room ask

-- a fact that a handler ran is so of some call
pub record RanForSome (facts : List Lived) (f : Lived) : Type 0 where
  pub node : Endpoint
  pub call : ℕ
  pub own : RanFor facts node call f

-- of these facts
pub record OneCallOf (facts : List Lived) : Type 0 where
  -- each run of a handler is for a call
  pub some : (m : Endpoint) (t r y : ℕ) (ask answer : List ℕ)
      → Contains facts (noted_two m (Ran t r y) ask answer)
      → RanForSome facts (noted_two m (Ran t r y) ask answer)
  -- and for one alone
  pub call : (m : Endpoint) (t r : ℕ) (n : Endpoint) (c : ℕ) (k : Endpoint) (d : ℕ)
      → IsOneOf facts n c m t r → IsOneOf facts k d m t r → (n ≡ k) × (c ≡ d)
  -- a call is one request
  pub request : (n : Endpoint) (c : ℕ) (m : Endpoint) (t r : ℕ) (l : Endpoint) (u q : ℕ)
      → IsOneOf facts n c m t r → IsOneOf facts n c l u q → (m ≡ l) × (t ≡ u) × (r ≡ q)
  -- and its handler runs once
  pub ran : (n : Endpoint) (c i j : ℕ) (f g : Lived) → slice_get facts i ≡ Some f
      → slice_get facts j ≡ Some g → RanFor facts n c f → RanFor facts n c g → i ≡ j

abbrev pub OneCall : List Fact → Type 0
OneCall h = OneCallOf (lived h)

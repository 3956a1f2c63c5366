-- What the place queue holds, and what the passes of its dispatcher and its hands know.
use Rattle.std.specs.Prelude.{◌≡◌, ℕ, suc, ◌+◌, ◌-◌, ◌<◌, ◌≤◌, List, [], ◌∷◌, ◌++◌, length, take}
use Rattle.std.specs.Prelude.{drop}
use mathlib.Core.Option.{some}
use lib.ListN.{get_elem?}
use Rattle.worker_board.specs.Tickets.{OfferNo}
use Rattle.rpc_base.specs.Totals.{total}
use Rattle.place_queue.specs.declared.knows.Numbered.{Numbered}
use Rattle.place_queue.specs.declared.knows.Knows.{Knows}
use Rattle.place_queue.specs.declared.knows.Role.{Role}
use Rattle.place_queue.specs.declared.knows.Role.TheVariants.{Dispatcher, Hand, Spent}

-- the tickets with their numbers, from n on
abbrev pub numbered : ℕ → List OfferNo → List Numbered
numbered n [] = []
numbered n (t ∷ ts) = record { index = n; ticket = t } ∷ numbered (suc n) ts

abbrev pub first_knows : Knows
first_knows = record { role = Dispatcher; put = []; out = 0; taken = [] }

abbrev pub new_hand : Knows
new_hand = record { role = Hand; put = []; out = 0; taken = [] }

abbrev pub spent : Knows
spent = record { role = Spent; put = []; out = 0; taken = [] }

-- the dispatcher put one ticket more, under the next number
abbrev pub HasPut : Knows → Numbered → Knows → Type 0
HasPut v x w = w ≡ record v { put = v.put ++ x.ticket ∷ [] }

-- a hand took one more
abbrev pub HasTaken : Knows → Numbered → Knows → Type 0
HasTaken v x w = w ≡ record v { taken = v.taken ++ x ∷ [] }

abbrev pub one_more_out : Knows → Knows
one_more_out v = record v { out = suc v.out }

-- the dispatcher keeps what a hand took that it takes in
abbrev pub taken_in : Knows → Knows → Knows
taken_in v w = record v { out = v.out - 1; taken = v.taken ++ w.taken }

abbrev pub dispatches : Role → ℕ
dispatches Dispatcher = 1
dispatches Hand = 0
dispatches Spent = 0

abbrev pub is_hand : Role → ℕ
is_hand Dispatcher = 0
is_hand Hand = 1
is_hand Spent = 0

-- each number is greater than those before it, and at least n
abbrev pub Ascends : ℕ → List Numbered → Type 0
Ascends n [] = Unit {0}
Ascends n (x ∷ xs) = (n ≤ x.index) × Ascends (suc x.index) xs

-- what a pass knows of the tickets put: the dispatcher's has them all, and the number of the hands'
-- passes that are out; a hand's ascends; a spent one holds nothing
abbrev pub Knowing : List OfferNo → ℕ → Knows → Type 0
Knowing put out v = (v.role ≡ Dispatcher → (v.put ≡ put) × (v.out ≡ out))
    × (v.role ≡ Hand → Ascends 0 v.taken)
    × (v.role ≡ Spent → v.taken ≡ [])

-- the rule: the first tickets put were taken, each with its number and by one pass, and the queue
-- holds the others, in order
pub record Order (items : List Numbered) (views : List Knows) : Type 0 where
  -- all tickets put, how many of them were taken, and how many hands' passes are out
  pub put : List OfferNo
  pub taken : ℕ
  pub out : ℕ
  pub within : taken ≤ length put
  pub left : items ≡ drop taken (numbered 0 put)
  -- however the pairs are weighed, those that the passes hold weigh what was taken
  pub held : (weight : Numbered → ℕ) → total (λ (v : Knows). total weight v.taken) views
      ≡ total weight (take taken (numbered 0 put))
  -- there is one dispatcher, and as many hands' passes as it knows of
  pub dispatcher : total (λ (v : Knows). dispatches v.role) views ≡ 1
  pub hands : total (λ (v : Knows). is_hand v.role) views ≡ out
  pub each : (n : ℕ) (v : Knows) → get_elem? views n ≡ some v → Knowing put out v

-- what the queue holds is what is left of the tickets put
abbrev pub Left : Knows → List Numbered → Type 0
Left v items = (taken : ℕ) × (items ≡ drop taken (numbered 0 v.put))

-- of the tickets put, these are the first, each once and under its number
abbrev pub AllTold : List OfferNo → List Numbered → Type 0
AllTold put told = (taken : ℕ) × (taken ≤ length put)
    × ((weight : Numbered → ℕ) → total weight told ≡ total weight (take taken (numbered 0 put)))

-- How often a seat holds or ran something.
use Rattle.std.specs.Prelude.{ℕ, suc, List, [], ◌∷◌, ◌==◌, cond}
use Rattle.rpc_base.specs.Totals.{only, total}
use Rattle.worker_board.specs.Tickets.{OfferNo}
use Rattle.worker_board.specs.declared.view.Claim.{Claim}
use Rattle.worker_board.specs.declared.view.View.{View}
use Rattle.worker_board.specs.declared.view.Role.{Role}
use Rattle.worker_board.specs.declared.view.Role.TheVariants.{Hand}

abbrev pub both_of : ℕ → ℕ → ℕ → ℕ → ℕ
both_of p g x y = cond (x == p) (only g y) 0

-- 1 where the slot of the place is out with the seat
abbrev pub has_turn : ℕ → View → ℕ
has_turn p v = only (suc p) v.turn

-- how many claims of the place the seat holds
abbrev pub holds : ℕ → View → ℕ
holds p v = total (λ (c : Claim). only p c.ticket.place) v.held

-- how often the seat ran the generation g of the place
abbrev pub ran : ℕ → ℕ → View → ℕ
ran p g v = total (λ (t : OfferNo). both_of p g t.place t.generation) v.runs

abbrev pub times : ℕ → List ℕ → ℕ
times n ns = total (only n) ns

abbrev pub hand_of : ℕ → Role → ℕ
hand_of n (Hand m) = only n m
hand_of n _ = 0

abbrev pub is_hand : ℕ → View → ℕ
is_hand n v = hand_of n v.role

-- the list without what stands at the place
abbrev pub without : ℕ → List Claim → List Claim
without p [] = []
without p (c ∷ cs) = cond (c.ticket.place == p) (without p cs) (c ∷ without p cs)

-- the list without the first n
abbrev pub removed : ℕ → List ℕ → List ℕ
removed n [] = []
removed n (m ∷ ms) = cond (m == n) ms (m ∷ removed n ms)

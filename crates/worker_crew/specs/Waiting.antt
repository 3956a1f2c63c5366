-- The tickets of a crew's jobs: those that were put into its queue, and those that wait with the
-- crew for a place in it, oldest first.
use Rattle.std.specs.Prelude.{◌≡◌, ◌⊎◌, ◌≤◌, ℕ, List, [], ◌∷◌, ◌++◌, length}
use Rattle.circular_buffer.specs.Buffer.{keep_last}
use Rattle.worker_board.specs.Tickets.{OfferNo}

-- a ticket waits only where at least as many were put as the queue has room for
abbrev pub WaitsForRoom : ℕ → List OfferNo → List OfferNo → Type 0
WaitsForRoom places put later = (later ≡ []) ⊎ (places ≤ length put)

-- the ticket was put, or it waits behind those that wait, of which the last `places` are kept
abbrev pub WentOut : ℕ → OfferNo → List OfferNo → List OfferNo → List OfferNo → List OfferNo
    → Type 0
WentOut places t put later put' later' =
    ((put' ≡ put ++ t ∷ []) × (later' ≡ later))
    ⊎ ((put' ≡ put) × (later' ≡ keep_last places (later ++ t ∷ [])))

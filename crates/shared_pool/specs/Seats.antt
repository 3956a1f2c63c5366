-- The words of the clauses: what a seat is known to be, and what a try adds to its notes.
use Rattle.std.specs.Prelude.{◌≡◌, ◌≢◌, ℕ, zero, suc, ◌+◌, ◌*◌, ◌%◌, ◌<◌, ◌⊎◌, List, [], ◌∷◌, ◌++◌}
use Rattle.atomic_table.specs.Seated.{TableId}
use Rattle.shared_pool.specs.Loans.{LoanNo}
use Rattle.shared_pool.specs.declared.word.TheConstants.{MOST_LOANS}
use Rattle.shared_pool.specs.declared.pool.SharedPool.{SharedPool}
use Rattle.shared_pool.specs.declared.pool.PoolSeat.{PoolSeat}
use Rattle.shared_pool.specs.declared.view.Note.{Note}
use Rattle.shared_pool.specs.declared.view.View.{View}
use Rattle.shared_pool.specs.Counts.{holds}
use Rattle.shared_pool.specs.Moves.{note, noted, lent_to, Has}

-- what a seat knows between two calls
abbrev pub view_of : PoolSeat → View
view_of s = record s.seat.me.0 { turn = 0 }

-- what tells the pools apart
abbrev pub pool_id : SharedPool → TableId
pool_id b = b.table.shared.table_id

abbrev pub places_of : SharedPool → ℕ
places_of b = b.places

-- the capacity of each buffer of the pool
abbrev pub size_of : SharedPool → ℕ
size_of b = b.capacity

-- the seat is this pool's
abbrev pub IsSeatOf : SharedPool → PoolSeat → Type 0
IsSeatOf b s = (s.seat.table_id ≡ pool_id b) × (s.seat.me.0.capacity ≡ size_of b)

abbrev pub HoldsLoan : View → LoanNo → Type 0
HoldsLoan v l = Has v.held l

abbrev pub HoldsNone : View → Type 0
HoldsNone v = v.held ≡ []

-- the seat holds no loan of this place
abbrev pub HoldsNoneOf : ℕ → View → Type 0
HoldsNoneOf p v = holds p v ≡ 0

-- the word shows the buffer out, or the last generation
abbrev pub IsShut : ℕ → Type 0
IsShut w = (w % 2 ≡ 1) ⊎ (w ≡ 2 * MOST_LOANS)

-- what a try at the place that gave nothing notes: a word that is shut, or two words that differ
abbrev pub IsMiss : ℕ → List Note → Type 0
IsMiss p more =
    ((w : ℕ) × (more ≡ note p w ∷ []) × IsShut w)
    ⊎ ((seen : ℕ) × (found : ℕ) × (more ≡ note p found ∷ note p seen ∷ []) × (found ≢ seen))

-- the view after a try at the place that gave nothing
abbrev pub Missed : ℕ → View → View → Type 0
Missed p v w = (more : List Note) × IsMiss p more × (w ≡ noted more v)

-- the view after a try that gave the loan: its word was found at home, and exchanged
abbrev pub lent_at : LoanNo → View → View
lent_at l v = lent_to l (noted (note l.place (2 * l.generation) ∷ []) v)

-- what so many tries gave in turn, each nothing, at the places from `start` on and round
abbrev pub Misses : ℕ → ℕ → ℕ → List Note → Type 0
Misses places start zero more = more ≡ []
Misses places start (suc k) more =
    (last : List Note) × (before : List Note) × (more ≡ last ++ before)
    × IsMiss ((start + k) % places) last × Misses places start k before

-- the view after so many tries that gave nothing
abbrev pub MissedFrom : ℕ → ℕ → ℕ → View → View → Type 0
MissedFrom places start k v w = (more : List Note) × Misses places start k more × (w ≡ noted more v)

-- the view after tries that gave nothing and a last one, at the loan's place, that gave the loan
abbrev pub LentFrom : ℕ → ℕ → LoanNo → View → View → Type 0
LentFrom places start l v w =
    (k : ℕ) × (u : View) × (k < places) × (l.place ≡ (start + k) % places)
    × MissedFrom places start k v u × (w ≡ lent_at l u)

-- each place has a try among these notes that gave nothing
abbrev pub AllTried : ℕ → List Note → Type 0
AllTried places more =
    (p : ℕ) → p < places → (front : List Note) × (miss : List Note) × (behind : List Note)
    × (more ≡ front ++ miss ++ behind) × IsMiss p miss

-- the view after tries that gave nothing, one of each place at least
abbrev pub MissedAll : ℕ → View → View → Type 0
MissedAll places v w = (more : List Note) × AllTried places more × (w ≡ noted more v)

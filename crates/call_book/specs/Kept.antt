-- What a book has of sessions and calls, and by that whether a fact is of a call.
use Rattle.std.specs.Prelude.{ℕ, ◌==◌, ◌&&◌, ◌||◌, Bool, true, false, List, Option, Some, None}
use Rattle.std.specs.Prelude.{is_some, option_and_then, option_map, if◌then◌else◌}
use Rattle.rpc_base.specs.declared.event.Event.{Event}
use Rattle.rpc_base.specs.declared.event.Event.TheVariants.{Begun, DoneOk, DoneTooSmall, Ran}
use Rattle.rpc_laws.specs.Endpoints.{Endpoint}
use Rattle.lawful_history.specs.Told.{Answer, answer_to, asks_this, call_on, has_bytes}
use Rattle.lawful_history.specs.Told.{is_call_of, is_end, is_joining, is_number, is_on}
use Rattle.lawful_history.specs.Told.{is_too_large, NodeCall, SessionEnd}
use Rattle.call_book.specs.Requests.{call_kept}
use Rattle.call_book.specs.Shelf.{kept}
use Rattle.call_book.specs.declared.book.Book.{Book}

-- whether client session s of endpoint n is joined to session t of endpoint m
abbrev pub is_joined_in : Book → Endpoint → (s : ℕ) → Endpoint → (t : ℕ) → Bool
is_joined_in b n s m t =
    is_end m t (kept b.paired n s)
    || (is_number m.node (kept b.opened n s) && is_joining t m.life (kept b.connected n s))

abbrev pub run_on_in : Book → Endpoint → (t r : ℕ) → SessionEnd → Option NodeCall
run_on_in b m t r c =
    if is_joined_in b c.at c.session m t
    then call_on c (call_kept b.calls c.at c.session r)
    else None

-- which call request r of server session t of endpoint m is
abbrev pub run_in : Book → Endpoint → (t r : ℕ) → Option NodeCall
run_in b m t r = option_and_then (run_on_in b m t r) (kept b.servers m t)

-- whether a call asks this
abbrev pub asks_in : Book → (req_type : ℕ) → List ℕ → Option NodeCall → Bool
asks_in b req_type bytes None = false
asks_in b req_type bytes (Some k) =
    asks_this k.session req_type bytes (kept b.asks k.at k.call)

-- which call begins as request r of session s by an event of endpoint n
abbrev pub begun_in : Book → Endpoint → (s r : ℕ) → Event → Option ℕ
begun_in b n s r (Begun call request) =
    if request == r && is_on s (kept b.asks n call) then Some call else None
begun_in b n s r _ = None

-- the answer that a handler of endpoint m gives to call c of endpoint n by an event
abbrev pub answer_on_in : Book → Endpoint → (c req_type : ℕ) → (first second : List ℕ)
    → Option NodeCall → Option Answer
answer_on_in b n c req_type first second None = None
answer_on_in b n c req_type first second (Some k) =
    if is_call_of n c k && asks_in b req_type first (Some k)
    then option_map (answer_to second) (kept b.asks k.at k.call) else None

abbrev pub answer_in : Book → Endpoint → Endpoint → (c : ℕ) → Event → (first second : List ℕ)
    → Option Answer
answer_in b m n c (Ran t r req_type) first second =
    answer_on_in b n c req_type first second (run_in b m t r)
answer_in b m n c _ first second = None

-- what is told of call c of endpoint n, where an answer to one call is told at most
abbrev pub answers_at : Endpoint → (c : ℕ) → Option (NodeCall × Answer) → Option Answer
answers_at n c None = None
answers_at n c (Some told) = if is_call_of n c told.0 then Some told.1 else None

-- whether a fact of endpoint n is of a call
abbrev pub is_own_in : Book → Endpoint → Event → (first : List ℕ) → Bool
is_own_in b n (Begun c r) first = is_some (kept b.asks n c)
is_own_in b n (Ran t r req_type) first = asks_in b req_type first (run_in b n t r)
is_own_in b n (DoneOk c) first = has_bytes first (kept b.answers n c)
is_own_in b n (DoneTooSmall c size) first = is_too_large size (kept b.answers n c)
is_own_in b n _ first = true

-- When a book has what the facts so far tell.
use Rattle.std.specs.Prelude.{ℕ, ◌≡◌, List}
use Rattle.rpc_laws.specs.Endpoints.{Endpoint, Lived}
use Rattle.lawful_history.specs.Told.{answer_of, ask_of, call_of, connected_of, opened_of}
use Rattle.lawful_history.specs.Told.{paired_of, server_of}
use Rattle.call_book.specs.Requests.{call_kept}
use Rattle.call_book.specs.Shelf.{kept}
use Rattle.call_book.specs.declared.book.Book.{Book}

-- a book has just what these facts tell, the newest of which stands first
pub record Tells (b : Book) (past : List Lived) : Type 0 where
  pub servers : (n : Endpoint) (t : ℕ) → kept b.servers n t ≡ server_of n t past
  pub paired : (n : Endpoint) (s : ℕ) → kept b.paired n s ≡ paired_of n s past
  pub opened : (n : Endpoint) (s : ℕ) → kept b.opened n s ≡ opened_of n s past
  pub connected : (n : Endpoint) (s : ℕ) → kept b.connected n s ≡ connected_of n s past
  pub asks : (n : Endpoint) (c : ℕ) → kept b.asks n c ≡ ask_of n c past
  pub calls : (n : Endpoint) (s r : ℕ) → call_kept b.calls n s r ≡ call_of n s r past
  pub answers : (n : Endpoint) (c : ℕ) → kept b.answers n c ≡ answer_of n c past

-- What the session of a reply did with it.
use Rattle.std.specs.Prelude.{ℕ, ◌≡◌, Bool, Some, List, [], ◌∷◌, length, slice_get, slice_set}
use Rattle.std.specs.List.{list_any}
use Rattle.packet_header.specs.declared.packet.MessageHeader.{MessageHeader}
use Rattle.rpc_base.specs.declared.owner.Owner.TheVariants.{Ask}
use Rattle.client_core.specs.Replies.{row_told}
use Rattle.client_core.specs.Shown.{after_outcome, ending_facts}
use Rattle.client_core.specs.declared.outcome.Reply.{Reply}
use Rattle.rpc_laws.specs.declared.rows.ClientRow.TheVariants.{Takes}
use Rattle.rpc_laws.specs.declared.tables.Client.{Client}
use Rattle.rpc_laws.specs.declared.tables.Queued.{Queued}
use Rattle.rpc_laws.specs.ClientTable.{client_ending, client_row}
use Rattle.rpc_laws.specs.Queues.{is_queued}

-- the session at a place handled a reply by the client rule. is_waiting: the packet of the reply's
-- number is queued
pub record RepliesAt (place clock peer : ℕ) (h : MessageHeader) (body : List ℕ)
    (is_waiting : Bool) (r : Reply) (old new : List Client) : Type 0 where
  pub client : Client
  pub at : slice_get old place ≡ Some client
  pub row : (queue : List Queued)
      → list_any (is_queued (Ask h.session h.request) h.number) queue ≡ is_waiting
      → client_row queue (Some client) peer h (length body) ≡ row_told r
  pub facts : row_told r ≡ Takes → (me : ℕ)
      → client_ending me h body (Some client) ≡ ending_facts me r
  pub later : Client
  pub step : after_outcome clock r h body client ≡ later ∷ []
  pub changed : new ≡ slice_set old place later

-- Worked rows: one call of one packet on a session with two credits, computed by the definitions alone.
use Rattle.std.proofs.Common.{◌≡◌, ◌+◌, ℕ, true, false, Some, None, List, [], ◌∷◌, replicate, refl, arith}
use Rattle.packet_header.specs.declared.packet.Kind.TheVariants.{Cr, Response}
use Rattle.packet_header.specs.declared.packet.MessageHeader.{MessageHeader}
use Rattle.rpc_base.specs.declared.event.Event.TheVariants.{PairedClient, Asked, Begun, Posted}
use Rattle.rpc_base.specs.declared.event.Event.TheVariants.{Flushed, Took, Rolled, Broken, DoneOk}
use Rattle.rpc_base.specs.declared.event.Event.TheVariants.{DoneTooSmall, DonePeerLost}
use Rattle.rpc_base.specs.declared.owner.Owner.TheVariants.{Ask}
use Rattle.rpc_base.specs.declared.state.DropReason.TheVariants.{NoCall, Past, Ahead, Mismatch, Queued as StillQueued}
use Rattle.rpc_base.specs.declared.state.SessionState.TheVariants.{Connected}
use Rattle.rpc_laws.specs.declared.rows.ClientRow.TheVariants.{Drops, Takes}
use Rattle.rpc_laws.specs.declared.tables.Client.{Client}
use Rattle.rpc_laws.specs.ClientTable.{client_row, reply_facts}
use Rattle.rpc_laws.specs.Facts.{plain, with_bytes}
use Rattle.rpc_laws.specs.GoBackN.{client_facts}
use Rattle.rpc_laws.specs.Posting.{posting}
use Rattle.rpc_laws.specs.Sessions.{clients_after, client_end}
use Rattle.node_laws.specs.CreditBalance.{Accounts, accounts_after, no_accounts, unanswered, MaySpend}

-- the call: two bytes of type 1, for whose answer there is this room
abbrev asked : ℕ → List Client
asked room = clients_after 0 (Asked 0 0 1 room) (5 ∷ 6 ∷ []) None [] (client_end 0 7 3 2 1 ∷ [])

-- the session with the call, of which so much is got, posted and rolled back
abbrev at : (room free got posted rolls mark : ℕ) → Client
at room free got posted rolls mark = record {
  way = record { number = 0; peer = 7; other = 3; life = 1 };
  state = Connected;
  limit = 2;
  free = free;
  sends = 0;
  sent_at = 0;
  asked = 1;
  turns = 1 ∷ 0 ∷ 0 ∷ 0 ∷ 0 ∷ 0 ∷ 0 ∷ 0 ∷ [];
  calls = record {
    what = record { number = 0; req_type = 1; room = room; ask = 5 ∷ 6 ∷ [] };
    progress = Some (record {
      request = 0;
      got = got;
      posted = posted;
      rolls = rolls;
      mark = mark;
      answer = None;
      parts = [];
    });
  } ∷ [];
}

-- and without it
abbrev over : Client
over = record {
  way = record { number = 0; peer = 7; other = 3; life = 1 };
  state = Connected;
  limit = 2;
  free = 2;
  sends = 0;
  sent_at = 0;
  asked = 1;
  turns = 1 ∷ 0 ∷ 0 ∷ 0 ∷ 0 ∷ 0 ∷ 0 ∷ 0 ∷ [];
  calls = [];
}

-- its answer, of two bytes
abbrev response : MessageHeader
response =
    record {
      kind = Response;
      req_type = 1;
      size = 2;
      session = 0;
      number = 0;
      request = 0;
      to_life = 1;
    }

-- it begins in slot 0, and posts its packet
row-begins : clients_after 0 (Begun 0 0) [] None [] (asked 9) ≡ at 9 2 0 0 0 0 ∷ []
row-begins = refl

row-posts : posting (at 9 2 0 0 0 0) ≡ Some (Posted (Ask 0 0) 0)
row-posts = refl

row-posted : clients_after 0 (Posted (Ask 0 0) 0) [] None [] (at 9 2 0 0 0 0 ∷ []) ≡ at 9 1 0 1 0 0 ∷ []
row-posted = refl

row-posts-no-more : posting (at 9 1 0 1 0 0) ≡ None
row-posts-no-more = refl

-- the first reply is taken, and ends the call
row-takes : client_row [] (Some (at 9 1 0 1 0 0)) 7 response 2 ≡ Takes
row-takes = refl

row-ends : reply_facts 4 (Some (at 9 1 0 1 0 0)) response (5 ∷ 6 ∷ []) Takes
    ≡ plain 4 (Took (Ask 0 0) 0) ∷ with_bytes 4 (DoneOk 0) (5 ∷ 6 ∷ []) ∷ []
row-ends = refl

row-over : clients_after 0 (DoneOk 0) [] None []
    (clients_after 3 (Took (Ask 0 0) 0) [] (Some response) (5 ∷ 6 ∷ []) (at 9 1 0 1 0 0 ∷ []))
    ≡ over ∷ []
row-over = refl

-- a late copy of it finds no call
row-late-copy : client_row [] (Some over) 7 response 2 ≡ Drops NoCall
row-late-copy = refl

-- a reply to a packet that wasn't posted since the rollback comes too early, and one to a packet that is
-- queued again is dropped for that
row-not-posted : client_row [] (Some (at 9 2 0 0 1 0)) 7 response 2 ≡ Drops Ahead
row-not-posted = refl

row-queued-again : client_row (record { owner = Ask 0 0; number = 0; due = None } ∷ [])
    (Some (at 9 1 0 1 1 0)) 7 response 2 ≡ Drops StillQueued
row-queued-again = refl

-- the last packet of a request isn't answered by a credit return
row-no-credit-return : client_row [] (Some (at 9 1 0 1 0 0)) 7
    (record response { kind = Cr; req_type = 0; size = 0 }) 0 ≡ Drops Mismatch
row-no-credit-return = refl

-- a timeout after the mark the call is rolled back, and no moment earlier
row-waits : client_facts 5002 5000 4 [] 0 (Some (at 9 1 0 1 0 3)) ≡ []
row-waits = refl

row-rolls-back : client_facts 5003 5000 4 [] 0 (Some (at 9 1 0 1 0 3)) ≡ plain 4 (Rolled 0 1 0) ∷ []
row-rolls-back = refl

row-rolled : clients_after 5003 (Rolled 0 1 0) [] None [] (at 9 1 0 1 0 3 ∷ []) ≡ at 9 2 0 0 1 3 ∷ []
row-rolled = refl

-- the eighth timeout rolls back, and the ninth breaks the session
row-eighth : client_facts 5003 5000 4 [] 0 (Some (at 9 1 0 1 7 3)) ≡ plain 4 (Rolled 0 1 0) ∷ []
row-eighth = refl

row-ninth : client_facts 5003 5000 4 [] 0 (Some (at 9 1 0 1 8 3)) ≡ plain 4 (Broken 0) ∷ plain 4 (DonePeerLost 0) ∷ []
row-ninth = refl

-- a room of one byte is too small, and a room of two is not
row-too-small : reply_facts 4 (Some (at 1 1 0 1 0 0)) response (5 ∷ 6 ∷ []) Takes
    ≡ plain 4 (Took (Ask 0 0) 0) ∷ plain 4 (DoneTooSmall 0 2) ∷ []
row-too-small = refl

row-fits : reply_facts 4 (Some (at 2 1 0 1 0 0)) response (5 ∷ 6 ∷ []) Takes
    ≡ plain 4 (Took (Ask 0 0) 0) ∷ with_bytes 4 (DoneOk 0) (5 ∷ 6 ∷ []) ∷ []
row-fits = refl

-- the accounts: the free credits of the session, and the unanswered packets of its call
abbrev accounts : ℕ → List ℕ → Accounts
accounts free packets = record {
  calls = record { number = 0; session = 0; request = Some 0; packets = packets } ∷ [];
  sessions = record { number = 0; limit = 2; free = free; live = true } ∷ [];
}

row-account-begins : accounts_after (Begun 0 0)
    (accounts_after (Asked 0 0 1 9) (accounts_after (PairedClient 0 7 3 2 1) no_accounts))
    ≡ accounts 2 []
row-account-begins = refl

row-account-posts : accounts_after (Posted (Ask 0 0) 0) (accounts 2 []) ≡ accounts 1 (0 ∷ [])
row-account-posts = refl

row-account-posts-more : accounts_after (Posted (Ask 0 0) 1) (accounts 1 (0 ∷ [])) ≡ accounts 0 (0 ∷ 1 ∷ [])
row-account-posts-more = refl

-- a packet that stands there isn't put in twice, though it takes a credit: the two would no longer make the
-- limit
row-account-twice : accounts_after (Posted (Ask 0 0) 0) (accounts 1 (0 ∷ [])) ≡ accounts 0 (0 ∷ [])
row-account-twice = refl

row-account-twice-sum : unanswered 0 (accounts 0 (0 ∷ [])).calls + 0 ≡ 1
row-account-twice-sum = refl

-- a packet is posted where a credit is free, and not where none is
row-spends : MaySpend (Posted (Ask 0 0) 1) (accounts 1 (0 ∷ [])).sessions
row-spends = record { live = refl; free = omega arith }

row-none-free : MaySpend (Posted (Ask 0 0) 2) (accounts 0 (0 ∷ 1 ∷ [])).sessions → ⊥
row-none-free h = let free = h.free in absurd (omega arith)

row-account-rolls : accounts_after (Rolled 0 2 0) (accounts 0 (0 ∷ 1 ∷ [])) ≡ accounts 2 []
row-account-rolls = refl

row-account-takes : accounts_after (Took (Ask 0 0) 0) (accounts 0 (0 ∷ 1 ∷ [])) ≡ accounts 1 (1 ∷ [])
row-account-takes = refl

row-account-sum : unanswered 0 (accounts 1 (1 ∷ [])).calls + 1 ≡ 2
row-account-sum = refl

row-account-ends : accounts_after (DoneOk 0) (accounts 2 [])
    ≡ record { calls = []; sessions = record { number = 0; limit = 2; free = 2; live = true } ∷ [] }
row-account-ends = refl

row-account-breaks : (accounts_after (Broken 0) (accounts 1 (0 ∷ []))).sessions
    ≡ record { number = 0; limit = 2; free = 0; live = false } ∷ []
row-account-breaks = refl

-- a call of two packets: the first is answered by a credit return, and the call goes on
abbrev of_two : (free got : ℕ) → Client
of_two free got = record (at 9 free got 2 0 0) {
  calls = record {
    what = record { number = 0; req_type = 1; room = 9; ask = replicate 1025 7 };
    progress = Some (record { request = 0; got = got; posted = 2; rolls = 0; mark = 0; answer = None; parts = [] });
  } ∷ [];
}

-- the credit return that answers its first packet
abbrev credit_return : MessageHeader
credit_return =
    record {
      kind = Cr;
      req_type = 0;
      size = 0;
      session = 0;
      number = 0;
      request = 0;
      to_life = 1;
    }

row-credit-return : client_row [] (Some (of_two 0 0)) 7 credit_return 0 ≡ Takes
row-credit-return = refl

row-goes-on : reply_facts 4 (Some (of_two 0 0)) credit_return [] Takes ≡ plain 4 (Took (Ask 0 0) 0) ∷ []
row-goes-on = refl

row-past : client_row [] (Some (of_two 1 1)) 7 credit_return 0 ≡ Drops Past
row-past = refl

-- a rollback flushes what is queued, in ascending number
row-flushes : client_facts 5000 5000 4 (record { owner = Ask 0 0; number = 2; due = None }
    ∷ record { owner = Ask 0 1; number = 0; due = None }
    ∷ record { owner = Ask 0 0; number = 1; due = None } ∷ []) 0 (Some (of_two 0 0))
    ≡ plain 4 (Flushed (Ask 0 0) 1) ∷ plain 4 (Flushed (Ask 0 0) 2) ∷ plain 4 (Rolled 0 2 0) ∷ []
row-flushes = refl

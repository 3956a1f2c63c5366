-- Posting and sending note only what is allowed.
use Rattle.std.proofs.Common.{◌≡◌, ◌<◌, ℕ, Bool, true, false, cond, List, [], length, Option, Some}
use Rattle.std.proofs.Common.{None, slice_get, refl, eqb, ltb, ltb-true}
use Rattle.std.specs.Prelude.{option_and_then, option_map}
use Rattle.std.specs.List.{find}
use Rattle.rpc_base.specs.declared.event.Event.{Event}
use Rattle.rpc_base.specs.declared.event.Event.TheVariants.{Begun, Posted, Sent}
use Rattle.rpc_base.specs.declared.owner.Owner.{Owner}
use Rattle.rpc_base.specs.declared.owner.Owner.TheVariants.{Ask, Reply, Control}
use Rattle.rpc_laws.specs.declared.tables.Call.{Call}
use Rattle.rpc_laws.specs.declared.tables.Client.{Client}
use Rattle.rpc_laws.specs.declared.tables.InFlight.{InFlight}
use Rattle.rpc_laws.specs.declared.tables.Lists.{Lists}
use Rattle.rpc_laws.specs.declared.tables.Progress.{Progress}
use Rattle.rpc_laws.specs.Calls.{is_waiting}
use Rattle.rpc_laws.specs.PollOrder.{Serves, PostsAll, Sends, SendsAll, Closes}
use Rattle.rpc_laws.specs.Posting.{lowest_free, next_turn, if_connected, beginning, can_post}
use Rattle.rpc_laws.specs.Posting.{next_packet, posting, next_begun, next_posted}
use Rattle.rpc_laws.specs.Sessions.{is_connected}
use Rattle.rpc_laws.specs.Steps.{NotesNext, NotesAll}
use Rattle.end_laws.proofs.Allowed.{May, MaySend, Linked}
use Rattle.end_laws.proofs.Walks.{Stays, Fine, walked-goes, fine-then, fine-until, fine-visits}

position-low : (n m i : ℕ) (b : Bool) → ltb n m ≡ b → cond b (Some n) None ≡ Some i → i < m
position-low n m i true t e = let lt = ltb-true n m t in let same : i ≡ n = cc in rw same lt
position-low n m i false t e = cc

-- one of these eight slots
free-slot : (calls : List Call) (slot : ℕ) → lowest_free calls ≡ Some slot → slot < 8
free-slot calls slot h = position-low _ 8 slot _ refl h

-- what may be noted with no bytes, whatever was before
abbrev MayAlone : Option InFlight → Lists → Event → Type 0
MayAlone hand l e = May hand l e [] [] × Linked None l e []

begins-slot : (hand : Option InFlight) (l : Lists) (i : ℕ) (x : Client) (c : Call) (slot : Option ℕ)
    (e : Event) → slice_get l.clients i ≡ Some x → find is_waiting x.calls ≡ Some c
    → lowest_free x.calls ≡ slot
    → option_map (λ slot. Begun c.what.number (next_turn x.turns slot)) slot ≡ Some e
    → MayAlone hand l e
begins-slot hand l i x c None e is w f h = cc
begins-slot hand l i x c (Some slot) e is w f h =
    let same : e ≡ Begun c.what.number (next_turn x.turns slot) = cc in
    rw same (
      (
        record {
          session = i;
          client = x;
          is_there = is;
          call = c;
          waits = w;
          number = refl;
          slot = slot;
          low = free-slot x.calls slot f;
          next = refl;
        },
        refl,
        refl,
      ),
      tt,
    )

begins-call : (hand : Option InFlight) (l : Lists) (i : ℕ) (x : Client) (c : Option Call)
    (e : Event) → slice_get l.clients i ≡ Some x → find is_waiting x.calls ≡ c
    → option_and_then (λ c. option_map (λ slot. Begun c.what.number (next_turn x.turns slot))
    (lowest_free x.calls)) c ≡ Some e → MayAlone hand l e
begins-call hand l i x None e is w h = cc
begins-call hand l i x (Some c) e is w h = begins-slot hand l i x c (lowest_free x.calls) e is w refl h

-- what is next of a session that is connected
connected-next : (next : Client → Option Event) (x : Client) (b : Bool) (e : Event)
    → is_connected x.state ≡ b → cond b (next x) None ≡ Some e → next x ≡ Some e
connected-next next x true e t h = h
connected-next next x false e t h = cc

begins-client : (hand : Option InFlight) (l : Lists) (i : ℕ) (x : Option Client) (e : Event)
    → slice_get l.clients i ≡ x → option_and_then (if_connected beginning) x ≡ Some e
    → MayAlone hand l e
begins-client hand l i None e is h = cc
begins-client hand l i (Some x) e is h =
    begins-call hand l i x (find is_waiting x.calls) e is refl
    (connected-next beginning x (is_connected x.state) e refl h)

posts-progress : (hand : Option InFlight) (l : Lists) (session : ℕ) (p : Option Progress)
    (e : Event) → next_packet session p ≡ Some e → MayAlone hand l e
posts-progress hand l session None e h = cc
posts-progress hand l session (Some p) e h =
    let same : e ≡ Posted (Ask session p.request) p.posted = cc in rw same (tt, tt)

posts-call : (hand : Option InFlight) (l : Lists) (x : Client) (c : Option Call) (e : Event)
    → option_and_then (λ c. next_packet x.way.number c.progress) c ≡ Some e → MayAlone hand l e
posts-call hand l x None e h = cc
posts-call hand l x (Some c) e h = posts-progress hand l x.way.number c.progress e h

posts-free : (hand : Option InFlight) (l : Lists) (x : Client) (b : Bool) (e : Event)
    → cond b None (option_and_then (λ c. next_packet x.way.number c.progress)
    (find can_post x.calls)) ≡ Some e → MayAlone hand l e
posts-free hand l x true e h = cc
posts-free hand l x false e h = posts-call hand l x (find can_post x.calls) e h

posts-client : (hand : Option InFlight) (l : Lists) (x : Option Client) (e : Event)
    → option_and_then (if_connected posting) x ≡ Some e → MayAlone hand l e
posts-client hand l None e h = cc
posts-client hand l (Some x) e h =
    posts-free hand l x (eqb x.free 0) e (connected-next posting x (is_connected x.state) e refl h)

-- no control packet is queued
may-send : (hand : Option InFlight) (l : Lists) (peer : ℕ) (o : Owner) (k : ℕ) (head body : List ℕ)
    → MaySend l peer o k head body → May hand l (Sent peer o k) head body
may-send hand l peer (Ask s r) k head body m = m
may-send hand l peer (Reply t r) k head body m = m
may-send hand l peer Control k head body m = let own = m.own in cc

module _ (Inv : Lists → Type 0) (stays : Stays Inv) where
  pub begun-fine : (i : ℕ) → Fine Inv (NotesNext (next_begun i))
  begun-fine i hand s x t inv h =
      walked-goes Inv stays hand s x t inv (rw h.facts (
        record {
          who = refl;
          may = (begins-client hand s.lists i (slice_get s.lists.clients i)
              h.event refl h.is_next).0;
        },
        (begins-client hand s.lists i (slice_get s.lists.clients i)
            h.event refl h.is_next).1,
        tt,
      )) h.goes

  pub posted-fine : (i : ℕ) → Fine Inv (NotesNext (next_posted i))
  posted-fine i hand s x t inv h =
      walked-goes Inv stays hand s x t inv (rw h.facts (
        record {
          who = refl;
          may = (posts-client hand s.lists (slice_get s.lists.clients i)
              h.event h.is_next).0;
        },
        (posts-client hand s.lists (slice_get s.lists.clients i) h.event
            h.is_next).1,
        tt,
      )) h.goes

  pub serves-fine : (i : ℕ) → Fine Inv (Serves i)
  serves-fine i = fine-then Inv (NotesAll (next_begun i)) (NotesAll (next_posted i))
      (fine-until Inv (NotesNext (next_begun i)) _ (begun-fine i))
      (fine-until Inv (NotesNext (next_posted i)) _ (posted-fine i))

  pub posts-all : Fine Inv PostsAll
  posts-all hand s x t i h = fine-visits Inv Serves serves-fine
      (length s.lists.clients) hand s x t i h

  pub sends-fine : Fine Inv Sends
  sends-fine hand s x t i h =
      walked-goes Inv stays hand s x t i (rw h.facts (
        record {
          who = refl;
          may = may-send hand s.lists h.out.peer h.entry.owner h.entry.number h.head h.out.body
              (record {
                due = h.entry.due;
                is_front = h.is_front;
                out = h.out;
                own = h.packet;
                to_peer = refl;
                in_range = h.in_range;
                has_head =
                    h.has_head;
                long = h.long;
                bytes = h.bytes;
                whole = refl;
              });
        },
        tt,
        tt,
      )) h.goes

  pub sends-all : Fine Inv SendsAll
  sends-all = fine-until Inv Sends _ sends-fine

  pub closes-fine : Fine Inv Closes
  closes-fine hand s x t i h =
      walked-goes Inv stays hand s x t i (rw h.facts (record { who = refl; may = tt }, tt, tt))
      h.goes

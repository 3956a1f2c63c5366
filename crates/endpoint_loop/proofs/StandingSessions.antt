-- An endpoint goes on where a session is opened or closed.
use Rattle.std.proofs.Common.{◌≡◌, ℕ, Bool, true, false, cond, Some, None, [], ◌∷◌}
use Rattle.std.proofs.Common.{length}
use Rattle.std.proofs.Common.{eqb, refl, not}
use Rattle.std.specs.List.{find}
use Rattle.rpc_base.specs.declared.event.Event.TheVariants.{Closing, NcloseBusy, NcloseState}
use Rattle.rpc_base.specs.declared.event.Event.TheVariants.{NconnectNumbers, NconnectRing, Rated}
use Rattle.rpc_base.specs.declared.state.SessionState.{SessionState}
use Rattle.rpc_laws.specs.declared.tables.Lists.{Lists}
use Rattle.rpc_laws.specs.Facts.{plain}
use Rattle.rpc_laws.specs.Groups.{Connects, Disconnects, clients_spent, connect_by}
use Rattle.rpc_laws.specs.Groups.{has_no_room, pending, shares, state_of}
use Rattle.rpc_laws.specs.Sessions.{is_client, is_connected}
use Rattle.endpoint_loop.proofs.StandingLaw.{is_labour}
use Rattle.node_steps.proofs.NoteStill.{AllStill, Stills}

rated-still : (me session rate : ℕ) (b : Bool)
    → AllStill is_labour (cond b [] (plain me (Rated session rate) ∷ []))
rated-still me session rate true = tt
rated-still me session rate false = (refl, tt)

opened-still : (s : Lists) (peer credits rate n size : ℕ) (spent room : Bool)
    → AllStill is_labour (connect_by (cond spent (Some NconnectNumbers)
    (cond room (Some (NconnectRing n credits size)) None)) peer credits rate s)
opened-still s peer credits rate n size true room = (refl, tt)
opened-still s peer credits rate n size false true = (refl, tt)
opened-still s peer credits rate n size false false =
    (refl, rated-still s.me (length s.clients) rate (eqb rate 0))

pub connect-still : (peer credits rate : ℕ) → Stills is_labour (Connects peer credits rate)
connect-still peer credits rate s x t h =
    rw h.facts (opened-still s.lists peer credits rate (shares s.lists) s.lists.room
    (clients_spent s.lists) (has_no_room credits s.lists))

closed-still : (session calls : ℕ) (state : SessionState) (b c : Bool)
    → is_labour (cond b (NcloseState session state)
    (cond c (NcloseBusy session calls) (Closing session))) ≡ false
closed-still session calls state true c = refl
closed-still session calls state false true = refl
closed-still session calls state false false = refl

pub disconnect-still : (session : ℕ) → Stills is_labour (Disconnects session)
disconnect-still session s x t h =
    let o = find (is_client session) s.lists.clients in
    rw h.facts (
      closed-still session (pending o) (state_of o) (not (is_connected (state_of o)))
          (not (eqb (pending o) 0)),
      tt,
    )

-- A call, a delivery and the timers note only what is allowed.
use Rattle.std.proofs.Common.{◌≡◌, ℕ, nat_lt, Bool, true, false, not, cond, List, [], ◌∷◌, ◌++◌}
use Rattle.std.proofs.Common.{length, map, Option, Some, None, slice_get, refl, sym, ap, ◌∙◌}
use Rattle.std.proofs.Common.{ltb-false}
use Rattle.std.specs.Prelude.{flat_map}
use Rattle.std.specs.List.{find, AllByRecursion}
use Rattle.rpc_base.specs.declared.event.Event.{Event}
use Rattle.rpc_base.specs.declared.event.Event.TheVariants.{NcallTooLarge, Flushed, Broken}
use Rattle.rpc_base.specs.declared.event.Event.TheVariants.{DonePeerLost, Arrived, Overflowed, Bad}
use Rattle.rpc_base.specs.declared.fact.Fact.{Fact}
use Rattle.rpc_base.specs.declared.fact.Who.TheVariants.{Node}
use Rattle.rpc_base.specs.declared.owner.Owner.{Owner}
use Rattle.rpc_base.specs.declared.owner.Owner.TheVariants.{Ask}
use Rattle.rpc_base.specs.declared.state.SessionState.{SessionState}
use Rattle.rpc_base.specs.declared.state.SessionState.TheVariants.{Connected}
use Rattle.rpc_laws.specs.declared.rows.TimerRow.{TimerRow}
use Rattle.rpc_laws.specs.declared.rows.TimerRow.TheVariants.{Waits, RollsBack, Breaks}
use Rattle.rpc_laws.specs.declared.tables.Call.{Call}
use Rattle.rpc_laws.specs.declared.tables.Client.{Client}
use Rattle.rpc_laws.specs.declared.tables.InFlight.{InFlight}
use Rattle.rpc_laws.specs.declared.tables.Lists.{Lists}
use Rattle.rpc_laws.specs.declared.tables.Progress.{Progress}
use Rattle.rpc_laws.specs.declared.tables.Queued.{Queued}
use Rattle.rpc_laws.specs.declared.tables.Timed.{Timed}
use Rattle.rpc_laws.specs.Calls.{is_call}
use Rattle.rpc_laws.specs.Deliveries.{Delivers, inbox_room}
use Rattle.rpc_laws.specs.Facts.{plain, with_bytes}
use Rattle.rpc_laws.specs.Front.{is_message, is_control}
use Rattle.rpc_laws.specs.GoBackN.{Watches, WatchesSession, flushes_of, row_facts, row_of}
use Rattle.rpc_laws.specs.GoBackN.{progress_facts, call_facts, client_facts, numbers_in}
use Rattle.rpc_laws.specs.Groups.{Asks, ask_by_state, state_of}
use Rattle.rpc_laws.specs.NodeLists.{after}
use Rattle.rpc_laws.specs.Queues.{flush_facts, numbers_of}
use Rattle.rpc_laws.specs.Sessions.{is_client}
use Rattle.end_laws.specs.Moments.{hand_noted}
use Rattle.end_laws.proofs.Allowed.{May, MayBreak, Linked, is_carried, WalksFrom, Walks, IsAllowed}
use Rattle.end_laws.proofs.ListLemmas.{all-append}
use Rattle.end_laws.proofs.Walks.{Stays, WalkedFrom, Fine, walked-from, walked-goes, fine-each}
use Rattle.rpc_base.proofs.BasicLemmas.{false-true}

-- a fact that is allowed at any lists
pub record IsFree (me : ℕ) (f : Fact) : Type 0 where
  pub who : f.who ≡ Node me
  pub may : (hand : Option InFlight) (l : Lists) → May hand l f.event f.first f.second
  pub linked : (latest : Option Fact) (l : Lists) → Linked latest l f.event f.first

abbrev pub AllFree : ℕ → List Fact → Type 0
AllFree me x = AllByRecursion (IsFree me) x

pub free-walks : (hand : Option InFlight) (latest : Option Fact) (clock : ℕ) (l : Lists)
    (x : List Fact) → AllFree l.me x → WalksFrom hand latest clock l x
free-walks hand latest clock l [] h = tt
free-walks hand latest clock l (f ∷ x) h = (
  record { who = h.0.who; may = h.0.may hand l },
  h.0.linked latest l,
  free-walks (hand_noted l.me f.event l.inbox hand) (Some f) clock (after clock l f) x h.1,
)

pub free-append : (me : ℕ) (x y : List Fact) → AllFree me x → AllFree me y → AllFree me (x ++ y)
free-append me [] y h k = k
free-append me (f ∷ x) y h k = (h.0, free-append me x y h.1 k)

pub flushed-free : (me : ℕ) (owner : Owner) (ks : List ℕ) → AllFree me (map (λ k. plain me (Flushed owner k)) ks)
flushed-free me owner [] = tt
flushed-free me owner (k ∷ ks) =
    (record { who = refl; may = λ hand l. tt; linked = λ latest l. tt }, flushed-free me owner ks)

pub flush-free : (me : ℕ) (queued : List Queued) (owner : Owner) → AllFree me (flush_facts me queued owner)
flush-free me queued owner = flushed-free me owner (numbers_of owner queued)

flushes-free : (me session : ℕ) (queued : List Queued) (p : Option Progress)
    → AllFree me (flushes_of me session queued p)
flushes-free me session queued None = tt
flushes-free me session queued (Some p) = flush-free me queued (Ask session p.request)

all-flushes-free : (me session : ℕ) (queued : List Queued) (calls : List Call)
    → AllFree me (flat_map (λ c. flushes_of me session queued c.progress) calls)
all-flushes-free me session queued [] = tt
all-flushes-free me session queued (c ∷ calls) =
    free-append me (flushes_of me session queued c.progress) _
    (flushes-free me session queued c.progress) (all-flushes-free me session queued calls)

lost-free : (me : ℕ) (calls : List Call) → AllFree me (map (λ c. plain me (DonePeerLost c.what.number)) calls)
lost-free me [] = tt
lost-free me (c ∷ calls) = (record { who = refl; may = λ hand l. tt; linked = λ latest l. tt }, lost-free me calls)

-- facts that leave the calls as they are
abbrev KeepsClients : Fact → Type 0
KeepsClients f = (clock : ℕ) (l : Lists) → (after clock l f).clients ≡ l.clients

flushed-keeps : (me : ℕ) (owner : Owner) (ks : List ℕ)
    → AllByRecursion KeepsClients (map (λ k. plain me (Flushed owner k)) ks)
flushed-keeps me owner [] = tt
flushed-keeps me owner (k ∷ ks) = (λ clock l. refl, flushed-keeps me owner ks)

flushes-keep : (me session : ℕ) (queued : List Queued) (p : Option Progress)
    → AllByRecursion KeepsClients (flushes_of me session queued p)
flushes-keep me session queued None = tt
flushes-keep me session queued (Some p) =
    flushed-keeps me (Ask session p.request) (numbers_of (Ask session p.request) queued)

all-flushes-keep : (me session : ℕ) (queued : List Queued) (calls : List Call)
    → AllByRecursion KeepsClients (flat_map (λ c. flushes_of me session queued c.progress) calls)
all-flushes-keep me session queued [] = tt
all-flushes-keep me session queued (c ∷ calls) =
    all-append KeepsClients (flushes_of me session queued c.progress) _
    (flushes-keep me session queued c.progress) (all-flushes-keep me session queued calls)

break-after : (l m : Lists) (s : ℕ) → m.clients ≡ l.clients → MayBreak l s → MayBreak m s
break-after l m s e b = record {
  place = b.place;
  client = b.client;
  is_there = ap (λ (xs : List Client). slice_get xs b.place) e ∙ b.is_there;
  of_session = b.of_session;
  number = b.number;
  call = b.call;
  found = b.found;
  progress = b.progress;
  is_progress = b.is_progress;
  rolled = b.rolled;
}

break-walk : (hand : Option InFlight) (latest : Option Fact) (clock : ℕ) (l : Lists) (x : List Fact)
    (session : ℕ) (dones : List Fact) → AllFree l.me x → AllByRecursion KeepsClients x
    → AllFree l.me dones → MayBreak l session
    → WalksFrom hand latest clock l (x ++ plain l.me (Broken session) ∷ dones)
break-walk hand latest clock l [] session dones free keep lost b =
    (record { who = refl; may = b }, tt, free-walks hand _ clock _ dones lost)
break-walk hand latest clock l (f ∷ x) session dones free keep lost b = (
  record { who = free.0.who; may = free.0.may hand l },
  free.0.linked latest l,
  break-walk (hand_noted l.me f.event l.inbox hand) (Some f) clock
      (after clock l f) x session dones free.1 keep.1 lost
      (break-after l (after clock l f) session (keep.0 clock l) b),
)

row-walk : (hand : Option InFlight) (clock : ℕ) (l : Lists) (x : Client) (number : ℕ) (p : Progress)
    (row : TimerRow) → (row ≡ Breaks → MayBreak l x.way.number)
    → Walks hand clock l (row_facts l.me l.queued x number p row)
row-walk hand clock l x number p Waits b = tt
row-walk hand clock l x number p RollsBack b =
    free-walks hand None clock l _ (free-append l.me (flush_facts l.me l.queued _) _
    (flush-free l.me l.queued _) (
      record {
        who = refl;
        may = λ hand l. tt;
        linked = λ latest l. tt;
      },
      tt,
    ))
row-walk hand clock l x number p Breaks b =
    break-walk hand None clock l (flat_map (λ c. flushes_of l.me x.way.number l.queued c.progress)
    x.calls) x.way.number (map (λ c. plain l.me (DonePeerLost c.what.number)) x.calls)
    (all-flushes-free l.me x.way.number l.queued x.calls)
    (all-flushes-keep l.me x.way.number l.queued x.calls) (lost-free l.me x.calls) (b refl)

breaks-late : (a b : Bool) → cond (not a) Waits (cond b RollsBack Breaks) ≡ Breaks → b ≡ false
breaks-late false b h = cc
breaks-late true true h = cc
breaks-late true false h = refl

progress-walk : (hand : Option InFlight) (clock timeout : ℕ) (l : Lists) (place number : ℕ)
    (x : Client) (c : Call) (p : Option Progress) → slice_get l.clients place ≡ Some x
    → find (is_call number) x.calls ≡ Some c → c.progress ≡ p
    → Walks hand clock l (progress_facts clock timeout l.me l.queued x c.what.number p)
progress-walk hand clock timeout l place number x c None is found at = tt
progress-walk hand clock timeout l place number x c (Some p) is found at =
    row-walk hand clock l x c.what.number p (row_of clock timeout x.way.number l.queued p)
    (λ e. record {
      place = place;
      client = x;
      is_there = is;
      of_session = refl;
      number = number;
      call = c;
      found = found;
      progress = p;
      is_progress = at;
      rolled =
          ltb-false p.rolls 8 (breaks-late _ (nat_lt p.rolls 8) e);
    })

call-walk : (hand : Option InFlight) (clock timeout : ℕ) (l : Lists) (place number : ℕ) (x : Client)
    (c : Option Call) → slice_get l.clients place ≡ Some x → find (is_call number) x.calls ≡ c
    → Walks hand clock l (call_facts clock timeout l.me l.queued x c)
call-walk hand clock timeout l place number x None is found = tt
call-walk hand clock timeout l place number x (Some c) is found =
    progress-walk hand clock timeout l place number x c c.progress is found refl

client-walk : (hand : Option InFlight) (clock timeout : ℕ) (l : Lists) (place number : ℕ)
    (x : Option Client) → slice_get l.clients place ≡ x
    → Walks hand clock l (client_facts clock timeout l.me l.queued number x)
client-walk hand clock timeout l place number None is = tt
client-walk hand clock timeout l place number (Some x) is =
    call-walk hand clock timeout l place number x (find (is_call number) x.calls) is refl

ask-state : (state : SessionState) (hand : Option InFlight) (session req_type room : ℕ)
    (ask : List ℕ) (l : Lists) → IsAllowed hand l (ask_by_state state session req_type room ask l)
ask-state Connected hand session req_type room ask l = record { who = refl; may = (refl, refl) }
ask-state _ hand session req_type room ask l = record { who = refl; may = tt }

ask-allowed : (b : Bool) (hand : Option InFlight) (session req_type room : ℕ) (ask : List ℕ)
    (l : Lists) → IsAllowed hand l (cond b (plain l.me (NcallTooLarge session (length ask)))
    (ask_by_state (state_of (find (is_client session) l.clients)) session req_type room ask l))
ask-allowed true hand session req_type room ask l = record { who = refl; may = tt }
ask-allowed false hand session req_type room ask l =
    ask-state (state_of (find (is_client session) l.clients)) hand session req_type room ask l

-- a datagram is a message, a control packet or neither, and stands where there is room
abbrev pub delivery_by : (a b c d : Bool) → ℕ → Event
delivery_by a b c d peer =
    cond a (cond b (Arrived peer) (Overflowed peer))
    (cond c (cond d (Arrived peer) (Overflowed peer)) (Bad peer))

delivers-walk : (a b c d : Bool) (latest : Option Fact) (clock peer : ℕ) (bytes : List ℕ)
    (l : Lists) → is_message bytes ≡ a → nat_lt (length l.ring) l.room ≡ b
    → is_carried latest ≡ true
    → WalksFrom (Some (record { from = peer; to = l.me; bytes = bytes })) latest clock l
    (with_bytes l.me (delivery_by a b c d peer) bytes ∷ [])
delivers-walk true true c d latest clock peer bytes l reads room carried =
    (record { who = refl; may = record { in_hand = refl } }, carried, tt)
delivers-walk true false c d latest clock peer bytes l reads room carried = (
  record {
    who = refl;
    may = record {
      delivered = record { in_hand = refl };
      full = λ e. ltb-false (length l.ring) l.room room;
    };
  },
  carried,
  tt,
)
delivers-walk false b true true latest clock peer bytes l reads room carried =
    (record { who = refl; may = record { in_hand = refl } }, carried, tt)
delivers-walk false b true false latest clock peer bytes l reads room carried = (
  record {
    who = refl;
    may = record {
      delivered = record { in_hand = refl };
      full = λ e. false-true (sym reads ∙ e);
    };
  },
  carried,
  tt,
)
delivers-walk false b false d latest clock peer bytes l reads room carried = (record { who = refl; may = tt }, tt, tt)

state-linked : (state : SessionState) (session req_type room : ℕ) (ask : List ℕ) (l : Lists)
    → Linked None l (ask_by_state state session req_type room ask l).event
    (ask_by_state state session req_type room ask l).first
state-linked Connected session req_type room ask l = tt
state-linked _ session req_type room ask l = tt

ask-linked : (b : Bool) (session req_type room : ℕ) (ask : List ℕ) (l : Lists)
    → Linked None l (cond b (plain l.me (NcallTooLarge session (length ask)))
    (ask_by_state (state_of (find (is_client session) l.clients)) session req_type room ask
    l)).event (cond b (plain l.me (NcallTooLarge session (length ask)))
    (ask_by_state (state_of (find (is_client session) l.clients)) session req_type room ask
    l)).first
ask-linked true session req_type room ask l = tt
ask-linked false session req_type room ask l =
    state-linked (state_of (find (is_client session) l.clients)) session req_type room ask l

module _ (Inv : Lists → Type 0) (stays : Stays Inv) where
  pub asks-fine : (session req_type : ℕ) (ask : List ℕ) (room : ℕ)
      → Fine Inv (Asks session req_type ask room)
  asks-fine session req_type ask room hand s x t i h =
      walked-goes Inv stays hand s x t i (rw h.facts (
        ask-allowed (nat_lt 1048576 (length ask)) hand session req_type room ask s.lists,
        ask-linked (nat_lt 1048576 (length ask)) session req_type room ask s.lists,
        tt,
      )) h.goes

  pub delivers-fine : (latest : Option Fact) (peer : ℕ) (bytes : List ℕ) (s : Timed) (x : List Fact)
      (t : Timed) → is_carried latest ≡ true → Inv s.lists → Delivers peer bytes s x t
      → WalkedFrom Inv (Some (record { from = peer; to = s.lists.me; bytes = bytes })) latest s x t
  delivers-fine latest peer bytes s x t carried i h =
      walked-from Inv stays _ latest s x t i (rw h.facts
      (delivers-walk (is_message bytes) (nat_lt (length s.lists.ring) s.lists.room)
      (is_control bytes) (nat_lt (length s.lists.inbox) inbox_room) latest s.clock peer bytes
      s.lists refl refl carried)) h.goes

  pub watches-fine : (timeout session number : ℕ) → Fine Inv (Watches timeout session number)
  watches-fine timeout session number hand s x t i h =
      walked-goes Inv stays hand s x t i (rw h.facts
      (client-walk hand s.clock timeout s.lists session number
      (slice_get s.lists.clients session) refl)) h.goes

  pub watches-session : (timeout session : ℕ) → Fine Inv (WatchesSession timeout session)
  watches-session timeout session hand s x t i h =
      fine-each Inv (Watches timeout session) (watches-fine timeout session)
      (numbers_in (slice_get s.lists.clients session)) hand s x t i h

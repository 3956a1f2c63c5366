-- What the clauses of a client session tell of a client end: its view after a call, as the definitions over
-- histories have it.
use Rattle.std.proofs.Common.{◌≡◌, ◌≢◌, ℕ, ◌+◌, ◌<◌, Bool, true, false, not, ◌&&◌, ◌||◌, cond, eqb}
use Rattle.std.proofs.Common.{ltb, Option, Some, None, List, [], ◌∷◌, ◌++◌, drop, refl, subst, sym}
use Rattle.std.proofs.Common.{ap, ◌∙◌}
use Rattle.std.specs.Prelude.{IfSome, IsTrue, is_some, map, option_and_then, option_map}
use Rattle.std.specs.List.{AllByRecursion, find, list_any}
use Rattle.std.specs.Option.{option_or}
use Rattle.std.proofs.lemmas.Bool.{eq-eqb, eqb-true}
use Rattle.std.proofs.lemmas.List.Folds.{find-append}
use Rattle.rpc_base.specs.declared.owner.Owner.TheVariants.{Ask}
use Rattle.rpc_base.proofs.BasicLemmas.{or-none}
use Rattle.packet_header.specs.declared.packet.MessageHeader.{MessageHeader}
use Rattle.message_buffer.specs.Buffer.{bytes_of, capacity_of}
use Rattle.buffer_pool.specs.Pool.{Pool}
use Rattle.packet_rings.specs.Values.{EntryValue}
use Rattle.session_slots.specs.declared.waiting.Waiting.{Waiting}
use Rattle.rpc_laws.specs.Calls.{is_active, is_call, begun, moved, took_reply}
use Rattle.rpc_laws.specs.ClientTable.{client_ending}
use Rattle.rpc_laws.specs.Packets.{ask_packet}
use Rattle.rpc_laws.specs.Posting.{beginning, if_connected, posting}
use Rattle.rpc_laws.specs.Sessions.{asks, begins, clients_after, ends, has_call, is_client, posts}
use Rattle.rpc_laws.specs.Sessions.{sends, takes}
use Rattle.rpc_laws.specs.declared.tables.Asking.{Asking}
use Rattle.rpc_laws.specs.declared.tables.Call.{Call}
use Rattle.rpc_laws.specs.declared.tables.Client.{Client}
use Rattle.client_core.specs.declared.call.ActiveCall.{ActiveCall}
use Rattle.client_core.specs.declared.outcome.Outcome.{Outcome}
use Rattle.client_core.specs.declared.outcome.Outcome.TheVariants.{Ok, TooSmall, PeerLost}
use Rattle.client_core.specs.declared.outcome.Reply.{Reply}
use Rattle.client_core.specs.declared.outcome.Reply.TheVariants.{Took, Ended, Dropped}
use Rattle.client_core.specs.Posting.{Starts, after_posting, entry_at, entry_if, is_owner}
use Rattle.client_core.specs.Posting.{next_call, next_entry, posted, posted_entry, entry_of}
use Rattle.client_core.specs.Replies.{call_as, is_request}
use Rattle.client_core.specs.Session.{Session}
use Rattle.client_core.specs.Watching.{is_after, next_told, told}
use Rattle.client_core.specs.Shown.{IsAloneAfter, after_outcome, asked, begun_event as event_begun}
use Rattle.client_core.specs.Shown.{end_event, ending_facts, posted_event as event_posted}
use Rattle.client_core.specs.Shown.{sent_event, shown, shown_active, shown_waiting, stepped, took}
use Rattle.client_core.specs.Timeouts.{is_late as is_active_late, is_numbered}
use Rattle.client_core.proofs.ShownLemmas.{found-shown, none-shown}
use Rattle.session_ends.specs.declared.stage.Stage.{Stage}
use Rattle.session_ends.specs.declared.stage.Stage.TheVariants.{Connecting, Connected, Closing}
use Rattle.session_ends.specs.declared.stage.Stage.TheVariants.{Closed, Failed, Broken}
use Rattle.session_store.specs.Ends.{Ascends, begun_event, is_above, is_late, next_above}
use Rattle.session_store.specs.Ends.{posted_event, shown_end, told_call}
use Rattle.session_store.proofs.AscendsLemmas.{ascends-before, ascends-changed, ascends-end}
use Rattle.session_store.proofs.AscendsLemmas.{ascends-front, ascends-without, few-numbered}
use Rattle.session_store.proofs.AscendsLemmas.{least-first, unlisted}
use Rattle.rpc_base.proofs.TakingLemmas.{find-passes}
use Rattle.rpc_base.proofs.FirstLemmas.{all-kept}
use Rattle.rpc_base.proofs.BasicLemmas.{or-true}
use Rattle.client_core.proofs.ShownLemmas.{front-shown}

-- no stage changes a call
pub calls-end : (stage : Stage) (pool : Pool) (peer : ℕ) (s : Session)
    → (shown_end stage pool peer s).calls ≡ (shown pool peer s).calls
calls-end (Connecting n t) pool peer s = refl
calls-end Connected pool peer s = refl
calls-end (Closing n t) pool peer s = refl
calls-end Closed pool peer s = refl
calls-end Failed pool peer s = refl
calls-end Broken pool peer s = refl

-- whose clock says that a call timed out is told by the active ones
module _ (now timeout : ℕ) where
  none-late : (ws : List Waiting) → list_any (is_late now timeout) (map shown_waiting ws) ≡ false
  none-late [] = refl
  none-late (w ∷ ws) = none-late ws

  late-shown : (pool : Pool) (cs : List ActiveCall) (ws : List Waiting)
      → list_any (is_active_late now timeout) cs
      ≡ list_any (is_late now timeout) (map (shown_active pool) cs ++ map shown_waiting ws)
  late-shown pool [] ws = sym (none-late ws)
  late-shown pool (c ∷ cs) ws =
      ap (λ (b : Bool). is_active_late now timeout c || b) (late-shown pool cs ws)

  pub late-end : (stage : Stage) (pool : Pool) (peer : ℕ) (s : Session)
      → list_any (is_active_late now timeout) s.active
      ≡ list_any (is_late now timeout) (shown_end stage pool peer s).calls
  late-end stage pool peer s =
      late-shown pool s.active s.slots.waiting
      ∙ ap (list_any (is_late now timeout)) (sym (calls-end stage pool peer s))

-- the active calls of an end stand in the order of their numbers
pub active-ascends : (stage : Stage) (pool : Pool) (peer : ℕ) (s : Session)
    → Ascends (shown_end stage pool peer s).calls → Ascends (map (shown_active pool) s.active)
active-ascends stage pool peer s up =
    ascends-front (map (shown_active pool) s.active) (map shown_waiting s.slots.waiting)
    (rw (calls-end stage pool peer s) at up)

-- one client, which the event is of
module _ (x y z : Client) where
  chosen : (b : Bool) → b ≡ true → cond b (z ∷ []) (x ∷ []) ≡ y ∷ [] → y ≡ z
  chosen true t e = cc
  chosen false t e = cc

-- an end once it took a step
pub record Steps (f : Client → Client) (stage : Stage) (pool after : Pool) (peer : ℕ) (s new : Session) : Type 0 where
  pub view : shown_end stage after peer new ≡ f (shown_end stage pool peer s)
  pub calls : Ascends (shown_end stage after peer new).calls

steps-of : (f : Client → Client) (stage : Stage) (pool after : Pool) (peer : ℕ) (s new : Session)
    → stage ≡ Connected → shown after peer new ≡ f (shown pool peer s)
    → Ascends (f (shown pool peer s)).calls → Steps f stage pool after peer s new
steps-of f stage pool after peer s new connected e up =
    rw connected (record { view = e; calls = subst (λ (x : Client). Ascends x.calls) (sym e) up })

-- a call is asked
pub ask-steps : (stage : Stage) (pool : Pool) (peer : ℕ) (w : Waiting) (s new : Session) → stage ≡ Connected
    → AllByRecursion (λ c. c.what.number < w.call) (shown_end stage pool peer s).calls
    → Ascends (shown_end stage pool peer s).calls
    → ((pool : Pool) → (clock peer : ℕ)
    → asked clock w (shown pool peer s) ≡ shown pool peer new ∷ [])
    → Steps (asks (record {
      number = w.call;
      req_type = w.req_type;
      room = capacity_of w.resp;
      ask = bytes_of w.req;
    })) stage pool pool peer s new
ask-steps stage pool peer w s new connected above up step =
    let a : Asking = record {
      number = w.call;
      req_type = w.req_type;
      room = capacity_of w.resp;
      ask = bytes_of w.req;
    } in
    let e = chosen (shown pool peer s) (shown pool peer new) (asks a (shown pool peer s))
    (eqb s.number s.number) (eq-eqb s.number s.number refl) (step pool 0 peer) in
    steps-of (asks a) stage pool pool peer s new connected e
    (ascends-end (shown pool peer s).calls (record { what = a; progress = None })
    (rw connected at up) (rw connected at above))

-- a call begins
any-later : {A : Type 0} (p : A → Bool) (xs ys : List A) → list_any p ys ≡ true
    → list_any p (xs ++ ys) ≡ true
any-later p [] ys t = t
any-later p (x ∷ xs) ys t = rw (any-later p xs ys t) (or-true (p x))

module _ (stage : Stage) (pool after : Pool) (peer : ℕ) (s new : Session) (connected : stage ≡ Connected)
    (up : Ascends (shown_end stage pool peer s).calls) where
  ascending : Ascends (shown pool peer s).calls
  ascending = rw (calls-end stage pool peer s) at up

  begins-one : (o : ℕ × ℕ) → Starts o.0 o.1 s new pool after
      → (list_any (is_numbered o.0) s.active ≡ false
      → stepped 0 (event_begun o) (shown pool peer s) ≡ shown after peer new ∷ [])
      → Steps (begins o.0 o.1) stage pool after peer s new
  begins-one o starts step =
      let front = front-shown s.slots.waiting starts.waiting starts.begins.oldest in
      let lower = ascends-before (map (shown_active pool) s.active) (shown_waiting starts.waiting)
      (map shown_waiting (drop 1 s.slots.waiting)) (rw front at ascending) in
      let fresh = unlisted pool o.0 s.active (rw starts.number lower) in
      let here : list_any (is_call o.0) (map shown_waiting s.slots.waiting) ≡ true =
      rw (front, starts.number, eq-eqb starts.waiting.call starts.waiting.call refl) refl in
      let there = any-later (is_call o.0) (map (shown_active pool) s.active)
      (map shown_waiting s.slots.waiting) here in
      let e = chosen (shown pool peer s) (shown after peer new) (begins o.0 o.1 (shown pool peer s))
      (has_call o.0 (shown pool peer s)) there (step fresh) in
      steps-of (begins o.0 o.1) stage pool after peer s new connected e
      (ascends-changed (is_call o.0) (begun o.1) (λ c. refl)
      (shown pool peer s).calls ascending)

  -- a packet is posted
  posts-one : (e : EntryValue) (r : ℕ) → e.owner ≡ Ask s.number r → stepped 0 (event_posted e)
      (shown pool peer s) ≡ shown after peer new ∷ []
      → Steps (posts r e.number) stage pool after peer s new
  posts-one e r own step =
      let is = chosen (shown pool peer s) (shown after peer new)
      (posts r e.number (shown pool peer s)) (eqb s.number s.number)
      (eq-eqb s.number s.number refl) (rw own at step) in
      steps-of (posts r e.number) stage pool after peer s new connected is
      (ascends-changed (is_active r) (moved _) (λ c. refl) (shown pool peer s).calls ascending)

  -- and sent
  pub sends-one : (now : ℕ) (e : EntryValue) (r : ℕ) → e.owner ≡ Ask s.number r
      → stepped now (sent_event e) (shown pool peer s) ≡ shown after peer new ∷ []
      → Steps (sends now r e.number) stage pool after peer s new
  sends-one now e r own step =
      let is = chosen (shown pool peer s) (shown after peer new)
      (sends now r e.number (shown pool peer s)) (eqb s.number s.number)
      (eq-eqb s.number s.number refl) (rw own at step) in
      steps-of (sends now r e.number) stage pool after peer s new connected is
      (ascends-changed (is_active r) (moved _) (λ c. refl) (shown pool peer s).calls ascending)

pub some-steps : (stage : Stage) (pool after : Pool) (peer : ℕ) (s new : Session) → stage ≡ Connected
    → Ascends (shown_end stage pool peer s).calls → (o : Option (ℕ × ℕ))
    → IfSome o (λ d. (clock peer : ℕ) → list_any (is_numbered d.0) s.active ≡ false
    → stepped clock (event_begun d) (shown pool peer s) ≡ shown after peer new ∷ [])
    → IfSome o (λ d. Starts d.0 d.1 s new pool after)
    → IfSome o (λ d. Steps (begins d.0 d.1) stage pool after peer s new)
some-steps stage pool after peer s new connected up None step starts = tt
some-steps stage pool after peer s new connected up (Some d) step starts =
    begins-one stage pool after peer s new connected up d starts (step 0 peer)

pub begun-next : (stage : Stage) (pool : Pool) (peer : ℕ) (s : Session) (o : Option (ℕ × ℕ)) → stage ≡ Connected
    → beginning (shown pool peer s) ≡ option_map event_begun o
    → option_map begun_event o ≡ if_connected beginning (shown_end stage pool peer s)
begun-next stage pool peer s None connected e = rw connected (sym e)
begun-next stage pool peer s (Some d) connected e = rw connected (sym e)

-- an end without a call begins none
-- the owner of the next packet
pub next-owner : (peer : ℕ) (s : Session) (e : EntryValue) (t r : ℕ) (o : Option ActiveCall)
    → Some e ≡ option_map (entry_of s.number peer) o → e.owner ≡ Ask t r → e.owner ≡ Ask s.number r
next-owner peer s e t r None is own = cc
next-owner peer s e t r (Some c) is own =
    let same : e ≡ entry_of s.number peer c = cc in
    let asks : Ask s.number c.request ≡ Ask t r = sym (ap (λ x. x.owner) same) ∙ own in
    cc

pub post-steps : (stage : Stage) (pool after : Pool) (peer : ℕ) (s new : Session) (e : EntryValue)
    (t r : ℕ) → stage ≡ Connected → Ascends (shown_end stage pool peer s).calls → Some e ≡ next_entry peer s
    → e.owner ≡ Ask t r
    → ((clock : ℕ) → stepped clock (event_posted e) (shown pool peer s) ≡ shown after peer new ∷ [])
    → Steps (posts r e.number) stage pool after peer s new
post-steps stage pool after peer s new e t r connected up is own step =
    posts-one stage pool after peer s new connected up e r (next-owner peer s e t r (next_call s) is own) (step 0)

pub post-next : (stage : Stage) (pool : Pool) (peer : ℕ) (s : Session) (e : EntryValue) (t r : ℕ)
    → stage ≡ Connected → Some e ≡ next_entry peer s → e.owner ≡ Ask t r
    → posting (shown pool peer s) ≡ Some (event_posted e)
    → Some (posted_event (shown_end stage pool peer s).way.number (r, e.number))
    ≡ if_connected posting (shown_end stage pool peer s)
post-next stage pool peer s e t r connected is own turn =
    let mine = next-owner peer s e t r (next_call s) is own in
    rw (connected, turn, mine) refl

-- nothing is posted
pub none-posted : (stage : Stage) (pool : Pool) (peer : ℕ) (s : Session) → stage ≡ Connected
    → posting (shown pool peer s) ≡ None → None ≡ if_connected posting (shown_end stage pool peer s)
none-posted stage pool peer s connected turn = rw (connected, turn) refl

same-session : (peer : ℕ) (s : Session) (o : Option ActiveCall)
    → None ≡ option_map (entry_of s.number peer) o → after_posting o s ≡ s
same-session peer s None e = refl
same-session peer s (Some c) e = cc

pub none-same : (peer : ℕ) (s : Session) → None ≡ next_entry peer s → posted s ≡ s
none-same peer s e = same-session peer s (next_call s) e

-- the entry of a posted packet
entry-cases : (n peer r k : ℕ) (c : ActiveCall) (e : EntryValue) (b : Bool) → c.request ≡ r
    → Some e ≡ cond b (Some (entry_at n peer k c)) None → e ≡ entry_at n peer k c
entry-cases n peer r k c e true own is = cc
entry-cases n peer r k c e false own is = cc

pub record IsEntry (peer r k : ℕ) (s : Session) (e : EntryValue) : Type 0 where
  pub call : ActiveCall
  pub found : call_as r s ≡ Some call
  pub request : call.request ≡ r
  pub same : e ≡ entry_at s.number peer k call

is-entry : (peer r k : ℕ) (s : Session) (e : EntryValue) (o : Option ActiveCall) → call_as r s ≡ o
    → Some e ≡ option_and_then (entry_if s.number peer k) o → IsEntry peer r k s e
is-entry peer r k s e None f is = cc
is-entry peer r k s e (Some c) f is =
    let own = eqb-true c.request r (find-passes (is_request r) s.active c f) in
    record { call = c; found = f; request = own; same = entry-cases s.number peer r k c e (ltb k c.posted) own is }

pub entry-is : (peer r k : ℕ) (s : Session) (e : EntryValue) → Some e ≡ posted_entry peer r k s
    → IsEntry peer r k s e
entry-is peer r k s e is = is-entry peer r k s e (call_as r s) refl is

pub sent-steps : (stage : Stage) (pool after : Pool) (peer : ℕ) (s new : Session) (now r k : ℕ)
    (e : EntryValue) → stage ≡ Connected → Ascends (shown_end stage pool peer s).calls
    → Some e ≡ posted_entry peer r k s
    → ((peer : ℕ) → stepped now (sent_event e) (shown pool peer s) ≡ shown after peer new ∷ [])
    → Steps (sends now r k) stage pool after peer s new
sent-steps stage pool after peer s new now r k e connected up is step =
    let entry = entry-is peer r k s e is in
    let own : e.owner ≡ Ask s.number r = ap (λ x. x.owner) entry.same ∙ ap (λ n. Ask s.number n) entry.request in
    let number : e.number ≡ k = ap (λ x. x.number) entry.same in
    rw number at (sends-one stage pool after peer s new connected up now e r own (step peer))

-- a posted packet is that of what is shown
pub same-owners : (n r : ℕ) (xs : List ActiveCall)
    → find (is_owner n (Ask n r)) xs ≡ find (is_request r) xs
same-owners n r [] = refl
same-owners n r (x ∷ xs) = rw (eq-eqb n n refl, same-owners n r xs) refl

pub ask-end : (stage : Stage) (pool : Pool) (peer r k : ℕ) (s : Session) → stage ≡ Connected
    → ask_packet r k (Some (shown_end stage pool peer s)) ≡ ask_packet r k (Some (shown pool peer s))
ask-end stage pool peer r k s connected = rw connected refl

-- the next packet is one of a call
ask-cases : (peer : ℕ) (s : Session) (e : EntryValue) (o : Option ActiveCall)
    → Some e ≡ option_map (entry_of s.number peer) o → (t : ℕ) × (r : ℕ) × (e.owner ≡ Ask t r)
ask-cases peer s e None is = cc
ask-cases peer s e (Some c) is =
    let same : e ≡ entry_of s.number peer c = cc in
    (s.number, c.request, ap (λ x. x.owner) same)

pub ask-owner : (peer : ℕ) (s : Session) (e : EntryValue) → Some e ≡ next_entry peer s
    → (t : ℕ) × (r : ℕ) × (e.owner ≡ Ask t r)
ask-owner peer s e is = ask-cases peer s e (next_call s) is

-- a reply keeps the order of the calls
abbrev up_of : Client → Type 0
up_of x = Ascends x.calls

ended-ascend : (clock call : ℕ) (o : Outcome) (xs : List Client) → AllByRecursion up_of xs
    → AllByRecursion up_of (clients_after clock (end_event call o) [] None [] xs)
ended-ascend clock call Ok xs all =
    all-kept (has_call call) (ends call) up_of xs
    (λ x up here. ascends-without (is_call call) x.calls up) all
ended-ascend clock call (TooSmall size) xs all =
    all-kept (has_call call) (ends call) up_of xs
    (λ x up here. ascends-without (is_call call) x.calls up) all
ended-ascend clock call PeerLost xs all =
    all-kept (has_call call) (ends call) up_of xs
    (λ x up here. ascends-without (is_call call) x.calls up) all

took-ascends : (clock : ℕ) (h : MessageHeader) (body : List ℕ) (x : Client) → up_of x
    → AllByRecursion up_of (took clock h body x)
took-ascends clock h body x up =
    all-kept (is_client x.way.number) (takes clock h.request (Some h) body) up_of (x ∷ [])
    (λ y old here. ascends-changed (is_active h.request)
    (moved (took_reply clock (Some h) body)) (λ c. refl) y.calls old) (up, tt)

reply-all : (clock : ℕ) (r : Reply) (h : MessageHeader) (body : List ℕ) (x : Client) → up_of x
    → AllByRecursion up_of (after_outcome clock r h body x)
reply-all clock Took h body x up = took-ascends clock h body x up
reply-all clock (Ended d) h body x up =
    ended-ascend clock d.call d.outcome (took clock h body x) (took-ascends clock h body x up)
reply-all clock (Dropped why) h body x up = (up, tt)

-- no other active call has the number of one that is over
alone-after : (pool : Pool) (r : Reply) (s : Session) → Ascends (map (shown_active pool) s.active)
    → IsAloneAfter r s
alone-after pool Took s up = tt
alone-after pool (Ended d) s up = few-numbered pool s.active up d.call
alone-after pool (Dropped why) s up = tt

-- a reply was handled
pub record Replied (clock : ℕ) (r : Reply) (h : MessageHeader) (body : List ℕ) (stage : Stage)
    (pool after : Pool) (peer : ℕ) (s new : Session) : Type 0 where
  pub step : after_outcome clock r h body (shown_end stage pool peer s) ≡ shown_end stage after peer new ∷ []
  pub calls : Ascends (shown_end stage after peer new).calls

pub reply-steps : (clock : ℕ) (r : Reply) (h : MessageHeader) (body : List ℕ) (stage : Stage)
    (pool after : Pool) (peer : ℕ) (s new : Session) → stage ≡ Connected
    → Ascends (shown_end stage pool peer s).calls
    → (IsAloneAfter r s → (peer : ℕ) → after_outcome clock r h body (shown pool peer s) ≡ shown after peer new ∷ [])
    → Replied clock r h body stage pool after peer s new
reply-steps clock r h body stage pool after peer s new connected up step =
    let e = step (alone-after pool r s (active-ascends stage pool peer s up)) peer in
    let all = reply-all clock r h body (shown pool peer s) (rw connected at up) in
    let left : AllByRecursion up_of (shown after peer new ∷ []) = rw e at all in
    rw connected (record { step = e; calls = left.0 })

pub facts-end : (h : MessageHeader) (body : List ℕ) (r : Reply) (stage : Stage) (pool : Pool) (peer : ℕ)
    (s : Session) → stage ≡ Connected
    → ((me peer : ℕ) → client_ending me h body (Some (shown pool peer s)) ≡ ending_facts me r)
    → (me : ℕ) → client_ending me h body (Some (shown_end stage pool peer s)) ≡ ending_facts me r
facts-end h body r stage pool peer s connected facts = λ me. rw connected (facts me peer)

pub differ : (a b m n : ℕ) → a ≡ m → b ≡ n → IsTrue (not (eqb a (b + 1))) → m ≢ n + 1
differ a b m n left right t e =
    let same : eqb a (b + 1) ≡ true = eq-eqb a (b + 1) (left ∙ e ∙ ap (λ k. k + 1) (sym right)) in cc

-- the first active call above a number
module _ (pool : Pool) (after : Option ℕ) where
  above-same : (xs : List ActiveCall)
      → AllByRecursion (λ x. (true && is_above after (shown_active pool x)) ≡ is_after after x) xs
  above-same [] = tt
  above-same (x ∷ xs) = (above-one after x, above-same xs)
    where
      above-one : (after : Option ℕ) (x : ActiveCall)
          → (true && is_above after (shown_active pool x)) ≡ is_after after x
      above-one None x = refl
      above-one (Some n) x = refl

told-shown : (pool : Pool) (o : Option ActiveCall)
    → option_map told o ≡ option_and_then told_call (option_map (shown_active pool) o)
told-shown pool None = refl
told-shown pool (Some c) = refl

pub next-end : (stage : Stage) (pool : Pool) (peer : ℕ) (s : Session) (after : Option ℕ)
    → Ascends (shown_end stage pool peer s).calls
    → next_told after s ≡ option_and_then told_call (next_above after (shown_end stage pool peer s))
next-end stage pool peer s after up =
    let passes = λ (c : Call). is_some c.progress && is_above after c in
    let active = found-shown (shown_active pool) passes (is_after after) s.active (above-same pool after s.active) in
    let waiting = none-shown shown_waiting passes s.slots.waiting (λ w. refl) in
    let found : find passes (shown pool peer s).calls
    ≡ option_map (shown_active pool) (find (is_after after) s.active) =
    find-append passes (map (shown_active pool) s.active)
    (map shown_waiting s.slots.waiting)
    ∙ ap (λ o. option_or (find passes (map (shown_active pool) s.active)) o) waiting
    ∙ or-none _ ∙ active in
    rw (
      calls-end stage pool peer s,
      found,
      least-first pool (is_after after) s.active
          (active-ascends stage pool peer s up),
    ) (told-shown pool (find (is_after after) s.active))

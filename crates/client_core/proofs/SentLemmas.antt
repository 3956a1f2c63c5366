-- Sending an entry is the step Sent of what is shown: it moves the mark of its call, or nothing.
use Rattle.std.proofs.Common.{◌≡◌, ℕ, Bool, true, false, cond, Option, Some, List, [], ◌∷◌, ◌++◌, refl, sym, ap, eqb}
use Rattle.std.specs.Prelude.{map}
use Rattle.std.proofs.lemmas.Bool.{eq-eqb, eqb-true}
use Rattle.rpc_base.specs.Tables.{at_first}
use Rattle.rpc_base.specs.declared.event.Event.TheVariants.{Sent}
use Rattle.rpc_base.specs.declared.owner.Owner.{Owner}
use Rattle.rpc_base.specs.declared.owner.Owner.TheVariants.{Ask, Reply, Control}
use Rattle.buffer_pool.specs.Pool.{Pool}
use Rattle.packet_rings.specs.Values.{EntryValue}
use Rattle.session_slots.specs.declared.waiting.Waiting.{Waiting}
use Rattle.packet_header.specs.Reading.{decoded}
use Rattle.rpc_laws.specs.declared.tables.Call.{Call}
use Rattle.rpc_laws.specs.Calls.{is_active, moved, sent_packet}
use Rattle.client_core.specs.declared.call.ActiveCall.{ActiveCall}
use Rattle.client_core.specs.Session.{Session}
use Rattle.client_core.specs.KeepsPool.{released_at}
use Rattle.client_core.specs.Posting.{is_owner, marked, one_left, sent_at}
use Rattle.client_core.specs.Shown.{parts_of, sent_event, shown, shown_active, shown_waiting, stepped}
use Rattle.client_core.proofs.ShownLemmas.{released-same}

-- sending moves the mark of its call
sent-cases : (pool : Pool) (number now : ℕ) (c : ActiveCall) (b : Bool)
    → shown_active pool (cond b (record c { mark = now }) c)
    ≡ record (shown_active pool c) {
      progress = Some
          (cond b (record {
            request = c.request;
            got = c.got;
            posted = c.posted;
            rolls = c.rolls;
            mark = now;
            answer = c.size;
            parts = parts_of pool c;
          })
          (record {
            request = c.request;
            got = c.got;
            posted = c.posted;
            rolls = c.rolls;
            mark = c.mark;
            answer = c.size;
            parts = parts_of pool c;
          }));
    }
sent-cases pool number now c true = refl
sent-cases pool number now c false = refl

-- the calls behind those that a test passes over
waiting-kept : (r : ℕ) (f : Call → Call) (ws : List Waiting)
    → at_first (is_active r) f (map shown_waiting ws) ≡ map shown_waiting ws
waiting-kept r f [] = refl
waiting-kept r f (w ∷ ws) = ap (λ zs. shown_waiting w ∷ zs) (waiting-kept r f ws)

sent-calls-cons : (pool : Pool) (number r k now : ℕ) (c : ActiveCall) (cs : List ActiveCall)
    (ws : List Waiting) (b : Bool)
    → at_first (is_active r) (moved (sent_packet now k))
    (map (shown_active pool) cs ++ map shown_waiting ws)
    ≡ map (shown_active pool) (at_first (is_owner number (Ask number r)) (marked k now) cs)
    ++ map shown_waiting ws
    → cond b (moved (sent_packet now k) (shown_active pool c)
    ∷ (map (shown_active pool) cs ++ map shown_waiting ws))
    (shown_active pool c ∷ at_first (is_active r) (moved (sent_packet now k))
    (map (shown_active pool) cs ++ map shown_waiting ws))
    ≡ map (shown_active pool) (cond b (marked k now c ∷ cs)
    (c ∷ at_first (is_owner number (Ask number r)) (marked k now) cs)) ++ map shown_waiting ws
sent-calls-cons pool number r k now c cs ws true ih =
    ap (λ x. x ∷ (map (shown_active pool) cs ++ map shown_waiting ws))
    (sym (sent-cases pool number now (one_left c) (eqb c.got k)))
sent-calls-cons pool number r k now c cs ws false ih = ap (λ zs. shown_active pool c ∷ zs) ih

owner-of : (number r : ℕ) (c : ActiveCall) → is_owner number (Ask number r) c ≡ eqb c.request r
owner-of number r c = rw (eq-eqb number number refl) refl

sent-calls : (pool : Pool) (number r k now : ℕ) (cs : List ActiveCall) (ws : List Waiting)
    → at_first (is_active r) (moved (sent_packet now k))
    (map (shown_active pool) cs ++ map shown_waiting ws)
    ≡ map (shown_active pool) (at_first (is_owner number (Ask number r)) (marked k now) cs)
    ++ map shown_waiting ws
sent-calls pool number r k now [] ws = waiting-kept r (moved (sent_packet now k)) ws
sent-calls pool number r k now (c ∷ cs) ws =
    rw (owner-of number r c) (sent-calls-cons pool number r k now c cs ws (eqb c.request r)
    (sent-calls pool number r k now cs ws))

-- another owner's packets move no mark here
no-owner : (number : ℕ) (o : Owner) (f : ActiveCall → ActiveCall) (cs : List ActiveCall)
    → ((c : ActiveCall) → is_owner number o c ≡ false) → at_first (is_owner number o) f cs ≡ cs
no-owner number o f [] none = refl
no-owner number o f (c ∷ cs) none = rw (none c) (ap (λ zs. c ∷ zs) (no-owner number o f cs none))

other-session : (number s r : ℕ) (c : ActiveCall) (b : Bool) → eqb number s ≡ b → b ≡ false
    → is_owner number (Ask s r) c ≡ false
other-session number s r c true t e = cc
other-session number s r c false t e = rw t refl

sent-ask : (pool : Pool) (peer now s r k to : ℕ) (place : Option ℕ) (x : Session) (b : Bool)
    → eqb x.number s ≡ b
    → stepped now (Sent to (Ask s r) k) (shown pool peer x)
    ≡ shown (released_at place pool) peer (record x
    { active = at_first (is_owner x.number (Ask s r)) (marked k now) x.active }) ∷ []
sent-ask pool peer now s r k to place x true t =
    let same : s ≡ x.number = sym (eqb-true x.number s t) in
    rw (
      same,
      eq-eqb x.number x.number refl,
      released-same pool place
          (at_first (is_owner x.number (Ask x.number r)) (marked k now) x.active),
      sent-calls pool
          x.number r k now x.active x.slots.waiting,
    ) refl
sent-ask pool peer now s r k to place x false t =
    rw (
      t,
      no-owner x.number (Ask s r) (marked k now) x.active
          (λ c. other-session x.number s r c false t refl),
      released-same pool place x.active,
    ) refl

sent-by : (pool : Pool) (peer now k to : ℕ) (place : Option ℕ) (x : Session) (o : Owner)
    → stepped now (Sent to o k) (shown pool peer x)
    ≡ shown (released_at place pool) peer (record x
    { active = at_first (is_owner x.number o) (marked k now) x.active }) ∷ []
unfolding decoded
sent-by pool peer now k to place x (Ask s r) = sent-ask pool peer now s r k to place x (eqb x.number s) refl
sent-by pool peer now k to place x (Reply s r) =
    rw (
      no-owner x.number (Reply s r) (marked k now) x.active (λ c. refl),
      released-same pool place x.active,
    ) refl
sent-by pool peer now k to place x Control =
    rw (
      no-owner x.number Control (marked k now) x.active (λ c. refl),
      released-same pool place x.active,
    ) refl

pub sent-step : (pool : Pool) (peer now : ℕ) (place : Option ℕ) (x : Session) (e : EntryValue)
    → stepped now (sent_event e) (shown pool peer x)
    ≡ shown (released_at place pool) peer (sent_at e now x) ∷ []
sent-step pool peer now place x e = sent-by pool peer now e.number e.peer place x e.owner

-- a packet that leaves unsent changes nothing that is shown
left-calls-cons : (pool : Pool) (test : ActiveCall → Bool) (c : ActiveCall) (cs : List ActiveCall)
    (b : Bool) → map (shown_active pool) (at_first test one_left cs) ≡ map (shown_active pool) cs
    → map (shown_active pool) (cond b (one_left c ∷ cs) (c ∷ at_first test one_left cs))
    ≡ shown_active pool c ∷ map (shown_active pool) cs
left-calls-cons pool test c cs true ih = refl
left-calls-cons pool test c cs false ih = ap (λ zs. shown_active pool c ∷ zs) ih

left-calls : (pool : Pool) (test : ActiveCall → Bool) (cs : List ActiveCall)
    → map (shown_active pool) (at_first test one_left cs) ≡ map (shown_active pool) cs
left-calls pool test [] = refl
left-calls pool test (c ∷ cs) = left-calls-cons pool test c cs (test c) (left-calls pool test cs)

pub left-shown : (pool : Pool) (peer : ℕ) (place : Option ℕ) (x : Session)
    (test : ActiveCall → Bool)
    → shown (released_at place pool) peer (record x { active = at_first test one_left x.active })
    ≡ shown pool peer x
left-shown pool peer place x test =
    rw (released-same pool place (at_first test one_left x.active), left-calls pool test x.active)
    refl

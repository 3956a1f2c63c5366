-- A poll notes nothing of a client session that rests.
use Rattle.std.proofs.Common.{◌≡◌, ℕ, ◌==◌, Bool, true, false, ◌&&◌, Option, Some, None, List, []}
use Rattle.std.proofs.Common.{length, refl, ap, subst, sym, arith, option_and_then, option_map}
use Rattle.std.proofs.Common.{slice_get, if◌then◌else◌}
use Rattle.std.specs.List.{find}
use Rattle.packet_header.specs.declared.packet.ControlHeader.{ControlHeader}
use Rattle.rpc_base.specs.declared.event.Event.{Event}
use Rattle.rpc_base.specs.declared.event.Event.TheVariants.{Begun}
use Rattle.rpc_base.specs.declared.fact.Fact.{Fact}
use Rattle.rpc_base.specs.declared.state.SessionState.{SessionState}
use Rattle.rpc_base.specs.declared.state.SessionState.TheVariants.{Unknown, Connecting, Connected}
use Rattle.rpc_base.specs.declared.state.SessionState.TheVariants.{Closing, Closed, Failed, Broken}
use Rattle.rpc_base.specs.declared.state.SessionState.TheVariants.{Spent}
use Rattle.rpc_laws.specs.declared.tables.Call.{Call}
use Rattle.rpc_laws.specs.declared.tables.Client.{Client}
use Rattle.rpc_laws.specs.declared.tables.Lists.{Lists}
use Rattle.rpc_laws.specs.declared.tables.Queued.{Queued}
use Rattle.rpc_laws.specs.declared.tables.Way.{Way}
use Rattle.rpc_laws.specs.Calls.{is_waiting}
use Rattle.rpc_laws.specs.ControlSteps.{request_by, Retries, RetriesAs, RetriesOf, TimesSession}
use Rattle.rpc_laws.specs.GoBackN.{WatchesSession}
use Rattle.rpc_laws.specs.PollOrder.{Serves}
use Rattle.rpc_laws.specs.Posting.{beginning, can_post, if_connected, lowest_free, next_begun}
use Rattle.rpc_laws.specs.Posting.{next_packet, next_posted, next_turn, posting}
use Rattle.rpc_laws.specs.Sessions.{is_connected}
use Rattle.rpc_laws.specs.Steps.{NotesAll, none}
use Rattle.node_rules.specs.SingleFacts.{at_clock}
use Rattle.rule_facts.specs.Watching.{client_waits}
use Rattle.poll_steps.specs.Resting.{asks_nothing, is_at_rest, rests, rests_if}
use Rattle.poll_steps.specs.Steps.{IsStep}
use Rattle.poll_steps.proofs.EachLemmas.{quiet-step}
use Rattle.poll_steps.proofs.HearLemmas.{no-items}
use Rattle.poll_steps.proofs.PostLemmas.{then-some}

first-of : (a b : Bool) → (a && b) ≡ true → a ≡ true
first-of true b e = refl
first-of false b e = cc

second-of : (a b : Bool) → (a && b) ≡ true → b ≡ true
second-of true b e = e
second-of false b e = cc

calls-of : (x : Client) → is_at_rest x ≡ true → x.calls ≡ []
calls-of x e = no-items x.calls (second-of (asks_nothing x.state) (length x.calls == 0) e)

no-request : (own : ℕ) (state : SessionState) (way : Way) (credits : ℕ) → asks_nothing state ≡ true
    → request_by own state way credits ≡ None
no-request own Unknown way credits e = refl
no-request own Connecting way credits e = cc
no-request own Connected way credits e = refl
no-request own Closing way credits e = cc
no-request own Closed way credits e = refl
no-request own Failed way credits e = refl
no-request own Broken way credits e = refl
no-request own Spent way credits e = refl

retries-nothing : (clock timeout me own : ℕ) (o : Option Client) → rests_if o ≡ true
    → RetriesOf clock timeout me own o []
retries-nothing clock timeout me own None e = refl
retries-nothing clock timeout me own (Some x) e =
    subst (λ (h : Option ControlHeader). RetriesAs h clock timeout me x [])
    (sym (no-request own x.state x.way x.limit
    (first-of (asks_nothing x.state) (length x.calls == 0) e)))
    refl

waits-quietly : (clock timeout : ℕ) (queued : List Queued) (o : Option Client) → rests_if o ≡ true
    → client_waits clock timeout queued o ≡ true
waits-quietly clock timeout queued None e = refl
waits-quietly clock timeout queued (Some x) e = rw (calls-of x e) refl

either : (b : Bool) (o : Option Event) → o ≡ None → (if b then o else None) ≡ None
either true o e = e
either false o e = refl

begins-nothing : (o : Option Client) → rests_if o ≡ true
    → option_and_then (if_connected beginning) o ≡ None
begins-nothing None e = refl
begins-nothing (Some x) e =
    either (is_connected x.state) (beginning x)
    (ap (λ (calls : List Call).
    option_and_then (λ c. option_map (λ slot. Begun c.what.number (next_turn x.turns slot))
    (lowest_free calls)) (find is_waiting calls))
    (calls-of x e))

posts-nothing : (o : Option Client) → rests_if o ≡ true
    → option_and_then (if_connected posting) o ≡ None
posts-nothing None e = refl
posts-nothing (Some x) e =
    let none : option_and_then (λ c. next_packet x.way.number c.progress) (find can_post x.calls)
    ≡ None =
    ap (λ (calls : List Call).
    option_and_then (λ c. next_packet x.way.number c.progress) (find can_post calls))
    (calls-of x e) in
    either (is_connected x.state) (posting x) (other (x.free == 0) _ none)
  where
    other : (b : Bool) (o : Option Event) → o ≡ None → (if b then None else o) ≡ None
    other true o e = refl
    other false o e = e

pub rests-in-timers : (timeout i clock : ℕ) (s : Lists) (facts : List Fact) → rests i s ≡ true
    → IsStep (TimesSession timeout i) (at_clock clock s) facts (at_clock clock s) (Some 0)
rests-in-timers timeout i clock s facts e =
    then-some (Retries timeout i) (WatchesSession timeout i) (at_clock clock s) facts 0 0
    (at_clock clock s) (at_clock clock s)
    (record {
      some = (
        omega arith,
        record {
          facts = retries-nothing clock timeout s.me s.life (slice_get s.clients i) e;
          goes = refl;
        },
      );
      only = λ no. cc;
    })
    (quiet-step timeout i clock s facts
    (waits-quietly clock timeout s.queued (slice_get s.clients i) e))

-- what notes its next event notes nothing where there is none
notes-nothing : (next : Lists → Option Event) (clock : ℕ) (s : Lists) (facts : List Fact)
    → next s ≡ None
    → IsStep (NotesAll next) (at_clock clock s) facts (at_clock clock s) (Some 0)
notes-nothing next clock s facts e = record {
  some = (omega arith, record { steps = none; over = e });
  only = λ no. cc;
}

pub rests-in-posting : (i clock : ℕ) (s : Lists) (facts : List Fact) → rests i s ≡ true
    → IsStep (Serves i) (at_clock clock s) facts (at_clock clock s) (Some 0)
rests-in-posting i clock s facts e =
    then-some (NotesAll (next_begun i)) (NotesAll (next_posted i)) (at_clock clock s) facts 0 0
    (at_clock clock s) (at_clock clock s)
    (notes-nothing (next_begun i) clock s facts (begins-nothing (slice_get s.clients i) e))
    (notes-nothing (next_posted i) clock s facts (posts-nothing (slice_get s.clients i) e))

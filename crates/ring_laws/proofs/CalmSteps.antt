-- While no call is rolled back no session breaks.
use Rattle.std.proofs.Common.{◌≡◌, ◌+◌, ◌==◌, ℕ, Bool, true, false, cond, List, []}
use Rattle.std.proofs.Common.{Option, Some, None, refl, sym, ap, ◌∙◌, arith}
use Rattle.std.specs.Prelude.{IfSome, option_map}
use Rattle.std.specs.List.{AllByRecursion}
use Rattle.packet_header.specs.declared.packet.MessageHeader.{MessageHeader}
use Rattle.rpc_base.specs.Tables.{at_first}
use Rattle.rpc_base.specs.declared.event.Event.{Event}
use Rattle.rpc_base.specs.declared.event.Event.TheVariants.{Opened, Connected, FailedNoRoom}
use Rattle.rpc_base.specs.declared.event.Event.TheVariants.{FailedNoAnswer, Closing, ClosedHeard}
use Rattle.rpc_base.specs.declared.event.Event.TheVariants.{ClosedUnheard, PairedClient, Asked}
use Rattle.rpc_base.specs.declared.event.Event.TheVariants.{Begun, Posted, Sent, Took, Rolled}
use Rattle.rpc_base.specs.declared.event.Event.TheVariants.{Broken, DoneOk, DoneTooSmall}
use Rattle.rpc_base.specs.declared.event.Event.TheVariants.{DonePeerLost}
use Rattle.rpc_base.specs.declared.owner.Owner.TheVariants.{Ask, Reply, Control}
use Rattle.rpc_laws.specs.declared.tables.Call.{Call}
use Rattle.rpc_laws.specs.declared.tables.Client.{Client}
use Rattle.rpc_laws.specs.declared.tables.InFlight.{InFlight}
use Rattle.rpc_laws.specs.declared.tables.Lists.{Lists}
use Rattle.rpc_laws.specs.declared.tables.Progress.{Progress}
use Rattle.rpc_laws.specs.Calls.{is_call, is_active, moved, posted_up_to, sent_packet, took_reply, begun}
use Rattle.rpc_laws.specs.Front.{front_header, front_body}
use Rattle.packet_header.specs.declared.packet.ControlHeader.{ControlHeader}
use Rattle.rpc_base.specs.declared.state.SessionState.TheVariants.{Closed, Failed}
use Rattle.rpc_base.specs.declared.state.SessionState.TheVariants.{Closing as IsClosing}
use Rattle.rpc_laws.specs.Front.{control_of}
use Rattle.rpc_laws.specs.Sessions.{clients_told, comes_to, connects, is_request_of, requests}
use Rattle.rpc_laws.specs.Sessions.{is_client, has_call, is_connected, clients_after}
use Rattle.end_laws.proofs.Allowed.{MayBreak, May}
use Rattle.end_laws.proofs.ListLemmas.{all-first, all-add, all-without, all-found}
use Rattle.ring_laws.proofs.ClientSteps.{no_roll}
use Rattle.node_laws.proofs.Allowed.{Allowed as Lawful}
use Rattle.rpc_base.proofs.BasicLemmas.{false-true}
use Rattle.std.specs.List.{find}
use Rattle.rpc_base.specs.declared.state.SessionState.{SessionState}
use Rattle.rpc_base.specs.declared.state.SessionState.TheVariants.{Connecting}
use Rattle.rpc_base.proofs.PlaceLemmas.{all-at}

-- an active call wasn't rolled back since its last reply
abbrev pub Unrolled : Call → Type 0
Unrolled c = IfSome c.progress (λ p. p.rolls ≡ 0)

-- so it is of all calls of a session, which has none where it isn't connected
pub record CalmClient (x : Client) : Type 0 where
  pub idle : is_connected x.state ≡ false → x.calls ≡ []
  pub calls : AllByRecursion Unrolled x.calls

abbrev pub CalmNode : Lists → Type 0
CalmNode l = AllByRecursion CalmClient l.clients

moves : (change : Progress → Progress) → ((p : Progress) → p.rolls ≡ 0 → (change p).rolls ≡ 0)
    → (o : Option Progress) → IfSome o (λ p. p.rolls ≡ 0)
    → IfSome (option_map change o) (λ p. p.rolls ≡ 0)
moves change keep None h = tt
moves change keep (Some p) h = keep p h

moved-calls : (r : ℕ) (change : Progress → Progress)
    → ((p : Progress) → p.rolls ≡ 0 → (change p).rolls ≡ 0) → (calls : List Call)
    → AllByRecursion Unrolled calls
    → AllByRecursion Unrolled (at_first (is_active r) (moved change) calls)
moved-calls r change keep calls h =
    all-first Unrolled Unrolled (is_active r) (moved change) calls (λ c k. k)
    (λ c is k. moves change keep c.progress k) h

sent-rolls : (clock k : ℕ) (p : Progress) (b : Bool) → p.rolls ≡ 0 → (cond b (record p { mark = clock }) p).rolls ≡ 0
sent-rolls clock k p true h = h
sent-rolls clock k p false h = h

took-rolls : (clock : ℕ) (o : Option MessageHeader) (body : List ℕ) (p : Progress) → p.rolls ≡ 0
    → (took_reply clock o body p).rolls ≡ 0
took-rolls clock None body p h = h
took-rolls clock (Some m) body p h = refl

-- the first session that passes changes
changes : (p : Client → Bool) (change : Client → Client) (xs : List Client)
    → ((x : Client) → CalmClient x → CalmClient (change x)) → AllByRecursion CalmClient xs
    → AllByRecursion CalmClient (at_first p change xs)
changes p change xs keep h = all-first CalmClient CalmClient p change xs (λ x k. k) (λ x is k. keep x k) h

some-rolls : (o : Option Progress) (p : Progress) → o ≡ Some p → IfSome o (λ p. p.rolls ≡ 0) → p.rolls ≡ 0
some-rolls None p e h = cc
some-rolls (Some q) p e h = let same : q ≡ p = cc in ap (λ (z : Progress). z.rolls) (sym same) ∙ h

pub no-break : (l : Lists) (s : ℕ) → MayBreak l s → CalmNode l → ⊥
no-break l s b h =
    let x = all-at CalmClient l.clients b.place b.client h b.is_there in
    let c = all-found Unrolled (is_call b.number) b.client.calls b.call x.calls b.found in
    let none = some-rolls b.call.progress b.progress b.is_progress c in
    let some = b.rolled in
    omega arith

-- calls change, and none stay none
with-calls : (x y : Client) → y.state ≡ x.state → (x.calls ≡ [] → y.calls ≡ [])
    → AllByRecursion Unrolled y.calls → CalmClient x → CalmClient y
with-calls x y state none calls k = record {
  idle = λ e. none (k.idle (ap is_connected (sym state) ∙ e));
  calls = calls;
}

-- another state of a session with no calls
comes-idle : (s : ℕ) (state : SessionState) (xs : List Client) (x : Client)
    → find (is_client s) xs ≡ Some x → x.calls ≡ [] → AllByRecursion CalmClient xs
    → AllByRecursion CalmClient (at_first (is_client s) (comes_to state) xs)
comes-idle s state xs x found none h =
    all-first CalmClient CalmClient (is_client s) (comes_to state) xs (λ z k. k)
    (λ z is k. let same : x ≡ z = cc in
    record { idle = λ e. ap (λ (y : Client). y.calls) (sym same) ∙ none; calls = k.calls }) h

-- a session of such a state has none
was-idle : (s : ℕ) (was : SessionState) (xs : List Client) (x : Client) → find (is_client s) xs
    ≡ Some x
    → x.state ≡ was → is_connected was ≡ false → AllByRecursion CalmClient xs → x.calls ≡ []
was-idle s was xs x found e not h =
    (all-found CalmClient (is_client s) xs x h found).idle (ap is_connected e ∙ not)

told-by : (clock : ℕ) (b : Bool) (x : Client) → CalmClient x
    → CalmClient (cond b (record x { sends = x.sends + 1; sent_at = clock }) x)
told-by clock true x k = with-calls x (record x { sends = x.sends + 1; sent_at = clock }) refl
    (λ e. e) k.calls k
told-by clock false x k = k

told : (clock : ℕ) (o : Option ControlHeader) (xs : List Client) → AllByRecursion CalmClient xs
    → AllByRecursion CalmClient (clients_told clock o xs)
told clock None xs h = h
told clock (Some c) xs h =
    changes (is_client c.client) (requests clock c) xs
    (λ x k. told-by clock (is_request_of c.kind c.server c.to_life x.state x.way) x k) h

pub calm-step : (clock : ℕ) (hand : Option InFlight) (l : Lists) (e : Event) (first second : List ℕ)
    → Lawful l e → no_roll e ≡ true → May hand l e first second → CalmNode l
    → AllByRecursion CalmClient (clients_after clock e first (front_header l.ring)
    (front_body l.ring) l.clients)
calm-step clock hand l (PairedClient a p t c life) first second n calm m h = absurd m
calm-step clock hand l (Rolled c posted got) first second n calm m h = cc
calm-step clock hand l (Broken a) first second n calm m h = absurd (no-break l a m h)
calm-step clock hand l (Opened a p c) first second n calm m h =
    all-add CalmClient l.clients _ h (record { idle = λ e. refl; calls = tt })
calm-step clock hand l (Connected a t life) first second n calm m h =
    changes (is_client a) (connects t life) l.clients
    (λ x k. record { idle = λ e. false-true (sym e); calls = k.calls }) h
calm-step clock hand l (FailedNoRoom a) first second n calm m h =
    comes-idle a Failed l.clients n.client n.found
    (was-idle a Connecting l.clients n.client n.found n.stands refl h) h
calm-step clock hand l (FailedNoAnswer a) first second n calm m h =
    comes-idle a Failed l.clients n.client n.found
    (was-idle a Connecting l.clients n.client n.found n.stands refl h) h
calm-step clock hand l (Closing a) first second n calm m h =
    comes-idle a IsClosing l.clients n.client n.found n.idle h
calm-step clock hand l (ClosedHeard a) first second n calm m h =
    comes-idle a Closed l.clients n.client n.found
    (was-idle a IsClosing l.clients n.client n.found n.stands refl h) h
calm-step clock hand l (ClosedUnheard a) first second n calm m h =
    comes-idle a Closed l.clients n.client n.found
    (was-idle a IsClosing l.clients n.client n.found n.stands refl h) h
calm-step clock hand l (Asked c a y room) first second n calm m h =
    all-first CalmClient CalmClient (is_client a) _ l.clients (λ x k. k)
    (λ x is k. let found = n.found in
    let same : n.client ≡ x = cc in
    record {
      idle = λ e. false-true (sym e ∙ (ap (λ (z : Client). is_connected z.state) (sym same)
          ∙ n.connected));
      calls = all-add Unrolled x.calls _ k.calls tt;
    }) h
calm-step clock hand l (Begun c r) first second n calm m h =
    changes (has_call c) _ l.clients
    (λ x k. with-calls x _ refl (λ e. rw e refl)
    (all-first Unrolled Unrolled (is_call c) (begun r) x.calls
    (λ d j. j) (λ d is j. refl) k.calls) k) h
calm-step clock hand l (Posted (Ask a r) j) first second n calm m h =
    changes (is_client a) _ l.clients (λ x k. with-calls x _ refl (λ e. rw e refl)
    (moved-calls r (posted_up_to j) (λ p z. z) x.calls k.calls) k) h
calm-step clock hand l (Posted (Reply t r) j) first second n calm m h = h
calm-step clock hand l (Posted Control j) first second n calm m h = h
calm-step clock hand l (Sent peer (Ask a r) j) first second n calm m h =
    changes (is_client a) _ l.clients (λ x k. with-calls x _ refl (λ e. rw e refl)
    (moved-calls r (sent_packet clock j)
    (λ p z. sent-rolls clock j p (p.got == j) z) x.calls k.calls) k) h
calm-step clock hand l (Sent peer (Reply t r) j) first second n calm m h = h
calm-step clock hand l (Sent peer Control j) first second n calm m h =
    told clock (control_of first) l.clients h
calm-step clock hand l (Took (Ask a r) j) first second n calm m h =
    changes (is_client a) _ l.clients (λ x k. with-calls x _ refl (λ e. rw e refl)
    (moved-calls r (took_reply clock (front_header l.ring) (front_body l.ring))
    (λ p z. took-rolls clock (front_header l.ring) (front_body l.ring) p z) x.calls k.calls) k) h
calm-step clock hand l (Took (Reply t r) j) first second n calm m h = h
calm-step clock hand l (Took Control j) first second n calm m h = h
calm-step clock hand l (DoneOk c) first second n calm m h =
    changes (has_call c) _ l.clients (λ x k. with-calls x _ refl (λ e. rw e refl)
    (all-without Unrolled (is_call c) x.calls k.calls) k) h
calm-step clock hand l (DoneTooSmall c size) first second n calm m h =
    changes (has_call c) _ l.clients (λ x k. with-calls x _ refl (λ e. rw e refl)
    (all-without Unrolled (is_call c) x.calls k.calls) k) h
calm-step clock hand l (DonePeerLost c) first second n calm m h =
    changes (has_call c) _ l.clients (λ x k. with-calls x _ refl (λ e. rw e refl)
    (all-without Unrolled (is_call c) x.calls k.calls) k) h
calm-step clock hand l _ first second n calm m h = h

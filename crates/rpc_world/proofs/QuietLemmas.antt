-- Steps of an endpoint that change no job: a call that is asked, a rate that is set, a session that
-- is opened or begins to close, and a datagram that is delivered.
use Rattle.std.proofs.Common.{◌≡◌, ℕ, Bool, true, false, not, cond, Option, Some, None, List, []}
use Rattle.std.proofs.Common.{◌∷◌, length, nat_lt, refl, sym, ap, subst, ◌∙◌, ◌≢◌, Result, Ok, Err}
use Rattle.std.specs.Prelude.{◌==◌, IfErr}
use Rattle.std.specs.List.{find}
use Rattle.node_steps.specs.Jobs.{staff_of}
use Rattle.end_laws.proofs.OwnFacts.{asks-own, connects-own, delivers-own, disconnects-own, rates-own}
use Rattle.endpoint_loop.specs.Endpoints.{Leaves}
use Rattle.node_steps.specs.Pairs.{UnlessNoMemory}
use Rattle.node_steps.specs.Asks.{UnlessWanting}
use Rattle.node_steps.specs.declared.refusals.AskError.TheVariants.{NoMemory}
use Rattle.node_steps.specs.declared.refusals.Refused.{Refused}
use Rattle.endpoint_loop.specs.Endpoints.{IsStaffed, asks_of}
use Rattle.node_steps.specs.Seen.{Asks as AsksBytes, asking}
use Rattle.rpc_base.specs.declared.event.Event.{Event}
use Rattle.rpc_base.specs.declared.event.Event.TheVariants.{Arrived, Bad, Closing, NcallTooLarge}
use Rattle.rpc_base.specs.declared.event.Event.TheVariants.{NcloseBusy, NcloseState, NconnectNumbers}
use Rattle.rpc_base.specs.declared.event.Event.TheVariants.{NconnectRing, Nrate, Overflowed, Rated}
use Rattle.rpc_base.specs.declared.fact.Fact.{Fact}
use Rattle.rpc_base.specs.declared.state.SessionState.{SessionState}
use Rattle.rpc_base.specs.declared.state.SessionState.TheVariants.{Connected}
use Rattle.rpc_laws.specs.declared.tables.Lists.{Lists}
use Rattle.rpc_laws.specs.declared.tables.Timed.{Timed}
use Rattle.rpc_laws.specs.declared.tables.WorkedJob.{WorkedJob}
use Rattle.rpc_laws.specs.Deliveries.{Delivers, inbox_room}
use Rattle.rpc_laws.specs.Facts.{plain}
use Rattle.rpc_laws.specs.Front.{is_control, is_message}
use Rattle.rpc_laws.specs.Groups.{Asks, Connects, Disconnects, SetsRate, ask_by_state, client_refusal}
use Rattle.rpc_laws.specs.Groups.{clients_spent, connect_by, has_no_room, pending, shares, state_of}
use Rattle.rpc_laws.specs.Sessions.{is_client, is_connected, is_live}
use Rattle.rpc_laws.specs.Steps.{Rel}
use Rattle.rpc_laws.specs.Working.{worked_after_all}
use Rattle.rpc_outside.specs.PlainAnswer.{background_answer}
use Rattle.sim_script.specs.FollowsScript.{is_wanting}
use Rattle.session_mgmt.specs.declared.answers.ConnectError.{ConnectError}
use Rattle.session_mgmt.specs.declared.answers.ConnectError.TheVariants.{NoMemory as NoConnectMemory}
use Rattle.rpc_world.specs.Answered.{End, Whole, told_end}
use Rattle.rpc_world.specs.Before.{IsPlaying, local_members}
use Rattle.rpc_world.proofs.EndLemmas.{staffed-stays}
use Rattle.rpc_world.proofs.PlainLemmas.{AllOf, all-owned, idle-quiet}
use Rattle.rpc_world.proofs.StepLemmas.{NodeStep, quiet-plain}
use Rattle.work_laws.proofs.StayLaws.{Stays, asks-stays, connects-stays, delivers-stays}
use Rattle.work_laws.proofs.StayLaws.{disconnects-stays, rates-stays, stays-knows}
use Rattle.work_laws.specs.Known.{KnowsWork}
use Rattle.worker_crew.specs.Local.{Local, out_of}

-- a step whose facts are the node's, change no job and tell of no want
pub record IsStill (P : Rel) (s : Timed) (x : List Fact) (t : Timed) : Type 0 where
  pub stays : Stays s x t
  pub own : AllOf s.lists.me x
  pub whole : Whole x

still-step : (P : Rel) (n : ℕ) (worked : List WorkedJob) (e new : End) (x : List Fact) → new.workers ≡ e.workers
    → new.service ≡ e.service → new.timed.lists.jobs ≡ e.timed.lists.jobs → IsStill P (told_end e) x (told_end new)
    → P (told_end e) x (told_end new) → IsPlaying worked n e → NodeStep P n worked e new x
still-step P n worked e new x workers service jobs i step p =
    let own = subst (λ (k : ℕ). AllOf k x) p.me i.own in
    record {
      step = step;
      own = own;
      plain = quiet-plain n e new x service own (idle-quiet x i.stays.idle) i.whole;
      plays = record {
        me = i.stays.me ∙ p.me;
        staffed = staffed-stays background_answer (staff_of local_members new.workers) e.timed new.timed jobs
            (subst (λ (w : Local). IsStaffed background_answer (staff_of local_members w) e.timed) (sym workers) p.staffed);
        knows = subst (λ (w : Local). KnowsWork (worked_after_all worked x) (told_end new) w) (sym workers)
            (stays-knows x worked (told_end e) (told_end new) e.workers i.stays p.knows);
      };
    }

-- by what an endpoint says of such a step
pub leaving-step : (P : Rel) (n : ℕ) (worked : List WorkedJob) (e new : End) (x : List Fact) → Leaves e new
    → ((s t : Timed) → P s x t → IsStill P s x t)
    → ((asks : AsksBytes) → P (asking asks e.timed) x (asking asks new.timed)) → IsPlaying worked n e
    → NodeStep P n worked e new x
leaving-step P n worked e new x leaves still step p =
    let asks = asks_of (out_of e.workers) in
    let does : P (told_end e) x (told_end new) =
    subst (λ (w : Local). P (told_end e) x (asking (asks_of (out_of w)) new.timed)) (sym leaves.workers) (step asks) in
    still-step P n worked e new x leaves.workers leaves.service leaves.jobs
    (still (told_end e) (told_end new) does) does p

-- a call
state-whole : (state : SessionState) (session req_type room : ℕ) (ask : List ℕ) (l : Lists)
    → is_wanting (ask_by_state state session req_type room ask l).event ≡ false
state-whole Connected session req_type room ask l = refl
state-whole _ session req_type room ask l = refl

ask-whole : (b : Bool) (session req_type room : ℕ) (ask : List ℕ) (l : Lists) (state : SessionState)
    → Whole (cond b (plain l.me (NcallTooLarge session (length ask)))
    (ask_by_state state session req_type room ask l) ∷ [])
ask-whole true session req_type room ask l state = refl
ask-whole false session req_type room ask l state = rw (state-whole state session req_type room ask l) refl

pub asks-still : (session req_type : ℕ) (ask : List ℕ) (room : ℕ) (s : Timed) (x : List Fact) (t : Timed)
    → Asks session req_type ask room s x t → IsStill (Asks session req_type ask room) s x t
asks-still session req_type ask room s x t p = record {
  stays = asks-stays session req_type ask room s x t p;
  own = all-owned s.lists.me x (asks-own false session req_type ask room s x t (λ e. cc) p).facts;
  whole = subst (λ (y : List Fact). Whole y) (sym p.facts) (ask-whole _ session req_type room ask s.lists
      (state_of (find (is_client session) s.lists.clients)));
}

-- a rate
rate-whole : (b : Bool) (me session rate : ℕ) (state : SessionState)
    → Whole (plain me (cond b (Rated session rate) (Nrate session state)) ∷ [])
rate-whole true me session rate state = refl
rate-whole false me session rate state = refl

pub rates-still : (session rate : ℕ) (s : Timed) (x : List Fact) (t : Timed)
    → SetsRate session rate s x t → IsStill (SetsRate session rate) s x t
rates-still session rate s x t p =
    let state = state_of (find (is_client session) s.lists.clients) in
    record {
      stays = rates-stays session rate s x t p;
      own = all-owned s.lists.me x (rates-own false session rate s x t (λ e. cc) p).facts;
      whole = subst (λ (y : List Fact). Whole y) (sym p.facts)
          (rate-whole (is_live state) s.lists.me session rate state);
    }

-- a session is opened, or that is refused
refusal-whole : (a b : Bool) (n credits room : ℕ) (e : Event)
    → cond a (Some NconnectNumbers) (cond b (Some (NconnectRing n credits room)) None) ≡ Some e
    → is_wanting e ≡ false
refusal-whole true b n credits room e h = let same : NconnectNumbers ≡ e = cc in ap is_wanting (sym same)
refusal-whole false true n credits room e h =
    let same : NconnectRing n credits room ≡ e = cc in ap is_wanting (sym same)
refusal-whole false false n credits room e h = cc

rated-whole : (b : Bool) (me session rate : ℕ) → Whole (cond b [] (plain me (Rated session rate) ∷ []))
rated-whole true me session rate = refl
rated-whole false me session rate = refl

connect-whole : (refusal : Option Event) (peer credits rate : ℕ) (l : Lists)
    → client_refusal credits l ≡ refusal → Whole (connect_by refusal peer credits rate l)
connect-whole (Some e) peer credits rate l is =
    rw (refusal-whole (clients_spent l) (has_no_room credits l) (shares l) credits l.room e is) refl
connect-whole None peer credits rate l is = rated-whole (rate == 0) l.me (length l.clients) rate

pub connects-still : (peer credits rate : ℕ) (s : Timed) (x : List Fact) (t : Timed)
    → Connects peer credits rate s x t → IsStill (Connects peer credits rate) s x t
connects-still peer credits rate s x t p = record {
  stays = connects-stays peer credits rate s x t p;
  own = all-owned s.lists.me x (connects-own false (λ e. cc) peer credits rate s x t (λ e. cc) p).facts;
  whole = subst (λ (y : List Fact). Whole y) (sym p.facts)
      (connect-whole (client_refusal credits s.lists) peer credits rate s.lists refl);
}

-- a session begins to close, or that is refused
disconnect-whole : (a b : Bool) (me session calls : ℕ) (state : SessionState)
    → Whole (plain me (cond a (NcloseState session state) (cond b (NcloseBusy session calls)
    (Closing session))) ∷ [])
disconnect-whole true b me session calls state = refl
disconnect-whole false true me session calls state = refl
disconnect-whole false false me session calls state = refl

pub disconnects-still : (session : ℕ) (s : Timed) (x : List Fact) (t : Timed)
    → Disconnects session s x t → IsStill (Disconnects session) s x t
disconnects-still session s x t p =
    let client = find (is_client session) s.lists.clients in
    record {
      stays = disconnects-stays session s x t p;
      own = all-owned s.lists.me x (disconnects-own false (λ e. cc) session s x t (λ e. cc) p).facts;
      whole = subst (λ (y : List Fact). Whole y) (sym p.facts) (disconnect-whole
          (not (is_connected (state_of client))) (not (pending client == 0)) s.lists.me session
          (pending client) (state_of client));
    }

-- a delivery
delivery-whole : (me peer : ℕ) (bytes : List ℕ) (a b c d : Bool)
    → Whole (record (plain me (cond a (cond b (Arrived peer) (Overflowed peer))
    (cond c (cond d (Arrived peer) (Overflowed peer)) (Bad peer)))) { first = bytes } ∷ [])
delivery-whole me peer bytes true true c d = refl
delivery-whole me peer bytes true false c d = refl
delivery-whole me peer bytes false b true true = refl
delivery-whole me peer bytes false b true false = refl
delivery-whole me peer bytes false b false d = refl

pub delivers-still : (peer : ℕ) (bytes : List ℕ) (s : Timed) (x : List Fact) (t : Timed)
    → Delivers peer bytes s x t → IsStill (Delivers peer bytes) s x t
delivers-still peer bytes s x t p = record {
  stays = delivers-stays peer bytes s x t p;
  own = all-owned s.lists.me x (delivers-own false peer bytes (λ e. cc) s x t (λ e. cc) p).facts;
  whole = subst (λ (y : List Fact). Whole y) (sym p.facts) (delivery-whole s.lists.me peer bytes
      (is_message bytes) (nat_lt (length s.lists.ring) s.lists.room) (is_control bytes)
      (nat_lt (length s.lists.inbox) inbox_room));
}

-- a session that wasn't refused for want of memory
pub opened-makes : (o : Result ℕ ConnectError) (claim : Type 0) (b : Bool) → b ≡ false
    → IfErr o (λ why. b ≡ false → why ≢ NoConnectMemory) → UnlessNoMemory o claim → claim
opened-makes (Ok session) claim b t wants u = u
opened-makes (Err why) claim b t wants u = u (wants t)

-- a call that wasn't refused for want of memory
pub asked-makes : (o : Result ℕ Refused) (claim : Type 0) (b : Bool) → b ≡ false
    → IfErr o (λ r. b ≡ false → r.why ≢ NoMemory) → UnlessWanting o claim → claim
asked-makes (Ok call) claim b t wants u = u
asked-makes (Err r) claim b t wants u = u (wants t)

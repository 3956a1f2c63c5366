-- A node that was asked no call since its last poll has nothing to begin and nothing to post.
use Rattle.std.proofs.Common.{◌≡◌, ◌==◌, inl, inr, ℕ, nat_lt, not, Bool, true, false, cond, List}
use Rattle.std.proofs.Common.{[], ◌∷◌, ◌++◌, ◌+◌}
use Rattle.std.proofs.Common.{length, Option, Some, None, refl, sym, ap, ◌∙◌}
use Rattle.std.specs.List.{find, AllByRecursion}
use Rattle.rpc_base.proofs.BasicLemmas.{false-true}
use Rattle.rpc_base.proofs.FirstLemmas.{all-kept, all-push}
use Rattle.rpc_base.specs.declared.event.Event.{Event}
use Rattle.rpc_base.specs.declared.event.Event.TheVariants.{PairedClient, PairedServer, Opened}
use Rattle.rpc_base.specs.declared.event.Event.TheVariants.{Closing, Rated, Nrate}
use Rattle.rpc_base.specs.declared.event.Event.TheVariants.{NconnectNumbers, NconnectRing}
use Rattle.rpc_base.specs.declared.event.Event.TheVariants.{NcloseState, NcloseBusy}
use Rattle.rpc_base.specs.declared.event.Event.TheVariants.{NcallState, NcallTooLarge, Arrived}
use Rattle.rpc_base.specs.declared.event.Event.TheVariants.{Overflowed, Bad, Restarted, Worked, Missed}
use Rattle.rpc_base.specs.declared.fact.Fact.{Fact}
use Rattle.rpc_base.specs.declared.limits.Limits.{Limits}
use Rattle.rpc_base.specs.declared.state.SessionState.{SessionState}
use Rattle.rpc_base.specs.declared.state.SessionState.TheVariants.{Connected, Closing as IsClosing}
use Rattle.rpc_laws.specs.declared.tables.Lists.{Lists}
use Rattle.rpc_laws.specs.declared.tables.Timed.{Timed}
use Rattle.rpc_laws.specs.Deliveries.{inbox_room}
use Rattle.rpc_laws.specs.Facts.{plain}
use Rattle.rpc_laws.specs.Front.{front_header, front_body, is_message, is_control}
use Rattle.rpc_laws.specs.Groups.{ask_by_state, state_of, pending, clients_spent, servers_spent}
use Rattle.rpc_laws.specs.Groups.{has_no_room, shares, client_refusal, connect_by}
use Rattle.rpc_laws.specs.NodeLists.{after, after_all, new_node}
use Rattle.rpc_laws.specs.PollOrder.{Handles, NoMoreToHandle, Poll, raised}
use Rattle.rpc_laws.specs.Sessions.{is_client, is_connected, is_live, clients_after, client_end}
use Rattle.rpc_laws.specs.Sessions.{opened_end, comes_to}
use Rattle.rpc_laws.specs.Steps.{Chain, none, more}
use Rattle.rpc_outside.specs.declared.service.Mode.{Mode}
use Rattle.node_laws.specs.NodeRun.{Group, pairs_client, pairs_server, refuses, connects}
use Rattle.node_laws.specs.NodeRun.{disconnects, sets_rate, asks, delivers, polls, works, misses}
use Rattle.node_laws.specs.NodeRun.{lives_on, NodeRun}
use Rattle.rpc_laws.specs.Service.{Serving}
use Rattle.node_laws.specs.Valid.{Valid}
use Rattle.node_laws.proofs.ControlLemmas.{hears-all-lawful}
use Rattle.node_laws.proofs.LeadsLemmas.{valid-at, valid_after_all, lawful-until}
use Rattle.node_laws.proofs.RunLaws.{group-lawful, handles-lawful, finishes-some}
use Rattle.node_laws.proofs.TimerLemmas.{timers-lawful}
use Rattle.node_laws.proofs.ValidLemmas.{valid_new}
use Rattle.stall_laws.specs.Settled.{awaits_after, awaits_poll}
use Rattle.stall_laws.proofs.Keeping.{poll-keeps}
use Rattle.stall_laws.proofs.Ongoing.{OngoingNode, AllMild, is_mild, ongoing-all}
use Rattle.stall_laws.proofs.Resting.{Rests, RestsNode, ends-resting}

-- facts by which nothing comes to be begun or posted
abbrev is_still : Event → Bool
is_still (PairedClient s p t c life) = true
is_still (PairedServer t p s c life) = true
is_still (Opened s p c) = true
is_still (Closing s) = true
is_still (Rated s r) = true
is_still (Nrate s state) = true
is_still NconnectNumbers = true
is_still (NconnectRing n c r) = true
is_still (NcloseState s state) = true
is_still (NcloseBusy s n) = true
is_still (NcallState s state) = true
is_still (NcallTooLarge s n) = true
is_still (Arrived p) = true
is_still (Overflowed p) = true
is_still (Bad p) = true
is_still (Worked t r) = true
is_still (Missed i) = true
is_still _ = false

abbrev AllStill : List Fact → Type 0
AllStill x = AllByRecursion (λ f. is_still f.event ≡ true) x

record StillEvent (e : Event) : Type 0 where
  mild : is_mild e ≡ true
  awaits : (b : Bool) → awaits_after e b ≡ b
  rests : (clock : ℕ) (l : Lists) (first : List ℕ) → RestsNode l
      → AllByRecursion Rests (clients_after clock e first (front_header l.ring) (front_body l.ring) l.clients)

still-event : (e : Event) → is_still e ≡ true → StillEvent e
still-event (PairedClient s p t c life) h = record {
  mild = refl;
  awaits = λ b. refl;
  rests = λ clock l first k. all-push Rests l.clients (client_end s p t c life) k (λ live. (inl tt, inr tt));
}
still-event (PairedServer t p s c life) h = record { mild = refl; awaits = λ b. refl; rests = λ clock l first k. k }
still-event (Opened s p c) h = record {
  mild = refl;
  awaits = λ b. refl;
  rests = λ clock l first k. all-push Rests l.clients (opened_end s p c) k (λ live. (inl tt, inr tt));
}
still-event (Closing s) h = record {
  mild = refl;
  awaits = λ b. refl;
  rests = λ clock l first k. all-kept (is_client s) (comes_to IsClosing) Rests l.clients
      (λ x r t live. false-true live) k;
}
still-event (Rated s r) h = record { mild = refl; awaits = λ b. refl; rests = λ clock l first k. k }
still-event (Nrate s state) h = record { mild = refl; awaits = λ b. refl; rests = λ clock l first k. k }
still-event NconnectNumbers h = record { mild = refl; awaits = λ b. refl; rests = λ clock l first k. k }
still-event (NconnectRing n c r) h = record { mild = refl; awaits = λ b. refl; rests = λ clock l first k. k }
still-event (NcloseState s state) h = record { mild = refl; awaits = λ b. refl; rests = λ clock l first k. k }
still-event (NcloseBusy s n) h = record { mild = refl; awaits = λ b. refl; rests = λ clock l first k. k }
still-event (NcallState s state) h = record { mild = refl; awaits = λ b. refl; rests = λ clock l first k. k }
still-event (NcallTooLarge s n) h = record { mild = refl; awaits = λ b. refl; rests = λ clock l first k. k }
still-event (Arrived p) h = record { mild = refl; awaits = λ b. refl; rests = λ clock l first k. k }
still-event (Overflowed p) h = record { mild = refl; awaits = λ b. refl; rests = λ clock l first k. k }
still-event (Bad p) h = record { mild = refl; awaits = λ b. refl; rests = λ clock l first k. k }
still-event (Worked t r) h = record { mild = refl; awaits = λ b. refl; rests = λ clock l first k. k }
still-event (Missed i) h = record { mild = refl; awaits = λ b. refl; rests = λ clock l first k. k }
still-event _ h = false-true h

still-mild : (x : List Fact) → AllStill x → AllMild x
still-mild [] h = tt
still-mild (f ∷ x) h = ((still-event f.event h.0).mild, still-mild x h.1)

still-awaits : (b : Bool) (x : List Fact) → AllStill x → awaits_poll b x ≡ b
still-awaits b [] h = refl
still-awaits b (f ∷ x) h = ap (λ (c : Bool). awaits_poll c x) ((still-event f.event h.0).awaits b) ∙ still-awaits b
    x h.1

still-rests : (clock : ℕ) (l : Lists) (x : List Fact) → AllStill x → RestsNode l → RestsNode (after_all clock l x)
still-rests clock l [] h k = k
still-rests clock l (f ∷ x) h k =
    still-rests clock (after clock l f) x h.1 ((still-event f.event h.0).rests clock l f.first k)

awaits-append : (b : Bool) (x y : List Fact) → awaits_poll b (x ++ y) ≡ awaits_poll (awaits_poll b x) y
awaits-append b [] y = refl
awaits-append b (f ∷ x) y = awaits-append (awaits_after f.event b) x y

-- what a group leaves: a call is asked, or what rested rests
abbrev RestsIf : Bool → List Fact → Lists → Lists → Type 0
RestsIf b y l m = awaits_poll b y ≡ false → (b ≡ false → RestsNode l) → RestsNode m

record Leaves (b : Bool) (s : Timed) (y : List Fact) (t : Timed) : Type 0 where
  ongoing : OngoingNode t.lists
  rests : RestsIf b y s.lists t.lists

still-leaves : (b : Bool) (mode : ℕ → Mode) (s : Timed) (y : List Fact) (t : Timed) → Valid s.lists
    → OngoingNode s.lists → Group mode s y t → AllStill y → Leaves b s y t
still-leaves b mode s y t v on g h =
    let l = group-lawful mode s y t v g in
    record {
      ongoing = rw (l.leads.lists) (ongoing-all l.clock s.lists y l.leads.all (still-mild y h) on);
      rests = λ e k. rw (l.leads.lists) (still-rests l.clock s.lists y h (k (sym (still-awaits b y h) ∙ e)));
    }

refusal-still : (a c : Bool) (n credits room : ℕ) (e : Event)
    → cond a (Some NconnectNumbers) (cond c (Some (NconnectRing n credits room)) None) ≡ Some e
    → is_still e ≡ true
refusal-still true c n credits room e h = let same : NconnectNumbers ≡ e = cc in ap is_still (sym same)
refusal-still false true n credits room e h =
    let same : NconnectRing n credits room ≡ e = cc in ap is_still (sym same)
refusal-still false false n credits room e h = cc

connect-still : (o : Option Event) (peer credits rate : ℕ) (l : Lists) → client_refusal credits l ≡ o
    → AllStill (connect_by o peer credits rate l)
connect-still None peer credits rate l is = by (rate == 0)
  where
    by : (b : Bool) → AllStill (plain l.me (Opened (length l.clients) peer credits)
        ∷ cond b [] (plain l.me (Rated (length l.clients) rate) ∷ []))
    by true = (refl, tt)
    by false = (refl, (refl, tt))
connect-still (Some e) peer credits rate l is =
    (refusal-still (clients_spent l) (has_no_room credits l) (shares l) credits l.room e is, tt)

disconnect-still : (a c : Bool) (session calls : ℕ) (state : SessionState)
    → is_still (cond (not a) (NcloseState session state) (cond (not c) (NcloseBusy session calls)
    (Closing session))) ≡ true
disconnect-still false c session calls state = refl
disconnect-still true false session calls state = refl
disconnect-still true true session calls state = refl

rate-still : (c : Bool) (session rate : ℕ) (state : SessionState)
    → is_still (cond c (Rated session rate) (Nrate session state)) ≡ true
rate-still true session rate state = refl
rate-still false session rate state = refl

delivery-still : (a c d e : Bool) (peer : ℕ)
    → is_still (cond a (cond c (Arrived peer) (Overflowed peer)) (cond d (cond e (Arrived peer) (Overflowed peer))
    (Bad peer))) ≡ true
delivery-still true true d e peer = refl
delivery-still true false d e peer = refl
delivery-still false c true true peer = refl
delivery-still false c true false peer = refl
delivery-still false c false e peer = refl

-- a call is asked, or refused
record AskedOr (b : Bool) (f : Fact) : Type 0 where
  mild : is_mild f.event ≡ true
  rests : (clock : ℕ) (l : Lists) → awaits_after f.event b ≡ false → (b ≡ false → RestsNode l)
      → RestsNode (after clock l f)

asked-state : (b : Bool) (state : SessionState) (session y room : ℕ) (ask : List ℕ) (l : Lists)
    → AskedOr b (ask_by_state state session y room ask l)
asked-state b Connected session y room ask l = record { mild = refl; rests = λ clock m e k. false-true (sym e) }
asked-state b _ session y room ask l = record { mild = refl; rests = λ clock m e k. k e }

asked-by : (b c : Bool) (session y room : ℕ) (ask : List ℕ) (l : Lists) (state : SessionState)
    → AskedOr b (cond c (plain l.me (NcallTooLarge session (length ask))) (ask_by_state state session y room ask l))
asked-by b true session y room ask l state = record { mild = refl; rests = λ clock m e k. k e }
asked-by b false session y room ask l state = asked-state b state session y room ask l

asked-leaves : (b : Bool) (mode : ℕ → Mode) (s : Timed) (y : List Fact) (t : Timed) (f : Fact) → Valid s.lists
    → OngoingNode s.lists → Group mode s y t → y ≡ f ∷ [] → AskedOr b f → Leaves b s y t
asked-leaves b mode s y t f v on g is h =
    let l = group-lawful mode s y t v g in
    let lists : t.lists ≡ after l.clock s.lists f = l.leads.lists ∙ ap (after_all l.clock s.lists) is in
    record {
      ongoing = rw (l.leads.lists) (ongoing-all l.clock s.lists y l.leads.all
          (rw is (h.mild, tt)) on);
      rests = λ e k. rw lists (h.rests l.clock s.lists (sym (ap (awaits_poll b) is) ∙ e) k);
    }

poll-leaves : (b : Bool) (mode : ℕ → Mode) (now : ℕ) (s : Timed) (y : List Fact) (t : Timed) → Valid s.lists
    → OngoingNode s.lists → Poll mode now s y t → Leaves b s y t
poll-leaves b mode now s y t v on h =
    let s1 = raised now s in
    let one = h.second in
    let two = one.second in
    let three = two.second in
    let v1 = valid-at s1 h.front h.between v (finishes-some s1 h.front h.between v h.first) in
    let v2 = valid-at h.between one.front one.between v1 (hears-all-lawful h.between one.front one.between v1
    one.first) in
    let v3 = valid-at one.between two.front two.between v2
    (lawful-until (Handles mode) NoMoreToHandle (handles-lawful mode) one.between two.front two.between v2 two.first) in
    let v4 = valid-at two.between three.front three.between v3 (timers-lawful two.between three.front three.between
    v3 three.first) in
    record {
      ongoing = poll-keeps mode now s y t v on h;
      rests = λ e k. ends-resting three.between three.back t v4 three.second;
    }

group-leaves : (b : Bool) (mode : ℕ → Mode) (s : Timed) (y : List Fact) (t : Timed) → Valid s.lists
    → OngoingNode s.lists → Group mode s y t → Leaves b s y t
group-leaves b mode s y t v on (pairs_client peer server credits life may h) =
    still-leaves b mode s y t v on (pairs_client peer server credits life may h) (rw h.facts (refl, tt))
group-leaves b mode s y t v on (pairs_server peer client credits life may h) =
    still-leaves b mode s y t v on (pairs_server peer client credits life may h) (rw h.facts (refl, tt))
group-leaves b mode s y t v on (refuses credits few e (inl r) h) =
    still-leaves b mode s y t v on (refuses credits few e (inl r) h) (rw h.facts (
      refusal-still (clients_spent s.lists) (has_no_room credits s.lists) (shares s.lists) credits s.lists.room e r,
      tt,
    ))
group-leaves b mode s y t v on (refuses credits few e (inr r) h) =
    still-leaves b mode s y t v on (refuses credits few e (inr r) h) (rw h.facts (
      refusal-still (servers_spent s.lists) (has_no_room credits s.lists) (shares s.lists) credits s.lists.room e r,
      tt,
    ))
group-leaves b mode s y t v on (connects peer credits rate few h) =
    still-leaves b mode s y t v on (connects peer credits rate few h)
    (rw h.facts (connect-still _ peer credits rate s.lists refl))
group-leaves b mode s y t v on (disconnects session h) =
    let client = find (is_client session) s.lists.clients in
    still-leaves b mode s y t v on (disconnects session h)
    (rw h.facts (
      disconnect-still (is_connected (state_of client)) (pending client == 0) session (pending client)
          (state_of client),
      tt,
    ))
group-leaves b mode s y t v on (sets_rate session rate h) =
    let state = state_of (find (is_client session) s.lists.clients) in
    still-leaves b mode s y t v on (sets_rate session rate h)
    (rw h.facts (rate-still (is_live state) session rate state, tt))
group-leaves b mode s y t v on (asks session req_type ask room h) =
    asked-leaves b mode s y t _ v on (asks session req_type ask room h) h.facts
    (asked-by b (nat_lt 1048576 (length ask)) session req_type room ask s.lists
    (state_of (find (is_client session) s.lists.clients)))
group-leaves b mode s y t v on (delivers peer bytes h) =
    let l = s.lists in
    still-leaves b mode s y t v on (delivers peer bytes h)
    (rw h.facts (
      delivery-still (is_message bytes) (nat_lt (length l.ring) l.room) (is_control bytes)
          (nat_lt (length l.inbox) inbox_room) peer,
      tt,
    ))
group-leaves b mode s y t v on (polls now h) = poll-leaves b mode now s y t v on h
group-leaves b mode s y t v on (works session request out h) =
    still-leaves b mode s y t v on (works session request out h) (rw h.facts (refl, tt))
group-leaves b mode s y t v on (misses i h) =
    still-leaves b mode s y t v on (misses i h) (rw h.facts (refl, tt))

-- at the end of each group
pub record AtRest (g : List Fact) (t : Timed) : Type 0 where
  pub valid : Valid t.lists
  pub ongoing : OngoingNode t.lists
  pub rests : awaits_poll false g ≡ false → RestsNode t.lists

run-rests : (mode : ℕ → Mode) (me life : ℕ) (limits : Limits) (g : List Fact) (t : Timed)
    → Chain (Group mode) (new_node me life limits) g t → AtRest g t
run-rests mode me life limits g t none = record {
  valid = valid_new me life limits;
  ongoing = tt;
  rests = λ e. tt;
}
run-rests mode me life limits g t (more {x = front} {t = between} c y u h) =
    let before = run-rests mode me life limits front between c in
    let leaves = group-leaves (awaits_poll false front)
    mode between y u before.valid before.ongoing h in
    let l = group-lawful mode between y u before.valid h in
    record {
      valid = rw (l.leads.lists) (valid_after_all l.clock between.lists y before.valid l.leads.all);
      ongoing = leaves.ongoing;
      rests = λ e. leaves.rests (sym (awaits-append false front y) ∙ e) before.rests;
    }

-- so it is in the last of its lives: nothing awaits a poll where it begins
pub lives-rests : (v : Serving) (me : ℕ) (limits : Limits) (life : ℕ) (g : List Fact) (t : Timed)
    → NodeRun v me limits life g t → AtRest g t
lives-rests v me limits _ _ _ (lives_on life g t r) = run-rests v.mode me life limits g t r.steps
lives-rests v me limits _ _ _ (NodeRun.restarts life part rest s t r next) =
    let last = lives-rests v me limits (life + 1) rest t next in
    let over = plain me (Restarted (life + 1)) in
    record {
      valid = last.valid;
      ongoing = last.ongoing;
      rests = λ e. last.rests (sym (awaits-append false part (over ∷ rest)) ∙ e);
    }

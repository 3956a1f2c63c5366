-- A run leaves its node as its facts tell: so two runs of one node with the same facts leave it in one state.
use Rattle.std.proofs.Common.{◌≡◌, ◌+◌, inl, inr, ℕ, Bool, true, false, cond, ◌&&◌, ◌||◌, not, List, [], ◌∷◌, ◌++◌}
use Rattle.std.proofs.Common.{Option, Some, None, refl, sym, ap, ◌∙◌, subst, true≢false}
use Rattle.rpc_base.specs.declared.event.Event.{Event}
use Rattle.rpc_base.specs.declared.event.Event.TheVariants.{Given, Polled, Ran, Restarted}
use Rattle.rpc_base.specs.declared.fact.Fact.{Fact}
use Rattle.rpc_base.specs.declared.limits.Limits.{Limits}
use Rattle.std.proofs.Common.{length}
use Rattle.std.specs.Prelude.{◌==◌, nat_lt}
use Rattle.std.specs.List.{find}
use Rattle.rpc_base.specs.declared.event.Event.TheVariants.{Arrived, Bad, Closing, NcallTooLarge}
use Rattle.rpc_base.specs.declared.event.Event.TheVariants.{NcloseBusy, NcloseState, NconnectNumbers}
use Rattle.rpc_base.specs.declared.event.Event.TheVariants.{NconnectRing, Nrate, Opened, Overflowed, Rated}
use Rattle.rpc_base.specs.declared.limits.TheConstants.{MOST_MESSAGE_BYTES}
use Rattle.rpc_base.specs.declared.state.SessionState.{SessionState}
use Rattle.rpc_base.specs.declared.state.SessionState.TheVariants.{Unknown, Connecting, Connected}
use Rattle.rpc_base.specs.declared.state.SessionState.TheVariants.{Closing as IsClosing, Closed, Failed, Broken, Spent}
use Rattle.rpc_laws.specs.Deliveries.{arrival, delivery, inbox_room}
use Rattle.rpc_laws.specs.Front.{is_control, is_message}
use Rattle.rpc_laws.specs.Groups.{ask_by_state, ask_fact, client_refusal, clients_spent, connect_by}
use Rattle.rpc_laws.specs.Groups.{disconnect_by, disconnect_fact, has_no_room, pending, rate_by, rate_fact}
use Rattle.rpc_laws.specs.Groups.{servers_spent, shares, state_of}
use Rattle.rpc_laws.specs.PollOrder.{Poll}
use Rattle.rpc_laws.specs.Sessions.{is_client, is_connected, is_live}
use Rattle.node_laws.specs.NodeRun.{asks, connects, delivers, disconnects, misses, Notes, pairs_client}
use Rattle.node_laws.specs.NodeRun.{pairs_server, polls, Refuses, refuses, sets_rate, works}
use Rattle.front_laws.proofs.CutLemmas.{open-append}
use Rattle.rpc_laws.specs.declared.tables.Jobs.{Jobs}
use Rattle.rpc_laws.specs.declared.tables.Lists.{Lists}
use Rattle.rpc_laws.specs.declared.tables.Server.{Server}
use Rattle.rpc_laws.specs.declared.tables.Timed.{Timed}
use Rattle.rpc_laws.specs.Facts.{plain, with_bytes}
use Rattle.rpc_laws.specs.Endpoints.{begins_life}
use Rattle.rpc_laws.specs.Jobs.{jobs_after}
use Rattle.rpc_laws.specs.NodeLists.{after, after_all, limits_of, new_node, restarted}
use Rattle.rpc_laws.specs.Steps.{Chain, Goes, more, none}
use Rattle.rpc_laws.specs.Service.{Serving}
use Rattle.rpc_outside.specs.declared.service.Mode.{Mode}
use Rattle.node_laws.specs.NodeRun.{Group, LifeRun, lives_on, NodeRun, restarts}
use Rattle.node_laws.specs.Valid.{Valid}
use Rattle.node_laws.proofs.RunLaws.{group-lawful, poll-lawful}
use Rattle.node_laws.proofs.ValidLemmas.{valid_new}
use Rattle.front_laws.specs.Laws.{FactsTellTheState}
use Rattle.front_laws.specs.Told.{left_at, left_by, polled_clock, told_clock}
use Rattle.front_laws.specs.Whole.{ends_open, ends_poll, is_polls, open_after}
use Rattle.front_laws.proofs.CutLemmas.{chain-valid}
use Rattle.front_laws.proofs.PollFacts.{AllPolls, poll-ending}

-- an event that no poll makes
pub record IsQuiet (e : Event) : Type 0 where
  pub polls : is_polls e ≡ false
  pub polled : ends_poll e ≡ false

-- what is noted at once: one or two events that no poll makes, or a poll
pub data Kind (mode : ℕ → Mode) (s : Timed) (x : List Fact) (t : Timed) : Type 0 where
  alone : (f : Fact) → IsQuiet f.event → x ≡ f ∷ [] → Goes s x t → Kind mode s x t
  two : (f g : Fact) → IsQuiet f.event → IsQuiet g.event → x ≡ f ∷ g ∷ [] → Goes s x t → Kind mode s x t
  poll : (now : ℕ) → Poll mode now s x t → Kind mode s x t

quiet-if : (b : Bool) (d e : Event) → IsQuiet d → IsQuiet e → IsQuiet (cond b d e)
quiet-if true d e q r = q
quiet-if false d e q r = r

refused-quiet : (spent full : Bool) (a b c : ℕ) (e : Event)
    → cond spent (Some NconnectNumbers) (cond full (Some (NconnectRing a b c)) None) ≡ Some e → IsQuiet e
refused-quiet true full a b c e h =
    let same : NconnectNumbers ≡ e = cc in
    subst (λ (z : Event). IsQuiet z) same (record { polls = refl; polled = refl })
refused-quiet false true a b c e h =
    let same : NconnectRing a b c ≡ e = cc in
    subst (λ (z : Event). IsQuiet z) same (record { polls = refl; polled = refl })
refused-quiet false false a b c e h = cc

notes-kind : (mode : ℕ → Mode) (e : Event) (s : Timed) (x : List Fact) (t : Timed) → IsQuiet e → Notes e s x t
    → Kind mode s x t
notes-kind mode e s x t q h = alone (plain s.lists.me e) q h.facts h.goes

connects-kind : (mode : ℕ → Mode) (o : Option Event) (b : Bool) (peer credits rate : ℕ) (s : Timed)
    (x : List Fact) (t : Timed) → client_refusal credits s.lists ≡ o → (rate == 0) ≡ b
    → x ≡ connect_by o peer credits rate s.lists → Goes s x t → Kind mode s x t
connects-kind mode (Some e) b peer credits rate s x t r z facts g =
    alone (plain s.lists.me e)
    (refused-quiet (clients_spent s.lists) (has_no_room credits s.lists) (shares s.lists) credits s.lists.room e r)
    facts g
connects-kind mode None true peer credits rate s x t r z facts g =
    alone (plain s.lists.me (Opened (length s.lists.clients) peer credits))
    (record { polls = refl; polled = refl }) (rw z at facts) g
connects-kind mode None false peer credits rate s x t r z facts g =
    two (plain s.lists.me (Opened (length s.lists.clients) peer credits))
    (plain s.lists.me (Rated (length s.lists.clients) rate))
    (record { polls = refl; polled = refl }) (record { polls = refl; polled = refl }) (rw z at facts) g

rate-quiet : (state : SessionState) (session rate : ℕ) → IsQuiet (rate_by state session rate)
rate-quiet state session rate =
    quiet-if (is_live state) (Rated session rate) (Nrate session state)
    (record { polls = refl; polled = refl }) (record { polls = refl; polled = refl })

disconnect-quiet : (state : SessionState) (session calls : ℕ) → IsQuiet (disconnect_by state session calls)
disconnect-quiet state session calls =
    quiet-if (not (is_connected state)) (NcloseState session state)
    (cond (not (calls == 0)) (NcloseBusy session calls) (Closing session))
    (record { polls = refl; polled = refl })
    (quiet-if (not (calls == 0)) (NcloseBusy session calls) (Closing session)
    (record { polls = refl; polled = refl }) (record { polls = refl; polled = refl }))

state-quiet : (state : SessionState) (session req_type room : ℕ) (ask : List ℕ) (s : Lists)
    → IsQuiet (ask_by_state state session req_type room ask s).event
state-quiet Connected session req_type room ask s = record { polls = refl; polled = refl }
state-quiet Unknown session req_type room ask s = record { polls = refl; polled = refl }
state-quiet Connecting session req_type room ask s = record { polls = refl; polled = refl }
state-quiet IsClosing session req_type room ask s = record { polls = refl; polled = refl }
state-quiet Closed session req_type room ask s = record { polls = refl; polled = refl }
state-quiet Failed session req_type room ask s = record { polls = refl; polled = refl }
state-quiet Broken session req_type room ask s = record { polls = refl; polled = refl }
state-quiet Spent session req_type room ask s = record { polls = refl; polled = refl }

ask-quiet : (b : Bool) (f g : Fact) → IsQuiet f.event → IsQuiet g.event → IsQuiet (cond b f g).event
ask-quiet true f g q r = q
ask-quiet false f g q r = r

delivery-quiet : (s : Lists) (peer : ℕ) (bytes : List ℕ) → IsQuiet (delivery s peer bytes)
delivery-quiet s peer bytes =
    quiet-if (is_message bytes) _ _ (arrival-quiet (length s.ring) s.room)
    (quiet-if (is_control bytes) _ (Bad peer) (arrival-quiet (length s.inbox) inbox_room)
    (record { polls = refl; polled = refl }))
  where
    arrival-quiet : (n room : ℕ) → IsQuiet (arrival n room peer)
    arrival-quiet n room =
        quiet-if (nat_lt n room) (Arrived peer) (Overflowed peer)
        (record { polls = refl; polled = refl }) (record { polls = refl; polled = refl })

refuses-quiet : (credits : ℕ) (e : Event) (s : Timed) → Refuses credits e s → IsQuiet e
refuses-quiet credits e s (inl r) =
    refused-quiet (clients_spent s.lists) (has_no_room credits s.lists) (shares s.lists) credits s.lists.room e r
refuses-quiet credits e s (inr r) =
    refused-quiet (servers_spent s.lists) (has_no_room credits s.lists) (shares s.lists) credits s.lists.room e r

pub group-kind : (mode : ℕ → Mode) (s : Timed) (x : List Fact) (t : Timed) → Group mode s x t → Kind mode s x t
group-kind mode s x t (pairs_client peer server credits life may h) =
    notes-kind mode _ s x t (record { polls = refl; polled = refl }) h
group-kind mode s x t (pairs_server peer client credits life may h) =
    notes-kind mode _ s x t (record { polls = refl; polled = refl }) h
group-kind mode s x t (refuses credits few e r h) = notes-kind mode e s x t (refuses-quiet credits e s r) h
group-kind mode s x t (connects peer credits rate few h) =
    connects-kind mode (client_refusal credits s.lists) (rate == 0) peer credits rate s x t refl refl h.facts h.goes
group-kind mode s x t (disconnects session h) =
    let c = find (is_client session) s.lists.clients in
    alone (disconnect_fact session s.lists) (disconnect-quiet (state_of c) session (pending c)) h.facts h.goes
group-kind mode s x t (sets_rate session rate h) =
    let c = find (is_client session) s.lists.clients in
    alone (rate_fact session rate s.lists) (rate-quiet (state_of c) session rate) h.facts h.goes
group-kind mode s x t (asks session req_type ask room h) =
    let c = find (is_client session) s.lists.clients in
    alone (ask_fact session req_type room ask s.lists)
    (ask-quiet (nat_lt MOST_MESSAGE_BYTES (length ask)) (plain s.lists.me (NcallTooLarge session (length ask)))
    (ask_by_state (state_of c) session req_type room ask s.lists) (record { polls = refl; polled = refl })
    (state-quiet (state_of c) session req_type room ask s.lists)) h.facts h.goes
group-kind mode s x t (delivers peer bytes h) =
    alone (with_bytes s.lists.me (delivery s.lists peer bytes) bytes) (delivery-quiet s.lists peer bytes)
    h.facts h.goes
group-kind mode s x t (polls now h) = poll now h
group-kind mode s x t (works session request out h) =
    notes-kind mode _ s x t (record { polls = refl; polled = refl }) h
group-kind mode s x t (misses i h) = notes-kind mode _ s x t (record { polls = refl; polled = refl }) h

-- where a poll is open the clock of the first fact is told by what comes, if that doesn't leave it open
clock-by : (clock : ℕ) (f : Fact) (x y : List Fact) (b : Bool)
    → (ends_open true x ≡ false → told_clock clock (x ++ y) ≡ told_clock clock x)
    → ends_open (b || (true && not (ends_poll f.event))) x ≡ false
    → cond b (told_clock clock (x ++ y)) (polled_clock clock f.event)
    ≡ cond b (told_clock clock x) (polled_clock clock f.event)
clock-by clock f x y true ih e = ih e
clock-by clock f x y false ih e = refl

clock-front : (clock : ℕ) (x y : List Fact) → ends_open true x ≡ false
    → told_clock clock (x ++ y) ≡ told_clock clock x
clock-front clock [] y e = absurd (true≢false e)
clock-front clock (f ∷ x) y e = clock-by clock f x y (is_polls f.event) (clock-front clock x y) e

-- so it is of any facts that don't leave a poll open
head-by : (clock : ℕ) (f : Fact) (x y : List Fact) (b busy : Bool)
    → ends_open (b || busy) x ≡ false
    → cond b (told_clock clock (x ++ y)) (polled_clock clock f.event)
    ≡ cond b (told_clock clock x) (polled_clock clock f.event)
head-by clock f x y true busy e = clock-front clock x y e
head-by clock f x y false busy e = refl

abbrev next : Timed → Fact → ℕ → Timed
next s f now = record { lists = after now s.lists f; clock = now }

-- at such a fact the life goes on
left-on : (s : Timed) (f : Fact) (now : ℕ) → begins_life f.event ≡ false → left_at now s f ≡ next s f now
left-on s f now h = rw h refl

polls-on : (e : Event) → is_polls e ≡ true → begins_life e ≡ false
polls-on (Restarted life) h = absurd (true≢false (sym h))
polls-on _ h = refl

pub quiet-on : (e : Event) → ends_poll e ≡ false → begins_life e ≡ false
quiet-on (Restarted life) h = absurd (true≢false h)
quiet-on _ h = refl

pub left-append : (s : Timed) (busy : Bool) (x y : List Fact) → ends_open busy x ≡ false
    → left_by s (x ++ y) ≡ left_by (left_by s x) y
left-append s busy [] y e = refl
left-append s busy (f ∷ x) y e =
    ap (λ (now : ℕ). left_by (left_at now s f) (x ++ y))
    (head-by s.clock f x y (is_polls f.event) (busy && not (ends_poll f.event)) e)
    ∙ left-append (left_at (told_clock s.clock (f ∷ x)) s f) (open_after f.event busy) x y e

-- an event that no poll makes happens at the clock of its node
quiet-clock : (clock : ℕ) (e : Event) → ends_poll e ≡ false → polled_clock clock e ≡ clock
quiet-clock clock (Polled now) h = absurd (true≢false h)
quiet-clock clock _ h = refl

told-quiet : (clock : ℕ) (f : Fact) (x : List Fact) → IsQuiet f.event → told_clock clock (f ∷ x) ≡ clock
told-quiet clock f x q = rw q.polls (quiet-clock clock f.event q.polled)

-- a poll leaves its node as its facts tell
ends-clock : (n clock now : ℕ) (x : List Fact) → AllPolls n x
    → told_clock clock (x ++ plain n (Polled now) ∷ []) ≡ now
ends-clock n clock now [] a = refl
ends-clock n clock now (f ∷ x) a = rw (a.0.1) (ends-clock n clock now x a.1)

poll-left : (n now : ℕ) (s : Timed) (x : List Fact) → AllPolls n x
    → left_by s (x ++ plain n (Polled now) ∷ [])
    ≡ record { lists = after_all now s.lists (x ++ plain n (Polled now) ∷ []); clock = now }
poll-left n now s [] a = refl
poll-left n now s (f ∷ x) a =
    ap (λ (c : ℕ). left_by (left_at c s f) (x ++ plain n (Polled now) ∷ [])) (ends-clock n s.clock now (f ∷ x) a)
    ∙ ap (λ (w : Timed). left_by w (x ++ plain n (Polled now) ∷ [])) (left-on s f now (polls-on f.event a.0.1))
    ∙ poll-left n now (next s f now) x a.1

pub poll-told : (mode : ℕ → Mode) (now : ℕ) (s : Timed) (x : List Fact) (t : Timed) → Valid s.lists
    → Poll mode now s x t → left_by s x ≡ t
poll-told mode now s x t v h =
    let e = poll-ending mode now s.lists.me s x t refl h in
    let l = poll-lawful mode now s x t v h in
    let lists : t.lists ≡ after_all t.clock s.lists x =
    l.lists ∙ ap (λ (c : ℕ). after_all c s.lists x) (sym l.clock) in
    let told = poll-left s.lists.me t.clock s e.front e.all in
    let back : record { lists = after_all t.clock s.lists x; clock = t.clock } ≡ t =
    ap (λ (z : Lists). record { lists = z; clock = t.clock }) (sym lists) in
    subst (λ (z : List Fact). left_by s z ≡ record { lists = after_all t.clock s.lists z; clock = t.clock })
    (sym e.joined) told ∙ back

pub kind-told : (mode : ℕ → Mode) (s : Timed) (x : List Fact) (t : Timed) → Valid s.lists → Kind mode s x t
    → left_by s x ≡ t
kind-told mode s x t v (alone f q e g) =
    let one : left_by s (f ∷ []) ≡ record { lists = after s.clock s.lists f; clock = s.clock } =
    ap (λ (c : ℕ). left_at c s f) (told-quiet s.clock f [] q)
    ∙ left-on s f s.clock (quiet-on f.event q.polled) in
    ap (left_by s) e ∙ (one ∙ (sym (ap (λ (z : List Fact). record {
      lists = after_all s.clock s.lists z;
      clock = s.clock;
    }) e) ∙ sym g))
kind-told mode s x t v (two f h q r e g) =
    let one : left_by s (f ∷ h ∷ []) ≡ left_by (next s f s.clock) (h ∷ []) =
    ap (λ (c : ℕ). left_by (left_at c s f) (h ∷ [])) (told-quiet s.clock f (h ∷ []) q)
    ∙ ap (λ (w : Timed). left_by w (h ∷ [])) (left-on s f s.clock (quiet-on f.event q.polled)) in
    let last : left_by (next s f s.clock) (h ∷ []) ≡ next (next s f s.clock) h s.clock =
    ap (λ (c : ℕ). left_at c (next s f s.clock) h) (told-quiet s.clock h [] r)
    ∙ left-on (next s f s.clock) h s.clock (quiet-on h.event r.polled) in
    ap (left_by s) e ∙ (one ∙ (last ∙ (sym (ap (λ (z : List Fact). record {
      lists = after_all s.clock s.lists z;
      clock = s.clock;
    }) e) ∙ sym g)))
kind-told mode s x t v (poll now h) = poll-told mode now s x t v h

-- a group begins outside of a poll and ends so
pub kind-shut : (mode : ℕ → Mode) (s : Timed) (x : List Fact) (t : Timed) → Kind mode s x t
    → ends_open false x ≡ false
kind-shut mode s x t (alone f q e g) = rw (e, q.polls) refl
kind-shut mode s x t (two f h q r e g) = rw (e, q.polls, r.polls) refl
kind-shut mode s x t (poll now h) =
    let e = poll-ending mode now s.lists.me s x t refl h in
    ap (ends_open false) e.joined
    ∙ open-append false e.front (plain s.lists.me (Polled t.clock) ∷ [])
    ∙ shut (ends_open false e.front)
  where
    shut : (b : Bool) → ends_open b (plain s.lists.me (Polled t.clock) ∷ []) ≡ false
    shut true = refl
    shut false = refl

pub kind-some : (mode : ℕ → Mode) (s : Timed) (x : List Fact) (t : Timed) → Kind mode s x t → x ≡ [] → ⊥
kind-some mode s x t (alone f q e g) h = let no : f ∷ [] ≡ [] = sym e ∙ h in cc
kind-some mode s x t (two f w q r e g) h = let no : f ∷ w ∷ [] ≡ [] = sym e ∙ h in cc
kind-some mode s x t (poll now p) h =
    let e = poll-ending mode now s.lists.me s x t refl p in
    longer e.front (sym e.joined ∙ h)
  where
    longer : (y : List Fact) → y ++ plain s.lists.me (Polled t.clock) ∷ [] ≡ [] → ⊥
    longer [] e = cc
    longer (f ∷ y) e = cc

-- groups one after another
pub chain-shut : (mode : ℕ → Mode) (s : Timed) {x : List Fact} {t : Timed} → Chain (Group mode) s x t
    → ends_open false x ≡ false
chain-shut mode s none = refl
chain-shut mode s (more {x} {t} c y u p) =
    open-append false x y ∙ (ap (λ (b : Bool). ends_open b y) (chain-shut mode s c)
    ∙ kind-shut mode t y u (group-kind mode t y u p))

pub chain-told : (mode : ℕ → Mode) (s : Timed) {x : List Fact} {t : Timed} → Valid s.lists
    → Chain (Group mode) s x t → left_by s x ≡ t
chain-told mode s v none = refl
chain-told mode s v (more {x} {t} c y u p) =
    left-append s false x y (chain-shut mode s c)
    ∙ (ap (λ (w : Timed). left_by w y) (chain-told mode s v c)
    ∙ kind-told mode t y u (chain-valid mode s v c) (group-kind mode t y u p))

-- a life leaves its node as its facts tell
pub life-told : (v : Serving) (me life : ℕ) (limits : Limits) (g : List Fact) (t : Timed)
    → LifeRun v me life limits g t → left_by (new_node me life limits) g ≡ t
life-told v me life limits g t r =
    chain-told v.mode (new_node me life limits) (valid_new me life limits) r.steps

-- and with the number, the life and the limits that it was made with
limit-stays : (e : Event) (servers : List Server) (jobs : Jobs) → (jobs_after e servers jobs).limit ≡ jobs.limit
limit-stays (Given t r) servers jobs = refl
limit-stays (Ran t r y) servers jobs = refl
limit-stays _ servers jobs = refl

record Stays (l k : Lists) : Type 0 where
  me : l.me ≡ k.me
  life : l.life ≡ k.life
  limits : limits_of l ≡ limits_of k

all-stays : (clock : ℕ) (l : Lists) (x : List Fact) → Stays (after_all clock l x) l
all-stays clock l [] = record { me = refl; life = refl; limits = refl }
all-stays clock l (f ∷ x) =
    let rest = all-stays clock (after clock l f) x in
    record {
      me = rest.me;
      life = rest.life;
      limits = rest.limits ∙ ap (λ (k : ℕ). record { ring = l.room; jobs = k; timeout = l.timeout })
          (limit-stays f.event l.servers l.jobs);
    }

group-stays : (mode : ℕ → Mode) (s : Timed) (x : List Fact) (t : Timed) → Valid s.lists → Group mode s x t
    → Stays t.lists s.lists
group-stays mode s x t v p =
    let l = group-lawful mode s x t v p in
    rw (l.leads.lists) (all-stays l.clock s.lists x)

chain-stays : (mode : ℕ → Mode) (s : Timed) {x : List Fact} {t : Timed} → Valid s.lists
    → Chain (Group mode) s x t → Stays t.lists s.lists
chain-stays mode s v none = record { me = refl; life = refl; limits = refl }
chain-stays mode s v (more {x} {t} c y u p) =
    let before = chain-stays mode s v c in
    let last = group-stays mode t y u (chain-valid mode s v c) p in
    record { me = last.me ∙ before.me; life = last.life ∙ before.life; limits = last.limits ∙ before.limits }

-- so a node that is restarted is a new one, in the next life
pub life-next : (v : Serving) (me life : ℕ) (limits : Limits) (g : List Fact) (t : Timed)
    → LifeRun v me life limits g t → restarted t ≡ new_node me (life + 1) limits
life-next v me life limits g t r =
    let k = chain-stays v.mode (new_node me life limits) (valid_new me life limits) r.steps in
    ap (λ (m : ℕ). new_node m (t.lists.life + 1) (limits_of t.lists)) k.me
    ∙ (ap (λ (w : ℕ). new_node me (w + 1) (limits_of t.lists)) k.life
    ∙ ap (λ (w : Limits). new_node me (life + 1) w) k.limits)

-- what comes after a life and a restart
pub told-next : (v : Serving) (me life : ℕ) (limits : Limits) (part rest : List Fact) (s : Timed)
    → LifeRun v me life limits part s
    → left_by (new_node me life limits) (part ++ plain me (Restarted (life + 1)) ∷ rest)
    ≡ left_by (new_node me (life + 1) limits) rest
told-next v me life limits part rest s r =
    left-append (new_node me life limits) false part (plain me (Restarted (life + 1)) ∷ rest)
    (chain-shut v.mode (new_node me life limits) r.steps)
    ∙ (ap (λ (w : Timed). left_by w (plain me (Restarted (life + 1)) ∷ rest))
    (life-told v me life limits part s r)
    ∙ ap (λ (w : Timed). left_by w rest) (life-next v me life limits part s r))

-- so a run leaves its node as its facts tell
told-by : (v : Serving) (me : ℕ) (limits : Limits) (life : ℕ) (g : List Fact) (t : Timed)
    → NodeRun v me limits life g t → left_by (new_node me life limits) g ≡ t
told-by v me limits life g t (lives_on w x u r) = life-told v me life limits g t r
told-by v me limits life g t (restarts w part rest s u r later) =
    told-next v me life limits part rest s r ∙ told-by v me limits (life + 1) rest t later

pub run-told : FactsTellTheState
run-told v me life limits g t r = told-by v me limits life g t r

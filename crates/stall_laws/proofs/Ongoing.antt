-- A session that isn't connected has no calls, and each active call of a session has a packet that isn't
-- answered or not posted yet. So it is where no group of facts is under way.
use Rattle.std.proofs.Common.{◌≡◌, ◌<◌, ℕ, Bool, true, false, List, [], ◌∷◌}
use Rattle.std.proofs.Common.{Option, Some, None, refl, sym, ap, ◌∙◌}
use Rattle.std.proofs.Common.{cond, ◌+◌}
use Rattle.packet_header.specs.declared.packet.ControlHeader.{ControlHeader}
use Rattle.rpc_base.specs.declared.state.SessionState.TheVariants.{Closed, Failed}
use Rattle.rpc_base.specs.declared.state.SessionState.TheVariants.{Closing as IsClosing}
use Rattle.rpc_laws.specs.Front.{control_of}
use Rattle.rpc_laws.specs.Sessions.{clients_told, comes_to, connects, is_request_of, opened_end}
use Rattle.rpc_laws.specs.Sessions.{requests}
use Rattle.std.specs.Prelude.{option_map}
use Rattle.std.specs.List.{AllByRecursion}
use Rattle.packet_header.proofs.PartsLemmas.{packet_count_above}
use Rattle.rpc_base.proofs.BasicLemmas.{false-true}
use Rattle.rpc_base.proofs.FirstLemmas.{all-kept, all-changed, all-push, all-left}
use Rattle.rpc_base.specs.Tables.{at_first, without_first}
use Rattle.rpc_base.specs.declared.event.Event.{Event}
use Rattle.rpc_base.specs.declared.event.Event.TheVariants.{PairedClient, Opened, Connected}
use Rattle.rpc_base.specs.declared.event.Event.TheVariants.{FailedNoRoom}
use Rattle.rpc_base.specs.declared.event.Event.TheVariants.{FailedNoAnswer, Closing, ClosedHeard}
use Rattle.rpc_base.specs.declared.event.Event.TheVariants.{ClosedUnheard}
use Rattle.rpc_base.specs.declared.event.Event.TheVariants.{Asked, Begun, Posted, Sent, Took}
use Rattle.rpc_base.specs.declared.event.Event.TheVariants.{Rolled, Broken}
use Rattle.rpc_base.specs.declared.event.Event.TheVariants.{DoneOk, DoneTooSmall, DonePeerLost}
use Rattle.rpc_base.specs.declared.fact.Fact.{Fact}
use Rattle.rpc_base.specs.declared.owner.Owner.TheVariants.{Ask, Reply, Control}
use Rattle.rpc_laws.specs.declared.tables.Asking.{Asking}
use Rattle.rpc_laws.specs.declared.tables.Call.{Call}
use Rattle.rpc_laws.specs.declared.tables.Client.{Client}
use Rattle.rpc_laws.specs.declared.tables.Lists.{Lists}
use Rattle.rpc_laws.specs.declared.tables.Progress.{Progress}
use Rattle.rpc_laws.specs.Calls.{asked_packets, known_packets, is_active, is_call, begun, moved}
use Rattle.rpc_laws.specs.Calls.{posted_up_to, sent_packet, rolled_back}
use Rattle.rpc_laws.specs.Front.{front_header, front_body}
use Rattle.rpc_laws.specs.NodeLists.{after, after_all}
use Rattle.rpc_laws.specs.Sessions.{is_client, has_call, is_connected, clients_after, asks, begins}
use Rattle.rpc_laws.specs.Sessions.{posts, sends, rolls, ends, client_end}
use Rattle.node_laws.proofs.Allowed.{Allowed as Lawful, AllAllowed, allowed-of}
use Rattle.node_laws.proofs.SoundLemmas.{sent-got, sent-answer}

abbrev pub OngoingBy : Asking → Option Progress → Type 0
OngoingBy a None = Unit {0}
OngoingBy a (Some p) = p.got < known_packets (asked_packets a) p.answer

abbrev pub OngoingCall : Call → Type 0
OngoingCall c = OngoingBy c.what c.progress

pub record Ongoing (x : Client) : Type 0 where
  pub alive : is_connected x.state ≡ false → x.calls ≡ []
  pub calls : AllByRecursion OngoingCall x.calls

abbrev pub OngoingNode : Lists → Type 0
OngoingNode l = AllByRecursion Ongoing l.clients

-- facts that leave it so by themselves
abbrev pub is_mild : Event → Bool
is_mild (Took (Ask s r) k) = false
is_mild (Broken s) = false
is_mild _ = true

moved-ongoing : (a : Asking) (change : Progress → Progress) (o : Option Progress)
    → ((p : Progress) → ((change p).got ≡ p.got) × ((change p).answer ≡ p.answer)) → OngoingBy a o
    → OngoingBy a (option_map change o)
moved-ongoing a change None same h = tt
moved-ongoing a change (Some p) same h = let e = same p in rw (e.0, e.1) h

calls-ongoing : (change : Progress → Progress) (test : Call → Bool) (calls : List Call)
    → ((p : Progress) → ((change p).got ≡ p.got) × ((change p).answer ≡ p.answer))
    → AllByRecursion OngoingCall calls
    → AllByRecursion OngoingCall (at_first test (moved change) calls)
calls-ongoing change test calls same h =
    all-kept test (moved change) OngoingCall calls (λ c k t. moved-ongoing c.what change c.progress same k) h

-- calls that move in a session
one-ongoing : (change : Progress → Progress) (test : Call → Bool) (x : Client) (y : Client)
    → ((p : Progress) → ((change p).got ≡ p.got) × ((change p).answer ≡ p.answer))
    → y.state ≡ x.state → y.calls ≡ at_first test (moved change) x.calls → Ongoing x → Ongoing y
one-ongoing change test x y same state calls h = record {
  alive = λ off. calls ∙ ap (λ cs. at_first test (moved change) cs) (h.alive (sym (ap is_connected state) ∙ off));
  calls = rw calls (calls-ongoing change test x.calls same h.calls);
}

ends-ongoing : (c : ℕ) (x : Client) → Ongoing x → Ongoing (ends c x)
ends-ongoing c x h = record {
  alive = λ off. ap (λ cs. without_first (is_call c) cs) (h.alive off);
  calls = all-left (is_call c) OngoingCall x.calls h.calls;
}

-- a control packet is sent
requests-ongoing : (clock : ℕ) (b : Bool) (x : Client) → Ongoing x
    → Ongoing (cond b (record x { sends = x.sends + 1; sent_at = clock }) x)
requests-ongoing clock true x k = record { alive = k.alive; calls = k.calls }
requests-ongoing clock false x k = k

told-ongoing : (clock : ℕ) (o : Option ControlHeader) (xs : List Client) → AllByRecursion Ongoing xs
    → AllByRecursion Ongoing (clients_told clock o xs)
told-ongoing clock None xs h = h
told-ongoing clock (Some c) xs h =
    all-kept (is_client c.client) (requests clock c) Ongoing xs
    (λ x k t. requests-ongoing clock (is_request_of c.kind c.server c.to_life x.state x.way) x k) h

pub ongoing-after : (clock : ℕ) (l : Lists) (e : Event) (first : List ℕ) → Lawful l e
    → is_mild e ≡ true → OngoingNode l
    → AllByRecursion Ongoing (clients_after clock e first (front_header l.ring) (front_body l.ring) l.clients)
ongoing-after clock l (PairedClient s p t c life) first a m h =
    all-push Ongoing l.clients (client_end s p t c life) h (record { alive = λ off. refl; calls = tt })
ongoing-after clock l (Opened s p c) first a m h =
    all-push Ongoing l.clients (opened_end s p c) h (record { alive = λ off. refl; calls = tt })
ongoing-after clock l (Connected s t life) first a m h =
    all-kept (is_client s) (connects t life) Ongoing l.clients
    (λ x k t. record { alive = λ off. false-true (sym off); calls = k.calls }) h
ongoing-after clock l (FailedNoRoom s) first a m h =
    all-changed (is_client s) (comes_to Failed) Ongoing l.clients a.client a.found
    (λ k. record { alive = λ off. k.alive (ap is_connected a.stands); calls = k.calls }) h
ongoing-after clock l (FailedNoAnswer s) first a m h =
    all-changed (is_client s) (comes_to Failed) Ongoing l.clients a.client a.found
    (λ k. record { alive = λ off. k.alive (ap is_connected a.stands); calls = k.calls }) h
ongoing-after clock l (Closing s) first a m h =
    all-changed (is_client s) (comes_to IsClosing) Ongoing l.clients a.client a.found
    (λ k. record { alive = λ off. a.idle; calls = k.calls }) h
ongoing-after clock l (ClosedHeard s) first a m h =
    all-changed (is_client s) (comes_to Closed) Ongoing l.clients a.client a.found
    (λ k. record { alive = λ off. k.alive (ap is_connected a.stands); calls = k.calls }) h
ongoing-after clock l (ClosedUnheard s) first a m h =
    all-changed (is_client s) (comes_to Closed) Ongoing l.clients a.client a.found
    (λ k. record { alive = λ off. k.alive (ap is_connected a.stands); calls = k.calls }) h
ongoing-after clock l (Asked c s y room) first a m h =
    all-changed (is_client s) (asks (record { number = c; req_type = y; room = room; ask = first })) Ongoing
    l.clients a.client a.found (λ k. record {
      alive = λ off. let on = a.connected in false-true (sym off ∙ on);
      calls = all-push OngoingCall a.client.calls _ k.calls tt;
    }) h
ongoing-after clock l (Begun c r) first a m h =
    all-kept (has_call c) (begins c r) Ongoing l.clients (λ x k t. record {
      alive = λ off. ap (λ cs. at_first (is_call c) (begun r) cs) (k.alive off);
      calls = all-kept (is_call c) (begun r) OngoingCall x.calls
          (λ b j t. packet_count_above _) k.calls;
    }) h
ongoing-after clock l (Posted (Ask s r) k) first a m h =
    all-kept (is_client s) (posts r k) Ongoing l.clients
    (λ x j t. one-ongoing (posted_up_to k) (is_active r) x (posts r k x) (λ p. (refl, refl)) refl refl j) h
ongoing-after clock l (Posted (Reply t r) k) first a m h = h
ongoing-after clock l (Posted Control k) first a m h = h
ongoing-after clock l (Sent peer (Ask s r) k) first a m h =
    all-kept (is_client s) (sends clock r k) Ongoing l.clients
    (λ x j t. one-ongoing (sent_packet clock k) (is_active r) x (sends clock r k x)
    (λ p. (sent-got clock k p, sent-answer clock k p)) refl refl j) h
ongoing-after clock l (Sent peer (Reply t r) k) first a m h = h
ongoing-after clock l (Sent peer Control k) first a m h =
    told-ongoing clock (control_of first) l.clients h
ongoing-after clock l (Took (Ask s r) k) first a m h = false-true m
ongoing-after clock l (Took (Reply t r) k) first a m h = h
ongoing-after clock l (Took Control k) first a m h = h
ongoing-after clock l (Rolled c posted got) first a m h =
    all-kept (has_call c) (rolls c posted got) Ongoing l.clients
    (λ x j t. one-ongoing (rolled_back got) (is_call c) x (rolls c posted got x) (λ p. (refl, refl)) refl refl j) h
ongoing-after clock l (Broken s) first a m h = false-true m
ongoing-after clock l (DoneOk c) first a m h = all-kept (has_call c) (ends c) Ongoing l.clients
    (λ x j t. ends-ongoing c x j) h
ongoing-after clock l (DoneTooSmall c size) first a m h =
    all-kept (has_call c) (ends c) Ongoing l.clients
    (λ x j t. ends-ongoing c x j) h
ongoing-after clock l (DonePeerLost c) first a m h =
    all-kept (has_call c) (ends c) Ongoing l.clients
    (λ x j t. ends-ongoing c x j) h
ongoing-after clock l _ first a m h = h

abbrev pub AllMild : List Fact → Type 0
AllMild x = AllByRecursion (λ f. is_mild f.event ≡ true) x

pub ongoing-all : (clock : ℕ) (l : Lists) (x : List Fact) → AllAllowed clock l x → AllMild x
    → OngoingNode l → OngoingNode (after_all clock l x)
ongoing-all clock l [] a m h = h
ongoing-all clock l (f ∷ x) a m h =
    ongoing-all clock (after clock l f) x a.1 m.1
    (ongoing-after clock l f.event f.first (allowed-of l f.event f.first f.second a.0) m.0 h)

-- A call stays on the session on which it was asked, and keeps the request number as which it began.
use Rattle.std.proofs.Common.{◌≡◌, ℕ, ◌+◌, ◌≤◌, Bool, true, false, not, ◌&&◌, cond, Option, Some}
use Rattle.std.proofs.Common.{None, List, refl, sym, ap, arith}
use Rattle.std.specs.Prelude.{◌==◌, count_by, sum_by, option_map}
use Rattle.std.specs.List.{find}
use Rattle.std.proofs.lemmas.Bool.{eq-eqb}
use Rattle.std.proofs.lemmas.List.Sums.{sum_by-le-sum_by}
use Rattle.packet_header.specs.declared.packet.MessageHeader.{MessageHeader}
use Rattle.rpc_base.specs.Tables.{at_first}
use Rattle.rpc_base.specs.declared.event.Event.{Event}
use Rattle.rpc_base.specs.declared.event.Event.TheVariants.{PairedClient, Opened}
use Rattle.rpc_base.specs.declared.event.Event.TheVariants.{Connected as IsConnected, FailedNoRoom}
use Rattle.rpc_base.specs.declared.event.Event.TheVariants.{FailedNoAnswer}
use Rattle.rpc_base.specs.declared.event.Event.TheVariants.{Closing as BeginsClosing, ClosedHeard}
use Rattle.rpc_base.specs.declared.event.Event.TheVariants.{ClosedUnheard, Asked, Begun, Posted}
use Rattle.rpc_base.specs.declared.event.Event.TheVariants.{Sent, Took, Rolled, Broken, DoneOk}
use Rattle.rpc_base.specs.declared.event.Event.TheVariants.{DoneTooSmall, DonePeerLost}
use Rattle.rpc_base.specs.declared.owner.Owner.TheVariants.{Ask, Control}
use Rattle.rpc_base.specs.declared.state.SessionState.TheVariants.{Closing, Closed, Failed}
use Rattle.rpc_laws.specs.declared.tables.Call.{Call}
use Rattle.rpc_laws.specs.declared.tables.Client.{Client}
use Rattle.rpc_laws.specs.declared.tables.Lists.{Lists}
use Rattle.rpc_laws.specs.declared.tables.Progress.{Progress}
use Rattle.rpc_laws.specs.Calls.{is_call, has_request, is_active, begun, posted_up_to, sent_packet}
use Rattle.rpc_laws.specs.Calls.{took_reply, rolled_back}
use Rattle.rpc_laws.specs.Front.{control_of}
use Rattle.rpc_laws.specs.NodeLists.{asked_after}
use Rattle.rpc_laws.specs.Sessions.{is_client, has_call, comes_to, connects, begins, posts, sends}
use Rattle.rpc_laws.specs.Sessions.{takes, rolls, breaks, ends, clients_after}
use Rattle.node_laws.proofs.Allowed.{Allowed, MayBegin}
use Rattle.node_laws.proofs.NumberLemmas.{by_number}
use Rattle.node_laws.proofs.SoundLemmas.{sent-request, took-request}
use Rattle.node_laws.proofs.SpendLemmas.{remaining, remaining-kept, calls-kept, remaining-asked}
use Rattle.node_laws.proofs.SpendLemmas.{remaining-made, remaining-opened, remaining-told}
use Rattle.node_laws.proofs.SpendLemmas.{remaining-spent, ends-fewer}
use Rattle.rpc_base.proofs.FirstLemmas.{found-le, sum-changed}
use Rattle.node_laws.proofs.Places.{Place}
use Rattle.node_laws.specs.Valid.{holders, to_come, Valid}
use Rattle.node_laws.proofs.WindowLemmas.{same-request}

-- not begun as r
abbrev pub otherwise : ℕ → Option Progress → Bool
otherwise r o = not (has_request r o)

-- calls of this number that didn't begin as r, with those to come
abbrev pub unlike : ℕ → ℕ → Lists → ℕ
unlike c r s = remaining c (otherwise r) s.clients + to_come s.asked c

same-otherwise : (r : ℕ) (g : Progress → Progress) → ((p : Progress) → (g p).request ≡ p.request)
    → (o : Option Progress) → otherwise r (option_map g o) ≡ otherwise r o
same-otherwise r g same o = ap not (same-request r g same o)

both-fewer : (a b : Bool) → cond (a && b) 1 0 ≤ cond a 1 0
both-fewer true true = omega arith
both-fewer true false = omega arith
both-fewer false b = omega arith

remaining-le : (c : ℕ) (test : Option Progress → Bool) (xs : List Client) → remaining c test xs ≤ holders c xs
remaining-le c test xs =
    sum_by-le-sum_by (λ x. sum_by (λ d. cond (is_call c d && test d.progress) 1 0) x.calls)
    (λ x. count_by (is_call c) x.calls) xs
    (λ x. sum_by-le-sum_by (λ d. cond (is_call c d && test d.progress) 1 0)
    (λ d. cond (is_call c d) 1 0) x.calls (λ d. both-fewer (is_call c d) (test d.progress)))

unlike-one : (c r : ℕ) (s : Lists) → Valid s → unlike c r s ≤ 1
unlike-one c r s v = let once = v.once c in let less = remaining-le c (otherwise r) s.clients in omega arith

fresh-fewer : (b c : Bool) → cond (b && c) 1 0 ≤ cond (b && true) 1 0 + 0
fresh-fewer true true = omega arith
fresh-fewer true false = omega arith
fresh-fewer false c = omega arith

-- beginning anew
begins-fewer : (c r n new : ℕ) (x : Client) (d : Call) → find (is_call n) x.calls ≡ Some d
    → d.progress ≡ None → 0 + sum_by (λ e. cond (is_call c e && otherwise r e.progress) 1 0)
    (at_first (is_call n) (begun new) x.calls) ≤ sum_by
    (λ e. cond (is_call c e && otherwise r e.progress) 1 0) x.calls
begins-fewer c r n new x d e waits =
    let sums = sum-changed (is_call n) (begun new)
    (λ f. cond (is_call c f && otherwise r f.progress) 1 0) x.calls d e in
    let before : ◌≡◌ {A = ℕ} (cond (is_call c d && otherwise r d.progress) 1 0)
    (cond (is_call c d && true) 1 0) =
    ap (λ o. cond (is_call c d && otherwise r o) 1 0) waits in
    let fewer = fresh-fewer (is_call c d) (not (new == r)) in
    omega arith

begins-own : (c r : ℕ) (x : Client) (d : Call) → find (is_call c) x.calls ≡ Some d
    → d.what.number ≡ c → d.progress ≡ None
    → 1 + sum_by (λ e. cond (is_call c e && otherwise r e.progress) 1 0)
    (at_first (is_call c) (begun r) x.calls) ≤ sum_by
    (λ e. cond (is_call c e && otherwise r e.progress) 1 0) x.calls
begins-own c r x d e same waits =
    let sums = sum-changed (is_call c) (begun r)
    (λ f. cond (is_call c f && otherwise r f.progress) 1 0) x.calls d e in
    let one : ◌≡◌ {A = ℕ} (cond (is_call c d && otherwise r d.progress) 1 0) 1 =
    rw (same, waits, eq-eqb c c refl) refl in
    let zero : ◌≡◌ {A = ℕ} (cond (is_call c d && not (r == r)) 1 0) 0 =
    rw (same, eq-eqb c c refl, eq-eqb r r refl) refl in
    omega arith

module _ (c r : ℕ) (s : Lists) (v : Valid s) where
  begun-unlike : (n new : ℕ) → MayBegin s n new
      → 0 + (remaining c (otherwise r) (at_first (has_call n) (begins n new) s.clients)
      + to_come s.asked c) ≤ unlike c r s
  begun-unlike n new a =
      let own = by_number s a.session a.client a.call v a.place in
      let client : find (has_call n) s.clients ≡ Some a.client = rw a.same own.client in
      let call : find (is_call n) a.client.calls ≡ Some a.call = rw a.same own.call in
      remaining-spent c (otherwise r) 0 (to_come s.asked c) (has_call n)
      (begins n new) s.clients a.client client
      (begins-fewer c r n new a.client a.call call a.waits)

  pub begun-like : MayBegin s c r
      → remaining c (otherwise r) (at_first (has_call c) (begins c r) s.clients)
      + to_come s.asked c ≤ 0
  begun-like a =
      let own = by_number s a.session a.client a.call v a.place in
      let client : find (has_call c) s.clients ≡ Some a.client = rw a.same own.client in
      let call : find (is_call c) a.client.calls ≡ Some a.call = rw a.same own.call in
      let spent = remaining-spent c (otherwise r) 1 (to_come s.asked c) (has_call c)
      (begins c r) s.clients a.client client
      (begins-own c r a.client a.call call (sym a.same) a.waits) in
      let one = unlike-one c r s v in
      omega arith

pub unlike-after : (c r clock : ℕ) (e : Event) (bytes : List ℕ) (head : Option MessageHeader)
    (body : List ℕ) (s : Lists) → Valid s → Allowed s e
    → 0 + (remaining c (otherwise r) (clients_after clock e bytes head body s.clients)
    + to_come (asked_after e s.asked) c) ≤ unlike c r s
unlike-after c r clock (PairedClient n peer t credits life) bytes head body s v a =
    remaining-made c (otherwise r) n peer t credits life (to_come s.asked c) s.clients
unlike-after c r clock (Opened n peer credits) bytes head body s v a =
    remaining-opened c (otherwise r) n peer credits (to_come s.asked c) s.clients
unlike-after c r clock (FailedNoRoom n) bytes head body s v a =
    remaining-kept c (otherwise r) (is_client n) (comes_to Failed) s.clients (to_come s.asked c) (λ x. omega arith)
unlike-after c r clock (FailedNoAnswer n) bytes head body s v a =
    remaining-kept c (otherwise r) (is_client n) (comes_to Failed) s.clients (to_come s.asked c) (λ x. omega arith)
unlike-after c r clock (BeginsClosing n) bytes head body s v a =
    remaining-kept c (otherwise r) (is_client n) (comes_to Closing) s.clients (to_come s.asked c) (λ x. omega arith)
unlike-after c r clock (ClosedHeard n) bytes head body s v a =
    remaining-kept c (otherwise r) (is_client n) (comes_to Closed) s.clients (to_come s.asked c) (λ x. omega arith)
unlike-after c r clock (ClosedUnheard n) bytes head body s v a =
    remaining-kept c (otherwise r) (is_client n) (comes_to Closed) s.clients (to_come s.asked c) (λ x. omega arith)
unlike-after c r clock (IsConnected n t life) bytes head body s v a =
    remaining-kept c (otherwise r) (is_client n) (connects t life) s.clients (to_come s.asked c) (λ x. omega arith)
unlike-after c r clock (Sent peer Control k) bytes head body s v a =
    remaining-told c (otherwise r) clock (to_come s.asked c) (control_of bytes) s.clients
unlike-after c r clock (Asked i n y room) bytes head body s v a =
    remaining-asked c (otherwise r) s.asked i n y room bytes s.clients a.next (unlike-one c r s v)
unlike-after c r clock (Begun n new) bytes head body s v a = begun-unlike c r s v n new a
unlike-after c r clock (Posted (Ask n j) k) bytes head body s v a =
    remaining-kept c (otherwise r) (is_client n) (posts j k) s.clients (to_come s.asked c)
    (λ x. calls-kept c (otherwise r) (is_active j)
    (posted_up_to k) x.calls (same-otherwise r (posted_up_to k) (λ p. refl)))
unlike-after c r clock (Sent peer (Ask n j) k) bytes head body s v a =
    remaining-kept c (otherwise r) (is_client n) (sends clock j k) s.clients (to_come s.asked c)
    (λ x. calls-kept c (otherwise r) (is_active j)
    (sent_packet clock k) x.calls (same-otherwise r (sent_packet clock k)
    (sent-request clock k)))
unlike-after c r clock (Took (Ask n j) k) bytes head body s v a =
    remaining-kept c (otherwise r) (is_client n)
    (takes clock j head body) s.clients (to_come s.asked c)
    (λ x. calls-kept c (otherwise r) (is_active j)
    (took_reply clock head body) x.calls (same-otherwise r (took_reply clock head body)
    (took-request clock head body)))
unlike-after c r clock (Rolled i posted got) bytes head body s v a =
    remaining-kept c (otherwise r) (has_call i) (rolls i posted got) s.clients (to_come s.asked c)
    (λ x. calls-kept c (otherwise r) (is_call i)
    (rolled_back got) x.calls (same-otherwise r (rolled_back got) (λ p. refl)))
unlike-after c r clock (Broken n) bytes head body s v a =
    remaining-kept c (otherwise r) (is_client n) breaks s.clients (to_come s.asked c) (λ x. omega arith)
unlike-after c r clock (DoneOk i) bytes head body s v a =
    remaining-kept c (otherwise r) (has_call i) (ends i) s.clients (to_come s.asked c) (ends-fewer c (otherwise r) i)
unlike-after c r clock (DoneTooSmall i size) bytes head body s v a =
    remaining-kept c (otherwise r) (has_call i) (ends i) s.clients (to_come s.asked c) (ends-fewer c (otherwise r) i)
unlike-after c r clock (DonePeerLost i) bytes head body s v a =
    remaining-kept c (otherwise r) (has_call i) (ends i) s.clients (to_come s.asked c) (ends-fewer c (otherwise r) i)
unlike-after c r clock _ bytes head body s v a = omega arith

like-by : (b t : Bool) → b ≡ true → cond (b && not t) 1 0 ≤ 0 → t ≡ true
like-by true true e h = refl
like-by true false e h = absurd (omega arith)
like-by false t e h = cc

-- so a call of this number began as r
pub like-found : (c r : ℕ) (s : Lists) (session : ℕ) (x : Client) (d : Call)
    → Place s.clients session x d → d.what.number ≡ c → unlike c r s ≤ 0
    → has_request r d.progress ≡ true
like-found c r s session x d place same none =
    let part = found-le (is_client session) (λ y. sum_by
    (λ e. cond (is_call c e && otherwise r e.progress) 1 0) y.calls) s.clients x
    place.client in
    let one = found-le place.test (λ e. cond (is_call c e && otherwise r e.progress) 1 0) x.calls d place.call in
    like-by (is_call c d) (has_request r d.progress) (eq-eqb d.what.number c same) (omega arith)

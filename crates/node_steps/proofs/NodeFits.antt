-- What always holds of a node, after a session began or posted.
use Rattle.std.proofs.Common.{◌≡◌, ℕ, ◌+◌, ◌*◌, ◌≤◌, Bool, true, false, cond, Option, Some, None}
use Rattle.std.proofs.Common.{List, [], ◌∷◌, length, refl, sym, ap, ◌∙◌, arith}
use Rattle.std.specs.Prelude.{slice_get, IfSome, count_by, sum_by}
use Rattle.std.specs.List.{AllByRecursion}
use Rattle.std.proofs.lemmas.List.Sums.{sum_by-cons}
use Rattle.rpc_base.specs.declared.owner.Owner.{Owner}
use Rattle.rpc_base.specs.declared.owner.Owner.TheVariants.{Ask, Reply, Control}
use Rattle.rpc_base.proofs.FirstLemmas.{counted-cons}
use Rattle.rpc_laws.specs.declared.tables.Client.{Client}
use Rattle.rpc_laws.specs.declared.tables.Lists.{Lists}
use Rattle.rpc_laws.specs.declared.tables.Server.{Server}
use Rattle.rpc_laws.specs.Groups.{live_credits}
use Rattle.session_store.specs.Sides.{are_calls, has_calls}
use Rattle.rpc_laws.specs.declared.tables.Queued.{Queued}
use Rattle.rpc_laws.specs.Queues.{is_reply, replies}
use Rattle.session_store.specs.Joined.{is_paced}
use Rattle.node_steps.proofs.QueueEntries.{paced-asks}
use Rattle.rpc_laws.specs.Posting.{if_connected}
use Rattle.rpc_laws.specs.Sessions.{is_connected}
use Rattle.rpc_base.specs.declared.event.Event.{Event}
use Rattle.rpc_base.specs.declared.state.SessionState.{SessionState}
use Rattle.node_laws.proofs.StateLemmas.{connected-live}
use Rattle.node_laws.specs.Kept.{Kept}
use Rattle.node_laws.specs.QueuedPackets.{asks_in, is_ask}
use Rattle.node_laws.proofs.KeptLemmas.{kept-total}
use Rattle.node_laws.proofs.TotalLemmas.{table_free}
use Rattle.session_ends.proofs.ListLemmas.{sum-one}
use Rattle.rpc_base.specs.declared.limits.TheConstants.{MOST_RING}
use Rattle.rpc_laws.specs.declared.tables.Timed.{Timed}
use Rattle.node_steps.specs.Fits.{Fits, HasCredit, IsSendable, IsSettled, has_server, is_of_call}

-- what is queued are packets of calls and replies
one-part : (o : Owner) → is_of_call o ≡ true → cond {A = ℕ} (is_ask o) 1 0 + cond (is_reply o) 1 0 ≡ 1
one-part (Ask s r) e = refl
one-part (Reply t r) e = refl
one-part Control e = cc

pub two-parts : (qs : List Queued) → AllByRecursion IsSendable qs → length qs ≡ asks_in qs + replies qs
two-parts [] all = refl
two-parts (q ∷ qs) all =
    let one = one-part q.owner all.0.0 in
    let asks = counted-cons (λ (p : Queued). is_ask p.owner) q qs (is_ask q.owner) refl in
    let answers = counted-cons (λ (p : Queued). is_reply p.owner) q qs (is_reply q.owner) refl in
    omega (arith, one, asks, answers, two-parts qs all.1)

-- where a session is connected, there is room for the packets of its free credits
free-of : (x : Client) → is_connected x.state ≡ true → x.free ≤ table_free x
free-of x connected = rw (connected-live x.state connected) (omega arith)

pub has-room : (s : Lists) (size i : ℕ) → Kept s → AllByRecursion IsSendable s.queued
    → replies s.queued ≤ s.room → size ≡ 2 * s.room
    → IfSome (slice_get s.clients i)
    (λ x. is_connected x.state ≡ true → length s.queued + x.free ≤ size)
has-room s size i kept ready few long = cases (slice_get s.clients i) refl
  where
    cases : (o : Option Client) → slice_get s.clients i ≡ o
        → IfSome o (λ x. is_connected x.state ≡ true → length s.queued + x.free ≤ size)
    cases None e = tt
    cases (Some x) e = λ connected.
        let total = kept-total s kept in
        let one = sum-one table_free s.clients i x e in
        let free = free-of x connected in
        omega (arith, two-parts s.queued ready, total, one, free, few, long)

-- so no more packets are queued than twice the longest ring
pub few-queued : (s : Timed) (size places : ℕ) → Fits s size places
    → length s.lists.queued ≤ 2 * MOST_RING
few-queued s size places fits =
    let total = kept-total s.lists fits.kept in
    omega (arith, two-parts s.lists.queued fits.sendable, total, fits.replies, fits.most)

-- and among those that are paced
pub has-paced-room : (s : Lists) (size i : ℕ) → Kept s → AllByRecursion IsSendable s.queued
    → size ≡ 2 * s.room → IfSome (slice_get s.clients i)
    (λ x. is_connected x.state ≡ true → 2 * (count_by is_paced s.queued + x.free) ≤ size)
has-paced-room s size i kept sendable long = cases (slice_get s.clients i) refl
  where
    cases : (o : Option Client) → slice_get s.clients i ≡ o → IfSome o
        (λ x. is_connected x.state ≡ true → 2 * (count_by is_paced s.queued + x.free) ≤ size)
    cases None e = tt
    cases (Some x) e = λ connected.
        let total = kept-total s kept in
        let one = sum-one table_free s.clients i x e in
        let free = free-of x connected in
        omega (arith, paced-asks s.queued sendable, total, one, free, long)

-- a session with calls is connected
pub busy-connected : (x : Client) → IsSettled x → are_calls x.calls ≡ true
    → is_connected x.state ≡ true
busy-connected x settled busy = by (is_connected x.state) refl
  where
    by : (b : Bool) → is_connected x.state ≡ b → b ≡ true
    by true t = refl
    by false t = ap are_calls (sym (settled.none_left t)) ∙ busy

-- so it is live, and has a credit
busy-one : (x : Client) (c : Bool) → IsSettled x → are_calls x.calls ≡ c
    → cond {A = ℕ} c 1 0 ≤ live_credits x
busy-one x true settled busy =
    rw (connected-live x.state (busy-connected x settled busy)) settled.some
busy-one x false settled busy = omega arith

busy-clients : (xs : List Client) → AllByRecursion IsSettled xs
    → count_by has_calls xs ≤ sum_by live_credits xs
busy-clients [] all = omega arith
busy-clients (x ∷ xs) all =
    let one = busy-one x (has_calls x) all.0 refl in
    omega (
      arith,
      one,
      counted-cons has_calls x xs (has_calls x) refl,
      sum_by-cons live_credits x xs,
      busy-clients xs all.1,
    )

all-servers : (vs : List Server) → AllByRecursion HasCredit vs
    → length vs ≤ sum_by (λ v. v.credits) vs
all-servers [] all = omega arith
all-servers (v ∷ vs) all =
    omega (arith, all.0.0, sum_by-cons (λ (w : Server). w.credits) v vs, all-servers vs all.1)

-- the pool has a place for each buffer that the sessions may have
pub has-places : (s : Lists) (places : ℕ) → Kept s → AllByRecursion IsSettled s.clients
    → AllByRecursion HasCredit s.servers → 1 ≤ s.jobs.limit
    → places ≡ 16 * s.room + 2 * s.jobs.limit
    → 16 * (count_by has_calls s.clients + length s.servers) + 2 ≤ places
has-places s places kept settled credits jobs long =
    omega (
      arith,
      busy-clients s.clients settled,
      all-servers s.servers credits,
      kept.valid.shared,
      jobs,
      long,
    )

-- a connected session that keeps its state, its limit, its ends and what it sent stays so
pub settled-connected : (x y : Client) → IsSettled x → is_connected x.state ≡ true
    → y.state ≡ x.state → y.limit ≡ x.limit → y.way ≡ x.way → y.sends ≡ x.sends
    → IsSettled y
settled-connected x y settled connected state limit way sends =
    let up : is_connected y.state ≡ true = ap is_connected state ∙ connected in
    record {
      some = omega (arith, limit, settled.some);
      most = omega (arith, limit, settled.most);
      life = λ has. (let alive = settled.life (ap has_server (sym state) ∙ has) in rw way alive);
      joined = λ has. (let low = settled.joined (ap has_server (sym state) ∙ has) in rw way low);
      few = omega (arith, sends, settled.few);
      none_left = λ other. let clash : true ≡ false = sym up ∙ other in cc;
    }

-- a session that has a next event is connected
next-of : (b : Bool) (state : SessionState) (o : Option Event) (e : Event)
    → is_connected state ≡ b → cond b o None ≡ Some e → is_connected state ≡ true
next-of true state o e connected next = connected
next-of false state o e connected next = cc

pub next-connected : (next : Client → Option Event) (x : Client) (e : Event)
    → if_connected next x ≡ Some e → is_connected x.state ≡ true
next-connected next x e is = next-of (is_connected x.state) x.state (next x) e refl is

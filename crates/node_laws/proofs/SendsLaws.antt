-- What a node sends is what its own tables have, of every run.
use Rattle.std.proofs.Common.{◌≡◌, ℕ, ◌≤◌, true, Option, Some, None, List, []}
use Rattle.std.proofs.Common.{◌∷◌, slice_get, refl, sym, arith}
use Rattle.std.specs.List.{AllByRecursion, find}
use Rattle.std.proofs.lemmas.Bool.{eq-eqb}
use Rattle.packet_header.proofs.Heads.{spells-append}
use Rattle.rpc_base.specs.declared.event.Event.{Event}
use Rattle.rpc_base.specs.declared.event.Event.TheVariants.{Sent}
use Rattle.rpc_base.specs.declared.fact.Fact.{Fact}
use Rattle.rpc_base.specs.declared.limits.Limits.{Limits}
use Rattle.rpc_base.specs.declared.owner.Owner.{Owner}
use Rattle.rpc_base.specs.declared.owner.Owner.TheVariants.{Ask, Reply, Control}
use Rattle.rpc_base.proofs.FirstLemmas.{counted-cons, found-holds}
use Rattle.rpc_laws.specs.declared.tables.Lists.{Lists}
use Rattle.rpc_laws.specs.declared.tables.Outgoing.{Outgoing}
use Rattle.rpc_laws.specs.declared.tables.Queued.{Queued}
use Rattle.rpc_laws.specs.declared.tables.Served.{Served}
use Rattle.rpc_laws.specs.declared.tables.Server.{Server}
use Rattle.rpc_laws.specs.BufferSafety.{SentRight, SpellsOwn}
use Rattle.rpc_laws.specs.NodeLists.{after, new_lists}
use Rattle.rpc_laws.specs.Pacing.{due_of}
use Rattle.rpc_laws.specs.Packets.{reply_packet, request_packet}
use Rattle.rpc_laws.specs.Queues.{is_queued}
use Rattle.rpc_laws.specs.Requests.{is_request, is_server, request_of}
use Rattle.rpc_laws.specs.Sessions.{is_client}
use Rattle.node_laws.specs.Laws.{SendsItsOwn}
use Rattle.node_laws.specs.SendsOwn.{SendsFrom}
use Rattle.node_laws.specs.Valid.{Valid}
use Rattle.node_laws.proofs.Allowed.{AllowedBy, allowed-of, LeadsBy, MaySend}
use Rattle.node_laws.proofs.ClockLemmas.{AtOtherClocks, clocks-after, sent-same-right}
use Rattle.node_laws.proofs.LengthLemmas.{ask-length, HasBody, reply-length}
use Rattle.node_laws.proofs.QueueLemmas.{queued_times}
use Rattle.node_laws.proofs.RunLaws.{run_leads_by}
use Rattle.node_laws.proofs.StandLemmas.{Standing, standing-after}
use Rattle.node_laws.proofs.TakenRights.{RequestsRight, Reached, reached-after, RequestRight, taken-after}
use Rattle.node_laws.proofs.ValidLemmas.{valid_after, valid_new}

-- what is known of a moment
record Knows (s : Lists) : Type 0 where
  valid : Valid s
  standing : Standing s.servers s.queued
  taken : RequestsRight s.servers
  reached : Reached s.servers s.queued

knows-after : (clock : ℕ) (s : Lists) (f : Fact) → Knows s
    → AllowedBy s f.event f.first f.second → Knows (after clock s f)
knows-after clock s f k a =
    let own = allowed-of s f.event f.first f.second a in
    let due = due_of clock f.event s.paces in
    record {
      valid = valid_after clock s f k.valid own;
      standing = standing-after f.event due f.second _ s k.valid k.standing own;
      taken = taken-after s k.valid f.event f.first f.second k.taken a;
      reached = reached-after s k.valid k.standing k.reached f.event due f.first f.second a;
    }

knows-new : (me life : ℕ) (limits : Limits) → Knows (new_lists me life limits)
knows-new me life limits = record {
  valid = valid_new me life limits;
  standing = λ t r e. refl;
  taken = tt;
  reached = λ t r k q e some. absurd (omega arith);
}

-- the front of the queue is queued
front-queued : (owner : Owner) (k : ℕ) (due : Option ℕ) (qs : List Queued)
    → is_queued owner k (record { owner = owner; number = k; due = due }) ≡ true
    → slice_get qs 0 ≡ Some (record { owner = owner; number = k; due = due })
    → 1 ≤ queued_times owner k qs
front-queued owner k due [] own e = cc
front-queued owner k due (q ∷ qs) own e =
    let same : q ≡ record { owner = owner; number = k; due = due } = cc in
    let passes : is_queued owner k q ≡ true = rw same own in
    let cons = counted-cons (is_queued owner k) q qs true passes in
    omega arith

reply-queued : (t r k : ℕ) (due : Option ℕ)
    → is_queued (Reply t r) k (record { owner = Reply t r; number = k; due = due }) ≡ true
reply-queued t r k due = rw (eq-eqb t t refl, eq-eqb r r refl, eq-eqb k k refl) refl

module _ (s : Lists) (known : Knows s) (t r k : ℕ) (some : 1 ≤ queued_times (Reply t r) k s.queued)
    (out : Outgoing) where
  request-has : (v : Server) → find (is_server t) s.servers ≡ Some v → (o : Option Served)
      → find (is_request r) v.slots ≡ o → request_packet v.way k o ≡ Some out → HasBody out
  request-has v e None f h = cc
  request-has v e (Some q) f h =
      let found : request_of t r s.servers ≡ Some q = rw e f in
      let slots = found-holds (is_server t) (λ v. AllByRecursion RequestRight v.slots) s.servers v known.taken e in
      let right = found-holds (is_request r) RequestRight v.slots q slots f in
      reply-length v.way q k out (known.reached t r k q found some) right.taken h

  reply-has : (o : Option Server) → find (is_server t) s.servers ≡ o
      → reply_packet r k o ≡ Some out → HasBody out
  reply-has None e h = cc
  reply-has (Some v) e h = request-has v e (find (is_request r) v.slots) refl h

spelled : (s : Lists) (peer : ℕ) (o : Owner) (k : ℕ) (head body : List ℕ)
    → (m : MaySend s peer o k head body) → HasBody m.out → SpellsOwn (s ∷ []) 0 peer o k head body
spelled s peer o k head body m long = record {
  lists = s;
  is_node = refl;
  out = m.out;
  own = m.own;
  to_peer = m.to_peer;
  long = m.long;
  bytes = m.bytes;
  spells = rw m.whole (spells-append m.out.packet head m.out.body m.in_range m.has_head m.long long);
  whole = m.whole;
}

sent-right : (s : Lists) → Knows s → (e : Event) (first second : List ℕ)
    → AllowedBy s e first second → SentRight (s ∷ []) 0 e first second
sent-right s k (Sent peer (Ask n r) i) first second m =
    spelled s peer (Ask n r) i first second m
    (ask-length r i (find (is_client n) s.clients) m.out m.own)
sent-right s k (Sent peer (Reply t r) i) first second m =
    let some = front-queued (Reply t r) i m.due s.queued (reply-queued t r i m.due) m.is_front in
    spelled s peer (Reply t r) i first second m
    (reply-has s k t r i some m.out (find (is_server t) s.servers) refl m.own)
sent-right s k (Sent peer Control i) first second m = m
sent-right s k _ first second m = tt

-- so it is at whatever clocks the facts happen
sends-from : (s t u : Lists) (g : List Fact) → Knows s → LeadsBy s g u → AtOtherClocks s t
    → SendsFrom t g
sends-from s t u [] k l same = tt
sends-from s t u (f ∷ g) k l same = (
  sent-same-right s t f.event f.first f.second same (sent-right s k f.event f.first f.second l.1),
  λ clock. sends-from (after l.0 s f) (after clock t f) u g (knows-after l.0 s f k l.1) l.2
      (clocks-after l.0 clock s t f same),
)

pub sends_own : SendsItsOwn
sends_own p me life limits g t r =
    λ other others same. sends-from (new_lists me life limits)
    (new_lists other life others) t.lists g
    (knows-new me life limits) (run_leads_by r) (record {
      clients = refl;
      servers = refl;
      ring = refl;
      room = sym same;
      life = refl;
      server_numbers = refl;
    })

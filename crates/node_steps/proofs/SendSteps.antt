-- What a sent packet is for the node.
use Rattle.std.proofs.Common.{◌≡◌, ◌≢◌, ℕ, ◌+◌, ◌≤◌, ◌<◌, Bool, true, false, cond, ltb, Option, Some}
use Rattle.rpc_base.specs.declared.limits.TheConstants.{HEAD_BYTES}
use Rattle.std.proofs.Common.{None, List, [], ◌∷◌, ◌++◌, length, drop, refl, sym, ap, subst, ◌∙◌}
use Rattle.std.proofs.Common.{arith}
use Rattle.std.specs.Prelude.{map, option_map, slice_get, IfSome}
use Rattle.std.specs.List.{AllByRecursion, find}
use Rattle.std.proofs.lemmas.Bool.{eq-eqb}
use Rattle.rpc_base.specs.Tables.{at_first, without_first}
use Rattle.rpc_base.specs.declared.event.Event.TheVariants.{Polled, Sent}
use Rattle.rpc_base.specs.declared.limits.Limits.{Limits}
use Rattle.rpc_base.specs.declared.owner.Owner.{Owner}
use Rattle.rpc_base.specs.declared.owner.Owner.TheVariants.{Ask, Reply, Control}
use Rattle.rpc_base.proofs.FirstLemmas.{all-kept, counted-cons}
use Rattle.packet_header.specs.Header.{HasHead, InRange}
use Rattle.packet_rings.specs.Rings.{Ring}
use Rattle.packet_rings.specs.Values.{DatagramValue, EntryValue}
use Rattle.client_core.proofs.CallsLemmas.{length-at_first}
use Rattle.rpc_outside.specs.Linking.{Carried}
use Rattle.rpc_outside.specs.Recording.{Grew, Log}
use Rattle.rpc_laws.specs.declared.tables.Call.{Call}
use Rattle.rpc_laws.specs.declared.tables.Client.{Client}
use Rattle.rpc_laws.specs.declared.tables.Jobs.{Jobs}
use Rattle.rpc_laws.specs.declared.tables.Outgoing.{Outgoing}
use Rattle.rpc_laws.specs.declared.tables.Pace.{Pace}
use Rattle.rpc_laws.specs.declared.tables.Queued.{Queued}
use Rattle.rpc_laws.specs.declared.tables.Served.{Served}
use Rattle.rpc_laws.specs.declared.tables.Server.{Server}
use Rattle.rpc_laws.specs.declared.tables.Timed.{Timed}
use Rattle.rpc_laws.specs.declared.tables.Way.{Way}
use Rattle.packet_header.specs.Parts.{packet_count}
use Rattle.rpc_laws.specs.Calls.{asked_packets, is_active, moved, sent_packet}
use Rattle.rpc_laws.specs.Facts.{plain, with_two}
use Rattle.rpc_laws.specs.NodeLists.{after}
use Rattle.rpc_laws.specs.Packets.{IsSpelled, ask_packet, call_packet, client_packet, outgoing}
use Rattle.rpc_laws.specs.Packets.{reply_packet, request_packet, server_packet}
use Rattle.rpc_laws.specs.PollOrder.{Closes, Sends}
use Rattle.rpc_laws.specs.Queues.{is_due, is_queued, is_reply, made_ready, replies}
use Rattle.rpc_laws.specs.Requests.{is_request, is_server}
use Rattle.rpc_laws.specs.Sessions.{is_client, sends}
use Rattle.node_laws.proofs.KeptLemmas.{kept-after}
use Rattle.session_store.specs.Queue.{IsFront, SendsFront, clients_sent, packet_in, peer_in}
use Rattle.session_store.specs.Sides.{Shown}
use Rattle.session_ends.specs.Joined.{queued_of, is_some_due}
use Rattle.session_store.proofs.AscendsLemmas.{ascends-changed}
use Rattle.session_store.specs.Joined.{without_due}
use Rattle.node_steps.proofs.QueueEntries.{replies-made, sendable-made}
use Rattle.node_steps.specs.Fits.{CallsAscend, Fits, IsSendable, IsSettled, is_of_call}
use Rattle.node_steps.specs.Notes.{Makes, MakesSent}
use Rattle.node_steps.specs.Seen.{Tallies, asking_jobs, seen_node}
use Rattle.rpc_laws.proofs.QueuesLemmas.{same-owner}

-- a packet goes to the peer of its session
peer-by : (way : Way) (o p : Outgoing) (b : Bool) → o.peer ≡ way.peer → p.peer ≡ way.peer
    → (cond b o p).peer ≡ way.peer
peer-by way o p true h g = h
peer-by way o p false h g = g

peer-ask : (way : Way) (r k : ℕ) (o : Option Call) (out : Outgoing)
    → call_packet way r k o ≡ Some out → out.peer ≡ way.peer
peer-ask way r k None out e = cc
peer-ask way r k (Some c) out e =
    let same : client_packet way c.what r k ≡ out = some-same (client_packet way c.what r k) out e in
    ap (λ (p : Outgoing). p.peer) (sym same) ∙ peer-by way _ _ (ltb k (asked_packets c.what)) refl refl
  where
    some-same : (x y : Outgoing) → Some x ≡ Some y → x ≡ y
    some-same x y h = cc

answer-peer : (way : Way) (f : List ℕ → Outgoing) (o : Option (List ℕ)) (out : Outgoing)
    → ((a : List ℕ) → (f a).peer ≡ way.peer) → option_map f o ≡ Some out → out.peer ≡ way.peer
answer-peer way f None out each e = cc
answer-peer way f (Some a) out each e = let same : f a ≡ out = cc in ap (λ (p : Outgoing). p.peer) (sym same) ∙ each a

peer-served : (way : Way) (k : ℕ) (q : Served) (out : Outgoing) → server_packet way q k ≡ Some out
    → out.peer ≡ way.peer
peer-served way k q out e = by (ltb (k + 1) (packet_count q.size)) refl
  where
    by : (b : Bool) → ltb (k + 1) (packet_count q.size) ≡ b → out.peer ≡ way.peer
    by true t = let told = rw t at e in first _ told refl
      where
        first : (o : Outgoing) → Some o ≡ Some out → o.peer ≡ way.peer → out.peer ≡ way.peer
        first o h p = let same : o ≡ out = cc in ap (λ (x : Outgoing). x.peer) (sym same) ∙ p
    by false t = answer-peer way _ q.answer out (λ a. refl) (rw t at e)

peer-reply : (way : Way) (k : ℕ) (o : Option Served) (out : Outgoing)
    → request_packet way k o ≡ Some out → out.peer ≡ way.peer
peer-reply way k None out e = cc
peer-reply way k (Some q) out e = peer-served way k q out e

some-peer : (p q : ℕ) → Some p ≡ Some q → p ≡ q
some-peer p q h = cc

peer-of-ask : (r k : ℕ) (o : Option Client) (p : ℕ) (out : Outgoing) → ask_packet r k o ≡ Some out
    → option_map (λ (x : Client). x.way.peer) o ≡ Some p → out.peer ≡ p
peer-of-ask r k None p out e h = cc
peer-of-ask r k (Some x) p out e h = peer-ask x.way r k (find (is_active r) x.calls) out e ∙ some-peer x.way.peer p h

peer-of-reply : (r k : ℕ) (o : Option Server) (p : ℕ) (out : Outgoing)
    → reply_packet r k o ≡ Some out → option_map (λ (v : Server). v.way.peer) o ≡ Some p
    → out.peer ≡ p
peer-of-reply r k None p out e h = cc
peer-of-reply r k (Some v) p out e h =
    peer-reply v.way k (find (is_request r) v.slots) out e ∙ some-peer v.way.peer p h

peer-of : (s : Shown) (o : Owner) (k p : ℕ) (out : Outgoing) → packet_in s o k ≡ Some out
    → peer_in s o ≡ Some p → out.peer ≡ p
peer-of s (Ask i r) k p out e h = peer-of-ask r k (find (is_client i) s.clients) p out e h
peer-of s (Reply t r) k p out e h = peer-of-reply r k (find (is_server t) s.servers) p out e h
peer-of s Control k p out e h = cc

-- what is spelled is a packet
pub record Spelled (o : Option Outgoing) (head body : List ℕ) : Type 0 where
  pub out : Outgoing
  pub is : o ≡ Some out
  pub has_head : HasHead out.packet head
  pub same : body ≡ out.body
  pub in_range : InRange out.packet

spelled-out : (o : Option Outgoing) (head body : List ℕ) → IsSpelled o head body
    → Spelled o head body
spelled-out None head body h = absurd h
spelled-out (Some out) head body h = record { out = out; is = refl; has_head = h.0; same = h.1; in_range = h.2 }

-- the front is the first of its owner and number
own-queued : (q : Queued) → is_queued q.owner q.number q ≡ true
own-queued q = rw (same-owner q.owner, eq-eqb q.number q.number refl) refl

pub front-out : (q : Queued) (qs : List Queued) → slice_get qs 0 ≡ Some q
    → without_first (is_queued q.owner q.number) qs ≡ drop 1 qs
front-out q [] e = cc
front-out q (p ∷ ps) e =
    let same : p ≡ q = cc in
    let here : is_queued q.owner q.number p ≡ true = ap (is_queued q.owner q.number) same ∙ own-queued q in
    rw here refl

front-ready : (q : Queued) (qs : List Queued) → slice_get qs 0 ≡ Some q → AllByRecursion IsSendable qs
    → IsSendable q
front-ready q [] e all = cc
front-ready q (p ∷ ps) e all = let same : p ≡ q = cc in subst IsSendable same all.0

rest-ready : (qs : List Queued) → AllByRecursion IsSendable qs → AllByRecursion IsSendable (drop 1 qs)
rest-ready [] all = tt
rest-ready (q ∷ qs) all = all.1

fewer-replies : (qs : List Queued) → replies (drop 1 qs) ≤ replies qs
fewer-replies [] = omega arith
fewer-replies (q ∷ qs) = more (is_reply q.owner) refl
  where
    more : (b : Bool) → is_reply q.owner ≡ b → replies qs ≤ replies (q ∷ qs)
    more b t = omega (arith, counted-cons (λ (p : Queued). is_reply p.owner) q qs b t)

-- the packet in front, which may be sent
record First (clock : ℕ) (qs : List Queued) (e : EntryValue) : Type 0 where
  entry : Queued
  at : slice_get qs 0 ≡ Some entry
  owner : entry.owner ≡ e.owner
  number : entry.number ≡ e.number
  due : is_due clock entry.due ≡ true

front-first : (clock : ℕ) (qs : List Queued) (e : EntryValue)
    → option_map without_due (slice_get qs 0) ≡ Some (queued_of e)
    → is_some_due clock (slice_get qs 0) ≡ true → First clock qs e
front-first clock [] e is due = cc
front-first clock (q ∷ qs) e is due =
    let same = some-same (without_due q) (queued_of e) is in
    record {
      entry = q;
      at = refl;
      owner = ap (λ (p : Queued). p.owner) same;
      number = ap (λ (p : Queued). p.number) same;
      due = due;
    }
  where
    some-same : (x y : Queued) → Some x ≡ Some y → x ≡ y
    some-same x y h = cc

front-clients : (clock : ℕ) (q : Queued) (qs : List Queued) (xs ys : List Client)
    → slice_get qs 0 ≡ Some q → SendsFront clock qs xs ys
    → ys ≡ clients_sent clock q.owner q.number xs
front-clients clock q [] xs ys e h = cc
front-clients clock q (p ∷ ps) xs ys e h = let same : p ≡ q = cc in subst (λ (z : Queued). ys ≡ clients_sent clock z.owner z.number xs) same h

module _ (me : ℕ) (limits : Limits) (tallies : Tallies) (paces : List Pace) (jobs : Jobs)
    (clock : ℕ) (rx : Ring DatagramValue) (s t : Shown) where
  abbrev seen : Shown → Timed
  seen u = seen_node me limits tallies paces jobs clock rx u

  -- with other jobs
  abbrev seen_with : Jobs → Shown → Timed
  seen_with js u = seen_node me limits tallies paces js clock rx u

  goes-by : (js : Jobs) (o : Owner) (k p : ℕ) (head body : List ℕ) → is_of_call o ≡ true
      → t.clients ≡ clients_sent clock o k s.clients → t.servers ≡ s.servers
      → without_first (is_queued o k) s.queued ≡ t.queued
      → seen_with js t ≡ record {
        lists = after clock (seen_with js s).lists (with_two me (Sent p o k) head body);
        clock = clock;
      }
  goes-by js (Ask i r) k p head body call clients servers queued = rw (clients, servers, queued) refl
  goes-by js (Reply i r) k p head body call clients servers queued = rw (clients, servers, queued) refl
  goes-by js Control k p head body call clients servers queued = cc

  sent-kept : (P : Client → Type 0) → ((r k : ℕ) (x : Client) → P x → P (sends clock r k x))
      → (o : Owner) (k : ℕ) (xs : List Client) → AllByRecursion P xs
      → AllByRecursion P (clients_sent clock o k xs)
  sent-kept P step (Ask i r) k xs all = all-kept (is_client i) (sends clock r k) P xs (λ x h e. step r k x h) all
  sent-kept P step (Reply i r) k xs all = all
  sent-kept P step Control k xs all = all

  sent-long : (o : Owner) (k : ℕ) (xs : List Client)
      → length (clients_sent clock o k xs) ≡ length xs
  sent-long (Ask i r) k xs = length-at_first (is_client i) (sends clock r k) xs
  sent-long (Reply i r) k xs = refl
  sent-long Control k xs = refl

  module _ (fits : Fits (seen s) s.size s.places) (e : EntryValue) (head body : List ℕ)
      (front : IsFront clock s e head body)
      (went : SendsFront clock s.queued s.clients t.clients) (servers : t.servers ≡ s.servers)
      (queued : t.queued ≡ drop 1 s.queued) where
    first : First clock s.queued e
    first = front-first clock s.queued e front.front front.due

    abbrev q : Queued
    q = first.entry

    ready : IsSendable q
    ready = front-ready q s.queued first.at fits.sendable

    changed : t.clients ≡ clients_sent clock e.owner e.number s.clients
    changed = front-clients clock q s.queued s.clients t.clients first.at went
        ∙ ap (λ o. clients_sent clock o q.number s.clients) first.owner
        ∙ ap (λ k. clients_sent clock e.owner k s.clients) first.number

    out : without_first (is_queued e.owner e.number) s.queued ≡ drop 1 s.queued
    out = ap (λ o. without_first (is_queued o e.number) s.queued) (sym first.owner)
        ∙ ap (λ k. without_first (is_queued q.owner k) s.queued) (sym first.number)
        ∙ front-out q s.queued first.at

    goes : (js : Jobs) (p : ℕ)
        → seen_with js t ≡ record {
          lists = after clock (seen_with js s).lists
              (with_two me (Sent p e.owner e.number) head body);
          clock = clock;
        }
    goes js p =
        goes-by js e.owner e.number p head body (ap is_of_call (sym first.owner) ∙ ready.0) changed
        servers (out ∙ sym queued)

    module _ (long : length head ≡ HEAD_BYTES) where
      spelled : Spelled (packet_in s e.owner e.number) head body
      spelled = spelled-out (packet_in s e.owner e.number) head body front.spells

      packet-is : (js : Jobs) (o : Owner) (k : ℕ) (due : Option ℕ) → packet_in s o k
          ≡ outgoing (seen_with js s).lists (record { owner = o; number = k; due = due })
      packet-is js (Ask i r) k due = refl
      packet-is js (Reply i r) k due = refl
      packet-is js Control k due = refl

      packet-of : (js : Jobs) → packet_in s e.owner e.number ≡ outgoing (seen_with js s).lists q
      packet-of js = ap (λ o. packet_in s o e.number) (sym first.owner)
          ∙ ap (λ k. packet_in s q.owner k) (sym first.number)
          ∙ packet-is js q.owner q.number q.due

      pub node-sent : {R L : Type 0} (log : R → Log)
          (sent : L → Option (List Carried)) (before now : R) (from to : L) (p : ℕ) (o : Owner)
          (k : ℕ) → p ≡ e.peer → o ≡ e.owner → k ≡ e.number
          → Grew (log before) (log now) (with_two me (Sent p o k) head body ∷ [])
          → sent to ≡ option_map (λ ds. ds ++ (p, head ++ body) ∷ []) (sent from)
          → MakesSent log sent Sends (seen s) (seen t) before now from to
      node-sent log sent before now from to p o k peer-is owner-is number-is grew took =
          let peer : spelled.out.peer ≡ p =
          peer-of s e.owner e.number e.peer spelled.out spelled.is front.peer
          ∙ sym peer-is in
          record {
            makes = record {
              noted = with_two me (Sent p o k) head body ∷ [];
              grew = grew;
              step = λ asks. record {
                entry = q;
                is_front = first.at;
                ready = first.due;
                out = spelled.out;
                packet = sym (packet-of (asking_jobs asks jobs)) ∙ spelled.is;
                head = head;
                in_range = spelled.in_range;
                has_head = spelled.has_head;
                long = long;
                bytes = front.bytes;
                facts = ap (λ (b : List ℕ). with_two me (Sent p o k) head b ∷ []) spelled.same
                    ∙ ap (λ (z : ℕ). with_two me (Sent z o k) head spelled.out.body ∷ []) (sym peer)
                    ∙ ap (λ (z : Owner). with_two me (Sent spelled.out.peer z k) head
                    spelled.out.body ∷ []) (owner-is ∙ sym first.owner)
                    ∙ ap (λ (z : ℕ). with_two me (Sent spelled.out.peer q.owner z) head
                    spelled.out.body ∷ []) (number-is ∙ sym first.number);
                goes =
                    let js = asking_jobs asks jobs in
                    subst (λ (z : Owner). seen_with js t
                    ≡ record {
                      lists = after clock (seen_with js s).lists
                          (with_two me (Sent p z k) head body);
                      clock = clock;
                    }) (sym owner-is)
                    (subst (λ (z : ℕ). seen_with js t
                    ≡ record {
                      lists = after clock (seen_with js s).lists
                          (with_two me (Sent p e.owner z) head body);
                      clock = clock;
                    }) (sym number-is)
                    (goes js p));
              };
            };
            took = took;
          }

    settled-sent : (r k : ℕ) (x : Client) → IsSettled x → IsSettled (sends clock r k x)
    settled-sent r k x settled = record {
      some = settled.some;
      most = settled.most;
      life = settled.life;
      joined = settled.joined;
      few = settled.few;
      none_left = λ closed. ap (at_first (is_active r) (moved (sent_packet clock k)))
          (settled.none_left closed);
    }

    pub fits-sent : t.size ≡ s.size → t.places ≡ s.places → Fits (seen t) t.size t.places
    fits-sent size places = record {
      kept = rw (ap (λ (u : Timed). u.lists) (goes jobs 0))
          (kept-after clock (seen s).lists (with_two me (Sent 0 e.owner e.number) head body)
          fits.kept tt);
      ascends = rw changed (sent-kept CallsAscend
          (λ r k x up. ascends-changed (is_active r) (moved (sent_packet clock k))
          (λ d. refl) x.calls up) e.owner e.number s.clients fits.ascends);
      paces = fits.paces;
      numbers = omega (
        arith,
        ap (λ (xs : List Client). length xs) changed,
        sent-long e.owner e.number s.clients,
        fits.numbers,
      );
      each = omega (
        arith,
        ap (λ (xs : List Client). length xs) changed,
        sent-long e.owner e.number s.clients,
        fits.each,
      );
      settled = rw changed (sent-kept IsSettled settled-sent e.owner e.number s.clients fits.settled);
      credits = rw servers fits.credits;
      sendable = rw queued (rest-ready s.queued fits.sendable);
      replies = rw queued (omega (arith, fewer-replies s.queued, fits.replies));
      most = fits.most;
      packets = size ∙ fits.packets;
      jobs = fits.jobs;
      alive = fits.alive;
      server_numbers = fits.server_numbers;
      buffers = places ∙ fits.buffers;
    }

-- one packet less is queued
pub front-fewer : (clock : ℕ) (e : EntryValue) (qs rs : List Queued)
    → option_map without_due (slice_get qs 0) ≡ Some (queued_of e) → rs ≡ drop 1 qs
    → length rs < length qs
front-fewer clock e [] rs is left = cc
front-fewer clock e (p ∷ ps) rs is left = omega (arith, ap (λ (xs : List Queued). length xs) left)

-- where the store has a front, something is queued
pub front-there : (clock : ℕ) (e : EntryValue) (head body : List ℕ) (s : Shown)
    → IsFront clock s e head body → s.queued ≢ []
front-there clock e head body s front = there s.queued front.front
  where
    there : (qs : List Queued) → option_map without_due (slice_get qs 0) ≡ Some (queued_of e)
        → qs ≢ []
    there [] is = λ h. cc
    there (q ∷ qs) is = λ h. cc

-- the end of a poll: what was due is ready
module _ (me : ℕ) (limits : Limits) (tallies : Tallies) (paces : List Pace) (jobs : Jobs)
    (clock : ℕ) (rx : Ring DatagramValue) (s t : Shown)
    (fits : Fits (seen_node me limits tallies paces jobs clock rx s) s.size s.places)
    (queued : t.queued ≡ map (made_ready clock) s.queued) (clients : t.clients ≡ s.clients)
    (servers : t.servers ≡ s.servers) where
  abbrev closed_with : Jobs → Shown → Timed
  closed_with js u = seen_node me limits tallies paces js clock rx u

  closes : (js : Jobs) → closed_with js t
      ≡ record { lists = after clock (closed_with js s).lists (plain me (Polled clock)); clock = clock }
  closes js = rw (queued, clients, servers) refl

  pub node-closed : {R : Type 0} (log : R → Log) (before now : R)
      → Grew (log before) (log now) (plain me (Polled clock) ∷ [])
      → Makes log Closes (closed_with jobs s) (closed_with jobs t) before now
  node-closed log before now grew = record {
    noted = plain me (Polled clock) ∷ [];
    grew = grew;
    step = λ asks. record { facts = refl; goes = closes (asking_jobs asks jobs) };
  }

  pub fits-closed : t.size ≡ s.size → t.places ≡ s.places
      → Fits (closed_with jobs t) t.size t.places
  fits-closed size places = record {
    kept = rw (ap (λ (u : Timed). u.lists) (closes jobs))
        (kept-after clock (closed_with jobs s).lists (plain me (Polled clock)) fits.kept tt);
    ascends = rw clients fits.ascends;
    paces = fits.paces;
    each = rw clients fits.each;
    numbers = rw clients fits.numbers;
    settled = rw clients fits.settled;
    credits = rw servers fits.credits;
    sendable = rw queued (sendable-made clock s.queued fits.sendable);
    replies = rw queued (omega (arith, replies-made clock s.queued, fits.replies));
    most = fits.most;
    packets = size ∙ fits.packets;
    jobs = fits.jobs;
    alive = fits.alive;
    server_numbers = fits.server_numbers;
    buffers = places ∙ fits.buffers;
  }

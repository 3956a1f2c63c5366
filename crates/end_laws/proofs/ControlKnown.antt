-- What is known after a session was opened, accepted or connected.
use Rattle.std.proofs.Common.{◌≡◌, ◌+◌, ℕ, Bool, true, false, List, [], ◌∷◌, ◌++◌, length, Option}
use Rattle.std.proofs.Common.{Some, None}
use Rattle.std.proofs.Common.{refl, sym, ap, ◌∙◌, subst, arith, Contains, slice_get}
use Rattle.std.specs.Prelude.{IfSome}
use Rattle.std.specs.List.{find}
use Rattle.std.proofs.lemmas.List.{length-append}
use Rattle.packet_header.specs.declared.packet.ControlHeader.{ControlHeader}
use Rattle.packet_header.specs.declared.packet.ControlKind.{ControlKind}
use Rattle.packet_header.specs.declared.packet.ControlKind.TheVariants.{ConnectReply}
use Rattle.rpc_base.specs.Tables.{at_first}
use Rattle.rpc_base.specs.declared.event.Event.TheVariants.{Accepted, Connected, Opened}
use Rattle.rpc_laws.specs.declared.tables.Client.{Client}
use Rattle.rpc_laws.specs.declared.tables.InFlight.{InFlight}
use Rattle.rpc_laws.specs.declared.tables.Lists.{Lists}
use Rattle.rpc_laws.specs.Front.{control_of}
use Rattle.rpc_laws.specs.NodeLists.{after}
use Rattle.rpc_laws.specs.OwnAnswer.{IsClientEnd, IsServerEnd}
use Rattle.rpc_laws.specs.Requests.{server_end}
use Rattle.rpc_laws.specs.Sessions.{connects, is_client, opened_end}
use Rattle.node_laws.proofs.Allowed.{Allowed as Lawful}
use Rattle.node_laws.specs.Valid.{Valid}
use Rattle.end_laws.specs.Handshakes.{IsMade}
use Rattle.end_laws.proofs.SessionLemmas.{Alone, add-new, none-made}
use Rattle.std.proofs.Common.{◌⊎◌, inl, inr}
use Rattle.std.proofs.lemmas.Bool.{eq-eqb}
use Rattle.rpc_laws.specs.declared.tables.Server.{Server}
use Rattle.rpc_laws.specs.Requests.{is_server}
use Rattle.end_laws.proofs.Allowed.{MayConnect}
use Rattle.end_laws.proofs.ClientLemmas.{client-at, found-same}
use Rattle.end_laws.proofs.GoodLemmas.{SameAt, client-more, run-left, starts-stay}
use Rattle.end_laws.proofs.Known.{Known, Later, End, Speaks, Tells, RepliesBy, IsSession}
use Rattle.end_laws.proofs.Known.{IsUnjoined}
use Rattle.end_laws.proofs.Known.{Tied, is_joined, GoodClient, GoodServer, GoodNode, TrueEnd}
use Rattle.end_laws.proofs.Known.{IsTrue}
use Rattle.end_laws.proofs.Known.{added, added-here, added-keeps, added-none, added-case}
use Rattle.end_laws.proofs.Known.{contains-here, contains-more, noting, later-noting}
use Rattle.end_laws.proofs.KnownLemmas.{run-more, servers-later, jobs-later, server-more-end, start-more}
use Rattle.end_laws.proofs.KnownLemmas.{ask-more}
use Rattle.node_laws.proofs.JoinLemmas.{length-first}
use Rattle.end_laws.proofs.ListLemmas.{Placed, add-placed, all-add, first-each}
use Rattle.rpc_laws.specs.Endpoints.{Endpoint, Lived, noted}

-- a session is opened
module _ (k : Known) (n : Endpoint) (peer credits clock : ℕ) (l : Lists) (valid : Valid l)
    (g : GoodNode k n l) where
  abbrev s : ℕ
  s = length l.clients

  abbrev opens : Lived
  opens = noted n (Opened s peer credits)

  pub open-node : Lawful l (Opened s peer credits)
      → GoodNode (noting k opens) n (after clock l opens.fact)
  open-node lawful =
      let k2 = noting k opens in
      let later = later-noting k opens in
      let new : GoodClient k2 n s (opened_end s peer credits) = record {
        number = refl;
        tied = record { opened = contains-here opens k.past; idle = refl };
        eight = refl;
        fresh = λ r le. g.no_starts s r (omega arith);
        calls = tt;
      } in
      let more : length (l.clients ++ opened_end s peer credits ∷ []) ≡ s + 1 =
      length-append l.clients (opened_end s peer credits ∷ []) in
      record {
        clients = add-placed (GoodClient k2 n) l.clients (opened_end s peer credits) new
            (λ i x is. client-more k k2 later n i x (λ r h. h) (g.clients i x is));
        servers = servers-later k k2 later n l.servers g.servers;
        jobs = jobs-later k k2 later n l.jobs.out g.jobs;
        no_asks = g.no_asks;
        no_ends = g.no_ends;
        no_starts = λ i r le. g.no_starts i r (omega arith);
        begun = λ i r b is. starts-stay l opens.fact valid lawful clock i b (g.begun i r b is);
        no_runs = λ t r some. g.no_runs t r (run-left l opens.fact valid lawful clock t r some);
      }

-- a session is accepted
abbrev pub with_end : Known → (n : Endpoint) (t : ℕ) (peer : Endpoint) (s credits : ℕ) → Known
with_end k n t peer s credits = record {
  past = noted n (Accepted t peer.node s credits peer.life) ∷ k.past;
  ends = added k.ends n t 0 (record { home = peer; client = s; credits = credits });
  asks = k.asks;
  starts = k.starts;
  runs = k.runs;
}

module _ (k : Known) (n peer : Endpoint) (client credits : ℕ) (l : Lists) (g : GoodNode k n l) where
  abbrev t : ℕ
  t = l.server_numbers

  abbrev accepts : Lived
  accepts = noted n (Accepted t peer.node client credits peer.life)

  abbrev entry : End
  entry = record { home = peer; client = client; credits = credits }

  abbrev knows : Known
  knows = with_end k n t peer client credits

  is-new : k.ends n t 0 ≡ None
  is-new = g.no_ends t (omega arith)

  pub later-accept : Later k knows
  later-accept = record {
    past = λ f h. contains-more accepts f k.past h;
    ends = λ a b c x h. added-keeps k.ends n t 0 entry a b c x is-new h;
    asks = λ a b c x h. h;
    starts = λ a b c x h. h;
    runs = λ a b c x h. h;
  }

  pub accept-same : (j : Endpoint) → (j ≡ n → ⊥) → SameAt k knows j
  accept-same j ne = record {
    asks = λ c h. h;
    ends = λ d h. added-none k.ends n t 0 entry j d 0 (λ x y z. ne x) h;
    starts = λ a r h. h;
    runs = λ d r h. h;
  }

  pub true-accept : IsTrue k → IsTrue knows
  true-accept is = record {
    ends = added-case k.ends n t 0 entry (TrueEnd (accepts ∷ k.past))
        (IsServerEnd.accepted credits (contains-here accepts k.past))
        (λ a b c x h. server-more-end accepts k.past x.home x.client a b (is.ends a b c x h));
    asks = λ a b c x h. ask-more accepts k.past a b c x (is.asks a b c x h);
    starts = λ a b c x h. start-more accepts k.past a b c x (is.starts a b c x h);
    runs = λ a b c x h. run-more k knows (accepts ∷ []) refl
        (λ a b c x h. added-keeps k.ends n t 0 entry a b c x is-new h) (λ a b c x h. h) a b c x (is.runs a b c x h);
  }

  -- which ends are known then
  pub accept-ends : Alone l.server_numbers l.servers → (i : Endpoint) (d : ℕ) (e : End) → knows.ends i d 0
      ≡ Some e
      → (k.ends i d 0 ≡ Some e)
      ⊎ ((i ≡ n) × ((v : Server) × (find (is_server d)
      (l.servers ++ server_end t peer.node client credits peer.life ∷ []) ≡ Some v)))
  accept-ends alone i d e is =
      added-case k.ends n t 0 entry
      (λ a b c x. (k.ends a b c ≡ Some x) ⊎ ((a ≡ n) × ((v : Server)
      × (find (is_server b) (l.servers ++ server_end t peer.node client credits peer.life ∷ []) ≡ Some v))))
      (inr (
        refl,
        (
          server_end t peer.node client credits peer.life,
          add-new (is_server t) l.servers
              (server_end t peer.node client credits peer.life) (eq-eqb t t refl)
              (none-made t t l.servers alone (omega arith)),
        ),
      ))
      (λ a b c x h. inl h) i d 0 e is

  pub accept-node : (clock : ℕ) → Valid l → Lawful l (Accepted t peer.node client credits peer.life)
      → GoodNode knows n (after clock l accepts.fact)
  accept-node clock valid lawful =
      let new : GoodServer knows n (server_end t peer.node client credits peer.life) = record {
        session = record {
          end = added-here k.ends n t 0 entry;
          made = IsMade.accepted (contains-here accepts k.past);
        };
        slots = tt;
      } in
      record {
        clients = λ i x is. client-more k knows later-accept n i x (λ r h. h) (g.clients i x is);
        servers = all-add (GoodServer knows n) l.servers (server_end t peer.node client credits peer.life)
            (servers-later k knows later-accept n l.servers g.servers) new;
        jobs = jobs-later k knows later-accept n l.jobs.out g.jobs;
        no_asks = g.no_asks;
        no_ends = λ d le. added-none k.ends n t 0 entry n d 0 (λ x y z. absurd (omega arith))
            (g.no_ends d (omega arith));
        no_starts = g.no_starts;
        begun = λ i r b is. starts-stay l accepts.fact valid lawful clock i b (g.begun i r b is);
        no_runs = λ d r some. g.no_runs d r (run-left l accepts.fact valid lawful clock d r some);
      }

-- a session is connected: what the reply says is so
module _ (k : Known) (n : Endpoint) (s t life : ℕ) (hand : Option InFlight) (l : Lists)
    (m : MayConnect hand l s t life) (me : l.me ≡ n.node) (now : l.life ≡ n.life) (speaks : IfSome hand (λ c. Speaks k c.from c.to c.bytes))
    (g : GoodNode k n l) where
  abbrev connected_fact : Lived
  connected_fact = noted n (Connected s t life)

  abbrev known : Known
  known = noting k connected_fact

  in-hand : (o : Option InFlight) (c : InFlight) → o ≡ Some c
      → IfSome o (λ c. Speaks k c.from c.to c.bytes) → Speaks k c.from c.to c.bytes
  in-hand None c e h = cc
  in-hand (Some d) c e h = let same : d ≡ c =
      cc in subst (λ (z : InFlight). Speaks k z.from z.to z.bytes) same h

  tells-of : (o : Option ControlHeader) (h : ControlHeader) (from to : ℕ) → o ≡ Some h
      → IfSome o (λ h. Tells h.kind k from to h) → Tells h.kind k from to h
  tells-of None h from to e s = cc
  tells-of (Some c) h from to e s = let same : c ≡ h =
      cc in subst (λ (z : ControlHeader). Tells z.kind k from to z) same s

  reply-of : (kind : ControlKind) (h : ControlHeader) (from to : ℕ) → kind ≡ ConnectReply
      → Tells kind k from to h
      → RepliesBy h.server h.to_life k (record { node = from; life = h.from_life }) to h.client
      h.credits h.status
  reply-of kind h from to e s = subst (λ (z : ControlKind). Tells z k from to h) e s

  names-of : (o us : Option ℕ) (from : Endpoint) (to own client credits status : ℕ) → o ≡ Some t
      → us ≡ Some own → RepliesBy o us k from to client credits status
      → IsSession k from t (record { node = to; life = own }) client credits
  names-of o us from to own client credits status e f r =
      subst (λ (z : Option ℕ). RepliesBy (Some t) z k from to client credits status) f
      (subst (λ (z : Option ℕ). RepliesBy z us k from to client credits status) e r)

  session-of : IsSession k (record { node = m.client.way.peer; life = life }) t n s m.client.limit
  session-of =
      let h = m.hears.header in
      let says = in-hand hand (record { from = m.hears.peer; to = l.me; bytes = m.hears.bytes })
      m.hears.in_hand speaks in
      let tells = tells-of (control_of m.hears.bytes) h m.hears.peer l.me m.hears.reads says.1 in
      let replies = reply-of h.kind h m.hears.peer l.me m.hears.of_kind tells in
      let session =
      names-of h.server h.to_life (record { node = m.hears.peer; life = h.from_life }) l.me l.life
      h.client h.credits h.status m.names m.for_us replies in
      let us : record { node = l.me; life = l.life } ≡ n =
      ap (λ (z : ℕ). record { node = z; life = l.life }) me
      ∙ ap (λ (z : ℕ). record { node = n.node; life = z }) now in
      rw (m.of_peer, ← us, ← m.of_client, ← m.of_life, ← m.credits) session

  opened-by : (b : Bool) (i : ℕ) (x : Client) → Tied b k n i x → b ≡ false → IsUnjoined k n i x
  opened-by true i x h e = cc
  opened-by false i x h e = h

  connects-good : (i : ℕ) → m.client.way.number ≡ s → GoodClient k n i m.client
      → GoodClient known n i (connects t life m.client)
  connects-good i number c =
      let x = m.client in
      let later = later-noting k connected_fact in
      let was = opened-by (is_joined x.state) i x c.tied (ap is_joined m.connecting) in
      let same : s ≡ i = sym number ∙ c.number in
      let session : IsSession k (record { node = x.way.peer; life = life }) t n i x.limit = rw (← same) session-of in
      let there : Contains known.past (noted n (Connected i t life)) =
      subst (λ (z : ℕ). Contains known.past (noted n (Connected z t life))) same
      (contains-here connected_fact k.past) in
      record {
        number = c.number;
        tied = record {
          end = session.end;
          client = IsClientEnd.connected x.limit
              (contains-more connected_fact _ k.past was.opened) there;
        };
        eight = c.eight;
        fresh = c.fresh;
        calls = rw was.idle tt;
      }

  pub connect-node : (clock : ℕ) → Valid l → Lawful l (Connected s t life)
      → GoodNode known n (after clock l connected_fact.fact)
  connect-node clock valid lawful =
      let later = later-noting k connected_fact in
      let at = client-at k n l.clients s m.client g.clients m.found in
      let count = length-first (is_client s) (connects t life) l.clients in
      record {
        clients = connected-first l.clients g.clients m.found at.1;
        servers = servers-later k known later n l.servers g.servers;
        jobs = jobs-later k known later n l.jobs.out g.jobs;
        no_asks = g.no_asks;
        no_ends = g.no_ends;
        no_starts = λ i r le. g.no_starts i r (omega arith);
        begun = λ i r b is. starts-stay l connected_fact.fact valid lawful clock i b (g.begun i r b is);
        no_runs = λ d r some. g.no_runs d r (run-left l connected_fact.fact valid lawful clock d r some);
      }
    where
      connected-first : (xs : List Client) → Placed (GoodClient k n) xs
          → find (is_client s) xs ≡ Some m.client → m.client.way.number ≡ s
          → Placed (GoodClient known n) (at_first (is_client s) (connects t life) xs)
      connected-first xs all found number =
          first-each (is_client s) (connects t life)
          (λ i z. GoodClient k n i z × (slice_get xs i ≡ Some z))
          (GoodClient known n) xs
          (λ i z h p. let same = found-same k n xs s m.client all found i z h.1 p in
          subst (λ (y : Client). GoodClient k n i y → GoodClient known n i (connects t life y))
          (sym same)
          (connects-good i number) h.0)
          (λ i z h. client-more k known (later-noting k connected_fact) n i z (λ r h. h) h.0)
          (λ i z is. (all i z is, is))

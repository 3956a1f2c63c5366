-- Which server session a control packet names, and what is found of the ends of sessions.
use Rattle.std.proofs.Common.{eqb, get_or, ◌≡◌, ◌≢◌, ℕ, ◌≤◌, ◌<◌, Bool, true, false, ◌&&◌, Option}
use Rattle.std.proofs.Common.{Some, None, List, length, refl, sym, ap, ◌∙◌, arith}
use Rattle.std.specs.Prelude.{IfSome, count_by, is_some, option_map, position, slice_get}
use Rattle.std.specs.List.{find}
use Rattle.std.proofs.lemmas.Bool.{and_parts, eq-eqb, le-ltb, lt-ltb, ne_eqb}
use Rattle.std.proofs.lemmas.List.Quantifiers.{position-Some}
use Rattle.std.proofs.lemmas.Option.{slice_get-get_or, slice_get_within}
use Rattle.rpc_base.proofs.BasicLemmas.{and-false}
use Rattle.rpc_base.proofs.FindLemmas.{at-found}
use Rattle.rpc_base.proofs.FirstLemmas.{count-fewer, found-own}
use Rattle.rpc_base.proofs.TablesLemmas.{find-found, find-missing}
use Rattle.rpc_base.proofs.TakingLemmas.{find-passes}
use Rattle.rpc_base.specs.declared.state.SessionState.{SessionState}
use Rattle.packet_header.specs.declared.packet.ControlHeader.{ControlHeader}
use Rattle.packet_header.specs.declared.packet.ControlKind.{ControlKind}
use Rattle.packet_header.specs.declared.packet.ControlKind.TheVariants.{ConnectReply}
use Rattle.packet_header.specs.declared.packet.ControlKind.TheVariants.{ConnectRequest}
use Rattle.packet_header.specs.declared.packet.ControlKind.TheVariants.{DisconnectReply}
use Rattle.packet_header.specs.declared.packet.ControlKind.TheVariants.{DisconnectRequest}
use Rattle.rpc_laws.specs.declared.tables.Client.{Client}
use Rattle.rpc_laws.specs.declared.tables.Lists.{Lists}
use Rattle.rpc_laws.specs.declared.tables.Server.{Server}
use Rattle.rpc_laws.specs.ControlTable.{is_end_of, is_older, outdated, outdated_by}
use Rattle.rpc_laws.specs.Groups.{shares, state_of}
use Rattle.rpc_laws.specs.Lives.{known_life}
use Rattle.rpc_laws.specs.Requests.{is_server, server_end}
use Rattle.rpc_laws.specs.Sessions.{is_client}
use Rattle.node_laws.specs.Valid.{NumberedFrom, client_no}
use Rattle.session_mgmt.specs.Control.{found_in, other_end, own_end}
use Rattle.session_mgmt.specs.declared.control.Found.{Found}
use Rattle.session_mgmt.specs.declared.control.OtherEnd.{OtherEnd}
use Rattle.session_mgmt.specs.declared.control.OwnEnd.{OwnEnd}
use Rattle.session_ends.specs.declared.side.ClientEnd.{ClientEnd}
use Rattle.session_ends.specs.declared.server.ServerEnd.{ServerEnd}
use Rattle.session_store.specs.Changes.{IsClientEnd, IsEnd}
use Rattle.node_steps.proofs.CallSteps.{client-by}
use Rattle.node_steps.proofs.StatusSteps.{there}
use Rattle.node_steps.proofs.PacketServers.{slice_get-some}

abbrev no-server : Server
no-server = server_end 0 0 0 0 0

-- the session of a number that is the other end of a peer's
module _ (servers : List Server) (t peer client life : ℕ)
    (alone : count_by (is_server t) servers ≤ 1) where
  abbrev wanted : Server → Bool
  wanted v = is_server t v && is_end_of peer client life v

  numbered : (v : Server) → wanted v ≡ true → is_server t v ≡ true
  numbered v e = (and_parts (is_server t v) (is_end_of peer client life v) e).0

  found-number : (w : Server) → find wanted servers ≡ Some w → find (is_server t) servers ≡ Some w
  found-number w e =
      found-own wanted (is_server t) servers w alone e
      (numbered w (find-passes wanted servers w e))

  pub named-at : (i : ℕ) (v : Server) → slice_get servers i ≡ Some v → is_server t v ≡ true
      → is_end_of peer client life v ≡ true → find wanted servers ≡ Some v
  named-at i v place own end =
      let few = count-fewer wanted (is_server t) numbered servers in
      at-found wanted servers i v (omega (arith, alone, few)) place (rw (own, end) refl)

  pub named-other : (i : ℕ) (v : Server) → slice_get servers i ≡ Some v → is_server t v ≡ true
      → is_end_of peer client life v ≡ false → find wanted servers ≡ None
  named-other i v place own end = by (find wanted servers) refl
    where
      found : find (is_server t) servers ≡ Some v
      found = at-found (is_server t) servers i v alone place own

      some-same : (x y : Server) → Some x ≡ Some y → x ≡ y
      some-same x y e = cc

      clash : (b : Bool) → b ≡ true → b ≡ false → false ≡ true
      clash b e f = sym f ∙ e

      by : (o : Option Server) → find wanted servers ≡ o → o ≡ None
      by None e = refl
      by (Some w) e =
          let same : v ≡ w = some-same v w (sym found ∙ found-number w e) in
          let ends : is_end_of peer client life w ≡ true =
          (and_parts (is_server t w) (is_end_of peer client life w) (find-passes wanted servers w e)).1 in
          let no : false ≡ true = sym end ∙ ap (is_end_of peer client life) same ∙ ends in
          cc

  pub named-missing : find (is_server t) servers ≡ None → find wanted servers ≡ None
  named-missing none = by (find wanted servers) refl
    where
      by : (o : Option Server) → find wanted servers ≡ o → o ≡ None
      by None e = refl
      by (Some w) e = let found = sym none ∙ found-number w e in cc

-- the session at a place, by its ends
module _ (servers : List Server) (t peer client life : ℕ)
    (alone : count_by (is_server t) servers ≤ 1) (i : ℕ)
    (at : Some i ≡ position (is_server t) servers) (end : ServerEnd)
    (ends : IfSome (slice_get servers i) (IsEnd end)) where
  within-servers : i < length servers
  within-servers = (position-Some (is_server t) servers i no-server (sym at)).0

  abbrev v : Server
  v = get_or servers i no-server

  stands : slice_get servers i ≡ Some v
  stands = slice_get-get_or servers i no-server within-servers

  its-end : IsEnd end v
  its-end = rw stands at ends

  its-number : is_server t v ≡ true
  its-number =
      find-passes (is_server t) servers v (find-found (is_server t) servers i (sym at) ∙ stands)

  pub ends-here : end.peer ≡ peer → end.client ≡ client → end.life ≡ life
      → (i < length servers) × (find (wanted servers t peer client life alone) servers ≡ slice_get servers i)
  ends-here first second third =
      let one = eq-eqb v.way.peer peer (sym its-end.peer ∙ first) in
      let two = eq-eqb v.way.other client (sym its-end.client ∙ second) in
      let three = eq-eqb v.way.life life (sym its-end.life ∙ third) in (
        within-servers,
        named-at servers t peer client life alone i v stands its-number (rw (one, two, three) refl)
            ∙ sym stands,
      )

  pub other-peer : end.peer ≢ peer → find (wanted servers t peer client life alone) servers ≡ None
  other-peer other =
      let one = ne_eqb v.way.peer peer (λ same. other (its-end.peer ∙ same)) in
      named-other servers t peer client life alone i v stands its-number (rw one refl)

  pub other-client : end.client ≢ client → find (wanted servers t peer client life alone) servers ≡ None
  other-client other =
      let two = ne_eqb v.way.other client (λ same. other (its-end.client ∙ same)) in
      named-other servers t peer client life alone i v stands its-number
      (rw two (and-false (eqb v.way.peer peer)))

  pub other-life : end.life ≢ life → find (wanted servers t peer client life alone) servers ≡ None
  other-life other =
      let three = ne_eqb v.way.life life (λ same. other (its-end.life ∙ same)) in
      named-other servers t peer client life alone i v stands its-number
      (rw (three, and-false (eqb v.way.other client)) (and-false (eqb v.way.peer peer)))

abbrev pub other_of : ServerEnd → OtherEnd
other_of e = record { number = e.session; credits = e.credits }

abbrev pub own_of : SessionState → ClientEnd → OwnEnd
own_of state e = record {
  peer = e.peer;
  state = state;
  credits = e.credits;
  server = e.server;
  life = e.life;
}

-- the other end of a peer's client session, by its place
pub end-found : (servers : List Server) (peer client life i : ℕ) (end : ServerEnd)
    → Some i ≡ position (is_end_of peer client life) servers
    → IfSome (slice_get servers i) (IsEnd end)
    → Some (other_of end) ≡ option_map other_end (find (is_end_of peer client life) servers)
end-found servers peer client life i end at ends =
    let its : Server → Bool = is_end_of peer client life in
    let within = (position-Some its servers i no-server (sym at)).0 in
    let place = slice_get-get_or servers i no-server within in
    let own : IsEnd end (get_or servers i no-server) = rw place at ends in
    rw (find-found its servers i (sym at) ∙ place, own.number, own.credits) refl

-- the client session of a number, by its place
module _ (clients : List Client) (numbered : NumberedFrom client_no 0 clients) (i n : ℕ)
    (same : n ≡ i) where
  pub own-missing : length clients ≤ i → None ≡ option_map own_end (find (is_client n) clients)
  own-missing past = rw (sym (client-by clients i n numbered same)) (by (slice_get clients i) refl)
    where
      by : (o : Option Client) → slice_get clients i ≡ o → None ≡ option_map own_end o
      by None e = refl
      by (Some x) e =
          let within = slice_get_within clients i x e in absurd (omega (arith, past, within))

  pub own-found : (end : ClientEnd) (state : SessionState) → i < length clients
      → IfSome (slice_get clients i) (IsClientEnd end) → state ≡ state_of (slice_get clients i)
      → Some (own_of state end) ≡ option_map own_end (find (is_client n) clients)
  own-found end state within ends is =
      let at = there clients i within in
      let own : IsClientEnd end at.0 = rw at.1 at ends in
      let told = is ∙ ap state_of at.1 in
      rw (sym (client-by clients i n numbered same) ∙ at.1, own.peer, own.credits, own.server, own.life, told)
      refl

-- whether a session is named is whether its place was found
pub named-found : (servers : List Server) (o : Option ℕ) (n : Option Server)
    → IfSome o (λ i. (i < length servers) × (n ≡ slice_get servers i)) → (o ≡ None → n ≡ None)
    → is_some o ≡ is_some n
named-found servers None n found missing = rw (missing refl) refl
named-found servers (Some i) n found missing = by (slice_get servers i) refl
  where
    by : (o : Option Server) → slice_get servers i ≡ o → true ≡ is_some n
    by None e = absurd (slice_get-some servers i found.0 e)
    by (Some v) e = rw (found.1 ∙ e) refl

-- what is found of all of them
abbrev pub found_by : Option OtherEnd → Bool → Option OwnEnd
    → (life known numbers credits ring : ℕ) → Found
found_by end named own life known numbers credits ring = record {
  end = end;
  is_named = named;
  own = own;
  life = life;
  known = known;
  numbers = numbers;
  shares = credits;
  ring = ring;
}

pub found-as : (peer : ℕ) (h : ControlHeader) (s : Lists) (end : Option OtherEnd) (named : Bool)
    (own : Option OwnEnd) (life known numbers credits ring : ℕ) → end ≡ (found_in peer h s).end
    → named ≡ (found_in peer h s).is_named → own ≡ (found_in peer h s).own
    → life ≡ s.life → known ≡ known_life peer s.known → numbers ≡ s.server_numbers → credits ≡ shares s → ring ≡ s.room
    → found_by end named own life known numbers credits ring ≡ found_in peer h s
found-as peer h s end named own life known numbers credits ring e n o l k m c r =
    rw (e, n, o, l, k, m, c, r) refl

-- which session a packet outdates: none unless it is a connect request, nor where it is stale
module _ (peer : ℕ) (h : ControlHeader) (s : Lists) where
  pub outdated-other : h.kind ≢ ConnectRequest → outdated peer h s ≡ None
  outdated-other other = by h.kind refl
    where
      by : (kind : ControlKind) → h.kind ≡ kind → outdated_by kind peer h s ≡ None
      by ConnectRequest e = absurd (other e)
      by ConnectReply e = refl
      by DisconnectRequest e = refl
      by DisconnectReply e = refl

  pub outdated-stale : h.from_life < known_life peer s.known → outdated peer h s ≡ None
  outdated-stale stale = by h.kind
    where
      by : (kind : ControlKind) → outdated_by kind peer h s ≡ None
      by ConnectRequest = rw (lt-ltb h.from_life (known_life peer s.known) stale) refl
      by ConnectReply = refl
      by DisconnectRequest = refl
      by DisconnectReply = refl

  outdated-first : h.kind ≡ ConnectRequest → known_life peer s.known ≤ h.from_life
      → outdated peer h s ≡ find (is_older peer h.from_life) s.servers
  outdated-first kind known =
      rw (kind, le-ltb h.from_life (known_life peer s.known) known) refl

  -- otherwise the first of an older life of the peer
  pub outdated-found : h.kind ≡ ConnectRequest → known_life peer s.known ≤ h.from_life
      → (o : Option ℕ) → o ≡ position (is_older peer h.from_life) s.servers
      → IfSome o (λ i. (i < length s.servers) × (outdated peer h s ≡ slice_get s.servers i))
  outdated-found kind known None at = tt
  outdated-found kind known (Some i) at =
      let its : Server → Bool = is_older peer h.from_life in (
        (position-Some its s.servers i no-server (sym at)).0,
        outdated-first kind known ∙ find-found its s.servers i (sym at),
      )

  pub outdated-missing : h.kind ≡ ConnectRequest → known_life peer s.known ≤ h.from_life
      → (o : Option ℕ) → o ≡ position (is_older peer h.from_life) s.servers → o ≡ None
      → outdated peer h s ≡ None
  outdated-missing kind known o at none =
      outdated-first kind known
      ∙ find-missing (is_older peer h.from_life) s.servers (sym at ∙ none)

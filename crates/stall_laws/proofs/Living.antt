-- Each server session that was made stands while its client session is connected, at each moment.
use Rattle.std.proofs.Common.{◌≡◌, ◌⊎◌, ◌≤◌, ◌+◌, ◌==◌, inl, inr, ℕ, Bool, true, false, length, List}
use Rattle.std.proofs.Common.{Option, Some, slice_get, refl, sym, ap, ◌∙◌, subst, arith, eq-eqb}
use Rattle.std.specs.List.{find, slice_set}
use Rattle.std.proofs.lemmas.Bool.{and_from, eqb-false, eqb-true}
use Rattle.rpc_base.specs.declared.event.Event.TheVariants.{Made, Restarted}
use Rattle.rpc_base.specs.declared.fact.Fact.{Fact}
use Rattle.rpc_base.specs.declared.fact.Who.TheVariants.{Net}
use Rattle.rpc_laws.specs.declared.tables.Client.{Client}
use Rattle.rpc_laws.specs.declared.tables.Lists.{Lists}
use Rattle.rpc_base.proofs.PlaceLemmas.{set-here, set-other}
use Rattle.rpc_laws.specs.declared.tables.Server.{Server}
use Rattle.rpc_laws.specs.BufferSafety.{anew}
use Rattle.rpc_laws.specs.Endpoints.{Endpoint}
use Rattle.rpc_laws.specs.Facts.{plain}
use Rattle.rpc_laws.specs.Front.{front_body, front_header}
use Rattle.rpc_laws.specs.Lives.{first_life}
use Rattle.rpc_laws.specs.NodeLists.{after, new_lists, restarted_lists}
use Rattle.rpc_laws.specs.Requests.{is_server}
use Rattle.rpc_laws.specs.Sessions.{is_connected}
use Rattle.rpc_laws.specs.UsualLimits.{with_ring}
use Rattle.end_laws.specs.Genuine.{Travels}
use Rattle.end_laws.specs.Handshakes.{IsLetGo}
use Rattle.end_laws.specs.Moments.{first_moment, Moment, moved}
use Rattle.end_laws.specs.TwoEnds.{here, peer_of}
use Rattle.end_laws.proofs.Allowed.{MayLeave, MayOutdate}
use Rattle.end_laws.proofs.ClientLemmas.{connected-joined, is-joined}
use Rattle.end_laws.proofs.Courses.{AtNode, Ends, moved-node, paired}
use Rattle.end_laws.proofs.GoodSteps.{next-made, next-net, next-node, next-restart}
use Rattle.end_laws.proofs.Known.{End, Good}
use Rattle.end_laws.proofs.LetGoSteps.{clients-kin, GoneFrom}
use Rattle.end_laws.proofs.OwnLaw.{next-paired}
use Rattle.end_laws.proofs.SendsLaw.{AllRight}
use Rattle.end_laws.proofs.TravelLemmas.{inboxes-made, rings-made, travels-map, travels-net}
use Rattle.end_laws.proofs.TravelLemmas.{travels-node}
use Rattle.end_laws.proofs.TravelLemmas.{travels-paired, travels-restart}
use Rattle.end_laws.proofs.Valids.{AllValid}
use Rattle.ring_laws.proofs.RingLaw.{alive-next, ended-gone, first-met, kin-pair, live-node}
use Rattle.ring_laws.proofs.RingLaw.{live-more, live-pair, sent-leaves, StaysAlive}
use Rattle.ring_laws.proofs.Standing.{Alive, copies-kin, gone-at-kin, GoneAt, HasReached, kin-more}
use Rattle.ring_laws.proofs.Standing.{kin-self, kin-set, LetsGoCopy, LivesIn, NodesKin}
use Rattle.ring_laws.proofs.WithinSteps.{nodes-net}

pub record Living (w : Moment) : Type 0 where
  pub good : Good w
  pub leaves : Travels (LetsGoCopy w.nodes) w
  pub alive : Alive good.known w.nodes

pub first-living : Living first_moment
first-living = record { good = first-met.good; leaves = first-met.leaves; alive = first-met.alive }

pub living-net : (w : Moment) (f : Fact) → f.who ≡ Net → Living w → Living (moved w f)
living-net w f who m =
    let u = moved w f in
    let n = next-net w f who m.good in
    let same : u.nodes ≡ w.nodes = nodes-net w f who in
    let kin : NodesKin w.nodes u.nodes = subst (NodesKin w.nodes) (sym same) (kin-self w.nodes) in
    record {
      good = n.good;
      leaves = travels-map (LetsGoCopy w.nodes) (LetsGoCopy u.nodes) u
          (copies-kin w.nodes u.nodes kin)
          (travels-net (LetsGoCopy w.nodes) w f who m.leaves);
      alive = alive-next m.good.known n.good.known w.nodes u.nodes n.ends n.good.unmade
          (λ a s t life gone. gone-at-kin w.nodes u.nodes a s t life kin gone)
          (λ i t e is live. inl (subst (λ (ns : List Lists). LivesIn ns i t) (sym same) live))
          m.alive;
    }

pub living-node : (w : Moment) (n : ℕ) (l : Lists) (f : Fact) → AtNode w n l f → AllRight w
    → AllValid w
    → Living w → Living (moved w f)
living-node w n l f a i v m =
    let u = moved w f in
    let g = next-node w n l f a i v m.good in
    let set : List Lists = slice_set w.nodes n (after w.clock l f) in
    let nodes_are : u.nodes ≡ set = ap (λ (z : Moment). z.nodes) (moved-node w n l f a) in
    let kin_set : NodesKin w.nodes set =
    kin-set w.nodes n l (after w.clock l f) a.is_node refl
    (clients-kin w.clock l f.event f.first (front_header l.ring) (front_body l.ring)
    (v n l a.is_node) a.lawful) in
    let kin : NodesKin w.nodes u.nodes = subst (NodesKin w.nodes) (sym nodes_are) kin_set in
    let stays : StaysAlive m.good.known w.nodes u.nodes =
    subst (λ (ns : List Lists). StaysAlive m.good.known w.nodes ns) (sym nodes_are)
    (live-node w m.good m.leaves n l f a kin_set) in
    record {
      good = g.good;
      leaves = travels-map (LetsGoCopy w.nodes) (LetsGoCopy u.nodes) u
          (copies-kin w.nodes u.nodes kin)
          (travels-node (LetsGoCopy w.nodes) w n l f a (sent-leaves w n l f.event f.first f.second
          a.is_node (i n l a.is_node) (v n l a.is_node) a.allowed.may) m.leaves);
      alive = alive-next m.good.known g.good.known w.nodes u.nodes g.ends g.good.unmade
          (λ b s t life gone. gone-at-kin w.nodes u.nodes b s t life kin gone) stays m.alive;
    }

pub living-made : (w : Moment) (ring : ℕ) → Living w
    → Living (moved w (plain (length w.nodes) (Made ring)))
living-made w ring m =
    let new = new_lists (length w.nodes) first_life (with_ring ring) in
    let u = moved w (plain (length w.nodes) (Made ring)) in
    let g = next-made w (with_ring ring) m.good in
    let kin : NodesKin w.nodes u.nodes = kin-more w.nodes new in
    let leaves = travels-map (LetsGoCopy w.nodes) (LetsGoCopy u.nodes) w
    (copies-kin w.nodes u.nodes kin) m.leaves in
    record {
      good = g.good;
      leaves = record {
        flight = leaves.flight;
        hand = leaves.hand;
        rings = rings-made (LetsGoCopy u.nodes) w (with_ring ring) leaves;
        inboxes = inboxes-made (LetsGoCopy u.nodes) w (with_ring ring) leaves;
      };
      alive = alive-next m.good.known g.good.known w.nodes u.nodes g.ends g.good.unmade
          (λ a s t life gone. gone-at-kin w.nodes u.nodes a s t life kin gone)
          (λ i t e is live. inl (live-more w.nodes new i t live)) m.alive;
    }

pub living-pair : (w : Moment) (n m credits : ℕ) (client server : Lists)
    (ends : Ends w n m credits client server) → AllRight w → AllValid w → Living w
    → Living (paired w n m credits client server)
living-pair w n m credits client server ends i v h =
    let u = paired w n m credits client server in
    let g = next-paired w n m credits client server ends i v h.good in
    let kin = kin-pair w n m credits client server ends in
    record {
      good = g.good;
      leaves = travels-map (LetsGoCopy w.nodes) (LetsGoCopy u.nodes) u
          (copies-kin w.nodes u.nodes kin)
          (travels-paired (LetsGoCopy w.nodes) w n m credits client server ends h.leaves);
      alive = alive-next h.good.known g.good.known w.nodes u.nodes g.ends g.good.unmade
          (λ a s t life gone. gone-at-kin w.nodes u.nodes a s t life kin gone)
          (λ j t e is live. inl (live-pair w n m credits client server ends j t live)) h.alive;
    }

-- a node is restarted: what its older lives let go of is as it was
module _ (nodes : List Lists) (n : ℕ) (l : Lists) (is : slice_get nodes n ≡ Some l) where
  abbrev new : Lists
  new = restarted_lists l

  abbrev others : List Lists
  others = slice_set nodes n new

  -- each node is there, in the life that it had, or a later one
  record GoesOn (m life : ℕ) (P : Lists → Type 0) : Type 0 where
    lists : Lists
    is_node : slice_get others m ≡ Some lists
    reached : life ≤ lists.life
    holds : lists.life ≡ life → P lists

  goes-on : (m life : ℕ) (z : Lists) (P : Lists → Type 0) → slice_get nodes m ≡ Some z
      → life ≤ z.life → (z.life ≡ life → P z) → GoesOn m life P
  goes-on m life z P at reached holds = by (m == n) refl
    where
      by : (b : Bool) → (m == n) ≡ b → GoesOn m life P
      by true e =
          let same = eqb-true m n e in
          let mine : slice_get nodes n ≡ Some z = ap (slice_get nodes) (sym same) ∙ at in
          let lists : l ≡ z = cc in
          let life_is : l.life ≡ z.life = ap (λ (y : Lists). y.life) lists in
          record {
            lists = new;
            is_node = ap (slice_get others) same ∙ set-here nodes n l new is;
            reached = omega arith;
            holds = λ now. absurd (omega arith);
          }
      by false e =
          record {
            lists = z;
            is_node = set-other nodes n m new (eqb-false m n e) ∙ at;
            reached = reached;
            holds = holds;
          }

  pub gone-restart : (a : Endpoint) (s t life : ℕ) → GoneAt nodes a s t life
      → GoneAt others a s t life
  gone-restart a s t life h =
      let k = goes-on a.node a.life h.lists (λ z. GoneFrom z.clients s t life) h.is_node h.reached
      h.gone in
      record { lists = k.lists; is_node = k.is_node; reached = k.reached; gone = k.holds }

  reached-restart : (m life : ℕ) → HasReached nodes m life → HasReached others m life
  reached-restart m life h =
      let k = goes-on m life h.lists (λ z. Unit {0}) h.is_node h.reached (λ e. tt) in
      record { lists = k.lists; is_node = k.is_node; reached = k.reached }

  pub live-restart : (m : Endpoint) (t : ℕ) → LivesIn nodes m t → LivesIn others m t
  live-restart m t h =
      let k = goes-on m.node m.life h.lists
      (λ z. (v : Server) × (find (is_server t) z.servers ≡ Some v)) h.is_node h.reached h.there in
      record { lists = k.lists; is_node = k.is_node; reached = k.reached; there = k.holds }

  pub copies-restart : (from to : ℕ) (bytes : List ℕ) → LetsGoCopy nodes from to bytes
      → LetsGoCopy others from to bytes
  copies-restart from to bytes c = λ h reads.
      let k = c h reads in (
        reached-restart from h.from_life k.0,
        λ kind t life names goes. gone-restart (record { node = from; life = h.from_life })
            h.client t life (k.1 kind t life names goes),
      )

pub living-restart : (w : Moment) (n : ℕ) (l : Lists) → slice_get w.nodes n ≡ Some l → l.me ≡ n
    → Living w → Living (moved w (plain n (Restarted (l.life + 1))))
living-restart w n l is me m =
    let u = moved w (plain n (Restarted (l.life + 1))) in
    let g = next-restart w n l is me m.good in
    let set = slice_set w.nodes n (restarted_lists l) in
    let same : u.nodes ≡ set = ap (λ (o : Option Lists). anew o n w.nodes) is in
    record {
      good = g.good;
      leaves = travels-map (LetsGoCopy w.nodes) (LetsGoCopy u.nodes) u
          (λ from to bytes c. subst (λ (ns : List Lists). LetsGoCopy ns from to bytes) (sym same)
          (copies-restart w.nodes n l is from to bytes c))
          (travels-restart (LetsGoCopy w.nodes) w n l is m.leaves);
      alive = alive-next m.good.known g.good.known w.nodes u.nodes g.ends g.good.unmade
          (λ a s t life gone. subst (λ (ns : List Lists). GoneAt ns a s t life) (sym same)
          (gone-restart w.nodes n l is a s t life gone))
          (λ a t e known live. inl (subst (λ (ns : List Lists). LivesIn ns a t) (sym same)
          (live-restart w.nodes n l is a t live))) m.alive;
    }

-- where a session is connected, it let nothing of its other end go
not-gone : (w : Moment) (n : ℕ) (l : Lists) (s : ℕ) (x : Client) → slice_get w.nodes n ≡ Some l
    → slice_get l.clients s ≡ Some x → is_connected x.state ≡ true
    → GoneAt w.nodes (here n l) s x.way.other x.way.life → ⊥
not-gone w n l s x is there live over =
    let node = over.is_node in
    let lists : over.lists ≡ l = cc in
    let gone = over.gone (ap (λ (z : Lists). z.life) lists) in
    let here : slice_get l.clients s ≡ Some gone.client =
    subst (λ (z : Lists). slice_get z.clients s ≡ Some gone.client) lists gone.is_there in
    let client : gone.client ≡ x = cc in
    let apart = (subst (λ (y : Client). IsLetGo y x.way.other x.way.life) client
    gone.let_go).apart in
    apart live (and_from (x.way.other == x.way.other) (x.way.life == x.way.life)
    (eq-eqb x.way.other x.way.other refl) (eq-eqb x.way.life x.way.life refl))

own-end : (w : Moment) (g : Living w) (n : ℕ) (l : Lists) (s : ℕ) (x : Client)
    → slice_get w.nodes n ≡ Some l → slice_get l.clients s ≡ Some x → is_connected x.state ≡ true
    → g.good.known.ends (peer_of x.way) x.way.other 0
    ≡ Some (record { home = here n l; client = s; credits = x.limit })
own-end w g n l s x is there live =
    (is-joined g.good.known (here n l) s x (connected-joined x.state live)
    ((g.good.nodes n l is).clients s x there)).end

-- its other end stands, in its life
pub other-stands : (w : Moment) (g : Living w) (n : ℕ) (l : Lists) (s : ℕ) (x : Client)
    → slice_get w.nodes n ≡ Some l → slice_get l.clients s ≡ Some x → is_connected x.state ≡ true
    → LivesIn w.nodes (peer_of x.way) x.way.other
other-stands w g n l s x is there live =
    elim (g.alive (peer_of x.way) x.way.other
    (record { home = here n l; client = s; credits = x.limit })
    (own-end w g n l s x is there live)) [
      | inl stands ↦ stands
      | inr gone ↦ absurd (not-gone w n l s x is there live gone)
    ]

-- and doesn't end
pub other-stays : (w : Moment) (g : Living w) (n : ℕ) (l : Lists) (s : ℕ) (x : Client)
    → slice_get w.nodes n ≡ Some l → slice_get l.clients s ≡ Some x → is_connected x.state ≡ true
    → (m : ℕ) (z : Lists) → slice_get w.nodes m ≡ Some z → m ≡ x.way.peer → z.life ≡ x.way.life
    → MayLeave w.hand z x.way.other ⊎ MayOutdate w.hand z x.way.other → ⊥
other-stays w g n l s x is there live m z node same life may =
    let end : End = record { home = here n l; client = s; credits = x.limit } in
    let at : peer_of x.way ≡ here m z =
    ap (λ (i : ℕ). record { node = i; life = x.way.life }) (sym same)
    ∙ ap (λ (i : ℕ). record { node = m; life = i }) (sym life) in
    let gone = ended-gone w g.good g.leaves m z node x.way.other end
    (subst (λ (a : Endpoint). g.good.known.ends a x.way.other 0 ≡ Some end) at
    (own-end w g n l s x is there live)) may in
    not-gone w n l s x is there live
    (subst (λ (i : ℕ). GoneAt w.nodes (here n l) s x.way.other i) life gone)

-- Server sessions, by their places and their peers, as a packet is served.
use Rattle.std.proofs.Common.{◌≡◌, ℕ, zero, suc, ◌*◌, ◌<◌, Bool, true, false, cond, Option, Some}
use Rattle.std.proofs.Common.{None}
use Rattle.std.proofs.Common.{List, [], ◌∷◌, length, refl, sym, ap, subst, ◌∙◌, arith}
use Rattle.std.specs.Prelude.{◌==◌, IfSome, not, map, slice_get, slice_set}
use Rattle.std.specs.List.{AllByRecursion, position, position_or_len}
use Rattle.rpc_outside.specs.Recording.{Log}
use Rattle.rpc_base.proofs.BasicLemmas.{false-true, found-below, not-false}
use Rattle.std.proofs.lemmas.Bool.{eq-eqb, eqb-true}
use Rattle.std.proofs.lemmas.List.{length-map}
use Rattle.packet_header.specs.declared.packet.MessageHeader.{MessageHeader}
use Rattle.packet_rings.specs.Values.{DatagramValue}
use Rattle.rpc_base.specs.Tables.{at_first}
use Rattle.rpc_base.proofs.TablesLemmas.{find-found}
use Rattle.rpc_base.proofs.TakingLemmas.{find-passes}
use Rattle.rpc_base.proofs.PlaceLemmas.{all-at, set-here}
use Rattle.rpc_laws.specs.declared.tables.Arrival.{Arrival}
use Rattle.rpc_laws.specs.declared.tables.Jobs.{Jobs}
use Rattle.rpc_laws.specs.declared.tables.Lists.{Lists}
use Rattle.rpc_laws.specs.declared.tables.Server.{Server}
use Rattle.rpc_laws.specs.Jobs.{are_full}
use Rattle.rpc_laws.specs.Queues.{replies}
use Rattle.rpc_laws.specs.Requests.{answered, given, is_request, is_server}
use Rattle.rpc_laws.specs.Requests.{took_packet}
use Rattle.rpc_outside.specs.declared.service.Mode.{Mode}
use Rattle.node_laws.specs.Kept.{Kept}
use Rattle.node_laws.proofs.KeptLemmas.{kept-total}
use Rattle.server_core.specs.Steps.{gave, ran, took as took_by}
use Rattle.server_core.specs.declared.step.Step.{Step}
use Rattle.server_core.specs.Scene.{Scene, incoming}
use Rattle.rpc_outside.specs.declared.service.Service as Service
use Rattle.session_store.specs.Serving.{HandlesAt}
use Rattle.session_store.specs.Sides.{Shown}
use Rattle.session_ends.proofs.ListLemmas.{all-set}
use Rattle.node_steps.specs.Fits.{IsSendable}
use Rattle.node_steps.specs.Seen.{Asks, arrival_of, asking_jobs}
use Rattle.node_steps.specs.Requests.{AllServed}
use Rattle.node_steps.specs.Requests.{SlotsServed}
use Rattle.node_steps.proofs.NodeFits.{two-parts}
use Rattle.node_steps.proofs.PacketReplies.{front-there}

-- lists of one session
one-server : (x y : Server) → x ∷ [] ≡ y ∷ [] → x ≡ y
one-server x y e = cc

-- what the first element that passes is changed to twice
module _ {A : Type 0} (p : A → Bool) (f g : A → A) (still : (x : A) → p (g x) ≡ p x) where
  twice-cons : (x : A) (xs : List A) (b : Bool) → p x ≡ b
      → at_first p f (at_first p g xs) ≡ at_first p (λ y. f (g y)) xs
      → at_first p f (cond b (g x ∷ xs) (x ∷ at_first p g xs))
      ≡ cond b (f (g x) ∷ xs) (x ∷ at_first p (λ y. f (g y)) xs)
  twice-cons x xs true t ih = rw (still x ∙ t) refl
  twice-cons x xs false t ih = rw t (ap (λ zs. x ∷ zs) ih)

  pub twice-first : (xs : List A) → at_first p f (at_first p g xs) ≡ at_first p (λ y. f (g y)) xs
  twice-first [] = refl
  twice-first (x ∷ xs) = twice-cons x xs (p x) refl (twice-first xs)

-- the peer of a session that is compared with the front's
pub peers-agree : (o : Option Server) (a : Option Arrival) (v : Server) (x : Arrival) → o ≡ Some v
    → a ≡ Some x → IfSome o (λ w. IfSome a (λ y. w.way.peer ≡ y.peer)) → v.way.peer ≡ x.peer
peers-agree None a v x e f p = cc
peers-agree (Some w) None v x e f p = cc
peers-agree (Some w) (Some y) v x e f p =
    let same : w ≡ v = cc in
    let own : y ≡ x = cc in
    ap (λ (z : Server). z.way.peer) (sym same) ∙ p ∙ ap (λ (z : Arrival). z.peer) own

pub slice_get-some : {A : Type 0} (xs : List A) (i : ℕ) → i < length xs → slice_get xs i ≡ None → ⊥
slice_get-some [] i within e = absurd (omega arith)
slice_get-some (x ∷ xs) zero within e = cc
slice_get-some (x ∷ xs) (suc i) within e = slice_get-some xs i (omega arith) e

pub full-asking : (asks : Asks) (jobs : Jobs) → are_full (asking_jobs asks jobs) ≡ are_full jobs
full-asking asks jobs = rw (length-map jobs.out _) refl

-- what a session is, once it took a packet, and its handler ran or a job was made
module _ (h : MessageHeader) (body : List ℕ) where
  abbrev pub takes : Server → Server
  takes v = record v { slots = took_packet h.request (Some h) body v.slots }

  abbrev pub runs : List ℕ → Server → Server
  runs answer v = record v { slots = at_first (is_request h.request) (answered answer) v.slots }

  abbrev pub gives : Server → Server
  gives v = record v { slots = at_first (is_request h.request) given v.slots }

  alone : (v : Server) → took_by h body v ≡ takes v ∷ []
  alone v = rw (eq-eqb v.way.number v.way.number refl) refl

  pub later-took : (v w : Server) → took_by h body v ≡ w ∷ [] → w ≡ takes v
  later-took v w e = sym (one-server (takes v) w (sym (alone v) ∙ e))

  pub later-ran : (answer : List ℕ) (v w : Server) → ran h body answer v ≡ w ∷ []
      → w ≡ runs answer (takes v)
  later-ran answer v w e =
      let all : ran h body answer v ≡ runs answer (takes v) ∷ [] =
      ap (λ (xs : List Server). at_first (is_server v.way.number) (runs answer) xs) (alone v)
      ∙ rw (eq-eqb v.way.number v.way.number refl) refl in
      sym (one-server (runs answer (takes v)) w (sym all ∙ e))

  pub later-gave : (v w : Server) → gave h body v ≡ w ∷ [] → w ≡ gives (takes v)
  later-gave v w e =
      let all : gave h body v ≡ gives (takes v) ∷ [] =
      ap (λ (xs : List Server). at_first (is_server v.way.number) gives xs) (alone v)
      ∙ rw (eq-eqb v.way.number v.way.number refl) refl in
      sym (one-server (gives (takes v)) w (sym all ∙ e))

-- what is served stays so
pub served-there : (mode_of : ℕ → Mode) (servers : List Server) (i : ℕ) → AllServed mode_of servers
    → IfSome (slice_get servers i) (SlotsServed mode_of)
served-there mode_of servers i all = by (slice_get servers i) refl
  where
    by : (o : Option Server) → slice_get servers i ≡ o → IfSome o (SlotsServed mode_of)
    by None e = tt
    by (Some v) e = all-at (SlotsServed mode_of) servers i v all e

pub served-then : (mode_of : ℕ → Mode) (xs ys : List Server) (i : ℕ) (v w : Server)
    → AllServed mode_of xs → slice_get xs i ≡ Some v → ys ≡ slice_set xs i w
    → IfSome (slice_get ys i) (SlotsServed mode_of) → AllServed mode_of ys
served-then mode_of xs ys i v w all at changed own =
    let there : slice_get ys i ≡ Some w =
    ap (λ (zs : List Server). slice_get zs i) changed ∙ set-here xs i v w at in
    rw changed (all-set (SlotsServed mode_of) xs i w (rw there at own)
    (λ j y e other. all-at (SlotsServed mode_of) xs j y all e))

-- a session at a place that was found has the number
pub number-there : (n i : ℕ) (servers : List Server) → position (is_server n) servers ≡ Some i
    → (i < length servers) × IfSome (slice_get servers i) (λ v. n ≡ v.way.number)
number-there n i servers e = (within-of, by (slice_get servers i) refl)
  where
    within-of : i < length servers
    within-of = (found-below (position_or_len (is_server n) servers) (length servers) i _ refl e).1

    by : (o : Option Server) → slice_get servers i ≡ o → IfSome o (λ v. n ≡ v.way.number)
    by None s = tt
    by (Some v) s =
        sym (eqb-true v.way.number n (find-passes (is_server n) servers v
        (find-found (is_server n) servers i e ∙ s)))

-- a packet by another name of its body
pub as-asked : {V R : Type 0} (v : Service.Ghosts V) (log : R → Log) (me i : ℕ)
    (h : MessageHeader) (full : Bool) (step : Step) (before after : Scene Shown V R)
    (b c : List ℕ) → b ≡ c → HandlesAt v log me i (incoming h b full) step before after
    → HandlesAt v log me i (incoming h c full) step before after
as-asked v log me i h full step before after b c e p =
    subst (λ (z : List ℕ). HandlesAt v log me i (incoming h z full) step before after) e p

-- there is room for a reply
pub has-reply-room : (s : Lists) (size : ℕ) → Kept s → AllByRecursion IsSendable s.queued
    → replies s.queued < s.room → size ≡ 2 * s.room → length s.queued < size
has-reply-room s size kept ready few long =
    omega (arith, two-parts s.queued ready, kept-total s kept, few, long)

-- a peer that was compared
pub differ : (p q r : ℕ) (b : Bool) → b ≡ not (p == q) → b ≡ true → q ≡ r → p ≡ r → ⊥
differ p q r b is t own same =
    let equal : (p == q) ≡ true = eq-eqb p q (same ∙ sym own) in
    let clash : false ≡ true = ap not (sym equal) ∙ sym is ∙ t in
    false-true clash

pub alike : (p q : ℕ) (b : Bool) → b ≡ not (p == q) → b ≡ false → p ≡ q
alike p q b is f = eqb-true p q (not-false (p == q) (sym is ∙ f))

pub peer-there : (servers : List Server) (i p : ℕ) (ds : List DatagramValue) (d : DatagramValue)
    → slice_get ds 0 ≡ Some d → IfSome (slice_get servers i) (λ v. p ≡ v.way.peer) → p ≡ d.peer
    → IfSome (slice_get servers i)
    (λ v. IfSome (slice_get (map arrival_of ds) 0) (λ a. v.way.peer ≡ a.peer))
peer-there servers i p ds d here own same = by (slice_get servers i) own
  where
    by : (o : Option Server) → IfSome o (λ v. p ≡ v.way.peer)
        → IfSome o (λ v. IfSome (slice_get (map arrival_of ds) 0) (λ a. v.way.peer ≡ a.peer))
    by None is = tt
    by (Some v) is = rw (front-there ds d here) (sym is ∙ same)

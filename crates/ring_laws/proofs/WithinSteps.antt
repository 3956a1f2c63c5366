-- Each calm fact keeps what is on its way for a session within its limit.
use Rattle.rpc_base.specs.declared.limits.Limits.{Limits}
use Rattle.rpc_base.specs.declared.event.Event.TheVariants.{Broken}
use Rattle.node_laws.specs.Valid.{Valid}
use Rattle.end_laws.proofs.Known.{Good}
use Rattle.ring_laws.proofs.Loads.{free_in, limit_in}
use Rattle.ring_laws.proofs.FirstLives.{FirstLives}
use Rattle.ring_laws.proofs.Standing.{FitsIn}
use Rattle.std.proofs.Common.{◌≡◌, ◌+◌, ◌≤◌, ◌==◌, ◌&&◌, ℕ, zero, suc, Bool, true, false, cond}
use Rattle.std.proofs.Common.{List, [], ◌∷◌, ◌++◌, length, Option, Some, None, slice_get, refl, sym}
use Rattle.std.proofs.Common.{ap, ◌∙◌, subst, arith}
use Rattle.std.specs.Prelude.{option_to_list}
use Rattle.std.specs.List.{find, slice_set}
use Rattle.std.proofs.lemmas.Bool.{eqb-true, eqb-false}
use Rattle.rpc_base.specs.declared.event.Event.{Event}
use Rattle.rpc_base.specs.declared.event.Event.TheVariants.{Carried, Lost, Repeated}
use Rattle.rpc_base.specs.declared.fact.Fact.{Fact}
use Rattle.rpc_base.specs.declared.fact.Who.{Who}
use Rattle.rpc_base.specs.declared.fact.Who.TheVariants.{Node, Net}
use Rattle.rpc_laws.specs.declared.tables.Client.{Client}
use Rattle.rpc_laws.specs.declared.tables.InFlight.{InFlight}
use Rattle.rpc_laws.specs.declared.tables.Lists.{Lists}
use Rattle.rpc_laws.specs.BufferSafety.{changed, nodes_at}
use Rattle.rpc_laws.specs.Facts.{with_two}
use Rattle.rpc_laws.specs.InFlight.{flight_after_net}
use Rattle.rpc_laws.specs.Lives.{first_life}
use Rattle.rpc_laws.specs.NodeLists.{after, new_lists}
use Rattle.rpc_laws.specs.Pacing.{due_of}
use Rattle.rpc_laws.specs.Sessions.{is_client, client_end}
use Rattle.end_laws.specs.Moments.{Moment, moved, hand_of}
use Rattle.end_laws.proofs.Allowed.{is_owed, owes, carries}
use Rattle.end_laws.proofs.Courses.{made_at, latest, AtNode, Ends, client_fact, server_fact, paired, noted_at, moved-node}
use Rattle.end_laws.proofs.QueueLemmas.{RightNode}
use Rattle.ring_laws.proofs.ClientSteps.{no_roll, client-step, credit-step}
use Rattle.ring_laws.proofs.Counting.{value, count-remove}
use Rattle.ring_laws.proofs.Loads.{Filter, all, Pairing, client_packets, server_packets, free_of}
use Rattle.ring_laws.proofs.Loads.{limit_of, posted_ask, took_reply, sent_ask, sent_reply}
use Rattle.ring_laws.proofs.Loads.{given_ask, given_reply, ask_to, reply_to, on_way, client_part}
use Rattle.ring_laws.proofs.Loads.{server_part, owed, free, limit, load, Within}
use Rattle.ring_laws.proofs.ServerSteps.{server-step}
use Rattle.ring_laws.proofs.WorldSteps.{if_at, flight-node, hand-gives}
use Rattle.rpc_base.proofs.BasicLemmas.{and-false}
use Rattle.rpc_base.proofs.PlaceLemmas.{set-here, set-other}

-- a number of one node, where it changes
pub here-now : (f : Lists → ℕ) (nodes : List Lists) (n k : ℕ) (l m : Lists) → slice_get nodes n ≡ Some l
    → (n == k) ≡ true → value f (slice_get (slice_set nodes n m) k) ≡ f m
here-now f nodes n k l m is e =
    ap (λ (i : ℕ). value f (slice_get (slice_set nodes n m) i)) (sym (eqb-true n k e))
    ∙ ap (value f) (set-here nodes n l m is)

pub here-was : (f : Lists → ℕ) (nodes : List Lists) (n k : ℕ) (l : Lists) → slice_get nodes n ≡ Some l
    → (n == k) ≡ true → value f (slice_get nodes k) ≡ f l
here-was f nodes n k l is e = ap (λ (i : ℕ). value f (slice_get nodes i)) (sym (eqb-true n k e)) ∙ ap (value f) is

pub there-same : (f : Lists → ℕ) (nodes : List Lists) (n k : ℕ) (m : Lists) → (n == k) ≡ false
    → value f (slice_get (slice_set nodes n m) k) ≡ value f (slice_get nodes k)
there-same f nodes n k m e = ap (value f) (set-other nodes n k m (λ same. eqb-false n k e (sym same)))

-- a node that changes keeps a number, or lessens it
pub part-same : (f : Lists → ℕ) (nodes : List Lists) (n k : ℕ) (l m : Lists)
    → slice_get nodes n ≡ Some l → f m ≡ f l
    → value f (slice_get (slice_set nodes n m) k) ≡ value f (slice_get nodes k)
part-same f nodes n k l m is same = by (n == k) refl
  where
    by : (b : Bool) → (n == k) ≡ b → value f (slice_get (slice_set nodes n m) k) ≡ value f (slice_get nodes k)
    by true e = here-now f nodes n k l m is e ∙ (same ∙ sym (here-was f nodes n k l is e))
    by false e = there-same f nodes n k m e

abbrev of-free : Pairing → Lists → ℕ
of-free x l = free_of x.client l.clients

abbrev of-limit : Pairing → Lists → ℕ
of-limit x l = limit_of x.client l.clients

module _ (w : Moment) (n : ℕ) (l : Lists) (e : Event) (first second : List ℕ) (x : Pairing)
    (a : AtNode w n l (with_two n e first second)) (g : Good w) (lives : FirstLives w)
    (i : RightNode l) where
  abbrev now : Lists
  now = after w.clock l (with_two n e first second)

  module _ (p : Filter) where
    node-client : (b : Bool) → (n == x.home) ≡ b
        → client_part p x (slice_set w.nodes n now) + if_at b (sent_ask p x.client e)
        + if_at b (took_reply p x.client e) ≤ client_part p x w.nodes
        + if_at b (posted_ask p x.client e) + if_at b (given_reply p l.life x.client e first)
    node-client true t =
        let step = client-step p x.client (due_of w.clock e l.paces)
        (latest w.past) w.hand l e first second a.allowed.may a.linked in
        let new = here-now (client_packets p x.client) w.nodes n x.home l now a.is_node t in
        let old = here-was (client_packets p x.client) w.nodes n x.home l a.is_node t in
        rw (new, old) step
    node-client false t = let same = there-same (client_packets p x.client) w.nodes n x.home now t in omega arith

    node-server : (b : Bool) → (n == x.node) ≡ b
        → server_part p x (slice_set w.nodes n now) + cond (b && owes p x.session e first) 1 0
        + if_at b (sent_reply p x.session e) ≤ server_part p x w.nodes + owed p x w
        + if_at b (given_ask p l.life x.session e first)
    node-server true t =
        let step = server-step p x.session (due_of w.clock e l.paces)
        (latest w.past) w.hand l e first second a.allowed.may a.linked in
        let new = here-now (server_packets p x.session) w.nodes n x.node l now a.is_node t in
        let old = here-was (server_packets p x.session) w.nodes n x.node l a.is_node t in
        let me : l.me ≡ x.node = a.me ∙ eqb-true n x.node t in
        let owes_it : cond {A = ℕ} (is_owed p l.me x.session (latest w.past)) 1 0
        ≡ cond (is_owed p x.node x.session (latest w.past)) 1 0 =
        ap (λ (k : ℕ). cond {A = ℕ} (is_owed p k x.session (latest w.past)) 1 0) me in
        rw (new, old, ← owes_it) step
    node-server false t = let same = there-same (server_packets p x.session) w.nodes n x.node now t in omega arith

    -- what is on its way for a session, less a reply that is taken, is no more than before, but for what is posted
    pub load-noted : FitsIn g.known w.nodes x
        → load p x (noted_at w n l (with_two n e first second))
        + if_at (n == x.home) (took_reply p x.client e) ≤ load p x w
        + if_at (n == x.home) (posted_ask p x.client e)
    load-noted fits =
        let c = node-client (n == x.home) refl in
        let s = node-server (n == x.node) refl in
        let f = flight-node p w g lives n l x a.is_node fits i w.hand e first second
        a.allowed.may in
        let given = hand-gives p x w n l e first second a.me a.allowed.may a.linked in
        let life = lives.nodes n l a.is_node in
        let home : if_at (n == x.home) (given_reply p l.life x.client e first)
        ≡ if_at (n == x.home) (given_reply p x.home_life x.client e first) =
        ap (λ (k : ℕ). if_at (n == x.home) (given_reply p k x.client e first))
        (life ∙ sym fits.home_life) in
        let node : if_at (n == x.node) (given_ask p l.life x.session e first)
        ≡ if_at (n == x.node) (given_ask p x.node_life x.session e first) =
        ap (λ (k : ℕ). if_at (n == x.node) (given_ask p k x.session e first))
        (life ∙ sym fits.node_life) in
        omega arith

  node-credit : Valid l → no_roll e ≡ true → ((s : ℕ) → e ≡ Broken s → ⊥) → (b : Bool)
      → (n == x.home) ≡ b
      → free x (slice_set w.nodes n now) + if_at b
      (posted_ask all x.client e) + limit x w.nodes ≤ free x w.nodes
      + if_at b (took_reply all x.client e) + limit x (slice_set w.nodes n now)
  node-credit v calm whole true t =
      let step =
      credit-step w.clock x.client w.hand l e first second v a.lawful calm whole a.allowed.may in
      let new = here-now (of-free x) w.nodes n x.home l now a.is_node t in
      let old = here-was (of-free x) w.nodes n x.home l a.is_node t in
      let new_limit = here-now (of-limit x) w.nodes n x.home l now a.is_node t in
      let old_limit = here-was (of-limit x) w.nodes n x.home l a.is_node t in
      rw (new, old, new_limit, old_limit) step
  node-credit v calm whole false t =
      let same = there-same (of-free x) w.nodes n x.home now t in
      let same_limit = there-same (of-limit x) w.nodes n x.home now t in
      omega arith

  pub within-noted : Valid l → no_roll e ≡ true → ((s : ℕ) → e ≡ Broken s → ⊥)
      → FitsIn g.known w.nodes x
      → Within w x → Within (noted_at w n l (with_two n e first second)) x
  within-noted v calm whole fits h =
      let c = load-noted all fits in
      let f = node-credit v calm whole (n == x.home) refl in
      omega arith

-- a fact, spelled out
pub own-fact : (f : Fact) (who : Who) → f.who ≡ who
    → f ≡ record { who = who; event = f.event; first = f.first; second = f.second }
own-fact f who e = ap (λ (p : Who). record { who = p; event = f.event; first = f.first; second = f.second }) e

pub within-node : (w : Moment) (n : ℕ) (l : Lists) (f : Fact) (x : Pairing) → AtNode w n l f
    → (g : Good w) → FirstLives w → RightNode l → Valid l → no_roll f.event ≡ true
    → ((s : ℕ) → f.event ≡ Broken s → ⊥) → FitsIn g.known w.nodes x → Within w x
    → Within (moved w f) x
within-node w n l f x a g lives i v calm whole fits h =
    let e = own-fact f (Node n) (a.allowed.who ∙ ap Node a.me) in
    let at : AtNode w n l (with_two n f.event f.first f.second) = subst (AtNode w n l) e a in
    let k = within-noted w n l f.event f.first f.second x at g lives i v calm whole fits h in
    subst (λ (v : Moment). Within v x) (sym (moved-node w n l f a))
    (subst (λ (g : Fact). Within (noted_at w n l g) x) (sym e) k)

-- what the network repeats
abbrev pub no_repeat : Event → Bool
no_repeat (Repeated i) = false
no_repeat _ = true

net-keeps : (p : Filter) (x : Pairing) (e : Event) (copies : List InFlight) (hand : Option InFlight)
    → no_repeat e ≡ true
    → on_way p x (flight_after_net e copies) + on_way p x
    (cond (carries Net e) (option_to_list (hand_of e copies hand)) []) ≤ on_way p x copies
net-keeps p x (Carried i) copies hand calm =
    let a = count-remove (ask_to p x.node x.node_life x.session) copies i in
    let b = count-remove (reply_to p x.home x.home_life x.client) copies i in
    omega arith
net-keeps p x (Lost i) copies hand calm =
    let a = count-remove (ask_to p x.node x.node_life x.session) copies i in
    let b = count-remove (reply_to p x.home x.home_life x.client) copies i in
    omega arith
net-keeps p x (Repeated i) copies hand calm = cc
net-keeps p x _ copies hand calm = omega arith

load-net-by : (p : Filter) (w : Moment) (e : Event) (first second : List ℕ) (x : Pairing)
    → no_repeat e ≡ true
    → load p x (moved w (record { who = Net; event = e; first = first; second = second })) ≤ load p
    x w
load-net-by p w e first second x calm = let k = net-keeps p x e w.flight w.hand calm in omega arith

pub load-net : (p : Filter) (w : Moment) (f : Fact) (x : Pairing) → f.who ≡ Net
    → no_repeat f.event ≡ true → load p x (moved w f) ≤ load p x w
load-net p w f x who calm =
    subst (λ (g : Fact). load p x (moved w g) ≤ load p x w) (sym (own-fact f Net who))
    (load-net-by p w f.event f.first f.second x calm)

pub nodes-net : (w : Moment) (f : Fact) → f.who ≡ Net → (moved w f).nodes ≡ w.nodes
nodes-net w f who = ap (λ (p : Who). nodes_at w.clock p w.nodes f) who

pub within-net : (w : Moment) (f : Fact) (x : Pairing) → f.who ≡ Net → no_repeat f.event ≡ true
    → Within w x → Within (moved w f) x
within-net w f x who calm h =
    let k = load-net all w f x who calm in
    let a = ap (free x) (nodes-net w f who) in
    let b = ap (limit x) (nodes-net w f who) in
    omega arith

-- a node is made
pub added-by : (f : Lists → ℕ) (nodes : List Lists) (l : Lists) (k : ℕ) → f l ≡ 0
    → value f (slice_get (nodes ++ l ∷ []) k) ≡ value f (slice_get nodes k)
added-by f [] l zero none = none
added-by f [] l (suc k) none = refl
added-by f (z ∷ zs) l zero none = refl
added-by f (z ∷ zs) l (suc k) none = added-by f zs l k none

pub load-made : (p : Filter) (w : Moment) (limits : Limits) (x : Pairing)
    → load p x (made_at w limits) ≤ load p x w
load-made p w limits x =
    let new = new_lists (length w.nodes) first_life limits in
    let c = added-by (client_packets p x.client) w.nodes new x.home (omega arith) in
    let s = added-by (server_packets p x.session) w.nodes new x.node (omega arith) in
    let none : cond {A = ℕ} ((length w.nodes == x.node) && false) 1 0 ≡ 0 =
    rw (and-false (length w.nodes == x.node)) refl in
    omega arith

pub within-made : (w : Moment) (limits : Limits) (x : Pairing) → Within w x
    → Within (made_at w limits) x
within-made w limits x h =
    let new = new_lists (length w.nodes) first_life limits in
    let c = load-made all w limits x in
    let f = added-by (of-free x) w.nodes new x.home refl in
    let k = added-by (of-limit x) w.nodes new x.home refl in
    omega arith

-- a pairing: a new session has all its credits free
new-value : (s : ℕ) (xs : List Client) (c : Client) → free_in c ≡ limit_in c
    → free_of s (xs ++ c ∷ []) + limit_of s xs ≡ free_of s xs + limit_of s (xs ++ c ∷ [])
new-value s [] c e = by (c.way.number == s)
  where
    by : (b : Bool) → value free_in (cond b (Some c) None) + 0
        ≡ 0 + value limit_in (cond b (Some c) None)
    by true = omega arith
    by false = omega arith
new-value s (y ∷ xs) c e = by (y.way.number == s) (new-value s xs c e)
  where
    by : (b : Bool) → free_of s (xs ++ c ∷ []) + limit_of s xs
        ≡ free_of s xs + limit_of s (xs ++ c ∷ [])
        → value free_in (cond b (Some y) (find (is_client s) (xs ++ c ∷ [])))
        + value limit_in (cond b (Some y) (find (is_client s) xs))
        ≡ value free_in (cond b (Some y) (find (is_client s) xs))
        + value limit_in (cond b (Some y) (find (is_client s) (xs ++ c ∷ [])))
    by true ih = omega arith
    by false ih = ih

module _ (w : Moment) (n m credits : ℕ) (client server : Lists) (ends : Ends w n m credits client server) where
  abbrev one : Fact
  one = client_fact n m credits client server

  abbrev other : Fact
  other = server_fact n m credits client server

  abbrev pub lists1 : Lists
  lists1 = after w.clock client one

  abbrev pub lists2 : Lists
  lists2 = after w.clock server other

  abbrev pub nodes1 : List Lists
  nodes1 = slice_set w.nodes n lists1

  abbrev pub nodes2 : List Lists
  nodes2 = slice_set nodes1 m lists2

  pub is_server1 : slice_get nodes1 m ≡ Some server
  is_server1 = set-other w.nodes n m lists1 (λ k. ends.two (sym k)) ∙ ends.is_server

  pub paired-nodes : (paired w n m credits client server).nodes ≡ nodes2
  paired-nodes =
      ap (λ (ns : List Lists). changed w.clock (slice_get ns m) m ns other)
      (ap (λ (o : Option Lists). changed w.clock o n w.nodes one) ends.is_client)
      ∙ ap (λ (o : Option Lists). changed w.clock o m nodes1 other) is_server1

  pair-free : (x : Pairing) (b : Bool) → (n == x.home) ≡ b
      → free x nodes1 + limit x w.nodes ≡ free x w.nodes + limit x nodes1
  pair-free x true t =
      let new = here-now (of-free x) w.nodes n x.home client lists1 ends.is_client t in
      let old = here-was (of-free x) w.nodes n x.home client ends.is_client t in
      let new_limit = here-now (of-limit x) w.nodes n x.home client lists1 ends.is_client t in
      let old_limit = here-was (of-limit x) w.nodes n x.home client ends.is_client t in
      let k = new-value x.client client.clients
      (client_end (length client.clients) m server.server_numbers credits server.life) refl in
      omega arith
  pair-free x false t =
      let a = there-same (of-free x) w.nodes n x.home lists1 t in
      let b = there-same (of-limit x) w.nodes n x.home lists1 t in
      omega arith

  pub load-pair : (p : Filter) (x : Pairing) → load p x (paired w n m credits client server) ≤ load p x w
  load-pair p x =
      let c = part-same (client_packets p x.client) w.nodes n x.home client lists1 ends.is_client refl in
      let c2 = part-same (client_packets p x.client) nodes1 m x.home server lists2 is_server1 refl in
      let s = part-same (server_packets p x.session) w.nodes n x.node client lists1 ends.is_client refl in
      let s2 = part-same (server_packets p x.session) nodes1 m x.node server lists2 is_server1 refl in
      let none : cond {A = ℕ} ((m == x.node) && false) 1 0 ≡ 0 = rw (and-false (m == x.node)) refl in
      let u = ap (client_part p x) paired-nodes in
      let v = ap (server_part p x) paired-nodes in
      omega arith

  pub within-pair : (x : Pairing) → Within w x → Within (paired w n m credits client server) x
  within-pair x h =
      let c = load-pair all x in
      let f = pair-free x (n == x.home) refl in
      let f2 = part-same (of-free x) nodes1 m x.home server lists2 is_server1 refl in
      let k2 = part-same (of-limit x) nodes1 m x.home server lists2 is_server1 refl in
      let q = ap (free x) paired-nodes in
      let r = ap (limit x) paired-nodes in
      omega arith

-- The facts of each node of a joint run are its Made and a run.
use Rattle.std.proofs.Common.{◌≡◌, ◌≤◌, inl, inr, ℕ, false, List, [], ◌∷◌, ◌++◌, length, Option, Some, None}
use Rattle.std.proofs.Common.{slice_get, refl, sym, ap, ◌∙◌, subst, append_assoc, arith}
use Rattle.std.specs.List.{slice_set, AllByRecursion}
use Rattle.rpc_base.specs.declared.event.Event.{Event}
use Rattle.rpc_base.specs.declared.event.Event.TheVariants.{Made, PairedClient, PairedServer, Carried, Restarted}
use Rattle.rpc_base.specs.declared.fact.Fact.{Fact}
use Rattle.rpc_base.proofs.BasicLemmas.{false-true}
use Rattle.rpc_base.proofs.PlaceLemmas.{set-other}
use Rattle.rpc_outside.specs.declared.service.Mode.{Mode}
use Rattle.rpc_laws.specs.declared.tables.Lists.{Lists}
use Rattle.rpc_laws.specs.declared.tables.Timed.{Timed}
use Rattle.rpc_laws.specs.Endpoints.{begins_life}
use Rattle.rpc_laws.specs.Facts.{plain, of_net}
use Rattle.rpc_laws.specs.Lives.{first_life}
use Rattle.rpc_laws.specs.NodeLists.{after_all, new_node}
use Rattle.rpc_laws.specs.Service.{Answers}
use Rattle.rpc_laws.specs.Steps.{Chain, none as no_group, more as more_groups}
use Rattle.node_laws.specs.NodeRun.{Group, Notes, MayPair, pairs_client, pairs_server, refuses, connects}
use Rattle.node_laws.specs.NodeRun.{disconnects, sets_rate, asks, delivers, polls, works, misses}
use Rattle.node_laws.specs.NodeRun.{Refuses, lives_on}
use Rattle.node_laws.specs.Valid.{Valid}
use Rattle.node_laws.proofs.LeadsLemmas.{valid-at}
use Rattle.node_laws.proofs.RunLaws.{group-lawful}
use Rattle.node_laws.proofs.ValidLemmas.{valid_new}
use Rattle.end_laws.specs.JointRun.{Party, Joint, JointStep, JointSteps, JointRun, limits_of, noted_by}
use Rattle.end_laws.specs.JointRun.{MakesNode, PairsNodes, CarriesCopy}
use Rattle.end_laws.specs.JointRun.{makes, acts, pairs, carries, of_network, none, more}
use Rattle.end_laws.proofs.ListLemmas.{Placed, set-placed, add-placed, add-last}
use Rattle.end_laws.proofs.OwnFacts.{Still, Owned, asks-own, connects-own, delivers-own, disconnects-own}
use Rattle.end_laws.proofs.OwnFacts.{AllOwn, is_work, poll-own, rates-own, refusal-idle}
use Rattle.world_laws.specs.JointNodes.{IsPartyRun, PartyRunAt}
use Rattle.world_laws.specs.NodeFacts.{facts_of}
use Rattle.world_laws.proofs.FactLemmas.{AllAt, facts-grow, facts-other, facts-stay, set-none, add-none}
use Rattle.world_laws.proofs.RunLemmas.{life-stays}
use Rattle.world_laws.proofs.WorkLemmas.{AllNode, own-node, worked-cons, times_worked}
use Rattle.std.proofs.lemmas.Option.{slice_get_past}
use Rattle.rpc_laws.specs.Groups.{client_refusal, clients_spent, has_no_room, server_refusal}
use Rattle.rpc_laws.specs.Groups.{servers_spent, shares}

not-still : {l : Lists} → Still false l
not-still e = false-true e

all-at : (n : ℕ) (x : List Fact) → AllNode n x → AllAt n x
all-at n [] a = tt
all-at n (f ∷ x) a = (a.0, all-at n x a.1)

-- the facts of a group are of its node, which keeps its number, and no life begins
pub record Keeps (s : Timed) (x : List Fact) (t : Timed) : Type 0 where
  pub at : AllAt s.lists.me x
  pub begun : AllByRecursion (λ f. begins_life f.event ≡ false) x
  pub me : t.lists.me ≡ s.lists.me

begins-none : (e : Event) → is_work e ≡ false → begins_life e ≡ false
begins-none (Restarted life) h = absurd (cc)
begins-none _ h = refl

own-begun : (n : ℕ) (x : List Fact) → AllOwn false n x → AllByRecursion (λ f. begins_life f.event ≡ false) x
own-begun n [] a = tt
own-begun n (f ∷ x) a = (begins-none f.event a.0.idle, own-begun n x a.1)

owned : (s : Timed) (x : List Fact) (t : Timed) → Owned false s x t → Keeps s x t
owned s x t o = record {
  at = all-at s.lists.me x (own-node s.lists.me x o.facts);
  begun = own-begun s.lists.me x o.facts;
  me = o.me;
}

refused : (credits : ℕ) (e : Event) (s : Timed) → Refuses credits e s → begins_life e ≡ false
refused credits e s (inl r) =
    begins-none e (refusal-idle (clients_spent s.lists) (has_no_room credits s.lists) (shares s.lists)
    credits s.lists.room e r)
refused credits e s (inr r) =
    begins-none e (refusal-idle (servers_spent s.lists) (has_no_room credits s.lists) (shares s.lists)
    credits s.lists.room e r)

noted : (e : Event) → begins_life e ≡ false → (s : Timed) (x : List Fact) (t : Timed) → Notes e s x t
    → Keeps s x t
noted e quiet s x t h = record {
  at = rw h.facts (refl, tt);
  begun = rw h.facts (quiet, tt);
  me = ap (λ (u : Timed). u.lists.me) h.goes ∙ ap (λ (y : List Fact). (after_all s.clock s.lists y).me) h.facts;
}

pub group-keeps : (mode : ℕ → Mode) (s : Timed) (x : List Fact) (t : Timed) → Group mode s x t → Keeps s x t
group-keeps mode s x t (pairs_client peer server credits life may h) = noted _ refl s x t h
group-keeps mode s x t (pairs_server peer client credits life may h) = noted _ refl s x t h
group-keeps mode s x t (refuses credits few e r h) = noted e (refused credits e s r) s x t h
group-keeps mode s x t (connects peer credits rate few h) =
    owned s x t (connects-own false (λ e. false-true e) peer credits rate s x t not-still h)
group-keeps mode s x t (disconnects session h) =
    owned s x t (disconnects-own false (λ e. false-true e) session s x t not-still h)
group-keeps mode s x t (sets_rate session rate h) = owned s x t (rates-own false session rate s x t not-still h)
group-keeps mode s x t (asks session req_type ask room h) =
    owned s x t (asks-own false session req_type ask room s x t not-still h)
group-keeps mode s x t (delivers peer bytes h) =
    owned s x t (delivers-own false peer bytes (λ e. false-true e) s x t not-still h)
group-keeps mode s x t (polls now h) = owned s x t (poll-own false mode now s x t not-still h)
group-keeps mode s x t (works session request out h) = noted _ refl s x t h
group-keeps mode s x t (misses i h) = noted _ refl s x t h

-- these facts are node n's Made, and then groups that lead from a new node to t
record IsChain (p : Party) (n : ℕ) (facts : List Fact) (t : Timed) : Type 0 where
  ring : ℕ
  later : List Fact
  made : facts ≡ plain n (Made ring) ∷ later
  steps : Chain (Group p.serving.mode) (new_node n first_life (limits_of p ring)) later t
  me : t.lists.me ≡ n

record Runs (parties : ℕ → Party) (h : List Fact) (nodes : List Timed) : Type 0 where
  placed : Placed (λ n t. IsChain (parties n) n (facts_of n h) t) nodes
  others : (n : ℕ) → slice_get nodes n ≡ None → facts_of n h ≡ []

chain-same : (p : Party) (n : ℕ) (x y : List Fact) (t : Timed) → x ≡ y → IsChain p n y t → IsChain p n x t
chain-same p n x y t e c = record { ring = c.ring; later = c.later; made = e ∙ c.made; steps = c.steps; me = c.me }

-- a group of node n
group-runs : (parties : ℕ → Party) (h : List Fact) (nodes : List Timed) (n : ℕ) (before now : Timed) (x : List Fact)
    → Runs parties h nodes → slice_get nodes n ≡ Some before → Group (parties n).serving.mode before x now
    → Runs parties (h ++ x) (slice_set nodes n now)
group-runs parties h nodes n before now x r is g =
    let was = r.placed n before is in
    let k = group-keeps (parties n).serving.mode before x now g in
    let at : AllAt n x = subst (λ (i : ℕ). AllAt i x) was.me k.at in
    let here : IsChain (parties n) n (facts_of n (h ++ x)) now =
    record {
      ring = was.ring;
      later = was.later ++ x;
      made = facts-grow n h x at ∙ ap (λ (y : List Fact). y ++ x) was.made;
      steps = more_groups was.steps x now g;
      me = k.me ∙ was.me;
    } in
    record {
      placed = set-placed (λ n t. IsChain (parties n) n (facts_of n (h ++ x)) t) nodes n before now is here
          (λ j z ne is. chain-same (parties j) j (facts_of j (h ++ x)) (facts_of j h) z
          (facts-stay j h x (facts-other n j x (λ e. ne (sym e)) at)) (r.placed j z is));
      others = λ j e.
          let was_none = set-none nodes n j now e in
          facts-stay j h x (facts-other n j x (λ same. let both : Some before ≡ None = sym is ∙ (ap (slice_get nodes) same ∙ was_none) in cc) at) ∙ r.others j was_none;
    }

-- facts of no node
quiet-runs : (parties : ℕ → Party) (h : List Fact) (nodes : List Timed) (x : List Fact)
    → ((n : ℕ) → facts_of n x ≡ []) → Runs parties h nodes → Runs parties (h ++ x) nodes
quiet-runs parties h nodes x quiet r = record {
  placed = λ j z is. chain-same (parties j) j (facts_of j (h ++ x)) (facts_of j h) z (facts-stay j h x (quiet j)) (r.placed j z is);
  others = λ j e. facts-stay j h x (quiet j) ∙ r.others j e;
}

past-none : (nodes : List Timed) (j n : ℕ) (z : Timed) → n ≡ length nodes → slice_get nodes j ≡ Some z → n ≡ j → ⊥
past-none nodes j n z size is e =
    let none : slice_get nodes (length nodes) ≡ None = slice_get_past nodes (length nodes) (omega arith) in cc

made-runs : (parties : ℕ → Party) (h : List Fact) (s : Joint) (x : List Fact) (t : Joint)
    → Runs parties h s.nodes → MakesNode parties s x t → Runs parties (h ++ x) t.nodes
made-runs parties h s x t r m =
    let n = length s.nodes in
    let one : List Fact = plain n (Made m.ring) ∷ [] in
    let new : Timed = new_node n first_life (limits_of (parties n) m.ring) in
    let past : slice_get s.nodes n ≡ None = slice_get_past s.nodes n (omega arith) in
    let facts : facts_of n (h ++ one) ≡ one =
    facts-grow n h one (refl, tt) ∙ ap (λ (y : List Fact). y ++ one) (r.others n past) in
    let here : IsChain (parties n) n (facts_of n (h ++ one)) new =
    record { ring = m.ring; later = []; made = facts; steps = no_group; me = refl } in
    rw (m.facts, m.left) (record {
      placed = add-placed (λ n t. IsChain (parties n) n (facts_of n (h ++ one)) t) s.nodes new here
          (λ j z is. chain-same (parties j) j (facts_of j (h ++ one)) (facts_of j h) z
          (facts-stay j h one (facts-other n j one (past-none s.nodes j n z refl is) (refl, tt)))
          (r.placed j z is));
      others = λ j e.
          facts-stay j h one (facts-other n j one (λ same. let last = add-last s.nodes new in let both : Some new ≡ None = sym last ∙ (ap (slice_get (s.nodes ++ new ∷ [])) same ∙ e) in cc) (refl, tt)) ∙ r.others j (add-none s.nodes new j e);
    })

pairs-runs : (parties : ℕ → Party) (h : List Fact) (s : Joint) (x : List Fact) (t : Joint)
    → Runs parties h s.nodes → PairsNodes s x t → Runs parties (h ++ x) t.nodes
pairs-runs parties h s x t r p =
    let a = p.a in
    let b = p.b in
    let client = p.client in
    let server = p.server in
    let c = client.lists in
    let v = server.lists in
    let one : Fact = plain c.me (PairedClient (length c.clients) b v.server_numbers p.credits v.life) in
    let other : Fact = plain v.me (PairedServer v.server_numbers a (length c.clients) p.credits c.life) in
    let may_client : MayPair (client_refusal p.credits c) v.server_numbers p.credits =
    record { credits_fit = p.few; other_is = p.low_server; fits = p.client_fits } in
    let may_server : MayPair (server_refusal p.credits v) (length c.clients) p.credits =
    record { credits_fit = p.few; other_is = p.low_client; fits = p.server_fits } in
    let first = group-runs parties h s.nodes a client (noted_by client one) (one ∷ []) r p.is_client
    (pairs_client b v.server_numbers p.credits v.life may_client (record { facts = refl; goes = refl })) in
    let is_there : slice_get (slice_set s.nodes a (noted_by client one)) b ≡ Some server =
    set-other s.nodes a b (noted_by client one) (λ e. p.two (sym e)) ∙ p.is_server in
    let second = group-runs parties (h ++ one ∷ []) (slice_set s.nodes a (noted_by client one)) b server
    (noted_by server other) (other ∷ []) first is_there
    (pairs_server a (length c.clients) p.credits c.life may_server (record { facts = refl; goes = refl })) in
    rw (p.facts, p.left, p.for_client, p.for_server)
    (subst (λ (y : List Fact). Runs parties y (slice_set (slice_set s.nodes a (noted_by client one)) b (noted_by server other)))
    (append_assoc h (one ∷ []) (other ∷ [])) second)

carries-runs : (parties : ℕ → Party) (h : List Fact) (s : Joint) (x : List Fact) (t : Joint)
    → Runs parties h s.nodes → CarriesCopy s x t → Runs parties (h ++ x) t.nodes
carries-runs parties h s x t r c =
    let net : List Fact = of_net (Carried c.number) ∷ [] in
    let first = quiet-runs parties h s.nodes net (λ n. refl) r in
    let second = group-runs parties (h ++ net) s.nodes c.copy.to c.before c.now c.delivered first c.is_node
    (delivers c.copy.from c.copy.bytes c.delivers) in
    rw (c.facts, c.left) (subst (λ (y : List Fact). Runs parties y (slice_set s.nodes c.copy.to c.now))
    (append_assoc h net c.delivered) second)

step-runs : (parties : ℕ → Party) (h : List Fact) (s : Joint) (x : List Fact) (t : Joint)
    → Runs parties h s.nodes → JointStep parties s x t → Runs parties (h ++ x) t.nodes
step-runs parties h s x t r (makes m) = made-runs parties h s x t r m
step-runs parties h s x t r (acts a) =
    rw a.left (group-runs parties h s.nodes a.node a.before a.now x r a.is_node a.group.group)
step-runs parties h s x t r (pairs p) = pairs-runs parties h s x t r p
step-runs parties h s x t r (carries c) = carries-runs parties h s x t r c
step-runs parties h s x t r (of_network n) =
    rw (n.facts, n.left) (quiet-runs parties h s.nodes (of_net n.event ∷ []) (λ i. refl) r)

steps-run : (parties : ℕ → Party) {h : List Fact} {t : Joint} → JointSteps parties h t → Runs parties h t.nodes
steps-run parties none = record { placed = λ j z is. absurd (cc); others = λ n e. refl }
steps-run parties (more {x = x} {t = t} c y u s) = step-runs parties x t y u (steps-run parties c) s

run-at : (p : Party) (n : ℕ) (facts : List Fact) (t : Timed) → IsChain p n facts t
    → ((s r : ℕ) → times_worked s r facts ≤ 1) → Answers p.serving [] facts → IsPartyRun p n facts t
run-at p n facts t c few a =
    let answers : Answers p.serving [] (plain n (Made c.ring) ∷ c.later) = subst (Answers p.serving []) c.made a in
    record {
      ring = c.ring;
      later = c.later;
      made = c.made;
      run = lives_on first_life c.later t (record {
        steps = c.steps;
        worked_once = λ s k.
            let count = ap (times_worked s k) c.made ∙ worked-cons s k (plain n (Made c.ring)) c.later in
            let one = few s k in
            omega arith;
        answers = answers.1;
      });
    }

run-by : (parties : ℕ → Party) (h : List Fact) (t : Joint) → JointRun parties h t → Runs parties h t.nodes
    → (n : ℕ) (o : Option Timed) → slice_get t.nodes n ≡ o → PartyRunAt (parties n) n (facts_of n h) o
run-by parties h t run r n (Some z) is = run-at (parties n) n (facts_of n h) z (r.placed n z is) (run.worked_once n) (run.answers n)
run-by parties h t run r n None is = r.others n is

-- each node lives its first life
chain-life : (mode : ℕ → Mode) (s : Timed) → Valid s.lists → {x : List Fact} {t : Timed}
    → Chain (Group mode) s x t → Valid t.lists × (t.lists.life ≡ s.lists.life)
chain-life mode s v no_group = (v, refl)
chain-life mode s v (more_groups {x = front} {t = between} c y u g) =
    let before = chain-life mode s v c in
    let l = group-lawful mode between y u before.0 g in (
      valid-at (record between { clock = l.clock }) y u before.0 l.leads,
      ap (λ (k : Lists). k.life) l.leads.lists ∙ (life-stays l.clock between.lists y ∙ before.1),
    )

pub joint-life : (parties : ℕ → Party) (h : List Fact) (t : Joint) → JointSteps parties h t
    → (n : ℕ) (z : Timed) → slice_get t.nodes n ≡ Some z → z.lists.life ≡ first_life
joint-life parties h t steps n z is =
    let c = (steps-run parties steps).placed n z is in
    let new : Timed = new_node n first_life (limits_of (parties n) c.ring) in
    (chain-life (parties n).serving.mode new (valid_new n first_life (limits_of (parties n) c.ring)) c.steps).1

pub joint-nodes : (parties : ℕ → Party) (h : List Fact) (t : Joint) → JointRun parties h t
    → (n : ℕ) → PartyRunAt (parties n) n (facts_of n h) (slice_get t.nodes n)
joint-nodes parties h t run n = run-by parties h t run (steps-run parties run.steps) n (slice_get t.nodes n) refl

-- Each reply that is queued is of a request that stands, so its server session stands too.
use Rattle.rpc_base.specs.declared.limits.Limits.{Limits}
use Rattle.std.proofs.Common.{◌≡◌, ◌==◌, ◌||◌, ℕ, zero, suc, Bool, true}
use Rattle.std.proofs.Common.{List, [], ◌∷◌, length}
use Rattle.std.proofs.Common.{Option, Some, None, slice_get, refl, sym, ap, ◌∙◌, subst, eq-eqb}
use Rattle.std.specs.List.{find, list_any}
use Rattle.std.proofs.lemmas.Bool.{and_from}
use Rattle.rpc_base.specs.Owners.{same_owner}
use Rattle.rpc_base.specs.declared.fact.Fact.{Fact}
use Rattle.rpc_base.specs.declared.fact.Who.TheVariants.{Net}
use Rattle.rpc_base.specs.declared.owner.Owner.TheVariants.{Reply}
use Rattle.rpc_base.proofs.BasicLemmas.{false-true, or-true}
use Rattle.rpc_laws.specs.declared.tables.Lists.{Lists}
use Rattle.rpc_laws.specs.declared.tables.Queued.{Queued}
use Rattle.rpc_laws.specs.declared.tables.Served.{Served}
use Rattle.rpc_laws.specs.declared.tables.Server.{Server}
use Rattle.rpc_laws.specs.Front.{front_body}
use Rattle.rpc_laws.specs.Lives.{first_life}
use Rattle.rpc_laws.specs.NodeLists.{after, new_lists}
use Rattle.rpc_laws.specs.Pacing.{due_of}
use Rattle.rpc_laws.specs.Requests.{is_request, is_server, request_of}
use Rattle.node_laws.proofs.Allowed.{Allowed}
use Rattle.node_laws.proofs.LookLemmas.{request_on}
use Rattle.node_laws.proofs.StandLemmas.{Standing, standing-after}
use Rattle.node_laws.specs.Valid.{Valid}
use Rattle.end_laws.specs.Moments.{first_moment, Moment, moved}
use Rattle.end_laws.proofs.Courses.{made_at, AtNode, client_fact, Ends, moved-node, paired, server_fact}
use Rattle.end_laws.proofs.ListLemmas.{add-placed, Placed, set-placed}
use Rattle.end_laws.proofs.Valids.{AllValid}
use Rattle.ring_laws.proofs.WithinSteps.{is_server1, lists1, lists2, nodes-net, nodes1}
use Rattle.ring_laws.proofs.WithinSteps.{paired-nodes}

-- no reply to a request that doesn't stand is queued at a node
abbrev RepliesStand : ℕ → Lists → Type 0
RepliesStand n l = Standing l.servers l.queued

abbrev pub AllRepliesStand : Moment → Type 0
AllRepliesStand w = Placed RepliesStand w.nodes

stand-after : (clock n : ℕ) (l : Lists) (f : Fact) → Valid l → Allowed l f.event → RepliesStand n l
    → RepliesStand n (after clock l f)
stand-after clock n l f v a h =
    standing-after f.event (due_of clock f.event l.paces) f.second (front_body l.ring) l v h a

pub replies-first : AllRepliesStand first_moment
replies-first = λ j z is. absurd (cc)

pub replies-net : (w : Moment) (f : Fact) → f.who ≡ Net → AllRepliesStand w
    → AllRepliesStand (moved w f)
replies-net w f who h =
    subst (Placed RepliesStand) (sym (nodes-net w f who)) h

pub replies-made : (w : Moment) (limits : Limits) → AllRepliesStand w
    → AllRepliesStand (made_at w limits)
replies-made w limits h =
    add-placed RepliesStand w.nodes (new_lists (length w.nodes) first_life limits)
    (λ t r none. refl) h

pub replies-node : (w : Moment) (n : ℕ) (l : Lists) (f : Fact) → AtNode w n l f → AllValid w
    → AllRepliesStand w → AllRepliesStand (moved w f)
replies-node w n l f a v h =
    subst AllRepliesStand (sym (moved-node w n l f a))
    (set-placed RepliesStand w.nodes n l (after w.clock l f) a.is_node
    (stand-after w.clock n l f (v n l a.is_node) a.lawful (h n l a.is_node))
    (λ j z ne is. h j z is))

pub replies-pair : (w : Moment) (n m credits : ℕ) (client server : Lists)
    → Ends w n m credits client server → AllValid w → AllRepliesStand w
    → AllRepliesStand (paired w n m credits client server)
replies-pair w n m credits client server ends v h =
    let first : Placed RepliesStand (nodes1 w n m credits client server ends) =
    set-placed RepliesStand w.nodes n client (lists1 w n m credits client server ends)
    ends.is_client
    (stand-after w.clock n client (client_fact n m credits client server)
    (v n client ends.is_client) (record { numbered = refl; room = ends.fits_client })
    (h n client ends.is_client)) (λ j z ne is. h j z is) in
    subst (Placed RepliesStand) (sym (paired-nodes w n m credits client server ends))
    (set-placed RepliesStand (nodes1 w n m credits client server ends) m server
    (lists2 w n m credits client server ends) (is_server1 w n m credits client server ends)
    (stand-after w.clock m server (server_fact n m credits client server)
    (v m server ends.is_server) (record { numbered = refl; room = ends.fits_server })
    (h m server ends.is_server)) (λ j z ne is. first j z is))

-- the request of a reply that is queued
pub record RepliesTo (l : Lists) (t r : ℕ) : Type 0 where
  pub server : Server
  pub found : find (is_server t) l.servers ≡ Some server
  pub request : Served
  pub is_there : find (is_request r) server.slots ≡ Some request

any-at : (p : Queued → Bool) (qs : List Queued) (i : ℕ) (q : Queued) → slice_get qs i ≡ Some q
    → p q ≡ true → list_any p qs ≡ true
any-at p [] i q is passes = cc
any-at p (x ∷ qs) zero q is passes =
    let same : x ≡ q = cc in
    ap (λ (b : Bool). b || list_any p qs) (ap p same ∙ passes)
any-at p (x ∷ qs) (suc i) q is passes = rw (any-at p qs i q is passes) (or-true (p x))

pub replies-to : (l : Lists) (i t r k : ℕ) (due : Option ℕ) → Standing l.servers l.queued
    → slice_get l.queued i ≡ Some (record { owner = Reply t r; number = k; due = due })
    → RepliesTo l t r
replies-to l i t r k due stands at = by-server (find (is_server t) l.servers) refl
  where
    standing : request_of t r l.servers ≡ None → RepliesTo l t r
    standing none =
        let own : same_owner (Reply t r) (Reply t r) ≡ true =
        and_from (t == t) (r == r) (eq-eqb t t refl) (eq-eqb r r refl) in
        let any = any-at (λ q. same_owner q.owner (Reply t r)) l.queued i _ at own in
        false-true (sym (stands t r none) ∙ any)

    by-request : (v : Server) (o : Option Served) → find (is_server t) l.servers ≡ Some v
        → find (is_request r) v.slots ≡ o → RepliesTo l t r
    by-request v None found is = standing (ap (λ s. request_on r s) found ∙ is)
    by-request v (Some q) found is =
        record { server = v; found = found; request = q; is_there = is }

    by-server : (o : Option Server) → find (is_server t) l.servers ≡ o → RepliesTo l t r
    by-server None found = standing (ap (λ s. request_on r s) found)
    by-server (Some v) found = by-request v (find (is_request r) v.slots) found refl

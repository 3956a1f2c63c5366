-- Where a packet of a request is taken, no reply to an older one of its slot is queued, and none is posted later.
use Rattle.std.proofs.Common.{◌≡◌, ℕ, ◌≤◌, Bool, true, false, ◌&&◌, Option, Some, None, List, []}
use Rattle.std.proofs.Common.{◌∷◌, refl, sym, ◌∙◌, arith}
use Rattle.std.specs.Prelude.{◌==◌}
use Rattle.std.specs.List.{find, list_any}
use Rattle.std.proofs.lemmas.Bool.{and_parts, eqb-true}
use Rattle.rpc_base.specs.declared.event.Event.{Event}
use Rattle.rpc_base.specs.declared.event.Event.TheVariants.{Posted, Took}
use Rattle.rpc_base.specs.declared.fact.Fact.{Fact}
use Rattle.rpc_base.specs.declared.limits.Limits.{Limits}
use Rattle.rpc_base.specs.declared.owner.Owner.TheVariants.{Ask, Reply, Control}
use Rattle.rpc_laws.specs.declared.tables.Lists.{Lists}
use Rattle.rpc_laws.specs.declared.tables.Served.{Served}
use Rattle.rpc_laws.specs.Front.{front_header, front_body}
use Rattle.rpc_laws.specs.NodeLists.{after, new_lists}
use Rattle.rpc_laws.specs.Pacing.{due_of}
use Rattle.rpc_laws.specs.Requests.{is_server, is_request, in_slot_of, servers_after, server_numbers_after}
use Rattle.rpc_laws.specs.Requests.{request_of}
use Rattle.node_laws.specs.EndedCalls.{queued_by}
use Rattle.node_laws.specs.Laws.{OlderRequestsAreNotQueued}
use Rattle.node_laws.specs.OlderRequests.{takes_request, posts_reply, IsOlder, GivesUp, BeginsClean}
use Rattle.node_laws.proofs.Allowed.{Allowed, NoneQueued, MayServe, Stands, Leads}
use Rattle.rpc_base.proofs.FindLemmas.{missing-none}
use Rattle.node_laws.proofs.LeftLemmas.{falls-always, own-slot, same-slot}
use Rattle.node_laws.proofs.NewestLemmas.{stands-slot, own-left, older-over}
use Rattle.node_laws.proofs.PutLemmas.{Alike, alike-no-more, alike-after}
use Rattle.node_laws.proofs.QueueLemmas.{none-stays}
use Rattle.node_laws.proofs.RunLaws.{run_leads}
use Rattle.node_laws.proofs.ServantLemmas.{left-after}
use Rattle.node_laws.proofs.StandLemmas.{Standing, standing-after, own-found, own-numbered, older-clean}
use Rattle.rpc_base.proofs.FirstLemmas.{found-holds}
use Rattle.node_laws.specs.Valid.{SoundServer, left_of, left, Valid}
use Rattle.node_laws.proofs.ValidLemmas.{valid_after, valid_new}
use Rattle.rpc_base.proofs.TakingLemmas.{find-passes}

-- nothing of a request is posted where nothing of it may come
module _ (t r : ℕ) where
  post-by : (n k : ℕ) (s : Lists) (b : Bool) → (n == t && k == r) ≡ b → Valid s
      → left (λ q. true) t r s.server_numbers s.servers ≤ 0 → Stands s.servers n k → b ≡ false
  post-by n k s true e v none a =
      let parts = and_parts (n == t) (k == r) e in
      let session : n ≡ t = eqb-true n t parts.0 in
      let request : k ≡ r = eqb-true k r parts.1 in
      let found : request_of t r s.servers ≡ Some a.served = rw (session, request) at a.found in
      let own = stands-slot (λ q. true) t r r refl s.server_numbers s.servers v.served a.served found in
      let zero : left_of (λ q. true) r (Some a.served) ≤ 0 = rw own.0 at none in
      absurd (own-left r a.served.number own.1 zero)
  post-by n k s false e v none a = refl

  post-none : (e : Event) (s : Lists) → Valid s
      → left (λ q. true) t r s.server_numbers s.servers ≤ 0 → Allowed s e
      → posts_reply t r e ≡ false
  post-none (Posted (Reply n k) i) s v none a = post-by n k s (n == t && k == r) refl v none a
  post-none (Posted (Ask n k) i) s v none a = refl
  post-none (Posted Control i) s v none a = refl
  post-none _ s v none a = refl

  never-posted : (s : Lists) (g : List Fact) (u : Lists) → Valid s
      → left (λ q. true) t r s.server_numbers s.servers ≤ 0 → Leads s g u
      → list_any (λ f. posts_reply t r f.event) g ≡ false
  never-posted s [] u v none l = refl
  never-posted s (f ∷ g) u v none l =
      let here = post-none f.event s v none l.1 in
      let next = after l.0 s f in
      let less = left-after (λ q. true) (falls-always true) t r f.event f.second
      (front_header s.ring) (front_body s.ring) s v l.1 in
      let none_next : left (λ q. true) t r next.server_numbers next.servers ≤ 0 = omega arith in
      let rest = never-posted next g u (valid_after l.0 s f v l.1) none_next l.2 in
      rw here rest

-- a packet of request r is taken: what that says of an older one
module _ (s : Lists) (valid : Valid s) (standing : Standing s.servers s.queued) (t r : ℕ)
    (a : MayServe s t r) (old : ℕ) (older : IsOlder old r) where
  -- the two don't stand in one slot
  not-both : (q : Served) → request_of t old s.servers ≡ Some q → find (is_request r) a.server.slots ≡ Some q → ⊥
  not-both q e found =
      let one = own-numbered s valid standing t r a [] old q e in
      let two : q.number ≡ r = eqb-true q.number r (find-passes (is_request r) a.server.slots q found) in
      let below = older.below in
      absurd (omega arith)

  in-slot : (q p : Served) → request_of t old s.servers ≡ Some q → find (is_request r) a.server.slots ≡ Some p → q ≡ p
  in-slot q p e found =
      let mine = own-slot r a.server p (found-holds (is_server t) SoundServer s.servers a.server
      valid.served a.found) found in
      let its : find (in_slot_of r) a.server.slots ≡ Some q =
      same-slot r old (sym older.slot) a.server.slots
      ∙ own-found s valid standing t r a [] old q e in
      cc

  unqueued-by : (q : Served) → request_of t old s.servers ≡ Some q → (o : Option Served)
      → find (is_request r) a.server.slots ≡ o → NoneQueued (Reply t old) s.queued
  unqueued-by q e None found =
      older-clean s valid standing t r a [] old q (sym older.slot)
      (missing-none (is_request r) a.server.slots found) e
  unqueued-by q e (Some p) found =
      let same = in-slot q p e found in absurd (not-both q e (rw same found))

  older-by : (o : Option Served) → request_of t old s.servers ≡ o → NoneQueued (Reply t old) s.queued
  older-by None e = standing t old e
  older-by (Some q) e = unqueued-by q e (find (is_request r) a.server.slots) refl

  pub older-unqueued : NoneQueued (Reply t old) s.queued
  older-unqueued = older-by (request_of t old s.servers) refl

-- an event that takes a packet
took-clean : (t r old : ℕ) (e : Event) (answer body : List ℕ) (s : Lists) → Valid s
    → Standing s.servers s.queued → Allowed s e → takes_request t r e ≡ true → IsOlder old r
    → NoneQueued (Reply t old) s.queued
    × (left (λ q. true) t old (server_numbers_after e s.server_numbers)
    (servers_after e answer (front_header s.ring) body s.servers) ≤ 0)
took-clean t r old (Took (Reply n k) i) answer body s v h a e older =
    let parts = and_parts (n == t) (k == r) e in
    let session : n ≡ t = eqb-true n t parts.0 in
    let request : k ≡ r = eqb-true k r parts.1 in
    let own : MayServe s t r = rw (← session, ← request) a in
    let over = older-over s v t r own body old older.slot older.below in
    (older-unqueued s v h t r own old older, rw (own.front, session, request) over)
took-clean t r old (Took (Ask n k) i) answer body s v h a e older = cc
took-clean t r old (Took Control i) answer body s v h a e older = cc
took-clean t r old _ answer body s v h a e older = cc

-- what is known of a moment
pub record Knows (past : List Fact) (s : Lists) : Type 0 where
  pub valid : Valid s
  pub queue : Alike (queued_by past) s.queued
  pub standing : Standing s.servers s.queued

pub knows-after : (clock : ℕ) (past : List Fact) (s : Lists) (f : Fact) → Knows past s
    → Allowed s f.event → Knows (f ∷ past) (after clock s f)
knows-after clock past s f k a = record {
  valid = valid_after clock s f k.valid a;
  queue = alike-after f.event None (due_of clock f.event s.paces) (queued_by past) s.queued k.queue;
  standing = standing-after f.event (due_of clock f.event s.paces) f.second (front_body s.ring) s
      k.valid k.standing a;
}

pub knows-new : (me life : ℕ) (limits : Limits) → Knows [] (new_lists me life limits)
knows-new me life limits = record { valid = valid_new me life limits; queue = λ test. refl; standing = λ n k e. refl }

gives-up : (clock : ℕ) (past : List Fact) (s : Lists) (f : Fact) (g : List Fact) (u : Lists)
    → Knows past s → Allowed s f.event → Leads (after clock s f) g u → (t r old : ℕ)
    → takes_request t r f.event ≡ true → IsOlder old r → GivesUp past g t old
gives-up clock past s f g u k a l t r old e older =
    let clean = took-clean t r old f.event f.second (front_body s.ring) s k.valid k.standing a e older in
    record {
      unqueued = none-stays (Reply t old) (queued_by past) s.queued
          (alike-no-more (queued_by past) s.queued k.queue) clean.0;
      unposted = never-posted t old (after clock s f) g u (valid_after clock s f k.valid a) clean.1 l;
    }

begins-clean : (past : List Fact) (s : Lists) (g : List Fact) (u : Lists) → Knows past s
    → Leads s g u → BeginsClean past g
begins-clean past s [] u k l = tt
begins-clean past s (f ∷ g) u k l = (
  gives-up l.0 past s f g u k l.1 l.2,
  begins-clean (f ∷ past) (after l.0 s f) g u
      (knows-after l.0 past s f k l.1) l.2,
)

pub older_clean : OlderRequestsAreNotQueued
older_clean p me life limits g t r =
    begins-clean [] (new_lists me life limits) g t.lists (knows-new me life limits) (run_leads r)

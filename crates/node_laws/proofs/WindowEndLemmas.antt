-- Rolling back, beginning and ending leave the queued packets within the windows of their calls.
use Rattle.std.proofs.Common.{◌≡◌, ℕ, ◌+◌, ◌*◌, ◌%◌, ◌<◌, Bool, true, false, Option, Some, None}
use Rattle.std.proofs.Common.{List, refl, sym, ap, ◌∙◌, arith}
use Rattle.std.specs.Prelude.{◌==◌}
use Rattle.std.specs.List.{find}
use Rattle.std.proofs.lemmas.Bool.{eqb-true, eq-eqb, ne_eqb, and_from, and_parts}
use Rattle.rpc_base.specs.Owners.{same_owner}
use Rattle.rpc_base.specs.Tables.{at_first}
use Rattle.rpc_base.specs.declared.owner.Owner.{Owner}
use Rattle.rpc_base.specs.declared.owner.Owner.TheVariants.{Ask, Reply, Control}
use Rattle.rpc_laws.specs.declared.tables.Call.{Call}
use Rattle.rpc_laws.specs.declared.tables.Client.{Client}
use Rattle.rpc_laws.specs.declared.tables.Lists.{Lists}
use Rattle.rpc_laws.specs.declared.tables.Progress.{Progress}
use Rattle.rpc_laws.specs.Calls.{is_call, has_request, is_active, begun, rolled_back}
use Rattle.rpc_laws.specs.Posting.{holds_slot, is_taken}
use Rattle.rpc_laws.specs.Sessions.{is_client, has_call, begins, rolls, ends}
use Rattle.node_laws.proofs.Allowed.{MayBegin, MayRoll, MayEnd}
use Rattle.rpc_base.proofs.FindLemmas.{this-out, this-changed, none-found}
use Rattle.node_laws.proofs.NumberLemmas.{by_number}
use Rattle.node_laws.proofs.SoundLemmas.{by_request, active-holds}
use Rattle.rpc_base.proofs.FirstLemmas.{found-holds, none-counted, count-fewer}
use Rattle.node_laws.proofs.Places.{Place}
use Rattle.node_laws.specs.Valid.{Sound, Valid}
use Rattle.node_laws.proofs.WindowLemmas.{window-changed, moved-inside, same-found, own-request, inside-some}
use Rattle.node_laws.specs.Windows.{InsideOf, Inside, Stands, InWindow}
use Rattle.rpc_base.proofs.TakingLemmas.{find-passes}

-- an owner that is this call
owner-is : (o : Owner) (i r session request : ℕ) → o ≡ Ask i r → i ≡ session → r ≡ request
    → same_owner o (Ask session request) ≡ false → ⊥
owner-is o i r session request is number same other =
    let one : same_owner o (Ask session request) ≡ true =
    rw (is, number, same) (and_from (session == session) (request == request)
    (eq-eqb session session refl) (eq-eqb request request refl)) in
    cc

-- a call that doesn't wait for another
no-request : (r : ℕ) (o : Option Progress) → o ≡ None → has_request r o ≡ false
no-request r o e = rw e refl

inside-none : (k r : ℕ) (calls : List Call) → is_taken calls (r % 8) ≡ false → Inside k (find (is_active r) calls) → ⊥
inside-none k r calls free m =
    let zero = none-counted (λ c. holds_slot (r % 8) c.progress) calls free in
    let fewer = count-fewer (is_active r) (λ c. holds_slot (r % 8) c.progress)
    (λ c t. active-holds r c.progress t) calls in
    let none : find (is_active r) calls ≡ None = none-found (is_active r) calls (omega arith) in
    let empty : Inside k None = rw none at m in
    empty

begun-by : (number new r k : ℕ) (x : Client) (c : Call) (b : Bool) → (new == r) ≡ b
    → find (is_call number) x.calls ≡ Some c → c.progress ≡ None
    → is_taken x.calls (new % 8) ≡ false → Stands k r (Some x)
    → Stands k r (Some (begins number new x))
begun-by number new r k x c true t e waits free m =
    let same : new ≡ r = eqb-true new r t in
    let slot : is_taken x.calls (r % 8) ≡ false = rw same at free in
    absurd (inside-none k r x.calls slot m)
begun-by number new r k x c false t e waits free m =
    rw (this-changed (is_call number) (is_active r) c (begun new) x.calls (no-request r c.progress waits) t e) m

module _ (s : Lists) (v : Valid s) where
  -- rolling back
  pub window-rolled : (number posted got : ℕ) (a : MayRoll s number posted got)
      → (o : Owner) (k : ℕ) → same_owner o (Ask a.session a.progress.request) ≡ false
      → InWindow s.clients o k
      → InWindow (at_first (has_call number) (rolls number posted got) s.clients) o k
  window-rolled number posted got a o k other m =
      let own = by_number s a.session a.client a.call v a.active.place in
      let found : find (has_call number) s.clients ≡ Some a.client = rw a.same own.client in
      let called : find (is_call number) a.client.calls ≡ Some a.call = rw a.same own.call in
      let session_is = eqb-true a.client.way.number a.session
      (find-passes (is_client a.session) s.clients a.client a.active.place.client) in
      window-changed (has_call number) (rolls number posted got) (λ x. refl) s.clients o k (λ i r is x e t inside.
      let client = same-found (find (has_call number) s.clients) x a.client e found in
      moved-inside r k (is_call number) (rolled_back got) x.calls (λ p. refl) (λ c calls active here.
      let list : find (is_call number) x.calls ≡ Some a.call = rw client called in
      let call = same-found (find (is_call number) x.calls) c a.call calls list in
      let progress : c.progress ≡ Some a.progress = ap (λ (d : Call). d.progress) call ∙ a.active.active in
      let number_is : x.way.number ≡ i = eqb-true x.way.number i t in
      let numbers : x.way.number ≡ a.client.way.number = ap (λ (y : Client). y.way.number) client in
      let request_is : a.progress.request ≡ r = own-request r c.progress a.progress progress active in
      absurd (owner-is o i r a.session a.progress.request is
      (sym number_is ∙ (numbers ∙ session_is)) (sym request_is) other)) inside) m

  -- beginning
  slot-of : (r slot turn : ℕ) → slot < 8 → r ≡ slot + 8 * turn → slot ≡ r % 8
  slot-of r slot turn h e = omega arith

  pub window-begun : (number new : ℕ) → MayBegin s number new → (o : Owner) (k : ℕ)
      → InWindow s.clients o k
      → InWindow (at_first (has_call number) (begins number new) s.clients) o k
  window-begun number new a o k m =
      let own = by_number s a.session a.client a.call v a.place in
      let found : find (has_call number) s.clients ≡ Some a.client = rw a.same own.client in
      let called : find (is_call number) a.client.calls ≡ Some a.call = rw a.same own.call in
      let slot = slot-of new a.slot _ a.below a.next in
      let free : is_taken a.client.calls (new % 8) ≡ false = rw slot at a.is_free in
      window-changed (has_call number) (begins number new) (λ x. refl) s.clients o k (λ i r is x e t inside.
      let client = same-found (find (has_call number) s.clients) x a.client e found in
      let calls : find (is_call number) x.calls ≡ Some a.call = rw client called in
      let empty : is_taken x.calls (new % 8) ≡ false = rw client free in
      begun-by number new r k x a.call (new == r) refl calls a.waits empty inside) m

  -- ending
  not-this : (r : ℕ) (o : Option Progress) → ((p : Progress) → o ≡ Some p → p.request ≡ r → ⊥)
      → has_request r o ≡ false
  not-this r None h = refl
  not-this r (Some p) h = ne_eqb p.request r (h p refl)

  pub window-ended : (number session : ℕ) (y : Client) (d : Call) → Place s.clients session y d
      → number ≡ d.what.number → (o : Owner) (k : ℕ)
      → ((p : Progress) → d.progress ≡ Some p → same_owner o (Ask session p.request) ≡ false)
      → InWindow s.clients o k → InWindow (at_first (has_call number) (ends number) s.clients) o k
  window-ended number session y d place same o k other m =
      let own = by_number s session y d v place in
      let found : find (has_call number) s.clients ≡ Some y = rw same own.client in
      let called : find (is_call number) y.calls ≡ Some d = rw same own.call in
      let session_is = eqb-true y.way.number session (find-passes (is_client session) s.clients y place.client) in
      window-changed (has_call number) (ends number) (λ x. refl) s.clients o k (λ i r is x e t inside.
      let client = same-found (find (has_call number) s.clients) x y e found in
      let calls : find (is_call number) x.calls ≡ Some d = rw client called in
      let number_is : x.way.number ≡ i = eqb-true x.way.number i t in
      let numbers : x.way.number ≡ y.way.number = ap (λ (z : Client). z.way.number) client in
      let gone : has_request r d.progress ≡ false =
      not-this r d.progress (λ p progress equal. owner-is o i r session p.request is
      (sym number_is ∙ (numbers ∙ session_is)) (sym equal) (other p progress)) in
      rw (this-out (is_call number) (is_active r) d x.calls gone calls) inside) m

  -- a call with no unanswered packet has none that is queued
  whole-by : (session r : ℕ) (o : Owner) (k : ℕ) (p : Progress) (b : Bool)
      → same_owner o (Ask session r) ≡ b → (o ≡ Ask session r → InsideOf k (Some p))
      → p.got ≡ p.posted → b ≡ false
  whole-by session r (Ask i j) k p true e inside whole =
      let parts = and_parts (i == session) (j == r) e in
      let number : i ≡ session = eqb-true i session parts.0 in
      let request : j ≡ r = eqb-true j r parts.1 in
      let own : Ask i j ≡ Ask session r = cc in
      let within = inside own in
      absurd (omega (arith, within.0, within.1))
  whole-by session r (Reply i j) k p true e inside whole = cc
  whole-by session r Control k p true e inside whole = cc
  whole-by session r o k p false e inside whole = refl

  pub whole-unqueued : (number : ℕ) (a : MayEnd s number) (o : Owner) (k : ℕ)
      → InWindow s.clients o k → same_owner o (Ask a.session a.progress.request) ≡ false
  whole-unqueued number a o k m =
      let sound = found-holds (is_client a.session) Sound s.clients a.client v.sound a.active.place.client in
      let own = by_request a.client a.active.place.test a.call a.progress sound a.active.place.call a.active.active in
      whole-by a.session a.progress.request o k a.progress
      (same_owner o (Ask a.session a.progress.request)) refl (λ is.
      let one : InWindow s.clients (Ask a.session a.progress.request) k = rw is at m in
      let two : Inside k (find (is_active a.progress.request) a.client.calls) = rw a.active.place.client at one in
      let three : InsideOf k a.call.progress = rw own at two in
      inside-some k a.call.progress a.progress a.active.active three) a.whole

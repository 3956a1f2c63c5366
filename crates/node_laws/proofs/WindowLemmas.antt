-- Facts that leave a packet within the window of its call.
use Rattle.std.proofs.Common.{◌≡◌, ℕ, ◌+◌, ◌≤◌, Bool, true, false, ◌&&◌, Option, Some, None, List}
use Rattle.std.proofs.Common.{[], ◌∷◌, ◌++◌, refl, sym, ap, ◌∙◌, arith}
use Rattle.std.specs.Prelude.{◌==◌, option_map}
use Rattle.std.specs.List.{find}
use Rattle.std.proofs.lemmas.Bool.{eqb-true, eq-eqb, and_from}
use Rattle.packet_header.specs.declared.packet.ControlHeader.{ControlHeader}
use Rattle.rpc_base.specs.Owners.{same_owner}
use Rattle.rpc_base.specs.Tables.{at_first}
use Rattle.rpc_base.specs.declared.owner.Owner.{Owner}
use Rattle.rpc_base.specs.declared.owner.Owner.TheVariants.{Ask, Reply, Control}
use Rattle.rpc_laws.specs.declared.tables.Asking.{Asking}
use Rattle.rpc_laws.specs.declared.tables.Call.{Call}
use Rattle.rpc_laws.specs.declared.tables.Client.{Client}
use Rattle.rpc_laws.specs.declared.tables.Lists.{Lists}
use Rattle.rpc_laws.specs.declared.tables.Progress.{Progress}
use Rattle.rpc_laws.specs.Calls.{has_request, is_active, moved, posted_up_to, sent_packet, took_reply}
use Rattle.rpc_laws.specs.Front.{front_header, front_body}
use Rattle.rpc_laws.specs.Sessions.{is_client, client_end, opened_end, requests, clients_told, asks}
use Rattle.rpc_laws.specs.Sessions.{posts, sends, takes}
use Rattle.node_laws.proofs.Allowed.{MayPost, MayTake}
use Rattle.rpc_base.proofs.FindLemmas.{changed-holds, push-kept, push-other}
use Rattle.node_laws.proofs.SoundLemmas.{by_request, sent-request, sent-got, sent-posted}
use Rattle.node_laws.proofs.SoundLemmas.{order-found, took-request, reply-got, reply-posted}
use Rattle.rpc_base.proofs.FirstLemmas.{found-holds, found-changed}
use Rattle.node_laws.proofs.ToldSame.{told-same}
use Rattle.node_laws.specs.Windows.{InsideOf, Inside, Stands, InWindow}
use Rattle.node_laws.specs.Valid.{Sound, Valid}
use Rattle.rpc_base.proofs.TakingLemmas.{find-passes}

-- a session changes
module _ (p : Client → Bool) (f : Client → Client)
    (same : (x : Client) → (f x).way.number ≡ x.way.number) (xs : List Client) where
  pub window-changed : (o : Owner) (k : ℕ)
      → ((s r : ℕ) → o ≡ Ask s r → (x : Client) → find p xs ≡ Some x → is_client s x ≡ true
      → Stands k r (Some x) → Stands k r (Some (f x))) → InWindow xs o k
      → InWindow (at_first p f xs) o k
  window-changed (Ask s r) k h m =
      changed-holds (Stands k r) p f (is_client s) (λ x. rw (same x) refl) xs (h s r refl) m
  window-changed (Reply s r) k h m = tt
  window-changed Control k h m = tt

made-stands : (k r : ℕ) (o p : Option Client) → ((x : Client) → o ≡ Some x → p ≡ Some x) → Stands k r o → Stands k r p
made-stands k r None p h m = absurd m
made-stands k r (Some x) p h m = rw (h x refl) m

-- one more session
window-pushed : (y : Client) (xs : List Client) (o : Owner) (k : ℕ) → InWindow xs o k → InWindow (xs ++ y ∷ []) o k
window-pushed y xs (Ask s r) k m =
    made-stands k r (find (is_client s) xs) (find (is_client s) (xs ++ y ∷ []))
    (λ x e. push-kept (is_client s) xs x y e) m
window-pushed y xs (Reply s r) k m = tt
window-pushed y xs Control k m = tt

pub window-made : (n peer t credits life : ℕ) (xs : List Client) (o : Owner) (k : ℕ) → InWindow xs o k
    → InWindow (xs ++ client_end n peer t credits life ∷ []) o k
window-made n peer t credits life xs o k m = window-pushed (client_end n peer t credits life) xs o k m

pub window-opened : (n peer credits : ℕ) (xs : List Client) (o : Owner) (k : ℕ) → InWindow xs o k
    → InWindow (xs ++ opened_end n peer credits ∷ []) o k
window-opened n peer credits xs o k m = window-pushed (opened_end n peer credits) xs o k m

-- a session whose calls stay
pub window-kept : (p : Client → Bool) (f : Client → Client)
    → ((x : Client) → (f x).way.number ≡ x.way.number) → ((x : Client) → (f x).calls ≡ x.calls)
    → (xs : List Client) (o : Owner) (k : ℕ) → InWindow xs o k → InWindow (at_first p f xs) o k
window-kept p f number calls xs o k m =
    window-changed p f number xs o k (λ s r own x e t inside. rw (calls x) inside) m

pub window-told : (clock : ℕ) (h : Option ControlHeader) (xs : List Client) (o : Owner) (k : ℕ)
    → InWindow xs o k → InWindow (clients_told clock h xs) o k
window-told clock None xs o k m = m
window-told clock (Some h) xs o k m =
    window-kept (is_client h.client) (requests clock h)
    (λ x. told-same (λ y. y.way.number) clock h x refl)
    (λ x. told-same (λ y. y.calls) clock h x refl) xs o k m

-- the progress of a call moves
pub same-request : (r : ℕ) (g : Progress → Progress) → ((p : Progress) → (g p).request ≡ p.request)
    → (o : Option Progress) → has_request r (option_map g o) ≡ has_request r o
same-request r g same None = refl
same-request r g same (Some p) = rw (same p) refl

pub moved-inside : (r k : ℕ) (test : Call → Bool) (g : Progress → Progress) (calls : List Call)
    → ((p : Progress) → (g p).request ≡ p.request)
    → ((c : Call) → find test calls ≡ Some c → is_active r c ≡ true → InsideOf k c.progress
    → InsideOf k (option_map g c.progress)) → Inside k (find (is_active r) calls)
    → Inside k (find (is_active r) (at_first test (moved g) calls))
moved-inside r k test g calls same h m =
    changed-holds (Inside k) test (moved g) (is_active r) (λ c. same-request r g same c.progress) calls h m

pub same-found : {A : Type 0} (o : Option A) (x y : A) → o ≡ Some x → o ≡ Some y → x ≡ y
same-found o x y e h = cc

pub own-request : (r : ℕ) (o : Option Progress) (p : Progress) → o ≡ Some p → has_request r o ≡ true → p.request ≡ r
own-request r o p e t = let own : has_request r (Some p) ≡ true = rw e at t in eqb-true p.request r own

pub inside-some : (k : ℕ) (o : Option Progress) (p : Progress) → o ≡ Some p → InsideOf k o → InsideOf k (Some p)
inside-some k o p e m = rw e at m

pub inside-moved : (k : ℕ) (g : Progress → Progress) (o : Option Progress) (p : Progress)
    → o ≡ Some p → InsideOf k (Some (g p)) → InsideOf k (option_map g o)
inside-moved k g o p e m = rw e m

-- sending
sent-inside : (clock n k : ℕ) (o : Option Progress) → InsideOf k o → InsideOf k (option_map (sent_packet clock n) o)
sent-inside clock n k None m = absurd m
sent-inside clock n k (Some p) m = (rw (sent-got clock n p) m.0, rw (sent-posted clock n p) m.1)

pub window-sent : (clock session request n : ℕ) (xs : List Client) (o : Owner) (k : ℕ)
    → InWindow xs o k → InWindow (at_first (is_client session) (sends clock request n) xs) o k
window-sent clock session request n xs o k m =
    window-changed (is_client session) (sends clock request n)
    (λ x. refl) xs o k (λ s r own x e t inside. moved-inside r k (is_active request)
    (sent_packet clock n) x.calls (sent-request clock n)
    (λ c found active here. sent-inside clock n k c.progress here) inside) m

-- asking
pub window-asked : (a : Asking) (session : ℕ) (xs : List Client) (o : Owner) (k : ℕ)
    → InWindow xs o k → InWindow (at_first (is_client session) (asks a) xs) o k
window-asked a session xs o k m =
    window-changed (is_client session) (asks a)
    (λ x. refl) xs o k (λ s r own x e t inside. rw
    (push-other (is_active r) x.calls (record { what = a; progress = None }) refl) inside) m

module _ (s : Lists) (v : Valid s) where
  -- posting
  pub window-posted : (session request n : ℕ) → MayPost s session request n → (o : Owner) (k : ℕ)
      → InWindow s.clients o k
      → InWindow (at_first (is_client session) (posts request n) s.clients) o k
  window-posted session request n a o k m =
      let sound = found-holds (is_client session) Sound s.clients a.client v.sound a.active.place.client in
      let own : find (is_active request) a.client.calls ≡ Some a.call =
      rw a.same (by_request a.client a.active.place.test a.call a.progress sound
      a.active.place.call a.active.active) in
      window-changed (is_client session) (posts request n) (λ x. refl) s.clients o k (λ i r is x e t inside.
      let client = same-found (find (is_client session) s.clients) x a.client e a.active.place.client in
      moved-inside r k (is_active request) (posted_up_to n) x.calls (λ p. refl) (λ c found active here.
      let calls : find (is_active request) x.calls ≡ Some a.call = rw client own in
      let call = same-found (find (is_active request) x.calls) c a.call found calls in
      let progress : c.progress ≡ Some a.progress = ap (λ (d : Call). d.progress) call ∙ a.active.active in
      let was = inside-some k c.progress a.progress progress here in
      let turn = a.turn in
      inside-moved k (posted_up_to n) c.progress a.progress progress (was.0, omega (arith, was.1))) inside) m

  -- the packet that is posted
  pub window-new : (session request n : ℕ) → MayPost s session request n
      → InWindow (at_first (is_client session) (posts request n) s.clients) (Ask session request) n
  window-new session request n a =
      let sound = found-holds (is_client session) Sound s.clients a.client v.sound a.active.place.client in
      let own : find (is_active request) a.client.calls ≡ Some a.call =
      rw a.same (by_request a.client a.active.place.test a.call a.progress sound
      a.active.place.call a.active.active) in
      let order = order-found a.client a.active.place.test a.call a.progress sound
      a.active.place.call a.active.active in
      let client : find (is_client session) (at_first (is_client session)
      (posts request n) s.clients) ≡ Some (posts request n a.client) = found-changed
      (is_client session) (posts request n)
      (is_client session) a.client s.clients
      (find-passes (is_client session) s.clients a.client a.active.place.client)
      a.active.place.client a.active.place.client in
      let active : has_request request (option_map (posted_up_to n) a.call.progress) ≡ true =
      same-request request (posted_up_to n) (λ p. refl) a.call.progress
      ∙ find-passes (is_active request) a.client.calls a.call own in
      let call : find (is_active request) (at_first (is_active request)
      (moved (posted_up_to n)) a.client.calls)
      ≡ Some (moved (posted_up_to n) a.call) =
      found-changed (is_active request) (moved (posted_up_to n))
      (is_active request) a.call a.client.calls active own own in
      let turn = a.turn in
      let was = order.posted in
      rw (client, call) (inside-moved n (posted_up_to n) a.call.progress a.progress a.active.active
      (omega arith, omega arith))

  -- taking
  pub window-took : (clock session request n : ℕ) → MayTake s session request n
      → (o : Owner) (k : ℕ) → (same_owner o (Ask session request) && k == n) ≡ false
      → InWindow s.clients o k
      → InWindow (at_first (is_client session)
      (takes clock request (front_header s.ring) (front_body s.ring)) s.clients) o k
  window-took clock session request n a o k other m =
      let sound = found-holds (is_client session) Sound s.clients a.client v.sound a.active.place.client in
      let own : find (is_active request) a.client.calls ≡ Some a.call =
      rw a.same at (by_request a.client a.active.place.test a.call a.progress sound
      a.active.place.call a.active.active) in
      rw a.front (window-changed (is_client session)
      (takes clock request (Some a.header) (front_body s.ring))
      (λ x. refl) s.clients o k (λ i r is x e t inside.
      let client = same-found (find (is_client session) s.clients) x a.client e a.active.place.client in
      moved-inside r k (is_active request) (took_reply clock (Some a.header) (front_body s.ring))
      x.calls (took-request clock (Some a.header) (front_body s.ring)) (λ c found active here.
      let calls : find (is_active request) x.calls ≡ Some a.call = rw client own in
      let call = same-found (find (is_active request) x.calls) c a.call found calls in
      let progress : c.progress ≡ Some a.progress = ap (λ (d : Call). d.progress) call ∙ a.active.active in
      let was = inside-some k c.progress a.progress progress here in
      let number : x.way.number ≡ i = eqb-true x.way.number i t in
      let session_is : x.way.number ≡ session =
      eqb-true x.way.number session (find-passes (is_client session) s.clients x e) in
      let request_is : a.progress.request ≡ r = own-request r c.progress a.progress progress active in
      let apart : k ≡ n → ⊥ =
      took-apart o i r session request k n is (sym number ∙ session_is)
      (sym request_is ∙ a.same) other in
      let turn = a.turn in
      let low : a.progress.got + 1 ≤ k = omega (arith, was.0, apart) in
      inside-moved k (took_reply clock (Some a.header) (front_body s.ring)) c.progress a.progress
      progress (
        rw (reply-got a.header (front_body s.ring) a.progress) low,
        rw (reply-posted a.header (front_body s.ring) a.progress) was.1,
      )) inside) m)
    where
      took-apart : (o : Owner) (i r session request k n : ℕ) → o ≡ Ask i r → i ≡ session
          → r ≡ request → (same_owner o (Ask session request) && k == n) ≡ false → k ≡ n → ⊥
      took-apart o i r session request k n is number same other equal =
          let one : same_owner o (Ask session request) ≡ true =
          rw (is, number, same) (and_from (session == session) (request == request)
          (eq-eqb session session refl) (eq-eqb request request refl)) in
          let two : (k == n) ≡ true = eq-eqb k n equal in
          let both = and_from (same_owner o (Ask session request)) (k == n) one two in
          cc

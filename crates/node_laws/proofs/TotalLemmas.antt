-- The queued packets of all calls and the free credits of all live sessions fit the ring.
use Rattle.std.proofs.Common.{◌≡◌, ℕ, ◌+◌, ◌≤◌, Bool, true, false, cond, Option, Some, None, List}
use Rattle.std.proofs.Common.{[], ◌∷◌, refl, sym, arith}
use Rattle.std.specs.Prelude.{◌==◌, sum_by}
use Rattle.std.specs.List.{AllByRecursion, find}
use Rattle.std.proofs.lemmas.Bool.{eqb-true, eq-eqb}
use Rattle.std.proofs.lemmas.List.Sums.{sum_by-cons, sum_by-le-sum_by}
use Rattle.rpc_base.specs.declared.owner.Owner.{Owner}
use Rattle.rpc_base.specs.declared.owner.Owner.TheVariants.{Ask, Reply, Control}
use Rattle.rpc_laws.specs.declared.tables.Client.{Client}
use Rattle.rpc_laws.specs.declared.tables.Lists.{Lists}
use Rattle.rpc_laws.specs.declared.tables.Queued.{Queued}
use Rattle.rpc_laws.specs.Groups.{live_credits}
use Rattle.rpc_laws.specs.Sessions.{is_client, is_live}
use Rattle.node_laws.specs.QueuedPackets.{QueuedOnce, is_ask_of, queued_of, is_ask, asks_in}
use Rattle.node_laws.specs.Valid.{Valid}
use Rattle.node_laws.specs.Windows.{Windows, LiveAt, OfLive, LiveQueued}
use Rattle.node_laws.proofs.CreditLaws.{Found, all-found}
use Rattle.node_laws.proofs.QueueFitsLemmas.{session-fits}
use Rattle.rpc_base.proofs.FirstLemmas.{counted-cons}
use Rattle.rpc_base.proofs.TakingLemmas.{find-passes}

-- the queued packets of a session, where it is live, and its free credits
abbrev share : List Queued → Client → ℕ
share qs x = cond (is_live x.state) (queued_of x.way.number qs) 0

abbrev pub table_free : Client → ℕ
table_free x = cond (is_live x.state) x.free 0

-- no sum is less, and it is more by one where the one that is found has one more
module _ (p : Client → Bool) (f g : Client → ℕ) (less : (x : Client) → f x ≤ g x) where
  more-by : (y x : Client) (ys : List Client) (b : Bool) → f x + 1 ≤ g x
      → (find p ys ≡ Some x → sum_by f ys + 1 ≤ sum_by g ys) → cond b (Some y) (find p ys) ≡ Some x
      → sum_by f (y ∷ ys) + 1 ≤ sum_by g (y ∷ ys)
  more-by y x ys true more ih e =
      let same : y ≡ x = cc in
      let here : f y + 1 ≤ g y = rw same more in
      let rest = sum_by-le-sum_by f g ys less in
      omega (arith, sum_by-cons f y ys, sum_by-cons g y ys)
  more-by y x ys false more ih e =
      let here = less y in
      let rest = ih e in
      omega (arith, sum_by-cons f y ys, sum_by-cons g y ys)

  sum-more : (xs : List Client) (x : Client) → find p xs ≡ Some x → f x + 1 ≤ g x → sum_by f xs + 1 ≤ sum_by g xs
  sum-more [] x e more = cc
  sum-more (y ∷ ys) x e more = more-by y x ys (p y) more (λ h. sum-more ys x h more) e

-- one more packet
share-less : (q : Queued) (qs : List Queued) (x : Client) → share qs x ≤ share (q ∷ qs) x
share-less q qs x = by (is_live x.state)
  where
    by : (b : Bool) → cond b (queued_of x.way.number qs) 0 ≤ cond b (queued_of x.way.number (q ∷ qs)) 0
    by true = omega (
      arith,
      counted-cons (λ p. is_ask_of x.way.number p.owner) q qs
          (is_ask_of x.way.number q.owner) refl,
    )
    by false = omega arith

share-more : (q : Queued) (qs : List Queued) (x : Client) → is_live x.state ≡ true
    → is_ask_of x.way.number q.owner ≡ true → share qs x + 1 ≤ share (q ∷ qs) x
share-more q qs x live own =
    let before : share qs x ≡ queued_of x.way.number qs = rw live refl in
    let after : share (q ∷ qs) x ≡ queued_of x.way.number (q ∷ qs) = rw live refl in
    omega (arith, counted-cons (λ p. is_ask_of x.way.number p.owner) q qs true own)

flip : (n m : ℕ) → (m == n) ≡ true → (n == m) ≡ true
flip n m e = let same : m ≡ n = eqb-true m n e in eq-eqb n m (sym same)

-- each queued packet of a call is of a live session
module _ (xs : List Client) where
  covered-at : (q : Queued) (qs : List Queued) (n r : ℕ) → q.owner ≡ Ask n r → (o : Option Client)
      → find (is_client n) xs ≡ o → LiveAt o → sum_by (share qs) xs + 1 ≤ sum_by (share (q ∷ qs)) xs
  covered-at q qs n r is None e live = absurd live
  covered-at q qs n r is (Some x) e live =
      let own : is_ask_of x.way.number (Ask n r) ≡ true = flip n x.way.number (find-passes (is_client n) xs x e) in
      let mine : is_ask_of x.way.number q.owner ≡ true = rw is own in
      sum-more (is_client n) (share qs) (share (q ∷ qs)) (share-less q qs) xs x e (share-more q qs x live mine)

  covered-by : (q : Queued) (qs : List Queued) (o : Owner) → q.owner ≡ o → OfLive xs o
      → cond (is_ask o) 1 0 + sum_by (share qs) xs ≤ sum_by (share (q ∷ qs)) xs
  covered-by q qs (Ask n r) is live =
      let more = covered-at q qs n r is (find (is_client n) xs) refl live in omega arith
  covered-by q qs (Reply t r) is live =
      let less = sum_by-le-sum_by (share qs) (share (q ∷ qs)) xs (share-less q qs) in omega arith
  covered-by q qs Control is live =
      let less = sum_by-le-sum_by (share qs) (share (q ∷ qs)) xs (share-less q qs) in omega arith

  covered : (qs : List Queued) → LiveQueued xs qs → asks_in qs ≤ sum_by (share qs) xs
  covered [] live = omega arith
  covered (q ∷ qs) live =
      let here = covered-by q qs q.owner refl live.0 in
      let rest = covered qs live.1 in
      omega (arith, counted-cons (λ p. is_ask p.owner) q qs (is_ask q.owner) refl)

-- what a session has queued and free is within its limit
module _ (s : Lists) (v : Valid s) (w : Windows s.clients s.queued) (once : QueuedOnce s.queued) where
  one-within : (x : Client) → Found s.clients x → (b : Bool) → is_live x.state ≡ b
      → cond b (queued_of x.way.number s.queued) 0 + cond b x.free 0 ≤ cond b x.limit 0
  one-within x found true live = session-fits s x.way.number x v w once found live
  one-within x found false live = omega arith

  all-within : (ys : List Client) → AllByRecursion (Found s.clients) ys
      → sum_by (share s.queued) ys + sum_by table_free ys ≤ sum_by live_credits ys
  all-within [] found = omega arith
  all-within (y ∷ ys) found =
      let here = one-within y found.0 (is_live y.state) refl in
      let rest = all-within ys found.1 in
      omega (arith, sum_by-cons (share s.queued) y ys, sum_by-cons table_free y ys, sum_by-cons live_credits y ys)

  pub total-fits : LiveQueued s.clients s.queued → asks_in s.queued + sum_by table_free s.clients ≤ s.room
  total-fits live =
      let most = covered s.clients s.queued live in
      let within = all-within s.clients (all-found 0 s.clients v.numbered) in
      let shared = v.shared in
      omega arith

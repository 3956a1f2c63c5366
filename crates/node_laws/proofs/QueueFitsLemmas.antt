-- No more packets of a call are queued than it has unanswered: their numbers are within its window, and each
-- number is queued at most once.
use Rattle.std.proofs.Common.{◌≡◌, ℕ, zero, suc, ◌+◌, ◌-◌, ◌%◌, ◌≤◌, ◌<◌, Bool, true, false, ◌&&◌}
use Rattle.std.proofs.Common.{◌||◌, cond, eqb, ltb, Option, Some, None, List, [], ◌∷◌, refl, sym}
use Rattle.std.proofs.Common.{ap, subst, ◌∙◌, inl, inr, arith, ltb-true}
use Rattle.std.specs.Prelude.{count_by, sum_by}
use Rattle.std.specs.List.{AllByRecursion, find, list_any}
use Rattle.std.proofs.lemmas.Bool.{cases_eq, cases_lt, eq-eqb, eqb-true, lt-ltb}
use Rattle.std.proofs.lemmas.List.Sums.{sum_by-cons}
use Rattle.rpc_base.specs.Owners.{same_owner}
use Rattle.rpc_base.specs.declared.owner.Owner.{Owner}
use Rattle.rpc_base.specs.declared.owner.Owner.TheVariants.{Ask, Reply, Control}
use Rattle.rpc_laws.specs.declared.tables.Call.{Call}
use Rattle.rpc_laws.specs.declared.tables.Client.{Client}
use Rattle.rpc_laws.specs.declared.tables.Lists.{Lists}
use Rattle.rpc_laws.specs.declared.tables.Progress.{Progress}
use Rattle.rpc_laws.specs.declared.tables.Queued.{Queued}
use Rattle.rpc_laws.specs.Calls.{has_request, is_active}
use Rattle.rpc_laws.specs.Posting.{holds_slot}
use Rattle.rpc_laws.specs.Queues.{is_queued}
use Rattle.rpc_laws.specs.Sessions.{is_client, is_live}
use Rattle.node_laws.specs.QueuedPackets.{QueuedOnce, is_ask_of, queued_of}
use Rattle.node_laws.specs.Valid.{unanswered_of, unanswered_on, Sound, Valid}
use Rattle.node_laws.specs.Windows.{InWindow, Inside, InsideOf, Stands, Windows}
use Rattle.node_laws.proofs.PutLemmas.{owner-is}
use Rattle.node_laws.proofs.SoundLemmas.{active-holds}
use Rattle.rpc_base.proofs.FirstLemmas.{counted-cons, some-counted, count-fewer, found-holds}

-- a number below m + 1 is m, or below m
not-below : (k m : ℕ) → k < m + 1 → eqb k m ≡ false → ltb k m ≡ false → ⊥
not-below k m h s r = elim (cases_eq k m) [
  | inl same ↦ (let yes = eq-eqb k m same in let differ : true ≡ false = sym yes ∙ s in cc)
  | inr other ↦ elim (cases_lt k m) [
    | inl less ↦ (let yes = lt-ltb k m less in let differ : true ≡ false = sym yes ∙ r in cc)
    | inr more ↦ other (omega (arith, h, more))
  ]
]

step-by : (k m : ℕ) (a b c : Bool) → ltb k (m + 1) ≡ a → eqb k m ≡ b → ltb k m ≡ c
    → cond {A = ℕ} a 1 0 ≤ cond {A = ℕ} b 1 0 + cond {A = ℕ} c 1 0
step-by k m false true true t s r = omega arith
step-by k m false true false t s r = omega arith
step-by k m false false true t s r = omega arith
step-by k m false false false t s r = omega arith
step-by k m true true true t s r = omega arith
step-by k m true true false t s r = omega arith
step-by k m true false true t s r = omega arith
step-by k m true false false t s r = absurd (not-below k m (ltb-true k (m + 1) t) s r)

module _ (owner : Owner) where
  abbrev below : ℕ → Queued → Bool
  below m q = same_owner q.owner owner && ltb q.number m

  one-step : (q : Queued) (m : ℕ) (o : Bool)
      → cond {A = ℕ} (o && ltb q.number (m + 1)) 1 0 ≤ cond {A = ℕ} (o && eqb q.number m) 1 0
      + cond {A = ℕ} (o && ltb q.number m) 1 0
  one-step q m false = omega arith
  one-step q m true = step-by q.number m (ltb q.number (m + 1)) (eqb q.number m) (ltb q.number m) refl refl refl

  all-steps : (qs : List Queued) (m : ℕ)
      → count_by (below (m + 1)) qs ≤ count_by (is_queued owner m) qs + count_by (below m) qs
  all-steps [] m = omega arith
  all-steps (q ∷ qs) m =
      omega (
        arith,
        counted-cons (below (m + 1)) q qs (below (m + 1) q) refl,
        counted-cons (is_queued owner m) q qs (is_queued owner m q) refl,
        counted-cons (below m) q
            qs (below m q) refl,
        one-step q m (same_owner q.owner owner),
        all-steps qs m,
      )

  -- each of the owner's packets has a number from lo on, and each number is there at most once
  pub record IsWindow (lo : ℕ) (qs : List Queued) : Type 0 where
    pub from_lo : (m : ℕ) → m ≤ lo → count_by (below m) qs ≤ 0
    pub once : (k : ℕ) → count_by (is_queued owner k) qs ≤ 1

  pub window-count : (lo n : ℕ) (qs : List Queued) → IsWindow lo qs → count_by (below (lo + n)) qs ≤ n
  window-count lo zero qs w = omega (arith, w.from_lo (lo + 0) (omega arith))
  window-count lo (suc n) qs w =
      let e : lo + suc n ≡ lo + n + 1 = omega arith in
      rw e (omega (arith, all-steps qs (lo + n), w.once (lo + n), window-count lo n qs w))

or-one : (a b : Bool) → cond {A = ℕ} (a || b) 1 0 ≤ cond {A = ℕ} a 1 0 + cond {A = ℕ} b 1 0
or-one true b = omega arith
or-one false b = omega arith

less-one : (a b : Bool) → (a ≡ true → b ≡ true) → cond {A = ℕ} a 1 0 ≤ cond {A = ℕ} b 1 0
less-one false b h = omega arith
less-one true b h = rw (h refl) (omega arith)

-- how many pass one of two tests
module _ {A : Type 0} where
  count-or : (p q : A → Bool) (xs : List A) → count_by (λ x. p x || q x) xs ≤ count_by p xs + count_by q xs
  count-or p q [] = omega arith
  count-or p q (x ∷ xs) =
      omega (
        arith,
        counted-cons (λ y. p y || q y) x xs (p x || q x) refl,
        counted-cons p x xs (p x) refl,
        counted-cons q x xs (q x) refl,
        or-one (p x)
            (q x),
        count-or p q xs,
      )

  count-false : (xs : List A) → count_by (λ x. false) xs ≤ 0
  count-false [] = omega arith
  count-false (x ∷ xs) = omega (arith, counted-cons (λ y. false) x xs false refl, count-false xs)

  count-less : (p q : A → Bool) (xs : List A) → AllByRecursion (λ x. p x ≡ true → q x ≡ true) xs
      → count_by p xs ≤ count_by q xs
  count-less p q [] all = omega arith
  count-less p q (x ∷ xs) all =
      omega (
        arith,
        counted-cons p x xs (p x) refl,
        counted-cons q x xs (q x) refl,
        less-one (p x) (q x) all.0,
        count-less p q xs all.1,
      )

-- the packets of one call
module _ (owner : Owner) (got posted : ℕ) where
  abbrev Within : Queued → Type 0
  Within q = same_owner q.owner owner ≡ true → (got ≤ q.number) × (q.number < posted)

  low-one : (q : Queued) (m : ℕ) (o : Bool) → same_owner q.owner owner ≡ o → m ≤ got → Within q
      → cond {A = ℕ} (o && ltb q.number m) 1 0 ≤ 0
  low-one q m false e low w = omega arith
  low-one q m true e low w = by (ltb q.number m) refl
    where
      by : (b : Bool) → ltb q.number m ≡ b → cond {A = ℕ} b 1 0 ≤ 0
      by false t = omega arith
      by true t = let inside = w e in absurd (omega (arith, ltb-true q.number m t, inside.0, low))

  low-all : (qs : List Queued) (m : ℕ) → m ≤ got → AllByRecursion Within qs → count_by (below owner m) qs ≤ 0
  low-all [] m low all = omega arith
  low-all (q ∷ qs) m low all =
      omega (
        arith,
        counted-cons (below owner m) q qs (below owner m q) refl,
        low-one q m (same_owner q.owner owner) refl low all.0,
        low-all qs m low all.1,
      )

  high-one : (q : Queued) (m : ℕ) → posted ≤ m → Within q → same_owner q.owner owner ≡ true
      → (same_owner q.owner owner && ltb q.number m) ≡ true
  high-one q m high w e = let inside = w e in rw (e, lt-ltb q.number m (omega (arith, inside.1, high))) refl

  high-all : (qs : List Queued) (m : ℕ) → posted ≤ m → AllByRecursion Within qs
      → AllByRecursion (λ q. same_owner q.owner owner ≡ true → below owner m q ≡ true) qs
  high-all [] m high all = tt
  high-all (q ∷ qs) m high all = (high-one q m high all.0, high-all qs m high all.1)

  pub call-count : (qs : List Queued) → AllByRecursion Within qs
      → ((k : ℕ) → count_by (is_queued owner k) qs ≤ 1)
      → count_by (λ q. same_owner q.owner owner) qs ≤ posted - got
  call-count qs all once =
      let most = window-count owner got (posted - got) qs
      (record { from_lo = λ m low. low-all qs m low all; once = once }) in
      omega (
        arith,
        most,
        count-less (λ q. same_owner q.owner owner)
            (below owner (got + (posted - got))) qs
            (high-all qs (got + (posted - got)) (omega arith) all),
      )

-- the packets of all calls of session n
abbrev pub owned_in : ℕ → Option Progress → Queued → Bool
owned_in n None q = false
owned_in n (Some p) q = same_owner q.owner (Ask n p.request)

abbrev pub covered : ℕ → List Call → Queued → Bool
covered n cs q = list_any (λ c. owned_in n c.progress q) cs

covered-count : (n : ℕ) (qs : List Queued) (cs : List Call)
    → AllByRecursion (λ c. count_by (owned_in n c.progress) qs ≤ unanswered_of c.progress) cs
    → count_by (covered n cs) qs ≤ sum_by (λ c. unanswered_of c.progress) cs
covered-count n qs [] all = omega (arith, count-false qs)
covered-count n qs (c ∷ cs) all =
    omega (
      arith,
      count-or (owned_in n c.progress) (covered n cs) qs,
      sum_by-cons (λ (d : Call). unanswered_of d.progress) c cs,
      all.0,
      covered-count n qs cs
          all.1,
    )

-- each active call is the one found by its request
abbrev OwnOf : List Call → Call → Option Progress → Type 0
OwnOf cs c None = Unit {0}
OwnOf cs c (Some p) = find (is_active p.request) cs ≡ Some c

abbrev Own : List Call → Call → Type 0
Own cs c = OwnOf cs c c.progress

own-first : (c : Call) (cs : List Call) (o : Option Progress) → c.progress ≡ o → OwnOf (c ∷ cs) c o
own-first c cs None e = tt
own-first c cs (Some p) e =
    let here : has_request p.request c.progress ≡ true = rw e (eq-eqb p.request p.request refl) in rw here refl

module _ (c : Call) (cs : List Call) (apart : (r : ℕ) → count_by (is_active r) (c ∷ cs) ≤ 1) where
  later-by : (d : Call) (r : ℕ) (b : Bool) → is_active r c ≡ b → is_active r d ≡ true
      → find (is_active r) cs ≡ Some d → cond b (Some c) (find (is_active r) cs) ≡ Some d
  later-by d r true e t found =
      let few = apart r in
      let cons = counted-cons (is_active r) c cs true e in
      let some = some-counted (is_active r) (is_active r) cs d found t in
      absurd (omega arith)
  later-by d r false e t found = found

  own-later : (d : Call) (o : Option Progress) → d.progress ≡ o → OwnOf cs d o → OwnOf (c ∷ cs) d o
  own-later d None e own = tt
  own-later d (Some p) e own =
      later-by d p.request (is_active p.request c) refl (rw e (eq-eqb p.request p.request refl)) own

  own-rest : (ds : List Call) → AllByRecursion (Own cs) ds → AllByRecursion (Own (c ∷ cs)) ds
  own-rest [] all = tt
  own-rest (d ∷ ds) all = (own-later d d.progress refl all.0, own-rest ds all.1)

  rest-apart : (r : ℕ) → count_by (is_active r) cs ≤ 1
  rest-apart r =
      let few = apart r in let cons = counted-cons (is_active r) c cs (is_active r c) refl in omega arith

all-own : (cs : List Call) → ((r : ℕ) → count_by (is_active r) cs ≤ 1) → AllByRecursion (Own cs) cs
all-own [] apart = tt
all-own (c ∷ cs) apart =
    (own-first c cs c.progress refl, own-rest c cs apart cs (all-own cs (rest-apart c cs apart)))

module _ (n : ℕ) (x : Client) (xs : List Client) (there : find (is_client n) xs ≡ Some x)
    (qs : List Queued) (windows : Windows xs qs)
    (once : (r k : ℕ) → count_by (is_queued (Ask n r) k) qs ≤ 1) where
  within-call : (c : Call) (p : Progress) → c.progress ≡ Some p
      → find (is_active p.request) x.calls ≡ Some c → (ps : List Queued) → Windows xs ps
      → AllByRecursion (Within (Ask n p.request) p.got p.posted) ps
  within-call c p is found [] w = tt
  within-call c p is found (q ∷ ps) w = (one, within-call c p is found ps w.1)
    where
      one : same_owner q.owner (Ask n p.request) ≡ true → (p.got ≤ q.number) × (q.number < p.posted)
      one t =
          let owner = owner-is q.owner (Ask n p.request) t in
          let here : InWindow xs (Ask n p.request) q.number = subst (λ o. InWindow xs o q.number) owner w.0 in
          let mine : Stands q.number p.request (Some x) = subst (Stands q.number p.request) there here in
          let inside : Inside q.number (Some c) = subst (Inside q.number) found mine in
          subst (InsideOf q.number) is inside

  call-by : (c : Call) (o : Option Progress) → c.progress ≡ o → OwnOf x.calls c o
      → count_by (owned_in n o) qs ≤ unanswered_of o
  call-by c None e own = omega (arith, count-false qs)
  call-by c (Some p) e own =
      call-count (Ask n p.request) p.got p.posted qs (within-call c p e own qs windows)
      (once p.request)

  all-calls : (cs : List Call) → AllByRecursion (Own x.calls) cs
      → AllByRecursion (λ c. count_by (owned_in n c.progress) qs ≤ unanswered_of c.progress) cs
  all-calls [] own = tt
  all-calls (c ∷ cs) own = (call-by c c.progress refl own.0, all-calls cs own.1)

  -- a packet of the session is one of its active calls
  own-packet : (r : ℕ) (q : Queued) (p : Option Progress) → q.owner ≡ Ask n r
      → has_request r p ≡ true → owned_in n p q ≡ true
  own-packet r q None e t = cc
  own-packet r q (Some p) e t = rw (e, eqb-true p.request r t, eq-eqb n n refl, eq-eqb r r refl) refl

  or-true : (a : Bool) → (a || true) ≡ true
  or-true true = refl
  or-true false = refl

  cover-cons : (r : ℕ) (q : Queued) (c : Call) (cs : List Call) (o : Option Call) (b : Bool)
      → q.owner ≡ Ask n r → has_request r c.progress ≡ b
      → (find (is_active r) cs ≡ o → covered n cs q ≡ true)
      → cond b (Some c) (find (is_active r) cs) ≡ o
      → (owned_in n c.progress q || covered n cs q) ≡ true
  cover-cons r q c cs o true e t ih f = rw (own-packet r q c.progress e t) refl
  cover-cons r q c cs o false e t ih f = rw (ih f) (or-true (owned_in n c.progress q))

  found-covers : (r : ℕ) (q : Queued) (cs : List Call) (c : Call) → q.owner ≡ Ask n r
      → find (is_active r) cs ≡ Some c → covered n cs q ≡ true
  found-covers r q [] c e f = cc
  found-covers r q (d ∷ cs) c e f =
      cover-cons r q d cs (Some c) (has_request r d.progress) e refl (found-covers r q cs c e) f

  inside-found : (k : ℕ) (o : Option Call) → Inside k o → (c : Call) × (o ≡ Some c)
  inside-found k None h = absurd h
  inside-found k (Some c) h = (c, refl)

  ask-covers : (o : Owner) (q : Queued) → q.owner ≡ o → InWindow xs o q.number
      → is_ask_of n o ≡ true → covered n x.calls q ≡ true
  ask-covers (Ask s r) q e w t =
      let same : s ≡ n = eqb-true s n t in
      let here : Stands q.number r (find (is_client n) xs) =
      subst (λ m. Stands q.number r (find (is_client m) xs)) same w in
      let mine : Stands q.number r (Some x) = subst (Stands q.number r) there here in
      let (c, found) = inside-found q.number (find (is_active r) x.calls) mine in
      found-covers r q x.calls c (e ∙ ap (λ m. Ask m r) same) found
  ask-covers (Reply s r) q e w t = cc
  ask-covers Control q e w t = cc

  all-covered : (ps : List Queued) → Windows xs ps
      → AllByRecursion (λ q. is_ask_of n q.owner ≡ true → covered n x.calls q ≡ true) ps
  all-covered [] w = tt
  all-covered (q ∷ ps) w = (ask-covers q.owner q refl w.0, all-covered ps w.1)

  pub session-queued : ((r : ℕ) → count_by (is_active r) x.calls ≤ 1) → queued_of n qs ≤ unanswered_on x
  session-queued apart =
      omega (
        arith,
        count-less (λ q. is_ask_of n q.owner)
            (covered n x.calls) qs (all-covered qs windows),
        covered-count n qs x.calls
            (all-calls x.calls (all-own x.calls apart)),
      )

active-few : (x : Client) → Sound x → (r : ℕ) → count_by (is_active r) x.calls ≤ 1
active-few x sound r =
    omega (
      arith,
      sound.apart (r % 8),
      count-fewer (is_active r)
          (λ d. holds_slot (r % 8) d.progress) (λ d t. active-holds r d.progress t) x.calls,
    )

-- so the queued packets of a live session and its free credits are no more than its limit
pub session-fits : (s : Lists) (n : ℕ) (x : Client) → Valid s → Windows s.clients s.queued
    → QueuedOnce s.queued → find (is_client n) s.clients ≡ Some x → is_live x.state ≡ true
    → queued_of n s.queued + x.free ≤ x.limit
session-fits s n x v windows once found live =
    let sound = found-holds (is_client n) Sound s.clients x v.sound found in
    let most = session-queued n x s.clients found s.queued windows (once n) (active-few x sound) in
    let balance = sound.balance live in
    omega arith

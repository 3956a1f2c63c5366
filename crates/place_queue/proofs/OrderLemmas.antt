-- Each step keeps the rule of the place queue.
use Rattle.std.proofs.Common.{◌≡◌, ◌≢◌, ℕ, zero, suc, ◌+◌, ◌-◌, ◌<◌, ◌≤◌, List, [], ◌∷◌, ◌++◌, length, take, drop}
use Rattle.std.proofs.Common.{set, sym, refl, ap, ◌∙◌, subst, arith, inl, inr, ⊎_elim, ◌⊎◌}
use Rattle.std.proofs.lemmas.List.{take-append-le, drop-append-le, length-append}
use mathlib.Core.Option.{some, some-ne-none, some-injective}
use mathlib.Core.Logic.{dite}
use native.Mathlib.Decide.{ℕ_discrete}
use lib.ListN.{get_elem?}
use Rattle.crossbeam_queue.specs.Fifo.{Pushes, Pops, Forks, Merges, Learns}
use Rattle.crossbeam_queue.proofs.Lists.{at_set, at_snoc}
use Rattle.worker_board.specs.Tickets.{OfferNo}
use Rattle.rpc_base.specs.Totals.{total}
use Rattle.worker_board.proofs.CountsLemmas.{total-append, total-set, term_le, terms_le}
use Rattle.place_queue.specs.declared.knows.Numbered.{Numbered}
use Rattle.place_queue.specs.declared.knows.Knows.{Knows}
use Rattle.place_queue.specs.declared.knows.Role.{Role}
use Rattle.place_queue.specs.declared.knows.Role.TheVariants.{Dispatcher, Hand, Spent}
use Rattle.place_queue.specs.Order.{numbered, Order, Knowing, Ascends, first_knows, new_hand, spent, HasPut, HasTaken}
use Rattle.place_queue.specs.Order.{one_more_out, taken_in, dispatches, is_hand, Left, AllTold}

-- 1. the numbered tickets

pub numbered-append : (n : ℕ) (ts : List OfferNo) (t : OfferNo) (i : ℕ) → i ≡ n + length ts
    → numbered n (ts ++ t ∷ []) ≡ numbered n ts ++ record { index = i; ticket = t } ∷ []
numbered-append n [] t i e = ap (λ j. record { index = j; ticket = t } ∷ []) (omega (arith, e))
numbered-append n (u ∷ ts) t i e = ap (λ (l : List Numbered). record { index = n; ticket = u } ∷ l)
    (numbered-append (suc n) ts t i (omega (arith, e)))

pub length-numbered : (n : ℕ) (ts : List OfferNo) → length (numbered n ts) ≡ length ts
length-numbered n [] = refl
length-numbered n (t ∷ ts) = ap suc (length-numbered (suc n) ts)

abbrev hd : Numbered → List Numbered → Numbered
hd d [] = d
hd d (x ∷ xs) = x

abbrev tl : List Numbered → List Numbered
tl [] = []
tl (x ∷ xs) = xs

-- the first ticket after the k-th has the number k, and follows the first k
pub first : (k n : ℕ) (ts : List OfferNo) (x : Numbered) (xs : List Numbered)
    → drop k (numbered n ts) ≡ x ∷ xs
    → (x.index ≡ n + k) × (k < length ts)
    × (take (suc k) (numbered n ts) ≡ take k (numbered n ts) ++ x ∷ [])
    × (drop (suc k) (numbered n ts) ≡ xs)
first zero n [] x xs e = absurd (omega (arith, ap length e))
first (suc k) n [] x xs e = absurd (omega (arith, ap length e))
first zero n (t ∷ ts) x xs e =
    let r : Numbered = record { index = n; ticket = t } in
    let hx : r ≡ x = ap (hd r) e in (
      omega (arith, ap (λ (y : Numbered). y.index) hx),
      omega arith,
      ap (λ y. y ∷ []) hx,
      ap tl e,
    )
first (suc k) n (t ∷ ts) x xs e = let f = first k (suc n) ts x xs e in
    let r : Numbered = record { index = n; ticket = t } in (
      omega (arith, f.0),
      omega (arith, f.1),
      ap (λ (l : List Numbered). r ∷ l) f.2,
      f.3,
    )

abbrev late : ℕ → Numbered → ℕ
late m x = suc x.index - m

-- the first k have numbers below n + k
pub early : (k n m : ℕ) (ts : List OfferNo) → n + k ≤ m → total (late m) (take k (numbered n ts)) ≡ 0
early zero n m ts h = refl
early (suc k) n m [] h = refl
early (suc k) n m (t ∷ ts) h = omega (arith, early k (suc n) m ts (omega (arith, h)), h)

pub ascends-snoc : (n : ℕ) (l : List Numbered) (x : Numbered) → Ascends n l → n ≤ x.index
    → total (late x.index) l ≡ 0 → Ascends n (l ++ x ∷ [])
ascends-snoc n [] x a h z = (h, tt)
ascends-snoc n (y ∷ l) x a h z =
    (a.0, ascends-snoc (suc y.index) l x a.1 (omega (arith, z)) (omega (arith, z)))

-- 2. the passes

abbrev All : (ℕ → Knows → Type 0) → List Knows → Type 0
All F views = (j : ℕ) (u : Knows) → get_elem? views j ≡ some u → F j u

all_set : (F : ℕ → Knows → Type 0) (views : List Knows) (port : ℕ) (w : Knows) → F port w
    → ((j : ℕ) (u : Knows) → j ≢ port → get_elem? views j ≡ some u → F j u) → All F (set views port w)
all_set F views port w mine others j u e = ⊎_elim
    (λ (x : (j ≡ port) × (w ≡ u)). subst (λ (y : ℕ × Knows). F y.0 y.1) (λ i. (sym x.0 i, x.1 i)) mine)
    (λ (x : (j ≢ port) × (get_elem? views j ≡ some u)). others j u x.0 x.1) (at_set views port j w u e)

-- where all others weigh nothing, the list weighs what the one does
lone : (g : Knows → ℕ) (views : List Knows) (j : ℕ) (v : Knows) → get_elem? views j ≡ some v
    → ((k : ℕ) (u : Knows) → k ≢ j → get_elem? views k ≡ some u → g u ≡ 0) → total g views ≡ g v
lone g [] j v e others = absurd (some-ne-none v (sym e))
lone g (x ∷ xs) zero v e others = omega (
  arith,
  ap g (some-injective x v e),
  nothing xs (λ k u h. others (suc k) u (λ z. omega (arith, z)) h),
)
  where
    nothing : (l : List Knows) → ((k : ℕ) (u : Knows) → get_elem? l k ≡ some u → g u ≡ 0) → total g l ≡ 0
    nothing [] h = refl
    nothing (y ∷ l) h = omega (arith, h 0 y refl, nothing l (λ k u at. h (suc k) u at))
lone g (x ∷ xs) (suc j) v e others = omega (
  arith,
  others 0 x (λ z. omega (arith, z)) refl,
  lone g xs j v e (λ k u n h. others (suc k) u (λ z. n (omega (arith, z))) h),
)

abbrev lead : Knows → ℕ
lead v = dispatches v.role

abbrev hand : Knows → ℕ
hand v = is_hand v.role

-- no pass but the dispatcher's is a dispatcher's
only_one : (views : List Knows) (port j : ℕ) (v u : Knows) → total lead views ≡ 1
    → get_elem? views port ≡ some v → v.role ≡ Dispatcher → j ≢ port → get_elem? views j ≡ some u
    → u.role ≢ Dispatcher
only_one views port j v u one at is other at' also = omega (
  arith,
  one,
  terms_le lead views port j v u other at at',
  ap dispatches is,
  ap dispatches also,
)

-- 3. the steps

pub begins : Order [] (first_knows ∷ [])
begins = record {
  put = [];
  taken = 0;
  out = 0;
  within = omega arith;
  left = refl;
  held = λ weight. refl;
  dispatcher = refl;
  hands = refl;
  each = λ j u e. begun j u e;
}
  where
    begun : (j : ℕ) (u : Knows) → get_elem? (first_knows ∷ []) j ≡ some u → Knowing [] 0 u
    begun zero u e = subst (Knowing [] 0) (some-injective first_knows u e)
        ((λ _. (refl, refl)), (λ p. tt), λ p. refl)
    begun (suc j) u e = absurd (some-ne-none u (sym e))

pub puts : (n port : ℕ) (v : Knows) (x : Numbered) → v.role ≡ Dispatcher → x.index ≡ length v.put
    → Pushes Order n port v x (HasPut v x)
puts n port v x is count items views room o at = (w, now, refl)
  where
    w : Knows
    w = record v { put = v.put ++ x.ticket ∷ [] }

    mine : v.put ≡ o.put
    mine = ((o.each port v at).0 is).0

    put : List OfferNo
    put = o.put ++ x.ticket ∷ []

    longer : numbered 0 put ≡ numbered 0 o.put ++ x ∷ []
    longer = numbered-append 0 o.put x.ticket x.index (omega (arith, count, ap length mine))

    short : o.taken ≤ length (numbered 0 o.put)
    short = omega (arith, o.within, length-numbered 0 o.put)

    now : Order (items ++ x ∷ []) (set views port w)
    now = record {
      put = put;
      taken = o.taken;
      out = o.out;
      within = omega (arith, o.within, length-append o.put (x.ticket ∷ []));
      left = ap (λ l. l ++ x ∷ []) o.left ∙ sym (drop-append-le o.taken (numbered 0 o.put) (x ∷ []) short)
          ∙ ap (drop o.taken) (sym longer);
      held = λ weight. omega (
        arith,
        total-set (λ (u : Knows). total weight u.taken) views port v w at,
        o.held weight,
        ap (λ l. total weight (take o.taken l)) longer,
        ap (total weight) (take-append-le o.taken (numbered 0 o.put) (x ∷ []) short),
      );
      dispatcher = omega (arith, total-set lead views port v w at, o.dispatcher);
      hands = omega (arith, total-set hand views port v w at, o.hands);
      each = all_set (λ j u. Knowing put o.out u) views port w (
        (λ p. (ap (λ l. l ++ x.ticket ∷ []) mine, ((o.each port v at).0 is).1)),
        (o.each port v at).1,
        (o.each port v at).2,
      )
          (λ j u other e. (
            (λ p. absurd (only_one views port j v u o.dispatcher at is other e p)),
            (o.each j u e).1,
            (o.each j u e).2,
          ));
    }

pub leaves : (port : ℕ) (v : Knows) → v.role ≡ Dispatcher → Learns Order port v (Left v)
leaves port v is items views o at = (
  o.taken,
  o.left ∙ ap (λ l. drop o.taken (numbered 0 l)) (sym ((o.each port v at).0 is).0),
)

pub takes : (port : ℕ) (v : Knows) → v.role ≡ Hand → Pops Order port v (HasTaken v)
takes port v is x items views o at = (w, now, refl)
  where
    w : Knows
    w = record v { taken = v.taken ++ x ∷ [] }

    f : (x.index ≡ 0 + o.taken) × (o.taken < length o.put)
        × (take (suc o.taken) (numbered 0 o.put) ≡ take o.taken (numbered 0 o.put) ++ x ∷ [])
        × (drop (suc o.taken) (numbered 0 o.put) ≡ items)
    f = first o.taken 0 o.put x items (sym o.left)

    none : total (late x.index) v.taken ≡ 0
    none = omega (
      arith,
      term_le (λ (u : Knows). total (late x.index) u.taken) views port v at,
      o.held (late x.index),
      early o.taken 0 x.index o.put (omega (arith, f.0)),
    )

    now : Order items (set views port w)
    now = record {
      put = o.put;
      taken = suc o.taken;
      out = o.out;
      within = omega (arith, f.1);
      left = sym f.3;
      held = λ weight. omega (
        arith,
        total-set (λ (u : Knows). total weight u.taken) views port v w at,
        total-append weight v.taken (x ∷ []),
        o.held weight,
        ap (total weight) f.2,
        total-append weight (take o.taken (numbered 0 o.put)) (x ∷ []),
      );
      dispatcher = omega (arith, total-set lead views port v w at, o.dispatcher);
      hands = omega (arith, total-set hand views port v w at, o.hands);
      each = all_set (λ j u. Knowing o.put o.out u) views port w (
        (λ p. absurd (omega (arith, ap dispatches p, ap dispatches is))),
        (λ p. ascends-snoc 0 v.taken x ((o.each port v at).1 p) (omega arith) none),
        (λ p. absurd (omega (arith, ap is_hand (sym p ∙ is)))),
      )
          (λ j u other e. o.each j u e);
    }

pub forks : (port : ℕ) (v : Knows) → v.role ≡ Dispatcher
    → Forks Order port v (one_more_out v) new_hand
forks port v is items views o at = record {
  put = o.put;
  taken = o.taken;
  out = suc o.out;
  within = o.within;
  left = o.left;
  held = λ weight. omega (
    arith,
    total-append (λ (u : Knows). total weight u.taken) vs (new_hand ∷ []),
    total-set (λ (u : Knows). total weight u.taken) views port v w at,
    o.held weight,
  );
  dispatcher = omega (arith, total-append lead vs (new_hand ∷ []), total-set lead views port v w at, o.dispatcher);
  hands = omega (arith, total-append hand vs (new_hand ∷ []), total-set hand views port v w at, o.hands);
  each = λ j u e. ⊎_elim (λ h. old j u h) (λ (h : new_hand ≡ u). subst (Knowing o.put (suc o.out)) h fresh) (at_snoc vs new_hand u j e);
}
  where
    w : Knows
    w = one_more_out v

    vs : List Knows
    vs = set views port w

    old : All (λ j u. Knowing o.put (suc o.out) u) vs
    old = all_set (λ j u. Knowing o.put (suc o.out) u) views port w (
      (λ p. (((o.each port v at).0 is).0, ap suc ((o.each port v at).0 is).1)),
      (o.each port v at).1,
      (o.each port v at).2,
    )
        (λ j u other e. (
          (λ p. absurd (only_one views port j v u o.dispatcher at is other e p)),
          (o.each j u e).1,
          (o.each j u e).2,
        ))

    fresh : Knowing o.put (suc o.out) new_hand
    fresh = ((λ p. absurd (omega (arith, ap dispatches p))), (λ p. tt), λ p. refl)

pub merges : (port : ℕ) (v : Knows) (other : ℕ) (w : Knows) → v.role ≡ Dispatcher → w.role ≡ Hand
    → Merges Order port v other w (taken_in v w) spent
merges port v other w is its items views o at apart at' = record {
  put = o.put;
  taken = o.taken;
  out = o.out - 1;
  within = o.within;
  left = o.left;
  held = λ weight. omega (
    arith,
    total-set (λ (u : Knows). total weight u.taken) vs other w spent at',
    total-set (λ (u : Knows). total weight u.taken) views port v both at,
    total-append weight v.taken w.taken,
    o.held weight,
  );
  dispatcher = omega (arith, total-set lead vs other w spent at', total-set lead views port v both at, o.dispatcher, ap dispatches its);
  hands = omega (arith, total-set hand vs other w spent at', total-set hand views port v both at, o.hands, ap is_hand its);
  each = all_set (λ j u. Knowing o.put (o.out - 1) u) vs other spent
      ((λ p. absurd (omega (arith, ap dispatches p))), (λ p. absurd (omega (arith, ap is_hand p))), λ p. refl)
      (λ j u _ e. now j u e);
}
  where
    both : Knows
    both = taken_in v w

    vs : List Knows
    vs = set views port both

    now : All (λ j u. Knowing o.put (o.out - 1) u) vs
    now = all_set (λ j u. Knowing o.put (o.out - 1) u) views port both (
      (λ p. (((o.each port v at).0 is).0, ap (λ n. n - 1) ((o.each port v at).0 is).1)),
      (λ p. absurd (omega (arith, ap is_hand (sym is ∙ p)))),
      (λ p. absurd (omega (arith, ap dispatches (sym is ∙ p)))),
    )
        (λ j u far e. (
          (λ p. absurd (only_one views port j v u o.dispatcher at is far e p)),
          (o.each j u e).1,
          (o.each j u e).2,
        ))

pub settles : (port : ℕ) (v : Knows) → v.role ≡ Dispatcher → v.out ≡ 0
    → Learns Order port v (λ items. AllTold v.put v.taken)
settles port v is none items views o at = (
  o.taken,
  omega (arith, o.within, ap length mine),
  λ weight. sym (lone (λ (u : Knows). total weight u.taken) views port v at (λ k u far e. ap (total weight) (idle k u far e)))
      ∙ o.held weight ∙ ap (λ l. total weight (take o.taken (numbered 0 l))) (sym mine),
)
  where
    mine : v.put ≡ o.put
    mine = ((o.each port v at).0 is).0

    no_hand : (k : ℕ) (u : Knows) → get_elem? views k ≡ some u → u.role ≢ Hand
    no_hand k u e h = omega (
      arith,
      term_le hand views k u e,
      o.hands,
      ((o.each port v at).0 is).1,
      none,
      ap is_hand h,
    )

    decide : (r : Role) → r ≢ Dispatcher → r ≢ Hand → r ≡ Spent
    decide Dispatcher a b = absurd (a refl)
    decide Hand a b = absurd (b refl)
    decide Spent a b = refl

    idle : (k : ℕ) (u : Knows) → k ≢ port → get_elem? views k ≡ some u → u.taken ≡ []
    idle k u far e = (o.each k u e).2 (decide u.role (only_one views port k v u o.dispatcher at is far e) (no_hand k u e))

-- a full queue was filled by tickets put
pub filled : (v : Knows) (n : ℕ) (items : List Numbered) → length items ≡ n → Left v items → n ≤ length v.put
filled v n items e l = omega (arith, e, ap length l.1, length-drop-le l.0 (numbered 0 v.put), length-numbered 0 v.put)
  where
    length-drop-le : (k : ℕ) (l : List Numbered) → length (drop k l) ≤ length l
    length-drop-le zero l = omega arith
    length-drop-le (suc k) [] = omega arith
    length-drop-le (suc k) (y ∷ l) = omega (arith, length-drop-le k l)

-- What a session begins and posts, once its fact is noted.
use Rattle.std.proofs.Common.{◌≡◌, ◌≢◌, ℕ, zero, suc, ◌+◌, ◌≤◌, ◌<◌, ◌||◌, Bool, true, false}
use Rattle.std.proofs.Common.{cond, Option, Some, None, List, [], ◌∷◌, refl, sym, ap}
use Rattle.std.proofs.Common.{subst, ◌∙◌, arith}
use Rattle.std.specs.Prelude.{◌==◌, count_by, slice_get, slice_set, option_and_then, option_map}
use Rattle.std.specs.List.{AllByRecursion, find, list_any}
use Rattle.std.proofs.lemmas.Bool.{eq-eqb, eqb-false, ne_eqb}
use Rattle.std.proofs.lemmas.List.Sums.{sum_by-cons}
use Rattle.rpc_base.specs.Tables.{at_first}
use Rattle.rpc_base.specs.declared.event.Event.{Event}
use Rattle.rpc_base.specs.declared.event.Event.TheVariants.{Begun}
use Rattle.rpc_base.proofs.FirstLemmas.{any-counted, counted-cons, found-holds}
use Rattle.rpc_laws.specs.declared.tables.Call.{Call}
use Rattle.rpc_laws.specs.declared.tables.Client.{Client}
use Rattle.rpc_laws.specs.Calls.{is_call, is_active, is_waiting, begun, moved, posted_up_to}
use Rattle.rpc_laws.specs.Posting.{can_post, next_packet, lowest_free, next_turn, beginning}
use Rattle.rpc_laws.specs.Posting.{posting, if_connected}
use Rattle.rpc_laws.specs.Sessions.{is_client, is_connected, has_call, begins, posts}
use Rattle.node_laws.specs.Valid.{NumberedFrom, client_no, holders}
use Rattle.node_laws.proofs.NumberLemmas.{numbered-at}
use Rattle.session_store.specs.Changes.{BeginsAt, PostsAt, PostsNext}
use Rattle.session_store.specs.Ends.{Ascends}
use Rattle.session_store.proofs.AscendsLemmas.{ascends-changed}
use Rattle.session_ends.proofs.ListLemmas.{all-set, sum-one}
use Rattle.node_steps.specs.Fits.{CallsAscend}
use Rattle.node_steps.specs.Measures.{free_at, waiting_at, waiting_in}
use Rattle.rpc_base.proofs.BasicLemmas.{some-of}
use Rattle.rpc_base.proofs.PlaceLemmas.{all-at, set-here}

-- a session stands in the place of its number
numbered-cons : (f : Client → Client) (k : ℕ) (y : Client) (ys zs : List Client) (b : Bool)
    → (y.way.number == k) ≡ b → b ≡ false → zs ≡ at_first (is_client k) f ys → cond b (f y ∷ ys)
    (y ∷ at_first (is_client k) f ys) ≡ y ∷ zs
numbered-cons f k y ys zs true t e h = cc
numbered-cons f k y ys zs false t e h = ap (λ xs. y ∷ xs) (sym h)

pub first-at : (f : Client → Client) (n i : ℕ) (xs : List Client) (x : Client)
    → NumberedFrom client_no n xs → slice_get xs i ≡ Some x
    → at_first (is_client (n + i)) f xs ≡ slice_set xs i (f x)
first-at f n i [] x h e = cc
first-at f n zero (y ∷ ys) x h e =
    let same : y ≡ x = cc in
    let own : (y.way.number == (n + 0)) ≡ true = eq-eqb y.way.number (n + 0) (omega (arith, h.0)) in
    rw own (ap (λ z. f z ∷ ys) same)
first-at f n (suc i) (y ∷ ys) x h e =
    let later : at_first (is_client (suc n + i)) f ys ≡ slice_set ys i (f x) = first-at f (suc n) i ys x h.1 e in
    let number : suc n + i ≡ n + suc i = omega arith in
    let off : (y.way.number == (n + suc i)) ≡ false = ne_eqb y.way.number (n + suc i) (λ t. omega (arith, h.0, t)) in
    numbered-cons f (n + suc i) y ys (slice_set ys i (f x))
    (y.way.number == (n + suc i)) refl off
    (sym (subst (λ k. at_first (is_client k) f ys ≡ slice_set ys i (f x)) number later))

-- a call stands in one session
has-counted : (c : ℕ) (x : Client) → has_call c x ≡ true → 1 ≤ count_by (is_call c) x.calls
has-counted c x has = let some = any-counted (is_call c) x.calls in omega (arith, some, ap {B = ℕ} (λ (b : Bool). cond b 1 0) has)

lonely : (c : ℕ) (y x : Client) (ys : List Client) (i : ℕ) (b : Bool) → has_call c y ≡ b
    → holders c (y ∷ ys) ≤ 1 → slice_get ys i ≡ Some x → has_call c x ≡ true → b ≡ false
lonely c y x ys i false t few e has = refl
lonely c y x ys i true t few e has =
    let sum = sum_by-cons (λ (z : Client). count_by (is_call c) z.calls) y ys in
    let one = sum-one (λ (z : Client). count_by (is_call c) z.calls) ys i x e in
    absurd (omega (arith, has-counted c y t, has-counted c x has, sum, one, few))

only-cons : (f : Client → Client) (c : ℕ) (y : Client) (ys zs : List Client) (b : Bool) → b ≡ false
    → at_first (has_call c) f ys ≡ zs → cond b (f y ∷ ys) (y ∷ at_first (has_call c) f ys) ≡ y ∷ zs
only-cons f c y ys zs true e h = cc
only-cons f c y ys zs false e h = ap (λ xs. y ∷ xs) h

pub only-at : (f : Client → Client) (c : ℕ) (xs : List Client) (i : ℕ) (x : Client)
    → holders c xs ≤ 1 → slice_get xs i ≡ Some x → has_call c x ≡ true
    → at_first (has_call c) f xs ≡ slice_set xs i (f x)
only-at f c [] i x few e has = cc
only-at f c (y ∷ ys) zero x few e has = let same : y ≡ x = cc in let own : has_call c y ≡ true = ap (has_call c) same ∙ has in rw own (ap (λ z. f z ∷ ys) same)
only-at f c (y ∷ ys) (suc i) x few e has =
    let alone = lonely c y x ys i (has_call c y) refl few e has in
    let sum = sum_by-cons (λ (z : Client). count_by (is_call c) z.calls) y ys in
    only-cons f c y ys (slice_set ys i (f x))
    (has_call c y) alone (only-at f c ys i x (omega (arith, sum, few)) e has)

slot-begins : (x : Client) (k : Call) (c r : ℕ) (l : Option ℕ) → find is_waiting x.calls ≡ Some k
    → option_map (λ slot. Begun k.what.number (next_turn x.turns slot)) l ≡ Some (Begun c r)
    → has_call c x ≡ true
slot-begins x k c r None f e = cc
slot-begins x k c r (Some slot) f e = let same : k.what.number ≡ c = cc in found-call c k x.calls f (eq-eqb k.what.number c same)
  where
    any-cons : (c : ℕ) (k y : Call) (ys : List Call) (b : Bool) → cond b (Some y)
        (find is_waiting ys) ≡ Some k → is_call c k ≡ true
        → (find is_waiting ys ≡ Some k → list_any (is_call c) ys ≡ true)
        → (is_call c y || list_any (is_call c) ys) ≡ true
    any-cons c k y ys true e t ih = let same : y ≡ k = cc in rw (ap (is_call c) same ∙ t) refl
    any-cons c k y ys false e t ih = rw (ih e) (or-true (is_call c y))
      where
        or-true : (b : Bool) → (b || true) ≡ true
        or-true true = refl
        or-true false = refl

    found-call : (c : ℕ) (k : Call) (xs : List Call) → find is_waiting xs ≡ Some k
        → is_call c k ≡ true → list_any (is_call c) xs ≡ true
    found-call c k [] f t = cc
    found-call c k (y ∷ ys) f t = any-cons c k y ys (is_waiting y) f t (λ g. found-call c k ys g t)

has-begins : (x : Client) (c r : ℕ) (o : Option Call) → find is_waiting x.calls ≡ o
    → option_and_then (λ k. option_map (λ slot. Begun k.what.number (next_turn x.turns slot))
    (lowest_free x.calls)) o ≡ Some (Begun c r)
    → has_call c x ≡ true
has-begins x c r None f e = cc
has-begins x c r (Some k) f e = slot-begins x k c r (lowest_free x.calls) f e

pub next-beginning : (i : ℕ) (b : ℕ × ℕ) (xs ys : List Client) → (p : BeginsAt i (Some b) xs ys)
    → beginning p.1.client ≡ Some (Begun b.0 b.1)
next-beginning i b xs ys p =
    let change = p.1 in
    let told : if_connected beginning change.client ≡ Some (Begun b.0 b.1) =
    ap (λ (o : Option Client). option_and_then (if_connected beginning) o)
    (sym change.place) ∙ p.0 in
    some-of (is_connected change.client.state) (beginning change.client) (Begun b.0 b.1) told

pub begins-told : (i : ℕ) (b : ℕ × ℕ) (xs ys : List Client) → holders b.0 xs ≤ 1
    → BeginsAt i (Some b) xs ys → ys ≡ at_first (has_call b.0) (begins b.0 b.1) xs
begins-told i b xs ys few p =
    let change = p.1 in
    let has = has-begins change.client b.0 b.1 (find is_waiting change.client.calls) refl
    (next-beginning i b xs ys p) in
    change.changed ∙ sym (only-at (begins b.0 b.1) b.0 xs i change.client few change.place has)

pub posts-told : (i : ℕ) (p : ℕ × ℕ) (xs ys : List Client) → NumberedFrom client_no 0 xs
    → (q : PostsNext i p xs ys)
    → (ys ≡ at_first (is_client i) (posts p.0 p.1) xs) × (q.client.way.number ≡ i)
posts-told i p xs ys numbered q =
    let same : 0 + i ≡ i = omega arith in
    let first : at_first (is_client i) (posts p.0 p.1) xs
    ≡ slice_set xs i (posts p.0 p.1 q.client) =
    subst (λ k. at_first (is_client k) (posts p.0 p.1) xs
    ≡ slice_set xs i (posts p.0 p.1 q.client)) same
    (first-at (posts p.0 p.1) 0 i xs q.client numbered q.place) in
    let number : q.client.way.number ≡ 0 + i = numbered-at client_no 0 i xs q.client numbered q.place in
    (q.changed ∙ sym first, number ∙ same)

-- who posts has a free credit, and one less then
posts-free : (x : Client) (e : Event) (b : Bool) → (x.free == 0) ≡ b
    → cond b None (option_and_then (λ (c : Call). next_packet x.way.number c.progress)
    (find can_post x.calls)) ≡ Some e
    → 0 < x.free
posts-free x e true t h = cc
posts-free x e false t h = let some : x.free ≢ 0 = eqb-false x.free 0 t in omega (arith, some)

pub posted-fewer : (i : ℕ) (p : ℕ × ℕ) (xs ys : List Client) → PostsAt i (Some p) xs ys
    → free_at i ys < free_at i xs
posted-fewer i p xs ys at =
    let next = some-of (is_connected at.client.state) (posting at.client) _ at.next in
    let free = posts-free at.client _ (at.client.free == 0) refl next in
    rw (at.changed, at.place, set-here xs i at.client (posts p.0 p.1 at.client) at.place)
    (omega (arith, free))

-- who begins a call has one less that waits
later-number : (n : ℕ) (k : Call) (cs : List Call) → AllByRecursion (λ d. n < d.what.number) cs
    → find is_waiting cs ≡ Some k → n < k.what.number
later-number n k cs all f = found-holds is_waiting (λ (d : Call). n < d.what.number) cs k all f

waits-cons : (c r : ℕ) (k x : Call) (xs : List Call) (b : Bool) → is_waiting x ≡ b
    → k.what.number ≡ c → AllByRecursion (λ d. x.what.number < d.what.number) xs
    → (find is_waiting xs ≡ Some k
    → count_by is_waiting (at_first (is_call c) (begun r) xs) + 1 ≡ count_by is_waiting xs)
    → cond b (Some x) (find is_waiting xs) ≡ Some k
    → count_by is_waiting (at_first (is_call c) (begun r) (x ∷ xs)) + 1 ≡ count_by is_waiting (x ∷ xs)
waits-cons c r k x xs true t e above ih f =
    let same : x ≡ k = cc in
    let here : is_call c x ≡ true = eq-eqb x.what.number c (ap (λ (d : Call). d.what.number) same ∙ e) in
    rw here (omega (arith, counted-cons is_waiting (begun r x) xs false refl, counted-cons is_waiting x xs true t))
waits-cons c r k x xs false t e above ih f =
    let below = later-number x.what.number k xs above f in
    let other : is_call c x ≡ false = ne_eqb x.what.number c (λ same. omega (arith, below, e, same)) in
    rw other (omega (
      arith,
      counted-cons is_waiting x (at_first (is_call c) (begun r) xs) false t,
      counted-cons is_waiting x xs false t,
      ih f,
    ))

call-waits : (c r : ℕ) (k : Call) (cs : List Call) → find is_waiting cs ≡ Some k → k.what.number ≡ c
    → Ascends cs
    → count_by is_waiting (at_first (is_call c) (begun r) cs) + 1 ≡ count_by is_waiting cs
call-waits c r k [] f e up = cc
call-waits c r k (x ∷ xs) f e up =
    waits-cons c r k x xs (is_waiting x) refl e up.0 (λ g. call-waits c r k xs g e up.1) f

slot-waits : (x : Client) (k : Call) (c r : ℕ) (l : Option ℕ) → find is_waiting x.calls ≡ Some k
    → Ascends x.calls
    → option_map (λ slot. Begun k.what.number (next_turn x.turns slot)) l ≡ Some (Begun c r)
    → waiting_in (Some (begins c r x)) < waiting_in (Some x)
slot-waits x k c r None f up e = cc
slot-waits x k c r (Some slot) f up e = let same : k.what.number ≡ c = cc in omega (arith, call-waits c r k x.calls f same up)

has-waits : (x : Client) (c r : ℕ) (o : Option Call) → find is_waiting x.calls ≡ o → Ascends x.calls
    → option_and_then (λ k. option_map (λ slot. Begun k.what.number (next_turn x.turns slot))
    (lowest_free x.calls)) o ≡ Some (Begun c r)
    → waiting_in (Some (begins c r x)) < waiting_in (Some x)
has-waits x c r None f up e = cc
has-waits x c r (Some k) f up e = slot-waits x k c r (lowest_free x.calls) f up e

pub begun-fewer : (i : ℕ) (p : ℕ × ℕ) (xs ys : List Client) → BeginsAt i (Some p) xs ys
    → AllByRecursion CallsAscend xs → waiting_at i ys < waiting_at i xs
begun-fewer i p xs ys at up =
    let change = at.1 in
    let next = next-beginning i p xs ys at in
    rw (
      change.changed,
      change.place,
      set-here xs i change.client (begins p.0 p.1 change.client)
          change.place,
    ) (has-waits change.client p.0 p.1 (find is_waiting change.client.calls) refl
    (all-at CallsAscend xs i change.client up change.place) next)

-- the calls of the others stay, and stay in their order
pub ascends-posted : (i : ℕ) (p : ℕ × ℕ) (xs ys : List Client) → PostsAt i (Some p) xs ys
    → AllByRecursion CallsAscend xs → AllByRecursion CallsAscend ys
ascends-posted i p xs ys at up =
    rw at.changed (all-set CallsAscend xs i (posts p.0 p.1 at.client)
    (ascends-changed (is_active p.0) (moved (posted_up_to p.1))
    (λ d. refl) at.client.calls (all-at CallsAscend xs i at.client up at.place))
    (λ j x e other. all-at CallsAscend xs j x up e))

pub ascends-begun : (i : ℕ) (p : ℕ × ℕ) (xs ys : List Client) → BeginsAt i (Some p) xs ys
    → AllByRecursion CallsAscend xs → AllByRecursion CallsAscend ys
ascends-begun i p xs ys at up =
    let change = at.1 in
    rw change.changed (all-set CallsAscend xs i (begins p.0 p.1 change.client)
    (ascends-changed (is_call p.0) (begun p.1)
    (λ d. refl) change.client.calls (all-at CallsAscend xs i change.client up change.place))
    (λ j x e other. all-at CallsAscend xs j x up e))

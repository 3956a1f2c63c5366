-- The next active call of a session above a number, and what is told of it.
use Rattle.std.proofs.Common.{◌≡◌, ℕ, zero, suc, ◌<◌, ◌≤◌, Bool, true, false, ◌&&◌, cond, eqb, ltb}
use Rattle.std.proofs.Common.{Option}
use Rattle.std.proofs.Common.{Some, None, List, [], ◌∷◌, length, refl, sym, ap, subst, ◌∙◌, arith}
use Rattle.std.specs.Prelude.{filter, is_some, option_and_then, option_map, slice_get, IfSome}
use Rattle.std.specs.List.{AllByRecursion, find}
use Rattle.std.proofs.lemmas.Bool.{eq-eqb, ne_eqb}
use Rattle.std.proofs.lemmas.Bool.Decides.{nat_tests}
use Rattle.client_core.specs.declared.active.Active.{Active}
use Rattle.rpc_laws.specs.declared.tables.Call.{Call}
use Rattle.rpc_laws.specs.declared.tables.Client.{Client}
use Rattle.rpc_laws.specs.declared.tables.Progress.{Progress}
use Rattle.rpc_laws.specs.Calls.{is_call}
use Rattle.rpc_base.proofs.FirstLemmas.{found-holds}
use Rattle.rpc_base.proofs.TakingLemmas.{find-passes}
use Rattle.rpc_base.proofs.PlaceLemmas.{all-at}
use Rattle.node_laws.specs.Valid.{Sound, in_slot}
use Rattle.session_store.specs.Changes.{ActiveAt, calls_in}
use Rattle.session_store.specs.Ends.{Ascends, is_above, next_above, told_call, told_of}
use Rattle.node_steps.specs.Fits.{CallsAscend}
use Rattle.node_steps.proofs.TimerRollbacks.{some-same}

-- what is told of the next active call
abbrev pub is_next : Option ℕ → Call → Bool
is_next after c = is_some c.progress && is_above after c

pub record Told (after : Option ℕ) (cs : List Call) (a : Active) : Type 0 where
  pub call : Call
  pub found : find (is_next after) cs ≡ Some call
  pub progress : Progress
  pub is_active : call.progress ≡ Some progress
  pub told : a ≡ told_of call.what.number progress

pub both : (a b : Bool) → (a && b) ≡ true → (a ≡ true) × (b ≡ true)
both true b e = (refl, e)
both false b e = cc

module _ (after : Option ℕ) (cs : List Call) where
  none-by : (c : Call) (o : Option Progress) → c.progress ≡ o → is_some c.progress ≡ true
      → None ≡ option_map (told_of c.what.number) o → find (is_next after) cs ≡ None
  none-by c None own active e = let no : false ≡ true = ap is_some (sym own) ∙ active in cc
  none-by c (Some p) own active e = cc

  told-none-of : (o : Option Call) → find (is_next after) cs ≡ o
      → None ≡ option_and_then told_call o
      → find (is_next after) cs ≡ None
  told-none-of None found e = found
  told-none-of (Some c) found e =
      none-by c c.progress refl (both (is_some c.progress) (is_above after c)
      (find-passes (is_next after) cs c found)).0 e

  pub told-none : None ≡ option_and_then told_call (find (is_next after) cs)
      → find (is_next after) cs ≡ None
  told-none e = told-none-of (find (is_next after) cs) refl e

  some-by : (a : Active) (c : Call) (o : Option Progress) → c.progress ≡ o
      → find (is_next after) cs ≡ Some c → Some a ≡ option_map (told_of c.what.number) o
      → Told after cs a
  some-by a c None own found e = cc
  some-by a c (Some p) own found e = record {
    call = c;
    found = found;
    progress = p;
    is_active = own;
    told = some-same a (told_of c.what.number p) e;
  }

  told-some-of : (a : Active) (o : Option Call) → find (is_next after) cs ≡ o
      → Some a ≡ option_and_then told_call o → Told after cs a
  told-some-of a None found e = cc
  told-some-of a (Some c) found e = some-by a c c.progress refl found e

  pub told-some : (a : Active) → Some a ≡ option_and_then told_call (find (is_next after) cs)
      → Told after cs a
  told-some a e = told-some-of a (find (is_next after) cs) refl e

  own-cons : (c d : Call) (ds : List Call) (b : Bool)
      → AllByRecursion (λ e. c.what.number < e.what.number) ds
      → (find (is_next after) ds ≡ Some d → find (is_call d.what.number) ds ≡ Some d)
      → cond b (Some c) (find (is_next after) ds) ≡ Some d
      → find (is_call d.what.number) (c ∷ ds) ≡ Some d
  own-cons c d ds true all ih e =
      let same : c ≡ d = cc in
      rw (eq-eqb c.what.number d.what.number (ap (λ (x : Call). x.what.number) same)) e
  own-cons c d ds false all ih e =
      let low = found-holds (is_next after) (λ x. c.what.number < x.what.number) ds d all e in
      let other : eqb c.what.number d.what.number ≡ false =
      ne_eqb c.what.number d.what.number (λ t. omega (arith, low, t)) in
      rw other (ih e)

pub own-found : (after : Option ℕ) (cs : List Call) (d : Call) → Ascends cs
    → find (is_next after) cs ≡ Some d → find (is_call d.what.number) cs ≡ Some d
own-found after [] d order e = cc
own-found after (c ∷ cs) d order e =
    own-cons after cs c d cs (is_next after c) order.0 (own-found after cs d order.1) e

-- the next active call of a session, as it is told
pub ascends-in : (xs : List Client) (i : ℕ) → AllByRecursion CallsAscend xs
    → Ascends (calls_in (slice_get xs i))
ascends-in xs i h = by (slice_get xs i) refl
  where
    by : (o : Option Client) → slice_get xs i ≡ o → Ascends (calls_in o)
    by None e = tt
    by (Some x) e = all-at CallsAscend xs i x h e

-- what is told of a session that is there
pub next-told : (after : Option ℕ) (o : Option Client) (x : Client) (r : Option Active) → o ≡ Some x
    → IfSome o (λ y. r ≡ option_and_then told_call (next_above after y))
    → r ≡ option_and_then told_call (find (is_next after) x.calls)
next-told after None x r e h = cc
next-told after (Some y) x r e h =
    h ∙ ap (λ (z : Client). option_and_then told_call (next_above after z)) (some-same y x e)

pub next-active : (after : Option ℕ) (i : ℕ) (xs : List Client) (x : Client) (a : Active)
    → slice_get xs i ≡ Some x → Ascends x.calls → Told after x.calls a → ActiveAt i a xs
next-active after i xs x a place order t =
    let call : a.call ≡ t.call.what.number = ap (λ (b : Active). b.call) t.told in
    let found : find (is_call a.call) x.calls ≡ Some t.call =
    ap (λ n. find (is_call n) x.calls) call
    ∙ own-found after x.calls t.call order t.found in
    record {
      client = x;
      place = place;
      progress = t.progress;
      active = ap (λ (o : Option Call). option_and_then (λ c. c.progress) o) found ∙ t.is_active;
      told = t.told ∙ ap (λ n. told_of n t.progress) (sym call);
    }

-- fewer calls are above the next one
below-own : (n : ℕ) → ltb n n ≡ false
below-own n = grind (arith, nat_tests)

below : (n m : ℕ) → m < n → ltb n m ≡ false
below n m low = grind (arith, nat_tests)

above-by : (q : Call → Bool) (c : Call) (cs : List Call) (b : Bool)
    → length (filter q cs) ≤ length (cond b (c ∷ filter q cs) (filter q cs))
above-by q c cs true = omega arith
above-by q c cs false = omega arith

all-above : (after : Option ℕ) (c : Call) (cs : List Call) → is_above after c ≡ true
    → AllByRecursion (λ d. c.what.number < d.what.number) cs
    → length (filter (is_above (Some c.what.number)) cs) ≤ length (filter (is_above after) cs)
all-above after c [] up all = omega arith
all-above after c (d ∷ ds) up all =
    rw (higher after c d up all.0) (by (is_above (Some c.what.number) d)
    (all-above after c ds up all.1))
  where
    higher : (after : Option ℕ) (c d : Call) → is_above after c ≡ true
        → c.what.number < d.what.number → is_above after d ≡ true
    higher None c d up more = refl
    higher (Some n) c d up more = grind (arith, nat_tests)

    by : (b : Bool) → length (filter (is_above (Some c.what.number)) ds)
        ≤ length (filter (is_above after) ds)
        → length (cond b (d ∷ filter (is_above (Some c.what.number)) ds)
        (filter (is_above (Some c.what.number)) ds)) ≤ length (d ∷ filter (is_above after) ds)
    by true ih = omega (arith, ih)
    by false ih = omega (arith, ih)

fewer-later : (after : Option ℕ) (c d : Call) (cs : List Call) → c.what.number < d.what.number
    → length (filter (is_above (Some d.what.number)) cs) < length (filter (is_above after) cs)
    → length (filter (is_above (Some d.what.number)) (c ∷ cs))
    < length (filter (is_above after) (c ∷ cs))
fewer-later after c d cs low ih =
    rw (below d.what.number c.what.number low)
    (omega (arith, ih, above-by (is_above after) c cs (is_above after c)))

fewer-cons : (after : Option ℕ) (c d : Call) (cs : List Call) (b u : Bool) → is_above after c ≡ u
    → Ascends (c ∷ cs)
    → (find (is_next after) cs ≡ Some d
    → length (filter (is_above (Some d.what.number)) cs) < length (filter (is_above after) cs))
    → cond (b && u) (Some c) (find (is_next after) cs) ≡ Some d
    → length (filter (is_above (Some d.what.number)) (c ∷ cs))
    < length (filter (is_above after) (c ∷ cs))
fewer-cons after c d cs true true up order ih e =
    let same : c ≡ d = cc in
    subst (λ (x : Call). length (filter (is_above (Some x.what.number)) (c ∷ cs))
    < length (filter (is_above after) (c ∷ cs))) same
    (rw (below-own c.what.number, up) (omega (arith, all-above after c cs up order.0)))
fewer-cons after c d cs true false up order ih e =
    fewer-later after c d cs
    (found-holds (is_next after) (λ x. c.what.number < x.what.number) cs d order.0 e) (ih e)
fewer-cons after c d cs false u up order ih e =
    fewer-later after c d cs
    (found-holds (is_next after) (λ x. c.what.number < x.what.number) cs d order.0 e) (ih e)

pub fewer-above : (after : Option ℕ) (cs : List Call) (d : Call) → Ascends cs
    → find (is_next after) cs ≡ Some d
    → length (filter (is_above (Some d.what.number)) cs) < length (filter (is_above after) cs)
fewer-above after [] d order e = cc
fewer-above after (c ∷ cs) d order e =
    fewer-cons after c d cs (is_some c.progress) (is_above after c) refl order
    (λ f. fewer-above after cs d order.1 f) e

-- the calls of a session that is there, as the sessions were before
module _ (after : Option ℕ) (i : ℕ) (xs ys : List Client) (same : xs ≡ ys) where
  told-of-place : (o : Option Client) (r : Option Active) → i < length ys → slice_get ys i ≡ o
      → IfSome o (λ x. r ≡ option_and_then told_call (next_above after x))
      → r ≡ option_and_then told_call (find (is_next after) (calls_in o))
  told-of-place None r known e h = absurd-place ys i known e
    where
      absurd-place : (zs : List Client) (j : ℕ) → j < length zs → slice_get zs j ≡ None
          → r ≡ option_and_then told_call (find (is_next after) [])
      absurd-place [] j below t = absurd (omega (arith, below))
      absurd-place (z ∷ zs) zero below t = cc
      absurd-place (z ∷ zs) (suc j) below t = absurd-place zs j (omega (arith, below)) t
  told-of-place (Some x) r known e h = h

  told-here : (r : Option Active) → i < length ys
      → IfSome (slice_get xs i) (λ x. r ≡ option_and_then told_call (next_above after x))
      → r ≡ option_and_then told_call (find (is_next after) (calls_in (slice_get ys i)))
  told-here r known h = told-of-place (slice_get ys i) r known refl (rw (← same) h)

  pub next-calls : (a : Active) → i < length ys
      → IfSome (slice_get xs i) (λ x. Some a ≡ option_and_then told_call (next_above after x))
      → Told after (calls_in (slice_get ys i)) a
  next-calls a known h = told-some after (calls_in (slice_get ys i)) a (told-here (Some a) known h)

  pub next-none : i < length ys
      → IfSome (slice_get xs i) (λ x. None ≡ option_and_then told_call (next_above after x))
      → find (is_next after) (calls_in (slice_get ys i)) ≡ None
  next-none known h = told-none after (calls_in (slice_get ys i)) (told-here None known h)

  pub next-fewer : AllByRecursion CallsAscend xs → (a : Active) → i < length ys
      → IfSome (slice_get xs i) (λ x. Some a ≡ option_and_then told_call (next_above after x))
      → length (filter (is_above (Some a.call)) (calls_in (slice_get ys i)))
      < length (filter (is_above after) (calls_in (slice_get ys i)))
  next-fewer up a known h =
      let t = next-calls a known h in
      let order : Ascends (calls_in (slice_get ys i)) = rw (← same) (ascends-in xs i up) in
      rw (ap (λ (b : Active). b.call) t.told)
      (fewer-above after (calls_in (slice_get ys i)) t.call order t.found)

module _ (i : ℕ) (xs ys : List Client) (same : xs ≡ ys) where
  pub ascends-calls : AllByRecursion CallsAscend xs → Ascends (calls_in (slice_get ys i))
  ascends-calls up = rw (← same) (ascends-in xs i up)

  pub slots-few : AllByRecursion Sound xs → (slot : ℕ)
      → in_slot slot (calls_in (slice_get ys i)) ≤ 1
  slots-few sound slot = rw (← same) (by (slice_get xs i) refl)
    where
      by : (o : Option Client) → slice_get xs i ≡ o → in_slot slot (calls_in o) ≤ 1
      by None e = omega arith
      by (Some x) e = (all-at Sound xs i x sound e).apart slot

-- the number of the next active call
pub number-none : (after : Option ℕ) (o : Option Client) → find (is_next after) (calls_in o) ≡ None
    → option_map (λ c. c.what.number) (option_and_then (next_above after) o) ≡ None
number-none after None e = refl
number-none after (Some x) e = ap (λ (k : Option Call). option_map (λ c. c.what.number) k) e

pub number-some : (after : Option ℕ) (o : Option Client) (a : Active) → Told after (calls_in o) a
    → option_map (λ c. c.what.number) (option_and_then (next_above after) o) ≡ Some a.call
number-some after None a t = absurd-found t.found
  where
    absurd-found : None ≡ Some t.call → option_map (λ (c : Call). c.what.number) None ≡ Some a.call
    absurd-found e = cc
number-some after (Some x) a t =
    ap (λ (k : Option Call). option_map (λ c. c.what.number) k) t.found
    ∙ ap (λ (b : Active). Some b.call) (sym t.told)

pub active-of : (after : Option ℕ) (i : ℕ) (xs : List Client) (a : Active)
    → Ascends (calls_in (slice_get xs i)) → Told after (calls_in (slice_get xs i)) a
    → ActiveAt i a xs
active-of after i xs a order t = by (slice_get xs i) refl order t
  where
    by : (o : Option Client) → slice_get xs i ≡ o → Ascends (calls_in o) → Told after (calls_in o) a
        → ActiveAt i a xs
    by None e up told = absurd-found told.found
      where
        absurd-found : None ≡ Some told.call → ActiveAt i a xs
        absurd-found f = cc
    by (Some x) e up told = next-active after i xs x a e up told

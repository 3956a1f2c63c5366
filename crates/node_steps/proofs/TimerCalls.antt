-- The active calls of a session are looked at, one after another: those between them are idle, so
-- that all calls that the session had were looked at.
use Rattle.std.proofs.Common.{◌≡◌, ℕ, ◌+◌, ◌<◌, ◌≤◌, Bool, true, false, ◌||◌, ◌++◌, cond, ltb}
use Rattle.std.proofs.Common.{Option, Some}
use Rattle.std.proofs.Common.{None, List, [], ◌∷◌, length, refl, sym, ap, subst, ◌∙◌, append_assoc}
use Rattle.std.proofs.Common.{append-nil, arith}
use Rattle.std.specs.Prelude.{IfSome, filter, map, slice_get}
use Rattle.std.specs.List.{AllByRecursion, list_any}
use Rattle.std.proofs.lemmas.Bool.{eqb-true}
use Rattle.std.proofs.lemmas.Bool.Decides.{nat_tests}
use Rattle.rpc_outside.specs.Recording.{Log}
use Rattle.rpc_base.specs.declared.fact.Fact.{Fact}
use Rattle.client_core.specs.declared.outcome.Done.{Done}
use Rattle.rpc_laws.specs.declared.tables.Call.{Call}
use Rattle.rpc_laws.specs.declared.tables.Client.{Client}
use Rattle.rpc_laws.specs.declared.tables.Timed.{Timed}
use Rattle.rpc_laws.specs.Calls.{is_call}
use Rattle.rpc_laws.specs.GoBackN.{Each, Watches, WatchesSession, numbers_in}
use Rattle.rpc_laws.specs.Steps.{Rel}
use Rattle.session_store.specs.Changes.{calls_in}
use Rattle.session_store.specs.Ends.{Ascends, is_late}
use Rattle.node_steps.specs.Notes.{MakesEnds}
use Rattle.node_steps.specs.Seen.{asking}
use Rattle.node_steps.specs.Timers.{calls_at, number_at}
use Rattle.node_steps.proofs.TimerIdle.{Next, above, any_active, early-watch, idle-below, idle-past}
use Rattle.node_steps.proofs.TimerIdle.{idle-unlisted, idle-watch, idle-watched, next-passes}
use Rattle.node_steps.proofs.TimerIdle.{none-next, some-next}
use Rattle.node_steps.proofs.NoteEnds.{ends-as, ends-join, ends-none, no_asks}

abbrev pub numbers : List Call → List ℕ
numbers cs = map (λ c. c.what.number) cs

abbrev pub still : Option ℕ → List Call → List ℕ
still after cs = filter (above after) (numbers cs)

-- all above a number pass
all-pass : (q : ℕ → Bool) (k : ℕ) (cs : List Call) → ((e : ℕ) → k < e → q e ≡ true)
    → AllByRecursion (λ d. k < d.what.number) cs → filter q (numbers cs) ≡ numbers cs
all-pass q k [] h all = refl
all-pass q k (c ∷ cs) h all =
    rw (h c.what.number all.0) (ap (λ ns. c.what.number ∷ ns) (all-pass q k cs h all.1))

above-more : (after : Option ℕ) (k e : ℕ) → above after k ≡ true → k < e → above after e ≡ true
above-more None k e up more = refl
above-more (Some n) k e up more = grind (arith, nat_tests)

above-own : (n e : ℕ) → n < e → ltb n e ≡ true
above-own n e more = grind (arith, nat_tests)

not-above : (n e : ℕ) → e ≤ n → ltb n e ≡ false
not-above n e low = grind (arith, nat_tests)

-- one that is listed behind is above
listed-cons : (n k : ℕ) (c : Call) (cs : List Call) (b : Bool) → is_call n c ≡ b
    → k < c.what.number → (list_any (is_call n) cs ≡ true → k < n)
    → (b || list_any (is_call n) cs) ≡ true → k < n
listed-cons n k c cs true own low ih t =
    let same = eqb-true c.what.number n own in omega (arith, low, same)
listed-cons n k c cs false own low ih t = ih t

listed-above : (n k : ℕ) (cs : List Call) → AllByRecursion (λ d. k < d.what.number) cs
    → list_any (is_call n) cs ≡ true → k < n
listed-above n k [] all t = cc
listed-above n k (c ∷ cs) all t =
    listed-cons n k c cs (is_call n c) refl all.0 (listed-above n k cs all.1) t

module _ (P : ℕ → Rel) (s : Timed) where
  -- idle ones give nothing
  idle-front : (m : ℕ) (ns : List ℕ) (x : List Fact) (t : Timed) → P m s [] s → Each P ns s x t
      → Each P (m ∷ ns) s x t
  idle-front m ns x t q p =
      record { between = s; front = []; back = x; joined = refl; first = q; second = p }

  over-cons : (after : Option ℕ) (m : ℕ) (ns : List ℕ) (b : Bool) → above after m ≡ b
      → ((k : ℕ) → above after k ≡ true → P k s [] s) → Each P ns s [] s
      → Each P (cond b (m ∷ ns) ns) s [] s
  over-cons after m ns true up idle ih = idle-front m ns [] s (idle m up) ih
  over-cons after m ns false up idle ih = ih

  pub all-over : (after : Option ℕ) (ns : List ℕ) → ((k : ℕ) → above after k ≡ true → P k s [] s)
      → Each P (filter (above after) ns) s [] s
  all-over after [] idle = (refl, refl)
  all-over after (m ∷ ns) idle =
      over-cons after m (filter (above after) ns) (above after m) refl idle (all-over after ns idle)

  module _ (after : Option ℕ) (n : ℕ) (up : above after n ≡ true)
      (idle : (k : ℕ) → above after k ≡ true → k < n → P k s [] s) (x : List Fact) (t : Timed) where
    passed-cons : (m : ℕ) (ns : List ℕ) (b : Bool) → above after m ≡ b → m < n → Each P ns s x t
        → Each P (cond b (m ∷ ns) ns) s x t
    passed-cons m ns true on low p = idle-front m ns x t (idle m on low) p
    passed-cons m ns false on low p = p

    skip-cons : (c : Call) (cs : List Call) (b : Bool) → is_call n c ≡ b → Ascends (c ∷ cs)
        → (list_any (is_call n) cs ≡ true → Each P (n ∷ still (Some n) cs) s x t
        → Each P (still after cs) s x t) → (b || list_any (is_call n) cs) ≡ true
        → Each P (n ∷ still (Some n) (c ∷ cs)) s x t → Each P (still after (c ∷ cs)) s x t
    skip-cons c cs true own order ih there p =
        let same : c.what.number ≡ n = eqb-true c.what.number n own in
        let on : above after c.what.number ≡ true = ap (λ k. above after k) same ∙ up in
        let all : AllByRecursion (λ d. n < d.what.number) cs = rw same at order.0 in
        let here : still after cs ≡ numbers cs =
        all-pass (above after) n cs (λ e more. above-more after n e up more) all in
        let there : still (Some n) cs ≡ numbers cs =
        all-pass (above (Some n)) n cs (λ e more. above-own n e more) all in
        let not : ltb n c.what.number ≡ false = not-above n c.what.number (omega (arith, same)) in
        let q : Each P (n ∷ numbers cs) s x t = rw (not, there) at p in
        rw (on, here, same) q
    skip-cons c cs false own order ih there p =
        let low : c.what.number < n = listed-above n c.what.number cs order.0 there in
        let not : ltb n c.what.number ≡ false = not-above n c.what.number (omega (arith, low)) in
        let q : Each P (n ∷ still (Some n) cs) s x t = rw not at p in
        passed-cons c.what.number (still after cs)
        (above after c.what.number) refl low (ih there q)

    pub skip : (cs : List Call) → Ascends cs → list_any (is_call n) cs ≡ true
        → Each P (n ∷ still (Some n) cs) s x t → Each P (still after cs) s x t
    skip [] order there p = cc
    skip (c ∷ cs) order there p = skip-cons c cs (is_call n c) refl order (skip cs order.1) there p

-- fewer numbers are above one that is listed
more-above : (after : Option ℕ) (n : ℕ) → above after n ≡ true → (m : ℕ) → ltb n m ≡ true
    → above after m ≡ true
more-above None n up m t = refl
more-above (Some k) n up m t = grind (arith, nat_tests)

le-cons : (after : Option ℕ) (n m j k : ℕ) (b d : Bool) → ltb n m ≡ b → above after m ≡ d
    → (ltb n m ≡ true → above after m ≡ true) → j ≤ k → cond b (j + 1) j ≤ cond d (k + 1) k
le-cons after n m j k true true t u more le = omega (arith, le)
le-cons after n m j k true false t u more le = let no : false ≡ true = sym u ∙ more t in cc
le-cons after n m j k false true t u more le = omega (arith, le)
le-cons after n m j k false false t u more le = le

long-cons : (m : ℕ) (ns : List ℕ) (b : Bool)
    → length (cond b (m ∷ ns) ns) ≡ cond b (length ns + 1) (length ns)
long-cons m ns true = omega arith
long-cons m ns false = refl

still-le : (after : Option ℕ) (n : ℕ) → above after n ≡ true → (cs : List Call)
    → length (still (Some n) cs) ≤ length (still after cs)
still-le after n up [] = omega arith
still-le after n up (c ∷ cs) =
    let m = c.what.number in
    let both = le-cons after n m (length (still (Some n) cs)) (length (still after cs)) (ltb n m)
    (above after m) refl refl (more-above after n up m) (still-le after n up cs) in
    omega (
      arith,
      both,
      long-cons m (still (Some n) cs) (ltb n m),
      long-cons m (still after cs) (above after m),
    )

fewer-cons : (after : Option ℕ) (n : ℕ) → above after n ≡ true → (c : Call) (cs : List Call)
    → (b : Bool) → is_call n c ≡ b
    → (list_any (is_call n) cs ≡ true
    → length (still (Some n) cs) < length (still after cs))
    → (b || list_any (is_call n) cs) ≡ true
    → length (still (Some n) (c ∷ cs)) < length (still after (c ∷ cs))
fewer-cons after n up c cs true own ih there =
    let same : c.what.number ≡ n = eqb-true c.what.number n own in
    let on : above after c.what.number ≡ true = ap (λ k. above after k) same ∙ up in
    let not : ltb n c.what.number ≡ false = not-above n c.what.number (omega (arith, same)) in
    rw (on, not) (omega (arith, still-le after n up cs))
fewer-cons after n up c cs false own ih there =
    let m = c.what.number in
    let both =
    le-cons after n m (length (still (Some n) cs) + 1) (length (still after cs)) (ltb n m)
    (above after m) refl refl (more-above after n up m) (omega (arith, ih there)) in
    let more = long-by (ltb n m) in
    omega (
      arith,
      both,
      more,
      long-cons m (still (Some n) cs) (ltb n m),
      long-cons m (still after cs) (above after m),
    )
  where
    long-by : (b : Bool)
        → cond b (length (still (Some n) cs) + 1 + 1) (length (still (Some n) cs) + 1)
        ≡ cond b (length (still (Some n) cs) + 1) (length (still (Some n) cs)) + 1
    long-by true = refl
    long-by false = refl

still-fewer : (after : Option ℕ) (n : ℕ) → above after n ≡ true → (cs : List Call)
    → list_any (is_call n) cs ≡ true → length (still (Some n) cs) < length (still after cs)
still-fewer after n up [] there = cc
still-fewer after n up (c ∷ cs) there =
    fewer-cons after n up c cs (is_call n c) refl (still-fewer after n up cs) there

-- a session on its way: what is still to be looked at leads to the end
abbrev pub Walked : (timeout i : ℕ) → Option ℕ → Rel
Walked timeout i after s x t =
    (y : List Fact) (u : Timed) → Each (Watches timeout i) (still after (calls_at i s)) t y u
    → WatchesSession timeout i s (x ++ y) u

-- no call is active that the session did not have
abbrev pub Known : ℕ → Timed → Timed → Type 0
Known i start s =
    (m : ℕ) → list_any (is_call m) (calls_at i start) ≡ false → any_active i m s.lists.clients ≡
    false

numbers-same : (o : Option Client) → numbers_in o ≡ numbers (calls_in o)
numbers-same None = refl
numbers-same (Some x) = refl

all-still : (ns : List ℕ) → filter (above None) ns ≡ ns
all-still [] = refl
all-still (n ∷ ns) = ap (λ ms. n ∷ ms) (all-still ns)

pub known-start : (i : ℕ) (s : Timed) → Known i s s
known-start i s = λ m h. idle-unlisted m (calls_at i s) h

-- where no clock says that a call timed out, none is to be looked at
pub early-session : (timeout i : ℕ) (s : Timed)
    → IfSome (slice_get s.lists.clients i) (λ x. false ≡ list_any (is_late s.clock timeout) x.calls)
    → WatchesSession timeout i s [] s
early-session timeout i s h =
    subst (λ ns. Each (Watches timeout i) ns s [] s)
    (all-still (numbers_in (slice_get s.lists.clients i)))
    (all-over (Watches timeout i) s None (numbers_in (slice_get s.lists.clients i))
    (λ m _. early-watch timeout i m s h))

module _ {R K : Type 0} (log : R → Log)
    (given : K → List Done → Type 0) (timeout i : ℕ) where
  pub early-ends : (s : Timed) (f : R) (k : K)
      → IfSome (slice_get s.lists.clients i)
      (λ x. false ≡ list_any (is_late s.clock timeout) x.calls)
      → MakesEnds log given (WatchesSession timeout i) s s f f k k
  early-ends s f k h =
      ends-none log given (WatchesSession timeout i) s f k
      (λ asks. early-session timeout i (asking asks s) h)

  pub walk-start : (a : Timed) (f : R) (k : K)
      → MakesEnds log given (Walked timeout i None) a a f f k k
  walk-start a f k =
      ends-none log given (Walked timeout i None) a f k
      (λ asks y u e.
      let all : Each (Watches timeout i) (numbers (calls_at i a)) (asking asks a) y u =
      rw (all-still (numbers (calls_at i a))) at e in
      rw (numbers-same (slice_get a.lists.clients i)) all)

  module _ (after : Option ℕ) (a b : Timed) (f g : R) (k l : K)
      (walked : MakesEnds log given (Walked timeout i after) a b f g k l) where
    pub walk-over : number_at after i b ≡ None
        → MakesEnds log given (WatchesSession timeout i) a b f g k l
    walk-over e =
        let none = none-next after (slice_get b.lists.clients i) e in
        ends-as log given (Walked timeout i after) (WatchesSession timeout i) a b f g k l
        (λ asks x p. subst (λ z. WatchesSession timeout i (asking asks a) z (asking asks b))
        (append-nil x)
        (p [] (asking asks b) (all-over (Watches timeout i) (asking asks b) after _
        (λ m up. idle-watch timeout i m (asking asks b)
        (idle-past after m up (calls_at i b) none))))) walked

    module _ (known : Known i a b) (start_order : Ascends (calls_at i a))
        (order : Ascends (calls_at i b)) (me : b.lists.me ≡ a.lists.me) (n : ℕ) (c : Timed) (h : R)
        (j : K) (e : number_at after i b ≡ Some n)
        (looked : MakesEnds log given (Watches timeout i n) b c g h l j) where
      next : Next after n (calls_at i b)
      next = some-next after n (slice_get b.lists.clients i) e

      listed : list_any (is_call n) (calls_at i a) ≡ true
      listed = by (list_any (is_call n) (calls_at i a)) refl
        where
          by : (t : Bool) → list_any (is_call n) (calls_at i a) ≡ t → t ≡ true
          by true t = refl
          by false t =
              let no : false ≡ true =
              sym (known n t) ∙ (next-passes after n (calls_at i b) next).1 in
              cc

      between : (s : Timed) → s.lists.clients ≡ b.lists.clients → (m : ℕ) → above after m ≡ true
          → m < n → Watches timeout i m s [] s
      between s same m up low =
          let number = next.number in
          let none = idle-below after m up (calls_at i b) next.call order next.found
          (omega (arith, number, low)) in
          idle-watch timeout i m s
          (ap (λ (xs : List Client). any_active i m xs) same ∙ none)

      pub walk-more : MakesEnds log given (Walked timeout i (Some n)) a c f h k j
      walk-more =
          ends-join log given (Walked timeout i after) (Watches timeout i n)
          (Walked timeout i (Some n)) a b c f g h k l j me
          (λ asks x y p q. λ z u rest.
          let all : Each (Watches timeout i) (n ∷ still (Some n) (calls_at i a)) (asking asks b)
          (y ++ z) u =
          record {
            between = asking asks c;
            front = y;
            back = z;
            joined = refl;
            first = q;
            second = rest;
          } in
          let left = skip (Watches timeout i) (asking asks b) after n
          (next-passes after n (calls_at i b) next).0 (between (asking asks b) refl) (y ++ z) u
          (calls_at i a) start_order listed all in
          subst (λ w. WatchesSession timeout i (asking asks a) w u) (sym (append_assoc x y z))
          (p (y ++ z) u left)) walked looked

      pub known-more : Known i a c
      known-more = λ m t.
          idle-watched i m timeout n (asking no_asks b) (asking no_asks c) looked.makes.noted
          (looked.makes.step no_asks) (known m t)

      -- fewer of its calls are above
      pub fewer-still : length (still (Some n) (calls_at i a)) < length (still after (calls_at i a))
      fewer-still =
          still-fewer after n (next-passes after n (calls_at i b) next).0 (calls_at i a) listed

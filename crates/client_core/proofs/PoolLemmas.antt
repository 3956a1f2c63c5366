-- What a session's places are in the pool, before and after a call of the session.
use Rattle.std.proofs.Common.{◌≡◌, ◌≢◌, ℕ, ◌+◌, ◌-◌, ◌<◌, ◌≤◌, Bool, true, false, cond, Option}
use Rattle.std.proofs.Common.{Some, None, List, [], ◌∷◌, ◌++◌, length, get_or, set, refl, sym, ap}
use Rattle.std.proofs.Common.{◌∙◌, inl, inr, arith, eqb}
use Rattle.std.proofs.lemmas.Bool.{cases_eq, cases_lt, eq-eqb}
use Rattle.std.proofs.lemmas.List.{get_or_past, length-set}
use Rattle.std.specs.List.{AllByRecursion, find}
use Rattle.std.proofs.lemmas.List.Sums.{sum_by-append, sum_by-cons}
use Rattle.message_buffer.specs.Buffer.{Buffer}
use Rattle.buffer_pool.specs.declared.usage.Use.{Use}
use Rattle.buffer_pool.specs.declared.usage.Use.TheVariants.{Empty, Full}
use Rattle.buffer_pool.specs.Uses.{is_empty, is_full, refs_in}
use Rattle.buffer_pool.specs.Pool.{Pool, IsFull, buf_at, filled, held, lowest_empty, refs_of, released}
use Rattle.buffer_pool.proofs.PoolLemmas.{changed_other, changed_own, full_within}
use Rattle.rpc_base.specs.Tables.{at_first}
use Rattle.client_core.specs.declared.call.ActiveCall.{ActiveCall}
use Rattle.client_core.specs.Session.{can_post}
use Rattle.client_core.specs.KeepsPool.{CanHold, IsHeld, IsKept, KeepsPool, MayHold, held_at, names, released_at}
use Rattle.client_core.specs.Posting.{marked, one_left, one_posted, place_of}
use Rattle.client_core.proofs.CallsLemmas.{sum-at_first}
use Rattle.rpc_base.proofs.FirstLemmas.{all-push, found-holds, all-kept, all-each}
use Rattle.rpc_base.proofs.TablesLemmas.{position-at}
use Rattle.message_buffer.specs.Messages.{HasSize}
use Rattle.buffer_pool.proofs.PlacesLemmas.{full-cases, full-empty, unnamed-cases, unnamed-one}

-- the place of a packet may be held
hold-cases : (pool : Pool) (c : ActiveCall) (place : Option ℕ) (b : Bool) → IsKept pool c
    → refs_of pool c.ask < 4294967295 → place ≡ cond b (Some c.ask) None → MayHold pool place
hold-cases pool c place true kept few e = rw e (kept.ask, few)
hold-cases pool c place false kept few e = rw e tt

pub may-hold : (pool : Pool) (p : ActiveCall → Bool) (calls : List ActiveCall) (c : ActiveCall)
    (k : ℕ) (place : Option ℕ) → KeepsPool pool calls → CanHold pool calls → find p calls ≡ Some c
    → place ≡ place_of c k → MayHold pool place
may-hold pool p calls c k place keeps few e same =
    hold-cases pool c place _ (found-holds p (IsKept pool) calls c keeps.kept e)
    (found-holds p (λ x. refs_of pool x.ask < 4294967295) calls c few e) same

-- a call is kept where its places are full as before, with the same buffers
kept-uses : (pool : Pool) (p : ℕ) (u : Use) (c : ActiveCall) → is_full u ≡ true → c.answer ≢ p
    → IsKept pool c → IsKept (record { uses = set pool.uses p u; bufs = pool.bufs }) c
kept-uses pool p u c full other kept = record {
  ask = full-cases pool.uses p c.ask u full kept.ask;
  answer = full-cases pool.uses p c.answer u full kept.answer;
  size = kept.size;
  room = kept.room;
  unnamed = ap refs_in (changed_other pool.uses p c.answer u Empty other) ∙ kept.unnamed;
}

pub all-both : {A : Type 0} (P R Q : A → Type 0) (xs : List A) → ((x : A) → P x → R x → Q x)
    → AllByRecursion P xs → AllByRecursion R xs → AllByRecursion Q xs
all-both P R Q [] step ps rs = tt
all-both P R Q (x ∷ xs) step ps rs = (step x ps.0 rs.0, all-both P R Q xs step ps.1 rs.1)

-- how often calls name a place
pub names-cons : (p : ℕ) (c : ActiveCall) (cs : List ActiveCall)
    → names p (c ∷ cs) ≡ cond (eqb c.ask p) 1 0 + cond (eqb c.answer p) 1 0 + names p cs
names-cons p c cs = sum_by-cons _ c cs

-- no answer is where no call names the place
answers-unnamed : (p : ℕ) (cs : List ActiveCall) → names p cs ≡ 0 → AllByRecursion (λ c. c.answer ≢ p) cs
answers-unnamed p [] e = tt
answers-unnamed p (c ∷ cs) e =
    let sum = names-cons p c cs in
    (unnamed-cases c.answer p _ refl (omega (arith, sum, e)), answers-unnamed p cs (omega (arith, sum, e)))

-- no answer is where a call has its request
module _ (test : ActiveCall → Bool) (c : ActiveCall) (p : ℕ) (here : c.ask ≡ p) where
  one-own : (d : ActiveCall) → d ≡ c → cond {A = ℕ} (eqb d.ask p) 1 0 ≡ 1
  one-own d same = ap (λ b. cond {A = ℕ} b 1 0) (eq-eqb d.ask p (ap (λ x. x.ask) same ∙ here))

  named-cons : (d : ActiveCall) (cs : List ActiveCall) (b : Bool)
      → (find test cs ≡ Some c → 1 ≤ names p cs) → cond b (Some d) (find test cs) ≡ Some c
      → 1 ≤ names p (d ∷ cs)
  named-cons d cs true ih e = let same : d ≡ c = cc in omega (arith, names-cons p d cs, one-own d same)
  named-cons d cs false ih e = omega (arith, names-cons p d cs, ih e)

  named : (cs : List ActiveCall) → find test cs ≡ Some c → 1 ≤ names p cs
  named [] e = cc
  named (d ∷ cs) e = named-cons d cs (test d) (named cs) e

  apart-cons : (d : ActiveCall) (cs : List ActiveCall) (b : Bool) → names p (d ∷ cs) ≤ 1
      → (names p cs ≤ 1 → find test cs ≡ Some c → AllByRecursion (λ x. x.answer ≢ p) cs)
      → cond b (Some d) (find test cs) ≡ Some c → AllByRecursion (λ x. x.answer ≢ p) (d ∷ cs)
  apart-cons d cs true few ih e =
      let same : d ≡ c = cc in
      let sum = names-cons p d cs in (
        unnamed-cases d.answer p _ refl (omega (arith, sum, few, one-own d same)),
        answers-unnamed p cs (omega (arith, sum, few, one-own d same)),
      )
  apart-cons d cs false few ih e =
      let sum = names-cons p d cs in
      (unnamed-cases d.answer p _ refl (omega (arith, sum, few, named cs e)), ih (omega (arith, sum, few)) e)

  answers-apart : (cs : List ActiveCall) → names p cs ≤ 1 → find test cs ≡ Some c
      → AllByRecursion (λ x. x.answer ≢ p) cs
  answers-apart [] few e = tt
  answers-apart (d ∷ cs) few e = apart-cons d cs (test d) few (answers-apart cs) e

-- a call's own change doesn't touch its places
posted-kept : (pool : Pool) (c : ActiveCall) → IsKept pool c → IsKept pool (one_posted c)
posted-kept pool c kept =
    record {
      ask = kept.ask;
      answer = kept.answer;
      size = kept.size;
      room = kept.room;
      unnamed = kept.unnamed;
    }

left-kept : (pool : Pool) (c : ActiveCall) → IsKept pool c → IsKept pool (one_left c)
left-kept pool c kept =
    record {
      ask = kept.ask;
      answer = kept.answer;
      size = kept.size;
      room = kept.room;
      unnamed = kept.unnamed;
    }

pub keeps-left : (pool : Pool) (test : ActiveCall → Bool) (calls : List ActiveCall)
    → KeepsPool pool calls → KeepsPool pool (at_first test one_left calls)
keeps-left pool test calls keeps = record {
  kept = all-kept test one_left (IsKept pool) calls (λ c kept passes. left-kept pool c kept) keeps.kept;
  apart = λ p. rw (sum-at_first test one_left
      (λ c. cond (eqb c.ask p) 1 0 + cond (eqb c.answer p) 1 0) calls (λ c. refl)) (keeps.apart p);
}

marked-cases : (pool : Pool) (now : ℕ) (c : ActiveCall) (b : Bool) → IsKept pool c
    → IsKept pool (cond b (record c { mark = now }) c)
marked-cases pool now c true kept =
    record {
      ask = kept.ask;
      answer = kept.answer;
      size = kept.size;
      room = kept.room;
      unnamed = kept.unnamed;
    }
marked-cases pool now c false kept = kept

marked-names : (p now : ℕ) (c : ActiveCall) (b : Bool)
    → cond {A = ℕ} (eqb (cond b (record c { mark = now }) c).ask p) 1 0
    + cond {A = ℕ} (eqb (cond b (record c { mark = now }) c).answer p) 1 0
    ≡ cond {A = ℕ} (eqb c.ask p) 1 0 + cond {A = ℕ} (eqb c.answer p) 1 0
marked-names p now c true = refl
marked-names p now c false = refl

pub keeps-posted : (pool : Pool) (calls : List ActiveCall) → KeepsPool pool calls
    → KeepsPool pool (at_first can_post one_posted calls)
keeps-posted pool calls keeps = record {
  kept = all-kept can_post one_posted (IsKept pool) calls (λ c kept passes. posted-kept pool c kept) keeps.kept;
  apart = λ p. rw (sum-at_first can_post one_posted
      (λ c. cond (eqb c.ask p) 1 0 + cond (eqb c.answer p) 1 0) calls (λ c. refl)) (keeps.apart p);
}

pub keeps-marked : (pool : Pool) (test : ActiveCall → Bool) (number now : ℕ)
    (calls : List ActiveCall) → KeepsPool pool calls
    → KeepsPool pool (at_first test (marked number now) calls)
keeps-marked pool test number now calls keeps = record {
  kept = all-kept test (marked number now) (IsKept pool) calls
      (λ c kept passes. marked-cases pool now (one_left c) _ (left-kept pool c kept)) keeps.kept;
  apart = λ p. rw (sum-at_first test (marked number now)
      (λ c. cond (eqb c.ask p) 1 0 + cond (eqb c.answer p) 1 0) calls
      (λ c. marked-names p now (one_left c) _)) (keeps.apart p);
}

-- the pool keeps the calls where the place of a request is held once more
pub keeps-held : (pool : Pool) (test : ActiveCall → Bool) (calls : List ActiveCall) (c : ActiveCall)
    → KeepsPool pool calls → find test calls ≡ Some c → KeepsPool (held c.ask pool) calls
keeps-held pool test calls c keeps e = record {
  kept = all-both (IsKept pool) (λ x. x.answer ≢ c.ask)
      (IsKept (held c.ask pool)) calls (λ x kept other. kept-uses pool c.ask
      (Full (refs_of pool c.ask + 1)) x refl other kept) keeps.kept
      (answers-apart test c c.ask refl calls (keeps.apart c.ask) e);
  apart = keeps.apart;
}

held-cases : (pool : Pool) (test : ActiveCall → Bool) (calls : List ActiveCall) (c : ActiveCall)
    (b : Bool) → KeepsPool pool calls → find test calls ≡ Some c
    → KeepsPool (held_at (cond b (Some c.ask) None) pool) calls
held-cases pool test calls c true keeps e = keeps-held pool test calls c keeps e
held-cases pool test calls c false keeps e = keeps

-- posting keeps the pool
pub keeps-posting : (pool : Pool) (calls : List ActiveCall) (c : ActiveCall) → KeepsPool pool calls
    → find can_post calls ≡ Some c
    → KeepsPool (held_at (place_of c c.posted) pool) (at_first can_post one_posted calls)
keeps-posting pool calls c keeps e = keeps-posted _ calls (held-cases pool can_post calls c _ keeps e)

-- an answer has no reference, so that what is released is another place
answer-other : (pool : Pool) (p : ℕ) (c : ActiveCall) → IsKept pool c → 0 < refs_of pool p → c.answer ≢ p
answer-other pool p c kept some = λ same. let there : refs_of pool p ≡ 0 = rw (← same) kept.unnamed in absurd (omega (arith, there, some))

released-full : (pool : Pool) (p : ℕ) (calls : List ActiveCall) → 0 < refs_of pool p
    → KeepsPool pool calls → KeepsPool (released p pool) calls
released-full pool p calls some keeps = record {
  kept = all-each (IsKept pool) (IsKept (released p pool)) calls
      (λ c kept. kept-uses pool p (Full (refs_of pool p - 1)) c refl
      (answer-other pool p c kept some) kept) keeps.kept;
  apart = keeps.apart;
}

-- releasing keeps the pool
pub keeps-released : (pool : Pool) (place : Option ℕ) (calls : List ActiveCall) → IsHeld pool place
    → KeepsPool pool calls → KeepsPool (released_at place pool) calls
keeps-released pool None calls some keeps = keeps
keeps-released pool (Some p) calls some keeps = released-full pool p calls some keeps

empty-other : (uses : List Use) (p q : ℕ) → is_full (get_or uses q Empty) ≡ true
    → is_empty (get_or uses p Empty) ≡ true → q ≢ p
empty-other uses p q full empty = λ same. full-empty (get_or uses p Empty) (rw same at full) empty

-- what is put in an empty place leaves the others
kept-filled : (pool : Pool) (p : ℕ) (b : Buffer) (c : ActiveCall)
    → is_empty (get_or pool.uses p Empty) ≡ true → IsKept pool c → IsKept (filled p b pool) c
kept-filled pool p b c empty kept =
    let ask = empty-other pool.uses p c.ask kept.ask empty in
    let answer = empty-other pool.uses p c.answer kept.answer empty in
    record {
      ask = ap is_full (changed_other pool.uses p c.ask (Full 0) Empty ask) ∙ kept.ask;
      answer = ap is_full (changed_other pool.uses p c.answer (Full 0) Empty answer) ∙ kept.answer;
      size = rw (changed_other pool.bufs p c.ask (Some b) None ask) kept.size;
      room = rw (changed_other pool.bufs p c.answer (Some b) None answer) kept.room;
      unnamed = ap refs_in (changed_other pool.uses p c.answer (Full 0) Empty answer) ∙ kept.unnamed;
    }

-- no call names an empty place
names-empty : (pool : Pool) (p : ℕ) (calls : List ActiveCall)
    → is_empty (get_or pool.uses p Empty) ≡ true → AllByRecursion (IsKept pool) calls
    → names p calls ≡ 0
names-empty pool p [] empty kept = refl
names-empty pool p (c ∷ cs) empty kept =
    omega (
      arith,
      names-cons p c cs,
      names-empty pool p cs empty kept.1,
      unnamed-one c.ask p (empty-other pool.uses p c.ask kept.0.ask empty),
      unnamed-one c.answer p
          (empty-other pool.uses p c.answer kept.0.answer empty),
    )

-- two buffers are put in two places
module _ (pool : Pool) (p q : ℕ) (b d : Buffer) (first : lowest_empty pool ≡ Some p)
    (second : lowest_empty (filled p b pool) ≡ Some q) where
  first-within : p < length pool.uses
  first-within = (position-at is_empty pool.uses p Empty first).0

  first-empty : is_empty (get_or pool.uses p Empty) ≡ true
  first-empty = (position-at is_empty pool.uses p Empty first).1

  second-within : q < length (set pool.uses p (Full 0))
  second-within = (position-at is_empty (set pool.uses p (Full 0)) q Empty second).0

  second-empty : is_empty (get_or (set pool.uses p (Full 0)) q Empty) ≡ true
  second-empty = (position-at is_empty (set pool.uses p (Full 0)) q Empty second).1

  two-places : p ≢ q
  two-places = empty-other (set pool.uses p (Full 0)) q p
      (ap is_full (changed_own pool.uses p (Full 0) Empty first-within)) second-empty

  pub first-full : IsFull (filled q d (filled p b pool)) p
  first-full = ap is_full (changed_other (set pool.uses p (Full 0)) q p (Full 0) Empty two-places)
      ∙ ap is_full (changed_own pool.uses p (Full 0) Empty first-within)

  pub second-full : IsFull (filled q d (filled p b pool)) q
  second-full = ap is_full (changed_own (set pool.uses p (Full 0)) q (Full 0) Empty second-within)

  second-free : refs_of (filled q d (filled p b pool)) q ≡ 0
  second-free = ap refs_in (changed_own (set pool.uses p (Full 0)) q (Full 0) Empty second-within)

  put-cases : (bufs : List (Option Buffer)) (k : ℕ) (x y : Buffer)
      → get_or (set bufs k (Some x)) k None ≡ Some y → y ≡ x
  put-cases bufs k x y e =
      elim (cases_lt k (length bufs)) [
        | inl within ↦ (let own = changed_own bufs k (Some x) None within in cc)
        | inr past ↦ (let none : get_or (set bufs k (Some x)) k None ≡ None = get_or_past (set bufs k (Some x)) k None (omega (arith, length-set bufs k (Some x), past)) in cc)
      ]

  pub first-buffer : (x : Buffer) → buf_at (filled q d (filled p b pool)) p ≡ Some x → x ≡ b
  first-buffer x e = put-cases pool.bufs p b x
      (sym (changed_other (set pool.bufs p (Some b)) q p (Some d) None two-places) ∙ e)

  pub second-buffer : (x : Buffer) → buf_at (filled q d (filled p b pool)) q ≡ Some x → x ≡ d
  second-buffer x e = put-cases (set pool.bufs p (Some b)) q d x e

  -- the buffers of the calls that were kept are as they were
  pub same-ask : (c : ActiveCall) → IsKept pool c → buf_at (filled q d (filled p b pool)) c.ask ≡ buf_at pool c.ask
  same-ask c kept =
      let one = kept-filled pool p b c first-empty kept in
      changed_other (set pool.bufs p (Some b)) q c.ask (Some d) None
      (empty-other (set pool.uses p (Full 0)) q c.ask one.ask second-empty)
      ∙ changed_other pool.bufs p c.ask (Some b) None
      (empty-other pool.uses p c.ask kept.ask first-empty)

  pub same-answer : (c : ActiveCall) → IsKept pool c
      → buf_at (filled q d (filled p b pool)) c.answer ≡ buf_at pool c.answer
  same-answer c kept =
      let one = kept-filled pool p b c first-empty kept in
      changed_other (set pool.bufs p (Some b)) q c.answer (Some d) None
      (empty-other (set pool.uses p (Full 0)) q c.answer one.answer second-empty)
      ∙ changed_other pool.bufs p c.answer (Some b) None
      (empty-other pool.uses p c.answer kept.answer first-empty)

  some-buffer : (size : ℕ) (o : Option Buffer) → HasSize size o → ((x : Buffer) → o ≡ Some x → x ≡ b) → o ≡ Some b
  some-buffer size None has only = absurd has
  some-buffer size (Some x) has only = ap Some (only x refl)

  pub ask-buffer : (size : ℕ) → HasSize size (buf_at (filled q d (filled p b pool)) p)
      → buf_at (filled q d (filled p b pool)) p ≡ Some b
  ask-buffer size has = some-buffer size _ has first-buffer

  names-new : (r : ℕ) (c : ActiveCall) → c.ask ≡ p → c.answer ≡ q → (calls : List ActiveCall)
      → KeepsPool pool calls → names r (calls ++ c ∷ []) ≤ 1
  names-new r c ask answer calls keeps =
      let sum = sum_by-append (λ x. cond (eqb x.ask r) 1 0 + cond (eqb x.answer r) 1 0) calls (c ∷ []) in
      let own = names-cons r c [] in
      elim (cases_eq r p) [
        | inl here ↦ (
            let none = names-empty pool r calls (rw here first-empty) keeps.kept in
            let other = unnamed-one c.answer r (λ same. two-places (sym here ∙ sym same ∙ answer)) in
            omega (arith, sum, own, none, other, one-most (eqb c.ask r)))
        | inr apart ↦ (
            let off = unnamed-one c.ask r (λ same. apart (sym same ∙ ask)) in
            elim (cases_eq r q) [
              | inl here ↦ (
                  let none = names-empty (filled p b pool) r calls (rw here second-empty)
                  (all-each (IsKept pool)
                  (IsKept (filled p b pool)) calls
                  (λ x kept. kept-filled pool p b x first-empty kept) keeps.kept) in
                  omega (arith, sum, own, none, off, one-most (eqb c.answer r)))
              | inr away ↦ (
                  let other = unnamed-one c.answer r (λ same. away (sym same ∙ answer)) in
                  omega (arith, sum, own, off, other, keeps.apart r))
            ])
      ]
    where
      one-most : (t : Bool) → cond {A = ℕ} t 1 0 ≤ 1
      one-most true = omega arith
      one-most false = omega arith

  -- beginning keeps the pool
  pub keeps-begun : (c : ActiveCall) (calls : List ActiveCall) → c.ask ≡ p → c.answer ≡ q
      → IsKept (filled q d (filled p b pool)) c → KeepsPool pool calls
      → KeepsPool (filled q d (filled p b pool)) (calls ++ c ∷ [])
  keeps-begun c calls ask answer own keeps = record {
    kept = all-push (IsKept (filled q d (filled p b pool))) calls c
        (all-each (IsKept pool) (IsKept (filled q d (filled p b pool))) calls
        (λ x kept. kept-filled (filled p b pool) q d x second-empty
        (kept-filled pool p b x first-empty kept)) keeps.kept) own;
    apart = λ r. names-new r c ask answer calls keeps;
  }

-- a place that was held has a reference
held-is : (pool : Pool) (c : ActiveCall) (b : Bool) → IsFull pool c.ask
    → IsHeld (held_at (cond b (Some c.ask) None) pool) (cond b (Some c.ask) None)
held-is pool c true full =
    rw (ap refs_in (changed_own pool.uses c.ask (Full (refs_of pool c.ask + 1)) Empty
    (full_within pool.uses c.ask full))) (omega arith)
held-is pool c false full = tt

pub entry-held : (pool : Pool) (calls : List ActiveCall) (c : ActiveCall) → KeepsPool pool calls
    → find can_post calls ≡ Some c
    → IsHeld (held_at (place_of c c.posted) pool) (place_of c c.posted)
entry-held pool calls c keeps e = held-is pool c _ (found-holds can_post (IsKept pool) calls c keeps.kept e).ask

-- every pool keeps a session with no active call
pub keeps-none : (pool : Pool) → KeepsPool pool []
keeps-none pool = record { kept = tt; apart = λ p. omega arith }

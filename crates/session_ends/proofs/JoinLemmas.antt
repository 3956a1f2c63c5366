-- The ring and the pacer as one queue.
use Rattle.std.proofs.Common.{◌≡◌, ℕ, ◌+◌, Bool, true, false, ◌||◌, cond, leb, Option, Some, None}
use Rattle.std.proofs.Common.{List, [], ◌∷◌, ◌++◌, length, refl, sym, ap, ◌∙◌, arith, append_assoc}
use Rattle.std.specs.Prelude.{IfNone, IfSome, drop, map, option_map, slice_get}
use Rattle.std.specs.List.{AllByRecursion, Contains, list_any}
use Rattle.rpc_base.proofs.BasicLemmas.{or-false}
use Rattle.rpc_base.proofs.LeastLemmas.{least-out, least-same, out-listed, out-taken}
use Rattle.packet_rings.specs.Rings.{Ring}
use Rattle.std.proofs.lemmas.List.{map-append, length-append, length-map}
use Rattle.std.proofs.lemmas.List.Folds.{list_any-append}
use Rattle.rpc_base.specs.Least.{least, least_number, without_bearer, without_least}
use Rattle.rpc_base.specs.Taking.{TakenOut}
use Rattle.rpc_base.specs.declared.owner.Owner.{Owner}
use Rattle.rpc_base.proofs.FirstLemmas.{all-left}
use Rattle.packet_rings.specs.Entries.{is_entry, is_of, number_of, option_is}
use Rattle.packet_rings.specs.Values.{EntryValue}
use Rattle.pacing_wheel.specs.declared.pacer.Paced.{Paced}
use Rattle.pacing_wheel.specs.Wheel.{Wheel, added, entry_of, is_due, is_entry_of}
use Rattle.pacing_wheel.specs.Wheel.{is_of as is_paced_of, wheel, number_of as paced_number}
use Rattle.rpc_laws.specs.Pacing.{line}
use Rattle.rpc_laws.specs.Queues.{made_ready, put_queued}
use Rattle.rpc_laws.specs.declared.tables.Queued.{Queued}
use Rattle.session_ends.specs.Joined.{is_some_due, paced_of, queued_at, ready_first, joined}
use Rattle.session_ends.specs.Joined.{is_owned, queued_number, queued_of}
use Rattle.session_ends.proofs.LeastMapLemmas.{IsPacedFirst, IsReadyFirst, least-map, number-map}
use Rattle.session_ends.proofs.LeastMapLemmas.{paced-alone, paced-least, ready-alone, ready-least}
use Rattle.session_ends.proofs.LeastMapLemmas.{without-map}

abbrev entries : List EntryValue → List Paced → List EntryValue
entries xs ps = xs ++ map entry_of ps

abbrev queue : List EntryValue → List Paced → List Queued
queue xs ps = map queued_of xs ++ map paced_of ps

-- the first of them
pub none-first : {A : Type 0} (xs : List A) → slice_get xs 0 ≡ None → xs ≡ []
none-first [] h = refl
none-first (x ∷ xs) h = cc

pub first-ready : (xs : List EntryValue) (ps : List Paced) (e : EntryValue)
    → slice_get xs 0 ≡ Some e → slice_get (entries xs ps) 0 ≡ Some e
first-ready [] ps e h = cc
first-ready (x ∷ xs) ps e h = h

pub first-paced : (xs : List EntryValue) (ps : List Paced) → slice_get xs 0 ≡ None
    → slice_get (entries xs ps) 0 ≡ option_map entry_of (slice_get ps 0)
first-paced xs ps h = rw (none-first xs h) (by ps)
  where
    by : (qs : List Paced) → slice_get (map entry_of qs) 0 ≡ option_map entry_of (slice_get qs 0)
    by [] = refl
    by (q ∷ qs) = refl

pub first-is-ready : (now : ℕ) (xs : List EntryValue) (ps : List Paced) (e : EntryValue)
    → slice_get xs 0 ≡ Some e → is_some_due now (slice_get (queue xs ps) 0) ≡ true
first-is-ready now [] ps e h = cc
first-is-ready now (x ∷ xs) ps e h = refl

pub first-is-due : (now : ℕ) (xs : List EntryValue) (ps : List Paced) → slice_get xs 0 ≡ None
    → option_is (is_due now) (slice_get ps 0) ≡ true
    → is_some_due now (slice_get (queue xs ps) 0) ≡ true
first-is-due now xs ps h due = rw (none-first xs h) (by ps due)
  where
    by : (qs : List Paced) → option_is (is_due now) (slice_get qs 0) ≡ true
        → is_some_due now (slice_get (map paced_of qs) 0) ≡ true
    by [] t = cc
    by (q ∷ qs) t = t

-- where none is due, none may be sent, and none is made ready
none-line : (now : ℕ) (ps : List Paced) → list_any (is_due now) ps ≡ false
    → line now (map paced_of ps) ≡ []
none-line now [] none = refl
none-line now (p ∷ ps) none =
    let parts = or-false (is_due now p) (list_any (is_due now) ps) none in
    rw parts.0 (none-line now ps parts.1)

pub line-none : (now : ℕ) (xs : List EntryValue) (ps : List Paced) → slice_get xs 0 ≡ None
    → list_any (is_due now) ps ≡ false → line now (queue xs ps) ≡ []
line-none now xs ps h none = rw (none-first xs h) (none-line now ps none)

still-paced : (now : ℕ) (ps : List Paced) → list_any (is_due now) ps ≡ false
    → map (made_ready now) (map paced_of ps) ≡ map paced_of ps
still-paced now [] none = refl
still-paced now (p ∷ ps) none =
    let parts = or-false (is_due now p) (list_any (is_due now) ps) none in
    rw parts.0 (ap (λ qs. paced_of p ∷ qs) (still-paced now ps parts.1))

still-ready : (now : ℕ) (xs : List EntryValue)
    → map (made_ready now) (map queued_of xs) ≡ map queued_of xs
still-ready now [] = refl
still-ready now (x ∷ xs) = ap (λ qs. queued_of x ∷ qs) (still-ready now xs)

pub still : (now : ℕ) (xs : List EntryValue) (ps : List Paced) → list_any (is_due now) ps ≡ false
    → map (made_ready now) (queue xs ps) ≡ queue xs ps
still now xs ps none = map-append (made_ready now) (map queued_of xs) (map paced_of ps)
    ∙ rw (still-ready now xs, still-paced now ps none) refl

-- what is due first goes behind the ring
pub step-entries : (xs : List EntryValue) (ps : List Paced) (e : EntryValue)
    → option_map entry_of (slice_get ps 0) ≡ Some e
    → entries (xs ++ e ∷ []) (drop 1 ps) ≡ entries xs ps
step-entries xs [] e is = cc
step-entries xs (p ∷ ps) e is =
    let same : entry_of p ≡ e = cc in
    append_assoc xs (e ∷ []) (map entry_of ps) ∙ ap (λ d. xs ++ d ∷ map entry_of ps) (sym same)

ready-one : (now : ℕ) (xs : List EntryValue) (p : Paced) (ps : List Paced) → is_due now p ≡ true
    → map (made_ready now) (queue (xs ++ p.entry ∷ []) ps) ≡ map (made_ready now) (queue xs (p ∷ ps))
ready-one now [] p ps due = rw due refl
ready-one now (x ∷ xs) p ps due = ap (λ qs. queued_of x ∷ qs) (ready-one now xs p ps due)

pub step-queue : (now : ℕ) (xs : List EntryValue) (ps : List Paced) (e : EntryValue)
    → option_map entry_of (slice_get ps 0) ≡ Some e → option_is (is_due now) (slice_get ps 0) ≡ true
    → map (made_ready now) (queue (xs ++ e ∷ []) (drop 1 ps)) ≡ map (made_ready now) (queue xs ps)
step-queue now xs [] e is due = cc
step-queue now xs (p ∷ ps) e is due =
    let same : entry_of p ≡ e = cc in
    ap (λ d. map (made_ready now) (queue (xs ++ d ∷ []) ps)) (sym same) ∙ ready-one now xs p ps due

-- the first is taken out
pub drop-ready : (xs : List EntryValue) (ps : List Paced) (e : EntryValue) → slice_get xs 0 ≡ Some e
    → (entries (drop 1 xs) ps ≡ drop 1 (entries xs ps)) × (queue (drop 1 xs) ps ≡ drop 1 (queue xs ps))
drop-ready [] ps e h = cc
drop-ready (x ∷ xs) ps e h = (refl, refl)

pub drop-paced : (xs : List EntryValue) (ps : List Paced) → slice_get xs 0 ≡ None
    → (entries (drop 1 xs) (drop 1 ps) ≡ drop 1 (entries xs ps))
    × (queue (drop 1 xs) (drop 1 ps) ≡ drop 1 (queue xs ps))
drop-paced xs ps h = rw (none-first xs h) (by ps)
  where
    by : (qs : List Paced) → (map entry_of (drop 1 qs) ≡ drop 1 (map entry_of qs))
        × (map paced_of (drop 1 qs) ≡ drop 1 (map paced_of qs))
    by [] = (refl, refl)
    by (q ∷ qs) = (refl, refl)

pub drop-calls : (P : Paced → Type 0) (ps : List Paced) → AllByRecursion P ps
    → AllByRecursion P (drop 1 ps)
drop-calls P [] all = tt
drop-calls P (p ∷ ps) all = all.1

-- one is put in
none-any : {A : Type 0} (xs : List A) → list_any (λ x. false) xs ≡ false
none-any [] = refl
none-any (x ∷ xs) = none-any xs

pub put-behind : (xs : List EntryValue) (ps : List Paced) (e : EntryValue)
    → TakenOut {A = EntryValue} (λ d. false) e (entries (xs ++ e ∷ []) ps) (entries xs ps)
put-behind xs ps e = record {
  before = xs;
  after = map entry_of ps;
  was = append_assoc xs (e ∷ []) (map entry_of ps);
  left = refl;
  first = none-any xs;
}

added-out : (due : ℕ) (e : EntryValue) (ps : List Paced)
    → TakenOut {A = EntryValue} (λ d. false) e (map entry_of (added due e ps)) (map entry_of ps)
added-out due e [] = record { before = []; after = []; was = refl; left = refl; first = refl }
added-out due e (p ∷ ps) = by (leb p.due due) (added-out due e ps)
  where
    by : (b : Bool)
        → TakenOut {A = EntryValue} (λ d. false) e (map entry_of (added due e ps)) (map entry_of ps)
        → TakenOut {A = EntryValue} (λ d. false) e
        (map entry_of (cond b (p ∷ added due e ps) (record { due = due; entry = e } ∷ p ∷ ps)))
        (map entry_of (p ∷ ps))
    by true ih = record {
      before = entry_of p ∷ ih.before;
      after = ih.after;
      was = ap (λ es. entry_of p ∷ es) ih.was;
      left = ap (λ es. entry_of p ∷ es) ih.left;
      first = ih.first;
    }
    by false ih =
        record { before = []; after = map entry_of (p ∷ ps); was = refl; left = refl; first = refl }

pub put-paced : (xs : List EntryValue) (ps : List Paced) (due : ℕ) (e : EntryValue)
    → TakenOut {A = EntryValue} (λ d. false) e (entries xs (added due e ps)) (entries xs ps)
put-paced [] ps due e = added-out due e ps
put-paced (x ∷ xs) ps due e =
    let ih = put-paced xs ps due e in
    record {
      before = x ∷ ih.before;
      after = ih.after;
      was = ap (λ es. x ∷ es) ih.was;
      left = ap (λ es. x ∷ es) ih.left;
      first = ih.first;
    }

pub queue-behind : (xs : List EntryValue) (ps : List Paced) (e : EntryValue)
    → queue (xs ++ e ∷ []) ps ≡ put_queued (queued_of e) (queue xs ps)
queue-behind [] [] e = refl
queue-behind [] (p ∷ ps) e = refl
queue-behind (x ∷ xs) ps e = ap (λ qs. queued_of x ∷ qs) (queue-behind xs ps e)

queue-added : (ps : List Paced) (due : ℕ) (e : EntryValue)
    → map paced_of (added due e ps) ≡ put_queued (queued_at (Some due) e) (map paced_of ps)
queue-added [] due e = refl
queue-added (p ∷ ps) due e = by (leb p.due due) (queue-added ps due e)
  where
    by : (b : Bool)
        → map paced_of (added due e ps) ≡ put_queued (queued_at (Some due) e) (map paced_of ps)
        → map paced_of (cond b (p ∷ added due e ps) (record { due = due; entry = e } ∷ p ∷ ps))
        ≡ cond b (paced_of p ∷ put_queued (queued_at (Some due) e) (map paced_of ps))
        (queued_at (Some due) e ∷ paced_of p ∷ map paced_of ps)
    by true ih = ap (λ qs. paced_of p ∷ qs) ih
    by false ih = refl

pub queue-paced : (xs : List EntryValue) (ps : List Paced) (due : ℕ) (e : EntryValue)
    → queue xs (added due e ps) ≡ put_queued (queued_at (Some due) e) (queue xs ps)
queue-paced [] ps due e = queue-added ps due e
queue-paced (x ∷ xs) ps due e = ap (λ qs. queued_of x ∷ qs) (queue-paced xs ps due e)

pub added-calls : (P : Paced → Type 0) (due : ℕ) (e : EntryValue) (ps : List Paced)
    → P (record { due = due; entry = e }) → AllByRecursion P ps → AllByRecursion P (added due e ps)
added-calls P due e [] own all = (own, tt)
added-calls P due e (p ∷ ps) own all = by (leb p.due due) (added-calls P due e ps own all.1)
  where
    by : (b : Bool) → AllByRecursion P (added due e ps)
        → AllByRecursion P (cond b (p ∷ added due e ps) (record { due = due; entry = e } ∷ p ∷ ps))
    by true ih = (all.0, ih)
    by false ih = (own, all)

-- whether a packet stands in them
pub holds-paced : (owner : Owner) (k : ℕ) (ps : List Paced)
    → list_any (is_entry owner k) (map entry_of ps) ≡ list_any (is_entry_of owner k) ps
holds-paced owner k [] = refl
holds-paced owner k (p ∷ ps) = rw (holds-paced owner k ps) refl

pub holds-both : (owner : Owner) (k : ℕ) (xs : List EntryValue) (ps : List Paced)
    → list_any (is_entry owner k) (entries xs ps)
    ≡ (list_any (is_entry owner k) xs || list_any (is_entry_of owner k) ps)
holds-both owner k xs ps = list_any-append (is_entry owner k) xs (map entry_of ps)
    ∙ ap (λ b. list_any (is_entry owner k) xs || b) (holds-paced owner k ps)

-- the entry of least number of an owner is taken out
module _ (owner : Owner) (xs : List EntryValue) (ps : List Paced) where
  abbrev ready_number : Option ℕ
  ready_number = least_number (is_of owner) number_of xs

  abbrev waiting_number : Option ℕ
  waiting_number = least_number (is_paced_of owner) paced_number ps

  pub record LeavesReady : Type 0 where
    pub least_is : least (is_of owner) number_of (entries xs ps) ≡ least (is_of owner) number_of xs
    pub left : without_least (is_of owner) number_of (entries xs ps)
        ≡ entries (without_least (is_of owner) number_of xs) ps
    pub queue_is : without_least (is_owned owner) queued_number (queue xs ps)
        ≡ queue (without_least (is_of owner) number_of xs) ps

  pub record LeavesPaced : Type 0 where
    pub least_is : least (is_of owner) number_of (entries xs ps)
        ≡ option_map entry_of (least (is_paced_of owner) paced_number ps)
    pub left : without_least (is_of owner) number_of (entries xs ps)
        ≡ entries xs (without_least (is_paced_of owner) paced_number ps)
    pub queue_is : without_least (is_owned owner) queued_number (queue xs ps)
        ≡ queue xs (without_least (is_paced_of owner) paced_number ps)

  from-ready : IsReadyFirst (is_of owner) number_of xs (map entry_of ps)
      → IsReadyFirst (is_owned owner) queued_number (map queued_of xs) (map paced_of ps)
      → LeavesReady
  from-ready h q = record {
    least_is = h.least_is;
    left = h.left;
    queue_is = q.left ∙ ap (λ qs. qs ++ map paced_of ps)
        (without-map queued_of (is_owned owner) queued_number xs);
  }

  from-paced : IsPacedFirst (is_of owner) number_of xs (map entry_of ps)
      → IsPacedFirst (is_owned owner) queued_number (map queued_of xs) (map paced_of ps)
      → LeavesPaced
  from-paced h q = record {
    least_is = h.least_is ∙ least-map entry_of (is_of owner) number_of ps;
    left = h.left ∙ ap (λ es. xs ++ es) (without-map entry_of (is_of owner) number_of ps);
    queue_is = q.left ∙ ap (λ qs. map queued_of xs ++ qs)
        (without-map paced_of (is_owned owner) queued_number ps);
  }

  entry-number : least_number (is_of owner) number_of (map entry_of ps) ≡ waiting_number
  entry-number = number-map entry_of (is_of owner) number_of ps

  seen-number : least_number (is_owned owner) queued_number (map paced_of ps) ≡ waiting_number
  seen-number = number-map paced_of (is_owned owner) queued_number ps

  seen-ready : least_number (is_owned owner) queued_number (map queued_of xs) ≡ ready_number
  seen-ready = number-map queued_of (is_owned owner) queued_number xs

  ready-cases : (n m : Option ℕ) → ready_number ≡ n → waiting_number ≡ m → ready_first n m ≡ true
      → LeavesReady
  ready-cases n None own none t =
      from-ready
      (ready-alone (is_of owner) number_of xs (map entry_of ps) n own (entry-number ∙ none))
      (ready-alone (is_owned owner) queued_number (map queued_of xs) (map paced_of ps) n
      (seen-ready ∙ own) (seen-number ∙ none))
  ready-cases None (Some m) none other t = cc
  ready-cases (Some n) (Some m) own other t =
      from-ready
      (ready-least (is_of owner) number_of xs (map entry_of ps) n m own (entry-number ∙ other) t)
      (ready-least (is_owned owner) queued_number (map queued_of xs) (map paced_of ps) n m
      (seen-ready ∙ own) (seen-number ∙ other) t)

  paced-cases : (n m : Option ℕ) → ready_number ≡ n → waiting_number ≡ m → ready_first n m ≡ false
      → LeavesPaced
  paced-cases n None own none t = cc
  paced-cases None (Some m) none other t =
      from-paced
      (paced-alone (is_of owner) number_of xs (map entry_of ps) m none (entry-number ∙ other))
      (paced-alone (is_owned owner) queued_number (map queued_of xs) (map paced_of ps) m
      (seen-ready ∙ none) (seen-number ∙ other))
  paced-cases (Some n) (Some m) own other t =
      from-paced
      (paced-least (is_of owner) number_of xs (map entry_of ps) n m own (entry-number ∙ other) t)
      (paced-least (is_owned owner) queued_number (map queued_of xs) (map paced_of ps) n m
      (seen-ready ∙ own) (seen-number ∙ other) t)

  pub leaves-ready : ready_first ready_number waiting_number ≡ true → LeavesReady
  leaves-ready t = ready-cases ready_number waiting_number refl refl t

  pub leaves-paced : ready_first ready_number waiting_number ≡ false → LeavesPaced
  leaves-paced t = paced-cases ready_number waiting_number refl refl t

-- those that are left pass what all passed
pub left-calls : (owner : Owner) (P : Paced → Type 0) (ps : List Paced) → AllByRecursion P ps
    → AllByRecursion P (without_least (is_paced_of owner) paced_number ps)
left-calls owner P ps all = by (least_number (is_paced_of owner) paced_number ps)
  where
    by : (o : Option ℕ) → AllByRecursion P (without_bearer (is_paced_of owner) paced_number ps o)
    by None = all
    by (Some n) = all-left (is_entry_of owner n) P ps all

-- what the pacer says of its first entry is so of the queue, where the ring is empty
module _ (now : ℕ) (xs : List EntryValue) (ps : List Paced) (empty : slice_get xs 0 ≡ None) where
  pub front-paced : (o : Option EntryValue)
      → IfSome o (λ e. option_map entry_of (slice_get ps 0) ≡ Some e)
      → IfSome o (λ e. slice_get (entries xs ps) 0 ≡ Some e)
  front-paced None h = tt
  front-paced (Some e) h = first-paced xs ps empty ∙ h

  pub front-due : (o : Option EntryValue)
      → IfSome o (λ _. option_is (is_due now) (slice_get ps 0) ≡ true)
      → IfSome o (λ _. is_some_due now (slice_get (queue xs ps) 0) ≡ true)
  front-due None h = tt
  front-due (Some e) h = first-is-due now xs ps empty h

  pub front-none : (o : Option EntryValue) → IfNone o (list_any (is_due now) ps ≡ false)
      → IfNone o (line now (queue xs ps) ≡ [])
  front-none None h = line-none now xs ps empty h
  front-none (Some e) h = tt

-- what is known of an owner's entry of least number, and where there is none
module _ (owner : Owner) where
  pub own-of : (es : List EntryValue) (o : Option EntryValue)
      → o ≡ least (is_of owner) number_of es → IfSome o (λ e. is_of owner e ≡ true)
  own-of es o is = by o (out-listed (is_of owner) number_of es
      (without_least (is_of owner) number_of es) o (least-out (is_of owner) number_of es o is))
    where
      by : (r : Option EntryValue) → IfSome r (λ e. Contains es e × (is_of owner e ≡ true))
          → IfSome r (λ e. is_of owner e ≡ true)
      by None h = tt
      by (Some e) h = h.1

  pub nearest-of : (es left : List EntryValue) (o : Option EntryValue)
      → o ≡ least (is_of owner) number_of es → left ≡ without_least (is_of owner) number_of es
      → IfSome o (λ e. TakenOut (is_entry owner e.number) e es left)
  nearest-of es left o is out = rw out (out-taken (is_of owner) number_of es
      (without_least (is_of owner) number_of es) o (least-out (is_of owner) number_of es o is))

  pub unchanged-of : (tx : Ring EntryValue) (old new : Wheel) (o : Option EntryValue)
      → o ≡ option_map entry_of (least (is_paced_of owner) paced_number old.items)
      → new ≡ wheel (without_least (is_paced_of owner) paced_number old.items) old.size
      → IfNone o ((tx ≡ tx) × (new ≡ old))
  unchanged-of tx old new (Some e) is left = tt
  unchanged-of tx old new None is left =
      let same = by (least (is_paced_of owner) paced_number old.items) refl is in
      (refl, left ∙ ap (λ ps. wheel ps old.size) same)
    where
      by : (r : Option Paced) → r ≡ least (is_paced_of owner) paced_number old.items
          → None ≡ option_map entry_of r
          → without_least (is_paced_of owner) paced_number old.items ≡ old.items
      by None e none = least-same (is_paced_of owner) paced_number old.items None e
      by (Some p) e none = cc

pub shorter : (ps : List Paced) (e : EntryValue) → option_map entry_of (slice_get ps 0) ≡ Some e
    → length (drop 1 ps) + 1 ≡ length ps
shorter [] e is = cc
shorter (p ∷ ps) e is = omega arith

pub joined-length : (tx : Ring EntryValue) (paced : Wheel)
    → length (joined tx paced).items ≡ length tx.items + length paced.items
joined-length tx paced =
    omega (arith, length-append tx.items (map entry_of paced.items), length-map paced.items entry_of)

-- The replies to a request are taken out of the transmit ring one by one, in ascending number, each with its
-- reference and its fact.
use Rattle.std.proofs.Common.{◌≡◌, ℕ, ◌+◌, ◌-◌, ◌%◌, ◌<◌, ◌≤◌, Bool, true, false, not, ◌&&◌, ◌||◌}
use Rattle.std.proofs.Common.{cond, eqb, leb, Option, Some, None, List, [], ◌∷◌, ◌++◌, length}
use Rattle.std.proofs.Common.{filter, refl, sym, subst, ap, ◌∙◌, arith, append_assoc, append-nil}
use Rattle.std.specs.Prelude.{IfSome, option_map, ◌==◌}
use Rattle.std.specs.List.{AllByRecursion, find, list_any}
use Rattle.std.proofs.lemmas.Bool.{and_parts, eq-eqb, eqb-true, leb-false, ne_eqb}
use Rattle.std.proofs.lemmas.List.Sums.{count_by-le-length, length-filter, sum_by-cons, sum_by-set}
use Rattle.buffer_pool.specs.Pool.{Pool, IsFull, refs_of, released, spare_of, use_at}
use Rattle.buffer_pool.specs.Uses.{is_empty, refs_in}
use Rattle.buffer_pool.specs.declared.usage.Use.TheVariants.{Empty, Full}
use Rattle.buffer_pool.proofs.PoolLemmas.{changed_other, changed_own, full_within}
use Rattle.packet_rings.specs.Entries.{is_of, is_not_of, number_of}
use Rattle.packet_rings.specs.Mentions.{is_place}
use Rattle.packet_rings.specs.Rings.{Ring, ring}
use Rattle.packet_rings.specs.Values.{EntryValue}
use Rattle.rpc_base.specs.Least.{bearer, least, least_number, smaller, without_bearer, without_least}
use Rattle.rpc_base.specs.Tables.{without_first}
use Rattle.rpc_base.specs.Taking.{TakenOut}
use Rattle.rpc_base.proofs.LeastLemmas.{none-passes}
use Rattle.rpc_base.proofs.TakingLemmas.{find-passes, taken-sum}
use Rattle.rpc_base.specs.declared.fact.Fact.{Fact}
use Rattle.rpc_base.specs.declared.owner.Owner.{Owner}
use Rattle.rpc_laws.specs.Queues.{numbers_of, put}
use Rattle.rpc_outside.specs.Recording.{Grew, Log}
use Rattle.server_core.specs.Flushing.{HoldsAll, HoldsReplies, has_begun, named_by, queued_of}
use Rattle.server_core.specs.Flushing.{ring_after, without_replies}
use Rattle.server_core.specs.declared.step.Step.{Step}
use Rattle.rpc_laws.specs.declared.rows.ServerRow.{ServerRow}
use Rattle.server_core.specs.KeepsPool.{IsKept, LeavesOthers, names}
use Rattle.server_core.specs.Replies.{IsHeld, IsReplyIn, released_at}
use Rattle.server_core.specs.Serving.{IsUnheld}
use Rattle.server_core.specs.Session.{Session, answer_of, is_in_slot, newest, owner_of}
use Rattle.server_core.specs.Shown.{shown}
use Rattle.server_core.specs.declared.slot.SlotRequest.{SlotRequest}
use Rattle.server_core.specs.declared.slot.Stored.{Stored}
use Rattle.server_core.proofs.OtherLemmas.{IsSame, answer-away, found-names, same-kept, same-one}
use Rattle.server_core.proofs.PoolLemmas.{ChangesOne}
use Rattle.server_core.proofs.ReplyLemmas.{kept-answer, placed-part}
use Rattle.rpc_base.proofs.FirstLemmas.{found-holds}
use Rattle.buffer_pool.proofs.CountLemmas.{full_used}

-- numbers that are put into an ascending list
pub none-cons : (b c : Bool) (k : ℕ) (ks : List ℕ) → (b || c) ≡ false → (c ≡ false → ks ≡ [])
    → cond b (put k ks) ks ≡ []
none-cons true c k ks none rest = cc
none-cons false c k ks none rest = rest none

pub put-first : (n m k : ℕ) (ks : List ℕ) → leb n m ≡ true → n ≡ k → put n (m ∷ ks) ≡ k ∷ m ∷ ks
put-first n m k ks below same = rw (below, same) refl

pub put-later : (n m : ℕ) (ks : List ℕ) → leb n m ≡ false → put n (m ∷ ks) ≡ m ∷ put n ks
put-later n m ks above = rw above refl

pub not-equal : (n m : ℕ) → leb n m ≡ false → eqb n m ≡ false
not-equal n m above = ne_eqb n m (λ same. let more = leb-false n m above in absurd (omega (arith, same, more)))

pub some-is : (n k : ℕ) → Some n ≡ Some k → n ≡ k
some-is n k e = cc

-- the numbers of an owner's entries, one taken out after another
module _ (owner : Owner) where
  abbrev numbers : List EntryValue → List ℕ
  numbers es = numbers_of owner (queued_of es)

  pub numbers-none : (es : List EntryValue) → list_any (is_of owner) es ≡ false → numbers es ≡ []
  numbers-none [] none = refl
  numbers-none (e ∷ es) none =
      none-cons (is_of owner e) (list_any (is_of owner) es) e.number (numbers es) none
      (numbers-none es)

  abbrev bears : ℕ → EntryValue → Bool
  bears k e = is_of owner e && number_of e == k

  module _ (x : EntryValue) (es : List EntryValue) (own : is_of owner x ≡ true) where
    mine : numbers (x ∷ es) ≡ put x.number (numbers es)
    mine = rw own refl

    left-out : (k : ℕ) → x.number ≡ k → numbers (without_first (bears k) (x ∷ es)) ≡ numbers es
    left-out k same = rw (own, eq-eqb x.number k same) refl

    left-in : (k : ℕ) → eqb x.number k ≡ false
        → numbers (without_first (bears k) (x ∷ es))
        ≡ put x.number (numbers (without_first (bears k) es))
    left-in k other = rw (own, other, own) refl

    taken-by : (k m : ℕ) (b : Bool) → leb x.number m ≡ b → cond b x.number m ≡ k
        → numbers es ≡ m ∷ numbers (without_first (bears m) es)
        → numbers (x ∷ es) ≡ k ∷ numbers (without_first (bears k) (x ∷ es))
    taken-by k m true below same ih =
        let first : put x.number (numbers es) ≡ k ∷ numbers es = rw ih (put-first x.number m k _ below same) in
        mine ∙ first ∙ ap (λ ks. k ∷ ks) (sym (left-out k same))
    taken-by k m false above same ih =
        let later : put x.number (numbers es)
        ≡ m ∷ put x.number (numbers (without_first (bears m) es)) =
        rw ih (put-later x.number m _ above) in
        subst (λ j. numbers (x ∷ es) ≡ j ∷ numbers (without_first (bears j) (x ∷ es))) same
        (mine ∙ later ∙ ap (λ ks. m ∷ ks) (sym (left-in m (not-equal x.number m above))))

    taken-cons : (k : ℕ) (r : Option ℕ) → least_number (is_of owner) number_of es ≡ r
        → smaller x.number r ≡ k
        → ((m : ℕ) → r ≡ Some m → numbers es ≡ m ∷ numbers (without_first (bears m) es))
        → numbers (x ∷ es) ≡ k ∷ numbers (without_first (bears k) (x ∷ es))
    taken-cons k None least_is same ih =
        let none = numbers-none es (none-passes (is_of owner) number_of es least_is) in
        mine ∙ rw none (ap (λ n. n ∷ []) same) ∙ ap (λ ks. k ∷ ks) (sym (left-out k same ∙ none))
    taken-cons k (Some m) least_is same ih = taken-by k m (leb x.number m) refl same (ih m refl)

  not-mine : (x : EntryValue) (es : List EntryValue) (k : ℕ) → is_of owner x ≡ false
      → numbers es ≡ k ∷ numbers (without_first (bears k) es)
      → numbers (x ∷ es) ≡ k ∷ numbers (without_first (bears k) (x ∷ es))
  not-mine x es k other ih = rw (other, other) ih

  cases : (x : EntryValue) (es : List EntryValue) (k : ℕ) (b : Bool) → is_of owner x ≡ b
      → cond b (Some (smaller x.number (least_number (is_of owner) number_of es)))
      (least_number (is_of owner) number_of es) ≡ Some k
      → ((m : ℕ) → least_number (is_of owner) number_of es ≡ Some m
      → numbers es ≡ m ∷ numbers (without_first (bears m) es))
      → numbers (x ∷ es) ≡ k ∷ numbers (without_first (bears k) (x ∷ es))
  cases x es k true own e ih = taken-cons x es own k _ refl (some-is _ k e) ih
  cases x es k false other e ih = not-mine x es k other (ih k e)

  numbers-taken : (k : ℕ) (es : List EntryValue) → least_number (is_of owner) number_of es ≡ Some k
      → numbers es ≡ k ∷ numbers (without_first (bears k) es)
  numbers-taken k [] e = cc
  numbers-taken k (x ∷ es) e = cases x es k (is_of owner x) refl e (λ m h. numbers-taken m es h)

  flushed-by : (es : List EntryValue) (e : EntryValue) (r : Option ℕ)
      → least_number (is_of owner) number_of es ≡ r → bearer (is_of owner) number_of es r ≡ Some e
      → numbers es ≡ e.number ∷ numbers (without_bearer (is_of owner) number_of es r)
  flushed-by es e None least_is h = cc
  flushed-by es e (Some k) least_is h =
      let same : e.number ≡ k =
      eqb-true e.number k (and_parts (is_of owner e) (eqb e.number k)
      (find-passes (bears k) es e h)).1 in
      rw same (numbers-taken k es least_is)

  -- the entry of least number is taken out
  pub numbers-flushed : (es : List EntryValue) (e : EntryValue)
      → Some e ≡ least (is_of owner) number_of es
      → numbers es ≡ e.number ∷ numbers (without_least (is_of owner) number_of es)
  numbers-flushed es e h = flushed-by es e (least_number (is_of owner) number_of es) refl (sym h)

  -- no entry of the owner is left
  filter-cons : (x : EntryValue) (es : List EntryValue) (b : Bool) → is_of owner x ≡ b
      → (b || list_any (is_of owner) es) ≡ false
      → (list_any (is_of owner) es ≡ false → filter (is_not_of owner) es ≡ es)
      → cond (not b) (x ∷ filter (is_not_of owner) es) (filter (is_not_of owner) es) ≡ x ∷ es
  filter-cons x es true own none ih = cc
  filter-cons x es false other none ih = ap (λ xs. x ∷ xs) (ih none)

  pub filter-none : (es : List EntryValue) → list_any (is_of owner) es ≡ false → filter (is_not_of owner) es ≡ es
  filter-none [] none = refl
  filter-none (x ∷ es) none = filter-cons x es (is_of owner x) refl none (filter-none es)

  abbrev weight : ℕ → EntryValue → ℕ
  weight p e = cond (is_of owner e && is_place p e.place) 1 0

  named-cons : (p m : ℕ) (b c d : Bool) → (b || c) ≡ false → (c ≡ false → m ≡ 0) → cond {A = ℕ} (b && d) 1 0 + m ≡ 0
  named-cons p m true c d none ih = cc
  named-cons p m false c d none ih = omega (arith, ih none)

  named-none : (p : ℕ) (es : List EntryValue) → list_any (is_of owner) es ≡ false → named_by owner p es ≡ 0
  named-none p [] none = refl
  named-none p (x ∷ es) none =
      sum_by-cons (weight p) x es ∙ named-cons p (named_by owner p es) (is_of owner x)
      (list_any (is_of owner) es) (is_place p x.place) none (named-none p es)

-- what holds of all holds of what is taken out, and of the rest
all-out : {A : Type 0} (P : A → Type 0) (x : A) (before after : List A)
    → AllByRecursion P (before ++ x ∷ after) → P x × AllByRecursion P (before ++ after)
all-out P x [] after all = (all.0, all.1)
all-out P x (y ∷ ys) after all = let rest = all-out P x ys after all.1 in (rest.0, (all.0, rest.1))

pub all-taken : {A : Type 0} (P : A → Type 0) (passes : A → Bool) (x : A) (old new : List A)
    → TakenOut passes x old new → AllByRecursion P old → P x × AllByRecursion P new
all-taken P passes x old new t all = rw t.left (all-out P x t.before t.after (rw t.was at all))

-- one reference less
one-released : (p : ℕ) (pool : Pool) → ChangesOne p pool (released p pool)
one-released p pool = record { other_uses = λ q n. changed_other pool.uses p q _ Empty n; other_bufs = λ q n. refl }

refs-released : (p : ℕ) (pool : Pool) → IsFull pool p → refs_of (released p pool) p ≡ refs_of pool p - 1
refs-released p pool full = ap refs_in (changed_own pool.uses p _ Empty (full_within pool.uses p full))

spare-released : (p : ℕ) (pool : Pool) → IsFull pool p → spare_of (released p pool) ≡ spare_of pool
spare-released p pool full =
    omega (
      arith,
      sum_by-set (λ u. cond {A = ℕ} (is_empty u) 1 0) pool.uses p
          (Full (refs_of pool p - 1)) Empty (full_within pool.uses p full),
      full_used (use_at pool p)
          full,
    )

-- a reply is taken out of the ring
module _ (n : ℕ) (q : SlotRequest) (pool : Pool) (old new : List EntryValue)
    (passes : EntryValue → Bool) (e : EntryValue) (holds : HoldsReplies n pool old q)
    (out : TakenOut passes e old new) (own : is_of (owner_of n q) e ≡ true)
    (kept : IsKept pool q) where
  reply : IsReplyIn q e
  reply = (all-taken (λ x. is_of (owner_of n q) x ≡ true → IsReplyIn q x) passes e old new out holds.each).0 own

  sum : (p : ℕ) → named_by (owner_of n q) p old ≡ weight (owner_of n q) p e + named_by (owner_of n q) p new
  sum p = taken-sum passes (weight (owner_of n q) p) e old new out

  weight-none : (p : ℕ) → None ≡ e.place → weight (owner_of n q) p e ≡ 0
  weight-none p is = rw (own, ← is) refl

  weight-own : (p k : ℕ) → Some k ≡ e.place → k ≡ p → weight (owner_of n q) p e ≡ 1
  weight-own p k is same = rw (own, ← is, eq-eqb k p same) refl

  -- the place of the reply, where it has one, is the answer's
  answer-is : (k : ℕ) → Some k ≡ e.place → (a : Stored) × (answer_of q.state ≡ Some a) × (k ≡ a.place)
  answer-is k is = let (a, answer, same, _) = placed-part q e.number k (is ∙ reply.place_is) in (a, answer, same)

  held-cases : (place : Option ℕ) → place ≡ e.place → IsHeld pool place
  held-cases None is = tt
  held-cases (Some k) is =
      let (a, answer, same) = answer-is k is in
      let all : refs_of pool a.place ≡ named_by (owner_of n q) a.place old = rw answer at holds.all in
      rw same (omega (arith, all, sum a.place, weight-own a.place k is same))

  pub flush-held : IsHeld pool e.place
  flush-held = held-cases e.place refl

  refs-cases : (place : Option ℕ) → place ≡ e.place → (a : Stored) → answer_of q.state ≡ Some a
      → refs_of pool a.place ≡ named_by (owner_of n q) a.place old
      → refs_of (released_at place pool) a.place ≡ named_by (owner_of n q) a.place new
  refs-cases None is a answer all = omega (arith, all, sum a.place, weight-none a.place is)
  refs-cases (Some k) is a answer all =
      let (b, other, place) = answer-is k is in
      let same : k ≡ a.place = place ∙ (let one : b ≡ a = cc in ap (λ x. x.place) one) in
      let full = (kept-answer pool q a kept answer).full in
      rw same (omega (arith, refs-released a.place pool full, all, sum a.place, weight-own a.place k is same))

  refs-all : (o : Option Stored) → answer_of q.state ≡ o
      → IfSome o (λ a. refs_of pool a.place ≡ named_by (owner_of n q) a.place old)
      → IfSome o (λ a. refs_of (released_at e.place pool) a.place
      ≡ named_by (owner_of n q) a.place new)
  refs-all None answer all = tt
  refs-all (Some a) answer all = refs-cases e.place refl a answer all

  pub flush-holds : HoldsReplies n (released_at e.place pool) new q
  flush-holds = record {
    each = (all-taken (λ x. is_of (owner_of n q) x ≡ true → IsReplyIn q x) passes e old new out holds.each).1;
    all = refs-all (answer_of q.state) refl holds.all;
  }

  spare-cases : (place : Option ℕ) → place ≡ e.place → spare_of (released_at place pool) ≡ spare_of pool
  spare-cases None is = refl
  spare-cases (Some k) is =
      let (a, answer, same) = answer-is k is in
      spare-released k pool (rw same (kept-answer pool q a kept answer).full)

  pub flush-spare : spare_of (released_at e.place pool) ≡ spare_of pool
  flush-spare = spare-cases e.place refl

  module _ (test : SlotRequest → Bool) (slots : List SlotRequest) (found : find test slots ≡ Some q) where
    same-cases : (p : ℕ) → names p slots ≡ 0 → (place : Option ℕ) → place ≡ e.place
        → IsSame p pool (released_at place pool)
    same-cases p none None is = same-kept p pool
    same-cases p none (Some k) is =
        let (a, answer, same) = answer-is k is in
        let away = answer-away p q a (found-names p test slots q found none) answer in
        same-one p k pool (released k pool) (one-released k pool) (λ at. away (at ∙ same))

    pub flush-others : LeavesOthers slots slots pool (released_at e.place pool)
    flush-others = λ p none used. let same = same-cases p none e.place refl in (none, same.use_is, same.buf_is)

-- releasing changes no buffer
pub bufs-released : (pool : Pool) (place : Option ℕ) → (released_at place pool).bufs ≡ pool.bufs
bufs-released pool None = refl
bufs-released pool (Some p) = refl

pub shown-released : (pool : Pool) (place : Option ℕ) (s : Session) → shown (released_at place pool) s ≡ shown pool s
shown-released pool None s = refl
shown-released pool (Some p) s = refl

-- no reply is queued any more
unheld-cases : (n : ℕ) (q : SlotRequest) (pool : Pool) (es : List EntryValue) (o : Option Stored)
    → list_any (is_of (owner_of n q)) es ≡ false
    → IfSome o (λ a. refs_of pool a.place ≡ named_by (owner_of n q) a.place es)
    → IfSome o (λ a. refs_of pool a.place ≡ 0)
unheld-cases n q pool es None none all = tt
unheld-cases n q pool es (Some a) none all = all ∙ named-none (owner_of n q) a.place es none

pub flush-unheld : (n : ℕ) (q : SlotRequest) (pool : Pool) (es : List EntryValue)
    → HoldsReplies n pool es q → list_any (is_of (owner_of n q)) es ≡ false → IsUnheld pool q
flush-unheld n q pool es holds none = unheld-cases n q pool es (answer_of q.state) none holds.all

-- a recorder came to keep one list after another
module _ {R : Type 0} (log : R → Log) where
  pub grew-none : (a : R) → Grew (log a) (log a) []
  grew-none a = record { since = λ h. h; told = λ h. nothing (log a).facts } where
    nothing : (o : Option (List Fact)) → o ≡ option_map (λ fs. fs ++ []) o
    nothing None = refl
    nothing (Some fs) = ap Some (sym (append-nil fs))

  joined : (o : Option (List Fact)) (x y : List Fact)
      → option_map (λ fs. fs ++ y) (option_map (λ fs. fs ++ x) o)
      ≡ option_map (λ fs. fs ++ (x ++ y)) o
  joined None x y = refl
  joined (Some fs) x y = ap Some (append_assoc fs x y)

  pub grew-then : (a b c : R) (x y : List Fact) → Grew (log a) (log b) x → Grew (log b) (log c) y
      → Grew (log a) (log c) (x ++ y)
  grew-then a b c x y first second = record {
    since = λ h. first.since (second.since h);
    told = λ h. second.told h ∙ ap (option_map (λ fs. fs ++ y)) (first.told (second.since h)) ∙ joined (log a).facts x y;
  }

-- a request of which no reply is queued, and a ring without entries
empty-cases : (n : ℕ) (q : SlotRequest) (pool : Pool) (o : Option Stored)
    → IfSome o (λ a. refs_of pool a.place ≡ 0)
    → IfSome o (λ a. refs_of pool a.place ≡ named_by (owner_of n q) a.place [])
empty-cases n q pool None unheld = tt
empty-cases n q pool (Some a) unheld = unheld

pub empty-holds : (n : ℕ) (pool : Pool) (o : Option SlotRequest) → IfSome o (IsUnheld pool)
    → IfSome o (HoldsReplies n pool [])
empty-holds n pool None unheld = tt
empty-holds n pool (Some q) unheld = record { each = tt; all = empty-cases n q pool (answer_of q.state) unheld }

-- where the entries hold each reply of a session, they hold those to the newest request of a slot
newest-cases : (s : Session) (pool : Pool) (es : List EntryValue) (r : ℕ) (o : Option SlotRequest)
    → newest r s ≡ o → HoldsAll s pool es → IfSome o (HoldsReplies s.number pool es)
newest-cases s pool es r None found holds = tt
newest-cases s pool es r (Some q) found holds =
    found-holds (is_in_slot (r % 8)) (HoldsReplies s.number pool es) s.slots q holds.each found

pub newest-holds : (s : Session) (pool : Pool) (es : List EntryValue) (r : ℕ) → HoldsAll s pool es
    → IfSome (newest r s) (HoldsReplies s.number pool es)
newest-holds s pool es r holds = newest-cases s pool es r (newest r s) refl holds

-- the ring has no more entries than before
fewer-cases : (n : ℕ) (o : Option SlotRequest) (es : List EntryValue) (b : Bool)
    → length (cond b (without_replies n o es) es) ≤ length es
fewer-cases n o es false = omega arith
fewer-cases n None es true = omega arith
fewer-cases n (Some q) es true =
    omega (
      arith,
      length-filter (is_not_of (owner_of n q)) es,
      count_by-le-length (is_not_of (owner_of n q)) es,
    )

pub ring-room : (row : ServerRow) (step : Step) (n : ℕ) (o : Option SlotRequest)
    (old new : Ring EntryValue) → new ≡ ring (ring_after row step n o old.items) old.size
    → length old.items < old.size → length new.items < new.size
ring-room row step n o old new is room =
    omega (
      arith,
      ap (λ r. length r.items) is,
      ap (λ r. r.size) is,
      fewer-cases n o old.items (has_begun row step),
      room,
    )

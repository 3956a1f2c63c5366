-- A list of entries holds each reply of a session yet, where a request of it goes on, begins or is answered.
use Rattle.std.proofs.Common.{◌≡◌, ℕ, ◌+◌, ◌≤◌, Bool, true, false, ◌&&◌, ◌||◌, cond, eqb, Option}
use Rattle.std.proofs.Common.{Some, None, List, [], ◌∷◌, ◌++◌, refl, sym, ap, ◌∙◌, arith}
use Rattle.std.specs.Prelude.{IfSome, IsTrue, count_by}
use Rattle.std.specs.List.{AllByRecursion, find, list_any}
use Rattle.std.proofs.lemmas.Bool.{eq-eqb, eqb-false, ne_eqb}
use Rattle.std.proofs.lemmas.List.Sums.{sum_by-append, sum_by-cons}
use Rattle.buffer_pool.specs.Pool.{Pool, refs_of, use_at}
use Rattle.buffer_pool.specs.Uses.{is_empty, is_full, refs_in}
use Rattle.buffer_pool.specs.declared.usage.Use.{Use}
use Rattle.buffer_pool.specs.declared.usage.Use.TheVariants.{Empty, Full, Lent}
use Rattle.packet_rings.specs.Entries.{is_of}
use Rattle.packet_rings.specs.Mentions.{is_place}
use Rattle.packet_rings.specs.Values.{EntryValue}
use Rattle.rpc_base.specs.Tables.{at_first, without_first}
use Rattle.rpc_base.specs.Taking.{TakenOut}
use Rattle.rpc_base.proofs.TakingLemmas.{taken-sum}
use Rattle.rpc_base.specs.declared.owner.Owner.{Owner}
use Rattle.rpc_base.specs.declared.owner.Owner.TheVariants.{Reply}
use Rattle.server_core.specs.Flushing.{HoldsReplies, is_reply_of, named_by}
use Rattle.server_core.specs.KeepsPool.{IsKept, LeavesOthers, answer_names, names, own_names}
use Rattle.server_core.specs.Replies.{IsReplyIn, IsReplyTo, is_owner, request_of}
use Rattle.server_core.specs.Session.{Session, answer_of, owner_of}
use Rattle.server_core.specs.declared.slot.SlotRequest.{SlotRequest}
use Rattle.server_core.specs.declared.slot.Stored.{Stored}
use Rattle.server_core.proofs.FlushLemmas.{all-taken}
use Rattle.server_core.proofs.FoundLemmas.{found-any}
use Rattle.server_core.proofs.PlaceLemmas.{IsBeside}
use Rattle.server_core.proofs.PoolLemmas.{names-cons}
use Rattle.server_core.proofs.ReplyLemmas.{kept-answer}
use Rattle.rpc_base.proofs.FirstLemmas.{all-push, counted-cons}
use Rattle.buffer_pool.proofs.PlacesLemmas.{named-one}

-- a place that requests name and that has a use is used as before
abbrev pub KeepsUses : List SlotRequest → (before after : Pool) → Type 0
KeepsUses rest before after = (p : ℕ) → 1 ≤ names p rest → is_empty (use_at before p) ≡ false
    → use_at after p ≡ use_at before p

-- so it is of what stands beside a request whose places alone may change
pub uses-beside : (pool new : Pool) (q : SlotRequest) (t rest : List SlotRequest)
    → IsBeside pool q rest → LeavesOthers (q ∷ []) t pool new → KeepsUses rest pool new
uses-beside pool new q t rest beside leaves = λ p some used.
    (leaves p (omega (arith, names-cons p q [], beside.apart p, some)) used).1

-- a full place has a use
pub full-not-empty : (u : Use) → is_full u ≡ true → is_empty u ≡ false
full-not-empty Empty full = cc
full-not-empty (Full refs) full = refl
full-not-empty Lent full = refl

-- requests whose answers' places are used as before are held as before
module _ (n : ℕ) (pool new : Pool) (es : List EntryValue) where
  pub refs-as : (owner : Owner) (o : Option Stored)
      → ((a : Stored) → o ≡ Some a → use_at new a.place ≡ use_at pool a.place)
      → IfSome o (λ a. refs_of pool a.place ≡ named_by owner a.place es)
      → IfSome o (λ a. refs_of new a.place ≡ named_by owner a.place es)
  refs-as owner None same all = tt
  refs-as owner (Some a) same all = ap refs_in (same a refl) ∙ all

  answer-named : (q : SlotRequest) (a : Stored) → answer_of q.state ≡ Some a → 1 ≤ own_names a.place q
  answer-named q a is =
      let one : answer_names a.place (answer_of q.state) ≡ 1 =
      ap (answer_names a.place) is ∙ named-one a.place a.place refl in
      omega (arith, one)

  one-as : (q : SlotRequest) → IsKept pool q
      → ((p : ℕ) → 1 ≤ own_names p q → is_empty (use_at pool p) ≡ false
      → use_at new p ≡ use_at pool p) → HoldsReplies n pool es q → HoldsReplies n new es q
  one-as q kept same holds = record {
    each = holds.each;
    all = refs-as (owner_of n q) (answer_of q.state)
        (λ a is. same a.place (answer-named q a is)
        (full-not-empty (use_at pool a.place) (kept-answer pool q a kept is).full)) holds.all;
  }

  pub rest-as : (rest : List SlotRequest) → AllByRecursion (IsKept pool) rest
      → KeepsUses rest pool new → AllByRecursion (HoldsReplies n pool es) rest
      → AllByRecursion (HoldsReplies n new es) rest
  rest-as [] kept same all = tt
  rest-as (q ∷ qs) kept same all = (
    one-as q kept.0 (λ p some used. same p (omega (arith, some, names-cons p q qs)) used) all.0,
    rest-as qs kept.1 (λ p some used. same p (omega (arith, some, names-cons p q qs)) used) all.1,
  )

-- an entry is put behind the others
pub and-none : (b c : Bool) → c ≡ false → (b && c) ≡ false
and-none true c e = e
and-none false c e = refl

pub and-one : (b c : Bool) → b ≡ true → c ≡ true → (b && c) ≡ true
and-one b c e f = rw (e, f) refl

module _ (n r : ℕ) (e : EntryValue) (own : e.owner ≡ Reply n r) where
  pub not-of : (q : SlotRequest) → eqb q.number r ≡ false → is_of (owner_of n q) e ≡ false
  not-of q other = rw own (and-none (eqb n n) (eqb r q.number)
      (ne_eqb r q.number (λ same. eqb-false q.number r other (sym same))))

  pub one-of : (q : SlotRequest) → q.number ≡ r → is_of (owner_of n q) e ≡ true
  one-of q same = rw own (and-one (eqb n n) (eqb r q.number) (eq-eqb n n refl) (eq-eqb r q.number (sym same)))

  abbrev pub weight : Owner → ℕ → ℕ
  weight owner p = cond (is_of owner e && is_place p e.place) 1 0

  pub named-behind : (owner : Owner) (p : ℕ) (es : List EntryValue)
      → named_by owner p (es ++ e ∷ []) ≡ named_by owner p es + weight owner p
  named-behind owner p es =
      omega (
        arith,
        sum_by-append (λ x. cond {A = ℕ} (is_of owner x && is_place p x.place) 1 0) es
            (e ∷ []),
        sum_by-cons (λ x. cond {A = ℕ} (is_of owner x && is_place p x.place) 1 0) e [],
      )

  weight-off : (owner : Owner) (p : ℕ) → is_of owner e ≡ false → weight owner p ≡ 0
  weight-off owner p off = rw off refl

  module _ (pool : Pool) (es : List EntryValue) where
    all-behind : (owner : Owner) (o : Option Stored) → is_of owner e ≡ false
        → IfSome o (λ a. refs_of pool a.place ≡ named_by owner a.place es)
        → IfSome o (λ a. refs_of pool a.place ≡ named_by owner a.place (es ++ e ∷ []))
    all-behind owner None off all = tt
    all-behind owner (Some a) off all =
        omega (arith, all, named-behind owner a.place es, weight-off owner a.place off)

    one-behind : (q : SlotRequest) → eqb q.number r ≡ false → HoldsReplies n pool es q
        → HoldsReplies n pool (es ++ e ∷ []) q
    one-behind q other holds = record {
      each = all-push (λ x. IsTrue (is_of (owner_of n q) x) → IsReplyIn q x) es e holds.each (λ of. let off = not-of q other in cc);
      all = all-behind (owner_of n q) (answer_of q.state) (not-of q other) holds.all;
    }

    pub rest-behind : (rest : List SlotRequest) → AllByRecursion (λ q. eqb q.number r ≡ false) rest
        → AllByRecursion (HoldsReplies n pool es) rest
        → AllByRecursion (HoldsReplies n pool (es ++ e ∷ [])) rest
    rest-behind [] other all = tt
    rest-behind (q ∷ qs) other all = (one-behind q other.0 all.0, rest-behind qs other.1 all.1)

-- and one is taken out
module _ (n r : ℕ) (e : EntryValue) (own : e.owner ≡ Reply n r) (pool : Pool)
    (passes : EntryValue → Bool) (old new : List EntryValue) (out : TakenOut passes e old new) where
  sum-out : (owner : Owner) (p : ℕ) → named_by owner p old ≡ weight n r e own owner p + named_by owner p new
  sum-out owner p = taken-sum passes (λ x. cond {A = ℕ} (is_of owner x && is_place p x.place) 1 0) e old new out

  all-left : (owner : Owner) (o : Option Stored) → is_of owner e ≡ false
      → IfSome o (λ a. refs_of pool a.place ≡ named_by owner a.place old)
      → IfSome o (λ a. refs_of pool a.place ≡ named_by owner a.place new)
  all-left owner None off all = tt
  all-left owner (Some a) off all = omega (arith, all, sum-out owner a.place, weight-off n r e own owner a.place off)

  one-left : (q : SlotRequest) → eqb q.number r ≡ false → HoldsReplies n pool old q → HoldsReplies n pool new q
  one-left q other holds = record {
    each = (all-taken (λ x. is_of (owner_of n q) x ≡ true → IsReplyIn q x) passes e old new out holds.each).1;
    all = all-left (owner_of n q) (answer_of q.state) (not-of n r e own q other) holds.all;
  }

  pub rest-left : (rest : List SlotRequest) → AllByRecursion (λ q. eqb q.number r ≡ false) rest
      → AllByRecursion (HoldsReplies n pool old) rest
      → AllByRecursion (HoldsReplies n pool new) rest
  rest-left [] other all = tt
  rest-left (q ∷ qs) other all = (one-left q other.0 all.0, rest-left qs other.1 all.1)

-- whether one of a list passes, where another is changed, put behind it or taken out
module _ {A : Type 0} (t p : A → Bool) where
  put-cons : (q d y : A) (ys : List A) (b : Bool) → t d ≡ t q
      → (find p ys ≡ Some q → list_any t (at_first p (λ x. d) ys) ≡ list_any t ys)
      → cond b (Some y) (find p ys) ≡ Some q
      → list_any t (cond b (d ∷ ys) (y ∷ at_first p (λ x. d) ys)) ≡ (t y || list_any t ys)
  put-cons q d y ys true same ih e =
      let one : y ≡ q = cc in
      ap (λ b. b || list_any t ys) (same ∙ ap t (sym one))
  put-cons q d y ys false same ih e = ap (λ b. t y || b) (ih e)

  pub any-put : (q d : A) (ys : List A) → t d ≡ t q → find p ys ≡ Some q
      → list_any t (at_first p (λ x. d) ys) ≡ list_any t ys
  any-put q d [] same e = cc
  any-put q d (y ∷ ys) same e = put-cons q d y ys (p y) same (any-put q d ys same) e

  behind-cons : (b c d : Bool) → (b || c) ≡ true → (c ≡ true → d ≡ true) → (b || d) ≡ true
  behind-cons true c d e ih = refl
  behind-cons false c d e ih = ih e

  pub any-behind : (ys : List A) (x : A) → list_any t ys ≡ true → list_any t (ys ++ x ∷ []) ≡ true
  any-behind [] x e = cc
  any-behind (y ∷ ys) x e = behind-cons (t y) (list_any t ys) (list_any t (ys ++ x ∷ [])) e (any-behind ys x)

  left-cons : (q y : A) (ys : List A) (b : Bool) → t q ≡ false
      → (find p ys ≡ Some q → list_any t ys ≡ true → list_any t (without_first p ys) ≡ true)
      → cond b (Some y) (find p ys) ≡ Some q → (t y || list_any t ys) ≡ true
      → list_any t (cond b ys (y ∷ without_first p ys)) ≡ true
  left-cons q y ys true off ih e some =
      let one : y ≡ q = cc in
      let no : t y ≡ false = ap t one ∙ off in
      rw no at some
  left-cons q y ys false off ih e some =
      behind-cons (t y) (list_any t ys) (list_any t (without_first p ys)) some (ih e)

  pub any-left : (q : A) (ys : List A) → t q ≡ false → find p ys ≡ Some q → list_any t ys ≡ true
      → list_any t (without_first p ys) ≡ true
  any-left q [] off e some = cc
  any-left q (y ∷ ys) off e some = left-cons q y ys (p y) off (any-left q ys off) e some

  -- none but the one that is taken out passes
  none-cons : (y : A) (ys : List A) (b : Bool) → p y ≡ b
      → (count_by p ys ≡ 0 → AllByRecursion (λ x. p x ≡ false) ys) → count_by p (y ∷ ys) ≡ 0
      → AllByRecursion (λ x. p x ≡ false) (y ∷ ys)
  none-cons y ys true is ih e = absurd (omega (arith, counted-cons p y ys true is, e))
  none-cons y ys false is ih e = (is, ih (omega (arith, counted-cons p y ys false is, e)))

  pub none-pass : (ys : List A) → count_by p ys ≡ 0 → AllByRecursion (λ x. p x ≡ false) ys
  none-pass [] e = tt
  none-pass (y ∷ ys) e = none-cons y ys (p y) refl (none-pass ys) e

  fail-cons : (y : A) (ys : List A) (b : Bool) → p y ≡ b
      → (count_by p ys ≤ 1 → AllByRecursion (λ x. p x ≡ false) (without_first p ys))
      → count_by p (y ∷ ys) ≤ 1
      → AllByRecursion (λ x. p x ≡ false) (cond b ys (y ∷ without_first p ys))
  fail-cons y ys true is ih few = none-pass ys (omega (arith, counted-cons p y ys true is, few))
  fail-cons y ys false is ih few = (is, ih (omega (arith, counted-cons p y ys false is, few)))

  pub rest-fails : (ys : List A) → count_by p ys ≤ 1 → AllByRecursion (λ x. p x ≡ false) (without_first p ys)
  rest-fails [] few = tt
  rest-fails (y ∷ ys) few = fail-cons y ys (p y) refl (rest-fails ys) few

-- each entry of the session is a reply to one of its requests, which are others now
abbrev pub AreOwn : ℕ → List SlotRequest → List EntryValue → Type 0
AreOwn n slots es = AllByRecursion (λ e. IsTrue (is_reply_of n e.owner)
    → IsTrue (list_any (is_owner n e.owner) slots)) es

pub own-as : (n : ℕ) (old new : List SlotRequest)
    → ((o : Owner) → list_any (is_owner n o) old ≡ true → list_any (is_owner n o) new ≡ true)
    → (es : List EntryValue) → AreOwn n old es → AreOwn n new es
own-as n old new keeps [] all = tt
own-as n old new keeps (e ∷ es) all = ((λ of. keeps e.owner (all.0 of)), own-as n old new keeps es all.1)

-- a request that is an entry's is found
posted-cases : (s : Session) (e : EntryValue) (o : Option SlotRequest) → request_of s e ≡ o
    → IsReplyTo o e → list_any (is_owner s.number e.owner) s.slots ≡ true
posted-cases s e None found posted = absurd posted
posted-cases s e (Some q) found posted = found-any (is_owner s.number e.owner) s.slots q found

pub posted-any : (s : Session) (e : EntryValue) → IsReplyTo (request_of s e) e
    → list_any (is_owner s.number e.owner) s.slots ≡ true
posted-any s e posted = posted-cases s e (request_of s e) refl posted

-- the replies to a request, of which more are such replies
module _ (n : ℕ) (q d : SlotRequest) (number : d.number ≡ q.number) where
  pub each-as : ((e : EntryValue) → IsReplyIn q e → IsReplyIn d e) → (es : List EntryValue)
      → AllByRecursion (λ e. IsTrue (is_of (owner_of n q) e) → IsReplyIn q e) es
      → AllByRecursion (λ e. IsTrue (is_of (owner_of n d) e) → IsReplyIn d e) es
  each-as more [] all = tt
  each-as more (e ∷ es) all = ((λ of. more e (all.0 (rw number at of))), each-as more es all.1)

-- a reply without a place is not named
pub unnamed-behind : (n r : ℕ) (e : EntryValue) (own : e.owner ≡ Reply n r) (owner : Owner) (p : ℕ)
    → e.place ≡ None → weight n r e own owner p ≡ 0
unnamed-behind n r e own owner p is = rw is (ap (λ b. cond {A = ℕ} b 1 0) (and-none (is_of owner e) false refl))

pub named-place : (n r : ℕ) (e : EntryValue) (own : e.owner ≡ Reply n r) (q : SlotRequest) (p : ℕ)
    → q.number ≡ r → e.place ≡ Some p → weight n r e own (owner_of n q) p ≡ 1
named-place n r e own q p number is =
    rw is (ap (λ b. cond {A = ℕ} b 1 0) (and-one (is_of (owner_of n q) e) (eqb p p)
    (one-of n r e own q number) (eq-eqb p p refl)))

-- replies without a place name none
named-cons-none : (owner : Owner) (p : ℕ) (e : EntryValue) (b : Bool) → is_of owner e ≡ b
    → (b ≡ true → e.place ≡ None) → cond {A = ℕ} (is_of owner e && is_place p e.place) 1 0 ≡ 0
named-cons-none owner p e true of none =
    rw (none refl) (ap (λ b. cond {A = ℕ} b 1 0) (and-none (is_of owner e) false refl))
named-cons-none owner p e false of none = rw of refl

pub named-unplaced : (owner : Owner) (p : ℕ) (es : List EntryValue)
    → AllByRecursion (λ e. is_of owner e ≡ true → e.place ≡ None) es → named_by owner p es ≡ 0
named-unplaced owner p [] all = refl
named-unplaced owner p (e ∷ es) all =
    omega (
      arith,
      sum_by-cons (λ x. cond {A = ℕ} (is_of owner x && is_place p x.place) 1 0) e es,
      named-cons-none owner p e (is_of owner e) refl all.0,
      named-unplaced owner p es all.1,
    )

-- A session is looked up by its number, among numbers that rise.
use Rattle.std.proofs.Common.{◌≡◌, ℕ, zero, suc, ◌<◌, true, false, Option, Some, None, List, []}
use Rattle.std.proofs.Common.{◌∷◌, length, get_or, refl, sym, ap, ◌∙◌, arith, inl, inr, ltb}
use Rattle.std.proofs.Common.{ltb-true, ltb-false, lt-ltb, le-ltb, eq-eqb, ne_eqb, ◌≢◌, subst}
use Rattle.std.specs.Prelude.{position, slice_get}
use Rattle.std.specs.List.{AllWithin, position_or_len, AllByRecursion, find}
use Rattle.std.specs.List.Sorted.{IsNonDecreasingBy}
use Rattle.std.proofs.lemmas.Bool.{cases_lt, eqb-true, false≢true}
use Rattle.std.proofs.lemmas.List.Sums.{position_or_len_is}
use Rattle.std.proofs.lemmas.Option.{slice_get-get_or, slice_get_within}
use Rattle.rpc_base.proofs.PlaceLemmas.{get-map, all-at}
use Rattle.packet_rings.specs.Entries.{option_is}
use Rattle.server_core.specs.Session.{Session as Serving}
use Rattle.session_ends.specs.Sides.{Rises, has_number, numbers_in, HasReply, IsOfServer}
use Rattle.session_ends.proofs.ListLemmas.{got-same, get-there}
use Rattle.rpc_base.proofs.TablesLemmas.{find-found, find-missing, position-at}
use Rattle.rpc_base.proofs.TakingLemmas.{find-passes}
use Rattle.buffer_pool.specs.Pool.{Pool}
use Rattle.packet_rings.specs.Values.{EntryValue}
use Rattle.rpc_laws.specs.Packets.{IsSpelled}
use Rattle.server_core.specs.Replies.{IsReplyTo, packet_of as reply_of, request_of}
use Rattle.session_ends.specs.Effects.{ServerSpells, SpellsReply}

-- numbers that rise differ
pub rises-later : (n : ℕ) (ns : List ℕ) (j m : ℕ) → AllByRecursion (λ x. n < x) ns
    → slice_get ns j ≡ Some m → n < m
rises-later n ns j m all e = all-at (λ x. n < x) ns j m all e

pub rises-apart : (ns : List ℕ) (i j n m : ℕ) → Rises ns → slice_get ns i ≡ Some n
    → slice_get ns j ≡ Some m → j ≢ i → m ≢ n
rises-apart [] i j n m up e d other = cc
rises-apart (k ∷ ks) zero zero n m up e d other = absurd (other refl)
rises-apart (k ∷ ks) zero (suc j) n m up e d other =
    let same : k ≡ n = cc in
    let more = rises-later k ks j m up.0 d in
    λ t. absurd (omega (arith, more, same, t))
rises-apart (k ∷ ks) (suc i) zero n m up e d other =
    let same : k ≡ m = cc in
    let more = rises-later k ks i n up.0 e in
    λ t. absurd (omega (arith, more, same, t))
rises-apart (k ∷ ks) (suc i) (suc j) n m up e d other = rises-apart ks i j n m up.1 e d (λ t. other (ap suc t))

-- and so do the numbers of sessions
pub rising : (vs : List Serving) (i j : ℕ) (d : Serving) → Rises (numbers_in vs) → i < j
    → j < length vs → (get_or vs i d).number < (get_or vs j d).number
rising [] i j d up less within = absurd (omega (arith, within))
rising (v ∷ vs) i zero d up less within = absurd (omega (arith, less))
rising (v ∷ vs) zero (suc j) d up less within =
    rises-later v.number (numbers_in vs) j (get_or vs j d).number up.0
    (get-map (λ (x : Serving). x.number) vs j (get_or vs j d)
    (slice_get-get_or vs j d (omega (arith, within))))
rising (v ∷ vs) (suc i) (suc j) d up less within =
    rising vs i j d up.1 (omega (arith, less)) (omega (arith, within))

pub rising-by : (vs : List Serving) → Rises (numbers_in vs)
    → IsNonDecreasingBy (λ (v : Serving). v.number) vs
rising-by vs up = λ i j d le within. elim (cases_lt i j) [
  | inl less ↦ (let h = rising vs i j d up less within in omega (arith, h))
  | inr more ↦ (let same : i ≡ j = omega (arith, le, more) in rw same (omega arith))
]

-- a session that has the number is the first that has it
found-by : (vs : List Serving) (number p : ℕ) (o : Option Serving) → Rises (numbers_in vs)
    → slice_get vs p ≡ o → option_is (has_number number) o ≡ true
    → Some p ≡ position (has_number number) vs
found-by vs number p None up at is = absurd (false≢true is)
found-by vs number p (Some v) up at is =
    let within : p < length vs = slice_get_within vs p v at in
    let same : v.number ≡ number = eqb-true v.number number is in
    let here : get_or vs p v ≡ v = got-same vs p v v at in
    let first : position_or_len (has_number number) vs ≡ p =
    position_or_len_is (has_number number) vs p v (omega (arith, within))
    (λ k less. let h = rising vs k p v up less within in
    ne_eqb (get_or vs k v).number number
    (λ other. omega (arith, h, ap (λ (x : Serving). x.number) here, same, other)))
    (λ _. ap (has_number number) here ∙ is) in
    rw (first, lt-ltb p (length vs) within) refl

pub found-at : (vs : List Serving) (number p : ℕ) → Rises (numbers_in vs)
    → option_is (has_number number) (slice_get vs p) ≡ true
    → Some p ≡ position (has_number number) vs
found-at vs number p up is = found-by vs number p (slice_get vs p) up refl is

-- none has it where the first whose number isn't below it has another
module _ (vs : List Serving) (number p : ℕ) (d : Serving) (up : Rises (numbers_in vs))
    (below : AllWithin (λ (v : Serving). ltb v.number number ≡ true) vs 0 p)
    (above : AllWithin (λ (v : Serving). ltb v.number number ≡ false) vs p (length vs))
    (other : option_is (has_number number) (slice_get vs p) ≡ false) where
  apart : (k : ℕ) → k < length vs → has_number number (get_or vs k d) ≡ false
  apart k within = elim (cases_lt k p) [
    | inl less ↦ (
        let h = ltb-true (get_or vs k d).number number (below k d (omega arith) less) in
        ne_eqb (get_or vs k d).number number (λ same. omega (arith, h, same)))
    | inr more ↦ (
        let here : p < length vs = omega (arith, more, within) in
        let first = ltb-false (get_or vs p d).number number (above p d (omega arith) here) in
        let not : has_number number (get_or vs p d) ≡ false = rw (slice_get-get_or vs p d here) at other in
        let order = rising-by vs up p k d more within in
        ne_eqb (get_or vs k d).number number (λ same.
        let is : (get_or vs p d).number ≡ number = omega (arith, first, order, same) in
        absurd (false≢true (sym not ∙ eq-eqb (get_or vs p d).number number is))))
  ]

  none-has : None ≡ position (has_number number) vs
  none-has =
      let all : position_or_len (has_number number) vs ≡ length vs =
      position_or_len_is (has_number number) vs (length vs) d (omega arith) apart
      (λ past. absurd (omega (arith, past))) in
      rw (all, le-ltb (length vs) (length vs) (omega arith)) refl

pub found-none : (vs : List Serving) (number p : ℕ) → Rises (numbers_in vs)
    → AllWithin (λ (v : Serving). ltb v.number number ≡ true) vs 0 p
    → AllWithin (λ (v : Serving). ltb v.number number ≡ false) vs p (length vs)
    → option_is (has_number number) (slice_get vs p) ≡ false
    → None ≡ position (has_number number) vs
found-none [] number p up below above other = refl
found-none (v ∷ vs) number p up below above other = none-has (v ∷ vs) number p v up below above other

-- the first with its number
module _ (servers : List Serving) (number i : ℕ) (v : Serving)
    (first : position (has_number number) servers ≡ Some i)
    (at : slice_get servers i ≡ Some v) where
  pub first-found : find (has_number number) servers ≡ Some v
  first-found = find-found (has_number number) servers i first ∙ at

  pub first-number : v.number ≡ number
  first-number = eqb-true v.number number (find-passes (has_number number) servers v first-found)

-- a reply is one of the session that is found
pub no-first : (number : ℕ) (e : EntryValue) (servers : List Serving) → HasReply number e servers
    → position (has_number number) servers ≡ None → ⊥
no-first number e servers h none = subst (IsOfServer e) (find-missing (has_number number) servers none) h

pub first-at : (number : ℕ) (servers : List Serving) (i : ℕ) (x : Serving)
    → position (has_number number) servers ≡ Some i → x ≡ get_or servers i x
    → slice_get servers i ≡ Some x
first-at number servers i x first looked =
    get-there servers i x (position-at (has_number number) servers i x first).0 looked

pub first-reply : (number : ℕ) (e : EntryValue) (servers : List Serving) (i : ℕ) (x : Serving)
    → position (has_number number) servers ≡ Some i → x ≡ get_or servers i x
    → HasReply number e servers → IsReplyTo (request_of x e) e
first-reply number e servers i x first looked h =
    subst (IsOfServer e) (first-found servers number i x first (first-at number servers i x first looked)) h

pub first-spells : (number : ℕ) (pool : Pool) (e : EntryValue) (head body : List ℕ)
    (servers : List Serving) (i : ℕ) (x : Serving) → position (has_number number) servers ≡ Some i
    → x ≡ get_or servers i x → IsSpelled (reply_of pool x e) head body
    → ServerSpells number pool e head body servers
first-spells number pool e head body servers i x first looked h =
    subst (SpellsReply pool e head body) (sym
    (first-found servers number i x first (first-at number servers i x first looked))) h

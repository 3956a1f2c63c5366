-- The order of the server sessions by whose other end they are: what it tells, and how it is kept.
use Rattle.std.proofs.Common.{◌≡◌, ℕ, zero, suc, ◌+◌, ◌*◌, ◌≤◌, ◌<◌, ◌==◌, ◌&&◌, Bool, true, false}
use Rattle.std.proofs.Common.{◌⊎◌, Some, None, List, [], ◌∷◌, ◌++◌, length, get_or, cond, refl, sym}
use Rattle.std.proofs.Common.{ap, ◌∙◌, arith, inl, inr, eq-eqb, lt-ltb, le-ltb, ltb-true}
use Rattle.std.specs.Prelude.{count_by, map, nat_lt, position, slice_get}
use Rattle.std.specs.List.{insert, position_or_len, remove}
use Rattle.std.specs.List.Sorted.{IsNonDecreasing, IsPartitionPoint}
use Rattle.std.proofs.lemmas.Bool.{and_from, and_parts, cases_lt, eqb-true}
use Rattle.std.proofs.lemmas.List.{length-map, map_push}
use Rattle.std.proofs.lemmas.List.Edits.{get_or-remove_above, get_or-remove_below, length-remove}
use Rattle.std.proofs.lemmas.List.Sorted.{IsNonDecreasingBy-insert, IsPermutation-insert}
use Rattle.std.proofs.lemmas.List.Sorted.{sum_by-IsPermutation}
use Rattle.std.proofs.lemmas.List.Sums.{position_or_len_is, sum_by-append, sum_by-cons}
use Rattle.std.proofs.lemmas.Option.{slice_get-get_or, slice_get_within}
use Rattle.rpc_base.proofs.BasicLemmas.{unless-true}
use Rattle.rpc_base.proofs.FirstLemmas.{all-push}
use Rattle.rpc_laws.specs.declared.tables.Way.{Way}
use Rattle.packet_rings.specs.Entries.{option_is}
use Rattle.server_core.specs.Session.{Session as Serving}
use Rattle.server_core.specs.Shown.{way_of}
use Rattle.session_ends.specs.declared.ends.TheConstants.{LIVES, SPAN}
use Rattle.session_ends.specs.EndOrder.{EndOrder, HasParts, code_of, end_code}
use Rattle.session_ends.specs.Sides.{Rises, ends_at, has_number, is_of_older, numbers_in}
use Rattle.session_ends.proofs.ListLemmas.{all-removed, map-removed, sum-less, got-same, sum-one}
use Rattle.rpc_base.proofs.PlaceLemmas.{all-at, get-map}
use Rattle.session_ends.proofs.SearchLemmas.{found-at, rising}

-- a number is made of its parts in one way
parts : (a b c d : ℕ) → b < SPAN → d < SPAN → a * SPAN + b ≡ c * SPAN + d → (a ≡ c) × (b ≡ d)
parts a b c d first second e =
    let same : a ≡ c = omega (arith, first, second, e) in
    (same, omega (arith, same, e))

senders : (a b c d : ℕ) → b < LIVES → d < LIVES → a * LIVES + b ≡ c * LIVES + d → (a ≡ c) × (b ≡ d)
senders a b c d first second e =
    let same : a ≡ c = omega (arith, first, second, e) in
    (same, omega (arith, same, e))

-- what counts a number
abbrev hits : (n m : ℕ) → ℕ
hits n m = cond (m == n) 1 0

-- what is counted stands somewhere
record Stands {A : Type 0} (f : A → ℕ) (n : ℕ) (xs : List A) : Type 0 where
  place : ℕ
  one : A
  at : slice_get xs place ≡ Some one
  is : f one ≡ n

module _ {A : Type 0} (f : A → ℕ) (n : ℕ) where
  stands-cons : (y : A) (ys : List A) (b : Bool) → (f y == n) ≡ b
      → (0 < count_by (λ x. f x == n) ys → Stands f n ys)
      → 0 < cond b 1 0 + count_by (λ x. f x == n) ys → Stands f n (y ∷ ys)
  stands-cons y ys true is rest some =
      record { place = 0; one = y; at = refl; is = eqb-true (f y) n is }
  stands-cons y ys false is rest some =
      let h = rest (omega (arith, some)) in
      record { place = suc h.place; one = h.one; at = h.at; is = h.is }

  stands : (xs : List A) → 0 < count_by (λ x. f x == n) xs → Stands f n xs
  stands [] some = absurd (omega (arith, some))
  stands (y ∷ ys) some =
      stands-cons y ys (f y == n) refl (stands ys)
      (omega (arith, some, sum_by-cons (λ x. hits n (f x)) y ys))

  counted : (xs : List A) (k : ℕ) (x : A) → slice_get xs k ≡ Some x → f x ≡ n
      → 0 < count_by (λ y. f y == n) xs
  counted xs k x at is =
      let own : hits n (f x) ≡ 1 = rw (eq-eqb (f x) n is) refl in
      omega (arith, own, sum-one (λ y. hits n (f y)) xs k x at)

-- a code in the list is a session's, and the other way round
module _ (ends : List ℕ) (servers : List Serving) (order : EndOrder ends (map way_of servers)) where
  small-at : (k : ℕ) (v : Serving) → slice_get servers k ≡ Some v
      → (v.life < LIVES) × (v.client < SPAN) × (v.number < SPAN)
  small-at k v at =
      all-at HasParts (map way_of servers) k (way_of v) order.small (get-map way_of servers k v at)

  in-order : (k : ℕ) (v : Serving) → slice_get servers k ≡ Some v
      → Stands (λ e. e) (code_of (way_of v)) ends
  in-order k v at =
      let code = code_of (way_of v) in
      stands (λ e. e) code ends (rw (order.each code)
      (counted code_of code (map way_of servers) k (way_of v) (get-map way_of servers k v at) refl))

  -- of the sessions' codes that are not below one, none is below the first such in the list
  least : (code place k : ℕ) (v : Serving)
      → IsPartitionPoint (λ e. e < code) (λ e. code ≤ e) ends place
      → slice_get servers k ≡ Some v → code ≤ code_of (way_of v)
      → (place < length ends) × (get_or ends place 0 ≤ code_of (way_of v))
  least code place k v point at from =
      let here = in-order k v at in
      let within = slice_get_within ends here.place here.one here.at in
      let is : get_or ends here.place 0 ≡ here.one = got-same ends here.place here.one 0 here.at in
      elim (cases_lt here.place place) [
        | inl less ↦ (
            let below = point.0 here.place 0 (omega arith) less in
            absurd (omega (arith, below, is, here.is, from)))
        | inr more ↦ (
            let rise = order.rises place here.place 0 more within in
            (omega (arith, more, within), omega (arith, rise, is, here.is)))
      ]

module _ (f : Serving → Way) where
  mapped : (servers : List Serving) (k : ℕ) (w : Way) → slice_get (map f servers) k ≡ Some w
      → (v : Serving) × (slice_get servers k ≡ Some v) × (f v ≡ w)
  mapped [] k w at = cc
  mapped (v ∷ servers) zero w at = (v, refl, cc)
  mapped (v ∷ servers) (suc k) w at = mapped servers k w at

-- none passes where none at a place does
module _ (p : Serving → Bool) where
  none-first : (v : Serving) (servers : List Serving)
      → ((k : ℕ) (x : Serving) → slice_get (v ∷ servers) k ≡ Some x → p x ≡ false)
      → None ≡ position p (v ∷ servers)
  none-first v servers none =
      let vs = v ∷ servers in
      let all : position_or_len p vs ≡ length vs =
      position_or_len_is p vs (length vs) v (omega arith)
      (λ k less. none k (get_or vs k v) (slice_get-get_or vs k v less))
      (λ past. absurd (omega (arith, past))) in
      rw (all, le-ltb (length vs) (length vs) (omega arith)) refl

  none-passes : (servers : List Serving)
      → ((k : ℕ) (x : Serving) → slice_get servers k ≡ Some x → p x ≡ false)
      → None ≡ position p servers
  none-passes [] none = refl
  none-passes (v ∷ servers) none = none-first v servers none

-- The look-up: the first code that isn't below those of an end tells the session of lowest number,
-- and with numbers that rise that is the first with this end.
module _ (ends : List ℕ) (servers : List Serving) (peer client life place : ℕ)
    (order : EndOrder ends (map way_of servers)) (up : Rises (numbers_in servers))
    (narrow : client < SPAN) (short : life < LIVES)
    (point : IsPartitionPoint (λ e. e < end_code peer life client 0)
    (λ e. end_code peer life client 0 ≤ e) ends place) where
  own-code : (k : ℕ) (v : Serving) → slice_get servers k ≡ Some v
      → ends_at peer client life v ≡ true
      → code_of (way_of v) ≡ end_code peer life client 0 + v.number
  own-code k v at is =
      let both = and_parts (v.peer == peer) (v.client == client && v.life == life) is in
      let inner = and_parts (v.client == client) (v.life == life) both.1 in
      omega (
        arith,
        eqb-true v.peer peer both.0,
        eqb-true v.client client inner.0,
        eqb-true v.life life inner.1,
      )

  own-least : (k : ℕ) (v : Serving) → slice_get servers k ≡ Some v
      → ends_at peer client life v ≡ true
      → (place < length ends) × (get_or ends place 0 ≤ end_code peer life client 0 + v.number)
  own-least k v at is =
      let code = own-code k v at is in
      let h = least ends servers order (end_code peer life client 0) place k v point at
      (omega (arith, code)) in
      (h.0, omega (arith, h.1, code))

  pub no-end : (length ends ≤ place) ⊎ (end_code peer life client 0 + SPAN ≤ get_or ends place 0)
      → None ≡ position (ends_at peer client life) servers
  no-end none = none-passes (ends_at peer client life) servers (λ k v at.
      unless-true (ends_at peer client life v) (λ is.
      let h = own-least k v at is in
      let small = small-at ends servers order k v at in
      elim none [
        | inl past ↦ omega (arith, past, h.0)
        | inr far ↦ omega (arith, far, h.1, small.2)
      ]))

  module _ (within : place < length ends) (number : ℕ)
      (is : get_or ends place 0 ≡ end_code peer life client 0 + number) (near : number < SPAN) where
    here : Stands code_of (end_code peer life client 0 + number) (map way_of servers)
    here =
        let code = end_code peer life client 0 + number in
        stands code_of code (map way_of servers) (rw (← order.each code)
        (counted (λ e. e) code ends place (get_or ends place 0)
        (slice_get-get_or ends place 0 within) is))

    there : (v : Serving) × (slice_get servers here.place ≡ Some v) × (way_of v ≡ here.one)
    there = mapped way_of servers here.place here.one here.at

    same : (there.0.peer ≡ peer) × (there.0.life ≡ life) × (there.0.client ≡ client)
        × (there.0.number ≡ number)
    same =
        let v = there.0 in
        let small = small-at ends servers order here.place v there.1 in
        let code : end_code v.peer v.life v.client v.number ≡ end_code peer life client number =
        omega (arith, ap code_of there.2, here.is) in
        let outer = parts ((v.peer * LIVES + v.life) * SPAN + v.client) v.number
        ((peer * LIVES + life) * SPAN + client) number small.2 near code in
        let inner = parts (v.peer * LIVES + v.life) v.client (peer * LIVES + life) client small.1
        narrow outer.0 in
        let sender = senders v.peer v.life peer life small.0 short inner.0 in
        (sender.0, sender.1, inner.1, outer.1)

    not-before : (j : ℕ) → j < here.place
        → ends_at peer client life (get_or servers j there.0) ≡ false
    not-before j less =
        let v = there.0 in
        let inside = slice_get_within servers here.place v there.1 in
        let w = get_or servers j v in
        let at = slice_get-get_or servers j v (omega (arith, less, inside)) in
        let rise = rising servers j here.place v up less inside in
        let own = got-same servers here.place v v there.1 in
        unless-true (ends_at peer client life w) (λ passes.
        let h = own-least j w at passes in
        omega (arith, h.1, is, rise, ap (λ (x : Serving). x.number) own, same.3))

    first-end : position (ends_at peer client life) servers ≡ Some here.place
    first-end =
        let v = there.0 in
        let inside = slice_get_within servers here.place v there.1 in
        let passes : ends_at peer client life v ≡ true =
        and_from (v.peer == peer) (v.client == client && v.life == life)
        (eq-eqb v.peer peer same.0)
        (and_from (v.client == client) (v.life == life) (eq-eqb v.client client same.2)
        (eq-eqb v.life life same.1)) in
        let first : position_or_len (ends_at peer client life) servers ≡ here.place =
        position_or_len_is (ends_at peer client life) servers here.place v (omega (arith, inside))
        not-before
        (λ _. ap (ends_at peer client life) (got-same servers here.place v v there.1) ∙ passes) in
        rw (first, lt-ltb here.place (length servers) inside) refl

    first-number : Some here.place ≡ position (has_number number) servers
    first-number =
        found-at servers number here.place up
        (ap (option_is (has_number number)) there.1 ∙ eq-eqb there.0.number number same.3)

    pub the-end : position (has_number number) servers ≡ position (ends_at peer client life) servers
    the-end = sym first-number ∙ sym first-end

-- No session is of an older life of a peer where no code stands from those of its first life on and
-- below those of this one.
module _ (ends : List ℕ) (servers : List Serving) (peer life place : ℕ)
    (order : EndOrder ends (map way_of servers))
    (point : IsPartitionPoint (λ e. e < end_code peer 0 0 0) (λ e. end_code peer 0 0 0 ≤ e)
    ends place) where
  older-code : (k : ℕ) (v : Serving) → slice_get servers k ≡ Some v
      → is_of_older peer life v ≡ true → (end_code peer 0 0 0 ≤ code_of (way_of v))
      × (code_of (way_of v) < end_code peer life 0 0)
  older-code k v at is =
      let both = and_parts (v.peer == peer) (nat_lt v.life life) is in
      let small = small-at ends servers order k v at in
      let own = eqb-true v.peer peer both.0 in
      let older = ltb-true v.life life both.1 in
      (omega (arith, own), omega (arith, own, older, small.1, small.2))

  pub none-older : (length ends ≤ place) ⊎ (end_code peer life 0 0 ≤ get_or ends place 0)
      → None ≡ position (is_of_older peer life) servers
  none-older none = none-passes (is_of_older peer life) servers (λ k v at.
      unless-true (is_of_older peer life v) (λ is.
      let code = older-code k v at is in
      let h = least ends servers order (end_code peer 0 0 0) place k v point at code.0 in
      elim none [
        | inl past ↦ omega (arith, past, h.0)
        | inr far ↦ omega (arith, far, h.1, code.1)
      ]))

-- a session more
pub end-added : (ends : List ℕ) (servers : List Serving) (place : ℕ) (v : Serving) (code : ℕ)
    → EndOrder ends (map way_of servers) → code ≡ code_of (way_of v) → HasParts (way_of v)
    → place ≤ length ends
    → IsPartitionPoint (λ e. e < code) (λ e. code ≤ e) ends place
    → EndOrder (insert ends place code) (map way_of (servers ++ v ∷ []))
end-added ends servers place v code order is small within point =
    rw (map_push way_of servers v) (record {
      rises = IsNonDecreasingBy-insert (λ e. e) ends place code order.rises within
          (λ k d less. (let h = point.0 k d (omega arith) less in omega (arith, h)))
          (λ k d more inside. point.1 k d more inside);
      each = λ n. (
          let mine = hits n in
          let theirs = λ (w : Way). hits n (code_of w) in
          let same : theirs (way_of v) ≡ mine code = ap mine (sym is) in
          omega (
            arith,
            sum_by-IsPermutation mine (code ∷ ends) (insert ends place code)
                (IsPermutation-insert ends place code),
            sum_by-cons mine code ends,
            sum_by-append theirs (map way_of servers) (way_of v ∷ []),
            sum_by-cons theirs (way_of v) [],
            same,
            order.each n,
          ));
      small = all-push HasParts (map way_of servers) (way_of v) order.small small;
    })

-- numbers that rise still do without one of them
rises-without : (ends : List ℕ) (p : ℕ) → IsNonDecreasing ends → p < length ends
    → IsNonDecreasing (remove ends p)
rises-without ends p rises within i j d le inside =
    let fewer = length-remove ends p within in
    elim (cases_lt i p) [
      | inl less ↦ elim (cases_lt j p) [
        | inl low ↦ rw (
          get_or-remove_below ends p d i less within,
          get_or-remove_below ends p d j low within,
        )
            (rises i j d le (omega (arith, inside, fewer)))
        | inr high ↦ rw (
          get_or-remove_below ends p d i less within,
          get_or-remove_above ends p d j high within,
        )
            (rises i (j + 1) d (omega (arith, le)) (omega (arith, inside, fewer)))
      ]
      | inr more ↦ rw (
        get_or-remove_above ends p d i more within,
        get_or-remove_above ends p d j (omega (arith, more, le)) within,
      ) (rises (i + 1) (j + 1) d (omega (arith, le)) (omega (arith, inside, fewer)))
    ]

-- a session less
module _ (ends : List ℕ) (servers : List Serving) (order : EndOrder ends (map way_of servers))
    (place code i : ℕ) (v : Serving) (at : slice_get servers i ≡ Some v)
    (is : code ≡ code_of (way_of v))
    (point : IsPartitionPoint (λ e. e < code) (λ e. code ≤ e) ends place) where
  pub end-there : (place < length ends) × (get_or ends place 0 ≡ code)
  end-there =
      let h = least ends servers order code place i v point at (omega (arith, is)) in
      let from = point.1 place 0 (omega arith) h.0 in
      (h.0, omega (arith, h.1, from, is))

  pub end-left : EndOrder (remove ends place) (map way_of (remove servers i))
  end-left =
      rw (map-removed way_of servers i) (record {
        rises = rises-without ends place order.rises end-there.0;
        each = λ n. (
            let mine = hits n in
            let theirs = λ (w : Way). hits n (code_of w) in
            let same : theirs (way_of v) ≡ mine code = ap mine (sym is) in
            omega (
              arith,
              sum-less mine ends place code
                  (slice_get-get_or ends place 0 end-there.0 ∙ ap Some end-there.1),
              sum-less theirs (map way_of servers) i (way_of v) (get-map way_of servers i v at),
              same,
              order.each n,
            ));
        small = all-removed HasParts (map way_of servers) i order.small;
      })

-- where each code is there as often as there are sessions with it, there are no more codes
more-than : (ends : List ℕ) (ways : List Way)
    → ((n : ℕ) → count_by (λ code. code == n) ends ≡ count_by (λ w. code_of w == n) ways)
    → length ends ≤ length ways
more-than [] ways each = omega arith
more-than (e ∷ es) ways each =
    let some = counted (λ (code : ℕ). code) e (e ∷ es) 0 e refl refl in
    let h = stands code_of e ways (omega (arith, some, each e)) in
    let rest = more-than es (remove ways h.place) (λ n. (
    let theirs = λ (w : Way). hits n (code_of w) in
    let same : theirs h.one ≡ hits n e = ap (hits n) h.is in
    omega (arith, each n, sum_by-cons (hits n) e es, sum-less theirs ways h.place h.one h.at, same)
    )) in
    omega (arith, rest, length-remove ways h.place (slice_get_within ways h.place h.one h.at))

-- and no more than sessions
pub no-more-ends : (ends : List ℕ) (servers : List Serving) → EndOrder ends (map way_of servers)
    → length ends ≤ length servers
no-more-ends ends servers order =
    omega (arith, more-than ends (map way_of servers) order.each, length-map servers way_of)

-- How many entries name a place, of lists that are put together and taken apart.
use Rattle.std.proofs.Common.{◌≡◌, ℕ, ◌+◌, ◌<◌, ◌≤◌, Bool, ◌&&◌, Option, None, Some, List, [], ◌∷◌}
use Rattle.std.proofs.Common.{◌++◌, length, drop, get_or, cond, ap, sym, ◌∙◌, unwrap_or, arith}
use Rattle.std.proofs.Common.{refl, true, false}
use Rattle.std.proofs.lemmas.Bool.{eq-eqb, ne_eqb}
use Rattle.std.specs.List.{remove, slice_get}
use Rattle.std.proofs.lemmas.Option.{slice_get_within, unwrap_or-slice_get}
use Rattle.std.proofs.lemmas.List.Sums.{sum_by-append, sum_by-remove, sum_by-cons, count_by-le-length}
use Rattle.std.specs.Prelude.{◌==◌, IfSome, count_by}
use Rattle.rpc_base.specs.Taking.{TakenOut}
use Rattle.rpc_base.specs.Least.{least, without_least}
use Rattle.rpc_base.proofs.LeastLemmas.{LeastOut, least-out, least-same}
use Rattle.rpc_base.proofs.TakingLemmas.{taken-sum}
use Rattle.packet_rings.specs.Values.{EntryValue}
use Rattle.packet_rings.specs.Entries.{is_reply, listed_entry}
use Rattle.packet_rings.specs.Mentions.{is_place, mentions}

pub mentions-append : (p : ℕ) (xs ys : List EntryValue) → mentions p (xs ++ ys) ≡ mentions p xs + mentions p ys
mentions-append p xs ys = sum_by-append _ xs ys

pub mentions-cons : (p : ℕ) (e : EntryValue) (es : List EntryValue)
    → mentions p (e ∷ es) ≡ mentions p (e ∷ []) + mentions p es
mentions-cons p e es = omega (arith, sum_by-cons (λ x. cond (is_place p x.place) 1 0) e es)

-- an entry at i is taken out
pub mentions-remove : (p : ℕ) (xs : List EntryValue) (i : ℕ) (e : EntryValue)
    → slice_get xs i ≡ Some e → mentions p xs ≡ mentions p (e ∷ []) + mentions p (remove xs i)
mentions-remove p xs i e h =
    let within : i < length xs = slice_get_within xs i e h in
    let here : get_or xs i e ≡ e = sym (unwrap_or-slice_get xs i e) ∙ ap (λ o. unwrap_or o e) h in
    let sums = sum_by-remove (λ x. cond (is_place p x.place) 1 0) xs i e within in
    let there : cond {A = ℕ} (is_place p (get_or xs i e).place) 1 0
    ≡ cond {A = ℕ} (is_place p e.place) 1 0 =
    ap (λ x. cond (is_place p x.place) 1 0) here in
    omega arith

-- an entry is taken out from where it stands
pub mentions-taken : (p : ℕ) (passes : EntryValue → Bool) (e : EntryValue)
    (old new : List EntryValue) → TakenOut passes e old new
    → mentions p old ≡ mentions p (e ∷ []) + mentions p new
mentions-taken p passes e old new t =
    omega (arith, taken-sum passes (λ x. cond (is_place p x.place) 1 0) e old new t)

pub mentions-out : (passes : EntryValue → Bool) (number : EntryValue → ℕ)
    (old new : List EntryValue) (r : Option EntryValue)
    → IfSome r (λ e. LeastOut passes number e old new)
    → IfSome r (λ e. (p : ℕ) → mentions p old ≡ mentions p (e ∷ []) + mentions p new)
mentions-out passes number old new None h = tt
mentions-out passes number old new (Some e) h =
    λ p. mentions-taken p (λ x. passes x && number x == number e) e old new h.taken

-- so are its replies
replies-taken : (passes : EntryValue → Bool) (e : EntryValue) (old new : List EntryValue)
    → TakenOut passes e old new
    → count_by is_reply old ≡ count_by is_reply (e ∷ []) + count_by is_reply new
replies-taken passes e old new t =
    omega (arith, taken-sum passes (λ x. cond (is_reply x) 1 0) e old new t)

pub replies-out : (passes : EntryValue → Bool) (number : EntryValue → ℕ) (old : List EntryValue)
    (r : Option EntryValue) → r ≡ least passes number old
    → count_by is_reply old
    ≡ count_by is_reply (listed_entry r) + count_by is_reply (without_least passes number old)
replies-out passes number old None h =
    let same : without_least passes number old ≡ old = least-same passes number old None h in
    rw same (omega arith)
replies-out passes number old (Some e) h =
    let out = least-out passes number old (Some e) h in
    replies-taken (λ x. passes x && number x == number e) e old (without_least passes number old)
    out.taken

-- the entry in front is taken out
pub mentions-front : (p : ℕ) (xs : List EntryValue) (e : EntryValue) → slice_get xs 0 ≡ Some e
    → mentions p xs ≡ mentions p (e ∷ []) + mentions p (drop 1 xs)
mentions-front p [] e h = cc
mentions-front p (x ∷ xs) e h = let same : x ≡ e = cc in rw (← same) (mentions-cons p x xs)

pub mentions-le-length : (p : ℕ) (xs : List EntryValue) → mentions p xs ≤ length xs
mentions-le-length p xs = count_by-le-length _ xs

-- one entry names its own place once, and no other
weight : (p : ℕ) (e : EntryValue) (b : Bool) → is_place p e.place ≡ b → mentions p (e ∷ []) ≡ cond {A = ℕ} b 1 0
weight p e b t =
    let same : cond {A = ℕ} (is_place p e.place) 1 0 ≡ cond {A = ℕ} b 1 0 = ap (λ b. cond {A = ℕ} b 1 0) t in
    omega arith

pub mentions-own : (p : ℕ) (e : EntryValue) → e.place ≡ Some p → mentions p (e ∷ []) ≡ 1
mentions-own p e h = weight p e true (ap (λ o. is_place p o) h ∙ eq-eqb p p refl)

pub mentions-other : (p q : ℕ) (e : EntryValue) → e.place ≡ Some q → (q ≡ p → ⊥) → mentions p (e ∷ []) ≡ 0
mentions-other p q e h other = weight p e false (ap (λ o. is_place p o) h ∙ ne_eqb q p other)

pub mentions-none : (p : ℕ) (e : EntryValue) → e.place ≡ None → mentions p (e ∷ []) ≡ 0
mentions-none p e h = weight p e false (ap (λ o. is_place p o) h)

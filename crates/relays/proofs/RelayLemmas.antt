-- The jobs that were asked are those whose handles are out.
use Rattle.std.proofs.Common.{◌≡◌, ◌≢◌, ℕ, Bool, true, false, ◌+◌, ◌<◌, List, [], ◌∷◌, ◌++◌, length}
use Rattle.std.proofs.Common.{map, refl, sym, ap, ap₂, subst, slice_get, Some, None, ◌∙◌, append-nil, arith}
use Rattle.std.specs.List.{remove}
use Rattle.std.specs.Prelude.{Option, IfNone, IfSome}
use Rattle.std.specs.Str.{bytes_eq}
use Rattle.std.proofs.lemmas.List.{length-append, length-map}
use Rattle.std.proofs.lemmas.Slice.Eq.{bytes_eq-Decides}
use Rattle.deferred_calls.proofs.DeskLemmas.{get_lt, length_out, rises_first, same_place}
use Rattle.deferred_calls.specs.Desks.{IsSound, Jobs, number_of, open_of, parcel_of}
use Rattle.deferred_calls.specs.Moves.{Answers, HandsOut, IsFirstOf}
use Rattle.deferred_calls.specs.declared.job.Numbered.{Numbered}
use Rattle.relays.specs.Relaying.{GoesOn, IsNobodys, Relaying, Stands}
use Rattle.worker_board.specs.declared.Parcel.{Parcel}

abbrev pub relaying : (limit : ℕ) → List Numbered → (relayed here : ℕ) → Relaying
relaying limit asked relayed here =
    record { limit = limit; asked = asked; relayed = relayed; here = here }

-- how many jobs are not answered
open-long : (s : Jobs) → length (open_of s) ≡ length s.handled + length s.waiting
open-long s = length-map (s.handled ++ s.waiting) parcel_of ∙ length-append s.handled s.waiting

-- the last of a list, and the others
last-there : (xs : List Numbered) (x : Numbered) → slice_get (xs ++ x ∷ []) (length xs) ≡ Some x
last-there [] x = refl
last-there (y ∷ xs) x = last-there xs x

last-gone : (xs : List Numbered) (x : Numbered) → remove (xs ++ x ∷ []) (length xs) ≡ xs
last-gone [] x = refl
last-gone (y ∷ xs) x = ap (λ zs. y ∷ zs) (last-gone xs x)

-- a handle was made, or none was
pub next-stands : (told : Option Numbered) (old new : Jobs) (r : Relaying) → HandsOut told old new
    → Stands old [] r → IfSome told (λ n. Stands new (n ∷ []) r) × IfNone told (Stands new [] r)
next-stands None old new r does s = (tt, subst (λ (d : Jobs). Stands d [] r) (sym does.1) s)
next-stands (Some n) old new r does s = (made, tt)
  where
    rest : List Numbered
    rest = does.0

    made : Stands new (n ∷ []) r
    made = subst (λ (d : Jobs). Stands d (n ∷ []) r) (sym does.2) (record {
      limit = s.limit;
      handled = ap (λ hs. hs ++ n ∷ []) (s.handled ∙ append-nil r.asked);
      counts =
          let then_desk : Jobs = record old { waiting = rest; handled = old.handled ++ n ∷ [] } in
          let was = s.counts in
          omega (
            arith,
            was,
            open-long old,
            open-long then_desk,
            length-append old.handled (n ∷ []),
            ap length does.1,
          );
    })

-- the handle is kept
pub keep-stands : (desk : Jobs) (r : Relaying) (n : Numbered) → Stands desk (n ∷ []) r
    → Stands desk [] (record r { asked = r.asked ++ n ∷ [] })
keep-stands desk r n s = record {
  limit = s.limit;
  handled = s.handled ∙ sym (append-nil (r.asked ++ n ∷ []));
  counts = s.counts;
}

-- and there is room for it
pub keep-room : (answer : ℕ → List ℕ → List ℕ) (desk : Jobs) (r : Relaying) (n : Numbered)
    → IsSound answer desk → Stands desk (n ∷ []) r → length r.asked < r.limit
keep-room answer desk r n sound s =
    let few = sound.few in
    let limit = s.limit in
    omega (arith, few, limit, ap length s.handled, length-append r.asked (n ∷ []))

module _ (answer : ℕ → List ℕ → List ℕ) (n : Numbered) (old new : Jobs) (sound : IsSound answer old)
    (does : Answers answer n old new) where
  -- one job less isn't answered
  one-less : length (open_of new) + 1 ≡ length (open_of old)
  one-less = omega (
    arith,
    open-long old,
    open-long new,
    length_out old.handled does.0 n does.1,
    ap (λ (d : Jobs). length d.handled) does.2,
    ap (λ (d : Jobs). length d.waiting) does.2,
  )

  -- its handle stood at this place, whichever place has it
  own-place : (i : ℕ) → slice_get old.handled i ≡ Some n → new.handled ≡ remove old.handled i
  own-place i at =
      ap (λ (d : Jobs). d.handled) does.2
      ∙ ap (remove old.handled) (same_place 0 old.handled old.given does.0 i n n
      (rises_first 0 old.handled old.waiting old.given sound.rises) does.1 at refl)

  -- a job whose handle isn't kept
  pub here-stands : (r : Relaying) → Stands old (n ∷ []) r
      → Stands new [] (record r { here = r.here + 1 })
  here-stands r s = record {
    limit = s.limit ∙ sym (ap (λ (d : Jobs). d.limit) does.2);
    handled =
        own-place (length r.asked) (ap (λ hs. slice_get hs (length r.asked)) s.handled
        ∙ last-there r.asked n)
        ∙ ap (λ hs. remove hs (length r.asked)) s.handled ∙ last-gone r.asked n
        ∙ sym (append-nil r.asked);
    counts =
        let was = s.counts in
        omega (arith, was, one-less, ap (λ (d : Jobs). d.given) does.2);
  }

  -- a job whose call is over
  pub settled-stands : (r later : Relaying) (i : ℕ) → slice_get r.asked i ≡ Some n
      → later.asked ≡ remove r.asked i → later.limit ≡ r.limit
      → later.relayed + later.here ≡ r.relayed + r.here + 1 → Stands old [] r → Stands new [] later
  settled-stands r later i at others same more s =
      let handled : old.handled ≡ r.asked = s.handled ∙ append-nil r.asked in
      record {
        limit = same ∙ s.limit ∙ sym (ap (λ (d : Jobs). d.limit) does.2);
        handled =
            own-place i (ap (λ hs. slice_get hs i) handled ∙ at)
            ∙ ap (λ hs. remove hs i) handled ∙ sym others ∙ sym (append-nil later.asked);
        counts =
            let was = s.counts in
            omega (arith, was, more, one-less, ap (λ (d : Jobs). d.given) does.2);
      }

-- no job of this number was asked
pub nobodys : (tag place : ℕ) (r : Relaying) → IsFirstOf tag r.asked place
    → (place < length r.asked → ⊥) → IsNobodys tag r
nobodys tag place r first beyond k n at named =
    let inside = get_lt r.asked k n at in
    let all : place ≡ length r.asked = let within = first.within in omega (arith, within, beyond) in
    first.before k n (omega (arith, inside, all)) at named

-- handles with the same numbers are the same, where the jobs that aren't answered only got more
same-handles : (ms ns vs ws : List Numbered) (gave : List Parcel)
    → map number_of ms ≡ map number_of ns
    → map parcel_of (ms ++ vs) ≡ map parcel_of (ns ++ ws) ++ gave → ms ≡ ns
same-handles [] [] vs ws gave numbers left = refl
same-handles [] (n ∷ ns) vs ws gave numbers left =
    let none : [] ≡ n.number ∷ map number_of ns = numbers in cc
same-handles (m ∷ ms) [] vs ws gave numbers left =
    let none : m.number ∷ map number_of ms ≡ [] = numbers in cc
same-handles (m ∷ ms) (n ∷ ns) vs ws gave numbers left =
    let all : m.number ∷ map number_of ms ≡ n.number ∷ map number_of ns = numbers in
    let jobs : m.parcel ∷ map parcel_of (ms ++ vs)
    ≡ n.parcel ∷ (map parcel_of (ns ++ ws) ++ gave) = left in
    let number : m.number ≡ n.number = cc in
    let parcel : m.parcel ≡ n.parcel = cc in
    let others : map number_of ms ≡ map number_of ns = cc in
    let further : map parcel_of (ms ++ vs) ≡ map parcel_of (ns ++ ws) ++ gave = cc in
    let first : m ≡ n = ap₂ (λ (a : ℕ) (p : Parcel). record { number = a; parcel = p }) number
    parcel in
    ap₂ (λ (x : Numbered) (xs : List Numbered). x ∷ xs) first
    (same-handles ms ns vs ws gave others further)

pub turned-stands : (gave : List Parcel) (old new : Jobs) (r : Relaying) → GoesOn gave old new
    → Stands old [] r → Stands new [] r
turned-stands gave old new r goes s = record {
  limit = s.limit ∙ sym goes.limit;
  handled =
      same-handles new.handled old.handled new.waiting old.waiting gave
      (ap (λ t. t.out) goes.hands) goes.left
      ∙ s.handled;
  counts =
      let was = s.counts in
      let given = goes.given in
      omega (arith, was, given, ap length goes.left, length-append (open_of old) gave);
}

-- bytes that aren't other bytes are the same
pub same-bytes : (xs ys : List ℕ) → (xs ≢ ys → ⊥) → xs ≡ ys
same-bytes xs ys not = by (bytes_eq xs ys) refl
  where
    by : (b : Bool) → bytes_eq xs ys ≡ b → xs ≡ ys
    by true e = (bytes_eq-Decides xs ys).0 e
    by false e = absurd (not (λ same. let yes = (bytes_eq-Decides xs ys).1 same in cc))

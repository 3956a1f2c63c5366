-- The jobs that are out, as one is given and as one comes back.
use Rattle.std.proofs.Common.{◌≡◌, ℕ, zero, suc, List, [], ◌∷◌, ◌++◌, map, take, drop, slice_get, Some}
use Rattle.std.proofs.Common.{append-nil, refl, sym, ap, subst, ◌∙◌, append_assoc, IsPermutation}
use Rattle.std.specs.List.{remove}
use Rattle.std.proofs.lemmas.List.{map-append}
use Rattle.std.proofs.lemmas.List.Sorted.{IsPermutation-sym, IsPermutation-trans}
use Rattle.worker_crew.specs.Local.{answered}
use Rattle.worker_crew.proofs.LocalLemmas.{goes-in, comes-out}
use Rattle.worker_board.specs.declared.Parcel.{Parcel}
use Rattle.worker_crew.specs.Jobs.{job_of}
use Rattle.deferred_calls.specs.declared.job.Numbered.{Numbered}
use Rattle.deferred_calls.specs.Desks.{Jobs, open_of, out_of, parcel_of}
use Rattle.deferred_calls.specs.Moves.{given_to, Answers}

pub given_out : (job : Parcel) (s : Jobs) → IsPermutation (job_of job ∷ out_of s) (out_of (given_to job s))
given_out job s = let x : Numbered = record { number = s.given; parcel = job } in
    goes-in job_of job (open_of s) s.answered (open_of (given_to job s))
    (ap (map parcel_of) (sym (append_assoc s.handled s.waiting (x ∷ [])))
    ∙ map-append parcel_of (s.handled ++ s.waiting) (x ∷ []))

pub taken_out : (p : Parcel) (rest : List Parcel) (s t : Jobs) → s.answered ≡ p ∷ rest → t ≡ record s { answered = rest }
    → IsPermutation (out_of s) (job_of p ∷ out_of t)
taken_out p rest s t is done =
    subst (λ (x : Jobs). IsPermutation (out_of s) (job_of p ∷ out_of x)) (sym done)
    (subst (λ (l : List Parcel). IsPermutation (map job_of (open_of s ++ l)) (job_of p ∷ map job_of (open_of s ++ rest))) (sym is)
    (comes-out job_of p (open_of s) rest))

-- a list about one of its places
around : {A : Type 0} (xs : List A) (k : ℕ) (a : A) → slice_get xs k ≡ Some a → xs ≡ take k xs ++ a ∷ drop (suc k) xs
around [] k a e = cc
around (x ∷ xs) zero a e = let same : x ≡ a = cc in ap (λ (y : _). y ∷ xs) same
around (x ∷ xs) (suc k) a e = ap (λ (l : _). x ∷ l) (around xs k a e)

-- one goes out of a list, and one that counts the same comes behind another
pub moved_out : {A B : Type 0} (f : A → B) (ps qs rs : List A) (p x : A) → f x ≡ f p
    → IsPermutation (map f ((ps ++ p ∷ qs) ++ rs)) (map f ((ps ++ qs) ++ (rs ++ x ∷ [])))
moved_out f ps qs rs p x same =
    let rest : List _ = (ps ++ qs) ++ rs in
    let first : IsPermutation (map f ((ps ++ p ∷ qs) ++ rs)) (f p ∷ map f rest) =
    subst (λ l. IsPermutation (map f l) (f p ∷ map f rest)) (sym (append_assoc ps (p ∷ qs) rs))
    (subst (λ l. IsPermutation (map f (ps ++ p ∷ (qs ++ rs))) (f p ∷ map f l)) (sym (append_assoc ps qs rs)) (comes-out f p ps (qs ++ rs))) in
    let last : IsPermutation (map f ((ps ++ qs) ++ (rs ++ x ∷ []))) (f x ∷ map f rest) =
    subst (λ l. IsPermutation (map f l) (f x ∷ map f rest)) (append_assoc (ps ++ qs) rs (x ∷ []))
    (subst (λ l. IsPermutation (map f (rest ++ x ∷ [])) (f x ∷ map f l)) (append-nil rest) (comes-out f x rest [])) in
    IsPermutation-trans _ _ _ (subst (λ y. IsPermutation (map f ((ps ++ p ∷ qs) ++ rs)) (y ∷ map f rest)) (sym same) first)
    (IsPermutation-sym _ _ last)

-- an answer leaves the jobs that are out
pub answered_out : (answer : ℕ → List ℕ → List ℕ) (n : Numbered) (old new : Jobs) → Answers answer n old new
    → IsPermutation (out_of old) (out_of new)
answered_out answer n old new t =
    let k = t.0 in let front : List Numbered = take k old.handled in let behind : List Numbered = drop (suc k) old.handled in
    let x : Parcel = answered answer n.parcel in
    let before : map parcel_of (old.handled ++ old.waiting) ≡ map parcel_of front ++ n.parcel ∷ map parcel_of (behind ++ old.waiting) =
    ap (λ l. map parcel_of (l ++ old.waiting)) (around old.handled k n t.1)
    ∙ ap (map parcel_of) (append_assoc front (n ∷ behind) old.waiting) ∙ map-append parcel_of front (n ∷ (behind ++ old.waiting)) in
    let after : map parcel_of (remove old.handled k ++ old.waiting) ≡ map parcel_of front ++ map parcel_of (behind ++ old.waiting) =
    ap (map parcel_of) (append_assoc front behind old.waiting) ∙ map-append parcel_of front (behind ++ old.waiting) in
    subst (λ s. IsPermutation (out_of old) (out_of s)) (sym t.2)
    (subst (λ l. IsPermutation (map job_of (l ++ old.answered)) (map job_of (map parcel_of (remove old.handled k ++ old.waiting) ++ (old.answered ++ x ∷ [])))) (sym before)
    (subst (λ l. IsPermutation (map job_of ((map parcel_of front ++ n.parcel ∷ map parcel_of (behind ++ old.waiting)) ++ old.answered)) (map job_of (l ++ (old.answered ++ x ∷ [])))) (sym after)
    (moved_out job_of (map parcel_of front) (map parcel_of (behind ++ old.waiting)) old.answered n.parcel x refl)))

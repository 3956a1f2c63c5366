-- Numbers that rise, and what keeps a desk sound.
use Rattle.std.proofs.Common.{◌≡◌, ◌≢◌, ℕ, zero, suc, ◌+◌, ◌<◌, ◌≤◌, List, [], ◌∷◌, ◌++◌, length, drop}
use Rattle.std.proofs.Common.{refl, sym, ap, ap₂, subst, slice_get, Some, None, ◌∙◌, append_assoc, arith}
use Rattle.std.specs.List.{remove}
use native.Mathlib.Decide.{dec_le}
use Rattle.std.specs.Prelude.{Option, option_to_list, IfNone, IfSome}
use Rattle.std.proofs.lemmas.List.{length-append}
use Rattle.rpc_base.proofs.FirstLemmas.{all-push}
use Rattle.rpc_base.proofs.PlaceLemmas.{all-at}
use Rattle.worker_crew.proofs.LocalLemmas.{all-without}
use Rattle.worker_board.specs.declared.Parcel.{Parcel}
use Rattle.worker_crew.specs.Jobs.{HasRoom, IsAnswered}
use Rattle.deferred_calls.specs.declared.job.Numbered.{Numbered}
use Rattle.deferred_calls.specs.Desks.{Jobs, IsSound, Rises, HasNumbers, HasRoomIn}
use Rattle.worker_crew.specs.Local.{answered}
use Rattle.deferred_calls.specs.Moves.{IsFirstOf, TakesOut, Answers, HandsOut, IsHandleOf}

pub rises_le : (low : ℕ) (xs : List Numbered) (high : ℕ) → Rises low xs high → low ≤ high
rises_le low [] high r = r
rises_le low (x ∷ xs) high r = omega (arith, r.0, rises_le (suc x.number) xs high r.1)

pub rises_weaken : (less low : ℕ) (xs : List Numbered) (high : ℕ) → less ≤ low → Rises low xs high → Rises less xs high
rises_weaken less low [] high le r = omega arith
rises_weaken less low (x ∷ xs) high le r = ((let a = r.0 in omega arith), r.1)

pub rises_push : (low : ℕ) (xs : List Numbered) (x : Numbered) (high : ℕ) → Rises low xs high → x.number ≡ high
    → Rises low (xs ++ x ∷ []) (high + 1)
rises_push low [] x high r is = (omega arith, omega arith)
rises_push low (y ∷ xs) x high r is = (r.0, rises_push (suc y.number) xs x high r.1 is)

pub rises_first : (low : ℕ) (xs ys : List Numbered) (high : ℕ) → Rises low (xs ++ ys) high → Rises low xs high
rises_first low [] ys high r = rises_le low ys high r
rises_first low (x ∷ xs) ys high r = (r.0, rises_first (suc x.number) xs ys high r.1)

pub rises_out : (low : ℕ) (xs ys : List Numbered) (k high : ℕ) → Rises low (xs ++ ys) high → Rises low (remove xs k ++ ys) high
rises_out low [] ys zero high r = r
rises_out low [] ys (suc k) high r = r
rises_out low (x ∷ xs) ys zero high r = rises_weaken low (suc x.number) (xs ++ ys) high (let a = r.0 in omega arith) r.1
rises_out low (x ∷ xs) ys (suc k) high r = (r.0, rises_out (suc x.number) xs ys k high r.1)

rises_above : (low : ℕ) (xs : List Numbered) (high i : ℕ) (a : Numbered) → Rises low xs high → slice_get xs i ≡ Some a → low ≤ a.number
rises_above low [] high i a r e = cc
rises_above low (x ∷ xs) high zero a r e = let same : x ≡ a = cc in subst (λ (n : Numbered). low ≤ n.number) same r.0
rises_above low (x ∷ xs) high (suc i) a r e = omega (arith, r.0, rises_above (suc x.number) xs high i a r.1 e)

-- two places with one number are one
pub same_place : (low : ℕ) (xs : List Numbered) (high i j : ℕ) (a b : Numbered) → Rises low xs high
    → slice_get xs i ≡ Some a → slice_get xs j ≡ Some b → a.number ≡ b.number → i ≡ j
same_place low [] high i j a b r e h is = cc
same_place low (x ∷ xs) high zero zero a b r e h is = refl
same_place low (x ∷ xs) high zero (suc j) a b r e h is = let same : x ≡ a = cc in
    absurd (omega (arith, ap (λ (n : Numbered). n.number) same, rises_above (suc x.number) xs high j b r.1 h))
same_place low (x ∷ xs) high (suc i) zero a b r e h is = let same : x ≡ b = cc in
    absurd (omega (arith, ap (λ (n : Numbered). n.number) same, rises_above (suc x.number) xs high i a r.1 e))
same_place low (x ∷ xs) high (suc i) (suc j) a b r e h is = ap suc (same_place (suc x.number) xs high i j a b r.1 e h is)

-- what stands at a place stands below the length, and something stands at each place below it
pub get_lt : {A : Type 0} (xs : List A) (i : ℕ) (a : A) → slice_get xs i ≡ Some a → i < length xs
get_lt [] i a e = cc
get_lt (x ∷ xs) zero a e = omega arith
get_lt (x ∷ xs) (suc i) a e = omega (arith, get_lt xs i a e)

get_there : {A : Type 0} (xs : List A) (i : ℕ) → i < length xs → (a : A) × (slice_get xs i ≡ Some a)
get_there [] i h = absurd (omega arith)
get_there (x ∷ xs) zero h = (x, refl)
get_there (x ∷ xs) (suc i) h = get_there xs i (omega arith)

-- the first of a number is the job's own place
pub takes_out : (ns left : List Numbered) (n : Numbered) (place : ℕ) → HasNumbers ns
    → (k : ℕ) → slice_get ns k ≡ Some n → IsFirstOf n.number ns place → left ≡ remove ns place → TakesOut n ns left
takes_out ns left n place r k at first is =
    let inside = get_lt ns k n at in
    let le : place ≤ k = not_after (first.before k n) at in
    let t = get_there ns place (omega arith) in
    let same : place ≡ k = same_place 0 ns r.0 place k t.0 n r.1 t.1 at (first.here t.0 t.1) in (
      k,
      at,
      is ∙ ap (remove ns) same,
    )
  where
    not_after : (k < place → slice_get ns k ≡ Some n → n.number ≢ n.number) → slice_get ns k ≡ Some n → place ≤ k
    not_after before at = by_cases (dec_le place k)
      where
        by_cases : Dec (place ≤ k) → place ≤ k
        by_cases (yes h) = h
        by_cases (no h) = absurd (before (omega arith) at refl)

pub length_out : {A : Type 0} (xs : List A) (k : ℕ) (a : A) → slice_get xs k ≡ Some a → length (remove xs k) + 1 ≡ length xs
length_out [] k a e = cc
length_out (x ∷ xs) zero a e = omega arith
length_out (x ∷ xs) (suc k) a e = omega (arith, length_out xs k a e)

abbrev pub jobs : ℕ → ℕ → List Numbered → List Numbered → List Parcel → Jobs
jobs limit given waiting handled answered =
    record { limit = limit; given = given; waiting = waiting; handled = handled; answered = answered }

module _ (answer : ℕ → List ℕ → List ℕ) where
  pub sound_given : (limit given : ℕ) (w w₁ h : List Numbered) (a : List Parcel) (job : Parcel)
      → IsSound answer (jobs limit given w h a) → HasRoom answer job
      → length w + length h + length a < limit → w₁ ≡ w ++ record { number = given; parcel = job } ∷ []
      → IsSound answer (jobs limit (given + 1) w₁ h a)
  sound_given limit given w w₁ h a job s room less is = let x : Numbered = record { number = given; parcel = job } in
      subst (λ (l : List Numbered). IsSound answer (jobs limit (given + 1) l h a)) (sym is) record {
        few = omega (arith, length-append w (x ∷ []));
        rises = subst (λ (l : List Numbered). Rises 0 l (given + 1)) (append_assoc h w (x ∷ []))
            (rises_push 0 (h ++ w) x given s.rises refl);
        room = all-push (HasRoomIn answer) w x s.room room;
        room_out = s.room_out;
        answered = s.answered;
      }

  pub sound_next : (limit given : ℕ) (w h h₁ rest : List Numbered) (a : List Parcel) (n : Numbered)
      → IsSound answer (jobs limit given w h a) → w ≡ n ∷ rest → h₁ ≡ h ++ n ∷ []
      → IsSound answer (jobs limit given rest h₁ a)
  sound_next limit given w h h₁ rest a n s is done = let t = subst (λ (l : List Numbered). IsSound answer (jobs limit given l h a)) is s in
      subst (λ (l : List Numbered). IsSound answer (jobs limit given rest l a)) (sym done) record {
        few = omega (arith, t.few, length-append h (n ∷ []));
        rises = subst (λ (l : List Numbered). Rises 0 l given) (sym (append_assoc h (n ∷ []) rest)) t.rises;
        room = t.room.1;
        room_out = all-push (HasRoomIn answer) h n t.room_out t.room.0;
        answered = t.answered;
      }

  pub sound_answered : (limit given : ℕ) (w h h₁ : List Numbered) (a a₁ : List Parcel) (n : Numbered) (p : Parcel)
      → IsSound answer (jobs limit given w h a) → TakesOut n h h₁ → a₁ ≡ a ++ p ∷ [] → IsAnswered answer p
      → IsSound answer (jobs limit given w h₁ a₁)
  sound_answered limit given w h h₁ a a₁ n p s t is done =
      subst (λ (l : List Numbered). IsSound answer (jobs limit given w l a₁)) (sym t.2)
      (subst (λ (l : List Parcel). IsSound answer (jobs limit given w (remove h t.0) l)) (sym is) record {
        few = omega (arith, s.few, length-append a (p ∷ []), length_out h t.0 n t.1);
        rises = rises_out 0 h w t.0 given s.rises;
        room = s.room;
        room_out = all-without (HasRoomIn answer) h t.0 s.room_out;
        answered = all-push (IsAnswered answer) a p s.answered done;
      })

  -- a handle's job has room for its answer
  pub has_room : (limit given k : ℕ) (w h : List Numbered) (a : List Parcel) (n : Numbered)
      → IsSound answer (jobs limit given w h a) → slice_get h k ≡ Some n → HasRoom answer n.parcel
  has_room limit given k w h a n s at = all-at (HasRoomIn answer) h k n s.room_out at

  pub has_numbers : (limit given : ℕ) (w h : List Numbered) (a : List Parcel)
      → IsSound answer (jobs limit given w h a) → HasNumbers h
  has_numbers limit given w h a s = (given, rises_first 0 h w given s.rises)

-- what an answer does to the jobs
pub answers : (answer : ℕ → List ℕ → List ℕ) (limit given : ℕ) (w h h₁ : List Numbered) (a a₁ : List Parcel)
    (n : Numbered) (p : Parcel) (old : Jobs) → jobs limit given w h a ≡ old → TakesOut n h h₁ → a₁ ≡ a ++ p ∷ []
    → p ≡ answered answer n.parcel → Answers answer n old (jobs limit given w h₁ a₁)
answers answer limit given w h h₁ a a₁ n p old is t push same =
    subst (λ (s : Jobs). Answers answer n s (jobs limit given w h₁ a₁)) is
    (t.0, t.1, ap₂ (λ (x : List Numbered) (y : List Parcel). jobs limit given w x y) t.2 (push ∙ ap (λ (q : Parcel). a ++ q ∷ []) same))

-- a queue that gave nothing is empty
pub none_of : {A : Type 0} (r : Option A) (old new : List A) → old ≡ option_to_list r ++ new → new ≡ drop 1 old
    → IfNone r ((old ≡ []) × (new ≡ []))
none_of None [] new e h = (refl, sym e)
none_of None (x ∷ old) new e h = absurd (let l = ap length (e ∙ h) in omega arith)
none_of (Some x) old new e h = tt

get_last : {A : Type 0} (xs : List A) (x : A) → slice_get (xs ++ x ∷ []) (length xs) ≡ Some x
get_last [] x = refl
get_last (y ∷ xs) x = get_last xs x

-- a handle that was just given is of the desk
pub is_handle : (r : Option Numbered) (old new : Jobs) → HandsOut r old new → IfSome r (IsHandleOf new)
is_handle None old new h = tt
is_handle (Some n) old new h =
    (length old.handled, ap (λ (s : Jobs). slice_get s.handled (length old.handled)) h.2 ∙ get_last old.handled n)

-- What becomes of the entries beside those of one session, as its own come and go.
use Rattle.std.proofs.Common.{◌≡◌, ◌≢◌, ℕ, Bool, true, false, not, ◌&&◌, cond, eqb, List, [], ◌∷◌}
use Rattle.std.proofs.Common.{◌++◌, refl, sym, ap, subst, ◌∙◌, arith}
use Rattle.std.specs.Prelude.{count_by}
use Rattle.std.specs.List.{AllByRecursion, filter}
use Rattle.std.proofs.lemmas.Bool.{eqb-true, ne_eqb}
use Rattle.rpc_base.specs.Owners.{same_owner}
use Rattle.rpc_base.specs.Taking.{TakenOut}
use Rattle.rpc_base.specs.declared.owner.Owner.{Owner}
use Rattle.rpc_base.specs.declared.owner.Owner.TheVariants.{Ask, Reply, Control}
use Rattle.rpc_base.proofs.FirstLemmas.{counted-cons}
use Rattle.node_laws.specs.QueuedPackets.{is_ask_of}
use Rattle.server_core.specs.Flushing.{is_reply_of}

module _ {A : Type 0} (mine : A → Bool) where
  -- those that aren't the session's
  abbrev pub rest : List A → List A
  rest xs = filter (λ x. not (mine x)) xs

  -- one of its own is put behind, or taken out
  pub rest-push : (xs : List A) (e : A) → mine e ≡ true → rest (xs ++ e ∷ []) ≡ rest xs
  rest-push [] e t = rw t refl
  rest-push (x ∷ xs) e t = ap (λ ys. cond (not (mine x)) (x ∷ ys) ys) (rest-push xs e t)

  rest-middle : (xs ys : List A) (e : A) → mine e ≡ true → rest (xs ++ ys) ≡ rest (xs ++ e ∷ ys)
  rest-middle [] ys e t = rw t refl
  rest-middle (x ∷ xs) ys e t = ap (λ zs. cond (not (mine x)) (x ∷ zs) zs) (rest-middle xs ys e t)

  pub rest-taken : (passes : A → Bool) (e : A) (old new : List A) → TakenOut passes e old new
      → mine e ≡ true → rest new ≡ rest old
  rest-taken passes e old new out t =
      ap (λ xs. rest xs) out.left ∙ rest-middle out.before out.after e t ∙ ap (λ xs. rest xs) (sym out.was)

  -- what holds of all the session's own holds of all, if it did
  module _ (P : A → Type 0) (own : (x : A) → mine x ≡ true → P x) where
    out-cons : (x : A) (xs : List A) (b : Bool) → P x → AllByRecursion P (rest xs)
        → AllByRecursion P (cond (not b) (x ∷ rest xs) (rest xs))
    out-cons x xs true one all = all
    out-cons x xs false one all = (one, all)

    all-out : (xs : List A) → AllByRecursion P xs → AllByRecursion P (rest xs)
    all-out [] all = tt
    all-out (x ∷ xs) all = out-cons x xs (mine x) all.0 (all-out xs all.1)

    in-cons : (x : A) (xs : List A) (b : Bool) → mine x ≡ b
        → (AllByRecursion P (rest xs) → AllByRecursion P xs)
        → AllByRecursion P (cond (not b) (x ∷ rest xs) (rest xs)) → AllByRecursion P (x ∷ xs)
    in-cons x xs true t ih all = (own x t, ih all)
    in-cons x xs false t ih all = (all.0, ih all.1)

    all-in : (xs : List A) → AllByRecursion P (rest xs) → AllByRecursion P xs
    all-in [] all = tt
    all-in (x ∷ xs) all = in-cons x xs (mine x) refl (all-in xs) all

    pub rest-all : (old new : List A) → rest new ≡ rest old → AllByRecursion P old
        → AllByRecursion P new
    rest-all old new same all = all-in new (subst (λ xs. AllByRecursion P xs) (sym same) (all-out old all))

  -- and what none of its own passes is counted as before
  module _ (q : A → Bool) (none : (x : A) → mine x ≡ true → q x ≡ false) where
    count-cons : (x : A) (xs : List A) (b : Bool) → mine x ≡ b
        → count_by q xs ≡ count_by q (rest xs)
        → count_by q (x ∷ xs) ≡ count_by q (cond (not b) (x ∷ rest xs) (rest xs))
    count-cons x xs true t ih = omega (arith, counted-cons q x xs false (none x t), ih)
    count-cons x xs false t ih =
        omega (arith, counted-cons q x xs (q x) refl, counted-cons q x (rest xs) (q x) refl, ih)

    count-rest : (xs : List A) → count_by q xs ≡ count_by q (rest xs)
    count-rest [] = refl
    count-rest (x ∷ xs) = count-cons x xs (mine x) refl (count-rest xs)

    pub rest-count : (old new : List A) → rest new ≡ rest old → count_by q new ≡ count_by q old
    rest-count old new same = count-rest new ∙ ap (λ xs. count_by q xs) same ∙ sym (count-rest old)

-- whose entries these are
off : (s n : ℕ) (b : Bool) → n ≢ s → (eqb s n && b) ≡ false
off s n b other = ap (λ a. a && b) (ne_eqb s n (λ t. other (sym t)))

pub ask-other : (i n r : ℕ) (o : Owner) → n ≢ i → is_ask_of i o ≡ true
    → same_owner o (Ask n r) ≡ false
ask-other i n r (Ask s q) other t = off s n (eqb q r) (λ e. other (e ∙ eqb-true s i t))
ask-other i n r (Reply s q) other t = refl
ask-other i n r Control other t = refl

pub ask-replies : (i t r : ℕ) (o : Owner) → is_ask_of i o ≡ true → same_owner o (Reply t r) ≡ false
ask-replies i n r (Ask s q) t = refl
ask-replies i n r (Reply s q) t = cc
ask-replies i n r Control t = cc

pub ask-no-reply : (i n : ℕ) (o : Owner) → is_ask_of i o ≡ true → is_reply_of n o ≡ false
ask-no-reply i n (Ask s q) t = refl
ask-no-reply i n (Reply s q) t = cc
ask-no-reply i n Control t = refl

pub reply-asks : (n i r : ℕ) (o : Owner) → is_reply_of n o ≡ true → same_owner o (Ask i r) ≡ false
reply-asks n i r (Ask s q) t = cc
reply-asks n i r (Reply s q) t = refl
reply-asks n i r Control t = cc

pub reply-other : (n m r : ℕ) (o : Owner) → m ≢ n → is_reply_of n o ≡ true
    → same_owner o (Reply m r) ≡ false
reply-other n m r (Ask s q) other t = refl
reply-other n m r (Reply s q) other t = off s m (eqb q r) (λ e. other (e ∙ sym (eqb-true n s t)))
reply-other n m r Control other t = refl

pub reply-no-reply : (n m : ℕ) (o : Owner) → m ≢ n → is_reply_of n o ≡ true
    → is_reply_of m o ≡ false
reply-no-reply n m (Ask s q) other t = refl
reply-no-reply n m (Reply s q) other t = ne_eqb m s (λ e. other (e ∙ sym (eqb-true n s t)))
reply-no-reply n m Control other t = refl

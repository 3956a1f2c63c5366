-- Numbers of sessions and of calls: the session of a number, and the call of a number, stand alone.
use Rattle.std.proofs.Common.{◌≡◌, ℕ, zero, suc, ◌+◌, ◌≤◌, ◌<◌, Bool, true, false, cond, eqb, leb}
use Rattle.std.proofs.Common.{Some, List, [], ◌∷◌, ◌++◌, length, refl, ap, ◌∙◌, arith}
use Rattle.std.specs.Prelude.{◌==◌, count_by, slice_get}
use Rattle.std.specs.List.{find}
use Rattle.std.proofs.lemmas.Bool.{eq-eqb, ne_eqb}
use Rattle.std.proofs.lemmas.Bool.Decides.{nat_tests}
use Rattle.std.proofs.lemmas.List.Sums.{sum_by-le-sum_by}
use Rattle.rpc_base.specs.Tables.{at_first}
use Rattle.rpc_laws.specs.declared.tables.Call.{Call}
use Rattle.rpc_laws.specs.declared.tables.Client.{Client}
use Rattle.rpc_laws.specs.declared.tables.Lists.{Lists}
use Rattle.rpc_laws.specs.Calls.{is_call}
use Rattle.rpc_laws.specs.Sessions.{is_client, has_call}
use Rattle.rpc_base.proofs.FirstLemmas.{found-own, found-le, any-counted, some-counted, found-any}
use Rattle.node_laws.proofs.Places.{Place}
use Rattle.node_laws.specs.Valid.{NumberedFrom, holders, Valid}

-- sessions
module _ {A : Type 0} (number : A → ℕ) where
  pub numbered-push : (n : ℕ) (xs : List A) (y : A) → NumberedFrom number n xs
      → number y ≡ n + length xs → NumberedFrom number n (xs ++ y ∷ [])
  numbered-push n [] y h e = (omega arith, tt)
  numbered-push n (x ∷ xs) y h e = (h.0, numbered-push (suc n) xs y h.1 (omega arith))

  module _ (p : A → Bool) (f : A → A) (same : (x : A) → number (f x) ≡ number x) where
    kept-cons : (n : ℕ) (y : A) (ys : List A) (b : Bool) → number y ≡ n
        → NumberedFrom number (suc n) ys → NumberedFrom number (suc n) (at_first p f ys)
        → NumberedFrom number n (cond b (f y ∷ ys) (y ∷ at_first p f ys))
    kept-cons n y ys true here rest after = (same y ∙ here, rest)
    kept-cons n y ys false here rest after = (here, after)

    pub numbered-kept : (n : ℕ) (xs : List A) → NumberedFrom number n xs → NumberedFrom number n (at_first p f xs)
    numbered-kept n [] h = tt
    numbered-kept n (y ∷ ys) h = kept-cons n y ys (p y) h.0 h.1 (numbered-kept (suc n) ys h.1)

  pub numbered-at : (n k : ℕ) (xs : List A) (x : A) → NumberedFrom number n xs
      → slice_get xs k ≡ Some x → number x ≡ n + k
  numbered-at n k [] x h e = cc
  numbered-at n zero (y ∷ ys) x h e =
      let same : y ≡ x = cc in let own : number y ≡ number x = ap number same in let here = h.0 in omega arith
  numbered-at n (suc k) (y ∷ ys) x h e = let rest = numbered-at (suc n) k ys x h.1 e in omega arith

  pub numbered-found : (n k : ℕ) (xs : List A) (x : A) → NumberedFrom number n xs
      → slice_get xs k ≡ Some x → find (λ y. number y == number x) xs ≡ Some x
  numbered-found n k [] x h e = cc
  numbered-found n zero (y ∷ ys) x h e =
      let same : y ≡ x = cc in
      let own : number y ≡ number x = ap number same in
      rw (eq-eqb (number y) (number x) own) e
  numbered-found n (suc k) (y ∷ ys) x h e =
      let own = numbered-at (suc n) k ys x h.1 e in
      let here = h.0 in
      let other : eqb (number y) (number x) ≡ false = ne_eqb (number y) (number x) (λ s. omega arith) in
      rw other (numbered-found (suc n) k ys x h.1 e)

  -- the session of a number stands at it
  pub numbered-get : (n k m : ℕ) (xs : List A) → NumberedFrom number n xs → m ≡ n + k
      → slice_get xs k ≡ find (λ y. number y == m) xs
  numbered-get n k m [] h e = refl
  numbered-get n zero m (y ∷ ys) h e =
      let here = h.0 in
      let own : eqb (number y) m ≡ true = eq-eqb (number y) m (omega arith) in
      rw own refl
  numbered-get n (suc k) m (y ∷ ys) h e =
      let here = h.0 in
      let other : eqb (number y) m ≡ false = ne_eqb (number y) m (λ s. omega arith) in
      rw other (numbered-get (suc n) k m ys h.1 (omega arith))

-- calls
has-le : (number : ℕ) (x : Client) → cond (has_call number x) 1 0 ≤ count_by (is_call number) x.calls
has-le number x = any-counted (is_call number) x.calls

pub one-holder : (number : ℕ) (xs : List Client) → count_by (has_call number) xs ≤ holders number xs
one-holder number xs =
    sum_by-le-sum_by (λ x. cond (has_call number x) 1 0)
    (λ x. count_by (is_call number) x.calls) xs (has-le number)

-- a call of a session is found by its number
pub record Numbered (clients : List Client) (x : Client) (c : Call) : Type 0 where
  pub client : find (has_call c.what.number) clients ≡ Some x
  pub call : find (is_call c.what.number) x.calls ≡ Some c

pub by_number : (s : Lists) (session : ℕ) (x : Client) (c : Call) → Valid s
    → Place s.clients session x c → Numbered s.clients x c
by_number s session x c h p =
    let n = c.what.number in
    let once = h.once n in
    let few = one-holder n s.clients in
    let part = found-le (is_client session) (λ y. count_by (is_call n) y.calls) s.clients x p.client in
    let own = eq-eqb n n refl in
    let call : find (is_call n) x.calls ≡ Some c = found-own p.test (is_call n) x.calls c (omega arith) p.call own in
    record {
      client = found-own (is_client session) (has_call n) s.clients x (omega arith) p.client
          (found-any (is_call n) x.calls c call);
      call = call;
    }

-- and its number was given out
pub given-out : (s : Lists) (session : ℕ) (x : Client) (c : Call) → Valid s
    → Place s.clients session x c → c.what.number < s.asked
given-out s session x c h p =
    let n = c.what.number in
    let once = h.once n in
    let part = found-le (is_client session) (λ y. count_by (is_call n) y.calls) s.clients x p.client in
    let own = some-counted p.test (is_call n) x.calls c p.call (eq-eqb n n refl) in
    below (leb s.asked n) refl (omega arith)
  where
    below : (b : Bool) → leb s.asked c.what.number ≡ b → cond b 1 0 ≤ 0 → c.what.number < s.asked
    below true t e = absurd (omega arith)
    below false t e = grind (arith, nat_tests)

-- What the accounts of the facts and the tables have in common, and where a call stands in both.
use Rattle.std.proofs.Common.{◌≡◌, ℕ, ◌+◌, ◌≤◌, Bool, true, false, Option, Some, None, List, []}
use Rattle.std.proofs.Common.{refl, sym, ap, ◌∙◌, inl, inr, arith}
use Rattle.std.specs.Prelude.{◌==◌, ◌⊎◌, count_by, map, option_map}
use Rattle.std.specs.List.{filter, find}
use Rattle.std.proofs.lemmas.Bool.{eq-eqb, ne_eqb, eqb-true, and_parts, cases_eq}
use Rattle.rpc_base.specs.Tables.{at_first, without_first}
use Rattle.rpc_base.specs.declared.state.SessionState.{SessionState}
use Rattle.rpc_base.specs.declared.state.SessionState.TheVariants.{Connected, Spent, Closing}
use Rattle.rpc_laws.specs.declared.tables.Call.{Call}
use Rattle.rpc_laws.specs.declared.tables.Client.{Client}
use Rattle.rpc_laws.specs.declared.tables.Lists.{Lists}
use Rattle.rpc_laws.specs.declared.tables.Progress.{Progress}
use Rattle.rpc_laws.specs.Calls.{is_call, has_request, is_active}
use Rattle.rpc_laws.specs.Sessions.{is_client}
use Rattle.node_laws.specs.CreditBalance.{CallAccount, SessionAccount, Accounts, is_numbered, is_this, began_as}
use Rattle.node_laws.proofs.FilterLemmas.{found-whole, find-filter, filter-own, filter-other}
use Rattle.node_laws.proofs.FilterLemmas.{filter-out, filter-stay, image-found}
use Rattle.rpc_base.proofs.FindLemmas.{this-changed}
use Rattle.node_laws.proofs.SpanLemmas.{packets_of}
use Rattle.node_laws.proofs.ImageLemmas.{map-changed, map-left}
use Rattle.rpc_base.proofs.FirstLemmas.{found-changed}
use Rattle.node_laws.specs.Valid.{to_come}
use Rattle.rpc_base.proofs.TakingLemmas.{find-passes}

-- the account of a call of session n by its table, and of a session
abbrev pub request_of : Option Progress → Option ℕ
request_of o = option_map (λ p. p.request) o

-- a call
abbrev pub account_of : ℕ → Call → CallAccount
account_of n c = record {
  number = c.what.number;
  session = n;
  request = request_of c.progress;
  packets = packets_of c.progress;
}

-- whether a session's packets and credits are in balance: it is connected, also where it is spent, or closing
abbrev pub has_credits : SessionState → Bool
has_credits Connected = true
has_credits Spent = true
has_credits Closing = true
has_credits _ = false

-- a session
abbrev pub session_account : Client → SessionAccount
session_account x = record { number = x.way.number; limit = x.limit; free = x.free; live = has_credits x.state }

-- a call of session n
abbrev pub of_session : ℕ → CallAccount → Bool
of_session n b = b.session == n

-- the accounts of the calls of a session
abbrev pub accounts_of : ℕ → Option Client → List CallAccount
accounts_of n None = []
accounts_of n (Some x) = map (account_of n) x.calls

-- the accounts of the facts are those of the tables: of each session, and of its calls in their order
pub record Agrees (a : Accounts) (s : Lists) : Type 0 where
  pub sessions : a.sessions ≡ map session_account s.clients
  pub calls : (n : ℕ) → filter (of_session n) a.calls ≡ accounts_of n (find (is_client n) s.clients)
  pub once : (number : ℕ) → count_by (is_numbered number) a.calls + to_come s.asked number ≤ 1

same-this : (r : ℕ) (o : Option Progress) → is_this r (request_of o) ≡ has_request r o
same-this r None = refl
same-this r (Some p) = refl

pub same-began : (n r : ℕ) (c : Call) → began_as n r (account_of n c) ≡ is_active r c
same-began n r c = rw (eq-eqb n n refl) (same-this r c.progress)

-- a call of a session, in both
module _ (a : Accounts) (s : Lists) (k : Agrees a s) (m : ℕ) (y : Client)
    (old : find (is_client m) s.clients ≡ Some y) where
  pub list-is : filter (of_session m) a.calls ≡ map (account_of m) y.calls
  list-is = k.calls m ∙ ap (λ o. accounts_of m o) old

  pub by-number : (c : ℕ) (d : Call) → find (is_call c) y.calls ≡ Some d
      → find (is_numbered c) a.calls ≡ Some (account_of m d)
  by-number c d e =
      let here = image-found (account_of m) (is_call c) (is_numbered c) (λ f. refl) y.calls d e in
      let once = k.once c in
      found-whole (of_session m) (is_numbered c) a.calls (account_of m d) (omega arith)
      (ap (λ bs. find (is_numbered c) bs) list-is ∙ here)

  pub by-request : (r : ℕ) (d : Call) → find (is_active r) y.calls ≡ Some d
      → find (began_as m r) a.calls ≡ Some (account_of m d)
  by-request r d e =
      let here = image-found (account_of m) (is_active r) (began_as m r) (same-began m r) y.calls d e in
      let whole = find-filter (of_session m) (began_as m r) a.calls
      (λ b t. (and_parts (b.session == m) (is_this r b.request) t).0) in
      sym whole ∙ (ap (λ bs. find (began_as m r) bs) list-is ∙ here)

-- a session that changes, and the others, which don't
pub record Near (xs ys : List Client) (m : ℕ) (z : Client) : Type 0 where
  pub new : find (is_client m) ys ≡ Some z
  pub far : (n : ℕ) → (n ≡ m → ⊥) → find (is_client n) ys ≡ find (is_client n) xs

pub near-of : (xs : List Client) (p : Client → Bool) (f : Client → Client) (m : ℕ) (y : Client)
    → find p xs ≡ Some y → find (is_client m) xs ≡ Some y → (f y).way ≡ y.way
    → Near xs (at_first p f xs) m (f y)
near-of xs p f m y found old same =
    let number : y.way.number ≡ m = eqb-true y.way.number m (find-passes (is_client m) xs y old) in
    let way : (f y).way.number ≡ y.way.number = ap (λ w. w.number) same in
    record {
      new = found-changed p f (is_client m) y xs (eq-eqb (f y).way.number m (way ∙ number)) found old;
      far = λ n other.
          let no_old : is_client n y ≡ false = ne_eqb y.way.number n (λ e. other (sym (sym number ∙ e))) in
          let no_new : is_client n (f y) ≡ false =
          ne_eqb (f y).way.number n (λ e. other (sym (sym number ∙ (sym way ∙ e)))) in
          this-changed p (is_client n) y f xs no_old no_new found;
    }

module _ (a : Accounts) (s : Lists) (k : Agrees a s) (m : ℕ) (y z : Client) (d : Call)
    (ys : List Client) (old : find (is_client m) s.clients ≡ Some y)
    (near : Near s.clients ys m z) where
  same-session : (m == m) ≡ true
  same-session = eq-eqb m m refl

  other-session : (n : ℕ) → (n ≡ m → ⊥) → (m == n) ≡ false
  other-session n other = ne_eqb m n (λ e. other (sym e))

  -- a call of it changes
  moved-by : (test : Call → Bool) (f : Call → Call) (q : CallAccount → Bool)
      (g : CallAccount → CallAccount) → ((c : Call) → q (account_of m c) ≡ test c)
      → ((b : CallAccount) → (g b).session ≡ b.session) → find test y.calls ≡ Some d
      → find q a.calls ≡ Some (account_of m d) → account_of m (f d) ≡ g (account_of m d)
      → z.calls ≡ at_first test f y.calls → (n : ℕ) → (n ≡ m) ⊎ (n ≡ m → ⊥)
      → filter (of_session n) (at_first q g a.calls) ≡ accounts_of n (find (is_client n) ys)
  moved-by test f q g same keeps found whole step calls n (inl own) =
      let after : (g (account_of m d)).session == m ≡ true = rw (keeps (account_of m d)) same-session in
      let inside = filter-own (of_session m) q g (account_of m d) a.calls same-session after whole in
      let image = map-changed (account_of m) test q same f g y.calls d found step in
      let list = list-is a s k m y old in
      let here : filter (of_session m) (at_first q g a.calls)
      ≡ accounts_of m (find (is_client m) ys) =
      rw near.new (inside ∙ (ap (λ bs. at_first q g bs) list
      ∙ (image ∙ ap (λ cs. map (account_of m) cs) (sym calls)))) in
      rw own here
  moved-by test f q g same keeps found whole step calls n (inr other) =
      let after : (g (account_of m d)).session == n ≡ false = rw (keeps (account_of m d)) (other-session n other) in
      let outside = filter-other (of_session n) q g (account_of m d) a.calls (other-session n other) after whole in
      rw (near.far n other) (outside ∙ k.calls n)

  pub calls-moved : (test : Call → Bool) (f : Call → Call) (q : CallAccount → Bool)
      (g : CallAccount → CallAccount) → ((c : Call) → q (account_of m c) ≡ test c)
      → ((b : CallAccount) → (g b).session ≡ b.session) → find test y.calls ≡ Some d
      → find q a.calls ≡ Some (account_of m d) → account_of m (f d) ≡ g (account_of m d)
      → z.calls ≡ at_first test f y.calls → (n : ℕ)
      → filter (of_session n) (at_first q g a.calls) ≡ accounts_of n (find (is_client n) ys)
  calls-moved test f q g same keeps found whole step calls n =
      moved-by test f q g same keeps found whole step calls n (cases_eq n m)

  -- a call of it leaves
  left-by : (c : ℕ) → find (is_numbered c) a.calls ≡ Some (account_of m d)
      → z.calls ≡ without_first (is_call c) y.calls → (n : ℕ) → (n ≡ m) ⊎ (n ≡ m → ⊥)
      → filter (of_session n) (without_first (is_numbered c) a.calls)
      ≡ accounts_of n (find (is_client n) ys)
  left-by c whole calls n (inl own) =
      let inside = filter-out (of_session m) (is_numbered c) (account_of m d) a.calls same-session whole in
      let image = map-left (account_of m) (is_call c) (is_numbered c) (λ e. refl) y.calls in
      let list = list-is a s k m y old in
      let here : filter (of_session m) (without_first (is_numbered c) a.calls)
      ≡ accounts_of m (find (is_client m) ys) =
      rw near.new (inside ∙ (ap (λ bs. without_first (is_numbered c) bs) list
      ∙ (image ∙ ap (λ cs. map (account_of m) cs) (sym calls)))) in
      rw own here
  left-by c whole calls n (inr other) =
      let outside = filter-stay (of_session n) (is_numbered c)
      (account_of m d) a.calls (other-session n other) whole in
      rw (near.far n other) (outside ∙ k.calls n)

  pub calls-left : (c : ℕ) → find (is_numbered c) a.calls ≡ Some (account_of m d)
      → z.calls ≡ without_first (is_call c) y.calls → (n : ℕ)
      → filter (of_session n) (without_first (is_numbered c) a.calls)
      ≡ accounts_of n (find (is_client n) ys)
  calls-left c whole calls n = left-by c whole calls n (cases_eq n m)

-- What may still happen of a call and of a request, and that each such event takes one of it.
use Rattle.std.proofs.Common.{◌≡◌, ℕ, ◌+◌, ◌≤◌, Bool, true, false, ◌&&◌, cond, leb, Option, Some}
use Rattle.std.proofs.Common.{None, List, [], ◌∷◌, ◌++◌, refl, arith}
use Rattle.std.specs.Prelude.{◌==◌, sum_by, is_none, option_map}
use Rattle.std.specs.List.{find}
use Rattle.std.proofs.lemmas.Bool.Decides.{nat_tests}
use Rattle.std.proofs.lemmas.List.Sums.{sum_by_push}
use Rattle.rpc_base.specs.Tables.{at_first, without_first}
use Rattle.rpc_laws.specs.declared.tables.Call.{Call}
use Rattle.rpc_laws.specs.declared.tables.Client.{Client}
use Rattle.rpc_laws.specs.declared.tables.Lists.{Lists}
use Rattle.rpc_laws.specs.declared.tables.Progress.{Progress}
use Rattle.rpc_laws.specs.Calls.{is_call, moved, begun}
use Rattle.rpc_laws.specs.Sessions.{is_client, client_end, opened_end, clients_told, requests, asks, ends}
use Rattle.packet_header.specs.declared.packet.ControlHeader.{ControlHeader}
use Rattle.node_laws.proofs.ToldSame.{told-same}
use Rattle.rpc_base.proofs.FirstLemmas.{sum-changed, sum-grown, sum-left, sum-fewer}
use Rattle.node_laws.specs.Valid.{to_come}

-- an event that takes nothing
pub none-spent : (n : ℕ) → 0 + n ≤ n
none-spent n = omega arith

-- calls with a number that pass a test: those that may still begin, or those that may still end
module _ (number : ℕ) (test : Option Progress → Bool) where
  -- a call
  abbrev one : Call → ℕ
  one c = cond (is_call number c && test c.progress) 1 0

  -- those of a session
  abbrev those : Client → ℕ
  those x = sum_by one x.calls

  -- those of all sessions
  abbrev pub remaining : List Client → ℕ
  remaining xs = sum_by those xs

  pub remaining-kept : (p : Client → Bool) (f : Client → Client) (xs : List Client) (k : ℕ)
      → ((x : Client) → those (f x) ≤ those x + 0)
      → 0 + (remaining (at_first p f xs) + k) ≤ remaining xs + k
  remaining-kept p f xs k h = let grown = sum-grown p f those 0 xs h in omega arith

  moved-one : (b : Bool) (o r : Option Progress) → test o ≡ test r
      → cond (b && test o) 1 0 ≤ cond (b && test r) 1 0 + 0
  moved-one b o r e = rw e (omega arith)

  -- a change of a call that the test doesn't see
  pub calls-kept : (p : Call → Bool) (f : Progress → Progress) (calls : List Call)
      → ((o : Option Progress) → test (option_map f o) ≡ test o)
      → sum_by one (at_first p (moved f) calls) ≤ sum_by one calls + 0
  calls-kept p f calls same =
      sum-grown p (moved f) one 0 calls (λ c. moved-one (is_call number c)
      (option_map f c.progress) c.progress (same c.progress))

  asked-one : (c n : ℕ) (b : Bool) → cond ((c == n) && b) 1 0 ≤ cond (c == n) 1 0
  asked-one c n true = let same : ((c == n) && true) ≡ (c == n) = and-same (c == n) in rw same (omega arith)
    where
      and-same : (b : Bool) → (b && true) ≡ b
      and-same true = refl
      and-same false = refl
  asked-one c n false = let none : ((c == n) && false) ≡ false = and-none (c == n) in rw none (least (c == n))
    where
      and-none : (b : Bool) → (b && false) ≡ false
      and-none true = refl
      and-none false = refl

      least : (b : Bool) → ◌≤◌ 0 (cond b 1 0)
      least b = omega arith

  given : (asked c n m : ℕ) → c ≡ asked → n + cond (leb asked number) 1 0 ≤ 1
      → m ≤ n + cond (c == number) 1 0
      → 0 + (m + cond (leb (asked + 1) number) 1 0) ≤ n + cond (leb asked number) 1 0
  given asked c n m e once h = grind (arith, nat_tests)

  pub remaining-asked : (asked c n y room : ℕ) (bytes : List ℕ) (xs : List Client) → c ≡ asked
      → remaining xs + to_come asked number ≤ 1
      → 0 + (remaining (at_first (is_client n)
      (asks (record { number = c; req_type = y; room = room; ask = bytes })) xs)
      + to_come (asked + 1) number) ≤ remaining xs + to_come asked number
  remaining-asked asked c n y room bytes xs e once =
      given asked c (remaining xs) _ e once (sum-grown (is_client n)
      (asks (record { number = c; req_type = y; room = room; ask = bytes })) those
      (cond (c == number) 1 0) xs (λ x.
      let push = sum_by_push one x.calls (record {
        what = record { number = c; req_type = y; room = room; ask = bytes };
        progress = None;
      }) in
      let own = asked-one c number (test None) in
      omega arith))

  pub remaining-made : (s peer t credits life k : ℕ) (xs : List Client)
      → 0 + (remaining (xs ++ client_end s peer t credits life ∷ []) + k) ≤ remaining xs + k
  remaining-made s peer t credits life k xs =
      let push = sum_by_push those xs (client_end s peer t credits life) in omega arith

  pub remaining-opened : (s peer credits k : ℕ) (xs : List Client)
      → 0 + (remaining (xs ++ opened_end s peer credits ∷ []) + k) ≤ remaining xs + k
  remaining-opened s peer credits k xs =
      let push = sum_by_push those xs (opened_end s peer credits) in omega arith

  pub remaining-told : (clock k : ℕ) (o : Option ControlHeader) (xs : List Client)
      → 0 + (remaining (clients_told clock o xs) + k) ≤ remaining xs + k
  remaining-told clock k None xs = omega arith
  remaining-told clock k (Some c) xs =
      remaining-kept (is_client c.client) (requests clock c) xs k (λ x. let same = told-same those clock c x refl in omega arith)

  -- a call of that number that no longer passes
  pub remaining-spent : (d k : ℕ) (p : Client → Bool) (f : Client → Client) (xs : List Client)
      (x : Client) → find p xs ≡ Some x → d + those (f x) ≤ those x
      → d + (remaining (at_first p f xs) + k) ≤ remaining xs + k
  remaining-spent d k p f xs x e h = let sums = sum-changed p f those xs x e in omega arith

  pub ends-fewer : (c : ℕ) (x : Client) → those (ends c x) ≤ those x + 0
  ends-fewer c x = let fewer = sum-fewer (is_call c) one x.calls in omega arith

-- beginning
no-test : (b : Bool) → ◌≡◌ {A = ℕ} (cond (b && false) 1 0) 0
no-test true = refl
no-test false = refl

pub begins-less : (number c r : ℕ) (x : Client) (d : Call) → find (is_call c) x.calls ≡ Some d
    → d.what.number ≡ c → d.progress ≡ None
    → cond (c == number) 1 0 + sum_by (λ e. cond (is_call number e && is_none e.progress) 1 0)
    (at_first (is_call c) (begun r) x.calls) ≤ sum_by
    (λ e. cond (is_call number e && is_none e.progress) 1 0) x.calls
begins-less number c r x d e same waits =
    let sums = sum-changed (is_call c) (begun r)
    (λ f. cond (is_call number f && is_none f.progress) 1 0) x.calls d e in
    let zero = no-test (is_call number d) in
    let here : ◌≡◌ {A = ℕ} (cond (is_call number d && is_none d.progress) 1 0)
    (cond (c == number) 1 0) = rw (same, waits) (both (c == number)) in
    omega arith
  where
    both : (b : Bool) → ◌≡◌ {A = ℕ} (cond (b && true) 1 0) (cond b 1 0)
    both true = refl
    both false = refl

pub same-waiting : (f : Progress → Progress) (o : Option Progress) → is_none (option_map f o) ≡ is_none o
same-waiting f None = refl
same-waiting f (Some p) = refl

-- a beginning leaves as many that may end
abbrev pub always : Option Progress → Bool
always o = true

pub begins-same : (number c r : ℕ) (x : Client)
    → sum_by (λ e. cond (is_call number e && always e.progress) 1 0)
    (at_first (is_call c) (begun r) x.calls) ≤ sum_by
    (λ e. cond (is_call number e && always e.progress) 1 0) x.calls + 0
begins-same number c r x =
    sum-grown (is_call c) (begun r) (λ e. cond (is_call number e && always e.progress) 1 0) 0
    x.calls (λ d. omega arith)

-- ending
pub ends-less : (number c : ℕ) (x : Client) (d : Call) → find (is_call c) x.calls ≡ Some d
    → d.what.number ≡ c → cond (c == number) 1 0
    + sum_by (λ e. cond (is_call number e && true) 1 0)
    (without_first (is_call c) x.calls) ≤ sum_by (λ e. cond (is_call number e && true) 1 0) x.calls
ends-less number c x d e same =
    let sums = sum-left (is_call c) (λ f. cond (is_call number f && true) 1 0) x.calls d e in
    let here : ◌≡◌ {A = ℕ} (cond (is_call number d && true) 1 0) (cond (c == number) 1 0) =
    rw same (both (c == number)) in
    omega arith
  where
    both : (b : Bool) → ◌≡◌ {A = ℕ} (cond (b && true) 1 0) (cond b 1 0)
    both true = refl
    both false = refl

-- what may still begin: calls that wait, and numbers that weren't given out
abbrev pub to_begin : ℕ → Lists → ℕ
to_begin number s = remaining number (λ o. is_none o) s.clients + to_come s.asked number

-- what may still end: calls in the table, and numbers that weren't given out
abbrev pub to_end : ℕ → Lists → ℕ
to_end number s = remaining number always s.clients + to_come s.asked number

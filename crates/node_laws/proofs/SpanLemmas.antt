-- The numbers of the unanswered packets of a call, one after another.
use Rattle.std.proofs.Common.{◌≡◌, ℕ, zero, suc, ◌+◌, ◌-◌, ◌≤◌, ◌<◌, false, eqb, Option, Some, None}
use Rattle.std.proofs.Common.{List, [], ◌∷◌, ◌++◌, length, refl, sym, ap, ◌∙◌, arith}
use Rattle.std.specs.Prelude.{◌==◌}
use Rattle.std.specs.List.{list_any}
use Rattle.std.proofs.Math.Numerals.{add-one}
use Rattle.std.proofs.lemmas.Bool.{eq-eqb, ne_eqb}
use Rattle.packet_header.specs.declared.packet.MessageHeader.{MessageHeader}
use Rattle.rpc_laws.specs.declared.tables.Progress.{Progress}
use Rattle.rpc_laws.specs.Calls.{posted_up_to, rolled_back, sent_packet, took_reply}
use Rattle.node_laws.specs.CreditBalance.{with_number, without_number}
use Rattle.node_laws.proofs.SoundLemmas.{sent-got, sent-posted, reply-got, reply-posted}
use Rattle.node_laws.specs.Valid.{unanswered_of}

-- so many numbers from n on
abbrev pub span : ℕ → ℕ → List ℕ
span n zero = []
span n (suc m) = n ∷ span (suc n) m

pub span-length : (n m : ℕ) → length (span n m) ≡ m
span-length n zero = refl
span-length n (suc m) = ap suc (span-length (suc n) m)

span-more : (n m k : ℕ) → k ≡ n + m → span n m ++ k ∷ [] ≡ span n (suc m)
span-more n zero k e = let same : k ≡ n = omega arith in ap (λ (i : ℕ). i ∷ []) same
span-more n (suc m) k e = ap (λ (ks : List ℕ). n ∷ ks) (span-more (suc n) m k (omega arith))

span-new : (n m k : ℕ) → n + m ≤ k → list_any (λ i. i == k) (span n m) ≡ false
span-new n zero k h = refl
span-new n (suc m) k h =
    let other : eqb n k ≡ false = ne_eqb n k (λ e. omega arith) in
    rw other (span-new (suc n) m k (omega arith))

-- the unanswered packets of a call, by its table
abbrev pub packets_of : Option Progress → List ℕ
packets_of None = []
packets_of (Some p) = span p.got (p.posted - p.got)

pub packets-length : (o : Option Progress) → length (packets_of o) ≡ unanswered_of o
packets-length None = refl
packets-length (Some p) = span-length p.got (p.posted - p.got)

put-last : (k : ℕ) (ks : List ℕ) → list_any (λ i. i == k) ks ≡ false → with_number k ks ≡ ks ++ k ∷ []
put-last k ks h = rw h refl

pub packets-posted : (k : ℕ) (p : Progress) → k ≡ p.posted → p.got ≤ p.posted
    → packets_of (Some (posted_up_to k p)) ≡ with_number k (packets_of (Some p))
packets-posted k p e h =
    let one : k + 1 - p.got ≡ suc (p.posted - p.got) = omega arith in
    rw one (sym (put-last k (span p.got (p.posted - p.got))
    (span-new p.got (p.posted - p.got) k (omega arith))
    ∙ span-more p.got (p.posted - p.got) k (omega arith)))

first-out : (n m k : ℕ) → k ≡ n → without_number k (span n (suc m)) ≡ span (suc n) m
first-out n m k e = rw (eq-eqb n k (sym e)) refl

pub packets-took : (clock k : ℕ) (h : MessageHeader) (body : List ℕ) (p : Progress) → k ≡ p.got
    → p.got < p.posted → packets_of (Some (took_reply clock (Some h) body p))
    ≡ without_number k (packets_of (Some p))
packets-took clock k h body p e more =
    let one : p.posted - p.got ≡ suc (p.posted - (p.got + 1)) = omega arith in
    rw (reply-got h body p, reply-posted h body p, one, first-out p.got (p.posted - (p.got + 1)) k e, add-one) refl

pub packets-rolled : (got : ℕ) (p : Progress) → got ≡ p.got → packets_of (Some (rolled_back got p)) ≡ []
packets-rolled got p e = let none : got - p.got ≡ 0 = omega arith in ap (λ m. span p.got m) none

pub packets-sent : (clock k : ℕ) (p : Progress) → packets_of (Some (sent_packet clock k p)) ≡ packets_of (Some p)
packets-sent clock k p = rw (sent-got clock k p, sent-posted clock k p) refl

-- Calls that go over from those that wait to those that began.
use Rattle.std.proofs.Common.{◌≡◌, ◌+◌, ℕ, List, [], ◌∷◌, ◌++◌, length, sym, ap, ◌∙◌, arith}
use Rattle.std.proofs.Common.{append_assoc, length-append}
use Rattle.std.specs.List.{AllByRecursion}
use Rattle.rpc_laws.specs.declared.tables.Call.{Call}
use Rattle.rpc_laws.specs.BegunPart.{IsWaiting}

-- n went over
pub record HaveGone (n : ℕ) (begun waiting old_begun old_waiting : List Call) : Type 0 where
  pub calls : begun ++ waiting ≡ old_begun ++ old_waiting
  pub count : length begun ≡ length old_begun + n
  pub left : length waiting + n ≡ length old_waiting
  pub waits : AllByRecursion IsWaiting old_waiting → AllByRecursion IsWaiting waiting

pub rest-waits : (c : Call) (old new : List Call) → old ≡ c ∷ new → AllByRecursion IsWaiting old
    → AllByRecursion IsWaiting new
rest-waits c old new e waits = let all = rw e at waits in all.1

pub one-more-gone : (n : ℕ) (c : Call) (begun waiting b w old_begun old_waiting : List Call)
    → HaveGone n begun waiting old_begun old_waiting → waiting ≡ c ∷ w → b ≡ begun ++ c ∷ []
    → HaveGone (n + 1) b w old_begun old_waiting
one-more-gone n c begun waiting b w old_begun old_waiting g e h = record {
  calls = rw h (append_assoc begun (c ∷ []) w ∙ (ap (λ ws. begun ++ ws) (sym e) ∙ g.calls));
  count =
      let more = ap length h in
      let was = g.count in
      omega (arith, length-append begun (c ∷ []), more, was);
  left = let less = ap length e in let was = g.left in omega (arith, less, was);
  waits = λ all. rest-waits c waiting w e (g.waits all);
}

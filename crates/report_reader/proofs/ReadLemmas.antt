-- What was read of a line, by what its words tell.
use Rattle.std.proofs.Common.{◌≡◌, ℕ, List, Some, None, subst}
use Rattle.rpc_base.specs.declared.fact.Fact.{Fact}
use Rattle.report_reader.specs.Lines.{bare_line}
use Rattle.report_reader.specs.Facts.{fact_in, Reads}
use Rattle.report_reader.specs.Words.{words_of}
use Rattle.report_reader.proofs.FactLemmas.{fact-told, line-back}

-- they tell no fact
pub reads-none : (line : List ℕ) → fact_in (words_of line) ≡ None → Reads line None
reads-none line none = record {
  spelled = tt;
  unspelled = λ f r t e. let told = line-back f line r t e in cc;
}

same-fact : (line : List ℕ) (g f : Fact) → fact_in (words_of line) ≡ Some g
    → fact_in (words_of line) ≡ Some f → f ≡ g
same-fact line g f e k = cc

-- they tell a fact that has another line
pub reads-other : (line : List ℕ) (g : Fact) → fact_in (words_of line) ≡ Some g
    → (bare_line g ≡ line → ⊥) → Reads line None
reads-other line g told other = record {
  spelled = tt;
  unspelled = λ f r t e.
      other (subst (λ (z : Fact). bare_line z ≡ line) (same-fact line g f told (line-back f line r t e)) e);
}

-- they tell a fact, and it is that fact's line
pub reads-some : (line : List ℕ) (g : Fact) → fact_in (words_of line) ≡ Some g → bare_line g ≡ line
    → Reads line (Some g)
reads-some line g told is =
    record { spelled = (is, fact-told (words_of line) g told); unspelled = tt }

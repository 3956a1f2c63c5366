-- What a session does about its own request, by the facts that follow.
use Rattle.std.proofs.Common.{◌≡◌, ◌≤◌, ℕ, Option, Some, None, List, [], ◌++◌, length, take, refl}
use Rattle.std.proofs.Common.{ap, ◌∙◌, arith}
use Rattle.std.specs.Prelude.{IfSome, IsNone}
use Rattle.packet_header.specs.declared.packet.ControlHeader.{ControlHeader}
use Rattle.rpc_base.specs.declared.fact.Fact.{Fact}
use Rattle.rpc_laws.specs.ControlSteps.{Speaks}
use Rattle.rule_facts.specs.Fronts.{Fronts}
use Rattle.rule_facts.specs.Retrying.{IsFront}
use Rattle.rule_facts.specs.Speaking.{SpeakNone}
use Rattle.rule_facts.proofs.FrontLemmas.{front-taken, fronts-within}

-- nothing is noted
pub none-front : (facts : List Fact) → IsFront (λ x. x ≡ []) facts (Some 0)
none-front facts = record { some = (omega arith, refl); only = λ no. cc }

-- these facts are
pub noted-front : (y facts : List Fact) (o : Option ℕ) → Fronts y facts o
    → IsFront (λ x. x ≡ y) facts o
noted-front y facts (Some n) h = record {
  some = (fronts-within y facts n h, front-taken y facts n h);
  only = λ no. cc;
}
noted-front y facts None h = record {
  some = tt;
  only = λ no x begins e.
      h.only no (record {
        rest = begins.rest;
        parted = begins.parted ∙ ap (λ (z : List Fact). z ++ begins.rest) e;
      });
}

-- a packet is handed to the link
pub spoken-front : (me peer : ℕ) (h : ControlHeader) (facts : List Fact) (o : Option ℕ)
    → IfSome o (λ n. Speaks me peer h (take n facts)) → (IsNone o → SpeakNone me peer h facts)
    → IfSome o (λ n. n ≤ length facts) → IsFront (Speaks me peer h) facts o
spoken-front me peer h facts (Some n) some only within =
    record { some = (within, some); only = λ no. cc }
spoken-front me peer h facts None some only within = record { some = tt; only = only }

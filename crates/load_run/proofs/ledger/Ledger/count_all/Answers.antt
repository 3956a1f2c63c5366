-- one more call is counted, until none is left
use Rattle.std.proofs.Common.{◌≡◌, ◌++◌, ◌∷◌, [], List, map, subst, sym, ap, ◌∙◌, refl}
use Rattle.std.proofs.Common.{append_assoc, arith}
use Rattle.std.proofs.lemmas.List.{map-append}
use Rattle.client_core.specs.declared.outcome.Done.{Done}
use Rattle.client_core.specs.Shown.{done_fact}
use Rattle.load_run.specs.Tallies.{Counts}
use Rattle.load_run.proofs.TallyLemmas.{counts-none, counts-then}
use Rattle.rpc_base.specs.declared.fact.Fact.{Fact}
use Rattle.load_run.proofs.ledger.Ledger.count_all.Goals as goal

pub calls-init : goal.calls-init
calls-init c = ([], refl, counts-none _, omega arith)

pub calls-preserved : goal.calls-preserved
calls-preserved c =
    let taken = c.calls.invariant.0 in
    let d = c.in-Some.done in
    let more : map (done_fact 0) (taken ++ d ∷ [])
    ≡ map (done_fact 0) taken ++ done_fact 0 d ∷ [] = map-append (done_fact 0) taken (d ∷ []) in (
      taken ++ d ∷ [],
      c.calls.invariant.1 ∙ ap (λ (x : List Done). taken ++ x) c.in-Some.ensures.items
          ∙ sym (append_assoc taken (d ∷ []) c.take.new.self.dones.items),
      subst (λ (x : List Fact). Counts x c.args.self.now c.count_one.new.self) (sym more)
          (counts-then (map (done_fact 0) taken) (done_fact 0 d ∷ []) c.args.self.now c.calls.self
          c.count_one.new.self c.calls.invariant.2 c.count_one.ensures),
      let before = c.calls.invariant.3 in let one = c.give_back.ensures in omega (arith, before, one),
    )

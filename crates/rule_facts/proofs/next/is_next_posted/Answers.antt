use Rattle.std.proofs.Common.{Option, false, subst}
use Rattle.std.specs.Prelude.{◌↔◌, IsTrue}
use Rattle.rpc_base.specs.declared.event.Event.{Event}
use Rattle.rule_facts.specs.NextFacts.{IsNext}
use Rattle.rule_facts.proofs.SaysLemmas.{says-posted}
use Rattle.rule_facts.proofs.next.is_next_posted.Goals as goal

pub returns-in_default : goal.returns-in_default
returns-in_default c =
    subst (λ (o : Option Event). IsTrue false ↔ IsNext o c.args.lists.now.me c.args.fact.now) c.in_default.ensures
    (λ h. cc, λ h. absurd h)

pub returns : goal.returns
returns c =
    subst (λ (o : Option Event). IsTrue c.says_posted.result ↔ IsNext o c.args.lists.now.me c.args.fact.now)
    c.in-Some.ensures
    (rw c.says_posted.ensures (says-posted c.args.lists.now.me c.in-Some.next.0 c.in-Some.next.1 c.args.fact.now))

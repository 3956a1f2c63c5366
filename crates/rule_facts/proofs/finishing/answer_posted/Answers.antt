use Rattle.std.proofs.Common.{◌<◌, ◌-◌, ◌∙◌, ℕ, Option, Some, ap, drop, length, rules, subst, sym, take}
use Rattle.rpc_base.specs.declared.event.Event.TheVariants.{Posted}
use Rattle.rpc_base.specs.declared.owner.Owner.{Owner}
use Rattle.rpc_base.specs.declared.owner.Owner.TheVariants.{Reply}
use Rattle.rpc_laws.specs.Facts.{plain}
use Rattle.rpc_laws.specs.PollOrder.{answer_posted}
use Rattle.rule_facts.specs.Fronts.{Fronts}
use Rattle.rule_facts.proofs.FrontLemmas.{fronts-nothing, fronts-one, parted-first}
use Rattle.rule_facts.proofs.SaysLemmas.{says-posted}
use Rattle.rule_facts.proofs.finishing.answer_posted.Goals as goal

pub returns-in_default-clause-fronts : goal.returns-in_default-clause-fronts
returns-in_default-clause-fronts c =
    subst (λ (o : Option ℕ). Fronts (answer_posted c.args.lists.now.me c.args.job.now o) c.args.facts.now (Some 0))
    c.in_default.ensures (fronts-nothing c.args.facts.now)

pub returns-then-says_posted-clause-fronts : goal.returns-then-says_posted-clause-fronts
returns-then-says_posted-clause-fronts c =
    let me : ℕ = c.args.lists.now.me in
    let owner : Owner = Reply c.args.job.now.session c.args.job.now.request in
    let f = c.index-facts-0.result in
    let some : 0 < length c.args.facts.now = search rules in
    let parted = parted-first c.args.facts.now f some c.index-facts-0.is in
    let same =
    (says-posted me owner c.from.result f).0 (sym c.says_posted.ensures ∙ c.if-says_posted.true)
    ∙ ap (λ (k : ℕ). plain me (Posted owner k)) c.from.ensures in
    subst (λ (o : Option ℕ). Fronts (answer_posted me c.args.job.now o) c.args.facts.now (Some 1)) c.in-Some.ensures
    (fronts-one (plain me (Posted owner c.in-Some.number)) f
    (take (length c.args.facts.now - 1) (drop 1 c.args.facts.now)) c.args.facts.now parted same)

use Rattle.std.proofs.Common.{◌≡◌, ◌<◌, ◌-◌, ◌∙◌, ℕ, List, true, ap, drop, length, rules, sym, take}
use Rattle.rpc_base.specs.declared.event.Event.TheVariants.{Ran}
use Rattle.rpc_laws.specs.Facts.{with_two}
use Rattle.rpc_laws.specs.PollOrder.{answer_posted, awaited}
use Rattle.rule_facts.specs.Fronts.{told_answer}
use Rattle.rule_facts.proofs.FinishLemmas.{says-ran}
use Rattle.rule_facts.proofs.FrontLemmas.{fronts-more, parted-first}
use Rattle.rule_facts.proofs.finishing.finished.Goals as goal

pub returns : goal.returns
returns c =
    let me : ℕ = c.args.lists.now.me in
    let job = c.args.job.now in
    let facts = c.args.facts.now in
    let f = c.index-facts-0.result in
    let some : 0 < length c.args.facts.now = search rules in
    let parted = parted-first facts f some c.index-facts-0.is in
    let ran : c.says_ran.result ≡ true = search rules in
    let is = says-ran me job f (sym c.says_ran.ensures ∙ ran) in
    let same =
    is ∙ ap (λ (a : List ℕ). with_two me (Ran job.session job.request job.req_type) job.ask a)
    (sym (ap told_answer parted)) in
    fronts-more (with_two me (Ran job.session job.request job.req_type) job.ask (told_answer facts)) f
    (answer_posted me job (awaited job c.args.lists.now.servers)) (take (length facts - 1) (drop 1 facts)) facts
    c.in-Some.count parted same c.in-Some.ensures.fronts

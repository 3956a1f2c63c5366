use Rattle.std.proofs.Common.{sym, ◌∙◌, append-nil, rules}
use Rattle.rpc_laws.specs.Requests.{is_request, is_server}
use Rattle.rpc_base.proofs.TablesLemmas.{find-found, find-missing}
use Rattle.node_tables.proofs.JobLemmas.{no-server, no-request, a-job}
use Rattle.node_tables.proofs.jobs.give.Goals as goal

pub returns-in_default-clause-out : goal.returns-in_default-clause-out
returns-in_default-clause-out c =
    rw (no-server c.args.session c.args.request c.args.servers.now
    (find-missing (is_server c.args.session) c.args.servers.now (sym c.in_default.ensures))) (sym (append-nil c.args.out.now))

pub returns-in_default-place_of_request-clause-out : goal.returns-in_default-place_of_request-clause-out
returns-in_default-place_of_request-clause-out c =
    rw (no-request c.args.session c.args.request c.args.servers.now c.at.result.now
    (find-found (is_server c.args.session) c.args.servers.now c.in-Some.i (sym c.in-Some.ensures) ∙ c.at.ensures)
    (find-missing (is_request c.args.request) c.at.result.now.slots (sym c.in_default-place_of_request.ensures))) (sym (append-nil c.args.out.now))

pub returns-clause-out : goal.returns-clause-out
returns-clause-out c =
    rw (
      a-job c.args.session c.args.request c.args.servers.now c.at.result.now c.at-2.result.now
          (find-found (is_server c.args.session) c.args.servers.now c.in-Some.i (sym c.in-Some.ensures) ∙ c.at.ensures)
          (find-found (is_request c.args.request) c.at.result.now.slots c.in-Some-place_of_request.k (sym c.in-Some-place_of_request.ensures) ∙ c.at-2.ensures),
      ← c.in_ok-job.ensures.job,
    ) (search rules)

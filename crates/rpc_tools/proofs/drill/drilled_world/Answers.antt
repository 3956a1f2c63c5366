use Rattle.std.proofs.Common.{List, refl, subst}
use Rattle.report_text.specs.Text.{text}
use Rattle.rpc_tools.specs.Drills.{IsReported}
use Rattle.script_grammar.specs.declared.line.Line.{Line}
use Rattle.rpc_tools.proofs.drill.drilled_world.Goals as goal

pub returns-clause-drilled : goal.returns-clause-drilled
returns-clause-drilled c =
    let r = c.in_ok-world.ensures in
    subst (λ (script : List Line). IsReported script c.in_ok-world.world) c.in_ok-script.ensures.script
    (record {
      report = text c.in_ok-world.world;
      reports = record {
        history = c.in_ok-world.world;
        follows = r.follows;
        one = r.one;
        lawful = r.lawful;
        stands_once = r.stands_once;
        no_stall = r.no_stall;
        requests = r.requests;
        wrote = record { bytes = refl; quiet = refl };
      };
      same = refl;
    })

use Rattle.std.proofs.Common.{Some, ap, sym, ◌∙◌}
use Rattle.std.proofs.lemmas.Option.{slice_get-get_or}
use Rattle.session_ends.proofs.server.end_at.Goals as goal

pub returns-clause-ends : goal.returns-clause-ends
returns-clause-ends c = record {
  server = c.remove-server.result;
  at = slice_get-get_or c.args.servers.now.items c.args.i c.remove-server.result c.requires.known
      ∙ ap Some (sym c.remove-server.ensures.value);
  ends = c.finish.ensures;
  changed = c.remove-server.ensures.items;
}

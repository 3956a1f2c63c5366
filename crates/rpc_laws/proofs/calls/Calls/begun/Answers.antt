use Rattle.std.proofs.Common.{sym, ap, ◌∙◌, ◌++◌}
use Rattle.rpc_laws.proofs.calls.Calls.begun.Goals as goal

pub returns : goal.returns
returns c = record {
  rest = c.self.inside.waiting.items;
  whole = sym c.self.view_is
      ∙ ap (λ xs. xs ++ c.self.inside.waiting.items) (sym c.as_slice.ensures.value);
  waits = c.self.invariant;
}

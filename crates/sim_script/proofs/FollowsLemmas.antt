-- A history that follows some lines, and one line more.
use Rattle.std.proofs.Common.{List, [], ◌∷◌, ◌++◌, refl, sym, subst, append_assoc, append-nil}
use Rattle.rpc_base.specs.declared.fact.Fact.{Fact}
use Rattle.network_model.specs.declared.stage.Stage.{Stage}
use Rattle.script_grammar.specs.declared.line.Line.{Line}
use Rattle.sim_script.specs.FollowsScript.{Does, FollowsFrom}

follows-one : (line : Line) (t u : Stage) (x : List Fact) → Does line.command t x u → FollowsFrom (line ∷ []) t x u
follows-one line t u x d =
    record { between = u; group = x; rest = []; joined = sym (append-nil x); does = d; follows = (refl, refl) }

pub follows-more : (lines : List Line) (line : Line) (s t u : Stage) (h x : List Fact)
    → FollowsFrom lines s h t → Does line.command t x u
    → FollowsFrom (lines ++ line ∷ []) s (h ++ x) u
follows-more [] line s t u h x f d =
    let P : Stage → Type 0 = λ v. Does line.command v x u in
    let start : Does line.command s x u = subst P f.1 d in
    rw f.0 (follows-one line s u x start)
follows-more (first ∷ lines) line s t u h x f d = record {
  between = f.between;
  group = f.group;
  rest = f.rest ++ x;
  joined = rw f.joined (append_assoc f.group f.rest x);
  does = f.does;
  follows = follows-more lines line f.between t u f.rest x f.follows d;
}

-- The end of each command of a script stands in each history that follows it.
use Rattle.std.proofs.Common.{◌≡◌, false, List, [], ◌∷◌, ◌++◌, refl, sym, ap, ◌∙◌, subst}
use Rattle.std.proofs.Common.{append_assoc}
use Rattle.std.specs.List.{list_any}
use Rattle.rpc_base.specs.declared.fact.Fact.{Fact}
use Rattle.network_model.specs.declared.stage.Stage.{Stage}
use Rattle.script_grammar.specs.declared.line.Line.{Line}
use Rattle.sim_script.specs.FollowsScript.{AnswersPlainly, Follows, FollowsFrom, empty_stage}
use Rattle.sim_script.specs.FollowsScript.{is_wanting}
use Rattle.one_history.proofs.Fine.{node-front, wants-front}

-- what follows two parts of a script has a part that follows the first
record Parts (done left : List Line) (s : Stage) (h : List Fact) : Type 0 where
  facts : List Fact
  later : List Fact
  middle : Stage
  parted : h ≡ facts ++ later
  first : FollowsFrom done s facts middle

parts : (done left : List Line) (s : Stage) (h : List Fact) (t : Stage) → FollowsFrom (done ++ left) s h t
    → Parts done left s h
parts [] left s h t f = record { facts = []; later = h; middle = s; parted = refl; first = (refl, refl) }
parts (line ∷ done) left s h t f =
    let p = parts done left f.between f.rest t f.follows in
    record {
      facts = f.group ++ p.facts;
      later = p.later;
      middle = p.middle;
      parted =
          f.joined ∙ ap (λ (x : List Fact). f.group ++ x) p.parted ∙ sym (append_assoc f.group p.facts p.later);
      first =
          record {
            between = f.between;
            group = f.group;
            rest = p.facts;
            joined = refl;
            does = f.does;
            follows = p.first;
          };
    }

-- the facts by the end of some commands, which follow them
pub record EndOf (done : List Line) (h : List Fact) : Type 0 where
  pub facts : List Fact
  pub later : List Fact
  pub parted : h ≡ facts ++ later
  pub follows : Follows done facts

pub end-of : (done left : List Line) (h : List Fact) → Follows (done ++ left) h → EndOf done h
end-of done left h f =
    let p = parts done left empty_stage h f.0 f.1.commands in
    let answers = subst AnswersPlainly p.parted f.1.answers in
    let whole = subst (λ (x : List Fact). list_any (λ f. is_wanting f.event) x ≡ false) p.parted f.1.whole in
    record {
      facts = p.facts;
      later = p.later;
      parted = p.parted;
      follows = (
        p.middle,
        record {
          commands = p.first;
          answers = λ n. node-front n [] p.facts p.later (answers n);
          whole = wants-front p.facts p.later whole;
        },
      );
    }

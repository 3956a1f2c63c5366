-- Facts that want nothing and that have the plain service's answers, in their parts.
use Rattle.std.proofs.Common.{◌≡◌, ℕ, Bool, false, List, [], ◌∷◌, ◌++◌, sym, ◌∙◌, subst}
use Rattle.std.proofs.lemmas.List.Elements.{filter-append}
use Rattle.std.proofs.lemmas.List.Folds.{list_any-append}
use Rattle.std.specs.List.{filter, list_any}
use Rattle.rpc_base.proofs.BasicLemmas.{or-false}
use Rattle.rpc_base.specs.declared.fact.Fact.{Fact}
use Rattle.rpc_laws.specs.AtMostOnce.{is_at}
use Rattle.rpc_laws.specs.Service.{Answers, Serving, plain_serving, served_after, served_after_all}
use Rattle.rpc_outside.specs.PlainAnswer.{plain_mode}
use Rattle.rpc_outside.specs.Served.{Served}
use Rattle.sim_script.specs.FollowsScript.{is_wanting}

-- the facts of node n
abbrev pub at_node : ℕ → List Fact → List Fact
at_node n x = filter (λ f. is_at n f.who) x

abbrev pub wants : List Fact → Bool
wants x = list_any (λ f. is_wanting f.event) x

-- what node n served once these facts happened
abbrev pub served_by : ℕ → Served → List Fact → Served
served_by n served x = served_after_all plain_mode served (at_node n x)

-- nothing is wanting, and node n answers plainly
pub record Fine (n : ℕ) (served : Served) (x : List Fact) : Type 0 where
  pub answers : Answers plain_serving served (at_node n x)
  pub whole : wants x ≡ false

answers-front : (v : Serving) (served : Served) (x y : List Fact) → Answers v served (x ++ y) → Answers v served x
answers-front v served [] y a = tt
answers-front v served (f ∷ x) y a = (a.0, answers-front v (served_after v.mode f.event f.first served) x y a.1)

answers-back : (v : Serving) (served : Served) (x y : List Fact) → Answers v served (x ++ y)
    → Answers v (served_after_all v.mode served x) y
answers-back v served [] y a = a
answers-back v served (f ∷ x) y a = answers-back v (served_after v.mode f.event f.first served) x y a.1

pub wants-front : (x y : List Fact) → wants (x ++ y) ≡ false → wants x ≡ false
wants-front x y e =
    (or-false (wants x) (wants y) (sym (list_any-append (λ (f : Fact). is_wanting f.event) x y) ∙ e)).0

pub wants-back : (x y : List Fact) → wants (x ++ y) ≡ false → wants y ≡ false
wants-back x y e =
    (or-false (wants x) (wants y) (sym (list_any-append (λ (f : Fact). is_wanting f.event) x y) ∙ e)).1

parted : (n : ℕ) (served : Served) (x y : List Fact)
    → Answers plain_serving served (at_node n (x ++ y))
    → Answers plain_serving served (at_node n x ++ at_node n y)
parted n served x y a =
    subst (λ (z : List Fact). Answers plain_serving served z) (filter-append (λ (f : Fact). is_at n f.who) x y) a

pub node-front : (n : ℕ) (served : Served) (x y : List Fact)
    → Answers plain_serving served (at_node n (x ++ y)) → Answers plain_serving served (at_node n x)
node-front n served x y a = answers-front plain_serving served (at_node n x) (at_node n y) (parted n served x y a)

pub node-back : (n : ℕ) (served : Served) (x y : List Fact)
    → Answers plain_serving served (at_node n (x ++ y))
    → Answers plain_serving (served_by n served x) (at_node n y)
node-back n served x y a = answers-back plain_serving served (at_node n x) (at_node n y) (parted n served x y a)

pub fine-front : (n : ℕ) (served : Served) (x y : List Fact) → Fine n served (x ++ y) → Fine n served x
fine-front n served x y f =
    record { answers = node-front n served x y f.answers; whole = wants-front x y f.whole }

pub fine-back : (n : ℕ) (served : Served) (x y : List Fact) → Fine n served (x ++ y) → Fine n (served_by n served x) y
fine-back n served x y f =
    record { answers = node-back n served x y f.answers; whole = wants-back x y f.whole }

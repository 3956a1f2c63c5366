-- What a node notes in a deed is its own, and it keeps its number.
use Rattle.std.proofs.Common.{◌≡◌, ◌≤◌, ℕ, List, [], ◌∷◌, ◌++◌, refl, sym, ap, ◌∙◌, subst}
use Rattle.std.proofs.Common.{append-nil, append_assoc, Bool, true, false, eqb}
use Rattle.std.proofs.lemmas.Bool.{eqb-true, eqb-false}
use Rattle.rpc_base.specs.declared.fact.Fact.{Fact}
use Rattle.rpc_outside.specs.declared.service.Mode.{Mode}
use Rattle.rpc_outside.specs.Linking.{Carried}
use Rattle.rpc_laws.specs.declared.tables.Timed.{Timed}
use Rattle.rpc_laws.specs.Endpoints.{begins_life}
use Rattle.rpc_laws.specs.Service.{Answers, Serving}
use Rattle.node_laws.specs.NodeRun.{delivers}
use Rattle.end_laws.proofs.ListLemmas.{all-append}
use Rattle.end_laws.specs.JointRun.{Party, at_node}
use Rattle.endpoint_loop.specs.Turns.{DeliversAll}
use Rattle.turn_laws.specs.Deeds.{Deed, Does, DoesAll, MayAct, acts, rests, noted_in}
use Rattle.world_laws.proofs.FactLemmas.{AllAt, facts-grow, facts-other, facts-stay}
use Rattle.world_laws.proofs.JointNodes.{Keeps, group-keeps}
use Rattle.world_laws.proofs.WorkLemmas.{times_worked}

at-append : (n : ℕ) (x y : List Fact) → AllAt n x → AllAt n y → AllAt n (x ++ y)
at-append n [] y a b = b
at-append n (f ∷ x) y a b = (a.0, at-append n x y a.1 b)

module _ (mode : ℕ → Mode) where
  keeps-then : (s : Timed) (x : List Fact) (t : Timed) (y : List Fact) (u : Timed)
      → Keeps s x t → Keeps t y u → Keeps s (x ++ y) u
  keeps-then s x t y u h k = record {
    at = at-append s.lists.me x y h.at (subst (λ (n : ℕ). AllAt n y) h.me k.at);
    begun = all-append (λ f. begins_life f.event ≡ false) x y h.begun k.begun;
    me = k.me ∙ h.me;
  }

  pub delivered-keeps : (came : List Carried) (s : Timed) (x : List Fact) (t : Timed)
      → DeliversAll came s x t → Keeps s x t
  delivered-keeps [] s x t h = rw (h.0, h.1) (record { at = tt; begun = tt; me = refl })
  delivered-keeps (c ∷ cs) s x t h = rw h.joined (keeps-then s h.front h.between h.back t
      (group-keeps mode s h.front h.between (delivers c.0 c.1 h.first))
      (delivered-keeps cs h.between h.back t h.second))

  pub acted-keeps : (s : Timed) (x : List Fact) (t : Timed) → MayAct mode s x t → Keeps s x t
  acted-keeps s x t (acts a) = group-keeps mode s x t a.group
  acted-keeps s x t (rests none same) = rw (none, same) (record { at = tt; begun = tt; me = refl })

  pub deed-keeps : (d : Deed) (s t : Timed) → Does mode d s t → Keeps s d.noted t
  deed-keeps d s t h = rw h.joined (keeps-then s h.front h.between h.back t
      (delivered-keeps d.came s h.front h.between h.first)
      (acted-keeps h.between h.back t h.second))

  -- one more deed
  pub does-more : (ds : List Deed) (d : Deed) (s t u : Timed) → DoesAll mode ds s t
      → Does mode d t u
      → DoesAll mode (ds ++ d ∷ []) s u
  does-more [] d s t u h k = (u, subst (λ (z : Timed). Does mode d z u) h k, refl)
  does-more (e ∷ ds) d s t u h k = (h.0, h.1, does-more ds d h.0 t u h.2 k)

pub noted-more : (ds : List Deed) (d : Deed) → noted_in (ds ++ d ∷ []) ≡ noted_in ds ++ d.noted
noted-more [] d = append-nil d.noted
noted-more (e ∷ ds) d =
    ap (λ (y : List Fact). e.noted ++ y) (noted-more ds d)
    ∙ sym (append_assoc e.noted (noted_in ds) d.noted)

-- what a run asks of the facts of a node, beside its groups
pub record OwnPart (v : Serving) (x : List Fact) : Type 0 where
  pub answers : Answers v [] x
  pub worked_once : (t r : ℕ) → times_worked t r x ≤ 1

-- node n's facts grow, and those of others stay
module _ (parties : ℕ → Party) (n : ℕ) (g x : List Fact) (own : AllAt n x)
    (here : OwnPart (parties n).serving (at_node n g ++ x))
    (others : (m : ℕ) → OwnPart (parties m).serving (at_node m g)) where
  part-by : (m : ℕ) (same : Bool) → eqb n m ≡ same → OwnPart (parties m).serving
      (at_node m (g ++ x))
  part-by m true e =
      subst (λ (i : ℕ). OwnPart (parties i).serving (at_node i (g ++ x))) (eqb-true n m e)
      (subst (OwnPart (parties n).serving) (sym (facts-grow n g x own)) here)
  part-by m false e =
      subst (OwnPart (parties m).serving)
      (sym (facts-stay m g x (facts-other n m x (eqb-false n m e) own))) (others m)

  pub parts-grow : (m : ℕ) → OwnPart (parties m).serving (at_node m (g ++ x))
  parts-grow m = part-by m (eqb n m) refl

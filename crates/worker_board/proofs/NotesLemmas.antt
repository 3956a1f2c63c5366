-- Notes that are added, and what they tell.
use Rattle.std.proofs.Common.{◌≡◌, ℕ, suc, List, [], ◌∷◌, ◌++◌, sym, refl, ap, ◌∙◌}
use Rattle.std.proofs.lemmas.List.{append_assoc}
use Rattle.std.specs.Prelude.{Option, Some, None, IfSome}
use mathlib.Core.Option.{some}
use lib.ListN.{get_elem?}
use Rattle.atomic_table.proofs.Lists.{at_longer}
use Rattle.worker_board.specs.declared.view.Note.{Note}
use Rattle.worker_board.specs.Moves.{Has, note}
use Rattle.worker_board.specs.Seats.{Grows, Saw}

-- what holds of no value holds of each
pub if_some : {A Q : Type 0} → (o : Option A) → Q → IfSome o (λ _. Q)
if_some None q = tt
if_some (Some x) q = q

pub note_at : (p q w : ℕ) (l : List Note) → p ≡ q → note p w ∷ l ≡ note q w ∷ l
note_at p q w l e = ap (λ (x : ℕ). note x w ∷ l) e

pub grows_one : (old new : List Note) (p w : ℕ) → new ≡ note p w ∷ old → Grows old new
grows_one old new p w e = (note p w ∷ [], e)

both_added : (a b c m n : List Note) → b ≡ m ++ a → c ≡ n ++ b → c ≡ n ++ m ++ a
both_added a b c m n e h = h ∙ ap (λ (l : List Note). n ++ l) e ∙ sym (append_assoc n m a)

pub saw_one : (p w : ℕ) (says : ℕ → Type 0) (old new : List Note) → new ≡ note p w ∷ old → says w → Saw p says old new
saw_one p w says old new e ok = (w, ok, (note p w ∷ [], (0, refl), e))

has_behind : (more l : List Note) (k : ℕ) (x : Note) → get_elem? l k ≡ some x → Has (more ++ l) x
has_behind [] l k x e = (k, e)
has_behind (y ∷ more) l k x e = let t = has_behind more l k x e in (suc t.0, t.1)

-- what was seen stays seen
pub saw_then : (p : ℕ) (says : ℕ → Type 0) (a b c : List Note) → Saw p says a b → Grows b c → Saw p says a c
saw_then p says a b c s h = (
  s.0,
  s.1,
  (
    h.0 ++ s.2.0,
    has_behind h.0 s.2.0 s.2.1.0 (note p s.0) s.2.1.1,
    both_added a b c s.2.0 h.0 s.2.2 h.1,
  ),
)

pub then_saw : (p : ℕ) (says : ℕ → Type 0) (a b c : List Note) → Grows a b → Saw p says b c → Saw p says a c
then_saw p says a b c g s = (
  s.0,
  s.1,
  (
    s.2.0 ++ g.0,
    (s.2.1.0, at_longer s.2.0 g.0 s.2.1.0 (note p s.0) s.2.1.1),
    both_added a b c g.0 s.2.0 g.1 s.2.2,
  ),
)

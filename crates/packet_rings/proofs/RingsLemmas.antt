-- The laws of the least element, of a ring that it is taken out of.
use Rattle.std.proofs.Common.{◌≡◌, ℕ, Bool, false, not, Option, Some, None, ◌∙◌, ap}
use Rattle.std.specs.Prelude.{◌↔◌, IfSome, IfNone, IsNone}
use Rattle.std.specs.List.{list_any, filter}
use Rattle.rpc_base.specs.Least.{least, without_least}
use Rattle.circular_buffer.specs.Buffer.{Buffer, buffer}
use Rattle.packet_rings.specs.Rings.{Ring, ring}
use Rattle.rpc_base.proofs.LeastLemmas.{LeastOut, least-out, least-none, least-same, least-others}

-- the same of a ring whose least element is taken out
pub ring-out : {A : Type 0} (passes : A → Bool) (number : A → ℕ) (old new : Buffer A)
    (seen : Ring A) (r : Option A) → ring old.items old.capacity ≡ seen
    → r ≡ least passes number old.items
    → new ≡ buffer (without_least passes number old.items) old.capacity
    → IfSome r (λ e. LeastOut passes number e seen.items new.items)
ring-out passes number old new seen r v h l = rw (← v, l) (least-out passes number old.items r h)

pub ring-none : {A : Type 0} (passes : A → Bool) (number : A → ℕ) (old : Buffer A) (seen : Ring A)
    (r : Option A) → ring old.items old.capacity ≡ seen → r ≡ least passes number old.items
    → IsNone r ↔ (list_any passes seen.items ≡ false)
ring-none passes number old seen r v h = rw (← v, h) (least-none passes number old.items)

pub ring-others : {A : Type 0} (passes : A → Bool) (number : A → ℕ) (old new : Buffer A)
    (seen : Ring A) → ring old.items old.capacity ≡ seen
    → new ≡ buffer (without_least passes number old.items) old.capacity
    → filter (λ x. not (passes x)) new.items ≡ filter (λ x. not (passes x)) seen.items
ring-others passes number old new seen v l = rw (← v, l) (least-others passes number old.items)

same-mapped : {A : Type 0} (r : Option A) (P Q : Type 0) → (P → Q) → IfNone r P → IfNone r Q
same-mapped None P Q f h = f h
same-mapped (Some e) P Q f h = tt

pub ring-same : {A : Type 0} (passes : A → Bool) (number : A → ℕ) (old new : Buffer A)
    (seen : Ring A) (r : Option A) → ring old.items old.capacity ≡ seen
    → r ≡ least passes number old.items
    → new ≡ buffer (without_least passes number old.items) old.capacity
    → IfNone r (ring new.items new.capacity ≡ seen)
ring-same passes number old new seen r v h l =
    same-mapped r _ _ (λ (e : without_least passes number old.items ≡ old.items). ap
    (λ b. ring b.items b.capacity) l ∙ ap (λ xs. ring xs old.capacity) e ∙ v)
    (least-same passes number old.items r h)

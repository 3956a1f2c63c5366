-- What the facts of a poll tell of want: a link that neither failed nor was busy leaves no packet, so
-- memory was refused.
use Rattle.std.proofs.Common.{◌≡◌, ◌+◌, ◌≤◌, ◌||◌, ℕ, Bool, true, false, cond, List, [], ◌∷◌, arith, refl}
use Rattle.std.specs.List.{list_any}
use Rattle.node_steps.specs.Lacks.{is_lack, lacks_in}
use Rattle.node_steps.specs.Links.{HeldBack, Troubles, is_unsent, unsent_in}
use Rattle.memory_count.specs.Faults.{HasRisen, HasRisenBy}
use Rattle.rpc_base.proofs.FirstLemmas.{counted-cons}
use Rattle.rpc_base.specs.declared.event.Event.{Event}
use Rattle.rpc_base.specs.declared.event.Event.TheVariants.{Dropped, Starved, Unsent}
use Rattle.rpc_base.specs.declared.fact.Fact.{Fact}
use Rattle.rpc_base.specs.declared.state.DropReason.{DropReason}
use Rattle.rpc_base.specs.declared.state.DropReason.TheVariants.{NoMemory}
use Rattle.sim_script.specs.FollowsScript.{is_wanting}

drop-counts : (why : DropReason) → is_wanting (Dropped why) ≡ true
    → 1 ≤ cond (is_unsent (Dropped why)) 1 0 + cond (is_lack (Dropped why)) 1 0
drop-counts NoMemory h = omega arith
drop-counts _ h = cc

want-counts : (e : Event) → is_wanting e ≡ true
    → 1 ≤ cond (is_unsent e) 1 0 + cond (is_lack e) 1 0
want-counts (Unsent peer) h = omega arith
want-counts (Starved peer client credits) h = omega arith
want-counts (Dropped why) h = drop-counts why h
want-counts _ h = cc

wants-by : (f : Fact) (x : List Fact) (b : Bool) → is_wanting f.event ≡ b
    → (list_any (λ f. is_wanting f.event) x ≡ true → 1 ≤ unsent_in x + lacks_in x)
    → (b || list_any (λ f. is_wanting f.event) x) ≡ true
    → 1 ≤ unsent_in (f ∷ x) + lacks_in (f ∷ x)
wants-by f x true e rest h =
    let here = want-counts f.event e in
    let a = counted-cons (λ (g : Fact). is_unsent g.event) f x (is_unsent f.event) refl in
    let b = counted-cons (λ (g : Fact). is_lack g.event) f x (is_lack f.event) refl in
    omega (arith, here, a, b)
wants-by f x false e rest h =
    let more = rest h in
    let a = counted-cons (λ (g : Fact). is_unsent g.event) f x (is_unsent f.event) refl in
    let b = counted-cons (λ (g : Fact). is_lack g.event) f x (is_lack f.event) refl in
    omega (arith, more, a, b)

wants-count : (x : List Fact) → list_any (λ f. is_wanting f.event) x ≡ true
    → 1 ≤ unsent_in x + lacks_in x
wants-count [] h = cc
wants-count (f ∷ x) h =
    wants-by f x (is_wanting f.event) refl (λ rest. wants-count x rest) h

none-held : (n : ℕ) (from to : Troubles) → HeldBack n from to → to.faults ≡ 0 → to.busies ≡ 0
    → n ≡ 0
none-held n from to h none idle =
    omega (arith, h.parts, h.faults.rose, h.busies.rose, none, idle)

-- so want of which the facts tell is of memory
pub wanted-risen : (x : List Fact) (left m n : ℕ) (from to : Troubles)
    → HeldBack (unsent_in x + left) from to → to.faults ≡ 0 → to.busies ≡ 0
    → HasRisenBy (lacks_in x) m n → list_any (λ f. is_wanting f.event) x ≡ true → HasRisen m n
wanted-risen x left m n from to held none idle wants told =
    let some = wants-count x told in
    let unheld = none-held (unsent_in x + left) from to held none idle in
    let less = wants.no_less in
    let rose = wants.rose in
    record { no_less = less; rose = omega (arith, some, unheld, rose) }

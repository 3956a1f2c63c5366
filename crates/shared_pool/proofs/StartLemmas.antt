-- A new pool keeps the rule.
use Rattle.std.proofs.Common.{◌≡◌, ℕ, zero, suc, ◌<◌, List, [], ◌∷◌, map, length, get_or}
use Rattle.std.proofs.Common.{sym, refl, ap, ◌∙◌, subst, arith, suc-ne-zero}
use mathlib.Core.Option.{some, some-injective, some-ne-none}
use lib.ListN.{get_elem?, length-map}
use Rattle.std.specs.Prelude.{Some, None}
use Rattle.std.specs.List.{All}
use Rattle.rpc_base.proofs.TotalsLemmas.{only-other}
use Rattle.atomic_table.specs.Table.{opening}
use Rattle.shared_pool.specs.declared.view.View.{View}
use Rattle.shared_pool.specs.Rule.{Slot, IsFilled, HasBuffer, PoolLaw, home, fresh}

at_home : (capacity : ℕ) (xs : List Slot) (p : ℕ) → p < length xs → IsFilled capacity (get_or xs p None)
    → HasBuffer capacity (get_elem? (map some xs) p)
at_home capacity [] p near f = absurd (omega arith)
at_home capacity (None ∷ xs) zero near f = absurd f
at_home capacity (Some b ∷ xs) zero near f = (b, refl, f)
at_home capacity (x ∷ xs) (suc p) near f = at_home capacity xs p (omega arith) f

alone : (d v : View) (j : ℕ) → get_elem? (d ∷ []) j ≡ some v → d ≡ v
alone d v zero e = some-injective d v e
alone d v (suc j) e = absurd (some-ne-none v (sym e))

pub starts : (capacity : ℕ) (ws : List ℕ) (xs : List Slot) → length ws ≡ length xs
    → ((i : ℕ) → i < length xs → get_or ws i 0 ≡ 0) → All (IsFilled capacity) xs
    → PoolLaw capacity (opening ws xs (fresh capacity))
starts capacity ws xs wide zeros full = let long : length (map some xs) ≡ length xs = length-map xs some in let d : View = fresh capacity in
    record {
      wide = wide ∙ sym long;
      places = λ p h. let near : p < length xs = omega arith in let nobody = only-other (suc p) 0 (λ e. suc-ne-zero p (sym e)) in record {
        generation = 0;
        where_is = home;
        word_is = zeros p near;
        most = omega (arith, zeros p near);
        stands = (at_home capacity xs p near (full p None near), omega (arith, nobody));
        held = refl;
        lent = λ g. ((λ below. absurd (omega arith)), λ _. refl);
        back = λ g. ((λ below. absurd (omega arith)), λ _. refl);
      };
      seen = λ j k v x e at. absurd (some-ne-none x (sym (subst (λ (y : View). get_elem? y.notes k ≡ some x) (sym (alone d v j e)) at)));
      loans = λ j k v l e at. absurd (some-ne-none l (sym (subst (λ (y : View). get_elem? y.held k ≡ some l) (sym (alone d v j e)) at)));
      entitled = λ j p v e on. absurd (suc-ne-zero p (sym on ∙ ap (λ (x : View). x.turn) (sym (alone d v j e))));
    }

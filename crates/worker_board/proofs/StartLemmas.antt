-- A new board keeps the rule.
use Rattle.std.proofs.Common.{◌≡◌, ℕ, zero, suc, ◌<◌, List, [], ◌∷◌, map, length, get_or, replicate}
use Rattle.std.proofs.Common.{sym, refl, ap, ◌∙◌, subst, arith, suc-ne-zero}
use mathlib.Core.Option.{some, some-injective, some-ne-none}
use lib.ListN.{get_elem?, length-map, length-replicate}
use Rattle.std.proofs.lemmas.List.{get_or-replicate}
use Rattle.std.specs.Prelude.{None}
use Rattle.rpc_base.proofs.TotalsLemmas.{only-other}
use Rattle.atomic_table.specs.Table.{opening}
use Rattle.worker_board.specs.declared.view.Offer.{Offer}
use Rattle.worker_board.specs.declared.view.View.{View}
use Rattle.worker_board.specs.Word.{closed}
use Rattle.worker_board.specs.Rule.{Slot, Answer, PlaceLaw, BoardLaw, first_view}

blank : (n i : ℕ) → i < n → get_elem? (map some (replicate {A = Slot} n None)) i ≡ some (some None)
blank zero i near = absurd (omega arith)
blank (suc n) zero near = refl
blank (suc n) (suc i) near = blank n i (omega arith)

alone : (d v : View) (j : ℕ) → get_elem? (d ∷ []) j ≡ some v → (j ≡ 0) × (d ≡ v)
alone d v zero e = (refl, some-injective d v e)
alone d v (suc j) e = absurd (some-ne-none v (sym e))

module _ (answer : Answer) where
  pub starts : (ws : List ℕ) (n : ℕ) → length ws ≡ n → ((i : ℕ) → i < n → get_or ws i 0 ≡ 0)
      → BoardLaw answer (opening ws (replicate n None) (first_view n))
  starts ws n wide zeros = let xs : List Slot = replicate n None in let long : length (map some xs) ≡ n = length-map xs some ∙ length-replicate n None in let d : View = first_view n in
      record {
        dispatcher = d;
        first = refl;
        dispatches = refl;
        one_dispatcher = λ j v e is. (alone d v j e).0;
        wide = wide ∙ sym long;
        long = length-replicate n [] ∙ sym long;
        places = λ p h. let near : p < n = omega arith in subst (λ (l : List Offer). PlaceLaw answer p (get_or ws p 0) (get_elem? (map some xs) p) (d ∷ []) l) (sym (get_or-replicate n p [] [] near)) record {
          phase = closed;
          word_is = zeros p near;
          stands = (
            tt,
            (
              (λ _. blank n p near),
              (λ z. absurd (omega (arith, only-other (suc p) 0 (λ e. suc-ne-zero p (sym e))))),
              omega (arith, only-other (suc p) 0 (λ e. suc-ne-zero p (sym e))),
            ),
          );
          held = refl;
          run = λ g. refl;
          past = tt;
        };
        seen = λ j k v x e at. let same = (alone d v j e).1 in absurd (some-ne-none x (sym (subst (λ (y : View). get_elem? y.notes k ≡ some x) (sym same) at)));
        claims = λ j k v c e at. let same = (alone d v j e).1 in absurd (some-ne-none c (sym (subst (λ (x : View). get_elem? x.held k ≡ some c) (sym same) at)));
        entitled = λ j p v e on. let same = (alone d v j e).1 in absurd (suc-ne-zero p (sym on ∙ ap (λ (x : View). x.turn) (sym same)));
        lost = λ k t e. absurd (some-ne-none t (sym e));
        hands = λ m. refl;
        once = λ m. (omega arith, omega arith);
      }

-- Bytes that are an answer of the plain duty.
use Rattle.std.proofs.Common.{◌≡◌, ◌≢◌, ℕ, ◌-◌, ◌%◌, ◌<◌, List, length, reverse, refl, sym, ap, ◌∙◌, arith}
use Rattle.std.specs.Prelude.{slice_index}
use Rattle.std.proofs.lemmas.Grind.{same_number_lists}
use Rattle.std.proofs.lemmas.List.{get_or-reverse, length-reverse}
use Rattle.std.proofs.lemmas.List.FromFn.{get_or-map-range_with_len}
use Rattle.rpc_outside.specs.PlainAnswer.{counted, fill}
use Rattle.rpc_outside.proofs.Filling.{counts-up, fill-counted}

pub backwards_yes : (ask out : List ℕ) → length out ≡ length ask
    → ((k : ℕ) → k < length out → slice_index out k ≡ slice_index ask (length ask - 1 - k)) → out ≡ reverse ask
backwards_yes ask out e h =
    same_number_lists out (reverse ask) (e ∙ sym (length-reverse ask))
    (λ k l. h k l ∙ sym (get_or-reverse ask k 0 (omega arith)))

pub backwards_no : (ask out : List ℕ) (k : ℕ) → length out ≡ length ask → k < length out
    → slice_index out k ≢ slice_index ask (length ask - 1 - k) → out ≢ reverse ask
backwards_no ask out k e l not is = not (ap (λ (xs : List ℕ). slice_index xs k) is ∙ get_or-reverse ask k 0 (omega arith))

pub backwards_long : (ask out : List ℕ) → length out ≢ length ask → out ≢ reverse ask
backwards_long ask out not is = not (ap length is ∙ length-reverse ask)

pub counts_no : (out : List ℕ) (k : ℕ) → k < length out → slice_index out k ≢ k % 256 → out ≢ counted (length out)
counts_no out k l not is =
    not (ap (λ (xs : List ℕ). slice_index xs k) is ∙ get_or-map-range_with_len (λ j. j % 256) 0 (length out) k k 0 l (omega arith))

pub fill_yes : (ask out : List ℕ) → length out ≡ length (fill ask) → out ≡ counted (length out) → out ≡ fill ask
fill_yes ask out e h = h ∙ ap counted e ∙ fill-counted ask

pub fill_counts : (ask out : List ℕ) → out ≡ fill ask → out ≡ counted (length out)
fill_counts ask out e = e ∙ sym (fill-counted ask) ∙ ap counted (ap length (sym e))

pub counts_yes : (out : List ℕ) → ((k : ℕ) → k < length out → slice_index out k ≡ k % 256) → out ≡ counted (length out)
counts_yes out h = counts-up out (length out) refl h

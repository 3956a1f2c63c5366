-- An answer is written over the message of a buffer, which is as long as it.
use Rattle.std.proofs.Common.{◌≡◌, ◌+◌, ℕ, true, List, Some, length, drop, ap, ◌∙◌}
use Rattle.std.proofs.Common.{arith}
use Rattle.std.proofs.lemmas.List.{length-append, length-drop}
use Rattle.message_buffer.specs.Buffer.{Buffer, bytes_of, capacity_of, written}
use Rattle.message_buffer.specs.Lending.{rewritten}
use Rattle.message_buffer.specs.Messages.{HasSize}
use Rattle.message_buffer.proofs.LendingLemmas.{bytes-rewritten, rewritten-fits}
use Rattle.server_core.specs.Homes.{HasOwn}

module _ (answer : List ℕ) (b : Buffer) (size : ℕ) (sized : HasSize size (Some b))
    (long : length answer ≡ size) where
  is : rewritten answer b ≡ written 0 answer b
  is = rewritten-fits answer b (omega (arith, sized.1, long))

  over : capacity_of (written 0 answer b) ≡ capacity_of b
  over =
      omega (
        arith,
        length-append answer (drop (0 + length answer) b.store),
        length-drop (0 + length answer) b.store,
        sized.1,
        long,
      )

  capacity : capacity_of (rewritten answer b) ≡ capacity_of b
  capacity = ap capacity_of is ∙ over

  pub served-size : HasSize size (Some (rewritten answer b))
  served-size = (ap (λ x. x.len) is ∙ sized.0, omega (arith, capacity, sized.1))

  pub served-own : HasOwn true (Some b) → HasOwn true (Some (rewritten answer b))
  served-own own = capacity ∙ own

  pub served-bytes : bytes_of (rewritten answer b) ≡ answer
  served-bytes =
      bytes-rewritten answer b (omega (arith, long, sized.0))
      (omega (arith, sized.0, sized.1))

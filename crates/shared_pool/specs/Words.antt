-- What a word shows of its place.
use Rattle.std.specs.Prelude.{◌≡◌, ℕ, ◌*◌, ◌%◌, ◌<◌, ◌≤◌, ◌⊎◌}
use Rattle.shared_pool.specs.declared.word.TheConstants.{MOST_LOANS}

-- the buffer is at home, and may be lent once more
abbrev pub MayBeLent : ℕ → Type 0
MayBeLent w = (w % 2 ≡ 0) × (w < 2 * MOST_LOANS)

-- the buffer is out, or was lent as often as it may be
abbrev pub MayNotBeLent : ℕ → Type 0
MayNotBeLent w = (w % 2 ≡ 1) ⊎ (2 * MOST_LOANS ≤ w)

-- What names an offer.
use Rattle.std.specs.Prelude.{ℕ}

-- an offer is named by its place, and by its number among the place's offers, counted from 0
pub record OfferNo : Type 0 where
  pub place : ℕ
  pub generation : ℕ

abbrev pub offer_no : ℕ → ℕ → OfferNo
offer_no p g = record { place = p; generation = g }

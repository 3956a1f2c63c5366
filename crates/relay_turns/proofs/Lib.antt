pub mod EndLemmas
pub mod GaveLemmas
pub mod KeepLemmas
pub mod PassingLemmas
pub mod TurnLemmas

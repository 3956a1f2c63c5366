pub mod RowLemmas
pub mod DatagramLemmas
pub mod NextLemmas

pub mod BlockLemmas
pub mod LendingLemmas
pub mod MadeLemmas
pub mod MessageLemmas

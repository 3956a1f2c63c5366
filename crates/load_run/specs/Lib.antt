pub mod Loading
pub mod Tallies

pub mod Aims
pub mod Callers
pub mod Counts
pub mod Tallies

pub mod CheckedLemmas
pub mod FrontLemmas
pub mod LawfulLemmas
pub mod OwnComplete
pub mod OwnSound
pub mod ToldLemmas

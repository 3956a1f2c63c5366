pub mod DeskLemmas
pub mod OutLemmas
pub mod FitsLemmas
pub mod LawLemmas

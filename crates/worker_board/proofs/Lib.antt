pub mod CountsLemmas
pub mod WordLemmas
pub mod FrameLemmas
pub mod DispatcherLemmas
pub mod HandLemmas
pub mod SeatsLemmas
pub mod StartLemmas
pub mod NotesLemmas

pub mod CountsLemmas
pub mod FrameLemmas
pub mod StepLemmas
pub mod NotesLemmas
pub mod SeatsLemmas
pub mod StartLemmas
pub mod TriesLemmas
pub mod PromisesLemmas

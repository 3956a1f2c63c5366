pub mod ControlLemmas
pub mod NotedLemmas

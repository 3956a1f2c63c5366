pub mod MentionsLemmas
pub mod RingsLemmas
pub mod TurningLemmas

pub mod AskLemmas
pub mod PassLemmas

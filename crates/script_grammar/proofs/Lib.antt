pub mod AskLemmas
pub mod CappedLemmas
pub mod LineLemmas
pub mod ReaderLemmas
pub mod ScriptLemmas
pub mod SplitLemmas
pub mod WordLemmas

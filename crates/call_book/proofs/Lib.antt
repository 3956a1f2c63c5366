mod BookLemmas
pub mod EachLemmas
mod NextLemmas
mod OrLemmas

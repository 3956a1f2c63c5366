mod AuditorLemmas
mod CalmLemmas
mod FairLemmas
mod LifeLemmas
mod LivesLemmas
mod NetLemmas
mod NodesLemmas
mod PollLemmas
mod ReadingLemmas
pub mod VerdictLemmas

mod FinishLemmas
mod FlushLemmas
pub mod FrontLemmas
pub mod HandlingLemmas
mod HeadLemmas
mod PutLemmas
mod RetryLemmas
mod SaysLemmas
mod SpeakingLemmas
mod WatchLemmas

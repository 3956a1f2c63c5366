mod WalkLemmas
mod WheelLemmas
pub mod DueLemmas
mod MergeLemmas
mod ChainLemmas
mod PushLemmas
mod PopLemmas
mod DialLemmas
mod TurningLemmas

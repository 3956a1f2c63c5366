pub mod BucketLemmas
pub mod TimeLemmas

pub mod EndOrderLemmas
pub mod JoinLemmas
pub mod LeastMapLemmas
pub mod ListLemmas
pub mod SearchLemmas
pub mod SideLemmas

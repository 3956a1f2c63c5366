pub mod CountLemmas
pub mod CountingLemmas
pub mod LowestLemmas
pub mod PlacesLemmas
pub mod PoolLemmas
pub mod TreeLemmas
pub mod UsesLemmas

pub mod CalmRing
pub mod PairsOnce

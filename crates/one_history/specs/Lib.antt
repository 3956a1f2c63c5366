pub mod NetFacts
pub mod OneHistory
pub mod RunsTold

pub mod Control
pub mod Refusals

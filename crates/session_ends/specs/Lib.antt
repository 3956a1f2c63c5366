pub mod Effects
pub mod EndOrder
pub mod Joined
pub mod Sides
pub mod Stages

pub mod Arrival
pub mod Copies
pub mod Drawing
pub mod Tracks

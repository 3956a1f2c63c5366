pub mod Desks
pub mod Moves
pub mod Law

pub mod Counts
pub mod Moves
pub mod Rows
pub mod Rule
pub mod Seats
pub mod Stepping
pub mod Tickets
pub mod Word

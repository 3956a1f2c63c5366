pub mod Words
pub mod Loans
pub mod Counts
pub mod Rule
pub mod Promises
pub mod Moves
pub mod Seats

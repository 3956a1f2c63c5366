pub mod Answers
pub mod Args
pub mod Numbers
pub mod Rows
pub mod Subcommands
pub mod Tasks
pub mod Terms
pub mod Words

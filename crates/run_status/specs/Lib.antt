pub mod Codes
pub mod Starting
pub mod Words

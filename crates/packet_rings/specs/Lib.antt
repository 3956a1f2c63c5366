pub mod Entries
pub mod Mentions
pub mod Rings
pub mod Still
pub mod Values

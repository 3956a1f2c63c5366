pub mod Names
pub mod Page
pub mod Ranges
pub mod Shape
pub mod Text
pub mod Told

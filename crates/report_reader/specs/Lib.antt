pub mod Facts
pub mod Lines
pub mod Ranges
pub mod Reading
pub mod Telling
pub mod Words

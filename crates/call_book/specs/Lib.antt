pub mod Kept
pub mod Requests
pub mod Shelf
pub mod SoFar
pub mod Tells

pub mod Header
pub mod Kinds
pub mod Laws
pub mod Parts
pub mod Ranges
pub mod Reading
pub mod Refusals

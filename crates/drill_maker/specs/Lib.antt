pub mod Draft
pub mod Draws
pub mod Drill

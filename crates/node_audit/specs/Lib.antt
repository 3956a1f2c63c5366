pub mod Course
pub mod Groups
pub mod Handled
pub mod Kept
pub mod Steady
pub mod Worked

pub mod Answered
pub mod Before
pub mod Logged
pub mod Peers
pub mod Performed
pub mod Standing
pub mod Worked

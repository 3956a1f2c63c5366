pub mod Handling
pub mod Polling
pub mod Resting
pub mod Sending
pub mod Steps

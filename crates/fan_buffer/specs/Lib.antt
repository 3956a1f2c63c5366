pub mod Fans
pub mod Readings

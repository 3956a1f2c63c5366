pub mod Least
pub mod Lends
pub mod Limits
pub mod Owners
pub mod Tables
pub mod Taking
pub mod Totals

pub mod Caused
pub mod NoStall
pub mod Settled

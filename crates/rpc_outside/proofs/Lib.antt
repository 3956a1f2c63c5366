pub mod Filling
pub mod Moving
pub mod Printing
pub mod Ticking

pub mod Counting
pub mod Places
pub mod Pool
pub mod Tree
pub mod Uses
pub mod Lending

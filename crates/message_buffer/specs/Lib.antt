pub mod Block
pub mod Buffer
pub mod Lending
pub mod Messages

pub mod Noted
pub mod SingleFacts

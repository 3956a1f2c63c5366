pub mod EventWords
pub mod Items
pub mod LineWords
pub mod Putting
pub mod Telling
pub mod WordsBack

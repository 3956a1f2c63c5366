pub mod Checked
pub mod Lawful
pub mod Laws
pub mod OwnTold
pub mod Told

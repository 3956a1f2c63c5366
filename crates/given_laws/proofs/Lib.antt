pub mod GivenLemmas
mod HearStill
pub mod RowGives

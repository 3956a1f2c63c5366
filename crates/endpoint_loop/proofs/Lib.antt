mod PollControl
pub mod PollCrew
pub mod PollLaw
pub mod StandingLaw
mod StandingLoan
pub mod StandingSessions
pub mod TurnLaw

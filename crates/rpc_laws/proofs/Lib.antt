pub mod AnswerLemmas
pub mod BegunLemmas
mod CallsLemmas
pub mod ControlRows
pub mod PacingRows
pub mod PollLemmas
pub mod PartsLemmas
pub mod QueuesLemmas
pub mod ReadyLemmas
pub mod RunLemmas
pub mod ServerRows

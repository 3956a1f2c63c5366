pub mod FilterLemmas
pub mod HistoryLemmas
pub mod NameLemmas
pub mod PollLaws
pub mod StayLaws
pub mod WorkLaws

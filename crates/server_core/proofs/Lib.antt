mod AgainLemmas
mod BeginLemmas
mod ChangedLemmas
mod GivenLemmas
mod HandlingLemmas
mod HoldBeginLemmas
mod HoldStepLemmas
mod HomeLemmas
mod LackLemmas
mod ListLemmas
mod OtherLemmas
mod PartLemmas
mod PlaceLemmas
mod PoolLemmas
mod RecountLemmas
mod ReplyLemmas
mod RowLemmas
mod ServedLemmas
mod ShortLemmas
mod SlotLemmas
mod StaysLemmas
mod TakeLemmas
mod WorkedLemmas
pub mod AskedLemmas
pub mod CountLemmas
pub mod FlushLemmas
pub mod FoundLemmas
pub mod HoldLemmas
pub mod NoteLemmas
pub mod QueuedLemmas
pub mod SpareLemmas
pub mod StepLemmas
pub mod TableLemmas

mod AnswerLemmas
mod CallLemmas
pub mod CallsLemmas
pub mod CountLemmas
mod CreditLemmas
pub mod EndedLemmas
pub mod EntryLemmas
pub mod HandingLemmas
mod LostLemmas
pub mod OneCallLemmas
pub mod OthersLemmas
pub mod OutcomeLemmas
mod PacketLemmas
mod PartLemmas
pub mod PlacesLemmas
pub mod PoolLemmas
pub mod QueuedLemmas
pub mod RollLemmas
mod SentLemmas
pub mod SessionLemmas
pub mod ShownLemmas
mod TakenLemmas

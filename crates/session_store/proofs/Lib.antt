mod ActLemmas
pub mod AscendsLemmas
mod BesideLemmas
mod ChangesLemmas
mod EndLemmas
mod EndingLemmas
mod GoneLemmas
mod KeptLemmas
mod HandingLemmas
pub mod CountLemmas
mod PutLemmas
mod UndueLemmas
mod HandledLemmas
mod SizeLemmas
mod PlaceLemmas
mod PostedLemmas
pub mod StageLemmas
pub mod StandLemmas
mod StoreLemmas
mod TimerLemmas
mod ReplyGoneLemmas
mod FrontLemmas
mod AskLemmas
mod FlushLemmas
mod UnheldLemmas
mod ReplyLemmas
mod RollLemmas
mod LoseLemmas
mod MovedLemmas
mod FinishLemmas
pub mod ServeLemmas
mod ReadLemmas
mod NewestLemmas
mod ShareLemmas
mod WayLemmas
mod RoomLemmas

pub mod CrewLemmas
pub mod FreeLemmas
pub mod LeavingLemmas
pub mod LocalLemmas
pub mod OutLemmas
pub mod PlacesLemmas
pub mod RoomLemmas
pub mod TicketLemmas

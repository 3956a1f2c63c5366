pub mod EventLemmas
mod FactLemmas
mod HexLemmas
mod LineLemmas
mod NumberLemmas
mod OctetLemmas
pub mod OneLine
mod ReadLemmas
pub mod ReportLemmas
mod TellingLemmas
mod WordLemmas

pub mod AuditLemmas
pub mod Headline
pub mod ReadingLemmas
pub mod RunLemmas
pub mod ServerLemmas

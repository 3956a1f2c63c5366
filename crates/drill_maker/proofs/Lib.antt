pub mod DraftLemmas
pub mod DrillLemmas

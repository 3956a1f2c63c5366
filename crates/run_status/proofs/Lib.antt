pub mod LackLemmas

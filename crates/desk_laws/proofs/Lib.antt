pub mod StandLemmas

mod CountedLemmas
mod RightLemmas

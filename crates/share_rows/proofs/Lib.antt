mod TryLemmas

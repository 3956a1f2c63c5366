mod ArrivalLemmas
mod DrawLemmas
mod JoinLemmas
mod SideLemmas

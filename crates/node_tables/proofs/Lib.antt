mod ActiveLemmas
mod JobLemmas
mod PaceLemmas
mod PutLemmas

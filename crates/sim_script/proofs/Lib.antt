pub mod FollowsLemmas

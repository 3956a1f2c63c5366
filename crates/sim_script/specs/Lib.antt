pub mod FollowsScript

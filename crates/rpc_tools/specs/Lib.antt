pub mod Alone
pub mod Audits
pub mod Drills
pub mod Outcomes
pub mod Runs
pub mod Servers

pub mod Genuine
pub mod Handshakes
pub mod JointRun
pub mod Kinds
pub mod Moments
pub mod TwoEnds
pub mod TwoNodes
pub mod WireRun

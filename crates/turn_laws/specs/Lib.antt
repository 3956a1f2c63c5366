pub mod Deeds
pub mod Endpoints
pub mod Joining
pub mod Pairs
pub mod Systems
pub mod Wires

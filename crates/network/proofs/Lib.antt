pub mod Split
pub mod Walk
pub mod Walker
pub mod Nodes

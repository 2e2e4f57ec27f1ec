pub mod Feed
pub mod Drain
pub mod Advance
pub mod Lent
pub mod Tallies
pub mod Hosts

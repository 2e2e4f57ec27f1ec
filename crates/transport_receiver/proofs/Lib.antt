pub mod Pool
pub mod Refines
pub mod Handed
pub mod Cases

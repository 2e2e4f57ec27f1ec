pub mod Address
pub mod Handed

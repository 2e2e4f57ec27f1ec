pub mod Reached
pub mod Source
pub mod Looks

pub mod Reached
pub mod Source
pub mod Once
pub mod Looks

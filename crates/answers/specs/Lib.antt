pub mod Barred
pub mod Counters
pub mod Places
pub mod Refusals
pub mod Stored
pub mod Types

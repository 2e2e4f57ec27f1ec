pub mod State
pub mod Lent
pub mod Step
pub mod Handed

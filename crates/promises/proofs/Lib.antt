pub mod Ledgers
pub mod Determined
pub mod Walked
pub mod Marked

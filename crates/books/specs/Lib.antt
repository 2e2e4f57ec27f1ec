pub mod Stands
pub mod Ledgers
pub mod Gives
pub mod ReadBack

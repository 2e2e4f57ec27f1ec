pub mod Written
pub mod Commands
pub mod Told
pub mod Fit
pub mod Saying

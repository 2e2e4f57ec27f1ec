pub mod Tally
pub mod Frames
pub mod Step
pub mod Numbered

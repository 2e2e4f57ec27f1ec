pub mod Writes
pub mod Body
pub mod Answers

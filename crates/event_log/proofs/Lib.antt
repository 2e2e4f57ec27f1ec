pub mod Areas
pub mod Writes
pub mod Came
pub mod Every
pub mod Answered
pub mod Log
pub mod Run
pub mod Cases

pub mod Status
pub mod Number
pub mod Marked
pub mod Response

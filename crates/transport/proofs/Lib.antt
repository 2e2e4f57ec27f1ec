pub mod Status
pub mod Marked
pub mod Response

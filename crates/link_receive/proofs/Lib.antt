pub mod Rules
pub mod Turns
pub mod Steps
pub mod Frames
pub mod Numbers

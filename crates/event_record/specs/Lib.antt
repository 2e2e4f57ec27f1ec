pub mod Layout
pub mod Event
pub mod Handed

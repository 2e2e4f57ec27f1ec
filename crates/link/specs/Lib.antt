pub mod Wire
pub mod Handed

pub mod Bytes
pub mod Handed
pub mod Numbers
pub mod Wrap

pub mod Escapes
pub mod Handed

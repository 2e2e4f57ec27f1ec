pub mod Numbers
pub mod Soundness
pub mod Places
pub mod Log

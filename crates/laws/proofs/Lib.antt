pub mod Table
pub mod Bits
pub mod Lay
pub mod Bytes
pub mod Linear
pub mod Cases
pub mod Numbers

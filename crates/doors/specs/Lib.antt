pub mod Numbered
pub mod Addresses
pub mod Packets
pub mod Receivers
pub mod Dispatch
pub mod Slots
pub mod Nodes

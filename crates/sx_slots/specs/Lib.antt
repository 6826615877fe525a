pub mod Mixed
pub mod Slots

pub mod Reached
pub mod Kinds
pub mod FileTable
pub mod Opened
pub mod Turns
pub mod Laws

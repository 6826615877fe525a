pub mod Limits
pub mod Fronts
pub mod Replay
pub mod Machine
pub mod Reader
pub mod Following
pub mod Problem
pub mod Laws

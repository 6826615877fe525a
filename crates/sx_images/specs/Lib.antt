pub mod Images
pub mod Nodes
pub mod Lowered
pub mod Laws

pub mod Meaning
pub mod Kinds
pub mod Rows
pub mod Shown
pub mod Preorder
pub mod Standing
pub mod Laws

pub mod RowLaws
pub mod ShownNodes
pub mod OneNode
pub mod ProofNodes
pub mod Carrying
pub mod NodeLaws
pub mod ListNodes

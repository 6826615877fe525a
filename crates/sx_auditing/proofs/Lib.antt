pub mod Once
pub mod NodesOnce
pub mod ShowsOnce
pub mod Denied
pub mod Names
pub mod Sets
pub mod Listed
pub mod TextsPut

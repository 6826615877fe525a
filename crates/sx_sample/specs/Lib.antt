pub mod Samples
pub mod Holding
pub mod Summaries
pub mod Laws

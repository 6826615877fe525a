pub mod SampleSteps
pub mod Found
pub mod Sampled
pub mod Laws

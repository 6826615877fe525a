pub mod Terms
pub mod Derived
pub mod Lowered
pub mod Grown

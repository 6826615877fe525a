pub mod Adding
pub mod Walking
pub mod Shapes
pub mod Literals
pub mod Good
pub mod Cutting
pub mod Fitting
pub mod Sorting

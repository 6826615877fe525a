pub mod StepsOn
pub mod Ones
pub mod Related
pub mod Units
pub mod Quiet
pub mod TypeErrors

pub mod FoundModules
pub mod Promise
pub mod Agreeing
pub mod TypeErrors
pub mod FewTries

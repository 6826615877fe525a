pub mod MadeFiles
mod Finding
mod Imported
mod Recalled
mod Ordered
mod MakingOn
mod Languages
mod Once
mod ReadAgain
mod MadeInOrder
mod Turns
pub mod Promise
pub mod Agreeing
pub mod TypeErrors
pub mod Counted
pub mod NamedModules
pub mod Headlines
mod Denying

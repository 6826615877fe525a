pub mod Headers
pub mod Walks
pub mod Agreeing
pub mod Coming
pub mod Lasting
pub mod TypeErrors

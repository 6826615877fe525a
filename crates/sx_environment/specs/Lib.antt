pub mod SeenFrom
pub mod Seen
pub mod Environments
pub mod BaseEnvironment
pub mod ImportErrors
pub mod Alike

pub mod ReadImport
pub mod ReadModules
pub mod ModuleKind
pub mod Closures
pub mod Laws

pub mod MadeModules
pub mod BuildModules
pub mod Buildings
pub mod Remembering
pub mod BuiltModules
pub mod Denied
pub mod Laws

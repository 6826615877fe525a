pub mod Imports
pub mod AuditedPlans
pub mod CompileModule
pub mod Found
pub mod CompiledModule
pub mod Denied
pub mod Laws

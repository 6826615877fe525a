pub mod ModuleFiles
pub mod HeaderStops
pub mod ReadModule
pub mod ReadInterface
pub mod HeaderRows
pub mod FreeImports
pub mod TextStops

pub mod ExtensionFile
pub mod ReadExtension
pub mod ReadUses
pub mod ExtensionKind
pub mod Laws
